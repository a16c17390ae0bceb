use Rattle.std.proofs.Common.{rules}
use Rattle.predicates.proofs.Search.{searched}
use Rattle.predicates.proofs.has_predicate.Goals as goal

pub returns : goal.returns
returns c = searched c.as_chunks.result.0.now c.any.result c.as_chunks.ensures.front (λ h. search rules) (λ h i k. search rules)
