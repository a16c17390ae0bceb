use Rattle.std.proofs.Common.{rules, ◌∙◌}
use Rattle.words.proofs.EachCell.{any_cell}
use Rattle.words.proofs.Stands.{own_all}
use Rattle.nnf.proofs.Tags.{has_tag, some_has_tag}
use Rattle.nnf.proofs.contains_tag.Goals as goal

pub returns : goal.returns
returns c = λ e u. any_cell (has_tag c.args.tag) c.as_chunks.result.0.now c.any.result (rw (own_all c.args.e.words.now) c.as_chunks.ensures.front) (λ h. search rules) (λ h i k. search rules) e u ∙ some_has_tag c.args.tag e
