use Rattle.nnf.proofs.Tags.{copied}
use Rattle.nnf.proofs.Steps.{nnf_other}
use Rattle.sql.specs.Expression.{into_nnf}
use Rattle.words.proofs.Stands.{stands_in}
use native.Mathlib.Omega.{arith}
use Rattle.nnf.proofs.into_nnf.Goals as goal

pub copy-requires : goal.copy-requires
copy-requires c = let (h, k) = stands_in c.args.e.stands in (omega arith, k)

pub returns : goal.returns
returns c = copied into_nnf 30 nnf_other c.contains_tag.ensures c.if-contains_tag.false c.copy.ensures
