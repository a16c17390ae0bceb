use Rattle.nnf.proofs.Tags.{copied}
use Rattle.cnf.proofs.Steps.{distribute_other}
use Rattle.sql.specs.Expression.{distribute}
use Rattle.words.proofs.Stands.{stands_in}
use native.Mathlib.Omega.{arith}
use Rattle.cnf.proofs.distribute.Goals as goal

pub copy-requires : goal.copy-requires
copy-requires c = let (h, k) = stands_in c.args.e.stands in (omega arith, k)

pub returns : goal.returns
returns c = copied distribute 11 distribute_other c.contains_tag.ensures c.if-contains_tag.false c.copy.ensures
