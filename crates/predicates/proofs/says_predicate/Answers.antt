use Rattle.predicates.proofs.Search.{filter_is, join_by_bit, scan_by_bit, another_isnt}
use native.Mathlib.Omega.{arith}
use mathlib.Core.Logic.{⊎_elim}
use Rattle.predicates.proofs.says_predicate.Goals as goal

pub returns-in-51 : goal.returns-in-51
returns-in-51 c = filter_is c.args.tag c.args.flag c.in-51.is

pub returns-in-56 : goal.returns-in-56
returns-in-56 c = ⊎_elim (λ z. join_by_bit c.args.tag c.args.flag (λ y. omega arith) z) (λ z. scan_by_bit c.args.tag c.args.flag (λ y. omega arith) (λ y. omega arith) z) c.in-56.is

pub returns-in_default : goal.returns-in_default
returns-in_default c = another_isnt c.args.tag c.args.flag (λ z. grind arith) (λ z. grind arith) (λ z. grind arith)
