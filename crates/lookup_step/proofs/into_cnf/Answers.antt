use Rattle.lookup_step.proofs.Steps.{nnf_full, nnf_at, normal}
use Rattle.words.proofs.Stands.{own_front, stands_own, where_it_stands}
use native.Mathlib.Omega.{arith}
use mathlib.Core.Logic.{∥∥₁_map}
use mathlib.Core.Path.{sym}
use Rattle.lookup_step.proofs.into_cnf.Goals as goal

pub returns-then-z-n : goal.returns-then-z-n
returns-then-z-n c = nnf_full c.into_nnf-n.ensures c.requires.0 (omega (arith, c.requires.1)) (omega (arith, c.if-z-n.true, c.into_nnf-n.auto.d))

pub invariant_of-nnf : goal.invariant_of-nnf
invariant_of-nnf c = record { stands = stands_own (sym (own_front c.into_nnf-n.new.d c.into_nnf-n.result)) (∥∥₁_map c.args.e.stands (nnf_at c.into_nnf-n.ensures c.into_nnf-n.auto.d c.if-z-n.false)) }

pub returns : goal.returns
returns c = normal c.into_nnf-n.ensures c.requires.0 (omega (arith, c.requires.1)) c.into_nnf-n.auto.d c.if-z-n.false c.distribute.auto.d (where_it_stands (sym (own_front c.into_nnf-n.new.d c.into_nnf-n.result)) _ c.distribute.ensures)
