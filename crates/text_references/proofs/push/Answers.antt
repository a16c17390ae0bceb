use Rattle.std.specs.Prelude.{◌+◌, ◌∷◌, []}
use mathlib.Core.Path.{sym, subst}
use lib.ListN.{set}
use Rattle.text_references.proofs.Laws.{pushed, not_pushed}
use Rattle.text_references.specs.Asks.{Listed, slot_of}
use Rattle.text_references.specs.declared.Slot as Code
use Rattle.text_references.proofs.push.Goals as goal

pub returns-in-Number : goal.returns-in-Number
returns-in-Number c = subst (λ (x : Code.Slot). Listed (slot_of x ∷ []) c.args.refs.now c.args.j 1 c.args.refs.now c.args.j) (sym c.in-Number.is) (not_pushed c.args.refs.now c.args.j c.in-Number.field-0)

pub returns-in-Reference : goal.returns-in-Reference
returns-in-Reference c = subst (λ (x : Code.Slot). Listed (slot_of x ∷ []) c.args.refs.now c.args.j 1 (set c.args.refs.now c.args.j c.in-Reference.r) (c.args.j + 1)) (sym c.in-Reference.is) (pushed c.args.refs.now c.args.j c.in-Reference.r c.requires)
