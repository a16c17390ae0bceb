use native.Mathlib.Omega.{arith}
use mathlib.Core.Path.{ap, ◌∙◌}
use Rattle.text_references.proofs.Laws.{always, a_asks, a_none, a_label, a_by_number}
use mathlib.Core.Option.{none, some}
use Rattle.text_references.proofs.a_refers.Goals as goal

pub returns-in-5 : goal.returns-in-5
returns-in-5 c = always c.args.flag ∙ a_asks c.args.tag c.args.flag (some 0) (ap a_by_number c.in-5.is)

pub returns-in-40 : goal.returns-in-40
returns-in-40 c = a_asks c.args.tag c.args.flag (some 1) (a_label c.args.tag (omega arith) (omega arith))

pub returns-in-41 : goal.returns-in-41
returns-in-41 c = a_asks c.args.tag c.args.flag (some 1) (a_label c.args.tag (omega arith) (omega arith))

pub returns-in_default : goal.returns-in_default
returns-in_default c = a_asks c.args.tag c.args.flag none (a_none c.args.tag (omega (arith, c.in_default)) (omega (arith, c.in_default)) (omega (arith, c.in_default)))
