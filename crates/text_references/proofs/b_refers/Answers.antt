use native.Mathlib.Omega.{arith}
use mathlib.Core.Path.{ap}
use Rattle.text_references.proofs.Laws.{b_asks, b_none, b_label, b_lookup, b_by_number}
use mathlib.Core.Option.{none, some}
use Rattle.text_references.proofs.b_refers.Goals as goal

pub returns-in-40 : goal.returns-in-40
returns-in-40 c = b_asks c.args.tag c.args.flag (some 2) (b_label c.args.tag (omega arith) (omega arith))

pub returns-in-41 : goal.returns-in-41
returns-in-41 c = b_asks c.args.tag c.args.flag (some 2) (b_label c.args.tag (omega arith) (omega arith))

pub returns-in-53 : goal.returns-in-53
returns-in-53 c = b_asks c.args.tag c.args.flag (some 1) (b_lookup c.args.tag (omega arith) (omega arith))

pub returns-in-54 : goal.returns-in-54
returns-in-54 c = b_asks c.args.tag c.args.flag (some 1) (b_lookup c.args.tag (omega arith) (omega arith))

pub returns-in-62 : goal.returns-in-62
returns-in-62 c = b_asks c.args.tag c.args.flag (some 2) (ap b_by_number c.in-62.is)

pub returns-in_default : goal.returns-in_default
returns-in_default c =
    b_asks c.args.tag c.args.flag none
    (b_none c.args.tag (omega (arith, c.in_default)) (omega (arith, c.in_default)) (omega (arith, c.in_default)) (omega (arith, c.in_default)) (omega (arith, c.in_default)))
