use mathlib.Core.Bool.{Bool}
use mathlib.Core.Path.{sym, ap}
use Rattle.text_references.specs.Asks.{if_refers}
use Rattle.text_references.proofs.field.Goals as goal

pub returns-then-refers : goal.returns-then-refers
returns-then-refers c = ap (λ (b : Bool). if_refers b c.args.v) (sym c.if-refers.true)

pub returns-else-refers : goal.returns-else-refers
returns-else-refers c = ap (λ (b : Bool). if_refers b c.args.v) (sym c.if-refers.false)
