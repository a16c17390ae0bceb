use Rattle.labels.proofs.Tracing.{aliased_scan, aliased_lookup, alias_then}
use Rattle.labels.specs.Labels.{alias_of, alias_if, is_aliased}
use mathlib.Core.Bool.{Bool}
use mathlib.Core.Path.{◌≡◌, ap, ◌∙◌}
use Rattle.labels.proofs.alias_in.Goals as goal
use Rattle.labels.proofs.alias_in.Goals.{then-tag-eq-SCAN, else-tag-eq-SCAN}

pub returns : goal.returns
returns c =
    let e : c.if-tag-eq-SCAN.aliased ≡ is_aliased c.args.tag c.args.flag =
    elim c.if-tag-eq-SCAN.branch [ then-tag-eq-SCAN w ↦ w.aliased-is ∙ aliased_scan c.args.tag c.args.flag w.if-tag-eq-SCAN.true | else-tag-eq-SCAN w ↦ w.aliased-is ∙ aliased_lookup c.args.tag c.args.flag w.if-tag-eq-SCAN.false ] in
    ap alias_of c.then_some.ensures ∙ alias_then c.if-tag-eq-SCAN.aliased c.args.b ∙ ap (λ (t : Bool). alias_if t c.args.b) e
