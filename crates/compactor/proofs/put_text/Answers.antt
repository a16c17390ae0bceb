use native.Mathlib.Omega.{arith}
use mathlib.Core.Path.{◌∙◌}
use Rattle.compactor.proofs.Laws.{text_room, text_on}
use Rattle.gather.proofs.Strings.{inside_at}
use Rattle.compactor.proofs.put_text.Goals as goal

pub copy-to-requires : goal.copy-to-requires
copy-to-requires c =
    let i = inside_at c.args.s.now c.args.kept.now c.loop-k.k-index c.requires.inside in
    let t = text_room c.args.s.now c.args.kept.now c.loop-k.k-index (omega arith) i in
    (i.within, omega (arith, t, c.requires.room, c.loop-k.invariant.0, c.loop-k.invariant.1.0))

pub loop-k-preserved : goal.loop-k-preserved
loop-k-preserved c =
    let i = inside_at c.args.s.now c.args.kept.now c.loop-k.k-index c.requires.inside in (
      c.copy-to.auto.out ∙ c.loop-k.invariant.0,
      text_on c.args.s.now c.args.kept.now c.args.out.now c.loop-k.out _ c.loop-k.k-index c.loop-k.to c.copy-to.result (omega arith) i c.loop-k.invariant.1.0 c.loop-k.invariant.1.1 c.copy-to.ensures,
    )
