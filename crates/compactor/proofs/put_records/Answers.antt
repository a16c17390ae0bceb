use Prim.Native.Nat.{ℕ}
use native.Mathlib.Omega.{arith}
use mathlib.Core.Path.{◌≡◌, refl, ap, ◌∙◌}
use Rattle.compactor.proofs.Laws.{records_start, records_on}
use Rattle.encode.specs.Encode.{written}
use Rattle.compact.specs.Slots.{record_slots, in_each, slot_bytes}
use Rattle.compactor.specs.Compactor.{fill}
use Rattle.compactor.proofs.put_records.Goals as goal

pub loop-i-init : goal.loop-i-init
loop-i-init c = (refl, (omega arith, (omega arith, records_start c.args.s.now c.args.fresh.now c.args.out.now c.args.from c.args.at)))

pub put_record-to-requires : goal.put_record-to-requires
put_record-to-requires c = (omega (arith, c.requires.0), omega (arith, c.requires.1.1, c.loop-i.invariant.0, c.loop-i.invariant.1.1.0))

pub loop-i-preserved : goal.loop-i-preserved
loop-i-preserved c = let e = c.loop-i.invariant.1.1.0 in (c.put_record-to.auto.out ∙ c.loop-i.invariant.0, (omega arith, (omega (arith, e, c.put_record-to.ensures.0), records_on c.args.s.now c.args.fresh.now c.args.out.now c.loop-i.out _ c.args.from c.args.at c.loop-i.i c.loop-i.to (omega (arith, c.requires.1.1)) e c.loop-i.invariant.1.1.1 c.put_record-to.ensures)))

pub returns : goal.returns
returns c = let e : c.loop-i.i ≡ c.args.n = omega arith in (omega (arith, c.loop-i.invariant.1.1.0, e), c.loop-i.invariant.1.1.1 ∙ ap (λ (k : ℕ). written c.args.out.now c.args.at (slot_bytes (fill (in_each (record_slots c.args.s.now) c.args.from k) c.args.fresh.now))) e)
