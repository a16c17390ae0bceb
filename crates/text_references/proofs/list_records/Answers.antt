use native.Mathlib.Omega.{arith}
use mathlib.Core.Path.{refl}
use lib.ListN.{length-set}
use Rattle.text_references.proofs.Laws.{listed_none, records_on}
use Prim.Native.Nat.{ℕ}
use mathlib.Core.Path.{◌≡◌, subst}
use Rattle.text_references.specs.Asks.{Listed}
use Rattle.compact.specs.Slots.{in_each}
use Rattle.compact.specs.Slots.{record_slots}
use Rattle.text_references.proofs.list_records.Goals as goal

pub loop-i-init : goal.loop-i-init
loop-i-init c = (refl, (omega arith, listed_none c.args.refs.now 0))

pub loop-i-preserved : goal.loop-i-preserved
loop-i-preserved c = (simp length-set c.loop-i.invariant.0, (omega arith, records_on c.args.s.now c.args.refs.now c.loop-i.refs c.args.at c.loop-i.i c.word_at.result c.loop-i.invariant.1.1 c.word_at.ensures.is (omega (arith, c.requires.1, c.loop-i.invariant.0))))

pub returns : goal.returns
returns c =
    let e : c.loop-i.i ≡ c.args.n = omega arith in
    subst (λ (k : ℕ). Listed (in_each (record_slots c.args.s.now) c.args.at k) c.args.refs.now 0 k c.loop-i.refs k) e c.loop-i.invariant.1.1
