use Rattle.short_circuit.proofs.Climbing.{climb_stop, climb_end, climb_records, climb_in, climb_ready, climb_next}
use native.Mathlib.Omega.{arith}
use mathlib.Core.Path.{refl, sym, ◌∙◌}
use Rattle.short_circuit.proofs.climb.Goals as goal

pub loop-m-init : goal.loop-m-init
loop-m-init c = (refl, (refl, λ lo s g. g))

pub shape_of-y-then-y-n : goal.shape_of-y-then-y-n
shape_of-y-then-y-n c = c.loop-m.invariant.1.0

pub shape_of-z-then-y-n : goal.shape_of-z-then-y-n
shape_of-z-then-y-n c = c.loop-m.invariant.0

pub returns-then-y-n : goal.returns-then-y-n
returns-then-y-n c = λ lo s g. climb_stop (c.loop-m.invariant.1.1 lo s g) c.if-y-n.true

pub overflow_add-above : goal.overflow_add-above
overflow_add-above c = let (h, (i, (j, k))) = climb_in (c.loop-m.invariant.1.1 c.requires.climbs_at.lo c.requires.climbs_at.y₀ c.requires.climbs_at.is) c.loop-m-test.true in omega arith

pub finish-v-requires : goal.finish-v-requires
finish-v-requires c = let (h, (i, (j, k))) = climb_in (c.loop-m.invariant.1.1 c.requires.climbs_at.lo c.requires.climbs_at.y₀ c.requires.climbs_at.is) c.loop-m-test.true in (omega arith, omega arith)

pub overflow_sub-hi : goal.overflow_sub-hi
overflow_sub-hi c = omega (arith, (climb_in (c.loop-m.invariant.1.1 c.requires.climbs_at.lo c.requires.climbs_at.y₀ c.requires.climbs_at.is) c.loop-m-test.true).0)

pub overflow_add-tail : goal.overflow_add-tail
overflow_add-tail c = let (h, (i, (j, k))) = climb_in (c.loop-m.invariant.1.1 c.requires.climbs_at.lo c.requires.climbs_at.y₀ c.requires.climbs_at.is) c.loop-m-test.true in omega arith

pub short_circuit_node-n-requires : goal.short_circuit_node-n-requires
short_circuit_node-n-requires c = let (a, b) = climb_ready (c.loop-m.invariant.1.1 c.requires.climbs_at.lo c.requires.climbs_at.y₀ c.requires.climbs_at.is) c.loop-m-test.true c.if-y-n.false c.finish-v.auto.y c.finish-v.ensures in record { columns_at = a; records_at = climb_records (c.loop-m.invariant.1.1 c.requires.climbs_at.lo c.requires.climbs_at.y₀ c.requires.climbs_at.is); z_len = (c.loop-m.invariant.0 ∙ c.requires.z_len ∙ sym (c.finish-v.auto.y ∙ c.loop-m.invariant.1.0), b) }

pub loop-m-preserved : goal.loop-m-preserved
loop-m-preserved c = (c.short_circuit_node-n.auto.z ∙ c.loop-m.invariant.0, (c.short_circuit_node-n.auto.y ∙ c.finish-v.auto.y ∙ c.loop-m.invariant.1.0, λ lo s g. climb_next (c.loop-m.invariant.1.1 lo s g) c.loop-m-test.true c.if-y-n.false c.finish-v.auto.y c.finish-v.ensures c.short_circuit_node-n.auto.y c.short_circuit_node-n.ensures))

pub shape_of-y : goal.shape_of-y
shape_of-y c = c.loop-m.invariant.1.0

pub shape_of-z : goal.shape_of-z
shape_of-z c = c.loop-m.invariant.0

pub returns : goal.returns
returns c = λ lo s g. climb_end (c.loop-m.invariant.1.1 lo s g) c.loop-m-test.false

-- after the last node
pub returns-else-y-n : goal.returns-else-y-n
returns-else-y-n c = λ lo s g. climb_end (climb_next (c.loop-m.invariant.1.1 lo s g) c.loop-m-test.true c.if-y-n.false c.finish-v.auto.y c.finish-v.ensures c.short_circuit_node-n.auto.y c.short_circuit_node-n.ensures) (omega arith)
