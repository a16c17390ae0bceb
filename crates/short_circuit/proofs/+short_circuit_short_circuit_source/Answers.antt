use Rattle.short_circuit.proofs.Climbing.{below_at}
use Rattle.chain.proofs.Bare.{bare_in}
use Rattle.nodes.proofs.Widths.{counted_as, two_left, join_sized}
use Rattle.stream.proofs.Sources.{own_in, mid_in}
use Rattle.short_circuit.proofs.Pass.{records_at, leaf_ready, source_at, over_ready, left_at, right_at, join_ready, leaf_circuits, scan_circuits, over_stop, over_circuits, left_stop, right_stop, join_circuits, node_there, node_inside}
use native.Mathlib.Omega.{arith}
use mathlib.Core.Path.{refl, sym, ◌∙◌}
use Rattle.short_circuit.proofs.+short_circuit_short_circuit_source.Goals as goal

pub short_circuit-source_count-n-requires : goal.short_circuit-source_count-n-requires
short_circuit-source_count-n-requires t c = node_there c.requires.circuit_at

pub short_circuit-copy-end-requires : goal.short_circuit-copy-end-requires
short_circuit-copy-end-requires t c = let (h, k) = node_inside c.requires.circuit_at in (omega arith, k)

pub short_circuit-short_circuit_node-requires : goal.short_circuit-short_circuit_node-requires
short_circuit-short_circuit_node-requires t c = let (a, b) = leaf_ready c.requires.circuit_at (counted_as c.source_count-n.ensures c.if-n-eq0.true) c.copy-end.auto.d c.copy-end.ensures in record { columns_at = a; records_at = records_at c.requires.circuit_at; z_len = (c.requires.z_len ∙ sym c.copy-end.auto.d, b) }

pub short_circuit-shape_of-y-then-n-eq0 : goal.short_circuit-shape_of-y-then-n-eq0
short_circuit-shape_of-y-then-n-eq0 t c = c.short_circuit_node.auto.y ∙ c.copy-end.auto.d

pub short_circuit-shape_of-z-then-n-eq0 : goal.short_circuit-shape_of-z-then-n-eq0
short_circuit-shape_of-z-then-n-eq0 t c = c.short_circuit_node.auto.z

pub short_circuit-returns-then-n-eq0 : goal.short_circuit-returns-then-n-eq0
short_circuit-returns-then-n-eq0 t c = leaf_circuits (counted_as c.source_count-n.ensures c.if-n-eq0.true) c.copy-end.auto.d c.copy-end.ensures c.short_circuit_node.auto.y c.short_circuit_node.ensures

pub short_circuit-own_start-m-requires : goal.short_circuit-own_start-m-requires
short_circuit-own_start-m-requires t c = node_there c.requires.circuit_at

pub short_circuit-overflow_sub-back : goal.short_circuit-overflow_sub-back
short_circuit-overflow_sub-back t c = omega (arith, (own_in c.requires.circuit_at.stream c.own_start-m.ensures).1.0)

pub short_circuit-overflow_add-back : goal.short_circuit-overflow_add-back
short_circuit-overflow_add-back t c = record { fits = omega (arith, (own_in c.requires.circuit_at.stream c.own_start-m.ensures).1.1) }

pub short_circuit-descend_bare-end-requires : goal.short_circuit-descend_bare-end-requires
short_circuit-descend_bare-end-requires t c = node_there (source_at c.requires.circuit_at (counted_as c.source_count-n.ensures c.if-n-eq1.true) c.own_start-m.ensures)

pub short_circuit-overflow_sub-behind : goal.short_circuit-overflow_sub-behind
short_circuit-overflow_sub-behind t c = bare_in c.descend_bare-end.ensures.down

pub short_circuit-overflow_add-behind : goal.short_circuit-overflow_add-behind
short_circuit-overflow_add-behind t c = let h = (below_at c.descend_bare-end.ensures.down (source_at c.requires.circuit_at (counted_as c.source_count-n.ensures c.if-n-eq1.true) c.own_start-m.ensures)).stream.reading.fits in omega (arith, c.requires.circuit_at.stream.short_out)

pub short_circuit-short_circuit_source-u-requires : goal.short_circuit-short_circuit_source-u-requires
short_circuit-short_circuit_source-u-requires t c = (omega (arith, c.decreases, (own_in c.requires.circuit_at.stream c.own_start-m.ensures).0, (own_in c.requires.circuit_at.stream c.own_start-m.ensures).1.0, bare_in c.descend_bare-end.ensures.down), (below_at c.descend_bare-end.ensures.down (source_at c.requires.circuit_at (counted_as c.source_count-n.ensures c.if-n-eq1.true) c.own_start-m.ensures), c.requires.z_len))

pub short_circuit-climb-v-requires : goal.short_circuit-climb-v-requires
short_circuit-climb-v-requires t c = record { climbs_at = record { lo = c.args.lo; y₀ = c.args.y.now; is = (record { bare = c.descend_bare-end.ensures.down; given = (source_at c.requires.circuit_at (counted_as c.source_count-n.ensures c.if-n-eq1.true) c.own_start-m.ensures); long = c.short_circuit_source-u.auto.y; below = c.short_circuit_source-u.ensures }) }; z_len = c.short_circuit_source-u.auto.z ∙ c.requires.z_len ∙ sym c.short_circuit_source-u.auto.y }

pub short_circuit-shape_of-y-then-y-v : goal.short_circuit-shape_of-y-then-y-v
short_circuit-shape_of-y-then-y-v t c = c.climb-v.auto.y ∙ c.short_circuit_source-u.auto.y

pub short_circuit-shape_of-z-then-y-v : goal.short_circuit-shape_of-z-then-y-v
short_circuit-shape_of-z-then-y-v t c = c.climb-v.auto.z ∙ c.short_circuit_source-u.auto.z

pub short_circuit-returns-then-y-v : goal.short_circuit-returns-then-y-v
short_circuit-returns-then-y-v t c = over_stop (counted_as c.source_count-n.ensures c.if-n-eq1.true) c.own_start-m.ensures (c.climb-v.ensures c.args.lo c.args.y.now (record { bare = c.descend_bare-end.ensures.down; given = (source_at c.requires.circuit_at (counted_as c.source_count-n.ensures c.if-n-eq1.true) c.own_start-m.ensures); long = c.short_circuit_source-u.auto.y; below = c.short_circuit_source-u.ensures })) c.if-y-v.true

pub short_circuit-finish-end-requires : goal.short_circuit-finish-end-requires
short_circuit-finish-end-requires t c = ((own_in c.requires.circuit_at.stream c.own_start-m.ensures).1.0, (node_inside c.requires.circuit_at).1)

pub short_circuit-short_circuit_node-requires-then-n-eq1 : goal.short_circuit-short_circuit_node-requires-then-n-eq1
short_circuit-short_circuit_node-requires-then-n-eq1 t c = let (a, b) = over_ready c.requires.circuit_at (counted_as c.source_count-n.ensures c.if-n-eq1.true) c.own_start-m.ensures (c.climb-v.auto.y ∙ c.short_circuit_source-u.auto.y) (c.climb-v.ensures c.args.lo c.args.y.now (record { bare = c.descend_bare-end.ensures.down; given = (source_at c.requires.circuit_at (counted_as c.source_count-n.ensures c.if-n-eq1.true) c.own_start-m.ensures); long = c.short_circuit_source-u.auto.y; below = c.short_circuit_source-u.ensures })) c.if-y-v.false c.finish-end.auto.y c.finish-end.ensures in record { columns_at = a; records_at = records_at c.requires.circuit_at; z_len = (c.climb-v.auto.z ∙ c.short_circuit_source-u.auto.z ∙ c.requires.z_len ∙ sym (c.finish-end.auto.y ∙ c.climb-v.auto.y ∙ c.short_circuit_source-u.auto.y), b) }

pub short_circuit-shape_of-y-then-n-eq1 : goal.short_circuit-shape_of-y-then-n-eq1
short_circuit-shape_of-y-then-n-eq1 t c = c.short_circuit_node-then-n-eq1.auto.y ∙ c.finish-end.auto.y ∙ c.climb-v.auto.y ∙ c.short_circuit_source-u.auto.y

pub short_circuit-shape_of-z-then-n-eq1 : goal.short_circuit-shape_of-z-then-n-eq1
short_circuit-shape_of-z-then-n-eq1 t c = c.short_circuit_node-then-n-eq1.auto.z ∙ c.climb-v.auto.z ∙ c.short_circuit_source-u.auto.z

pub short_circuit-returns-then-n-eq1 : goal.short_circuit-returns-then-n-eq1
short_circuit-returns-then-n-eq1 t c = over_circuits (counted_as c.source_count-n.ensures c.if-n-eq1.true) c.own_start-m.ensures (c.climb-v.ensures c.args.lo c.args.y.now (record { bare = c.descend_bare-end.ensures.down; given = (source_at c.requires.circuit_at (counted_as c.source_count-n.ensures c.if-n-eq1.true) c.own_start-m.ensures); long = c.short_circuit_source-u.auto.y; below = c.short_circuit_source-u.ensures })) (c.climb-v.auto.y ∙ c.short_circuit_source-u.auto.y) c.if-y-v.false c.finish-end.auto.y c.finish-end.ensures c.short_circuit_node-then-n-eq1.auto.y c.short_circuit_node-then-n-eq1.ensures

pub short_circuit-start-mid-requires : goal.short_circuit-start-mid-requires
short_circuit-start-mid-requires t c = join_sized (two_left c.source_count-n.ensures c.if-n-eq0.false c.if-n-eq1.false) c.own_start-m.ensures (node_there c.requires.circuit_at)

pub short_circuit-overflow_sub-behind-2 : goal.short_circuit-overflow_sub-behind-2
short_circuit-overflow_sub-behind-2 t c = omega (arith, (mid_in (two_left c.source_count-n.ensures c.if-n-eq0.false c.if-n-eq1.false) refl c.own_start-m.ensures c.start-mid.ensures c.requires.circuit_at.stream).1.0, (own_in c.requires.circuit_at.stream c.own_start-m.ensures).1.0)

pub short_circuit-overflow_add-behind-2 : goal.short_circuit-overflow_add-behind-2
short_circuit-overflow_add-behind-2 t c = record { fits = omega (arith, (mid_in (two_left c.source_count-n.ensures c.if-n-eq0.false c.if-n-eq1.false) refl c.own_start-m.ensures c.start-mid.ensures c.requires.circuit_at.stream).1.1) }

pub short_circuit-short_circuit_source-u-requires-2 : goal.short_circuit-short_circuit_source-u-requires-2
short_circuit-short_circuit_source-u-requires-2 t c = (omega (arith, c.decreases, (mid_in (two_left c.source_count-n.ensures c.if-n-eq0.false c.if-n-eq1.false) refl c.own_start-m.ensures c.start-mid.ensures c.requires.circuit_at.stream).0, (mid_in (two_left c.source_count-n.ensures c.if-n-eq0.false c.if-n-eq1.false) refl c.own_start-m.ensures c.start-mid.ensures c.requires.circuit_at.stream).1.0, (own_in c.requires.circuit_at.stream c.own_start-m.ensures).1.0), (left_at c.requires.circuit_at (two_left c.source_count-n.ensures c.if-n-eq0.false c.if-n-eq1.false) c.own_start-m.ensures c.start-mid.ensures, c.requires.z_len))

pub short_circuit-shape_of-y-then-y-u : goal.short_circuit-shape_of-y-then-y-u
short_circuit-shape_of-y-then-y-u t c = c.short_circuit_source-u-2.auto.y

pub short_circuit-shape_of-z-then-y-u : goal.short_circuit-shape_of-z-then-y-u
short_circuit-shape_of-z-then-y-u t c = c.short_circuit_source-u-2.auto.z

pub short_circuit-returns-then-y-u : goal.short_circuit-returns-then-y-u
short_circuit-returns-then-y-u t c = left_stop (two_left c.source_count-n.ensures c.if-n-eq0.false c.if-n-eq1.false) c.own_start-m.ensures c.start-mid.ensures c.short_circuit_source-u-2.ensures c.if-y-u.true

pub short_circuit-short_circuit_source-v-requires : goal.short_circuit-short_circuit_source-v-requires
short_circuit-short_circuit_source-v-requires t c = (omega (arith, c.decreases, (mid_in (two_left c.source_count-n.ensures c.if-n-eq0.false c.if-n-eq1.false) refl c.own_start-m.ensures c.start-mid.ensures c.requires.circuit_at.stream).0, (mid_in (two_left c.source_count-n.ensures c.if-n-eq0.false c.if-n-eq1.false) refl c.own_start-m.ensures c.start-mid.ensures c.requires.circuit_at.stream).1.0, (own_in c.requires.circuit_at.stream c.own_start-m.ensures).1.0), (right_at c.requires.circuit_at (two_left c.source_count-n.ensures c.if-n-eq0.false c.if-n-eq1.false) c.own_start-m.ensures c.start-mid.ensures c.short_circuit_source-u-2.auto.y c.short_circuit_source-u-2.ensures c.if-y-u.false, c.short_circuit_source-u-2.auto.z ∙ c.requires.z_len ∙ sym c.short_circuit_source-u-2.auto.y))

pub short_circuit-shape_of-y-then-y-v-2 : goal.short_circuit-shape_of-y-then-y-v-2
short_circuit-shape_of-y-then-y-v-2 t c = c.short_circuit_source-v.auto.y ∙ c.short_circuit_source-u-2.auto.y

pub short_circuit-shape_of-z-then-y-v-2 : goal.short_circuit-shape_of-z-then-y-v-2
short_circuit-shape_of-z-then-y-v-2 t c = c.short_circuit_source-v.auto.z ∙ c.short_circuit_source-u-2.auto.z

pub short_circuit-returns-then-y-v-2 : goal.short_circuit-returns-then-y-v-2
short_circuit-returns-then-y-v-2 t c = right_stop (two_left c.source_count-n.ensures c.if-n-eq0.false c.if-n-eq1.false) c.own_start-m.ensures c.start-mid.ensures c.short_circuit_source-u-2.ensures c.short_circuit_source-u-2.auto.y c.if-y-u.false c.short_circuit_source-v.ensures c.if-y-v-2.true

pub short_circuit-finish-end-requires-2 : goal.short_circuit-finish-end-requires-2
short_circuit-finish-end-requires-2 t c = ((own_in c.requires.circuit_at.stream c.own_start-m.ensures).1.0, (node_inside c.requires.circuit_at).1)

pub short_circuit-short_circuit_node-requires-2 : goal.short_circuit-short_circuit_node-requires-2
short_circuit-short_circuit_node-requires-2 t c = let (a, b) = join_ready c.requires.circuit_at (two_left c.source_count-n.ensures c.if-n-eq0.false c.if-n-eq1.false) c.own_start-m.ensures c.start-mid.ensures c.short_circuit_source-u-2.auto.y c.short_circuit_source-u-2.ensures c.if-y-u.false c.short_circuit_source-v.auto.y c.short_circuit_source-v.ensures c.if-y-v-2.false c.finish-end-2.auto.y c.finish-end-2.ensures in record { columns_at = a; records_at = records_at c.requires.circuit_at; z_len = (c.short_circuit_source-v.auto.z ∙ c.short_circuit_source-u-2.auto.z ∙ c.requires.z_len ∙ sym (c.finish-end-2.auto.y ∙ c.short_circuit_source-v.auto.y ∙ c.short_circuit_source-u-2.auto.y), b) }

pub short_circuit-shape_of-y : goal.short_circuit-shape_of-y
short_circuit-shape_of-y t c = c.short_circuit_node-2.auto.y ∙ c.finish-end-2.auto.y ∙ c.short_circuit_source-v.auto.y ∙ c.short_circuit_source-u-2.auto.y

pub short_circuit-shape_of-z : goal.short_circuit-shape_of-z
short_circuit-shape_of-z t c = c.short_circuit_node-2.auto.z ∙ c.short_circuit_source-v.auto.z ∙ c.short_circuit_source-u-2.auto.z

pub short_circuit-returns : goal.short_circuit-returns
short_circuit-returns t c = join_circuits (two_left c.source_count-n.ensures c.if-n-eq0.false c.if-n-eq1.false) c.own_start-m.ensures c.start-mid.ensures c.short_circuit_source-u-2.ensures c.short_circuit_source-u-2.auto.y c.if-y-u.false c.short_circuit_source-v.ensures c.short_circuit_source-v.auto.y c.if-y-v-2.false c.finish-end-2.auto.y c.finish-end-2.ensures c.short_circuit_node-2.auto.y c.short_circuit_node-2.ensures

pub short_circuit_source-overflow_sub-hi : goal.short_circuit_source-overflow_sub-hi
short_circuit_source-overflow_sub-hi t c = omega (arith, (node_inside c.requires.circuit_at).0)

pub short_circuit_source-tag_at-requires : goal.short_circuit_source-tag_at-requires
short_circuit_source-tag_at-requires t c = let (h, k) = node_inside c.requires.circuit_at in (omega arith, k)

pub short_circuit_source-copy-requires : goal.short_circuit_source-copy-requires
short_circuit_source-copy-requires t c = let (h, k) = node_inside c.requires.circuit_at in (omega arith, k)

pub short_circuit_source-returns-then-tag_at-eq-SCAN : goal.short_circuit_source-returns-then-tag_at-eq-SCAN
short_circuit_source-returns-then-tag_at-eq-SCAN t c = scan_circuits c.if-hi-lo-eq-CELL_WORDS.true (sym c.tag_at.ensures ∙ c.if-tag_at-eq-SCAN.true) c.copy.auto.d c.copy.ensures

pub short_circuit_source-short_circuit-requires : goal.short_circuit_source-short_circuit-requires
short_circuit_source-short_circuit-requires t c = (omega (arith, c.decreases), (c.requires.circuit_at, c.requires.z_len))

pub short_circuit_source-returns : goal.short_circuit_source-returns
short_circuit_source-returns t c = c.short_circuit.ensures
