use Rattle.index_lookup.proofs.Below.{stream_stands, chain_at, below_in, below_at, chain_stop, chain_go}
use Rattle.index_lookup.proofs.Walk.{no_source, one_cell_copied, one_stop, one_go, left_refused, right_refused, two_go}
use Rattle.stream.proofs.Streams.{stream_node, stream_in}
use Rattle.stream.proofs.Sources.{two_left, own_in, source_at, right_sized, mid_in, left_at, right_at}
use Rattle.sql.specs.Room.{IndexLookup}
use Rattle.records.specs.Records.{Records}
use Prim.Native.Nat.{◌-◌}
use native.Mathlib.Omega.{arith}
use mathlib.Core.Path.{sym, ◌∙◌}
use Rattle.index_lookup.proofs.+transform_transform_source.Goals as goal

pub transform-descend-below-requires : goal.transform-descend-below-requires
transform-descend-below-requires t c = stream_node c.requires.stream_at

pub transform-overflow_sub-back : goal.transform-overflow_sub-back
transform-overflow_sub-back t c = omega (arith, below_in c.descend-below.ensures c.requires.stream_at)

pub transform-overflow_add-back : goal.transform-overflow_add-back
transform-overflow_add-back t c = let h = (below_at c.descend-below.ensures c.requires.stream_at).reading.fits in omega (arith, c.requires.stream_at.short_out)

pub transform-source_count-n-requires : goal.transform-source_count-n-requires
transform-source_count-n-requires t c = stream_node (below_at c.descend-below.ensures c.requires.stream_at)

pub transform-index_lookup-u-requires : goal.transform-index_lookup-u-requires
transform-index_lookup-u-requires t c = record { stream_at = (below_at c.descend-below.ensures c.requires.stream_at); source_count = no_source c.if-n-eq0.true c.source_count-n.ensures; z_len = c.requires.z_len }

pub transform-follow-requires : goal.transform-follow-requires
transform-follow-requires t c = record { chain_at = chain_at c.descend-below.ensures c.requires.stream_at; node_at = stream_stands (below_at c.descend-below.ensures c.requires.stream_at) c.index_lookup-u.ensures }

pub transform-shape_of-y-then-n-eq0 : goal.transform-shape_of-y-then-n-eq0
transform-shape_of-y-then-n-eq0 t c = c.follow.auto.y ∙ c.index_lookup-u.auto.y

pub transform-shape_of-z-then-n-eq0 : goal.transform-shape_of-z-then-n-eq0
transform-shape_of-z-then-n-eq0 t c = c.index_lookup-u.auto.z

pub transform-shape_of-w-then-n-eq0 : goal.transform-shape_of-w-then-n-eq0
transform-shape_of-w-then-n-eq0 t c = c.index_lookup-u.auto.w

pub transform-returns-then-n-eq0 : goal.transform-returns-then-n-eq0
transform-returns-then-n-eq0 t c = chain_go c.descend-below.ensures c.index_lookup-u.ensures c.index_lookup-u.auto.y c.follow.auto.y c.follow.ensures

pub transform-own_start-m-requires : goal.transform-own_start-m-requires
transform-own_start-m-requires t c = stream_node (below_at c.descend-below.ensures c.requires.stream_at)

pub transform-overflow_sub-after : goal.transform-overflow_sub-after
transform-overflow_sub-after t c = let (f, (h, k)) = own_in (below_at c.descend-below.ensures c.requires.stream_at) c.own_start-m.ensures in omega arith

pub transform-overflow_add-after : goal.transform-overflow_add-after
transform-overflow_add-after t c = let (f, (h, k)) = own_in (below_at c.descend-below.ensures c.requires.stream_at) c.own_start-m.ensures in omega arith

pub transform-transform_source-u-requires : goal.transform-transform_source-u-requires
transform-transform_source-u-requires t c = let (f, (h, k)) = own_in (below_at c.descend-below.ensures c.requires.stream_at) c.own_start-m.ensures in (omega (arith, c.decreases, below_in c.descend-below.ensures c.requires.stream_at), (source_at c.source_count-n.ensures c.if-n-eq1.true c.own_start-m.ensures (below_at c.descend-below.ensures c.requires.stream_at), c.requires.z_len))

pub transform-shape_of-y-then-y-u : goal.transform-shape_of-y-then-y-u
transform-shape_of-y-then-y-u t c = c.transform_source-u.auto.y

pub transform-shape_of-z-then-y-u : goal.transform-shape_of-z-then-y-u
transform-shape_of-z-then-y-u t c = c.transform_source-u.auto.z

pub transform-shape_of-w-then-y-u : goal.transform-shape_of-w-then-y-u
transform-shape_of-w-then-y-u t c = c.transform_source-u.auto.w

pub transform-returns-then-y-u : goal.transform-returns-then-y-u
transform-returns-then-y-u t c = chain_stop c.descend-below.ensures (one_stop c.args.tables.now c.args.columns.now c.source_count-n.ensures c.own_start-m.ensures c.if-n-eq1.true c.transform_source-u.ensures c.if-y-u.true) c.if-y-u.true

pub transform-finish-v-requires : goal.transform-finish-v-requires
transform-finish-v-requires t c = ((own_in (below_at c.descend-below.ensures c.requires.stream_at) c.own_start-m.ensures).1.0, (stream_in (below_at c.descend-below.ensures c.requires.stream_at)).1)

pub transform-follow-requires-then-n-eq1 : goal.transform-follow-requires-then-n-eq1
transform-follow-requires-then-n-eq1 t c = record { chain_at = chain_at c.descend-below.ensures c.requires.stream_at; node_at = stream_stands (below_at c.descend-below.ensures c.requires.stream_at) (one_go c.args.tables.now c.args.columns.now c.source_count-n.ensures c.own_start-m.ensures c.if-n-eq1.true c.transform_source-u.ensures c.if-y-u.false c.transform_source-u.auto.y c.finish-v.auto.y c.finish-v.ensures) }

pub transform-shape_of-y-then-n-eq1 : goal.transform-shape_of-y-then-n-eq1
transform-shape_of-y-then-n-eq1 t c = c.follow-then-n-eq1.auto.y ∙ (c.finish-v.auto.y ∙ c.transform_source-u.auto.y)

pub transform-shape_of-z-then-n-eq1 : goal.transform-shape_of-z-then-n-eq1
transform-shape_of-z-then-n-eq1 t c = c.transform_source-u.auto.z

pub transform-shape_of-w-then-n-eq1 : goal.transform-shape_of-w-then-n-eq1
transform-shape_of-w-then-n-eq1 t c = c.transform_source-u.auto.w

pub transform-returns-then-n-eq1 : goal.transform-returns-then-n-eq1
transform-returns-then-n-eq1 t c = chain_go c.descend-below.ensures (one_go c.args.tables.now c.args.columns.now c.source_count-n.ensures c.own_start-m.ensures c.if-n-eq1.true c.transform_source-u.ensures c.if-y-u.false c.transform_source-u.auto.y c.finish-v.auto.y c.finish-v.ensures) (c.finish-v.auto.y ∙ c.transform_source-u.auto.y) c.follow-then-n-eq1.auto.y c.follow-then-n-eq1.ensures

pub transform-start-mid-requires : goal.transform-start-mid-requires
transform-start-mid-requires t c = right_sized c.source_count-n.ensures (two_left (below_at c.descend-below.ensures c.requires.stream_at) c.source_count-n.ensures c.if-n-eq0.false c.if-n-eq1.false) c.own_start-m.ensures (below_at c.descend-below.ensures c.requires.stream_at)

pub transform-overflow_sub-behind : goal.transform-overflow_sub-behind
transform-overflow_sub-behind t c = let (f, (h, k)) = own_in (below_at c.descend-below.ensures c.requires.stream_at) c.own_start-m.ensures in let (p, (q, r)) = mid_in c.source_count-n.ensures (two_left (below_at c.descend-below.ensures c.requires.stream_at) c.source_count-n.ensures c.if-n-eq0.false c.if-n-eq1.false) c.own_start-m.ensures c.start-mid.ensures (below_at c.descend-below.ensures c.requires.stream_at) in omega arith

pub transform-overflow_add-behind : goal.transform-overflow_add-behind
transform-overflow_add-behind t c = let (p, (q, r)) = mid_in c.source_count-n.ensures (two_left (below_at c.descend-below.ensures c.requires.stream_at) c.source_count-n.ensures c.if-n-eq0.false c.if-n-eq1.false) c.own_start-m.ensures c.start-mid.ensures (below_at c.descend-below.ensures c.requires.stream_at) in omega arith

pub transform-transform_source-u-requires-2 : goal.transform-transform_source-u-requires-2
transform-transform_source-u-requires-2 t c = let (f, (h, k)) = own_in (below_at c.descend-below.ensures c.requires.stream_at) c.own_start-m.ensures in let two = two_left (below_at c.descend-below.ensures c.requires.stream_at) c.source_count-n.ensures c.if-n-eq0.false c.if-n-eq1.false in let (p, (q, r)) = mid_in c.source_count-n.ensures two c.own_start-m.ensures c.start-mid.ensures (below_at c.descend-below.ensures c.requires.stream_at) in (omega (arith, c.decreases, below_in c.descend-below.ensures c.requires.stream_at), (left_at c.source_count-n.ensures two c.own_start-m.ensures c.start-mid.ensures (below_at c.descend-below.ensures c.requires.stream_at), c.requires.z_len))

pub transform-shape_of-y-then-y-u-2 : goal.transform-shape_of-y-then-y-u-2
transform-shape_of-y-then-y-u-2 t c = c.transform_source-u-2.auto.y

pub transform-shape_of-z-then-y-u-2 : goal.transform-shape_of-z-then-y-u-2
transform-shape_of-z-then-y-u-2 t c = c.transform_source-u-2.auto.z

pub transform-shape_of-w-then-y-u-2 : goal.transform-shape_of-w-then-y-u-2
transform-shape_of-w-then-y-u-2 t c = c.transform_source-u-2.auto.w

pub transform-returns-then-y-u-2 : goal.transform-returns-then-y-u-2
transform-returns-then-y-u-2 t c = chain_stop c.descend-below.ensures (left_refused c.args.tables.now c.args.columns.now c.source_count-n.ensures c.own_start-m.ensures (two_left (below_at c.descend-below.ensures c.requires.stream_at) c.source_count-n.ensures c.if-n-eq0.false c.if-n-eq1.false) c.start-mid.ensures c.transform_source-u-2.ensures c.if-y-u-2.true) c.if-y-u-2.true

pub transform-transform_source-v-requires : goal.transform-transform_source-v-requires
transform-transform_source-v-requires t c = let (f, (h, k)) = own_in (below_at c.descend-below.ensures c.requires.stream_at) c.own_start-m.ensures in let two = two_left (below_at c.descend-below.ensures c.requires.stream_at) c.source_count-n.ensures c.if-n-eq0.false c.if-n-eq1.false in let (p, (q, r)) = mid_in c.source_count-n.ensures two c.own_start-m.ensures c.start-mid.ensures (below_at c.descend-below.ensures c.requires.stream_at) in (omega (arith, c.decreases, below_in c.descend-below.ensures c.requires.stream_at), (right_at {Lent = Records c.args.tables.now c.args.columns.now} c.source_count-n.ensures two c.own_start-m.ensures c.start-mid.ensures IndexLookup c.transform_source-u-2.ensures c.transform_source-u-2.auto.y c.if-y-u-2.false (below_at c.descend-below.ensures c.requires.stream_at), (c.transform_source-u-2.auto.z ∙ (c.requires.z_len.0 ∙ sym c.transform_source-u-2.auto.y), c.transform_source-u-2.auto.w ∙ (c.requires.z_len.1 ∙ sym c.transform_source-u-2.auto.y))))

pub transform-shape_of-y-then-y-v : goal.transform-shape_of-y-then-y-v
transform-shape_of-y-then-y-v t c = c.transform_source-v.auto.y ∙ c.transform_source-u-2.auto.y

pub transform-shape_of-z-then-y-v : goal.transform-shape_of-z-then-y-v
transform-shape_of-z-then-y-v t c = c.transform_source-v.auto.z ∙ c.transform_source-u-2.auto.z

pub transform-shape_of-w-then-y-v : goal.transform-shape_of-w-then-y-v
transform-shape_of-w-then-y-v t c = c.transform_source-v.auto.w ∙ c.transform_source-u-2.auto.w

pub transform-returns-then-y-v : goal.transform-returns-then-y-v
transform-returns-then-y-v t c = chain_stop c.descend-below.ensures (right_refused c.args.tables.now c.args.columns.now c.source_count-n.ensures c.own_start-m.ensures (two_left (below_at c.descend-below.ensures c.requires.stream_at) c.source_count-n.ensures c.if-n-eq0.false c.if-n-eq1.false) c.start-mid.ensures c.transform_source-u-2.ensures c.transform_source-u-2.auto.y c.if-y-u-2.false c.transform_source-v.ensures c.if-y-v.true) c.if-y-v.true

pub transform-finish-r-requires : goal.transform-finish-r-requires
transform-finish-r-requires t c = ((own_in (below_at c.descend-below.ensures c.requires.stream_at) c.own_start-m.ensures).1.0, (stream_in (below_at c.descend-below.ensures c.requires.stream_at)).1)

pub transform-follow-requires-2 : goal.transform-follow-requires-2
transform-follow-requires-2 t c = record { chain_at = chain_at c.descend-below.ensures c.requires.stream_at; node_at = stream_stands (below_at c.descend-below.ensures c.requires.stream_at) (two_go c.args.tables.now c.args.columns.now c.source_count-n.ensures c.own_start-m.ensures (two_left (below_at c.descend-below.ensures c.requires.stream_at) c.source_count-n.ensures c.if-n-eq0.false c.if-n-eq1.false) c.start-mid.ensures c.transform_source-u-2.ensures c.transform_source-u-2.auto.y c.if-y-u-2.false c.transform_source-v.ensures c.if-y-v.false c.transform_source-v.auto.y c.finish-r.auto.y c.finish-r.ensures) }

pub transform-shape_of-y : goal.transform-shape_of-y
transform-shape_of-y t c = c.follow-2.auto.y ∙ (c.finish-r.auto.y ∙ (c.transform_source-v.auto.y ∙ c.transform_source-u-2.auto.y))

pub transform-shape_of-z : goal.transform-shape_of-z
transform-shape_of-z t c = c.transform_source-v.auto.z ∙ c.transform_source-u-2.auto.z

pub transform-shape_of-w : goal.transform-shape_of-w
transform-shape_of-w t c = c.transform_source-v.auto.w ∙ c.transform_source-u-2.auto.w

pub transform-returns : goal.transform-returns
transform-returns t c = chain_go c.descend-below.ensures (two_go c.args.tables.now c.args.columns.now c.source_count-n.ensures c.own_start-m.ensures (two_left (below_at c.descend-below.ensures c.requires.stream_at) c.source_count-n.ensures c.if-n-eq0.false c.if-n-eq1.false) c.start-mid.ensures c.transform_source-u-2.ensures c.transform_source-u-2.auto.y c.if-y-u-2.false c.transform_source-v.ensures c.if-y-v.false c.transform_source-v.auto.y c.finish-r.auto.y c.finish-r.ensures) (c.finish-r.auto.y ∙ (c.transform_source-v.auto.y ∙ c.transform_source-u-2.auto.y)) c.follow-2.auto.y c.follow-2.ensures

pub transform_source-overflow_sub-hi : goal.transform_source-overflow_sub-hi
transform_source-overflow_sub-hi t c = omega (arith, (stream_in c.requires.stream_at).0)

pub transform_source-copy-requires : goal.transform_source-copy-requires
transform_source-copy-requires t c = let (h, k) = stream_in c.requires.stream_at in (omega arith, k)

pub transform_source-returns-then-hi-lo-eq-CELL_WORDS : goal.transform_source-returns-then-hi-lo-eq-CELL_WORDS
transform_source-returns-then-hi-lo-eq-CELL_WORDS t c = one_cell_copied c.if-hi-lo-eq-CELL_WORDS.true c.copy.auto.d c.copy.ensures

pub transform_source-transform-requires : goal.transform_source-transform-requires
transform_source-transform-requires t c = (omega (arith, c.decreases), (c.requires.stream_at, c.requires.z_len))

pub transform_source-returns : goal.transform_source-returns
transform_source-returns t c = c.transform.ensures
