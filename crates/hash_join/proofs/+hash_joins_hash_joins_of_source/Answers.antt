use Rattle.nodes.proofs.Widths.{columns_node, counted_as, two_left, source_in, source_columns_at, join_sized, sources_in, left_columns_at, right_columns_at}
use Rattle.words.proofs.Nodes.{node_in}
use Rattle.stream.proofs.Sources.{one_cell}
use Rattle.hash_join.proofs.Joining.{writes_leaf, writes_over, writes_join, columns_both, join_at, count_few}
use Prim.Native.Nat.{◌-◌}
use native.Mathlib.Omega.{arith}
use mathlib.Core.Path.{refl}
use Rattle.hash_join.proofs.+hash_joins_hash_joins_of_source.Goals as goal

pub hash_joins-source_count-sources-requires : goal.hash_joins-source_count-sources-requires
hash_joins-source_count-sources-requires t c = columns_node c.requires

pub hash_joins-columns-columns-requires : goal.hash_joins-columns-columns-requires
hash_joins-columns-columns-requires t c = c.requires

pub hash_joins-copy-end-requires : goal.hash_joins-copy-end-requires
hash_joins-copy-end-requires t c = let (h, k) = node_in c.requires.p c.requires.here in (omega arith, k)

pub hash_joins-returns-then-sources-eq0 : goal.hash_joins-returns-then-sources-eq0
hash_joins-returns-then-sources-eq0 t c = record { writes = writes_leaf c.source_count-sources.ensures c.if-sources-eq0.true c.copy-end.ensures; column_count = c.columns-columns.ensures }

pub hash_joins-own_start-m-requires : goal.hash_joins-own_start-m-requires
hash_joins-own_start-m-requires t c = columns_node c.requires

pub hash_joins-hash_joins_of_source-s-requires : goal.hash_joins-hash_joins_of_source-s-requires
hash_joins-hash_joins_of_source-s-requires t c = let d = counted_as c.source_count-sources.ensures c.if-sources-eq1.true in let (h, k) = source_in d c.own_start-m.ensures (columns_node c.requires) in (omega (arith, c.decreases), source_columns_at d c.own_start-m.ensures c.requires)

pub hash_joins-over_columns-columns-requires : goal.hash_joins-over_columns-columns-requires
hash_joins-over_columns-columns-requires t c = record { columns_at = c.requires; source_count = counted_as c.source_count-sources.ensures c.if-sources-eq1.true; own_start = c.own_start-m.ensures; column_count = c.hash_joins_of_source-s.ensures.column_count }

pub hash_joins-finish-end-requires : goal.hash_joins-finish-end-requires
hash_joins-finish-end-requires t c = let (h, k) = source_in (counted_as c.source_count-sources.ensures c.if-sources-eq1.true) c.own_start-m.ensures (columns_node c.requires) in (k, (node_in c.requires.p c.requires.here).1)

pub hash_joins-returns-then-sources-eq1 : goal.hash_joins-returns-then-sources-eq1
hash_joins-returns-then-sources-eq1 t c = record { writes = writes_over c.source_count-sources.ensures c.own_start-m.ensures c.if-sources-eq1.true c.hash_joins_of_source-s.auto.y c.hash_joins_of_source-s.ensures.writes c.finish-end.ensures; column_count = c.over_columns-columns.ensures }

pub hash_joins-start-mid-requires : goal.hash_joins-start-mid-requires
hash_joins-start-mid-requires t c = join_sized (two_left c.source_count-sources.ensures c.if-sources-eq0.false c.if-sources-eq1.false) c.own_start-m.ensures (columns_node c.requires)

pub hash_joins-hash_joins_of_source-l-requires : goal.hash_joins-hash_joins_of_source-l-requires
hash_joins-hash_joins_of_source-l-requires t c = let d = two_left c.source_count-sources.ensures c.if-sources-eq0.false c.if-sources-eq1.false in let (h, (k, i)) = sources_in d c.own_start-m.ensures c.start-mid.ensures (columns_node c.requires) in (omega (arith, c.decreases), left_columns_at d c.own_start-m.ensures c.start-mid.ensures c.requires)

pub hash_joins-hash_joins_of_source-r-requires : goal.hash_joins-hash_joins_of_source-r-requires
hash_joins-hash_joins_of_source-r-requires t c = let d = two_left c.source_count-sources.ensures c.if-sources-eq0.false c.if-sources-eq1.false in let (h, (k, i)) = sources_in d c.own_start-m.ensures c.start-mid.ensures (columns_node c.requires) in (omega (arith, c.decreases), right_columns_at d c.own_start-m.ensures c.start-mid.ensures c.requires)

pub hash_joins-hash_join-end-requires : goal.hash_joins-hash_join-end-requires
hash_joins-hash_join-end-requires t c = join_at (two_left c.source_count-sources.ensures c.if-sources-eq0.false c.if-sources-eq1.false) c.own_start-m.ensures refl c.requires

pub hash_joins-overflow_add-result : goal.hash_joins-overflow_add-result
hash_joins-overflow_add-result t c = let d = two_left c.source_count-sources.ensures c.if-sources-eq0.false c.if-sources-eq1.false in omega (arith, count_few (left_columns_at d c.own_start-m.ensures c.start-mid.ensures c.requires) c.hash_joins_of_source-l.ensures.column_count, count_few (right_columns_at d c.own_start-m.ensures c.start-mid.ensures c.requires) c.hash_joins_of_source-r.ensures.column_count)

pub hash_joins-returns : goal.hash_joins-returns
hash_joins-returns t c = let d = two_left c.source_count-sources.ensures c.if-sources-eq0.false c.if-sources-eq1.false in record { writes = writes_join d c.own_start-m.ensures refl c.start-mid.ensures c.hash_joins_of_source-l.ensures.column_count c.hash_joins_of_source-l.auto.y c.hash_joins_of_source-r.auto.y c.hash_joins_of_source-l.ensures.writes c.hash_joins_of_source-r.ensures.writes c.hash_join-end.ensures; column_count = columns_both d c.own_start-m.ensures refl c.start-mid.ensures c.hash_joins_of_source-l.ensures.column_count c.hash_joins_of_source-r.ensures.column_count }

pub hash_joins_of_source-overflow_sub-hi : goal.hash_joins_of_source-overflow_sub-hi
hash_joins_of_source-overflow_sub-hi t c = omega (arith, (node_in c.requires.p c.requires.here).0)

pub hash_joins_of_source-columns-columns-requires : goal.hash_joins_of_source-columns-columns-requires
hash_joins_of_source-columns-columns-requires t c = c.requires

pub hash_joins_of_source-copy-end-requires : goal.hash_joins_of_source-copy-end-requires
hash_joins_of_source-copy-end-requires t c = let (h, k) = node_in c.requires.p c.requires.here in (omega arith, k)

pub hash_joins_of_source-returns-then-hi-lo-eq-CELL_WORDS : goal.hash_joins_of_source-returns-then-hi-lo-eq-CELL_WORDS
hash_joins_of_source-returns-then-hi-lo-eq-CELL_WORDS t c = record { writes = writes_leaf (one_cell c.if-hi-lo-eq-CELL_WORDS.true) refl c.copy-end.ensures; column_count = c.columns-columns.ensures }

pub hash_joins_of_source-hash_joins-requires : goal.hash_joins_of_source-hash_joins-requires
hash_joins_of_source-hash_joins-requires t c = (omega (arith, c.decreases), c.requires)

pub hash_joins_of_source-returns : goal.hash_joins_of_source-returns
hash_joins_of_source-returns t c = record { writes = c.hash_joins.ensures.writes; column_count = c.hash_joins.ensures.column_count }
