use Rattle.stream.proofs.Streams.{stream_node, stream_in}
use Rattle.lookup_step.proofs.Steps.{leaf_copied, filter_at, filtered_at, leaf_refused, leaf_looked}
use Rattle.words.proofs.Expressions.{at_in}
use Rattle.words.proofs.Stands.{stands_own, said_where_it_stands}
use native.Mathlib.Omega.{arith}
use mathlib.Core.Path.{refl, sym, ◌∙◌}
use Rattle.lookup_step.proofs.index_lookup.Goals as goal

pub has_filter-requires : goal.has_filter-requires
has_filter-requires c = stream_node c.requires.stream_at

pub overflow_sub-filter : goal.overflow_sub-filter
overflow_sub-filter c = let (h, k) = stream_in c.requires.stream_at in omega arith

pub into_cnf-m-requires : goal.into_cnf-m-requires
into_cnf-m-requires c = (c.requires.z_len.0 ∙ sym c.requires.z_len.1, omega (arith, c.requires.stream_at.short_out, c.requires.z_len.1))

pub returns-then-w-m : goal.returns-then-w-m
returns-then-w-m c = leaf_refused c.has_filter.ensures c.requires.source_count c.if-has_filter.true (said_where_it_stands refl _ c.into_cnf-m.ensures) (c.into_cnf-m.auto.w ∙ c.requires.z_len.1) c.if-w-m.true

pub lookup_in_table-n-requires : goal.lookup_in_table-n-requires
lookup_in_table-n-requires c = filtered_at c.has_filter.ensures c.requires.source_count c.if-has_filter.true c.requires.stream_at (said_where_it_stands refl _ c.into_cnf-m.ensures) c.if-w-m.false

pub returns-then-has_filter : goal.returns-then-has_filter
returns-then-has_filter c = leaf_looked c.has_filter.ensures c.requires.source_count c.if-has_filter.true (said_where_it_stands refl _ c.into_cnf-m.ensures) (c.into_cnf-m.auto.w ∙ c.requires.z_len.1) c.if-w-m.false c.lookup_in_table-n.auto.y c.lookup_in_table-n.ensures c.in_room.ensures

pub copy-requires : goal.copy-requires
copy-requires c = let (h, k) = stream_in c.requires.stream_at in (omega arith, k)

pub returns : goal.returns
returns c = leaf_copied c.has_filter.ensures c.requires.source_count c.if-has_filter.false c.copy.auto.d c.copy.ensures

pub invariant_of-filter : goal.invariant_of-filter
invariant_of-filter c = record { stands = stands_own refl ∣ filter_at c.has_filter.ensures c.requires.source_count c.if-has_filter.true c.requires.stream_at ∣₁ }

pub slice_bounds-filter-count : goal.slice_bounds-filter-count
slice_bounds-filter-count c = let (h, k) = at_in (filter_at c.has_filter.ensures c.requires.source_count c.if-has_filter.true c.requires.stream_at) in omega arith

pub slice_bounds-filter-start : goal.slice_bounds-filter-start
slice_bounds-filter-start c = let (h, k) = at_in (filter_at c.has_filter.ensures c.requires.source_count c.if-has_filter.true c.requires.stream_at) in omega arith
