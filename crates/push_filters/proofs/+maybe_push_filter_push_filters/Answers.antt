use Rattle.push_filters.proofs.Trying.{own_ends, tried_below, tried_in, tried_predicate, merges_filter, merges_into, filter_last, filter_stays, no_filter, merged_at, merged_tries, push_full, push_next, push_again}
use Rattle.push_filters.proofs.Pushing.{buffers_next}
use Rattle.push_into.proofs.Taking.{node_at_in, taker}
use native.Mathlib.Omega.{arith}
use mathlib.Core.Path.{refl, sym, ◌∙◌}
use Rattle.push_filters.proofs.+maybe_push_filter_push_filters.Goals as goal

pub maybe_push_filter-returns-then-at-eq0 : goal.maybe_push_filter-returns-then-at-eq0
maybe_push_filter-returns-then-at-eq0 t c = no_filter c.args.n c.if-at-eq0.true

pub maybe_push_filter-filter_over-requires : goal.maybe_push_filter-filter_over-requires
maybe_push_filter-filter_over-requires t c = let (a, b) = tried_in c.if-at-eq0.false c.requires.tried_at in record { lo_le_end = a; tail_bound = b; y_len = c.requires.buffers.first }

pub maybe_push_filter-shape_of-x-then-n-eq0 : goal.maybe_push_filter-shape_of-x-then-n-eq0
maybe_push_filter-shape_of-x-then-n-eq0 t c = c.filter_over.auto.x

pub maybe_push_filter-shape_of-y-then-n-eq0 : goal.maybe_push_filter-shape_of-y-then-n-eq0
maybe_push_filter-shape_of-y-then-n-eq0 t c = c.filter_over.auto.y

pub maybe_push_filter-returns-then-n-eq0 : goal.maybe_push_filter-returns-then-n-eq0
maybe_push_filter-returns-then-n-eq0 t c = filter_last c.if-at-eq0.false c.args.n c.filter_over.auto.x c.filter_over.ensures c.if-n-eq0.true

pub maybe_push_filter-tag_at-requires : goal.maybe_push_filter-tag_at-requires
maybe_push_filter-tag_at-requires t c = node_at_in (tried_below c.if-at-eq0.false c.requires.tried_at)

pub maybe_push_filter-own_start-own-requires : goal.maybe_push_filter-own_start-own-requires
maybe_push_filter-own_start-own-requires t c = tried_below c.if-at-eq0.false c.requires.tried_at

pub maybe_push_filter-overflow_sub-end : goal.maybe_push_filter-overflow_sub-end
maybe_push_filter-overflow_sub-end t c = (node_at_in (tried_below c.if-at-eq0.false c.requires.tried_at)).0

pub maybe_push_filter-gather-more-requires : goal.maybe_push_filter-gather-more-requires
maybe_push_filter-gather-more-requires t c = own_ends c.own_start-own.ensures (tried_below c.if-at-eq0.false c.requires.tried_at)

pub maybe_push_filter-origin_at-below-requires : goal.maybe_push_filter-origin_at-below-requires
maybe_push_filter-origin_at-below-requires t c = node_at_in (tried_below c.if-at-eq0.false c.requires.tried_at)

pub maybe_push_filter-overflow_sub-n : goal.maybe_push_filter-overflow_sub-n
maybe_push_filter-overflow_sub-n t c = omega (arith, c.if-n-eq0.false)

pub maybe_push_filter-push_filters-requires : goal.maybe_push_filter-push_filters-requires
maybe_push_filter-push_filters-requires t c = (omega (arith, c.decreases, c.if-n-eq0.false), (merged_at c.if-at-eq0.false refl (merges_filter c.if-at-eq0.false (sym c.tag_at.ensures ∙ c.if-tag_at-eq-FILTER.true) c.own_start-own.ensures c.requires.buffers.first c.gather-more.ensures c.origin_at-below.ensures) c.requires.tried_at, buffers_next c.requires.buffers refl c.gather-more.auto.y refl refl))

pub maybe_push_filter-shape_of-x-then-tag_at-eq-FILTER : goal.maybe_push_filter-shape_of-x-then-tag_at-eq-FILTER
maybe_push_filter-shape_of-x-then-tag_at-eq-FILTER t c = c.push_filters.auto.x

pub maybe_push_filter-shape_of-y-then-tag_at-eq-FILTER : goal.maybe_push_filter-shape_of-y-then-tag_at-eq-FILTER
maybe_push_filter-shape_of-y-then-tag_at-eq-FILTER t c = c.push_filters.auto.y ∙ c.gather-more.auto.y

pub maybe_push_filter-shape_of-z-then-tag_at-eq-FILTER : goal.maybe_push_filter-shape_of-z-then-tag_at-eq-FILTER
maybe_push_filter-shape_of-z-then-tag_at-eq-FILTER t c = c.push_filters.auto.z

pub maybe_push_filter-shape_of-w-then-tag_at-eq-FILTER : goal.maybe_push_filter-shape_of-w-then-tag_at-eq-FILTER
maybe_push_filter-shape_of-w-then-tag_at-eq-FILTER t c = c.push_filters.auto.w

pub maybe_push_filter-returns-then-tag_at-eq-FILTER : goal.maybe_push_filter-returns-then-tag_at-eq-FILTER
maybe_push_filter-returns-then-tag_at-eq-FILTER t c = merged_tries c.if-at-eq0.false refl (merges_filter c.if-at-eq0.false (sym c.tag_at.ensures ∙ c.if-tag_at-eq-FILTER.true) c.own_start-own.ensures c.requires.buffers.first c.gather-more.ensures c.origin_at-below.ensures) c.args.n c.if-n-eq0.false c.push_filters.ensures

pub maybe_push_filter-takes-requires : goal.maybe_push_filter-takes-requires
maybe_push_filter-takes-requires t c = tried_below c.if-at-eq0.false c.requires.tried_at

pub maybe_push_filter-push_into-into-requires : goal.maybe_push_filter-push_into-into-requires
maybe_push_filter-push_into-into-requires t c = record { taker_at = taker (tried_below c.if-at-eq0.false c.requires.tried_at) c.takes.ensures c.if-takes.true; predicate_written = tried_predicate c.if-at-eq0.false c.requires.tried_at; tail_bound = (tried_in c.if-at-eq0.false c.requires.tried_at).1; y_len = c.requires.buffers.first }

pub maybe_push_filter-overflow_sub-n-then-takes : goal.maybe_push_filter-overflow_sub-n-then-takes
maybe_push_filter-overflow_sub-n-then-takes t c = omega (arith, c.if-n-eq0.false)

pub maybe_push_filter-push_filters-requires-then-takes : goal.maybe_push_filter-push_filters-requires-then-takes
maybe_push_filter-push_filters-requires-then-takes t c = (omega (arith, c.decreases, c.if-n-eq0.false), (merged_at c.if-at-eq0.false c.push_into-into.auto.x (merges_into c.if-at-eq0.false (λ i. c.if-tag_at-eq-FILTER.false (c.tag_at.ensures ∙ i)) c.takes.ensures c.if-takes.true c.push_into-into.auto.x c.push_into-into.ensures _ _ _) c.requires.tried_at, buffers_next c.requires.buffers c.push_into-into.auto.x c.push_into-into.auto.y refl refl))

pub maybe_push_filter-shape_of-x-then-takes : goal.maybe_push_filter-shape_of-x-then-takes
maybe_push_filter-shape_of-x-then-takes t c = c.push_filters-then-takes.auto.x ∙ c.push_into-into.auto.x

pub maybe_push_filter-shape_of-y-then-takes : goal.maybe_push_filter-shape_of-y-then-takes
maybe_push_filter-shape_of-y-then-takes t c = c.push_filters-then-takes.auto.y ∙ c.push_into-into.auto.y

pub maybe_push_filter-shape_of-z-then-takes : goal.maybe_push_filter-shape_of-z-then-takes
maybe_push_filter-shape_of-z-then-takes t c = c.push_filters-then-takes.auto.z

pub maybe_push_filter-shape_of-w-then-takes : goal.maybe_push_filter-shape_of-w-then-takes
maybe_push_filter-shape_of-w-then-takes t c = c.push_filters-then-takes.auto.w

pub maybe_push_filter-returns-then-takes : goal.maybe_push_filter-returns-then-takes
maybe_push_filter-returns-then-takes t c = merged_tries c.if-at-eq0.false c.push_into-into.auto.x (merges_into c.if-at-eq0.false (λ i. c.if-tag_at-eq-FILTER.false (c.tag_at.ensures ∙ i)) c.takes.ensures c.if-takes.true c.push_into-into.auto.x c.push_into-into.ensures _ _ _) c.args.n c.if-n-eq0.false c.push_filters-then-takes.ensures

pub maybe_push_filter-filter_over-requires-2 : goal.maybe_push_filter-filter_over-requires-2
maybe_push_filter-filter_over-requires-2 t c = let (a, b) = tried_in c.if-at-eq0.false c.requires.tried_at in record { lo_le_end = a; tail_bound = b; y_len = c.requires.buffers.first }

pub maybe_push_filter-shape_of-x : goal.maybe_push_filter-shape_of-x
maybe_push_filter-shape_of-x t c = c.filter_over-2.auto.x

pub maybe_push_filter-shape_of-y : goal.maybe_push_filter-shape_of-y
maybe_push_filter-shape_of-y t c = c.filter_over-2.auto.y

pub maybe_push_filter-returns : goal.maybe_push_filter-returns
maybe_push_filter-returns t c = filter_stays c.if-at-eq0.false c.args.n c.filter_over-2.auto.x c.filter_over-2.ensures c.takes.ensures c.if-takes.false

pub push_filters-maybe_push_filter-pushed-requires : goal.push_filters-maybe_push_filter-pushed-requires
push_filters-maybe_push_filter-pushed-requires t c = (omega (arith, c.decreases), (c.requires.tried_at, c.requires.buffers))

pub push_filters-shape_of-x-then-x-pushed : goal.push_filters-shape_of-x-then-x-pushed
push_filters-shape_of-x-then-x-pushed t c = c.maybe_push_filter-pushed.auto.x

pub push_filters-shape_of-y-then-x-pushed : goal.push_filters-shape_of-y-then-x-pushed
push_filters-shape_of-y-then-x-pushed t c = c.maybe_push_filter-pushed.auto.y

pub push_filters-shape_of-z-then-x-pushed : goal.push_filters-shape_of-z-then-x-pushed
push_filters-shape_of-z-then-x-pushed t c = c.maybe_push_filter-pushed.auto.z

pub push_filters-shape_of-w-then-x-pushed : goal.push_filters-shape_of-w-then-x-pushed
push_filters-shape_of-w-then-x-pushed t c = c.maybe_push_filter-pushed.auto.w

pub push_filters-returns-then-x-pushed : goal.push_filters-returns-then-x-pushed
push_filters-returns-then-x-pushed t c = push_full c.args.n c.maybe_push_filter-pushed.ensures c.if-x-pushed.true

pub push_filters-maybe_push_join-requires : goal.push_filters-maybe_push_join-requires
push_filters-maybe_push_join-requires t c = record { pass_at = push_next c.args.n c.maybe_push_filter-pushed.ensures c.if-x-pushed.false c.maybe_push_filter-pushed.auto.x c.requires.tried_at; y_len = c.maybe_push_filter-pushed.auto.y ∙ c.requires.buffers.first ∙ sym c.maybe_push_filter-pushed.auto.x; z_len = c.maybe_push_filter-pushed.auto.z ∙ c.requires.buffers.second ∙ sym c.maybe_push_filter-pushed.auto.x; w_len = c.maybe_push_filter-pushed.auto.w ∙ c.requires.buffers.third ∙ sym c.maybe_push_filter-pushed.auto.x }

pub push_filters-shape_of-x : goal.push_filters-shape_of-x
push_filters-shape_of-x t c = c.maybe_push_join.auto.x ∙ c.maybe_push_filter-pushed.auto.x

pub push_filters-shape_of-y : goal.push_filters-shape_of-y
push_filters-shape_of-y t c = c.maybe_push_join.auto.y ∙ c.maybe_push_filter-pushed.auto.y

pub push_filters-shape_of-z : goal.push_filters-shape_of-z
push_filters-shape_of-z t c = c.maybe_push_join.auto.z ∙ c.maybe_push_filter-pushed.auto.z

pub push_filters-shape_of-w : goal.push_filters-shape_of-w
push_filters-shape_of-w t c = c.maybe_push_join.auto.w ∙ c.maybe_push_filter-pushed.auto.w

pub push_filters-returns : goal.push_filters-returns
push_filters-returns t c = push_again c.args.n c.maybe_push_filter-pushed.ensures c.if-x-pushed.false c.maybe_push_filter-pushed.auto.x c.maybe_push_join.ensures.passes
