use Rattle.push_filters.proofs.Trying.{own_ends, starts_plain, starts_filter, starts_at, starts_passes}
use Rattle.push_filters.proofs.Pushing.{pass_at, pass_in, buffers_next}
use Rattle.push_into.proofs.Taking.{node_at_in}
use Rattle.sql.specs.Room
use mathlib.Core.Path.{refl, sym, ◌∙◌}
use Rattle.push_filters.proofs.push_filters_in_place.Goals as goal

pub overflow_sub-hi : goal.overflow_sub-hi
overflow_sub-hi c = (pass_in c.requires.pass_at).0

pub tag_at-requires : goal.tag_at-requires
tag_at-requires c = node_at_in (pass_at c.requires.pass_at)

pub own_start-own-requires : goal.own_start-own-requires
own_start-own-requires c = pass_at c.requires.pass_at

pub overflow_sub-hi-then-tag_at-eq-FILTER : goal.overflow_sub-hi-then-tag_at-eq-FILTER
overflow_sub-hi-then-tag_at-eq-FILTER c = (node_at_in (pass_at c.requires.pass_at)).0

pub copy-at-requires : goal.copy-at-requires
copy-at-requires c = own_ends c.own_start-own.ensures (pass_at c.requires.pass_at)

pub origin_at-origin-requires : goal.origin_at-origin-requires
origin_at-origin-requires c = node_at_in (pass_at c.requires.pass_at)

pub push_filters-requires : goal.push_filters-requires
push_filters-requires c = record { tried_at = starts_at (starts_filter (sym c.tag_at.ensures ∙ c.if-tag_at-eq-FILTER.true) c.own_start-own.ensures c.requires.buffers.first c.copy-at.ensures c.origin_at-origin.ensures) c.requires.pass_at; buffers = buffers_next c.requires.buffers refl c.copy-at.auto.d refl refl }

pub shape_of-x-then-tag_at-eq-FILTER : goal.shape_of-x-then-tag_at-eq-FILTER
shape_of-x-then-tag_at-eq-FILTER c = c.push_filters.auto.x

pub shape_of-y-then-tag_at-eq-FILTER : goal.shape_of-y-then-tag_at-eq-FILTER
shape_of-y-then-tag_at-eq-FILTER c = c.push_filters.auto.y ∙ c.copy-at.auto.d

pub shape_of-z-then-tag_at-eq-FILTER : goal.shape_of-z-then-tag_at-eq-FILTER
shape_of-z-then-tag_at-eq-FILTER c = c.push_filters.auto.z

pub shape_of-w-then-tag_at-eq-FILTER : goal.shape_of-w-then-tag_at-eq-FILTER
shape_of-w-then-tag_at-eq-FILTER c = c.push_filters.auto.w

pub returns-then-tag_at-eq-FILTER : goal.returns-then-tag_at-eq-FILTER
returns-then-tag_at-eq-FILTER c = starts_passes (starts_filter (sym c.tag_at.ensures ∙ c.if-tag_at-eq-FILTER.true) c.own_start-own.ensures c.requires.buffers.first c.copy-at.ensures c.origin_at-origin.ensures) (λ room schema. Room.push_filters room schema c.args.n) c.push_filters.ensures

pub push_filters-requires-2 : goal.push_filters-requires-2
push_filters-requires-2 c = record { tried_at = starts_at (starts_plain (λ i. c.if-tag_at-eq-FILTER.false (c.tag_at.ensures ∙ i)) _ _ _) c.requires.pass_at; buffers = c.requires.buffers }

pub shape_of-x : goal.shape_of-x
shape_of-x c = c.push_filters-2.auto.x

pub shape_of-y : goal.shape_of-y
shape_of-y c = c.push_filters-2.auto.y

pub shape_of-z : goal.shape_of-z
shape_of-z c = c.push_filters-2.auto.z

pub shape_of-w : goal.shape_of-w
shape_of-w c = c.push_filters-2.auto.w

pub returns : goal.returns
returns c = starts_passes (starts_plain (λ i. c.if-tag_at-eq-FILTER.false (c.tag_at.ensures ∙ i)) _ _ _) (λ room schema. Room.push_filters room schema c.args.n) c.push_filters-2.ensures
