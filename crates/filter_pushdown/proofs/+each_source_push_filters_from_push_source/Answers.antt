use Rattle.filter_pushdown.proofs.Sources.{none_left, own_inside, source_next, source_full, source_fits, source_done, right_end, mid_inside, left_next, left_full, back_inside, right_next, right_full, both_fit, both_done}
use Rattle.push_filters.proofs.Pushing.{pass_at, pass_in, pass_next, buffers_next}
use Rattle.filter_pushdown.proofs.From.{cell_same, from_full, from_again}
use Rattle.filter_pushdown.proofs.Descending.{chain_zero, chain_count, chain_end, chain_next, chain_full, chain_inside, chain_as_long, chain_done}
use Rattle.edit.proofs.Edits.{total}
use Rattle.sql.specs.Room
use native.Mathlib.Omega.{arith}
use Rattle.filter_pushdown.proofs.+each_source_push_filters_from_push_source.Goals as goal

pub each_source-overflow_sub-t : goal.each_source-overflow_sub-t
each_source-overflow_sub-t t c = (pass_in c.requires.pass_at).0

pub each_source-source_count-count-requires : goal.each_source-source_count-count-requires
each_source-source_count-count-requires t c = pass_at c.requires.pass_at

pub each_source-returns-then-count-eq0 : goal.each_source-returns-then-count-eq0
each_source-returns-then-count-eq0 t c = none_left c.args.n c.source_count-count.ensures c.if-count-eq0.true

pub each_source-overflow_sub-t-2 : goal.each_source-overflow_sub-t-2
each_source-overflow_sub-t-2 t c = (pass_in c.requires.pass_at).0

pub each_source-own_start-m-requires : goal.each_source-own_start-m-requires
each_source-own_start-m-requires t c = pass_at c.requires.pass_at

pub each_source-overflow_sub-t-then-count-eq1 : goal.each_source-overflow_sub-t-then-count-eq1
each_source-overflow_sub-t-then-count-eq1 t c = own_inside c.args.n c.source_count-count.ensures c.own_start-m.ensures c.requires.pass_at

pub each_source-push_source-u-requires : goal.each_source-push_source-u-requires
each_source-push_source-u-requires t c = (omega (arith, c.decreases), (source_next c.args.n c.source_count-count.ensures c.own_start-m.ensures c.if-count-eq1.true c.requires.pass_at, c.requires.buffers))

pub each_source-returns-then-x-u : goal.each_source-returns-then-x-u
each_source-returns-then-x-u t c = source_full c.args.n c.source_count-count.ensures c.own_start-m.ensures c.if-count-eq1.true c.push_source-u.ensures c.if-x-u.true

pub each_source-reseal-requires : goal.each_source-reseal-requires
each_source-reseal-requires t c = (source_fits c.args.n c.source_count-count.ensures c.own_start-m.ensures c.if-count-eq1.true c.push_source-u.ensures c.if-x-u.false c.requires.pass_at, c.if-x-u.false)

pub each_source-returns-then-count-eq1 : goal.each_source-returns-then-count-eq1
each_source-returns-then-count-eq1 t c = source_done c.args.n c.source_count-count.ensures c.own_start-m.ensures c.if-count-eq1.true c.push_source-u.ensures c.push_source-u.auto.x c.if-x-u.false c.reseal.auto.x c.reseal.ensures

pub each_source-start-requires : goal.each_source-start-requires
each_source-start-requires t c = right_end c.args.n c.source_count-count.ensures c.own_start-m.ensures c.if-count-eq0.false c.if-count-eq1.false c.requires.pass_at

pub each_source-overflow_sub-back : goal.each_source-overflow_sub-back
each_source-overflow_sub-back t c = mid_inside c.args.n c.source_count-count.ensures c.own_start-m.ensures c.if-count-eq0.false c.if-count-eq1.false c.requires.pass_at c.start.ensures

pub each_source-push_source-u-requires-2 : goal.each_source-push_source-u-requires-2
each_source-push_source-u-requires-2 t c = (omega (arith, c.decreases), (left_next c.args.n c.source_count-count.ensures c.own_start-m.ensures c.if-count-eq0.false c.if-count-eq1.false c.requires.pass_at c.start.ensures, c.requires.buffers))

pub each_source-returns-then-x-u-2 : goal.each_source-returns-then-x-u-2
each_source-returns-then-x-u-2 t c = left_full c.args.n c.source_count-count.ensures c.own_start-m.ensures c.if-count-eq0.false c.if-count-eq1.false c.requires.pass_at c.start.ensures c.push_source-u-2.ensures c.if-x-u-2.true

pub each_source-overflow_sub-u : goal.each_source-overflow_sub-u
each_source-overflow_sub-u t c = back_inside c.args.n c.source_count-count.ensures c.own_start-m.ensures c.if-count-eq0.false c.if-count-eq1.false c.requires.pass_at c.start.ensures c.push_source-u-2.ensures c.if-x-u-2.false c.push_source-u-2.auto.x

pub each_source-overflow_sub-t-3 : goal.each_source-overflow_sub-t-3
each_source-overflow_sub-t-3 t c = own_inside c.args.n c.source_count-count.ensures c.own_start-m.ensures c.requires.pass_at

pub each_source-push_source-v-requires : goal.each_source-push_source-v-requires
each_source-push_source-v-requires t c = (omega (arith, c.decreases), (right_next c.args.n c.source_count-count.ensures c.own_start-m.ensures c.if-count-eq0.false c.if-count-eq1.false c.requires.pass_at c.start.ensures c.push_source-u-2.ensures c.if-x-u-2.false c.push_source-u-2.auto.x, buffers_next c.requires.buffers c.push_source-u-2.auto.x c.push_source-u-2.auto.y c.push_source-u-2.auto.z c.push_source-u-2.auto.w))

pub each_source-returns-then-x-v : goal.each_source-returns-then-x-v
each_source-returns-then-x-v t c = right_full c.args.n c.source_count-count.ensures c.own_start-m.ensures c.if-count-eq0.false c.if-count-eq1.false c.requires.pass_at c.start.ensures c.push_source-u-2.ensures c.if-x-u-2.false c.push_source-u-2.auto.x c.push_source-v.ensures c.if-x-v.true

pub each_source-reseal-requires-2 : goal.each_source-reseal-requires-2
each_source-reseal-requires-2 t c = (both_fit c.args.n c.source_count-count.ensures c.own_start-m.ensures c.if-count-eq0.false c.if-count-eq1.false c.requires.pass_at c.start.ensures c.push_source-u-2.ensures c.if-x-u-2.false c.push_source-u-2.auto.x c.push_source-v.ensures c.if-x-v.false, c.if-x-v.false)

pub each_source-returns : goal.each_source-returns
each_source-returns t c = both_done c.args.n c.source_count-count.ensures c.own_start-m.ensures c.if-count-eq0.false c.if-count-eq1.false c.requires.pass_at c.start.ensures c.push_source-u-2.ensures c.if-x-u-2.false c.push_source-u-2.auto.x c.push_source-v.ensures c.push_source-v.auto.x c.if-x-v.false c.reseal-2.auto.x c.reseal-2.ensures

pub push_filters_from-overflow_sub-t : goal.push_filters_from-overflow_sub-t
push_filters_from-overflow_sub-t t c = (pass_in c.requires.pass_at).0

pub push_filters_from-descend-deep-requires : goal.push_filters_from-descend-deep-requires
push_filters_from-descend-deep-requires t c = pass_at c.requires.pass_at

pub push_filters_from-returns-then-deep-eq0 : goal.push_filters_from-returns-then-deep-eq0
push_filters_from-returns-then-deep-eq0 t c = chain_zero c.args.n c.descend-deep.ensures c.if-deep-eq0.true

pub push_filters_from-overflow_sub-back : goal.push_filters_from-overflow_sub-back
push_filters_from-overflow_sub-back t c = chain_end c.args.n c.descend-deep.ensures c.requires.pass_at

pub push_filters_from-push_filters_in_place-u-requires : goal.push_filters_from-push_filters_in_place-u-requires
push_filters_from-push_filters_in_place-u-requires t c = record { pass_at = chain_next c.args.n c.descend-deep.ensures c.requires.pass_at; buffers = c.requires.buffers }

pub push_filters_from-returns-then-x-u : goal.push_filters_from-returns-then-x-u
push_filters_from-returns-then-x-u t c = chain_full c.args.n c.descend-deep.ensures (from_full c.descend-deep.result.left c.if-deep-eq0.false c.push_filters_in_place-u.ensures c.if-x-u.true) c.if-x-u.true

pub push_filters_from-overflow_sub-deep : goal.push_filters_from-overflow_sub-deep
push_filters_from-overflow_sub-deep t c = omega (arith, c.if-deep-eq0.false)

pub push_filters_from-each_source-v-requires : goal.push_filters_from-each_source-v-requires
push_filters_from-each_source-v-requires t c = (omega (arith, c.decreases, c.if-deep-eq0.false, chain_count c.args.n c.descend-deep.ensures c.requires.pass_at), (pass_next (chain_next c.args.n c.descend-deep.ensures c.requires.pass_at) (λ room schema. Room.push_filters room schema c.descend-deep.result.left) c.push_filters_in_place-u.ensures c.if-x-u.false c.push_filters_in_place-u.auto.x, buffers_next c.requires.buffers c.push_filters_in_place-u.auto.x c.push_filters_in_place-u.auto.y c.push_filters_in_place-u.auto.z c.push_filters_in_place-u.auto.w))

pub push_filters_from-returns-then-x-v : goal.push_filters_from-returns-then-x-v
push_filters_from-returns-then-x-v t c = chain_full c.args.n c.descend-deep.ensures (from_again c.descend-deep.result.left c.if-deep-eq0.false c.push_filters_in_place-u.ensures c.if-x-u.false c.push_filters_in_place-u.auto.x c.each_source-v.ensures) c.if-x-v.true

pub push_filters_from-overflow_sub-v : goal.push_filters_from-overflow_sub-v
push_filters_from-overflow_sub-v t c = (chain_inside c.args.n c.descend-deep.ensures (from_again c.descend-deep.result.left c.if-deep-eq0.false c.push_filters_in_place-u.ensures c.if-x-u.false c.push_filters_in_place-u.auto.x c.each_source-v.ensures) c.if-x-v.false c.requires.pass_at).0

pub push_filters_from-reseal-requires : goal.push_filters_from-reseal-requires
push_filters_from-reseal-requires t c = ((chain_inside c.args.n c.descend-deep.ensures (from_again c.descend-deep.result.left c.if-deep-eq0.false c.push_filters_in_place-u.ensures c.if-x-u.false c.push_filters_in_place-u.auto.x c.each_source-v.ensures) c.if-x-v.false c.requires.pass_at).1.0, ((chain_inside c.args.n c.descend-deep.ensures (from_again c.descend-deep.result.left c.if-deep-eq0.false c.push_filters_in_place-u.ensures c.if-x-u.false c.push_filters_in_place-u.auto.x c.each_source-v.ensures) c.if-x-v.false c.requires.pass_at).1.1, (c.if-x-v.false, omega (arith, c.if-x-v.false, c.each_source-v.auto.x, c.push_filters_in_place-u.auto.x, c.requires.pass_at.short))))

pub push_filters_from-returns-then-v-t : goal.push_filters_from-returns-then-v-t
push_filters_from-returns-then-v-t t c = chain_as_long c.args.n c.descend-deep.ensures (from_again c.descend-deep.result.left c.if-deep-eq0.false c.push_filters_in_place-u.ensures c.if-x-u.false c.push_filters_in_place-u.auto.x c.each_source-v.ensures) c.if-x-v.false c.if-v-t.true

pub push_filters_from-returns : goal.push_filters_from-returns
push_filters_from-returns t c = chain_done c.args.n c.descend-deep.ensures (from_again c.descend-deep.result.left c.if-deep-eq0.false c.push_filters_in_place-u.ensures c.if-x-u.false c.push_filters_in_place-u.auto.x c.each_source-v.ensures) c.if-x-v.false c.reseal.auto.x c.reseal.ensures

pub push_source-overflow_sub-t : goal.push_source-overflow_sub-t
push_source-overflow_sub-t t c = (pass_in c.requires.pass_at).0

pub push_source-overflow_sub-t-2 : goal.push_source-overflow_sub-t-2
push_source-overflow_sub-t-2 t c = omega (arith, total c.requires.pass_at.held.holds)

pub push_source-returns-then-t-tail-eq-CELL_WORDS : goal.push_source-returns-then-t-tail-eq-CELL_WORDS
push_source-returns-then-t-tail-eq-CELL_WORDS t c = cell_same c.args.n c.if-t-tail-eq-CELL_WORDS.true

pub push_source-push_filters_from-requires : goal.push_source-push_filters_from-requires
push_source-push_filters_from-requires t c = (omega (arith, c.decreases), (c.requires.pass_at, c.requires.buffers))

pub push_source-returns : goal.push_source-returns
push_source-returns t c = c.push_filters_from.ensures
