use Rattle.remove_useless.proofs.Items.{unasked_all, unasked_none, unasked_ends, unasked_stops, unasked_long, unasked_next}
use Rattle.remove_useless.proofs.pass_through.Goals as goal

pub loop-i-init : goal.loop-i-init
loop-i-init c = λ items p e. unasked_all items p e

pub item_passes-requires : goal.item_passes-requires
item_passes-requires c = unasked_ends c.requires.items c.loop-i-test.true (c.loop-i.invariant c.requires.items c.requires.part c.requires.count)

pub overflow_sub-end : goal.overflow_sub-end
overflow_sub-end c = unasked_long c.requires.items c.loop-i-test.true (c.loop-i.invariant c.requires.items c.requires.part c.requires.count) c.item_passes.ensures c.if-not-item_passes.false

pub loop-i-preserved : goal.loop-i-preserved
loop-i-preserved c = λ items p e. unasked_next items c.loop-i-test.true (c.loop-i.invariant items p e) c.item_passes.ensures c.if-not-item_passes.false

pub returns-then-not-item_passes : goal.returns-then-not-item_passes
returns-then-not-item_passes c = λ items p e. unasked_stops items c.loop-i-test.true (c.loop-i.invariant items p e) c.item_passes.ensures c.if-not-item_passes.true

pub returns : goal.returns
returns c = λ items p e. unasked_none items c.loop-i-test.false (c.loop-i.invariant items p e)
