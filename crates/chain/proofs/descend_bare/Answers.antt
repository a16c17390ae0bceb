use Rattle.chain.proofs.Bare.{bare_at, cell_inside, down_bare, own_left}
use Rattle.chain.specs.Chain.{no_more}
use Rattle.nodes.proofs.Own.{has_sources}
use native.Mathlib.Omega.{arith}
use mathlib.Core.Path.{refl}
use Rattle.chain.proofs.descend_bare.Goals as goal

pub loop-end-init : goal.loop-end-init
loop-end-init c = no_more refl

pub source_count-requires : goal.source_count-requires
source_count-requires c = bare_at c.loop-end.invariant c.requires

pub own_trees-requires : goal.own_trees-requires
own_trees-requires c = has_sources c.source_count.ensures (λ z. absurd (omega arith)) (bare_at c.loop-end.invariant c.requires)

pub overflow_sub-end : goal.overflow_sub-end
overflow_sub-end c = cell_inside c.loop-end.invariant c.requires

pub loop-end-smaller : goal.loop-end-smaller
loop-end-smaller c = omega (arith, cell_inside c.loop-end.invariant c.requires)

pub loop-end-preserved : goal.loop-end-preserved
loop-end-preserved c = down_bare c.loop-end.invariant c.requires c.source_count.ensures c.loop-end-test.true c.own_trees.ensures c.if-own_trees-eq0.true

pub returns-else-own_trees-eq0 : goal.returns-else-own_trees-eq0
returns-else-own_trees-eq0 c = own_left c.loop-end.invariant c.source_count.ensures c.loop-end-test.true c.own_trees.ensures c.if-own_trees-eq0.false
