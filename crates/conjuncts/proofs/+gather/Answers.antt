use Rattle.conjuncts.proofs.Walking.{walk_and, walk_one, chosen_here, not_chosen}
use Rattle.conjuncts.proofs.Appending.{gathered_each}
use Rattle.conjuncts.specs.Conjuncts.{chosen}
use Rattle.sql.specs.Expression.{ands}
use Rattle.sql.specs.Optimizer.{flat_map}
use Rattle.cells.specs.Cells.{tag_at}
use Rattle.words.proofs.Expressions.{at_in, at_last, at_left, at_right}
use Prim.Native.Nat.{◌≤◌, ◌<◌}
use native.Mathlib.Omega.{arith}
use mathlib.Core.Path.{sym, ◌∙◌}
use Rattle.conjuncts.proofs.+gather.Goals as goal

pub tag_at-requires : goal.tag_at-requires
tag_at-requires t c = let (h, k) = at_in c.requires.expression_at in (omega arith, k)

pub overflow_sub-end : goal.overflow_sub-end
overflow_sub-end t c = let (h, k) = at_in c.requires.expression_at in omega arith

pub start-mid-requires : goal.start-mid-requires
start-mid-requires t c = at_last (omega (arith, c.tag_at.ensures, c.if-tag_at-eq-AND.true)) (omega (arith, c.tag_at.ensures, c.if-tag_at-eq-AND.true)) c.requires.expression_at

pub gather-m-requires : goal.gather-m-requires
gather-m-requires t c = let e = c.tag_at.ensures in let g : 10 ≤ tag_at c.args.s.now c.args.hi = omega (arith, e, c.if-tag_at-eq-AND.true) in let f : tag_at c.args.s.now c.args.hi < 30 = omega (arith, e, c.if-tag_at-eq-AND.true) in let l = at_left g f c.start-mid.ensures c.requires.expression_at in let r = at_right g f c.start-mid.ensures c.requires.expression_at in let (h, k) = at_in r in let (h', k') = at_in l in (omega (arith, c.decreases), (l, c.requires.gathered_at))

pub gather-requires : goal.gather-requires
gather-requires t c = let e = c.tag_at.ensures in let g : 10 ≤ tag_at c.args.s.now c.args.hi = omega (arith, e, c.if-tag_at-eq-AND.true) in let f : tag_at c.args.s.now c.args.hi < 30 = omega (arith, e, c.if-tag_at-eq-AND.true) in let l = at_left g f c.start-mid.ensures c.requires.expression_at in let r = at_right g f c.start-mid.ensures c.requires.expression_at in let (h, k) = at_in r in let (h', k') = at_in l in (omega (arith, c.decreases), (r, gathered_each c.requires.gathered_at c.gather-m.auto.d l c.args.origin (λ e. flat_map (chosen c.args.to c.args.n c.args.shift) (ands e)) c.gather-m.ensures))

pub returns-then-tag_at-eq-AND : goal.returns-then-tag_at-eq-AND
returns-then-tag_at-eq-AND t c = walk_and c.args.origin (chosen c.args.to c.args.n c.args.shift) c.gather-m.auto.d c.start-mid.ensures (sym c.tag_at.ensures ∙ c.if-tag_at-eq-AND.true) c.gather-m.ensures c.gather.ensures

pub returns-then-goes : goal.returns-then-goes
returns-then-goes t c = walk_one c.args.origin (chosen c.args.to c.args.n c.args.shift) (λ z. c.if-tag_at-eq-AND.false (c.tag_at.ensures ∙ z)) (chosen_here c.args.to c.args.n c.args.shift c.goes.ensures c.args.origin c.if-goes.true c.append.ensures)

pub returns : goal.returns
returns t c = walk_one c.args.origin (chosen c.args.to c.args.n c.args.shift) (λ z. c.if-tag_at-eq-AND.false (c.tag_at.ensures ∙ z)) (not_chosen c.args.to c.args.n c.args.shift c.goes.ensures c.args.origin c.if-goes.false)
