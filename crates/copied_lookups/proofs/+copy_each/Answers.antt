use Rattle.copied_lookups.specs.Copies.{conjuncts_of, copies}
use Rattle.conjuncts.proofs.Walking.{walk_and, walk_one}
use Rattle.copied_lookups.proofs.Copying.{copies_gathered}
use Rattle.cells.specs.Cells.{tag_at}
use Rattle.words.proofs.Expressions.{at_in, at_last, at_left, at_right}
use Prim.Native.Nat.{◌≤◌, ◌<◌}
use native.Mathlib.Omega.{arith}
use mathlib.Core.Path.{sym, ◌∙◌}
use Rattle.copied_lookups.proofs.+copy_each.Goals as goal

pub tag_at-requires : goal.tag_at-requires
tag_at-requires t c = let (h, k) = at_in c.requires.expression_at in (omega arith, k)

pub overflow_sub-end : goal.overflow_sub-end
overflow_sub-end t c = let (h, k) = at_in c.requires.expression_at in omega arith

pub start-mid-requires : goal.start-mid-requires
start-mid-requires t c = at_last (omega (arith, c.tag_at.ensures, c.if-tag_at-eq-AND.true)) (omega (arith, c.tag_at.ensures, c.if-tag_at-eq-AND.true)) c.requires.expression_at

pub copy_each-m-requires : goal.copy_each-m-requires
copy_each-m-requires t c = let e = c.tag_at.ensures in let g : 10 ≤ tag_at c.args.s.now c.args.hi = omega (arith, e, c.if-tag_at-eq-AND.true) in let f : tag_at c.args.s.now c.args.hi < 30 = omega (arith, e, c.if-tag_at-eq-AND.true) in let l = at_left g f c.start-mid.ensures c.requires.expression_at in let r = at_right g f c.start-mid.ensures c.requires.expression_at in let (h, k) = at_in r in let (h', k') = at_in l in (omega (arith, c.decreases), (l, (c.requires.optional_at, c.requires.gathered_at)))

pub copy_each-requires : goal.copy_each-requires
copy_each-requires t c = let e = c.tag_at.ensures in let g : 10 ≤ tag_at c.args.s.now c.args.hi = omega (arith, e, c.if-tag_at-eq-AND.true) in let f : tag_at c.args.s.now c.args.hi < 30 = omega (arith, e, c.if-tag_at-eq-AND.true) in let l = at_left g f c.start-mid.ensures c.requires.expression_at in let r = at_right g f c.start-mid.ensures c.requires.expression_at in let (h, k) = at_in r in let (h', k') = at_in l in (omega (arith, c.decreases), (r, (c.requires.optional_at, copies_gathered c.args.origin c.args.into c.args.n c.args.shift c.requires.gathered_at c.copy_each-m.auto.d l c.requires.optional_at c.copy_each-m.ensures)))

pub returns-then-tag_at-eq-AND : goal.returns-then-tag_at-eq-AND
returns-then-tag_at-eq-AND t c = λ o u. walk_and c.args.origin (copies c.args.into c.args.n c.args.shift (conjuncts_of o)) c.copy_each-m.auto.d c.start-mid.ensures (sym c.tag_at.ensures ∙ c.if-tag_at-eq-AND.true) (c.copy_each-m.ensures o u) (c.copy_each.ensures o u)

pub copy_conjunct-requires : goal.copy_conjunct-requires
copy_conjunct-requires t c = record { expression_at = c.requires.expression_at; optional_at = c.requires.optional_at; gathered_at = c.requires.gathered_at }

pub returns : goal.returns
returns t c = λ o u. walk_one c.args.origin (copies c.args.into c.args.n c.args.shift (conjuncts_of o)) (λ z. c.if-tag_at-eq-AND.false (c.tag_at.ensures ∙ z)) (c.copy_conjunct.ensures o u)
