use Rattle.first_lookup.proofs.Leaving.{left_gathered, leaves_and, leaves_one}
use Rattle.first_lookup.specs.First.{marks_in}
use Rattle.cells.specs.Cells.{tag_at}
use Rattle.words.proofs.Expressions.{at_in, at_last, at_left, at_right}
use Prim.Native.Nat.{◌≤◌, ◌<◌}
use native.Mathlib.Omega.{arith}
use mathlib.Core.Path.{sym, ◌∙◌}
use Rattle.first_lookup.proofs.+remaining.Goals as goal

pub tag_at-requires : goal.tag_at-requires
tag_at-requires t c = let (h, k) = at_in c.requires.expression_at in (omega arith, k)

pub overflow_sub-end : goal.overflow_sub-end
overflow_sub-end t c = let (h, k) = at_in c.requires.expression_at in omega arith

pub start-mid-requires : goal.start-mid-requires
start-mid-requires t c = at_last (omega (arith, c.tag_at.ensures, c.if-tag_at-eq-AND.true)) (omega (arith, c.tag_at.ensures, c.if-tag_at-eq-AND.true)) c.requires.expression_at

pub remaining-l-requires : goal.remaining-l-requires
remaining-l-requires t c = let e = c.tag_at.ensures in let g : 10 ≤ tag_at c.args.s.now c.args.hi = omega (arith, e, c.if-tag_at-eq-AND.true) in let f : tag_at c.args.s.now c.args.hi < 30 = omega (arith, e, c.if-tag_at-eq-AND.true) in let l = at_left g f c.start-mid.ensures c.requires.expression_at in let r = at_right g f c.start-mid.ensures c.requires.expression_at in let (h, k) = at_in r in let (h', k') = at_in l in (omega (arith, c.decreases), (l, c.requires.gathered_at))

pub remaining-requires : goal.remaining-requires
remaining-requires t c = let e = c.tag_at.ensures in let g : 10 ≤ tag_at c.args.s.now c.args.hi = omega (arith, e, c.if-tag_at-eq-AND.true) in let f : tag_at c.args.s.now c.args.hi < 30 = omega (arith, e, c.if-tag_at-eq-AND.true) in let l = at_left g f c.start-mid.ensures c.requires.expression_at in let r = at_right g f c.start-mid.ensures c.requires.expression_at in let (h, k) = at_in r in let (h', k') = at_in l in (omega (arith, c.decreases), (r, left_gathered c.args.origin (marks_in c.args.key c.args.columns.now) c.args.met c.requires.gathered_at c.remaining-l.auto.d l c.remaining-l.ensures))

pub returns-then-tag_at-eq-AND : goal.returns-then-tag_at-eq-AND
returns-then-tag_at-eq-AND t c = leaves_and c.args.origin (marks_in c.args.key c.args.columns.now) c.args.met c.start-mid.ensures (sym c.tag_at.ensures ∙ c.if-tag_at-eq-AND.true) c.remaining-l.auto.d c.remaining-l.ensures c.remaining.ensures

pub remaining_one-requires : goal.remaining_one-requires
remaining_one-requires t c = record { expression_at = c.requires.expression_at; gathered_at = c.requires.gathered_at }

pub returns : goal.returns
returns t c = leaves_one c.args.origin (marks_in c.args.key c.args.columns.now) c.args.met (λ z. c.if-tag_at-eq-AND.false (c.tag_at.ensures ∙ z)) c.remaining_one.ensures
