use Rattle.copied_lookups.specs.Copies.{ending}
use Rattle.copied_lookups.proofs.Last.{last_later, last_earlier, last_one}
use Rattle.words.proofs.Expressions.{at_in, at_last, at_left, at_right}
use native.Mathlib.Omega.{arith}
use borrow.Author.Rules.{rules}
use Rattle.copied_lookups.proofs.+last_end.Goals as goal

pub tag_at-requires : goal.tag_at-requires
tag_at-requires t c = let (h, k) = at_in c.requires in (omega arith, k)

pub overflow_sub-end : goal.overflow_sub-end
overflow_sub-end t c = let (h, k) = at_in c.requires in omega arith

pub start-mid-requires : goal.start-mid-requires
start-mid-requires t c = at_last (omega arith) (omega arith) c.requires

pub last_end-requires : goal.last_end-requires
last_end-requires t c = let l = at_left (omega arith) (omega arith) c.start-mid.ensures c.requires in let r = at_right (omega arith) (omega arith) c.start-mid.ensures c.requires in let (h, k) = at_in r in let (h', k') = at_in l in (omega (arith, c.decreases), search rules)

pub returns-in-Some : goal.returns-in-Some
returns-in-Some t c = last_later c.args.c c.start-mid.ensures (omega arith) c.last_end.result c.in-Some.is c.last_end.ensures

pub last_end-requires-then-tag_at-eq-AND : goal.last_end-requires-then-tag_at-eq-AND
last_end-requires-then-tag_at-eq-AND t c = let l = at_left (omega arith) (omega arith) c.start-mid.ensures c.requires in let r = at_right (omega arith) (omega arith) c.start-mid.ensures c.requires in let (h, k) = at_in r in let (h', k') = at_in l in (omega (arith, c.decreases), search rules)

pub returns-then-tag_at-eq-AND : goal.returns-then-tag_at-eq-AND
returns-then-tag_at-eq-AND t c = last_earlier c.args.c c.start-mid.ensures (omega arith) c.last_end.result (ending c.args.s.now c.last_end-then-tag_at-eq-AND.result) c.in_default.is c.last_end.ensures c.last_end-then-tag_at-eq-AND.ensures

pub returns : goal.returns
returns t c = last_one c.args.c (λ z. omega arith) c.requires c.is_lookup_of.result c.is_lookup_of.ensures c.then_some.ensures
