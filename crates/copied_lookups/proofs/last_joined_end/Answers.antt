use Rattle.copied_lookups.specs.Copies.{ending}
use Rattle.copied_lookups.proofs.Last.{last_one, right_part, found_later, searched_one}
use Rattle.words.proofs.Expressions.{at_in, at_last}
use native.Mathlib.Omega.{arith}
use Rattle.copied_lookups.proofs.last_joined_end.Goals as goal

pub tag_at-requires : goal.tag_at-requires
tag_at-requires c = let (h, k) = at_in c.loop-end.invariant.left in (omega arith, k)

pub overflow_sub-end : goal.overflow_sub-end
overflow_sub-end c = let (h, k) = at_in c.loop-end.invariant.left in omega arith

pub start-mid-requires : goal.start-mid-requires
start-mid-requires c = at_last (omega arith) (omega arith) c.loop-end.invariant.left

pub conjunct_end-requires : goal.conjunct_end-requires
conjunct_end-requires c = right_part c.args.c c.loop-end.invariant (omega arith) c.start-mid.ensures

pub returns-in-Some : goal.returns-in-Some
returns-in-Some c = found_later c.args.c c.loop-end.invariant (omega arith) c.start-mid.ensures c.conjunct_end.result c.in-Some.is c.conjunct_end.ensures

pub loop-end-smaller : goal.loop-end-smaller
loop-end-smaller c = let (h, k) = at_in (right_part c.args.c c.loop-end.invariant (omega arith) c.start-mid.ensures) in omega arith

pub loop-end-preserved : goal.loop-end-preserved
loop-end-preserved c = searched_one c.args.c c.loop-end.invariant (omega arith) c.start-mid.ensures c.conjunct_end.result c.in_default.is c.conjunct_end.ensures

pub returns : goal.returns
returns c = let i = c.loop-end.invariant in i.last (ending c.args.s.now c.then_some.result) (last_one c.args.c (λ z. omega arith) i.left c.is_lookup_of.result c.is_lookup_of.ensures c.then_some.ensures)
