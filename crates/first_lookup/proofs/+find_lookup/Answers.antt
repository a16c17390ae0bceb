use Rattle.first_lookup.proofs.Finding.{first_earlier, first_later, first_one}
use Rattle.first_lookup.specs.First.{marks_in}
use Rattle.words.proofs.Expressions.{at_in, at_last, at_left, at_right}
use native.Mathlib.Omega.{arith}
use borrow.Author.Rules.{rules}
use Rattle.first_lookup.proofs.+find_lookup.Goals as goal

pub tag_at-requires : goal.tag_at-requires
tag_at-requires t c = let (h, k) = at_in c.requires in (omega arith, k)

pub overflow_sub-end : goal.overflow_sub-end
overflow_sub-end t c = let (h, k) = at_in c.requires in omega arith

pub start-mid-requires : goal.start-mid-requires
start-mid-requires t c = at_last (omega arith) (omega arith) c.requires

pub find_lookup-requires : goal.find_lookup-requires
find_lookup-requires t c = let l = at_left (omega arith) (omega arith) c.start-mid.ensures c.requires in let r = at_right (omega arith) (omega arith) c.start-mid.ensures c.requires in let (h, k) = at_in r in let (h', k') = at_in l in (omega (arith, c.decreases), search rules)

pub returns-in-Some : goal.returns-in-Some
returns-in-Some t c = first_earlier (marks_in c.args.key c.args.columns.now) c.start-mid.ensures (omega arith) c.in-Some.is c.find_lookup.ensures

pub find_lookup-requires-then-tag_at-eq-AND : goal.find_lookup-requires-then-tag_at-eq-AND
find_lookup-requires-then-tag_at-eq-AND t c = let l = at_left (omega arith) (omega arith) c.start-mid.ensures c.requires in let r = at_right (omega arith) (omega arith) c.start-mid.ensures c.requires in let (h, k) = at_in r in let (h', k') = at_in l in (omega (arith, c.decreases), search rules)

pub returns-then-tag_at-eq-AND : goal.returns-then-tag_at-eq-AND
returns-then-tag_at-eq-AND t c = first_later (marks_in c.args.key c.args.columns.now) c.start-mid.ensures (omega arith) c.find_lookup-then-tag_at-eq-AND.result c.in_default.is c.find_lookup.ensures c.find_lookup-then-tag_at-eq-AND.ensures

pub find_one-requires : goal.find_one-requires
find_one-requires t c = c.requires

pub returns : goal.returns
returns t c = first_one (marks_in c.args.key c.args.columns.now) (λ z. omega arith) c.find_one.ensures
