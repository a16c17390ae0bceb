use native.Mathlib.Omega.{arith}
use Rattle.words.proofs.Expressions.{at_in, at_last, at_left, at_right, at_operand}
use Rattle.copied_lookups.proofs.Last.{of_equal, of_is, of_none, of_other}
use Rattle.copied_lookups.proofs.is_lookup_of.Goals as goal

pub overflow_sub-end : goal.overflow_sub-end
overflow_sub-end c = let (h, k) = at_in c.requires in omega arith

pub tag_at-requires : goal.tag_at-requires
tag_at-requires c = let (h, k) = at_in c.requires in (omega arith, k)

pub start-mid-requires : goal.start-mid-requires
start-mid-requires c = at_last (omega arith) (omega arith) c.requires

pub cell_at-requires : goal.cell_at-requires
cell_at-requires c = let (h, k) = at_in (at_left (omega arith) (omega arith) c.start-mid.ensures c.requires) in (omega arith, k)

pub cell_at-requires-in-12 : goal.cell_at-requires-in-12
cell_at-requires-in-12 c = let (h, k) = at_in (at_right (omega arith) (omega arith) c.start-mid.ensures c.requires) in (omega arith, k)

pub returns-in-12 : goal.returns-in-12
returns-in-12 c = of_equal c.args.c c.start-mid.ensures (omega arith) c.cell_at.ensures c.cell_at-in-12.ensures c.is_equal_lookup.ensures

pub cell_at-requires-in-31 : goal.cell_at-requires-in-31
cell_at-requires-in-31 c = let (h, k) = at_in (at_operand (omega arith) c.requires) in (omega arith, k)

pub returns-in-31 : goal.returns-in-31
returns-in-31 c = of_is c.args.c (omega arith) (omega arith) c.cell_at-in-31.ensures c.is_column.ensures

pub returns-in_default : goal.returns-in_default
returns-in_default c = of_none c.args.c (λ z. omega arith) (λ z. omega arith) (omega arith)

pub returns-in_default-2 : goal.returns-in_default-2
returns-in_default-2 c = of_other c.args.c (omega arith)
