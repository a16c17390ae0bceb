use Rattle.hash_join.proofs.Joining.{none_told, pair_told, join_in, predicate_at, rewrites_alone, rewrites_nested, rewrites_hash}
use Prim.Native.Nat.{◌-◌}
use Rattle.words.proofs.Expressions.{at_in}
use Rattle.words.proofs.Stands.{stands_own, said_where_it_stands}
use native.Mathlib.Omega.{arith}
use mathlib.Core.Path.{refl}
use Rattle.hash_join.proofs.hash_join.Goals as goal

pub overflow_sub-end : goal.overflow_sub-end
overflow_sub-end c = let (h, k) = join_in c.requires in omega arith

pub finish-requires : goal.finish-requires
finish-requires c = join_in c.requires

pub returns-then-m-end : goal.returns-then-m-end
returns-then-m-end c = rewrites_alone c.args.n c.if-m-end.true c.finish.ensures

pub invariant_of-predicate : goal.invariant_of-predicate
invariant_of-predicate c = record { stands = stands_own refl ∣ predicate_at c.requires c.if-m-end.false ∣₁ }

pub finish-requires-in_default : goal.finish-requires-in_default
finish-requires-in_default c = join_in c.requires

pub returns-in_default : goal.returns-in_default
returns-in_default c = rewrites_nested c.args.n c.if-m-end.false (said_where_it_stands refl _ c.equijoin-columns.ensures) (none_told c.in_default.is c.one_on_each_side.ensures) c.finish-in_default.ensures

pub cell_at-requires : goal.cell_at-requires
cell_at-requires c = let (h, k) = join_in c.requires in (omega arith, k)

pub returns : goal.returns
returns c = rewrites_hash c.args.n c.if-m-end.false (said_where_it_stands refl _ c.equijoin-columns.ensures) (pair_told c.in-Some.is c.one_on_each_side.ensures) c.cell_at.ensures c.hash_join_cell-cell.ensures c.put.ensures.0

pub offset_bounds-x-m : goal.offset_bounds-x-m
offset_bounds-x-m c = let (h, k) = at_in (predicate_at c.requires c.if-m-end.false) in omega arith

pub slice_bounds-predicate-count : goal.slice_bounds-predicate-count
slice_bounds-predicate-count c = let (h, k) = at_in (predicate_at c.requires c.if-m-end.false) in omega arith

pub slice_bounds-predicate-start : goal.slice_bounds-predicate-start
slice_bounds-predicate-start c = let (h, k) = at_in (predicate_at c.requires c.if-m-end.false) in omega arith
