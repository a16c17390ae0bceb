-- `structure::reduced_any` meets its contract: children are taken off group by group, and the cell's sort is put in their place.
-- Assumes nothing.
use native.Mathlib.Omega.{arith}
use Rattle.structure.proofs.Stack.{no_higher, lacks_aggs, lacks_parts, lacks_nodes, lacks_sort, rest_low, lacks_none}
use Rattle.structure.proofs.reduced_any.Goals as goal

pub returns-in_err-below : goal.returns-in_err-below
returns-in_err-below c = rw c.from_residual.ensures (lacks_aggs c.args.k c.children_of-asked.ensures c.taken.ensures c.in_err-below.was)

pub taken-requires-2 : goal.taken-requires-2
taken-requires-2 c = omega (arith, no_higher c.taken.ensures c.in_ok-below.was)

pub returns-in_err-low : goal.returns-in_err-low
returns-in_err-low c = rw c.from_residual-in_err-low.ensures (lacks_parts c.args.k c.children_of-asked.ensures c.taken.ensures c.in_ok-below.was c.taken-2.ensures c.in_err-low.was)

pub taken-requires-3 : goal.taken-requires-3
taken-requires-3 c = omega (arith, no_higher c.taken.ensures c.in_ok-below.was, no_higher c.taken-2.ensures c.in_ok-low.was)

pub returns-in_err-rest : goal.returns-in_err-rest
returns-in_err-rest c =
    rw c.from_residual-in_err-rest.ensures
    (lacks_nodes c.args.k c.children_of-asked.ensures c.taken.ensures c.in_ok-below.was c.taken-2.ensures c.in_ok-low.was c.taken-3.ensures c.in_err-rest.was)

pub returns-in_err-stack : goal.returns-in_err-stack
returns-in_err-stack c =
    rw c.from_residual-in_err-stack.ensures
    (lacks_sort c.args.k c.children_of-asked.ensures c.taken.ensures c.in_ok-below.was c.taken-2.ensures c.in_ok-low.was c.taken-3.ensures c.in_ok-rest.was (rw c.in_err-stack.was at c.sort_of.ensures))

pub bounds-stack-rest : goal.bounds-stack-rest
bounds-stack-rest c =
    omega (
      arith,
      rest_low c.args.k c.children_of-asked.ensures c.taken.ensures c.in_ok-below.was
          c.taken-2.ensures c.in_ok-low.was c.taken-3.ensures c.in_ok-rest.was,
    )

pub overflow_add-result : goal.overflow_add-result
overflow_add-result c =
    omega (
      arith,
      rest_low c.args.k c.children_of-asked.ensures c.taken.ensures c.in_ok-below.was
          c.taken-2.ensures c.in_ok-low.was c.taken-3.ensures c.in_ok-rest.was,
    )

pub returns : goal.returns
returns c =
    lacks_none c.args.k c.children_of-asked.ensures c.taken.ensures c.in_ok-below.was
    c.taken-2.ensures c.in_ok-low.was c.taken-3.ensures
    c.in_ok-rest.was (omega arith) (rw c.in_ok-stack.was at c.sort_of.ensures)
