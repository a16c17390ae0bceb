use native.Mathlib.Omega.{arith}
use Rattle.ieee754.proofs.WholeRoot.{root_small, stays, moves, turn_as}
use Rattle.ieee754.proofs.whole_root.Goals as goal
use Rattle.ieee754.proofs.whole_root.Goals.{then-root-rest, else-root-rest}

-- `ieee754::whole_root` meets its contract: each turn keeps what `Turn` says, and the last leaves the whole root. Assumes nothing.

pub overflow_mul-rest : goal.overflow_mul-rest
overflow_mul-rest c = let s = root_small c.loop.invariant c.loop-test.true in record { fits = omega arith }

pub overflow_add-rest : goal.overflow_add-rest
overflow_add-rest c = let s = root_small c.loop.invariant c.loop-test.true in record { fits = omega arith }

pub overflow_mul-root-in-loop : goal.overflow_mul-root-in-loop
overflow_mul-root-in-loop c = let s = root_small c.loop.invariant c.loop-test.true in record { fits = omega arith }

pub overflow_mul-rest-then-root-rest : goal.overflow_mul-rest-then-root-rest
overflow_mul-rest-then-root-rest c = let s = root_small c.loop.invariant c.loop-test.true in record { fits = omega arith }

pub overflow_add-rest-then-root-rest : goal.overflow_add-rest-then-root-rest
overflow_add-rest-then-root-rest c = let s = root_small c.loop.invariant c.loop-test.true in record { fits = omega arith }

pub loop-preserved : goal.loop-preserved
loop-preserved c =
    elim c.if-root-rest.branch [ then-root-rest w ↦ turn_as w.root-is w.rest-is (moves c.loop.invariant c.loop-test.true w.if-root-rest.true) | else-root-rest w ↦ turn_as w.root-is w.rest-is (stays c.loop.invariant c.loop-test.true w.if-root-rest.false) ]
