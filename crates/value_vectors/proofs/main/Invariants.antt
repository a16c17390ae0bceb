-- At most as many vectors differ as were read.
use Rattle.std.proofs.Common.{◌-◌, ◌≤◌}
use Rattle.value_vectors.proofs.main.Given as goal

abbrev pub invariant-loop-count : goal.invariant-loop-count
invariant-loop-count l = l.different ≤ l.count

abbrev pub decreases-loop-count : goal.decreases-loop-count
decreases-loop-count l = 1000000000 - l.count
