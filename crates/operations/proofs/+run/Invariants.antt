use Prim.Native.Nat.{◌-◌}
use Rattle.operations.proofs.+run.Given as goal

abbrev pub decreases-run : goal.decreases-run
decreases-run l = 2048 - l.cells
