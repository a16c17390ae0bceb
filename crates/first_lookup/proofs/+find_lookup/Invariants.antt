use Prim.Native.Nat.{◌-◌}
use Rattle.first_lookup.proofs.+find_lookup.Given as goal

abbrev pub decreases-find_lookup : goal.decreases-find_lookup
decreases-find_lookup l = l.hi - l.lo
