use Prim.Native.Nat.{◌+◌, ◌-◌, ◌*◌}
use Rattle.hash_join.proofs.+hash_joins_hash_joins_of_source.Given as goal

abbrev pub decreases-hash_joins : goal.decreases-hash_joins
decreases-hash_joins l = 2 * l.hi

abbrev pub decreases-hash_joins_of_source : goal.decreases-hash_joins_of_source
decreases-hash_joins_of_source l = 2 * l.hi + 1
