use Rattle.sql.specs.Room
use Prim.Native.Nat.{◌+◌, ◌*◌}
use Rattle.filter_pushdown.proofs.+each_source_push_filters_from_push_source.Given as goal

abbrev pub decreases-each_source : goal.decreases-each_source
decreases-each_source l = 3 * l.n + 2

abbrev pub decreases-push_filters_from : goal.decreases-push_filters_from
decreases-push_filters_from l = 3 * l.n

abbrev pub decreases-push_source : goal.decreases-push_source
decreases-push_source l = 3 * l.n + 1
