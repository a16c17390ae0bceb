use Prim.Native.Nat.{◌+◌}
use Rattle.push_filters.proofs.+maybe_push_filter_push_filters.Given as goal

abbrev pub decreases-maybe_push_filter : goal.decreases-maybe_push_filter
decreases-maybe_push_filter l = l.n + l.n

abbrev pub decreases-push_filters : goal.decreases-push_filters
decreases-push_filters l = l.n + l.n + 1
