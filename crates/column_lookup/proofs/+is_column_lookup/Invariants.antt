use lib.ListN.{length}
use Rattle.column_lookup.proofs.+is_column_lookup.Given as goal

abbrev pub decreases-is_column_lookup : goal.decreases-is_column_lookup
decreases-is_column_lookup l = length l.e.words.now
