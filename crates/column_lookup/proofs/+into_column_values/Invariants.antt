use lib.ListN.{length}
use Rattle.column_lookup.proofs.+into_column_values.Given as goal

abbrev pub decreases-into_column_values : goal.decreases-into_column_values
decreases-into_column_values l = length l.e.words.now
