use Rattle.column_lookup.proofs.Values.{null_written, nan_written}
use Rattle.column_lookup.proofs.is_value.Goals as goal

pub returns-in-31 : goal.returns-in-31
returns-in-31 c = null_written c.args.origin c.in-31.is (rw c.new.ensures at c.put.ensures.0)

pub returns-in-32 : goal.returns-in-32
returns-in-32 c = nan_written c.args.origin c.in-32.is (rw c.new-in-32.ensures at c.put-in-32.ensures.0)
