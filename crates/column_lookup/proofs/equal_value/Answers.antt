use Rattle.column_lookup.proofs.Values.{value_written, no_value_written}
use Rattle.column_lookup.proofs.equal_value.Goals as goal

pub returns-then-is_defined : goal.returns-then-is_defined
returns-then-is_defined c = value_written c.is_defined.ensures c.if-is_defined.true c.put.ensures.0

pub returns : goal.returns
returns c = no_value_written c.args.k c.is_defined.ensures c.if-is_defined.false
