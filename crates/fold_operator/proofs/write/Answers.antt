-- `fold_operator::write` meets its contract.
use Rattle.fold_operator.proofs.Steps.{value_written, error_written}
use Rattle.fold_operator.proofs.write.Goals as goal

pub returns-in-Ok : goal.returns-in-Ok
returns-in-Ok c = value_written c.args.place c.args.origin c.in-Ok.v c.cell_of.ensures c.put.ensures.0 c.args.r c.in-Ok.is

pub returns-in-Err : goal.returns-in-Err
returns-in-Err c = error_written c.args.place c.args.origin c.in-Err.error c.args.r c.in-Err.is
