-- `decode::put_over` meets its contract. Assumes nothing.
use Rattle.decode.proofs.Laws.{put_said}
use Rattle.decode.proofs.put_over.Goals as goal

pub returns : goal.returns
returns c =
    put_said c.args.k c.start_of-lo.ensures c.put.ensures.0
