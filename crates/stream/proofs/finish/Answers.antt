use Rattle.stream.proofs.Streams.{finished}
use Prim.Native.Nat.{◌-◌}
use Rattle.stream.proofs.finish.Goals as goal

pub returns : goal.returns
returns c = finished c.copy-end.auto.d c.copy-end.ensures c.cell_at.ensures c.put.ensures
