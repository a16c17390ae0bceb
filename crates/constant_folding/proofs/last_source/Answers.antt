use Rattle.constant_folding.proofs.Nodes.{last_none, last_sized, last_some}
use native.Mathlib.Omega.{arith}
use Rattle.constant_folding.proofs.last_source.Goals as goal

pub returns-then-m-lo : goal.returns-then-m-lo
returns-then-m-lo c = last_none c.if-m-lo.true

pub start-requires : goal.start-requires
start-requires c = last_sized (omega (arith, c.if-m-lo.false)) c.requires

pub returns : goal.returns
returns c = last_some (omega (arith, c.if-m-lo.false)) c.start.ensures
