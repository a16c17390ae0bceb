use Rattle.split_join.proofs.Splitting.{cell_there, flag_least, rejoin_full, rejoin_none, rejoin_some}
use native.Mathlib.Omega.{arith}
use Rattle.split_join.proofs.rejoin.Goals as goal

pub returns-then-d-at : goal.returns-then-d-at
returns-then-d-at c = rejoin_full c.if-d-at.true

pub cell_at-c-requires : goal.cell_at-c-requires
cell_at-c-requires c = cell_there c.requires

pub overflow_sub-without_flag : goal.overflow_sub-without_flag
overflow_sub-without_flag c = omega (arith, flag_least c.cell_at-c.ensures c.requires)

pub shape_of-d-then-at-mid : goal.shape_of-d-then-at-mid
shape_of-d-then-at-mid c = c.put.auto.d

pub returns-then-at-mid : goal.returns-then-at-mid
returns-then-at-mid c = rejoin_none c.if-d-at.false c.cell_at-c.ensures c.if-at-mid.true c.put.ensures.0

pub shape_of-d : goal.shape_of-d
shape_of-d c = c.put-2.auto.d

pub returns : goal.returns
returns c = rejoin_some c.if-d-at.false c.cell_at-c.ensures c.if-at-mid.false c.put-2.ensures.0
