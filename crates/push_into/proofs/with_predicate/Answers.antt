use Rattle.push_into.proofs.Taking.{taker_in, taker_at, flag_small, copies_own, pushes_alone, pushes_both}
use native.Mathlib.Omega.{arith}
use Rattle.push_into.proofs.with_predicate.Goals as goal

pub cell_at-k-requires : goal.cell_at-k-requires
cell_at-k-requires c = let (h, k) = taker_in c.requires.taker_at in (omega arith, k)

pub own_start-own-requires : goal.own_start-own-requires
own_start-own-requires c = taker_at c.requires.taker_at

pub overflow_sub-end : goal.overflow_sub-end
overflow_sub-end c = let (h, k) = taker_in c.requires.taker_at in omega arith

pub overflow_add-with_flag : goal.overflow_add-with_flag
overflow_add-with_flag c = omega (arith, flag_small c.requires.taker_at c.cell_at-k.ensures)

pub returns-then-own-end : goal.returns-then-own-end
returns-then-own-end c = pushes_alone c.cell_at-k.ensures c.own_start-own.ensures c.args.origin c.if-own-end.true c.put.ensures.0

pub copy-m-requires : goal.copy-m-requires
copy-m-requires c = copies_own c.cell_at-k.ensures c.own_start-own.ensures c.requires.taker_at

pub returns : goal.returns
returns c = pushes_both c.cell_at-k.ensures c.own_start-own.ensures c.args.origin c.if-own-end.false c.copy-m.auto.d c.put-n.auto.d c.copy-m.ensures (rw c.new.ensures at c.put-n.ensures.0) c.put-2.ensures.0
