use Rattle.chain.proofs.Writing.{copy_up, chain_in, written_in, follows_none, follows_full, follows_long, follows_same, follows_done}
use native.Mathlib.Omega.{arith}
use borrow.Author.Rules.{rules}
use Rattle.chain.proofs.follow.Goals as goal

pub returns-then-hi-end : goal.returns-then-hi-end
returns-then-hi-end c = follows_none c.if-hi-end.true

pub copy-n-requires : goal.copy-n-requires
copy-n-requires c = chain_in c.requires.chain_at

pub returns-then-y-n : goal.returns-then-y-n
returns-then-y-n c = follows_full c.copy-n.auto.d c.copy-n.ensures c.if-y-n.true

pub returns-then-n-gt4294967295 : goal.returns-then-n-gt4294967295
returns-then-n-gt4294967295 c = follows_long c.copy-n.auto.d c.copy-n.ensures (chain_in c.requires.chain_at).0 (chain_in c.requires.chain_at).1 c.if-y-n.false (omega arith) (omega arith)

pub offset_bounds-x-hi : goal.offset_bounds-x-hi
offset_bounds-x-hi c = let (h, k) = chain_in c.requires.chain_at in search rules

pub bounds-x-hi : goal.bounds-x-hi
bounds-x-hi c = let (h, k) = chain_in c.requires.chain_at in search rules

pub overflow_sub-n : goal.overflow_sub-n
overflow_sub-n c = let e = copy_up c.copy-n.ensures (chain_in c.requires.chain_at).0 (chain_in c.requires.chain_at).1 (omega (arith, c.copy-n.auto.d, c.if-y-n.false)) in omega (arith, written_in c.requires.node_at (omega (arith, c.copy-n.auto.d, c.if-y-n.false)))

pub returns-then-x-hi : goal.returns-then-x-hi
returns-then-x-hi c = follows_same c.copy-n.auto.d c.copy-n.ensures (chain_in c.requires.chain_at).0 (chain_in c.requires.chain_at).1 c.if-y-n.false c.if-x-hi.true

pub reseal-requires : goal.reseal-requires
reseal-requires c = let e = copy_up c.copy-n.ensures (chain_in c.requires.chain_at).0 (chain_in c.requires.chain_at).1 (omega (arith, c.copy-n.auto.d, c.if-y-n.false)) in (written_in c.requires.node_at (omega (arith, c.copy-n.auto.d, c.if-y-n.false)), (omega (arith, e), (c.if-y-n.false, omega arith)))

pub returns : goal.returns
returns c = follows_done c.copy-n.auto.d c.copy-n.ensures (chain_in c.requires.chain_at).0 (chain_in c.requires.chain_at).1 c.if-y-n.false c.reseal.auto.x c.reseal.ensures
