use Rattle.fold_parts.proofs.Own.{own_node, own_in, own_folded, own_copied, own_parts_at}
use native.Mathlib.Omega.{arith}
use Rattle.fold_parts.proofs.fold_own.Goals as goal

pub is_visited-requires : goal.is_visited-requires
is_visited-requires c = own_node c.requires.own_at

pub overflow_sub-hi : goal.overflow_sub-hi
overflow_sub-hi c = let (i, (j, k)) = own_in c.requires.own_at in omega arith

pub fold_parts-requires : goal.fold_parts-requires
fold_parts-requires c = let (i, (j, k)) = own_in c.requires.own_at in record { parts_at = own_parts_at c.is_visited.ensures c.if-is_visited.true c.requires.own_at; lo_in_bounds = (omega (arith, c.requires.m_in_bounds.0), c.requires.m_in_bounds.1) }

pub returns-then-is_visited : goal.returns-then-is_visited
returns-then-is_visited c = own_folded c.requires.own_at.own c.is_visited.ensures c.if-is_visited.true c.fold_parts.ensures

pub overflow_sub-hi-2 : goal.overflow_sub-hi-2
overflow_sub-hi-2 c = let (i, (j, k)) = own_in c.requires.own_at in omega arith

pub copy-requires : goal.copy-requires
copy-requires c = let (i, (j, k)) = own_in c.requires.own_at in (omega arith, omega arith)

pub returns : goal.returns
returns c = own_copied c.requires.own_at.own c.is_visited.ensures c.if-is_visited.false c.requires.own_at c.requires.m_in_bounds c.copy.ensures
