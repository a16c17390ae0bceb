use Rattle.constant_folding.proofs.Nodes.{refuses_then, refuses_first}
use Rattle.constant_folding.proofs.refuse.Goals as goal

pub fold_own-requires : goal.fold_own-requires
fold_own-requires c = record { own_at = c.requires.own_at; m_in_bounds = c.requires.m_in_bounds }

pub returns-in-Ok : goal.returns-in-Ok
returns-in-Ok c = refuses_then c.fold_own.ensures c.in-Ok.is

pub returns-in-Err : goal.returns-in-Err
returns-in-Err c = refuses_first c.fold_own.ensures c.in-Err.is
