use Rattle.constant_folding.proofs.Bare.{below_at, below_in, chain_at, folded_at, bare_refused, bare_done}
use Rattle.constant_folding.proofs.Nodes.{node_at, sources_at, own_in, own_at, mid_in, earlier_at, last_at, source_bound, source_none, source_in, source_single, own_refused, earlier_refused, last_refused, node_closed}
use Rattle.std.proofs.lemmas.Result.{err_from_is_err_and}
use native.Mathlib.Omega.{arith}
use mathlib.Core.Path.{◌∙◌}
use Rattle.constant_folding.proofs.+fold_node_fold_source.Goals as goal

pub fold_node-descend_bare-end-requires : goal.fold_node-descend_bare-end-requires
fold_node-descend_bare-end-requires t c = node_at c.requires.source_at.1 c.requires.source_at.0

pub fold_node-own_start-m-requires : goal.fold_node-own_start-m-requires
fold_node-own_start-m-requires t c = node_at (below_in c.descend_bare-end.ensures.down c.requires.source_at.1 c.requires.source_at.0).0 (below_at c.descend_bare-end.ensures.down c.requires.source_at.1 c.requires.source_at.0)

pub fold_node-last_source-mid-requires : goal.fold_node-last_source-mid-requires
fold_node-last_source-mid-requires t c = sources_at c.own_start-m.ensures (below_in c.descend_bare-end.ensures.down c.requires.source_at.1 c.requires.source_at.0).0 (below_at c.descend_bare-end.ensures.down c.requires.source_at.1 c.requires.source_at.0)

pub fold_node-fold_source-requires : goal.fold_node-fold_source-requires
fold_node-fold_source-requires t c = let (i, (j, k)) = own_in c.own_start-m.ensures (below_in c.descend_bare-end.ensures.down c.requires.source_at.1 c.requires.source_at.0).0 (below_at c.descend_bare-end.ensures.down c.requires.source_at.1 c.requires.source_at.0) in let (a, b) = mid_in c.own_start-m.ensures c.last_source-mid.ensures (below_in c.descend_bare-end.ensures.down c.requires.source_at.1 c.requires.source_at.0).0 (below_at c.descend_bare-end.ensures.down c.requires.source_at.1 c.requires.source_at.0) in let (b₁, (b₂, b₃)) = below_in c.descend_bare-end.ensures.down c.requires.source_at.1 c.requires.source_at.0 in (omega (arith, c.decreases), (earlier_at c.own_start-m.ensures c.last_source-mid.ensures (below_in c.descend_bare-end.ensures.down c.requires.source_at.1 c.requires.source_at.0).0 (below_at c.descend_bare-end.ensures.down c.requires.source_at.1 c.requires.source_at.0), (omega (arith, c.requires.lo_in_bounds.0), c.requires.lo_in_bounds.1)))

pub fold_node-fold_source-requires-2 : goal.fold_node-fold_source-requires-2
fold_node-fold_source-requires-2 t c = let (i, (j, k)) = own_in c.own_start-m.ensures (below_in c.descend_bare-end.ensures.down c.requires.source_at.1 c.requires.source_at.0).0 (below_at c.descend_bare-end.ensures.down c.requires.source_at.1 c.requires.source_at.0) in let (a, b) = mid_in c.own_start-m.ensures c.last_source-mid.ensures (below_in c.descend_bare-end.ensures.down c.requires.source_at.1 c.requires.source_at.0).0 (below_at c.descend_bare-end.ensures.down c.requires.source_at.1 c.requires.source_at.0) in let (b₁, (b₂, b₃)) = below_in c.descend_bare-end.ensures.down c.requires.source_at.1 c.requires.source_at.0 in (omega (arith, c.decreases), (last_at c.own_start-m.ensures c.last_source-mid.ensures (below_in c.descend_bare-end.ensures.down c.requires.source_at.1 c.requires.source_at.0).0 (below_at c.descend_bare-end.ensures.down c.requires.source_at.1 c.requires.source_at.0), (omega (arith, c.requires.lo_in_bounds.0, source_bound c.in-Ok.is c.fold_source.ensures, c.fold_source.auto.y), omega (arith, c.requires.lo_in_bounds.1, c.fold_source.auto.y))))

pub fold_node-fold_own-requires : goal.fold_node-fold_own-requires
fold_node-fold_own-requires t c = let (i, (j, k)) = own_in c.own_start-m.ensures (below_in c.descend_bare-end.ensures.down c.requires.source_at.1 c.requires.source_at.0).0 (below_at c.descend_bare-end.ensures.down c.requires.source_at.1 c.requires.source_at.0) in let (a, b) = mid_in c.own_start-m.ensures c.last_source-mid.ensures (below_in c.descend_bare-end.ensures.down c.requires.source_at.1 c.requires.source_at.0).0 (below_at c.descend_bare-end.ensures.down c.requires.source_at.1 c.requires.source_at.0) in let (b₁, (b₂, b₃)) = below_in c.descend_bare-end.ensures.down c.requires.source_at.1 c.requires.source_at.0 in record { own_at = (own_at c.own_start-m.ensures (below_in c.descend_bare-end.ensures.down c.requires.source_at.1 c.requires.source_at.0).0 (below_at c.descend_bare-end.ensures.down c.requires.source_at.1 c.requires.source_at.0)); m_in_bounds = (omega (arith, c.requires.lo_in_bounds.0, source_bound c.in-Ok.is c.fold_source.ensures, source_bound c.in-Ok-fold_source.is c.fold_source-2.ensures, c.fold_source.auto.y, c.fold_source-2.auto.y), omega (arith, c.requires.lo_in_bounds.1, c.fold_source.auto.y, c.fold_source-2.auto.y)) }

pub fold_node-cell_at-requires : goal.fold_node-cell_at-requires
fold_node-cell_at-requires t c = let (i, (j, k)) = own_in c.own_start-m.ensures (below_in c.descend_bare-end.ensures.down c.requires.source_at.1 c.requires.source_at.0).0 (below_at c.descend_bare-end.ensures.down c.requires.source_at.1 c.requires.source_at.0) in (omega arith, omega arith)

pub fold_node-follow-requires : goal.fold_node-follow-requires
fold_node-follow-requires t c = let (b₁, (b₂, b₃)) = below_in c.descend_bare-end.ensures.down c.requires.source_at.1 c.requires.source_at.0 in record { chain_at = chain_at c.descend_bare-end.ensures.down c.requires.source_at.1 c.requires.source_at.0; node_at = λ _. folded_at c.descend_bare-end.ensures.down c.requires.source_at.1 c.requires.source_at.0 (omega (arith, c.requires.lo_in_bounds.0)) (node_closed (below_in c.descend_bare-end.ensures.down c.requires.source_at.1 c.requires.source_at.0).0 c.own_start-m.ensures c.last_source-mid.ensures c.fold_source.ensures c.in-Ok.is c.fold_source-2.ensures c.in-Ok-fold_source.is c.fold_own.ensures c.in_ok-n.was (below_at c.descend_bare-end.ensures.down c.requires.source_at.1 c.requires.source_at.0) (let (b₁, (b₂, b₃)) = below_in c.descend_bare-end.ensures.down c.requires.source_at.1 c.requires.source_at.0 in (omega (arith, c.requires.lo_in_bounds.0), c.requires.lo_in_bounds.1)) (c.fold_own.auto.d ∙ (c.fold_source-2.auto.y ∙ c.fold_source.auto.y)) c.cell_at.ensures c.put-u.ensures.0) }

pub fold_node-refuse-requires-in-Err-fold_source : goal.fold_node-refuse-requires-in-Err-fold_source
fold_node-refuse-requires-in-Err-fold_source t c = let (i, (j, k)) = own_in c.own_start-m.ensures (below_in c.descend_bare-end.ensures.down c.requires.source_at.1 c.requires.source_at.0).0 (below_at c.descend_bare-end.ensures.down c.requires.source_at.1 c.requires.source_at.0) in let (a, b) = mid_in c.own_start-m.ensures c.last_source-mid.ensures (below_in c.descend_bare-end.ensures.down c.requires.source_at.1 c.requires.source_at.0).0 (below_at c.descend_bare-end.ensures.down c.requires.source_at.1 c.requires.source_at.0) in let (b₁, (b₂, b₃)) = below_in c.descend_bare-end.ensures.down c.requires.source_at.1 c.requires.source_at.0 in record { own_at = (own_at c.own_start-m.ensures (below_in c.descend_bare-end.ensures.down c.requires.source_at.1 c.requires.source_at.0).0 (below_at c.descend_bare-end.ensures.down c.requires.source_at.1 c.requires.source_at.0)); m_in_bounds = (omega (arith, c.requires.lo_in_bounds.0, c.fold_source.auto.y, c.fold_source-2.auto.y), omega (arith, c.requires.lo_in_bounds.1, c.fold_source.auto.y, c.fold_source-2.auto.y)) }

pub fold_node-refuse-requires : goal.fold_node-refuse-requires
fold_node-refuse-requires t c = let (i, (j, k)) = own_in c.own_start-m.ensures (below_in c.descend_bare-end.ensures.down c.requires.source_at.1 c.requires.source_at.0).0 (below_at c.descend_bare-end.ensures.down c.requires.source_at.1 c.requires.source_at.0) in let (a, b) = mid_in c.own_start-m.ensures c.last_source-mid.ensures (below_in c.descend_bare-end.ensures.down c.requires.source_at.1 c.requires.source_at.0).0 (below_at c.descend_bare-end.ensures.down c.requires.source_at.1 c.requires.source_at.0) in let (b₁, (b₂, b₃)) = below_in c.descend_bare-end.ensures.down c.requires.source_at.1 c.requires.source_at.0 in record { own_at = (own_at c.own_start-m.ensures (below_in c.descend_bare-end.ensures.down c.requires.source_at.1 c.requires.source_at.0).0 (below_at c.descend_bare-end.ensures.down c.requires.source_at.1 c.requires.source_at.0)); m_in_bounds = (omega (arith, c.requires.lo_in_bounds.0, c.fold_source.auto.y), omega (arith, c.requires.lo_in_bounds.1, c.fold_source.auto.y)) }

pub fold_node-returns : goal.fold_node-returns
fold_node-returns t c = bare_done c.descend_bare-end.ensures.down c.requires.source_at.1 c.requires.lo_in_bounds (c.put-u.auto.d ∙ (c.fold_own.auto.d ∙ (c.fold_source-2.auto.y ∙ c.fold_source.auto.y))) (node_closed (below_in c.descend_bare-end.ensures.down c.requires.source_at.1 c.requires.source_at.0).0 c.own_start-m.ensures c.last_source-mid.ensures c.fold_source.ensures c.in-Ok.is c.fold_source-2.ensures c.in-Ok-fold_source.is c.fold_own.ensures c.in_ok-n.was (below_at c.descend_bare-end.ensures.down c.requires.source_at.1 c.requires.source_at.0) (let (b₁, (b₂, b₃)) = below_in c.descend_bare-end.ensures.down c.requires.source_at.1 c.requires.source_at.0 in (omega (arith, c.requires.lo_in_bounds.0), c.requires.lo_in_bounds.1)) (c.fold_own.auto.d ∙ (c.fold_source-2.auto.y ∙ c.fold_source.auto.y)) c.cell_at.ensures c.put-u.ensures.0) c.follow.ensures c.requires.source_at.0

pub fold_node-returns-in_err-n : goal.fold_node-returns-in_err-n
fold_node-returns-in_err-n t c =
    let same = err_from_is_err_and c.from_residual.result c.from_residual.ensures.1 in
    rw (same.1, same.2) (bare_refused c.descend_bare-end.ensures.down c.requires.source_at.1 (own_refused (below_in c.descend_bare-end.ensures.down c.requires.source_at.1 c.requires.source_at.0).0 c.own_start-m.ensures c.last_source-mid.ensures c.fold_source.ensures c.in-Ok.is c.fold_source-2.ensures c.in-Ok-fold_source.is c.fold_own.ensures c.in_err-n.was))

pub fold_node-returns-in-Err-fold_source : goal.fold_node-returns-in-Err-fold_source
fold_node-returns-in-Err-fold_source t c = bare_refused c.descend_bare-end.ensures.down c.requires.source_at.1 (last_refused (below_in c.descend_bare-end.ensures.down c.requires.source_at.1 c.requires.source_at.0).0 c.own_start-m.ensures c.last_source-mid.ensures c.fold_source.ensures c.in-Ok.is c.fold_source-2.ensures c.in-Err-fold_source.is c.refuse-in-Err-fold_source.ensures)

pub fold_node-returns-in-Err : goal.fold_node-returns-in-Err
fold_node-returns-in-Err t c = bare_refused c.descend_bare-end.ensures.down c.requires.source_at.1 (earlier_refused (below_in c.descend_bare-end.ensures.down c.requires.source_at.1 c.requires.source_at.0).0 c.own_start-m.ensures c.last_source-mid.ensures c.fold_source.ensures c.in-Err.is c.refuse.ensures)

pub fold_source-returns-then-hi-lo : goal.fold_source-returns-then-hi-lo
fold_source-returns-then-hi-lo t c = source_none c.if-hi-lo.true

pub fold_source-copy-requires : goal.fold_source-copy-requires
fold_source-copy-requires t c = source_in c.if-hi-lo.false c.requires.source_at

pub fold_source-returns-then-hi-lo-eq-CELL_WORDS : goal.fold_source-returns-then-hi-lo-eq-CELL_WORDS
fold_source-returns-then-hi-lo-eq-CELL_WORDS t c = source_single c.if-hi-lo-eq-CELL_WORDS.true c.requires.lo_in_bounds c.requires.source_at c.copy.ensures

pub fold_source-fold_node-requires : goal.fold_source-fold_node-requires
fold_source-fold_node-requires t c = (omega (arith, c.decreases), ((c.requires.source_at, c.if-hi-lo.false), c.requires.lo_in_bounds))

pub fold_source-returns : goal.fold_source-returns
fold_source-returns t c = c.fold_node.ensures
