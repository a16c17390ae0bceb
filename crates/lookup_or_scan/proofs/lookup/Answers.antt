use Rattle.lookup_or_scan.proofs.Looking.{looks_full, looks, values_count}
use Rattle.words.proofs.Stands.{stands_own, said_where_it_stands}
use native.Mathlib.Omega.{arith}
use mathlib.Core.Path.{refl}
use Rattle.lookup_or_scan.proofs.lookup.Goals as goal

pub invariant_of-conjunct : goal.invariant_of-conjunct
invariant_of-conjunct c = record { stands = stands_own refl ∣ c.requires.expression_at ∣₁ }

pub returns-then-y-n : goal.returns-then-y-n
returns-then-y-n c = looks_full (said_where_it_stands refl _ c.into_column_values-n.ensures) c.args.scan c.args.key c.args.found.column (omega (arith, c.if-y-n.true, c.into_column_values-n.auto.d))

pub overflow_sub-constants : goal.overflow_sub-constants
overflow_sub-constants c = let (h, k) = values_count (said_where_it_stands refl _ c.into_column_values-n.ensures) (omega (arith, c.if-y-n.false)) c.requires.expression_at in omega arith

pub lookup_cell-requires : goal.lookup_cell-requires
lookup_cell-requires c = let (h, k) = values_count (said_where_it_stands refl _ c.into_column_values-n.ensures) (omega (arith, c.if-y-n.false)) c.requires.expression_at in (omega (arith, c.requires.c_bound.0), omega (arith, c.requires.c_bound.1))

pub returns : goal.returns
returns c = looks (said_where_it_stands refl _ c.into_column_values-n.ensures) (omega (arith, c.if-y-n.false)) c.args.scan c.args.key c.args.found.column c.into_column_values-n.auto.d c.lookup_cell.ensures c.put.ensures.0
