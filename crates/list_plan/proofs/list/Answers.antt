-- `list_plan::list` meets its contract: what all five passes hand out can be listed, and the lines are those of the definition.
use Prim.Native.Nat.{ℕ}
use native.Mathlib.Omega.{arith}
use mathlib.Core.Path.{sym}
use lib.ListN.{length-replicate}
use lib.Seq.{length-take-le}
use Rattle.list_plan.proofs.Handed.{outcome_whole, outcome_within, refusal_listed, sheet_listed}
use Rattle.list_plan.proofs.list.Goals as goal

pub returns-then-answer-ne0 : goal.returns-then-answer-ne0
returns-then-answer-ne0 c = refusal_listed c.args.s.now (λ i. omega (arith, c.shared_slice_known-1.given i)) _ _ c.optimize-answer.ensures (omega (arith, length-replicate {A = ℕ} 45332 0)) c.refusal_line.auto.d (omega arith) (omega arith) c.refusal_line.ensures

pub slice_bounds-sheet-end : goal.slice_bounds-sheet-end
slice_bounds-sheet-end c = outcome_within c.args.s.now (λ i. omega (arith, c.shared_slice_known-1.given i)) _ _ c.optimize-answer.ensures (omega (arith, length-replicate {A = ℕ} 45332 0)) (omega arith)

pub slice_bounds-listing-end : goal.slice_bounds-listing-end
slice_bounds-listing-end c = sym (length-take-le _ _ (outcome_within c.args.s.now (λ i. omega (arith, c.shared_slice_known-1.given i)) _ _ c.optimize-answer.ensures (omega (arith, length-replicate {A = ℕ} 45332 0)) (omega arith)))

pub listing-requires : goal.listing-requires
listing-requires c = outcome_whole c.args.s.now (λ i. omega (arith, c.shared_slice_known-1.given i)) _ _ c.optimize-answer.ensures (omega (arith, length-replicate {A = ℕ} 45332 0)) (omega arith)

pub returns : goal.returns
returns c = sheet_listed c.args.s.now (λ i. omega (arith, c.shared_slice_known-1.given i)) _ _ c.optimize-answer.ensures (omega (arith, length-replicate {A = ℕ} 45332 0)) c.listing.auto.d (omega arith) (omega arith) c.listing.ensures
