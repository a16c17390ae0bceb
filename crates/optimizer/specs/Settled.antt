-- A run in a small room that isn't refused for room, by 14, gives what a run in more room gives: a plan (crate room, Larger) or the refusal of a fold.
use Rattle.std.specs.Prelude.{ℕ, zero, suc, ◌≤◌, ◌≡◌, refl, List, [], ◌∷◌}
use Rattle.std.proofs.Common.{arith, ap, sym, ◌∙◌}
use Rattle.sql.specs.Schema.{Schema}
use Rattle.sql.specs.Plan.{Node}
use Rattle.sql.specs.Answer.{Answer, done, refused, ◌>>=◌}
use Rattle.sql.specs.Optimizer.{ConstantFolding, Optimizer, in_turn}
use Rattle.sql.specs.Optimizer as Optimizer
use Rattle.sql.specs.Room
use Rattle.room.specs.Larger.{pass_larger, optimize_larger}
use Rattle.sound.specs.Refusals.{RefusedBy}
use Rattle.sound.proofs.Refusals.{refused_then, pushdown_refused, lookup_refused, circuit_refused}

-- not refused by 14
abbrev pub Settled : Answer Node → Type 0
Settled (done m) = Unit {0}
Settled (refused number place) = number ≡ 14 → ⊥

for_room : {A : Type 0} (r : Answer Node) → RefusedBy (λ k. k ≡ 14) r → (number place : ℕ) → r ≡ refused number place → (number ≡ 14 → ⊥) → A
for_room (done m) h number place e ne = absurd (let z : ◌≡◌ {A = ℕ} 0 1 = cc in omega arith)
for_room (refused k p) h number place e ne = absurd (ne (let z : k ≡ number = cc in omega (arith, z, h)))

-- the passes from the second, the third and the fourth on
abbrev pub from_hash : ℕ → Schema → List Optimizer
from_hash r schema = (λ n. done (Optimizer.HashJoin schema n)) ∷ Room.ShortCircuit r schema 0 ∷ []

abbrev pub from_lookup : ℕ → Schema → List Optimizer
from_lookup r schema = Room.IndexLookup r schema 0 ∷ from_hash r schema

abbrev pub from_pushdown : ℕ → Schema → List Optimizer
from_pushdown r schema = Room.FilterPushdown r schema 0 ∷ from_lookup r schema

module _ (room more : ℕ) (larger : room ≤ more) (schema : Schema) where
  later_refused : (n : Node) → RefusedBy (λ k. k ≡ 14) (in_turn (from_pushdown room schema) n)
  later_refused n =
      refused_then (λ k. k ≡ 14) (Room.FilterPushdown room schema 0 n) _ (pushdown_refused room schema 0 n)
      (λ a. refused_then (λ k. k ≡ 14) (Room.IndexLookup room schema 0 a) _ (lookup_refused room schema 0 a)
      (λ b. refused_then (λ k. k ≡ 14) (Room.ShortCircuit room schema 0 (Optimizer.HashJoin schema b)) _ (circuit_refused room schema 0 (Optimizer.HashJoin schema b)) (λ c. tt)))

  fold_settled : (r : Answer Node) (number place : ℕ) → (r >>= in_turn (from_pushdown room schema)) ≡ refused number place → (number ≡ 14 → ⊥)
      → (r >>= in_turn (from_pushdown more schema)) ≡ refused number place
  fold_settled (done m) number place e ne = for_room (in_turn (from_pushdown room schema) m) (later_refused m) number place e ne
  fold_settled (refused k p) number place e ne = e

  pub optimize_settled : (n : Node) (r : Answer Node) → Room.optimize room schema n ≡ r → Settled r → Room.optimize more schema n ≡ r
  optimize_settled n (done m) e h = optimize_larger room more larger schema n m e
  optimize_settled n (refused number place) e h = fold_settled (ConstantFolding 0 n) number place e h

  pass_refused_settled : (k : ℕ) (n : Node) (number place : ℕ) → Room.pass room schema k n ≡ refused number place → (number ≡ 14 → ⊥)
      → Room.pass more schema k n ≡ refused number place
  pass_refused_settled zero n number place e h = e
  pass_refused_settled (suc zero) n number place e h = e
  pass_refused_settled (suc (suc zero)) n number place e h = for_room (Room.FilterPushdown room schema 0 n) (pushdown_refused room schema 0 n) number place e h
  pass_refused_settled (suc (suc (suc zero))) n number place e h = for_room (Room.IndexLookup room schema 0 n) (lookup_refused room schema 0 n) number place e h
  pass_refused_settled (suc (suc (suc (suc zero)))) n number place e h = e
  pass_refused_settled (suc (suc (suc (suc (suc zero))))) n number place e h = for_room (Room.ShortCircuit room schema 0 n) (circuit_refused room schema 0 n) number place e h
  pass_refused_settled (suc (suc (suc (suc (suc (suc k)))))) n number place e h = e

  pub pass_settled : (k : ℕ) (n : Node) (r : Answer Node) → Room.pass room schema k n ≡ r → Settled r → Room.pass more schema k n ≡ r
  pass_settled k n (done m) e h = pass_larger room more larger schema k n m e
  pass_settled k n (refused number place) e h = pass_refused_settled k n number place e h
