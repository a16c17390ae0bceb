-- The six plans of all five passes: the one handed in, and the one after each pass.
use Rattle.std.specs.Prelude.{ℕ, zero, suc, ◌<◌, List, [], ◌∷◌, ◌≡◌, refl, get_or}
use Rattle.std.proofs.Common.{sym, ap, ◌∙◌, arith}
use Rattle.sql.specs.Schema.{Schema}
use Rattle.sql.specs.Plan.{Node}
use Rattle.sql.specs.Answer.{done, ◌>>=◌}
use Rattle.sql.specs.Optimizer.{Optimizer, in_turn}
use Rattle.sql.specs.Optimizer as Optimizer
use Rattle.sql.specs.Room
use Rattle.room.specs.Done.{done_same, After, after}

pub record Six (room : ℕ) (schema : Schema) (given optimized : Node) : Type 0 where
  pub plan : ℕ → Node
  pub plan_0 : plan 0 ≡ given
  pub plan_5 : plan 5 ≡ optimized
  pub passed : (k : ℕ) → k < 5 → Room.pass room schema (suc k) (plan k) ≡ done (plan (suc k))

module _ (room : ℕ) (schema : Schema) where
  abbrev from_5 : Optimizer
  from_5 = in_turn (Room.ShortCircuit room schema 0 ∷ [])

  abbrev from_4 : Optimizer
  from_4 n = done (Optimizer.HashJoin schema n) >>= from_5

  abbrev from_3 : Optimizer
  from_3 n = Room.IndexLookup room schema 0 n >>= from_4

  abbrev from_2 : Optimizer
  from_2 n = Room.FilterPushdown room schema 0 n >>= from_3

  -- All five passes that are not refused are the passes one by one.
  pub six : (n m : Node) → Room.optimize room schema n ≡ done m → Six room schema n m
  six n m h =
      let a = after (Room.pass room schema 1 n) from_2 m h in
      let b = after (Room.pass room schema 2 a.of) from_3 m a.second in
      let c = after (Room.pass room schema 3 b.of) from_4 m b.second in
      let e = after (Room.ShortCircuit room schema 0 (Optimizer.HashJoin schema c.of)) done m c.second in
      chain n a.of b.of c.of m a.first b.first c.first (e.first ∙ e.second)
    where
      chain : (p₀ p₁ p₂ p₃ p₅ : Node) → Room.pass room schema 1 p₀ ≡ done p₁ → Room.pass room schema 2 p₁ ≡ done p₂ → Room.pass room schema 3 p₂ ≡ done p₃
          → Room.pass room schema 5 (Optimizer.HashJoin schema p₃) ≡ done p₅ → Six room schema p₀ p₅
      chain p₀ p₁ p₂ p₃ p₅ h₁ h₂ h₃ h₅ = record { plan = plan; plan_0 = refl; plan_5 = refl; passed = passed }
        where
          plan : ℕ → Node
          plan k = get_or (p₀ ∷ p₁ ∷ p₂ ∷ p₃ ∷ Optimizer.HashJoin schema p₃ ∷ []) k p₅

          passed : (k : ℕ) → k < 5 → Room.pass room schema (suc k) (plan k) ≡ done (plan (suc k))
          passed zero i = h₁
          passed (suc zero) i = h₂
          passed (suc (suc zero)) i = h₃
          passed (suc (suc (suc zero))) i = refl
          passed (suc (suc (suc (suc zero)))) i = h₅
          passed (suc (suc (suc (suc (suc k))))) i = absurd (omega arith)
