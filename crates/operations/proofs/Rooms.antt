-- The buffers that a sheet is tried in, and what is known of what was answered there.
use Prim.Native.Nat.{ℕ, ◌≤◌}
use mathlib.Core.Path.{◌≡◌, sym, ap, subst}
use mathlib.Core.List.{List}
use Rattle.checker.specs.declared.Answer as Code
use Rattle.optimizer.specs.declared.Chosen.{Chosen}
use Rattle.sheet_passes.specs.Rooms.{RunsIn}
use Rattle.sheet_passes.proofs.Trying.{settles, again}

-- The answer and the output are those of some room, of at most 2,048 cells.
pub record Tried (s : List ℕ) (c : Chosen) (count : ℕ) (out : List ℕ) (a : Code.Answer) (out' : List ℕ) : Type 0 where
  pub room : ℕ
  pub few : room ≤ 2048
  pub runs : RunsIn room s c count out a out'

module _ {s : List ℕ} {c : Chosen} {count : ℕ} {out : List ℕ} where
  -- The answer comes with the room that is tried next.
  pub tried : (room : ℕ) → room ≤ 2048 → {both : Code.Answer × ℕ} {a : Code.Answer} {next : ℕ} {out' out₁ : List ℕ} → both ≡ (a, next) → out' ≡ out₁ → RunsIn room s c count out a out₁
      → Tried s c count out both.0 out'
  tried room few {both} {a} {next} {out'} {out₁} e f h = record {
    room = room;
    few = few;
    runs = subst (λ (z : Code.Answer). RunsIn room s c count out z out') (sym (ap (λ (q : Code.Answer × ℕ). q.0) e)) (subst (λ (z : List ℕ). RunsIn room s c count out a z) (sym f) h);
  }

  pub stays : {a : Code.Answer} {out' : List ℕ} → Tried s c count out a out' → (a.number ≡ 14 → ⊥) → RunsIn 2048 s c count out a out'
  stays {a} {out'} t differs = settles t.room 2048 t.few s c count out a out' differs t.runs

  pub again_in_more : {a : Code.Answer} {out₁ : List ℕ} → Tried s c count out a out₁ → a.number ≡ 14 → (b : Code.Answer) (out₂ : List ℕ) → RunsIn 2048 s c count out₁ b out₂
      → RunsIn 2048 s c count out b out₂
  again_in_more {a} {out₁} t z b out₂ h = again t.room 2048 s c count out a out₁ b out₂ z t.runs h
