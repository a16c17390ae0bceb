-- A pass by its number, and a choice of passes.
use Prim.Native.Nat.{ℕ}
use mathlib.Core.Path.{◌≡◌, sym, subst}
use mathlib.Core.List.{List}
use Rattle.sql.specs.Schema.{Schema}
use Rattle.sql.specs.Room
use Rattle.passes.specs.Passes.{Runs, Passed}
use Rattle.optimizer.specs.declared.Chosen.{Chosen}
use Rattle.optimizer.specs.Choices.{chosen}

module _ {G : Schema → List ℕ → Type 0} (x : List ℕ) (t : ℕ) (d : List ℕ) (r : Passed) where
  pub by_number : (k j : ℕ) → k ≡ j → Runs G (λ room schema p. Room.pass room schema j p) x t d r → Runs G (λ room schema p. Room.pass room schema k p) x t d r
  by_number k j e h = subst (λ (i : ℕ). Runs G (λ room schema p. Room.pass room schema i p) x t d r) (sym e) h

  pub by_choice : (c b : Chosen) → c ≡ b → Runs G (chosen b) x t d r → Runs G (chosen c) x t d r
  by_choice c b e h = subst (λ (i : Chosen). Runs G (chosen i) x t d r) (sym e) h
