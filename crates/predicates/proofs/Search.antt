-- What `any` answers of a plan's cells, and what the answer says of the plan.
use Prim.Native.Nat.{ℕ, zero, suc, ◌-◌, ◌*◌, ◌/◌, ◌%◌, ◌≤◌, ◌<◌}
use native.Mathlib.Omega.{arith}
use mathlib.Core.Bool.{Bool, true, false, ◌&&◌, ◌||◌}
use mathlib.Core.Path.{◌≡◌, refl, sym, ap, ◌∙◌, subst}
use mathlib.Core.List.{List, [], ◌∷◌}
use lib.Dec.{eqb}
use lib.ListN.{length, take, get_or}
use Rattle.std.specs.Simd.{first_chunks}
use Rattle.std.proofs.lemmas.List.Recursion.{or_is}
use Rattle.words.proofs.EachCell.{some_cell}
use borrow.Author.Tests.{eq-eqb, ne_eqb}
use Rattle.cells.specs.Cells.{cell_words}
use Rattle.cells.proofs.Laws.{part_in, part_is}
use Rattle.words.specs.Words.{node_words}
use Rattle.words.specs.Place.{NodeAt}
use Rattle.words.proofs.Sizes.{words_long}
use Rattle.encode.specs.Encode.{cells_in}
use Rattle.encode.proofs.Says.{node_cells}
use Rattle.predicates.specs.Predicates.{any_cell, says_predicate, predicated, HasPredicate}
use Rattle.predicates.proofs.Cells.{predicate_told}

-- ---- one cell

module _ (tag flag : ℕ) where
  abbrev bit : Bool
  bit = eqb (flag % 2) 1

  pub filter_is : tag ≡ 51 → true ≡ says_predicate tag flag
  filter_is e = sym (ap (λ (z : Bool). z || ((eqb tag 56 || eqb tag 62) && bit)) (eq-eqb tag 51 e))

  no_filter : (tag ≡ 51 → ⊥) → says_predicate tag flag ≡ (eqb tag 56 || eqb tag 62) && bit
  no_filter h = ap (λ (z : Bool). z || ((eqb tag 56 || eqb tag 62) && bit)) (ne_eqb tag 51 h)

  pub join_by_bit : (tag ≡ 51 → ⊥) → tag ≡ 56 → bit ≡ says_predicate tag flag
  join_by_bit h e = sym (no_filter h ∙ ap (λ (z : Bool). (z || eqb tag 62) && bit) (eq-eqb tag 56 e))

  no_join : (tag ≡ 51 → ⊥) → (tag ≡ 56 → ⊥) → says_predicate tag flag ≡ eqb tag 62 && bit
  no_join h i = no_filter h ∙ ap (λ (z : Bool). (z || eqb tag 62) && bit) (ne_eqb tag 56 i)

  pub scan_by_bit : (tag ≡ 51 → ⊥) → (tag ≡ 56 → ⊥) → tag ≡ 62 → bit ≡ says_predicate tag flag
  scan_by_bit h i e = sym (no_join h i ∙ ap (λ (z : Bool). z && bit) (eq-eqb tag 62 e))

  pub another_isnt : (tag ≡ 51 → ⊥) → (tag ≡ 56 → ⊥) → (tag ≡ 62 → ⊥) → false ≡ says_predicate tag flag
  another_isnt h i j = sym (no_join h i ∙ ap (λ (z : Bool). z && bit) (ne_eqb tag 62 j))

-- ---- all cells

-- whether seven words are a cell that says so
abbrev pub says : List ℕ → Bool
says k = says_predicate (get_or k 1 0) (get_or k 2 0)

some_says : (n : ℕ) (w : List ℕ) → length w ≡ cell_words * n → some_cell says (first_chunks cell_words n w) ≡ any_cell predicated (cells_in w)
unfolding cells_in
some_says zero [] e = refl
some_says zero (o ∷ w) e = absurd (omega arith)
some_says (suc n) [] e = absurd (omega arith)
some_says (suc n) (o ∷ []) e = absurd (omega arith)
some_says (suc n) (o ∷ t ∷ []) e = absurd (omega arith)
some_says (suc n) (o ∷ t ∷ f ∷ []) e = absurd (omega arith)
some_says (suc n) (o ∷ t ∷ f ∷ a ∷ []) e = absurd (omega arith)
some_says (suc n) (o ∷ t ∷ f ∷ a ∷ b ∷ []) e = absurd (omega arith)
some_says (suc n) (o ∷ t ∷ f ∷ a ∷ b ∷ c ∷ []) e = absurd (omega arith)
some_says (suc n) (o ∷ t ∷ f ∷ a ∷ b ∷ c ∷ k ∷ w) e = ap (λ (r : Bool). says_predicate t f || r) (some_says n w (omega arith))

-- ---- the plan

module _ {x : List ℕ} {n : ℕ} where
  pub inside : NodeAt x 0 n → n ≤ length x
  inside at = (part_in at.here.part).1

  -- what `any` answers of the cells that the words are cut into
  pub searched : (ks : List (List ℕ)) (r : Bool) → ks ≡ first_chunks cell_words (length (take n x) / cell_words) (take n x)
      → (r ≡ true → (i : ℕ) × (i < length ks) × (says (get_or ks i []) ≡ true)) → (r ≡ false → (i : ℕ) → i < length ks → says (get_or ks i []) ≡ false)
      → HasPredicate x n r
  searched ks r q f g p here =
      let e : n - 0 ≡ n = omega arith in
      let plan_words : take n x ≡ node_words p = subst (λ (m : ℕ). take m x ≡ node_words p) e (part_is here.part) in
      or_is (some_cell says) says refl (λ _ _. refl) ks [] r f g
      ∙ ap (some_cell says) q
      ∙ some_says (length (take n x) / cell_words) (take n x) (omega (arith, ap length plan_words, words_long p))
      ∙ ap (λ (w : List ℕ). any_cell predicated (cells_in w)) plan_words
      ∙ ap (any_cell predicated) (node_cells p)
      ∙ predicate_told p
