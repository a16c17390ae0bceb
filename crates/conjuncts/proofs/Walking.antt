-- What a walk over an expression's conjuncts has appended, from what its calls have.
use Prim.Native.Nat.{ℕ, ◌-◌}
use native.Mathlib.Omega.{arith}
use mathlib.Core.Bool.{Bool, true, false}
use mathlib.Core.Path.{◌≡◌, sym, ap, ◌∙◌, subst}
use mathlib.Core.List.{List, [], ◌∷◌, map, append-nil}
use lib.ListN.{length}
use Rattle.sql.specs.Expression.{Expression, ands, shift_column_down}
use Rattle.sql.specs.Optimizer.{cons_if, ref_left, ref_right, for_right, flat_map}
use Rattle.cells.specs.Cells.{cell_words, tag_at, start_at}
use Rattle.words.specs.Words.{root}
use Rattle.words.specs.Place.{ExpressionHere}
use Rattle.words.proofs.Expressions.{tag, by_binary, root_tag, here_left, here_right}
use Rattle.conjuncts.specs.declared.Destination.{Destination}
use Rattle.conjuncts.specs.declared.Destination.TheVariants.{Right}
use Rattle.conjuncts.specs.Conjuncts.{Appends, AppendsEach, Walks, for_destination, goes, Goes, chosen}
use Rattle.conjuncts.proofs.Lists.{ands_and, ands_one, flat_append, chosen_all, chosen_unmoved}
use Rattle.conjuncts.proofs.Appending.{appends_none, appends_then}

-- what is appended, by another name
pub appends_as : (new : ℕ) {s : List ℕ} {lo hi : ℕ} {d : List ℕ} {from at n : ℕ} {d' : List ℕ} (f g : Expression → List Expression)
    → ((e : Expression) → f e ≡ g e) → AppendsEach new f s lo hi d from at n d' → AppendsEach new g s lo hi d from at n d'
appends_as new {d} {from} {at} {n} {d'} f g h w e u = subst (λ (xs : List Expression). Appends new d from at xs n d') (h e) (w e u)

module _ (new : ℕ) (f : Expression → List Expression) {s : List ℕ} {lo hi : ℕ} {d : List ℕ} {from at : ℕ} where
  pub walk_and : {mid m n : ℕ} {d₁ d₂ : List ℕ} → length d₁ ≡ length d → mid ≡ start_at s (hi - cell_words) → tag_at s hi ≡ 10
      → Walks new f s lo mid d from at m d₁ → Walks new f s mid (hi - cell_words) d₁ from m n d₂ → Walks new f s lo hi d from at n d₂
  walk_and {n = n} {d₂ = d₂} k st h v w e u = by_binary (λ e. ExpressionHere s lo hi e → tag (root e) ≡ 10 → Appends new d from at (flat_map f (ands e)) n d₂)
      (λ og o l r t z. subst (λ (xs : List Expression). Appends new d from at xs n d₂) (sym (ap (flat_map f) (ands_and og o l r z) ∙ flat_append f (ands l) (ands r)))
      (appends_then k new (flat_map f (ands l)) (flat_map f (ands r)) (v l (here_left st og o l r t)) (w r (here_right st og o l r t))))
      e (omega (arith, root_tag e u)) (omega (arith, root_tag e u)) u (sym (root_tag e u) ∙ h)

  pub walk_one : {n : ℕ} {d' : List ℕ} → (tag_at s hi ≡ 10 → ⊥) → AppendsEach new f s lo hi d from at n d' → Walks new f s lo hi d from at n d'
  walk_one {n} {d'} h w e u = subst (λ (xs : List Expression). Appends new d from at xs n d')
      (sym (ap (flat_map f) (ands_one e (λ z. h (root_tag e u ∙ z))) ∙ append-nil (f e))) (w e u)

-- ---- a conjunct that goes there, or doesn't

module _ (to : Destination) (n shift : ℕ) {s : List ℕ} {lo hi : ℕ} {b : Bool} (q : Goes to n s lo hi b) where
  known : {t : Bool} → b ≡ t → (e : Expression) → ExpressionHere s lo hi e → t ≡ goes to (ref_left n e) (ref_right n e)
  known z e u = sym z ∙ q e u

  pub chosen_here : (new : ℕ) → b ≡ true → {d : List ℕ} {from at m : ℕ} {d' : List ℕ} → AppendsEach new (λ e. shift_column_down shift e ∷ []) s lo hi d from at m d'
      → AppendsEach new (chosen to n shift) s lo hi d from at m d'
  chosen_here new z {d} {from} {at} {m} {d'} w e u = subst (λ (t : Bool). Appends new d from at (cons_if t (shift_column_down shift e) []) m d') (known z e u) (w e u)

  pub not_chosen : (new : ℕ) → b ≡ false → {d : List ℕ} {from at : ℕ} → AppendsEach new (chosen to n shift) s lo hi d from at at d
  not_chosen new z {d} {from} {at} e u = subst (λ (t : Bool). Appends new d from at (cons_if t (shift_column_down shift e) []) at d) (known z e u) (appends_none new)

-- ---- all of them

module _ (new n : ℕ) {s : List ℕ} {lo hi : ℕ} {d : List ℕ} {from at m : ℕ} {d' : List ℕ} where
  pub gathered : (to : Destination) → Walks new (chosen to n 0) s lo hi d from at m d' → AppendsEach new (λ e. for_destination to n (ands e)) s lo hi d from at m d'
  gathered to = appends_as new (λ e. flat_map (chosen to n 0) (ands e)) (λ e. for_destination to n (ands e)) (λ e. chosen_unmoved n to (ands e))

  pub gathered_right : (shift : ℕ) → Walks new (chosen Right n shift) s lo hi d from at m d'
      → AppendsEach new (λ e. map (shift_column_down shift) (for_right n (ands e))) s lo hi d from at m d'
  gathered_right shift = appends_as new (λ e. flat_map (chosen Right n shift) (ands e)) (λ e. map (shift_column_down shift) (for_right n (ands e))) (λ e. chosen_all n Right shift (ands e))
