-- Where the last lookup stands, from where it stands among the operands' conjuncts.
use Prim.Native.Nat.{ℕ, ◌-◌, ◌≤◌, ◌<◌}
use native.Mathlib.Omega.{arith}
use mathlib.Core.Bool.{Bool, true, false, cond}
use mathlib.Core.Option.{Option, none, some}
use mathlib.Core.Path.{◌≡◌, refl, sym, ap, ◌∙◌, subst}
use mathlib.Core.List.{List, [], ◌∷◌, ◌++◌}
use Rattle.sql.specs.Expression.{Expression, ands}
use Rattle.sql.specs.Optimizer.{is_number, is_lookup_of, or_else, last_lookup}
use Rattle.cells.specs.declared.Cell.{Cell}
use Rattle.cells.specs.Cells.{cell_words, cell_at, tag_at, start_at, Sized}
use Rattle.words.specs.Words.{root}
use Rattle.words.specs.Place.{ExpressionHere, ExpressionAt}
use Rattle.words.proofs.Expressions.{tag, by_binary, root_tag, here_left, here_right, here_size, here_start, at_left, at_right}
use Rattle.std.specs.Prelude as code
use Rattle.std.specs.Prelude.{Some, None}
use Rattle.std.specs.Bool.{then_some}
use Rattle.column_lookup.specs.Lookup.{found, column_in, equal_cells}
use Rattle.column_lookup.proofs.Looking.{looks_equal, looks_is, looks_none, looks_other}
use Rattle.conjuncts.proofs.Lists.{ands_and, ands_one}
use Rattle.copied_lookups.specs.declared.Place.{Place}
use Rattle.copied_lookups.specs.Copies.{IsLookupOf, Stands, ending, FindsLast}

or_else_none : {A : Type 0} (o : Option A) → o ≡ or_else o none
or_else_none none = refl
or_else_none (some a) = refl

or_else_twice : {A : Type 0} (o p q : Option A) → or_else (or_else o p) q ≡ or_else o (or_else p q)
or_else_twice none p q = refl
or_else_twice (some a) p q = refl

last_append : (c : ℕ) (xs ys : List Expression) → last_lookup c (xs ++ ys) ≡ or_else (last_lookup c ys) (last_lookup c xs)
last_append c [] ys = or_else_none (last_lookup c ys)
last_append c (x ∷ xs) ys =
    ap (λ o. or_else o (cond (is_lookup_of c x) (some x) none)) (last_append c xs ys)
    ∙ or_else_twice (last_lookup c ys) (last_lookup c xs) (cond (is_lookup_of c x) (some x) none)

module _ (c : ℕ) {s : List ℕ} {lo hi : ℕ} where
  -- the same by the tag, from the cells
  module _ {mid : ℕ} (st : mid ≡ start_at s (hi - cell_words)) (h : tag_at s hi ≡ 12) {k j : Cell} (at_k : k ≡ cell_at s mid) (at_j : j ≡ cell_at s (hi - cell_words)) where
    pub of_equal : {r : Bool} → r ≡ is_number c (found (equal_cells k j)) → IsLookupOf c s lo hi r
    of_equal q e u = q ∙ ap (is_number c) (looks_equal st h at_k at_j {q = equal_cells k j} refl e u)

  pub of_is : 31 ≤ tag_at s hi → tag_at s hi ≤ 32 → {k : Cell} → k ≡ cell_at s (hi - cell_words) → {r : Bool} → r ≡ is_number c (found (column_in k)) → IsLookupOf c s lo hi r
  of_is h g {k} at_k q e u = q ∙ ap (is_number c) (looks_is h g at_k {q = column_in k} refl e u)

  pub of_none : (tag_at s hi ≡ 11 → ⊥) → (tag_at s hi ≡ 12 → ⊥) → tag_at s hi < 31 → IsLookupOf c s lo hi false
  of_none f g h e u = ap (is_number c) (looks_none f g h e u)

  pub of_other : 32 < tag_at s hi → IsLookupOf c s lo hi false
  of_other h e u = ap (is_number c) (looks_other h e u)

-- ---- the later one of two

later : (s : List ℕ) (p : Place) (o q : Option Expression) → Stands s (Some p) o → Stands s (Some p) (or_else o q)
later s p none q h = absurd h
later s p (some x) q h = h

earlier : (s : List ℕ) (p : code.Option Place) (o q : Option Expression) → Stands s None o → Stands s p q → Stands s p (or_else o q)
earlier s p none q h k = k
earlier s p (some x) q h k = absurd h

stands_size : {s : List ℕ} (p : Place) (o : Option Expression) → Stands s (Some p) o → Sized s p.end
stands_size p none y = absurd y
stands_size p (some e) y = here_size e y

module _ (c : ℕ) {s : List ℕ} {lo hi : ℕ} where
  module _ {mid : ℕ} (st : mid ≡ start_at s (hi - cell_words)) (h : tag_at s hi ≡ 10) where
    in_two : (q : code.Option Place) → ((l r : Expression) → ExpressionHere s lo mid l → ExpressionHere s mid (hi - cell_words) r → Stands s q (or_else (last_lookup c (ands r)) (last_lookup c (ands l))))
        → FindsLast c s lo hi q
    in_two q f e u = by_binary (λ e. ExpressionHere s lo hi e → tag (root e) ≡ 10 → Stands s q (last_lookup c (ands e)))
        (λ og o l r t z. subst (λ (p : Option Expression). Stands s q p) (sym (ap (last_lookup c) (ands_and og o l r z) ∙ last_append c (ands l) (ands r)))
        (f l r (here_left st og o l r t) (here_right st og o l r t)))
        e (omega (arith, root_tag e u)) (omega (arith, root_tag e u)) u (sym (root_tag e u) ∙ h)

    pub last_later : (r : code.Option ℕ) {j : ℕ} → r ≡ Some j → FindsLast c s mid (hi - cell_words) (ending s r) → FindsLast c s lo hi (ending s (Some j))
    last_later r {j} q f = in_two (ending s (Some j))
        (λ x y u v. later s (record { start = start_at s j; end = j }) (last_lookup c (ands y)) (last_lookup c (ands x)) (subst (λ (p : code.Option ℕ). Stands s (ending s p) (last_lookup c (ands y))) q (f y v)))

    pub last_earlier : (r : code.Option ℕ) (q : code.Option Place) → r ≡ None → FindsLast c s mid (hi - cell_words) (ending s r) → FindsLast c s lo mid q → FindsLast c s lo hi q
    last_earlier r q z f g = in_two q
        (λ x y u v. earlier s q (last_lookup c (ands y)) (last_lookup c (ands x)) (subst (λ (p : code.Option ℕ). Stands s (ending s p) (last_lookup c (ands y))) z (f y v)) (g x u))

  -- one conjunct, if it is a lookup
  pub last_one : (tag_at s hi ≡ 10 → ⊥) → ExpressionAt s lo hi → (b : Bool) → IsLookupOf c s lo hi b → {r : code.Option ℕ} → r ≡ then_some b hi → FindsLast c s lo hi (ending s r)
  last_one h t b f {r} z e u = subst (λ (p : code.Option ℕ). Stands s (ending s p) (last_lookup c (ands e))) (sym z)
      (subst (λ (xs : List Expression). Stands s (ending s (then_some b hi)) (last_lookup c xs)) (sym (ands_one e (λ y. h (root_tag e u ∙ y))))
      (subst (λ (x : Bool). Stands s (ending s (then_some b hi)) (cond x (some e) none)) (f e u) (by_answer b)))
    where
      by_answer : (b : Bool) → Stands s (ending s (then_some b hi)) (cond b (some e) none)
      by_answer true = subst (λ (n : ℕ). ExpressionHere s n hi e) (sym (here_start e u)) u
      by_answer false = tt

  pub end_size : (r : code.Option ℕ) {j : ℕ} → r ≡ Some j → FindsLast c s lo hi (ending s r) → ExpressionAt s lo hi → Sized s j
  end_size r {j} q f t = stands_size (record { start = start_at s j; end = j }) (last_lookup c (ands t.e)) (subst (λ (p : code.Option ℕ). Stands s (ending s p) (last_lookup c (ands t.e))) q (f t.e t.here))

-- ---- the search from the last conjunct to the first

-- Whatever is found last in what is left, up to word `at`, is found last in all.
pub record Searched (c : ℕ) (s : List ℕ) (lo hi at : ℕ) : Type 0 where
  pub left : ExpressionAt s lo at
  pub last : (q : code.Option Place) → FindsLast c s lo at q → FindsLast c s lo hi q

module _ (c : ℕ) {s : List ℕ} {lo hi : ℕ} where
  module _ {at mid : ℕ} (w : Searched c s lo hi at) (h : tag_at s at ≡ 10) (st : mid ≡ start_at s (at - cell_words)) where
    pub left_part : ExpressionAt s lo mid
    left_part = at_left (omega (arith, h)) (omega (arith, h)) st w.left

    pub right_part : ExpressionAt s mid (at - cell_words)
    right_part = at_right (omega (arith, h)) (omega (arith, h)) st w.left

    pub found_later : (r : code.Option ℕ) {j : ℕ} → r ≡ Some j → FindsLast c s mid (at - cell_words) (ending s r) → FindsLast c s lo hi (ending s (Some j))
    found_later r {j} z f = w.last (ending s (Some j)) (last_later c st h r z f)

    pub searched_one : (r : code.Option ℕ) → r ≡ None → FindsLast c s mid (at - cell_words) (ending s r) → Searched c s lo hi mid
    searched_one r z f = record { left = left_part; last = λ q g. w.last q (last_earlier c st h r q z f g) }
