-- Where the first lookup by an index stands, from where it stands among the operands' conjuncts.
use Prim.Native.Nat.{ℕ, ◌-◌, ◌≤◌}
use native.Mathlib.Omega.{arith}
use mathlib.Core.Bool.{Bool, true, false, cond}
use mathlib.Core.Option.{Option, none, some}
use mathlib.Core.Path.{◌≡◌, refl, sym, ap, ◌∙◌, subst}
use mathlib.Core.List.{List, [], ◌∷◌, ◌++◌}
use lib.ListN.{get_or}
use Rattle.sql.specs.Schema.{Schema}
use Rattle.sql.specs.Expression.{Expression, ands, is_column_lookup}
use Rattle.sql.specs.Optimizer.{Found, with_index, found_here, find_lookup}
use Rattle.cells.specs.Cells.{cell_words, tag_at, start_at}
use Rattle.words.specs.Words.{root}
use Rattle.words.specs.Place.{ExpressionHere}
use Rattle.words.proofs.Expressions.{tag, by_binary, root_tag, here_in, here_left, here_right}
use Rattle.std.specs.Prelude as code
use Rattle.std.specs.Prelude.{Some, None}
use Rattle.conjuncts.proofs.Lists.{ands_and, ands_one}
use Rattle.first_lookup.specs.declared.FoundLookup.{FoundLookup}
use Rattle.first_lookup.specs.First.{Marks, with_mark, first_here, first_marked, Stands, FindsFirst, by_mark, FindsOne}

-- the first of two lists' lookups, with what remains of both lists
abbrev after : List Expression → List Expression → Option Found → Option Found → Option Found
after xs ys (some f) g = some (record { column_number = f.column_number; conjunct = f.conjunct; remaining = f.remaining ++ ys })
after xs ys none none = none
after xs ys none (some g) = some (record { column_number = g.column_number; conjunct = g.conjunct; remaining = xs ++ g.remaining })

step : (e : Expression) (xs ys : List Expression) (w : Option ℕ) (f g : Option Found)
    → first_here e (xs ++ ys) w (after xs ys f g) ≡ after (e ∷ xs) ys (first_here e xs w f) g
step e xs ys (some c) f g = refl
step e xs ys none (some f) g = refl
step e xs ys none none none = refl
step e xs ys none none (some g) = refl

none_before : (ys : List Expression) (g : Option Found) → g ≡ after [] ys none g
none_before ys none = refl
none_before ys (some g) = refl

first_append : (marks : List Bool) (xs ys : List Expression) → first_marked marks (xs ++ ys) ≡ after xs ys (first_marked marks xs) (first_marked marks ys)
first_append marks [] ys = none_before ys (first_marked marks ys)
first_append marks (x ∷ xs) ys =
    let w = with_mark marks (is_column_lookup x) in
    ap (first_here x (xs ++ ys) w) (first_append marks xs ys) ∙ step x xs ys w (first_marked marks xs) (first_marked marks ys)

-- ---- Where the marks are a table's, the first lookup of a marked column is the one that find_lookup finds.
module _ (schema : Schema) (table : ℕ) (marks : List Bool) (m : Marks schema table marks) where
  with_is : (o : Option ℕ) → with_index schema table o ≡ with_mark marks o
  with_is none = refl
  with_is (some c) = ap (λ (t : Bool). cond t (some c) none) (m c)

  pub first_is : (es : List Expression) → find_lookup schema table es ≡ first_marked marks es
  first_is [] = refl
  first_is (e ∷ es) =
      let o = is_column_lookup e in
      ap (found_here schema table e es (with_index schema table o)) (first_is es)
      ∙ ap (λ (w : Option ℕ). first_here e es w (first_marked marks es)) (with_is o)

-- ---- of two operands

wider : (s : List ℕ) (lo hi : ℕ) {from to : ℕ} → lo ≤ from → to ≤ hi → (q : code.Option FoundLookup) (f : Option Found) → Stands s from to q f → Stands s lo hi q f
wider s lo hi i j (Some q) none h = h
wider s lo hi i j (Some q) (some f) h = let (l, k) = h.0 in ((omega arith, omega arith), h.1)
wider s lo hi i j None none h = h
wider s lo hi i j None (some f) h = h

earlier : (s : List ℕ) (lo hi : ℕ) (q : FoundLookup) (xs ys : List Expression) (f g : Option Found) → Stands s lo hi (Some q) f → Stands s lo hi (Some q) (after xs ys f g)
earlier s lo hi q xs ys none g h = absurd h
earlier s lo hi q xs ys (some f) g h = h

later : (s : List ℕ) (lo hi mid : ℕ) (q : code.Option FoundLookup) (xs ys : List Expression) (f g : Option Found) → Stands s lo mid None f → Stands s lo hi q g → Stands s lo hi q (after xs ys f g)
later s lo hi mid q xs ys (some f) g h k = absurd h
later s lo hi mid (Some q) xs ys none none h k = k
later s lo hi mid (Some q) xs ys none (some g) h k = k
later s lo hi mid None xs ys none none h k = k
later s lo hi mid None xs ys none (some g) h k = k

module _ (marks : List Bool) {s : List ℕ} {lo hi : ℕ} where
  module _ {mid : ℕ} (st : mid ≡ start_at s (hi - cell_words)) (h : tag_at s hi ≡ 10) where
    in_two : (q : code.Option FoundLookup)
        → ((l r : Expression) → ExpressionHere s lo mid l → ExpressionHere s mid (hi - cell_words) r → Stands s lo hi q (after (ands l) (ands r) (first_marked marks (ands l)) (first_marked marks (ands r))))
        → FindsFirst marks s lo hi q
    in_two q f e u = by_binary (λ e. ExpressionHere s lo hi e → tag (root e) ≡ 10 → Stands s lo hi q (first_marked marks (ands e)))
        (λ og o l r t z. subst (λ (p : Option Found). Stands s lo hi q p) (sym (ap (first_marked marks) (ands_and og o l r z) ∙ first_append marks (ands l) (ands r)))
        (f l r (here_left st og o l r t) (here_right st og o l r t)))
        e (omega (arith, root_tag e u)) (omega (arith, root_tag e u)) u (sym (root_tag e u) ∙ h)

    pub first_earlier : {r : code.Option FoundLookup} {q : FoundLookup} → r ≡ Some q → FindsFirst marks s lo mid r → FindsFirst marks s lo hi (Some q)
    first_earlier {r} {q} z f = in_two (Some q) (λ x y u v.
        earlier s lo hi q (ands x) (ands y) (first_marked marks (ands x)) (first_marked marks (ands y))
        (wider s lo hi (omega arith) (omega (arith, here_in y v)) (Some q) (first_marked marks (ands x))
        (subst (λ (p : code.Option FoundLookup). Stands s lo mid p (first_marked marks (ands x))) z (f x u))))

    pub first_later : {r : code.Option FoundLookup} (q : code.Option FoundLookup) → r ≡ None → FindsFirst marks s lo mid r → FindsFirst marks s mid (hi - cell_words) q → FindsFirst marks s lo hi q
    first_later q z f g = in_two q (λ x y u v.
        later s lo hi mid q (ands x) (ands y) (first_marked marks (ands x)) (first_marked marks (ands y))
        (subst (λ (p : code.Option FoundLookup). Stands s lo mid p (first_marked marks (ands x))) z (f x u))
        (wider s lo hi (omega (arith, here_in x u)) (omega arith) q (first_marked marks (ands y)) (g y v)))

  -- ---- of one conjunct

  module _ (e : Expression) (u : ExpressionHere s lo hi e) where
    marked : (c : ℕ) (t : Bool) → Stands s lo hi (cond t (Some (record { start = lo; end = hi; column = c })) None) (first_here e [] (cond t (some c) none) none)
    marked c true = ((omega arith, omega arith), (refl, u))
    marked c false = tt

    one_stands : (o : Option ℕ) → Stands s lo hi (by_mark marks lo hi o) (first_here e [] (with_mark marks o) none)
    one_stands none = tt
    one_stands (some c) = marked c (get_or marks c false)

  pub first_one : (tag_at s hi ≡ 10 → ⊥) → {r : code.Option FoundLookup} → FindsOne marks s lo hi r → FindsFirst marks s lo hi r
  first_one h {r} f e u = subst (λ (xs : List Expression). Stands s lo hi r (first_marked marks xs)) (sym (ands_one e (λ z. h (root_tag e u ∙ z))))
      (subst (λ (q : code.Option FoundLookup). Stands s lo hi q (first_here e [] (with_mark marks (is_column_lookup e)) none)) (sym (f e u))
      (one_stands e u (is_column_lookup e)))
