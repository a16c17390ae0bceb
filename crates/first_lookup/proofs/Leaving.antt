-- The conjuncts that remain, from what the calls for the operands' conjuncts have appended.
use Prim.Native.Nat.{ℕ, ◌-◌}
use native.Mathlib.Omega.{arith}
use mathlib.Core.Bool.{Bool, true, false, not, ◌||◌, cond}
use mathlib.Core.Option.{Option, none, some}
use mathlib.Core.Path.{◌≡◌, refl, sym, ap, ◌∙◌, subst}
use mathlib.Core.List.{List, [], ◌∷◌, ◌++◌}
use lib.ListN.{length, get_or}
use Rattle.sql.specs.Expression.{Expression, ands, is_column_lookup, shift_column_down}
use Rattle.sql.specs.Optimizer.{Found, cons_if}
use Rattle.cells.specs.Cells.{cell_words, tag_at, start_at}
use Rattle.words.specs.Words.{root}
use Rattle.words.specs.Place.{ExpressionHere, ExpressionAt}
use Rattle.words.proofs.Expressions.{tag, by_binary, root_tag, here_left, here_right}
use Rattle.conjuncts.specs.Conjuncts.{GatheredAt, Appends, AppendsEach}
use Rattle.conjuncts.proofs.Lists.{ands_and, ands_one, shift_none}
use Rattle.conjuncts.proofs.Appending.{appends_then, gathered_more}
use Rattle.first_lookup.specs.declared.FoundLookup.{FoundLookup}
use Rattle.std.specs.Prelude as code
use Rattle.std.specs.Prelude.{Some, None, is_some}
use Rattle.first_lookup.specs.declared.Rest.{Rest}
use Rattle.first_lookup.specs.First.{is_marked, with_mark, first_here, first_marked, by_mark, FindsOne, remaining, meets, Left, LeavesOne, Leaves}

no_some : {A B : Type 0} {a : A} → none ≡ some a → B
no_some h = absurd (let z : ◌≡◌ {A = ℕ} 0 1 = cc in omega arith)

-- ---- lists

cons_append : (t : Bool) (x : Expression) (xs ys : List Expression) → cons_if t x (xs ++ ys) ≡ cons_if t x xs ++ ys
cons_append true x xs ys = refl
cons_append false x xs ys = refl

remaining_append : (marks : List Bool) (met : Bool) (xs ys : List Expression) → remaining marks met (xs ++ ys) ≡ remaining marks met xs ++ remaining marks (meets marks met xs) ys
remaining_append marks met [] ys = refl
remaining_append marks met (x ∷ xs) ys =
    let b = is_marked marks (is_column_lookup x) in
    ap (cons_if (met || not b) x) (remaining_append marks (met || b) xs ys)
    ∙ cons_append (met || not b) x (remaining marks (met || b) xs) (remaining marks (meets marks (met || b) xs) ys)

meets_append : (marks : List Bool) (met : Bool) (xs ys : List Expression) → meets marks met (xs ++ ys) ≡ meets marks (meets marks met xs) ys
meets_append marks met [] ys = refl
meets_append marks met (x ∷ xs) ys = meets_append marks (met || is_marked marks (is_column_lookup x)) xs ys

all_remain : (marks : List Bool) (es : List Expression) → remaining marks true es ≡ es
all_remain marks [] = refl
all_remain marks (e ∷ es) = ap (λ l. e ∷ l) (all_remain marks es)

-- ---- What remains is what the first lookup leaves.
module _ (marks : List Bool) where
  unfound : (e : Expression) (es : List Expression) (f : Found) (g : Option Found) → first_marked marks es ≡ g
      → ((h : Found) → first_marked marks es ≡ some h → remaining marks false es ≡ h.remaining)
      → first_here e es none g ≡ some f → e ∷ remaining marks false es ≡ f.remaining
  unfound e es f none q ih k = no_some k
  unfound e es f (some h) q ih k =
      let z : ◌≡◌ {A = Found} (record { column_number = h.column_number; conjunct = h.conjunct; remaining = e ∷ h.remaining }) f = cc in
      ap (λ l. e ∷ l) (ih h q) ∙ ap (λ (x : Found). x.remaining) z

  by_test : (e : Expression) (es : List Expression) (f : Found) (c : ℕ) (t : Bool)
      → ((h : Found) → first_marked marks es ≡ some h → remaining marks false es ≡ h.remaining)
      → first_here e es (cond t (some c) none) (first_marked marks es) ≡ some f
      → cons_if (false || not t) e (remaining marks (false || t) es) ≡ f.remaining
  by_test e es f c true ih k =
      let z : ◌≡◌ {A = Found} (record { column_number = c; conjunct = e; remaining = es }) f = cc in all_remain marks es ∙ ap (λ (x : Found). x.remaining) z
  by_test e es f c false ih k = unfound e es f (first_marked marks es) refl ih k

  by_lookup : (e : Expression) (es : List Expression) (f : Found) (o : Option ℕ)
      → ((h : Found) → first_marked marks es ≡ some h → remaining marks false es ≡ h.remaining)
      → first_here e es (with_mark marks o) (first_marked marks es) ≡ some f
      → cons_if (false || not (is_marked marks o)) e (remaining marks (false || is_marked marks o) es) ≡ f.remaining
  by_lookup e es f none ih k = unfound e es f (first_marked marks es) refl ih k
  by_lookup e es f (some c) ih k = by_test e es f c (get_or marks c false) ih k

  pub remaining_is : (es : List Expression) (f : Found) → first_marked marks es ≡ some f → remaining marks false es ≡ f.remaining
  remaining_is [] f k = no_some k
  remaining_is (e ∷ es) f k = by_lookup e es f (is_column_lookup e) (remaining_is es) k

-- ---- of two operands, and of one conjunct

some_marked : (marks : List Bool) (lo hi : ℕ) (o : Option ℕ) → is_marked marks o ≡ is_some (by_mark marks lo hi o)
some_marked marks lo hi none = refl
some_marked marks lo hi (some i) = test (get_or marks i false) (record { start = lo; end = hi; column = i })
  where
    test : (t : Bool) (f : FoundLookup) → t ≡ is_some (cond t (Some f) None)
    test true f = refl
    test false f = refl

module _ (new : ℕ) (marks : List Bool) (met : Bool) {s : List ℕ} {lo hi : ℕ} {d : List ℕ} {from at : ℕ} where
  pub leaves_and : {mid : ℕ} → mid ≡ start_at s (hi - cell_words) → tag_at s hi ≡ 10 → {p r : Rest} {d₁ d₂ : List ℕ} → length d₁ ≡ length d
      → Leaves new marks met s lo mid d from at p d₁ → Leaves new marks p.met s mid (hi - cell_words) d₁ from p.at r d₂ → Leaves new marks met s lo hi d from at r d₂
  leaves_and st h {p} {r} {d₁} {d₂} k f g e u = by_binary (λ e. ExpressionHere s lo hi e → tag (root e) ≡ 10 → Left new d from at (remaining marks met (ands e)) (meets marks met (ands e)) r d₂)
      (λ og o x y t z.
      let a = f x (here_left st og o x y t) in
      let b = subst (λ (i : Bool). Left new d₁ from p.at (remaining marks i (ands y)) (meets marks i (ands y)) r d₂) a.meeting (g y (here_right st og o x y t)) in
      subst (λ (xs : List Expression). Left new d from at (remaining marks met xs) (meets marks met xs) r d₂) (sym (ands_and og o x y z))
      (record {
        appends = subst (λ (l : List Expression). Appends new d from at l r.at d₂) (sym (remaining_append marks met (ands x) (ands y)))
            (appends_then k new (remaining marks met (ands x)) (remaining marks (meets marks met (ands x)) (ands y)) a.appends b.appends);
        meeting = b.meeting ∙ sym (meets_append marks met (ands x) (ands y));
      }))
      e (omega (arith, root_tag e u)) (omega (arith, root_tag e u)) u (sym (root_tag e u) ∙ h)

  pub leaves_one : (tag_at s hi ≡ 10 → ⊥) → {r : Rest} {d' : List ℕ} → LeavesOne new marks met s lo hi d from at r d' → Leaves new marks met s lo hi d from at r d'
  leaves_one h {r} {d'} f e u = subst (λ (xs : List Expression). Left new d from at (remaining marks met xs) (meets marks met xs) r d')
      (sym (ands_one e (λ z. h (root_tag e u ∙ z)))) (f e u)

  appended : {m : ℕ} {d' : List ℕ} → AppendsEach new (λ e. shift_column_down 0 e ∷ []) s lo hi d from at m d' → (e : Expression) → ExpressionHere s lo hi e → Appends new d from at (e ∷ []) m d'
  appended {m} {d'} w e u = subst (λ (x : Expression). Appends new d from at (x ∷ []) m d') (shift_none e) (w e u)

  pub met_before : met ≡ true → {m : ℕ} {d' : List ℕ} → AppendsEach new (λ e. shift_column_down 0 e ∷ []) s lo hi d from at m d'
      → LeavesOne new marks met s lo hi d from at (record { at = m; met = met }) d'
  met_before z {m} {d'} w e u = subst (λ (i : Bool). Left new d from at (remaining marks i (e ∷ [])) (meets marks i (e ∷ [])) (record { at = m; met = i }) d') (sym z)
      (record { appends = appended w e u; meeting = refl })

  module _ (z : met ≡ false) {r : code.Option FoundLookup} (f : FindsOne marks s lo hi r) where
    by_test_of : (t : Bool) → is_some r ≡ t → {m : ℕ} {d' : List ℕ}
        → ((e : Expression) → ExpressionHere s lo hi e → Appends new d from at (cons_if (not t) e []) m d') → LeavesOne new marks met s lo hi d from at (record { at = m; met = t }) d'
    by_test_of t q {m} {d'} w e u =
        let k : is_marked marks (is_column_lookup e) ≡ t = some_marked marks lo hi (is_column_lookup e) ∙ (ap is_some (sym (f e u)) ∙ q) in
        subst (λ (i : Bool). Left new d from at (remaining marks i (e ∷ [])) (meets marks i (e ∷ [])) (record { at = m; met = t }) d') (sym z)
        (record {
          appends = subst (λ (i : Bool). Appends new d from at (cons_if (not i) e []) m d') (sym k) (w e u);
          meeting = sym k;
        })

    pub not_met : is_some r ≡ false → {m : ℕ} {d' : List ℕ} → AppendsEach new (λ e. shift_column_down 0 e ∷ []) s lo hi d from at m d'
        → LeavesOne new marks met s lo hi d from at (record { at = m; met = met }) d'
    not_met q {m} {d'} w = subst (λ (i : Bool). LeavesOne new marks met s lo hi d from at (record { at = m; met = i }) d') (sym z) (by_test_of false q (appended w))

-- What the call for the left operand left, as the call for the right one asks for it.
pub left_gathered : (new : ℕ) (marks : List Bool) (met : Bool) {s : List ℕ} {lo hi : ℕ} {d : List ℕ} {from at : ℕ} {r : Rest} {d₁ : List ℕ} → GatheredAt d from at → length d₁ ≡ length d
    → ExpressionAt s lo hi → Leaves new marks met s lo hi d from at r d₁ → GatheredAt d₁ from r.at
left_gathered new marks met g k t f = gathered_more g k new (remaining marks met (ands t.e)) (f t.e t.here).appends
