-- The constants of a lookup, from its cells and what its operands' functions wrote.
use Prim.Native.Nat.{ℕ, ◌-◌, ◌*◌, ◌/◌, ◌%◌, ◌≤◌, ◌<◌}
use native.Mathlib.Omega.{arith}
use borrow.Author.Tests.{eq-eqb, ne_eqb, lt-ltb, le-ltb}
use mathlib.Core.Logic.{⊎_elim}
use mathlib.Core.Bool.{Bool, true, false, not, cond}
use mathlib.Core.Option.{some}
use mathlib.Core.Path.{◌≡◌, refl, sym, ap, ap₂, ◌∙◌, subst}
use mathlib.Core.List.{List, [], ◌∷◌, ◌++◌, append_assoc}
use lib.Dec.{ltb}
use lib.Ieee as Ieee
use lib.Ieee.{binary64}
use lib.Ieee.Bits.{nan_bits_is, nan_bits_above}
use lib.ListN.{length, length-append}
use Rattle.value.specs.Value.{False, Unknown, True, integer, float, string, Value, truth, datum}
use Rattle.value.specs.Comparison.{number_of}
use Rattle.sql.specs.Expression.{origin, Logical, And, Or, IsNull, IsNaN, Identity, Negate, SquareRoot, GreaterThan, LessThan, Add, Divide, Subtract, Multiply, Not, function, Binary, logical, Equal, Expression, constant, column, unary, binary, is_constant, equal_values, into_column_values}
use Rattle.sheet.specs.Content.{constant_cell, column_cell, unary_cell, binary_cell, binary_tag}
use Rattle.cells.specs.declared.Cell.{Cell}
use Rattle.cells.specs.Cells.{cell_words, sized, cell_at, tag_at, origin_at, start_at}
use Rattle.cells.specs.Room.{Wrote, Seals}
use Rattle.cells.proofs.Laws.{then, nothing, lt_or_ge}
use Rattle.words.specs.Words.{cell, root, all_words, constant_words}
use Rattle.words.specs.Place.{ExpressionHere}
use Rattle.words.proofs.Expressions.{tag, tag_cell, constant_tag, unary_range, binary_range, by_binary, by_equal, root_is, root_tag, root_origin, here_left, here_right}
use Rattle.column_lookup.specs.Values.{Gathers, is_number, is_defined, value_words, is_words}

all_append : {A : Type 0} (f : A → List ℕ) (xs ys : List A) → all_words f (xs ++ ys) ≡ all_words f xs ++ all_words f ys
all_append f [] ys = refl
all_append f (x ∷ xs) ys = ap (λ (l : List ℕ). f x ++ l) (all_append f xs ys) ∙ sym (append_assoc (f x) (all_words f xs) (all_words f ys))

-- each constant is a cell of seven words
pub values_long : (vs : List (Value × ℕ)) → length (all_words constant_words vs) ≡ cell_words * length vs
values_long [] = refl
values_long (v ∷ vs) = length-append (constant_words v) (all_words constant_words vs) ∙ omega (arith, values_long vs)

-- ---- a Float's halves

below : (b : ℕ) → (b / 4294967296) % 2147483648 < 2146435072 → b % 9223372036854775808 ≤ 9218868437227405312
below b h = omega arith

above : (b : ℕ) → 2146435072 < (b / 4294967296) % 2147483648 → 9218868437227405312 < b % 9223372036854775808
above b h = omega arith

equal_zero : (b : ℕ) → (b / 4294967296) % 2147483648 ≡ 2146435072 → b % 4294967296 ≡ 0 → b % 9223372036854775808 ≤ 9218868437227405312
equal_zero b h k = omega arith

equal_above : (b : ℕ) → (b / 4294967296) % 2147483648 ≡ 2146435072 → 0 < b % 4294967296 → 9218868437227405312 < b % 9223372036854775808
equal_above b h k = omega arith

halves : (b : ℕ) → is_number (b % 4294967296) (b / 4294967296) ≡ not (ltb 9218868437227405312 (b % 9223372036854775808))
halves b = ⊎_elim
    (λ (h : (b / 4294967296) % 2147483648 < 2146435072). simp (lt-ltb _ _ h, le-ltb _ _ (below b h)))
    (λ (h : 2146435072 ≤ (b / 4294967296) % 2147483648). ⊎_elim
    (λ (k : 2146435072 < (b / 4294967296) % 2147483648). simp (le-ltb ((b / 4294967296) % 2147483648) 2146435072 h, lt-ltb _ _ k, lt-ltb _ _ (above b k)))
    (λ (k : (b / 4294967296) % 2147483648 ≤ 2146435072). let q : (b / 4294967296) % 2147483648 ≡ 2146435072 = omega arith in ⊎_elim
    (λ (z : 0 < b % 4294967296).
    simp (le-ltb ((b / 4294967296) % 2147483648) 2146435072 h, le-ltb 2146435072 ((b / 4294967296) % 2147483648) k, ne_eqb (b % 4294967296) 0 (λ y. omega arith), lt-ltb _ _ (equal_above b q z)))
    (λ (z : b % 4294967296 ≤ 0).
    let y : b % 4294967296 ≡ 0 = omega arith in
    simp (le-ltb ((b / 4294967296) % 2147483648) 2146435072 h, le-ltb 2146435072 ((b / 4294967296) % 2147483648) k, eq-eqb (b % 4294967296) 0 y, le-ltb _ _ (equal_zero b q y)))
    (lt_or_ge 0 (b % 4294967296)))
    (lt_or_ge 2146435072 ((b / 4294967296) % 2147483648)))
    (lt_or_ge ((b / 4294967296) % 2147483648) 2146435072)

nan_is : (b : ℕ) → Ieee.is_nan (number_of b) ≡ ltb 9218868437227405312 (b % 9223372036854775808)
nan_is b = sym (nan_bits_is binary64 b) ∙ nan_bits_above binary64 b

kept_if : (v : Value × ℕ) (t : Bool) → cond (not t) (constant_words v) [] ≡ all_words constant_words (cond t [] (v ∷ []))
kept_if v true = refl
kept_if v false = refl

constant_value : (og : ℕ) (v : Value) → value_words (cell og (constant_cell v)) ≡ all_words constant_words (equal_values (some (v, og)))
unfolding cell
constant_value og (truth False) = refl
constant_value og (truth Unknown) = refl
constant_value og (truth True) = refl
constant_value og (datum (integer n)) = refl
constant_value og (datum (float b)) =
    ap (λ (t : Bool). cond t (constant_words (datum (float b), og)) []) (halves b)
    ∙ (kept_if (datum (float b), og) (ltb 9218868437227405312 (b % 9223372036854775808))
    ∙ ap (λ (t : Bool). all_words constant_words (cond t [] ((datum (float b), og) ∷ []))) (sym (nan_is b)))
constant_value og (datum (string r t)) = refl

no_value : (k : Cell) → 5 < k.tag → value_words k ≡ []
no_value k h = simp (le-ltb k.tag 2 (omega arith), lt-ltb 5 k.tag h)

root_value : (e : Expression) → value_words (cell (origin e) (root e)) ≡ all_words constant_words (equal_values (is_constant e))
root_value (constant og v) = constant_value og v
root_value (column og i) = no_value (cell og (column_cell i)) (omega (arith, tag_cell og (column_cell i)))
root_value (unary og o x) = no_value (cell og (unary_cell o)) (omega (arith, unary_range o, tag_cell og (unary_cell o)))
root_value (binary og o l r) = no_value (cell og (binary_cell o)) (omega (arith, (binary_range o).0, tag_cell og (binary_cell o)))

-- ---- by the tag

by_logical : (P : Binary → Type 0) → ((o : Logical) → P (logical o)) → (o : Binary) → binary_tag o < 12 → P o
by_logical P f (logical a) h = f a
by_logical P f Equal h = absurd (omega arith)
by_logical P f (function GreaterThan) h = absurd (omega arith)
by_logical P f (function LessThan) h = absurd (omega arith)
by_logical P f (function Add) h = absurd (omega arith)
by_logical P f (function Divide) h = absurd (omega arith)
by_logical P f (function Subtract) h = absurd (omega arith)
by_logical P f (function Multiply) h = absurd (omega arith)

no_is : (t new : ℕ) → (t ≡ 31 → ⊥) → (t ≡ 32 → ⊥) → is_words t new ≡ []
no_is t new f g = simp (ne_eqb t 31 f, ne_eqb t 32 g)

other_values : (e : Expression) → (tag (root e) ≡ 10 → ⊥) → (tag (root e) ≡ 11 → ⊥) → (tag (root e) ≡ 12 → ⊥)
    → is_words (tag (root e)) (origin e) ≡ all_words constant_words (into_column_values e)
other_values (constant og v) f g h = no_is (tag (constant_cell v)) og (λ z. omega (arith, constant_tag v)) (λ z. omega (arith, constant_tag v))
other_values (column og i) f g h = refl
other_values (unary og Not x) f g h = refl
other_values (unary og (function IsNull) x) f g h = refl
other_values (unary og (function IsNaN) x) f g h = refl
other_values (unary og (function Identity) x) f g h = refl
other_values (unary og (function Negate) x) f g h = refl
other_values (unary og (function SquareRoot) x) f g h = refl
other_values (binary og (logical And) l r) f g h = absurd (f refl)
other_values (binary og (logical Or) l r) f g h = absurd (g refl)
other_values (binary og Equal l r) f g h = absurd (h refl)
other_values (binary og (function GreaterThan) l r) f g h = refl
other_values (binary og (function LessThan) l r) f g h = refl
other_values (binary og (function Add) l r) f g h = refl
other_values (binary og (function Divide) l r) f g h = refl
other_values (binary og (function Subtract) l r) f g h = refl
other_values (binary og (function Multiply) l r) f g h = refl

-- ---- what the functions have written

module _ {d : List ℕ} {at n : ℕ} {d' : List ℕ} where
  pub value_written : {k : Cell} {b : Bool} → b ≡ is_defined k → b ≡ true → Seals d at at k n d' → Wrote d at (value_words k) n d'
  value_written {k} f z w = subst (λ (t : Bool). Wrote d at (cond t (sized [] k) []) n d') (sym z ∙ f) (w d [] refl (nothing d at))

  pub null_written : {t : ℕ} (new : ℕ) → t ≡ 31 → Seals d at at (record { origin = new; tag = 1; flag = 0; a = 0; b = 0; c = 0 }) n d' → Wrote d at (is_words t new) n d'
  unfolding cell
  null_written new h w = subst (λ (t : ℕ). Wrote d at (is_words t new) n d') (sym h) (w d [] refl (nothing d at))

  pub nan_written : {t : ℕ} (new : ℕ) → t ≡ 32 → Seals d at at (record { origin = new; tag = 4; flag = 0; a = 0; b = 2146959360; c = 0 }) n d' → Wrote d at (is_words t new) n d'
  unfolding cell
  nan_written new h w = subst (λ (t : ℕ). Wrote d at (is_words t new) n d') (sym h) (w d [] refl (nothing d at))

pub no_value_written : {d : List ℕ} {at : ℕ} (k : Cell) {b : Bool} → b ≡ is_defined k → b ≡ false → Wrote d at (value_words k) at d
no_value_written {d} {at} k f z = subst (λ (t : Bool). Wrote d at (cond t (sized [] k) []) at d) (sym z ∙ f) (nothing d at)

module _ {s : List ℕ} {lo hi : ℕ} where
  pub gathers_other : {d : List ℕ} {at n : ℕ} {d' : List ℕ} {t : ℕ} → t ≡ tag_at s hi → (t ≡ 10 → ⊥) → (t ≡ 11 → ⊥) → (t ≡ 12 → ⊥)
      → {new : ℕ} → new ≡ origin_at s hi → Wrote d at (is_words t new) n d' → Gathers s lo hi d at n d'
  gathers_other {d} {at} {n} {d'} {t} q f g h o w e u = let p : t ≡ tag (root e) = q ∙ root_tag e u in subst (λ (l : List ℕ). Wrote d at l n d')
      (ap₂ is_words p (o ∙ root_origin e u) ∙ other_values e (λ z. f (p ∙ z)) (λ z. g (p ∙ z)) (λ z. h (p ∙ z))) w

  module _ {mid : ℕ} (st : mid ≡ start_at s (hi - cell_words)) {d : List ℕ} {at m n : ℕ} {d₁ d₂ : List ℕ} (e₁ : length d₁ ≡ length d) where
    pub gathers_both : 10 ≤ tag_at s hi → tag_at s hi < 12 → Gathers s lo mid d at m d₁ → Gathers s mid (hi - cell_words) d₁ m n d₂ → Gathers s lo hi d at n d₂
    gathers_both h k f g e u = by_binary (λ e. ExpressionHere s lo hi e → tag (root e) < 12 → Wrote d at (all_words constant_words (into_column_values e)) n d₂)
        (λ og o l r t z. by_logical (λ p. Wrote d at (all_words constant_words (into_column_values (binary og p l r))) n d₂)
        (λ p. rw (all_append constant_words (into_column_values l) (into_column_values r)) (then e₁ (f l (here_left st og o l r t)) (g r (here_right st og o l r t)))) o z)
        e (omega (arith, root_tag e u)) (omega (arith, root_tag e u)) u (omega (arith, root_tag e u))

    pub gathers_equal : tag_at s hi ≡ 12 → {c j : Cell} → c ≡ cell_at s mid → j ≡ cell_at s (hi - cell_words) → Wrote d at (value_words c) m d₁ → Wrote d₁ m (value_words j) n d₂
        → Gathers s lo hi d at n d₂
    gathers_equal h {c} {j} at_c at_j f g e u = by_binary (λ e. ExpressionHere s lo hi e → tag (root e) ≡ 12 → Wrote d at (all_words constant_words (into_column_values e)) n d₂)
        (λ og o l r t z. by_equal (λ p. Wrote d at (all_words constant_words (into_column_values (binary og p l r))) n d₂)
        (subst (λ (w : List ℕ). Wrote d at w n d₂)
        (ap₂ (λ (v w : List ℕ). v ++ w)
        (ap value_words (at_c ∙ root_is l (here_left st og o l r t)) ∙ root_value l)
        (ap value_words (at_j ∙ root_is r (here_right st og o l r t)) ∙ root_value r)
        ∙ sym (all_append constant_words (equal_values (is_constant l)) (equal_values (is_constant r))))
        (then e₁ f g)) o z)
        e (omega (arith, root_tag e u)) (omega (arith, root_tag e u)) u (sym (root_tag e u) ∙ h)
