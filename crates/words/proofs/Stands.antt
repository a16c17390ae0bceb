-- What is known where some expression stands, and only that it does; and of its words by themselves.
use Prim.Native.Nat.{ℕ, ◌+◌, ◌-◌, ◌≤◌, ◌<◌}
use native.Mathlib.Bridge.{le_prop}
use native.Mathlib.Omega.{arith}
use mathlib.Core.Logic.{∥∥₁_elim, ∥∥₁_map}
use mathlib.Core.Path.{◌≡◌, refl, sym, ap, ◌∙◌, subst}
use mathlib.Core.List.{List, [], append-nil}
use lib.ListN.{length, take, drop, get_or}
use lib.Seq.{take-length}
use Rattle.std.proofs.lemmas.List.{length-take-le, length-drop, get_or-take, get_or-drop}
use Rattle.cells.specs.declared.Cell.{Cell}
use Rattle.cells.specs.Cells.{cell_words, cell_at, tag_at, start_at, Sized}
use Rattle.cells.proofs.Laws.{part_is}
use Rattle.sql.specs.Expression.{Expression}
use Rattle.words.specs.Words.{expression_words}
use Rattle.words.specs.Place.{ExpressionHere, ExpressionAt, own, Maps}
use Rattle.words.proofs.Expressions.{at_in, at_operand, at_last, at_left, at_right}

module _ {s : List ℕ} {lo hi : ℕ} (t : ∥ ExpressionAt s lo hi ∥₁) where
  pub stands_in : (lo + cell_words ≤ hi) × (hi ≤ length s)
  stands_in = (∥∥₁_elim t le_prop (λ x. (at_in x).0), ∥∥₁_elim t le_prop (λ x. (at_in x).1))

  pub stands_operand : 30 ≤ tag_at s hi → ∥ ExpressionAt s lo (hi - cell_words) ∥₁
  stands_operand h = ∥∥₁_map t (at_operand h)

  module _ (h : 10 ≤ tag_at s hi) (k : tag_at s hi < 30) where
    pub stands_last : Sized s (hi - cell_words)
    stands_last =
        record {
          first = ∥∥₁_elim t le_prop (λ x. (at_last h k x).first);
          last = ∥∥₁_elim t le_prop (λ x. (at_last h k x).last);
          long = ∥∥₁_elim t le_prop (λ x. (at_last h k x).long);
        }

    module _ {mid : ℕ} (st : mid ≡ start_at s (hi - cell_words)) where
      pub stands_left : ∥ ExpressionAt s lo mid ∥₁
      stands_left = ∥∥₁_map t (at_left h k st)

      pub stands_right : ∥ ExpressionAt s mid (hi - cell_words) ∥₁
      stands_right = ∥∥₁_map t (at_right h k st)

-- ---- its words by themselves

-- the words from the front
pub own_front : (s : List ℕ) (hi : ℕ) → own s 0 hi ≡ take hi s
own_front s hi = let z : hi - 0 ≡ hi = omega arith in ap (λ (n : ℕ). take n s) z

-- all of them
pub own_all : (s : List ℕ) → own s 0 (length s) ≡ s
own_all s = own_front s (length s) ∙ take-length s

pub own_length : (s : List ℕ) (lo hi : ℕ) → lo ≤ hi → hi ≤ length s → length (own s lo hi) ≡ hi - lo
own_length s lo hi h k = length-take-le (hi - lo) (drop lo s) (omega (arith, length-drop lo s))

module _ {s w : List ℕ} {lo hi : ℕ} (q : w ≡ own s lo hi) where
  pub here_own : {e : Expression} → ExpressionHere s lo hi e → ExpressionHere w 0 (length w) e
  here_own {e} u = let k = q ∙ part_is u.part in
      record { part = record { before = []; after = []; whole = k ∙ sym (append-nil (expression_words e)); low = refl; high = omega (arith, ap length k) } }

  pub stands_own : ∥ ExpressionAt s lo hi ∥₁ → ∥ ExpressionAt w 0 (length w) ∥₁
  stands_own t = ∥∥₁_map t (λ x. record { e = x.e; here = here_own x.here })

  -- what is said of an expression that stands there by itself, said of where it stands
  pub said_where_it_stands : (P : Expression → Type 0) → ((e : Expression) → ExpressionHere w 0 (length w) e → P e) → (e : Expression) → ExpressionHere s lo hi e → P e
  said_where_it_stands P m e u = m e (here_own u)

  -- what was made of it
  pub where_it_stands : (f : Expression → Expression) {d d' : List ℕ} {at n : ℕ} → Maps f w 0 (length w) d at n d' → Maps f s lo hi d at n d'
  where_it_stands f m e u = m e (here_own u)

own_word : (s : List ℕ) (lo hi i : ℕ) → lo + cell_words ≤ hi → hi ≤ length s → i ≤ cell_words → 0 < i
    → get_or (own s lo hi) (length (own s lo hi) - i) 0 ≡ get_or s (hi - i) 0
own_word s lo hi i h k a b =
    let z = own_length s lo hi (omega arith) k in
    let y : lo + (hi - lo - i) ≡ hi - i = omega arith in
    rw z
    (get_or-take (hi - lo) (drop lo s) (hi - lo - i) 0 (omega arith) ∙ get_or-drop lo s (hi - lo - i) 0 ∙ ap (λ (j : ℕ). get_or s j 0) y)

-- its own cell
pub own_cell : (s : List ℕ) (lo hi : ℕ) {w : List ℕ} → w ≡ own s lo hi → lo + cell_words ≤ hi → hi ≤ length s → cell_at w (length w) ≡ cell_at s hi
own_cell s lo hi q h k =
    rw (q, own_word s lo hi cell_words h k (omega arith) (omega arith), own_word s lo hi 6 h k (omega arith) (omega arith), own_word s lo hi 5 h k (omega arith) (omega arith), own_word s lo hi 4 h k (omega arith) (omega arith), own_word s lo hi 3 h k (omega arith) (omega arith), own_word s lo hi 2 h k (omega arith) (omega arith)) refl

-- the cells of its operands
module _ {s w : List ℕ} {lo hi : ℕ} (t : ∥ ExpressionAt s lo hi ∥₁) where
  pub operand_cell : 30 ≤ tag_at s hi → w ≡ own s lo (hi - cell_words) → cell_at w (length w) ≡ cell_at s (hi - cell_words)
  operand_cell h q = let (a, b) = stands_in (stands_operand t h) in own_cell s lo (hi - cell_words) q a b

  module _ (h : 10 ≤ tag_at s hi) (k : tag_at s hi < 30) {mid : ℕ} (st : mid ≡ start_at s (hi - cell_words)) where
    pub left_cell : w ≡ own s lo mid → cell_at w (length w) ≡ cell_at s mid
    left_cell q = let (a, b) = stands_in (stands_left t h k st) in own_cell s lo mid q a b

    pub right_cell : w ≡ own s mid (hi - cell_words) → cell_at w (length w) ≡ cell_at s (hi - cell_words)
    right_cell q = let (a, b) = stands_in (stands_right t h k st) in own_cell s mid (hi - cell_words) q a b
