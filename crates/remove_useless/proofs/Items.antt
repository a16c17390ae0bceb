-- Laws on Items that pass columns through.
use Prim.Native.Nat.{ℕ, suc, ◌+◌, ◌-◌, ◌*◌, ◌≤◌, ◌<◌}
use native.Mathlib.Omega.{arith}
use mathlib.Core.Bool.{Bool, true, false, ◌&&◌}
use mathlib.Core.Path.{◌≡◌, refl, sym, ap, ◌∙◌, subst}
use mathlib.Core.List.{List, [], ◌∷◌, ◌++◌, append_assoc, append-nil}
use lib.Dec.{eqb}
use lib.ListN.{length, length-append}
use Rattle.sql.specs.Expression.{Expression, constant, column, unary, binary}
use Rattle.sql.specs.Plan.{Label, unlabelled, unqualified, qualified}
use Rattle.sql.specs.Optimizer.{is_column_number, is_unlabelled, pass_through}
use Rattle.sheet.specs.Content.{item_cell}
use Rattle.cells.specs.declared.Cell.{Cell}
use Rattle.cells.specs.Cells.{cell_words, cell_at, Part}
use Rattle.cells.proofs.Laws.{part_left, part_right, body_part, cell_is}
use Rattle.words.specs.Words.{cell, all_words, expression_words, item_words}
use Rattle.words.specs.Place.{ExpressionHere}
use Rattle.words.proofs.Expressions.{root_is, root_tag, by_column}
use Rattle.words.proofs.Sizes.{expression_long}
use Rattle.labels.specs.Labels.{ItemEnds}
use Rattle.remove_useless.specs.RemoveUseless.{ItemPasses}

abbrev Item : Type 0
Item = Expression × Label × ℕ

and_true : (b : Bool) → b ≡ (b && true)
and_true true = refl
and_true false = refl

and_false : (b : Bool) → false ≡ (b && false)
and_false true = refl
and_false false = refl

-- ---- one Item

module _ {s : List ℕ} {hi : ℕ} {c : Cell} (q : c ≡ cell_at s hi) where
  said : (lo : ℕ) (e : Expression) (l : Label) (og : ℕ) → Part s lo hi (item_words (e, l, og)) → c ≡ cell og (item_cell l)
  said lo e l og p = q ∙ cell_is (expression_words e) (cell og (item_cell l)) p

  pub labelled_item : (i : ℕ) → 0 < c.flag → ItemPasses s hi i false
  unfolding cell
  labelled_item i z lo (e, unlabelled, og) p = absurd (omega (arith, ap (λ (k : Cell). k.flag) (said lo e unlabelled og p)))
  labelled_item i z lo (e, unqualified n, og) p = and_false (is_column_number i e)
  labelled_item i z lo (e, qualified t n, og) p = and_false (is_column_number i e)

  module _ {d : Cell} (f : d ≡ cell_at s (hi - cell_words)) (y : c.flag ≤ 0) (i : ℕ) where
    pub column_item : d.tag ≡ 6 → ItemPasses s hi i (eqb d.a i)
    unfolding cell
    column_item z lo (e, unlabelled, og) p =
        let u : ExpressionHere s lo (hi - cell_words) e = record { part = body_part (expression_words e) (cell og (item_cell unlabelled)) p } in
        by_column (λ e. ExpressionHere s lo (hi - cell_words) e → eqb d.a i ≡ is_column_number i e) (λ og j u. ap (λ (k : Cell). eqb k.a i) (f ∙ root_is (column og j) u)) e
        (sym (root_tag e u) ∙ sym (ap (λ (k : Cell). k.tag) f) ∙ z) u
        ∙ and_true (is_column_number i e)
    column_item z lo (e, unqualified n, og) p = absurd (omega (arith, ap (λ (k : Cell). k.flag) (said lo e (unqualified n) og p)))
    column_item z lo (e, qualified t n, og) p = absurd (omega (arith, ap (λ (k : Cell). k.flag) (said lo e (qualified t n) og p)))

    pub other_item : (d.tag ≡ 6 → ⊥) → ItemPasses s hi i false
    other_item z lo (e, l, og) p = go e (record { part = body_part (expression_words e) (cell og (item_cell l)) p })
      where
        go : (e : Expression) → ExpressionHere s lo (hi - cell_words) e → false ≡ (is_column_number i e && is_unlabelled l)
        go (constant og v) u = refl
        go (column og j) u = absurd (z (ap (λ (k : Cell). k.tag) f ∙ root_tag (column og j) u))
        go (unary og o x) u = refl
        go (binary og o a b) u = refl

-- ---- all of them

-- a list by its last element
record Last (xs : List Item) : Type 0 where
  front : List Item
  last : Item
  is : xs ≡ front ++ (last ∷ [])

last_of : (x : Item) (xs : List Item) → Last (x ∷ xs)
last_of x [] = record { front = []; last = x; is = refl }
last_of x (y ∷ ys) = let l = last_of y ys in record { front = x ∷ l.front; last = l.last; is = ap (λ (zs : List Item). x ∷ zs) l.is }

pass_last : (from : ℕ) (xs : List Item) (x : Item)
    → pass_through from (xs ++ (x ∷ [])) ≡ (pass_through from xs && (is_column_number (from + length xs) x.0 && is_unlabelled x.1))
pass_last from [] x =
    let e : from ≡ from + 0 = omega arith in
    sym (and_true (is_column_number from x.0 && is_unlabelled x.1)) ∙ ap (λ (n : ℕ). is_column_number n x.0 && is_unlabelled x.1) e
pass_last from (y ∷ ys) x =
    let e : suc from + length ys ≡ from + suc (length ys) = omega arith in
    go (is_column_number from y.0 && is_unlabelled y.1) (pass_through (suc from) (ys ++ (x ∷ []))) (pass_through (suc from) ys)
    (is_column_number (from + suc (length ys)) x.0 && is_unlabelled x.1)
    (pass_last (suc from) ys x ∙ ap (λ (n : ℕ). pass_through (suc from) ys && (is_column_number n x.0 && is_unlabelled x.1)) e)
  where
    go : (b u v w : Bool) → u ≡ (v && w) → (b && u) ≡ ((b && v) && w)
    go true u v w h = h
    go false u v w h = refl

all_last : (xs : List Item) (x : Item) → all_words item_words (xs ++ (x ∷ [])) ≡ all_words item_words xs ++ item_words x
all_last [] x = append-nil (item_words x)
all_last (y ∷ ys) x = ap (λ (l : List ℕ). item_words y ++ l) (all_last ys x) ∙ sym (append_assoc (item_words y) (all_words item_words ys) (item_words x))

-- The last i of the n Items are known to pass; those before them are left, and say whether all do.
pub record Unasked (s : List ℕ) (lo end i : ℕ) (items : List (Expression × Label × ℕ)) : Type 0 where
  pub front : List (Expression × Label × ℕ)
  pub part : Part s lo end (all_words item_words front)
  pub count : i ≡ length front
  pub same : pass_through 0 items ≡ pass_through 0 front

pub unasked_all : {s : List ℕ} {lo hi n : ℕ} (items : List (Expression × Label × ℕ)) → Part s lo hi (all_words item_words items) → n ≡ length items → Unasked s lo hi n items
unasked_all items p e = record { front = items; part = p; count = e; same = refl }

pub unasked_none : {s : List ℕ} {lo end i : ℕ} (items : List (Expression × Label × ℕ)) → i ≤ 0 → Unasked s lo end i items → true ≡ pass_through 0 items
unasked_none {s} {lo} {end} {i} items z g = go g.front g.count ∙ sym g.same
  where
    go : (front : List (Expression × Label × ℕ)) → i ≡ length front → true ≡ pass_through 0 front
    go [] e = refl
    go (x ∷ xs) e = absurd (omega arith)

module _ {s : List ℕ} {lo end i : ℕ} (items : List (Expression × Label × ℕ)) (z : 0 < i) (g : Unasked s lo end i items) where
  -- the last of those left
  with_last : (P : Type 0) → ((front : List Item) (x : Item) → Part s lo (lo + length (all_words item_words front)) (all_words item_words front)
      → Part s (lo + length (all_words item_words front)) end (item_words x) → i ≡ length front + 1
      → pass_through 0 items ≡ (pass_through 0 front && (is_column_number (i - 1) x.0 && is_unlabelled x.1)) → P) → P
  with_last P k = go g.front g.part g.count g.same
    where
      go : (front : List Item) → Part s lo end (all_words item_words front) → i ≡ length front → pass_through 0 items ≡ pass_through 0 front → P
      go [] p e h = absurd (omega arith)
      go (y ∷ ys) p e h =
          let l = last_of y ys in
          let v = subst (λ (w : List ℕ). Part s lo end w) (ap (all_words item_words) l.is ∙ all_last l.front l.last) p in
          let n : i ≡ length l.front + 1 = omega (arith, ap length l.is, length-append l.front (l.last ∷ [])) in
          let j : 0 + length l.front ≡ i - 1 = omega arith in
          k l.front l.last (part_left (all_words item_words l.front) (item_words l.last) v)
          (part_right (all_words item_words l.front) (item_words l.last) v) n
          (h ∙ ap (pass_through 0) l.is ∙ pass_last 0 l.front l.last
          ∙ ap (λ (m : ℕ). pass_through 0 l.front && (is_column_number m l.last.0 && is_unlabelled l.last.1)) j)

  pub unasked_ends : ItemEnds s end
  unasked_ends = with_last (ItemEnds s end) (λ front x p r n h. record { lo = lo + length (all_words item_words front); item = x; part = r })

  module _ {b : Bool} (f : ItemPasses s end (i - 1) b) where
    pub unasked_stops : b ≡ false → false ≡ pass_through 0 items
    unasked_stops e =
        with_last (false ≡ pass_through 0 items)
        (λ front x p r n h. and_false (pass_through 0 front) ∙ ap (λ (t : Bool). pass_through 0 front && t) (sym e ∙ f (lo + length (all_words item_words front)) x r) ∙ sym h)

    -- an Item that passes has two cells
    two_cells : (e : Expression) (l : Label) (origin : ℕ) → true ≡ (is_column_number (i - 1) e && is_unlabelled l) → length (item_words (e, l, origin)) ≡ 2 * cell_words
    two_cells (constant og v) l origin h = let w : ◌≡◌ {A = ℕ} 0 1 = cc in absurd (omega arith)
    two_cells (column og j) l origin h = omega (arith, length-append (expression_words (column og j)) (Rattle.cells.specs.Cells.words (cell origin (item_cell l)) (length (expression_words (column og j)) + cell_words)), expression_long (column og j))
    two_cells (unary og o x) l origin h = let w : ◌≡◌ {A = ℕ} 0 1 = cc in absurd (omega arith)
    two_cells (binary og o x y) l origin h = let w : ◌≡◌ {A = ℕ} 0 1 = cc in absurd (omega arith)

    pub unasked_long : b ≡ true → 2 * cell_words ≤ end
    unasked_long e =
        with_last (2 * cell_words ≤ end) (λ front x p r n h. omega (arith, two_cells x.0 x.1 x.2 (sym e ∙ f (lo + length (all_words item_words front)) x r), r.high))

    pub unasked_next : b ≡ true → Unasked s lo (end - 2 * cell_words) (i - 1) items
    unasked_next e =
        with_last (Unasked s lo (end - 2 * cell_words) (i - 1) items)
        (λ front x p r n h.
        let t = sym e ∙ f (lo + length (all_words item_words front)) x r in
        let j : lo + length (all_words item_words front) ≡ end - 2 * cell_words = omega (arith, two_cells x.0 x.1 x.2 t, r.high) in
        record {
          front = front;
          part = subst (λ (m : ℕ). Part s lo m (all_words item_words front)) j p;
          count = omega arith;
          same = h ∙ ap (λ (t : Bool). pass_through 0 front && t) (sym t) ∙ sym (and_true (pass_through 0 front));
        })
