-- Laws on the cells of expressions and parts, as they stand among a node's own cells.
use Prim.Native.Nat.{ℕ, suc, ◌+◌, max}
use native.Mathlib.Omega.{arith}
use native.Mathlib.Nat.{add-zero, zero-max}
use native.Mathlib.Numerals.{add-one}
use mathlib.Core.Path.{◌≡◌, refl, sym, ap, ◌∙◌}
use mathlib.Core.Bool.{Bool, true, false, not, ◌&&◌}
use mathlib.Core.List.{List, [], ◌∷◌, ◌++◌, append_assoc}
use mathlib.Core.Option.{Option, none, some}
use lib.Dec.{eqb}
use lib.ListN.{length, length-append}
use borrow.Author.Tests.{not-true}
use Rattle.value.specs.Value.{False, Unknown, True, integer, float, string, Value, truth, datum}
use Rattle.sql.specs.Expression.{Marked, Expression, constant, column, unary, binary, size, Unary, Not, function, IsNull, IsNaN, Identity, Negate, SquareRoot, Binary, logical, Equal, And, Or, GreaterThan, LessThan, Add, Divide, Subtract, Multiply}
use Rattle.sql.specs.Plan.{Label, unlabelled, unqualified, qualified, sum, row_size, values_columns, remap_columns}
use Rattle.sheet.specs.Cell.{Cell}
use Rattle.sheet.specs.Content.{constant_as_cell, unary_tag, binary_tag, labelled, target_as_cell, cell_of, constant_cell, unary_cell, binary_cell, marked}
use Rattle.sheet.specs.Cells.{all_cells, expression_cells, row_cells, target_cells}
use Rattle.sheet.specs.Scope.{first_of, unless, in_each, column_outside, expressions_outside, equally_long}
use Rattle.node_scope.specs.Own.{is_node, column_below, column_out, first_row, rows_have, target_end, targets_end}

-- ---- findings

pub first_of_none : (x : Option ℕ) → first_of x none ≡ x
first_of_none none = refl
first_of_none (some i) = refl

pub first_of_assoc : (x y z : Option ℕ) → first_of (first_of x y) z ≡ first_of x (first_of y z)
first_of_assoc none y z = refl
first_of_assoc (some i) y z = refl

-- ---- a property of each cell

pub data Each (P : Cell → Type 0) : List Cell → Type 0 where
  end : Each P []
  next : {k : Cell} {ks : List Cell} → P k → Each P ks → Each P (k ∷ ks)

pub each_append : {P : Cell → Type 0} {xs ys : List Cell} → Each P xs → Each P ys → Each P (xs ++ ys)
each_append end q = q
each_append (next p ps) q = next p (each_append ps q)

pub each_all : {P : Cell → Type 0} {A : Type 0} (f : A → List Cell) → ((x : A) → Each P (f x)) → (xs : List A) → Each P (all_cells f xs)
each_all f h [] = end
each_all f h (x ∷ xs) = each_append (h x) (each_all f h xs)

pub each_map : {P Q : Cell → Type 0} {ks : List Cell} → ((k : Cell) → P k → Q k) → Each P ks → Each Q ks
each_map h end = end
each_map h (next {k} p ps) = next (h k p) (each_map h ps)

-- What is no node's, no Target's and no Row's tag, as the cells of expressions and most parts have.
pub record Inner (k : Cell) : Type 0 where
  pub node : is_node k.tag ≡ false
  pub target : eqb k.tag 43 ≡ false
  pub row : eqb k.tag 45 ≡ false

-- no Column's either
pub record Quiet (k : Cell) : Type 0 where
  pub inner : Inner k
  pub column : eqb k.tag 6 ≡ false

abbrev pub quiet_tag : ℕ → Bool
quiet_tag t = not (is_node t) && (not (eqb t 43) && (not (eqb t 45) && not (eqb t 6)))

and_both : (p q : Bool) → (p && q) ≡ true → (p ≡ true) × (q ≡ true)
and_both true q e = (refl, e)
and_both false q e = let z : ◌≡◌ {A = ℕ} 0 1 = cc in absurd (omega arith)

-- computed for a numeral
pub quiet : (k : Cell) → quiet_tag k.tag ≡ true → Quiet k
quiet k e =
    let x = and_both _ _ e in
    let y = and_both _ _ x.1 in
    let z = and_both _ _ y.1 in
    record { inner = record { node = not-true _ x.0; target = not-true _ y.0; row = not-true _ z.0 }; column = not-true _ z.1 }

constant_tag : (v : Value) → quiet_tag (constant_as_cell v).tag ≡ true
constant_tag (truth False) = refl
constant_tag (truth Unknown) = refl
constant_tag (truth True) = refl
constant_tag (datum (integer n)) = refl
constant_tag (datum (float b)) = refl
constant_tag (datum (string r t)) = refl

unary_is : (o : Unary) → quiet_tag (unary_tag o) ≡ true
unary_is Not = refl
unary_is (function IsNull) = refl
unary_is (function IsNaN) = refl
unary_is (function Identity) = refl
unary_is (function Negate) = refl
unary_is (function SquareRoot) = refl

binary_is : (o : Binary) → quiet_tag (binary_tag o) ≡ true
binary_is (logical And) = refl
binary_is (logical Or) = refl
binary_is Equal = refl
binary_is (function GreaterThan) = refl
binary_is (function LessThan) = refl
binary_is (function Add) = refl
binary_is (function Divide) = refl
binary_is (function Subtract) = refl
binary_is (function Multiply) = refl

pub constant_quiet : (og : ℕ) (v : Value) → Quiet (marked og (cell_of (constant_cell v)))
constant_quiet og v = quiet _ (constant_tag v)

pub unary_quiet : (og : ℕ) (o : Unary) → Quiet (marked og (cell_of (unary_cell o)))
unary_quiet og o = quiet _ (unary_is o)

pub binary_quiet : (og : ℕ) (o : Binary) → Quiet (marked og (cell_of (binary_cell o)))
binary_quiet og o = quiet _ (binary_is o)

labelled_tag : (t : ℕ) (l : Label) → (labelled t l).tag ≡ t
labelled_tag t unlabelled = refl
labelled_tag t (unqualified n) = refl
labelled_tag t (qualified q n) = refl

-- ---- the cells of an expression

pub expression_length : (e : Expression) → length (expression_cells e) ≡ size e
unfolding expression_cells
expression_length (constant og v) = refl
expression_length (column og i) = refl
expression_length (unary og o x) = simp (length-append, expression_length x) (omega arith)
expression_length (binary og o l r) = simp (length-append, expression_length l, expression_length r) (omega arith)

pub expression_inner : (e : Expression) → Each Inner (expression_cells e)
unfolding expression_cells
expression_inner (constant og v) = next (constant_quiet og v).inner end
expression_inner (column og i) = next (record { node = refl; target = refl; row = refl }) end
expression_inner (unary og o x) = each_append (expression_inner x) (next (unary_quiet og o).inner end)
expression_inner (binary og o l r) = each_append (expression_inner l) (each_append (expression_inner r) (next (binary_quiet og o).inner end))

-- ---- Columns

module _ (n : ℕ) where
  pub column_out_append : (at : ℕ) (xs ys : List Cell) → column_out n at (xs ++ ys) ≡ first_of (column_out n at xs) (column_out n (at + length xs) ys)
  column_out_append at [] ys = rw add-zero refl
  column_out_append at (x ∷ xs) ys =
      ap (first_of (unless (column_below n x) at))
      (column_out_append (suc at) xs ys ∙ ap (λ (m : ℕ). first_of (column_out n (suc at) xs) (column_out n m ys)) (omega arith))
      ∙ sym (first_of_assoc (unless (column_below n x) at) (column_out n (suc at) xs) _)

  -- a cell that is no Column
  pub column_out_quiet : (at : ℕ) {k : Cell} → Quiet k → column_out n at (k ∷ []) ≡ none
  column_out_quiet at q = rw q.column refl

  pub column_out_before : (at : ℕ) (xs : List Cell) {k : Cell} → Quiet k → column_out n at (xs ++ (k ∷ [])) ≡ column_out n at xs
  column_out_before at xs {k} q =
      column_out_append at xs (k ∷ [])
      ∙ ap (first_of (column_out n at xs)) (column_out_quiet (at + length xs) q)
      ∙ first_of_none (column_out n at xs)

  pub column_out_expression : (at : ℕ) (e : Expression) → column_out n at (expression_cells e) ≡ column_outside n at e
  unfolding expression_cells
  column_out_expression at (constant og v) = column_out_quiet at (constant_quiet og v)
  column_out_expression at (column og i) = first_of_none _
  column_out_expression at (unary og o x) =
      column_out_before at (expression_cells x) (unary_quiet og o) ∙ column_out_expression at x
  column_out_expression at (binary og o l r) =
      column_out_append at (expression_cells l) _
      ∙ rw (expression_length l, column_out_expression at l)
      (ap (first_of (column_outside n at l))
      (column_out_before (at + size l) (expression_cells r) (binary_quiet og o) ∙ column_out_expression (at + size l) r))

  -- trees of one sort, one after the other
  pub column_out_each : {A : Type 0} (f : A → List Cell) (g : ℕ → A → Option ℕ) (cells : A → ℕ)
      → ((at : ℕ) (x : A) → column_out n at (f x) ≡ g at x)
      → ((x : A) → length (f x) ≡ cells x)
      → (at : ℕ) (xs : List A) → column_out n at (all_cells f xs) ≡ in_each g cells at xs
  column_out_each f g cells h l at [] = refl
  column_out_each f g cells h l at (x ∷ xs) =
      column_out_append at (f x) (all_cells f xs)
      ∙ rw (h at x, l x) (ap (first_of (g at x)) (column_out_each f g cells h l (at + cells x) xs))

pub length_each : {A : Type 0} (f : A → List Cell) (cells : A → ℕ) → ((x : A) → length (f x) ≡ cells x) → (xs : List A) → length (all_cells f xs) ≡ sum cells xs
length_each f cells l [] = refl
length_each f cells l (x ∷ xs) = simp (length-append, l x, length_each f cells l xs)

-- ---- parts

-- A part of one expression and a cell that ends it.
module _ (e : Expression) {k : Cell} (q : Quiet k) where
  pub part_length : length (expression_cells e ++ (k ∷ [])) ≡ suc (size e)
  part_length = simp (length-append, expression_length e) (omega arith)

  pub part_inner : Each Inner (expression_cells e ++ (k ∷ []))
  part_inner = each_append (expression_inner e) (next q.inner end)

  pub part_column : (n at : ℕ) → column_out n at (expression_cells e ++ (k ∷ [])) ≡ column_outside n at e
  part_column n at = column_out_before n at (expression_cells e) q ∙ column_out_expression n at e

pub row_length : (es : Marked (List Expression)) → length (row_cells es) ≡ row_size es
row_length es = simp (length-append, length_each expression_cells size expression_length es.0) (omega arith)

pub row_column : (n at : ℕ) (es : Marked (List Expression)) → column_out n at (row_cells es) ≡ expressions_outside n at es.0
row_column n at es =
    column_out_append n at (all_cells expression_cells es.0) _
    ∙ first_of_none (column_out n at (all_cells expression_cells es.0))
    ∙ column_out_each n expression_cells (column_outside n) size (column_out_expression n) expression_length at es.0

-- a constant, a Label, an Item, a Key, an Agg, a Target, a Row: each is quiet, but that the last two are what they are
pub labelled_quiet : (og t : ℕ) (l : Label) → quiet_tag t ≡ true → Quiet (marked og (labelled t l))
labelled_quiet og t l e = quiet (marked og (labelled t l)) (ap quiet_tag (labelled_tag t l) ∙ e)

-- ---- Rows

-- Cells that are no Rows are passed over.
pub first_row_past : {xs : List Cell} → Each Inner xs → (ys : List Cell) → first_row (xs ++ ys) ≡ first_row ys
first_row_past end ys = refl
first_row_past (next p ps) ys = rw p.row (first_row_past ps ys)

pub rows_have_past : (n : ℕ) {xs : List Cell} → Each Inner xs → (ys : List Cell) → rows_have n (xs ++ ys) ≡ rows_have n ys
rows_have_past n end ys = refl
rows_have_past n (next p ps) ys = rw p.row (rows_have_past n ps ys)

pub first_row_values : (rs : List (Marked (List Expression))) → first_row (all_cells row_cells rs) ≡ values_columns rs
first_row_values [] = refl
first_row_values (es ∷ rs) = rw append_assoc (first_row_past (each_all expression_cells expression_inner es.0) _)

pub rows_have_values : (n : ℕ) (rs : List (Marked (List Expression))) → rows_have n (all_cells row_cells rs) ≡ equally_long n rs
rows_have_values n [] = refl
rows_have_values n (es ∷ rs) =
    rw append_assoc
    (rows_have_past n (each_all expression_cells expression_inner es.0) _ ∙ ap (λ (b : Bool). eqb (length es.0) n && b) (rows_have_values n rs))

-- ---- Targets

target_end_is : (t : Marked (Option ℕ)) (ts : List (Marked (Option ℕ))) → max (target_end (target_as_cell t.0)) (remap_columns ts) ≡ remap_columns (t ∷ ts)
target_end_is (none, og) ts = zero-max _
target_end_is (some i, og) ts = rw add-one refl

pub targets_end_is : (ts : List (Marked (Option ℕ))) → targets_end (all_cells target_cells ts) ≡ remap_columns ts
targets_end_is [] = refl
targets_end_is (t ∷ ts) = ap (max (target_end (target_as_cell t.0))) (targets_end_is ts) ∙ target_end_is t ts

target_tag : (t : Option ℕ) → (target_as_cell t).tag ≡ 43
target_tag none = refl
target_tag (some i) = refl

pub targets_length : (ts : List (Marked (Option ℕ))) → length (all_cells target_cells ts) ≡ length ts
targets_length [] = refl
targets_length (t ∷ ts) = ap suc (targets_length ts)
