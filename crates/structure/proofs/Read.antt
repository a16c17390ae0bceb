-- A sheet's cells read one after the other, with the sorts of the trees in an array.
-- Assumes nothing.
use Prim.Native.Nat.{ℕ, suc, ◌+◌, ◌-◌, ◌*◌, ◌≤◌, ◌<◌}
use native.Mathlib.Omega.{arith}
use native.Mathlib.Numerals.{add-one}
use mathlib.Core.Path.{subst, ◌≡◌, refl, sym, ap, ◌∙◌}
use mathlib.Core.List.{List, [], ◌∷◌, map}
use mathlib.Core.Option.{Option, none, some}
use lib.ListN.{length, get_or}
use Rattle.sql.specs.Expression.{Expression, constant, column, unary, binary}
use Rattle.sql.specs.Plan.{up_to}
use Rattle.sheet.specs.Parts.{tables_at, table_count, cell_count}
use Rattle.sheet.specs.Cell as Sheet
use Rattle.sheet.specs.Content.{Content, content_of}
use Rattle.sheet.specs.Tree.{expression_tree, label_tree, item_tree, key_tree, target_tree, agg_tree, row_tree, node_tree, Stack, bind, reduce, after, Read, lacking, read}
use Rattle.sheet.specs.Check.{text, cells_of, sole_node, one_plan}
use Rattle.layout.specs.Layout.{Laid, IsCell, as_cell}
use Rattle.layout.specs.declared.Cell.{Cell}
use Rattle.layout.specs.declared.Parts.{Parts}
use Rattle.std.specs.Prelude.{Option as Left, Some, None}
use Rattle.layout.proofs.Known.{cells_pass}
use Rattle.layout.proofs.Laws.{cells_are, cell_there}
use Rattle.arity.specs.declared.Sort.{Sort}
use Rattle.arity.specs.Arity.{sort_of, children_of}
use Rattle.arity.proofs.Laws.{Known, content_known}
use Rattle.structure.specs.Sorts.{expression_sort, number, sorts, reduced}
use Rattle.structure.specs.Structure.{place, plan_of, stacked, left, Reduces}
use Rattle.structure.proofs.Reduce.{sorted, reduce_sorts}
use Rattle.structure.proofs.Stack.{stacked_length, reduced_length}

-- ---- cells without a fault

-- A cell that breaks no layout has a content.
pub cell_known : (s : List ℕ) → Sheet.bad_cell s ≡ none → (i : ℕ) → i < cell_count s → Known (text s) (Sheet.cell s i)
cell_known s e i h = content_known (text s) (Sheet.origins s) (tables_at s) (table_count s) (Sheet.cell s i) (cells_pass s e i h)

-- ---- the reading

-- The cells from i on are still to be read, onto trees whose sorts stand in the array.
pub record Going (s : List ℕ) (a : List Sort) (height i : ℕ) : Type 0 where
  pub trees : Stack
  pub same : read (text s) i (map (Sheet.cell s) (up_to i (cell_count s - i))) trees ≡ read (text s) 0 (cells_of s) []
  pub stand : sorts trees ≡ stacked a height
  pub few : height ≤ i
  pub within : i ≤ cell_count s

pub going_start : (s : List ℕ) (a : List Sort) → Going s a 0 0
unfolding cells_of stacked
going_start s a =
    let e : cell_count s - 0 ≡ cell_count s = omega arith in
    record { trees = []; same = rw e; stand = refl; few = omega arith; within = omega arith }

-- what comes after a cell, by what it leaves
abbrev onward : List ℕ → ℕ → List Sheet.Cell → Option Stack → Read
onward t i cs o = elim o [ none ↦ lacking i | some next ↦ read t (suc i) cs next ]

-- what a cell leaves on the trees, and on their sorts
after_sorts : (t : List ℕ) (x : Sheet.Cell) (trees : Stack) → Known t x
    → sorted (after t x trees) ≡ reduced (sort_of (content_of t x)) (children_of (content_of t x)) (sorts trees)
after_sorts t x trees k = go (content_of t x) k.content k.is
  where
    go : (o : Option Content) (c : Content) → o ≡ some c → sorted (bind o (λ c. reduce x.origin c trees)) ≡ reduced (sort_of o) (children_of o) (sorts trees)
    go none c e = let z : ◌≡◌ {A = ℕ} 0 1 = cc in absurd (omega arith)
    go (some c') c e = reduce_sorts x.origin c' trees

module _ {s : List ℕ} {a : List Sort} {height i : ℕ} (g : Going s a height i) {p : Parts} (l : Laid s p) where
  -- The code has read cell i.
  module _ (ok : Sheet.bad_cell s ≡ none) (h : i < p.cells.count) {k : Cell} (holds : IsCell (Sheet.cell_from s (p.cells.at + i * 16)) k) where
    is : as_cell k ≡ Sheet.cell s i
    is = (cell_there i l holds).is

    known : Known (text s) (as_cell k)
    known = rw is (cell_known s ok i (omega (arith, cells_are l)))

    rest : List Sheet.Cell
    rest = map (Sheet.cell s) (up_to (suc i) (cell_count s - suc i))

    cell_read : onward (text s) i rest (after (text s) (as_cell k) g.trees) ≡ read (text s) 0 (cells_of s) []
    unfolding read rest
    cell_read =
        let e : cell_count s - i ≡ suc (cell_count s - suc i) = omega (arith, cells_are l) in
        subst (λ (x : Sheet.Cell). onward (text s) i rest (after (text s) x g.trees) ≡ read (text s) 0 (cells_of s) []) (sym is) (rw e at g.same)

    module _ {b : List Sort} {r : Left ℕ} (d : Reduces a height k r b) where
      left_sorts : sorted (after (text s) (as_cell k) g.trees) ≡ left b r
      left_sorts =
          after_sorts (text s) (as_cell k) g.trees known
          ∙ ap (λ (st : List Sort). reduced (sort_of (content_of (text s) (as_cell k))) (children_of (content_of (text s) (as_cell k))) st) g.stand
          ∙ sym (d.is (text s))

      -- Each cell puts one tree on the stack, so there are at most as many as cells read.
      next_low : {next : ℕ} → r ≡ Some next → next ≤ height + 1
      next_low {next} q =
          omega (
            arith,
            reduced_length (sort_of (content_of (text s) (as_cell k))) (children_of (content_of (text s) (as_cell k)))
                (stacked a height) (stacked b next) (sym (ap (left b) q) ∙ d.is (text s)),
            stacked_length a height,
            stacked_length b next,
          )

      pub going_on : {next : ℕ} → r ≡ Some next → Going s b next (i + 1)
      unfolding rest
      going_on {next} q = go (after (text s) (as_cell k) g.trees) cell_read (left_sorts ∙ ap (left b) q)
        where
          go : (o : Option Stack) → onward (text s) i rest o ≡ read (text s) 0 (cells_of s) [] → sorted o ≡ some (stacked b next) → Going s b next (i + 1)
          go none p q = let z : ◌≡◌ {A = ℕ} 0 1 = cc in absurd (omega arith)
          go (some trees) e f =
              record {
                trees = trees;
                same = rw (add-one i) e;
                stand = cc;
                few = omega (arith, next_low q, g.few);
                within = omega (arith, cells_are l);
              }

      pub going_lacks : r ≡ None → some i ≡ place (plan_of s)
      unfolding plan_of
      going_lacks q = go (after (text s) (as_cell k) g.trees) cell_read (left_sorts ∙ ap (left b) q)
        where
          go : (o : Option Stack) → onward (text s) i rest o ≡ read (text s) 0 (cells_of s) [] → sorted o ≡ none
              → some i ≡ place (one_plan (cell_count s) (read (text s) 0 (cells_of s) []))
          go none e f = ap (λ (r : Read). place (one_plan (cell_count s) r)) e
          go (some trees) e f = let z : ◌≡◌ {A = ℕ} 0 1 = cc in absurd (omega arith)

  -- All cells have their children.
  module _ (h : p.cells.count ≤ i) where
    all_read : place (sole_node (cell_count s) g.trees) ≡ place (plan_of s)
    unfolding plan_of read
    all_read =
        let e : cell_count s - i ≡ 0 = omega (arith, cells_are l) in
        ap (λ (r : Read). place (one_plan (cell_count s) r)) (rw e at g.same)

    pub ends_one : height ≡ 1 → get_or a 0 Sort.Constant ≡ Sort.Node → none ≡ place (plan_of s)
    unfolding stacked
    ends_one p q = sole g.trees (g.stand ∙ rw (p, q)) ∙ all_read
      where
        expression_low : (x : Expression) → number (expression_sort x) < 3
        expression_low (constant og v) = omega arith
        expression_low (column og c) = omega arith
        expression_low (unary og o x) = omega arith
        expression_low (binary og o l r) = omega arith

        sole : (st : Stack) → sorts st ≡ Sort.Node ∷ [] → none ≡ place (sole_node (cell_count s) st)
        sole [] e = let z : ◌≡◌ {A = ℕ} 0 1 = cc in absurd (omega arith)
        sole (node_tree n ∷ []) e = refl
        sole (node_tree n ∷ t ∷ st) e = let z : ◌≡◌ {A = ℕ} 0 1 = cc in absurd (omega arith)
        sole (expression_tree x ∷ st) e = let z : expression_sort x ≡ Sort.Node = cc in absurd (omega (arith, ap number z, expression_low x))
        sole (label_tree x ∷ st) e = let z : Sort.Label ≡ Sort.Node = cc in absurd (omega (arith, ap number z))
        sole (item_tree x ∷ st) e = let z : Sort.Item ≡ Sort.Node = cc in absurd (omega (arith, ap number z))
        sole (key_tree x ∷ st) e = let z : Sort.Key ≡ Sort.Node = cc in absurd (omega (arith, ap number z))
        sole (target_tree x ∷ st) e = let z : Sort.Target ≡ Sort.Node = cc in absurd (omega (arith, ap number z))
        sole (agg_tree x ∷ st) e = let z : Sort.Agg ≡ Sort.Node = cc in absurd (omega (arith, ap number z))
        sole (row_tree x ∷ st) e = let z : Sort.Row ≡ Sort.Node = cc in absurd (omega (arith, ap number z))

    ends_other : (stacked a height ≡ Sort.Node ∷ [] → ⊥) → some p.cells.count ≡ place (plan_of s)
    ends_other q = ap some (cells_are l) ∙ sole g.trees (λ e. q (sym g.stand ∙ e)) ∙ all_read
      where
        sole : (st : Stack) → (sorts st ≡ Sort.Node ∷ [] → ⊥) → some (cell_count s) ≡ place (sole_node (cell_count s) st)
        sole [] f = refl
        sole (node_tree n ∷ []) f = absurd (f refl)
        sole (node_tree n ∷ t ∷ st) f = refl
        sole (expression_tree x ∷ st) f = refl
        sole (label_tree x ∷ st) f = refl
        sole (item_tree x ∷ st) f = refl
        sole (key_tree x ∷ st) f = refl
        sole (target_tree x ∷ st) f = refl
        sole (agg_tree x ∷ st) f = refl
        sole (row_tree x ∷ st) f = refl

    pub ends_many : (height ≡ 1 → ⊥) → some p.cells.count ≡ place (plan_of s)
    ends_many q = ends_other (λ e. q (omega (arith, ap length e, stacked_length a height)))

    pub ends_part : height ≡ 1 → (get_or a 0 Sort.Constant ≡ Sort.Node → ⊥) → some p.cells.count ≡ place (plan_of s)
    unfolding stacked
    ends_part o q = ends_other (λ e. let f : get_or a 0 Sort.Constant ∷ [] ≡ Sort.Node ∷ [] = rw o at e in q (cc))
