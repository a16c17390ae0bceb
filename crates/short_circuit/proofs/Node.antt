-- Laws on short_circuit of one node.
use Prim.Native.Nat.{ℕ, ◌+◌, ◌*◌, ◌≤◌, ◌<◌}
use native.Mathlib.Omega.{arith}
use mathlib.Core.Bool.{Bool, true, false, cond}
use mathlib.Core.Path.{◌≡◌, refl, sym, ap, ◌∙◌, subst}
use mathlib.Core.List.{List, ◌++◌}
use mathlib.Core.Option.{Option, none}
use lib.ListN.{length, take, length-map}
use lib.Seq.{take-take, take_at, length-take-le}
use Rattle.sql.specs.Schema.{Schema}
use Rattle.sql.specs.Expression.{Expression}
use Rattle.sql.specs.Plan.{node_origin, Label, scan, lookup, nothing, values, limit, offset, order, projection, remap, aggregate, filter, other, nested_loop, hash, Node, leaf, over, join, up_to, columns, column_label, column_labels, optional_size, node_size}
use Rattle.sql.specs.Optimizer.{verdict, optional_verdict, is_always, remove_true, is_noop, remove_useless, empty_or_node}
use Rattle.sheet.specs.Content.{nothing_cell}
use Rattle.sheet_laws.specs.Layout.{length_up_to}
use Rattle.cells.specs.declared.Cell.{Cell}
use Rattle.cells.specs.Cells.{cell_words, sized, origin_at, Part}
use Rattle.cells.specs.Room.{Short, most_words, Wrote, Seals, Copies}
use Rattle.cells.proofs.Laws.{fits}
use Rattle.words.specs.Words.{cell, all_words, label_words, node_words}
use Rattle.words.specs.Place.{NodeHere}
use Rattle.words.proofs.Nodes.{node_in, node_cell_is}
use Rattle.words.proofs.Sizes.{words_long, all_single, sized_long}
use Rattle.nodes.specs.Columns.{Narrow, ColumnsAt, ColumnCount}
use Rattle.records.specs.Records.{Records, RecordsAt, Tables}
use Rattle.records.proofs.Laws.{tables_said}
use Rattle.nodes.proofs.Widths.{few_columns}
use Rattle.column_labels.specs.ColumnLabels.{marked, WritesLabels}
use Rattle.remove_useless.specs.RemoveUseless.{Removes}
use Rattle.remove_useless.proofs.Standing.{wrote_part, wrote_here}
use Rattle.is_empty.specs.IsEmpty.{IsEmpty}
use Rattle.short_circuit.specs.ShortCircuit.{Fitted, Empties, CircuitsNode}

-- ---- what is written, with room behind it

pub wrote_fitted : {y : List ℕ} {at : ℕ} {w : List ℕ} {tail n : ℕ} {y' : List ℕ} → at + length w + tail ≤ length y → Short y → Wrote y at w n y' → Fitted y at w tail n y'
wrote_fitted h s a = record { fits = λ i. fits a s (omega arith); full = λ i. absurd (omega arith) }

-- what was written before `at` stays
wrote_before : {y : List ℕ} {at : ℕ} {w : List ℕ} {n : ℕ} {y' : List ℕ} → at + length w ≤ length y → Short y → Wrote y at w n y' → take at y' ≡ take at y
wrote_before {y} {at} {w} {n} {y'} h s a =
    let (e, t) = fits a s h in
    sym (take-take at n y' (omega arith)) ∙ ap (take at) t ∙ take_at (take at y) w at (length-take-le at y (omega arith))

pub fitted_over : {y y₁ : List ℕ} {at : ℕ} {w : List ℕ} {tail n : ℕ} {y₂ : List ℕ} → length y₁ ≡ length y → take at y₁ ≡ take at y → Fitted y₁ at w tail n y₂
    → Fitted y at w tail n y₂
fitted_over {w = w} k e a =
    record {
      fits = λ i. let (f, t) = a.fits (omega arith) in (f, t ∙ ap (λ (l : List ℕ). l ++ w) e);
      full = λ i. let z = a.full (omega arith) in omega arith;
    }

-- ---- a Nothing in the node's place

labels_count : (schema : Schema) (p : Node) → length (column_labels schema p) ≡ columns schema p
labels_count schema p = length-map (up_to 0 (columns schema p)) (column_label schema p) ∙ length_up_to 0 (columns schema p)

module _ (new : ℕ) (schema : Schema) (p : Node) where
  marked_count : length (marked new (column_labels schema p)) ≡ columns schema p
  marked_count = length-map (column_labels schema p) (λ (l : Label). (l, new)) ∙ labels_count schema p

  labels_long : length (all_words label_words (marked new (column_labels schema p))) ≡ cell_words * columns schema p
  labels_long = all_single label_words (λ l. refl) (marked new (column_labels schema p)) ∙ ap (λ (n : ℕ). cell_words * n) marked_count

  nothing_long : length (node_words (leaf new (nothing (marked new (column_labels schema p))))) ≡ cell_words * columns schema p + cell_words
  unfolding node_words
  nothing_long =
      sized_long (all_words label_words (marked new (column_labels schema p))) (cell new (nothing_cell (length (marked new (column_labels schema p)))))
      ∙ ap (λ (n : ℕ). n + cell_words) labels_long

origin_is : {y : List ℕ} {lo hi : ℕ} (p : Node) → NodeHere y lo hi p → origin_at y hi ≡ node_origin p
unfolding cell
origin_is p u = ap (λ (k : Cell). k.origin) (node_cell_is p u)

module _ {records y : List ℕ} {lo hi n : ℕ} (c : ColumnCount records y lo hi n) where
  pub no_room : {columns' : List ℕ} {tail r : ℕ} {y' : List ℕ} → length y < lo + (cell_words * n + cell_words) + tail → length y < r → Empties records columns' y lo hi tail r y'
  no_room h k schema p g u =
      let e = c schema p (tables_said g) u in
      let l = nothing_long (node_origin p) schema p in
      record { fits = λ i. absurd (omega arith); full = λ i. k }

  pub count_few : ColumnsAt records y lo hi → n ≤ 4294967296
  count_few t = omega (arith, few_columns t, c t.schema t.p t.tables t.here)

  module _ {new : ℕ} (o : new ≡ origin_at y hi) {columns' z : List ℕ} {end : ℕ} {z₁ : List ℕ} (k₁ : length z₁ ≡ length z) (f : WritesLabels new records columns' y lo hi z 0 end z₁)
      (h : cell_words * n ≤ length z) (s : length z ≤ most_words) where
    labels_part : (schema : Schema) (p : Node) → Records records columns' schema → NodeHere y lo hi p → Part z₁ 0 end (all_words label_words (marked new (column_labels schema p)))
    labels_part schema p g u =
        wrote_part k₁ (omega (arith, c schema p (tables_said g) u, labels_long new schema p)) (omega (arith, c schema p (tables_said g) u, labels_long new schema p)) (f schema p g u)

    pub labels_end : RecordsAt records columns' → ColumnsAt records y lo hi → end ≤ length z₁
    labels_end g t =
        let p = labels_part g.schema t.p g.given t.here in
        omega (arith, k₁, h, p.high, labels_long new g.schema t.p, c g.schema t.p (tables_said g.given) t.here)

    pub emptied : {tail : ℕ} → lo + (cell_words * n + cell_words) + tail ≤ length y → length y ≤ most_words → {at r : ℕ} {y₁ y₂ : List ℕ} → length y₁ ≡ length y → Copies z₁ 0 end y lo at y₁
        → Seals y₁ lo at (record { origin = new; tag = 57; flag = 0; a = n; b = 0; c = 0 }) r y₂ → Empties records columns' y lo hi tail r y₂
    unfolding cell node_words
    emptied {tail} i j {at} {r} {y₁} {y₂} k₂ a b schema p g u =
        let w = all_words label_words (marked new (column_labels schema p)) in
        let e : n ≡ length (marked new (column_labels schema p)) = c schema p (tables_said g) u ∙ sym (marked_count new schema p) in
        subst (λ (og : ℕ). Fitted y lo (node_words (leaf og (nothing (marked og (column_labels schema p))))) tail r y₂) (o ∙ origin_is p u)
        (wrote_fitted (omega (arith, nothing_long new schema p, c schema p (tables_said g) u)) (omega arith)
        (subst (λ (m : ℕ). Wrote y lo (sized w (record { origin = new; tag = 57; flag = 0; a = m; b = 0; c = 0 })) r y₂) e
        (b y w k₂ (a w (labels_part schema p g u)))))

-- ---- without what is useless

module _ (schema : Schema) where
  true_size : (q : Option Expression) → optional_size (remove_true q) ≤ optional_size q
  true_size q = go (is_always (optional_verdict q))
    where
      go : (b : Bool) → optional_size (cond b none q) ≤ optional_size q
      go true = omega arith
      go false = omega arith

  chosen_size : (b : Bool) (n m : Node) → node_size n ≤ node_size m → node_size (cond b n m) ≤ node_size m
  chosen_size true n m h = h
  chosen_size false n m h = omega arith

  useless_size : (p : Node) → node_size (remove_useless schema p) ≤ node_size p
  useless_size (leaf og (scan t al q)) = omega (arith, true_size q)
  useless_size (leaf og (lookup a t al vs)) = omega arith
  useless_size (leaf og (nothing ls)) = omega arith
  useless_size (leaf og (values rs)) = omega arith
  useless_size (over og (filter e) n) = chosen_size (is_always (verdict e)) n (over og (filter e) n) (omega arith)
  useless_size (over og (other (limit a)) n) = omega arith
  useless_size (over og (other (offset a)) n) = omega arith
  useless_size (over og (other (order ks)) n) = omega arith
  useless_size (over og (other (projection is)) n) = chosen_size (is_noop schema is n) n (over og (other (projection is)) n) (omega arith)
  useless_size (over og (other (remap ts)) n) = omega arith
  useless_size (over og (other (aggregate es gs)) n) = omega arith
  useless_size (join og outer (nested_loop q) l r) = omega (arith, true_size q)
  useless_size (join og outer (hash i j) l r) = omega arith

  chosen_narrow : (b : Bool) (n m : Node) → Narrow n → Narrow m → Narrow (cond b n m)
  chosen_narrow true n m h k = h
  chosen_narrow false n m h k = k

  useless_narrow : (p : Node) → Narrow p → Narrow (remove_useless schema p)
  useless_narrow (leaf og (scan t al q)) k = k
  useless_narrow (leaf og (lookup a t al vs)) k = k
  useless_narrow (leaf og (nothing ls)) k = k
  useless_narrow (leaf og (values rs)) k = k
  useless_narrow (over og (filter e) n) k = chosen_narrow (is_always (verdict e)) n (over og (filter e) n) k.1 k
  useless_narrow (over og (other (limit a)) n) k = k
  useless_narrow (over og (other (offset a)) n) k = k
  useless_narrow (over og (other (order ks)) n) k = k
  useless_narrow (over og (other (projection is)) n) k = chosen_narrow (is_noop schema is n) n (over og (other (projection is)) n) k.1 k
  useless_narrow (over og (other (remap ts)) n) k = k
  useless_narrow (over og (other (aggregate es gs)) n) k = k
  useless_narrow (join og outer (nested_loop q) l r) k = k
  useless_narrow (join og outer (hash i j) l r) k = k

module _ {records y : List ℕ} {lo hi end : ℕ} {y₁ : List ℕ} (k₁ : length y₁ ≡ length y) (f : Removes records y lo hi end y₁) (s : length y ≤ most_words) where
  removed_fits : (schema : Schema) (p : Node) → NodeHere y lo hi p → lo + length (node_words (remove_useless schema p)) ≤ hi
  removed_fits schema p u = omega (arith, useless_size schema p, words_long (remove_useless schema p), words_long p, u.part.high)

  removed_here : (schema : Schema) (p : Node) → Tables records schema → NodeHere y lo hi p → NodeHere y₁ lo end (remove_useless schema p)
  removed_here schema p g u =
      let (a, b) = node_in p u in
      wrote_here (remove_useless schema p) k₁ (omega (arith, removed_fits schema p u)) (omega (arith, removed_fits schema p u)) (f schema p g u)

  pub removed_in : ColumnsAt records y lo hi → end ≤ hi
  removed_in t = omega (arith, (removed_here t.schema t.p t.tables t.here).part.high, removed_fits t.schema t.p t.here)

  pub removed_at : ColumnsAt records y lo hi → ColumnsAt records y₁ lo end
  removed_at t =
      record {
        schema = t.schema;
        tables = t.tables;
        p = remove_useless t.schema t.p;
        here = removed_here t.schema t.p t.tables t.here;
        narrow = useless_narrow t.schema t.p t.narrow;
        short = omega (arith, removed_in t, t.short);
      }

  before_same : (schema : Schema) (p : Node) → Tables records schema → NodeHere y lo hi p → take lo y₁ ≡ take lo y
  before_same schema p g u = wrote_before (omega (arith, removed_fits schema p u, (node_in p u).1)) (omega arith) (f schema p g u)

  module _ {columns' : List ℕ} {tail : ℕ} (h : hi + tail ≤ length y) {b : Bool} (e : IsEmpty y₁ lo end b) where
    pub circuit_stays : b ≡ false → CircuitsNode records columns' y lo hi tail end y₁
    circuit_stays i schema p g u =
        subst (λ (t : Bool). Fitted y lo (node_words (empty_or_node schema t (remove_useless schema p))) tail end y₁)
        (sym i ∙ e (remove_useless schema p) (removed_here schema p (tables_said g) u))
        (wrote_fitted (omega (arith, removed_fits schema p u)) (omega arith) (f schema p (tables_said g) u))

    pub circuit_empties : b ≡ true → {n : ℕ} {y₂ : List ℕ} → Empties records columns' y₁ lo end tail n y₂ → CircuitsNode records columns' y lo hi tail n y₂
    circuit_empties i {n} {y₂} a schema p g u =
        subst (λ (t : Bool). Fitted y lo (node_words (empty_or_node schema t (remove_useless schema p))) tail n y₂)
        (sym i ∙ e (remove_useless schema p) (removed_here schema p (tables_said g) u))
        (fitted_over k₁ (before_same schema p (tables_said g) u) (a schema (remove_useless schema p) g (removed_here schema p (tables_said g) u)))
