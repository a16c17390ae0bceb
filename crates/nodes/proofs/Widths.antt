-- Laws on the columns that a node emits.
use Prim.Native.Nat.{ℕ, suc, ◌+◌, ◌-◌, ◌*◌, ◌≤◌, ◌<◌, max}
use native.Mathlib.Omega.{arith}
use mathlib.Core.Logic.{◌⊎◌, inl, inr, ⊎_elim}
use mathlib.Core.Bool.{Bool, true, false}
use mathlib.Core.Path.{◌≡◌, refl, sym, ap, ◌∙◌, subst}
use mathlib.Core.List.{List, [], ◌∷◌, ◌++◌, map, append_assoc}
use mathlib.Core.Option.{Option, none, some}
use lib.ListN.{length, take, get_or, length-append}
use lib.Seq.{take_at}
use Rattle.sql.specs.Schema.{Schema, table_of}
use Rattle.sql.specs.Expression.{Expression, constant, column, unary, binary, size}
use Rattle.sql.specs.Plan.{by_key, by_index, Leaf, scan, lookup, nothing, values, limit, offset, order, projection, remap, aggregate, Over, filter, other, Join, nested_loop, hash, Node, leaf, over, join, remap_columns, values_columns, leaf_columns, columns, up_to, sum, row_size, item_size, aggregate_size, leaf_size, node_size}
use Rattle.sql.specs.Ranges.{same_in}
use Rattle.sheet.specs.Content.{cell_of, target_cell, row_cell}
use Rattle.cells.specs.declared.Cell.{Cell}
use Rattle.cells.specs.Cells.{cell_words, cell_at, tag_at, start_at, Part, Sized}
use Rattle.cells.proofs.Laws.{part_left, part_right, part_in, cell_is, cell_in}
use Rattle.cells.specs.Room.{most_words}
use Rattle.words.specs.Words.{cell, all_words, expression_words, target_words, row_words, node_words, node_cell, source_count}
use Rattle.words.specs.Place.{NodeHere, NodeAt}
use Rattle.words.proofs.Nodes.{node_cell_is, node_tag, node_in, node_long, node_start, node_size_at, source_part, own_part, over_source, sources_sized, join_left, join_right}
use Rattle.words.proofs.Tags.{tag_of, tagged, over_tag, by_leaf, by_over, by_join, by_nothing, by_values, over_aggregate, over_projection}
use Rattle.words.proofs.Sizes.{words_long}
use Rattle.nodes.specs.Trees.{Trees, TreesAt, trees_start}
use Rattle.nodes.specs.Own.{OwnStart, SourceCount}
use Rattle.nodes.specs.Columns.{NarrowOver, Narrow, ColumnsAt, ColumnCount, past, TargetsAt, RemapColumns, through_over, through, GoesThrough}
use Rattle.records.specs.Records.{table_width, Tables}
use Rattle.nodes.proofs.Trees.{all_trees, trees_start_is, trees_long}
use Rattle.nodes.proofs.Own.{own_trees}

-- ---- a node has at most 256 columns for each of its cells

size_least : (e : Expression) → 1 ≤ size e
size_least (constant og v) = omega arith
size_least (column og i) = omega arith
size_least (unary og o x) = omega arith
size_least (binary og o l r) = omega arith

sum_least : {A : Type 0} (f : A → ℕ) → ((x : A) → 1 ≤ f x) → (xs : List A) → length xs ≤ sum f xs
sum_least f h [] = omega arith
sum_least f h (x ∷ xs) = omega (arith, h x, sum_least f h xs)

values_few : (rs : List (List Expression × ℕ)) → values_columns rs ≤ sum row_size rs
values_few [] = omega arith
values_few (row ∷ rows) = omega (arith, sum_least size size_least row.0)

module _ {schema : Schema} {records : List ℕ} (w : Tables records schema) where
  leaf_few : (l : Leaf) → leaf_columns schema l ≤ 256 * leaf_size l
  leaf_few (scan t al q) = omega (arith, w.width t, w.few t)
  leaf_few (lookup a t al vs) = omega (arith, w.width t, w.few t)
  leaf_few (nothing ls) = omega arith
  leaf_few (values rs) = omega (arith, values_few rs)

  over_few : (og : ℕ) (o : Over) (n : Node) → NarrowOver o → columns schema n ≤ 256 * node_size n → columns schema (over og o n) ≤ 256 * node_size (over og o n)
  over_few og (filter e) n k h = omega arith
  over_few og (other (limit a)) n k h = omega arith
  over_few og (other (offset a)) n k h = omega arith
  over_few og (other (order ks)) n k h = omega arith
  over_few og (other (projection is)) n k h = omega (arith, sum_least item_size (λ i. omega arith) is)
  over_few og (other (remap ts)) n k h = omega arith
  over_few og (other (aggregate es gs)) n k h = omega (arith, sum_least size size_least es, sum_least aggregate_size (λ g. omega arith) gs)

  pub columns_few : (p : Node) → Narrow p → columns schema p ≤ 256 * node_size p
  columns_few (leaf og l) k = leaf_few l
  columns_few (over og o n) k = over_few og o n k.0 (columns_few n k.1)
  columns_few (join og outer j l r) k = omega (arith, columns_few l k.0, columns_few r k.1)

-- ---- a node's cell, by the node

module _ {s : List ℕ} {lo hi : ℕ} {c : Cell} (q : c ≡ cell_at s hi) (p : Node) (u : NodeHere s lo hi p) where
  pub tag_here : c.tag ≡ tag_of p
  tag_here = ap (λ (k : Cell). k.tag) q ∙ node_tag p u ∙ tagged p

  pub flag_here : c.flag ≡ (cell_of (node_cell p)).flag
  unfolding cell
  flag_here = ap (λ (k : Cell). k.flag) (q ∙ node_cell_is p u)

  pub a_here : c.a ≡ (cell_of (node_cell p)).a
  unfolding cell
  a_here = ap (λ (k : Cell). k.a) (q ∙ node_cell_is p u)

  pub b_here : c.b ≡ (cell_of (node_cell p)).b
  unfolding cell
  b_here = ap (λ (k : Cell). k.b) (q ∙ node_cell_is p u)

-- ---- Targets

-- One past what a Target says.
abbrev target_columns : Option ℕ → ℕ
target_columns none = 0
target_columns (some i) = suc i

target_past : (og : ℕ) (t : Option ℕ) → past (cell og (target_cell t)).flag (cell og (target_cell t)).a ≡ target_columns t
unfolding cell
target_past og none = refl
target_past og (some i) = refl

remap_max : (t : Option ℕ × ℕ) (ts : List (Option ℕ × ℕ)) → remap_columns (t ∷ ts) ≡ max (target_columns t.0) (remap_columns ts)
remap_max (none, og) ts = omega arith
remap_max (some i, og) ts = refl

-- The targets from i up to hi are left, and n is what those before them come to.
pub record Remaining (s : List ℕ) (hi i n : ℕ) (targets : List (Option ℕ × ℕ)) : Type 0 where
  pub rest : List (Option ℕ × ℕ)
  pub part : Part s i hi (all_words target_words rest)
  pub is : max n (remap_columns rest) ≡ remap_columns targets

pub remaining_all : {s : List ℕ} {lo hi : ℕ} (targets : List (Option ℕ × ℕ)) → Part s lo hi (all_words target_words targets) → Remaining s hi lo 0 targets
remaining_all targets p = record { rest = targets; part = p; is = omega arith }

module _ {s : List ℕ} {hi i n : ℕ} (targets : List (Option ℕ × ℕ)) (g : Remaining s hi i n targets) where
  one_left : (P : Type 0) → i < hi
      → ((t : Option ℕ × ℕ) (ts : List (Option ℕ × ℕ)) → Part s i (i + cell_words) (target_words t) → Part s (i + cell_words) hi (all_words target_words ts)
      → max n (max (target_columns t.0) (remap_columns ts)) ≡ remap_columns targets → P)
      → P
  one_left P h f = go g.rest g.part g.is
    where
      go : (rest : List (Option ℕ × ℕ)) → Part s i hi (all_words target_words rest) → max n (remap_columns rest) ≡ remap_columns targets → P
      go [] p e = absurd (omega (arith, p.high))
      go (t ∷ ts) p e =
          f t ts (part_left (target_words t) (all_words target_words ts) p) (part_right (target_words t) (all_words target_words ts) p)
          (ap (max n) (sym (remap_max t ts)) ∙ e)

  pub remaining_in : i < hi → (i + cell_words ≤ hi) × (hi ≤ length s)
  remaining_in h = one_left ((i + cell_words ≤ hi) × (hi ≤ length s)) h (λ t ts p r e. ((part_in r).0, (part_in r).1))

  module _ (h : i < hi) {c : Cell} (q : c ≡ cell_at s (i + cell_words)) where
    said : (t : Option ℕ × ℕ) → Part s i (i + cell_words) (target_words t) → past c.flag c.a ≡ target_columns t.0
    said t p = ap (λ (k : Cell). past k.flag k.a) (q ∙ cell_is [] (cell t.1 (target_cell t.0)) p) ∙ target_past t.1 t.0

    pub remaining_few : remap_columns targets ≤ 256 → past c.flag c.a ≤ 256
    remaining_few k = one_left (past c.flag c.a ≤ 256) h (λ t ts p r e. omega (arith, said t p))

    pub remaining_next : {m : ℕ} → m ≡ max n (past c.flag c.a) → Remaining s hi (i + cell_words) m targets
    remaining_next {m} z =
        one_left (Remaining s hi (i + cell_words) m targets) h (λ t ts p r e. record { rest = ts; part = r; is = omega (arith, said t p) })

  pub remaining_none : hi ≤ i → n ≡ remap_columns targets
  remaining_none h = go g.rest g.part g.is
    where
      go : (rest : List (Option ℕ × ℕ)) → Part s i hi (all_words target_words rest) → max n (remap_columns rest) ≡ remap_columns targets → n ≡ remap_columns targets
      go [] p e = omega arith
      go (t ∷ ts) p e = absurd (omega (arith, p.high, length-append (target_words t) (all_words target_words ts)))

-- ---- nodes without sources

row_trees : (rows : List (List Expression × ℕ)) → Trees (length rows) (all_words row_words rows)
row_trees rows = all_trees row_words (λ es. all_words expression_words es.0) (λ es. cell es.1 (row_cell (length es.0))) (λ es. refl) rows

module _ {s : List ℕ} {lo hi : ℕ} {c : Cell} (q : c ≡ cell_at s hi) where
  pub columns_nothing : {records : List ℕ} → c.tag ≡ 57 → ColumnCount records s lo hi c.a
  columns_nothing z schema p w u =
      by_nothing (λ p. NodeHere s lo hi p → c.a ≡ columns schema p) (λ og ls u. a_here q (leaf og (nothing ls)) u) p (sym (tag_here q p u) ∙ z) u

  -- the first row of Values, and those behind it
  first_row : (z : c.tag ≡ 63) → (c.a ≡ 0 → ⊥) → (p : Node) → NodeHere s lo hi p → (P : Node → Type 0)
      → ((og : ℕ) (row : List Expression × ℕ) (rows : List (List Expression × ℕ)) → c.a - 1 ≡ length rows → Part s lo (lo + length (row_words row)) (row_words row)
      → Part s (lo + length (row_words row)) (hi - cell_words) (all_words row_words rows) → P (leaf og (values (row ∷ rows))))
      → P p
  first_row z y p u P f = by_values (λ p. NodeHere s lo hi p → P p) go p (sym (tag_here q p u) ∙ z) u
    where
      go : (og : ℕ) (rs : List (List Expression × ℕ)) → NodeHere s lo hi (leaf og (values rs)) → P (leaf og (values rs))
      go og [] u = absurd (y (a_here q (leaf og (values [])) u))
      go og (row ∷ rows) u =
          let v = own_part (leaf og (values (row ∷ rows))) u {m = lo} (omega arith) in
          f og row rows (omega (arith, a_here q (leaf og (values (row ∷ rows))) u)) (part_left (row_words row) (all_words row_words rows) v)
          (part_right (row_words row) (all_words row_words rows) v)

  pub columns_no_rows : {records : List ℕ} → c.tag ≡ 63 → c.a ≡ 0 → ColumnCount records s lo hi 0
  columns_no_rows z y schema p w u = by_values (λ p. NodeHere s lo hi p → 0 ≡ columns schema p) go p (sym (tag_here q p u) ∙ z) u
    where
      go : (og : ℕ) (rs : List (List Expression × ℕ)) → NodeHere s lo hi (leaf og (values rs)) → 0 ≡ values_columns rs
      go og [] u = refl
      go og (row ∷ rows) u = absurd (omega (arith, a_here q (leaf og (values (row ∷ rows))) u))

  module _ (z : c.tag ≡ 63) (y : c.a ≡ 0 → ⊥) where
    pub rows_at : NodeAt s lo hi → TreesAt s (c.a - 1) (hi - cell_words)
    rows_at t =
        first_row z y t.p t.here (λ p. TreesAt s (c.a - 1) (hi - cell_words))
        (λ og row rows e a b. record { lo = lo + length (row_words row); w = all_words row_words rows; trees = subst (λ (n : ℕ). Trees n (all_words row_words rows)) (sym e) (row_trees rows); part = b })

    module _ {first : ℕ} (e : first ≡ trees_start s (c.a - 1) (hi - cell_words)) where
      with_row : (p : Node) → NodeHere s lo hi p → (P : Node → Type 0)
          → ((og : ℕ) (row : List Expression × ℕ) (rows : List (List Expression × ℕ)) → Part s lo first (row_words row) → P (leaf og (values (row ∷ rows)))) → P p
      with_row p u P f =
          first_row z y p u P
          (λ og row rows i a b. f og row rows
          (subst (λ (n : ℕ). Part s lo n (row_words row)) (sym (e ∙ ap (λ (n : ℕ). trees_start s n (hi - cell_words)) i ∙ trees_start_is (row_trees rows) b)) a))

      pub row_in : NodeAt s lo hi → (cell_words ≤ first) × (first ≤ length s)
      row_in t =
          with_row t.p t.here (λ p. (cell_words ≤ first) × (first ≤ length s))
          (λ og row rows a. let (h, k) = cell_in (all_words expression_words row.0) (cell row.1 (row_cell (length row.0))) a in (omega arith, k))

      pub columns_values : {records : List ℕ} {d : Cell} → d ≡ cell_at s first → ColumnCount records s lo hi d.a
      unfolding cell
      columns_values {d = d} g schema p w u =
          with_row p u (λ p. d.a ≡ columns schema p)
          (λ og row rows a. ap (λ (k : Cell). k.a) (g ∙ cell_is (all_words expression_words row.0) (cell row.1 (row_cell (length row.0))) a))

  pub columns_table : SourceCount s lo hi 0 → (c.tag ≡ 57 → ⊥) → (c.tag ≡ 63 → ⊥) → {records : List ℕ} {r : ℕ} → r ≡ table_width records c.a → ColumnCount records s lo hi r
  columns_table k y z {records = records} {r = r} e schema p w u = by_leaf (λ p. NodeHere s lo hi p → r ≡ columns schema p) go p (sym (k p u)) u
    where
      of_table : (t : ℕ) → c.a ≡ t → r ≡ length (table_of schema t).columns
      of_table t i = e ∙ ap (table_width records) i ∙ w.width t

      go : (og : ℕ) (l : Leaf) → NodeHere s lo hi (leaf og l) → r ≡ leaf_columns schema l
      go og (scan t none f) u = of_table t (a_here q (leaf og (scan t none f)) u)
      go og (scan t (some al) f) u = of_table t (a_here q (leaf og (scan t (some al) f)) u)
      go og (lookup by_key t none vs) u = of_table t (a_here q (leaf og (lookup by_key t none vs)) u)
      go og (lookup by_key t (some al) vs) u = of_table t (a_here q (leaf og (lookup by_key t (some al) vs)) u)
      go og (lookup (by_index i) t none vs) u = of_table t (a_here q (leaf og (lookup (by_index i) t none vs)) u)
      go og (lookup (by_index i) t (some al) vs) u = of_table t (a_here q (leaf og (lookup (by_index i) t (some al) vs)) u)
      go og (nothing ls) u = absurd (y (tag_here q (leaf og (nothing ls)) u))
      go og (values rs) u = absurd (z (tag_here q (leaf og (values rs)) u))

-- ---- nodes that say their columns themselves

module _ {s : List ℕ} {lo hi : ℕ} {c : Cell} (q : c ≡ cell_at s hi) (k : SourceCount s lo hi 1) where
  over_here : (P : Node → Type 0) → ((og : ℕ) (o : Over) (n : Node) → NodeHere s lo hi (over og o n) → c.tag ≡ over_tag o → P (over og o n)) → (p : Node) → NodeHere s lo hi p → P p
  over_here P f p u = by_over (λ p. NodeHere s lo hi p → P p) (λ og o n u. f og o n u (tag_here q (over og o n) u)) p (sym (k p u)) u

  aggregate_here : c.tag ≡ 50 → (p : Node) → NodeHere s lo hi p → (P : Node → Type 0)
      → ((og : ℕ) (es : List Expression) (gs : List (ℕ × Expression × ℕ)) (n : Node) → NodeHere s lo hi (over og (other (aggregate es gs)) n) → P (over og (other (aggregate es gs)) n)) → P p
  aggregate_here z p u P f =
      over_here P (λ og o n u e. over_aggregate (λ o. NodeHere s lo hi (over og o n) → P (over og o n)) (λ es gs u. f og es gs n u) o (sym e ∙ z) u) p u

  pub aggregate_fits : c.tag ≡ 50 → NodeAt s lo hi → cell_words * (c.b + c.a) ≤ hi
  aggregate_fits z t =
      aggregate_here z t.p t.here (λ p. cell_words * (c.b + c.a) ≤ hi)
      (λ og es gs n u. omega (arith, a_here q (over og (other (aggregate es gs)) n) u, b_here q (over og (other (aggregate es gs)) n) u, trees_long (own_trees (over og (other (aggregate es gs)) n)), node_long (over og (other (aggregate es gs)) n) u))

  pub columns_aggregate : {records : List ℕ} → c.tag ≡ 50 → ColumnCount records s lo hi (c.b + c.a)
  columns_aggregate z schema p w u =
      aggregate_here z p u (λ p. c.b + c.a ≡ columns schema p)
      (λ og es gs n u. omega (arith, a_here q (over og (other (aggregate es gs)) n) u, b_here q (over og (other (aggregate es gs)) n) u))

  pub columns_projection : {records : List ℕ} → c.tag ≡ 60 → ColumnCount records s lo hi c.a
  columns_projection z schema p w u =
      over_here (λ p. c.a ≡ columns schema p)
      (λ og o n u e. over_projection (λ o. NodeHere s lo hi (over og o n) → c.a ≡ columns schema (over og o n)) (λ is u. a_here q (over og (other (projection is)) n) u) o (sym e ∙ z) u) p u

  module _ (g : (c.tag ≡ 50) ⊎ (60 ≤ c.tag)) (y : c.tag ≡ 50 → ⊥) (z : c.tag ≡ 60 → ⊥) {m : ℕ} (own : OwnStart s lo hi m) where
    remap_here : (P : Node → Type 0) → ((og : ℕ) (ts : List (Option ℕ × ℕ)) (n : Node) → Part s m (hi - cell_words) (all_words target_words ts) → P (over og (other (remap ts)) n))
        → (p : Node) → NodeHere s lo hi p → P p
    remap_here P f p u = over_here P (λ og o n u e. go og o n e u) p u
      where
        high : 60 ≤ c.tag
        high = ⊎_elim (λ i. absurd (y i)) (λ i. i) g

        go : (og : ℕ) (o : Over) (n : Node) → c.tag ≡ over_tag o → NodeHere s lo hi (over og o n) → P (over og o n)
        go og (filter e) n i u = absurd (omega (arith, high))
        go og (other (limit a)) n i u = absurd (omega (arith, high))
        go og (other (offset a)) n i u = absurd (omega (arith, high))
        go og (other (order ks)) n i u = absurd (omega (arith, high))
        go og (other (projection is)) n i u = absurd (z i)
        go og (other (remap ts)) n i u = f og ts n (own_part (over og (other (remap ts)) n) u (own (over og (other (remap ts)) n) u))
        go og (other (aggregate es gs)) n i u = absurd (y i)

    pub targets_at : {records : List ℕ} → ColumnsAt records s lo hi → TargetsAt s m (hi - cell_words)
    targets_at t =
        remap_here (λ p. Narrow p → TargetsAt s m (hi - cell_words)) (λ og ts n v i. record { targets = ts; part = v; few = i.0 }) t.p t.here t.narrow

    pub columns_remap : {records : List ℕ} {r : ℕ} → RemapColumns s m (hi - cell_words) r → ColumnCount records s lo hi r
    columns_remap {r = r} f schema p w u = remap_here (λ p. r ≡ columns schema p) (λ og ts n v. f ts v) p u

-- ---- all nodes

pub columns_node : {records s : List ℕ} {lo hi : ℕ} → ColumnsAt records s lo hi → NodeAt s lo hi
columns_node t = record { p = t.p; here = t.here }

-- what the code's test says of all nodes there
pub counted_as : {s : List ℕ} {lo hi n : ℕ} → SourceCount s lo hi n → {k : ℕ} → n ≡ k → SourceCount s lo hi k
counted_as c z p u = sym z ∙ c p u

module _ {s : List ℕ} {lo hi m : ℕ} (c : SourceCount s lo hi 2) (own : OwnStart s lo hi m) where
  join_here : (P : Node → Type 0) → ((og : ℕ) (outer : Bool) (j : Join) (l r : Node) → NodeHere s lo hi (join og outer j l r) → P (join og outer j l r)) → (p : Node) → NodeHere s lo hi p → P p
  join_here P f p u = by_join (λ p. NodeHere s lo hi p → P p) f p (sym (c p u)) u

  pub join_sized : NodeAt s lo hi → Sized s m
  join_sized t = join_here (λ p. Sized s m) (λ og outer j l r u. sources_sized og outer j l r u (own (join og outer j l r) u)) t.p t.here

  module _ {mid : ℕ} (st : mid ≡ start_at s m) where
    -- where the two sources of a node stand
    pub sources_in : NodeAt s lo hi → (lo + cell_words ≤ mid) × ((mid + cell_words ≤ m) × (m + cell_words ≤ hi))
    sources_in t =
        join_here (λ p. (lo + cell_words ≤ mid) × ((mid + cell_words ≤ m) × (m + cell_words ≤ hi)))
        (λ og outer j l r u.
        let (a, b) = node_in l (join_left og outer j l r u (own (join og outer j l r) u) st) in
        let (d, e) = node_in r (join_right og outer j l r u (own (join og outer j l r) u) st) in
        (a, (d, omega (arith, node_long (join og outer j l r) u, own (join og outer j l r) u))))
        t.p t.here

    module _ {records : List ℕ} (t : ColumnsAt records s lo hi) where
      pub left_columns_at : ColumnsAt records s lo mid
      left_columns_at =
          let (a, (b, d)) = sources_in (columns_node t) in
          join_here (λ p. Narrow p → ColumnsAt records s lo mid)
          (λ og outer j l r u k. record { schema = t.schema; tables = t.tables; p = l; here = join_left og outer j l r u (own (join og outer j l r) u) st; narrow = k.0; short = omega (arith, t.short) })
          t.p t.here t.narrow

      pub right_columns_at : ColumnsAt records s mid m
      right_columns_at =
          let (a, (b, d)) = sources_in (columns_node t) in
          join_here (λ p. Narrow p → ColumnsAt records s mid m)
          (λ og outer j l r u k. record { schema = t.schema; tables = t.tables; p = r; here = join_right og outer j l r u (own (join og outer j l r) u) st; narrow = k.1; short = omega (arith, t.short) })
          t.p t.here t.narrow

-- a count of columns is small
pub few_columns : {records s : List ℕ} {lo hi : ℕ} (t : ColumnsAt records s lo hi) → columns t.schema t.p ≤ 4294967296
few_columns t = omega (arith, columns_few t.tables t.p t.narrow, words_long t.p, t.here.part.high, t.short)

module _ {s : List ℕ} {lo hi m : ℕ} (c : SourceCount s lo hi 1) (own : OwnStart s lo hi m) where
  source_here : (P : Node → Type 0) → ((og : ℕ) (o : Over) (n : Node) → NodeHere s lo hi (over og o n) → NodeHere s lo m n → P (over og o n)) → (p : Node) → NodeHere s lo hi p → P p
  source_here P f p u =
      by_over (λ p. NodeHere s lo hi p → P p) (λ og o n u. f og o n u (over_source og o n u (own (over og o n) u))) p (sym (c p u)) u

  pub source_in : NodeAt s lo hi → (lo + cell_words ≤ m) × (m + cell_words ≤ hi)
  source_in t =
      source_here (λ p. (lo + cell_words ≤ m) × (m + cell_words ≤ hi)) (λ og o n u v. ((node_in n v).0, omega (arith, node_long (over og o n) u, own (over og o n) u))) t.p t.here

  pub source_columns_at : {records : List ℕ} → ColumnsAt records s lo hi → ColumnsAt records s lo m
  source_columns_at {records} t =
      let (a, b) = source_in (columns_node t) in
      source_here (λ p. Narrow p → ColumnsAt records s lo m)
      (λ og o n u v k. record { schema = t.schema; tables = t.tables; p = n; here = v; narrow = k.1; short = omega (arith, t.short) }) t.p t.here t.narrow

-- ---- nodes whose columns are those of their sources

false_true : false ≡ true → ⊥
false_true h = let z : ◌≡◌ {A = ℕ} 0 1 = cc in omega arith

abbrev through_told : List Bool
through_told = false ∷ true ∷ true ∷ false ∷ false ∷ true ∷ true ∷ false ∷ true ∷ true ∷ false ∷ false ∷ false ∷ false ∷ []

by_tag : (p : Node) → get_or through_told (tag_of p - 50) false ≡ through p
by_tag (leaf og (scan t al q)) = refl
by_tag (leaf og (lookup by_key t al vs)) = refl
by_tag (leaf og (lookup (by_index i) t al vs)) = refl
by_tag (leaf og (nothing ls)) = refl
by_tag (leaf og (values rs)) = refl
by_tag (over og (filter e) n) = refl
by_tag (over og (other (limit a)) n) = refl
by_tag (over og (other (offset a)) n) = refl
by_tag (over og (other (order ks)) n) = refl
by_tag (over og (other (projection is)) n) = refl
by_tag (over og (other (remap ts)) n) = refl
by_tag (over og (other (aggregate es gs)) n) = refl
by_tag (join og outer (nested_loop q) l r) = refl
by_tag (join og outer (hash i j) l r) = refl

-- The nodes with the tags of a range go through, or none of them does.
pub through_in : (k : Bool) (from n : ℕ) → map (λ t. get_or through_told (t - 50) false) (up_to from n) ≡ map (λ t. k) (up_to from n)
    → {s : List ℕ} {lo hi t : ℕ} → t ≡ tag_at s hi → from ≤ t → t < from + n → GoesThrough s lo hi k
through_in k from n q {t = t} e h j p u =
    sym (same_in (λ t. get_or through_told (t - 50) false) (λ t. k) from n q t h j)
    ∙ ap (λ (n : ℕ). get_or through_told (n - 50) false) (e ∙ node_tag p u ∙ tagged p)
    ∙ by_tag p

-- Nodes that stand one after the other.
pub data Forest : Type 0 where
  empty : Forest
  and : Forest → Node → Forest

abbrev pub forest_words : Forest → List ℕ
forest_words empty = []
forest_words (and f n) = forest_words f ++ node_words n

abbrev pub forest_columns : Schema → Forest → ℕ
forest_columns schema empty = 0
forest_columns schema (and f n) = forest_columns schema f + columns schema n

abbrev pub NarrowForest : Forest → Type 0
NarrowForest empty = Unit {0}
NarrowForest (and f n) = NarrowForest f × Narrow n

-- two parts, one after the other
part_join : {s : List ℕ} {a b c : ℕ} {u v : List ℕ} → Part s a b u → Part s b c v → Part s a c (u ++ v)
part_join {s} {a} {b} {c} {u} {v} p q =
    let e : take b s ≡ q.before = ap (take b) q.whole ∙ take_at q.before (v ++ q.after) b q.low in
    let f : take b s ≡ p.before ++ u =
    ap (take b) (p.whole ∙ sym (append_assoc p.before u p.after)) ∙ take_at (p.before ++ u) p.after b (omega (arith, length-append p.before u, p.low, p.high)) in
    record {
      before = p.before;
      after = q.after;
      whole = q.whole ∙ ap (λ (l : List ℕ). l ++ (v ++ q.after)) (sym e ∙ f) ∙ simp append_assoc;
      low = p.low;
      high = omega (arith, length-append u v, p.high, q.high);
    }

-- Of p's columns `total` are counted, and those of a forest are left, which stands from lo up to `end`.
pub record Left (schema : Schema) (s : List ℕ) (lo end total : ℕ) (p : Node) : Type 0 where
  pub f : Forest
  pub part : Part s lo end (forest_words f)
  pub count : total + forest_columns schema f ≡ columns schema p
  pub narrow : Narrow p → NarrowForest f

module _ {schema : Schema} {s : List ℕ} {lo end total : ℕ} (p : Node) (x : Left schema s lo end total p) where
  -- the last node of the forest, and those before it
  last_node : (P : Type 0) → lo < end
      → ((f : Forest) (n : Node) → Part s lo (lo + length (forest_words f)) (forest_words f) → NodeHere s (lo + length (forest_words f)) end n
      → total + (forest_columns schema f + columns schema n) ≡ columns schema p → (Narrow p → NarrowForest f × Narrow n) → P)
      → P
  last_node P h k = go x.f x.part x.count x.narrow
    where
      go : (f : Forest) → Part s lo end (forest_words f) → total + forest_columns schema f ≡ columns schema p → (Narrow p → NarrowForest f) → P
      go empty v c w = absurd (omega (arith, v.high))
      go (and f n) v c w = k f n (part_left (forest_words f) (node_words n) v) (record { part = part_right (forest_words f) (node_words n) v }) c w

  pub last_size : lo < end → Sized s end
  last_size h = last_node (Sized s end) h (λ f n v u c w. node_size_at n u)

  pub left_none : end ≤ lo → total ≡ columns schema p
  left_none h = go x.f x.part x.count
    where
      go : (f : Forest) → Part s lo end (forest_words f) → total + forest_columns schema f ≡ columns schema p → total ≡ columns schema p
      go empty v c = omega arith
      go (and f n) v c =
          absurd (omega (arith, v.high, length-append (forest_words f) (node_words n), (node_in n (record { part = part_right (forest_words f) (node_words n) v })).0))

  module _ (h : lo < end) {from : ℕ} (st : from ≡ start_at s end) where
    last_here : (P : Type 0)
        → ((f : Forest) (n : Node) → Part s lo from (forest_words f) → NodeHere s from end n
        → total + (forest_columns schema f + columns schema n) ≡ columns schema p → (Narrow p → NarrowForest f × Narrow n) → P)
        → P
    last_here P k =
        last_node P h
        (λ f n v u c w.
        let e : lo + length (forest_words f) ≡ from = sym (node_start n u) ∙ sym st in
        k f n (subst (λ (i : ℕ). Part s lo i (forest_words f)) e v) (subst (λ (i : ℕ). NodeHere s i end n) e u) c w)

    pub last_in : (lo ≤ from) × (from < end)
    last_in = last_here ((lo ≤ from) × (from < end)) (λ f n v u c w. let (a, b) = node_in n u in ((part_in v).0, omega arith))

    pub last_at : NodeAt s from end
    last_at = last_here (NodeAt s from end) (λ f n v u c w. record { p = n; here = u })

    pub last_columns_at : {records : List ℕ} → Tables records schema → Narrow p → end ≤ most_words → ColumnsAt records s from end
    last_columns_at {records} t k i =
        last_here (ColumnsAt records s from end) (λ f n v u c w. record { schema = schema; tables = t; p = n; here = u; narrow = (w k).1; short = i })

    -- a node that says its columns is counted
    pub left_counted : {records : List ℕ} → Tables records schema → {r : ℕ} → ColumnCount records s from end r → Left schema s lo from (total + r) p
    left_counted t {r} g =
        last_here (Left schema s lo from (total + r) p)
        (λ f n v u c w. record { f = f; part = v; count = omega (arith, g schema n t u); narrow = λ k. (w k).0 })

    -- another gives way to its sources
    module _ {k : Bool} (g : GoesThrough s from end k) (z : k ≡ true) {m : ℕ} (own : OwnStart s from end m) where
      over_through : (og : ℕ) (o : Over) (n : Node) → through_over o ≡ true → columns schema n ≡ columns schema (over og o n)
      over_through og (filter e) n i = refl
      over_through og (other (limit a)) n i = refl
      over_through og (other (offset a)) n i = refl
      over_through og (other (order ks)) n i = refl
      over_through og (other (projection is)) n i = absurd (false_true i)
      over_through og (other (remap ts)) n i = absurd (false_true i)
      over_through og (other (aggregate es gs)) n i = absurd (false_true i)

      pub own_before : m < end
      own_before = last_here (m < end) (λ f n v u c w. omega (arith, own n u, node_long n u))

      pub left_through : Left schema s lo m total p
      left_through = last_here (Left schema s lo m total p) (λ f n v u c w. go f n v u c w (sym (g n u) ∙ z))
        where
          go : (f : Forest) (n : Node) → Part s lo from (forest_words f) → NodeHere s from end n
              → total + (forest_columns schema f + columns schema n) ≡ columns schema p → (Narrow p → NarrowForest f × Narrow n) → through n ≡ true → Left schema s lo m total p
          go f (leaf og l) v u c w i = absurd (false_true i)
          go f (over og o n) v u c w i =
              record {
                f = and f n;
                part = part_join v (source_part (over og o n) u (own (over og o n) u));
                count = omega (arith, over_through og o n i);
                narrow = λ k. ((w k).0, (w k).1.1);
              }
          go f (join og outer j l r) v u c w i =
              record {
                f = and (and f l) r;
                part = subst (λ (q : List ℕ). Part s lo m q) (sym (append_assoc (forest_words f) (node_words l) (node_words r)))
                    (part_join v (source_part (join og outer j l r) u (own (join og outer j l r) u)));
                count = omega arith;
                narrow = λ k. (((w k).0, (w k).1.0), (w k).1.1);
              }

-- Counting has got to `end`, with `total` columns.
pub record Counting (records s : List ℕ) (lo hi end total : ℕ) : Type 0 where
  pub all : (schema : Schema) (p : Node) → Tables records schema → NodeHere s lo hi p → Left schema s lo end total p
  pub within : end ≤ hi

pub counting_first : {records s : List ℕ} {lo hi : ℕ} → Counting records s lo hi hi 0
counting_first =
    record {
      all = λ schema p t u. record { f = and empty p; part = u.part; count = omega arith; narrow = λ k. (tt, k) };
      within = omega arith;
    }

module _ {records s : List ℕ} {lo hi end total : ℕ} (g : Counting records s lo hi end total) where
  pub counting_done : end ≤ lo → ColumnCount records s lo hi total
  counting_done h schema p t u = left_none p (g.all schema p t u) h

  module _ (t : ColumnsAt records s lo hi) where
    counted : Left t.schema s lo end total t.p
    counted = g.all t.schema t.p t.tables t.here

    pub counting_size : lo < end → Sized s end
    counting_size h = last_size t.p counted h

    module _ (h : lo < end) {from : ℕ} (st : from ≡ start_at s end) where
      pub counting_in : (lo ≤ from) × (from < end)
      counting_in = last_in t.p counted h st

      pub counting_at : NodeAt s from end
      counting_at = last_at t.p counted h st

      pub counting_columns_at : ColumnsAt records s from end
      counting_columns_at = last_columns_at t.p counted h st t.tables t.narrow (omega (arith, t.short, g.within))

      pub counting_few : {r : ℕ} → ColumnCount records s from end r → total + r ≤ 4294967296
      counting_few f =
          let x = left_counted t.p counted h st t.tables f in
          omega (arith, x.count, few_columns t)

      pub counting_own : {k : Bool} → GoesThrough s from end k → k ≡ true → {m : ℕ} → OwnStart s from end m → m < end
      counting_own c z own = own_before t.p counted h st c z own

  module _ (h : lo < end) {from : ℕ} (st : from ≡ start_at s end) where
    pub counting_said : ColumnsAt records s lo hi → {r : ℕ} → ColumnCount records s from end r → Counting records s lo hi from (total + r)
    counting_said t f =
        let (a, b) = counting_in t h st in
        record { all = λ schema p k u. left_counted p (g.all schema p k u) h st k f; within = omega (arith, g.within) }

    pub counting_through : ColumnsAt records s lo hi → {k : Bool} → GoesThrough s from end k → k ≡ true → {m : ℕ} → OwnStart s from end m → Counting records s lo hi m total
    counting_through t c z own =
        let b = counting_own t h st c z own in
        record { all = λ schema p k u. left_through p (g.all schema p k u) h st c z own; within = omega (arith, g.within) }

-- ---- a node that says its columns itself

-- what the code's test says of all nodes there
pub through_as : {s : List ℕ} {lo hi : ℕ} {b : Bool} → GoesThrough s lo hi b → {k : Bool} → b ≡ k → GoesThrough s lo hi k
through_as c z p u = sym z ∙ c p u

module _ {s : List ℕ} {lo hi : ℕ} (g : GoesThrough s lo hi false) where
  pub one_source : {n : ℕ} → SourceCount s lo hi n → (n ≡ 0 → ⊥) → SourceCount s lo hi 1
  one_source {n} c z p u = go p (c p u) (g p u)
    where
      go : (p : Node) → n ≡ source_count p → false ≡ through p → 1 ≡ source_count p
      go (leaf og l) e i = absurd (z e)
      go (over og o m) e i = refl
      go (join og outer j l r) e i = absurd (false_true i)

  pub own_tag : SourceCount s lo hi 1 → NodeAt s lo hi → (tag_at s hi ≡ 50) ⊎ (60 ≤ tag_at s hi)
  own_tag c t =
      by_over (λ p. NodeHere s lo hi p → (tag_at s hi ≡ 50) ⊎ (60 ≤ tag_at s hi)) (λ og o n u. go o (node_tag (over og o n) u ∙ tagged (over og o n)) (g (over og o n) u))
      t.p (sym (c t.p t.here)) t.here
    where
      go : (o : Over) → tag_at s hi ≡ over_tag o → false ≡ through_over o → (tag_at s hi ≡ 50) ⊎ (60 ≤ tag_at s hi)
      go (filter e) k i = absurd (false_true i)
      go (other (limit a)) k i = absurd (false_true i)
      go (other (offset a)) k i = absurd (false_true i)
      go (other (order ks)) k i = absurd (false_true i)
      go (other (projection is)) k i = inr (omega arith)
      go (other (remap ts)) k i = inr (omega arith)
      go (other (aggregate es gs)) k i = inl k

pub two_left : {s : List ℕ} {lo hi n : ℕ} → SourceCount s lo hi n → (n ≡ 0 → ⊥) → (n ≡ 1 → ⊥) → SourceCount s lo hi 2
two_left {n = n} c y z p u = go p (c p u)
  where
    go : (p : Node) → n ≡ source_count p → 2 ≡ source_count p
    go (leaf og l) e = absurd (y e)
    go (over og o m) e = absurd (z e)
    go (join og outer j l r) e = refl
