-- Origins as a sheet has them: a plan's cells with their origins put through a function are the cells of the plan with its origins put through it; and a pass
-- gives no cell an origin that no cell of the plan before had.
use Rattle.std.specs.Prelude.{ℕ, ◌%◌, ◌<◌, ◌≡◌, Bool, List, [], ◌∷◌, ◌++◌, map, length}
use Rattle.std.proofs.Common.{mod-lt, mod-eq_of_lt, sym, ◌∙◌, subst}
use Rattle.std.proofs.Math.Path.{refl, ap, ap₂}
use Rattle.std.proofs.Math.Option.{Option, none, some}
use Rattle.std.proofs.lemmas.List.{length-map}
use Rattle.sql.specs.Expression.{Marked, Expression, constant, column, unary, binary}
use Rattle.sql.specs.Plan.{Label, Leaf, scan, lookup, nothing, values, Other, limit, offset, order, projection, remap, aggregate, Over, filter, other, Join, nested_loop, hash, Node, leaf, over, join}
use Rattle.sql.specs.Optimizer.{map_optional}
use Rattle.sheet.specs.Cell.{Cell}
use Rattle.sheet.specs.Content.{Content, marked, unary_cell, binary_cell, item_cell, key_cell, agg_cell, filter_cell, row_cell, nothing_cell, order_cell, projection_cell, remap_cell, values_cell, aggregate_cell, scan_cell, nested_loop_join_cell}
use Rattle.sheet.specs.Cells.{all_cells, alone, expression_cells, optional_cells, present, constant_cells, label_cells, target_cells, item_cells, key_cells, agg_cells, row_cells, lookup_content, leaf_cells, other_cells, over_cells, join_cells, cells}
use Rattle.sheet_laws.specs.Fits.{All, OriginsBelow}
use Rattle.sheet_laws.proofs.Counts.{all_map}
use Rattle.origins.specs.Origins.{map_origins, map_mark, map_row, map_part, map_aggregate, map_leaf, map_other, map_over, map_join, map_node_origins}
use Rattle.origins.proofs.Lists.{map_append}

-- a cell with its origin put through a function
abbrev pub remarked : (ℕ → ℕ) → Cell → Cell
remarked h c = marked (h c.origin) c

module _ (h : ℕ → ℕ) where
  abbrev R : List Cell → List Cell
  R = map (remarked h)

  -- one list of cells behind another
  behind : {xs ys : List Cell} (zs ws : List Cell) → xs ≡ R zs → ys ≡ R ws → xs ++ ys ≡ R (zs ++ ws)
  behind zs ws p q = ap₂ ◌++◌ p q ∙ map_append (remarked h) zs ws

  alone_mapped : (og : ℕ) (k m : Content) → k ≡ m → alone (h og) k ≡ R (alone og m)
  alone_mapped og k m e = ap (alone (h og)) e

  expression_mapped : (e : Expression) → expression_cells (map_origins h e) ≡ R (expression_cells e)
  unfolding expression_cells
  expression_mapped (constant og v) = refl
  expression_mapped (column og i) = refl
  expression_mapped (unary og o x) = behind (expression_cells x) (alone og (unary_cell o)) (expression_mapped x) refl
  expression_mapped (binary og o l r) =
      behind (expression_cells l) (expression_cells r ++ alone og (binary_cell o)) (expression_mapped l) (behind (expression_cells r) (alone og (binary_cell o)) (expression_mapped r) refl)

  optional_mapped : (e : Option Expression) → optional_cells (map_optional (map_origins h) e) ≡ R (optional_cells e)
  optional_mapped none = refl
  optional_mapped (some e) = expression_mapped e

  present_mapped : (e : Option Expression) → present (map_optional (map_origins h) e) ≡ present e
  present_mapped none = refl
  present_mapped (some e) = refl

  all_mapped : {A : Type 0} (u : A → A) (f : A → List Cell) → ((x : A) → f (u x) ≡ R (f x)) → (xs : List A) → all_cells f (map u xs) ≡ R (all_cells f xs)
  all_mapped u f k [] = refl
  all_mapped u f k (x ∷ xs) = behind (f x) (all_cells f xs) (k x) (all_mapped u f k xs)

  -- parts, and behind them the cell that says how many they are
  counted_mapped : {A : Type 0} (u : A → A) (f : A → List Cell) → ((x : A) → f (u x) ≡ R (f x)) → (xs : List A) (og : ℕ) (k : ℕ → Content)
      → all_cells f (map u xs) ++ alone (h og) (k (length (map u xs))) ≡ R (all_cells f xs ++ alone og (k (length xs)))
  counted_mapped u f e xs og k = behind (all_cells f xs) (alone og (k (length xs))) (all_mapped u f e xs) (alone_mapped og (k (length (map u xs))) (k (length xs)) (ap k (length-map xs u)))

  row_mapped : (row : Marked (List Expression)) → row_cells (map_row h row) ≡ R (row_cells row)
  row_mapped row = counted_mapped (map_origins h) expression_cells expression_mapped row.0 row.1 row_cell

  leaf_mapped : (og : ℕ) (l : Leaf) → leaf_cells (h og) (map_leaf h l) ≡ R (leaf_cells og l)
  unfolding leaf_cells
  leaf_mapped og (scan t al p) =
      behind (optional_cells p) (alone og (scan_cell (present p) t al)) (optional_mapped p)
      (alone_mapped og (scan_cell (present (map_optional (map_origins h) p)) t al) (scan_cell (present p) t al) (ap (λ b. scan_cell b t al) (present_mapped p)))
  leaf_mapped og (lookup a t al vs) = counted_mapped (map_mark h) constant_cells (λ v. refl) vs og (lookup_content a t al)
  leaf_mapped og (nothing ls) = counted_mapped (map_mark h) label_cells (λ l. refl) ls og nothing_cell
  leaf_mapped og (values rs) = counted_mapped (map_row h) row_cells row_mapped rs og values_cell

  other_mapped : (og : ℕ) (o : Other) → other_cells (h og) (map_other h o) ≡ R (other_cells og o)
  unfolding other_cells
  other_mapped og (limit n) = refl
  other_mapped og (offset n) = refl
  other_mapped og (order ks) = counted_mapped (map_part h) key_cells (λ k. behind (expression_cells k.0) (alone k.2 (key_cell k.1)) (expression_mapped k.0) refl) ks og order_cell
  other_mapped og (projection is) = counted_mapped (map_part h) item_cells (λ i. behind (expression_cells i.0) (alone i.2 (item_cell i.1)) (expression_mapped i.0) refl) is og projection_cell
  other_mapped og (remap ts) = counted_mapped (map_mark h) target_cells (λ t. refl) ts og remap_cell
  other_mapped og (aggregate es gs) =
      behind (all_cells expression_cells es) (all_cells agg_cells gs ++ alone og (aggregate_cell (length es) (length gs))) (all_mapped (map_origins h) expression_cells expression_mapped es)
      (behind (all_cells agg_cells gs) (alone og (aggregate_cell (length es) (length gs)))
      (all_mapped (map_aggregate h) agg_cells (λ g. behind (expression_cells g.1) (alone g.2 (agg_cell g.0)) (expression_mapped g.1) refl) gs)
      (alone_mapped og (aggregate_cell (length (map (map_origins h) es)) (length (map (map_aggregate h) gs))) (aggregate_cell (length es) (length gs))
      (ap₂ aggregate_cell (length-map es (map_origins h)) (length-map gs (map_aggregate h)))))

  over_mapped : (og : ℕ) (o : Over) → over_cells (h og) (map_over h o) ≡ R (over_cells og o)
  unfolding over_cells
  over_mapped og (filter e) = behind (expression_cells e) (alone og filter_cell) (expression_mapped e) refl
  over_mapped og (other o) = other_mapped og o

  join_mapped : (og : ℕ) (outer : Bool) (j : Join) → join_cells (h og) outer (map_join h j) ≡ R (join_cells og outer j)
  unfolding join_cells
  join_mapped og outer (nested_loop p) =
      behind (optional_cells p) (alone og (nested_loop_join_cell (present p) outer)) (optional_mapped p)
      (alone_mapped og (nested_loop_join_cell (present (map_optional (map_origins h) p)) outer) (nested_loop_join_cell (present p) outer) (ap (λ b. nested_loop_join_cell b outer) (present_mapped p)))
  join_mapped og outer (hash i j) = refl

  -- The cells of a plan whose origins are put through h.
  pub cells_mapped : (n : Node) → cells (map_node_origins h n) ≡ map (remarked h) (cells n)
  unfolding cells
  cells_mapped (leaf og l) = leaf_mapped og l
  cells_mapped (over og o n) = behind (cells n) (over_cells og o) (cells_mapped n) (over_mapped og o)
  cells_mapped (join og outer j l r) =
      behind (cells l) (cells r ++ join_cells og outer j) (cells_mapped l) (behind (cells r) (join_cells og outer j) (cells_mapped r) (join_mapped og outer j))

-- ---- a function that leaves the origins of a plan as they are

all_split : {A : Type 0} (P : A → Type 0) (xs ys : List A) → All P (xs ++ ys) → All P xs × All P ys
all_split P [] ys h = (tt, h)
all_split P (x ∷ xs) ys h = let p = all_split P xs ys h.1 in ((h.0, p.0), p.1)

module _ (h : ℕ → ℕ) where
  -- of a cell whose origin it leaves
  abbrev Left : Cell → Type 0
  Left c = h c.origin ≡ c.origin

  expression_left : (e : Expression) → All Left (expression_cells e) → map_origins h e ≡ e
  unfolding expression_cells
  expression_left (constant og v) k = ap (λ (n : ℕ). constant n v) k.0
  expression_left (column og i) k = ap (λ (n : ℕ). column n i) k.0
  expression_left (unary og o x) k =
      let p = all_split Left (expression_cells x) _ k in
      ap₂ (λ (n : ℕ) (y : Expression). unary n o y) p.1.0 (expression_left x p.0)
  expression_left (binary og o l r) k =
      let p = all_split Left (expression_cells l) _ k in
      let q = all_split Left (expression_cells r) _ p.1 in
      go q.1.0 (expression_left l p.0) (expression_left r q.0)
    where
      go : h og ≡ og → map_origins h l ≡ l → map_origins h r ≡ r → binary (h og) o (map_origins h l) (map_origins h r) ≡ binary og o l r
      go a b c = cc

  optional_left : (e : Option Expression) → All Left (optional_cells e) → map_optional (map_origins h) e ≡ e
  optional_left none k = refl
  optional_left (some e) k = ap some (expression_left e k)

  all_left : {A : Type 0} (u : A → A) (f : A → List Cell) → ((x : A) → All Left (f x) → u x ≡ x) → (xs : List A) → All Left (all_cells f xs) → map u xs ≡ xs
  all_left u f e [] k = refl
  all_left u f e (x ∷ xs) k = let p = all_split Left (f x) (all_cells f xs) k in ap₂ ◌∷◌ (e x p.0) (all_left u f e xs p.1)

  mark_left : {A : Type 0} (v : Marked A) → h v.1 ≡ v.1 → map_mark h v ≡ v
  mark_left v k = ap (λ (n : ℕ). (v.0, n)) k

  part_left : {A : Type 0} (v : Expression × A × ℕ) → map_origins h v.0 ≡ v.0 → h v.2 ≡ v.2 → map_part h v ≡ v
  part_left v p q = ap₂ (λ (e : Expression) (n : ℕ). (e, v.1, n)) p q

  row_left : (row : Marked (List Expression)) → All Left (row_cells row) → map_row h row ≡ row
  row_left row k =
      let p = all_split Left (all_cells expression_cells row.0) _ k in
      ap₂ (λ (es : List Expression) (n : ℕ). (es, n)) (all_left (map_origins h) expression_cells expression_left row.0 p.0) p.1.0

  -- the parts of a node, and its own cell behind them
  leaf_left : (og : ℕ) (l : Leaf) → All Left (leaf_cells og l) → (h og ≡ og) × (map_leaf h l ≡ l)
  unfolding leaf_cells
  leaf_left og (scan t al e) k = let p = all_split Left (optional_cells e) _ k in (p.1.0, ap (scan t al) (optional_left e p.0))
  leaf_left og (lookup a t al vs) k =
      let p = all_split Left (all_cells constant_cells vs) _ k in (p.1.0, ap (lookup a t al) (all_left (map_mark h) constant_cells (λ v q. mark_left v q.0) vs p.0))
  leaf_left og (nothing ls) k =
      let p = all_split Left (all_cells label_cells ls) _ k in (p.1.0, ap nothing (all_left (map_mark h) label_cells (λ l q. mark_left l q.0) ls p.0))
  leaf_left og (values rs) k =
      let p = all_split Left (all_cells row_cells rs) _ k in (p.1.0, ap values (all_left (map_row h) row_cells row_left rs p.0))

  other_left : (og : ℕ) (o : Other) → All Left (other_cells og o) → (h og ≡ og) × (map_other h o ≡ o)
  unfolding other_cells
  other_left og (limit n) k = (k.0, refl)
  other_left og (offset n) k = (k.0, refl)
  other_left og (order ks) k =
      let p = all_split Left (all_cells key_cells ks) _ k in (
        p.1.0,
        ap order (all_left (map_part h) key_cells (λ e q. let r = all_split Left (expression_cells e.0) _ q in part_left e (expression_left e.0 r.0) r.1.0) ks p.0),
      )
  other_left og (projection is) k =
      let p = all_split Left (all_cells item_cells is) _ k in (
        p.1.0,
        ap projection (all_left (map_part h) item_cells (λ e q. let r = all_split Left (expression_cells e.0) _ q in part_left e (expression_left e.0 r.0) r.1.0) is p.0),
      )
  other_left og (remap ts) k =
      let p = all_split Left (all_cells target_cells ts) _ k in (p.1.0, ap remap (all_left (map_mark h) target_cells (λ t q. mark_left t q.0) ts p.0))
  other_left og (aggregate es gs) k =
      let p = all_split Left (all_cells expression_cells es) _ k in
      let q = all_split Left (all_cells agg_cells gs) _ p.1 in (
        q.1.0,
        ap₂ aggregate (all_left (map_origins h) expression_cells expression_left es p.0)
            (all_left (map_aggregate h) agg_cells
            (λ g r. let t = all_split Left (expression_cells g.1) _ r in ap₂ (λ (e : Expression) (n : ℕ). (g.0, e, n)) (expression_left g.1 t.0) t.1.0) gs q.0),
      )

  over_left : (og : ℕ) (o : Over) → All Left (over_cells og o) → (h og ≡ og) × (map_over h o ≡ o)
  unfolding over_cells
  over_left og (filter e) k = let p = all_split Left (expression_cells e) _ k in (p.1.0, ap filter (expression_left e p.0))
  over_left og (other o) k = let p = other_left og o k in (p.0, ap other p.1)

  join_left : (og : ℕ) (outer : Bool) (j : Join) → All Left (join_cells og outer j) → (h og ≡ og) × (map_join h j ≡ j)
  unfolding join_cells
  join_left og outer (nested_loop e) k = let p = all_split Left (optional_cells e) _ k in (p.1.0, ap nested_loop (optional_left e p.0))
  join_left og outer (hash i j) k = (k.0, refl)

  pub node_left : (n : Node) → All (λ c. h c.origin ≡ c.origin) (cells n) → map_node_origins h n ≡ n
  unfolding cells
  node_left (leaf og l) k = let p = leaf_left og l k in ap₂ leaf p.0 p.1
  node_left (over og o n) k =
      let p = all_split Left (cells n) _ k in
      let q = over_left og o p.1 in
      go q.0 q.1 (node_left n p.0)
    where
      go : h og ≡ og → map_over h o ≡ o → map_node_origins h n ≡ n → over (h og) (map_over h o) (map_node_origins h n) ≡ over og o n
      go a b c = cc
  node_left (join og outer j l r) k =
      let p = all_split Left (cells l) _ k in
      let q = all_split Left (cells r) _ p.1 in
      let s = join_left og outer j q.1 in
      go s.0 s.1 (node_left l p.0) (node_left r q.0)
    where
      go : h og ≡ og → map_join h j ≡ j → map_node_origins h l ≡ l → map_node_origins h r ≡ r
          → join (h og) outer (map_join h j) (map_node_origins h l) (map_node_origins h r) ≡ join og outer j l r
      go a b c d = cc

-- ---- origins below a bound

all_remarked : (h : ℕ → ℕ) (bound : ℕ) → ((og : ℕ) → h og < bound) → (cs : List Cell) → All (λ c. c.origin < bound) (map (remarked h) cs)
all_remarked h bound b [] = tt
all_remarked h bound b (c ∷ cs) = (b c.origin, all_remarked h bound b cs)

-- Origins are below a bound if and only if their remainders are the same origins.
module _ (bound : ℕ) (some : 0 < bound) where
  pub below_left : (n : Node) → OriginsBelow bound n → map_node_origins (λ og. og % bound) n ≡ n
  below_left n b =
      node_left (λ og. og % bound) n (all_map (λ c. c.origin < bound) (λ c. c.origin % bound ≡ c.origin) (λ c k. mod-eq_of_lt k) (cells n) b)

  pub left_below : (n : Node) → map_node_origins (λ og. og % bound) n ≡ n → OriginsBelow bound n
  left_below n e =
      subst (All (λ c. c.origin < bound)) (sym (cells_mapped (λ og. og % bound) n) ∙ ap cells e) (all_remarked (λ og. og % bound) bound (λ og. mod-lt og some) (cells n))
