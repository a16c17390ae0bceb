-- One walk over a plan's cells, from the first to the last: it finds what the definition finds, and ends with the plan's column count.
use Prim.Native.Nat.{ℕ, zero, suc, ◌+◌}
use native.Mathlib.Nat.{add_assoc}
use mathlib.Core.Path.{◌≡◌, refl, sym, ap, ◌∙◌}
use mathlib.Core.Bool.{Bool, true, false}
use mathlib.Core.List.{List, [], ◌∷◌, ◌++◌, append_assoc, append-nil}
use mathlib.Core.Option.{Option, none, some}
use lib.ListN.{length}
use Rattle.sql.specs.Schema.{Schema}
use Rattle.sql.specs.Plan.{Over, filter, other, Node, leaf, over, join, columns, node_size, over_size}
use Rattle.sheet.specs.Cell.{Cell}
use Rattle.sheet.specs.Cells.{cells, over_cells, join_cells}
use Rattle.sheet.specs.Scope.{first_of, outside}
use Rattle.std.specs.Prelude.{Result, Ok}
use Rattle.node_scope.specs.Own.{is_node, sources, columns_read, node_outside, node_columns}
use Rattle.scope.specs.Scope.{unless_outside, scope_of}
use Rattle.scope.proofs.Own.{Each, end, next}
use Rattle.scope.proofs.Node.{Plain, Told, over_columns, Indexed, over_told, join_told, leaf_told}

-- The top of a stack of column counts: of the last plan read.
abbrev pub top : List ℕ → Result ℕ ℕ
top [] = Ok 0
top (w ∷ ws) = Ok w

-- The sources of a node are the last plans read. Where there are too few, the cells are no plan, and the answer says nothing.
abbrev pub with_sources : ℕ → List ℕ → (ℕ → ℕ → List ℕ → Result ℕ ℕ) → Result ℕ ℕ
with_sources zero ws go = go 0 0 ws
with_sources (suc zero) [] go = Ok 0
with_sources (suc zero) (w ∷ ws) go = go w 0 ws
with_sources (suc (suc n)) [] go = Ok 0
with_sources (suc (suc n)) (right ∷ []) go = Ok 0
with_sources (suc (suc n)) (right ∷ left ∷ ws) go = go left right ws

abbrev pub if_node : Bool → Result ℕ ℕ → Result ℕ ℕ → Result ℕ ℕ
if_node true at_node past = at_node
if_node false at_node past = past

-- IndexLookups' columns have two bytes.
abbrev pub Indexes : Node → Type 0
Indexes (leaf og l) = Indexed l
Indexes (over og o n) = Indexes n
Indexes (join og outer j l r) = Indexes l × Indexes r

unless_first : (x y : Option ℕ) (z : Result ℕ ℕ) → unless_outside (first_of x y) z ≡ unless_outside x (unless_outside y z)
unless_first none y z = refl
unless_first (some i) y z = refl

module _ (schema : Schema) where
  -- `own` are the cells since the last node, numbered from `at`; `ws` are the column counts of the plans read that no node has as a source yet.
  abbrev pub walk : (at : ℕ) (own : List Cell) (ws : List ℕ) → List Cell → Result ℕ ℕ
  walk at own ws [] = top ws
  walk at own ws (k ∷ ks) =
      if_node (is_node k.tag)
      (with_sources (sources k.tag) ws
      (λ left right rest.
      unless_outside (node_outside left right (columns_read schema left right k) at own k)
      (walk (at + length own + 1) [] (node_columns (columns_read schema left right k) own k ∷ rest) ks)))
      (walk at (own ++ (k ∷ [])) ws ks)

  -- one cell
  module _ (at : ℕ) (own : List Cell) (ws : List ℕ) (k : Cell) (ks : List Cell) where
    pub walk_past : is_node k.tag ≡ false → walk at own ws (k ∷ ks) ≡ walk at (own ++ (k ∷ [])) ws ks
    walk_past e = rw e refl

    pub walk_at : {count left right read : ℕ} {rest : List ℕ}
        → is_node k.tag ≡ true
        → sources k.tag ≡ count
        → ((go : ℕ → ℕ → List ℕ → Result ℕ ℕ) → with_sources count ws go ≡ go left right rest)
        → columns_read schema left right k ≡ read
        → walk at own ws (k ∷ ks)
        ≡ unless_outside (node_outside left right read at own k) (walk (at + length own + 1) [] (node_columns read own k ∷ rest) ks)
    walk_at e f h g = rw (e, f, h, g) refl

    pub walk_broken : {count : ℕ} → is_node k.tag ≡ true → sources k.tag ≡ count → ((go : ℕ → ℕ → List ℕ → Result ℕ ℕ) → with_sources count ws go ≡ Ok 0) → walk at own ws (k ∷ ks) ≡ Ok 0
    walk_broken e f h = rw (e, f, h) refl

  walk_plain : (at : ℕ) (own : List Cell) (ws : List ℕ) {xs : List Cell} (ks : List Cell) → Each Plain xs → walk at own ws (xs ++ ks) ≡ walk at (own ++ xs) ws ks
  walk_plain at own ws ks end = ap (λ (o : List Cell). walk at o ws ks) (sym (append-nil own))
  walk_plain at own ws ks (next {k} {ks = xs} p ps) =
      rw p.plain (walk_plain at (own ++ (k ∷ [])) ws ks ps ∙ ap (λ (o : List Cell). walk at o ws ks) (append_assoc own (k ∷ []) xs))

  walk_told : (at : ℕ) (ws rest : List ℕ) (ks : List Cell) {left right n size count width : ℕ} {own cs : List Cell} {out : Option ℕ}
      → Told schema left right n at own cs out width size count
      → ((go : ℕ → ℕ → List ℕ → Result ℕ ℕ) → with_sources count ws go ≡ go left right rest)
      → walk at [] ws (cs ++ ks) ≡ unless_outside out (walk (at + size) [] (width ∷ rest) ks)
  walk_told at ws rest ks {own = own} t h =
      rw (t.cells_are, append_assoc)
      (walk_plain at [] ws (t.last ∷ ks) t.plain
      ∙ walk_at at own ws t.last ks t.node t.sources_are h t.reads
      ∙ rw (t.place, t.width_is, add_assoc, t.size_is) refl)

  columns_over : (og : ℕ) (o : Over) (n : Node) → columns schema (over og o n) ≡ over_columns o (columns schema n)
  columns_over og (filter e) n = refl
  columns_over og (other o) n = refl

  pub walk_cells : (at : ℕ) (n : Node) → Indexes n → (ws : List ℕ) (ks : List Cell)
      → walk at [] ws (cells n ++ ks) ≡ unless_outside (outside schema at n) (walk (at + node_size n) [] (columns schema n ∷ ws) ks)
  unfolding cells
  walk_cells at (leaf og l) h ws ks = walk_told at ws ws ks (leaf_told schema at og l h) (λ next. refl)
  walk_cells at (over og o n) h ws ks =
      rw append_assoc
      (walk_cells at n h ws (over_cells og o ++ ks)
      ∙ ap (unless_outside (outside schema at n))
      (walk_told (at + node_size n) (columns schema n ∷ ws) ws ks (over_told schema (columns schema n) (at + node_size n) og o) (λ go. refl))
      ∙ rw (columns_over og o n, unless_first, add_assoc at (node_size n) (over_size o)) refl)
  walk_cells at (join og outer j l r) h ws ks =
      let second = at + node_size l in
      let third = second + node_size r in
      simp append_assoc
      (walk_cells at l h.0 ws (cells r ++ (join_cells og outer j ++ ks))
      ∙ ap (unless_outside (outside schema at l))
      (walk_cells second r h.1 (columns schema l ∷ ws) (join_cells og outer j ++ ks)
      ∙ ap (unless_outside (outside schema second r))
      (walk_told third (columns schema r ∷ columns schema l ∷ ws) ws ks (join_told schema (columns schema l) (columns schema r) third og outer j) (λ go. refl)))
      ∙ simp (unless_first, add_assoc))

-- The walk over all cells of a plan.
pub walked : (schema : Schema) (n : Node) → Indexes n → walk schema 0 [] [] (cells n) ≡ scope_of (outside schema 0 n) (columns schema n)
walked schema n h = ap (walk schema 0 [] []) (sym (append-nil (cells n))) ∙ walk_cells schema 0 n h [] []
