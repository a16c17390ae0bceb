-- One law for each answer of the functions on a node.
use Prim.Native.Nat.{ℕ, zero, suc, ◌+◌, ◌-◌, ◌≤◌, ◌<◌}
use native.Mathlib.Omega.{arith}
use mathlib.Core.Path.{◌≡◌, refl, sym, ap, ◌∙◌}
use mathlib.Core.Bool.{Bool, true, false, cond}
use mathlib.Core.List.{List, map}
use mathlib.Core.Option.{none, some}
use mathlib.Core.Logic.{◌⊎◌, ⊎_elim}
use lib.ListN.{length, get_or, get_or-eq_default}
use Rattle.sql.specs.Schema.{Table, Schema, no_table}
use Rattle.std.proofs.Math.Decide.{dec_lt}
use Rattle.sql.specs.Plan.{up_to}
use Rattle.sql.specs.Ranges.{same_in}
use Rattle.sheet.specs.Parts.{table_count, columns_of, first_column}
use Rattle.sheet.specs.Cell.{Cell}
use Rattle.sheet.specs.Check.{schema, table, column}
use Rattle.sheet.specs.Scope.{table_columns}
use Rattle.std.specs.Prelude.{Option as Found, Some, None}
use Rattle.layout.specs.Layout.{found}
use Rattle.node_scope.specs.Own.{source_counts, sources, of_table, segment, column_out, columns_read, node_fits, node_outside}
use Rattle.node_scope.proofs.Steps.{segment_length}

-- ---- sources

module _ (tag : ℕ) where
  pub no_sources : 64 ≤ tag → 0 ≡ sources tag
  unfolding sources
  no_sources h = sym (get_or-eq_default source_counts 0 {n = tag - 50} (omega arith))

  -- The nodes with the tags of a range have so many.
  pub sources_in : (k from n : ℕ) → map sources (up_to from n) ≡ map (λ t. k) (up_to from n) → from ≤ tag → tag < from + n → k ≤ 2 → (k ≡ sources tag) × (k ≤ 2)
  sources_in k from n e h j m = (sym (same_in sources (λ t. k) from n e tag h j), m)

  by_below : {G : Type 0} (n : ℕ) → (tag < n → G) → (n ≤ tag → G) → G
  by_below {G} n f g = go (dec_lt tag n)
    where
      go : Dec (tag < n) → G
      go (yes h) = f h
      go (no h) = g (omega arith)

  -- every node has one source but for those of seven tags
  pub one_source : 50 ≤ tag → tag < 62 → (tag ≡ 52 → ⊥) → (tag ≡ 53 → ⊥) → (tag ≡ 54 → ⊥) → (tag ≡ 56 → ⊥) → (tag ≡ 57 → ⊥) → (1 ≡ sources tag) × (1 ≤ 2)
  unfolding sources
  one_source h i a b c d e =
      by_below 52 (λ j. sources_in 1 50 2 refl h (omega arith) (omega arith))
      (λ j. by_below 56 (λ k. sources_in 1 55 1 refl (omega (arith, a, b, c)) (omega arith) (omega arith))
      (λ k. sources_in 1 58 4 refl (omega (arith, d, e)) (omega arith) (omega arith)))

  pub two_sources : (tag ≡ 52) ⊎ (tag ≡ 56) → (2 ≡ sources tag) × (2 ≤ 2)
  unfolding sources
  two_sources = ⊎_elim (λ e. sources_in 2 52 1 refl (omega arith) (omega arith) (omega arith)) (λ e. sources_in 2 56 1 refl (omega arith) (omega arith) (omega arith))

  pub none_between : 52 ≤ tag → tag < 58 → (tag ≡ 52 → ⊥) → (tag ≡ 55 → ⊥) → (tag ≡ 56 → ⊥) → (0 ≡ sources tag) × (0 ≤ 2)
  unfolding sources
  none_between h i a b c =
      by_below 55 (λ j. sources_in 0 53 2 refl (omega (arith, a)) (omega arith) (omega arith))
      (λ j. sources_in 0 57 1 refl (omega (arith, b, c)) (omega arith) (omega arith))

  pub none_behind : 62 ≤ tag → (0 ≡ sources tag) × (0 ≤ 2)
  unfolding sources
  none_behind h = by_below 64 (λ i. sources_in 0 62 2 refl h (omega arith) (omega arith)) (λ i. (no_sources i, omega arith))

-- ---- tables

get_d_map : {A : Type 0} (f : ℕ → A) (d : A) (from n i : ℕ) → i < n → get_or (map f (up_to from n)) i d ≡ f (from + i)
get_d_map f d from zero i h = absurd (omega arith)
get_d_map f d from (suc n) zero h = ap f (omega arith)
get_d_map f d from (suc n) (suc i) h = get_d_map f d (suc from) n i (omega arith) ∙ ap f (omega arith)

get_d_past : {A : Type 0} (f : ℕ → A) (d : A) (from n i : ℕ) → n ≤ i → get_or (map f (up_to from n)) i d ≡ d
get_d_past f d from zero i h = refl
get_d_past f d from (suc n) zero h = absurd (omega arith)
get_d_past f d from (suc n) (suc i) h = get_d_past f d (suc from) n i (omega arith)

length_up_to : {A : Type 0} (f : ℕ → A) (from n : ℕ) → length (map f (up_to from n)) ≡ n
length_up_to f from zero = refl
length_up_to f from (suc n) = ap suc (length_up_to f (suc from) n)

module _ (s : List ℕ) (t : ℕ) where
  pub no_table_columns : table_count s ≤ t → 0 ≡ table_columns (schema s) t
  unfolding schema
  no_table_columns h = sym (ap (λ (x : Table). length x.columns) (get_d_past (table s) no_table 0 (table_count s) t h))

  pub table_columns_are : t < table_count s → columns_of s t ≡ table_columns (schema s) t
  unfolding schema
  table_columns_are h =
      sym
      (ap (λ (x : Table). length x.columns) (get_d_map (table s) no_table 0 (table_count s) t h)
      ∙ length_up_to (column s) (first_column s (0 + t)) (columns_of s (0 + t))
      ∙ ap (columns_of s) (omega arith))

-- ---- what a node reads

module _ (schema : Schema) (left right : ℕ) {k x : Cell} (is : k ≡ x) where
  pub reads_table : {r : ℕ} → true ≡ of_table k.tag → r ≡ table_columns schema k.a → r ≡ columns_read schema left right x
  reads_table e f = f ∙ ap (λ (b : Bool). cond b (table_columns schema k.a) (left + right)) e ∙ ap (columns_read schema left right) is

  pub reads_sources : false ≡ of_table k.tag → left + right ≡ columns_read schema left right x
  reads_sources e = ap (λ (b : Bool). cond b (table_columns schema k.a) (left + right)) e ∙ ap (columns_read schema left right) is

-- ---- what is out of scope in a node

module _ (s : List ℕ) (own at left right n : ℕ) (k : Cell) {column : Found ℕ} (is : found column ≡ column_out n own (segment s own at)) where
  pub column_found : {i : ℕ} → column ≡ Some i → some i ≡ node_outside left right n own (segment s own at) k
  column_found e = rw (sym is ∙ ap found e) refl

  module _ {fits : Bool} (e : column ≡ None) (f : fits ≡ node_fits left right n (segment s own at) k) where
    pub nothing_found : fits ≡ true → none ≡ node_outside left right n own (segment s own at) k
    nothing_found g = rw (sym is ∙ ap found e, sym f ∙ g) refl

    pub node_found : own ≤ at → fits ≡ false → some at ≡ node_outside left right n own (segment s own at) k
    node_found h g = rw (sym is ∙ ap found e, sym f ∙ g) (ap some (let l = segment_length s own at in omega arith))
