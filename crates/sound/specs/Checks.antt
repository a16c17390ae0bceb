-- A plan is sound exactly if it can be written (Fits), nothing is found out of scope, and no Target is found repeated, wherever its first cell stands.
use Rattle.std.specs.Prelude.{ℕ, suc, ◌+◌, ◌<◌, ◌≡◌, refl, Bool, true, false, ◌&&◌, List, [], ◌∷◌, ltb, eqb, length}
use Rattle.std.proofs.Common.{arith, ltb-true, eqb-true, lt-ltb, eq-eqb, ap, ap₂}
use Rattle.std.proofs.Math.Option.{Option, none, some}
use Rattle.sql.specs.Schema.{Schema}
use Rattle.sql.specs.Expression.{Marked, Expression, constant, column, unary, binary, size}
use Rattle.sql.specs.Plan.{by_key, by_index, Leaf, scan, lookup, nothing, values, limit, offset, order, projection, remap, aggregate, Over, filter, other, Join, nested_loop, hash, Node, leaf, over, join, values_columns, columns, sum, row_size, item_size, key_size, aggregate_size, node_size}
use Rattle.sheet.specs.Content
use Rattle.sheet.specs.Content.{Content}
use Rattle.sheet.specs.Scope.{first_of, unless, in_each, column_outside, optional_outside, expressions_outside, equally_long, table_columns, leaf_outside, over_outside, join_outside, outside, member, repeated, over_repeated, target_repeated}
use Rattle.sheet_laws.specs.Fits.{All, Optional, EachExpression, EachItem, EachKey, EachAgg, EachRow, EachLeaf, EachOver, EachJoin, ContentFits, Fits}
use Rattle.sheet_laws.specs.Content.{and_left, and_right, and_true}
use Rattle.sheet_laws.proofs.Counts.{first_of_none, unless_none, all_map}
use Rattle.sound.specs.Lists.{all_both}
use Rattle.sound.specs.Columns.{none_outside}
use Rattle.sound.specs.Sound.{Fitting, Within, RowOf, SoundLeaf, SoundOver, SoundJoin, Sound}

-- ---- nothing found, in lists

in_each_all : {A : Type 0} (f : ℕ → A → Option ℕ) (cells : A → ℕ) (Q R : A → Type 0) → ((x : A) (at : ℕ) → Q x → f at x ≡ none → R x)
    → (xs : List A) (at : ℕ) → All Q xs → in_each f cells at xs ≡ none → All R xs
in_each_all f cells Q R r [] at q h = tt
in_each_all f cells Q R r (x ∷ xs) at q h =
    let p = first_of_none (f at x) (in_each f cells (at + cells x) xs) h in
    (r x at q.0 p.0, in_each_all f cells Q R r xs (at + cells x) q.1 p.1)

none_in_each : {A : Type 0} (f : ℕ → A → Option ℕ) (cells : A → ℕ) (Q : A → Type 0) → ((x : A) (at : ℕ) → Q x → f at x ≡ none)
    → (xs : List A) (at : ℕ) → All Q xs → in_each f cells at xs ≡ none
none_in_each f cells Q r [] at q = refl
none_in_each f cells Q r (x ∷ xs) at q = ap₂ first_of (r x at q.0) (none_in_each f cells Q r xs (at + cells x) q.1)

-- The place that counting starts from doesn't matter.
repeated_anywhere : (ts : List (Marked (Option ℕ))) (before : List ℕ) (at to : ℕ) → repeated before at ts ≡ none → repeated before to ts ≡ none
repeated_anywhere [] before at to h = refl
repeated_anywhere ((none, og) ∷ ts) before at to h = repeated_anywhere ts before (suc at) (suc to) h
repeated_anywhere ((some t, og) ∷ ts) before at to h = go (member t before) h (repeated_anywhere ts (t ∷ before) (suc at) (suc to))
  where
    go : (b : Bool) → ◌≡◌ {A = Option ℕ} (elim b [ true ↦ some at | false ↦ repeated (t ∷ before) (suc at) ts ]) none
        → (repeated (t ∷ before) (suc at) ts ≡ none → repeated (t ∷ before) (suc to) ts ≡ none)
        → ◌≡◌ {A = Option ℕ} (elim b [ true ↦ some to | false ↦ repeated (t ∷ before) (suc to) ts ]) none
    go true k ih = absurd (let z : ◌≡◌ {A = ℕ} 0 1 = cc in omega arith)
    go false k ih = ih k

rows_long : (n : ℕ) (rs : List (Marked (List Expression))) → equally_long n rs ≡ true → All (λ r. length r.0 ≡ n) rs
rows_long n [] h = tt
rows_long n (r ∷ rs) h = (eqb-true (length r.0) n (and_left (eqb (length r.0) n) _ h), rows_long n rs (and_right (eqb (length r.0) n) _ h))

long_rows : (n : ℕ) (rs : List (Marked (List Expression))) → All (λ r. length r.0 ≡ n) rs → equally_long n rs ≡ true
long_rows n [] h = refl
long_rows n (r ∷ rs) h = and_true (eqb (length r.0) n) _ (eq-eqb (length r.0) n h.0) (long_rows n rs h.1)

abbrev row_outside : ℕ → Marked (List Expression) → Option ℕ
row_outside i row = expressions_outside 0 i row.0

module _ (schema : Schema) (text : List ℕ) (tables : ℕ) where
  abbrev F : Content → Type 0
  F = ContentFits text (length text) tables

  abbrev W : ℕ → Expression → Type 0
  W = Within schema text tables

  -- ---- a plan that passes the checks is sound

  expression_in : (n : ℕ) (e : Expression) (at : ℕ) → EachExpression F e → column_outside n at e ≡ none → W n e
  expression_in n (constant og v) at x h = x
  expression_in n (column og c) at x h = ltb-true c n (unless_none (ltb c n) at h)
  expression_in n (unary og o e) at x h = expression_in n e at x.0 h
  expression_in n (binary og o l r) at x h =
      let p = first_of_none (column_outside n at l) (column_outside n (at + size l) r) h in
      (expression_in n l at x.0 p.0, expression_in n r (at + size l) x.1.0 p.1)

  optional_in : (n : ℕ) (p : Option Expression) (at : ℕ) → Optional (EachExpression F) p → optional_outside n at p ≡ none → Optional (W n) p
  optional_in n none at x h = tt
  optional_in n (some e) at x h = expression_in n e at x h

  expressions_in : (n : ℕ) (es : List Expression) (at : ℕ) → All (EachExpression F) es → expressions_outside n at es ≡ none → All (W n) es
  expressions_in n = in_each_all (column_outside n) size (EachExpression F) (W n) (expression_in n)

  leaf_in : (l : Leaf) (at : ℕ) → EachLeaf F l → leaf_outside schema at l ≡ none → SoundLeaf schema text tables l
  leaf_in (scan t al p) at x h = (optional_in (table_columns schema t) p at x.0 h, x.1)
  leaf_in (lookup by_key t al vs) at x h = (x.0, (x.1, tt))
  leaf_in (lookup (by_index i) t al vs) at x h =
      (x.0, (x.1, ltb-true i (table_columns schema t) (unless_none (ltb i (table_columns schema t)) (at + length vs) h)))
  leaf_in (nothing ls) at x h = x.0
  leaf_in (values rs) at x h =
      let p = first_of_none (in_each row_outside row_size at rs) _ h in
      all_both (λ r. All (W 0) r.0) (λ r. length r.0 ≡ values_columns rs) rs
      (in_each_all row_outside row_size (EachRow F) (λ r. All (W 0) r.0) (λ r i y g. expressions_in 0 r.0 i y.0 g) rs at x.0 p.0)
      (rows_long (values_columns rs) rs (unless_none (equally_long (values_columns rs) rs) (at + sum row_size rs) p.1))

  over_in : (n : ℕ) (o : Over) (at : ℕ) → EachOver F o → over_outside schema n at o ≡ none → over_repeated at o ≡ none → SoundOver schema text tables n o
  over_in n (filter e) at x h r = expression_in n e at x.0 h
  over_in n (other (limit k)) at x h r = x
  over_in n (other (offset k)) at x h r = x
  over_in n (other (order ks)) at x h r =
      in_each_all (λ i k. column_outside n i k.0) key_size (EachKey F) (λ k. W n k.0) (λ k i y. expression_in n k.0 i y.0) ks at x.0 h
  over_in n (other (projection is)) at x h r =
      in_each_all (λ i e. column_outside n i e.0) item_size (EachItem F) (λ e. W n e.0 × F (Content.label_cell e.1))
      (λ e i y g. (expression_in n e.0 i y.0 g, y.1)) is at x.0 h
  over_in n (other (remap ts)) at x h r =
      (x.0, (eqb-true (length ts) n (unless_none (eqb (length ts) n) (at + length ts) h), repeated_anywhere ts [] at 0 r))
  over_in n (other (aggregate es gs)) at x h r =
      let p = first_of_none (expressions_outside n at es) _ h in (
        expressions_in n es at x.0 p.0,
        in_each_all (λ i g. column_outside n i g.1) aggregate_size (EachAgg F) (λ g. W n g.1 × (g.0 < 5))
            (λ g i y k. (expression_in n g.1 i y.0 k, y.1)) gs (at + sum size es) x.1.0 p.1,
      )

  join_in : (l r : ℕ) (outer : Bool) (j : Join) (at : ℕ) → EachJoin F outer j → join_outside schema l r at j ≡ none → SoundJoin schema text tables l r j
  join_in l r outer (nested_loop p) at x h = optional_in (l + r) p at x.0 h
  join_in l r outer (hash i j) at x h =
      let t = unless_none (ltb i l && ltb j r) at h in
      (ltb-true i l (and_left (ltb i l) (ltb j r) t), ltb-true j r (and_right (ltb i l) (ltb j r) t))

  pub passes_sound : (n : Node) (at : ℕ) → Fits text tables n → outside schema at n ≡ none → target_repeated at n ≡ none → Sound schema text tables n
  passes_sound (leaf og l) at x h r = leaf_in l at x h
  passes_sound (over og o s) at x h r =
      let p = first_of_none (outside schema at s) _ h in
      let q = first_of_none (target_repeated at s) _ r in
      (passes_sound s at x.0 p.0 q.0, over_in (columns schema s) o (at + node_size s) x.1 p.1 q.1)
  passes_sound (join og outer j a b) at x h r =
      let p = first_of_none (outside schema at a) _ h in
      let p2 = first_of_none (outside schema (at + node_size a) b) _ p.1 in
      let q = first_of_none (target_repeated at a) _ r in (
        passes_sound a at x.0 p.0 q.0,
        (
          passes_sound b (at + node_size a) x.1.0 p2.0 q.1,
          join_in (columns schema a) (columns schema b) outer j (at + node_size a + node_size b) x.1.1 p2.1,
        ),
      )

  -- ---- a sound plan can be written

  expression_fits : (n : ℕ) (e : Expression) → W n e → EachExpression F e
  expression_fits n (constant og v) x = x
  expression_fits n (column og c) x = tt
  expression_fits n (unary og o e) x = (expression_fits n e x, tt)
  expression_fits n (binary og o l r) x = (expression_fits n l x.0, (expression_fits n r x.1, tt))

  optional_fits : (n : ℕ) (p : Option Expression) → Optional (W n) p → Optional (EachExpression F) p
  optional_fits n none x = tt
  optional_fits n (some e) x = expression_fits n e x

  expressions_fit : (n : ℕ) (es : List Expression) → All (W n) es → All (EachExpression F) es
  expressions_fit n = all_map (W n) (EachExpression F) (expression_fits n)

  leaf_fits : (l : Leaf) → SoundLeaf schema text tables l → EachLeaf F l
  leaf_fits (scan t al p) x = (optional_fits (table_columns schema t) p x.0, x.1)
  leaf_fits (lookup by_key t al vs) x = (x.0, x.1.0)
  leaf_fits (lookup (by_index i) t al vs) x = (x.0, x.1.0)
  leaf_fits (nothing ls) x = (x, tt)
  leaf_fits (values rs) x = (all_map (RowOf schema text tables (values_columns rs)) (EachRow F) (λ r y. (expressions_fit 0 r.0 y.0, tt)) rs x, tt)

  over_fits : (n : ℕ) (o : Over) → SoundOver schema text tables n o → EachOver F o
  over_fits n (filter e) x = (expression_fits n e x, tt)
  over_fits n (other (limit k)) x = x
  over_fits n (other (offset k)) x = x
  over_fits n (other (order ks)) x = (all_map (λ k. W n k.0) (EachKey F) (λ k y. (expression_fits n k.0 y, tt)) ks x, tt)
  over_fits n (other (projection is)) x =
      (all_map (λ e. W n e.0 × F (Content.label_cell e.1)) (EachItem F) (λ e y. (expression_fits n e.0 y.0, y.1)) is x, tt)
  over_fits n (other (remap ts)) x = (x.0, tt)
  over_fits n (other (aggregate es gs)) x = (
    expressions_fit n es x.0,
    (all_map (λ g. W n g.1 × (g.0 < 5)) (EachAgg F) (λ g y. (expression_fits n g.1 y.0, y.1)) gs x.1, tt),
  )

  join_fits : (l r : ℕ) (outer : Bool) (j : Join) → SoundJoin schema text tables l r j → EachJoin F outer j
  join_fits l r outer (nested_loop p) x = (optional_fits (l + r) p x, tt)
  join_fits l r outer (hash i j) x = tt

  pub sound_fits : (n : Node) → Sound schema text tables n → Fits text tables n
  sound_fits (leaf og l) x = leaf_fits l x
  sound_fits (over og o s) x = (sound_fits s x.0, over_fits (columns schema s) o x.1)
  sound_fits (join og outer j a b) x =
      (sound_fits a x.0, (sound_fits b x.1.0, join_fits (columns schema a) (columns schema b) outer j x.1.1))

  -- ---- nothing of a sound plan is out of scope

  expression_scope : (n : ℕ) (e : Expression) (at : ℕ) → W n e → column_outside n at e ≡ none
  expression_scope n e at x = none_outside (Fitting schema text tables) n e at x

  optional_scope : (n : ℕ) (p : Option Expression) (at : ℕ) → Optional (W n) p → optional_outside n at p ≡ none
  optional_scope n none at x = refl
  optional_scope n (some e) at x = expression_scope n e at x

  expressions_scope : (n : ℕ) (es : List Expression) (at : ℕ) → All (W n) es → expressions_outside n at es ≡ none
  expressions_scope n = none_in_each (column_outside n) size (W n) (expression_scope n)

  leaf_scope : (l : Leaf) (at : ℕ) → SoundLeaf schema text tables l → leaf_outside schema at l ≡ none
  leaf_scope (scan t al p) at x = optional_scope (table_columns schema t) p at x.0
  leaf_scope (lookup by_key t al vs) at x = refl
  leaf_scope (lookup (by_index i) t al vs) at x = ap (λ (b : Bool). unless b (at + length vs)) (lt-ltb i (table_columns schema t) x.1.1)
  leaf_scope (nothing ls) at x = refl
  leaf_scope (values rs) at x =
      ap₂ first_of
      (none_in_each row_outside row_size (RowOf schema text tables (values_columns rs)) (λ r i y. expressions_scope 0 r.0 i y.0) rs at x)
      (ap (λ (b : Bool). unless b (at + sum row_size rs))
      (long_rows (values_columns rs) rs (all_map (RowOf schema text tables (values_columns rs)) (λ r. length r.0 ≡ values_columns rs) (λ r y. y.1) rs x)))

  over_scope : (n : ℕ) (o : Over) (at : ℕ) → SoundOver schema text tables n o → over_outside schema n at o ≡ none
  over_scope n (filter e) at x = expression_scope n e at x
  over_scope n (other (limit k)) at x = refl
  over_scope n (other (offset k)) at x = refl
  over_scope n (other (order ks)) at x = none_in_each (λ i k. column_outside n i k.0) key_size (λ k. W n k.0) (λ k i. expression_scope n k.0 i) ks at x
  over_scope n (other (projection is)) at x =
      none_in_each (λ i e. column_outside n i e.0) item_size (λ e. W n e.0 × F (Content.label_cell e.1)) (λ e i y. expression_scope n e.0 i y.0) is at x
  over_scope n (other (remap ts)) at x = ap (λ (b : Bool). unless b (at + length ts)) (eq-eqb (length ts) n x.1.0)
  over_scope n (other (aggregate es gs)) at x =
      ap₂ first_of (expressions_scope n es at x.0)
      (none_in_each (λ i g. column_outside n i g.1) aggregate_size (λ g. W n g.1 × (g.0 < 5)) (λ g i y. expression_scope n g.1 i y.0) gs (at + sum size es) x.1)

  join_scope : (l r : ℕ) (j : Join) (at : ℕ) → SoundJoin schema text tables l r j → join_outside schema l r at j ≡ none
  join_scope l r (nested_loop p) at x = optional_scope (l + r) p at x
  join_scope l r (hash i j) at x = ap (λ (b : Bool). unless b at) (and_true (ltb i l) (ltb j r) (lt-ltb i l x.0) (lt-ltb j r x.1))

  pub sound_scope : (n : Node) (at : ℕ) → Sound schema text tables n → outside schema at n ≡ none
  sound_scope (leaf og l) at x = leaf_scope l at x
  sound_scope (over og o s) at x = ap₂ first_of (sound_scope s at x.0) (over_scope (columns schema s) o (at + node_size s) x.1)
  sound_scope (join og outer j a b) at x =
      ap₂ first_of (sound_scope a at x.0)
      (ap₂ first_of (sound_scope b (at + node_size a) x.1.0) (join_scope (columns schema a) (columns schema b) j (at + node_size a + node_size b) x.1.1))

  -- ---- no Target of a sound plan is repeated

  over_targets : (n : ℕ) (o : Over) (at : ℕ) → SoundOver schema text tables n o → over_repeated at o ≡ none
  over_targets n (filter e) at x = refl
  over_targets n (other (limit k)) at x = refl
  over_targets n (other (offset k)) at x = refl
  over_targets n (other (order ks)) at x = refl
  over_targets n (other (projection is)) at x = refl
  over_targets n (other (remap ts)) at x = repeated_anywhere ts [] 0 at x.1.1
  over_targets n (other (aggregate es gs)) at x = refl

  pub sound_targets : (n : Node) (at : ℕ) → Sound schema text tables n → target_repeated at n ≡ none
  sound_targets (leaf og l) at x = refl
  sound_targets (over og o s) at x = ap₂ first_of (sound_targets s at x.0) (over_targets (columns schema s) o (at + node_size s) x.1)
  sound_targets (join og outer j a b) at x = ap₂ first_of (sound_targets a at x.0) (sound_targets b (at + node_size a) x.1.0)
