-- plan.rs, as transcribed, gives what crate sql defines (Plan.antt there).
use Prim.Native.Nat.{ℕ, zero, suc, ◌+◌, ◌-◌, ◌≤◌, max}
use mathlib.Core.Path.{◌≡◌, refl, sym, ap, ap₂, ◌∙◌}
use mathlib.Core.Bool.{Bool, true, false, not, ◌&&◌, cond}
use mathlib.Core.List.{List, [], ◌∷◌, map}
use mathlib.Core.Option.{Option, none, some}
use native.Mathlib.Omega.{arith}
use lib.Dec.{eqb, ltb, eqb-suc-suc}
use borrow.Author.Tests.{eqb-true}
use lib.ListN.{length, get_or}
use Rattle.sql.specs.Schema.{Column, Schema, no_column, table_of, column_of}
use Rattle.sql.specs.Expression.{Marked, Expression, constant, column, unary, binary}
use Rattle.sql.specs.Plan.{Label, unlabelled, unqualified, qualified, scan, lookup, nothing, values, limit, offset, order, projection, remap, aggregate, filter, other, Node, leaf, over, join, remap_columns, group_label, items_label, remap_source, optional_label, qualifier, up_to}
use Rattle.sql.specs.Plan as Defined
use Rattle.sql.specs.Optimizer.{map_sources}
use Rattle.literal.specs.Rust.{Run, Ok, ◌>>=◌, ◌⇒◌, ◌else◌, and_then, unwrap_or, get, matches, replicate, set_at, enumerate, flatten, position, max_with, maximum, for_each}
use Rattle.literal.specs.Value.{document_01}
use Rattle.literal.specs.Expression.{Column?}
use Rattle.literal.specs.Plan.{expressions, aliases, targets_of, columns, no_alias?, is_some, column_at, column_label, transform_sources, transform, invert_step}
use Rattle.literal.specs.Law.{apart, InvertLiteral}

-- ---- columns

pub length_map : {A B : Type 0} (f : A → B) (xs : List A) → length (map f xs) ≡ length xs
length_map f [] = refl
length_map f (x ∷ xs) = ap suc (length_map f xs)

highest : (targets : List (Marked (Option ℕ))) → unwrap_or 0 (maximum (map (λ i. suc i) (flatten (targets_of targets)))) ≡ remap_columns targets
highest [] = refl
highest ((none, og) ∷ targets) = highest targets
highest ((some target, og) ∷ targets) = go (maximum (map (λ i. suc i) (flatten (targets_of targets)))) (highest targets)
  where
    go : (m : Option ℕ) → unwrap_or 0 m ≡ remap_columns targets → max_with (suc target) m ≡ max (suc target) (remap_columns targets)
    go none h = omega arith
    go (some m) h = ap (max (suc target)) h

module _ (schema : Schema) where
  pub columns_same : (n : Node) → columns schema n ≡ Defined.columns schema n
  columns_same (leaf og (scan table alias predicate)) = refl
  columns_same (leaf og (lookup access table alias constants)) = refl
  columns_same (leaf og (nothing labels)) = refl
  columns_same (leaf og (values [])) = refl
  columns_same (leaf og (values (row ∷ rows))) = refl
  columns_same (over og (filter predicate) source) = columns_same source
  columns_same (over og (other (limit amount)) source) = columns_same source
  columns_same (over og (other (offset amount)) source) = columns_same source
  columns_same (over og (other (order key)) source) = columns_same source
  columns_same (over og (other (projection items)) source) = length_map (λ (item : Expression × Label × ℕ). item.0) items
  columns_same (over og (other (remap targets)) source) = highest targets
  columns_same (over og (other (aggregate group_by aggregates)) source) = refl
  columns_same (join og outer j left right) = ap₂ ◌+◌ (columns_same left) (columns_same right)

-- ---- column_label

-- `position`, from a number on
position_from : (from to : ℕ) (targets : List (Marked (Option ℕ)))
    → remap_source from targets to ≡ (position (is_some to) (targets_of targets) ⇒ λ i. from + i)
position_from from to [] = refl
position_from from to ((none, og) ∷ targets) =
    position_from (suc from) to targets ∙ later (position (is_some to) (targets_of targets))
  where
    later : (o : Option ℕ) → (o ⇒ λ i. suc from + i) ≡ ((o ⇒ λ i. suc i) ⇒ λ i. from + i)
    later none = refl
    later (some i) = ap some (omega arith)
position_from from to ((some target, og) ∷ targets) = go (eqb target to) (position (is_some to) (targets_of targets)) (position_from (suc from) to targets)
  where
    later : (o : Option ℕ) → (o ⇒ λ i. suc from + i) ≡ ((o ⇒ λ i. suc i) ⇒ λ i. from + i)
    later none = refl
    later (some i) = ap some (omega arith)

    go : (b : Bool) (o : Option ℕ) → remap_source (suc from) targets to ≡ (o ⇒ λ i. suc from + i)
        → elim b [ true ↦ some from | false ↦ remap_source (suc from) targets to ] ≡ (cond b (some 0) (o ⇒ λ i. suc i) ⇒ λ i. from + i)
    go true o h = ap some (omega arith)
    go false o h = h ∙ later o

-- the labels that two ways of tracing a source's column give, where these ways are the same
module _ (f : ℕ → Run Label) (g : ℕ → Label) (same : (i : ℕ) → f i ≡ Ok (g i)) where
  routed_same : (e : Expression) → ((and_then (some e) Column? ⇒ λ (o, i). f i) else Ok unlabelled) ≡ Ok (Defined.routed g e)
  routed_same (constant og v) = refl
  routed_same (column og c) = same c
  routed_same (unary og o x) = refl
  routed_same (binary og o l r) = refl

  group_same : (es : List Expression) (i : ℕ) → ((and_then (get es i) Column? ⇒ λ (o, i). f i) else Ok unlabelled) ≡ Ok (group_label g es i)
  group_same [] i = refl
  group_same (e ∷ es) zero = routed_same e
  group_same (e ∷ es) (suc i) = group_same es i

  items_same : (items : List (Expression × Label × ℕ)) (i : ℕ)
      → ((no_alias? (get (aliases items) i) ⇒ λ n. (and_then (get (expressions items) i) Column? ⇒ λ (o, i). f i) else Ok unlabelled)
      else (get (aliases items) i ⇒ λ alias. Ok alias)
      else Ok unlabelled) ≡ Ok (items_label g items i)
  items_same [] i = refl
  items_same ((e, unlabelled, og) ∷ items) zero = routed_same e
  items_same ((e, unqualified name, og) ∷ items) zero = refl
  items_same ((e, qualified table name, og) ∷ items) zero = refl
  items_same (item ∷ items) (suc i) = items_same items i

  remap_same : (targets : List (Marked (Option ℕ))) (i : ℕ)
      → ((position (is_some i) (targets_of targets) ⇒ λ i. f i) else Ok unlabelled) ≡ Ok (optional_label g (remap_source 0 targets i))
  remap_same targets i = go (position (is_some i) (targets_of targets)) ∙ ap (λ o. Ok (optional_label g o)) (sym (position_from 0 i targets))
    where
      go : (o : Option ℕ) → ((o ⇒ λ i. f i) else Ok unlabelled) ≡ Ok (optional_label g (o ⇒ λ i. 0 + i))
      go none = refl
      go (some j) = same j ∙ ap (λ k. Ok (g k)) (omega arith)

qualifier_same : (alias : Option ℕ) (name : ℕ) → unwrap_or name alias ≡ qualifier alias name
qualifier_same none name = refl
qualifier_same (some alias) name = refl

nothing_same : (labels : List (Marked Label)) (i : ℕ) → unwrap_or unlabelled (get (map (λ (l : Marked Label). l.0) labels) i) ≡ (get_or labels i (unlabelled, 0)).0
nothing_same [] i = refl
nothing_same (l ∷ labels) zero = refl
nothing_same (l ∷ labels) (suc i) = nothing_same labels i

module _ (schema : Schema) where
  pub column_at_same : (table i : ℕ) → column_at document_01 schema table i ≡ Ok (column_of schema table i)
  column_at_same table i = go (table_of schema table).columns i
    where
      go : (cs : List Column) (i : ℕ) → ((get cs i ⇒ λ c. Ok c) else Ok no_column) ≡ Ok (get_or cs i no_column)
      go [] i = refl
      go (c ∷ cs) zero = refl
      go (c ∷ cs) (suc i) = go cs i

  table_same : (table : ℕ) (alias : Option ℕ) (i : ℕ)
      → (column_at document_01 schema table i >>= λ c. Ok (qualified (unwrap_or (table_of schema table).name alias) c.name)) ≡ Ok (Defined.table_label schema table alias i)
  table_same table alias i =
      ap (λ (r : Run Column). r >>= λ c. Ok (qualified (unwrap_or (table_of schema table).name alias) c.name)) (column_at_same table i)
      ∙ ap (λ z. Ok (qualified z (column_of schema table i).name)) (qualifier_same alias (table_of schema table).name)

  abbrev label_of : Node → ℕ → Run Label
  label_of = column_label document_01 schema

  pub label_same : (n : Node) (i : ℕ) → label_of n i ≡ Ok (Defined.column_label schema n i)
  label_same (leaf og (scan table alias predicate)) i = table_same table alias i
  label_same (leaf og (lookup access table alias constants)) i = table_same table alias i
  label_same (leaf og (nothing labels)) i = ap Ok (nothing_same labels i)
  label_same (leaf og (values rows)) i = refl
  label_same (over og (filter predicate) source) i = label_same source i
  label_same (over og (other (limit amount)) source) i = label_same source i
  label_same (over og (other (offset amount)) source) i = label_same source i
  label_same (over og (other (order key)) source) i = label_same source i
  label_same (over og (other (projection items)) source) i = items_same (label_of source) (Defined.column_label schema source) (label_same source) items i
  label_same (over og (other (remap targets)) source) i = remap_same (label_of source) (Defined.column_label schema source) (label_same source) targets i
  label_same (over og (other (aggregate group_by aggregates)) source) i = group_same (label_of source) (Defined.column_label schema source) (label_same source) group_by i
  label_same (join og outer j left right) i =
      ap (λ n. cond (ltb i n) (label_of left i) (label_of right (i - n))) (columns_same schema left)
      ∙ go (ltb i (Defined.columns schema left)) (label_same left i) (label_same right (i - Defined.columns schema left))
    where
      go : (b : Bool) → label_of left i ≡ Ok (Defined.column_label schema left i)
          → label_of right (i - Defined.columns schema left) ≡ Ok (Defined.column_label schema right (i - Defined.columns schema left))
          → cond b (label_of left i) (label_of right (i - Defined.columns schema left))
          ≡ Ok (elim b [ true ↦ Defined.column_label schema left i | false ↦ Defined.column_label schema right (i - Defined.columns schema left) ])
      go true l r = l
      go false l r = r

-- ---- transform with a rewrite that doesn't fail

-- each source measures at most k
abbrev pub Fits : (Node → ℕ) → ℕ → Node → Type 0
Fits measure k (leaf og l) = 0 ≤ k
Fits measure k (over og o source) = measure source ≤ k
Fits measure k (join og outer j left right) = (measure left ≤ k) × (measure right ≤ k)

-- before the sources
module _ (measure : Node → ℕ) (positive : (n : Node) → 1 ≤ measure n)
    (rewrite : Node → Run Node) (rewritten result : Node → Node)
    (same : (n : Node) → rewrite n ≡ Ok (rewritten n))
    (fits : (k : ℕ) (n : Node) → measure n ≤ suc k → Fits measure k (rewritten n))
    (step : (n : Node) → map_sources result (rewritten n) ≡ result n) where
  sources_same : (k : ℕ) (f : Node → Run Node) → ((n : Node) → measure n ≤ k → f n ≡ Ok (result n)) → (n : Node) → Fits measure k n
      → (transform_sources f n >>= Ok) ≡ Ok (map_sources result n)
  sources_same k f below (leaf og l) h = refl
  sources_same k f below (over og o source) h = ap (λ z. z >>= (λ s. Ok (over og o s)) >>= Ok) (below source h)
  sources_same k f below (join og outer j left right) h =
      ap₂ (λ x y. x >>= (λ l. y >>= λ r. Ok (join og outer j l r)) >>= Ok) (below left h.0) (below right h.1)

  pub before_same : (k : ℕ) (n : Node) → measure n ≤ k → transform rewrite Ok k n ≡ Ok (result n)
  before_same zero n h = absurd (let p = positive n in omega arith)
  before_same (suc k) n h =
      ap (λ z. z >>= transform_sources (transform rewrite Ok k) >>= Ok) (same n)
      ∙ (sources_same k (transform rewrite Ok k) (before_same k) (rewritten n) (fits k n h) ∙ ap Ok (step n))

-- ---- invert_remap

and_both : (a b : Bool) → (a && b) ≡ true → (a ≡ true) × (b ≡ true)
and_both true b h = (refl, h)
and_both false b h = absurd (let y : ◌≡◌ {A = ℕ} 0 1 = cc in omega arith)

no_place : {A B : Type 0} {b : B} → ◌≡◌ {A = Option B} none (some b) → A
no_place h = absurd (let y : ◌≡◌ {A = ℕ} 0 1 = cc in omega arith)

-- lists with the same at each place
same_places : {A : Type 0} (xs ys : List A) → ((i : ℕ) → get xs i ≡ get ys i) → xs ≡ ys
same_places [] [] h = refl
same_places [] (y ∷ ys) h = no_place (h 0)
same_places (x ∷ xs) [] h = no_place (sym (h 0))
same_places (x ∷ xs) (y ∷ ys) h = let e : x ≡ y = let k = h 0 in cc in ap₂ ◌∷◌ e (same_places xs ys (λ i. h (suc i)))

module _ (x : Option ℕ) where
  set_here : (s : List (Option ℕ)) (i : ℕ) → get (set_at s i x) i ≡ (get s i ⇒ λ y. x)
  set_here [] i = refl
  set_here (y ∷ s) zero = refl
  set_here (y ∷ s) (suc i) = set_here s i

  set_elsewhere : (s : List (Option ℕ)) (i j : ℕ) → eqb i j ≡ false → get (set_at s i x) j ≡ get s j
  set_elsewhere [] i j h = refl
  set_elsewhere (y ∷ s) zero zero h = absurd (let z : ◌≡◌ {A = ℕ} 0 1 = cc in omega arith)
  set_elsewhere (y ∷ s) zero (suc j) h = refl
  set_elsewhere (y ∷ s) (suc i) zero h = refl
  set_elsewhere (y ∷ s) (suc i) (suc j) h = set_elsewhere s i j (sym (eqb-suc-suc i j) ∙ h)

-- what stands at a place where the first to go there is at this position, from k on
abbrev placed : ℕ → Option ℕ → Option (Option ℕ) → Option (Option ℕ)
placed k at o = o ⇒ λ y. (at ⇒ λ i. some (k + i)) else y

placed_next : (k : ℕ) (at : Option ℕ) (o : Option (Option ℕ)) → placed (suc k) at o ≡ placed k (at ⇒ λ i. suc i) o
placed_next k none none = refl
placed_next k none (some y) = refl
placed_next k (some i) none = refl
placed_next k (some i) (some y) = ap (λ z. some (some z)) (omega arith)

no_position : (o : Option ℕ) → not (matches o) ≡ true → o ≡ none
no_position none h = refl
no_position (some i) h = absurd (let z : ◌≡◌ {A = ℕ} 0 1 = cc in omega arith)

inverted : (ts : List (Option ℕ)) (s : List (Option ℕ)) (k to : ℕ) → apart ts ≡ true → get (for_each invert_step s (enumerate k ts)) to ≡ placed k (position (is_some to) ts) (get s to)
inverted [] s k to h = go (get s to)
  where
    go : (o : Option (Option ℕ)) → o ≡ placed k none o
    go none = refl
    go (some y) = refl
inverted (none ∷ ts) s k to h = inverted ts s (suc k) to h ∙ placed_next k (position (is_some to) ts) (get s to)
inverted (some t ∷ ts) s k to h = go (eqb t to) refl (inverted ts (set_at s t (some k)) (suc k) to)
  where
    here : (o : Option (Option ℕ)) → placed (suc k) none (o ⇒ λ y. some k) ≡ placed k (some 0) o
    here none = refl
    here (some y) = ap (λ z. some (some z)) (omega arith)

    go : (b : Bool) → eqb t to ≡ b → (apart ts ≡ true → get (for_each invert_step (set_at s t (some k)) (enumerate (suc k) ts)) to ≡ placed (suc k) (position (is_some to) ts) (get (set_at s t (some k)) to))
        → get (for_each invert_step (set_at s t (some k)) (enumerate (suc k) ts)) to ≡ placed k (cond b (some 0) (position (is_some to) ts ⇒ λ i. suc i)) (get s to)
    go true e later =
        let is = eqb-true t to e in
        let (p, q) = and_both (not (matches (position (is_some t) ts))) (apart ts) h in
        later q
        ∙ (ap₂ (placed (suc k)) (ap (λ z. position (is_some z) ts) (sym is) ∙ no_position (position (is_some t) ts) p)
        (ap (λ z. get (set_at s t (some k)) z) (sym is) ∙ (set_here (some k) s t ∙ ap (λ z. get s z ⇒ λ y. some k) is))
        ∙ here (get s to))
    go false e later =
        let (p, q) = and_both (not (matches (position (is_some t) ts))) (apart ts) h in
        later q ∙ (ap (placed (suc k) (position (is_some to) ts)) (set_elsewhere (some k) s t to e) ∙ placed_next k (position (is_some to) ts) (get s to))

filled : (g : ℕ → Option ℕ) (k n i : ℕ) → (get (replicate {A = Option ℕ} n none) i ⇒ λ y. g (k + i)) ≡ get (map g (up_to k n)) i
filled g k zero i = refl
filled g k (suc n) zero = ap (λ z. some (g z)) (omega arith)
filled g k (suc n) (suc i) = later (get (replicate {A = Option ℕ} n none) i) ∙ filled g (suc k) n i
  where
    later : (o : Option (Option ℕ)) → (o ⇒ λ y. g (k + suc i)) ≡ (o ⇒ λ y. g (suc k + i))
    later none = refl
    later (some y) = ap (λ z. some (g z)) (omega arith)

pub invert_literal : InvertLiteral
invert_literal targets h =
    ap (λ n. for_each invert_step (replicate n none) (enumerate 0 (targets_of targets))) (highest targets)
    ∙ same_places (for_each invert_step (replicate (remap_columns targets) none) (enumerate 0 (targets_of targets))) (map (remap_source 0 targets) (up_to 0 (remap_columns targets))) at
  where
    sourced : (o : Option (Option ℕ)) (i : ℕ) → (o ≡ get (replicate (remap_columns targets) none) i) → placed 0 (position (is_some i) (targets_of targets)) o ≡ (o ⇒ λ y. remap_source 0 targets (0 + i))
    sourced none i e = refl
    sourced (some y) i e = first (position (is_some i) (targets_of targets)) (replicated (remap_columns targets) i y (sym e)) ∙ ap some (sym (position_from 0 i targets) ∙ ap (remap_source 0 targets) (omega arith))
      where
        replicated : (n i : ℕ) (y : Option ℕ) → get (replicate n none) i ≡ some y → y ≡ none
        replicated zero i y h = no_place h
        replicated (suc n) zero y h = cc
        replicated (suc n) (suc i) y h = replicated n i y h

        first : (o : Option ℕ) → y ≡ none → ◌≡◌ {A = Option (Option ℕ)} (some ((o ⇒ λ i. some (0 + i)) else y)) (some (o ⇒ λ i. 0 + i))
        first none e = ap some e
        first (some j) e = refl

    at : (i : ℕ) → get (for_each invert_step (replicate (remap_columns targets) none) (enumerate 0 (targets_of targets))) i ≡ get (map (remap_source 0 targets) (up_to 0 (remap_columns targets))) i
    at i =
        inverted (targets_of targets) (replicate (remap_columns targets) none) 0 i h
        ∙ (sourced (get (replicate (remap_columns targets) none) i) i refl ∙ filled (remap_source 0 targets) 0 (remap_columns targets) i)
