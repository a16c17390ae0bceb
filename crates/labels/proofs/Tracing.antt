-- Laws on what a label comes from, traced through a plan.
use Prim.Native.Nat.{ℕ, ◌+◌, ◌-◌, ◌*◌, ◌≤◌, ◌<◌}
use native.Mathlib.Omega.{arith}
use mathlib.Core.Logic.{◌⊎◌, inl, inr, ⊎_elim}
use mathlib.Core.Bool.{Bool, true, false, ◌||◌}
use mathlib.Core.Path.{◌≡◌, refl, sym, ap, ◌∙◌, subst}
use mathlib.Core.List.{List, [], ◌++◌, append-nil}
use mathlib.Core.Option.{Option, none, some}
use Rattle.std.proofs.Common.{Option as CodeOption}
use lib.Dec.{eqb, ltb, leb}
use Rattle.std.specs.Bool.{then_some}
use lib.ListN.{length, get_or, get_or-eq_default}
use lib.Seq.{get_or-append_seam}
use borrow.Author.Tests.{eqb-true, eqb-false, leb-true, leb-false, lt-ltb, le-ltb, eq-eqb, ne_eqb}
use Rattle.sql.specs.Schema.{Schema}
use Rattle.sql.specs.Plan.{unlabelled, unqualified, qualified, by_key, by_index, Leaf, scan, lookup, nothing, values, Other, limit, offset, order, projection, remap, aggregate, Over, filter, other, Join, Node, leaf, over, join, other_label, table_label, leaf_label, column_label, columns}
use Rattle.sql.specs.Plan as plan
use Rattle.sheet.specs.Content.{label_of, label_cell}
use Rattle.cells.specs.declared.Cell.{Cell}
use Rattle.cells.specs.Cells.{cell_words, cell_at, tag_at, start_at, Part}
use Rattle.cells.proofs.Laws.{part_left, part_right, part_in, cell_is}
use Rattle.words.specs.Words.{cell, all_words, label_words, leaf_cell}
use Rattle.words.specs.Place.{NodeHere, NodeAt}
use Rattle.words.proofs.Nodes.{node_cell_is, node_tag, own_part, over_source, join_left, join_right}
use Rattle.words.proofs.Tags.{tagged, over_tag, by_leaf, by_over, by_join, by_nothing, leaf_nothing, leaf_values}
use Rattle.words.proofs.Sizes.{all_single}
use Rattle.nodes.specs.Own.{OwnStart, SourceCount}
use Rattle.nodes.specs.Columns.{Narrow, ColumnsAt, ColumnCount, GoesThrough}
use Rattle.records.specs.Records.{Tables}
use Rattle.nodes.proofs.Own.{tag_in}
use Rattle.nodes.proofs.Widths.{a_here, tag_here, columns_node, source_in, source_columns_at, through_in, sources_in}
use Rattle.labels.specs.declared.Label.{Label}
use Rattle.labels.specs.declared.Label.TheVariants.{Unlabelled}
use Rattle.labels.specs.declared.Route.{Route}
use Rattle.labels.specs.declared.Route.TheVariants.{To, Ends}
use Rattle.labels.specs.declared.Traced.{Traced}
use Rattle.labels.specs.declared.Traced.TheVariants.{Said, Column}
use Rattle.labels.specs.declared.Spot.{Spot}
use Rattle.std.specs.declared.ops.ControlFlow.TheVariants.{Break, Continue}
use Rattle.labels.specs.Labels.{label, alias_of, alias_if, named, routed_by, Labelled, Routes, is_aliased, says_columns, LeafTraced, Asked, AskedCount, CountedAt, LeftColumns, Traces, Reached, Moves, Steps}
use Rattle.labels.proofs.Parts.{nth, all_split}
use Rattle.labels.proofs.Routes.{chosen, passed}

-- ---- a Nothing

label_said : (og : ℕ) (x : plan.Label)
    → label_of (record { tag = 0; flag = (cell og (label_cell x)).flag; origin = 0; a = (cell og (label_cell x)).a; b = (cell og (label_cell x)).b; c = 0 }) ≡ x
unfolding cell
label_said og unlabelled = refl
label_said og (unqualified n) = refl
label_said og (qualified q n) = refl

-- Label number i of a row of Labels.
pub record LabelAt (s : List ℕ) (lo i : ℕ) (ls : List (plan.Label × ℕ)) : Type 0 where
  pub x : plan.Label × ℕ
  pub part : Part s (lo + cell_words * i) (lo + cell_words * i + cell_words) (label_words x)
  pub is : x ≡ get_or ls i (unlabelled, 0)

label_number : {s : List ℕ} {lo hi : ℕ} (i : ℕ) (ls : List (plan.Label × ℕ)) → Part s lo hi (all_words label_words ls) → i < length ls → LabelAt s lo i ls
label_number {s} {lo} {hi} i ls p h =
    let n = nth ls i h in
    let a = all_words label_words n.before in
    let b = label_words n.x in
    let r = all_words label_words n.after ++ [] in
    let e : all_words label_words ls ≡ a ++ (b ++ r) =
    sym (append-nil (all_words label_words ls)) ∙ ap (λ (l : List (plan.Label × ℕ)). all_words label_words l ++ []) n.is
    ∙ all_split label_words n.before n.x n.after [] in
    let g : lo + length a ≡ lo + cell_words * i = omega (arith, all_single label_words (λ l. refl) n.before, n.at) in
    let v = part_right a (b ++ r) (subst (λ (w : List ℕ). Part s lo hi w) e p) in
    record {
      x = n.x;
      part = part_left b r (subst (λ (m : ℕ). Part s m hi (b ++ r)) g v);
      is = sym (get_or-append_seam n.before n.x n.after (unlabelled, 0)) ∙ cc (n.is, n.at);
    }

module _ {s : List ℕ} {lo hi : ℕ} {c : Cell} (q : c ≡ cell_at s hi) where
  a_nothing : c.tag ≡ 57 → (P : Leaf → Type 0) (og : ℕ) (l : Leaf) → NodeHere s lo hi (leaf og l)
      → ((ls : List (plan.Label × ℕ)) → c.a ≡ length ls → Part s lo (hi - cell_words) (all_words label_words ls) → P (nothing ls)) → P l
  a_nothing z P og l u f =
      leaf_nothing (λ l. NodeHere s lo hi (leaf og l) → P l)
      (λ ls u. f ls (a_here q (leaf og (nothing ls)) u) (own_part (leaf og (nothing ls)) u {m = lo} (omega arith))) l (sym (tag_here q (leaf og l) u) ∙ z) u

  pub nothing_ends : c.tag ≡ 57 → (i : ℕ) → c.a ≤ i → LeafTraced s lo hi i (Said Unlabelled)
  nothing_ends z i h schema og l u =
      a_nothing z (λ l. unlabelled ≡ leaf_label schema l i) og l u (λ ls e p. ap (λ (x : plan.Label × ℕ). x.0) (sym (get_or-eq_default ls (unlabelled, 0) (omega arith))))

  module _ (z : c.tag ≡ 57) (i : ℕ) (h : i < c.a) where
    pub label_in_list : NodeAt s lo hi → lo + cell_words * i + cell_words ≤ length s
    label_in_list t =
        by_nothing (λ p. NodeHere s lo hi p → lo + cell_words * i + cell_words ≤ length s)
        (λ og ls u. (part_in (label_number i ls (own_part (leaf og (nothing ls)) u {m = lo} (omega arith)) (omega (arith, a_here q (leaf og (nothing ls)) u))).part).1)
        t.p (sym (tag_here q t.p t.here) ∙ z) t.here

    pub nothing_says : {k : Cell} → k ≡ cell_at s (lo + cell_words * i + cell_words) → (l : Label) → Labelled k.flag k.a k.b l → LeafTraced s lo hi i (Said l)
    nothing_says {k} e l f schema og x u =
        a_nothing z (λ x. label l ≡ leaf_label schema x i) og x u
        (λ ls g p.
        let n = label_number i ls p (omega arith) in
        f ∙ ap (λ (k : Cell). label_of (record { tag = 0; flag = k.flag; origin = 0; a = k.a; b = k.b; c = 0 })) (e ∙ cell_is [] (cell n.x.1 (label_cell n.x.0)) n.part)
        ∙ label_said n.x.1 n.x.0 ∙ ap (λ (x : plan.Label × ℕ). x.0) n.is)

  pub values_say : c.tag ≡ 63 → (i : ℕ) → LeafTraced s lo hi i (Said Unlabelled)
  values_say z i schema og l u =
      leaf_values (λ l. unlabelled ≡ leaf_label schema l i) (λ rs. refl) l (sym (tag_here q (leaf og l) u) ∙ z)

  -- ---- a table's column
  pub table_says : (c.tag ≡ 57 → ⊥) → (c.tag ≡ 63 → ⊥) → (i : ℕ) (alias : CodeOption ℕ) → alias_of alias ≡ alias_if (is_aliased c.tag c.flag) c.b → LeafTraced s lo hi i (Column c.a alias i)
  unfolding cell
  table_says y z i alias e schema og l u = go l u (e ∙ ap (λ (k : Cell). alias_if (is_aliased k.tag k.flag) k.b) (q ∙ node_cell_is (leaf og l) u))
    where
      of_table : (t : ℕ) (al : Option ℕ) → c.a ≡ t → alias_of alias ≡ al → table_label schema c.a (alias_of alias) i ≡ table_label schema t al i
      of_table t al f g = ap (λ (n : ℕ). table_label schema n (alias_of alias) i) f ∙ ap (λ (a : Option ℕ). table_label schema t a i) g

      go : (l : Leaf) → NodeHere s lo hi (leaf og l)
          → alias_of alias ≡ alias_if (is_aliased (cell og (leaf_cell l)).tag (cell og (leaf_cell l)).flag) (cell og (leaf_cell l)).b
          → table_label schema c.a (alias_of alias) i ≡ leaf_label schema l i
      go (scan t none none) u g = of_table t none (a_here q (leaf og (scan t none none)) u) g
      go (scan t none (some f)) u g = of_table t none (a_here q (leaf og (scan t none (some f))) u) g
      go (scan t (some al) none) u g = of_table t (some al) (a_here q (leaf og (scan t (some al) none)) u) g
      go (scan t (some al) (some f)) u g = of_table t (some al) (a_here q (leaf og (scan t (some al) (some f))) u) g
      go (lookup by_key t none vs) u g = of_table t none (a_here q (leaf og (lookup by_key t none vs)) u) g
      go (lookup by_key t (some al) vs) u g = of_table t (some al) (a_here q (leaf og (lookup by_key t (some al) vs)) u) g
      go (lookup (by_index j) t none vs) u g = of_table t none (a_here q (leaf og (lookup (by_index j) t none vs)) u) g
      go (lookup (by_index j) t (some al) vs) u g = of_table t (some al) (a_here q (leaf og (lookup (by_index j) t (some al) vs)) u) g
      go (nothing ls) u g = absurd (y (tag_here q (leaf og (nothing ls)) u))
      go (values rs) u g = absurd (z (tag_here q (leaf og (values rs)) u))

pub aliased_scan : (tag flag : ℕ) → tag ≡ 62 → leb 2 flag ≡ is_aliased tag flag
aliased_scan tag flag e = rw (eq-eqb tag 62 e)

pub aliased_lookup : (tag flag : ℕ) → (tag ≡ 62 → ⊥) → leb 1 flag ≡ is_aliased tag flag
aliased_lookup tag flag h = rw (ne_eqb tag 62 h)

pub alias_then : (b : Bool) (alias : ℕ) → alias_of (then_some b alias) ≡ alias_if b alias
alias_then true alias = refl
alias_then false alias = refl

pub says_true : (tag : ℕ) → says_columns tag ≡ true → (tag ≡ 50) ⊎ (60 ≤ tag)
says_true tag h = go (eqb tag 50) (leb 60 tag) (eqb-true tag 50) (leb-true 60 tag) h
  where
    go : (a b : Bool) → (a ≡ true → tag ≡ 50) → (b ≡ true → 60 ≤ tag) → (a || b) ≡ true → (tag ≡ 50) ⊎ (60 ≤ tag)
    go true b f g h = inl (f refl)
    go false b f g h = inr (g h)

pub says_false : (tag : ℕ) → says_columns tag ≡ false → (tag ≡ 50 → ⊥) × (tag < 60)
says_false tag h = go (eqb tag 50) (leb 60 tag) (eqb-false tag 50) (leb-false 60 tag) h
  where
    go : (a b : Bool) → (a ≡ false → tag ≡ 50 → ⊥) → (b ≡ false → tag < 60) → (a || b) ≡ false → (tag ≡ 50 → ⊥) × (tag < 60)
    go true b f g h = let z : ◌≡◌ {A = ℕ} 0 1 = cc in absurd (omega arith)
    go false b f g h = (f refl, g h)

-- ---- steps

module _ {s : List ℕ} {lo hi : ℕ} (c : SourceCount s lo hi 1) (g : (tag_at s hi ≡ 50) ⊎ (60 ≤ tag_at s hi)) where
  not_filter : (P : Node → Type 0) → ((og : ℕ) (o : Other) (n : Node) → NodeHere s lo hi (over og (other o) n) → P (over og (other o) n)) → (p : Node) → NodeHere s lo hi p → P p
  not_filter P f p u = by_over (λ p. NodeHere s lo hi p → P p) go p (sym (c p u)) u
    where
      go : (og : ℕ) (o : Over) (n : Node) → NodeHere s lo hi (over og o n) → P (over og o n)
      go og (filter e) n u =
          let k = node_tag (over og (filter e) n) u ∙ tagged (over og (filter e) n) in
          ⊎_elim (λ (j : tag_at s hi ≡ 50). absurd (omega arith)) (λ (j : 60 ≤ tag_at s hi). absurd (omega arith)) g
      go og (other o) n u = f og o n u

pub ends_leaf : {records s : List ℕ} {lo hi : ℕ} (i : ℕ) → SourceCount s lo hi 0 → (o : Traced) → LeafTraced s lo hi i o → Traces records s lo hi i o
ends_leaf {s = s} {lo = lo} {hi = hi} i c o g schema p t u =
    by_leaf (λ p. NodeHere s lo hi p → named schema o ≡ column_label schema p i) (λ og l u. g schema og l u) p (sym (c p u)) u

-- a node with the columns of its source
module _ {s : List ℕ} {lo hi m : ℕ} (c : SourceCount s lo hi 1) (own : OwnStart s lo hi m) (y : tag_at s hi ≡ 50 → ⊥) (z : tag_at s hi < 60) where
  same_columns : (schema : Schema) (og : ℕ) (o : Over) (n : Node) (w : ℕ) → tag_at s hi ≡ over_tag o → Asked schema (over og o n) w → Asked schema n w
  same_columns schema og (filter e) n w k f h = f refl
  same_columns schema og (other (limit a)) n w k f h = f refl
  same_columns schema og (other (offset a)) n w k f h = f refl
  same_columns schema og (other (order ks)) n w k f h = f refl
  same_columns schema og (other (projection is)) n w k f h = absurd (omega arith)
  same_columns schema og (other (remap ts)) n w k f h = absurd (omega arith)
  same_columns schema og (other (aggregate es gs)) n w k f h = absurd (y k)

  same_label : (schema : Schema) (og : ℕ) (o : Over) (n : Node) (i : ℕ) → tag_at s hi ≡ over_tag o → column_label schema n i ≡ column_label schema (over og o n) i
  same_label schema og (filter e) n i k = refl
  same_label schema og (other (limit a)) n i k = refl
  same_label schema og (other (offset a)) n i k = refl
  same_label schema og (other (order ks)) n i k = refl
  same_label schema og (other (projection is)) n i k = absurd (omega arith)
  same_label schema og (other (remap ts)) n i k = absurd (omega arith)
  same_label schema og (other (aggregate es gs)) n i k = absurd (y k)

  reached_source : (schema : Schema) (i w : ℕ) (p : Node) → NodeHere s lo hi p → Asked schema p w → Reached schema s p i lo m i w
  reached_source schema i w p u e =
      by_over (λ p. NodeHere s lo hi p → Asked schema p w → Reached schema s p i lo m i w)
      (λ og o n u e.
      let k = node_tag (over og o n) u ∙ tagged (over og o n) in
      record { q = n; here = over_source og o n u (own (over og o n) u); count = same_columns schema og o n w k e; same = same_label schema og o n i k })
      p (sym (c p u)) u e

  pub moves_source : {records : List ℕ} {w : ℕ} (i : ℕ) → CountedAt records s lo hi w → Moves records s lo hi i w (record { lo = lo; hi = m; column = i; columns = w })
  moves_source {records} {w} i t =
      let (a, b) = source_in c own (columns_node t.at) in
      record {
        there = go;
        shorter = omega arith;
        reaches = λ schema p k u e. reached_source schema i w p u e;
      }
    where
      go : CountedAt records s lo m w
      go =
          let (a, b) = source_in c own (columns_node t.at) in
          by_over (λ p. NodeHere s lo hi p → Narrow p → Asked t.at.schema p w → CountedAt records s lo m w)
          (λ og o n u k e. record {
            at = record { schema = t.at.schema; tables = t.at.tables; p = n; here = over_source og o n u (own (over og o n) u); narrow = k.1; short = omega (arith, t.at.short) };
            count = same_columns t.at.schema og o n w (node_tag (over og o n) u ∙ tagged (over og o n)) e;
          })
          t.at.p (sym (c t.at.p t.at.here)) t.at.here t.at.narrow t.count

-- a count that isn't asked for
pub not_asked : {records s : List ℕ} {lo hi : ℕ} → NodeAt s lo hi → (tag_at s hi ≡ 50) ⊎ (60 ≤ tag_at s hi) → AskedCount records s lo hi 0
not_asked {s = s} {lo = lo} {hi = hi} t g schema p k u h = let z : ◌≡◌ {A = ℕ} 0 1 = cc (own p u, h) in absurd (omega arith)
  where
    own : GoesThrough s lo hi false
    own =
        ⊎_elim (λ (j : tag_at s hi ≡ 50). through_in false 50 1 refl refl (omega arith) (omega arith))
        (λ (j : 60 ≤ tag_at s hi). let (a, b) = tag_in t refl in through_in false 60 4 refl refl (omega arith) (omega arith)) g

-- a node with columns of its own
module _ {s : List ℕ} {lo hi m : ℕ} (i : ℕ) (c : SourceCount s lo hi 1) (own : OwnStart s lo hi m) (g : (tag_at s hi ≡ 50) ⊎ (60 ≤ tag_at s hi)) (r : Route)
    (route : Routes s lo hi i r) where
  pub ends_own : {records : List ℕ} (l : Label) → r ≡ Ends l → Traces records s lo hi i (Said l)
  ends_own l e schema p t u =
      not_filter c g (λ p. label l ≡ column_label schema p i)
      (λ og o n u. ap (routed_by (column_label schema n)) (sym e) ∙ route (column_label schema n) og o n u) p u

  pub moves_own : {records : List ℕ} {w : ℕ} (j : ℕ) → r ≡ To j → CountedAt records s lo hi w → {n : ℕ} → AskedCount records s lo m n
      → Moves records s lo hi i w (record { lo = lo; hi = m; column = j; columns = n })
  moves_own {records} {w} j e t {n} f =
      let (a, b) = source_in c own (columns_node t.at) in
      let d = source_columns_at c own t.at in
      record {
        there = record { at = d; count = f d.schema d.p d.tables d.here };
        shorter = omega arith;
        reaches = λ schema p k u x. not_filter c g (λ p. Reached schema s p i lo m j n)
            (λ og o q u.
            let v = over_source og (other o) q u (own (over og (other o) q) u) in
            record {
              q = q;
              here = v;
              count = f schema q k v;
              same = ap (routed_by (column_label schema q)) (sym e) ∙ route (column_label schema q) og o q u;
            })
            p u;
      }

-- ---- a join
module _ {s : List ℕ} {lo hi m mid : ℕ} (c : SourceCount s lo hi 2) (own : OwnStart s lo hi m) (st : mid ≡ start_at s m) where
  a_join : (P : Node → Type 0)
      → ((og : ℕ) (outer : Bool) (j : Join) (a b : Node) → NodeHere s lo hi (join og outer j a b) → NodeHere s lo mid a → NodeHere s mid m b → P (join og outer j a b))
      → (p : Node) → NodeHere s lo hi p → P p
  a_join P g p u =
      by_join (λ p. NodeHere s lo hi p → P p)
      (λ og outer j a b u. g og outer j a b u (join_left og outer j a b u (own (join og outer j a b) u) st) (join_right og outer j a b u (own (join og outer j a b) u) st)) p (sym (c p u)) u

  module _ {records : List ℕ} {w : ℕ} where
    pub left_counted : {r : ℕ} → ColumnCount records s lo mid r → LeftColumns records s lo hi w r
    left_counted f schema og outer j a b t u e = f schema a t (join_left og outer j a b u (own (join og outer j a b) u) st)

    pub right_below : CountedAt records s lo hi w → {r : ℕ} → ColumnCount records s mid m r → r ≤ w
    right_below t {r} f =
        a_join (λ p. Asked t.at.schema p w → r ≤ w) (λ og outer j a b u v x e. omega (arith, e refl, f t.at.schema b t.at.tables x))
        t.at.p t.at.here t.count

    pub left_by_right : {r : ℕ} → ColumnCount records s mid m r → LeftColumns records s lo hi w (w - r)
    left_by_right f schema og outer j a b t u e = omega (arith, f schema b t (join_right og outer j a b u (own (join og outer j a b) u) st))

    module _ (t : CountedAt records s lo hi w) {left : ℕ} (f : LeftColumns records s lo hi w left) where
      pub left_below : left ≤ w
      left_below =
          a_join (λ p. Asked t.at.schema p w → left ≤ w)
          (λ og outer j a b u v x e. omega (arith, e refl, f t.at.schema og outer j a b t.at.tables u (e refl))) t.at.p t.at.here t.count

      left_there : CountedAt records s lo mid left
      left_there =
          let (p₁, (p₂, p₃)) = sources_in c own st (columns_node t.at) in
          a_join (λ p. Narrow p → Asked t.at.schema p w → CountedAt records s lo mid left)
          (λ og outer j a b u v x k e. record {
            at = record { schema = t.at.schema; tables = t.at.tables; p = a; here = v; narrow = k.0; short = omega (arith, t.at.short) };
            count = λ h. f t.at.schema og outer j a b t.at.tables u (e refl);
          })
          t.at.p t.at.here t.at.narrow t.count

      right_there : CountedAt records s mid m (w - left)
      right_there =
          let (p₁, (p₂, p₃)) = sources_in c own st (columns_node t.at) in
          a_join (λ p. Narrow p → Asked t.at.schema p w → CountedAt records s mid m (w - left))
          (λ og outer j a b u v x k e. record {
            at = record { schema = t.at.schema; tables = t.at.tables; p = b; here = x; narrow = k.1; short = omega (arith, t.at.short) };
            count = λ h. omega (arith, e refl, f t.at.schema og outer j a b t.at.tables u (e refl));
          })
          t.at.p t.at.here t.at.narrow t.count

      pub moves_left : (i : ℕ) → i < left → Moves records s lo hi i w (record { lo = lo; hi = mid; column = i; columns = left })
      moves_left i h =
          let (p₁, (p₂, p₃)) = sources_in c own st (columns_node t.at) in
          record {
            there = left_there;
            shorter = omega arith;
            reaches = λ schema p k u e. a_join (λ p. Asked schema p w → Reached schema s p i lo mid i left)
                (λ og outer j a b u v x e.
                let q = f schema og outer j a b k u (e refl) in
                record {
                  q = a;
                  here = v;
                  count = λ h. q;
                  same = chosen (ltb i (columns schema a)) (column_label schema a i) (column_label schema b (i - columns schema a)) (lt-ltb i (columns schema a) (omega arith));
                })
                p u e;
          }

      pub moves_right : (i : ℕ) → left ≤ i → Moves records s lo hi i w (record { lo = mid; hi = m; column = i - left; columns = w - left })
      moves_right i h =
          let (p₁, (p₂, p₃)) = sources_in c own st (columns_node t.at) in
          record {
            there = right_there;
            shorter = omega arith;
            reaches = λ schema p k u e. a_join (λ p. Asked schema p w → Reached schema s p i mid m (i - left) (w - left))
                (λ og outer j a b u v x e.
                let q = f schema og outer j a b k u (e refl) in
                record {
                  q = b;
                  here = x;
                  count = λ h. omega (arith, e refl);
                  same = ap (λ (n : ℕ). column_label schema b (i - n)) q
                      ∙ passed (ltb i (columns schema a)) (column_label schema a i) (column_label schema b (i - columns schema a)) (le-ltb i (columns schema a) (omega arith));
                })
                p u e;
          }

-- ---- all steps

-- Where looking for a label has got to.
pub record Way (records s : List ℕ) (lo hi i lo' hi' c w : ℕ) : Type 0 where
  pub there : CountedAt records s lo' hi' w
  pub reaches : (schema : Schema) (p : Node) → Tables records schema → NodeHere s lo hi p → Reached schema s p i lo' hi' c w

module _ {records s : List ℕ} {lo hi i : ℕ} where
  pub way_first : (t : ColumnsAt records s lo hi) {w : ℕ} → ColumnCount records s lo hi w → Way records s lo hi i lo hi i w
  way_first t f =
      record {
        there = record { at = t; count = λ h. f t.schema t.p t.tables t.here };
        reaches = λ schema p k u. record { q = p; here = u; count = λ h. f schema p k u; same = refl };
      }

  module _ {x : Spot} (a : Way records s lo hi i x.lo x.hi x.column x.columns) where
    pub way_done : (o : Traced) → Steps records s x (Break o) → Traces records s lo hi i o
    way_done o f schema p k u =
        let y = a.reaches schema p k u in
        f schema y.q k y.here ∙ y.same

    pub way_shorter : (y : Spot) → Steps records s x (Continue y) → y.hi - y.lo < x.hi - x.lo
    way_shorter y f = f.shorter

    pub way_more : (y : Spot) → Steps records s x (Continue y) → Way records s lo hi i y.lo y.hi y.column y.columns
    way_more y f =
        record {
          there = f.there;
          reaches = λ schema p k u.
              let v = a.reaches schema p k u in
              let z = f.reaches schema v.q k v.here v.count in
              record { q = z.q; here = z.here; count = z.count; same = z.same ∙ v.same };
        }

-- ---- the code's tests

pub says_here : {t u : ℕ} → t ≡ u → says_columns t ≡ true → (u ≡ 50) ⊎ (60 ≤ u)
says_here {u = u} e h = says_true u (ap says_columns (sym e) ∙ h)

pub says_false_here : {t u : ℕ} → t ≡ u → says_columns t ≡ false → (u ≡ 50 → ⊥) × (u < 60)
says_false_here {u = u} e h = says_false u (ap says_columns (sym e) ∙ h)
