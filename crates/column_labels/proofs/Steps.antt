-- Laws on the labels that a node has from its sources, and on writing them.
use Prim.Native.Nat.{ℕ, ◌+◌, ◌-◌, ◌≤◌, ◌<◌}
use native.Mathlib.Omega.{arith}
use mathlib.Core.Bool.{Bool}
use mathlib.Core.Path.{◌≡◌, refl, sym, ap, ◌∙◌, subst}
use mathlib.Core.List.{List, [], ◌∷◌, ◌++◌, map, append-nil, append_assoc, map-append}
use lib.Dec.{ltb}
use lib.ListN.{length, take, set, length-append}
use lib.Seq.{length-take-le}
use borrow.Author.Tests.{lt-ltb, le-ltb}
use Rattle.sql.specs.Schema.{Schema}
use Rattle.sql.specs.Expression.{Marked}
use Rattle.sql.specs.Plan.{Label, unlabelled, nothing, limit, offset, order, projection, remap, aggregate, Over, filter, other, Join, Node, leaf, over, join, up_to, columns, column_label, column_labels}
use Rattle.sheet.specs.Content.{label_cell}
use Rattle.cells.specs.declared.Cell.{Cell}
use Rattle.cells.specs.Cells.{cell_words, sized, tag_at, start_at, plain}
use Rattle.cells.specs.Room.{Wrote, Seals}
use Rattle.cells.proofs.Laws.{then, done, no_more, nothing as none_written}
use Rattle.words.specs.Words.{cell, all_words, label_words}
use Rattle.words.specs.Place.{NodeHere, NodeAt}
use Rattle.words.proofs.Nodes.{node_tag, own_part, over_source, join_left, join_right}
use Rattle.words.proofs.Tags.{tagged, over_tag, by_over, by_join, by_nothing}
use Rattle.nodes.specs.Own.{OwnStart, SourceCount}
use Rattle.nodes.specs.Columns.{ColumnCount}
use Rattle.labels.specs.declared.Label.{Label as CodeLabel}
use Rattle.labels.specs.declared.Label.TheVariants.{Unlabelled, Unqualified, Qualified}
use Rattle.labels.specs.Labels.{label}
use Rattle.labels.specs.Names.{ColumnLabel}
use Rattle.records.specs.Records.{Records}
use Rattle.records.proofs.Laws.{tables_said}
use Rattle.labels.proofs.Routes.{chosen, passed}
use Rattle.column_labels.specs.ColumnLabels.{marked, bare, LabelsUp, Marks, WritesLabels}
use Rattle.column_labels.proofs.Lists.{all_append, set_in, map_alike, map_split, map_next, map_elements}

-- ---- the labels of a node, by its sources

pub over_labels : (schema : Schema) (og : ℕ) (o : Over) (n : Node) → (over_tag o ≡ 50 → ⊥) → over_tag o < 60 → column_labels schema n ≡ column_labels schema (over og o n)
over_labels schema og (filter e) n y z = refl
over_labels schema og (other (limit a)) n y z = refl
over_labels schema og (other (offset a)) n y z = refl
over_labels schema og (other (order ks)) n y z = refl
over_labels schema og (other (projection is)) n y z = absurd (omega arith)
over_labels schema og (other (remap ts)) n y z = absurd (omega arith)
over_labels schema og (other (aggregate es gs)) n y z = absurd (y refl)

pub join_labels : (schema : Schema) (og : ℕ) (outer : Bool) (j : Join) (l r : Node) → column_labels schema (join og outer j l r) ≡ column_labels schema l ++ column_labels schema r
join_labels schema og outer j l r =
    let a = columns schema l in
    let b = columns schema r in
    let f = column_label schema (join og outer j l r) in
    map_split f a b 0
    ∙ ap (λ (x : List Label). x ++ map f (up_to (0 + a) b))
    (map_alike f (column_label schema l) a 0 0 (λ k z. sym (chosen (ltb (0 + k) a) (column_label schema l (0 + k)) (column_label schema r (0 + k - a)) (lt-ltb (0 + k) a (omega arith)))))
    ∙ ap (λ (x : List Label). column_labels schema l ++ x)
    (map_alike f (column_label schema r) b (0 + a) 0 (λ k z.
    let e : 0 + a + k - a ≡ 0 + k = omega arith in
    sym (passed (ltb (0 + a + k) a) (column_label schema l (0 + a + k)) (column_label schema r (0 + a + k - a)) (le-ltb (0 + a + k) a (omega arith)))
    ∙ ap (column_label schema r) e))

pub nothing_labels : (schema : Schema) (og : ℕ) (ls : List (Marked Label)) → column_labels schema (leaf og (nothing ls)) ≡ bare ls
nothing_labels schema og ls = map_elements (λ (l : Marked Label). l.0) ls (unlabelled, 0)

-- ---- labels with another origin

label_lengths : (new : ℕ) (ls : List (Marked Label)) → length (all_words label_words (marked new (bare ls))) ≡ length (all_words label_words ls)
label_lengths new [] = refl
label_lengths new (l ∷ ls) = let h = label_lengths new ls in omega arith

-- In the words of `ls` up to word `end`, the first labels, up to word i, have the origin `new`.
pub record Marking (new : ℕ) (d₀ : List ℕ) (at end i : ℕ) (ls : List (Marked Label)) (d : List ℕ) : Type 0 where
  pub first : List Label
  pub rest : List (Marked Label)
  pub all : first ++ bare rest ≡ bare ls
  pub room : at ≤ length d₀
  pub start : i ≡ at + length (all_words label_words (marked new first))
  pub ends : end ≡ i + length (all_words label_words rest)
  pub is : take end d ≡ (take at d₀ ++ all_words label_words (marked new first)) ++ all_words label_words rest

pub marking_first : (new : ℕ) {d : List ℕ} {at end : ℕ} {d' : List ℕ} (ls : List (Marked Label)) → end ≤ length d → Wrote d at (all_words label_words ls) end d' → Marking new d at end at ls d'
marking_first new {d} {at} {end} {d'} ls h w =
    let (e, q) = w.is h in
    record { first = []; rest = ls; all = refl; room = omega arith; start = omega arith; ends = e; is = q ∙ ap (λ (l : List ℕ). l ++ all_words label_words ls) (sym (append-nil (take at d))) }

module _ (new : ℕ) {d₀ : List ℕ} {at end i : ℕ} (ls : List (Marked Label)) {d : List ℕ} (g : Marking new d₀ at end i ls d) where
  -- one label more
  pub marking_in : i < end → i + cell_words ≤ end
  marking_in h = go g.rest g.ends
    where
      go : (rest : List (Marked Label)) → end ≡ i + length (all_words label_words rest) → i + cell_words ≤ end
      go [] e = omega arith
      go (l ∷ rest) e = omega arith

  pub marking_next : i < end → Marking new d₀ at end (i + cell_words) ls (set d i new)
  unfolding cell
  marking_next h = go g.rest g.all g.ends g.is
    where
      before : List ℕ
      before = take at d₀ ++ all_words label_words (marked new g.first)

      go : (rest : List (Marked Label)) → g.first ++ bare rest ≡ bare ls → end ≡ i + length (all_words label_words rest) → take end d ≡ before ++ all_words label_words rest
          → Marking new d₀ at end (i + cell_words) ls (set d i new)
      go [] a e q = absurd (omega arith)
      go (l ∷ rest) a e q =
          let n : length before ≡ i = omega (arith, length-append (take at d₀) (all_words label_words (marked new g.first)), length-take-le at d₀ g.room, g.start) in
          let now : all_words label_words (marked new (g.first ++ (l.0 ∷ []))) ≡ all_words label_words (marked new g.first) ++ label_words (l.0, new) =
          ap (all_words label_words) (map-append (λ (y : Label). (y, new)) g.first (l.0 ∷ []))
          ∙ all_append label_words (marked new g.first) ((l.0, new) ∷ [])
          ∙ ap (λ (v : List ℕ). all_words label_words (marked new g.first) ++ v) (append-nil (label_words (l.0, new))) in
          record {
            first = g.first ++ (l.0 ∷ []);
            rest = rest;
            all = append_assoc g.first (l.0 ∷ []) (bare rest) ∙ a;
            room = g.room;
            start = omega (arith, g.start, ap length now, length-append (all_words label_words (marked new g.first)) (label_words (l.0, new)));
            ends = omega arith;
            is =
                ap (λ (j : ℕ). take end (set d j new)) (sym n)
                ∙ set_in d before _ end _ new q
                ∙ sym (append_assoc before (label_words (l.0, new)) (all_words label_words rest))
                ∙ ap (λ (v : List ℕ). v ++ all_words label_words rest) (append_assoc (take at d₀) (all_words label_words (marked new g.first)) (label_words (l.0, new)))
                ∙ ap (λ (v : List ℕ). (take at d₀ ++ v) ++ all_words label_words rest) (sym now);
          }

  pub marking_all : end ≤ i → end ≤ length d₀ → Wrote d₀ at (all_words label_words (marked new (bare ls))) end d
  marking_all h k = go g.rest g.all g.ends g.is
    where
      go : (rest : List (Marked Label)) → g.first ++ bare rest ≡ bare ls → end ≡ i + length (all_words label_words rest)
          → take end d ≡ (take at d₀ ++ all_words label_words (marked new g.first)) ++ all_words label_words rest
          → Wrote d₀ at (all_words label_words (marked new (bare ls))) end d
      go (l ∷ rest) a e q = absurd (omega arith)
      go [] a e q =
          let b = sym (append-nil g.first) ∙ a in
          subst (λ (v : List Label). Wrote d₀ at (all_words label_words (marked new v)) end d) b
          (done (omega (arith, g.start)) (omega (arith, g.start)) (q ∙ append-nil (take at d₀ ++ all_words label_words (marked new g.first))))

-- no room
pub marked_full : (new : ℕ) {d : List ℕ} {at n : ℕ} {d' : List ℕ} (ls : List (Marked Label)) → length d < n → Wrote d at (all_words label_words ls) n d'
    → Wrote d at (all_words label_words (marked new (bare ls))) n d'
marked_full new ls h w = let k = label_lengths new ls in no_more h (omega arith) w

-- ---- column by column

-- The labels of the first i columns are written.
pub record Labelled (new : ℕ) (records columns' s : List ℕ) (lo hi : ℕ) (d : List ℕ) (at i n : ℕ) (d' : List ℕ) : Type 0 where
  pub is : (schema : Schema) (p : Node) → Records records columns' schema → NodeHere s lo hi p
      → Wrote d at (all_words label_words (marked new (map (column_label schema p) (up_to 0 i)))) n d'

module _ (new : ℕ) {records columns' s : List ℕ} {lo hi : ℕ} {d : List ℕ} {at : ℕ} where
  pub labelled_first : Labelled new records columns' s lo hi d at 0 at d
  labelled_first = record { is = λ schema p k u. none_written d at }

  pub labelled_next : {i m n : ℕ} {d₁ d₂ : List ℕ} (l : CodeLabel) → length d₁ ≡ length d → Labelled new records columns' s lo hi d at i m d₁
      → ColumnLabel records columns' s lo hi i l → Wrote d₁ m (label_words (label l, new)) n d₂ → Labelled new records columns' s lo hi d at (i + 1) n d₂
  labelled_next {i} {m} {n} {d₁} {d₂} l e a f w =
      record {
        is = λ schema p k u.
            let g = column_label schema p in
            let before = map g (up_to 0 i) in
            let x : all_words label_words (marked new before) ++ label_words (label l, new) ≡ all_words label_words (marked new (map g (up_to 0 (i + 1)))) =
            ap (λ (y : Label). all_words label_words (marked new before) ++ label_words (y, new)) (f schema p k u)
            ∙ ap (λ (v : List ℕ). all_words label_words (marked new before) ++ v) (sym (append-nil (label_words (g i, new))))
            ∙ sym (all_append label_words (marked new before) ((g i, new) ∷ []))
            ∙ ap (all_words label_words) (sym (map-append (λ (y : Label). (y, new)) before (g i ∷ [])))
            ∙ ap (λ (v : List Label). all_words label_words (marked new v)) (sym (map_next g i)) in
            subst (λ (v : List ℕ). Wrote d at v n d₂) x (then e (a.is schema p k u) w);
      }

  pub labelled_all : {c i n : ℕ} {d' : List ℕ} → ColumnCount records s lo hi c → i ≡ c → Labelled new records columns' s lo hi d at i n d'
      → WritesLabels new records columns' s lo hi d at n d'
  labelled_all {n = n} {d' = d'} f e a schema p k u =
      subst (λ (j : ℕ). Wrote d at (all_words label_words (marked new (map (column_label schema p) (up_to 0 j)))) n d') (e ∙ f schema p (tables_said k) u) (a.is schema p k u)

-- ---- by the node

pub nothing_labelled : {s : List ℕ} {lo hi : ℕ} → tag_at s hi ≡ 57 → NodeAt s lo hi → LabelsUp s lo (hi - cell_words)
nothing_labelled {s} {lo} {hi} z t =
    by_nothing (λ p. NodeHere s lo hi p → LabelsUp s lo (hi - cell_words)) (λ og ls u. record { labels = ls; part = own_part (leaf og (nothing ls)) u {m = lo} (omega arith) })
    t.p (sym (node_tag t.p t.here ∙ tagged t.p) ∙ z) t.here

module _ (new : ℕ) {records columns' s : List ℕ} {lo hi : ℕ} where
  pub nothing_marked : {d : List ℕ} {at n : ℕ} {d' : List ℕ} → tag_at s hi ≡ 57 → Marks new s lo (hi - cell_words) d at n d'
      → WritesLabels new records columns' s lo hi d at n d'
  nothing_marked {d} {at} {n} {d'} z f schema p k u =
      by_nothing (λ p. NodeHere s lo hi p → Wrote d at (all_words label_words (marked new (column_labels schema p))) n d')
      (λ og ls u. subst (λ (l : List Label). Wrote d at (all_words label_words (marked new l)) n d')
      (sym (nothing_labels schema og ls)) (f ls (own_part (leaf og (nothing ls)) u {m = lo} (omega arith))))
      p (sym (node_tag p u ∙ tagged p) ∙ z) u

  -- the labels of its source
  pub source_written : {m : ℕ} → SourceCount s lo hi 1 → OwnStart s lo hi m → (tag_at s hi ≡ 50 → ⊥) → tag_at s hi < 60 → {d : List ℕ} {at n : ℕ} {d' : List ℕ}
      → WritesLabels new records columns' s lo m d at n d' → WritesLabels new records columns' s lo hi d at n d'
  source_written c own y z {d} {at} {n} {d'} f schema p k u =
      by_over (λ p. NodeHere s lo hi p → Wrote d at (all_words label_words (marked new (column_labels schema p))) n d')
      (λ og o q u.
      let e = node_tag (over og o q) u ∙ tagged (over og o q) in
      subst (λ (l : List Label). Wrote d at (all_words label_words (marked new l)) n d') (over_labels schema og o q (λ i. y (e ∙ i)) (omega arith))
      (f schema q k (over_source og o q u (own (over og o q) u))))
      p (sym (c p u)) u

  -- the labels of both sources
  pub sources_written : {m mid : ℕ} → SourceCount s lo hi 2 → OwnStart s lo hi m → mid ≡ start_at s m → {d : List ℕ} {at i n : ℕ} {d₁ d₂ : List ℕ} → length d₁ ≡ length d
      → WritesLabels new records columns' s lo mid d at i d₁ → WritesLabels new records columns' s mid m d₁ i n d₂
      → WritesLabels new records columns' s lo hi d at n d₂
  sources_written c own st {d} {at} {n = n} {d₂ = d₂} e f g schema p k u =
      by_join (λ p. NodeHere s lo hi p → Wrote d at (all_words label_words (marked new (column_labels schema p))) n d₂)
      (λ og outer j a b u.
      let x = own (join og outer j a b) u in
      subst (λ (v : List ℕ). Wrote d at v n d₂)
      (sym (all_append label_words (marked new (column_labels schema a)) (marked new (column_labels schema b)))
      ∙ ap (all_words label_words) (sym (map-append (λ (l : Label). (l, new)) (column_labels schema a) (column_labels schema b)))
      ∙ ap (λ (l : List Label). all_words label_words (marked new l)) (sym (join_labels schema og outer j a b)))
      (then e (f schema a k (join_left og outer j a b u x st)) (g schema b k (join_right og outer j a b u x st))))
      p (sym (c p u)) u

-- the cell of a label in the code
module _ (new : ℕ) {k : Cell} (q : k ≡ plain new 40) (l : CodeLabel) where
  pub cell_none : l ≡ Unlabelled → k ≡ cell new (label_cell (label l))
  unfolding cell
  cell_none e = q ∙ ap (λ (x : CodeLabel). cell new (label_cell (label x))) (sym e)

  pub cell_name : (n : ℕ) → l ≡ Unqualified n → record k { flag = 1; a = n } ≡ cell new (label_cell (label l))
  unfolding cell
  cell_name n e = ap (λ (k : Cell). record k { flag = 1; a = n }) q ∙ ap (λ (x : CodeLabel). cell new (label_cell (label x))) (sym e)

  pub cell_both : (t n : ℕ) → l ≡ Qualified t n → record k { flag = 2; a = t; b = n } ≡ cell new (label_cell (label l))
  unfolding cell
  cell_both t n e = ap (λ (k : Cell). record k { flag = 2; a = t; b = n }) q ∙ ap (λ (x : CodeLabel). cell new (label_cell (label x))) (sym e)

pub label_put : (new : ℕ) (l : CodeLabel) {k : Cell} → k ≡ cell new (label_cell (label l)) → {d : List ℕ} {at n : ℕ} {d' : List ℕ} → Seals d at at k n d'
    → Wrote d at (label_words (label l, new)) n d'
label_put new l {k} e {d} {at} {n} {d'} f = subst (λ (x : Cell). Wrote d at (sized [] x) n d') e (f d [] refl (none_written d at))
