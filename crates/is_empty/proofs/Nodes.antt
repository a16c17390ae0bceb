-- Laws on nodes that can't produce anything.
use Prim.Native.Nat.{ℕ, zero, suc, ◌+◌, ◌-◌, ◌/◌, ◌%◌, ◌≤◌}
use native.Mathlib.Omega.{arith}
use native.Mathlib.Nat.{div-add-mod'}
use mathlib.Core.Bool.{Bool, true, false, ◌||◌}
use mathlib.Core.Path.{◌≡◌, refl, sym, ap, ◌∙◌, subst}
use mathlib.Core.List.{List, [], ◌∷◌}
use mathlib.Core.Option.{Option, none}
use lib.Dec.{eqb}
use lib.ListN.{length, length-append}
use borrow.Author.Tests.{eq-eqb, ne_eqb}
use Rattle.sql.specs.Expression.{Expression}
use Rattle.sql.specs.Plan.{by_key, by_index, Leaf, scan, lookup, nothing, values, limit, offset, order, projection, remap, aggregate, Over, filter, other, Join, nested_loop, hash, Node, leaf, over, join}
use Rattle.sql.specs.Optimizer.{verdict, optional_verdict, is_never, is_nothing, is_empty_join, is_empty}
use Rattle.sheet.specs.Content.{row_cell}
use Rattle.cells.specs.declared.Cell.{Cell}
use Rattle.cells.specs.Cells.{cell_words, cell_at, tag_at, start_at, Part}
use Rattle.words.specs.Words.{cell, all_words, expression_words, optional_words, constant_words, row_words, source_words, join_own}
use Rattle.words.specs.Place.{NodeHere, NodeAt}
use Rattle.words.proofs.Nodes.{node_tag, node_in, node_long, own_part, over_source, join_left, join_right}
use Rattle.words.proofs.Tags.{tag_of, tagged, by_leaf, by_over, by_join, by_scan, by_nothing, by_filter, by_limit}
use Rattle.words.proofs.Sizes.{sized_long, all_single}
use Rattle.nodes.specs.Own.{OwnStart, SourceCount}
use Rattle.nodes.proofs.Widths.{a_here, b_here}
use Rattle.labels.specs.Labels.{ExpressionEnds}
use Rattle.remove_useless.specs.RemoveUseless.{OptionalAt}
use Rattle.remove_useless.proofs.Nodes.{tag_is}
use Rattle.is_empty.specs.IsEmpty.{NeverTrue, OptionalNever, SourceNothing, IsEmpty}

-- a node's tag tells whether it is a Nothing
pub nothing_told : {s : List ℕ} {lo hi t : ℕ} → t ≡ tag_at s hi → (n : Node) → NodeHere s lo hi n → eqb t 57 ≡ is_nothing n
nothing_told {t = t} e n u = go n (e ∙ node_tag n u ∙ tagged n)
  where
    go : (n : Node) → t ≡ tag_of n → eqb t 57 ≡ is_nothing n
    go (leaf og (scan i al q)) h = ap (λ (x : ℕ). eqb x 57) h
    go (leaf og (lookup by_key i al vs)) h = ap (λ (x : ℕ). eqb x 57) h
    go (leaf og (lookup (by_index j) i al vs)) h = ap (λ (x : ℕ). eqb x 57) h
    go (leaf og (nothing ls)) h = ap (λ (x : ℕ). eqb x 57) h
    go (leaf og (values rs)) h = ap (λ (x : ℕ). eqb x 57) h
    go (over og (filter x) m) h = ap (λ (x : ℕ). eqb x 57) h
    go (over og (other (limit x)) m) h = ap (λ (x : ℕ). eqb x 57) h
    go (over og (other (offset x)) m) h = ap (λ (x : ℕ). eqb x 57) h
    go (over og (other (order ks)) m) h = ap (λ (x : ℕ). eqb x 57) h
    go (over og (other (projection is)) m) h = ap (λ (x : ℕ). eqb x 57) h
    go (over og (other (remap ts)) m) h = ap (λ (x : ℕ). eqb x 57) h
    go (over og (other (aggregate es gs)) m) h = ap (λ (x : ℕ). eqb x 57) h
    go (join og outer (nested_loop q) l r) h = ap (λ (x : ℕ). eqb x 57) h
    go (join og outer (hash i j) l r) h = ap (λ (x : ℕ). eqb x 57) h

-- tests of two sides
either_first : (a b : Bool) → true ≡ a → true ≡ (a || b)
either_first a b h = ap (λ (x : Bool). x || b) h

either_second : (a b : Bool) {r : Bool} → false ≡ a → r ≡ b → r ≡ (a || b)
either_second a b h k = k ∙ ap (λ (x : Bool). x || b) h

-- the predicate of a join, which a HashJoin lacks
abbrev predicate_of : Join → Option Expression
predicate_of (nested_loop q) = q
predicate_of (hash i j) = none

own_predicate : (j : Join) → join_own j ≡ optional_words (predicate_of j)
own_predicate (nested_loop q) = refl
own_predicate (hash a b) = refl

empty_predicate : (j : Join) → is_never (optional_verdict (predicate_of j)) ≡ is_empty_join j
empty_predicate (nested_loop q) = refl
empty_predicate (hash a b) = refl

module _ {s : List ℕ} {lo hi : ℕ} where
  -- ---- no source

  pub scan_predicate : tag_at s hi ≡ 62 → NodeAt s lo hi → OptionalAt s lo (hi - cell_words)
  scan_predicate z t =
      by_scan (λ p. NodeHere s lo hi p → OptionalAt s lo (hi - cell_words))
      (λ og i al q u. record { predicate = q; part = own_part (leaf og (scan i al q)) u {m = lo} (omega arith) }) t.p (tag_is t.p t.here z) t.here

  pub scan_empty : tag_at s hi ≡ 62 → (r : Bool) → OptionalNever s lo (hi - cell_words) r → IsEmpty s lo hi r
  scan_empty z r f p u =
      by_scan (λ p. NodeHere s lo hi p → r ≡ is_empty p) (λ og i al q u. f q (own_part (leaf og (scan i al q)) u {m = lo} (omega arith))) p (tag_is p u z) u

  pub nothing_empty : tag_at s hi ≡ 57 → IsEmpty s lo hi false
  nothing_empty z p u = by_nothing (λ p. false ≡ is_empty p) (λ og ls. refl) p (tag_is p u z)

  pub list_empty : SourceCount s lo hi 0 → (tag_at s hi ≡ 62 → ⊥) → (tag_at s hi ≡ 57 → ⊥) → IsEmpty s lo hi (eqb (hi - lo) cell_words)
  list_empty c y z p u = by_leaf (λ p. NodeHere s lo hi p → eqb (hi - lo) cell_words ≡ is_empty p) go p (sym (c p u)) u
    where
      go : (og : ℕ) (l : Leaf) → NodeHere s lo hi (leaf og l) → eqb (hi - lo) cell_words ≡ is_empty (leaf og l)
      go og (scan i al q) u = absurd (y (node_tag (leaf og (scan i al q)) u ∙ tagged (leaf og (scan i al q))))
      go og (lookup x i al []) u = eq-eqb (hi - lo) cell_words (omega (arith, node_long (leaf og (lookup x i al [])) u))
      go og (lookup x i al (v ∷ vs)) u =
          ne_eqb (hi - lo) cell_words (λ h. omega (arith, node_long (leaf og (lookup x i al (v ∷ vs))) u, all_single constant_words (λ v. refl) (v ∷ vs)))
      go og (nothing ls) u = absurd (z (node_tag (leaf og (nothing ls)) u ∙ tagged (leaf og (nothing ls))))
      go og (values []) u = eq-eqb (hi - lo) cell_words (omega (arith, node_long (leaf og (values [])) u))
      go og (values (r ∷ rs)) u =
          ne_eqb (hi - lo) cell_words
          (λ h. omega (arith, node_long (leaf og (values (r ∷ rs))) u, length-append (row_words r) (all_words row_words rs), sized_long (all_words expression_words r.0) (cell r.1 (row_cell (length r.0)))))

  -- ---- one source

  pub source_told : SourceCount s lo hi 1 → {m : ℕ} → OwnStart s lo hi m → {t : ℕ} → t ≡ tag_at s m → SourceNothing s lo hi (eqb t 57)
  source_told c own e og o n u = nothing_told e n (over_source og o n u (own (over og o n) u))

  module _ (z : tag_at s hi ≡ 51) where
    pub filter_ends : NodeAt s lo hi → ExpressionEnds s (hi - cell_words)
    filter_ends t =
        by_filter (λ p. NodeHere s lo hi p → ExpressionEnds s (hi - cell_words))
        (λ og e n u. record { lo = lo + length (source_words (over og (filter e) n)); e = e; part = own_part (over og (filter e) n) u refl }) t.p (tag_is t.p t.here z) t.here

    pub filter_never : NeverTrue s (hi - cell_words) true → IsEmpty s lo hi true
    filter_never f p u =
        by_filter (λ p. NodeHere s lo hi p → true ≡ is_empty p)
        (λ og e n u. either_first (is_never (verdict e)) (is_nothing n) (f (lo + length (source_words (over og (filter e) n))) e (own_part (over og (filter e) n) u refl))) p (tag_is p u z) u

    pub filter_source : NeverTrue s (hi - cell_words) false → (r : Bool) → SourceNothing s lo hi r → IsEmpty s lo hi r
    filter_source f r g p u =
        by_filter (λ p. NodeHere s lo hi p → r ≡ is_empty p)
        (λ og e n u. either_second (is_never (verdict e)) (is_nothing n) (f (lo + length (source_words (over og (filter e) n))) e (own_part (over og (filter e) n) u refl)) (g og (filter e) n u)) p (tag_is p u z) u

  module _ (z : tag_at s hi ≡ 55) {c : Cell} (e : c ≡ cell_at s hi) where
    a_limit : (P : Node → Type 0) → ((og a : ℕ) (n : Node) → c.a ≡ a % 4294967296 → c.b ≡ a / 4294967296 → P (over og (other (limit a)) n)) → (p : Node) → NodeHere s lo hi p → P p
    a_limit P f p u =
        by_limit (λ p. NodeHere s lo hi p → P p) (λ og a n u. f og a n (a_here e (over og (other (limit a)) n) u) (b_here e (over og (other (limit a)) n) u)) p (tag_is p u z) u

    pub limit_empty : c.a ≡ 0 → IsEmpty s lo hi (eqb c.b 0)
    limit_empty h p u = a_limit (λ p. eqb c.b 0 ≡ is_empty p) go p u
      where
        go : (og a : ℕ) (n : Node) → c.a ≡ a % 4294967296 → c.b ≡ a / 4294967296 → eqb c.b 0 ≡ is_empty (over og (other (limit a)) n)
        go og zero n i j = eq-eqb c.b 0 j
        go og (suc a) n i j = ne_eqb c.b 0 (λ k. omega (arith, div-add-mod' (suc a) 4294967296))

    pub limit_more : (c.a ≡ 0 → ⊥) → IsEmpty s lo hi false
    limit_more h p u = a_limit (λ p. false ≡ is_empty p) go p u
      where
        go : (og a : ℕ) (n : Node) → c.a ≡ a % 4294967296 → c.b ≡ a / 4294967296 → false ≡ is_empty (over og (other (limit a)) n)
        go og zero n i j = absurd (h i)
        go og (suc a) n i j = refl

  module _ (c : SourceCount s lo hi 1) where
    an_over : (P : Node → Type 0) → ((og : ℕ) (o : Over) (n : Node) → NodeHere s lo hi (over og o n) → tag_at s hi ≡ tag_of (over og o n) → P (over og o n)) → (p : Node) → NodeHere s lo hi p → P p
    an_over P f p u = by_over (λ p. NodeHere s lo hi p → P p) (λ og o n u. f og o n u (node_tag (over og o n) u ∙ tagged (over og o n))) p (sym (c p u)) u

    pub aggregate_stays : tag_at s hi ≡ 50 → IsEmpty s lo hi false
    aggregate_stays z p u = an_over (λ p. false ≡ is_empty p) go p u
      where
        go : (og : ℕ) (o : Over) (n : Node) → NodeHere s lo hi (over og o n) → tag_at s hi ≡ tag_of (over og o n) → false ≡ is_empty (over og o n)
        go og (filter x) n u h = absurd (omega arith)
        go og (other (limit x)) n u h = absurd (omega arith)
        go og (other (offset x)) n u h = absurd (omega arith)
        go og (other (order ks)) n u h = absurd (omega arith)
        go og (other (projection is)) n u h = absurd (omega arith)
        go og (other (remap ts)) n u h = absurd (omega arith)
        go og (other (aggregate es gs)) n u h = refl

    pub remap_stays : tag_at s hi ≡ 61 → IsEmpty s lo hi false
    remap_stays z p u = an_over (λ p. false ≡ is_empty p) go p u
      where
        go : (og : ℕ) (o : Over) (n : Node) → NodeHere s lo hi (over og o n) → tag_at s hi ≡ tag_of (over og o n) → false ≡ is_empty (over og o n)
        go og (filter x) n u h = absurd (omega arith)
        go og (other (limit x)) n u h = absurd (omega arith)
        go og (other (offset x)) n u h = absurd (omega arith)
        go og (other (order ks)) n u h = absurd (omega arith)
        go og (other (projection is)) n u h = absurd (omega arith)
        go og (other (remap ts)) n u h = refl
        go og (other (aggregate es gs)) n u h = absurd (omega arith)

    pub source_empty : (tag_at s hi ≡ 51 → ⊥) → (tag_at s hi ≡ 55 → ⊥) → (tag_at s hi ≡ 50 → ⊥) → (tag_at s hi ≡ 61 → ⊥) → (r : Bool) → SourceNothing s lo hi r → IsEmpty s lo hi r
    source_empty a b d e r f p u = an_over (λ p. r ≡ is_empty p) go p u
      where
        go : (og : ℕ) (o : Over) (n : Node) → NodeHere s lo hi (over og o n) → tag_at s hi ≡ tag_of (over og o n) → r ≡ is_empty (over og o n)
        go og (filter x) n u h = absurd (a h)
        go og (other (limit x)) n u h = absurd (b h)
        go og (other (offset x)) n u h = f og (other (offset x)) n u
        go og (other (order ks)) n u h = f og (other (order ks)) n u
        go og (other (projection is)) n u h = f og (other (projection is)) n u
        go og (other (remap ts)) n u h = absurd (e h)
        go og (other (aggregate es gs)) n u h = absurd (d h)

  -- ---- two sources

  module _ (c : SourceCount s lo hi 2) {m : ℕ} (own : OwnStart s lo hi m) where
    a_join : (P : Node → Type 0)
        → ((og : ℕ) (outer : Bool) (j : Join) (l r : Node) → NodeHere s lo hi (join og outer j l r) → Part s m (hi - cell_words) (optional_words (predicate_of j)) → P (join og outer j l r))
        → (p : Node) → NodeHere s lo hi p → P p
    a_join P f p u =
        by_join (λ p. NodeHere s lo hi p → P p)
        (λ og outer j l r u. f og outer j l r u
        (subst (λ (w : List ℕ). Part s m (hi - cell_words) w) (own_predicate j) (own_part (join og outer j l r) u (own (join og outer j l r) u)))) p (sym (c p u)) u

    pub join_predicate : NodeAt s lo hi → OptionalAt s m (hi - cell_words)
    join_predicate t = a_join (λ p. OptionalAt s m (hi - cell_words)) (λ og outer j l r u q. record { predicate = predicate_of j; part = q }) t.p t.here

    pub join_never : OptionalNever s m (hi - cell_words) true → IsEmpty s lo hi true
    join_never f p u =
        a_join (λ p. true ≡ is_empty p) (λ og outer j l r u q. either_first (is_empty_join j) (is_nothing l || is_nothing r) (f (predicate_of j) q ∙ empty_predicate j)) p u

    module _ (f : OptionalNever s m (hi - cell_words) false) {mid : ℕ} (st : mid ≡ start_at s m) {t : ℕ} (e : t ≡ tag_at s mid) where
      left_told : (og : ℕ) (outer : Bool) (j : Join) (l r : Node) → NodeHere s lo hi (join og outer j l r) → eqb t 57 ≡ is_nothing l
      left_told og outer j l r u = nothing_told e l (join_left og outer j l r u (own (join og outer j l r) u) st)

      pub join_left_empty : t ≡ 57 → IsEmpty s lo hi true
      join_left_empty h p u =
          a_join (λ p. true ≡ is_empty p)
          (λ og outer j l r u q. either_second (is_empty_join j) (is_nothing l || is_nothing r) (f (predicate_of j) q ∙ empty_predicate j) (either_first (is_nothing l) (is_nothing r) (sym (eq-eqb t 57 h) ∙ left_told og outer j l r u))) p u

      pub join_right_empty : (t ≡ 57 → ⊥) → {v : ℕ} → v ≡ tag_at s m → IsEmpty s lo hi (eqb v 57)
      join_right_empty h {v} g p u =
          a_join (λ p. eqb v 57 ≡ is_empty p)
          (λ og outer j l r u q. either_second (is_empty_join j) (is_nothing l || is_nothing r) (f (predicate_of j) q ∙ empty_predicate j)
          (either_second (is_nothing l) (is_nothing r) (sym (ne_eqb t 57 h) ∙ left_told og outer j l r u) (nothing_told g r (join_right og outer j l r u (own (join og outer j l r) u) st)))) p u

-- ---- where the sources end

pub source_end : {s : List ℕ} {lo hi m : ℕ} → SourceCount s lo hi 1 → OwnStart s lo hi m → NodeAt s lo hi → (cell_words ≤ m) × (m ≤ length s)
source_end {s} {lo} {hi} {m} c own t =
    by_over (λ p. NodeHere s lo hi p → (cell_words ≤ m) × (m ≤ length s))
    (λ og o n u. let (a, b) = node_in n (over_source og o n u (own (over og o n) u)) in (omega arith, b)) t.p (sym (c t.p t.here)) t.here

pub source_ends : {s : List ℕ} {lo hi m mid : ℕ} → SourceCount s lo hi 2 → OwnStart s lo hi m → mid ≡ start_at s m → NodeAt s lo hi
    → ((cell_words ≤ mid) × (mid ≤ length s)) × ((cell_words ≤ m) × (m ≤ length s))
source_ends {s} {lo} {hi} {m} {mid} c own st t =
    by_join (λ p. NodeHere s lo hi p → ((cell_words ≤ mid) × (mid ≤ length s)) × ((cell_words ≤ m) × (m ≤ length s)))
    (λ og outer j l r u.
    let (a, b) = node_in l (join_left og outer j l r u (own (join og outer j l r) u) st) in
    let (d, e) = node_in r (join_right og outer j l r u (own (join og outer j l r) u) st) in
    ((omega arith, b), (omega arith, e))) t.p (sym (c t.p t.here)) t.here
