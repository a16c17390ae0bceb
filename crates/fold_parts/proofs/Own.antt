-- A node's own parts: which are visited, and what folding them leaves.
use Rattle.std.specs.Prelude.{Ok, Err}
use Prim.Native.Nat.{ℕ, ◌+◌, ◌-◌, ◌≤◌}
use native.Mathlib.Omega.{arith}
use mathlib.Core.Bool.{Bool, true, false}
use mathlib.Core.Path.{◌≡◌, refl, sym, ap, ◌∙◌, subst}
use mathlib.Core.List.{List, [], ◌∷◌, map, append-nil}
use mathlib.Core.Option.{Option, none, some}
use lib.ListN.{length}
use Rattle.sql.specs.Expression.{Marked, Expression, size}
use Rattle.sql.specs.Plan.{Label, by_key, by_index, scan, lookup, nothing, values, limit, offset, order, projection, remap, aggregate, filter, other, nested_loop, hash, Node, leaf, over, join, row_size, item_size, key_size}
use Rattle.sql.specs.Answer.{Answer, done, refused, ◌>>=◌}
use Rattle.sql.specs.Optimizer.{fold_expression, fold_each, fold_optional, fold_row, fold_part}
use Rattle.sheet.specs.Content.{Content, item_cell, key_cell, row_cell}
use Rattle.cells.specs.Cells.{cell_words, sized, tag_at, Part}
use Rattle.cells.specs.Room.{Short, Copies}
use Rattle.words.specs.Words.{cell, all_words, expression_words, optional_words, item_words, key_words, row_words, own_words}
use Rattle.words.specs.Place.{NodeHere, NodeAt}
use Rattle.words.proofs.Nodes.{node_tag, own_part, node_in, node_long}
use Rattle.words.proofs.Tags.{tag_of, tagged}
use Rattle.nodes.specs.Own.{OwnStart}
use Rattle.fold_operator.specs.Left.{Appended, Folded}
use Rattle.fold_operator.proofs.Operands.{clash}
use Rattle.fold_operator.proofs.Parts.{appended}
use Rattle.fold_parts.specs.Leaves.{Left, Leaves}
use Rattle.fold_parts.specs.Parts.{alone, under, part_words, part_size, fold_own_part, fold_own_parts, PartsHere, PartsAt, FoldsParts}
use Rattle.fold_parts.specs.Own.{key_part, item_part, row_part, optional_parts, own_parts, visited, Visits, OwnHere, OwnAt, OwnLeft, FoldsOwn}
use Rattle.fold_parts.proofs.Leaves.{answer_as, made_into, made_of, bind_twice, bind_known}
use Rattle.fold_parts.proofs.Each.{words_of_map, each_count, each_made}

-- ---- which are visited

module _ {s : List ℕ} {lo hi t : ℕ} (e : t ≡ tag_at s hi) where
  said : (p : Node) → NodeHere s lo hi p → t ≡ tag_of p
  said p u = e ∙ node_tag p u ∙ tagged p

  -- A tag of none of the others is one of a node that is visited, and the other way round.
  pub visits : (t ≡ 50 → ⊥) → (t ≡ 52 → ⊥) → (t ≡ 53 → ⊥) → (t ≡ 54 → ⊥) → (t ≡ 55 → ⊥) → (t ≡ 57 → ⊥) → (t ≡ 58 → ⊥) → (t ≡ 61 → ⊥) → Visits s lo hi true
  visits aggregates hashes by_an_index by_the_key limits nothings offsets remaps p u = go p (said p u)
    where
      go : (p : Node) → t ≡ tag_of p → true ≡ visited p
      go (leaf og (scan k al q)) i = refl
      go (leaf og (lookup by_key k al vs)) i = absurd (by_the_key i)
      go (leaf og (lookup (by_index a) k al vs)) i = absurd (by_an_index i)
      go (leaf og (nothing ls)) i = absurd (nothings i)
      go (leaf og (values rs)) i = refl
      go (over og (filter x) n) i = refl
      go (over og (other (limit a)) n) i = absurd (limits i)
      go (over og (other (offset a)) n) i = absurd (offsets i)
      go (over og (other (order ks)) n) i = refl
      go (over og (other (projection is)) n) i = refl
      go (over og (other (remap ts)) n) i = absurd (remaps i)
      go (over og (other (aggregate es gs)) n) i = absurd (aggregates i)
      go (join og outer (nested_loop q) l r) i = refl
      go (join og outer (hash a b) l r) i = absurd (hashes i)

  pub visits_not : (t ≡ 51 → ⊥) → (t ≡ 56 → ⊥) → (t ≡ 59 → ⊥) → (t ≡ 60 → ⊥) → (t ≡ 62 → ⊥) → (t ≡ 63 → ⊥) → Visits s lo hi false
  visits_not filters loops orders projections scans rows p u = go p (said p u)
    where
      go : (p : Node) → t ≡ tag_of p → false ≡ visited p
      go (leaf og (scan k al q)) i = absurd (scans i)
      go (leaf og (lookup a k al vs)) i = refl
      go (leaf og (nothing ls)) i = refl
      go (leaf og (values rs)) i = absurd (rows i)
      go (over og (filter x) n) i = absurd (filters i)
      go (over og (other (limit a)) n) i = refl
      go (over og (other (offset a)) n) i = refl
      go (over og (other (order ks)) n) i = absurd (orders i)
      go (over og (other (projection is)) n) i = absurd (projections i)
      go (over og (other (remap ts)) n) i = refl
      go (over og (other (aggregate es gs)) n) i = refl
      go (join og outer (nested_loop q) l r) i = absurd (loops i)
      go (join og outer (hash a b) l r) i = refl

-- ---- Items, Keys and Rows among the parts

single_words : (og : ℕ) (k : Content) (e : Expression) → part_words (under og (e ∷ []) k) ≡ sized (expression_words e) (cell og k)
single_words og k e = ap (λ (w : List ℕ). sized w (cell og k)) (append-nil (expression_words e))

item_parts_words : (is : List (Expression × Label × ℕ)) → all_words part_words (map item_part is) ≡ all_words item_words is
item_parts_words is = words_of_map item_words part_words item_part (λ i. single_words i.2 (item_cell i.1) i.0) is

key_parts_words : (ks : List (Expression × Bool × ℕ)) → all_words part_words (map key_part ks) ≡ all_words key_words ks
key_parts_words ks = words_of_map key_words part_words key_part (λ k. single_words k.2 (key_cell k.1) k.0) ks

row_parts_words : (rs : List (Marked (List Expression))) → all_words part_words (map row_part rs) ≡ all_words row_words rs
row_parts_words rs = words_of_map row_words part_words row_part (λ es. refl) rs

single_folded : {A : Type 0} (k : A → Content) (a : A) (og : ℕ) (c : Answer Expression)
    → ((c >>= λ y. done (y ∷ [])) >>= λ xs. done (under og xs (k a)))
    ≡ ((c >>= λ x. done (x, a, og)) >>= λ (y : Expression × A × ℕ). done (under y.2 (y.0 ∷ []) (k y.1)))
single_folded k a og (done x) = refl
single_folded k a og (refused i p) = refl

fold_items : (is : List (Expression × Label × ℕ)) (first : ℕ) → fold_own_parts first (map item_part is) ≡ (fold_each fold_part item_size first is >>= λ ys. done (map item_part ys))
fold_items is first = each_made fold_part item_size fold_own_part part_size item_part (λ n i. single_folded item_cell i.1 i.2 (fold_expression n i.0)) (λ i. omega arith) is first

fold_keys : (ks : List (Expression × Bool × ℕ)) (first : ℕ) → fold_own_parts first (map key_part ks) ≡ (fold_each fold_part key_size first ks >>= λ ys. done (map key_part ys))
fold_keys ks first = each_made fold_part key_size fold_own_part part_size key_part (λ n k. single_folded key_cell k.1 k.2 (fold_expression n k.0)) (λ k. omega arith) ks first

row_folded : (n : ℕ) (row : Marked (List Expression)) → fold_own_part n (row_part row) ≡ (fold_row n row >>= λ ys. done (row_part ys))
row_folded n row =
    let a = fold_each fold_expression size n row.0 in
    bind_known (λ xs. length xs ≡ length row.0) a (λ xs. done (under row.1 xs (row_cell (length row.0)))) (λ xs. done (row_part (xs, row.1))) (each_count fold_expression size row.0 n)
    (λ xs e. ap (λ (i : ℕ). done (under row.1 xs (row_cell i))) (sym e))
    ∙ sym (bind_twice a (λ xs. done (xs, row.1)) (λ (ys : Marked (List Expression)). done (row_part ys)))

fold_rows : (rs : List (Marked (List Expression))) (first : ℕ) → fold_own_parts first (map row_part rs) ≡ (fold_each fold_row row_size first rs >>= λ ys. done (map row_part ys))
fold_rows rs first = each_made fold_row row_size fold_own_part part_size row_part row_folded (λ es. refl) rs first

one_folded : (c : Answer Expression) → ((c >>= λ x. done (alone x)) >>= λ y. done (y ∷ [])) ≡ (c >>= λ x. done (alone x ∷ []))
one_folded (done x) = refl
one_folded (refused i p) = refl

-- ---- what folding leaves

module _ {d : List ℕ} {at : ℕ} {r : Folded} {d' : List ℕ} where
  one_left : (first : ℕ) (e : Expression) → Leaves (all_words part_words) d at (fold_own_parts first (alone e ∷ [])) r d' → Leaves expression_words d at (fold_expression first e) r d'
  one_left first e h = made_of (fold_expression first e) (λ x. alone x ∷ []) (λ x. append-nil (expression_words x)) (answer_as (one_folded (fold_expression first e)) h)

  optional_left : (first : ℕ) (q : Option Expression) → Leaves (all_words part_words) d at (fold_own_parts first (optional_parts q)) r d' → Leaves optional_words d at (fold_optional first q) r d'
  optional_left first none h = record { left = go r h.left }
    where
      go : (r : Folded) → Left (all_words part_words) d at (done []) r d' → Left optional_words d at (done none) r d'
      go (Ok n) h = h
      go (Err why) h = h
  optional_left first (some e) h = made_into (fold_expression first e) some (λ x. refl) (one_left first e h)

  own_left : (first : ℕ) (p : Node) → visited p ≡ true → Leaves (all_words part_words) d at (fold_own_parts first (own_parts p)) r d' → OwnLeft d at first p r d'
  own_left first (leaf og (scan t al q)) v h = made_into (fold_optional first q) (scan t al) (λ x. refl) (optional_left first q h)
  own_left first (leaf og (lookup a t al vs)) v h = clash v
  own_left first (leaf og (nothing ls)) v h = clash v
  own_left first (leaf og (values rs)) v h =
      made_into (fold_each fold_row row_size first rs) values (λ x. refl) (made_of (fold_each fold_row row_size first rs) (map row_part) row_parts_words (answer_as (fold_rows rs first) h))
  own_left first (over og (filter e) n) v h = made_into (fold_expression first e) filter (λ x. refl) (one_left first e h)
  own_left first (over og (other (limit a)) n) v h = clash v
  own_left first (over og (other (offset a)) n) v h = clash v
  own_left first (over og (other (order ks)) n) v h =
      made_into (fold_each fold_part key_size first ks) (λ ys. other (order ys)) (λ x. refl) (made_of (fold_each fold_part key_size first ks) (map key_part) key_parts_words (answer_as (fold_keys ks first) h))
  own_left first (over og (other (projection is)) n) v h =
      made_into (fold_each fold_part item_size first is) (λ ys. other (projection ys)) (λ x. refl) (made_of (fold_each fold_part item_size first is) (map item_part) item_parts_words (answer_as (fold_items is first) h))
  own_left first (over og (other (remap ts)) n) v h = clash v
  own_left first (over og (other (aggregate es gs)) n) v h = clash v
  own_left first (join og outer (nested_loop q) a b) v h = made_into (fold_optional first q) nested_loop (λ x. refl) (optional_left first q h)
  own_left first (join og outer (hash i j) a b) v h = clash v

optional_words_are : (q : Option Expression) → optional_words q ≡ all_words part_words (optional_parts q)
optional_words_are none = refl
optional_words_are (some e) = sym (append-nil (expression_words e))

own_words_are : (p : Node) → visited p ≡ true → own_words p ≡ all_words part_words (own_parts p)
own_words_are (leaf og (scan t al q)) v = optional_words_are q
own_words_are (leaf og (lookup a t al vs)) v = clash v
own_words_are (leaf og (nothing ls)) v = clash v
own_words_are (leaf og (values rs)) v = sym (row_parts_words rs)
own_words_are (over og (filter e) n) v = sym (append-nil (expression_words e))
own_words_are (over og (other (limit a)) n) v = clash v
own_words_are (over og (other (offset a)) n) v = clash v
own_words_are (over og (other (order ks)) n) v = sym (key_parts_words ks)
own_words_are (over og (other (projection is)) n) v = sym (item_parts_words is)
own_words_are (over og (other (remap ts)) n) v = clash v
own_words_are (over og (other (aggregate es gs)) n) v = clash v
own_words_are (join og outer (nested_loop q) a b) v = optional_words_are q
own_words_are (join og outer (hash i j) a b) v = clash v

-- What isn't visited stays.
own_stays : {d : List ℕ} {at n : ℕ} {d' : List ℕ} (first : ℕ) (p : Node) → visited p ≡ false → Appended d at (own_words p) n d' → OwnLeft d at first p (Ok n) d'
own_stays first (leaf og (scan t al q)) v a = clash (sym v)
own_stays first (leaf og (lookup c t al vs)) v a = record { left = a }
own_stays first (leaf og (nothing ls)) v a = record { left = a }
own_stays first (leaf og (values rs)) v a = clash (sym v)
own_stays first (over og (filter e) n) v a = clash (sym v)
own_stays first (over og (other (limit c)) n) v a = record { left = a }
own_stays first (over og (other (offset c)) n) v a = record { left = a }
own_stays first (over og (other (order ks)) n) v a = clash (sym v)
own_stays first (over og (other (projection is)) n) v a = clash (sym v)
own_stays first (over og (other (remap ts)) n) v a = record { left = a }
own_stays first (over og (other (aggregate es gs)) n) v a = record { left = a }
own_stays first (join og outer (nested_loop q) l r) v a = clash (sym v)
own_stays first (join og outer (hash i j) l r) v a = record { left = a }

-- ---- fold_own

module _ {text s : List ℕ} {lo hi m : ℕ} where
  pub own_node : OwnAt text s lo hi m → NodeAt s lo hi
  own_node t = record { p = t.p; here = t.here.here }

  pub own_in : OwnAt text s lo hi m → (lo ≤ m) × ((m + cell_words ≤ hi) × (hi ≤ length s))
  own_in t =
      let l = node_long t.p t.here.here in
      let e = t.own t.p t.here.here in
      (omega arith, (omega arith, (node_in t.p t.here.here).1))

  module _ (own : OwnStart s lo hi m) where
    parts_here : (p : Node) → visited p ≡ true → OwnHere text s lo hi p → PartsHere text s m (hi - cell_words) (own_parts p)
    parts_here p v u = record { stand = subst (λ (w : List ℕ). Part s m (hi - cell_words) w) (own_words_are p v) (own_part p u.here (own p u.here)); fit = u.fit }

    module _ {k : Bool} (said : Visits s lo hi k) {d : List ℕ} {at : ℕ} {d' : List ℕ} where
      pub own_folded : {r : Folded} → k ≡ true → FoldsParts text s m (hi - cell_words) d at r d' → FoldsOwn text s lo hi d at m r d'
      own_folded e g = record {
        leaves = λ first p n u. let v = sym (said p u.here) ∙ e in own_left first p v (g.leaves first (own_parts p) n (parts_here p v u));
        within = g.within;
      }

      pub own_copied : {n : ℕ} → k ≡ false → OwnAt text s lo hi m → (at + (hi - m) ≤ length d) × Short d → Copies s m (hi - cell_words) d at n d' → FoldsOwn text s lo hi d at m (Ok n) d'
      own_copied {n} e t (room, few) w = record {
        leaves = λ first p i u. own_stays first p (sym (said p u.here) ∙ e) (copied p u.here);
        within = record { ends = let a = copied t.p t.here.here in let p = own_part t.p t.here.here (own t.p t.here.here) in omega (arith, a.ends, p.high) };
      }
        where
          copied : (p : Node) → NodeHere s lo hi p → Appended d at (own_words p) n d'
          copied p u =
              let q = own_part p u (own p u) in
              let (i, (j, z)) = own_in t in
              appended (w (own_words p) q) few (omega (arith, q.high))

  pub own_parts_at : {k : Bool} → Visits s lo hi k → k ≡ true → OwnAt text s lo hi m → PartsAt text s m (hi - cell_words)
  own_parts_at said e t = record {
    ps = own_parts t.p;
    here = parts_here t.own t.p (sym (said t.p t.here.here) ∙ e) t.here;
    first = t.first;
    numbered = t.numbered;
    short = t.short;
  }
