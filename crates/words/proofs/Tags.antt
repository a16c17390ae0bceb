-- Which node a tag tells of: by the number of its sources, and by the tag itself.
use Prim.Native.Nat.{ℕ, ◌-◌, ◌≤◌, ◌<◌}
use native.Mathlib.Omega.{arith}
use mathlib.Core.Bool.{Bool}
use mathlib.Core.Path.{◌≡◌, refl, sym, ap, ◌∙◌}
use mathlib.Core.List.{List, [], ◌∷◌}
use mathlib.Core.Option.{Option, none, some}
use lib.ListN.{get_or}
use Rattle.value.specs.Value.{Value}
use Rattle.sql.specs.Expression.{Expression}
use Rattle.sql.specs.Plan.{Label, by_key, by_index, Leaf, scan, lookup, nothing, values, limit, offset, order, projection, remap, aggregate, Over, filter, other, Join, nested_loop, hash, Node, leaf, over, join}
use Rattle.words.specs.Words.{leaf_cell, over_cell, join_cell, node_cell, source_count}
use Rattle.words.proofs.Expressions.{tag}

-- the tag of a node's cell
abbrev pub leaf_tag : Leaf → ℕ
leaf_tag (scan t al q) = 62
leaf_tag (lookup by_key t al vs) = 54
leaf_tag (lookup (by_index i) t al vs) = 53
leaf_tag (nothing ls) = 57
leaf_tag (values rs) = 63

abbrev pub over_tag : Over → ℕ
over_tag (filter e) = 51
over_tag (other (limit n)) = 55
over_tag (other (offset n)) = 58
over_tag (other (order ks)) = 59
over_tag (other (projection is)) = 60
over_tag (other (remap ts)) = 61
over_tag (other (aggregate es gs)) = 50

abbrev pub join_tag : Join → ℕ
join_tag (nested_loop q) = 56
join_tag (hash i j) = 52

abbrev pub tag_of : Node → ℕ
tag_of (leaf og l) = leaf_tag l
tag_of (over og o n) = over_tag o
tag_of (join og outer j l r) = join_tag j

leaf_tagged : (l : Leaf) → tag (leaf_cell l) ≡ leaf_tag l
leaf_tagged (scan t none q) = refl
leaf_tagged (scan t (some r) q) = refl
leaf_tagged (lookup by_key t none vs) = refl
leaf_tagged (lookup by_key t (some r) vs) = refl
leaf_tagged (lookup (by_index i) t none vs) = refl
leaf_tagged (lookup (by_index i) t (some r) vs) = refl
leaf_tagged (nothing ls) = refl
leaf_tagged (values rs) = refl

over_tagged : (o : Over) → tag (over_cell o) ≡ over_tag o
over_tagged (filter e) = refl
over_tagged (other (limit n)) = refl
over_tagged (other (offset n)) = refl
over_tagged (other (order ks)) = refl
over_tagged (other (projection is)) = refl
over_tagged (other (remap ts)) = refl
over_tagged (other (aggregate es gs)) = refl

join_tagged : (outer : Bool) (j : Join) → tag (join_cell outer j) ≡ join_tag j
join_tagged outer (nested_loop q) = refl
join_tagged outer (hash i j) = refl

pub tagged : (p : Node) → tag (node_cell p) ≡ tag_of p
tagged (leaf og l) = leaf_tagged l
tagged (over og o n) = over_tagged o
tagged (join og outer j l r) = join_tagged outer j

-- the tags of nodes
pub tag_known : (p : Node) → (50 ≤ tag_of p) × (tag_of p < 64)
tag_known (leaf og (scan t al q)) = (omega arith, omega arith)
tag_known (leaf og (lookup by_key t al vs)) = (omega arith, omega arith)
tag_known (leaf og (lookup (by_index i) t al vs)) = (omega arith, omega arith)
tag_known (leaf og (nothing ls)) = (omega arith, omega arith)
tag_known (leaf og (values rs)) = (omega arith, omega arith)
tag_known (over og (filter e) n) = (omega arith, omega arith)
tag_known (over og (other (limit a)) n) = (omega arith, omega arith)
tag_known (over og (other (offset a)) n) = (omega arith, omega arith)
tag_known (over og (other (order ks)) n) = (omega arith, omega arith)
tag_known (over og (other (projection is)) n) = (omega arith, omega arith)
tag_known (over og (other (remap ts)) n) = (omega arith, omega arith)
tag_known (over og (other (aggregate es gs)) n) = (omega arith, omega arith)
tag_known (join og outer (nested_loop q) l r) = (omega arith, omega arith)
tag_known (join og outer (hash i j) l r) = (omega arith, omega arith)

-- how many sources the tags from 50 tell of
abbrev sources_told : List ℕ
sources_told = 1 ∷ 1 ∷ 2 ∷ 0 ∷ 0 ∷ 1 ∷ 2 ∷ 0 ∷ 1 ∷ 1 ∷ 1 ∷ 1 ∷ 0 ∷ 0 ∷ []

abbrev pub told : ℕ → ℕ
told t = get_or sources_told (t - 50) 0

leaf_told : (l : Leaf) → told (leaf_tag l) ≡ 0
leaf_told (scan t al q) = refl
leaf_told (lookup by_key t al vs) = refl
leaf_told (lookup (by_index i) t al vs) = refl
leaf_told (nothing ls) = refl
leaf_told (values rs) = refl

over_told : (o : Over) → told (over_tag o) ≡ 1
over_told (filter e) = refl
over_told (other (limit n)) = refl
over_told (other (offset n)) = refl
over_told (other (order ks)) = refl
over_told (other (projection is)) = refl
over_told (other (remap ts)) = refl
over_told (other (aggregate es gs)) = refl

join_told : (j : Join) → told (join_tag j) ≡ 2
join_told (nested_loop q) = refl
join_told (hash i j) = refl

-- A node's tag tells how many sources it has.
pub sources_by_tag : (p : Node) → source_count p ≡ told (tag_of p)
sources_by_tag (leaf og l) = sym (leaf_told l)
sources_by_tag (over og o n) = sym (over_told o)
sources_by_tag (join og outer j l r) = sym (join_told j)

-- ---- by the number of sources

module _ (P : Node → Type 0) where
  pub by_leaf : ((og : ℕ) (l : Leaf) → P (leaf og l)) → (p : Node) → source_count p ≡ 0 → P p
  by_leaf f (leaf og l) h = f og l
  by_leaf f (over og o n) h = absurd (omega arith)
  by_leaf f (join og outer j l r) h = absurd (omega arith)

  pub by_over : ((og : ℕ) (o : Over) (n : Node) → P (over og o n)) → (p : Node) → source_count p ≡ 1 → P p
  by_over f (leaf og l) h = absurd (omega arith)
  by_over f (over og o n) h = f og o n
  by_over f (join og outer j l r) h = absurd (omega arith)

  pub by_join : ((og : ℕ) (outer : Bool) (j : Join) (l r : Node) → P (join og outer j l r)) → (p : Node) → source_count p ≡ 2 → P p
  by_join f (leaf og l) h = absurd (omega arith)
  by_join f (over og o n) h = absurd (omega arith)
  by_join f (join og outer j l r) h = f og outer j l r

-- ---- by the tag

module _ (P : Leaf → Type 0) where
  pub leaf_scan : ((t : ℕ) (al : Option ℕ) (q : Option Expression) → P (scan t al q)) → (x : Leaf) → leaf_tag x ≡ 62 → P x
  leaf_scan f (scan t al q) h = f t al q
  leaf_scan f (lookup by_key t al vs) h = absurd (omega arith)
  leaf_scan f (lookup (by_index i) t al vs) h = absurd (omega arith)
  leaf_scan f (nothing ls) h = absurd (omega arith)
  leaf_scan f (values rs) h = absurd (omega arith)

  pub leaf_key_lookup : ((t : ℕ) (al : Option ℕ) (vs : List (Value × ℕ)) → P (lookup by_key t al vs)) → (x : Leaf) → leaf_tag x ≡ 54 → P x
  leaf_key_lookup f (scan t al q) h = absurd (omega arith)
  leaf_key_lookup f (lookup by_key t al vs) h = f t al vs
  leaf_key_lookup f (lookup (by_index i) t al vs) h = absurd (omega arith)
  leaf_key_lookup f (nothing ls) h = absurd (omega arith)
  leaf_key_lookup f (values rs) h = absurd (omega arith)

  pub leaf_index_lookup : ((i t : ℕ) (al : Option ℕ) (vs : List (Value × ℕ)) → P (lookup (by_index i) t al vs)) → (x : Leaf) → leaf_tag x ≡ 53 → P x
  leaf_index_lookup f (scan t al q) h = absurd (omega arith)
  leaf_index_lookup f (lookup by_key t al vs) h = absurd (omega arith)
  leaf_index_lookup f (lookup (by_index i) t al vs) h = f i t al vs
  leaf_index_lookup f (nothing ls) h = absurd (omega arith)
  leaf_index_lookup f (values rs) h = absurd (omega arith)

  pub leaf_nothing : ((ls : List (Label × ℕ)) → P (nothing ls)) → (x : Leaf) → leaf_tag x ≡ 57 → P x
  leaf_nothing f (scan t al q) h = absurd (omega arith)
  leaf_nothing f (lookup by_key t al vs) h = absurd (omega arith)
  leaf_nothing f (lookup (by_index i) t al vs) h = absurd (omega arith)
  leaf_nothing f (nothing ls) h = f ls
  leaf_nothing f (values rs) h = absurd (omega arith)

  pub leaf_values : ((rs : List (List Expression × ℕ)) → P (values rs)) → (x : Leaf) → leaf_tag x ≡ 63 → P x
  leaf_values f (scan t al q) h = absurd (omega arith)
  leaf_values f (lookup by_key t al vs) h = absurd (omega arith)
  leaf_values f (lookup (by_index i) t al vs) h = absurd (omega arith)
  leaf_values f (nothing ls) h = absurd (omega arith)
  leaf_values f (values rs) h = f rs

module _ (P : Over → Type 0) where
  pub over_filter : ((e : Expression) → P (filter e)) → (x : Over) → over_tag x ≡ 51 → P x
  over_filter f (filter e) h = f e
  over_filter f (other (limit n)) h = absurd (omega arith)
  over_filter f (other (offset n)) h = absurd (omega arith)
  over_filter f (other (order ks)) h = absurd (omega arith)
  over_filter f (other (projection is)) h = absurd (omega arith)
  over_filter f (other (remap ts)) h = absurd (omega arith)
  over_filter f (other (aggregate es gs)) h = absurd (omega arith)

  pub over_limit : ((n : ℕ) → P (other (limit n))) → (x : Over) → over_tag x ≡ 55 → P x
  over_limit f (filter e) h = absurd (omega arith)
  over_limit f (other (limit n)) h = f n
  over_limit f (other (offset n)) h = absurd (omega arith)
  over_limit f (other (order ks)) h = absurd (omega arith)
  over_limit f (other (projection is)) h = absurd (omega arith)
  over_limit f (other (remap ts)) h = absurd (omega arith)
  over_limit f (other (aggregate es gs)) h = absurd (omega arith)

  pub over_offset : ((n : ℕ) → P (other (offset n))) → (x : Over) → over_tag x ≡ 58 → P x
  over_offset f (filter e) h = absurd (omega arith)
  over_offset f (other (limit n)) h = absurd (omega arith)
  over_offset f (other (offset n)) h = f n
  over_offset f (other (order ks)) h = absurd (omega arith)
  over_offset f (other (projection is)) h = absurd (omega arith)
  over_offset f (other (remap ts)) h = absurd (omega arith)
  over_offset f (other (aggregate es gs)) h = absurd (omega arith)

  pub over_order : ((ks : List (Expression × Bool × ℕ)) → P (other (order ks))) → (x : Over) → over_tag x ≡ 59 → P x
  over_order f (filter e) h = absurd (omega arith)
  over_order f (other (limit n)) h = absurd (omega arith)
  over_order f (other (offset n)) h = absurd (omega arith)
  over_order f (other (order ks)) h = f ks
  over_order f (other (projection is)) h = absurd (omega arith)
  over_order f (other (remap ts)) h = absurd (omega arith)
  over_order f (other (aggregate es gs)) h = absurd (omega arith)

  pub over_projection : ((is : List (Expression × Label × ℕ)) → P (other (projection is))) → (x : Over) → over_tag x ≡ 60 → P x
  over_projection f (filter e) h = absurd (omega arith)
  over_projection f (other (limit n)) h = absurd (omega arith)
  over_projection f (other (offset n)) h = absurd (omega arith)
  over_projection f (other (order ks)) h = absurd (omega arith)
  over_projection f (other (projection is)) h = f is
  over_projection f (other (remap ts)) h = absurd (omega arith)
  over_projection f (other (aggregate es gs)) h = absurd (omega arith)

  pub over_remap : ((ts : List (Option ℕ × ℕ)) → P (other (remap ts))) → (x : Over) → over_tag x ≡ 61 → P x
  over_remap f (filter e) h = absurd (omega arith)
  over_remap f (other (limit n)) h = absurd (omega arith)
  over_remap f (other (offset n)) h = absurd (omega arith)
  over_remap f (other (order ks)) h = absurd (omega arith)
  over_remap f (other (projection is)) h = absurd (omega arith)
  over_remap f (other (remap ts)) h = f ts
  over_remap f (other (aggregate es gs)) h = absurd (omega arith)

  pub over_aggregate : ((es : List Expression) (gs : List (ℕ × Expression × ℕ)) → P (other (aggregate es gs))) → (x : Over) → over_tag x ≡ 50 → P x
  over_aggregate f (filter e) h = absurd (omega arith)
  over_aggregate f (other (limit n)) h = absurd (omega arith)
  over_aggregate f (other (offset n)) h = absurd (omega arith)
  over_aggregate f (other (order ks)) h = absurd (omega arith)
  over_aggregate f (other (projection is)) h = absurd (omega arith)
  over_aggregate f (other (remap ts)) h = absurd (omega arith)
  over_aggregate f (other (aggregate es gs)) h = f es gs

module _ (P : Join → Type 0) where
  pub join_nested_loop : ((q : Option Expression) → P (nested_loop q)) → (x : Join) → join_tag x ≡ 56 → P x
  join_nested_loop f (nested_loop q) h = f q
  join_nested_loop f (hash i j) h = absurd (omega arith)

  pub join_hash : ((i j : ℕ) → P (hash i j)) → (x : Join) → join_tag x ≡ 52 → P x
  join_hash f (nested_loop q) h = absurd (omega arith)
  join_hash f (hash i j) h = f i j

-- A node by its tag.
module _ (P : Node → Type 0) where
  pub by_scan : ((og : ℕ) (t : ℕ) (al : Option ℕ) (q : Option Expression) → P (leaf og (scan t al q))) → (p : Node) → tag_of p ≡ 62 → P p
  by_scan f p h = by_leaf (λ p. tag_of p ≡ 62 → P p) (λ og l. leaf_scan (λ l. P (leaf og l)) (f og) l) p (sources_by_tag p ∙ ap told h) h

  pub by_key_lookup : ((og : ℕ) (t : ℕ) (al : Option ℕ) (vs : List (Value × ℕ)) → P (leaf og (lookup by_key t al vs))) → (p : Node) → tag_of p ≡ 54 → P p
  by_key_lookup f p h = by_leaf (λ p. tag_of p ≡ 54 → P p) (λ og l. leaf_key_lookup (λ l. P (leaf og l)) (f og) l) p (sources_by_tag p ∙ ap told h) h

  pub by_index_lookup : ((og : ℕ) (i t : ℕ) (al : Option ℕ) (vs : List (Value × ℕ)) → P (leaf og (lookup (by_index i) t al vs))) → (p : Node) → tag_of p ≡ 53 → P p
  by_index_lookup f p h = by_leaf (λ p. tag_of p ≡ 53 → P p) (λ og l. leaf_index_lookup (λ l. P (leaf og l)) (f og) l) p (sources_by_tag p ∙ ap told h) h

  pub by_nothing : ((og : ℕ) (ls : List (Label × ℕ)) → P (leaf og (nothing ls))) → (p : Node) → tag_of p ≡ 57 → P p
  by_nothing f p h = by_leaf (λ p. tag_of p ≡ 57 → P p) (λ og l. leaf_nothing (λ l. P (leaf og l)) (f og) l) p (sources_by_tag p ∙ ap told h) h

  pub by_values : ((og : ℕ) (rs : List (List Expression × ℕ)) → P (leaf og (values rs))) → (p : Node) → tag_of p ≡ 63 → P p
  by_values f p h = by_leaf (λ p. tag_of p ≡ 63 → P p) (λ og l. leaf_values (λ l. P (leaf og l)) (f og) l) p (sources_by_tag p ∙ ap told h) h

  pub by_filter : ((og : ℕ) (e : Expression) (n : Node) → P (over og (filter e) n)) → (p : Node) → tag_of p ≡ 51 → P p
  by_filter f p h = by_over (λ p. tag_of p ≡ 51 → P p) (λ og o n. over_filter (λ o. P (over og o n)) (λ e. f og e n) o) p (sources_by_tag p ∙ ap told h) h

  pub by_limit : ((og : ℕ) (amount : ℕ) (n : Node) → P (over og (other (limit amount)) n)) → (p : Node) → tag_of p ≡ 55 → P p
  by_limit f p h = by_over (λ p. tag_of p ≡ 55 → P p) (λ og o n. over_limit (λ o. P (over og o n)) (λ amount. f og amount n) o) p (sources_by_tag p ∙ ap told h) h

  pub by_offset : ((og : ℕ) (amount : ℕ) (n : Node) → P (over og (other (offset amount)) n)) → (p : Node) → tag_of p ≡ 58 → P p
  by_offset f p h = by_over (λ p. tag_of p ≡ 58 → P p) (λ og o n. over_offset (λ o. P (over og o n)) (λ amount. f og amount n) o) p (sources_by_tag p ∙ ap told h) h

  pub by_order : ((og : ℕ) (ks : List (Expression × Bool × ℕ)) (n : Node) → P (over og (other (order ks)) n)) → (p : Node) → tag_of p ≡ 59 → P p
  by_order f p h = by_over (λ p. tag_of p ≡ 59 → P p) (λ og o n. over_order (λ o. P (over og o n)) (λ ks. f og ks n) o) p (sources_by_tag p ∙ ap told h) h

  pub by_projection : ((og : ℕ) (is : List (Expression × Label × ℕ)) (n : Node) → P (over og (other (projection is)) n)) → (p : Node) → tag_of p ≡ 60 → P p
  by_projection f p h = by_over (λ p. tag_of p ≡ 60 → P p) (λ og o n. over_projection (λ o. P (over og o n)) (λ is. f og is n) o) p (sources_by_tag p ∙ ap told h) h

  pub by_remap : ((og : ℕ) (ts : List (Option ℕ × ℕ)) (n : Node) → P (over og (other (remap ts)) n)) → (p : Node) → tag_of p ≡ 61 → P p
  by_remap f p h = by_over (λ p. tag_of p ≡ 61 → P p) (λ og o n. over_remap (λ o. P (over og o n)) (λ ts. f og ts n) o) p (sources_by_tag p ∙ ap told h) h

  pub by_aggregate : ((og : ℕ) (es : List Expression) (gs : List (ℕ × Expression × ℕ)) (n : Node) → P (over og (other (aggregate es gs)) n)) → (p : Node) → tag_of p ≡ 50 → P p
  by_aggregate f p h = by_over (λ p. tag_of p ≡ 50 → P p) (λ og o n. over_aggregate (λ o. P (over og o n)) (λ es gs. f og es gs n) o) p (sources_by_tag p ∙ ap told h) h

  pub by_nested_loop : ((og : ℕ) (outer : Bool) (q : Option Expression) (l r : Node) → P (join og outer (nested_loop q) l r)) → (p : Node) → tag_of p ≡ 56 → P p
  by_nested_loop f p h = by_join (λ p. tag_of p ≡ 56 → P p) (λ og outer k l r. join_nested_loop (λ k. P (join og outer k l r)) (λ q. f og outer q l r) k) p (sources_by_tag p ∙ ap told h) h

  pub by_hash : ((og : ℕ) (outer : Bool) (i j : ℕ) (l r : Node) → P (join og outer (hash i j) l r)) → (p : Node) → tag_of p ≡ 52 → P p
  by_hash f p h = by_join (λ p. tag_of p ≡ 52 → P p) (λ og outer k l r. join_hash (λ k. P (join og outer k l r)) (λ i j. f og outer i j l r) k) p (sources_by_tag p ∙ ap told h) h
