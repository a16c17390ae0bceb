-- IndexLookup goes on into a node's sources, and leaves the node over what they became.
use Prim.Native.Nat.{ℕ, ◌+◌, ◌-◌, ◌≤◌, ◌<◌}
use native.Mathlib.Omega.{arith}
use mathlib.Core.Bool.{Bool, false}
use mathlib.Core.Path.{◌≡◌, refl, sym, ap, ◌∙◌}
use mathlib.Core.List.{List}
use mathlib.Core.Option.{none, some}
use lib.ListN.{length}
use Rattle.sql.specs.Schema.{Schema}
use Rattle.sql.specs.Expression.{origin}
use Rattle.sql.specs.Plan.{scan, lookup, nothing, values, Over, Join, Node, leaf, over, join, over_size, join_size, node_size}
use Rattle.sql.specs.Answer.{Answer, done, ◌>>=◌}
use Rattle.sql.specs.Room.{IndexLookup}
use Rattle.cells.specs.Cells.{cell_words, start_at}
use Rattle.cells.specs.Room.{Copies}
use Rattle.words.specs.Words.{cell, operand_words, root}
use Rattle.words.proofs.Expressions.{shape}
use Rattle.words.proofs.Nodes.{node_long}
use Rattle.words.proofs.Sizes.{sized_long}
use Rattle.nodes.specs.Own.{OwnStart, SourceCount}
use Rattle.stream.specs.Stream.{Streams, Finishes}
use Rattle.stream.proofs.Sources.{one_cell, source_stop, source_go, over_done, left_stop, right_stop, both_go, join_done}
use Rattle.lookup_step.specs.Lookup.{HasFilter}
use Rattle.records.specs.Records.{Records}
use Rattle.lookup_step.proofs.Steps.{leaf_copied}

after_source : ℕ → Schema → ℕ → ℕ → Over → Node → Node → Answer Node
after_source room schema rest og o n q = done (over og o q)

after_sources : ℕ → Schema → ℕ → ℕ → Bool → Join → Node → Node → Node → Node → Answer Node
after_sources room schema rest og outer j l r p q = done (join og outer j p q)

over_shape : (room : ℕ) (schema : Schema) (rest og : ℕ) (o : Over) (n : Node)
    → IndexLookup room schema rest (over og o n) ≡ (IndexLookup room schema (rest + over_size o) n >>= after_source room schema rest og o n)
unfolding IndexLookup after_source
over_shape room schema rest og o n = refl

join_shape : (room : ℕ) (schema : Schema) (rest og : ℕ) (outer : Bool) (j : Join) (l r : Node)
    → IndexLookup room schema rest (join og outer j l r)
    ≡ (IndexLookup room schema (rest + (node_size r + join_size j)) l >>= λ p. IndexLookup room schema (rest + (node_size p + join_size j)) r >>= after_sources room schema rest og outer j l r p)
unfolding IndexLookup after_sources
join_shape room schema rest og outer j l r = refl

module _ (records columns : List ℕ) {x : List ℕ} {lo hi tail g m : ℕ} {y : List ℕ} {at : ℕ} (c : SourceCount x lo hi g) (own : OwnStart x lo hi m) where
  module _ (one : g ≡ 1) {u : ℕ} {y₁ : List ℕ} (a : Streams (Records records columns) IndexLookup x lo m (tail + (hi - m)) y at u y₁) where
    pub one_stop : length y₁ < u → Streams (Records records columns) IndexLookup x lo hi tail y at u y₁
    one_stop z = source_stop c one own IndexLookup IndexLookup after_source over_shape a z

    pub one_go : u ≤ length y₁ → length y₁ ≡ length y → {r : ℕ} {y₂ : List ℕ} → length y₂ ≡ length y₁ → Finishes x m hi y₁ at u r y₂
        → Streams (Records records columns) IndexLookup x lo hi tail y at r y₂
    unfolding after_source
    one_go z k₁ k₂ f =
        source_go c one own IndexLookup IndexLookup after_source over_shape a z
        (λ schema text tables lent room rest og o n h q s. over_done own og o n h k₁ q s k₂ f)

  module _ (two : g ≡ 2) {mid : ℕ} (st : mid ≡ start_at x m) {u : ℕ} {y₁ : List ℕ}
      (a : Streams (Records records columns) IndexLookup x lo mid (tail + (hi - mid)) y at u y₁) where
    pub left_refused : length y₁ < u → Streams (Records records columns) IndexLookup x lo hi tail y at u y₁
    left_refused z = left_stop c two own st IndexLookup a IndexLookup after_sources join_shape z

    module _ (k₁ : length y₁ ≡ length y) (z : u ≤ length y₁) {v : ℕ} {y₂ : List ℕ} (b : Streams (Records records columns) IndexLookup x mid m (tail + (hi - m)) y₁ u v y₂) where
      pub right_refused : length y₂ < v → Streams (Records records columns) IndexLookup x lo hi tail y at v y₂
      right_refused i = right_stop c two own st IndexLookup a IndexLookup after_sources join_shape k₁ z b i

      pub two_go : v ≤ length y₂ → length y₂ ≡ length y₁ → {r : ℕ} {y₃ : List ℕ} → length y₃ ≡ length y₂ → Finishes x m hi y₂ at v r y₃
          → Streams (Records records columns) IndexLookup x lo hi tail y at r y₃
      unfolding after_sources
      two_go i k₂ k₃ f =
          both_go c two own st IndexLookup a IndexLookup after_sources join_shape k₁ z b i
          (λ schema text tables lent room rest og outer j l r h p s q t. join_done own st og outer j l r h k₁ p s k₂ q t k₃ f)

pub no_source : {x : List ℕ} {lo hi g : ℕ} → g ≡ 0 → SourceCount x lo hi g → SourceCount x lo hi 0
no_source e c p u = sym e ∙ c p u

-- ---- a node of one cell

no_filter : {x : List ℕ} {lo hi : ℕ} → hi - lo ≡ cell_words → HasFilter x lo hi false
no_filter e og (scan t al none) u = refl
no_filter e og (scan t al (some q)) u =
    absurd (omega (arith, node_long (leaf og (scan t al (some q))) u, ap length (shape q), sized_long (operand_words q) (cell (origin q) (root q))))
no_filter e og (lookup a t al vs) u = refl
no_filter e og (nothing ls) u = refl
no_filter e og (values rs) u = refl

pub one_cell_copied : {records columns : List ℕ} {x : List ℕ} {lo hi tail : ℕ} {y : List ℕ} {at : ℕ} → hi - lo ≡ cell_words → {r : ℕ} {y' : List ℕ} → length y' ≡ length y
    → Copies x lo hi y at r y' → Streams (Records records columns) IndexLookup x lo hi tail y at r y'
one_cell_copied e k v = leaf_copied (no_filter e) (one_cell e) refl k v
