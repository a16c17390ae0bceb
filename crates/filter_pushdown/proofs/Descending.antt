-- Laws on push_filters_from through a chain (crate chain): its nodes stay as they are.
use Prim.Native.Nat.{ℕ, zero, suc, ◌+◌, ◌-◌, ◌≤◌, ◌<◌}
use native.Mathlib.Omega.{arith}
use mathlib.Core.Path.{◌≡◌, refl, ap, ◌∙◌}
use mathlib.Core.List.{List, [], ◌∷◌}
use lib.ListN.{length}
use borrow.Author.Tests.{le-leb}
use Rattle.sql.specs.Schema.{Schema}
use Rattle.sql.specs.Expression.{Marked}
use Rattle.sql.specs.Plan.{Other, other, Node, over, over_size, node_size}
use Rattle.sql.specs.Answer.{Answer, done, refused, ◌>>=◌}
use Rattle.sql.specs.Room.{if_room, maybe_push_join, maybe_push_filter, each_source, push_filters_from}
use Rattle.sql.specs.Optimizer
use Rattle.chain.specs.Chain.{chain, sizes, GoesDown}
use Rattle.chain.specs.Resized.{Reseals}
use Rattle.chain.proofs.Chains.{chain_size}
use Rattle.chain.proofs.Edits.{Descends, end_inside, below_held, chain_same, chain_stop, chain_fits, chain_go, go_as_long}
use Rattle.kept.specs.Kept.{kept}
use Rattle.kept.specs.Pass.{PassAt, Passes}
use Rattle.push_filters.proofs.Pushing.{pass_at, pass_also, bind_assoc}

bind_done : (a : Answer Node) → a ≡ a >>= (λ q. done q)
bind_done (done q) = refl
bind_done (refused number place) = refl

module _ (room : ℕ) (schema : Schema) where
  other_rule : (n rest og : ℕ) (o : Other) (p : Node) → rest + node_size (over og (other o) p) ≤ room
      → push_filters_from room schema (suc n) rest (over og (other o) p)
      ≡ push_filters_from room schema n (rest + over_size (other o)) p >>= (λ q. done (over og (other o) q))
  unfolding push_filters_from maybe_push_filter maybe_push_join Optimizer.maybe_push_join
  other_rule n rest og o p h =
      ap (λ b. if_room b (over og (other o) p) >>= each_source room schema (push_filters_from room schema n) rest)
      (le-leb (rest + node_size (over og (other o) p)) room h)

  from_chain : (n left rest : ℕ) (os : List (Marked Other)) (p : Node) → n ≡ left + length os → rest + node_size (chain os p) ≤ room
      → push_filters_from room schema n rest (chain os p) ≡ push_filters_from room schema left (rest + sizes os) p >>= (λ q. done (chain os q))
  from_chain n left rest [] p e h =
      let i : n ≡ left = omega arith in
      let j : rest ≡ rest + 0 = omega arith in
      ap (λ (m : ℕ). push_filters_from room schema m rest p) i
      ∙ ap (λ (m : ℕ). push_filters_from room schema left m p) j
      ∙ bind_done (push_filters_from room schema left (rest + 0) p)
  from_chain n left rest ((o, og) ∷ os) p e h =
      let i : n ≡ suc left + length os = omega arith in
      let j : rest + sizes os + over_size (other o) ≡ rest + (sizes os + over_size (other o)) = omega arith in
      from_chain n (suc left) rest os (over og (other o) p) i h
      ∙ ap (λ (a : Answer Node). a >>= (λ q. done (chain os q))) (other_rule left (rest + sizes os) og o p (omega (arith, chain_size os (over og (other o) p))))
      ∙ bind_assoc (push_filters_from room schema left (rest + sizes os + over_size (other o)) p) (λ q. done (over og (other o) q)) (λ q. done (chain os q))
      ∙ ap (λ (m : ℕ). push_filters_from room schema left m p >>= (λ q. done (chain os (over og (other o) q)))) j

abbrev From : ℕ → Schema → ℕ → ℕ → Node → Answer Node
From n schema room = push_filters_from room schema n

descends : (schema : Schema) (n left : ℕ) → Descends (From n schema) (From left schema) n left
descends schema n left room rest os p = from_chain room schema n left rest os p

from_none : (schema : Schema) (left : ℕ) → left ≡ 0 → (room rest : ℕ) (p : Node) → From left schema room rest p ≡ done p
unfolding push_filters_from
from_none schema zero z room rest p = refl
from_none schema (suc left) z room rest p = absurd (omega arith)

module _ {records x : List ℕ} {t lo tail left end : ℕ} (n : ℕ) (d : GoesDown x n lo (t - tail) left end) where
  pub chain_zero : left ≡ 0 → Passes (λ room schema. push_filters_from room schema n) records x t lo tail t x
  chain_zero z schema text tables given =
      chain_same (kept schema text tables) d (From n schema) (From left schema) (descends schema n left) (from_none schema left z)

  pub chain_count : PassAt records x t lo tail → left ≤ n
  chain_count g = omega (arith, (d (pass_at g).p (pass_at g).here).count)

  pub chain_end : PassAt records x t lo tail → end ≤ t
  chain_end g = end_inside (kept g.schema g.text g.tables) d g.held

  pub chain_next : PassAt records x t lo tail → PassAt records x t lo (t - end)
  chain_next g = pass_also g refl (below_held (kept g.schema g.text g.tables) d g.held)

  module _ {r : ℕ} {x₁ : List ℕ} (a : Passes (λ room schema. push_filters_from room schema left) records x t lo (t - end) r x₁) where
    pub chain_full : length x₁ < r → Passes (λ room schema. push_filters_from room schema n) records x t lo tail r x₁
    chain_full z schema text tables given =
        chain_stop (kept schema text tables) d (From n schema) (From left schema) (descends schema n left) (a schema text tables given) z

    pub chain_inside : r ≤ length x₁ → PassAt records x t lo tail → (t - end ≤ r) × ((lo ≤ r - (t - end)) × (r - (t - end) + tail ≤ r))
    chain_inside z g =
        chain_fits (kept g.schema g.text g.tables) d (From n g.schema) (From left g.schema) (descends g.schema n left)
        (a g.schema g.text g.tables g.given) z g.held

    pub chain_done : r ≤ length x₁ → {v : ℕ} {x₂ : List ℕ} → length x₂ ≡ length x₁ → Reseals x₁ r lo (r - (t - end)) tail v x₂
        → Passes (λ room schema. push_filters_from room schema n) records x t lo tail v x₂
    chain_done z j seal schema text tables given =
        chain_go (kept schema text tables) d (From n schema) (From left schema) (descends schema n left) (a schema text tables given) z j seal

    pub chain_as_long : r ≤ length x₁ → r ≡ t → Passes (λ room schema. push_filters_from room schema n) records x t lo tail r x₁
    chain_as_long z e schema text tables given =
        go_as_long (kept schema text tables) d (From n schema) (From left schema) (descends schema n left) (a schema text tables given) z e
