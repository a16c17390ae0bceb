-- Laws on push_filters_from in place, and on the whole pass.
use Prim.Native.Nat.{ℕ, zero, suc, ◌+◌, ◌-◌, ◌/◌, ◌≤◌, ◌<◌}
use native.Mathlib.Omega.{arith}
use mathlib.Core.Path.{◌≡◌, refl, ap}
use mathlib.Core.List.{List}
use lib.ListN.{length}
use borrow.Author.Tests.{le-leb}
use Rattle.cells.specs.Cells.{cell_words}
use Rattle.sql.specs.Schema.{Schema}
use Rattle.sql.specs.Plan.{Leaf, Node, leaf, over, join, node_size}
use Rattle.sql.specs.Answer.{Answer, done, ◌>>=◌}
use Rattle.sql.specs.Room.{if_room, maybe_push_join, maybe_push_filter, push_filters, each_source, push_filters_from, FilterPushdown}
use Rattle.sql.specs.Optimizer
use Rattle.literal.specs.Nodes.{nodes_positive, nodes_cells}
use Rattle.words.proofs.Sizes.{words_long}
use Rattle.edit.specs.Edit.{Holds, Shares}
use Rattle.edit.proofs.Edits.{total, total_cells, edit_same}
use Rattle.kept.specs.Kept.{kept}
use Rattle.kept.specs.Pass.{Passes}
use Rattle.push_filters.proofs.Pushing.{passes_stop, passes_go, passes_as}

-- ---- push_filters_from
abbrev sources_from : ℕ → ℕ → Schema → ℕ → Node → Answer Node
sources_from n room schema = each_source room schema (push_filters_from room schema n)

from_is : (room : ℕ) (schema : Schema) (n rest : ℕ) (p : Node) → (n ≡ 0 → ⊥)
    → push_filters room schema n rest p >>= sources_from (n - 1) room schema rest ≡ push_filters_from room schema n rest p
unfolding push_filters_from
from_is room schema zero rest p z = absurd (z refl)
from_is room schema (suc n) rest p z =
    let e : suc n - 1 ≡ n = omega arith in ap (λ (m : ℕ). push_filters room schema (suc n) rest p >>= sources_from m room schema rest) e

module _ (n : ℕ) (i : n ≡ 0 → ⊥) {records x : List ℕ} {t lo tail u : ℕ} {x₁ : List ℕ} (a : Passes (λ room schema. push_filters room schema n) records x t lo tail u x₁) where
  as_from : {r : ℕ} {x' : List ℕ}
      → Passes (λ room schema rest p. push_filters room schema n rest p >>= sources_from (n - 1) room schema rest) records x t lo tail r x'
      → Passes (λ room schema. push_filters_from room schema n) records x t lo tail r x'
  as_from =
      passes_as (λ room schema rest p. push_filters room schema n rest p >>= sources_from (n - 1) room schema rest) (λ room schema. push_filters_from room schema n)
      (λ room schema rest pre post p s h. from_is room schema n rest p i)

  pub from_full : length x₁ < u → Passes (λ room schema. push_filters_from room schema n) records x t lo tail u x₁
  from_full z = as_from (passes_stop (λ room schema. push_filters room schema n) (sources_from (n - 1)) a z)

  pub from_again : u ≤ length x₁ → length x₁ ≡ length x → {r : ℕ} {x₂ : List ℕ}
      → Passes (λ room schema. each_source room schema (push_filters_from room schema (n - 1))) records x₁ u lo tail r x₂
      → Passes (λ room schema. push_filters_from room schema n) records x t lo tail r x₂
  from_again z e b = as_from (passes_go (λ room schema. push_filters room schema n) (sources_from (n - 1)) a z e b)

-- ---- a node of one cell has no source and nothing to push, so it stays as it is
leaf_same : (room : ℕ) (schema : Schema) (n rest og : ℕ) (l : Leaf) → rest + node_size (leaf og l) ≤ room
    → push_filters_from room schema n rest (leaf og l) ≡ done (leaf og l)
unfolding push_filters_from maybe_push_filter maybe_push_join Optimizer.maybe_push_join
leaf_same room schema zero rest og l h = refl
leaf_same room schema (suc n) rest og l h =
    ap (λ b. if_room b (leaf og l) >>= each_source room schema (push_filters_from room schema n) rest) (le-leb (rest + node_size (leaf og l)) room h)

one_same : (room : ℕ) (schema : Schema) (n rest : ℕ) (p : Node) → node_size p ≡ 1 → rest + node_size p ≤ room → push_filters_from room schema n rest p ≡ done p
one_same room schema n rest (leaf og l) e h = leaf_same room schema n rest og l h
one_same room schema n rest (over og o source) e h = absurd (omega (arith, nodes_cells (over og o source), nodes_positive source))
one_same room schema n rest (join og outer j left right) e h = absurd (omega (arith, nodes_cells (join og outer j left right), nodes_positive left))

pub cell_same : {records x : List ℕ} {t lo tail : ℕ} (n : ℕ) → t - tail - lo ≡ cell_words → Passes (λ room schema. push_filters_from room schema n) records x t lo tail t x
cell_same n e schema text tables given =
    edit_same (kept schema text tables) (λ room. push_filters_from room schema n)
    (λ room rest pre post p s k h. one_same room schema n rest p (omega (arith, total h, words_long p)) (omega (arith, total_cells s h, s.all, h.inside)))

-- ---- the whole plan: t / 7 is the number of its cells
pub whole_plan : {records x : List ℕ} {t r : ℕ} {x' : List ℕ} → Passes (λ room schema. push_filters_from room schema (t / cell_words)) records x t 0 0 r x'
    → Passes FilterPushdown records x t 0 0 r x'
unfolding FilterPushdown
whole_plan {x = x} {t = t} =
    passes_as (λ room schema. push_filters_from room schema (t / cell_words)) FilterPushdown
    (λ room schema rest pre post p s h. ap (λ (m : ℕ). push_filters_from room schema m rest p) (cells s h))
  where
    cells : {room rest : ℕ} {pre post : List ℕ} {p : Node} → Shares x 0 0 room rest → Holds x t 0 0 pre post p → t / cell_words ≡ node_size p
    cells s h = omega (arith, total_cells s h, s.outside)
