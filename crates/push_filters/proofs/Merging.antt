-- Laws on one merge of a Filter into its source, in the definition (crate sql, Room).
use Prim.Native.Nat.{ℕ, zero, suc, ◌+◌, ◌-◌, ◌≤◌}
use native.Mathlib.Omega.{arith}
use mathlib.Core.Bool.{Bool}
use mathlib.Core.Path.{◌≡◌, refl, sym, ap, ◌∙◌, subst}
use mathlib.Core.List.{List}
use mathlib.Core.Option.{Option, none, some}
use borrow.Author.Tests.{le-leb}
use Rattle.sql.specs.Schema.{Schema}
use Rattle.sql.specs.Expression.{Expression}
use Rattle.sql.specs.Plan.{scan, lookup, nothing, values, filter, other, nested_loop, hash, Node, leaf, over, join, node_size}
use Rattle.sql.specs.Answer.{done, ◌>>=◌}
use Rattle.sql.specs.Optimizer.{push_into}
use Rattle.sql.specs.Room.{if_room, go_on, step, maybe_push_join, maybe_push_filter, push_filters}
use Rattle.sheet_laws.specs.Fits.{Optional}
use Rattle.sound.specs.Pushdown.{into_keeps}
use Rattle.kept.specs.Kept.{Kept}

-- what a Filter's source becomes that takes the Filter's predicate
abbrev pub merge : Node → Option Node
merge (leaf og l) = none
merge (over og (filter e) source) = push_into og e source
merge (over og (other o) source) = none
merge (join og outer j left right) = none

-- it makes no node larger
into_smaller : (new : ℕ) (e : Expression) (n : Node) → Optional (λ q. node_size q ≤ node_size (over new (filter e) n)) (push_into new e n)
into_smaller new e (leaf og (scan t al none)) = omega arith
into_smaller new e (leaf og (scan t al (some q))) = omega arith
into_smaller new e (leaf og (lookup a t al vs)) = tt
into_smaller new e (leaf og (nothing ls)) = tt
into_smaller new e (leaf og (values rs)) = tt
into_smaller new e (over og (filter q) n) = omega arith
into_smaller new e (over og (other o) n) = tt
into_smaller new e (join og outer (nested_loop none) l r) = omega arith
into_smaller new e (join og outer (nested_loop (some q)) l r) = omega arith
into_smaller new e (join og outer (hash i j) l r) = tt

pub merge_smaller : (p q : Node) → merge p ≡ some q → node_size q ≤ node_size p
merge_smaller p q h = subst (Optional (λ q. node_size q ≤ node_size p)) h (go p)
  where
    go : (p : Node) → Optional (λ q. node_size q ≤ node_size p) (merge p)
    go (leaf og l) = tt
    go (over og (filter e) n) = into_smaller og e n
    go (over og (other o) n) = tt
    go (join og outer j l r) = tt

-- what comes of it is fit to take the Filter's place
pub merge_keeps : (schema : Schema) (text : List ℕ) (tables : ℕ) (p q : Node) → merge p ≡ some q → Kept schema text tables p p → Kept schema text tables p q
merge_keeps schema text tables p q h k = subst (Optional (Kept schema text tables p)) h (go p k)
  where
    go : (p : Node) → Kept schema text tables p p → Optional (Kept schema text tables p) (merge p)
    go (leaf og l) k = tt
    go (over og (filter e) n) k = into_keeps schema text tables og e n k.0.0 k.0.1
    go (over og (other o) n) k = tt
    go (join og outer j l r) k = tt

module _ (room : ℕ) (schema : Schema) where
  filter_rule : (n rest : ℕ) (p : Node)
      → maybe_push_filter room schema (suc n) rest p
      ≡ go_on (λ q. step room schema rest q >>= maybe_push_filter room schema n rest >>= maybe_push_join room schema rest) p (merge p)
  unfolding maybe_push_filter
  filter_rule n rest (leaf og l) = refl
  filter_rule n rest (over og (filter e) source) = refl
  filter_rule n rest (over og (other o) source) = refl
  filter_rule n rest (join og outer j l r) = refl

  -- the bound is used up
  pub none_left : (n rest : ℕ) (p : Node) → n ≡ 0 → maybe_push_filter room schema n rest p ≡ done p
  unfolding maybe_push_filter
  none_left zero rest p z = refl
  none_left (suc n) rest p z = absurd (omega arith)

  -- no merge
  pub not_merged : (n rest : ℕ) (p : Node) → merge p ≡ none → maybe_push_filter room schema n rest p ≡ done p
  not_merged zero rest p h = none_left zero rest p refl
  not_merged (suc n) rest p h =
      filter_rule n rest p ∙ ap (go_on (λ q. step room schema rest q >>= maybe_push_filter room schema n rest >>= maybe_push_join room schema rest) p) h

  -- a merge, in a plan that fits: there is room for what comes of it
  pub merged_is : (n rest : ℕ) (p q : Node) → (n ≡ 0 → ⊥) → merge p ≡ some q → rest + node_size p ≤ room
      → push_filters room schema (n - 1) rest q ≡ maybe_push_filter room schema n rest p
  merged_is zero rest p q z h f = absurd (z refl)
  merged_is (suc n) rest p q z h f =
      let e : suc n - 1 ≡ n = omega arith in
      ap (λ (i : ℕ). push_filters room schema i rest q) e
      ∙ sym (filter_rule n rest p
      ∙ ap (go_on (λ q. step room schema rest q >>= maybe_push_filter room schema n rest >>= maybe_push_join room schema rest) p) h
      ∙ ap (λ (b : Bool). if_room b q >>= maybe_push_filter room schema n rest >>= maybe_push_join room schema rest)
      (le-leb (rest + node_size q) room (omega (arith, merge_smaller p q h))))
