-- What `place` of a plan says to who goes on with it.
-- Assumes nothing.
use Prim.Native.Nat.{ℕ}
use native.Mathlib.Omega.{arith}
use mathlib.Core.Path.{◌≡◌, refl, ap}
use mathlib.Core.List.{List, [], ◌∷◌}
use mathlib.Core.Option.{none, some}
use Rattle.sql.specs.Answer.{Answer, done, refused}
use Rattle.sql.specs.Plan.{Node}
use Rattle.sheet.specs.Tree.{expression_tree, label_tree, item_tree, key_tree, target_tree, agg_tree, row_tree, node_tree, Stack, Read, lacking, stack, read}
use Rattle.sheet.specs.Check.{text, cells_of, sole_node, one_plan}
use Rattle.structure.specs.Structure.{place, plan_of}

-- Whatever the reading, it is refused by number 8 or it is a plan.
pub data Eight : Answer Node → Type 0 where
  at : (p : ℕ) → Eight (refused 8 p)
  one : (node : Node) → Eight (done node)

sole_eight : (count : ℕ) (st : Stack) → Eight (sole_node count st)
sole_eight count [] = at count
sole_eight count (node_tree n ∷ []) = one n
sole_eight count (node_tree n ∷ t ∷ st) = at count
sole_eight count (expression_tree x ∷ st) = at count
sole_eight count (label_tree x ∷ st) = at count
sole_eight count (item_tree x ∷ st) = at count
sole_eight count (key_tree x ∷ st) = at count
sole_eight count (target_tree x ∷ st) = at count
sole_eight count (agg_tree x ∷ st) = at count
sole_eight count (row_tree x ∷ st) = at count

one_eight : (count : ℕ) (r : Read) → Eight (one_plan count r)
one_eight count (lacking p) = at p
one_eight count (stack st) = sole_eight count st

pub plan_eight : (s : List ℕ) → Eight (plan_of s)
unfolding plan_of
plan_eight s = one_eight _ (read (text s) 0 (cells_of s) [])

pub refused_at : (s : List ℕ) {p : ℕ} → some p ≡ place (plan_of s) → plan_of s ≡ refused 8 p
refused_at s {p} e = go (plan_eight s) e
  where
    go : {a : Answer Node} → Eight a → some p ≡ place a → a ≡ refused 8 p
    go (at q) e = ap (refused 8) (cc)
    go (one node) e = let z : ◌≡◌ {A = ℕ} 0 1 = cc in absurd (omega arith)

-- the plan that a sheet's cells are
pub record Planned (s : List ℕ) : Type 0 where
  pub node : Node
  pub is : plan_of s ≡ done node

pub planned : (s : List ℕ) → none ≡ place (plan_of s) → Planned s
planned s e = go (plan_of s) refl e
  where
    go : (a : Answer Node) → plan_of s ≡ a → none ≡ place a → Planned s
    go (done node) p e = record { node = node; is = p }
    go (refused n q) p e = let z : ◌≡◌ {A = ℕ} 0 1 = cc in absurd (omega arith)
