-- Laws on where nodes stand, and on which node a tag tells of.
use Prim.Native.Nat.{ℕ, ◌+◌, ◌-◌, ◌≤◌}
use native.Mathlib.Omega.{arith}
use mathlib.Core.Bool.{Bool}
use mathlib.Core.Path.{◌≡◌, refl, sym, ◌∙◌, subst}
use mathlib.Core.List.{List, ◌++◌, append_assoc}
use mathlib.Core.Option.{Option, none, some}
use lib.ListN.{length, length-append}
use Rattle.sql.specs.Plan.{node_origin, Access, by_key, by_index, Over, Join, Node, leaf, over, join}
use Rattle.sheet.specs.Content.{Content, cell_of}
use Rattle.cells.specs.Cells.{cell_words, sized, cell_at, tag_at, start_at, Part, Sized}
use Rattle.cells.proofs.Laws.{part_left, part_right, body_part, cell_in, tag_is, start_is, has_size, seam}
use Rattle.cells.proofs.Laws as cells
use Rattle.words.specs.Words.{cell, node_words, source_words, own_words, node_cell}
use Rattle.words.specs.Place.{NodeHere}
use Rattle.words.proofs.Expressions.{tag, tag_cell}

pub node_shape : (p : Node) → node_words p ≡ sized (source_words p ++ own_words p) (cell (node_origin p) (node_cell p))
unfolding node_words
node_shape (leaf og l) = refl
node_shape (over og o n) = refl
node_shape (join og outer j l r) = rw (append_assoc (node_words l) (node_words r) (own_words (join og outer j l r)))

-- ---- which node a tag tells of

pub scan_tag : (f : Bool) (t : ℕ) (al : Option ℕ) → tag (Rattle.sheet.specs.Content.scan_cell f t al) ≡ 62
scan_tag f t none = refl
scan_tag f t (some r) = refl

pub lookup_tag : (a : Access) (t : ℕ) (al : Option ℕ) (n : ℕ) → (53 ≤ tag (Rattle.sheet.specs.Cells.lookup_content a t al n)) × (tag (Rattle.sheet.specs.Cells.lookup_content a t al n) ≤ 54)
lookup_tag by_key t none n = (omega arith, omega arith)
lookup_tag by_key t (some r) n = (omega arith, omega arith)
lookup_tag (by_index c) t none n = (omega arith, omega arith)
lookup_tag (by_index c) t (some r) n = (omega arith, omega arith)

-- ---- where a node stands

module _ {s : List ℕ} {lo hi : ℕ} (p : Node) (u : NodeHere s lo hi p) where
  pub node_part : Part s lo hi (sized (source_words p ++ own_words p) (cell (node_origin p) (node_cell p)))
  node_part = rw (node_shape p) at u.part

  pub children_part : Part s lo (hi - cell_words) (source_words p ++ own_words p)
  children_part = body_part (source_words p ++ own_words p) (cell (node_origin p) (node_cell p)) node_part

  pub node_cell_is : cell_at s hi ≡ cell (node_origin p) (node_cell p)
  node_cell_is = cells.cell_is (source_words p ++ own_words p) (cell (node_origin p) (node_cell p)) node_part

  pub node_tag : tag_at s hi ≡ tag (node_cell p)
  node_tag = tag_is (source_words p ++ own_words p) (cell (node_origin p) (node_cell p)) node_part ∙ tag_cell (node_origin p) (node_cell p)

  pub node_in : (lo + cell_words ≤ hi) × (hi ≤ length s)
  node_in = cell_in (source_words p ++ own_words p) (cell (node_origin p) (node_cell p)) node_part

  pub node_size_at : Sized s hi
  node_size_at = has_size (source_words p ++ own_words p) (cell (node_origin p) (node_cell p)) node_part

  pub node_start : start_at s hi ≡ lo
  node_start = start_is (source_words p ++ own_words p) (cell (node_origin p) (node_cell p)) node_part

  pub node_long : lo + length (source_words p) + length (own_words p) + cell_words ≡ hi
  node_long = omega (arith, seam (source_words p ++ own_words p) (cell (node_origin p) (node_cell p)) node_part, length-append (source_words p) (own_words p))

  -- from where its own words start
  module _ {m : ℕ} (f : m ≡ lo + length (source_words p)) where
    pub source_part : Part s lo m (source_words p)
    source_part = rw f (part_left (source_words p) (own_words p) children_part)

    pub own_part : Part s m (hi - cell_words) (own_words p)
    own_part = rw f (part_right (source_words p) (own_words p) children_part)

-- the sources
module _ {s : List ℕ} {lo hi m : ℕ} where
  pub over_source : (og : ℕ) (o : Over) (n : Node) → NodeHere s lo hi (over og o n) → m ≡ lo + length (node_words n) → NodeHere s lo m n
  over_source og o n u f = record { part = source_part (over og o n) u f }

  module _ (og : ℕ) (outer : Bool) (j : Join) (l r : Node) (u : NodeHere s lo hi (join og outer j l r)) (f : m ≡ lo + length (node_words l ++ node_words r)) where
    right_raw : NodeHere s (lo + length (node_words l)) m r
    right_raw = record { part = part_right (node_words l) (node_words r) (source_part (join og outer j l r) u f) }

    pub sources_sized : Sized s m
    sources_sized = node_size_at r right_raw

    module _ {mid : ℕ} (st : mid ≡ start_at s m) where
      mid_is : lo + length (node_words l) ≡ mid
      mid_is = sym (node_start r right_raw) ∙ sym st

      pub join_left : NodeHere s lo mid l
      join_left = rw (← mid_is) (record { part = part_left (node_words l) (node_words r) (source_part (join og outer j l r) u f) })

      pub join_right : NodeHere s mid m r
      join_right = subst (λ (n : ℕ). NodeHere s n m r) mid_is right_raw
