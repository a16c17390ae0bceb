-- The working form of a plan: postfix cells of seven words, origin, tag, flag, a, b, c, and the number of words of the subtree that ends with the cell. So the
-- start of a subtree is known from its end, and the words of a subtree don't change when it moves.
use Rattle.std.specs.Prelude.{ℕ, ◌+◌, ◌-◌, ◌≤◌, ◌≡◌, List, [], ◌∷◌, ◌++◌, length, get_or}
use Rattle.cells.specs.declared.Cell.{Cell}

-- the words of one cell
abbrev pub cell_words : ℕ
cell_words = 7

-- the cell that says no more than its tag and its origin
abbrev pub plain : (origin tag : ℕ) → Cell
plain origin tag = record { origin = origin; tag = tag; flag = 0; a = 0; b = 0; c = 0 }

abbrev pub words : Cell → ℕ → List ℕ
words k n = k.origin ∷ k.tag ∷ k.flag ∷ k.a ∷ k.b ∷ k.c ∷ n ∷ []

-- the words of the children, and the cell over them
abbrev pub sized : List ℕ → Cell → List ℕ
sized children k = children ++ words k (length children + cell_words)

-- the cell whose words end before word hi, its tag, its origin, and where its subtree starts
abbrev pub cell_at : List ℕ → ℕ → Cell
cell_at s hi =
    record {
      origin = get_or s (hi - cell_words) 0;
      tag = get_or s (hi - 6) 0;
      flag = get_or s (hi - 5) 0;
      a = get_or s (hi - 4) 0;
      b = get_or s (hi - 3) 0;
      c = get_or s (hi - 2) 0;
    }

abbrev pub tag_at : List ℕ → ℕ → ℕ
tag_at s hi = get_or s (hi - 6) 0

abbrev pub origin_at : List ℕ → ℕ → ℕ
origin_at s hi = get_or s (hi - cell_words) 0

abbrev pub start_at : List ℕ → ℕ → ℕ
start_at s hi = hi - get_or s (hi - 1) 0

-- The words w stand in s from lo up to hi.
pub record Part (s : List ℕ) (lo hi : ℕ) (w : List ℕ) : Type 0 where
  pub before : List ℕ
  pub after : List ℕ
  pub whole : s ≡ before ++ (w ++ after)
  pub low : length before ≡ lo
  pub high : lo + length w ≡ hi

-- Some subtree ends before word hi.
pub record Sized (s : List ℕ) (hi : ℕ) : Type 0 where
  pub first : cell_words ≤ hi
  pub last : hi ≤ length s
  pub long : get_or s (hi - 1) 0 ≤ hi
