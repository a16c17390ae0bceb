-- What a function that appends words leaves. A position past the end of the slice stands for "no room", and stays so through what is appended after.
use Rattle.std.specs.Prelude.{ℕ, ◌+◌, ◌≤◌, ◌<◌, ◌≡◌, List, ◌++◌, length, take}
use Rattle.cells.specs.declared.Cell.{Cell}
use Rattle.cells.specs.Cells.{Part, sized}

-- Sizes of subtrees in d fit a word of 32 bits.
abbrev pub Short : List ℕ → Type 0
Short d = length d < 4294967296

-- The most words of a slice that a pass works in, 65,535 cells: so few that columns and words are counted without overflow, and that the number of a lookup's
-- constants fits a word beside its column.
abbrev pub most_words : ℕ
most_words = 458745

-- w is appended to the first `at` words of d, which makes n words; or n is past the end. Where there is room for w, and it ends before word 2^32, n is not past the
-- end.
pub record Wrote (d : List ℕ) (at : ℕ) (w : List ℕ) (n : ℕ) (d' : List ℕ) : Type 0 where
  pub is : n ≤ length d → (n ≡ at + length w) × (take n d' ≡ take at d ++ w)
  pub room : at + length w < 4294967296 → at + length w ≤ length d → n ≤ length d

-- The cell k is put over whatever was written from lo up to `at`.
abbrev pub Seals : List ℕ → ℕ → ℕ → Cell → ℕ → List ℕ → Type 0
Seals d lo at k n d' = (d₀ b : List ℕ) → length d ≡ length d₀ → Wrote d₀ lo b at d → Wrote d₀ lo (sized b k) n d'

-- Where `at` stands before lo, nothing can have been written so: n is past the end.
abbrev pub Puts : List ℕ → ℕ → ℕ → Cell → ℕ → List ℕ → Type 0
Puts d lo at k n d' = Seals d lo at k n d' × (at < lo → length d < n)

-- The words of s from lo up to hi, whatever they are, are appended.
abbrev pub Copies : List ℕ → ℕ → ℕ → List ℕ → ℕ → ℕ → List ℕ → Type 0
Copies s lo hi d at n d' = (w : List ℕ) → Part s lo hi w → Wrote d at w n d'
