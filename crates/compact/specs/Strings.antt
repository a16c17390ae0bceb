-- Document 02, W-212, on plain lists: "keep the stretches that a record or cell refers to, each different string once, in order of first reference [..]; empty
-- strings refer to offset 0". A string is a list of bytes.
use Rattle.std.specs.Prelude.{ℕ, ◌+◌, ◌*◌, ◌≤◌, Bool, true, false, ◌&&◌, ◌||◌, cond, List, [], ◌∷◌, ◌++◌, eqb, length}

-- the same bytes
abbrev pub same : List ℕ → List ℕ → Bool
same [] [] = true
same [] (y ∷ ys) = false
same (x ∷ xs) [] = false
same (x ∷ xs) (y ∷ ys) = eqb x y && same xs ys

abbrev pub empty : List ℕ → Bool
empty [] = true
empty (x ∷ xs) = false

abbrev pub among : List ℕ → List (List ℕ) → Bool
among t [] = false
among t (k ∷ ks) = same k t || among t ks

-- One more string: an empty one, or one that is kept already, adds nothing; any other goes to the end.
abbrev pub add : List (List ℕ) → List ℕ → List (List ℕ)
add ks t = cond (empty t || among t ks) ks (ks ++ (t ∷ []))

-- What is kept of strings that are met in turn, behind what was kept before.
abbrev pub keep : List (List ℕ) → List (List ℕ) → List (List ℕ)
keep ks [] = ks
keep ks (t ∷ ts) = keep (add ks t) ts

-- each different non-empty string once, in order of first occurrence
abbrev pub kept : List (List ℕ) → List (List ℕ)
kept ts = keep [] ts

-- the strings one behind the other
abbrev pub joined : List (List ℕ) → List ℕ
joined [] = []
joined (k ∷ ks) = k ++ joined ks

-- where a string stands among those that are kept
abbrev pub offset_in : List (List ℕ) → List ℕ → ℕ
offset_in [] t = 0
offset_in (k ∷ ks) t = cond (same k t) 0 (length k + offset_in ks t)

-- the reference to a string, offset + 65,536 × length; the empty string's is 0
abbrev pub reference_to : List (List ℕ) → List ℕ → ℕ
reference_to ks t = cond (empty t) 0 (offset_in ks t + 65536 * length t)

-- ---- strings in a text, in any way

-- A stretch of a text: where it starts, and its length.
abbrev pub Stretch : Type 0
Stretch = ℕ × ℕ

-- a string's stretch of a text, if it starts where `place` says
abbrev pub stretch_of : (place : List ℕ → ℕ) → List ℕ → Stretch
stretch_of place t = (place t, length t)

-- They share no byte: one ends before the other starts.
pub data Apart (x y : Stretch) : Type 0 where
  before : x.0 + x.1 ≤ y.0 → Apart x y
  behind : y.0 + y.1 ≤ x.0 → Apart x y
