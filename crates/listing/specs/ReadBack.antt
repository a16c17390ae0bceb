-- What a listing says of its own lines (document 02, W-210), read back from its bytes alone: a line is what a newline ends, spaces part the words of a line, and
-- a number is a word of decimal digits. Nothing here goes by how a listing is put together.
use Rattle.std.specs.Prelude.{ℕ, ◌+◌, ◌-◌, ◌*◌, ◌≡◌, Bool, true, false, ◌&&◌, cond, List, [], ◌∷◌, ◌++◌, eqb, ltb, leb, length, get_or}
use Rattle.std.proofs.Math.Option.{Option, none, some}

-- ASCII
abbrev pub space : ℕ
space = 32

abbrev pub newline : ℕ
newline = 10

-- The pieces between the bytes that are `separator`, one more than there are of these.
abbrev pub next_piece : (separates : Bool) → ℕ → List (List ℕ) → List (List ℕ)
next_piece true b pieces = [] ∷ pieces
next_piece false b [] = (b ∷ []) ∷ []
next_piece false b (piece ∷ pieces) = (b ∷ piece) ∷ pieces

unfoldable pub split : (separator : ℕ) → List ℕ → List (List ℕ)
split separator [] = [] ∷ []
split separator (b ∷ bytes) = next_piece (eqb b separator) b (split separator bytes)

-- word i of a line, counted from 0
abbrev pub word : ℕ → List ℕ → List ℕ
word i line = get_or (split space line) i []

-- "0" to "9"
abbrev pub is_digit : ℕ → Bool
is_digit b = leb 48 b && leb b 57

-- the number whose digits are those of n and then these
unfoldable pub number_from : ℕ → List ℕ → Option ℕ
number_from n [] = some n
number_from n (b ∷ digits) = elim (is_digit b) [ true ↦ number_from (n * 10 + (b - 48)) digits | false ↦ none ]

-- the number that a word spells
abbrev pub number : List ℕ → Option ℕ
number [] = none
number (b ∷ digits) = number_from 0 (b ∷ digits)

-- A cell's line is `i tag flag a b c`: its tag is word 1.
abbrev pub passes : (ℕ → Bool) → Option ℕ → Bool
passes test none = false
passes test (some n) = test n

abbrev pub tagged : (ℕ → Bool) → List ℕ → Bool
tagged test line = passes test (number (word 1 line))

-- how many lines pass a test
abbrev pub count : (List ℕ → Bool) → List (List ℕ) → ℕ
count test [] = 0
count test (line ∷ lines) = cond (test line) 1 0 + count test lines

-- The listing's last line, `kinds E P N total T`, is right: T is the number of cell lines, the header's count, and the sum of E, P and N, which count the cell
-- lines whose tag is below 40, 40 to 49, and 50 and above.
pub record TotalsRight (listing : List ℕ) : Type 0 where
  -- a header line, the cell lines, the line of totals; nothing behind the last newline
  pub header : List ℕ
  pub cells : List (List ℕ)
  pub last : List ℕ
  pub lines : split newline listing ≡ header ∷ (cells ++ (last ∷ [] ∷ []))
  -- "cells", "kinds" and "total"
  pub header_named : word 0 header ≡ 99 ∷ 101 ∷ 108 ∷ 108 ∷ 115 ∷ []
  pub kinds_named : word 0 last ≡ 107 ∷ 105 ∷ 110 ∷ 100 ∷ 115 ∷ []
  pub total_named : word 4 last ≡ 116 ∷ 111 ∷ 116 ∷ 97 ∷ 108 ∷ []
  pub nothing_else : length (split space last) ≡ 6
  -- what is counted
  pub expressions : number (word 1 last) ≡ some (count (tagged (λ tag. ltb tag 40)) cells)
  pub parts : number (word 2 last) ≡ some (count (tagged (λ tag. leb 40 tag && ltb tag 50)) cells)
  pub nodes : number (word 3 last) ≡ some (count (tagged (λ tag. leb 50 tag)) cells)
  pub total : number (word 5 last) ≡ some (length cells)
  pub header_count : number (word 1 header) ≡ some (length cells)
  pub sum : count (tagged (λ tag. ltb tag 40)) cells + count (tagged (λ tag. leb 40 tag && ltb tag 50)) cells + count (tagged (λ tag. leb 50 tag)) cells ≡ length cells
