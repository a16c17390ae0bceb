-- No listing is longer than 94,323 bytes: a header of at most 83, at most 2,048 lines of at most 46, and totals of at most 32.
use Prim.Native.Nat.{ℕ, zero, suc, ◌+◌, ◌*◌, ◌/◌, ◌%◌, ◌≤◌, ◌<◌}
use native.Mathlib.Nat.{div-lt_iff_lt-mul}
use native.Mathlib.Omega.{arith}
use mathlib.Core.Path.{sym, subst}
use mathlib.Core.List.{List, [], ◌∷◌, ◌++◌, map}
use mathlib.Core.Logic.{◌⊎◌, inl, inr}
use lib.ListN.{length, length-append}
use borrow.Author.Tests.{lt-ltb, le-ltb}
use Rattle.sql.specs.Plan.{up_to}
use Rattle.sheet.specs.Bytes.{byte, word}
use Rattle.sheet.specs.Parts.{cell_count, cells_at, record_at}
use Rattle.sheet.specs.Cell.{Cell, cell}
use Rattle.sheet.specs.Check.{cells_of}
use Rattle.sheet.specs.Listing.{digits, decimal, line, header, cell_line, cell_lines, is_expression, is_part, is_node, of_kind, totals_line, totals, listing, refusal_line}
use Rattle.cells.proofs.Laws.{lt_or_ge}
use Rattle.listing.proofs.Decimal.{last_digit, more_digits}
use Rattle.listing.proofs.Counted.{each_counted, all_long}

-- 10 to the power j
abbrev pub tens : ℕ → ℕ
tens zero = 1
tens (suc j) = 10 * tens j

-- digits, one by one
longer : (k n m : ℕ) → length (digits k (n / 10) []) ≤ m → 10 ≤ n → length (digits (suc k) n []) ≤ suc m
longer k n m i h =
    subst (λ (l : List ℕ). length l ≤ suc m) (sym (more_digits k n (le-ltb n 10 h)))
    (omega (arith, length-append (digits k (n / 10) []) ((48 + n % 10) ∷ []), i))

one_digit : (k n m : ℕ) → n < 10 → length (digits (suc k) n []) ≤ suc m
one_digit k n m h = subst (λ (l : List ℕ). length l ≤ suc m) (sym (last_digit k n (lt-ltb n 10 h))) (omega arith)

-- as many as are asked for, at most
most : (k n : ℕ) → length (digits k n []) ≤ k
unfolding digits
most zero n = omega arith
most (suc k) n = go (lt_or_ge n 10) (most k (n / 10))
  where
    go : (n < 10) ⊎ (10 ≤ n) → length (digits k (n / 10) []) ≤ k → length (digits (suc k) n []) ≤ suc k
    go (inl h) i = one_digit k n k h
    go (inr h) i = longer k n k i h

-- a number below a power of 10 has no more digits than that
few : (k n j : ℕ) → n < tens (suc j) → length (digits k n []) ≤ suc j
unfolding digits
few zero n j h = omega arith
few (suc k) n zero h = one_digit k n 0 h
few (suc k) n (suc j) h = go (lt_or_ge n 10) (few k (n / 10) j ((div-lt_iff_lt-mul {k = 10} {x = n} {y = tens (suc j)} (omega arith)).1 (omega arith)))
  where
    go : (n < 10) ⊎ (10 ≤ n) → length (digits k (n / 10) []) ≤ suc j → length (digits (suc k) n []) ≤ suc (suc j)
    go (inl p) i = one_digit k n (suc j) p
    go (inr p) i = longer k n (suc j) i p

-- a number, a byte, and what follows them
behind : (n end j : ℕ) (w : List ℕ) → length (decimal n) ≤ j → length (decimal n ++ (end ∷ w)) ≤ j + 1 + length w
behind n end j w h = omega (arith, length-append (decimal n) (end ∷ w))

-- of a cell of a sheet of bytes
record Small (k : Cell) : Type 0 where
  tag_small : k.tag < 256
  flag_small : k.flag < 256
  a_small : k.a < 4294967296
  b_small : k.b < 4294967296
  c_small : k.c < 4294967296

line_short : (i : ℕ) (k : Cell) → i < 2048 → Small k → length (cell_line i k) ≤ 46
line_short i k h m =
    let c = behind k.c 10 10 [] (few 20 k.c 9 (omega arith)) in
    let b = behind k.b 32 10 (line (k.c ∷ [])) (few 20 k.b 9 (omega arith)) in
    let a = behind k.a 32 10 (line (k.b ∷ k.c ∷ [])) (few 20 k.a 9 (omega arith)) in
    let flag = behind k.flag 32 3 (line (k.a ∷ k.b ∷ k.c ∷ [])) (few 20 k.flag 2 (omega arith)) in
    let tag = behind k.tag 32 3 (line (k.flag ∷ k.a ∷ k.b ∷ k.c ∷ [])) (few 20 k.tag 2 (omega arith)) in
    let number = behind i 32 4 (line (k.tag ∷ k.flag ∷ k.a ∷ k.b ∷ k.c ∷ [])) (few 20 i 3 (omega arith)) in
    omega arith

lines_short : (f : ℕ → Cell) → ((i : ℕ) → Small (f i)) → (k j : ℕ) → j + k ≤ 2048 → length (cell_lines j (map f (up_to j k))) ≤ 46 * k
unfolding cell_lines
lines_short f m zero j h = omega arith
lines_short f m (suc k) j h =
    omega (
      arith,
      length-append (cell_line j (f j)) (cell_lines (suc j) (map f (up_to (suc j) k))),
      line_short j (f j) (omega arith) (m j),
      lines_short f m k (suc j) (omega arith),
    )

header_short : (cells bytes columns : ℕ) → length (header cells bytes columns) ≤ 83
header_short cells bytes columns =
    let last = behind columns 10 20 [] (most 20 columns) in
    let middle = behind bytes 32 20 (99 ∷ 111 ∷ 108 ∷ 117 ∷ 109 ∷ 110 ∷ 115 ∷ 32 ∷ (decimal columns ++ (10 ∷ []))) (most 20 bytes) in
    let first =
    behind cells 32 20 (98 ∷ 121 ∷ 116 ∷ 101 ∷ 115 ∷ 32 ∷ (decimal bytes ++ (32 ∷ 99 ∷ 111 ∷ 108 ∷ 117 ∷ 109 ∷ 110 ∷ 115 ∷ 32 ∷ (decimal columns ++ (10 ∷ [])))))
    (most 20 cells) in
    omega arith

totals_short : (e p n : ℕ) → e + p + n ≤ 2048 → length (totals_line e p n) ≤ 32
totals_short e p n h =
    let sum = behind (e + p + n) 10 4 [] (few 20 (e + p + n) 3 (omega arith)) in
    let nodes = behind n 32 4 (116 ∷ 111 ∷ 116 ∷ 97 ∷ 108 ∷ 32 ∷ (decimal (e + p + n) ++ (10 ∷ []))) (few 20 n 3 (omega arith)) in
    let parts = behind p 32 4 (decimal n ++ (32 ∷ 116 ∷ 111 ∷ 116 ∷ 97 ∷ 108 ∷ 32 ∷ (decimal (e + p + n) ++ (10 ∷ [])))) (few 20 p 3 (omega arith)) in
    let expressions =
    behind e 32 4 (decimal p ++ (32 ∷ (decimal n ++ (32 ∷ 116 ∷ 111 ∷ 116 ∷ 97 ∷ 108 ∷ 32 ∷ (decimal (e + p + n) ++ (10 ∷ [])))))) (few 20 e 3 (omega arith)) in
    omega arith

small_cell : (s : List ℕ) → ((i : ℕ) → byte s i < 256) → (i : ℕ) → Small (cell s i)
unfolding cell word
small_cell s b i =
    let at = record_at (cells_at s) i in
    record {
      tag_small = b at;
      flag_small = b (at + 1);
      a_small = omega (arith, b (at + 4), b (at + 4 + 1), b (at + 4 + 2), b (at + 4 + 3));
      b_small = omega (arith, b (at + 8), b (at + 8 + 1), b (at + 8 + 2), b (at + 8 + 3));
      c_small = omega (arith, b (at + 12), b (at + 12 + 1), b (at + 12 + 2), b (at + 12 + 3));
    }

pub listing_short : (s : List ℕ) (columns : ℕ) → ((i : ℕ) → byte s i < 256) → cell_count s ≤ 2048 → length (listing s columns) ≤ 94323
unfolding listing cells_of
listing_short s columns b h =
    omega (
      arith,
      length-append (header (cell_count s) (length s) columns) (cell_lines 0 (cells_of s) ++ totals (cells_of s)),
      length-append (cell_lines 0 (cells_of s)) (totals (cells_of s)),
      header_short (cell_count s) (length s) columns,
      lines_short (cell s) (small_cell s b) (cell_count s) 0 (omega arith),
      totals_short (of_kind is_expression (cells_of s)) (of_kind is_part (cells_of s)) (of_kind is_node (cells_of s)) (omega (arith, each_counted (cells_of s), all_long s)),
    )

pub refusal_short : (number place : ℕ) → length (refusal_line number place) ≤ 56
unfolding refusal_line
refusal_short number place =
    let last = behind place 10 20 [] (most 20 place) in
    let first = behind number 32 20 (112 ∷ 108 ∷ 97 ∷ 99 ∷ 101 ∷ 32 ∷ (decimal place ++ (10 ∷ []))) (most 20 number) in
    omega arith
