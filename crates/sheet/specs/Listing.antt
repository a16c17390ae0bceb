-- The listing of a sheet, as bytes: a header line, then a line for each cell, in unsigned decimal (document 01), and a line of totals (document 02, W-210).
use Rattle.std.specs.Prelude.{ℕ, zero, suc, ◌+◌, ◌*◌, ◌/◌, ◌%◌, Bool, true, false, cond, ◌&&◌, List, [], ◌∷◌, ◌++◌, ltb, leb, length}
use Rattle.sheet.specs.Parts.{cell_count}
use Rattle.sheet.specs.Cell.{Cell}
use Rattle.sheet.specs.Check.{Numbers, cells_of}

-- The decimal digits of n, most significant first, before `later`. A number below 2^64 has at most 20; the first argument bounds how many are written.
unfoldable pub digits : ℕ → ℕ → List ℕ → List ℕ
digits zero n later = later
digits (suc k) n later = elim (ltb n 10) [ true ↦ (48 + n) ∷ later | false ↦ digits k (n / 10) ((48 + n % 10) ∷ later) ]

abbrev pub decimal : ℕ → List ℕ
decimal n = digits 20 n []

-- ASCII
abbrev pub space : ℕ
space = 32

abbrev pub newline : ℕ
newline = 10

-- numbers with spaces between them, and the line's end
abbrev pub line : List ℕ → List ℕ
line [] = newline ∷ []
line (n ∷ []) = decimal n ++ (newline ∷ [])
line (n ∷ m ∷ ns) = decimal n ++ (space ∷ line (m ∷ ns))

abbrev pub cell_line : ℕ → Cell → List ℕ
cell_line i k = line (i ∷ k.tag ∷ k.flag ∷ k.a ∷ k.b ∷ k.c ∷ [])

-- the lines of cells numbered from i on
unfoldable pub cell_lines : ℕ → List Cell → List ℕ
unfolding digits
cell_lines i [] = []
cell_lines i (k ∷ ks) = cell_line i k ++ cell_lines (suc i) ks

-- "cells N bytes B columns C"
abbrev pub header : (cells bytes columns : ℕ) → List ℕ
header cells bytes columns =
    (99 ∷ 101 ∷ 108 ∷ 108 ∷ 115 ∷ space ∷ decimal cells)
    ++ ((space ∷ 98 ∷ 121 ∷ 116 ∷ 101 ∷ 115 ∷ space ∷ decimal bytes)
    ++ ((space ∷ 99 ∷ 111 ∷ 108 ∷ 117 ∷ 109 ∷ 110 ∷ 115 ∷ space ∷ decimal columns) ++ (newline ∷ [])))

-- ---- the totals under the cell lines

-- how many entries of a list pass a test
abbrev pub count : {A : Type 0} → (A → Bool) → List A → ℕ
count test [] = 0
count test (x ∷ xs) = cond (test x) 1 0 + count test xs

-- The three kinds of cells, by their tag: those of expressions, parts of nodes, and nodes.
abbrev pub is_expression : ℕ → Bool
is_expression tag = ltb tag 40

abbrev pub is_part : ℕ → Bool
is_part tag = leb 40 tag && ltb tag 50

abbrev pub is_node : ℕ → Bool
is_node tag = leb 50 tag

-- how many cells are of a kind
abbrev pub of_kind : (ℕ → Bool) → List Cell → ℕ
of_kind kind cells = count (λ (k : Cell). kind k.tag) cells

-- "kinds E P N total T", T being their sum
abbrev pub totals_line : (expressions parts nodes : ℕ) → List ℕ
totals_line expressions parts nodes =
    (107 ∷ 105 ∷ 110 ∷ 100 ∷ 115 ∷ space ∷ decimal expressions)
    ++ ((space ∷ decimal parts)
    ++ ((space ∷ decimal nodes)
    ++ ((space ∷ 116 ∷ 111 ∷ 116 ∷ 97 ∷ 108 ∷ space ∷ decimal (expressions + parts + nodes)) ++ (newline ∷ []))))

abbrev pub totals : List Cell → List ℕ
totals cells = totals_line (of_kind is_expression cells) (of_kind is_part cells) (of_kind is_node cells)

-- the listing of a sheet whose plan has so many columns
unfoldable pub listing : (sheet : List ℕ) → (columns : ℕ) → List ℕ
unfolding digits cell_lines cells_of
listing sheet columns = header (cell_count sheet) (length sheet) columns ++ (cell_lines 0 (cells_of sheet) ++ totals (cells_of sheet))

-- "refused N place P"
unfoldable pub refusal_line : (number place : ℕ) → List ℕ
unfolding digits
refusal_line number place =
    (114 ∷ 101 ∷ 102 ∷ 117 ∷ 115 ∷ 101 ∷ 100 ∷ space ∷ decimal number)
    ++ ((space ∷ 112 ∷ 108 ∷ 97 ∷ 99 ∷ 101 ∷ space ∷ decimal place) ++ (newline ∷ []))
