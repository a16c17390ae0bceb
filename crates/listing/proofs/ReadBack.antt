-- The totals of a listing are right, read back from its bytes.
use Prim.Native.Nat.{ℕ, zero, suc, ◌+◌, ◌-◌, ◌*◌, ◌/◌, ◌%◌, ◌≤◌, ◌<◌}
use native.Mathlib.Nat.{div-lt_iff_lt-mul}
use native.Mathlib.Omega.{arith}
use mathlib.Core.Logic.{◌⊎◌, inl, inr}
use mathlib.Core.Path.{◌≡◌, refl, sym, ap, ◌∙◌, subst}
use mathlib.Core.Bool.{Bool, true, false, ◌&&◌}
use mathlib.Core.List.{List, [], ◌∷◌, ◌++◌, map, append_assoc}
use mathlib.Core.Option.{Option, none, some}
use lib.Dec.{eqb, leb}
use lib.ListN.{length, length-append, get_or}
use borrow.Author.Tests.{lt-ltb, le-ltb, le-leb, eq-eqb, ne_eqb}
use Rattle.sql.specs.Plan.{up_to}
use Rattle.sheet.specs.Parts.{cell_count}
use Rattle.sheet.specs.Cell.{Cell, cell}
use Rattle.sheet.specs.Check.{cells_of}
use Rattle.sheet.specs.Listing.{digits, decimal, space, newline, line, cell_lines, header, is_expression, is_part, is_node, of_kind, totals_line, totals, listing}
use Rattle.cells.proofs.Laws.{lt_or_ge}
use Rattle.listing.specs.ReadBack.{next_piece, split, word, is_digit, number_from, number, passes, tagged, count, TotalsRight}
use Rattle.listing.proofs.Decimal.{last_digit, more_digits}
use Rattle.listing.proofs.Size.{tens}
use Rattle.listing.proofs.Counted.{one_if, each_counted, all_long}

-- ---- pieces

-- no byte of the list is this one
abbrev Without : ℕ → List ℕ → Type 0
Without b [] = Unit {0}
Without b (x ∷ xs) = (eqb x b ≡ false) × Without b xs

without_both : (b : ℕ) (xs ys : List ℕ) → Without b xs → Without b ys → Without b (xs ++ ys)
without_both b [] ys p q = q
without_both b (x ∷ xs) ys p q = (p.0, without_both b xs ys p.1 q)

-- what stands before a separator is a piece
split_at : (b : ℕ) (xs ys : List ℕ) → Without b xs → split b (xs ++ (b ∷ ys)) ≡ xs ∷ split b ys
unfolding split
split_at b [] ys p = ap (λ (t : Bool). next_piece t b (split b ys)) (eq-eqb b b refl)
split_at b (x ∷ xs) ys p =
    ap (λ (t : Bool). next_piece t x (split b (xs ++ (b ∷ ys)))) p.0 ∙ ap (next_piece false x) (split_at b xs ys p.1)

-- and so is what stands behind the last
split_last : (b : ℕ) (xs : List ℕ) → Without b xs → split b xs ≡ xs ∷ []
unfolding split
split_last b [] p = refl
split_last b (x ∷ xs) p = ap (λ (t : Bool). next_piece t x (split b xs)) p.0 ∙ ap (next_piece false x) (split_last b xs p.1)

-- ---- numbers

-- digits aren't below "0"
no_digit_below : (b : ℕ) → b < 48 → (k n : ℕ) → Without b (digits k n [])
unfolding digits
no_digit_below b h zero n = tt
no_digit_below b h (suc k) n = go (lt_or_ge n 10) (no_digit_below b h k (n / 10))
  where
    go : (n < 10) ⊎ (10 ≤ n) → Without b (digits k (n / 10) []) → Without b (digits (suc k) n [])
    go (inl p) later = subst (Without b) (sym (last_digit k n (lt-ltb n 10 p))) (ne_eqb (48 + n) b (λ e. absurd (omega arith)), tt)
    go (inr p) later =
        subst (Without b) (sym (more_digits k n (le-ltb n 10 p)))
        (without_both b (digits k (n / 10) []) ((48 + n % 10) ∷ []) later (ne_eqb (48 + n % 10) b (λ e. absurd (omega arith)), tt))

no_space : (n : ℕ) → Without space (decimal n)
no_space n = no_digit_below 32 (omega arith) 20 n

no_newline : (n : ℕ) → Without newline (decimal n)
no_newline n = no_digit_below 10 (omega arith) 20 n

-- one digit more behind others
abbrev then_digit : Option ℕ → ℕ → Option ℕ
then_digit none d = none
then_digit (some n) d = some (n * 10 + d)

a_digit : (d : ℕ) → d < 10 → is_digit (48 + d) ≡ true
a_digit d h = ap (λ (t : Bool). t && leb (48 + d) 57) (le-leb 48 (48 + d) (omega arith)) ∙ le-leb (48 + d) 57 (omega arith)

one_digit : (n d : ℕ) → d < 10 → number_from n ((48 + d) ∷ []) ≡ some (n * 10 + d)
unfolding number_from
one_digit n d h =
    let e : n * 10 + (48 + d - 48) ≡ n * 10 + d = omega arith in
    ap (λ (t : Bool). elim t [ true ↦ some (n * 10 + (48 + d - 48)) | false ↦ none ]) (a_digit d h) ∙ ap (λ (m : ℕ). some m) e

digit_behind : (n : ℕ) (xs : List ℕ) (d : ℕ) → d < 10 → number_from n (xs ++ ((48 + d) ∷ [])) ≡ then_digit (number_from n xs) d
unfolding number_from
digit_behind n [] d h = one_digit n d h
digit_behind n (x ∷ xs) d h = go (is_digit x) (digit_behind (n * 10 + (x - 48)) xs d h)
  where
    go : (t : Bool) → number_from (n * 10 + (x - 48)) (xs ++ ((48 + d) ∷ [])) ≡ then_digit (number_from (n * 10 + (x - 48)) xs) d
        → elim t [ true ↦ number_from (n * 10 + (x - 48)) (xs ++ ((48 + d) ∷ [])) | false ↦ none ]
        ≡ then_digit (elim t [ true ↦ number_from (n * 10 + (x - 48)) xs | false ↦ none ]) d
    go true e = e
    go false e = refl

digits_read : (k n : ℕ) → n < tens k → number_from 0 (digits k n []) ≡ some n
unfolding digits number_from
digits_read zero n h = let e : 0 ≡ n = omega arith in ap (λ (m : ℕ). some m) e
digits_read (suc k) n h = go (lt_or_ge n 10) (digits_read k (n / 10) ((div-lt_iff_lt-mul {k = 10} {x = n} {y = tens k} (omega arith)).1 (omega arith)))
  where
    go : (n < 10) ⊎ (10 ≤ n) → number_from 0 (digits k (n / 10) []) ≡ some (n / 10) → number_from 0 (digits (suc k) n []) ≡ some n
    go (inl p) later =
        let e : 0 * 10 + n ≡ n = omega arith in
        ap (number_from 0) (last_digit k n (lt-ltb n 10 p)) ∙ one_digit 0 n p ∙ ap (λ (m : ℕ). some m) e
    go (inr p) later =
        let e : n / 10 * 10 + n % 10 ≡ n = omega arith in
        ap (number_from 0) (more_digits k n (le-ltb n 10 p))
        ∙ digit_behind 0 (digits k (n / 10) []) (n % 10) (omega arith)
        ∙ ap (λ (o : Option ℕ). then_digit o (n % 10)) later
        ∙ ap (λ (m : ℕ). some m) e

-- A word that isn't empty is read digit by digit.
some_word : (w : List ℕ) → 1 ≤ length w → number w ≡ number_from 0 w
some_word [] h = absurd (omega arith)
some_word (b ∷ w) h = refl

-- digits before any others
some_digit : (k n : ℕ) → 1 ≤ length (digits (suc k) n [])
some_digit k n = go (lt_or_ge n 10)
  where
    go : (n < 10) ⊎ (10 ≤ n) → 1 ≤ length (digits (suc k) n [])
    go (inl p) = subst (λ (l : List ℕ). 1 ≤ length l) (sym (last_digit k n (lt-ltb n 10 p))) (omega arith)
    go (inr p) =
        subst (λ (l : List ℕ). 1 ≤ length l) (sym (more_digits k n (le-ltb n 10 p)))
        (omega (arith, length-append (digits k (n / 10) []) ((48 + n % 10) ∷ [])))

-- A number of at most 20 digits is read back.
number_read : (n : ℕ) → n < tens 20 → number (decimal n) ≡ some n
number_read n h = some_word (decimal n) (some_digit 19 n) ∙ digits_read 20 n h

-- ---- lines

-- numbers with spaces between them
abbrev spaced : List ℕ → List ℕ
spaced [] = []
spaced (n ∷ []) = decimal n
spaced (n ∷ m ∷ ns) = decimal n ++ (space ∷ spaced (m ∷ ns))

line_ends : (ns : List ℕ) → line ns ≡ spaced ns ++ (newline ∷ [])
line_ends [] = refl
line_ends (n ∷ []) = refl
line_ends (n ∷ m ∷ ns) =
    ap (λ (l : List ℕ). decimal n ++ (space ∷ l)) (line_ends (m ∷ ns)) ∙ sym (append_assoc (decimal n) (space ∷ spaced (m ∷ ns)) (newline ∷ []))

one_line : (ns : List ℕ) → Without newline (spaced ns)
one_line [] = tt
one_line (n ∷ []) = no_newline n
one_line (n ∷ m ∷ ns) = without_both newline (decimal n) (space ∷ spaced (m ∷ ns)) (no_newline n) (refl, one_line (m ∷ ns))

abbrev cell_text : ℕ → Cell → List ℕ
cell_text i k = spaced (i ∷ k.tag ∷ k.flag ∷ k.a ∷ k.b ∷ k.c ∷ [])

-- the lines of cells, without their newlines
abbrev cell_texts : ℕ → List Cell → List (List ℕ)
cell_texts i [] = []
cell_texts i (k ∷ ks) = cell_text i k ∷ cell_texts (suc i) ks

lines_split : (i : ℕ) (ks : List Cell) (later : List ℕ) → split newline (cell_lines i ks ++ later) ≡ cell_texts i ks ++ split newline later
unfolding cell_lines
lines_split i [] later = refl
lines_split i (k ∷ ks) later =
    ap (λ (l : List ℕ). split newline ((l ++ cell_lines (suc i) ks) ++ later)) (line_ends (i ∷ k.tag ∷ k.flag ∷ k.a ∷ k.b ∷ k.c ∷ []))
    ∙ ap (split newline) (append_assoc (cell_text i k ++ (newline ∷ [])) (cell_lines (suc i) ks) later ∙ append_assoc (cell_text i k) (newline ∷ []) (cell_lines (suc i) ks ++ later))
    ∙ split_at newline (cell_text i k) (cell_lines (suc i) ks ++ later) (one_line (i ∷ k.tag ∷ k.flag ∷ k.a ∷ k.b ∷ k.c ∷ []))
    ∙ ap (λ (ls : List (List ℕ)). cell_text i k ∷ ls) (lines_split (suc i) ks later)

texts_long : (i : ℕ) (ks : List Cell) → length (cell_texts i ks) ≡ length ks
texts_long i [] = refl
texts_long i (k ∷ ks) = ap suc (texts_long (suc i) ks)

-- the second word of a cell's line
tag_word : (i : ℕ) (k : Cell) → word 1 (cell_text i k) ≡ decimal k.tag
tag_word i k =
    ap (λ (ws : List (List ℕ)). get_or ws 1 [])
    (split_at space (decimal i) (spaced (k.tag ∷ k.flag ∷ k.a ∷ k.b ∷ k.c ∷ [])) (no_space i)
    ∙ ap (λ (ws : List (List ℕ)). decimal i ∷ ws) (split_at space (decimal k.tag) (spaced (k.flag ∷ k.a ∷ k.b ∷ k.c ∷ [])) (no_space k.tag)))

tagged_as : (test : ℕ → Bool) (i : ℕ) (k : Cell) → k.tag < 256 → tagged test (cell_text i k) ≡ test k.tag
tagged_as test i k h = ap (λ (w : List ℕ). passes test (number w)) (tag_word i k) ∙ ap (passes test) (number_read k.tag (omega arith))

texts_counted : (test : ℕ → Bool) (f : ℕ → Cell) (n j : ℕ) → ((i : ℕ) → i < j + n → (f i).tag < 256)
    → count (tagged test) (cell_texts j (map f (up_to j n))) ≡ of_kind test (map f (up_to j n))
texts_counted test f zero j m = refl
texts_counted test f (suc n) j m =
    let first = ap one_if (tagged_as test j (f j) (m j (omega arith))) in
    omega (arith, first, texts_counted test f n (suc j) (λ i h. m i (omega arith)))

-- ---- the first line and the last

abbrev header_text : (cells bytes columns : ℕ) → List ℕ
header_text cells bytes columns =
    (99 ∷ 101 ∷ 108 ∷ 108 ∷ 115 ∷ space ∷ decimal cells)
    ++ ((space ∷ 98 ∷ 121 ∷ 116 ∷ 101 ∷ 115 ∷ space ∷ decimal bytes) ++ (space ∷ 99 ∷ 111 ∷ 108 ∷ 117 ∷ 109 ∷ 110 ∷ 115 ∷ space ∷ decimal columns))

header_ends : (cells bytes columns : ℕ) → header cells bytes columns ≡ header_text cells bytes columns ++ (newline ∷ [])
header_ends cells bytes columns =
    let a : List ℕ = 99 ∷ 101 ∷ 108 ∷ 108 ∷ 115 ∷ space ∷ decimal cells in
    let b : List ℕ = space ∷ 98 ∷ 121 ∷ 116 ∷ 101 ∷ 115 ∷ space ∷ decimal bytes in
    let c : List ℕ = space ∷ 99 ∷ 111 ∷ 108 ∷ 117 ∷ 109 ∷ 110 ∷ 115 ∷ space ∷ decimal columns in
    ap (λ (l : List ℕ). a ++ l) (sym (append_assoc b c (newline ∷ []))) ∙ sym (append_assoc a (b ++ c) (newline ∷ []))

header_one_line : (cells bytes columns : ℕ) → Without newline (header_text cells bytes columns)
header_one_line cells bytes columns =
    without_both newline (99 ∷ 101 ∷ 108 ∷ 108 ∷ 115 ∷ space ∷ decimal cells) _ (refl, (refl, (refl, (refl, (refl, (refl, no_newline cells))))))
    (without_both newline (space ∷ 98 ∷ 121 ∷ 116 ∷ 101 ∷ 115 ∷ space ∷ decimal bytes) _ (refl, (refl, (refl, (refl, (refl, (refl, (refl, no_newline bytes)))))))
    (refl, (refl, (refl, (refl, (refl, (refl, (refl, (refl, (refl, no_newline columns))))))))))

header_words : (cells bytes columns : ℕ) → split space (header_text cells bytes columns)
    ≡ (99 ∷ 101 ∷ 108 ∷ 108 ∷ 115 ∷ []) ∷ decimal cells
    ∷ split space (98 ∷ 121 ∷ 116 ∷ 101 ∷ 115 ∷ space ∷ (decimal bytes ++ (space ∷ 99 ∷ 111 ∷ 108 ∷ 117 ∷ 109 ∷ 110 ∷ 115 ∷ space ∷ decimal columns)))
header_words cells bytes columns =
    let later : List ℕ = 98 ∷ 121 ∷ 116 ∷ 101 ∷ 115 ∷ space ∷ (decimal bytes ++ (space ∷ 99 ∷ 111 ∷ 108 ∷ 117 ∷ 109 ∷ 110 ∷ 115 ∷ space ∷ decimal columns)) in
    split_at space (99 ∷ 101 ∷ 108 ∷ 108 ∷ 115 ∷ []) (decimal cells ++ (space ∷ later)) (refl, (refl, (refl, (refl, (refl, tt)))))
    ∙ ap (λ (ws : List (List ℕ)). (99 ∷ 101 ∷ 108 ∷ 108 ∷ 115 ∷ []) ∷ ws) (split_at space (decimal cells) later (no_space cells))

abbrev totals_text : (e p n : ℕ) → List ℕ
totals_text e p n =
    107 ∷ 105 ∷ 110 ∷ 100 ∷ 115 ∷ space ∷ (decimal e ++ (space ∷ (decimal p ++ (space ∷ (decimal n ++ (space ∷ 116 ∷ 111 ∷ 116 ∷ 97 ∷ 108 ∷ space ∷ decimal (e + p + n)))))))

totals_ends : (e p n : ℕ) → totals_line e p n ≡ totals_text e p n ++ (newline ∷ [])
totals_ends e p n =
    let t : List ℕ = space ∷ 116 ∷ 111 ∷ 116 ∷ 97 ∷ 108 ∷ space ∷ decimal (e + p + n) in
    ap (λ (l : List ℕ). 107 ∷ 105 ∷ 110 ∷ 100 ∷ 115 ∷ space ∷ l)
    (ap (λ (l : List ℕ). decimal e ++ (space ∷ l)) (ap (λ (l : List ℕ). decimal p ++ (space ∷ l)) (sym (append_assoc (decimal n) t (newline ∷ []))) ∙ sym (append_assoc (decimal p) (space ∷ (decimal n ++ t)) (newline ∷ [])))
    ∙ sym (append_assoc (decimal e) (space ∷ (decimal p ++ (space ∷ (decimal n ++ t)))) (newline ∷ [])))

totals_one_line : (e p n : ℕ) → Without newline (totals_text e p n)
totals_one_line e p n =
    let last : Without newline (space ∷ 116 ∷ 111 ∷ 116 ∷ 97 ∷ 108 ∷ space ∷ decimal (e + p + n)) = (refl, (refl, (refl, (refl, (refl, (refl, (refl, no_newline (e + p + n)))))))) in
    let nodes = without_both newline (decimal n) (space ∷ 116 ∷ 111 ∷ 116 ∷ 97 ∷ 108 ∷ space ∷ decimal (e + p + n)) (no_newline n) last in
    let parts = without_both newline (decimal p) (space ∷ (decimal n ++ (space ∷ 116 ∷ 111 ∷ 116 ∷ 97 ∷ 108 ∷ space ∷ decimal (e + p + n)))) (no_newline p) (refl, nodes) in
    let expressions =
    without_both newline (decimal e) (space ∷ (decimal p ++ (space ∷ (decimal n ++ (space ∷ 116 ∷ 111 ∷ 116 ∷ 97 ∷ 108 ∷ space ∷ decimal (e + p + n)))))) (no_newline e) (refl, parts) in
    (refl, (refl, (refl, (refl, (refl, (refl, expressions))))))

totals_words : (e p n : ℕ) → split space (totals_text e p n)
    ≡ (107 ∷ 105 ∷ 110 ∷ 100 ∷ 115 ∷ []) ∷ decimal e ∷ decimal p ∷ decimal n ∷ (116 ∷ 111 ∷ 116 ∷ 97 ∷ 108 ∷ []) ∷ decimal (e + p + n) ∷ []
totals_words e p n =
    let total : List ℕ = 116 ∷ 111 ∷ 116 ∷ 97 ∷ 108 ∷ [] in
    let last : List ℕ = decimal (e + p + n) in
    let from_nodes : List ℕ = decimal n ++ (space ∷ (total ++ (space ∷ last))) in
    let from_parts : List ℕ = decimal p ++ (space ∷ from_nodes) in
    split_at space (107 ∷ 105 ∷ 110 ∷ 100 ∷ 115 ∷ []) (decimal e ++ (space ∷ from_parts)) (refl, (refl, (refl, (refl, (refl, tt)))))
    ∙ ap (λ (ws : List (List ℕ)). (107 ∷ 105 ∷ 110 ∷ 100 ∷ 115 ∷ []) ∷ ws)
    (split_at space (decimal e) from_parts (no_space e)
    ∙ ap (λ (ws : List (List ℕ)). decimal e ∷ ws)
    (split_at space (decimal p) from_nodes (no_space p)
    ∙ ap (λ (ws : List (List ℕ)). decimal p ∷ ws)
    (split_at space (decimal n) (total ++ (space ∷ last)) (no_space n)
    ∙ ap (λ (ws : List (List ℕ)). decimal n ∷ ws)
    (split_at space total last (refl, (refl, (refl, (refl, (refl, tt)))))
    ∙ ap (λ (ws : List (List ℕ)). total ∷ ws) (split_last space last (no_space (e + p + n)))))))

-- ---- the whole listing

pub totals_right : (s : List ℕ) (columns : ℕ) → ((i : ℕ) → i < cell_count s → (cell s i).tag < 256) → cell_count s ≤ 2048 → TotalsRight (listing s columns)
unfolding listing cells_of split
totals_right s columns tags_few h =
    let cells = cells_of s in
    let e = of_kind is_expression cells in
    let p = of_kind is_part cells in
    let n = of_kind is_node cells in
    let sum : e + p + n ≡ cell_count s = each_counted cells ∙ all_long s in
    let long : length (cell_texts 0 cells) ≡ cell_count s = texts_long 0 cells ∙ all_long s in
    let small : (i : ℕ) → i < 0 + cell_count s → (cell s i).tag < 256 = λ i low. tags_few i (omega arith) in
    let e_is = texts_counted is_expression (cell s) (cell_count s) 0 small in
    let p_is = texts_counted is_part (cell s) (cell_count s) 0 small in
    let n_is = texts_counted is_node (cell s) (cell_count s) 0 small in
    let words = totals_words e p n in
    let first_words = header_words (cell_count s) (length s) columns in
    record {
      header = header_text (cell_count s) (length s) columns;
      cells = cell_texts 0 cells;
      last = totals_text e p n;
      lines =
          ap (λ (l : List ℕ). split newline (l ++ (cell_lines 0 cells ++ totals cells))) (header_ends (cell_count s) (length s) columns)
          ∙ ap (split newline) (append_assoc (header_text (cell_count s) (length s) columns) (newline ∷ []) (cell_lines 0 cells ++ totals cells))
          ∙ split_at newline (header_text (cell_count s) (length s) columns) (cell_lines 0 cells ++ totals cells) (header_one_line (cell_count s) (length s) columns)
          ∙ ap (λ (ls : List (List ℕ)). header_text (cell_count s) (length s) columns ∷ ls)
          (lines_split 0 cells (totals cells)
          ∙ ap (λ (ls : List (List ℕ)). cell_texts 0 cells ++ ls) (ap (split newline) (totals_ends e p n) ∙ split_at newline (totals_text e p n) [] (totals_one_line e p n)));
      header_named = ap (λ (ws : List (List ℕ)). get_or ws 0 []) first_words;
      kinds_named = ap (λ (ws : List (List ℕ)). get_or ws 0 []) words;
      total_named = ap (λ (ws : List (List ℕ)). get_or ws 4 []) words;
      nothing_else = ap length words;
      expressions =
          ap (λ (ws : List (List ℕ)). number (get_or ws 1 [])) words ∙ number_read e (omega arith) ∙ ap (λ (m : ℕ). some m) (sym e_is);
      parts = ap (λ (ws : List (List ℕ)). number (get_or ws 2 [])) words ∙ number_read p (omega arith) ∙ ap (λ (m : ℕ). some m) (sym p_is);
      nodes = ap (λ (ws : List (List ℕ)). number (get_or ws 3 [])) words ∙ number_read n (omega arith) ∙ ap (λ (m : ℕ). some m) (sym n_is);
      total = ap (λ (ws : List (List ℕ)). number (get_or ws 5 [])) words ∙ number_read (e + p + n) (omega arith) ∙ ap (λ (m : ℕ). some m) (sum ∙ sym long);
      header_count =
          ap (λ (ws : List (List ℕ)). number (get_or ws 1 [])) first_words ∙ number_read (cell_count s) (omega arith) ∙ ap (λ (m : ℕ). some m) (sym long);
      sum = omega (arith, e_is, p_is, n_is, sum, long);
    }
