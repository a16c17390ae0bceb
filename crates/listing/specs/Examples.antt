-- The reader of listings on small texts, by computing: what is a line, a word, a number, and whether a line is counted by its tag.
use Rattle.std.specs.Prelude.{◌≡◌, refl, true, false, [], ◌∷◌, map, ltb, leb}
use Rattle.std.proofs.Math.Option.{none, some}
use Rattle.listing.specs.ReadBack.{split, word, number, number_from, tagged}

-- "a", newline, "b", newline: two lines, and nothing behind the last newline
lines_split : split 10 (97 ∷ 10 ∷ 98 ∷ 10 ∷ []) ≡ (97 ∷ []) ∷ (98 ∷ []) ∷ [] ∷ []
unfolding split
lines_split = refl

-- "0 45 1": its words, and none behind them; two spaces have an empty word between them
words_split : map (λ i. word i (48 ∷ 32 ∷ 52 ∷ 53 ∷ 32 ∷ 49 ∷ [])) (0 ∷ 1 ∷ 2 ∷ 3 ∷ []) ≡ (48 ∷ []) ∷ (52 ∷ 53 ∷ []) ∷ (49 ∷ []) ∷ [] ∷ []
unfolding split
words_split = refl

empty_word : word 1 (48 ∷ 32 ∷ 32 ∷ 49 ∷ []) ≡ []
unfolding split
empty_word = refl

-- "0", "45", "2048", nothing, "4a", "-1"
numbers : map number ((48 ∷ []) ∷ (52 ∷ 53 ∷ []) ∷ (50 ∷ 48 ∷ 52 ∷ 56 ∷ []) ∷ [] ∷ (52 ∷ 97 ∷ []) ∷ (45 ∷ 49 ∷ []) ∷ [])
    ≡ some 0 ∷ some 45 ∷ some 2048 ∷ none ∷ none ∷ none ∷ []
unfolding number_from
numbers = refl

-- "7 39 0" is below 40 and "7 40 0" is not, "7 50 0" is from 50 up and "7 49 0" is not; a line without a tag is neither
tags_tested : map (λ line. tagged (λ tag. ltb tag 40) line) ((55 ∷ 32 ∷ 51 ∷ 57 ∷ 32 ∷ 48 ∷ []) ∷ (55 ∷ 32 ∷ 52 ∷ 48 ∷ 32 ∷ 48 ∷ []) ∷ (55 ∷ []) ∷ []) ≡ true ∷ false ∷ false ∷ []
unfolding split number_from
tags_tested = refl

nodes_tested : map (λ line. tagged (λ tag. leb 50 tag) line) ((55 ∷ 32 ∷ 52 ∷ 57 ∷ 32 ∷ 48 ∷ []) ∷ (55 ∷ 32 ∷ 53 ∷ 48 ∷ 32 ∷ 48 ∷ []) ∷ (55 ∷ []) ∷ []) ≡ false ∷ true ∷ false ∷ []
unfolding split number_from
nodes_tested = refl
