-- What `gather` holds of the strings that are kept, set beside the definitions of crate `compact`.
use Rattle.std.specs.Prelude.{ℕ, suc, ◌+◌, ◌-◌, ◌*◌, ◌≤◌, ◌<◌, ◌≡◌, ◌≢◌, cond, List, [], ◌∷◌, map, length, take, drop, Option, None, Some, Result, Ok, Err}
use Rattle.value.specs.Meaning.{offset, text_length, bytes_at}
use Rattle.sheet.specs.Bytes.{word}
use Rattle.sheet_laws.specs.Fits.{All}
use Rattle.compact.specs.Strings as Strings
use Rattle.compact.specs.Strings.{same, add, joined, reference_to}
use Rattle.gather.specs.declared.Total.{Total}
use Rattle.gather.specs.declared.TooLong.{TooLong}
use Rattle.gather.specs.declared.Kept.{Kept}

-- n bytes from byte `at` on
abbrev pub stretch : (s : List ℕ) (at n : ℕ) → List ℕ
stretch s at n = take n (drop at s)

-- the number of 8 bytes that starts at byte i
abbrev pub eight : List ℕ → ℕ → ℕ
eight s i = word s i + 4294967296 * word s (i + 4)

-- the first eight bytes of a string as one number; what is read past its end counts as 0
abbrev pub mark_of : List ℕ → ℕ
mark_of t = eight t 0

-- The n bytes from a on and the n from b on begin alike with r bytes; the next eight, if there are as many, differ.
pub record Begins (s : List ℕ) (a b n r : ℕ) : Type 0 where
  pub within : r ≤ n
  pub rest : same (stretch s a n) (stretch s b n) ≡ same (stretch s (a + r) (n - r)) (stretch s (b + r) (n - r))
  pub differ : r + 8 ≤ n → eight s (a + r) ≢ eight s (b + r)

-- A reference refers to bytes of s, and is a number of 4 bytes.
pub record Inside (s : List ℕ) (r : ℕ) : Type 0 where
  pub within : offset r + text_length r ≤ length s
  pub small : r < 4294967296

-- the place of the first string that is t, or their number
abbrev pub index_in : List (List ℕ) → List ℕ → ℕ
index_in [] t = 0
index_in (k ∷ ks) t = cond (same k t) 0 (suc (index_in ks t))

-- where each string starts if they stand one behind the other from byte o on
abbrev pub starts : ℕ → List (List ℕ) → List ℕ
starts o [] = []
starts o (k ∷ ks) = o ∷ starts (o + length k) ks

-- the strings that are kept
abbrev pub held : (s : List ℕ) (kept : List Kept) → List (List ℕ)
held s kept = map (λ k. bytes_at s k.reference) kept

-- Strings of s are kept: a reference to each, its first eight bytes, and where it starts in the new text.
pub record Holds (s : List ℕ) (kept : List Kept) : Type 0 where
  pub inside : All (λ k. Inside s k.reference) kept
  pub marks_are : map (λ k. k.mark) kept ≡ map mark_of (held s kept)
  pub places_are : map (λ k. k.place) kept ≡ starts 0 (held s kept)

-- The place of the first string that is t, or none is.
abbrev pub Finds : List (List ℕ) → List ℕ → Option ℕ → Type 0
Finds ks t None = length ks ≤ index_in ks t
Finds ks t (Some j) = (j < length ks) × (j ≡ index_in ks t)

-- What `place` leaves for a reference r: the strings held are those before with r's added, with so many bytes, and the new reference is the one to it.
pub record Fits (s : List ℕ) (kept : List Kept) (r : ℕ) (kept' : List Kept) (t : Total) (reference : ℕ) : Type 0 where
  pub within : t.count ≤ length kept'
  pub strings : held s (take t.count kept') ≡ add (held s kept) (bytes_at s r)
  pub holds : Holds s (take t.count kept')
  pub one : t.count ≤ suc (length kept)
  pub bytes : t.bytes ≡ length (joined (add (held s kept) (bytes_at s r)))
  pub short : t.bytes ≤ 8192
  pub refers : reference ≡ reference_to (add (held s kept) (bytes_at s r)) (bytes_at s r)

-- The same, or that they have over 8,192 bytes.
abbrev pub Places : (s : List ℕ) (kept : List Kept) (r : ℕ) (kept' : List Kept) → Result (Total × ℕ) TooLong → Type 0
Places s kept r kept' (Ok p) = Fits s kept r kept' p.0 p.1
Places s kept r kept' (Err e) = 8192 < length (joined (add (held s kept) (bytes_at s r)))

-- What `gather` leaves for references rs, if their strings have at most 8,192 bytes together.
pub record Gathers (s rs : List ℕ) (kept : List Kept) (fresh : List ℕ) (t : Total) : Type 0 where
  pub within : t.count ≤ length kept
  pub inside : All (λ k. Inside s k.reference) (take t.count kept)
  pub strings : held s (take t.count kept) ≡ Strings.kept (map (bytes_at s) rs)
  pub refers : take (length rs) fresh ≡ map (λ r. reference_to (Strings.kept (map (bytes_at s) rs)) (bytes_at s r)) rs
  pub bytes : t.bytes ≡ length (joined (Strings.kept (map (bytes_at s) rs)))
  pub short : t.bytes ≤ 8192

-- The same, or that they have over 8,192 bytes.
abbrev pub Gathered : (s rs : List ℕ) (kept : List Kept) (fresh : List ℕ) → Result Total TooLong → Type 0
Gathered s rs kept fresh (Ok t) = Gathers s rs kept fresh t
Gathered s rs kept fresh (Err e) = 8192 < length (joined (Strings.kept (map (bytes_at s) rs)))
