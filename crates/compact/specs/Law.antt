-- What document 02, W-212, promises of the operation that drops text, for every list of bytes and every output. Proved in proofs/Proved.antt.
use Rattle.std.specs.Prelude.{ℕ, ◌+◌, ◌*◌, ◌≤◌, ◌<◌, ◌≡◌, ◌≢◌, true, false, cond, List, [], ◌∷◌, ◌++◌, map, length, take, drop}
use Rattle.value.specs.Meaning.{bytes_at}
use Rattle.sql.specs.Answer.{done, refused}
use Rattle.sql.specs.Plan.{Node}
use Rattle.sheet.specs.Parts.{edition}
use Rattle.sheet.specs.Check.{text, schema, plan, check}
use Rattle.sheet.specs.Operations.{Outcome, refuse}
use Rattle.sheet_laws.specs.Plan.{Bytes}
use Rattle.origins.specs.Origins.{map_answer}
use Rattle.sound.specs.HandedOut.{success}
use Rattle.sound.specs.Operations.{sheet_of}
use Rattle.compact.specs.Strings.{empty, among, stretch_of, Apart}
use Rattle.compact.specs.Slots.{slots, references}
use Rattle.compact.specs.Compact.{strings, kept_text, compacted, compact}
use Rattle.compact.specs.References.{read_plan, read_schema}

-- A sheet is handed out.
abbrev pub Succeeds : (s out : List ℕ) → Type 0
Succeeds s out = (compact s out).numbers.number ≡ 0

-- the sheet handed out
abbrev pub handed : (s out : List ℕ) → List ℕ
handed s out = sheet_of (compact s out)

-- "Answers: 2 to 10 and 15 as before; 14 if the text kept has over 8,192 bytes", in this order: check's refusals; 14, however short the output is; 15, with the bytes
-- needed; and no other. Each leaves the output as it was.
pub record Answers (s out : List ℕ) : Type 0 where
  pub as_check : (number place : ℕ) → plan s ≡ refused number place → compact s out ≡ refuse out number place
  pub too_long : (n : Node) → plan s ≡ done n → 8192 < length (kept_text s) → compact s out ≡ refuse out 14 0
  pub no_room : (n : Node) → plan s ≡ done n → length (kept_text s) ≤ 8192 → length out < length (compacted s) → compact s out ≡ refuse out 15 (length (compacted s))
  pub else : (n : Node) → plan s ≡ done n → length (kept_text s) ≤ 8192 → length (compacted s) ≤ length out → Succeeds s out

-- "Decoded plans are equal": read by their texts, however strings are spelled in the place of references.
abbrev pub PlansEqual : Type 0
PlansEqual =
    (s out : List ℕ) → Bytes s → Succeeds s out → (spell : List ℕ → ℕ)
    → map_answer (read_plan spell (text (handed s out))) (plan (handed s out)) ≡ map_answer (read_plan spell (text s)) (plan s)

-- The same of the tables and columns that its records say.
abbrev pub SchemasEqual : Type 0
SchemasEqual =
    (s out : List ℕ) → Bytes s → Succeeds s out → (spell : List ℕ → ℕ)
    → read_schema spell (text (handed s out)) (schema (handed s out)) ≡ read_schema spell (text s) (schema s)

-- A spelling that tells strings apart exists: with it, what is read is equal only where all strings are.
pub record Spelling : Type 0 where
  pub spell : List ℕ → ℕ
  pub apart : (t u : List ℕ) → Bytes t → Bytes u → spell t ≡ spell u → t ≡ u

-- "Compacting twice gives the same bytes": the sheet handed out is handed out again, with the same answer, into every output that has room for it.
abbrev pub TwiceTheSame : Type 0
TwiceTheSame =
    (s out again : List ℕ) → Bytes s → Succeeds s out → length (handed s out) ≤ length again
    → compact (handed s out) again ≡ record { numbers = (compact s out).numbers; output = handed s out ++ drop (length (handed s out)) again }

-- The strings that a sheet's records and cells refer to stand in a text where `place` says, and no two different ones share a byte. (An empty one has none.)
pub record StandApart (s t : List ℕ) (place : List ℕ → ℕ) : Type 0 where
  pub stand : (w : List ℕ) → empty w ≡ false → among w (strings s) ≡ true → take (length w) (drop (place w) t) ≡ w
  pub apart :
      (v w : List ℕ) → empty v ≡ false → empty w ≡ false → among v (strings s) ≡ true → among w (strings s) ≡ true → v ≢ w
      → Apart (stretch_of place v) (stretch_of place w)

-- "No text part without shared or overlapping strings of this set is shorter": the text handed out is one, its records and cells refer to the strings where they
-- stand so, in order, and each such text is at least as long.
pub record ShortestText (s out : List ℕ) : Type 0 where
  pub place : List ℕ → ℕ
  pub itself : StandApart s (text (handed s out)) place
  pub referred : references (slots (handed s out)) ≡ map (λ w. cond (empty w) 0 (place w + 65536 * length w)) (strings s)
  pub shortest : (t : List ℕ) (place : List ℕ → ℕ) → StandApart s t place → length (text (handed s out)) ≤ length t

abbrev pub Shortest : Type 0
Shortest = (s out : List ℕ) → Bytes s → Succeeds s out → ShortestText s out

-- The sheet handed out passes check with the counts of the sheet handed in, which are those answered, with place 0; it has its edition, its length is the one
-- answered, and bytes of the output behind it stay.
pub record PassesCheck (s out : List ℕ) : Type 0 where
  pub place_0 : (compact s out).numbers.place ≡ 0
  pub checks : check (handed s out) ≡ check s
  pub counts : check s ≡ success (compact s out).numbers.cells (compact s out).numbers.columns
  pub same_edition : edition (handed s out) ≡ edition s
  pub long : length (handed s out) ≡ (compact s out).numbers.length
  pub fits : (compact s out).numbers.length ≤ length out
  pub rest_stays : (compact s out).output ≡ handed s out ++ drop (compact s out).numbers.length out
  pub bytes : Bytes (handed s out)

abbrev pub Passes : Type 0
Passes = (s out : List ℕ) → Bytes s → Succeeds s out → PassesCheck s out

-- All of it.
pub record Compacts : Type 0 where
  pub answers : (s out : List ℕ) → Answers s out
  pub plans : PlansEqual
  pub schemas : SchemasEqual
  pub spelling : Spelling
  pub twice : TwiceTheSame
  pub minimal : Shortest
  pub passes : Passes
