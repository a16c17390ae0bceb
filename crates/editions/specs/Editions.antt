-- Sheets of the two editions as bytes. Document 02, W-208: "With origins set to zero and the edition word to 1, results equal edition 1's."
use Rattle.std.specs.Prelude.{ℕ, zero, suc, ◌+◌, ◌-◌, ◌/◌, ◌%◌, List, [], ◌∷◌, ◌++◌, length, drop}
use Rattle.std.proofs.lemmas.List.Edits.{sets}
use Rattle.sheet.specs.Bytes.{bytes}
use Rattle.sheet.specs.Parts.{cells_at, cell_count, record_at}
use Rattle.sheet.specs.Operations.{Outcome}
use Rattle.sound.specs.Operations.{sheet_of}

-- the two bytes of an origin
abbrev pub origin_bytes : ℕ → List ℕ
origin_bytes og = og % 256 ∷ og / 256 ∷ []

-- Bytes 2 and 3 of each of the k cells from number i on are set to the origin that f gives that number. The cells start at byte `at`.
abbrev pub with_origins : (f : ℕ → ℕ) (at i k : ℕ) → List ℕ → List ℕ
with_origins f at i zero s = s
with_origins f at i (suc k) s = with_origins f at (suc i) k (sets s (record_at at i + 2) (origin_bytes (f i)))

-- A sheet carried to the edition e: the origin of each cell is set, and the edition word, 8 bytes before the end. Every other byte stays.
unfoldable pub in_edition : (e : ℕ) (f : ℕ → ℕ) → List ℕ → List ℕ
unfolding bytes
in_edition e f s = sets (with_origins f (cells_at s) 0 (cell_count s) s) (length s - 8) (bytes e)

-- with origins set to zero and the edition word to 1
abbrev pub down : List ℕ → List ℕ
down s = in_edition 1 (λ i. 0) s

-- What an operation returned and put out, with the sheet that it put out taken down. The numbers stay, the bytes behind the sheet too, and a refusal, which
-- puts out none, stays as it is.
abbrev pub down_outcome : Outcome → Outcome
down_outcome o = record { numbers = o.numbers; output = down (sheet_of o) ++ drop o.numbers.length o.output }
