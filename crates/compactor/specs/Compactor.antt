-- What `compact` writes, set beside the definition of crate `compact`.
use Rattle.std.specs.Prelude.{ℕ, ◌≤◌, ◌≡◌, List, [], ◌∷◌, map, leb, length, take, drop, get_or, Result, Ok, Err}
use Rattle.value.specs.Meaning.{bytes_at}
use Rattle.sql.specs.Answer.{done}
use Rattle.sql.specs.Plan.{Node, columns}
use Rattle.sheet.specs.Check.{Numbers, schema, plan}
use Rattle.sheet.specs.Operations as Sheet
use Rattle.sheet_laws.specs.Fits.{All}
use Rattle.compact.specs.Strings as Strings
use Rattle.compact.specs.Strings.{joined, reference_to}
use Rattle.compact.specs.Slots.{Slot, number, reference, references, slots}
use Rattle.compact.specs.Compact.{kept_text, compacted, handed_out}
use Rattle.checker.specs.declared.Counts.{Counts}
use Rattle.checker.specs.declared.refusals.Refusal.{Refusal}
use Rattle.checker.specs.Refusals.{refusal_of}
use Rattle.gather.specs.Gather.{Inside, held}
use Rattle.gather.specs.declared.Kept.{Kept}

-- Words with their references replaced, in order, by those of a list.
abbrev pub fill : List Slot → List ℕ → List Slot
fill [] fs = []
fill (number v ∷ xs) fs = number v ∷ fill xs fs
fill (reference r ∷ xs) fs = reference (get_or fs 0 0) ∷ fill xs (drop 1 fs)

-- The strings kept are bytes of s, and out has room for these.
pub record TextAt (s : List ℕ) (kept : List Kept) (out : List ℕ) : Type 0 where
  pub inside : All (λ k. Inside s k.reference) kept
  pub room : length (joined (held s kept)) ≤ length out

-- An accepted sheet whose plan has so many columns, and its gathered strings: those that are kept, and a new reference for each.
pub record Ready (s : List ℕ) (bytes n : ℕ) (kept : List Kept) (fresh : List ℕ) : Type 0 where
  pub node : Node
  pub stands_for : plan s ≡ done node
  pub counts : n ≡ columns (schema s) node
  pub inside : All (λ k. Inside s k.reference) kept
  pub strings : held s kept ≡ Strings.kept (map (bytes_at s) (references (slots s)))
  pub refers : take (length (references (slots s))) fresh ≡ map (λ r. reference_to (Strings.kept (map (bytes_at s) (references (slots s)))) (bytes_at s r)) (references (slots s))
  pub bytes_are : bytes ≡ length (kept_text s)
  pub short : bytes ≤ 8192
  pub fresh_long : 4368 ≤ length fresh

-- What the code returns, in numbers, and what the output holds then: of a success the length of the compacted sheet, and what it counts.
abbrev pub counted : Result (ℕ × Counts) Refusal → Numbers
counted (Ok p) = record { number = 0; place = 0; length = p.0; cells = p.1.cells; columns = p.1.columns }
counted (Err r) = refusal_of r

abbrev pub returned : Result (ℕ × Counts) Refusal → List ℕ → Sheet.Outcome
returned r out = record { numbers = counted r; output = out }

-- The compacted sheet is written, or refusal 15 is given.
abbrev pub Writes : (s out : List ℕ) → Result (ℕ × Counts) Refusal → List ℕ → Type 0
Writes s out a out' = (node : Node) → plan s ≡ done node → returned a out' ≡ Sheet.written s out node (compacted s) (leb (length (compacted s)) (length out))

-- An accepted sheet whose plan has n columns.
pub record Counted (s : List ℕ) (n : ℕ) : Type 0 where
  pub node : Node
  pub stands_for : plan s ≡ done node
  pub counts : n ≡ columns (schema s) node

-- The definition, of an accepted sheet.
abbrev pub Runs : (s out : List ℕ) → Result (ℕ × Counts) Refusal → List ℕ → Type 0
Runs s out a out' = (node : Node) → plan s ≡ done node → returned a out' ≡ handed_out s out (done node)
