-- The law between the editions, on bytes: for every list of bytes whose edition word is 2, every pass number and every output. Proved in proofs/Proved.antt.
use Rattle.std.specs.Prelude.{ℕ, ◌≡◌, List}
use Rattle.sql.specs.Plan.{Node}
use Rattle.sheet.specs.Parts.{edition}
use Rattle.sheet.specs.Check.{plan, check}
use Rattle.sheet.specs.Operations.{one_pass, all_five}
use Rattle.sheet_laws.specs.Plan.{Bytes}
use Rattle.origins.specs.Origins.{map_node_origins, map_answer}
use Rattle.sound.specs.Operations.{sheet_of}
use Rattle.editions.specs.Editions.{down, down_outcome}

-- a plan with its origins set to zero
abbrev pub zeroed : Node → Node
zeroed = map_node_origins (λ og. 0)

-- Taken down, a sheet stands for the same plan with its origins set to zero, or is refused with the same number and place.
abbrev pub PlanAlike : Type 0
PlanAlike = (s : List ℕ) → Bytes s → edition s ≡ 2 → plan (down s) ≡ map_answer zeroed (plan s)

-- The same answer, be it the counts or a refusal with its place.
abbrev pub CheckedAlike : Type 0
CheckedAlike = (s : List ℕ) → Bytes s → edition s ≡ 2 → check (down s) ≡ check s

-- To take the sheet down first, or what was put out afterwards, is the same, byte for byte, refusals and places included.
abbrev pub PassAlike : Type 0
PassAlike = (s : List ℕ) → Bytes s → edition s ≡ 2 → (k : ℕ) (out : List ℕ) → one_pass (down s) k out ≡ down_outcome (one_pass s k out)

abbrev pub FiveAlike : Type 0
FiveAlike = (s : List ℕ) → Bytes s → edition s ≡ 2 → (out : List ℕ) → all_five (down s) out ≡ down_outcome (all_five s out)

-- A sheet is answered in its own edition.
abbrev pub PassStays : Type 0
PassStays = (s : List ℕ) → Bytes s → (k : ℕ) (out : List ℕ) → (one_pass s k out).numbers.number ≡ 0 → edition (sheet_of (one_pass s k out)) ≡ edition s

abbrev pub FiveStays : Type 0
FiveStays = (s : List ℕ) → Bytes s → (out : List ℕ) → (all_five s out).numbers.number ≡ 0 → edition (sheet_of (all_five s out)) ≡ edition s
