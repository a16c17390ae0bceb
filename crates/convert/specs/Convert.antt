-- The operation `convert`, a sheet carried to the other edition, as a total function of the bytes handed in, the target edition and the output buffer.
-- Document 02, W-209: "upward, origins are the cell numbers; downward, they become zero. Answers: checks 2 to 10 as before; 21, the target edition is neither 1
-- nor 2 or is the sheet's own, place 0, after 10; a short output is 15."
use Rattle.std.specs.Prelude.{ℕ, Bool, true, false, not, ◌&&◌, ◌||◌, cond, List, ◌++◌, leb, eqb, length, drop}
use Rattle.sheet.specs.Parts.{edition}
use Rattle.sheet.specs.Check.{Numbers, check}
use Rattle.sheet.specs.Operations.{Outcome, refuse}
use Rattle.editions.specs.Editions.{in_edition}

-- The origin that cell number i is given in an edition.
abbrev pub origin_in : (target i : ℕ) → ℕ
origin_in target i = cond (eqb target 1) 0 i

-- The sheet in the target edition: each cell's origin and the edition word are set, every other byte stays.
abbrev pub carried : (target : ℕ) → List ℕ → List ℕ
carried target s = in_edition target (origin_in target) s

-- The target is not the sheet's own edition, and is one.
abbrev pub other_edition : (s : List ℕ) (target : ℕ) → Bool
other_edition s target = not (eqb target (edition s)) && (eqb target 1 || eqb target 2)

-- Of a sheet with these counts: it is written over the output's first bytes, and the bytes after it stay. It stays as long as it was, so refusal 15 gives its length.
abbrev pub put_out : (s : List ℕ) (target : ℕ) (out : List ℕ) (counts : Numbers) → Bool → Outcome
put_out s target out counts true =
    record {
      numbers = record { number = 0; place = 0; length = length s; cells = counts.cells; columns = counts.columns };
      output = carried target s ++ drop (length s) out;
    }
put_out s target out counts false = refuse out 15 (length s)

-- A refusal of `check` is handed on, and the output stays; then 21, then 15.
abbrev pub by_check : (s : List ℕ) (target : ℕ) (out : List ℕ) → Numbers → Outcome
by_check s target out answer =
    cond (eqb answer.number 0)
    (cond (other_edition s target) (put_out s target out answer (leb (length s) (length out))) (refuse out 21 0))
    (record { numbers = answer; output = out })

-- The operation: every list of bytes, every target and every output gets a sheet of the target edition or one refusal.
unfoldable pub convert : (s : List ℕ) (target : ℕ) (out : List ℕ) → Outcome
convert s target out = by_check s target out (check s)
