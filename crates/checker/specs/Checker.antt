-- The code's answer, set beside the definition of crate `sheet`.
use Rattle.std.specs.Prelude.{ℕ, List, Result, Ok, Err}
use Rattle.sql.specs.Plan.{Node}
use Rattle.sql.specs.Answer.{Answer, refused, ◌>>=◌}
use Rattle.sheet.specs.Parts.{length_ok, edition_ok, parts_ok, bad_record}
use Rattle.sheet.specs.Check.{Numbers, test, unfound, in_scope, schema}
use Rattle.sheet.specs.Operations.{Outcome}
use Rattle.structure.specs.Structure.{plan_of}
use Rattle.checker.specs.declared.Answer as Code
use Rattle.checker.specs.declared.Counts.{Counts}
use Rattle.checker.specs.declared.refusals.Refusal.{Refusal}
use Rattle.checker.specs.Refusals.{number_of, place_of, refusal_of}

abbrev pub numbers : Code.Answer → Numbers
numbers r = record { number = r.number; place = r.place; length = r.length; cells = r.cells; columns = r.columns }

-- What the code returns, and what its output holds then.
abbrev pub outcome : Code.Answer → List ℕ → Outcome
outcome a out = record { numbers = numbers a; output = out }

-- The check's answer in numbers.
abbrev pub answered : Result Counts Refusal → Numbers
answered (Ok c) = record { number = 0; place = 0; length = 0; cells = c.cells; columns = c.columns }
answered (Err r) = refusal_of r

-- The definition's answer, where one of its tests refuses, or else goes on.
abbrev pub unless_refused : Result (Unit {0}) Refusal → Answer Node → Answer Node
unless_refused (Ok passed) next = next
unless_refused (Err r) next = refused (number_of r) (place_of r)

-- Refusals 2 to 5, or what follows.
abbrev pub parts_checked : List ℕ → Answer Node → Answer Node
parts_checked s next = test (length_ok s) 2 (test (edition_ok s) 3 (test (parts_ok s) 4 (unfound (bad_record s) 5 next)))

-- Refusals 8 to 10 of a sheet that 2 to 7 let by, or its plan.
abbrev pub scoped : List ℕ → Answer Node
scoped s = plan_of s >>= in_scope (schema s)
