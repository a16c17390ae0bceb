use Rattle.std.proofs.Common.{rules}
use mathlib.Core.Path.{refl}
use Rattle.words.proofs.Stands.{here_own}
use Rattle.first_lookup.proofs.find_one.Goals as goal

pub returns-in_err-column : goal.returns-in_err-column
returns-in_err-column c = λ e u. let h = c.is_column_lookup.ensures e (here_own refl u) in search rules

pub returns : goal.returns
returns c = λ e u. let h = c.is_column_lookup.ensures e (here_own refl u) in search rules
