use Rattle.words.proofs.Stands.{stands_in, stands_operand, stands_own, own_front}
use Rattle.std.proofs.lemmas.List.{length-take-le}
use Rattle.cells.specs.Cells.{cell_words}
use lib.ListN.{length}
use native.Mathlib.Omega.{arith}
use mathlib.Core.Path.{sym}
use Prim.Native.Nat.{◌-◌}
use Rattle.words.proofs.Expression.operand.Goals as goal

pub slice_bounds-result-count : goal.slice_bounds-result-count
slice_bounds-result-count c = let (h, k) = stands_in c.args.self.stands in omega arith

pub invariant_of-result : goal.invariant_of-result
invariant_of-result c = record { stands = stands_own (sym (own_front c.args.self.words.now (length c.args.self.words.now - cell_words))) (stands_operand c.args.self.stands c.requires) }

pub returns-clause-size : goal.returns-clause-size
returns-clause-size c = let (h, k) = stands_in c.args.self.stands in let l = length-take-le (length c.args.self.words.now - cell_words) c.args.self.words.now (omega arith) in omega arith
