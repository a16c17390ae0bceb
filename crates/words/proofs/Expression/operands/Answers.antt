use Rattle.words.proofs.Stands.{stands_in, stands_last, stands_left, stands_right, stands_own, own_front, own_length}
use Rattle.std.proofs.lemmas.List.{length-take-le}
use Rattle.cells.specs.Cells.{cell_words}
use lib.ListN.{length}
use native.Mathlib.Omega.{arith}
use mathlib.Core.Path.{refl, sym}
use Prim.Native.Nat.{◌-◌}
use Rattle.words.proofs.Expression.operands.Goals as goal

pub overflow_sub-end : goal.overflow_sub-end
overflow_sub-end c = let (h, k) = stands_in c.args.self.stands in omega arith

pub start-mid-requires : goal.start-mid-requires
start-mid-requires c = stands_last c.args.self.stands c.requires.0 c.requires.1

pub invariant_of-left : goal.invariant_of-left
invariant_of-left c = record { stands = stands_own (sym (own_front c.args.self.words.now c.start-mid.result)) (stands_left c.args.self.stands c.requires.0 c.requires.1 c.start-mid.ensures) }

pub invariant_of-right : goal.invariant_of-right
invariant_of-right c = record { stands = stands_own refl (stands_right c.args.self.stands c.requires.0 c.requires.1 c.start-mid.ensures) }

pub returns-clause-size : goal.returns-clause-size
returns-clause-size c =
    let (h, k) = stands_in (stands_left c.args.self.stands c.requires.0 c.requires.1 c.start-mid.ensures) in
    let (g, l) = stands_in (stands_right c.args.self.stands c.requires.0 c.requires.1 c.start-mid.ensures) in
    let a = length-take-le c.start-mid.result c.args.self.words.now k in
    let b = own_length c.args.self.words.now c.start-mid.result (length c.args.self.words.now - cell_words) (omega arith) l in
    omega arith
