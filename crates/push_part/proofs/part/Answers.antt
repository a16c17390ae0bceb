use Prim.Native.Nat.{◌-◌}
use native.Mathlib.Omega.{arith}
use Rattle.push_part.proofs.Parts.{left_at, right_at, part_left, part_right_side}
use Rattle.conjuncts.proofs.Appending.{gathered_none}
use Rattle.push_part.proofs.Gathering.{left_gathered, right_gathered}
use Rattle.push_part.proofs.part.Goals as goal

pub for_right-m-requires : goal.for_right-m-requires
for_right-m-requires c = record { expression_at = c.requires.expression_at; gathered_at = gathered_none c.args.g.now 0 }

pub push_left-requires : goal.push_left-requires
push_left-requires c = left_at c.args.origin c.args.n (right_gathered c.requires.g_len (omega (arith, c.shared_slice_known-1.given (c.args.end - 1))) c.args.origin c.args.n c.for_right-m.ensures) c.requires.expression_at

pub for_left-m-requires : goal.for_left-m-requires
for_left-m-requires c = record { expression_at = c.requires.expression_at; gathered_at = gathered_none c.args.g.now 0 }

pub push_right-requires : goal.push_right-requires
push_right-requires c = right_at c.args.origin c.args.n (left_gathered c.requires.g_len (omega (arith, c.shared_slice_known-1.given (c.args.end - 1))) c.args.origin c.args.n c.for_left-m.ensures) c.requires.expression_at

pub shape_of-g-in-Left : goal.shape_of-g-in-Left
shape_of-g-in-Left c = c.for_right-m.auto.d

pub shape_of-d-in-Left : goal.shape_of-d-in-Left
shape_of-d-in-Left c = c.push_left.auto.d

pub returns-in-Left : goal.returns-in-Left
returns-in-Left c = part_left c.args.origin c.args.n c.args.shift c.in-Left.is (right_gathered c.requires.g_len (omega (arith, c.shared_slice_known-1.given (c.args.end - 1))) c.args.origin c.args.n c.for_right-m.ensures) c.push_left.ensures

pub shape_of-g-in-Right : goal.shape_of-g-in-Right
shape_of-g-in-Right c = c.for_left-m.auto.d

pub shape_of-d-in-Right : goal.shape_of-d-in-Right
shape_of-d-in-Right c = c.push_right.auto.d

pub returns-in-Right : goal.returns-in-Right
returns-in-Right c = part_right_side c.args.origin c.args.n c.args.shift c.in-Right.is (left_gathered c.requires.g_len (omega (arith, c.shared_slice_known-1.given (c.args.end - 1))) c.args.origin c.args.n c.for_left-m.ensures) c.push_right.ensures
