use native.Mathlib.Omega.{arith}
use Rattle.ieee754.proofs.RootDigits.{one_more, pattern_is}
use Rattle.ieee754.proofs.root_of_digits.Goals as goal

-- `ieee754::root_of_digits` meets its contract: the whole root makes the nearest pattern. Assumes nothing.

pub overflow_mul-m : goal.overflow_mul-m
overflow_mul-m c = let l = one_more c.requires in record { fits = omega arith }

pub whole_root-root-requires : goal.whole_root-root-requires
whole_root-root-requires c = one_more c.requires

pub returns : goal.returns
returns c = pattern_is c.requires c.whole_root-root.ensures
