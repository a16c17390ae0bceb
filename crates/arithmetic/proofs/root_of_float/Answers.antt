-- `arithmetic::root_of_float` meets its contract: a root's pattern is read as a Float and written again.
use mathlib.Core.Path.{ap, ◌∙◌}
use Prim.Native.Nat.{ℕ}
use lib.Ieee as Ieee
use lib.Ieee.{binary64}
use Rattle.ieee754.specs.Ieee754.{square_root_bits}
use Rattle.ieee754.proofs.SquareRoot.{root_kept}
use Rattle.arithmetic.proofs.root_of_float.Goals as goal

pub returns : goal.returns
returns c =
    ap (Ieee.to_bits binary64) c.float_of_bits.ensures
    ∙ ap (λ (p : ℕ). Ieee.to_bits binary64 (Ieee.of_bits binary64 p)) (c.square_root_bits.ensures ∙ ap square_root_bits c.float_bits.ensures)
    ∙ root_kept (Ieee.to_bits binary64 c.args.x)
