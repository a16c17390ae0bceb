-- The examples are right: each result is computed by the program logic's library, a root by its definition, and by the theorems that is what IEEE 754 asks for. Assumes nothing.
use mathlib.Core.Path.{◌≡◌, refl, ap, subst}
use mathlib.Core.List.{List, [], ◌∷◌, map}
use Prim.Native.Nat.{ℕ}
use lib.Ieee as Ieee
use lib.Ieee.{binary64, of_bits, to_bits}
use Rattle.ieee754.specs.Ieee754.{Is, read, sum, difference, product, quotient, square_root, square_root_bits, root_bits, units, of_integer}
use Rattle.ieee754.specs.Examples.{Example, integer, plus, minus, times, over, root, Right, examples, All}
use Rattle.ieee754.proofs.Agreement.{add_is_sum, sub_is_difference, mul_is_product, div_is_quotient, square_root_is_asked, ofInt_is_integer}

computed : Example → ℕ
computed (integer i r) = to_bits binary64 (Ieee.of_int binary64 i)
computed (plus x y r) = to_bits binary64 (Ieee.add binary64 (of_bits binary64 x) (of_bits binary64 y))
computed (minus x y r) = to_bits binary64 (Ieee.sub binary64 (of_bits binary64 x) (of_bits binary64 y))
computed (times x y r) = to_bits binary64 (Ieee.mul binary64 (of_bits binary64 x) (of_bits binary64 y))
computed (over x y r) = to_bits binary64 (Ieee.div binary64 (of_bits binary64 x) (of_bits binary64 y))
computed (root x r) = square_root_bits x

stated : Example → ℕ
stated (integer i r) = r
stated (plus x y r) = r
stated (minus x y r) = r
stated (times x y r) = r
stated (over x y r) = r
stated (root x r) = r

abbrev first : List ℕ → ℕ
first [] = 0
first (n ∷ l) = n

abbrev rest : List ℕ → List ℕ
rest [] = []
rest (n ∷ l) = l

right : (e : Example) → computed e ≡ stated e → Right e
unfolding computed stated
right (integer i r) h = subst (Is (of_integer i)) h (ofInt_is_integer i)
right (plus x y r) h = subst (Is (sum (read x) (read y))) h (add_is_sum x y)
right (minus x y r) h = subst (Is (difference (read x) (read y))) h (sub_is_difference x y)
right (times x y r) h = subst (Is (product (read x) (read y))) h (mul_is_product x y)
right (root x r) h = subst (Is (square_root (read x))) h (square_root_is_asked x)
right (over x y r) h = subst (Is (quotient (read x) (read y))) h (div_is_quotient x y)

all_right : (l : List Example) → map computed l ≡ map stated l → All Right l
all_right [] h = tt
all_right (e ∷ l) h = (right e (ap first h), all_right l (ap rest h))

pub examples_right : All Right examples
unfolding computed stated examples Ieee.of_int Ieee.add Ieee.sub Ieee.mul Ieee.div of_bits to_bits read units root_bits
examples_right = all_right examples refl
