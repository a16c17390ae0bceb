-- A lookup takes what it would by Equal's result: document 01's sentence, word for word.
use Rattle.std.specs.Prelude.{◌&&◌, ◌||◌, ◌≡◌, refl}
use Rattle.std.proofs.Common.{ap}
use Rattle.value.specs.Value.{Value}
use Rattle.value.specs.Comparison.{Comparison, Null, Found, Less, Equal, Greater, Unordered, NotComparable, compare, is_equal, answer, equal}
use Rattle.rows.specs.Reading.{is_null_value, is_nan_value, takes}
use Rattle.rows.specs.Equalities.{is_true_result}

pub found_equal : (c : Comparison) → is_equal c ≡ is_true_result (answer c (is_equal c))
found_equal Null = refl
found_equal (Found Less) = refl
found_equal (Found Equal) = refl
found_equal (Found Greater) = refl
found_equal (Found Unordered) = refl
found_equal (Found NotComparable) = refl

pub takes_by_equal : (constant v : Value)
    → takes constant v ≡ ((is_null_value constant && is_null_value v) || ((is_nan_value constant && is_nan_value v) || is_true_result (equal constant v)))
takes_by_equal constant v =
    ap (λ b. (is_null_value constant && is_null_value v) || ((is_nan_value constant && is_nan_value v) || b)) (found_equal (compare constant v))
