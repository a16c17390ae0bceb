-- The truth tables as ISO/IEC 9075-2 prints them, with the operands in the order True, False, Unknown: a line for each left operand, a column for
-- each right one.
use Rattle.std.specs.Prelude.{◌≡◌, refl, List, [], ◌∷◌}
use Rattle.value.specs.Value.{Truth, False, Unknown, True}
use Rattle.value.specs.Logic.{not, and, or}

-- what an operator gives at each operand
abbrev pub line : (Truth → Truth) → List Truth
line f = f True ∷ f False ∷ f Unknown ∷ []

abbrev pub table : (Truth → Truth → Truth) → List (List Truth)
table f = line (f True) ∷ line (f False) ∷ line (f Unknown) ∷ []

pub not_table : line not ≡ (False ∷ True ∷ Unknown ∷ [])
not_table = refl

pub and_table : table and ≡
    ((True ∷ False ∷ Unknown ∷ [])
    ∷ (False ∷ False ∷ False ∷ [])
    ∷ (Unknown ∷ False ∷ Unknown ∷ [])
    ∷ [])
and_table = refl

pub or_table : table or ≡
    ((True ∷ True ∷ True ∷ [])
    ∷ (True ∷ False ∷ Unknown ∷ [])
    ∷ (True ∷ Unknown ∷ Unknown ∷ [])
    ∷ [])
or_table = refl
