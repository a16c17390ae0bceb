-- What the code's helpers for Or(x, z) write.
use Rattle.std.specs.Prelude.{ℕ, List}
use Rattle.sql.specs.Expression.{Expression, or_both, or_right, distribute, conjuncts}
use Rattle.cells.specs.Room.{Wrote}
use Rattle.words.specs.Words.{expression_words}
use Rattle.words.specs.Place.{ExpressionHere}

-- f of two expressions, each where it stands, is appended or has no room
abbrev pub MapsTwo : (Expression → Expression → Expression) → List ℕ → ℕ → ℕ → List ℕ → ℕ → ℕ → List ℕ → ℕ → ℕ → List ℕ → Type 0
MapsTwo f s a x t b z d at n d' = (e g : Expression) → ExpressionHere s a x e → ExpressionHere t b z g → Wrote d at (expression_words (f e g)) n d'

-- Or(x, z) spread over the Ands of both, and over those of z alone
abbrev pub spread : ℕ → Expression → Expression → Expression
spread new x z = or_both new (conjuncts x) (conjuncts z)

abbrev pub spread_right : ℕ → Expression → Expression → Expression
spread_right new x z = or_right new (distribute x) (conjuncts z)
