-- Contracts of what asks whether a node can't produce anything (crate sql, Optimizer).
use Rattle.std.specs.Prelude.{ℕ, Bool, ◌≡◌, List}
use Rattle.std.proofs.Math.Option.{Option}
use Rattle.sql.specs.Expression.{Expression}
use Rattle.sql.specs.Plan.{Over, Node, over}
use Rattle.sql.specs.Optimizer.{verdict, optional_verdict, is_never, is_nothing, is_empty}
use Rattle.cells.specs.Cells.{Part}
use Rattle.words.specs.Words.{expression_words, optional_words}
use Rattle.words.specs.Place.{NodeHere}

-- r says whether the expression that ends before word hi is never true.
abbrev pub NeverTrue : List ℕ → ℕ → Bool → Type 0
NeverTrue s hi r = (lo : ℕ) (e : Expression) → Part s lo hi (expression_words e) → r ≡ is_never (verdict e)

abbrev pub OptionalNever : List ℕ → ℕ → ℕ → Bool → Type 0
OptionalNever s lo hi r = (e : Option Expression) → Part s lo hi (optional_words e) → r ≡ is_never (optional_verdict e)

-- r says whether the source of the node there is a Nothing.
abbrev pub SourceNothing : List ℕ → ℕ → ℕ → Bool → Type 0
SourceNothing s lo hi r = (og : ℕ) (o : Over) (n : Node) → NodeHere s lo hi (over og o n) → r ≡ is_nothing n

abbrev pub IsEmpty : List ℕ → ℕ → ℕ → Bool → Type 0
IsEmpty s lo hi r = (p : Node) → NodeHere s lo hi p → r ≡ is_empty p
