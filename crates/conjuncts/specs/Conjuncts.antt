-- Conjuncts in a slice of words, joined by And as and_vec joins them, and what a function that appends some has done.
use Rattle.std.specs.Prelude.{ℕ, Bool, not, ◌&&◌, ◌≡◌, List, [], ◌∷◌, length}
use Rattle.std.proofs.Math.Option.{Option, none, some}
use Rattle.sql.specs.Expression.{Expression, and, ands, shift_column_down}
use Rattle.sql.specs.Optimizer.{ref_left, ref_right, cons_if, for_left, for_right, for_both, flat_map}
use Rattle.cells.specs.Cells.{Part}
use Rattle.cells.specs.Room.{Wrote}
use Rattle.words.specs.Words.{expression_words, optional_words}
use Rattle.words.specs.Place.{ExpressionHere}
use Rattle.conjuncts.specs.declared.Destination.{Destination}

-- one more conjunct, and more of them in order; of none and xs this is and-vec xs. Each And has the origin `new`.
abbrev pub and_then : ℕ → Option Expression → Expression → Option Expression
and_then new none x = some x
and_then new (some a) x = some (and new a x)

abbrev pub and_onto : ℕ → Option Expression → List Expression → Option Expression
and_onto new acc [] = acc
and_onto new acc (x ∷ xs) = and_onto new (and_then new acc x) xs

-- Some conjuncts, or none, were written to d from word `from` up to `at`, or had no room.
pub record GatheredAt (d : List ℕ) (from at : ℕ) : Type 0 where
  pub d₀ : List ℕ
  pub acc : Option Expression
  pub same : length d ≡ length d₀
  pub wrote : Wrote d₀ from (optional_words acc) at d

-- Whatever conjuncts stood in d from word `from` up to `at`, the conjuncts xs now stand behind them up to n, each under an And with the origin `new`; or there is
-- no room, and n is past the end.
abbrev pub Appends : ℕ → List ℕ → ℕ → ℕ → List Expression → ℕ → List ℕ → Type 0
Appends new d from at xs n d' = (d₀ : List ℕ) (acc : Option Expression) → length d ≡ length d₀
    → Wrote d₀ from (optional_words acc) at d → Wrote d₀ from (optional_words (and_onto new acc xs)) n d'

-- Some conjuncts, or none, were written there up to `at`, and an expression behind them up to m, or they had no room.
pub record JoinableAt (d : List ℕ) (from at m : ℕ) : Type 0 where
  pub d₁ : List ℕ
  pub gathered : GatheredAt d₁ from at
  pub x : Expression
  pub same : length d ≡ length d₁
  pub wrote : Wrote d₁ at (expression_words x) m d

-- Whatever conjuncts stood there up to `at`, and whatever expression was written behind them up to m, that is one more conjunct now. The And has the origin `new`.
abbrev pub Joins : ℕ → List ℕ → ℕ → ℕ → ℕ → ℕ → List ℕ → Type 0
Joins new d from at m n d' = (d₀ d₁ : List ℕ) (acc : Option Expression) (x : Expression) → length d₁ ≡ length d₀ → length d ≡ length d₁
    → Wrote d₀ from (optional_words acc) at d₁ → Wrote d₁ at (expression_words x) m d → Wrote d₀ from (optional_words (and_then new acc x)) n d'

-- f of the expression that stands in s from lo up to hi is appended as conjuncts; and f of each of its conjuncts, in order. Each And has the origin `new`.
abbrev pub AppendsEach : ℕ → (Expression → List Expression) → List ℕ → ℕ → ℕ → List ℕ → ℕ → ℕ → ℕ → List ℕ → Type 0
AppendsEach new f s lo hi d from at n d' = (e : Expression) → ExpressionHere s lo hi e → Appends new d from at (f e) n d'

abbrev pub Walks : ℕ → (Expression → List Expression) → List ℕ → ℕ → ℕ → List ℕ → ℕ → ℕ → ℕ → List ℕ → Type 0
Walks new f = AppendsEach new (λ e. flat_map f (ands e))

-- Conjuncts joined by And, or none, stand in s from lo up to hi.
pub record OptionalHere (s : List ℕ) (lo hi : ℕ) (o : Option Expression) : Type 0 where
  pub part : Part s lo hi (optional_words o)

pub record OptionalAt (s : List ℕ) (lo hi : ℕ) : Type 0 where
  pub o : Option Expression
  pub here : OptionalHere s lo hi o

-- the conjuncts that go to the left source, to the right source, or stay with the join
abbrev pub for_destination : Destination → ℕ → List Expression → List Expression
for_destination Destination.Left n es = for_left n es
for_destination Destination.Right n es = for_right n es
for_destination Destination.Join n es = for_both n es

-- ---- the same conjunct by conjunct, as the code goes

-- whether a conjunct that refers to the left source, or not, and to the right one, or not, goes there
abbrev pub goes : Destination → (left right : Bool) → Bool
goes Destination.Left left right = not right
goes Destination.Right left right = not left
goes Destination.Join left right = left && right

-- b says it of the expression from lo up to hi, if the left source has n columns.
abbrev pub Goes : Destination → ℕ → List ℕ → ℕ → ℕ → Bool → Type 0
Goes to n s lo hi b = (e : Expression) → ExpressionHere s lo hi e → b ≡ goes to (ref_left n e) (ref_right n e)

abbrev pub chosen : Destination → ℕ → ℕ → Expression → List Expression
chosen to n shift e = cons_if (goes to (ref_left n e) (ref_right n e)) (shift_column_down shift e) []
