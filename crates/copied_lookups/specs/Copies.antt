-- The last lookup of a column, its copies, and what is pushed into a join's sources, in slices of words.
use Rattle.std.specs.Prelude as code
use Rattle.std.specs.Prelude.{ℕ, ◌-◌, Bool, not, ◌&&◌, cond, ◌≡◌, List, [], ltb, Some, None, option_map}
use Rattle.std.proofs.Math.Option.{Option, none, some}
use Rattle.sql.specs.Expression.{Expression, ands, and_vec, shift_column_down}
use Rattle.sql.specs.Optimizer.{for_left, for_right, equijoin, is_lookup_of, last_lookup, copied, push_left, push_right, map_optional}
use Rattle.cells.specs.Cells.{start_at}
use Rattle.cells.specs.Room.{Wrote}
use Rattle.words.specs.Words.{optional_words}
use Rattle.words.specs.Place.{ExpressionHere}
use Rattle.conjuncts.specs.Conjuncts.{Appends, AppendsEach, Walks, OptionalHere}
use Rattle.copied_lookups.specs.declared.Source.{Source}
use Rattle.copied_lookups.specs.declared.Place.{Place}

-- ---- the last lookup

abbrev pub IsLookupOf : ℕ → List ℕ → ℕ → ℕ → Bool → Type 0
IsLookupOf c s lo hi r = (e : Expression) → ExpressionHere s lo hi e → r ≡ is_lookup_of c e

-- A place in s says where an expression stands; without one there is none.
abbrev pub Stands : List ℕ → code.Option Place → Option Expression → Type 0
Stands s (Some p) none = ⊥
Stands s (Some p) (some e) = ExpressionHere s p.start p.end e
Stands s None none = Unit
Stands s None (some e) = ⊥

-- the place of what ends before a word
abbrev pub ending : List ℕ → code.Option ℕ → code.Option Place
ending s o = option_map (λ hi. record { start = start_at s hi; end = hi }) o

-- among the conjuncts of the expression from lo up to hi
abbrev pub FindsLast : ℕ → List ℕ → ℕ → ℕ → code.Option Place → Type 0
FindsLast c s lo hi r = (e : Expression) → ExpressionHere s lo hi e → Stands s r (last_lookup c (ands e))

-- ---- copies

-- the conjuncts that and_vec joined
abbrev pub conjuncts_of : Option Expression → List Expression
conjuncts_of none = []
conjuncts_of (some e) = ands e

-- What the equijoin of columns l and r copies into a source, from the other source's conjuncts: the lookup of the other source's column. The right source's
-- columns are `shift` lower.
abbrev pub pair_copy : Source → ℕ → List Expression → ℕ → ℕ → List Expression
pair_copy Source.Left shift lookups l r = copied r l (last_lookup r lookups)
pair_copy Source.Right shift lookups l r = copied l (r - shift) (last_lookup l lookups)

-- if it has a column of each source, of which the left one has n columns
abbrev pub pair_copies : Source → ℕ → ℕ → List Expression → ℕ → ℕ → List Expression
pair_copies into n shift lookups l r = cond (ltb l n && not (ltb r n)) (pair_copy into shift lookups l r) []

abbrev pub optional_copies : Source → ℕ → ℕ → List Expression → Option (ℕ × ℕ) → List Expression
optional_copies into n shift lookups none = []
optional_copies into n shift lookups (some pair) = pair_copies into n shift lookups pair.0 pair.1

abbrev pub copies : Source → ℕ → ℕ → List Expression → Expression → List Expression
copies into n shift lookups e = optional_copies into n shift lookups (equijoin e)

-- ---- what the functions append, for whatever conjuncts of the other source stand where they are lent; the Ands have the origin `new`

abbrev pub CopiesLast : ℕ → ℕ → ℕ → List ℕ → ℕ → ℕ → List ℕ → ℕ → ℕ → ℕ → List ℕ → Type 0
CopiesLast new c to s lo hi d from at n d' = (o : Option Expression) → OptionalHere s lo hi o → Appends new d from at (copied c to (last_lookup c (conjuncts_of o))) n d'

abbrev pub CopiesPair : ℕ → Source → ℕ → ℕ → ℕ → ℕ → List ℕ → ℕ → ℕ → List ℕ → ℕ → ℕ → ℕ → List ℕ → Type 0
CopiesPair new into n shift l r s lo hi d from at m d' =
    (o : Option Expression) → OptionalHere s lo hi o → Appends new d from at (pair_copies into n shift (conjuncts_of o) l r) m d'

abbrev pub CopiesConjunct : ℕ → Source → ℕ → ℕ → List ℕ → ℕ → ℕ → List ℕ → ℕ → ℕ → List ℕ → ℕ → ℕ → ℕ → List ℕ → Type 0
CopiesConjunct new into n shift s lo hi g a b d from at m d' =
    (o : Option Expression) → OptionalHere g a b o → AppendsEach new (copies into n shift (conjuncts_of o)) s lo hi d from at m d'

abbrev pub CopiesEach : ℕ → Source → ℕ → ℕ → List ℕ → ℕ → ℕ → List ℕ → ℕ → ℕ → List ℕ → ℕ → ℕ → ℕ → List ℕ → Type 0
CopiesEach new into n shift s lo hi g a b d from at m d' =
    (o : Option Expression) → OptionalHere g a b o → Walks new (copies into n shift (conjuncts_of o)) s lo hi d from at m d'

-- ---- what is pushed: e's conjuncts for the other source are those that stand in g

-- Some expression stands in s from lo up to hi, and its conjuncts for the right source, or for the left one, in g from a up to b, under Ands with the
-- origin `new`.
pub record LeftAt (new n : ℕ) (s : List ℕ) (lo hi : ℕ) (g : List ℕ) (a b : ℕ) : Type 0 where
  pub e : Expression
  pub here : ExpressionHere s lo hi e
  pub others : OptionalHere g a b (and_vec new (for_right n (ands e)))

pub record RightAt (new n : ℕ) (s : List ℕ) (lo hi : ℕ) (g : List ℕ) (a b : ℕ) : Type 0 where
  pub e : Expression
  pub here : ExpressionHere s lo hi e
  pub others : OptionalHere g a b (and_vec new (for_left n (ands e)))

abbrev pub PushesLeft : ℕ → ℕ → List ℕ → ℕ → ℕ → List ℕ → ℕ → ℕ → List ℕ → ℕ → ℕ → List ℕ → Type 0
PushesLeft new n s lo hi g a b d at m d' = (e : Expression) → ExpressionHere s lo hi e → OptionalHere g a b (and_vec new (for_right n (ands e)))
    → Wrote d at (optional_words (and_vec new (push_left n (ands e)))) m d'

abbrev pub PushesRight : ℕ → ℕ → ℕ → List ℕ → ℕ → ℕ → List ℕ → ℕ → ℕ → List ℕ → ℕ → ℕ → List ℕ → Type 0
PushesRight new n shift s lo hi g a b d at m d' = (e : Expression) → ExpressionHere s lo hi e → OptionalHere g a b (and_vec new (for_left n (ands e)))
    → Wrote d at (optional_words (map_optional (shift_column_down shift) (and_vec new (push_right n (ands e))))) m d'
