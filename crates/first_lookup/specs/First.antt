-- The first conjunct that is a lookup by an index, where it stands, and the conjuncts that remain.
use Rattle.std.specs.Prelude as code
use Rattle.std.specs.Prelude.{ℕ, ◌+◌, ◌*◌, ◌/◌, ◌≤◌, Bool, false, not, ◌||◌, cond, ◌≡◌, List, [], ◌∷◌, map, eqb, length, get_or, Some, None}
use Rattle.std.proofs.Math.Option.{Option, none, some}
use Rattle.sql.specs.Schema.{Schema}
use Rattle.sql.specs.Expression.{Expression, ands, is_column_lookup}
use Rattle.sql.specs.Plan.{up_to}
use Rattle.sql.specs.Optimizer.{Found, has_index, cons_if}
use Rattle.sheet.specs.Bytes.{byte}
use Rattle.words.specs.Place.{ExpressionHere}
use Rattle.conjuncts.specs.Conjuncts.{Appends}
use Rattle.first_lookup.specs.declared.FoundLookup.{FoundLookup}
use Rattle.first_lookup.specs.declared.Rest.{Rest}

-- Whether a lookup can go by each column that has a record, of 16 bytes: it is the primary key, which is column `key`, or byte 5 of its record says that it has an
-- index.
unfoldable pub marks_in : (key : ℕ) → List ℕ → List Bool
marks_in key records = map (λ i. eqb i key || eqb (byte records (i * 16 + 5)) 1) (up_to 0 (length records / 16))

-- The marks say of each column of a table whether a lookup can go by it.
abbrev pub Marks : Schema → ℕ → List Bool → Type 0
Marks schema table marks = (c : ℕ) → has_index schema table c ≡ get_or marks c false

abbrev pub is_marked : List Bool → Option ℕ → Bool
is_marked marks none = false
is_marked marks (some c) = get_or marks c false

-- ---- the first lookup of a marked column, whatever the marks are, also where no table has such marks (in a table's, at least the key is marked). Of a table's marks
-- it is find-lookup (proofs/Finding, first-is).

abbrev pub with_mark : List Bool → Option ℕ → Option ℕ
with_mark marks column = cond (is_marked marks column) column none

abbrev pub first_here : Expression → List Expression → Option ℕ → Option Found → Option Found
first_here e es (some c) later = some (record { column_number = c; conjunct = e; remaining = es })
first_here e es none none = none
first_here e es none (some f) = some (record { column_number = f.column_number; conjunct = f.conjunct; remaining = e ∷ f.remaining })

abbrev pub first_marked : List Bool → List Expression → Option Found
first_marked marks [] = none
first_marked marks (e ∷ es) = first_here e es (with_mark marks (is_column_lookup e)) (first_marked marks es)

-- An answer says where the conjunct stands in s, between lo and hi, and its column; or that there is none.
abbrev pub Stands : List ℕ → ℕ → ℕ → code.Option FoundLookup → Option Found → Type 0
Stands s lo hi (Some q) none = ⊥
Stands s lo hi (Some q) (some f) = ((lo ≤ q.start) × (q.end ≤ hi)) × ((f.column_number ≡ q.column) × ExpressionHere s q.start q.end f.conjunct)
Stands s lo hi None none = Unit
Stands s lo hi None (some f) = ⊥

-- the first among the conjuncts of the expression from lo up to hi
abbrev pub FindsFirst : List Bool → List ℕ → ℕ → ℕ → code.Option FoundLookup → Type 0
FindsFirst marks s lo hi r = (e : Expression) → ExpressionHere s lo hi e → Stands s lo hi r (first_marked marks (ands e))

-- of one conjunct
abbrev pub by_mark : List Bool → ℕ → ℕ → Option ℕ → code.Option FoundLookup
by_mark marks lo hi none = None
by_mark marks lo hi (some c) = cond (get_or marks c false) (Some (record { start = lo; end = hi; column = c })) None

abbrev pub FindsOne : List Bool → List ℕ → ℕ → ℕ → code.Option FoundLookup → Type 0
FindsOne marks s lo hi r = (e : Expression) → ExpressionHere s lo hi e → r ≡ by_mark marks lo hi (is_column_lookup e)

-- ---- what remains: the conjuncts but the first lookup of a marked column, or all of them if that was met before

abbrev pub remaining : List Bool → Bool → List Expression → List Expression
remaining marks met [] = []
remaining marks met (e ∷ es) = cons_if (met || not (is_marked marks (is_column_lookup e))) e (remaining marks (met || is_marked marks (is_column_lookup e)) es)

abbrev pub meets : List Bool → Bool → List Expression → Bool
meets marks met [] = met
meets marks met (e ∷ es) = meets marks (met || is_marked marks (is_column_lookup e)) es

-- what the functions leave in d, behind the conjuncts that stood there from word `from` up to `at`; the Ands have the origin `new`
pub record Left (new : ℕ) (d : List ℕ) (from at : ℕ) (xs : List Expression) (met : Bool) (r : Rest) (d' : List ℕ) : Type 0 where
  pub appends : Appends new d from at xs r.at d'
  pub meeting : r.met ≡ met

abbrev pub LeavesOne : ℕ → List Bool → Bool → List ℕ → ℕ → ℕ → List ℕ → ℕ → ℕ → Rest → List ℕ → Type 0
LeavesOne new marks met s lo hi d from at r d' =
    (e : Expression) → ExpressionHere s lo hi e → Left new d from at (remaining marks met (e ∷ [])) (meets marks met (e ∷ [])) r d'

abbrev pub Leaves : ℕ → List Bool → Bool → List ℕ → ℕ → ℕ → List ℕ → ℕ → ℕ → Rest → List ℕ → Type 0
Leaves new marks met s lo hi d from at r d' = (e : Expression) → ExpressionHere s lo hi e → Left new d from at (remaining marks met (ands e)) (meets marks met (ands e)) r d'
