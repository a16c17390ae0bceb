-- The transcription at small inputs, computed: the Rust (`toydb`) beside document 01's departures, and the words that the Rust is written in.
use Rattle.std.specs.Prelude.{ℕ, ◌^◌, ◌-◌, ◌≡◌, refl, false, [], ◌∷◌, ℤ, pos, negsuc}
use Rattle.std.proofs.Math.Option.{none, some}
use Rattle.value.specs.Value.{datum, integer, boolean, overflow, mismatch}
use Rattle.sql.specs.Expression.{Negate, Divide, Add, Equal, function, Expression, constant, column, unary, binary, and, or}
use Rattle.sql.specs.Plan.{scan, values, filter, Join, nested_loop, hash, Node, leaf, over, join}
use Rattle.literal.specs.Rust.{Ok, Err, Panic, pop, look_up}
use Rattle.literal.specs.Value.{toydb, document_01}
use Rattle.literal.specs.Expression.{evaluate, into_cnf_vec, shift_column}
use Rattle.literal.specs.Optimizer.{ConstantFolding, FilterPushdown, IndexLookup, HashJoin}

abbrev least : ℤ
least = negsuc 9223372036854775807

abbrev number : ℤ → Expression
number i = constant 0 (datum (integer i))

-- ---- words

-- a HashMap: the last one that was put in
last_found : look_up {A = ℕ} 7 ((7, 0) ∷ (3, 1) ∷ (7, 2) ∷ []) ≡ some 2
last_found = refl

-- a stack: the last one that was pushed
top : pop {A = ℕ} (1 ∷ 2 ∷ 3 ∷ []) ≡ some (3, 1 ∷ 2 ∷ [])
top = refl

-- (#0 AND #1) OR #2, as a vector
conjuncts : into_cnf_vec (or 0 (and 0 (column 0 0) (column 0 1)) (column 0 2)) ≡ Ok (or 0 (column 0 0) (column 0 2) ∷ or 0 (column 0 1) (column 0 2) ∷ [])
conjuncts = refl

-- a usize below zero wraps
wraps : shift_column (negsuc 1) (column 0 1) ≡ Ok (column 0 (2 ^ 64 - 1))
wraps = refl

-- ---- an Integer's overflow, −2^63: in a sum an error, in a negative and in a quotient a panic, and by document 01 an error

sum_overflows : evaluate toydb none (binary 0 (function Add) (number least) (number (negsuc 0))) ≡ Err overflow
sum_overflows = refl

negative_panics : evaluate toydb none (unary 0 (function Negate) (number least)) ≡ Panic
negative_panics = refl

negative_refused : evaluate document_01 none (unary 0 (function Negate) (number least)) ≡ Err overflow
negative_refused = refl

quotient_panics : evaluate toydb none (binary 0 (function Divide) (number least) (number (negsuc 0))) ≡ Panic
quotient_panics = refl

-- ---- hash_join on two columns of one source: two Values of two columns

abbrev two : Node
two = leaf 0 (values ((number (pos 1) ∷ number (pos 2) ∷ [], 0) ∷ []))

abbrev joined : Join → Node
joined j = join 0 false j two two

abbrev on : ℕ → ℕ → Join
on l r = nested_loop (some (binary 0 Equal (column 0 l) (column 0 r)))

-- one of each: the same
each_source : HashJoin toydb [] (joined (on 3 0)) ≡ Ok (joined (hash 0 1))
each_source = refl

-- both of the left one: below zero
both_left : HashJoin toydb [] (joined (on 0 1)) ≡ Panic
both_left = refl

-- both of the right one: a column outside the left one
both_right : HashJoin toydb [] (joined (on 2 3)) ≡ Ok (joined (hash 2 1))
both_right = refl

stays : HashJoin document_01 [] (joined (on 0 1)) ≡ Ok (joined (on 0 1))
stays = refl

-- ---- a column that the table hasn't: there is no table

abbrev outside : Node
outside = leaf 0 (scan 0 none (some (binary 0 Equal (column 0 1) (number (pos 1)))))

index_panics : IndexLookup toydb [] outside ≡ Panic
index_panics = refl

index_stays : IndexLookup document_01 [] outside ≡ Ok outside
index_stays = refl

-- ---- a Filter of false AND 1 over a Values: the Rust says that it can't
folded : ConstantFolding toydb (over 0 (filter (and 0 (constant 0 (boolean false)) (number (pos 1)))) (leaf 0 (values []))) ≡ Err mismatch
folded = refl

-- a Filter over a join goes into its predicate, and what is of one source alone, and can't go into it, comes back
pushed : FilterPushdown [] (over 0 (filter (column 0 3)) (joined (on 0 2))) ≡ Ok (joined (nested_loop (some (and 0 (binary 0 Equal (column 0 0) (column 0 2)) (column 0 3)))))
pushed = refl
