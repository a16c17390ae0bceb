-- Column lookups: T keeps a lookup that is copied to an equal column, and a lookup takes the rows at which its expression is true.
use Rattle.std.specs.Prelude.{ℕ, Bool, true, false, not, ◌&&◌, ◌||◌, cond, ◌≡◌, refl, List, [], ◌∷◌, ◌++◌, eqb, Float}
use Rattle.std.proofs.Math.Bool.{or_assoc, or-false}
use Rattle.std.proofs.Common.{sym, ap, ap₂, ◌∙◌, subst, arith}
use Rattle.std.proofs.Math.Option.{Option, none, some}
use Rattle.std.specs.Float.Ieee
use Rattle.std.specs.Float.Ieee.{is_nan}
use Rattle.value.specs.Value.{Truth, False, Unknown, True, Datum, integer, float, string, Value, truth, datum, null, ok, ofBool, the_nan}
use Rattle.value.specs.Comparison.{Comparison, Null, Found, Less, Greater, Unordered, NotComparable, rounded, number_of, compare_floats, compare, is_equal}
use Rattle.value.specs.Comparison
use Rattle.value.specs.Undefined.{is_undefined}
use Rattle.sql.specs.Expression.{origin, Logical, And, Or, Function1, IsNull, IsNaN, Identity, Negate, SquareRoot, Unary, Not, function, Binary, logical, Equal, Expression, constant, column, unary, binary, or, contains_column, is_column, is_equal_lookup, is_function_lookup, same_column, is_column_lookup, equal_values, into_column_values}
use Rattle.rows.specs.Reading.{is_true, is_nan_value, takes, any}
use Rattle.same_rows.proofs.Booleans.{false≢true, eqb_eq, eqb_self}
use Rattle.same_rows.proofs.Floats.{nan_unequal}
use Rattle.same_rows.specs.Total.{Columns, Total, known, figure, no_column, valued, from_value, or_null, plain, truth_of, equal_totals, total_binary, total, true_at}
use Rattle.same_rows.proofs.Normal.{true_or}
use Rattle.same_rows.proofs.Comparing.{truth_floats, equal_sym, Alike}

-- ---- what a lookup of column c is

pub data Lookup (c : ℕ) : Expression → Type 0 where
  column_equal : {og p q : ℕ} (v : Value) → Lookup c (binary og Equal (column p c) (constant q v))
  equal_column : {og p q : ℕ} (v : Value) → Lookup c (binary og Equal (constant q v) (column p c))
  column_null : {og p : ℕ} → Lookup c (unary og (function IsNull) (column p c))
  column_nan : {og p : ℕ} → Lookup c (unary og (function IsNaN) (column p c))
  either : {og : ℕ} {l r : Expression} → Lookup c l → Lookup c r → Lookup c (or og l r)

none≢some : {A : Type 0} (c : ℕ) → ◌≡◌ {A = Option ℕ} none (some c) → A
none≢some c h = absurd (let y : ◌≡◌ {A = ℕ} 0 1 = cc in omega arith)

column_of : (x : Expression) (c : ℕ) → is_column x ≡ some c → x ≡ column (origin x) c
column_of (constant og v) c h = none≢some c h
column_of (column og d) c h = let k : d ≡ c = cc in ap (column og) k
column_of (unary og o x) c h = none≢some c h
column_of (binary og o l r) c h = none≢some c h

equal_lookup : (own : ℕ) (l r : Expression) (c : ℕ) → is_equal_lookup l r ≡ some c → Lookup c (binary own Equal l r)
equal_lookup own (constant og v) r c h = rw (column_of r c h) (equal_column v)
equal_lookup own (column og d) (constant og' v) c h = let k : d ≡ c = cc in rw k (column_equal v)
equal_lookup own (column og d) (column og' e) c h = none≢some c h
equal_lookup own (column og d) (unary og' o x) c h = none≢some c h
equal_lookup own (column og d) (binary og' o x y) c h = none≢some c h
equal_lookup own (unary og o x) r c h = none≢some c h
equal_lookup own (binary og o x y) r c h = none≢some c h

function_lookup : (og : ℕ) (f : Function1) (x : Expression) (c : ℕ) → is_function_lookup f x ≡ some c → Lookup c (unary og (function f) x)
function_lookup og IsNull x c h = rw (column_of x c h) column_null
function_lookup og IsNaN x c h = rw (column_of x c h) column_nan
function_lookup og Identity x c h = none≢some c h
function_lookup og Negate x c h = none≢some c h
function_lookup og SquareRoot x c h = none≢some c h

same_both : (a b : Option ℕ) (c : ℕ) → same_column a b ≡ some c → (a ≡ some c) × (b ≡ some c)
same_both none b c h = none≢some c h
same_both (some a) none c h = none≢some c h
same_both (some a) (some b) c h = go (eqb a b) refl h
  where
    go : (t : Bool) → eqb a b ≡ t → cond t (some a) none ≡ some c → (some a ≡ some c) × (some b ≡ some c)
    go true e k = (k, ap some (sym (eqb_eq a b e)) ∙ k)
    go false e k = none≢some c k

pub lookup_of : (e : Expression) (c : ℕ) → is_column_lookup e ≡ some c → Lookup c e
lookup_of (constant og v) c h = none≢some c h
lookup_of (column og d) c h = none≢some c h
lookup_of (unary og Not x) c h = none≢some c h
lookup_of (unary og (function f) x) c h = function_lookup og f x c h
lookup_of (binary og (logical And) l r) c h = none≢some c h
lookup_of (binary og (logical Or) l r) c h =
    let (a, b) = same_both (is_column_lookup l) (is_column_lookup r) c h in either (lookup_of l c a) (lookup_of r c b)
lookup_of (binary og Equal l r) c h = equal_lookup og l r c h
lookup_of (binary og (function f) l r) c h = none≢some c h

-- it looks at no other column
pub lookup_columns : {c : ℕ} {e : Expression} → Lookup c e → contains_column (λ d. not (eqb d c)) e ≡ false
lookup_columns {c} (column_equal v) = rw (eqb_self c)
lookup_columns {c} (equal_column v) = rw (eqb_self c)
lookup_columns {c} column_null = rw (eqb_self c)
lookup_columns {c} column_nan = rw (eqb_self c)
lookup_columns (either l r) = ap₂ ◌||◌ (lookup_columns l) (lookup_columns r)

plain_from : (v : Value) → plain (from_value v) ≡ ok v
plain_from (truth t) = refl
plain_from (datum d) = refl

pub lookup_alike : {c : ℕ} {e : Expression} (these those : Columns) → Lookup c e → Alike (these c) (those c) → total these e ≡ total those e
lookup_alike these those (column_equal v) a = ap (λ z. valued no_column (known z)) (a.left (from_value v))
lookup_alike these those (equal_column v) a = ap (λ z. valued no_column (known z)) (a.right (from_value v))
lookup_alike {c} these those column_null a = rw (plain_from (these c), plain_from (those c)) (ap (λ z. valued no_column (or_null z)) a.same_null)
lookup_alike {c} these those column_nan a = rw (plain_from (these c), plain_from (those c)) (ap (λ z. valued no_column (or_null z)) a.same_nan)
lookup_alike these those (either l r) a = ap₂ (total_binary (logical Or)) (lookup_alike these those l a) (lookup_alike these those r a)

-- ---- a lookup is the Or of its equalities

equal_true : (c : Comparison) → is_equal c ≡ is_true (truth_of false c)
equal_true Null = refl
equal_true (Found Less) = refl
equal_true (Found Comparison.Equal) = refl
equal_true (Found Greater) = refl
equal_true (Found Unordered) = refl
equal_true (Found NotComparable) = refl

truth_unequal : (f : Datum) (b : Truth) → is_equal (compare (datum f) (truth b)) ≡ false
truth_unequal f False = refl
truth_unequal f Unknown = refl
truth_unequal f True = refl

equal_datum : (f : Datum) (x : Value) → is_equal (compare (datum f) x) ≡ is_true (equal_totals false (figure false f) (from_value x))
equal_datum f (truth b) = truth_unequal f b
equal_datum f (datum g) = equal_true (compare (datum f) (datum g))

nan_finds : (x y : Float) → is_nan x ≡ true → is_true (truth_of false (Found (compare_floats x y))) ≡ false
nan_finds x y h = ap is_true (truth_floats false x y) ∙ ap (λ b. is_true (truth_of false (Found (cond b Comparison.Equal Less)))) (nan_unequal x y h)

float_taken : (p a : ℕ) (b : Bool) → is_nan (number_of a) ≡ b → (x : Value)
    → any (λ (u : Value × ℕ). takes u.0 x) (cond b [] ((datum (float a), p) ∷ [])) ≡ is_true (equal_totals false (figure false (float a)) (from_value x))
float_taken p a true h (truth c) = refl
float_taken p a true h (datum (integer c)) = sym (nan_finds (number_of a) (rounded c) h)
float_taken p a true h (datum (float c)) = sym (nan_finds (number_of a) (number_of c) h)
float_taken p a true h (datum (string r t)) = refl
float_taken p a false h x =
    ap (λ z. ((z && is_nan_value x) || is_equal (compare (datum (float a)) x)) || false) h
    ∙ (or-false (is_equal (compare (datum (float a)) x)) ∙ equal_datum (float a) x)

equal_taken : (p : ℕ) (v x : Value) → any (λ (u : Value × ℕ). takes u.0 x) (equal_values (some (v, p))) ≡ is_true (equal_totals false (from_value v) (from_value x))
equal_taken p (truth Unknown) (truth b) = refl
equal_taken p (truth Unknown) (datum g) = refl
equal_taken p (truth False) (truth b) = or-false (is_equal (compare (truth False) (truth b))) ∙ equal_true (compare (truth False) (truth b))
equal_taken p (truth False) (datum g) = refl
equal_taken p (truth True) (truth b) = or-false (is_equal (compare (truth True) (truth b))) ∙ equal_true (compare (truth True) (truth b))
equal_taken p (truth True) (datum g) = refl
equal_taken p (datum (integer a)) x = or-false (is_equal (compare (datum (integer a)) x)) ∙ equal_datum (integer a) x
equal_taken p (datum (float a)) x = float_taken p a (is_nan (number_of a)) refl x
equal_taken p (datum (string r t)) x = or-false (is_equal (compare (datum (string r t)) x)) ∙ equal_datum (string r t) x

any_append : {A : Type 0} (f : A → Bool) (xs ys : List A) → any f (xs ++ ys) ≡ (any f xs || any f ys)
any_append f [] ys = refl
any_append f (x ∷ xs) ys = ap (λ z. f x || z) (any_append f xs ys) ∙ sym (or_assoc (f x) (any f xs) (any f ys))

null_taken : (og p : ℕ) (x : Value) (columns : Columns) (c : ℕ) → columns c ≡ x → true_at columns (unary og (function IsNull) (column p c)) ≡ (takes null x || false)
null_taken og p (truth False) columns c h = rw h refl
null_taken og p (truth Unknown) columns c h = rw h refl
null_taken og p (truth True) columns c h = rw h refl
null_taken og p (datum d) columns c h = rw h refl

the_nan_is_nan : is_nan (number_of the_nan) ≡ true
unfolding is_nan Ieee.of_bits
the_nan_is_nan = refl

nan_equals_none : (x : Value) → is_equal (compare (datum (float the_nan)) x) ≡ false
nan_equals_none (truth b) = truth_unequal (float the_nan) b
nan_equals_none (datum (integer c)) = equal_datum (float the_nan) (datum (integer c)) ∙ nan_finds (number_of the_nan) (rounded c) the_nan_is_nan
nan_equals_none (datum (float c)) = equal_datum (float the_nan) (datum (float c)) ∙ nan_finds (number_of the_nan) (number_of c) the_nan_is_nan
nan_equals_none (datum (string r t)) = refl

nan_takes : (x : Value) → (takes (datum (float the_nan)) x || false) ≡ is_nan_value x
nan_takes x =
    ap (λ z. ((z && is_nan_value x) || is_equal (compare (datum (float the_nan)) x)) || false) the_nan_is_nan
    ∙ (ap (λ z. (is_nan_value x || z) || false) (nan_equals_none x) ∙ (or-false (is_nan_value x || false) ∙ or-false (is_nan_value x)))

nan_true : (og p : ℕ) (x : Value) (columns : Columns) (c : ℕ) → columns c ≡ x → true_at columns (unary og (function IsNaN) (column p c)) ≡ is_nan_value x
nan_true og p (truth False) columns c h = rw h refl
nan_true og p (truth Unknown) columns c h = rw h refl
nan_true og p (truth True) columns c h = rw h refl
nan_true og p (datum (integer a)) columns c h = rw h refl
nan_true og p (datum (float a)) columns c h = rw h (go (is_nan (number_of a)))
  where
    go : (b : Bool) → is_true (ofBool b) ≡ b
    go true = refl
    go false = refl
nan_true og p (datum (string r t)) columns c h = rw h refl

append_none : (xs : List (Value × ℕ)) → xs ++ [] ≡ xs
append_none [] = refl
append_none (x ∷ xs) = ap (λ z. x ∷ z) (append_none xs)

pub lookup_taken : {c : ℕ} {e : Expression} (columns : Columns) → Lookup c e → true_at columns e ≡ any (λ (v : Value × ℕ). takes v.0 (columns c)) (into_column_values e)
lookup_taken {c} columns (column_equal {og} {p} {q} v) = sym (equal_taken q v (columns c) ∙ ap is_true (equal_sym false v (columns c)))
lookup_taken {c} columns (equal_column {og} {p} {q} v) = sym (ap (any (λ (u : Value × ℕ). takes u.0 (columns c))) (append_none (equal_values (some (v, q)))) ∙ equal_taken q v (columns c))
lookup_taken {c} columns (column_null {og} {p}) = null_taken og p (columns c) columns c refl
lookup_taken {c} columns (column_nan {og} {p}) = nan_true og p (columns c) columns c refl ∙ sym (nan_takes (columns c))
lookup_taken {c} columns (either {og} {l} {r} a b) =
    true_or columns og l r
    ∙ (ap₂ ◌||◌ (lookup_taken columns a) (lookup_taken columns b) ∙ sym (any_append (λ (v : Value × ℕ). takes v.0 (columns c)) (into_column_values l) (into_column_values r)))
