-- expression.rs, as transcribed, gives what crate sql defines (Expression.antt there).
use Prim.Native.Nat.{ℕ, zero, suc, ◌+◌, ◌-◌, ◌≤◌}
use mathlib.Core.Path.{◌≡◌, refl, sym, ap, ap₂, ◌∙◌}
use mathlib.Core.Bool.{Bool, true, false, not, ◌||◌, cond}
use mathlib.Core.List.{List, [], ◌∷◌, ◌++◌, append_assoc, append-nil}
use mathlib.Core.Option.{Option, none, some}
use native.Mathlib.Omega.{arith}
use lib.Dec.{eqb, ltb, leb-suc-suc}
use lib.IntN.{ℤ, pos, negsuc, neg_ℤ, ◌+ℤ◌}
use lib.ListN.{length, get_or}
use borrow.Author.Tests.{eq-eqb, eqb-true, ltb-true}
use Rattle.value.specs.Value.{Value, null, Result, ok, err}
use Rattle.sql.specs.Expression.{Marked, And, Or, IsNull, IsNaN, Identity, Negate, SquareRoot, GreaterThan, LessThan, Add, Divide, Subtract, Multiply, Unary, Not, Binary, logical, Equal, function, Expression, constant, column, unary, binary, and, or, size, Row, bind, evaluate_unary, evaluate_binary, contains_column, map_columns, or_both, single, distribute, conjuncts, ands, and_all, same_column, is_equal_lookup}
use Rattle.sql.specs.Expression as Defined
use Rattle.literal.specs.Rust.{Run, Ok, Panic, ◌>>=◌, unwrap, expect, assert_eq, ◌⇒◌, ◌&◌, ◌if◌, ◌else◌, matches, and_then, push, get, put_first, pop, for_each}
use Rattle.literal.specs.Value.{document_01, Boolean, eq, is_undefined, checked_add, checked_sub, checked_mul, checked_div}
use Rattle.literal.specs.Expression.{Column?, And?, evaluate_and, evaluate_or, evaluate_not, evaluate_equal, evaluate_greater_than, evaluate_less_than, evaluate_is_nan, evaluate_identity, evaluate_negate, evaluate_square_root, evaluate, and_on, walk, contains, transform_operands, transform, nnf_xform, into_nnf, cnf_xform, into_cnf, cnf_loop, into_cnf_vec, and_vec, is_column_lookup, into_column_values, replace_xform, replace_column, as_usize, shift_xform, shift_column}
use Rattle.literal.specs.Law.{told}
use Rattle.literal.proofs.Value.{and_same, or_same, not_same, null_same, nan_same, identity_same, negate_same, root_same, equal_same, greater_same, less_same, add_same, sub_same, mul_same, div_same, undefined_same}

or_left : (a b : Bool) → (a || b) ≡ false → a ≡ false
or_left true b h = h
or_left false b h = refl

or_behind : (a b : Bool) → (a || b) ≡ false → b ≡ false
or_behind true b h = absurd (let y : ◌≡◌ {A = ℕ} 0 1 = cc in omega arith)
or_behind false b h = h

-- ---- evaluate

-- `?`, of one operand and of two
one : (r : Run Value) (s : Result Value) (g : Value → Run Value) (f : Value → Result Value) → r ≡ told s → ((v : Value) → g v ≡ told (f v)) → (r >>= g) ≡ told (bind s f)
one r s g f e h = ap (λ z. z >>= g) e ∙ go s
  where
    go : (s : Result Value) → (told s >>= g) ≡ told (bind s f)
    go (ok v) = h v
    go (err e) = refl

two : (r q : Run Value) (s t : Result Value) (g : Value → Value → Run Value) (f : Value → Value → Result Value) → r ≡ told s → q ≡ told t
    → ((v w : Value) → g v w ≡ told (f v w)) → (r >>= λ v. q >>= λ w. g v w) ≡ told (bind s (λ v. bind t (f v)))
two r q s t g f e d h = one r s (λ v. q >>= λ w. g v w) (λ v. bind t (f v)) e (λ v. one q t (g v) (f v) d (h v))

-- with a row that has every column that the expression has
module _ (given : Option Row) (row : Row) (outside : ℕ → Bool) (has : (c : ℕ) → outside c ≡ false → expect (and_then given (λ r. get r c)) ≡ Ok (get_or row c null)) where
  evaluate_row : (e : Expression) → contains_column outside e ≡ false → evaluate document_01 given e ≡ told (Defined.evaluate row e)
  evaluate_row (constant og v) h = refl
  evaluate_row (column og c) h = has c h
  evaluate_row (unary og Not x) h = one (evaluate document_01 given x) (Defined.evaluate row x) (λ v. evaluate_not v) (evaluate_unary Not) (evaluate_row x h) not_same
  evaluate_row (unary og (function IsNull) x) h = one (evaluate document_01 given x) (Defined.evaluate row x) (λ v. Ok (Boolean (eq v null))) (evaluate_unary (function IsNull)) (evaluate_row x h) null_same
  evaluate_row (unary og (function IsNaN) x) h = one (evaluate document_01 given x) (Defined.evaluate row x) evaluate_is_nan (evaluate_unary (function IsNaN)) (evaluate_row x h) nan_same
  evaluate_row (unary og (function Identity) x) h = one (evaluate document_01 given x) (Defined.evaluate row x) evaluate_identity (evaluate_unary (function Identity)) (evaluate_row x h) identity_same
  evaluate_row (unary og (function Negate) x) h = one (evaluate document_01 given x) (Defined.evaluate row x) (evaluate_negate document_01) (evaluate_unary (function Negate)) (evaluate_row x h) negate_same
  evaluate_row (unary og (function SquareRoot) x) h = one (evaluate document_01 given x) (Defined.evaluate row x) evaluate_square_root (evaluate_unary (function SquareRoot)) (evaluate_row x h) root_same
  evaluate_row (binary og (logical And) l r) h =
      let p = or_left (contains_column outside l) (contains_column outside r) h in let q = or_behind (contains_column outside l) (contains_column outside r) h in
      two (evaluate document_01 given l) (evaluate document_01 given r) (Defined.evaluate row l) (Defined.evaluate row r) evaluate_and (evaluate_binary (logical And)) (evaluate_row l p) (evaluate_row r q) and_same
  evaluate_row (binary og (logical Or) l r) h =
      let p = or_left (contains_column outside l) (contains_column outside r) h in let q = or_behind (contains_column outside l) (contains_column outside r) h in
      two (evaluate document_01 given l) (evaluate document_01 given r) (Defined.evaluate row l) (Defined.evaluate row r) evaluate_or (evaluate_binary (logical Or)) (evaluate_row l p) (evaluate_row r q) or_same
  evaluate_row (binary og Equal l r) h =
      let p = or_left (contains_column outside l) (contains_column outside r) h in let q = or_behind (contains_column outside l) (contains_column outside r) h in
      two (evaluate document_01 given l) (evaluate document_01 given r) (Defined.evaluate row l) (Defined.evaluate row r) evaluate_equal (evaluate_binary Equal) (evaluate_row l p) (evaluate_row r q) equal_same
  evaluate_row (binary og (function GreaterThan) l r) h =
      let p = or_left (contains_column outside l) (contains_column outside r) h in let q = or_behind (contains_column outside l) (contains_column outside r) h in
      two (evaluate document_01 given l) (evaluate document_01 given r) (Defined.evaluate row l) (Defined.evaluate row r) evaluate_greater_than (evaluate_binary (function GreaterThan)) (evaluate_row l p) (evaluate_row r q) greater_same
  evaluate_row (binary og (function LessThan) l r) h =
      let p = or_left (contains_column outside l) (contains_column outside r) h in let q = or_behind (contains_column outside l) (contains_column outside r) h in
      two (evaluate document_01 given l) (evaluate document_01 given r) (Defined.evaluate row l) (Defined.evaluate row r) evaluate_less_than (evaluate_binary (function LessThan)) (evaluate_row l p) (evaluate_row r q) less_same
  evaluate_row (binary og (function Add) l r) h =
      let p = or_left (contains_column outside l) (contains_column outside r) h in let q = or_behind (contains_column outside l) (contains_column outside r) h in
      two (evaluate document_01 given l) (evaluate document_01 given r) (Defined.evaluate row l) (Defined.evaluate row r) checked_add (evaluate_binary (function Add)) (evaluate_row l p) (evaluate_row r q) add_same
  evaluate_row (binary og (function Subtract) l r) h =
      let p = or_left (contains_column outside l) (contains_column outside r) h in let q = or_behind (contains_column outside l) (contains_column outside r) h in
      two (evaluate document_01 given l) (evaluate document_01 given r) (Defined.evaluate row l) (Defined.evaluate row r) checked_sub (evaluate_binary (function Subtract)) (evaluate_row l p) (evaluate_row r q) sub_same
  evaluate_row (binary og (function Multiply) l r) h =
      let p = or_left (contains_column outside l) (contains_column outside r) h in let q = or_behind (contains_column outside l) (contains_column outside r) h in
      two (evaluate document_01 given l) (evaluate document_01 given r) (Defined.evaluate row l) (Defined.evaluate row r) checked_mul (evaluate_binary (function Multiply)) (evaluate_row l p) (evaluate_row r q) mul_same
  evaluate_row (binary og (function Divide) l r) h =
      let p = or_left (contains_column outside l) (contains_column outside r) h in let q = or_behind (contains_column outside l) (contains_column outside r) h in
      two (evaluate document_01 given l) (evaluate document_01 given r) (Defined.evaluate row l) (Defined.evaluate row r) (checked_div document_01) (evaluate_binary (function Divide)) (evaluate_row l p) (evaluate_row r q) div_same

no_column : {A : Type 0} → true ≡ false → A
no_column h = absurd (let y : ◌≡◌ {A = ℕ} 0 1 = cc in omega arith)

-- without a row, where there is no column
pub evaluate_same : (e : Expression) → contains_column (λ c. true) e ≡ false → evaluate document_01 none e ≡ told (Defined.evaluate [] e)
evaluate_same = evaluate_row none [] (λ c. true) (λ c h. no_column h)

get_same : (row : Row) (c : ℕ) → not (ltb c (length row)) ≡ false → expect (get row c) ≡ Ok (get_or row c null)
get_same [] c h = go (ltb c 0) refl h
  where
    go : (b : Bool) → ltb c 0 ≡ b → not b ≡ false → expect (get [] c) ≡ Ok (get_or [] c null)
    go true e i = absurd (let l = ltb-true c 0 e in omega arith)
    go false e i = no_column i
get_same (v ∷ row) zero h = refl
get_same (v ∷ row) (suc c) h = get_same row c (ap not (sym (leb-suc-suc (suc c) (length row))) ∙ h)

-- with a row that has every column
pub evaluate_in : (row : Row) (e : Expression) → contains_column (λ c. not (ltb c (length row))) e ≡ false → evaluate document_01 (some row) e ≡ told (Defined.evaluate row e)
evaluate_in row = evaluate_row (some row) row (λ c. not (ltb c (length row))) (get_same row)

-- ---- contains

pub contains_same : (e : Expression) → contains (λ e. matches (Column? e)) e ≡ contains_column (λ c. true) e
contains_same e = ap (λ (p : Bool × Bool). not p.1) (walked e) ∙ twice (contains_column (λ c. true) e)
  where
    visitor : Bool → Expression → Bool × Bool
    visitor s e = (s, not (matches (Column? e)))

    twice : (b : Bool) → not (not b) ≡ b
    twice true = refl
    twice false = refl

    both_walked : (a b : Bool) (r : Expression) → walk visitor true r ≡ (true, not b) → and_on (true, not a) (λ u. walk visitor u r) ≡ (true, not (a || b))
    both_walked true b r h = refl
    both_walked false b r h = h

    walked : (e : Expression) → walk visitor true e ≡ (true, not (contains_column (λ c. true) e))
    walked (constant og v) = refl
    walked (column og c) = refl
    walked (unary og o x) = walked x
    walked (binary og o l r) =
        ap (λ (p : Bool × Bool). and_on p (λ u. walk visitor u r)) (walked l) ∙ both_walked (contains_column (λ c. true) l) (contains_column (λ c. true) r) r (walked r)

-- ---- transform with a rewrite that can't fail, before the operands are gone into

abbrev map_operands : (Expression → Expression) → Expression → Expression
map_operands f (constant og v) = constant og v
map_operands f (column og c) = column og c
map_operands f (unary og o x) = unary og o (f x)
map_operands f (binary og o l r) = binary og o (f l) (f r)

-- each operand has at most n cells
abbrev Fits : ℕ → Expression → Type 0
Fits n (constant og v) = 0 ≤ n
Fits n (column og c) = 0 ≤ n
Fits n (unary og o x) = size x ≤ n
Fits n (binary og o l r) = (size l ≤ n) × (size r ≤ n)

pub size_positive : (e : Expression) → 1 ≤ size e
size_positive (constant og v) = omega arith
size_positive (column og c) = omega arith
size_positive (unary og o x) = omega arith
size_positive (binary og o l r) = omega arith

module _ (xform result : Expression → Expression)
    (fits : (n : ℕ) (e : Expression) → size e ≤ suc n → Fits n (xform e))
    (step : (e : Expression) → map_operands result (xform e) ≡ result e) where
  operands_same : (n : ℕ) (f : Expression → Run Expression) → ((e : Expression) → size e ≤ n → f e ≡ Ok (result e)) → (e : Expression) → Fits n e
      → (transform_operands f e >>= Ok) ≡ Ok (map_operands result e)
  operands_same n f below (constant og v) h = refl
  operands_same n f below (column og c) h = refl
  operands_same n f below (unary og o x) h = ap (λ z. z >>= (λ y. Ok (unary og o y)) >>= Ok) (below x h)
  operands_same n f below (binary og o l r) h =
      ap₂ (λ z w. z >>= (λ x. w >>= λ y. Ok (binary og o x y)) >>= Ok) (below l h.0) (below r h.1)

  transform_same : (n : ℕ) (e : Expression) → size e ≤ n → transform (λ e. Ok (xform e)) Ok n e ≡ Ok (result e)
  transform_same zero e h = absurd (let p = size_positive e in omega arith)
  transform_same (suc n) e h =
      operands_same n (transform (λ e. Ok (xform e)) Ok n) (transform_same n) (xform e) (fits n e h) ∙ ap Ok (step e)

  unwrapped : (e : Expression) → unwrap (transform (λ e. Ok (xform e)) Ok (size e) e) ≡ Ok (result e)
  unwrapped e = ap unwrap (transform_same (size e) e (omega arith))

-- ---- into_nnf

nnf_fits : (n : ℕ) (e : Expression) → size e ≤ suc n → Fits n (nnf_xform e)
nnf_fits n (constant og v) h = omega arith
nnf_fits n (column og c) h = omega arith
nnf_fits n (unary og Not (constant o v)) h = omega arith
nnf_fits n (unary og Not (column o c)) h = omega arith
nnf_fits n (unary og Not (unary o Not (constant k v))) h = omega arith
nnf_fits n (unary og Not (unary o Not (column k c))) h = omega arith
nnf_fits n (unary og Not (unary o Not (unary k f x))) h = omega arith
nnf_fits n (unary og Not (unary o Not (binary k f l r))) h = (omega arith, omega arith)
nnf_fits n (unary og Not (unary o (function f) x)) h = omega arith
nnf_fits n (unary og Not (binary o (logical And) l r)) h = let p = size_positive l in let q = size_positive r in (omega arith, omega arith)
nnf_fits n (unary og Not (binary o (logical Or) l r)) h = let p = size_positive l in let q = size_positive r in (omega arith, omega arith)
nnf_fits n (unary og Not (binary o Equal l r)) h = omega arith
nnf_fits n (unary og Not (binary o (function f) l r)) h = omega arith
nnf_fits n (unary og (function f) x) h = omega arith
nnf_fits n (binary og o l r) h = let p = size_positive l in let q = size_positive r in go o
  where
    go : (o : Binary) → Fits n (nnf_xform (binary og o l r))
    go o = (omega arith, omega arith)

nnf_step : (e : Expression) → map_operands Defined.into_nnf (nnf_xform e) ≡ Defined.into_nnf e
nnf_step (constant og v) = refl
nnf_step (column og c) = refl
nnf_step (unary og Not (constant o v)) = refl
nnf_step (unary og Not (column o c)) = refl
nnf_step (unary og Not (unary o Not (constant k v))) = refl
nnf_step (unary og Not (unary o Not (column k c))) = refl
nnf_step (unary og Not (unary o Not (unary k f x))) = refl
nnf_step (unary og Not (unary o Not (binary k f l r))) = refl
nnf_step (unary og Not (unary o (function f) x)) = refl
nnf_step (unary og Not (binary o (logical And) l r)) = refl
nnf_step (unary og Not (binary o (logical Or) l r)) = refl
nnf_step (unary og Not (binary o Equal l r)) = refl
nnf_step (unary og Not (binary o (function f) l r)) = refl
nnf_step (unary og (function f) x) = refl
nnf_step (binary og o l r) = refl

pub nnf_same : (e : Expression) → into_nnf e ≡ Ok (Defined.into_nnf e)
nnf_same = unwrapped nnf_xform Defined.into_nnf nnf_fits nnf_step

-- ---- into_cnf

or_fits_right : (n og : ℕ) (l r : Expression) → suc (size l + size r) ≤ suc n → Fits n ((And? r ⇒ λ (o, x, y). and og (or og l x) (or og l y)) else or og l r)
or_fits_right n og l (constant o v) h = (omega arith, omega arith)
or_fits_right n og l (column o c) h = (omega arith, omega arith)
or_fits_right n og l (unary o f x) h = (omega arith, omega arith)
or_fits_right n og l (binary o (logical And) x y) h = let p = size_positive x in let q = size_positive y in (omega arith, omega arith)
or_fits_right n og l (binary o (logical Or) x y) h = (omega arith, omega arith)
or_fits_right n og l (binary o Equal x y) h = (omega arith, omega arith)
or_fits_right n og l (binary o (function f) x y) h = (omega arith, omega arith)

or_fits : (n og : ℕ) (l r : Expression) → suc (size l + size r) ≤ suc n → Fits n (cnf_xform (or og l r))
or_fits n og (constant o v) r h = or_fits_right n og (constant o v) r h
or_fits n og (column o c) r h = or_fits_right n og (column o c) r h
or_fits n og (unary o f x) r h = or_fits_right n og (unary o f x) r h
or_fits n og (binary o (logical And) x y) r h = let p = size_positive x in let q = size_positive y in (omega arith, omega arith)
or_fits n og (binary o (logical Or) x y) r h = or_fits_right n og (or o x y) r h
or_fits n og (binary o Equal x y) r h = or_fits_right n og (binary o Equal x y) r h
or_fits n og (binary o (function f) x y) r h = or_fits_right n og (binary o (function f) x y) r h

cnf_fits : (n : ℕ) (e : Expression) → size e ≤ suc n → Fits n (cnf_xform e)
cnf_fits n (constant og v) h = omega arith
cnf_fits n (column og c) h = omega arith
cnf_fits n (unary og o x) h = omega arith
cnf_fits n (binary og (logical And) l r) h = (omega arith, omega arith)
cnf_fits n (binary og (logical Or) l r) h = or_fits n og l r h
cnf_fits n (binary og Equal l r) h = (omega arith, omega arith)
cnf_fits n (binary og (function f) l r) h = (omega arith, omega arith)

-- of an Or whose left side is no And
or_step_right : (og : ℕ) (l r : Expression) → conjuncts l ≡ single (distribute l)
    → map_operands distribute ((And? r ⇒ λ (o, x, y). and og (or og l x) (or og l y)) else or og l r) ≡ or_both og (conjuncts l) (conjuncts r)
or_step_right og l (constant o v) h = sym (ap (λ z. or_both og z (conjuncts (constant o v))) h)
or_step_right og l (column o c) h = sym (ap (λ z. or_both og z (conjuncts (column o c))) h)
or_step_right og l (unary o f x) h = sym (ap (λ z. or_both og z (conjuncts (unary o f x))) h)
or_step_right og l (binary o (logical And) x y) h =
    ap (λ z. and og (or_both og z (conjuncts x)) (or_both og z (conjuncts y))) h ∙ sym (ap (λ z. or_both og z (conjuncts (and o x y))) h)
or_step_right og l (binary o (logical Or) x y) h = sym (ap (λ z. or_both og z (conjuncts (or o x y))) h)
or_step_right og l (binary o Equal x y) h = sym (ap (λ z. or_both og z (conjuncts (binary o Equal x y))) h)
or_step_right og l (binary o (function f) x y) h = sym (ap (λ z. or_both og z (conjuncts (binary o (function f) x y))) h)

or_step : (og : ℕ) (l r : Expression) → map_operands distribute (cnf_xform (or og l r)) ≡ or_both og (conjuncts l) (conjuncts r)
or_step og (constant o v) r = or_step_right og (constant o v) r refl
or_step og (column o c) r = or_step_right og (column o c) r refl
or_step og (unary o f x) r = or_step_right og (unary o f x) r refl
or_step og (binary o (logical And) x y) r = refl
or_step og (binary o (logical Or) x y) r = or_step_right og (or o x y) r refl
or_step og (binary o Equal x y) r = or_step_right og (binary o Equal x y) r refl
or_step og (binary o (function f) x y) r = or_step_right og (binary o (function f) x y) r refl

cnf_step : (e : Expression) → map_operands distribute (cnf_xform e) ≡ distribute e
cnf_step (constant og v) = refl
cnf_step (column og c) = refl
cnf_step (unary og o x) = refl
cnf_step (binary og (logical And) l r) = refl
cnf_step (binary og (logical Or) l r) = or_step og l r
cnf_step (binary og Equal l r) = refl
cnf_step (binary og (function f) l r) = refl

pub cnf_same : (e : Expression) → into_cnf e ≡ Ok (Defined.into_cnf e)
unfolding Defined.into_cnf
cnf_same e =
    ap (λ z. z >>= λ n. unwrap (transform (λ e. Ok (cnf_xform e)) Ok (size n) n)) (nnf_same e)
    ∙ unwrapped cnf_xform distribute cnf_fits cnf_step (Defined.into_nnf e)

-- ---- into_cnf_vec

abbrev stack_size : List Expression → ℕ
stack_size [] = 0
stack_size (e ∷ stack) = size e + stack_size stack

-- what a stack comes to, whose top stands last
abbrev stack_ands : List Expression → List Expression
stack_ands [] = []
stack_ands (e ∷ stack) = stack_ands stack ++ ands e

stack_size_push : (stack : List Expression) (e : Expression) → stack_size (stack ++ (e ∷ [])) ≡ stack_size stack + size e
stack_size_push [] e = omega arith
stack_size_push (x ∷ stack) e = let h = stack_size_push stack e in omega arith

stack_ands_push : (stack : List Expression) (e : Expression) → stack_ands (stack ++ (e ∷ [])) ≡ ands e ++ stack_ands stack
stack_ands_push [] e = sym (append-nil (ands e))
stack_ands_push (x ∷ stack) e = ap (λ z. z ++ ands x) (stack_ands_push stack e) ∙ append_assoc (ands e) (stack_ands stack) (ands x)

-- what pop gives is what stood last
popped : (stack : List Expression) (o : Option (Expression × List Expression)) → pop stack ≡ o → stack ≡ ((o ⇒ λ (e, rest). rest ++ (e ∷ [])) else [])
popped [] o h = ap (λ (o : Option (Expression × List Expression)). (o ⇒ λ (e, rest). rest ++ (e ∷ [])) else []) h
popped (x ∷ stack) o h =
    go (pop stack) (popped stack (pop stack) refl)
    ∙ ap (λ (o : Option (Expression × List Expression)). (o ⇒ λ (e, rest). rest ++ (e ∷ [])) else []) h
  where
    go : (q : Option (Expression × List Expression)) → stack ≡ ((q ⇒ λ (e, rest). rest ++ (e ∷ [])) else [])
        → x ∷ stack ≡ ((some (put_first x q) ⇒ λ (e, rest). rest ++ (e ∷ [])) else [])
    go none i = ap (λ z. x ∷ z) i
    go (some p) i = ap (λ z. x ∷ z) i

no_and : {A : Type 0} {p : ℕ × Expression × Expression} → ◌≡◌ {A = Option (ℕ × Expression × Expression)} none (some p) → A
no_and h = absurd (let y : ◌≡◌ {A = ℕ} 0 1 = cc in omega arith)

is_and : (e : Expression) (p : ℕ × Expression × Expression) → And? e ≡ some p → e ≡ and p.0 p.1 p.2
is_and (constant og v) p h = no_and h
is_and (column og c) p h = no_and h
is_and (unary og o x) p h = no_and h
is_and (binary og (logical And) l r) p h = let z : (og, l, r) ≡ p = cc in ap (λ (t : ℕ × Expression × Expression). and t.0 t.1 t.2) z
is_and (binary og (logical Or) l r) p h = no_and h
is_and (binary og Equal l r) p h = no_and h
is_and (binary og (function f) l r) p h = no_and h

ands_one : (e : Expression) → And? e ≡ none → ands e ≡ e ∷ []
ands_one (constant og v) h = refl
ands_one (column og c) h = refl
ands_one (unary og o x) h = refl
ands_one (binary og (logical And) l r) h = no_and (sym h)
ands_one (binary og (logical Or) l r) h = refl
ands_one (binary og Equal l r) h = refl
ands_one (binary og (function f) l r) h = refl

loop_same : (n : ℕ) (cnf stack : List Expression) → suc (stack_size stack) ≤ n → cnf_loop n cnf stack ≡ Ok (cnf ++ stack_ands stack)
loop_same zero cnf stack h = absurd (omega arith)
loop_same (suc n) cnf stack h = go (pop stack) (popped stack (pop stack) refl) (loop_same n)
  where
    Below : Type 0
    Below = (cnf stack : List Expression) → suc (stack_size stack) ≤ n → cnf_loop n cnf stack ≡ Ok (cnf ++ stack_ands stack)

    split : (e : Expression) (rest : List Expression) (q : Option (ℕ × Expression × Expression)) → And? e ≡ q → stack ≡ rest ++ (e ∷ []) → Below
        → ((q ⇒ λ (og, lhs, rhs). cnf_loop n cnf (rest ++ (rhs ∷ lhs ∷ []))) else cnf_loop n (push cnf e) rest) ≡ Ok (cnf ++ (ands e ++ stack_ands rest))
    split e rest none i s below =
        let a = size_positive e in
        let b : stack_size stack ≡ stack_size (rest ++ (e ∷ [])) = ap stack_size s in
        let c = stack_size_push rest e in
        below (push cnf e) rest (omega arith)
        ∙ ap Ok (append_assoc cnf (e ∷ []) (stack_ands rest) ∙ ap (λ z. cnf ++ (z ++ stack_ands rest)) (sym (ands_one e i)))
    split e rest (some p) i s below =
        let is = is_and e p i in
        let w : size e ≡ suc (size p.1 + size p.2) = ap size is in
        let b : stack_size stack ≡ stack_size (rest ++ (e ∷ [])) = ap stack_size s in
        let c = stack_size_push rest e in
        let d = stack_size_push rest p.2 in
        let f = stack_size_push (rest ++ (p.2 ∷ [])) p.1 in
        let two : rest ++ (p.2 ∷ p.1 ∷ []) ≡ (rest ++ (p.2 ∷ [])) ++ (p.1 ∷ []) = sym (append_assoc rest (p.2 ∷ []) (p.1 ∷ [])) in
        ap (cnf_loop n cnf) two
        ∙ (below cnf ((rest ++ (p.2 ∷ [])) ++ (p.1 ∷ [])) (omega arith)
        ∙ ap (λ z. Ok (cnf ++ z)) (stack_ands_push (rest ++ (p.2 ∷ [])) p.1 ∙ (ap (λ z. ands p.1 ++ z) (stack_ands_push rest p.2)
        ∙ (sym (append_assoc (ands p.1) (ands p.2) (stack_ands rest)) ∙ ap (λ z. ands z ++ stack_ands rest) (sym is)))))

    go : (o : Option (Expression × List Expression)) → stack ≡ ((o ⇒ λ (e, rest). rest ++ (e ∷ [])) else []) → Below
        → ((o ⇒ λ (expr, stack). (And? expr ⇒ λ (og, lhs, rhs). cnf_loop n cnf (stack ++ (rhs ∷ lhs ∷ []))) else cnf_loop n (push cnf expr) stack) else Ok cnf)
        ≡ Ok (cnf ++ stack_ands stack)
    go none s below = ap Ok (sym (append-nil cnf) ∙ ap (λ z. cnf ++ stack_ands z) (sym s))
    go (some p) s below =
        split p.0 p.1 (And? p.0) refl s below
        ∙ ap (λ z. Ok (cnf ++ z)) (sym (stack_ands_push p.1 p.0) ∙ ap stack_ands (sym s))

pub cnf_vec_same : (e : Expression) → into_cnf_vec e ≡ Ok (Defined.into_cnf_vec e)
unfolding Defined.into_cnf_vec
cnf_vec_same e =
    ap (λ z. z >>= λ c. cnf_loop (suc (size c)) [] (c ∷ [])) (cnf_same e)
    ∙ loop_same (suc (size (Defined.into_cnf e))) [] (Defined.into_cnf e ∷ []) (omega arith)

-- ---- and_vec

and_all_same : (new : ℕ) (e : Expression) (es : List Expression) → for_each (λ expr rhs. and new expr rhs) e es ≡ and_all new e es
and_all_same new e [] = refl
and_all_same new e (x ∷ es) = and_all_same new (and new e x) es

pub and_vec_same : (new : ℕ) (es : List Expression) → and_vec new es ≡ Defined.and_vec new es
and_vec_same new [] = refl
and_vec_same new (e ∷ es) = ap some (and_all_same new e es)

-- ---- is_column_lookup

column_same : (e : Expression) → (Column? e ⇒ λ c. c.1) ≡ Defined.is_column e
column_same (constant og v) = refl
column_same (column og c) = refl
column_same (unary og o x) = refl
column_same (binary og o l r) = refl

equal_lookup_same : (og : ℕ) (l r : Expression) → is_column_lookup (binary og Equal l r) ≡ is_equal_lookup l r
equal_lookup_same og (constant o v) (constant k w) = refl
equal_lookup_same og (constant o v) (column k c) = refl
equal_lookup_same og (constant o v) (unary k f x) = refl
equal_lookup_same og (constant o v) (binary k f x y) = refl
equal_lookup_same og (column o c) (constant k w) = refl
equal_lookup_same og (column o c) (column k d) = refl
equal_lookup_same og (column o c) (unary k f x) = refl
equal_lookup_same og (column o c) (binary k f x y) = refl
equal_lookup_same og (unary o g z) r = refl
equal_lookup_same og (binary o g z w) r = refl

same_column_same : (a b : Option ℕ) → ((a & b) if (λ (l, r). eqb l r) ⇒ λ (l, r). l) ≡ same_column a b
same_column_same none b = refl
same_column_same (some c) none = refl
same_column_same (some c) (some d) = go (eqb c d)
  where
    go : (t : Bool) → (cond t (some (c, d)) none ⇒ λ (l, r). l) ≡ cond t (some c) none
    go true = refl
    go false = refl

pub lookup_same : (e : Expression) → is_column_lookup e ≡ Defined.is_column_lookup e
lookup_same (constant og v) = refl
lookup_same (column og c) = refl
lookup_same (unary og Not x) = refl
lookup_same (unary og (function IsNull) x) = column_same x
lookup_same (unary og (function IsNaN) x) = column_same x
lookup_same (unary og (function Identity) x) = refl
lookup_same (unary og (function Negate) x) = refl
lookup_same (unary og (function SquareRoot) x) = refl
lookup_same (binary og (logical And) l r) = refl
lookup_same (binary og (logical Or) l r) =
    ap₂ (λ (a b : Option ℕ). (a & b) if (λ (l, r). eqb l r) ⇒ λ (l, r). l) (lookup_same l) (lookup_same r)
    ∙ same_column_same (Defined.is_column_lookup l) (Defined.is_column_lookup r)
lookup_same (binary og Equal l r) = equal_lookup_same og l r
lookup_same (binary og (function f) l r) = refl

-- ---- into_column_values: of a lookup of the column it never panics

pub no_number : {A : Type 0} {c : ℕ} → ◌≡◌ {A = Option ℕ} none (some c) → A
no_number h = absurd (let y : ◌≡◌ {A = ℕ} 0 1 = cc in omega arith)

asserted : {A : Type 0} (a b : ℕ) (r : Run A) → ◌≡◌ {A = Option ℕ} (some a) (some b) → assert_eq a b r ≡ r
asserted a b r h = let e : a ≡ b = cc in ap (λ z. cond z r Panic) (eq-eqb a b e)

pub same_column_both : (a b : Option ℕ) (c : ℕ) → same_column a b ≡ some c → (a ≡ some c) × (b ≡ some c)
same_column_both none b c h = no_number h
same_column_both (some x) none c h = no_number h
same_column_both (some x) (some y) c h = go (eqb x y) refl h
  where
    go : (t : Bool) → eqb x y ≡ t → cond t (some x) none ≡ some c → (◌≡◌ {A = Option ℕ} (some x) (some c)) × (◌≡◌ {A = Option ℕ} (some y) (some c))
    go true e i = (i, ap some (sym (eqb-true x y e)) ∙ i)
    go false e i = no_number i

undefined_values : (og : ℕ) (v : Value) → cond (is_undefined v) [] ((v, og) ∷ []) ≡ Defined.equal_values (some (v, og))
undefined_values og v = ap (λ z. cond z [] ((v, og) ∷ [])) (undefined_same v)

equal_values_same : (og : ℕ) (l r : Expression) (c : ℕ) → is_equal_lookup l r ≡ some c
    → into_column_values c (binary og Equal l r) ≡ Ok (Defined.equal_values (Defined.is_constant l) ++ Defined.equal_values (Defined.is_constant r))
equal_values_same og (constant o v) (constant k w) c h = no_number h
equal_values_same og (constant o v) (column k d) c h =
    asserted d c (Ok (cond (is_undefined v) [] ((v, o) ∷ []))) h ∙ ap Ok (undefined_values o v ∙ sym (append-nil (Defined.equal_values (some (v, o)))))
equal_values_same og (constant o v) (unary k f x) c h = no_number h
equal_values_same og (constant o v) (binary k f x y) c h = no_number h
equal_values_same og (column o d) (constant k w) c h = asserted d c (Ok (cond (is_undefined w) [] ((w, k) ∷ []))) h ∙ ap Ok (undefined_values k w)
equal_values_same og (column o d) (column k b) c h = no_number h
equal_values_same og (column o d) (unary k f x) c h = no_number h
equal_values_same og (column o d) (binary k f x y) c h = no_number h
equal_values_same og (unary o g z) r c h = no_number h
equal_values_same og (binary o g z w) r c h = no_number h

is_values_same : (x : Expression) (c : ℕ) (vs : List (Marked Value)) → Defined.is_column x ≡ some c → ((Column? x ⇒ λ d. assert_eq d.1 c (Ok vs)) else Panic) ≡ Ok vs
is_values_same (constant og v) c vs h = no_number h
is_values_same (column og d) c vs h = asserted d c (Ok vs) h
is_values_same (unary og o x) c vs h = no_number h
is_values_same (binary og o l r) c vs h = no_number h

pub values_same : (e : Expression) (c : ℕ) → Defined.is_column_lookup e ≡ some c → into_column_values c e ≡ Ok (Defined.into_column_values e)
values_same (constant og v) c h = no_number h
values_same (column og d) c h = no_number h
values_same (unary og Not x) c h = no_number h
values_same (unary og (function IsNull) x) c h = is_values_same x c (Defined.into_column_values (unary og (function IsNull) x)) h
values_same (unary og (function IsNaN) x) c h = is_values_same x c (Defined.into_column_values (unary og (function IsNaN) x)) h
values_same (unary og (function Identity) x) c h = no_number h
values_same (unary og (function Negate) x) c h = no_number h
values_same (unary og (function SquareRoot) x) c h = no_number h
values_same (binary og (logical And) l r) c h = no_number h
values_same (binary og (logical Or) l r) c h =
    let b = same_column_both (Defined.is_column_lookup l) (Defined.is_column_lookup r) c h in
    ap₂ (λ (x y : Run (List (Marked Value))). x >>= λ vs. y >>= λ ws. Ok (vs ++ ws)) (values_same l c b.0) (values_same r c b.1)
values_same (binary og Equal l r) c h = equal_values_same og l r c h
values_same (binary og (function f) l r) c h = no_number h

-- ---- replace_column and shift_column

module _ (f : ℕ → ℕ) (xform : Expression → Expression)
    (at_column : (og c : ℕ) → xform (column og c) ≡ column og (f c))
    (at_constant : (og : ℕ) (v : Value) → xform (constant og v) ≡ constant og v)
    (at_unary : (og : ℕ) (o : Unary) (x : Expression) → xform (unary og o x) ≡ unary og o x)
    (at_binary : (og : ℕ) (o : Binary) (l r : Expression) → xform (binary og o l r) ≡ binary og o l r) where
  columns_fits : (n : ℕ) (e : Expression) → size e ≤ suc n → Fits n (xform e)
  columns_fits n (constant og v) h = rw (at_constant og v) (omega arith)
  columns_fits n (column og c) h = rw (at_column og c) (omega arith)
  columns_fits n (unary og o x) h = rw (at_unary og o x) (omega arith)
  columns_fits n (binary og o l r) h = rw (at_binary og o l r) (omega arith, omega arith)

  columns_step : (e : Expression) → map_operands (map_columns f) (xform e) ≡ map_columns f e
  columns_step (constant og v) = ap (map_operands (map_columns f)) (at_constant og v)
  columns_step (column og c) = ap (map_operands (map_columns f)) (at_column og c)
  columns_step (unary og o x) = ap (map_operands (map_columns f)) (at_unary og o x)
  columns_step (binary og o l r) = ap (map_operands (map_columns f)) (at_binary og o l r)

  columns_same : (e : Expression) → unwrap (transform (λ e. Ok (xform e)) Ok (size e) e) ≡ Ok (map_columns f e)
  columns_same = unwrapped xform (map_columns f) columns_fits columns_step

pub replace_same : (from to : ℕ) (e : Expression) → replace_column from to e ≡ Ok (Defined.replace_column from to e)
replace_same from to =
    columns_same (λ c. cond (eqb c from) to c) (replace_xform from to) (λ og c. go og c (eqb c from)) (λ og v. refl) (λ og o x. refl) (λ og o l r. refl)
  where
    go : (og c : ℕ) (b : Bool) → ((cond b (some (og, c)) none ⇒ λ (og, i). column og to) else column og c) ≡ column og (cond b to c)
    go og c true = refl
    go og c false = refl

shift_columns : (diff : ℤ) (e : Expression) → shift_column diff e ≡ Ok (map_columns (λ c. as_usize (pos c +ℤ diff)) e)
shift_columns diff = columns_same (λ c. as_usize (pos c +ℤ diff)) (shift_xform diff) (λ og c. refl) (λ og v. refl) (λ og o x. refl) (λ og o l r. refl)

-- two maps that do the same to the columns there are
maps_same : (f g : ℕ → ℕ) (outside : ℕ → Bool) → ((c : ℕ) → outside c ≡ false → f c ≡ g c) → (e : Expression) → contains_column outside e ≡ false → map_columns f e ≡ map_columns g e
maps_same f g outside h (constant og v) i = refl
maps_same f g outside h (column og c) i = ap (column og) (h c i)
maps_same f g outside h (unary og o x) i = ap (unary og o) (maps_same f g outside h x i)
maps_same f g outside h (binary og o l r) i =
    let p = or_left (contains_column outside l) (contains_column outside r) i in let q = or_behind (contains_column outside l) (contains_column outside r) i in
    ap₂ (binary og o) (maps_same f g outside h l p) (maps_same f g outside h r q)

no_columns : (e : Expression) → contains_column (λ c. false) e ≡ false
no_columns (constant og v) = refl
no_columns (column og c) = refl
no_columns (unary og o x) = no_columns x
no_columns (binary og o l r) = rw (no_columns l, no_columns r)

pub up_same : (n : ℕ) (e : Expression) → shift_column (pos n) e ≡ Ok (Defined.shift_column_up n e)
up_same n e = shift_columns (pos n) e ∙ ap Ok (maps_same (λ c. c + n) (λ c. n + c) (λ c. false) (λ c h. omega arith) e (no_columns e))

down_column : (n c : ℕ) → ltb c n ≡ false → as_usize (pos c +ℤ neg_ℤ (pos n)) ≡ c - n
down_column zero c h = omega arith
down_column (suc n) c h = ap (λ z. as_usize (cond z (negsuc (suc n - suc c)) (pos (c - suc n)))) h

-- Nothing wraps where no column is below n.
pub down_same : (n : ℕ) (e : Expression) → contains_column (λ c. ltb c n) e ≡ false → shift_column (neg_ℤ (pos n)) e ≡ Ok (Defined.shift_column_down n e)
down_same n e h =
    shift_columns (neg_ℤ (pos n)) e ∙ ap Ok (maps_same (λ c. as_usize (pos c +ℤ neg_ℤ (pos n))) (λ c. c - n) (λ c. ltb c n) (down_column n) e h)
