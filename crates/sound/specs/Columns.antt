-- The moving of columns, for all offsets at once: which numbers come out of a rewrite is decided by which go in.
use Rattle.std.specs.Prelude.{ℕ, ◌+◌, ◌-◌, ◌≤◌, ◌<◌, ◌≡◌, refl, Bool, false, ltb}
use Rattle.std.proofs.Common.{arith, ltb-true, ltb-false, lt-ltb, ap, ap₂}
use Rattle.std.proofs.Math.Option.{none, some}
use Rattle.value.specs.Value.{Value}
use Rattle.sql.specs.Expression.{Expression, constant, column, unary, binary, size, map_columns, replace_column, shift_column_down, shift_column_up, is_column_lookup}
use Rattle.sql.specs.Optimizer.{ref_left}
use Rattle.sheet.specs.Scope.{first_of, unless, column_outside}
use Rattle.sheet_laws.proofs.Counts.{first_of_none, unless_none}
use Rattle.sound.specs.Expressions.{MadeOf, moved, without, replaced, only_lookup}

-- a property of columns alone
abbrev pub Columns : (ℕ → Type 0) → Expression → Type 0
Columns C e = MadeOf (λ v. Unit {0}) C e

-- Nothing is out of scope exactly if each column is below n.
pub below : (n : ℕ) (e : Expression) (at : ℕ) → column_outside n at e ≡ none → Columns (λ c. c < n) e
below n (constant og v) at h = tt
below n (column og c) at h = ltb-true c n (unless_none (ltb c n) at h)
below n (unary og o x) at h = below n x at h
below n (binary og o l r) at h =
    let p = first_of_none (column_outside n at l) (column_outside n (at + size l) r) h in (below n l at p.0, below n r (at + size l) p.1)

pub none_outside : (P : Value → Type 0) (n : ℕ) (e : Expression) (at : ℕ) → MadeOf P (λ c. c < n) e → column_outside n at e ≡ none
none_outside P n (constant og v) at m = refl
none_outside P n (column og c) at m = ap (λ (b : Bool). unless b at) (lt-ltb c n m)
none_outside P n (unary og o x) at m = none_outside P n x at m
none_outside P n (binary og o l r) at m = ap₂ first_of (none_outside P n l at m.0) (none_outside P n r (at + size l) m.1)

-- ---- shifts, between the row of a right source with m columns and the joined row, where n columns of the left source stand before them

abbrev pub Right : (n m : ℕ) → ℕ → Type 0
Right n m c = (n ≤ c) × (c < n + m)

module _ (P : Value → Type 0) (n m : ℕ) where
  pub shifted_up : (e : Expression) → MadeOf P (λ c. c < m) e → MadeOf P (λ c. c < n + m) (shift_column_up n e)
  shifted_up = moved P (λ c. n + c) (λ c. c < m) (λ c. c < n + m) (λ c h. omega arith)

  pub shifted_down : (e : Expression) → MadeOf P (Right n m) e → MadeOf P (λ c. c < m) (shift_column_down n e)
  shifted_down = moved P (λ c. c - n) (Right n m) (λ c. c < m) (λ c h. let (p, q) = h in omega arith)

  -- where no column is the left source's
  pub right_only : (e : Expression) → ref_left n e ≡ false → MadeOf P (λ c. c < n + m) e → MadeOf P (Right n m) e
  right_only e h = without P (λ c. ltb c n) (λ c. c < n + m) (Right n m) (λ c x k. (ltb-false c n k, x)) e h

-- ---- the same in the words of the check, wherever the expression's first cell stands before and after

-- any rewrite that takes the numbers below n to numbers below m
pub moved_scope : (f : ℕ → ℕ) (n m : ℕ) → ((c : ℕ) → c < n → f c < m)
    → (e : Expression) (at to : ℕ) → column_outside n at e ≡ none → column_outside m to (map_columns f e) ≡ none
moved_scope f n m h e at to k = none_outside (λ v. Unit {0}) m (map_columns f e) to (moved (λ v. Unit {0}) f (λ c. c < n) (λ c. c < m) h e (below n e at k))

pub shift_up_scope : (n m : ℕ) (e : Expression) (at to : ℕ) → column_outside m at e ≡ none → column_outside (n + m) to (shift_column_up n e) ≡ none
shift_up_scope n m e at to h = none_outside (λ v. Unit {0}) (n + m) (shift_column_up n e) to (shifted_up (λ v. Unit {0}) n m e (below m e at h))

pub shift_down_scope : (n m : ℕ) (e : Expression) (at to : ℕ) → ref_left n e ≡ false → column_outside (n + m) at e ≡ none
    → column_outside m to (shift_column_down n e) ≡ none
shift_down_scope n m e at to l h =
    none_outside (λ v. Unit {0}) m (shift_column_down n e) to
    (shifted_down (λ v. Unit {0}) n m e (right_only (λ v. Unit {0}) n m e l (below (n + m) e at h)))

-- A lookup of one column that is copied to another is in scope where the other is.
pub copied_scope : (n m from to : ℕ) (e : Expression) (at into : ℕ) → is_column_lookup e ≡ some from → to < m → column_outside n at e ≡ none
    → column_outside m into (replace_column from to e) ≡ none
copied_scope n m from to e at into l t h =
    none_outside (λ v. Unit {0}) m (replace_column from to e) into
    (replaced (λ v. Unit {0}) from to (λ c. c < m) t e (only_lookup (λ v. Unit {0}) (λ c. c < n) e from l (below n e at h)).1)

-- The two shifts undo each other.
pub shift_down_up : (n : ℕ) (e : Expression) → shift_column_down n (shift_column_up n e) ≡ e
shift_down_up n (constant og v) = refl
shift_down_up n (column og c) = let k : n + c - n ≡ c = omega arith in ap (column og) k
shift_down_up n (unary og o x) = ap (unary og o) (shift_down_up n x)
shift_down_up n (binary og o l r) = ap₂ (binary og o) (shift_down_up n l) (shift_down_up n r)

up_down : (n : ℕ) (e : Expression) → Columns (λ c. n ≤ c) e → shift_column_up n (shift_column_down n e) ≡ e
up_down n (constant og v) m = refl
up_down n (column og c) m = let k : n + (c - n) ≡ c = omega arith in ap (column og) k
up_down n (unary og o x) m = ap (unary og o) (up_down n x m)
up_down n (binary og o l r) m = ap₂ (binary og o) (up_down n l m.0) (up_down n r m.1)

pub shift_up_down : (n : ℕ) (e : Expression) → ref_left n e ≡ false → shift_column_up n (shift_column_down n e) ≡ e
shift_up_down n e l =
    up_down n e (without (λ v. Unit {0}) (λ c. ltb c n) (λ c. Unit {0}) (λ c. n ≤ c) (λ c x k. ltb-false c n k) e l (any e))
  where
    any : (x : Expression) → Columns (λ c. Unit {0}) x
    any (constant og v) = tt
    any (column og c) = tt
    any (unary og o x) = any x
    any (binary og o x y) = (any x, any y)
