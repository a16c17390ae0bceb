-- The moving of columns between a joined row and a source's row, for all offsets at once.
use Rattle.std.specs.Prelude.{ℕ, ◌+◌, ◌-◌, ◌≤◌, Bool, true, false, not, ◌||◌, ◌≡◌, refl, List, ◌++◌, T, ltb, length}
use Rattle.std.proofs.Common.{sym, ap, ap₂, ◌∙◌, subst, arith, nltb→le, get_or-append-add}
use Rattle.value.specs.Value.{null, ok}
use Rattle.sql.specs.Expression.{Expression, constant, column, unary, binary, Row, bind, evaluate_unary, evaluate_binary, evaluate, contains_column, map_columns, shift_column_down, shift_column_up}

-- What is moved up and down again is what it was.
pub down_up : (n : ℕ) (e : Expression) → shift_column_down n (shift_column_up n e) ≡ e
down_up n (constant og v) = refl
down_up n (column og c) = ap (column og) (omega arith)
down_up n (unary og o x) = ap (unary og o) (down_up n x)
down_up n (binary og o l r) = ap₂ (binary og o) (down_up n l) (down_up n r)

or_left : (a b : Bool) → (a || b) ≡ false → a ≡ false
or_left true b h = h
or_left false b h = refl

or_right : (a b : Bool) → (a || b) ≡ false → b ≡ false
or_right true b h = absurd (let y : ◌≡◌ {A = ℕ} 0 1 = cc in omega arith)
or_right false b h = h

-- So is what is moved down and up again, if it has no column below n.
pub up_down : (n : ℕ) (e : Expression) → contains_column (λ c. ltb c n) e ≡ false → shift_column_up n (shift_column_down n e) ≡ e
up_down n (constant og v) h = refl
up_down n (column og c) h = let x = nltb→le c n (subst (λ (t : Bool). T (not t)) (sym h) tt) in ap (column og) (omega arith)
up_down n (unary og o x) h = ap (unary og o) (up_down n x h)
up_down n (binary og o l r) h =
    let in_l = contains_column (λ c. ltb c n) l in
    let in_r = contains_column (λ c. ltb c n) r in
    ap₂ (binary og o) (up_down n l (or_left in_l in_r h)) (up_down n r (or_right in_l in_r h))

-- Moved up by the left row's length, an expression has in the joined row the value, or the error, that it has in the right row.
pub up_value : (left right : Row) (e : Expression) → evaluate (left ++ right) (shift_column_up (length left) e) ≡ evaluate right e
up_value left right (constant og v) = refl
up_value left right (column og c) = ap ok (get_or-append-add left right c null)
up_value left right (unary og o x) = ap (λ z. bind z (evaluate_unary o)) (up_value left right x)
up_value left right (binary og o l r) = ap₂ (λ x y. bind x (λ v. bind y (evaluate_binary o v))) (up_value left right l) (up_value left right r)

-- And the other way round, if it has no column of the left row.
pub down_value : (left right : Row) (e : Expression) → contains_column (λ c. ltb c (length left)) e ≡ false
    → evaluate right (shift_column_down (length left) e) ≡ evaluate (left ++ right) e
down_value left right e h =
    sym (up_value left right (shift_column_down (length left) e)) ∙ ap (evaluate (left ++ right)) (up_down (length left) e h)
