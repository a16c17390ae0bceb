-- The rows of a Values in scope are equally long: they are read as they stand.
use Rattle.std.specs.Prelude.{ℕ, suc, ◌≡◌, refl, List, [], ◌∷◌, length}
use Rattle.std.proofs.Common.{sym, ap, ◌∙◌}
use Rattle.value.specs.Value.{Result, ok, err}
use Rattle.sql.specs.Expression.{Expression, Row, bind, evaluate}
use Rattle.rows.specs.Reading.{each, evaluate_all, fit, values_row}
use Rattle.same_rows.proofs.Agree.{ok_same, Came, came}

pub fit_own : (row : Row) → fit (length row) row ≡ row
fit_own [] = refl
fit_own (v ∷ row) = ap (λ z. v ∷ z) (fit_own row)

length_each : {A B : Type 0} (f : A → Result B) (xs : List A) (ys : List B) → each f xs ≡ ok ys → length ys ≡ length xs
length_each f [] ys h = ap length (sym (ok_same h))
length_each f (x ∷ xs) ys h =
    let a = came (f x) (λ y. bind (each f xs) (λ zs. ok (y ∷ zs))) ys h in
    let b = came (each f xs) (λ zs. ok (a.of ∷ zs)) ys a.second in
    ap length (sym (ok_same b.second)) ∙ ap suc (length_each f xs b.of b.first)

pub values_row_own : (n : ℕ) (es : List Expression × ℕ) → length es.0 ≡ n → values_row n es ≡ evaluate_all es.0 []
values_row_own n es h = go (evaluate_all es.0 []) refl
  where
    go : (r : Result Row) → evaluate_all es.0 [] ≡ r → bind r (λ row. ok (fit n row)) ≡ r
    go (ok row) e = ap ok (ap (λ z. fit z row) (sym (length_each (evaluate []) es.0 row e ∙ h)) ∙ fit_own row)
    go (err x) e = refl
