-- into_nnf, into_cnf, and_vec and the renumbering of columns commute with every map on origins.
use Rattle.std.specs.Prelude.{ℕ, List, [], ◌∷◌, ◌++◌, map, ◌≡◌, refl}
use Rattle.std.proofs.Math.Option.{none, some}
use Rattle.std.proofs.Math.Path.{ap}
use Rattle.std.proofs.Common.{ap₂, ◌∙◌}
use Rattle.sql.specs.Expression.{And, Or, Not, logical, Equal, function, Expression, constant, column, unary, binary, and, or, not, map_columns, dual, into_nnf, into_nnf_not, into_nnf_operands, Conjuncts, single, both, or_right, or_both, distribute, conjuncts, into_cnf, ands, into_cnf_vec, and_all, and_vec}
use Rattle.sql.specs.Optimizer.{map_optional}
use Rattle.origins.specs.Origins.{map_origins}
use Rattle.origins.proofs.Lists.{map_append}

module _ (h : ℕ → ℕ) where
  pub columns_map : (f : ℕ → ℕ) (e : Expression) → map_columns f (map_origins h e) ≡ map_origins h (map_columns f e)
  columns_map f (constant og v) = refl
  columns_map f (column og c) = refl
  columns_map f (unary og o x) = ap (unary (h og) o) (columns_map f x)
  columns_map f (binary og o l r) = ap₂ (binary (h og) o) (columns_map f l) (columns_map f r)

  -- ---- into_nnf

  mutual
    pub nnf_map : (e : Expression) → into_nnf (map_origins h e) ≡ map_origins h (into_nnf e)
    nnf_map (constant og v) = refl
    nnf_map (column og c) = refl
    nnf_map (unary og Not x) = not_map og x
    nnf_map (unary og (function f) x) = ap (unary (h og) (function f)) (nnf_map x)
    nnf_map (binary og o l r) = ap₂ (binary (h og) o) (nnf_map l) (nnf_map r)

    not_map : (new : ℕ) (e : Expression) → into_nnf_not (h new) (map_origins h e) ≡ map_origins h (into_nnf_not new e)
    not_map new (constant og v) = refl
    not_map new (column og c) = refl
    not_map new (unary og Not x) = operands_map x
    not_map new (unary og (function f) x) = ap (λ z. not (h new) (unary (h og) (function f) z)) (nnf_map x)
    not_map new (binary og (logical o) l r) = ap₂ (binary (h new) (logical (dual o))) (not_map new l) (not_map new r)
    not_map new (binary og Equal l r) = ap₂ (λ x y. not (h new) (binary (h og) Equal x y)) (nnf_map l) (nnf_map r)
    not_map new (binary og (function f) l r) = ap₂ (λ x y. not (h new) (binary (h og) (function f) x y)) (nnf_map l) (nnf_map r)

    operands_map : (e : Expression) → into_nnf_operands (map_origins h e) ≡ map_origins h (into_nnf_operands e)
    operands_map (constant og v) = refl
    operands_map (column og c) = refl
    operands_map (unary og o x) = ap (unary (h og) o) (nnf_map x)
    operands_map (binary og o l r) = ap₂ (binary (h og) o) (nnf_map l) (nnf_map r)

  -- ---- into_cnf

  abbrev map_conjuncts : Conjuncts → Conjuncts
  map_conjuncts (single e) = single (map_origins h e)
  map_conjuncts (both x y) = both (map_conjuncts x) (map_conjuncts y)

  or_right_map : (new : ℕ) (x : Expression) (z : Conjuncts) → or_right (h new) (map_origins h x) (map_conjuncts z) ≡ map_origins h (or_right new x z)
  or_right_map new x (single z) = refl
  or_right_map new x (both y z) = ap₂ (and (h new)) (or_right_map new x y) (or_right_map new x z)

  or_both_map : (new : ℕ) (x z : Conjuncts) → or_both (h new) (map_conjuncts x) (map_conjuncts z) ≡ map_origins h (or_both new x z)
  or_both_map new (single x) z = or_right_map new x z
  or_both_map new (both x y) z = ap₂ (and (h new)) (or_both_map new x z) (or_both_map new y z)

  mutual
    distribute_map : (e : Expression) → distribute (map_origins h e) ≡ map_origins h (distribute e)
    distribute_map (constant og v) = refl
    distribute_map (column og c) = refl
    distribute_map (unary og o x) = ap (unary (h og) o) (distribute_map x)
    distribute_map (binary og (logical And) l r) = ap₂ (and (h og)) (distribute_map l) (distribute_map r)
    distribute_map (binary og (logical Or) l r) = ap₂ (or_both (h og)) (conjuncts_map l) (conjuncts_map r) ∙ or_both_map og (conjuncts l) (conjuncts r)
    distribute_map (binary og Equal l r) = ap₂ (binary (h og) Equal) (distribute_map l) (distribute_map r)
    distribute_map (binary og (function f) l r) = ap₂ (binary (h og) (function f)) (distribute_map l) (distribute_map r)

    conjuncts_map : (e : Expression) → conjuncts (map_origins h e) ≡ map_conjuncts (conjuncts e)
    conjuncts_map (constant og v) = refl
    conjuncts_map (column og c) = refl
    conjuncts_map (unary og o x) = ap (λ z. single (unary (h og) o z)) (distribute_map x)
    conjuncts_map (binary og (logical And) l r) = ap₂ both (conjuncts_map l) (conjuncts_map r)
    conjuncts_map (binary og (logical Or) l r) =
        ap single (ap₂ (or_both (h og)) (conjuncts_map l) (conjuncts_map r) ∙ or_both_map og (conjuncts l) (conjuncts r))
    conjuncts_map (binary og Equal l r) = ap₂ (λ x y. single (binary (h og) Equal x y)) (distribute_map l) (distribute_map r)
    conjuncts_map (binary og (function f) l r) = ap₂ (λ x y. single (binary (h og) (function f) x y)) (distribute_map l) (distribute_map r)

  pub cnf_map : (e : Expression) → into_cnf (map_origins h e) ≡ map_origins h (into_cnf e)
  unfolding into_cnf
  cnf_map e = ap distribute (nnf_map e) ∙ distribute_map (into_nnf e)

  -- ---- into_cnf_vec and and_vec

  ands_map : (e : Expression) → ands (map_origins h e) ≡ map (map_origins h) (ands e)
  ands_map (constant og v) = refl
  ands_map (column og c) = refl
  ands_map (unary og o x) = refl
  ands_map (binary og (logical And) l r) = ap₂ (λ x y. x ++ y) (ands_map l) (ands_map r) ∙ map_append (map_origins h) (ands l) (ands r)
  ands_map (binary og (logical Or) l r) = refl
  ands_map (binary og Equal l r) = refl
  ands_map (binary og (function f) l r) = refl

  pub cnf_vec_map : (e : Expression) → into_cnf_vec (map_origins h e) ≡ map (map_origins h) (into_cnf_vec e)
  unfolding into_cnf_vec
  cnf_vec_map e = ap ands (cnf_map e) ∙ ands_map (into_cnf e)

  and_all_map : (new : ℕ) (e : Expression) (es : List Expression) → and_all (h new) (map_origins h e) (map (map_origins h) es) ≡ map_origins h (and_all new e es)
  and_all_map new e [] = refl
  and_all_map new e (x ∷ xs) = and_all_map new (and new e x) xs

  pub and_vec_map : (new : ℕ) (es : List Expression) → and_vec (h new) (map (map_origins h) es) ≡ map_optional (map_origins h) (and_vec new es)
  and_vec_map new [] = refl
  and_vec_map new (x ∷ xs) = ap some (and_all_map new x xs)
