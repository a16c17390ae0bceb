-- into_nnf, into_cnf, into_cnf_vec and and_vec keep T; T under a rewrite of columns.
use Rattle.std.specs.Prelude.{ℕ, Bool, true, false, not, ◌&&◌, ◌||◌, ◌≡◌, refl, List, [], ◌∷◌, ◌++◌}
use Rattle.std.proofs.Math.Bool
use Rattle.std.proofs.Math.Bool.{and-true, and_assoc}
use Rattle.std.proofs.Common.{sym, ap, ap₂, ◌∙◌}
use Rattle.std.proofs.Math.Option.{Option, none, some}
use Rattle.value.specs.Value.{Truth, False, Unknown, True}
use Rattle.value.specs.Logic as Logic
use Rattle.sql.specs.Expression.{Logical, And, Or, Unary, Not, function, Binary, logical, Equal, Expression, constant, column, unary, binary, and, or, contains_column, map_columns, dual, into_nnf, into_nnf_not, into_nnf_operands, Conjuncts, single, both, or_right, or_both, distribute, conjuncts, into_cnf, ands, into_cnf_vec, and_all, and_vec}
use Rattle.rows.specs.Reading.{is_true}
use Rattle.rows.specs.Equalities.{all}
use Rattle.same_rows.proofs.Booleans.{or_left}
use Rattle.same_rows.proofs.Booleans
use Rattle.same_rows.specs.Total.{Columns, Total, known, figure, Shape, even_nots, odd_nots, no_column, Valued, valued, from_value, turn, not_total, as_truth, table, total_unary, total_binary, total, true_at, optional_true_at}

-- ---- into_nnf

turn_turn : (s : Shape) → turn (turn s) ≡ s
turn_turn even_nots = refl
turn_turn odd_nots = refl
turn_turn no_column = refl

not_not_truth : (t : Truth) → Logic.not (Logic.not t) ≡ t
not_not_truth False = refl
not_not_truth Unknown = refl
not_not_truth True = refl

not_not_total : (t : Total) → not_total (not_total t) ≡ t
not_not_total (known t) = ap known (not_not_truth t)
not_not_total (figure negated d) = ap (λ n. figure n d) (Bool.not-not negated)

not_not : (x : Valued) → total_unary Not (total_unary Not x) ≡ x
not_not (valued s t) = ap₂ valued (turn_turn s) (not_not_total t)

not_as_truth : (x : Valued) → as_truth (total_unary Not x) ≡ Logic.not (as_truth x)
not_as_truth (valued s (known t)) = refl
not_as_truth (valued s (figure negated d)) = refl

de_morgan_truth : (o : Logical) (a b : Truth) → table (dual o) (Logic.not a) (Logic.not b) ≡ Logic.not (table o a b)
de_morgan_truth And False b = refl
de_morgan_truth And True b = refl
de_morgan_truth And Unknown False = refl
de_morgan_truth And Unknown Unknown = refl
de_morgan_truth And Unknown True = refl
de_morgan_truth Or False b = refl
de_morgan_truth Or True b = refl
de_morgan_truth Or Unknown False = refl
de_morgan_truth Or Unknown Unknown = refl
de_morgan_truth Or Unknown True = refl

de_morgan : (o : Logical) (x y : Valued) → total_binary (logical (dual o)) (total_unary Not x) (total_unary Not y) ≡ total_unary Not (total_binary (logical o) x y)
de_morgan o x y =
    ap (λ t. valued no_column (known t)) (ap₂ (table (dual o)) (not_as_truth x) (not_as_truth y) ∙ de_morgan_truth o (as_truth x) (as_truth y))

module _ (columns : Columns) where
  mutual
    pub nnf_total : (e : Expression) → total columns (into_nnf e) ≡ total columns e
    nnf_total (constant og v) = refl
    nnf_total (column og c) = refl
    nnf_total (unary og Not x) = nnf_not_total og x
    nnf_total (unary og (function f) x) = ap (total_unary (function f)) (nnf_total x)
    nnf_total (binary og o l r) = ap₂ (total_binary o) (nnf_total l) (nnf_total r)

    nnf_not_total : (new : ℕ) (e : Expression) → total columns (into_nnf_not new e) ≡ total_unary Not (total columns e)
    nnf_not_total new (constant og v) = refl
    nnf_not_total new (column og c) = refl
    nnf_not_total new (unary og Not x) = nnf_operands_total x ∙ sym (not_not (total columns x))
    nnf_not_total new (unary og (function f) x) = ap (λ z. total_unary Not (total_unary (function f) z)) (nnf_total x)
    nnf_not_total new (binary og (logical o) l r) = ap₂ (total_binary (logical (dual o))) (nnf_not_total new l) (nnf_not_total new r) ∙ de_morgan o (total columns l) (total columns r)
    nnf_not_total new (binary og Equal l r) = ap₂ (λ a b. total_unary Not (total_binary Equal a b)) (nnf_total l) (nnf_total r)
    nnf_not_total new (binary og (function f) l r) = ap₂ (λ a b. total_unary Not (total_binary (function f) a b)) (nnf_total l) (nnf_total r)

    nnf_operands_total : (e : Expression) → total columns (into_nnf_operands e) ≡ total columns e
    nnf_operands_total (constant og v) = refl
    nnf_operands_total (column og c) = refl
    nnf_operands_total (unary og o x) = ap (total_unary o) (nnf_total x)
    nnf_operands_total (binary og o l r) = ap₂ (total_binary o) (nnf_total l) (nnf_total r)

-- ---- into_cnf

and_or : (a b c : Truth) → Logic.and (Logic.or a c) (Logic.or b c) ≡ Logic.or (Logic.and a b) c
and_or False b False = refl
and_or False False Unknown = refl
and_or False Unknown Unknown = refl
and_or False True Unknown = refl
and_or False False True = refl
and_or False Unknown True = refl
and_or False True True = refl
and_or True b c = refl
and_or Unknown False False = refl
and_or Unknown False Unknown = refl
and_or Unknown False True = refl
and_or Unknown Unknown False = refl
and_or Unknown Unknown Unknown = refl
and_or Unknown Unknown True = refl
and_or Unknown True False = refl
and_or Unknown True Unknown = refl
and_or Unknown True True = refl

or_and : (a b c : Truth) → Logic.and (Logic.or a b) (Logic.or a c) ≡ Logic.or a (Logic.and b c)
or_and False b c = refl
or_and True b c = refl
or_and Unknown False False = refl
or_and Unknown False Unknown = refl
or_and Unknown False True = refl
or_and Unknown Unknown False = refl
or_and Unknown Unknown Unknown = refl
or_and Unknown Unknown True = refl
or_and Unknown True False = refl
or_and Unknown True Unknown = refl
or_and Unknown True True = refl

abbrev joined : Conjuncts → Expression
joined (single x) = x
joined (both x y) = and 0 (joined x) (joined y)

abbrev of_truth : Truth → Valued
of_truth t = valued no_column (known t)

module _ (columns : Columns) where
  abbrev truth_at : Expression → Truth
  truth_at e = as_truth (total columns e)

  or_right_total : (og : ℕ) (x : Expression) (z : Conjuncts) → total columns (or_right og x z) ≡ of_truth (Logic.or (truth_at x) (truth_at (joined z)))
  or_right_total og x (single z) = refl
  or_right_total og x (both y z) =
      ap₂ (total_binary (logical And)) (or_right_total og x y) (or_right_total og x z) ∙ ap of_truth (or_and (truth_at x) (truth_at (joined y)) (truth_at (joined z)))

  or_both_total : (og : ℕ) (x z : Conjuncts) → total columns (or_both og x z) ≡ of_truth (Logic.or (truth_at (joined x)) (truth_at (joined z)))
  or_both_total og (single x) z = or_right_total og x z
  or_both_total og (both x y) z =
      ap₂ (total_binary (logical And)) (or_both_total og x z) (or_both_total og y z) ∙ ap of_truth (and_or (truth_at (joined x)) (truth_at (joined y)) (truth_at (joined z)))

  mutual
    pub distribute_total : (e : Expression) → total columns (distribute e) ≡ total columns e
    distribute_total (constant og v) = refl
    distribute_total (column og c) = refl
    distribute_total (unary og o x) = ap (total_unary o) (distribute_total x)
    distribute_total (binary og (logical And) l r) = ap₂ (total_binary (logical And)) (distribute_total l) (distribute_total r)
    distribute_total (binary og (logical Or) l r) = or_both_total og (conjuncts l) (conjuncts r) ∙ ap₂ (total_binary (logical Or)) (conjuncts_total l) (conjuncts_total r)
    distribute_total (binary og Equal l r) = ap₂ (total_binary Equal) (distribute_total l) (distribute_total r)
    distribute_total (binary og (function f) l r) = ap₂ (total_binary (function f)) (distribute_total l) (distribute_total r)

    conjuncts_total : (e : Expression) → total columns (joined (conjuncts e)) ≡ total columns e
    conjuncts_total (constant og v) = refl
    conjuncts_total (column og c) = refl
    conjuncts_total (unary og o x) = ap (total_unary o) (distribute_total x)
    conjuncts_total (binary og (logical And) l r) = ap₂ (total_binary (logical And)) (conjuncts_total l) (conjuncts_total r)
    conjuncts_total (binary og (logical Or) l r) = or_both_total og (conjuncts l) (conjuncts r) ∙ ap₂ (total_binary (logical Or)) (conjuncts_total l) (conjuncts_total r)
    conjuncts_total (binary og Equal l r) = ap₂ (total_binary Equal) (distribute_total l) (distribute_total r)
    conjuncts_total (binary og (function f) l r) = ap₂ (total_binary (function f)) (distribute_total l) (distribute_total r)

-- ---- the conjuncts are true together

is_true_and : (a b : Truth) → is_true (Logic.and a b) ≡ (is_true a && is_true b)
is_true_and False b = refl
is_true_and True b = refl
is_true_and Unknown False = refl
is_true_and Unknown Unknown = refl
is_true_and Unknown True = refl

is_true_or : (a b : Truth) → is_true (Logic.or a b) ≡ (is_true a || is_true b)
is_true_or True b = refl
is_true_or False b = refl
is_true_or Unknown False = refl
is_true_or Unknown Unknown = refl
is_true_or Unknown True = refl

pub true_and : (columns : Columns) (og : ℕ) (l r : Expression) → true_at columns (and og l r) ≡ (true_at columns l && true_at columns r)
true_and columns og l r = is_true_and (as_truth (total columns l)) (as_truth (total columns r))

pub true_or : (columns : Columns) (og : ℕ) (l r : Expression) → true_at columns (or og l r) ≡ (true_at columns l || true_at columns r)
true_or columns og l r = is_true_or (as_truth (total columns l)) (as_truth (total columns r))

pub all_append : {A : Type 0} (f : A → Bool) (xs ys : List A) → all f (xs ++ ys) ≡ (all f xs && all f ys)
all_append f [] ys = refl
all_append f (x ∷ xs) ys = ap (λ z. f x && z) (all_append f xs ys) ∙ sym (and_assoc (f x) (all f xs) (all f ys))

all_ands : (columns : Columns) (e : Expression) → all (true_at columns) (ands e) ≡ true_at columns e
all_ands columns (constant og v) = and-true (true_at columns (constant og v))
all_ands columns (column og c) = and-true (true_at columns (column og c))
all_ands columns (unary og o x) = and-true (true_at columns (unary og o x))
all_ands columns (binary og (logical And) l r) =
    all_append (true_at columns) (ands l) (ands r) ∙ (ap₂ ◌&&◌ (all_ands columns l) (all_ands columns r) ∙ sym (true_and columns og l r))
all_ands columns (binary og (logical Or) l r) = and-true (true_at columns (or og l r))
all_ands columns (binary og Equal l r) = and-true (true_at columns (binary og Equal l r))
all_ands columns (binary og (function f) l r) = and-true (true_at columns (binary og (function f) l r))

pub all_cnf : (columns : Columns) (e : Expression) → all (true_at columns) (into_cnf_vec e) ≡ true_at columns e
unfolding into_cnf_vec into_cnf
all_cnf columns e =
    all_ands columns (distribute (into_nnf e)) ∙ ap (λ z. is_true (as_truth z)) (distribute_total columns (into_nnf e) ∙ nnf_total columns e)

true_and_all : (columns : Columns) (og : ℕ) (e : Expression) (es : List Expression) → true_at columns (and_all og e es) ≡ (true_at columns e && all (true_at columns) es)
true_and_all columns og e [] = sym (and-true (true_at columns e))
true_and_all columns og e (x ∷ es) =
    true_and_all columns og (and og e x) es
    ∙ (ap (λ z. z && all (true_at columns) es) (true_and columns og e x) ∙ and_assoc (true_at columns e) (true_at columns x) (all (true_at columns) es))

pub true_and_vec : (columns : Columns) (og : ℕ) (es : List Expression) → optional_true_at columns (and_vec og es) ≡ all (true_at columns) es
true_and_vec columns og [] = refl
true_and_vec columns og (e ∷ es) = true_and_all columns og e es

-- ---- columns rewritten, and columns that are not looked at

pub map_columns_total : (columns : Columns) (f : ℕ → ℕ) (e : Expression) → total columns (map_columns f e) ≡ total (λ c. columns (f c)) e
map_columns_total columns f (constant og v) = refl
map_columns_total columns f (column og c) = refl
map_columns_total columns f (unary og o x) = ap (total_unary o) (map_columns_total columns f x)
map_columns_total columns f (binary og o l r) = ap₂ (total_binary o) (map_columns_total columns f l) (map_columns_total columns f r)

-- Two rows that differ only in columns which pass the test give the same, if no such column is looked at.
pub unread : (test : ℕ → Bool) (these those : Columns) → ((c : ℕ) → test c ≡ false → these c ≡ those c)
    → (e : Expression) → contains_column test e ≡ false → total these e ≡ total those e
unread test these those h (constant og v) k = refl
unread test these those h (column og c) k = ap (λ v. valued even_nots (from_value v)) (h c k)
unread test these those h (unary og o x) k = ap (total_unary o) (unread test these those h x k)
unread test these those h (binary og o l r) k =
    ap₂ (total_binary o) (unread test these those h l (or_left (contains_column test l) (contains_column test r) k))
    (unread test these those h r (Booleans.or_right (contains_column test l) (contains_column test r) k))

pub contains_map : (test : ℕ → Bool) (f : ℕ → ℕ) (e : Expression) → contains_column test (map_columns f e) ≡ contains_column (λ c. test (f c)) e
contains_map test f (constant og v) = refl
contains_map test f (column og c) = refl
contains_map test f (unary og o x) = contains_map test f x
contains_map test f (binary og o l r) = ap₂ ◌||◌ (contains_map test f l) (contains_map test f r)

pub contains_fewer : (test more : ℕ → Bool) → ((c : ℕ) → more c ≡ false → test c ≡ false) → (e : Expression) → contains_column more e ≡ false → contains_column test e ≡ false
contains_fewer test more h (constant og v) k = refl
contains_fewer test more h (column og c) k = h c k
contains_fewer test more h (unary og o x) k = contains_fewer test more h x k
contains_fewer test more h (binary og o l r) k =
    ap₂ ◌||◌ (contains_fewer test more h l (or_left (contains_column more l) (contains_column more r) k))
    (contains_fewer test more h r (Booleans.or_right (contains_column more l) (contains_column more r) k))
