-- What is true of each constant and of each column of an expression stays true under the rewrites that the optimizers use.
use Rattle.std.specs.Prelude.{ℕ, ◌≤◌, ◌<◌, ◌≡◌, refl, Bool, true, false, not, ◌||◌, cond, List, [], ◌∷◌, eqb, ltb}
use Rattle.std.proofs.Common.{arith, ltb-true, ltb-false, eqb-true, eq-eqb, sym, ap, subst}
use Rattle.std.proofs.lemmas.Bool.{not-true}
use Rattle.std.proofs.Math.Option.{Option, none, some}
use Rattle.value.specs.Value.{Value, datum, float, null, the_nan}
use Rattle.value.specs.Undefined.{is_undefined}
use Rattle.sql.specs.Expression.{Marked, And, Or, Function1, IsNull, IsNaN, Identity, Negate, SquareRoot, Not, logical, Equal, function, Expression, constant, column, unary, binary, and, contains_column, map_columns, replace_column, into_nnf, into_nnf_not, into_nnf_operands, Conjuncts, single, both, or_right, or_both, distribute, conjuncts, into_cnf, ands, into_cnf_vec, and_all, and_vec, is_column, is_constant, is_equal_lookup, is_function_lookup, same_column, is_column_lookup, equal_values, into_column_values}
use Rattle.sql.specs.Optimizer.{ref_left, ref_right, ordered, equijoin}
use Rattle.sheet_laws.specs.Fits.{All, Optional}
use Rattle.sound.specs.Lists.{or_false, none_some, some_same, all_append}

-- The expression's constants have the property P, and its columns the property C.
abbrev pub MadeOf : (P : Value → Type 0) (C : ℕ → Type 0) → Expression → Type 0
MadeOf P C (constant og v) = P v
MadeOf P C (column og c) = C c
MadeOf P C (unary og o x) = MadeOf P C x
MadeOf P C (binary og o l r) = MadeOf P C l × MadeOf P C r

-- ---- columns: one law for each rewrite of them, for every offset

module _ (P : Value → Type 0) where
  pub moved : (f : ℕ → ℕ) (C D : ℕ → Type 0) → ((c : ℕ) → C c → D (f c)) → (e : Expression) → MadeOf P C e → MadeOf P D (map_columns f e)
  moved f C D h (constant og v) m = m
  moved f C D h (column og c) m = h c m
  moved f C D h (unary og o x) m = moved f C D h x m
  moved f C D h (binary og o l r) m = (moved f C D h l m.0, moved f C D h r m.1)

  -- an expression none of whose columns passes the test
  pub without : (test : ℕ → Bool) (C D : ℕ → Type 0) → ((c : ℕ) → C c → test c ≡ false → D c)
      → (e : Expression) → contains_column test e ≡ false → MadeOf P C e → MadeOf P D e
  without test C D h (constant og v) k m = m
  without test C D h (column og c) k m = h c m k
  without test C D h (unary og o x) k m = without test C D h x k m
  without test C D h (binary og o l r) k m =
      let p = or_false (contains_column test l) (contains_column test r) k in
      (without test C D h l p.0 m.0, without test C D h r p.1 m.1)

  pub weaker : (C D : ℕ → Type 0) → ((c : ℕ) → C c → D c) → (e : Expression) → MadeOf P C e → MadeOf P D e
  weaker C D h (constant og v) m = m
  weaker C D h (column og c) m = h c m
  weaker C D h (unary og o x) m = weaker C D h x m
  weaker C D h (binary og o l r) m = (weaker C D h l m.0, weaker C D h r m.1)

  -- an expression with one column, which is replaced
  pub replaced : (from to : ℕ) (D : ℕ → Type 0) → D to → (e : Expression) → MadeOf P (λ c. c ≡ from) e → MadeOf P D (replace_column from to e)
  replaced from to D d e m = moved (λ c. cond (eqb c from) to c) (λ c. c ≡ from) D
      (λ c h. subst D (sym (ap (λ (b : Bool). cond b to c) (eq-eqb c from h))) d) e m

-- ---- normal forms and conjunctions

module _ (P : Value → Type 0) (C : ℕ → Type 0) where
  abbrev M : Expression → Type 0
  M = MadeOf P C

  mutual
    pub nnf : (e : Expression) → MadeOf P C e → MadeOf P C (into_nnf e)
    nnf (constant og v) m = m
    nnf (column og c) m = m
    nnf (unary og Not x) m = nnf_not og x m
    nnf (unary og (function f) x) m = nnf x m
    nnf (binary og o l r) m = (nnf l m.0, nnf r m.1)

    nnf_not : (new : ℕ) (e : Expression) → M e → M (into_nnf_not new e)
    nnf_not new (constant og v) m = m
    nnf_not new (column og c) m = m
    nnf_not new (unary og Not x) m = nnf_operands x m
    nnf_not new (unary og (function f) x) m = nnf x m
    nnf_not new (binary og (logical o) l r) m = (nnf_not new l m.0, nnf_not new r m.1)
    nnf_not new (binary og Equal l r) m = (nnf l m.0, nnf r m.1)
    nnf_not new (binary og (function f) l r) m = (nnf l m.0, nnf r m.1)

    nnf_operands : (e : Expression) → M e → M (into_nnf_operands e)
    nnf_operands (constant og v) m = m
    nnf_operands (column og c) m = m
    nnf_operands (unary og o x) m = nnf x m
    nnf_operands (binary og o l r) m = (nnf l m.0, nnf r m.1)

  abbrev ConjunctsOf : Conjuncts → Type 0
  ConjunctsOf (single e) = M e
  ConjunctsOf (both x y) = ConjunctsOf x × ConjunctsOf y

  right_of : (new : ℕ) (x : Expression) (z : Conjuncts) → M x → ConjunctsOf z → M (or_right new x z)
  right_of new x (single z) m k = (m, k)
  right_of new x (both y z) m k = (right_of new x y m k.0, right_of new x z m k.1)

  both_of : (new : ℕ) (x z : Conjuncts) → ConjunctsOf x → ConjunctsOf z → M (or_both new x z)
  both_of new (single x) z m k = right_of new x z m k
  both_of new (both x y) z m k = (both_of new x z m.0 k, both_of new y z m.1 k)

  mutual
    pub distributed : (e : Expression) → MadeOf P C e → MadeOf P C (distribute e)
    distributed (constant og v) m = m
    distributed (column og c) m = m
    distributed (unary og o x) m = distributed x m
    distributed (binary og (logical And) l r) m = (distributed l m.0, distributed r m.1)
    distributed (binary og (logical Or) l r) m = both_of og (conjuncts l) (conjuncts r) (conjuncts_of l m.0) (conjuncts_of r m.1)
    distributed (binary og Equal l r) m = (distributed l m.0, distributed r m.1)
    distributed (binary og (function f) l r) m = (distributed l m.0, distributed r m.1)

    conjuncts_of : (e : Expression) → M e → ConjunctsOf (conjuncts e)
    conjuncts_of (constant og v) m = m
    conjuncts_of (column og c) m = m
    conjuncts_of (unary og o x) m = distributed x m
    conjuncts_of (binary og (logical And) l r) m = (conjuncts_of l m.0, conjuncts_of r m.1)
    conjuncts_of (binary og (logical Or) l r) m = both_of og (conjuncts l) (conjuncts r) (conjuncts_of l m.0) (conjuncts_of r m.1)
    conjuncts_of (binary og Equal l r) m = (distributed l m.0, distributed r m.1)
    conjuncts_of (binary og (function f) l r) m = (distributed l m.0, distributed r m.1)

  pub ands_of : (e : Expression) → MadeOf P C e → All (MadeOf P C) (ands e)
  ands_of (constant og v) m = (m, tt)
  ands_of (column og c) m = (m, tt)
  ands_of (unary og o x) m = (m, tt)
  ands_of (binary og (logical And) l r) m = all_append M (ands l) (ands r) (ands_of l m.0) (ands_of r m.1)
  ands_of (binary og (logical Or) l r) m = (m, tt)
  ands_of (binary og Equal l r) m = (m, tt)
  ands_of (binary og (function f) l r) m = (m, tt)

  pub cnf_of : (e : Expression) → MadeOf P C e → All (MadeOf P C) (into_cnf_vec e)
  unfolding into_cnf_vec into_cnf
  cnf_of e m = ands_of (distribute (into_nnf e)) (distributed (into_nnf e) (nnf e m))

  and_all_of : (new : ℕ) (e : Expression) (es : List Expression) → M e → All M es → M (and_all new e es)
  and_all_of new e [] m k = m
  and_all_of new e (x ∷ xs) m k = and_all_of new (and new e x) xs (m, k.0) k.1

  pub and_vec_of : (new : ℕ) (es : List Expression) → All (MadeOf P C) es → Optional (MadeOf P C) (and_vec new es)
  and_vec_of new [] k = tt
  and_vec_of new (e ∷ es) k = and_all_of new e es k.0 k.1

  -- ---- lookups and equijoins

  -- The column c has the property, and the expression has no other column.
  abbrev pub Only : ℕ → Expression → Type 0
  Only c e = C c × MadeOf P (λ d. d ≡ c) e

  only_column : (e : Expression) (c : ℕ) → is_column e ≡ some c → M e → Only c e
  only_column (constant og v) c h m = none_some h
  only_column (column og d) c h m = let k : d ≡ c = cc in (subst C k m, k)
  only_column (unary og o x) c h m = none_some h
  only_column (binary og o l r) c h m = none_some h

  only_function : (f : Function1) (x : Expression) (c : ℕ) → is_function_lookup f x ≡ some c → M x → Only c x
  only_function IsNull x c h m = only_column x c h m
  only_function IsNaN x c h m = only_column x c h m
  only_function Identity x c h m = none_some h
  only_function Negate x c h m = none_some h
  only_function SquareRoot x c h m = none_some h

  only_equal : (og : ℕ) (l r : Expression) (c : ℕ) → is_equal_lookup l r ≡ some c → M l → M r → Only c (binary og Equal l r)
  only_equal top (constant og v) r c h m k = let o = only_column r c h k in (o.0, (m, o.1))
  only_equal top (column og d) (constant og' v) c h m k = let e : d ≡ c = cc in (subst C e m, (e, k))
  only_equal top (column og d) (column og' b) c h m k = none_some h
  only_equal top (column og d) (unary og' o x) c h m k = none_some h
  only_equal top (column og d) (binary og' o x y) c h m k = none_some h
  only_equal top (unary og o x) r c h m k = none_some h
  only_equal top (binary og o x y) r c h m k = none_some h

  same_both : (a b : Option ℕ) (c : ℕ) → same_column a b ≡ some c → (a ≡ some c) × (b ≡ some c)
  same_both none b c h = none_some h
  same_both (some x) none c h = none_some h
  same_both (some x) (some y) c h = go (eqb x y) refl h
    where
      go : (t : Bool) → eqb x y ≡ t → cond t (some x) none ≡ some c → (◌≡◌ {A = Option ℕ} (some x) (some c)) × (◌≡◌ {A = Option ℕ} (some y) (some c))
      go true e k = let i : x ≡ y = eqb-true x y e in (k, cc)
      go false e k = none_some k

  pub only_lookup : (e : Expression) (c : ℕ) → is_column_lookup e ≡ some c → MadeOf P C e → Only c e
  only_lookup (constant og v) c h m = none_some h
  only_lookup (column og d) c h m = none_some h
  only_lookup (unary og Not x) c h m = none_some h
  only_lookup (unary og (function f) x) c h m = only_function f x c h m
  only_lookup (binary og (logical And) l r) c h m = none_some h
  only_lookup (binary og (logical Or) l r) c h m =
      let s = same_both (is_column_lookup l) (is_column_lookup r) c h in
      let x = only_lookup l c s.0 m.0 in
      let y = only_lookup r c s.1 m.1 in
      (x.0, (x.1, y.1))
  only_lookup (binary og Equal l r) c h m = only_equal og l r c h m.0 m.1
  only_lookup (binary og (function f) l r) c h m = none_some h

  -- The two columns of an equijoin of sources of which the left one has n columns.
  pub record Pair (n : ℕ) (e : Expression) (p : ℕ × ℕ) : Type 0 where
    pub lower : C p.0
    pub higher : C p.1
    pub left : ref_left n e ≡ true → p.0 < n
    pub right : ref_right n e ≡ true → n ≤ p.1

  one_below : (a b n low : ℕ) → low ≤ a → low ≤ b → (ltb a n || ltb b n) ≡ true → low < n
  one_below a b n low p q h = go (ltb a n) refl h
    where
      go : (t : Bool) → ltb a n ≡ t → (t || ltb b n) ≡ true → low < n
      go true e k = omega (arith, ltb-true a n e)
      go false e k = omega (arith, ltb-true b n k)

  one_above : (a b n high : ℕ) → a ≤ high → b ≤ high → (not (ltb a n) || not (ltb b n)) ≡ true → n ≤ high
  one_above a b n high p q h = go (ltb a n) refl h
    where
      go : (t : Bool) → ltb a n ≡ t → (not t || not (ltb b n)) ≡ true → n ≤ high
      go true e k = omega (arith, ltb-false b n (not-true (ltb b n) k))
      go false e k = omega (arith, ltb-false a n e)

  in_order : (og og₁ og₂ n a b : ℕ) → C a → C b → (t : Bool) → ltb b a ≡ t → Pair n (binary og Equal (column og₁ a) (column og₂ b)) (cond t (b, a) (a, b))
  in_order og og₁ og₂ n a b x y true h = let l = ltb-true b a h in
      record { lower = y; higher = x; left = one_below a b n b (omega arith) (omega arith); right = one_above a b n a (omega arith) (omega arith) }
  in_order og og₁ og₂ n a b x y false h = let l = ltb-false b a h in
      record { lower = x; higher = y; left = one_below a b n a (omega arith) (omega arith); right = one_above a b n b (omega arith) (omega arith) }

  equal_pair : (og n : ℕ) (l r : Expression) (p : ℕ × ℕ) → ordered (is_column l) (is_column r) ≡ some p → M l → M r → Pair n (binary og Equal l r) p
  equal_pair og n (constant og₁ v) r p h x y = none_some h
  equal_pair og n (column og₁ a) (constant og₂ v) p h x y = none_some h
  equal_pair og n (column og₁ a) (column og₂ b) p h x y =
      subst (λ (q : ℕ × ℕ). Pair n (binary og Equal (column og₁ a) (column og₂ b)) q) (some_same h) (in_order og og₁ og₂ n a b x y (ltb b a) refl)
  equal_pair og n (column og₁ a) (unary og₂ o z) p h x y = none_some h
  equal_pair og n (column og₁ a) (binary og₂ o z w) p h x y = none_some h
  equal_pair og n (unary og₁ o z) r p h x y = none_some h
  equal_pair og n (binary og₁ o z w) r p h x y = none_some h

  pub pair_of : (n : ℕ) (e : Expression) (p : ℕ × ℕ) → equijoin e ≡ some p → MadeOf P C e → Pair n e p
  pair_of n (constant og v) p h m = none_some h
  pair_of n (column og c) p h m = none_some h
  pair_of n (unary og o x) p h m = none_some h
  pair_of n (binary og (logical o) l r) p h m = none_some h
  pair_of n (binary og Equal l r) p h m = equal_pair og n l r p h m.0 m.1
  pair_of n (binary og (function f) l r) p h m = none_some h

  -- The values that a lookup looks for are constants of its expression, or Null, or the one NaN.
  module _ (null_has : P null) (nan_has : P (datum (float the_nan))) where
    -- of a value and its origin
    abbrev pub Valued : Marked Value → Type 0
    Valued v = P v.0

    if_defined : (b : Bool) (v : Marked Value) → Valued v → All Valued (cond b [] (v ∷ []))
    if_defined true v m = tt
    if_defined false v m = (m, tt)

    constant_of : (e : Expression) → M e → All Valued (equal_values (is_constant e))
    constant_of (constant og v) m = if_defined (is_undefined v) (v, og) m
    constant_of (column og c) m = tt
    constant_of (unary og o x) m = tt
    constant_of (binary og o l r) m = tt

    pub values_of : (e : Expression) → MadeOf P C e → All (λ v. P v.0) (into_column_values e)
    values_of (constant og v) m = tt
    values_of (column og c) m = tt
    values_of (unary og Not x) m = tt
    values_of (unary og (function IsNull) x) m = (null_has, tt)
    values_of (unary og (function IsNaN) x) m = (nan_has, tt)
    values_of (unary og (function Identity) x) m = tt
    values_of (unary og (function Negate) x) m = tt
    values_of (unary og (function SquareRoot) x) m = tt
    values_of (binary og (logical o) l r) m = all_append Valued (into_column_values l) (into_column_values r) (values_of l m.0) (values_of r m.1)
    values_of (binary og Equal l r) m = all_append Valued (equal_values (is_constant l)) (equal_values (is_constant r)) (constant_of l m.0) (constant_of r m.1)
    values_of (binary og (function f) l r) m = tt
