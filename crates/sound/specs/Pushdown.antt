-- Pass 2, FilterPushdown, keeps plans. A conjunct goes to a source only if its columns are that source's, and a lookup is copied only from one column
-- of an equality to the other.
use Prim.Native.Nat.{ℕ, zero, suc, ◌+◌, ◌<◌}
use Rattle.std.proofs.Common.{arith, ltb-true, eqb-true, ap}
use Rattle.std.proofs.lemmas.Bool.{not-true, not-false}
use Rattle.std.specs.Prelude.{◌≡◌, refl, Bool, true, false, not, ◌&&◌, cond, List, [], ◌∷◌, ◌++◌, map, ltb}
use Rattle.std.proofs.Math.Option.{Option, none, some}
use Rattle.value.specs.Value.{Value}
use Rattle.sql.specs.Schema.{Schema}
use Rattle.sql.specs.Expression.{Expression, shift_column_down, shift_column_up, into_cnf_vec, and_vec, is_column_lookup}
use Rattle.sql.specs.Plan.{scan, lookup, nothing, values, filter, other, nested_loop, hash, Node, leaf, over, join, columns, node_size}
use Rattle.sql.specs.Optimizer.{map_sources, and_with, push_into, pushed_or_back, push_part, ref_left, ref_right, for_left, for_right, for_both, equijoin, is_number, is_lookup_of, last_lookup, copied, copy_up, copy_down, flat_map, push_left, push_right, map_optional, split, go_on, maybe_push_join, maybe_push_filter, push_filters, push_filters_from, FilterPushdown}
use Rattle.sheet_laws.specs.Fits.{All, Optional}
use Rattle.sheet_laws.specs.Content.{and_left, and_right}
use Rattle.sheet_laws.proofs.Counts.{all_map}
use Rattle.sound.specs.Lists.{all_append, keep_of, flat_map_of, map_of, optional_map, or_else_of}
use Rattle.sound.specs.Expressions.{MadeOf, without, weaker, replaced, cnf_of, and_vec_of, only_lookup, pair_of}
use Rattle.sound.specs.Columns.{Right, shifted_up, shifted_down, right_only}
use Rattle.sound.specs.Sound.{Fitting, Within, Sound, Emits}
use Rattle.sound.specs.Keeps.{Keeps, keeps_next, sources_keep, join_keeps}

-- ---- the parts of a predicate over sources with n and m columns, in the joined row's numbers

number_is : (c : ℕ) (o : Option ℕ) → is_number c o ≡ true → o ≡ some c
number_is c none h = absurd (let z : ◌≡◌ {A = ℕ} 0 1 = cc in omega arith)
number_is c (some d) h = ap some (eqb-true d c h)

module _ (P : Value → Type 0) where
  last_of : (C : ℕ → Type 0) (c : ℕ) (es : List Expression) → All (MadeOf P C) es → Optional (λ e. MadeOf P C e × (is_column_lookup e ≡ some c)) (last_lookup c es)
  last_of C c [] q = tt
  last_of C c (e ∷ es) q =
      or_else_of (λ e. MadeOf P C e × (is_column_lookup e ≡ some c)) (last_lookup c es) (cond (is_lookup_of c e) (some e) none) (last_of C c es q.1) (here (is_lookup_of c e) refl)
    where
      here : (b : Bool) → is_lookup_of c e ≡ b → Optional (λ e. MadeOf P C e × (is_column_lookup e ≡ some c)) (cond b (some e) none)
      here true h = (q.0, number_is c (is_column_lookup e) h)
      here false h = tt

  -- A copied lookup has only the column that it is copied to.
  copied_of : (C D : ℕ → Type 0) (from to : ℕ) → D to → (o : Option Expression) → Optional (λ e. MadeOf P C e × (is_column_lookup e ≡ some from)) o → All (MadeOf P D) (copied from to o)
  copied_of C D from to d none h = tt
  copied_of C D from to d (some e) h = (replaced P from to D d e (only_lookup P C e from h.1 h.0).1, tt)

  module _ (n m : ℕ) where
    abbrev Left : ℕ → Type 0
    Left c = c < n

    abbrev OnRight : ℕ → Type 0
    OnRight = Right n m

    abbrev Joined : ℕ → Type 0
    Joined c = c < n + m

    -- a conjunct that refers to both sides
    abbrev pub Across : Expression → Type 0
    Across e = MadeOf P (λ c. c < n + m) e × ((ref_left n e ≡ true) × (ref_right n e ≡ true))

    pub left_of : (cnf : List Expression) → All (MadeOf P (λ c. c < n + m)) cnf → All (MadeOf P (λ c. c < n)) (for_left n cnf)
    left_of = keep_of (λ e. not (ref_right n e)) (MadeOf P Joined) (MadeOf P Left)
        (λ e x h. without P (λ c. not (ltb c n)) Joined Left (λ c y k. ltb-true c n (not-false (ltb c n) k)) e (not-true (ref_right n e) h) x)

    pub right_of : (cnf : List Expression) → All (MadeOf P (λ c. c < n + m)) cnf → All (MadeOf P (Right n m)) (for_right n cnf)
    right_of = keep_of (λ e. not (ref_left n e)) (MadeOf P Joined) (MadeOf P OnRight)
        (λ e x h. right_only P n m e (not-true (ref_left n e) h) x)

    pub across_of : (cnf : List Expression) → All (MadeOf P (λ c. c < n + m)) cnf → All Across (for_both n cnf)
    across_of = keep_of (λ e. ref_left n e && ref_right n e) (MadeOf P Joined) Across
        (λ e x h. (x, (and_left (ref_left n e) (ref_right n e) h, and_right (ref_left n e) (ref_right n e) h)))

    copy_down_of : (lookups : List Expression) → All (MadeOf P OnRight) lookups → (e : Expression) → Across e → All (MadeOf P Left) (copy_down lookups (equijoin e))
    copy_down_of lookups ls e x = go (equijoin e) refl
      where
        go : (o : Option (ℕ × ℕ)) → equijoin e ≡ o → All (MadeOf P Left) (copy_down lookups o)
        go none h = tt
        go (some p) h = copied_of OnRight Left p.1 p.0 ((pair_of P Joined n e p h x.0).left x.1.0) (last_lookup p.1 lookups) (last_of OnRight p.1 lookups ls)

    copy_up_of : (lookups : List Expression) → All (MadeOf P Left) lookups → (e : Expression) → Across e → All (MadeOf P OnRight) (copy_up lookups (equijoin e))
    copy_up_of lookups ls e x = go (equijoin e) refl
      where
        go : (o : Option (ℕ × ℕ)) → equijoin e ≡ o → All (MadeOf P OnRight) (copy_up lookups o)
        go none h = tt
        go (some p) h =
            let q = pair_of P Joined n e p h x.0 in
            copied_of Left OnRight p.0 p.1 (q.right x.1.1, q.higher) (last_lookup p.0 lookups) (last_of Left p.0 lookups ls)

    pub push_left_of : (cnf : List Expression) → All (MadeOf P (λ c. c < n + m)) cnf → All (MadeOf P (λ c. c < n)) (push_left n cnf)
    push_left_of cnf x =
        all_append (MadeOf P Left) (for_left n cnf) (flat_map (λ e. copy_down (for_right n cnf) (equijoin e)) (for_both n cnf)) (left_of cnf x)
        (flat_map_of (λ e. copy_down (for_right n cnf) (equijoin e)) Across (MadeOf P Left) (copy_down_of (for_right n cnf) (right_of cnf x)) (for_both n cnf) (across_of cnf x))

    pub push_right_of : (cnf : List Expression) → All (MadeOf P (λ c. c < n + m)) cnf → All (MadeOf P (Right n m)) (push_right n cnf)
    push_right_of cnf x =
        all_append (MadeOf P OnRight) (for_right n cnf) (flat_map (λ e. copy_up (for_left n cnf) (equijoin e)) (for_both n cnf)) (right_of cnf x)
        (flat_map_of (λ e. copy_up (for_left n cnf) (equijoin e)) Across (MadeOf P OnRight) (copy_up_of (for_left n cnf) (left_of cnf x)) (for_both n cnf) (across_of cnf x))

-- ---- nodes

module _ (schema : Schema) (text : List ℕ) (tables : ℕ) where
  abbrev W : ℕ → Expression → Type 0
  W = Within schema text tables

  abbrev E : ℕ → Node → Type 0
  E = Emits schema text tables

  abbrev F : Value → Type 0
  F = Fitting schema text tables

  and_with_of : (new n : ℕ) (e : Expression) (p : Option Expression) → W n e → Optional (W n) p → W n (and_with new e p)
  and_with_of new n e none x y = x
  and_with_of new n e (some p) x y = (x, y)

  pub into_keeps : (new : ℕ) (e : Expression) (n : Node) → Sound schema text tables n → W (columns schema n) e → Optional (E (columns schema n)) (push_into new e n)
  into_keeps new e (leaf og (scan t al p)) x y = ((and_with_of new _ e p y x.0, x.1), refl)
  into_keeps new e (leaf og (lookup a t al vs)) x y = tt
  into_keeps new e (leaf og (nothing ls)) x y = tt
  into_keeps new e (leaf og (values rs)) x y = tt
  into_keeps new e (over og (filter p) s) x y = ((x.0, (y, x.1)), refl)
  into_keeps new e (over og (other o) s) x y = tt
  into_keeps new e (join og outer (nested_loop p) a b) x y = ((x.0, (x.1.0, and_with_of new _ e p y x.1.1)), refl)
  into_keeps new e (join og outer (hash i j) a b) x y = tt

  pub part_keeps : (new : ℕ) (o : Option Expression) (n : Node) → Sound schema text tables n → Optional (Within schema text tables (columns schema n)) o
      → Emits schema text tables (columns schema n) (push_part new o n).0 × All (Within schema text tables (columns schema n)) (push_part new o n).1
  part_keeps new none n x y = ((x, refl), tt)
  part_keeps new (some e) n x y = go (push_into new e n) (into_keeps new e n x y)
    where
      go : (q : Option Node) → Optional (E (columns schema n)) q → E (columns schema n) (pushed_or_back e n q).0 × All (W (columns schema n)) (pushed_or_back e n q).1
      go none k = ((x, refl), (y, tt))
      go (some m) k = (k, tt)

  pub split_keeps : (og : ℕ) (outer : Bool) (cnf : List Expression) (a b : Node) → Sound schema text tables a → Sound schema text tables b
      → All (W (columns schema a + columns schema b)) cnf → E (columns schema a + columns schema b) (split og (columns schema a) outer cnf a b)
  split_keeps og outer cnf a b x y z =
      let n = columns schema a in
      let m = columns schema b in
      let to_left = and_vec og (push_left n cnf) in
      let to_right = map_optional (shift_column_down n) (and_vec og (push_right n cnf)) in
      let l = part_keeps og to_left a x (and_vec_of F (λ c. c < n) og (push_left n cnf) (push_left_of F n m cnf z)) in
      let r = part_keeps og to_right b y
      (optional_map (shift_column_down n) (MadeOf F (Right n m)) (W m) (shifted_down F n m) (and_vec og (push_right n cnf))
      (and_vec_of F (Right n m) og (push_right n cnf) (push_right_of F n m cnf z))) in
      let left_Back = (push_part og to_left a).1 in
      let right_back = map (shift_column_up n) (push_part og to_right b).1 in
      let stay : All (W (n + m)) (for_both n cnf ++ (left_Back ++ right_back)) =
      all_append (W (n + m)) (for_both n cnf) (left_Back ++ right_back)
      (all_map (Across F n m) (W (n + m)) (λ e k. k.0) (for_both n cnf) (across_of F n m cnf z))
      (all_append (W (n + m)) left_Back right_back
      (all_map (W n) (W (n + m)) (weaker F (λ c. c < n) (λ c. c < n + m) (λ c h. omega arith)) left_Back l.1)
      (map_of (shift_column_up n) (W m) (W (n + m)) (shifted_up F n m) (push_part og to_right b).1 r.1)) in
      join_keeps schema text tables og outer (nested_loop (and_vec og (for_both n cnf ++ (left_Back ++ right_back)))) n m (push_part og to_left a).0 (push_part og to_right b).0
      (and_vec_of F (λ c. c < n + m) og (for_both n cnf ++ (left_Back ++ right_back)) stay) l.0 r.0

  pub join_rule_keeps : Keeps schema text tables (maybe_push_join schema)
  unfolding maybe_push_join
  join_rule_keeps (leaf og l) x = (x, refl)
  join_rule_keeps (over og o s) x = (x, refl)
  join_rule_keeps (join og outer (nested_loop none) a b) x = (x, refl)
  join_rule_keeps (join og outer (nested_loop (some p)) a b) x =
      split_keeps og outer (into_cnf_vec p) a b x.0 x.1.0 (cnf_of F (λ c. c < columns schema a + columns schema b) p x.1.1)
  join_rule_keeps (join og outer (hash i j) a b) x = (x, refl)

  pub filter_rule_keeps : (k : ℕ) → Keeps schema text tables (maybe_push_filter schema k)
  unfolding maybe_push_filter
  filter_rule_keeps zero n x = (x, refl)
  filter_rule_keeps (suc k) (leaf og l) x = (x, refl)
  filter_rule_keeps (suc k) (over og (filter p) s) x = go (push_into og p s) (into_keeps og p s x.0 x.1) (filter_rule_keeps k)
    where
      on : Node → Node
      on pushed = maybe_push_join schema (maybe_push_filter schema k pushed)

      go : (o : Option Node) → Optional (E (columns schema s)) o → Keeps schema text tables (maybe_push_filter schema k)
          → E (columns schema s) (go_on on (over og (filter p) s) o)
      go none q ih = (x, refl)
      go (some m) q ih =
          keeps_next schema text tables (maybe_push_join schema) join_rule_keeps (maybe_push_filter schema k m)
          (keeps_next schema text tables (maybe_push_filter schema k) ih m q)
  filter_rule_keeps (suc k) (over og (other o) s) x = (x, refl)
  filter_rule_keeps (suc k) (join og outer j a b) x = (x, refl)

  pub push_keeps : (k : ℕ) → Keeps schema text tables (push_filters schema k)
  push_keeps k n x = keeps_next schema text tables (maybe_push_join schema) join_rule_keeps (maybe_push_filter schema k n) (filter_rule_keeps k n x)

  pub from_keeps : (k : ℕ) → Keeps schema text tables (push_filters_from schema k)
  unfolding push_filters_from
  from_keeps zero n x = (x, refl)
  from_keeps (suc k) n x =
      keeps_next schema text tables (map_sources (push_filters_from schema k)) (sources_keep schema text tables (push_filters_from schema k) (from_keeps k))
      (push_filters schema (suc k) n) (push_keeps (suc k) n x)

  pub pushdown_keeps : Keeps schema text tables (FilterPushdown schema)
  unfolding FilterPushdown
  pushdown_keeps n x = from_keeps (node_size n) n x
