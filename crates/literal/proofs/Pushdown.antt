-- FilterPushdown, as transcribed, gives what crate sql defines.
use Prim.Native.Nat.{ℕ, zero, suc, ◌≤◌}
use mathlib.Core.Path.{◌≡◌, refl, sym, ap, ap₂, ◌∙◌}
use mathlib.Core.Bool.{Bool, true, false, not, ◌&&◌, ◌||◌, cond}
use mathlib.Core.List.{List, [], ◌∷◌, ◌++◌, map, append_assoc, append-nil}
use mathlib.Core.Option.{Option, none, some}
use native.Mathlib.Omega.{arith}
use lib.Dec.{eqb, ltb}
use lib.IntN.{pos, neg_ℤ}
use Rattle.sql.specs.Schema.{Schema}
use Rattle.sql.specs.Expression.{logical, Equal, function, Expression, constant, column, unary, binary, contains_column, shift_column_up, shift_column_down, is_column}
use Rattle.sql.specs.Expression as Defined
use Rattle.sql.specs.Plan.{Leaf, scan, lookup, nothing, values, filter, other, nested_loop, hash, Node, leaf, over, join, node_size}
use Rattle.sql.specs.Plan as DefinedPlan
use Rattle.sql.specs.Optimizer.{pushed_or_back, push_part, ref_left, ref_right, cons_if, for_left, for_right, for_both, equijoin, is_number, or_else, last_lookup, copied, copy_up, copy_down, flat_map, push_left, push_right, map_optional, go_on}
use Rattle.sql.specs.Optimizer as Optimizer
use Rattle.literal.specs.Rust.{Run, Ok, ◌>>=◌, expect, ◌⇒◌, ◌∣◌, ◌else◌, push, get, enumerate, cons_some, filter_map, for_each, try_fold, look_up}
use Rattle.literal.specs.Expression.{and_on, walk, into_cnf_vec, and_vec, is_column_lookup, replace_column, shift_column}
use Rattle.literal.specs.Plan.{columns}
use Rattle.literal.specs.Optimizer.{push_into, ref_visitor, Parts, put, split, lookups, copy, copy_lookups, push_to_left, push_to_right, maybe_push_join, push_filters_by, maybe_push_filter, push_filters, FilterPushdown}
use Rattle.literal.specs.Nodes.{nodes, nodes_positive, nodes_cells, nodes_into, nodes_push, push_filters_of, pushdown_literal}
use Rattle.literal.proofs.Expression.{cnf_vec_same, and_vec_same, lookup_same, replace_same, up_same, down_same}
use Rattle.literal.proofs.Plan.{columns_same, Fits, before_same}
use Rattle.literal.proofs.Right.{right_refers}

-- ---- the walk for ref_left and ref_right

seen : (x y : Bool) → and_on {S = Bool × Bool} ((x, y), not (x && y)) (λ t. (t, true)) ≡ ((x, y), not (x && y))
seen true true = refl
seen true false = refl
seen false true = refl
seen false false = refl

module _ (n : ℕ) where
  abbrev after : Bool → Bool → Expression → (Bool × Bool) × Bool
  after a b e = ((a || ref_left n e, b || ref_right n e), not ((a || ref_left n e) && (b || ref_right n e)))

  both_walked : (r : Expression) → ((a b : Bool) → walk (ref_visitor n) (a, b) r ≡ after a b r) → (x y : Bool)
      → and_on ((x, y), not (x && y)) (λ u. walk (ref_visitor n) u r) ≡ after x y r
  both_walked r h true true = refl
  both_walked r h true false = h true false
  both_walked r h false true = h false true
  both_walked r h false false = h false false

  walked : (e : Expression) (a b : Bool) → walk (ref_visitor n) (a, b) e ≡ after a b e
  walked (constant og v) true true = refl
  walked (constant og v) true false = refl
  walked (constant og v) false true = refl
  walked (constant og v) false false = refl
  walked (column og c) a b = seen (a || ltb c n) (b || not (ltb c n))
  walked (unary og o x) true true = refl
  walked (unary og o x) true false = walked x true false
  walked (unary og o x) false true = walked x false true
  walked (unary og o x) false false = walked x false false
  walked (binary og o l r) true true = refl
  walked (binary og o l r) true false =
      ap (λ p. and_on p (λ u. walk (ref_visitor n) u r)) (walked l true false) ∙ both_walked r (walked r) true (ref_right n l)
  walked (binary og o l r) false true =
      ap (λ p. and_on p (λ u. walk (ref_visitor n) u r)) (walked l false true) ∙ both_walked r (walked r) (ref_left n l) true
  walked (binary og o l r) false false =
      ap (λ p. and_on p (λ u. walk (ref_visitor n) u r)) (walked l false false) ∙ both_walked r (walked r) (ref_left n l) (ref_right n l)

  -- ---- the loop over the conjuncts

  abbrev body : Parts → Expression → Parts
  body parts e = put e parts (walk (ref_visitor n) (false, false) e).0

  split_from : (cnf : List Expression) (l r p : List Expression) → for_each body (l, r, p) cnf ≡ (l ++ for_left n cnf, r ++ for_right n cnf, p ++ for_both n cnf)
  split_from [] l r p = ap (λ z. (z, r, p)) (sym (append-nil l)) ∙ ap₂ (λ x y. (l ++ [], x, y)) (sym (append-nil r)) (sym (append-nil p))
  split_from (e ∷ cnf) l r p =
      ap (λ (w : (Bool × Bool) × Bool). for_each body (put e (l, r, p) w.0) cnf) (walked e false false)
      ∙ go (ref_left n e) (ref_right n e) (split_from cnf)
    where
      Rest : Type 0
      Rest = (l r p : List Expression) → for_each body (l, r, p) cnf ≡ (l ++ for_left n cnf, r ++ for_right n cnf, p ++ for_both n cnf)

      behind : (xs ys : List Expression) → (xs ++ (e ∷ [])) ++ ys ≡ xs ++ (e ∷ ys)
      behind xs ys = append_assoc xs (e ∷ []) ys

      go : (x y : Bool) → Rest
          → for_each body (put e (l, r, p) (x, y)) cnf ≡ (l ++ cons_if (not y) e (for_left n cnf), r ++ cons_if (not x) e (for_right n cnf), p ++ cons_if (x && y) e (for_both n cnf))
      go true true rest = rest l r (push p e) ∙ ap (λ z. (l ++ for_left n cnf, r ++ for_right n cnf, z)) (behind p (for_both n cnf))
      go true false rest = rest (push l e) r p ∙ ap (λ z. (z, r ++ for_right n cnf, p ++ for_both n cnf)) (behind l (for_left n cnf))
      go false true rest = rest l (push r e) p ∙ ap (λ z. (l ++ for_left n cnf, z, p ++ for_both n cnf)) (behind r (for_right n cnf))
      go false false rest = rest (push l e) (push r e) p ∙ ap₂ (λ z w. (z, w, p ++ for_both n cnf)) (behind l (for_left n cnf)) (behind r (for_right n cnf))

  pub split_same : (cnf : List Expression) → split n cnf ≡ (for_left n cnf, for_right n cnf, for_both n cnf)
  split_same cnf = split_from cnf [] [] []

-- ---- the HashMaps: what is found by the last index that was put in is the last lookup

abbrev lookups_from : ℕ → List Expression → List (ℕ × ℕ)
lookups_from k es = filter_map (λ (i, expr). is_column_lookup expr ⇒ λ c. (c, i)) (enumerate k es)

abbrev next : Option ℕ → Option ℕ
next o = o ⇒ λ i. suc i

next_or : (a b : Option ℕ) → next (a ∣ b) ≡ (next a ∣ next b)
next_or none b = refl
next_or (some i) b = refl

next_cond : (t : Bool) (k : ℕ) → next (cond t (some k) none) ≡ cond t (some (suc k)) none
next_cond true k = refl
next_cond false k = refl

-- counted from one more
counted : (c k : ℕ) (es : List Expression) → look_up c (lookups_from (suc k) es) ≡ next (look_up c (lookups_from k es))
counted c k [] = refl
counted c k (e ∷ es) = go (is_column_lookup e) (counted c (suc k) es)
  where
    go : (o : Option ℕ) → look_up c (lookups_from (suc (suc k)) es) ≡ next (look_up c (lookups_from (suc k) es))
        → look_up c (cons_some (o ⇒ λ d. (d, suc k)) (lookups_from (suc (suc k)) es)) ≡ next (look_up c (cons_some (o ⇒ λ d. (d, k)) (lookups_from (suc k) es)))
    go none h = h
    go (some d) h =
        ap₂ ◌∣◌ h (sym (next_cond (eqb d c) k)) ∙ sym (next_or (look_up c (lookups_from (suc k) es)) (cond (eqb d c) (some k) none))

no_found : {A B : Type 0} {b : B} → ◌≡◌ {A = Option B} none (some b) → A
no_found h = absurd (let y : ◌≡◌ {A = ℕ} 0 1 = cc in omega arith)

found_step : (x : Expression) (xs : List Expression) (a : Option ℕ) (b : Option Expression) → (a ⇒ λ i. get xs i) ≡ (b ⇒ λ e. some e) → (t : Bool)
    → ((next a ∣ cond t (some 0) none) ⇒ λ i. get (x ∷ xs) i) ≡ (or_else b (cond t (some x) none) ⇒ λ e. some e)
found_step x xs none none h true = refl
found_step x xs none none h false = refl
found_step x xs none (some e) h t = no_found h
found_step x xs (some i) none h t = no_found (sym h)
found_step x xs (some i) (some e) h t = h

-- also where more stands behind
found : (c : ℕ) (es more : List Expression) → (look_up c (lookups es) ⇒ λ i. get (es ++ more) i) ≡ (last_lookup c es ⇒ λ e. some e)
found c [] more = refl
found c (e ∷ es) more =
    ap (λ (o : Option ℕ). look_up c (cons_some (o ⇒ λ d. (d, 0)) (lookups_from 1 es)) ⇒ λ i. get (e ∷ (es ++ more)) i) (lookup_same e)
    ∙ go (Defined.is_column_lookup e) (counted c 0 es) (found c es more)
  where
    go : (o : Option ℕ) → look_up c (lookups_from 1 es) ≡ next (look_up c (lookups es)) → (look_up c (lookups es) ⇒ λ i. get (es ++ more) i) ≡ (last_lookup c es ⇒ λ e. some e)
        → (look_up c (cons_some (o ⇒ λ d. (d, 0)) (lookups_from 1 es)) ⇒ λ i. get (e ∷ (es ++ more)) i) ≡ (or_else (last_lookup c es) (cond (is_number c o) (some e) none) ⇒ λ e. some e)
    go none h k = ap (λ (o : Option ℕ). o ⇒ λ i. get (e ∷ (es ++ more)) i) h ∙ (later (look_up c (lookups es)) ∙ found_step e (es ++ more) (look_up c (lookups es)) (last_lookup c es) k false)
      where
        later : (o : Option ℕ) → (next o ⇒ λ i. get (e ∷ (es ++ more)) i) ≡ ((next o ∣ none) ⇒ λ i. get (e ∷ (es ++ more)) i)
        later none = refl
        later (some i) = refl
    go (some d) h k =
        ap (λ (o : Option ℕ). (o ∣ cond (eqb d c) (some 0) none) ⇒ λ i. get (e ∷ (es ++ more)) i) h
        ∙ found_step e (es ++ more) (look_up c (lookups es)) (last_lookup c es) k (eqb d c)

-- ---- the loop over what stays

copy_same : (from to : ℕ) (es more target : List Expression) → copy (lookups es) from to (es ++ more) target ≡ Ok (target ++ copied from to (last_lookup from es))
copy_same from to es more target = go (look_up from (lookups es)) (last_lookup from es) (found from es more)
  where
    go : (a : Option ℕ) (b : Option Expression) → (a ⇒ λ i. get (es ++ more) i) ≡ (b ⇒ λ e. some e)
        → ((a ⇒ λ i. expect (get (es ++ more) i) >>= λ expr. replace_column from to expr >>= λ e. Ok (push target e)) else Ok target) ≡ Ok (target ++ copied from to b)
    go none none h = ap Ok (sym (append-nil target))
    go none (some e) h = no_found h
    go (some i) none h = no_found (sym h)
    go (some i) (some e) h =
        let there : get (es ++ more) i ≡ some e = cc in
        ap (λ (o : Option Expression). expect o >>= λ expr. replace_column from to expr >>= λ e. Ok (push target e)) there
        ∙ ap (λ (r : Run Expression). r >>= λ e. Ok (push target e)) (replace_same from to e)

module _ (left right : List Expression) where
  abbrev state : List Expression → List Expression → List Expression × List Expression
  state l r = (left ++ l, right ++ r)

  unchanged : (l r : List Expression) → Ok (state l r) ≡ Ok (state (l ++ []) (r ++ []))
  unchanged l r = ap₂ (λ x y. Ok (state x y)) (sym (append-nil l)) (sym (append-nil r))

  -- of an equijoin
  copied_pair : (p : ℕ × ℕ) (l r : List Expression)
      → (copy (lookups left) p.0 p.1 (left ++ l) (right ++ r) >>= λ to_right. copy (lookups right) p.1 p.0 to_right (left ++ l) >>= λ to_left. Ok (to_left, to_right))
      ≡ Ok (state (l ++ copy_down right (some p)) (r ++ copy_up left (some p)))
  copied_pair p l r =
      ap (λ (x : Run (List Expression)). x >>= λ to_right. copy (lookups right) p.1 p.0 to_right (left ++ l) >>= λ to_left. Ok (to_left, to_right))
      (copy_same p.0 p.1 left l (right ++ r) ∙ ap Ok (append_assoc right r (copy_up left (some p))))
      ∙ ap (λ (x : Run (List Expression)). x >>= λ to_left. Ok (to_left, right ++ (r ++ copy_up left (some p))))
      (copy_same p.1 p.0 right (r ++ copy_up left (some p)) (left ++ l) ∙ ap Ok (append_assoc left l (copy_down right (some p))))

  copy_step : (e : Expression) (l r : List Expression) → copy_lookups (lookups left) (lookups right) (state l r) e ≡ Ok (state (l ++ copy_down right (equijoin e)) (r ++ copy_up left (equijoin e)))
  copy_step (constant og v) l r = unchanged l r
  copy_step (column og c) l r = unchanged l r
  copy_step (unary og o x) l r = unchanged l r
  copy_step (binary og (logical o) x y) l r = unchanged l r
  copy_step (binary og Equal (constant o v) y) l r = unchanged l r
  copy_step (binary og Equal (column o a) (constant k v)) l r = unchanged l r
  copy_step (binary og Equal (column o a) (column k b)) l r = copied_pair (cond (ltb b a) (b, a) (a, b)) l r
  copy_step (binary og Equal (column o a) (unary k f x)) l r = unchanged l r
  copy_step (binary og Equal (column o a) (binary k f x y)) l r = unchanged l r
  copy_step (binary og Equal (unary o f x) y) l r = unchanged l r
  copy_step (binary og Equal (binary o f x z) y) l r = unchanged l r
  copy_step (binary og (function f) x y) l r = unchanged l r

  copies_from : (es l r : List Expression) → try_fold (copy_lookups (lookups left) (lookups right)) (state l r) es
      ≡ Ok (state (l ++ flat_map (λ e. copy_down right (equijoin e)) es) (r ++ flat_map (λ e. copy_up left (equijoin e)) es))
  copies_from [] l r = unchanged l r
  copies_from (e ∷ es) l r =
      ap (λ (x : Run (List Expression × List Expression)). x >>= λ t. try_fold (copy_lookups (lookups left) (lookups right)) t es) (copy_step e l r)
      ∙ (copies_from es (l ++ copy_down right (equijoin e)) (r ++ copy_up left (equijoin e))
      ∙ ap₂ (λ x y. Ok (state x y)) (append_assoc l (copy_down right (equijoin e)) (flat_map (λ e. copy_down right (equijoin e)) es))
      (append_assoc r (copy_up left (equijoin e)) (flat_map (λ e. copy_up left (equijoin e)) es)))

  pub copies_same : (es : List Expression) → try_fold (copy_lookups (lookups left) (lookups right)) (left, right) es
      ≡ Ok (left ++ flat_map (λ e. copy_down right (equijoin e)) es, right ++ flat_map (λ e. copy_up left (equijoin e)) es)
  copies_same es =
      ap₂ (λ x y. try_fold (copy_lookups (lookups left) (lookups right)) (x, y) es) (sym (append-nil left)) (sym (append-nil right))
      ∙ copies_from es [] []

-- ---- push_into

-- what comes back, and what the target became
abbrev back : Expression → Node → Option Node → Option Expression × Node
back e n none = (some e, n)
back e n (some m) = (none, m)

pub into_same : (new : ℕ) (e : Expression) (n : Node) → push_into new e n ≡ back e n (Optimizer.push_into new e n)
into_same new e (leaf og (scan table alias none)) = refl
into_same new e (leaf og (scan table alias (some p))) = refl
into_same new e (leaf og (lookup access table alias constants)) = refl
into_same new e (leaf og (nothing labels)) = refl
into_same new e (leaf og (values rows)) = refl
into_same new e (over og (filter p) source) = refl
into_same new e (over og (other o) source) = refl
into_same new e (join og outer (nested_loop none) left right) = refl
into_same new e (join og outer (nested_loop (some p)) left right) = refl
into_same new e (join og outer (hash a b) left right) = refl

module _ (p : List Expression) where
  -- the source and the predicate, by what push_into gave; and by crate sql's push_part
  abbrev put_back : Option Expression × Node → Node × List Expression
  put_back b = (b.1, (b.0 ⇒ λ x. push p x) else p)

  abbrev parted : Node × List Expression → Node × List Expression
  parted q = (q.0, p ++ q.1)

  left_into : (left : Node) (e : Expression) (o : Option Node) → put_back (back e left o) ≡ parted (pushed_or_back e left o)
  left_into left e none = refl
  left_into left e (some m) = ap (λ z. (m, z)) (sym (append-nil p))

  left_part : (new : ℕ) (left : Node) (o : Option Expression) → ((o ⇒ λ e. put_back (push_into new e left)) else (left, p)) ≡ parted (push_part new o left)
  left_part new left none = ap (λ z. (left, z)) (sym (append-nil p))
  left_part new left (some e) = ap put_back (into_same new e left) ∙ left_into left e (Optimizer.push_into new e left)

  to_left_same : (new : ℕ) (es : List Expression) (left : Node) → push_to_left new es left p ≡ parted (push_part new (Defined.and_vec new es) left)
  to_left_same new es left =
      ap (λ (o : Option Expression). (o ⇒ λ e. put_back (push_into new e left)) else (left, p)) (and_vec_same new es) ∙ left_part new left (Defined.and_vec new es)

  module _ (n : ℕ) where
    abbrev shift_back : Option Expression × Node → Run (Node × List Expression)
    shift_back b = (b.0 ⇒ λ c. shift_column (pos n) c >>= λ x. Ok (b.1, push p x)) else Ok (b.1, p)

    abbrev parted_up : Node × List Expression → Run (Node × List Expression)
    parted_up q = Ok (q.0, p ++ map (shift_column_up n) q.1)

    right_into : (right : Node) (e : Expression) (o : Option Node) → shift_back (back e right o) ≡ parted_up (pushed_or_back e right o)
    right_into right e none = ap (λ (r : Run Expression). ◌>>=◌ {B = Node × List Expression} r (λ x. Ok (right, push p x))) (up_same n e)
    right_into right e (some m) = ap (λ z. Ok (m, z)) (sym (append-nil p))

    right_part : (new : ℕ) (right : Node) (o : Option Expression) → ((e : Expression) → o ≡ some e → contains_column (λ c. ltb c n) e ≡ false)
        → ((o ⇒ λ e. shift_column (neg_ℤ (pos n)) e >>= λ x. shift_back (push_into new x right)) else Ok (right, p)) ≡ parted_up (push_part new (map_optional (shift_column_down n) o) right)
    right_part new right none h = ap (λ z. Ok (right, z)) (sym (append-nil p))
    right_part new right (some e) h =
        ap (λ (r : Run Expression). r >>= λ x. shift_back (push_into new x right)) (down_same n e (h e refl))
        ∙ (ap shift_back (into_same new (shift_column_down n e) right) ∙ right_into right (shift_column_down n e) (Optimizer.push_into new (shift_column_down n e) right))

    to_right_same : (new : ℕ) (es : List Expression) (right : Node) → ((e : Expression) → Defined.and_vec new es ≡ some e → contains_column (λ c. ltb c n) e ≡ false)
        → push_to_right new n es right p ≡ parted_up (push_part new (map_optional (shift_column_down n) (Defined.and_vec new es)) right)
    to_right_same new es right h =
        ap (λ (o : Option Expression). (o ⇒ λ e. shift_column (neg_ℤ (pos n)) e >>= λ x. shift_back (push_into new x right)) else Ok (right, p)) (and_vec_same new es)
        ∙ right_part new right (Defined.and_vec new es) h

-- ---- maybe_push_join

no_node : {A : Type 0} {n : Node} → ◌≡◌ {A = Option Node} none (some n) → A
no_node h = absurd (let y : ◌≡◌ {A = ℕ} 0 1 = cc in omega arith)

some_node : {a b : Node} → ◌≡◌ {A = Option Node} (some a) (some b) → a ≡ b
some_node h = cc

module _ (schema : Schema) where
  abbrev width : Node → ℕ
  width = DefinedPlan.columns schema

  -- what is pushed into keeps its columns
  into_width : (new : ℕ) (e : Expression) (n m : Node) → Optimizer.push_into new e n ≡ some m → width m ≡ width n
  into_width new e (leaf og (scan table alias p)) m h = ap width (sym (some_node h))
  into_width new e (leaf og (lookup by table alias constants)) m h = no_node h
  into_width new e (leaf og (nothing labels)) m h = no_node h
  into_width new e (leaf og (values rows)) m h = no_node h
  into_width new e (over og (filter p) source) m h = ap width (sym (some_node h))
  into_width new e (over og (other o) source) m h = no_node h
  into_width new e (join og outer (nested_loop p) left right) m h = ap width (sym (some_node h))
  into_width new e (join og outer (hash a b) left right) m h = no_node h

  part_width : (new : ℕ) (o : Option Expression) (n : Node) → width (push_part new o n).0 ≡ width n
  part_width new none n = refl
  part_width new (some e) n = go (Optimizer.push_into new e n) refl
    where
      go : (o : Option Node) → Optimizer.push_into new e n ≡ o → width (pushed_or_back e n o).0 ≡ width n
      go none h = refl
      go (some m) h = into_width new e n m h

  module _ (og : ℕ) (outer : Bool) (left right : Node) where
    -- the text from line 219 on
    abbrev made : Node → Node × List Expression → Run Node
    made l q = Ok (join og outer (nested_loop (and_vec og q.1)) l q.0)

    abbrev to_sources : List Expression → List Expression × List Expression → Run Node
    to_sources p lists =
        let l = push_to_left og lists.0 left p in
        push_to_right og (columns schema l.0) lists.1 right l.1 >>= made l.0

    -- the text from line 159 on
    abbrev from_cnf : List Expression → Run Node
    from_cnf cnf =
        let parts = split (columns schema left) cnf in
        try_fold (copy_lookups (lookups parts.0) (lookups parts.1)) (parts.0, parts.1) parts.2 >>= to_sources parts.2

    module _ (cnf : List Expression) where
      abbrev n : ℕ
      n = width left

      abbrev l : Node × List Expression
      l = push_part og (Defined.and_vec og (push_left n cnf)) left

      abbrev r : Node × List Expression
      r = push_part og (map_optional (shift_column_down n) (Defined.and_vec og (push_right n cnf))) right

      sources_same : to_sources (for_both n cnf) (push_left n cnf, push_right n cnf) ≡ Ok (Optimizer.split og n outer cnf left right)
      sources_same =
          ap (λ (q : Node × List Expression). push_to_right og (columns schema q.0) (push_right n cnf) right q.1 >>= made q.0) (to_left_same (for_both n cnf) og (push_left n cnf) left)
          ∙ (ap (λ k. push_to_right og k (push_right n cnf) right (for_both n cnf ++ l.1) >>= made l.0) (columns_same schema l.0 ∙ part_width og (Defined.and_vec og (push_left n cnf)) left)
          ∙ (ap (λ (x : Run (Node × List Expression)). x >>= made l.0) (to_right_same (for_both n cnf ++ l.1) n og (push_right n cnf) right (right_refers n og cnf))
          ∙ ap (λ z. Ok (join og outer (nested_loop z) l.0 r.0))
          (and_vec_same og ((for_both n cnf ++ l.1) ++ map (shift_column_up n) r.1)
          ∙ ap (Defined.and_vec og) (append_assoc (for_both n cnf) l.1 (map (shift_column_up n) r.1)))))

      cnf_same : from_cnf cnf ≡ Ok (Optimizer.split og n outer cnf left right)
      cnf_same =
          ap (λ (parts : Parts). try_fold (copy_lookups (lookups parts.0) (lookups parts.1)) (parts.0, parts.1) parts.2 >>= to_sources parts.2)
          (ap (λ k. split k cnf) (columns_same schema left) ∙ split_same n cnf)
          ∙ (ap (λ (x : Run (List Expression × List Expression)). x >>= to_sources (for_both n cnf)) (copies_same (for_left n cnf) (for_right n cnf) (for_both n cnf))
          ∙ sources_same)

  pub push_join_same : (n : Node) → maybe_push_join schema n ≡ Ok (Optimizer.maybe_push_join schema n)
  unfolding Optimizer.maybe_push_join
  push_join_same (leaf og l) = go l
    where
      go : (l : Leaf) → maybe_push_join schema (leaf og l) ≡ Ok (leaf og l)
      go l = refl
  push_join_same (over og o source) = refl
  push_join_same (join og outer (nested_loop none) left right) = refl
  push_join_same (join og outer (nested_loop (some p)) left right) =
      ap (λ (x : Run (List Expression)). x >>= from_cnf og outer left right) (cnf_vec_same p) ∙ cnf_same og outer left right (Defined.into_cnf_vec p)
  push_join_same (join og outer (hash a b) left right) = refl

  -- ---- push_filters and maybe_push_filter

  filter_same : (k : ℕ) (n : Node) → nodes n ≤ k → maybe_push_filter schema k n ≡ Ok (Optimizer.maybe_push_filter schema k n)
  unfolding Optimizer.maybe_push_filter
  filter_same zero n h = absurd (let p = nodes_positive n in omega arith)
  filter_same (suc k) (leaf og l) h = refl
  filter_same (suc k) (over og (filter p) source) h =
      ap (λ (b : Option Expression × Node). (b.0 ⇒ λ back. Ok (over og (filter back) b.1)) else push_filters_by schema (maybe_push_filter schema k) b.1) (into_same og p source)
      ∙ go (Optimizer.push_into og p source) refl (filter_same k)
    where
      go : (o : Option Node) → Optimizer.push_into og p source ≡ o → ((n : Node) → nodes n ≤ k → maybe_push_filter schema k n ≡ Ok (Optimizer.maybe_push_filter schema k n))
          → (((back p source o).0 ⇒ λ b. Ok (over og (filter b) (back p source o).1)) else push_filters_by schema (maybe_push_filter schema k) (back p source o).1)
          ≡ Ok (go_on (λ pushed. Optimizer.maybe_push_join schema (Optimizer.maybe_push_filter schema k pushed)) (over og (filter p) source) o)
      go none e below = refl
      go (some pushed) e below =
          let c = nodes_into og p source pushed e in
          ap (λ (x : Run Node). x >>= maybe_push_join schema) (below pushed (omega arith)) ∙ push_join_same (Optimizer.maybe_push_filter schema k pushed)
  filter_same (suc k) (over og (other o) source) h = refl
  filter_same (suc k) (join og outer j left right) h = refl

  pub push_same : (n : Node) → push_filters schema n ≡ Ok (push_filters_of schema n)
  push_same n =
      ap (λ (x : Run Node). x >>= maybe_push_join schema) (filter_same (node_size n) n (nodes_cells n)) ∙ push_join_same (Optimizer.maybe_push_filter schema (node_size n) n)

  -- ---- the pass

  pushed_fits : (k : ℕ) (n : Node) → nodes n ≤ suc k → Fits nodes k (push_filters_of schema n)
  pushed_fits k n h = go (push_filters_of schema n) (let q = nodes_push schema (node_size n) n in omega arith)
    where
      go : (m : Node) → nodes m ≤ suc k → Fits nodes k m
      go (leaf og l) i = omega arith
      go (over og o source) i = omega arith
      go (join og outer j left right) i = let p = nodes_positive left in let q = nodes_positive right in (omega arith, omega arith)

  pub pushdown_same : (n : Node) → FilterPushdown schema n ≡ Ok (Optimizer.FilterPushdown schema n)
  pushdown_same n =
      before_same nodes nodes_positive (push_filters schema) (push_filters_of schema) (Optimizer.FilterPushdown schema) push_same pushed_fits (λ m. sym (pushdown_literal schema m))
      (node_size n) n (nodes_cells n)
