-- push_into and the split of a join predicate commute with every map on origins.
use Rattle.std.specs.Prelude.{ℕ, ◌+◌, ◌-◌, Bool, not, ◌&&◌, cond, List, [], ◌∷◌, ◌++◌, map, ◌≡◌, eqb, ltb}
use Rattle.std.proofs.Math.Option.{Option, none, some}
use Rattle.std.proofs.Math.Path.{refl, ap₂}
use Rattle.std.proofs.Common.{ap, ◌∙◌}
use Rattle.sql.specs.Schema.{Schema}
use Rattle.sql.specs.Expression.{Expression, into_cnf_vec, shift_column_down, shift_column_up, and_vec}
use Rattle.sql.specs.Plan.{scan, lookup, nothing, values, filter, other, nested_loop, hash, Node, leaf, over, join, columns}
use Rattle.sql.specs.Optimizer.{and_with, push_into, pushed_or_back, push_part, ref_left, ref_right, for_left, for_right, for_both, equijoin, is_number, is_lookup_of, or_else, last_lookup, copied, copy_up, copy_down, flat_map, push_left, push_right, map_optional, split, maybe_push_join}
use Rattle.origins.specs.Origins.{map_origins, map_node_origins}
use Rattle.origins.proofs.Lists.{map_append, cond_map, map_swap, optional_swap, keep_map, flat_map_map}
use Rattle.origins.proofs.Normal.{columns_map, cnf_vec_map, and_vec_map}
use Rattle.origins.proofs.Unseen.{contains_unseen, column_lookup_unseen, equijoin_unseen, columns_unseen}

module _ (h : ℕ → ℕ) where
  abbrev E : Expression → Expression
  E = map_origins h

  abbrev M : Node → Node
  M = map_node_origins h

  -- ---- into a node's predicate

  and_with_map : (new : ℕ) (e : Expression) (p : Option Expression) → and_with (h new) (E e) (map_optional E p) ≡ E (and_with new e p)
  and_with_map new e none = refl
  and_with_map new e (some p) = refl

  pub push_into_map : (new : ℕ) (e : Expression) (n : Node) → push_into (h new) (E e) (M n) ≡ map_optional M (push_into new e n)
  push_into_map new e (leaf og (scan table alias predicate)) = ap (λ z. some (leaf (h og) (scan table alias (some z)))) (and_with_map new e predicate)
  push_into_map new e (leaf og (lookup access table alias constants)) = refl
  push_into_map new e (leaf og (nothing labels)) = refl
  push_into_map new e (leaf og (values rows)) = refl
  push_into_map new e (over og (filter predicate) source) = refl
  push_into_map new e (over og (other o) source) = refl
  push_into_map new e (join og outer (nested_loop predicate) left right) =
      ap (λ z. some (join (h og) outer (nested_loop (some z)) (M left) (M right))) (and_with_map new e predicate)
  push_into_map new e (join og outer (hash left_column right_column) left right) = refl

  -- a source, and what comes back
  abbrev map_back : Node × List Expression → Node × List Expression
  map_back r = (M r.0, map E r.1)

  pushed_map : (e : Expression) (source : Node) (o : Option Node) → pushed_or_back (E e) (M source) (map_optional M o) ≡ map_back (pushed_or_back e source o)
  pushed_map e source none = refl
  pushed_map e source (some pushed) = refl

  push_part_map : (new : ℕ) (p : Option Expression) (source : Node) → push_part (h new) (map_optional E p) (M source) ≡ map_back (push_part new p source)
  push_part_map new none source = refl
  push_part_map new (some e) source = ap (pushed_or_back (E e) (M source)) (push_into_map new e source) ∙ pushed_map e source (push_into new e source)

  -- ---- what is for each side

  left_map : (n : ℕ) (cnf : List Expression) → for_left n (map E cnf) ≡ map E (for_left n cnf)
  left_map n cnf = keep_map E (λ e. not (ref_right n e)) (λ e. ap not (contains_unseen h (λ c. not (ltb c n)) e)) cnf

  right_map : (n : ℕ) (cnf : List Expression) → for_right n (map E cnf) ≡ map E (for_right n cnf)
  right_map n cnf = keep_map E (λ e. not (ref_left n e)) (λ e. ap not (contains_unseen h (λ c. ltb c n) e)) cnf

  both_map : (n : ℕ) (cnf : List Expression) → for_both n (map E cnf) ≡ map E (for_both n cnf)
  both_map n cnf =
      keep_map E (λ e. ref_left n e && ref_right n e) (λ e. ap₂ ◌&&◌ (contains_unseen h (λ c. ltb c n) e) (contains_unseen h (λ c. not (ltb c n)) e)) cnf

  -- ---- lookups copied to the other side

  or_else_map : (a b : Option Expression) → or_else (map_optional E a) (map_optional E b) ≡ map_optional E (or_else a b)
  or_else_map none b = refl
  or_else_map (some a) b = refl

  last_lookup_map : (c : ℕ) (es : List Expression) → last_lookup c (map E es) ≡ map_optional E (last_lookup c es)
  last_lookup_map c [] = refl
  last_lookup_map c (e ∷ es) =
      ap₂ or_else (last_lookup_map c es)
      (ap (λ l. cond (is_number c l) (some (E e)) none) (column_lookup_unseen h e) ∙ cond_map (map_optional E) (is_lookup_of c e) (some e) none)
      ∙ or_else_map (last_lookup c es) (cond (is_lookup_of c e) (some e) none)

  copied_map : (from to : ℕ) (o : Option Expression) → copied from to (map_optional E o) ≡ map E (copied from to o)
  copied_map from to none = refl
  copied_map from to (some e) = ap (λ z. z ∷ []) (columns_map h (λ c. cond (eqb c from) to c) e)

  copy_up_map : (lookups : List Expression) (pair : Option (ℕ × ℕ)) → copy_up (map E lookups) pair ≡ map E (copy_up lookups pair)
  copy_up_map lookups none = refl
  copy_up_map lookups (some pair) = ap (copied pair.0 pair.1) (last_lookup_map pair.0 lookups) ∙ copied_map pair.0 pair.1 (last_lookup pair.0 lookups)

  copy_down_map : (lookups : List Expression) (pair : Option (ℕ × ℕ)) → copy_down (map E lookups) pair ≡ map E (copy_down lookups pair)
  copy_down_map lookups none = refl
  copy_down_map lookups (some pair) = ap (copied pair.1 pair.0) (last_lookup_map pair.1 lookups) ∙ copied_map pair.1 pair.0 (last_lookup pair.1 lookups)

  push_left_map : (n : ℕ) (cnf : List Expression) → push_left n (map E cnf) ≡ map E (push_left n cnf)
  push_left_map n cnf =
      ap₂ ◌++◌ (left_map n cnf)
      (ap₂ (λ xs ys. flat_map (λ e. copy_down xs (equijoin e)) ys) (right_map n cnf) (both_map n cnf)
      ∙ flat_map_map E E (λ e. copy_down (for_right n cnf) (equijoin e)) (λ e. copy_down (map E (for_right n cnf)) (equijoin e))
      (λ e. ap (copy_down (map E (for_right n cnf))) (equijoin_unseen h e) ∙ copy_down_map (for_right n cnf) (equijoin e)) (for_both n cnf))
      ∙ map_append E (for_left n cnf) (flat_map (λ e. copy_down (for_right n cnf) (equijoin e)) (for_both n cnf))

  push_right_map : (n : ℕ) (cnf : List Expression) → push_right n (map E cnf) ≡ map E (push_right n cnf)
  push_right_map n cnf =
      ap₂ ◌++◌ (right_map n cnf)
      (ap₂ (λ xs ys. flat_map (λ e. copy_up xs (equijoin e)) ys) (left_map n cnf) (both_map n cnf)
      ∙ flat_map_map E E (λ e. copy_up (for_left n cnf) (equijoin e)) (λ e. copy_up (map E (for_left n cnf)) (equijoin e))
      (λ e. ap (copy_up (map E (for_left n cnf))) (equijoin_unseen h e) ∙ copy_up_map (for_left n cnf) (equijoin e)) (for_both n cnf))
      ∙ map_append E (for_right n cnf) (flat_map (λ e. copy_up (for_left n cnf) (equijoin e)) (for_both n cnf))

  -- ---- the split

  -- the parts for the two sides
  part_left : (og n : ℕ) (cnf : List Expression) → and_vec (h og) (push_left n (map E cnf)) ≡ map_optional E (and_vec og (push_left n cnf))
  part_left og n cnf = ap (and_vec (h og)) (push_left_map n cnf) ∙ and_vec_map h og (push_left n cnf)

  part_right : (og n : ℕ) (cnf : List Expression)
      → map_optional (shift_column_down n) (and_vec (h og) (push_right n (map E cnf))) ≡ map_optional E (map_optional (shift_column_down n) (and_vec og (push_right n cnf)))
  part_right og n cnf =
      ap (λ es. map_optional (shift_column_down n) (and_vec (h og) es)) (push_right_map n cnf)
      ∙ (ap (map_optional (shift_column_down n)) (and_vec_map h og (push_right n cnf))
      ∙ optional_swap E (shift_column_down n) (columns_map h (λ c. c - n)) (and_vec og (push_right n cnf)))

  -- the join of the conjuncts that stay, and of what its sources became and what came back
  abbrev joined : ℕ → ℕ → Bool → List Expression → Node × List Expression → Node × List Expression → Node
  joined og n outer stay l r = join og outer (nested_loop (and_vec og (stay ++ (l.1 ++ map (shift_column_up n) r.1)))) l.0 r.0

  joined_map : (og n : ℕ) (outer : Bool) (stay : List Expression) (l r : Node × List Expression)
      → joined (h og) n outer (map E stay) (map_back l) (map_back r) ≡ M (joined og n outer stay l r)
  joined_map og n outer stay l r =
      ap (λ z. join (h og) outer (nested_loop z) (M l.0) (M r.0))
      (ap (λ z. and_vec (h og) (map E stay ++ (map E l.1 ++ z))) (map_swap E (shift_column_up n) (columns_map h (λ c. n + c)) r.1)
      ∙ (ap (λ z. and_vec (h og) (map E stay ++ z)) (map_append E l.1 (map (shift_column_up n) r.1))
      ∙ (ap (and_vec (h og)) (map_append E stay (l.1 ++ map (shift_column_up n) r.1))
      ∙ and_vec_map h og (stay ++ (l.1 ++ map (shift_column_up n) r.1)))))

  split_map : (og n : ℕ) (outer : Bool) (cnf : List Expression) (left right : Node)
      → split (h og) n outer (map E cnf) (M left) (M right) ≡ M (split og n outer cnf left right)
  split_map og n outer cnf left right =
      let p = and_vec og (push_left n cnf) in
      let q = map_optional (shift_column_down n) (and_vec og (push_right n cnf)) in
      ap₂ (λ a b. joined (h og) n outer (for_both n (map E cnf)) (push_part (h og) a (M left)) (push_part (h og) b (M right))) (part_left og n cnf) (part_right og n cnf)
      ∙ (ap₂ (λ a b. joined (h og) n outer (for_both n (map E cnf)) a b) (push_part_map og p left) (push_part_map og q right)
      ∙ (ap (λ s. joined (h og) n outer s (map_back (push_part og p left)) (map_back (push_part og q right))) (both_map n cnf)
      ∙ joined_map og n outer (for_both n cnf) (push_part og p left) (push_part og q right)))

  pub maybe_push_join_map : (schema : Schema) (n : Node) → maybe_push_join schema (M n) ≡ M (maybe_push_join schema n)
  unfolding maybe_push_join
  maybe_push_join_map schema (leaf og l) = refl
  maybe_push_join_map schema (over og o source) = refl
  maybe_push_join_map schema (join og outer (nested_loop none) left right) = refl
  maybe_push_join_map schema (join og outer (nested_loop (some predicate)) left right) =
      ap₂ (λ n cnf. split (h og) n outer cnf (M left) (M right)) (columns_unseen h schema left) (cnf_vec_map h predicate)
      ∙ split_map og (columns schema left) outer (into_cnf_vec predicate) left right
  maybe_push_join_map schema (join og outer (hash left_column right_column) left right) = refl
