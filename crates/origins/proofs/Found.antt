-- The lookup that is made of a Scan, and HashJoin, commute with every map on origins.
use Rattle.std.specs.Prelude.{ℕ, ◌-◌, Bool, true, false, not, ◌&&◌, cond, List, [], ◌∷◌, ◌++◌, map, ◌≡◌, ltb}
use Rattle.std.proofs.Math.Option.{Option, none, some}
use Rattle.std.proofs.Math.Path.{refl, ap}
use Rattle.std.proofs.Common.{ap₂, ◌∙◌}
use Rattle.value.specs.Value.{Value}
use Rattle.value.specs.Undefined.{is_undefined}
use Rattle.sql.specs.Schema.{Schema}
use Rattle.sql.specs.Expression.{Marked, Not, logical, Equal, function, IsNull, IsNaN, Identity, Negate, SquareRoot, Expression, constant, column, unary, binary, into_cnf_vec, and_vec, is_constant, is_column_lookup, equal_values, into_column_values}
use Rattle.sql.specs.Plan.{Leaf, scan, lookup, nothing, values, Join, nested_loop, hash, Node, leaf, over, join, columns}
use Rattle.sql.specs.Optimizer.{equijoin, map_optional, Found, filtered, with_index, found_here, find_lookup, access, lookup_or_scan, index_lookup, hash_pair, hash_join, HashJoin}
use Rattle.origins.specs.Origins.{map_origins, map_mark, map_leaf, map_over, map_join, map_node_origins}
use Rattle.origins.proofs.Lists.{map_append, cond_map}
use Rattle.origins.proofs.Normal.{cnf_vec_map, and_vec_map}
use Rattle.origins.proofs.Unseen.{column_lookup_unseen, equijoin_unseen, columns_unseen}

module _ (h : ℕ → ℕ) where
  abbrev E : Expression → Expression
  E = map_origins h

  abbrev M : Node → Node
  M = map_node_origins h

  -- ---- lookup constants

  constant_map : (e : Expression) → is_constant (E e) ≡ map_optional (map_mark h) (is_constant e)
  constant_map (constant og v) = refl
  constant_map (column og c) = refl
  constant_map (unary og o x) = refl
  constant_map (binary og o l r) = refl

  equal_values_map : (o : Option (Marked Value)) → equal_values (map_optional (map_mark h) o) ≡ map (map_mark h) (equal_values o)
  equal_values_map none = refl
  equal_values_map (some v) = cond_map (map (map_mark h)) (is_undefined v.0) [] (v ∷ [])

  values_map : (e : Expression) → into_column_values (E e) ≡ map (map_mark h) (into_column_values e)
  values_map (constant og v) = refl
  values_map (column og c) = refl
  values_map (unary og Not x) = refl
  values_map (unary og (function IsNull) x) = refl
  values_map (unary og (function IsNaN) x) = refl
  values_map (unary og (function Identity) x) = refl
  values_map (unary og (function Negate) x) = refl
  values_map (unary og (function SquareRoot) x) = refl
  values_map (binary og (logical o) l r) =
      ap₂ ◌++◌ (values_map l) (values_map r) ∙ map_append (map_mark h) (into_column_values l) (into_column_values r)
  values_map (binary og Equal l r) =
      ap₂ (λ x y. equal_values x ++ equal_values y) (constant_map l) (constant_map r)
      ∙ (ap₂ ◌++◌ (equal_values_map (is_constant l)) (equal_values_map (is_constant r)) ∙ map_append (map_mark h) (equal_values (is_constant l)) (equal_values (is_constant r)))
  values_map (binary og (function f) l r) = refl

  -- ---- IndexLookup of a leaf

  abbrev map_found : Found → Found
  map_found f = record { column_number = f.column_number; conjunct = E f.conjunct; remaining = map E f.remaining }

  filtered_map : (og : ℕ) (p : Option Expression) (n : Node) → filtered (h og) (map_optional E p) (M n) ≡ M (filtered og p n)
  filtered_map og none n = refl
  filtered_map og (some predicate) n = refl

  module _ (schema : Schema) (table : ℕ) where
    here_map : (e : Expression) (es : List Expression) (c : Option ℕ) (later : Option Found)
        → found_here schema table (E e) (map E es) c (map_optional map_found later) ≡ map_optional map_found (found_here schema table e es c later)
    here_map e es (some c) later = refl
    here_map e es none none = refl
    here_map e es none (some f) = refl

    find_map : (es : List Expression) → find_lookup schema table (map E es) ≡ map_optional map_found (find_lookup schema table es)
    find_map [] = refl
    find_map (e ∷ es) =
        ap₂ (λ l f. found_here schema table (E e) (map E es) (with_index schema table l) f) (column_lookup_unseen h e) (find_map es)
        ∙ here_map e es (with_index schema table (is_column_lookup e)) (find_lookup schema table es)

    or_scan_map : (og : ℕ) (alias : Option ℕ) (predicate : Expression) (f : Option Found)
        → lookup_or_scan schema table (h og) alias (E predicate) (map_optional map_found f) ≡ M (lookup_or_scan schema table og alias predicate f)
    or_scan_map og alias predicate none = refl
    or_scan_map og alias predicate (some f) =
        let by = access schema table f.column_number in
        ap₂ (λ p vs. filtered (h og) p (leaf (h og) (lookup by table alias vs))) (and_vec_map h og f.remaining) (values_map f.conjunct)
        ∙ filtered_map og (and_vec og f.remaining) (leaf og (lookup by table alias (into_column_values f.conjunct)))

  pub index_lookup_map : (schema : Schema) (og : ℕ) (l : Leaf) → index_lookup schema (h og) (map_leaf h l) ≡ M (index_lookup schema og l)
  unfolding index_lookup
  index_lookup_map schema og (scan table alias none) = refl
  index_lookup_map schema og (scan table alias (some predicate)) =
      ap (λ es. lookup_or_scan schema table (h og) alias (E predicate) (find_lookup schema table es)) (cnf_vec_map h predicate)
      ∙ (ap (lookup_or_scan schema table (h og) alias (E predicate)) (find_map schema table (into_cnf_vec predicate))
      ∙ or_scan_map schema table og alias predicate (find_lookup schema table (into_cnf_vec predicate)))
  index_lookup_map schema og (lookup access table alias constants) = refl
  index_lookup_map schema og (nothing labels) = refl
  index_lookup_map schema og (values rows) = refl

  -- ---- HashJoin

  pair_map : (n : ℕ) (predicate : Expression) (pair : Option (ℕ × ℕ)) → hash_pair n (E predicate) pair ≡ map_join h (hash_pair n predicate pair)
  pair_map n predicate none = refl
  pair_map n predicate (some pair) =
      cond_map (map_join h) (ltb pair.0 n && not (ltb pair.1 n)) (hash pair.0 (pair.1 - n)) (nested_loop (some predicate))

  hash_join_map : (n : ℕ) (j : Join) → hash_join n (map_join h j) ≡ map_join h (hash_join n j)
  hash_join_map n (nested_loop none) = refl
  hash_join_map n (nested_loop (some predicate)) = ap (hash_pair n (E predicate)) (equijoin_unseen h predicate) ∙ pair_map n predicate (equijoin predicate)
  hash_join_map n (hash left_column right_column) = refl

  pub hash_map : (schema : Schema) (n : Node) → HashJoin schema (M n) ≡ M (HashJoin schema n)
  hash_map schema (leaf og l) = refl
  hash_map schema (over og o source) = ap (over (h og) (map_over h o)) (hash_map schema source)
  hash_map schema (join og outer j left right) =
      ap (λ k. join (h og) outer k (HashJoin schema (M left)) (HashJoin schema (M right)))
      (ap (λ n. hash_join n (map_join h j)) (columns_unseen h schema left) ∙ hash_join_map (columns schema left) j)
      ∙ ap₂ (join (h og) outer (map_join h (hash_join (columns schema left) j))) (hash_map schema left) (hash_map schema right)
