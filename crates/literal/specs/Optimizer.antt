-- optimizer.rs, transcribed (Rust.antt says how).
use Rattle.std.specs.Prelude.{ℕ, zero, suc, ◌-◌, Bool, true, false, not, ◌&&◌, ◌||◌, cond, List, [], ◌∷◌, map, eqb, ltb, pos, neg_ℤ, length}
use Rattle.std.specs.Bool.{beq}
use Rattle.std.proofs.Math.Option.{Option, none, some}
use Rattle.sql.specs.Schema.{Schema, table_of}
use Rattle.value.specs.Value.{Value}
use Rattle.sql.specs.Expression.{Marked, Equal, Expression, constant, binary, and, or, origin}
use Rattle.sql.specs.Plan.{Label, unlabelled, unqualified, qualified, by_key, by_index, scan, lookup, nothing, filter, nested_loop, hash, Node, leaf, over, join, node_origin, up_to, node_size}
use Rattle.literal.specs.Rust.{Run, Ok, Panic, ◌>>=◌, expect, ◌⇒◌, ◌&◌, ◌∣◌, ◌if◌, ◌else◌, matches, and_then, push, get, remove, is_empty, enumerate, filter_map, try_find_map, all, for_each, try_fold, try_collect, look_up}
use Rattle.literal.specs.Value.{Departures, Null?, Boolean?, Boolean}
use Rattle.literal.specs.Expression.{Constant?, Column?, And?, Or?, Equal?, evaluate, walk, contains, into_cnf_vec, and_vec, is_column_lookup, into_column_values, replace_column, shift_column}
use Rattle.literal.specs.Plan.{Filter?, HashJoin?, IndexLookup?, KeyLookup?, Limit?, NestedLoopJoin?, Nothing?, Offset?, Order?, Projection?, Scan?, Values?, expressions, aliases, columns, column_at, column_label, transform, transform_expressions}

-- Constant(Boolean(b)), of one b
abbrev pub ConstantBoolean? : Bool → Expression → Option Bool
ConstantBoolean? b e = and_then (Constant? e) (λ (og, v). Boolean? v) if beq b

-- Constant(Boolean(false) | Null)
abbrev pub ConstantFalseNull? : Expression → Option Bool
ConstantFalseNull? e = and_then (Constant? e) (λ (og, v). (Boolean? v if not) ∣ (Null? v ⇒ λ n. false))

-- ======== 32: ConstantFolding

-- 63: match (*lhs, *rhs), of And
abbrev pub fold_and : ℕ → Expression → Expression → Expression
fold_and og lhs rhs =
    (ConstantBoolean? false lhs ∣ ConstantBoolean? false rhs ⇒ λ b. constant og (Boolean false))
    else ((ConstantBoolean? true lhs ⇒ λ b. rhs) ∣ (ConstantBoolean? true rhs ⇒ λ b. lhs) ⇒ λ expr. expr)
    else and og lhs rhs

-- 73: match (*lhs, *rhs), of Or
abbrev pub fold_or : ℕ → Expression → Expression → Expression
fold_or og lhs rhs =
    (ConstantBoolean? true lhs ∣ ConstantBoolean? true rhs ⇒ λ b. constant og (Boolean true))
    else ((ConstantBoolean? false lhs ⇒ λ b. rhs) ∣ (ConstantBoolean? false rhs ⇒ λ b. lhs) ⇒ λ expr. expr)
    else or og lhs rhs

-- 62: expr = match expr
abbrev pub fold_match : Expression → Expression
fold_match expr =
    (And? expr ⇒ λ (og, lhs, rhs). fold_and og lhs rhs)
    else (Or? expr ⇒ λ (og, lhs, rhs). fold_or og lhs rhs)
    else expr

-- 43: fn fold
abbrev pub fold : Departures → Expression → Run Expression
fold departures expr =
    cond (not (contains (λ e. matches (Column? e)) expr))
    (evaluate departures none expr >>= λ v. Ok (constant (origin expr) v))
    (Ok (fold_match expr))

abbrev pub ConstantFolding : Departures → Node → Run Node
ConstantFolding departures node = transform (transform_expressions Ok (fold departures)) Ok (node_size node) node

-- ======== 97: FilterPushdown

-- 122 and 128: match predicate.take(), match filter.take()
abbrev pub and_taken : ℕ → Expression → Option Expression → Option Expression
and_taken new expr predicate =
    (predicate ⇒ λ predicate. some (and new expr predicate))
    else some expr

-- 114: fn push_into: what it gives, and what it leaves in `target`
abbrev pub push_into : ℕ → Expression → Node → Option Expression × Node
push_into new expr target =
    (Filter? target ⇒ λ (og, source, predicate). (none, over og (filter (and new expr predicate)) source))
    else (NestedLoopJoin? target ⇒ λ (og, left, right, predicate, outer). (none, join og outer (nested_loop (and_taken new expr predicate)) left right))
    else (Scan? target ⇒ λ (og, table, predicate, alias). (none, leaf og (scan table alias (and_taken new expr predicate))))
    else (some expr, target)

-- 171: if let Expression::Column(index) = expr. It writes to ref_left and ref_right; n is left.columns().
abbrev pub refs : ℕ → Bool × Bool → Expression → Bool × Bool
refs n (ref_left, ref_right) expr =
    (Column? expr ⇒ λ (og, index). (ref_left || ltb index n, ref_right || not (ltb index n)))
    else (ref_left, ref_right)

-- 170: the closure that is walked with
abbrev pub ref_visitor : ℕ → Bool × Bool → Expression → (Bool × Bool) × Bool
ref_visitor n before expr = let (ref_left, ref_right) : Bool × Bool = refs n before expr in ((ref_left, ref_right), not (ref_left && ref_right))

-- push_left, push_right and predicate
abbrev pub Parts : Type 0
Parts = List Expression × List Expression × List Expression

-- 177: match (ref_left, ref_right)
abbrev pub put : Expression → Parts → Bool × Bool → Parts
put expr (push_left, push_right, predicate) (true, true) = (push_left, push_right, push predicate expr)
put expr (push_left, push_right, predicate) (true, false) = (push push_left expr, push_right, predicate)
put expr (push_left, push_right, predicate) (false, true) = (push_left, push push_right expr, predicate)
put expr (push_left, push_right, predicate) (false, false) = (push push_left expr, push push_right expr, predicate)

-- 168: for expr in cnf
abbrev pub split : ℕ → List Expression → Parts
split n cnf = for_each (λ parts expr. put expr parts (walk (ref_visitor n) (false, false) expr).0) ([], [], []) cnf

-- 195 and 200: column → index in push_left or push_right
abbrev pub lookups : List Expression → List (ℕ × ℕ)
lookups exprs = filter_map (λ (i, expr). is_column_lookup expr ⇒ λ c. (c, i)) (enumerate 0 exprs)

-- 218 and 221: if let Some(expr) = lookups.get(&from).map(|i| exprs[*i].clone()) { target.push(expr.replace_column(from, to)); }
abbrev pub copy : List (ℕ × ℕ) → (from to : ℕ) → (exprs target : List Expression) → Run (List Expression)
copy map from to exprs target =
    (look_up from map ⇒ λ i. expect (get exprs i) >>= λ expr. replace_column from to expr >>= λ e. Ok (push target e))
    else Ok target

-- 213, and 332 in hash_join: if l > r { (l, r) = (r, l) }
abbrev pub swapped : ℕ → ℕ → ℕ × ℕ
swapped l r = cond (ltb r l) (r, l) (l, r)

-- 218 to 223
abbrev pub copy_both : (left_lookups right_lookups : List (ℕ × ℕ)) → List Expression × List Expression → ℕ × ℕ → Run (List Expression × List Expression)
copy_both left_lookups right_lookups (push_left, push_right) (l, r) = do
  to_right ← copy left_lookups l r push_left push_right
  to_left ← copy right_lookups r l to_right push_left
  Ok (to_left, to_right)

-- 206: for expr in &predicate, which writes to push_left and push_right; what is no equijoin is passed over (continue)
abbrev pub copy_lookups : (left_lookups right_lookups : List (ℕ × ℕ)) → List Expression × List Expression → Expression → Run (List Expression × List Expression)
copy_lookups left_lookups right_lookups lists expr =
    (and_then (Equal? expr) (λ (og, lhs, rhs). Column? lhs & Column? rhs) ⇒ λ ((o, l), (k, r)). copy_both left_lookups right_lookups lists (swapped l r))
    else Ok lists

-- 227: the left source, and what is then the predicate
abbrev pub push_to_left : ℕ → (push_left : List Expression) → Node → List Expression → Node × List Expression
push_to_left new push_left left predicate =
    (and_vec new push_left ⇒ λ expr. ((push_into new expr left).1, ((push_into new expr left).0 ⇒ λ back. push predicate back) else predicate))
    else (left, predicate)

-- 237: if let Some(mut expr) = Self::push_into(expr, &mut right), whose two results these are; n is left.columns()
abbrev pub put_back : ℕ → List Expression → Option Expression × Node → Run (Node × List Expression)
put_back n predicate (failed, right) =
    (failed ⇒ λ expr. shift_column (pos n) expr >>= λ back. Ok (right, push predicate back))
    else Ok (right, predicate)

-- 234: the right one
abbrev pub push_to_right : ℕ → ℕ → (push_right : List Expression) → Node → List Expression → Run (Node × List Expression)
push_to_right new n push_right right predicate =
    (and_vec new push_right ⇒ λ expr. shift_column (neg_ℤ (pos n)) expr >>= λ shifted. put_back n predicate (push_into new shifted right))
    else Ok (right, predicate)

module _ (schema : Schema) where
  -- 157: fn maybe_push_join
  abbrev pub maybe_push_join : Node → Run Node
  maybe_push_join node =
      (and_then (NestedLoopJoin? node) (λ (og, left, right, predicate, outer). predicate ⇒ λ p. (og, left, right, p, outer)) ⇒ λ (og, left, right, predicate, outer). do
        cnf ← into_cnf_vec predicate
        let (push_left, push_right, predicate) : Parts = split (columns schema left) cnf
        (push_left, push_right) ← try_fold (copy_lookups (lookups push_left) (lookups push_right)) (push_left, push_right) predicate
        let (left, predicate) : Node × List Expression = push_to_left og push_left left predicate
        (right, predicate) ← push_to_right og (columns schema left) push_right right predicate
        Ok (join og outer (nested_loop (and_vec og predicate)) left right))
      else Ok node

  -- 106: fn push_filters, by maybe_push_filter
  abbrev pub push_filters_by : (Node → Run Node) → Node → Run Node
  push_filters_by maybe_push_filter node = maybe_push_filter node >>= maybe_push_join

  -- 145: if let Some(predicate) = Self::push_into(predicate, &mut source), whose two results these are; `on` is push_filters
  abbrev pub push_filter : (on : Node → Run Node) → ℕ → Option Expression × Node → Run Node
  push_filter on og (failed, source) =
      (failed ⇒ λ predicate. Ok (over og (filter predicate) source))
      else on source

  -- 140: fn maybe_push_filter
  abbrev pub maybe_push_filter : ℕ → Node → Run Node
  maybe_push_filter zero node = Panic
  maybe_push_filter (suc depth) node =
      (Filter? node ⇒ λ (og, source, predicate). push_filter (push_filters_by (maybe_push_filter depth)) og (push_into og predicate source))
      else Ok node

  abbrev pub push_filters : Node → Run Node
  push_filters node = push_filters_by (maybe_push_filter (node_size node)) node

  abbrev pub FilterPushdown : Node → Run Node
  FilterPushdown node = transform push_filters Ok (node_size node) node

-- ======== 254: IndexLookup

module _ (departures : Departures) (schema : Schema) where
  -- 279: c == table.primary_key || table.columns[c].index
  abbrev pub has_index : ℕ → ℕ → Run Bool
  has_index table c = cond (eqb c (table_of schema table).primary_key) (Ok true) (column_at departures schema table c >>= λ column. Ok column.index)

  -- 277: the closure of find_map
  abbrev pub is_indexed : ℕ → ℕ × Expression → Run (Option (ℕ × ℕ))
  is_indexed table (i, expr) =
      (is_column_lookup expr ⇒ λ c. has_index table c >>= λ indexed. Ok (cond indexed (some (i, c)) none))
      else Ok none

  -- 290: if column == table.primary_key
  abbrev pub lookup_node : ℕ → ℕ → Option ℕ → ℕ → List (Marked Value) → Node
  lookup_node og table alias c values = cond (eqb c (table_of schema table).primary_key) (leaf og (lookup by_key table alias values)) (leaf og (lookup (by_index c) table alias values))

  -- 287 to 301, of the conjunct that is found and its column
  abbrev pub look_up_by : ℕ → ℕ → Option ℕ → List Expression → ℕ × ℕ → Run Node
  look_up_by og table alias cnf (i, c) = do
    (conjunct, cnf) ← remove cnf i
    values ← into_column_values c conjunct
    let node : Node = lookup_node og table alias c values
    Ok ((and_vec og cnf ⇒ λ predicate. over og (filter predicate) node) else node)

  -- 277: let Some((i, column)) = .. else
  abbrev pub index_lookup_of : ℕ → ℕ → Option ℕ → Expression → List Expression → Run Node
  index_lookup_of og table alias predicate cnf = do
    first ← try_find_map (is_indexed table) (enumerate 0 cnf)
    (first ⇒ λ found. look_up_by og table alias cnf found) else Ok (leaf og (scan table alias (some predicate)))

  -- 265: fn index_lookup
  abbrev pub index_lookup : Node → Run Node
  index_lookup node =
      (and_then (Scan? node) (λ (og, table, predicate, alias). predicate ⇒ λ p. (og, table, p, alias))
      ⇒ λ (og, table, predicate, alias). into_cnf_vec predicate >>= λ cnf. index_lookup_of og table alias predicate cnf)
      else Ok node

  abbrev pub IndexLookup : Node → Run Node
  IndexLookup node = transform index_lookup Ok (node_size node) node

-- ======== 309: HashJoin

-- a -= b of a usize
abbrev pub minus : ℕ → ℕ → Run ℕ
minus a b = cond (ltb a b) Panic (Ok (a - b))

module _ (departures : Departures) (schema : Schema) where
  -- 338 and 339, where document 01 doesn't depart
  abbrev pub hash_columns : Node → ℕ → Node → Node → Bool → ℕ × ℕ → Run Node
  hash_columns node og left right outer (left_column, right_column) =
      cond (departures.one_on_each_side (columns schema left) left_column right_column)
      (minus right_column (columns schema left) >>= λ right_column. Ok (join og outer (hash left_column right_column) left right))
      (Ok node)

  -- 328: match (*lhs, *rhs)
  abbrev pub hash_match : Node → ℕ → Node → Node → Bool → ℕ × Expression × Expression → Run Node
  hash_match node og left right outer (o, lhs, rhs) =
      (Column? lhs & Column? rhs ⇒ λ ((i, l), (k, r)). hash_columns node og left right outer (swapped l r))
      else Ok (join og outer (nested_loop (some (binary o Equal lhs rhs))) left right)

  -- 317: fn hash_join
  abbrev pub hash_join : Node → Run Node
  hash_join node =
      (and_then (NestedLoopJoin? node) (λ (og, left, right, predicate, outer). and_then predicate Equal? ⇒ λ p. (og, left, right, p, outer))
      ⇒ λ (og, left, right, equal, outer). hash_match node og left right outer equal)
      else Ok node

  abbrev pub HashJoin : Node → Run Node
  HashJoin node = transform hash_join Ok (node_size node) node

-- ======== 356: ShortCircuit

-- *alias == Label::None
abbrev pub is_none : Label → Bool
is_none unlabelled = true
is_none (unqualified name) = false
is_none (qualified table name) = false

-- *expr == Expression::Column(i)
abbrev pub is_column : ℕ → Expression → Bool
is_column i expr = matches (Column? expr if (λ (og, c). eqb c i))

-- 423: `if matches!(**source, Node::Nothing { .. })`
abbrev pub over_nothing : Node → Bool
over_nothing source = matches (Nothing? source)

-- 415 to 422: the alternatives of one pattern, each with the guard
abbrev pub pulls_from_nothing? : Node → Option Node
pulls_from_nothing? node =
    ((Filter? node ⇒ λ (og, source, predicate). source) if over_nothing)
    ∣ ((HashJoin? node ⇒ λ (og, left, l, right, r, outer). left) if over_nothing)
    ∣ ((HashJoin? node ⇒ λ (og, left, l, right, r, outer). right) if over_nothing)
    ∣ ((NestedLoopJoin? node ⇒ λ (og, left, right, predicate, outer). left) if over_nothing)
    ∣ ((NestedLoopJoin? node ⇒ λ (og, left, right, predicate, outer). right) if over_nothing)
    ∣ (Offset? node if over_nothing)
    ∣ (Order? node if over_nothing)
    ∣ ((Projection? node ⇒ λ (source, items). source) if over_nothing)

-- 402: let is_empty = match &node
abbrev pub emptied : Node → Bool
emptied node =
    (Filter? node if (λ (og, source, predicate). matches (ConstantFalseNull? predicate)) ⇒ λ f. true)
    else (IndexLookup? node if is_empty ⇒ λ l. true)
    else (KeyLookup? node if is_empty ⇒ λ l. true)
    else (Limit? node if eqb 0 ⇒ λ l. true)
    else (NestedLoopJoin? node if (λ (og, left, right, predicate, outer). matches (and_then predicate ConstantFalseNull?)) ⇒ λ j. true)
    else (Scan? node if (λ (og, table, predicate, alias). matches (and_then predicate ConstantFalseNull?)) ⇒ λ s. true)
    else (Values? node if is_empty ⇒ λ v. true)
    else (pulls_from_nothing? node ⇒ λ source. true)
    else false

module _ (schema : Schema) where
  -- 387: the guard of the Projection
  abbrev pub is_noop : Node × List (Expression × Label × ℕ) → Bool
  is_noop (source, items) =
      eqb (columns schema source) (length (expressions items))
      && (all is_none (aliases items)
      && all (λ (i, expr). is_column i expr) (enumerate 0 (expressions items)))

  -- 370: node = match node
  abbrev pub without_useless : Node → Node
  without_useless node =
      (Filter? node if (λ (og, source, predicate). matches (ConstantBoolean? true predicate)) ⇒ λ (og, source, predicate). source)
      else (Scan? node if (λ (og, table, predicate, alias). matches (and_then predicate (ConstantBoolean? true))) ⇒ λ (og, table, predicate, alias). leaf og (scan table alias none))
      else (NestedLoopJoin? node if (λ (og, left, right, predicate, outer). matches (and_then predicate (ConstantBoolean? true)))
      ⇒ λ (og, left, right, predicate, outer). join og outer (nested_loop none) left right)
      else (Projection? node if is_noop ⇒ λ (source, items). source)
      else node

module _ (departures : Departures) (schema : Schema) where
  -- 432: the columns of the Nothing
  abbrev pub nothing_of : Node → Run Node
  nothing_of node = do
    labels ← try_collect (λ i. column_label departures schema node i >>= λ l. Ok (l, node_origin node)) (up_to 0 (columns schema node))
    Ok (leaf (node_origin node) (nothing labels))

  -- 366: fn short_circuit
  abbrev pub short_circuit : Node → Run Node
  short_circuit given = let node = without_useless schema given in cond (emptied node) (nothing_of node) (Ok node)

  abbrev pub ShortCircuit : Node → Run Node
  ShortCircuit node = transform Ok short_circuit (node_size node) node

-- ======== 10: OPTIMIZERS

abbrev pub OPTIMIZERS : Departures → Schema → List (Node → Run Node)
OPTIMIZERS departures schema =
    ConstantFolding departures
    ∷ FilterPushdown schema
    ∷ IndexLookup departures schema
    ∷ HashJoin departures schema
    ∷ ShortCircuit departures schema
    ∷ []
