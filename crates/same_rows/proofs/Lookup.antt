-- Pass 3, IndexLookup, keeps T.
use Rattle.std.specs.Prelude.{ℕ, Bool, true, false, ◌&&◌, ◌||◌, cond, ◌≡◌, List, [], ◌∷◌, eqb}
use Rattle.std.proofs.Math.Bool.{and-false, and_comm}
use Rattle.std.proofs.Math.Path.{refl, ap, ap₂}
use Rattle.std.proofs.Common.{sym, ◌∙◌, subst, arith}
use Rattle.std.proofs.Math.Option.{Option, none, some}
use Rattle.sql.specs.Schema.{table_of, column_of}
use Rattle.sql.specs.Expression.{Expression, Row, into_cnf_vec, and_vec, is_column_lookup, into_column_values}
use Rattle.sql.specs.Plan.{by_key, by_index, Leaf, scan, lookup, nothing, values, filter, Node, leaf, over, join}
use Rattle.sql.specs.Optimizer.{keep, Found, filtered, has_index, with_index, found_here, find_lookup, access, lookup_or_scan, index_lookup, IndexLookup}
use Rattle.rows.specs.Database.{Database}
use Rattle.rows.specs.Reading.{looked_up, lookup_column}
use Rattle.rows.specs.Equalities.{all}
use Rattle.same_rows.proofs.Booleans.{eqb_eq}
use Rattle.same_rows.specs.Total.{at, true_at, optional_true_at}
use Rattle.same_rows.proofs.Normal.{all_cnf, true_and_vec}
use Rattle.same_rows.proofs.Lookups.{lookup_of, lookup_taken}
use Rattle.same_rows.proofs.TotalRows.{keep_table, total_join, total_over, total_table}
use Rattle.same_rows.proofs.Split.{keep_and, keep_same, keep_all}

-- what is found is a lookup, and one of the conjuncts
record Finds (cnf : List Expression) (f : Found) : Type 0 where
  is : is_column_lookup f.conjunct ≡ some f.column_number
  together : (g : Expression → Bool) → all g cnf ≡ (g f.conjunct && all g f.remaining)

no_found : {A : Type 0} (f : Found) → ◌≡◌ {A = Option Found} none (some f) → A
no_found f h = absurd (let y : ◌≡◌ {A = ℕ} 0 1 = cc in omega arith)

swap_and : (a b c : Bool) → (a && (b && c)) ≡ (b && (a && c))
swap_and true b c = refl
swap_and false b c = sym (and-false b)

module _ (database : Database) (table : ℕ) where
  with_index_is : (o : Option ℕ) (c : ℕ) → with_index database.schema table o ≡ some c → o ≡ some c
  with_index_is none c h = h
  with_index_is (some d) c h = go (has_index database.schema table d) h
    where
      go : (b : Bool) → cond b (some d) none ≡ some c → some d ≡ some c
      go true k = k
      go false k = absurd (let y : ◌≡◌ {A = ℕ} 0 1 = cc in omega arith)

  finds : (cnf : List Expression) (f : Found) → find_lookup database.schema table cnf ≡ some f → Finds cnf f
  finds [] f h = no_found f h
  finds (x ∷ cnf) f h = go (with_index database.schema table (is_column_lookup x)) refl (find_lookup database.schema table cnf) (λ g k. finds cnf g k) refl h
    where
      go : (o : Option ℕ) → with_index database.schema table (is_column_lookup x) ≡ o → (q : Option Found)
          → ((g : Found) → find_lookup database.schema table cnf ≡ some g → Finds cnf g)
          → find_lookup database.schema table cnf ≡ q → found_here database.schema table x cnf o q ≡ some f → Finds (x ∷ cnf) f
      go (some c) i q ih j k =
          let z : record { column_number = c; conjunct = x; remaining = cnf } ≡ f = cc in
          subst (Finds (x ∷ cnf)) z (record { is = with_index_is (is_column_lookup x) c i; together = λ g. refl })
      go none i none ih j k = no_found f k
      go none i (some q) ih j k =
          let w = ih q j in
          let z : record { column_number = q.column_number; conjunct = q.conjunct; remaining = x ∷ q.remaining } ≡ f = cc in
          subst (Finds (x ∷ cnf)) z
          (record { is = w.is; together = λ g. ap (λ y. g x && y) (w.together g) ∙ swap_and (g x) (g q.conjunct) (all g q.remaining) })

  access_column : (c : ℕ) → lookup_column database.schema table (access database.schema table c) ≡ c
  access_column c = go (eqb c (table_of database.schema table).primary_key) refl
    where
      go : (b : Bool) → eqb c (table_of database.schema table).primary_key ≡ b → lookup_column database.schema table (cond b by_key (by_index c)) ≡ c
      go true h = sym (eqb_eq c (table_of database.schema table).primary_key h)
      go false h = refl

  found_row : (og : ℕ) (cnf : List Expression) (f : Found) → Finds cnf f → (row : Row)
      → (optional_true_at (at row) (and_vec og f.remaining) && looked_up f.column_number (into_column_values f.conjunct) row) ≡ all (true_at (at row)) cnf
  found_row og cnf f k row =
      ap₂ ◌&&◌ (true_and_vec (at row) og f.remaining) (sym (lookup_taken (at row) (lookup_of f.conjunct f.column_number k.is)))
      ∙ (and_comm (all (true_at (at row)) f.remaining) (true_at (at row) f.conjunct) ∙ sym (k.together (true_at (at row))))

module _ (database : Database) where
  filtered_table : (og : ℕ) (o : Option Expression) (n : Node) → total_table database (filtered og o n) ≡ keep_table (λ row. optional_true_at (at row) o) (total_table database n)
  filtered_table og none n = ap (λ z. ((total_table database n).0, z)) (sym (keep_all (total_table database n).1))
  filtered_table og (some p) n = refl

  found_table : (og table : ℕ) (alias : Option ℕ) (p : Expression) (o : Option Found) → find_lookup database.schema table (into_cnf_vec p) ≡ o
      → total_table database (lookup_or_scan database.schema table og alias p o) ≡ total_table database (leaf og (scan table alias (some p)))
  found_table og table alias p none h = refl
  found_table og table alias p (some f) h =
      let by = access database.schema table f.column_number in
      let constants = into_column_values f.conjunct in
      let rows = database.table_rows table in
      filtered_table og (and_vec og f.remaining) (leaf og (lookup by table alias constants))
      ∙ ap (λ z. ((total_table database (leaf og (scan table alias (some p)))).0, z))
      (ap (λ c. keep (λ row. optional_true_at (at row) (and_vec og f.remaining)) (keep (looked_up c constants) rows)) (access_column database table f.column_number)
      ∙ (sym (keep_and (λ row. optional_true_at (at row) (and_vec og f.remaining)) (looked_up f.column_number constants) rows)
      ∙ keep_same (λ row. optional_true_at (at row) (and_vec og f.remaining) && looked_up f.column_number constants row) (λ row. true_at (at row) p)
      (λ row. found_row database table og (into_cnf_vec p) f (finds database table (into_cnf_vec p) f h) row ∙ all_cnf (at row) p) rows))

  leaf_table : (og : ℕ) (l : Leaf) → total_table database (index_lookup database.schema og l) ≡ total_table database (leaf og l)
  unfolding index_lookup
  leaf_table og (scan table alias none) = refl
  leaf_table og (scan table alias (some p)) = found_table og table alias p (find_lookup database.schema table (into_cnf_vec p)) refl
  leaf_table og (lookup by table alias constants) = refl
  leaf_table og (nothing labels) = refl
  leaf_table og (values rows) = refl

  pub lookup_table : (n : Node) → total_table database (IndexLookup database.schema n) ≡ total_table database n
  unfolding IndexLookup
  lookup_table (leaf og l) = leaf_table og l
  lookup_table (over og o source) = ap (total_over database o) (lookup_table source)
  lookup_table (join og outer j left right) = ap₂ (total_join j) (lookup_table left) (lookup_table right)
