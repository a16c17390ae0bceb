-- The proof of point 3 (SameRows.antt). Pass 1 keeps what is read; passes 2 to 5 keep T, and T is what is read.
use Rattle.std.specs.Prelude.{ℕ, zero, suc, ◌≤◌, ◌<◌, Bool, true, List, ◌≡◌, refl}
use Rattle.std.proofs.Common.{sym, ap, ◌∙◌, arith}
use Rattle.value.specs.Value.{ok}
use Rattle.sql.specs.Schema.{Schema}
use Rattle.sql.specs.Expression.{Row}
use Rattle.sql.specs.Plan.{Node, columns}
use Rattle.sql.specs.Answer.{done}
use Rattle.sql.specs.Optimizer.{FilterPushdown, IndexLookup, HashJoin, ShortCircuit}
use Rattle.sql.specs.Optimizer
use Rattle.sql.specs.Room.{max_cells}
use Rattle.room.specs.Done.{done_same}
use Rattle.room.specs.Same.{pass_same}
use Rattle.rows.specs.Database.{Database}
use Rattle.rows.specs.Reading.{read}
use Rattle.rows.specs.Equalities.{equalities, of_one_kind, all}
use Rattle.rows.specs.Premises.{no_outer}
use Rattle.same_rows.proofs.TotalRows.{total_table, total_columns}
use Rattle.same_rows.proofs.Agree.{ok_same, read_same}
use Rattle.same_rows.proofs.Folding.{folding_columns, folding_no_outer, folding_read}
use Rattle.same_rows.proofs.Pushdown.{pushdown_table}
use Rattle.same_rows.proofs.Lookup.{lookup_table}
use Rattle.same_rows.proofs.Hash.{hash_table}
use Rattle.same_rows.proofs.Circuit.{circuit_table}
use Rattle.same_rows.proofs.NoOuter.{pushdown_no_outer, lookup_no_outer, hash_no_outer, circuit_no_outer}
use Rattle.same_rows.specs.SameRows.{Premises, Same, SameRows}

-- ---- a plan after pass 1 and a plan after a later pass

module _ (database : Database) where
  abbrev schema : Schema
  schema = database.schema

  abbrev OneKind : Node → Type 0
  OneKind n = all of_one_kind (equalities database n) ≡ true

  abbrev Joins : Node → Type 0
  Joins n = no_outer n ≡ true

  first : (n m : Node) (rows others : List Row) → Joins n → Optimizer.pass schema 1 n ≡ done m → read database n ≡ ok rows → read database m ≡ ok others → Same schema n m rows others
  first n m rows others i p r s = record { same_columns = folding_columns schema 0 n m p; same_rows = ok_same (sym s ∙ folding_read database 0 n m i p rows r) }

  later : (n m : Node) (rows others : List Row) → total_table database m ≡ total_table database n → Joins n → Joins m
      → read database n ≡ ok rows → read database m ≡ ok others → OneKind n → OneKind m → Same schema n m rows others
  later n m rows others t i j r s f g = record {
    same_columns = sym (total_columns database m) ∙ (ap (λ z. z.0) t ∙ total_columns database n);
    same_rows = sym (read_same database m j others s g) ∙ (ap (λ z. z.1) t ∙ read_same database n i rows r f);
  }

  trans : (l n m : Node) (rows others more : List Row) → Same schema l n rows others → Same schema n m others more → Same schema l m rows more
  trans l n m rows others more a b = record { same_columns = b.same_columns ∙ a.same_columns; same_rows = b.same_rows ∙ a.same_rows }

-- ---- the six plans

module _ (database : Database) (plans : ℕ → Node) (rows : ℕ → List Row) (given : Premises database plans rows) where
  -- What is done with room is what is done without.
  passed : (k : ℕ) → k < 5 → Optimizer.pass database.schema (suc k) (plans k) ≡ done (plans (suc k))
  passed k h = pass_same max_cells database.schema (suc k) (plans k) (plans (suc k)) (given.not_refused k h)

  is_2 : FilterPushdown database.schema (plans 1) ≡ plans 2
  is_2 = done_same (passed 1 (omega arith))

  is_3 : IndexLookup database.schema (plans 2) ≡ plans 3
  is_3 = done_same (passed 2 (omega arith))

  is_4 : HashJoin database.schema (plans 3) ≡ plans 4
  is_4 = done_same (passed 3 (omega arith))

  is_5 : ShortCircuit database.schema (plans 4) ≡ plans 5
  is_5 = done_same (passed 4 (omega arith))

  inner_1 : no_outer (plans 1) ≡ true
  inner_1 = folding_no_outer 0 (plans 0) (plans 1) (passed 0 (omega arith)) ∙ given.inner

  inner_2 : no_outer (plans 2) ≡ true
  inner_2 = ap no_outer (sym is_2) ∙ (pushdown_no_outer database.schema (plans 1) ∙ inner_1)

  inner_3 : no_outer (plans 3) ≡ true
  inner_3 = ap no_outer (sym is_3) ∙ (lookup_no_outer database.schema (plans 2) ∙ inner_2)

  inner_4 : no_outer (plans 4) ≡ true
  inner_4 = ap no_outer (sym is_4) ∙ (hash_no_outer database.schema (plans 3) ∙ inner_3)

  inner_5 : no_outer (plans 5) ≡ true
  inner_5 = ap no_outer (sym is_5) ∙ circuit_no_outer database.schema (plans 4) inner_4

  abbrev From0 : ℕ → Type 0
  From0 k = Same database.schema (plans 0) (plans k) (rows 0) (rows k)

  next : (k : ℕ) → suc k ≤ 5 → total_table database (plans (suc k)) ≡ total_table database (plans k) → no_outer (plans k) ≡ true → no_outer (plans (suc k)) ≡ true → From0 k → From0 (suc k)
  next k h t i j s = trans database (plans 0) (plans k) (plans (suc k)) (rows 0) (rows k) (rows (suc k)) s
      (later database (plans k) (plans (suc k)) (rows k) (rows (suc k)) t i j
      (given.reads k (omega arith)) (given.reads (suc k) h) (given.one_kind k (omega arith)) (given.one_kind (suc k) h))

  from_1 : From0 1
  from_1 = first database (plans 0) (plans 1) (rows 0) (rows 1) given.inner (passed 0 (omega arith)) (given.reads 0 (omega arith)) (given.reads 1 (omega arith))

  from_2 : From0 2
  from_2 = next 1 (omega arith) (ap (total_table database) (sym is_2) ∙ pushdown_table database (plans 1)) inner_1 inner_2 from_1

  from_3 : From0 3
  from_3 = next 2 (omega arith) (ap (total_table database) (sym is_3) ∙ lookup_table database (plans 2)) inner_2 inner_3 from_2

  from_4 : From0 4
  from_4 = next 3 (omega arith) (ap (total_table database) (sym is_4) ∙ hash_table database (plans 3)) inner_3 inner_4 from_3

  from_5 : From0 5
  from_5 = next 4 (omega arith) (ap (total_table database) (sym is_5) ∙ circuit_table database (plans 4)) inner_4 inner_5 from_4

  each_plan : (k : ℕ) → k ≤ 5 → Same database.schema (plans 0) (plans k) (rows 0) (rows k)
  each_plan zero h = record { same_columns = refl; same_rows = refl }
  each_plan (suc zero) h = from_1
  each_plan (suc (suc zero)) h = from_2
  each_plan (suc (suc (suc zero))) h = from_3
  each_plan (suc (suc (suc (suc zero)))) h = from_4
  each_plan (suc (suc (suc (suc (suc zero))))) h = from_5
  each_plan (suc (suc (suc (suc (suc (suc k)))))) h = absurd (omega arith)

pub same_rows : SameRows
same_rows = each_plan
