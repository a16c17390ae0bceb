-- Every pass keeps the number of columns, of any plan: no premise is needed. (T of a plan in a database without rows says so.)
use Rattle.std.specs.Prelude.{ℕ, zero, suc, ◌<◌, [], ◌≡◌, refl}
use Rattle.std.proofs.Common.{sym, ap, ◌∙◌, arith}
use Rattle.sql.specs.Schema.{Schema}
use Rattle.sql.specs.Plan.{Node, columns}
use Rattle.sql.specs.Answer.{done}
use Rattle.sql.specs.Optimizer.{pass, FilterPushdown, IndexLookup, HashJoin, ShortCircuit}
use Rattle.sql.specs.Room
use Rattle.room.specs.Done.{not_done, done_same}
use Rattle.room.specs.Same.{pass_same}
use Rattle.room.specs.Six.{Six, six}
use Rattle.rows.specs.Database.{no_rows, Database}
use Rattle.same_rows.proofs.TotalRows.{total_table, total_columns}
use Rattle.same_rows.proofs.Folding.{folding_columns}
use Rattle.same_rows.proofs.Pushdown.{pushdown_table}
use Rattle.same_rows.proofs.Lookup.{lookup_table}
use Rattle.same_rows.proofs.Hash.{hash_table}
use Rattle.same_rows.proofs.Circuit.{circuit_table}

abbrev without_rows : Schema → Database
without_rows schema = record {
  schema = schema;
  table_rows = λ table. [];
  table_wide = λ table. no_rows;
  arrangement = λ directions keys. [];
  aggregated = λ group_by aggregates rows. [];
  aggregated_wide = λ group_by aggregates rows. no_rows;
}

module _ (schema : Schema) where
  by_table : (n m : Node) → total_table (without_rows schema) m ≡ total_table (without_rows schema) n → columns schema m ≡ columns schema n
  by_table n m h = sym (total_columns (without_rows schema) m) ∙ (ap (λ z. z.0) h ∙ total_columns (without_rows schema) n)

  same_columns_of : (k n m : Node) → m ≡ k → columns schema m ≡ columns schema n → columns schema k ≡ columns schema n
  same_columns_of k n m e h = ap (columns schema) (sym e) ∙ h

  pub pass_columns : (k : ℕ) (n m : Node) → pass schema k n ≡ done m → columns schema m ≡ columns schema n
  pass_columns zero n m h = not_done h
  pass_columns (suc zero) n m h = folding_columns schema 0 n m h
  pass_columns (suc (suc zero)) n m h =
      same_columns_of m n (FilterPushdown schema n) (done_same h) (by_table n (FilterPushdown schema n) (pushdown_table (without_rows schema) n))
  pass_columns (suc (suc (suc zero))) n m h =
      same_columns_of m n (IndexLookup schema n) (done_same h) (by_table n (IndexLookup schema n) (lookup_table (without_rows schema) n))
  pass_columns (suc (suc (suc (suc zero)))) n m h =
      same_columns_of m n (HashJoin schema n) (done_same h) (by_table n (HashJoin schema n) (hash_table (without_rows schema) n))
  pass_columns (suc (suc (suc (suc (suc zero))))) n m h =
      same_columns_of m n (ShortCircuit schema n) (done_same h) (by_table n (ShortCircuit schema n) (circuit_table (without_rows schema) n))
  pass_columns (suc (suc (suc (suc (suc (suc k)))))) n m h = not_done h

  pub optimize_columns : (room : ℕ) (n m : Node) → Room.optimize room schema n ≡ done m → columns schema m ≡ columns schema n
  optimize_columns room n m h =
      let s = six room schema n m h in
      ap (columns schema) (sym s.plan_5)
      ∙ (next s 4 (omega arith) ∙ (next s 3 (omega arith) ∙ (next s 2 (omega arith) ∙ (next s 1 (omega arith) ∙ (next s 0 (omega arith) ∙ ap (columns schema) s.plan_0)))))
    where
      next : (s : Six room schema n m) (k : ℕ) → k < 5 → columns schema (s.plan (suc k)) ≡ columns schema (s.plan k)
      next s k i = pass_columns (suc k) (s.plan k) (s.plan (suc k)) (pass_same room schema (suc k) (s.plan k) (s.plan (suc k)) (s.passed k i))
