-- Pass 4, HashJoin, keeps T.
use Rattle.std.specs.Prelude.{ℕ, ◌+◌, ◌-◌, Bool, true, false, not, ◌&&◌, cond, ◌≡◌, refl, ltb}
use Rattle.std.proofs.Common.{sym, ap, ap₂, ◌∙◌, arith}
use Rattle.std.proofs.Math.Option.{Option, none, some}
use Rattle.sql.specs.Expression.{Equal, Expression, column, binary, Row}
use Rattle.sql.specs.Plan.{Join, nested_loop, hash, Node, leaf, over, join, columns}
use Rattle.sql.specs.Optimizer.{equijoin, hash_pair, hash_join, HashJoin}
use Rattle.rows.specs.Database.{Database}
use Rattle.rows.specs.Reading.{is_true, joined_rows}
use Rattle.same_rows.proofs.Booleans.{ge_is}
use Rattle.same_rows.specs.Total.{Columns, at, true_at}
use Rattle.same_rows.proofs.Comparing.{equal_sym}
use Rattle.same_rows.proofs.TotalRows.{Table, join_true, total_join, total_over, total_table, total_columns}
use Rattle.same_rows.proofs.Split.{keep_same, Equijoin, equijoin_of}

abbrev columns_equal : ℕ → ℕ → Expression
columns_equal a b = binary 0 Equal (column 0 a) (column 0 b)

ordered_same : (row : Columns) (c : Bool) (a b : ℕ)
    → true_at row (columns_equal (cond {A = ℕ × ℕ} c (b, a) (a, b)).0 (cond {A = ℕ × ℕ} c (b, a) (a, b)).1) ≡ true_at row (columns_equal a b)
ordered_same row true a b = ap is_true (equal_sym true (row b) (row a))
ordered_same row false a b = refl

equijoin_same : (row : Columns) (e : Expression) (p : ℕ × ℕ) → Equijoin e p → true_at row (columns_equal p.0 p.1) ≡ true_at row e
equijoin_same row e p q = rw (← q.pair_is, q.is) (ordered_same row (ltb q.b q.a) q.a q.b)

hash_if : (n : ℕ) (e : Expression) (p : ℕ × ℕ) → Equijoin e p → (a b : Bool) → ltb p.1 n ≡ b → (row : Row)
    → join_true (cond (a && not b) (hash p.0 (p.1 - n)) (nested_loop (some e))) n row ≡ true_at (at row) e
hash_if n e p q false b h row = refl
hash_if n e p q true true h row = refl
hash_if n e p q true false h row =
    ap (λ z. true_at (at row) (columns_equal p.0 z)) (let x = ge_is p.1 n h in omega arith) ∙ equijoin_same (at row) e p q

hash_pair_true : (n : ℕ) (e : Expression) (o : Option (ℕ × ℕ)) → equijoin e ≡ o → (row : Row) → join_true (hash_pair n e o) n row ≡ true_at (at row) e
hash_pair_true n e none h row = refl
hash_pair_true n e (some p) h row = hash_if n e p (equijoin_of e p h) (ltb p.0 n) (ltb p.1 n) refl row

hash_join_true : (n : ℕ) (j : Join) (row : Row) → join_true (hash_join n j) n row ≡ join_true j n row
hash_join_true n (nested_loop none) row = refl
hash_join_true n (nested_loop (some e)) row = hash_pair_true n e (equijoin e) refl row
hash_join_true n (hash a b) row = refl

hash_join_table : (j : Join) (s t : Table) → total_join (hash_join s.0 j) s t ≡ total_join j s t
hash_join_table j s t =
    ap (λ z. (s.0 + t.0, z)) (keep_same (join_true (hash_join s.0 j) s.0) (join_true j s.0) (hash_join_true s.0 j) (joined_rows s.1 t.1))

pub hash_table : (database : Database) (n : Node) → total_table database (HashJoin database.schema n) ≡ total_table database n
hash_table database (leaf og l) = refl
hash_table database (over og o source) = ap (total_over database o) (hash_table database source)
hash_table database (join og outer j left right) =
    ap₂ (total_join (hash_join (columns database.schema left) j)) (hash_table database left) (hash_table database right)
    ∙ (ap (λ z. total_join (hash_join z j) (total_table database left) (total_table database right)) (sym (total_columns database left))
    ∙ hash_join_table j (total_table database left) (total_table database right))
