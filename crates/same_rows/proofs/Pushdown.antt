-- Pass 2, FilterPushdown, keeps T.
use Prim.Native.Nat.{ℕ, zero, suc, ◌+◌}
use Rattle.std.specs.Prelude.{◌≡◌}
use Rattle.std.proofs.Math.Path.{refl}
use Rattle.std.proofs.Common.{sym, ap, ap₂, ◌∙◌}
use Rattle.std.proofs.Math.Option.{Option, none, some}
use Rattle.sql.specs.Expression.{Expression}
use Rattle.sql.specs.Plan.{Over, filter, other, nested_loop, hash, Node, leaf, over, join, node_size}
use Rattle.sql.specs.Optimizer.{map_sources, push_into, go_on, maybe_push_join, maybe_push_filter, push_filters, push_filters_from, FilterPushdown}
use Rattle.rows.specs.Database.{Database}
use Rattle.same_rows.proofs.TotalRows.{total_join, total_over, total_table}
use Rattle.same_rows.proofs.Split.{push_into_table, split_table}

module _ (database : Database) where
  map_sources_table : (f : Node → Node) → ((n : Node) → total_table database (f n) ≡ total_table database n) → (n : Node)
      → total_table database (map_sources f n) ≡ total_table database n
  map_sources_table f h (leaf og l) = refl
  map_sources_table f h (over og o source) = ap (total_over database o) (h source)
  map_sources_table f h (join og outer j left right) = ap₂ (total_join j) (h left) (h right)

  join_table : (n : Node) → total_table database (maybe_push_join database.schema n) ≡ total_table database n
  unfolding maybe_push_join
  join_table (leaf og l) = refl
  join_table (over og o source) = refl
  join_table (join og outer (nested_loop none) left right) = refl
  join_table (join og outer (nested_loop (some p)) left right) = split_table database og outer p left right
  join_table (join og outer (hash a b) left right) = refl

  filter_table : (k : ℕ) (n : Node) → total_table database (maybe_push_filter database.schema k n) ≡ total_table database n
  unfolding maybe_push_filter
  filter_table zero n = refl
  filter_table (suc k) (leaf og l) = refl
  filter_table (suc k) (over og (filter p) source) = go (push_into og p source) refl (filter_table k)
    where
      on : Node → Node
      on pushed = maybe_push_join database.schema (maybe_push_filter database.schema k pushed)

      go : (o : Option Node) → push_into og p source ≡ o → ((n : Node) → total_table database (maybe_push_filter database.schema k n) ≡ total_table database n)
          → total_table database (go_on on (over og (filter p) source) o) ≡ total_table database (over og (filter p) source)
      go none h ih = refl
      go (some pushed) h ih = join_table (maybe_push_filter database.schema k pushed) ∙ (ih pushed ∙ push_into_table database og p source pushed h)
  filter_table (suc k) (over og (other o) source) = refl
  filter_table (suc k) (join og outer j left right) = refl

  from_table : (k : ℕ) (n : Node) → total_table database (push_filters_from database.schema k n) ≡ total_table database n
  unfolding push_filters_from
  from_table zero n = refl
  from_table (suc k) n =
      map_sources_table (push_filters_from database.schema k) (from_table k) (push_filters database.schema (suc k) n)
      ∙ (join_table (maybe_push_filter database.schema (suc k) n) ∙ filter_table (suc k) n)

  pub pushdown_table : (n : Node) → total_table database (FilterPushdown database.schema n) ≡ total_table database n
  unfolding FilterPushdown
  pushdown_table n = from_table (node_size n) n
