-- `node_scope::table_columns` meets its contract: the count in the table's record is the number of columns that the schema gives the table.
use native.Mathlib.Omega.{arith}
use mathlib.Core.Path.{ap, ◌∙◌}
use borrow.Author.Rules.{rules}
use Rattle.node_scope.proofs.Answers.{no_table_columns, table_columns_are}
use Rattle.layout.specs.declared.Table.{Table}
use Rattle.layout.specs.declared.Parts.{Parts}
use Rattle.node_scope.proofs.table_columns.Goals as goal

pub returns-then-p-table : goal.returns-then-p-table
returns-then-p-table c = let e = ap (λ (p : Parts). p.tables.count) c.parts_of-p.ensures.is in record { is = no_table_columns _ _ (omega arith); small = search rules }

pub returns : goal.returns
returns c = let e = ap (λ (p : Parts). p.tables.count) c.parts_of-p.ensures.is in record { is = ap (λ (t : Table). t.count) c.table_at.ensures.is ∙ table_columns_are c.args.s.now c.args.table (omega arith); small = c.table_at.ensures.count_small }
