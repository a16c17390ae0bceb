-- `node_scope::columns_read` meets its contract: the table's columns, or those of the sources, by the tag.
use native.Mathlib.Omega.{arith}
use mathlib.Core.Path.{sym, ◌∙◌}
use borrow.Author.Rules.{rules}
use Rattle.sheet.specs.Check.{schema}
use Rattle.node_scope.proofs.Answers.{reads_table, reads_sources}
use Rattle.node_scope.proofs.columns_read.Goals as goal

pub returns-then-of_table : goal.returns-then-of_table
returns-then-of_table c = record { is = reads_table (schema c.args.s.now) c.args.left c.args.right c.cell_at-k.ensures.is (sym c.if-of_table.true ∙ c.of_table.ensures) c.table_columns.ensures.is; small = omega (arith, c.table_columns.ensures.small) }

pub returns : goal.returns
returns c = record { is = reads_sources (schema c.args.s.now) c.args.left c.args.right c.cell_at-k.ensures.is (sym c.if-of_table.false ∙ c.of_table.ensures); small = search rules }
