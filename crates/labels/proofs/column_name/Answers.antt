use Rattle.labels.proofs.Texts.{record_there, records_few, name_none, name_some}
use native.Mathlib.Omega.{arith}
use Rattle.labels.proofs.column_name.Goals as goal

pub returns-then-table_width-i : goal.returns-then-table_width-i
returns-then-table_width-i c = name_none c.args.tables.now c.args.columns.now c.args.t c.args.i (omega (arith, c.table_width.ensures, c.if-table_width-i.true))

pub overflow_add-first : goal.overflow_add-first
overflow_add-first c = omega (arith, c.first_column-first.ensures, records_few c.requires, record_there c.requires c.args.t c.args.i (omega (arith, c.table_width.ensures, c.if-table_width-i.false)))

pub overflow_mul-first : goal.overflow_mul-first
overflow_mul-first c = omega (arith, c.first_column-first.ensures, records_few c.requires, record_there c.requires c.args.t c.args.i (omega (arith, c.table_width.ensures, c.if-table_width-i.false)))

pub word_at-requires : goal.word_at-requires
word_at-requires c = omega (arith, c.first_column-first.ensures, record_there c.requires c.args.t c.args.i (omega (arith, c.table_width.ensures, c.if-table_width-i.false)))

pub returns : goal.returns
returns c = name_some c.args.tables.now c.args.columns.now c.args.t c.args.i (omega (arith, c.table_width.ensures, c.if-table_width-i.false)) c.first_column-first.ensures c.word_at.ensures.is
