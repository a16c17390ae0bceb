-- `layout::bad_record` meets its contract: the loop's invariant is that no table passed so far fails, and the columns are left behind them.
use Rattle.layout.proofs.Laws.{tables_are, columns_are, record_table, records_walked}
use Rattle.layout.proofs.Failing.{passed_none, passed_more, passed_but, passed_to}
use native.Mathlib.Omega.{arith}
use mathlib.Core.Path.{sym, ◌∙◌}
use Rattle.layout.proofs.bad_record.Goals as goal

pub loop-i-init : goal.loop-i-init
loop-i-init c = (omega arith, passed_none _ _)

pub returns-then-not-table_ok : goal.returns-then-not-table_ok
returns-then-not-table_ok c =
    let g = c.parts_of-p.ensures in
    let h = c.loop-i-test.true in
    records_walked g
    (passed_but _ c.loop-i.invariant.1 (omega (arith, h)) (sym (record_table g _ h c.table_ok.ensures) ∙ c.if-not-table_ok.true))

pub loop-i-preserved : goal.loop-i-preserved
loop-i-preserved c =
    let g = c.parts_of-p.ensures in
    let h = c.loop-i-test.true in (
      omega (arith, h),
      passed_more _ c.loop-i.invariant.1 (omega (arith, h)) (sym (record_table g _ h c.table_ok.ensures) ∙ c.if-not-table_ok.false),
    )

pub returns : goal.returns
returns c =
    let g = c.parts_of-p.ensures in
    let (h, inv) = c.loop-i.invariant in
    records_walked g
    (c.bad_column.ensures ∙ passed_to _ inv _ _ (omega (arith, h, c.loop-i-test.false, tables_are g)) (cc (tables_are g, columns_are g)))
