-- `layout::bad_column` meets its contract: the loop's invariant is that no record behind the tables passed so far fails.
use Rattle.layout.proofs.Laws.{column_out, column_in, record_column, columns_walked}
use Rattle.layout.proofs.Failing.{goes_from, passed_more, passed_but, passed_all}
use Prim.Native.Nat.{◌-◌}
use native.Mathlib.Omega.{arith}
use mathlib.Core.Path.{sym, ◌∙◌}
use Rattle.layout.proofs.bad_column.Goals as goal

pub loop-i-init : goal.loop-i-init
loop-i-init c = (omega arith, goes_from _ _ _)

pub returns-then-covered-column : goal.returns-then-covered-column
returns-then-covered-column c =
    let g = c.requires in
    let inv = c.loop-i.invariant in
    columns_walked g
    (passed_but _ inv.1 c.loop-i-test.true (sym (record_column g _ inv.0 (sym (column_out g (c.loop-i.i - c.args.p.tables.count) c.columns_before-covered.ensures (omega arith))))))

pub returns-then-not-column_fields_ok : goal.returns-then-not-column_fields_ok
returns-then-not-column_fields_ok c =
    let g = c.requires in
    let inv = c.loop-i.invariant in
    columns_walked g
    (passed_but _ inv.1 c.loop-i-test.true
    (sym (record_column g _ inv.0 (column_in g (c.loop-i.i - c.args.p.tables.count) c.columns_before-covered.ensures (omega arith) c.column_fields_ok.ensures)) ∙ c.if-not-column_fields_ok.true))

pub loop-i-preserved : goal.loop-i-preserved
loop-i-preserved c =
    let g = c.requires in
    let inv = c.loop-i.invariant in (
      omega (arith, inv.0),
      passed_more _ inv.1 c.loop-i-test.true
          (sym (record_column g _ inv.0 (column_in g (c.loop-i.i - c.args.p.tables.count) c.columns_before-covered.ensures (omega arith) c.column_fields_ok.ensures)) ∙ c.if-not-column_fields_ok.false),
    )

pub returns : goal.returns
returns c = columns_walked c.requires (passed_all _ c.loop-i.invariant.1 c.loop-i-test.false)
