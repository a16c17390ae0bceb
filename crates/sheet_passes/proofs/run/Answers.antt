use Rattle.sheet_passes.proofs.Accepting.{acceptable, all_whole, ready, still_alike, answered, runs_on}
use native.Mathlib.Omega.{arith}
use mathlib.Core.Path.{◌∙◌}
use Rattle.sheet_passes.proofs.run.Goals as goal

pub table_records-tables-requires : goal.table_records-tables-requires
table_records-tables-requires c = all_whole c.requires.run_at

pub column_records-columns-requires : goal.column_records-columns-requires
column_records-columns-requires c = all_whole c.requires.run_at

pub text-text-requires : goal.text-text-requires
text-text-requires c = all_whole c.requires.run_at

pub decode-t-requires : goal.decode-t-requires
decode-t-requires c = acceptable c.requires.run_at

pub run-r-requires : goal.run-r-requires
run-r-requires c = record { choice = c.requires.choice; plan_at = ready c.args.s.now (λ i. omega (arith, c.shared_slice_known-1.given i)) c.requires.run_at _ _ c.decode-t.ensures c.decode-t.auto.x _ c.text-text.ensures c.table_records-tables.ensures c.column_records-columns.ensures; alike = still_alike c.args.s.now (λ i. omega (arith, c.shared_slice_known-1.given i)) c.requires.run_at _ _ c.decode-t.ensures c.decode-t.auto.x _ c.text-text.ensures c.table_records-tables.ensures c.column_records-columns.ensures }

pub hand_out-requires : goal.hand_out-requires
hand_out-requires c = record { answered_at = answered c.args.s.now (λ i. omega (arith, c.shared_slice_known-1.given i)) c.requires.run_at _ _ c.decode-t.ensures c.decode-t.auto.x _ c.text-text.ensures c.table_records-tables.ensures c.column_records-columns.ensures c.args.c _ c.run-r.auto.y _ c.run-r.ensures _ c.numbered.ensures; counted = c.requires.counted }

pub shape_of-x : goal.shape_of-x
shape_of-x c = c.run-r.auto.x ∙ c.decode-t.auto.x

pub shape_of-y : goal.shape_of-y
shape_of-y c = c.run-r.auto.y

pub shape_of-z : goal.shape_of-z
shape_of-z c = c.run-r.auto.z

pub shape_of-w : goal.shape_of-w
shape_of-w c = c.run-r.auto.w

pub shape_of-out : goal.shape_of-out
shape_of-out c = c.hand_out.auto.out

pub returns : goal.returns
returns c = runs_on c.args.s.now (λ i. omega (arith, c.shared_slice_known-1.given i)) c.requires.run_at _ _ c.decode-t.ensures c.decode-t.auto.x _ c.text-text.ensures c.table_records-tables.ensures c.column_records-columns.ensures c.args.c _ c.run-r.auto.y _ c.run-r.ensures _ c.numbered.ensures c.args.count c.args.out.now _ _ c.hand_out.ensures
