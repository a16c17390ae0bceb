use Rattle.operations.proofs.Rooms.{Tried, tried, stays, again_in_more}
use native.Mathlib.Omega.{arith}
use Rattle.operations.proofs.+run.Goals.{in-0-to-16, in-17-to-64, in-65-to-192, in-193-to-640}
use Rattle.operations.proofs.+run.Goals as goal

pub returns-then-a-eq14 : goal.returns-then-a-eq14
returns-then-a-eq14 t c =
    let tries : Tried c.args.s.now c.args.c c.args.count c.args.out.now c.if-cells-lt17.larger.0 c.if-cells-lt17.out = elim c.if-cells-lt17.branch [
      | in-0-to-16 w ↦ tried 24 (omega arith) w.larger-is w.out-is w.in_buffers.ensures
      | in-17-to-64 w ↦ tried 96 (omega arith) w.larger-is w.out-is w.in_buffers-in-17-to-64.ensures
      | in-65-to-192 w ↦ tried 224 (omega arith) w.larger-is w.out-is w.in_buffers-in-65-to-192.ensures
      | in-193-to-640 w ↦ tried 704 (omega arith) w.larger-is w.out-is w.in_buffers-in-193-to-640.ensures
    ] in again_in_more tries c.if-a-eq14.true _ _ c.run.ensures

pub returns : goal.returns
returns t c =
    let tries : Tried c.args.s.now c.args.c c.args.count c.args.out.now c.if-cells-lt17.larger.0 c.if-cells-lt17.out = elim c.if-cells-lt17.branch [
      | in-0-to-16 w ↦ tried 24 (omega arith) w.larger-is w.out-is w.in_buffers.ensures
      | in-17-to-64 w ↦ tried 96 (omega arith) w.larger-is w.out-is w.in_buffers-in-17-to-64.ensures
      | in-65-to-192 w ↦ tried 224 (omega arith) w.larger-is w.out-is w.in_buffers-in-65-to-192.ensures
      | in-193-to-640 w ↦ tried 704 (omega arith) w.larger-is w.out-is w.in_buffers-in-193-to-640.ensures
    ] in stays tries c.if-a-eq14.false
