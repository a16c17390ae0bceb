use native.Mathlib.Omega.{arith}
use Rattle.compactor.proofs.Whole.{whole_of, inside_listed, gathered_over, gathered_ready, run_refused, run_written}
use Rattle.compactor.proofs.run.Goals as goal

pub references-m-requires : goal.references-m-requires
references-m-requires c = (whole_of c.args.s.now c.requires.node c.requires.stands_for, omega arith)

pub gather-requires-clause-all : goal.gather-requires-clause-all
gather-requires-clause-all c = inside_listed c.args.s.now (λ i. omega (arith, c.type_inv.s i)) c.requires.node c.requires.stands_for c.references-m.ensures

pub write-requires : goal.write-requires
write-requires c = gathered_ready c.args.s.now (λ i. omega (arith, c.type_inv.s i)) c.args.n c.requires _ _ c.in-Ok.total c.references-m.ensures c.in-Ok.ensures (omega (arith, c.gather.auto.fresh))

pub returns-in-Ok : goal.returns-in-Ok
returns-in-Ok c =
    let q = gathered_ready c.args.s.now (λ i. omega (arith, c.type_inv.s i)) c.args.n c.requires _ _ c.in-Ok.total c.references-m.ensures c.in-Ok.ensures (omega (arith, c.gather.auto.fresh)) in
    run_written c.args.s.now c.args.out.now _ c.write.result (omega (arith, q.bytes_are, q.short)) c.write.ensures

pub returns-in-Err : goal.returns-in-Err
returns-in-Err c =
    run_refused c.args.s.now (λ i. omega (arith, c.type_inv.s i)) c.args.out.now c.requires.node c.requires.stands_for
    (gathered_over c.args.s.now (λ i. omega (arith, c.type_inv.s i)) c.requires.node c.requires.stands_for c.references-m.ensures c.in-Err.ensures)
