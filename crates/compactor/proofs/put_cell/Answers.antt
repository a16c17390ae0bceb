use native.Mathlib.Omega.{arith}
use Rattle.compactor.proofs.Laws.{cell_put}
use Rattle.compactor.proofs.put_cell.Goals as goal

pub returns : goal.returns
returns c = cell_put c.args.s.now (λ i. omega (arith, c.type_inv.s i)) c.args.p c.cell_from.result c.args.fresh.now c.args.out.now _ _ _ _ c.args.j c.args.at c.cell_from.ensures c.fields-a.ensures c.requires.0 c.requires.1.1 c.copy-x.ensures c.put_field-i.ensures c.put_field-m.ensures c.copy.ensures
