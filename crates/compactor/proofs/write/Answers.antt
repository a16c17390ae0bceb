use native.Mathlib.Omega.{arith}
use mathlib.Core.Path.{ap}
use Rattle.compactor.proofs.Whole.{whole_of, needed_is, held_bytes, whole_put, write_refused, write_done}
use Rattle.layout.specs.declared.Parts.{Parts}
use Rattle.compactor.proofs.write.Goals as goal

pub parts_of-p-requires : goal.parts_of-p-requires
parts_of-p-requires c = whole_of c.args.s.now c.requires.node c.requires.stands_for

pub overflow_add-needed-2 : goal.overflow_add-needed-2
overflow_add-needed-2 c = omega (arith, c.requires.short, c.parts_of-p.ensures.tables_end, c.parts_of-p.ensures.columns_end, c.parts_of-p.ensures.cells_end, c.parts_of-p.ensures.tables_few, c.parts_of-p.ensures.columns_few, c.parts_of-p.ensures.cells_few)

pub overflow_add-needed-3 : goal.overflow_add-needed-3
overflow_add-needed-3 c = omega (arith, c.requires.short, c.parts_of-p.ensures.tables_end, c.parts_of-p.ensures.columns_end, c.parts_of-p.ensures.cells_end, c.parts_of-p.ensures.tables_few, c.parts_of-p.ensures.columns_few, c.parts_of-p.ensures.cells_few)

pub returns-then-out-needed : goal.returns-then-out-needed
returns-then-out-needed c = write_refused c.args.s.now c.args.out.now _ (needed_is c.args.s.now (λ i. omega (arith, c.type_inv.s i)) c.requires.node c.requires.stands_for c.parts_of-p.result c.parts_of-p.ensures c.args.bytes c.args.n c.args.kept.now c.args.fresh.now c.requires (omega (arith, c.requires.bytes_are, c.requires.short))) c.if-out-needed.true

pub put_text-a-requires : goal.put_text-a-requires
put_text-a-requires c = record { inside = c.requires.inside; room = omega (arith, held_bytes c.args.s.now (λ i. omega (arith, c.type_inv.s i)) c.requires, c.requires.bytes_are, c.if-out-needed.false) }

pub put_records-b-requires : goal.put_records-b-requires
put_records-b-requires c = (omega (arith, c.parts_of-p.ensures.tables_end, c.parts_of-p.ensures.columns_end, c.parts_of-p.ensures.cells_end, c.parts_of-p.ensures.tables_few, c.parts_of-p.ensures.columns_few, c.parts_of-p.ensures.cells_few), (omega (arith, c.requires.fresh_long, c.parts_of-p.ensures.tables_end, c.parts_of-p.ensures.columns_end, c.parts_of-p.ensures.cells_end, c.parts_of-p.ensures.tables_few, c.parts_of-p.ensures.columns_few, c.parts_of-p.ensures.cells_few), omega (arith, c.put_text-a.ensures.0, c.put_text-a.auto.out, held_bytes c.args.s.now (λ i. omega (arith, c.type_inv.s i)) c.requires, c.requires.bytes_are, c.if-out-needed.false)))

pub put_cells-c-requires : goal.put_cells-c-requires
put_cells-c-requires c = (omega (arith, c.parts_of-p.ensures.tables_end, c.parts_of-p.ensures.columns_end, c.parts_of-p.ensures.cells_end, c.parts_of-p.ensures.tables_few, c.parts_of-p.ensures.columns_few, c.parts_of-p.ensures.cells_few), (omega (arith, c.requires.fresh_long, c.parts_of-p.ensures.tables_end, c.parts_of-p.ensures.columns_end, c.parts_of-p.ensures.cells_end, c.parts_of-p.ensures.tables_few, c.parts_of-p.ensures.columns_few, c.parts_of-p.ensures.cells_few), omega (arith, c.put_text-a.ensures.0, c.put_text-a.auto.out, c.put_records-b.ensures.0, c.put_records-b.auto.out, held_bytes c.args.s.now (λ i. omega (arith, c.type_inv.s i)) c.requires, c.requires.bytes_are, c.if-out-needed.false)))

pub overflow_add-a : goal.overflow_add-a
overflow_add-a c = omega (arith, c.put_text-a.ensures.0, held_bytes c.args.s.now (λ i. omega (arith, c.type_inv.s i)) c.requires, c.requires.bytes_are, c.requires.short, c.parts_of-p.ensures.tables_end, c.parts_of-p.ensures.columns_end, c.parts_of-p.ensures.cells_end, c.parts_of-p.ensures.tables_few, c.parts_of-p.ensures.columns_few, c.parts_of-p.ensures.cells_few)

pub put_trailer-requires : goal.put_trailer-requires
put_trailer-requires c = omega (arith, c.put_text-a.ensures.0, c.put_text-a.auto.out, c.put_records-b.ensures.0, c.put_records-b.auto.out, c.put_cells-c.ensures.0, c.put_cells-c.auto.out, held_bytes c.args.s.now (λ i. omega (arith, c.type_inv.s i)) c.requires, c.requires.bytes_are, c.if-out-needed.false)

pub returns : goal.returns
returns c = write_done c.args.s.now (λ i. omega (arith, c.type_inv.s i)) c.args.out.now _ c.requires.node _ c.parts_of-p.result.cells.count c.args.n c.requires.stands_for (needed_is c.args.s.now (λ i. omega (arith, c.type_inv.s i)) c.requires.node c.requires.stands_for c.parts_of-p.result c.parts_of-p.ensures c.args.bytes c.args.n c.args.kept.now c.args.fresh.now c.requires (omega (arith, c.requires.bytes_are, c.requires.short))) (omega (arith, c.if-out-needed.false)) (ap (λ (q : Parts). q.cells.count) c.parts_of-p.ensures.is) c.requires.counts (whole_put c.args.s.now (λ i. omega (arith, c.type_inv.s i)) c.requires.node c.requires.stands_for c.parts_of-p.result c.parts_of-p.ensures c.args.bytes c.args.n c.args.kept.now c.args.fresh.now c.requires (omega (arith, c.requires.bytes_are, c.requires.short)) c.args.out.now _ _ _ _ (omega (arith, c.if-out-needed.false)) c.put_text-a.ensures c.put_records-b.ensures c.put_cells-c.ensures c.word_at-edition.ensures.is c.put_trailer.ensures)
