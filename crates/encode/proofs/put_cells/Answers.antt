use Rattle.encode.proofs.Laws.{cell_room, going_on, going_done}
use Rattle.cells.specs.Cells.{cell_words, cell_at}
use Prim.Native.Nat.{◌+◌, ◌*◌}
use native.Mathlib.Omega.{arith}
use mathlib.Core.Path.{◌≡◌, ap, ◌∙◌}
use Rattle.encode.proofs.put_cells.Goals as goal

pub put_cell-to-requires : goal.put_cell-to-requires
put_cell-to-requires c =
    let next : (c.loop-i.i + 1) * cell_words ≡ c.loop-i.i * cell_words + cell_words = omega arith in
    cell_room c.loop-i.invariant.1 (omega arith) (c.cell_at-k.ensures ∙ ap (cell_at c.args.x.now) next) c.loop-i.invariant.0

pub loop-i-preserved : goal.loop-i-preserved
loop-i-preserved c =
    let next : (c.loop-i.i + 1) * cell_words ≡ c.loop-i.i * cell_words + cell_words = omega arith in (
      c.put_cell-to.auto.out ∙ c.loop-i.invariant.0,
      rw next (going_on c.loop-i.invariant.1 (omega arith) (c.cell_at-k.ensures ∙ ap (cell_at c.args.x.now) next) c.put_cell-to.ensures),
    )

pub returns : goal.returns
returns c = going_done c.loop-i.invariant.1 (omega (arith, c.requires.whole))
