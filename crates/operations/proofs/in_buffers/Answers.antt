use Rattle.cells.specs.Cells.{cell_words}
use Rattle.sheet_passes.proofs.Trying.{run_at, runs_in}
use lib.ListN.{replicate, length-replicate}
use Prim.Native.Nat.{ℕ, ◌/◌}
use native.Mathlib.Omega.{arith}
use mathlib.Core.Path.{refl, sym, ◌∙◌}
use Rattle.operations.proofs.in_buffers.Goals as goal

pub run-requires : goal.run-requires
run-requires g c = record { choice = c.requires.choice; run_at = run_at (g.row.WORDS / cell_words) c.requires.fits_in (length-replicate {A = ℕ} g.row.WORDS 0 ∙ sym c.requires.words.0) (record { second = refl; third = refl; fourth = refl }) (omega (arith, length-replicate {A = ℕ} g.row.WORDS 0, c.requires.words.1)); counted = c.requires.counted }

pub returns : goal.returns
returns g c = runs_in (g.row.WORDS / cell_words) c.args.s.now c.args.c c.args.count (replicate {A = ℕ} g.row.WORDS 0) c.args.out.now _ _ c.requires.fits_in (length-replicate {A = ℕ} g.row.WORDS 0 ∙ sym c.requires.words.0) c.run.ensures
