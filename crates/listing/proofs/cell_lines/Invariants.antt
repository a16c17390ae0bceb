use Rattle.listing.proofs.Written.{lines_to}
use Rattle.cells.specs.Room.{Wrote}
use mathlib.Core.Path.{◌≡◌}
use lib.ListN.{length}
use Rattle.listing.proofs.cell_lines.Given as goal

abbrev pub invariant-loop-i : goal.invariant-loop-i
invariant-loop-i l = (length l.d ≡ length l.initial.d) × Wrote l.initial.d l.at (lines_to l.s l.i) l.m l.d
