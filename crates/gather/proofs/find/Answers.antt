use native.Mathlib.Omega.{arith}
use mathlib.Core.Path.{sym, ◌∙◌}
use Rattle.gather.proofs.Strings.{seek_hit, seek_miss, seek_done, inside_at, mark_at}
use Rattle.gather.specs.Gather.{stretch}
use Rattle.gather.proofs.find.Goals as goal

pub is_it-requires : goal.is_it-requires
is_it-requires c = record { inside = (inside_at c.args.s.now c.args.kept.now c.loop-j.j c.requires.holds.inside, c.requires.n_in_bounds.0); its_value = (mark_at c.args.s.now c.args.kept.now c.loop-j.j c.requires.holds, c.requires.n_in_bounds.1) }

pub returns-then-is_it : goal.returns-then-is_it
returns-then-is_it c = seek_hit c.args.s.now c.args.kept.now (stretch c.args.s.now c.args.at c.args.n) c.loop-j.j c.loop-j-test.true c.loop-j.invariant (sym c.if-is_it.true ∙ c.is_it.ensures)

pub loop-j-preserved : goal.loop-j-preserved
loop-j-preserved c = seek_miss c.args.s.now c.args.kept.now (stretch c.args.s.now c.args.at c.args.n) c.loop-j.j c.loop-j-test.true c.loop-j.invariant (sym c.if-is_it.false ∙ c.is_it.ensures)

pub returns : goal.returns
returns c = seek_done c.args.s.now c.args.kept.now (stretch c.args.s.now c.args.at c.args.n) c.loop-j.j (omega arith) c.loop-j.invariant
