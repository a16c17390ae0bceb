use Rattle.first_lookup.proofs.Leaving.{met_before, not_met}
use Rattle.first_lookup.specs.First.{marks_in}
use Rattle.first_lookup.proofs.remaining_one.Goals.{else-not-met-via-then-not-met+else-is_some, else-not-met-via-else-not-met}
use Rattle.first_lookup.proofs.remaining_one.Goals as goal

pub returns : goal.returns
returns c = elim c.else-not-met.branch [ else-not-met-via-then-not-met+else-is_some w ↦ not_met c.args.origin (marks_in c.args.key c.args.columns.now) c.args.met w.if-not-met.true w.find_one.ensures (cc) c.append-m.ensures | else-not-met-via-else-not-met w ↦ met_before c.args.origin (marks_in c.args.key c.args.columns.now) c.args.met w.if-not-met.false c.append-m.ensures ]
