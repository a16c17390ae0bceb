use Rattle.lookup_or_scan.proofs.Filtering.{none_remains, some_remain}
use Rattle.conjuncts.proofs.Appending.{gathered_none}
use native.Mathlib.Omega.{arith}
use Rattle.first_lookup.specs.First.{marks_in}
use Rattle.lookup_or_scan.proofs.filtered.Goals as goal

pub remaining-rest-requires : goal.remaining-rest-requires
remaining-rest-requires c = record { expression_at = c.requires.0; gathered_at = gathered_none c.args.y.now c.args.n }

pub returns-then-rest-n : goal.returns-then-rest-n
returns-then-rest-n c = none_remains c.args.origin (marks_in c.args.key c.args.columns.now) c.remaining-rest.auto.d c.remaining-rest.ensures c.if-rest-n.true

pub returns : goal.returns
returns c = some_remain c.args.origin (marks_in c.args.key c.args.columns.now) c.remaining-rest.auto.d c.remaining-rest.ensures (omega (arith, c.requires.1)) c.if-rest-n.false (rw c.new.ensures at c.put.ensures.0)
