use Rattle.labels.proofs.Tracing.{way_first, way_done, way_shorter, way_more}
use Rattle.labels.proofs.trace.Goals as goal

pub loop-traced-init : goal.loop-traced-init
loop-traced-init c = way_first c.requires.columns_at c.requires.column_count

pub next_of-requires : goal.next_of-requires
next_of-requires c = c.loop-traced.invariant.there

pub returns-in-Break : goal.returns-in-Break
returns-in-Break c = way_done c.loop-traced.invariant c.in-Break.traced c.in-Break.ensures

pub loop-traced-smaller : goal.loop-traced-smaller
loop-traced-smaller c = way_shorter c.loop-traced.invariant c.in-Continue.next c.in-Continue.ensures

pub loop-traced-preserved : goal.loop-traced-preserved
loop-traced-preserved c = way_more c.loop-traced.invariant c.in-Continue.next c.in-Continue.ensures
