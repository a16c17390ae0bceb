use borrow.Author.Tests.{le-ltb}
use Rattle.column_numbers.proofs.JoinedColumn.source.Goals as goal

pub returns : goal.returns
returns c = simp (le-ltb _ _ c.if-c-n.false)
