use Rattle.chain.proofs.Resizing.{size_new, size_old}
use native.Mathlib.Omega.{arith}
use Rattle.chain.proofs.size.Goals as goal

pub returns-then-tag-ge-NODES : goal.returns-then-tag-ge-NODES
returns-then-tag-ge-NODES c = size_new c.args.tag c.args.new c.args.old (omega (arith, c.if-tag-ge-NODES.true))

pub returns-else-tag-ge-NODES : goal.returns-else-tag-ge-NODES
returns-else-tag-ge-NODES c = size_old c.args.tag c.args.new c.args.old (omega (arith, c.if-tag-ge-NODES.false))
