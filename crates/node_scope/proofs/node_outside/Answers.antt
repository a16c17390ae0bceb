-- `node_scope::node_outside` meets its contract: a Column is found before the node.
use borrow.Author.Rules.{rules}
use Rattle.sheet.specs.Cell.{cell}
use Rattle.node_scope.proofs.Answers.{column_found, nothing_found, node_found}
use Rattle.node_scope.proofs.node_outside.Goals as goal

pub returns-in-Some : goal.returns-in-Some
returns-in-Some c = column_found _ c.args.own c.args.at c.args.left c.args.right c.args.n (cell c.args.s.now c.args.at) c.column_outside.ensures c.in-Some.is

pub returns-then-node_fits : goal.returns-then-node_fits
returns-then-node_fits c = nothing_found _ c.args.own c.args.at c.args.left c.args.right c.args.n (cell c.args.s.now c.args.at) c.column_outside.ensures c.in_default.is c.node_fits.ensures c.if-node_fits.true

pub returns : goal.returns
returns c = node_found _ c.args.own c.args.at c.args.left c.args.right c.args.n (cell c.args.s.now c.args.at) c.column_outside.ensures c.in_default.is c.node_fits.ensures (search rules) c.if-node_fits.false
