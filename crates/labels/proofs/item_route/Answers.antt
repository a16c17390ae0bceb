use Rattle.labels.proofs.Routes.{item_in, item_expression, to_expression, own_label}
use native.Mathlib.Omega.{arith}
use Rattle.labels.proofs.item_route.Goals as goal

pub cell_at-c-requires : goal.cell_at-c-requires
cell_at-c-requires c = let (h, k) = item_in c.requires in (omega arith, k)

pub overflow_sub-hi : goal.overflow_sub-hi
overflow_sub-hi c = omega (arith, (item_in c.requires).0)

pub expression_route-requires : goal.expression_route-requires
expression_route-requires c = item_expression c.requires

pub returns-then-c-eq0 : goal.returns-then-c-eq0
returns-then-c-eq0 c = to_expression c.cell_at-c.ensures c.if-c-eq0.true c.expression_route.result c.expression_route.ensures

pub returns : goal.returns
returns c = own_label c.cell_at-c.ensures c.if-c-eq0.false c.label_in.result c.label_in.ensures
