use Rattle.labels.proofs.Tracing.{nothing_ends, label_in_list, nothing_says, values_say, table_says}
use Rattle.nodes.proofs.Own.{at_in}
use native.Mathlib.Omega.{arith}
use Rattle.labels.proofs.leaf_traced.Goals as goal

pub cell_at-c-requires : goal.cell_at-c-requires
cell_at-c-requires c = let (h, k) = at_in c.requires.node_at in (omega arith, k)

pub overflow_mul-i : goal.overflow_mul-i
overflow_mul-i c = record { fits = let h = label_in_list c.cell_at-c.ensures c.in-57.is c.args.i (omega arith) c.requires.node_at in omega arith }

pub overflow_add-lo : goal.overflow_add-lo
overflow_add-lo c = let h = label_in_list c.cell_at-c.ensures c.in-57.is c.args.i (omega arith) c.requires.node_at in omega arith

pub overflow_add-lo-in-57 : goal.overflow_add-lo-in-57
overflow_add-lo-in-57 c = let h = label_in_list c.cell_at-c.ensures c.in-57.is c.args.i (omega arith) c.requires.node_at in omega arith

pub cell_at-k-requires : goal.cell_at-k-requires
cell_at-k-requires c = (omega arith, label_in_list c.cell_at-c.ensures c.in-57.is c.args.i (omega arith) c.requires.node_at)

pub returns-in-57 : goal.returns-in-57
returns-in-57 c = nothing_says c.cell_at-c.ensures c.in-57.is c.args.i (omega arith) c.cell_at-k.ensures c.label_in.result c.label_in.ensures

pub returns-in-57-2 : goal.returns-in-57-2
returns-in-57-2 c = nothing_ends c.cell_at-c.ensures c.in-57.is c.args.i c.if-i-c.false

pub returns-in-57-2-2 : goal.returns-in-57-2-2
returns-in-57-2-2 c = values_say c.cell_at-c.ensures c.in-57-2.is c.args.i

pub returns-in_default : goal.returns-in_default
returns-in_default c = table_says c.cell_at-c.ensures (λ z. omega arith) (λ z. omega arith) c.args.i c.alias_in.result c.alias_in.ensures
