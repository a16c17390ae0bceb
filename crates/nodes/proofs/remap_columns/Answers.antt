use Rattle.nodes.proofs.Widths.{remaining_all, remaining_in, remaining_few, remaining_next, remaining_none}
use native.Mathlib.Omega.{arith}
use Rattle.nodes.proofs.remap_columns.Goals as goal

pub loop-i-init : goal.loop-i-init
loop-i-init c = λ ts p. remaining_all ts p

pub overflow_add-i : goal.overflow_add-i
overflow_add-i c = let (h, k) = remaining_in c.requires.targets (c.loop-i.invariant c.requires.targets c.requires.part) (omega arith) in omega arith

pub cell_at-c-requires : goal.cell_at-c-requires
cell_at-c-requires c = let (h, k) = remaining_in c.requires.targets (c.loop-i.invariant c.requires.targets c.requires.part) (omega arith) in (omega arith, omega arith)

pub past_target-n-requires : goal.past_target-n-requires
past_target-n-requires c = remaining_few c.requires.targets (c.loop-i.invariant c.requires.targets c.requires.part) (omega arith) c.cell_at-c.ensures c.requires.few

pub loop-i-preserved : goal.loop-i-preserved
loop-i-preserved c = λ ts p. remaining_next ts (c.loop-i.invariant ts p) (omega arith) c.cell_at-c.ensures c.past_target-n.ensures

pub returns : goal.returns
returns c = λ ts p. remaining_none ts (c.loop-i.invariant ts p) (omega arith)

-- after the last Target
pub returns-2 : goal.returns-2
returns-2 c = λ ts p. remaining_none ts (remaining_next ts (c.loop-i.invariant ts p) (omega arith) c.cell_at-c.ensures c.past_target-n.ensures) (omega arith)
