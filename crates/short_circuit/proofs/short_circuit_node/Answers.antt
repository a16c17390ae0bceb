use Rattle.nodes.proofs.Widths.{columns_node}
use Rattle.short_circuit.proofs.Node.{removed_in, removed_at, circuit_stays, circuit_empties}
use native.Mathlib.Omega.{arith}
use mathlib.Core.Path.{sym, ◌∙◌}
use Rattle.short_circuit.proofs.short_circuit_node.Goals as goal

pub remove_useless-end-requires : goal.remove_useless-end-requires
remove_useless-end-requires c = c.requires.columns_at

pub is_empty-requires : goal.is_empty-requires
is_empty-requires c = columns_node (removed_at c.remove_useless-end.auto.y c.remove_useless-end.ensures c.requires.z_len.1.1 c.requires.columns_at)

pub into_nothing-requires : goal.into_nothing-requires
into_nothing-requires c = record { columns_at = removed_at c.remove_useless-end.auto.y c.remove_useless-end.ensures c.requires.z_len.1.1 c.requires.columns_at; records_at = c.requires.records_at; z_len = (c.requires.z_len.0 ∙ sym c.remove_useless-end.auto.y, (omega (arith, removed_in c.remove_useless-end.auto.y c.remove_useless-end.ensures c.requires.z_len.1.1 c.requires.columns_at, c.remove_useless-end.auto.y, c.requires.z_len.1.0), omega (arith, c.remove_useless-end.auto.y, c.requires.z_len.1.1))) }

pub returns-then-is_empty : goal.returns-then-is_empty
returns-then-is_empty c = circuit_empties c.remove_useless-end.auto.y c.remove_useless-end.ensures c.requires.z_len.1.1 c.requires.z_len.1.0 c.is_empty.ensures c.if-is_empty.true c.into_nothing.ensures

pub returns : goal.returns
returns c = circuit_stays c.remove_useless-end.auto.y c.remove_useless-end.ensures c.requires.z_len.1.1 c.requires.z_len.1.0 c.is_empty.ensures c.if-is_empty.false
