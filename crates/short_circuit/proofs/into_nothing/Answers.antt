use Rattle.nodes.proofs.Widths.{columns_node}
use Rattle.nodes.proofs.Own.{at_in}
use Rattle.short_circuit.proofs.Node.{no_room, count_few, labels_end, emptied}
use native.Mathlib.Omega.{arith}
use Rattle.short_circuit.proofs.into_nothing.Goals as goal

pub columns-n-requires : goal.columns-n-requires
columns-n-requires c = c.requires.columns_at

pub overflow_sub-y : goal.overflow_sub-y
overflow_sub-y c = let (h, k) = at_in (columns_node c.requires.columns_at) in omega (arith, c.requires.z_len.1.0)

pub overflow_sub-y-2 : goal.overflow_sub-y-2
overflow_sub-y-2 c = let (h, k) = at_in (columns_node c.requires.columns_at) in omega (arith, c.requires.z_len.1.0)

pub overflow_mul-n : goal.overflow_mul-n
overflow_mul-n c = record { fits = omega (arith, count_few c.columns-n.ensures c.requires.columns_at) }

pub overflow_add-n : goal.overflow_add-n
overflow_add-n c = record { fits = omega (arith, count_few c.columns-n.ensures c.requires.columns_at) }

pub returns-then-y-tail : goal.returns-then-y-tail
returns-then-y-tail c = let (h, k) = at_in (columns_node c.requires.columns_at) in no_room c.columns-n.ensures (omega (arith, c.if-y-tail.true, c.requires.z_len.1.0)) (omega (arith, c.requires.z_len.1.1))

pub origin_at-origin-requires : goal.origin_at-origin-requires
origin_at-origin-requires c = let (h, k) = at_in (columns_node c.requires.columns_at) in (omega arith, k)

pub write_labels-end-requires : goal.write_labels-end-requires
write_labels-end-requires c = record { columns_at = c.requires.columns_at; records_at = c.requires.records_at }

pub copy-at-requires : goal.copy-at-requires
copy-at-requires c = (omega arith, labels_end c.columns-n.ensures c.origin_at-origin.ensures c.write_labels-end.auto.d c.write_labels-end.ensures (omega (arith, c.if-y-tail.false, c.requires.z_len.0)) (omega (arith, c.requires.z_len.0, c.requires.z_len.1.1)) c.requires.records_at c.requires.columns_at)

pub returns : goal.returns
returns c = let (h, k) = at_in (columns_node c.requires.columns_at) in emptied c.columns-n.ensures c.origin_at-origin.ensures c.write_labels-end.auto.d c.write_labels-end.ensures (omega (arith, c.if-y-tail.false, c.requires.z_len.0)) (omega (arith, c.requires.z_len.0, c.requires.z_len.1.1)) (omega (arith, c.if-y-tail.false, c.requires.z_len.1.0)) c.requires.z_len.1.1 c.copy-at.auto.d c.copy-at.ensures (rw c.new.ensures at c.put.ensures.0)
