-- `nodes::parts_start` meets its contract: what is left to pass starts where all of it does. A part whose tag is below 10 is one cell.
use Rattle.nodes.proofs.Trees.{trees_at, last_leaf, last_sized, parts_before, start_before, start_none}
use Rattle.cells.specs.Cells.{start_at}
use Prim.Native.Nat.{◌-◌, ◌+◌}
use native.Mathlib.Omega.{arith}
use mathlib.Core.Path.{◌≡◌, refl, sym, ◌∙◌}
use Rattle.nodes.proofs.parts_start.Goals as goal
use Rattle.nodes.proofs.parts_start.Goals.{then-tag_at-lt-BINARY, else-tag_at-lt-BINARY}

pub loop-part-init : goal.loop-part-init
loop-part-init c = let q : c.args.n - 0 ≡ c.args.n = omega arith in rw q (c.requires, refl)

pub tag_at-requires : goal.tag_at-requires
tag_at-requires c = let h = last_sized (λ z. omega arith) (trees_at c.loop-part.invariant.0) in (h.first, h.last)

pub overflow_sub-at : goal.overflow_sub-at
overflow_sub-at c = (last_sized (λ z. omega arith) (trees_at c.loop-part.invariant.0)).first

pub start-at-requires : goal.start-at-requires
start-at-requires c = last_sized (λ z. omega arith) (trees_at c.loop-part.invariant.0)

pub loop-part-preserved : goal.loop-part-preserved
loop-part-preserved c =
    let s = c.args.s.now in
    let m = c.args.n - c.loop-part._part in
    let q : c.args.n - (c.loop-part._part + 1) ≡ m - 1 = omega arith in
    let e : c.if-tag_at-lt-BINARY.at ≡ start_at s c.loop-part.at =
    elim c.if-tag_at-lt-BINARY.branch [ then-tag_at-lt-BINARY w ↦ w.at-is ∙ last_leaf (λ z. omega arith) c.loop-part.invariant.0 (omega (arith, w.if-tag_at-lt-BINARY.true, c.tag_at.ensures)) | else-tag_at-lt-BINARY w ↦ w.at-is ∙ w.start-at.ensures ] in
    rw q (parts_before (λ z. omega arith) e c.loop-part.invariant.0, start_before s m c.loop-part.at c.if-tag_at-lt-BINARY.at (λ z. omega arith) e ∙ c.loop-part.invariant.1)

pub returns : goal.returns
returns c = sym (start_none c.args.s.now c.loop-part.at (omega arith)) ∙ c.loop-part.invariant.1
