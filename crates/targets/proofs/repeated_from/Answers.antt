-- `targets::repeated_from` meets its contract: the loop keeps `Walked`: the numbers met since the last node and what is left of the cells give the answer for all cells. Reading then says that these are the plan's.
use Rattle.std.specs.Prelude.{Some, None}
use Rattle.layout.proofs.Laws.{cells_are}
use Rattle.targets.proofs.Steps.{start, past_node, past_other, met_again, past_target, ended, repeats, has_number, has_none}
use native.Mathlib.Omega.{arith}
use mathlib.Core.Path.{refl, sym, ◌∙◌}
use Rattle.targets.proofs.repeated_from.Goals as goal

pub loop-i-init : goal.loop-i-init
loop-i-init c = start c.args.s.now _ c.requires.1

pub loop-i-preserved-then-k-ge-NODES : goal.loop-i-preserved-then-k-ge-NODES
loop-i-preserved-then-k-ge-NODES c = past_node _ c.loop-i.invariant (omega (arith, cells_are c.parts_of-i-end.ensures, c.loop-i-test.true)) c.cell_at-k.ensures.is c.if-k-ge-NODES.true

pub loop-i-preserved-in_default : goal.loop-i-preserved-in_default
loop-i-preserved-in_default c =
    past_other _ c.loop-i.invariant (omega (arith, cells_are c.parts_of-i-end.ensures, c.loop-i-test.true)) c.cell_at-k.ensures.is c.if-k-ge-NODES.false refl
    (has_none _ (sym c.in_default.is ∙ c.target_number.ensures))

pub returns-then-own-last : goal.returns-then-own-last
returns-then-own-last c =
    let n = has_number _ (sym c.in-Some.is ∙ c.target_number.ensures) in
    repeats c.args.s.now (Some c.loop-i.i) (λ j. (c.shared_slice_known-1.given j).fits)
    (met_again _ c.loop-i.invariant (omega (arith, cells_are c.parts_of-i-end.ensures, c.loop-i-test.true)) c.cell_at-k.ensures.is c.if-k-ge-NODES.false n.0 (omega (arith, n.0, n.1)) c.if-own-last.true)

pub loop-i-preserved : goal.loop-i-preserved
loop-i-preserved c =
    let n = has_number _ (sym c.in-Some.is ∙ c.target_number.ensures) in
    past_target _ c.loop-i.invariant (omega (arith, cells_are c.parts_of-i-end.ensures, c.loop-i-test.true)) c.cell_at-k.ensures.is c.if-k-ge-NODES.false n.0 (omega (arith, n.0, n.1)) c.if-own-last.false

pub returns : goal.returns
returns c = repeats c.args.s.now None (λ j. (c.shared_slice_known-1.given j).fits) (ended _ c.loop-i.invariant (omega (arith, cells_are c.parts_of-i-end.ensures, c.loop-i-test.false)))
