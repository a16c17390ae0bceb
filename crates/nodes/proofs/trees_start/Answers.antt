use Rattle.nodes.proofs.Trees.{last_sized, before_last, start_before, start_none}
use native.Mathlib.Omega.{arith}
use mathlib.Core.Path.{◌≡◌, refl, sym, ◌∙◌}
use Prim.Native.Nat.{◌-◌, ◌+◌}
use Rattle.nodes.proofs.trees_start.Goals as goal

pub loop-init : goal.loop-init
loop-init c = let q : c.args.n - 0 ≡ c.args.n = omega arith in rw q (c.requires, refl)

pub start-at-requires : goal.start-at-requires
start-at-requires c = last_sized (λ z. omega arith) c.loop.invariant.0

pub loop-preserved : goal.loop-preserved
loop-preserved c =
    let q : c.args.n - (c.loop.counter + 1) ≡ c.args.n - c.loop.counter - 1 = omega arith in
    rw q (before_last (λ z. omega arith) c.start-at.ensures c.loop.invariant.0, start_before c.args.s.now (c.args.n - c.loop.counter) c.loop.at c.start-at.result (λ z. omega arith) c.start-at.ensures ∙ c.loop.invariant.1)

pub returns : goal.returns
returns c = sym (start_none c.args.s.now c.loop.at (omega arith)) ∙ c.loop.invariant.1
