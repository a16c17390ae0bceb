use Prim.Native.Nat.{ℕ, ◌+◌, ◌*◌, ◌/◌}
use mathlib.Core.Path.{◌≡◌, subst}
use Rattle.gather.proofs.Laws.{Rest}
use native.Mathlib.Omega.{arith}
use mathlib.Core.Path.{sym, ◌∙◌}
use Rattle.gather.proofs.Laws.{rest_start, rest_eight}
use Rattle.gather.proofs.alike.Goals as goal

pub loop-i-init : goal.loop-i-init
loop-i-init c = rest_start c.args.s.now c.args.a c.args.b c.args.n

pub returns-then-x-y : goal.returns-then-x-y
returns-then-x-y c = record { within = c.loop-i.invariant.within; rest = c.loop-i.invariant.is; differ = λ h e. c.if-x-y.true (c.eight_at-x.ensures ∙ (e ∙ sym c.eight_at-y.ensures)) }

pub loop-i-preserved : goal.loop-i-preserved
loop-i-preserved c =
    let next : c.loop-i.i * 8 + 8 ≡ (c.loop-i.i + 1) * 8 = omega arith in
    subst (Rest c.args.s.now c.args.a c.args.b c.args.n) next (rest_eight c.args.s.now (λ i. omega (arith, c.type_inv.s i)) c.args.a c.args.b c.args.n (c.loop-i.i * 8) (omega arith) (omega arith) (omega arith) c.loop-i.invariant (sym c.eight_at-x.ensures ∙ (c.if-x-y.false ∙ c.eight_at-y.ensures)))

pub returns : goal.returns
returns c =
    let e : c.loop-i.i ≡ c.args.n / 8 = omega arith in
    let r = subst (λ (k : ℕ). Rest c.args.s.now c.args.a c.args.b c.args.n (k * 8)) e c.loop-i.invariant in
    record { within = r.within; rest = r.is; differ = λ h. absurd (omega arith) }
