use Rattle.gather.proofs.Laws.{mark_is}
use Rattle.gather.specs.Gather.{stretch}
use Prim.Native.Nat.{ℕ}
use native.Mathlib.Omega.{arith}
use mathlib.Core.Path.{◌∙◌, ap}
use Rattle.sheet.specs.Bytes.{byte}
use Rattle.gather.proofs.mark.Goals as goal

pub returns : goal.returns
returns c = c.from_le_bytes.ensures ∙ mark_is (stretch c.args.s.now c.args.at c.args.n) c.nth.ensures c.nth-2.ensures c.nth-3.ensures c.nth-4.ensures c.nth-5.ensures c.nth-6.ensures c.nth-7.ensures
    (c.nth-8.ensures ∙ ap (λ (n : ℕ). byte (stretch c.args.s.now c.args.at n) 7) (omega arith))
