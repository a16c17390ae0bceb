use Rattle.std.specs.Prelude.{ℕ, List, ◌≡◌, ◌+◌, length, take}
use Rattle.encode.specs.Encode.{written}
use Rattle.sheet.specs.Bytes.{bytes}
use Rattle.encode.proofs.Written.{low_bytes_at, length_bytes}
use native.Mathlib.Omega.{arith}
use mathlib.Core.Path.{ap, ◌∙◌}
use Rattle.encode.proofs.put_word.Goals as goal

pub returns : goal.returns
returns c =
    let e : take 4 c.to_le_bytes.result ≡ bytes c.args.w = low_bytes_at c.args.w c.to_le_bytes.ensures (omega arith) in (
      c.put.ensures.0 ∙ ap (λ (v : List ℕ). c.args.at + length v) e ∙ ap (λ (k : ℕ). c.args.at + k) (length_bytes c.args.w),
      c.put.ensures.1 ∙ ap (written c.args.out.now c.args.at) e,
    )
