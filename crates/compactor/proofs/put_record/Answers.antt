use native.Mathlib.Omega.{arith}
use Rattle.compactor.proofs.Laws.{record_put}
use Rattle.compactor.proofs.put_record.Goals as goal

pub put_word-a-requires : goal.put_word-a-requires
put_word-a-requires c = omega (arith, c.requires.1)

pub overflow_add-p : goal.overflow_add-p
overflow_add-p c = omega (arith, c.requires.0)

pub copy-requires : goal.copy-requires
copy-requires c = (omega (arith, c.requires.0), omega (arith, c.requires.1, c.put_word-a.ensures.0, c.put_word-a.auto.out))

pub returns : goal.returns
returns c = record_put c.args.s.now (λ i. omega (arith, c.shared_slice_known-1.given i)) c.args.p c.args.w c.args.at c.args.out.now _ _ c.requires.0 c.requires.1 c.put_word-a.ensures c.copy.ensures
