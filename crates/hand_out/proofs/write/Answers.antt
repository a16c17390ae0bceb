use Rattle.hand_out.proofs.Handing.{asked_length, encodable, too_short, long_enough}
use native.Mathlib.Omega.{arith}
use Rattle.hand_out.proofs.write.Goals as goal

pub encoded_length-needed-requires : goal.encoded_length-needed-requires
encoded_length-needed-requires c = let all = asked_length c.requires in record { whole = all.0; plan_long = all.1 }

pub returns-then-out-needed : goal.returns-then-out-needed
returns-then-out-needed c = too_short c.args.s.now c.args.x.now c.args.n c.args.columns _ c.args.out.now _ c.encoded_length-needed.ensures (omega arith) c.refusal.ensures

pub encode-length-requires : goal.encode-length-requires
encode-length-requires c = encodable c.requires c.encoded_length-needed.ensures (omega arith)

pub returns : goal.returns
returns c = long_enough c.args.s.now c.args.x.now c.args.n c.args.columns _ _ c.args.out.now _ c.encoded_length-needed.ensures (omega arith) c.encode-length.ensures
