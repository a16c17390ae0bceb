use Rattle.hand_out.specs.HandOut.{AnsweredAt}
use Rattle.hand_out.proofs.Handing.{left_written, hands_done_as, hands_refused_as}
use mathlib.Core.Path.{subst}
use Rattle.hand_out.proofs.hand_out.Goals as goal

pub write-requires : goal.write-requires
write-requires c = left_written (subst (AnsweredAt c.args.s.now c.args.x.now) c.in-Ok.is c.requires.answered_at)

pub returns-in-Ok : goal.returns-in-Ok
returns-in-Ok c = hands_done_as c.args.s.now c.args.x.now _ c.args.columns c.args.out.now _ _ c.args.r c.in-Ok.is c.write.ensures

pub returns-in-Err : goal.returns-in-Err
returns-in-Err c = hands_refused_as c.args.s.now c.args.x.now _ c.args.columns c.args.out.now _ c.args.r c.in-Err.is c.refusal.ensures
