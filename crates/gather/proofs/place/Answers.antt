use native.Mathlib.Omega.{arith}
use Rattle.gather.proofs.Strings.{place_small, place_held, place_over, place_new}
use Rattle.gather.proofs.place.Goals as goal

pub overflow_add-result : goal.overflow_add-result
overflow_add-result c = let b = place_small c.args.s.now c.args.kept.now c.args.total c.args.r c.requires.holds c.requires.room.0 c.requires.room.1 c.requires.bytes_value.0 c.requires.bytes_value.1 c.in-Some.j c.in-Some.ensures in let k = c.requires.room.1.small in omega arith

pub returns-in-Some : goal.returns-in-Some
returns-in-Some c = place_held c.args.s.now c.args.kept.now c.args.total c.args.r c.requires.holds c.requires.room.0 c.requires.room.1 c.requires.bytes_value.0 c.requires.bytes_value.1 c.in-Some.j c.if-n-eq0.false c.in-Some.ensures

pub returns-then-bytes-gt8192 : goal.returns-then-bytes-gt8192
returns-then-bytes-gt8192 c = place_over c.args.s.now c.args.kept.now c.args.total c.args.r c.requires.holds c.requires.room.0 c.requires.room.1 c.requires.bytes_value.0 c.requires.bytes_value.1 c.if-n-eq0.false c.in_default.ensures c.if-bytes-gt8192.true

pub returns : goal.returns
returns c = place_new c.args.s.now c.args.kept.now c.args.total c.args.r c.requires.holds c.requires.room.0 c.requires.room.1 c.requires.bytes_value.0 c.requires.bytes_value.1 c.if-n-eq0.false c.in_default.ensures c.mark-m.result c.mark-m.ensures c.if-bytes-gt8192.false
