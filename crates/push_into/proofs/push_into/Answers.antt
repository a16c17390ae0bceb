use Rattle.push_into.proofs.Taking.{taker_at, own_in, pushed_in}
use native.Mathlib.Omega.{arith}
use mathlib.Core.Path.{refl, ◌∙◌}
use Rattle.push_into.proofs.push_into.Goals as goal

pub own_start-own-requires : goal.own_start-own-requires
own_start-own-requires c = taker_at c.requires.taker_at

pub with_predicate-m-requires : goal.with_predicate-m-requires
with_predicate-m-requires c = record { taker_at = c.requires.taker_at; predicate_written = c.requires.predicate_written }

pub replace_own-requires : goal.replace_own-requires
replace_own-requires c = let (a, b) = own_in c.own_start-own.ensures c.requires.taker_at in record { tail_bound = (omega (arith, c.requires.tail_bound.0), c.requires.tail_bound.1); lo_le_own = (a, λ z. c.with_predicate-m.ensures.long refl (omega (arith, c.with_predicate-m.auto.d))); y_len = c.with_predicate-m.auto.d ∙ c.requires.y_len }

pub returns : goal.returns
returns c = pushed_in c.own_start-own.ensures c.args.origin c.args.t c.with_predicate-m.auto.d c.with_predicate-m.ensures c.replace_own.ensures
