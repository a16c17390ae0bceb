use Rattle.labels.proofs.Routes.{untried_all, untried_in, untried_hit, untried_next, untried_none}
use Rattle.sql.specs.Plan.{optional_label}
use native.Mathlib.Omega.{arith}
use mathlib.Core.Path.{sym, ap, ◌∙◌}
use Rattle.labels.proofs.remap_route.Goals as goal

pub loop-at-init : goal.loop-at-init
loop-at-init c = (omega arith, λ ts p. untried_all c.args.i ts p)

pub cell_at-c-requires : goal.cell_at-c-requires
cell_at-c-requires c = let (h, k) = untried_in c.args.i c.requires.targets (c.loop-at.invariant.1 c.requires.targets c.requires.part) (omega arith) in (omega arith, omega arith)

pub returns-then-hits : goal.returns-then-hits
returns-then-hits c = λ source ts p. ap (optional_label source) (untried_hit c.args.i ts (c.loop-at.invariant.1 ts p) (omega arith) c.cell_at-c.ensures (sym c.hits.ensures ∙ c.if-hits.true))

pub overflow_add-from : goal.overflow_add-from
overflow_add-from c = let (h, k) = untried_in c.args.i c.requires.targets (c.loop-at.invariant.1 c.requires.targets c.requires.part) (omega arith) in omega (arith, c.loop-at.invariant.0)

pub loop-at-preserved : goal.loop-at-preserved
loop-at-preserved c = (omega (arith, c.loop-at.invariant.0), λ ts p. untried_next c.args.i ts (c.loop-at.invariant.1 ts p) (omega arith) c.cell_at-c.ensures (sym c.hits.ensures ∙ c.if-hits.false))

pub returns : goal.returns
returns c = λ source ts p. ap (optional_label source) (untried_none c.args.i ts (c.loop-at.invariant.1 ts p) (omega arith))

-- after the last Target
pub returns-else-hits : goal.returns-else-hits
returns-else-hits c = λ source ts p. ap (optional_label source) (untried_none c.args.i ts (untried_next c.args.i ts (c.loop-at.invariant.1 ts p) (omega arith) c.cell_at-c.ensures (sym c.hits.ensures ∙ c.if-hits.false)) (omega arith))
