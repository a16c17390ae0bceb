-- `ieee754::nearest_pattern` meets its contract: each answer is the nearest pattern by a law of `Pattern`. Assumes nothing.
use native.Mathlib.Omega.{arith}
use Rattle.ieee754.proofs.Pattern.{nearest_zero, leading, zeros_lt, exact, exact_lt, whole_lt, step_pos, rest_lt, less, more, even}
use Rattle.ieee754.proofs.nearest_pattern.Goals as goal

pub returns-then-n-eq0 : goal.returns-then-n-eq0
returns-then-n-eq0 c = nearest_zero c.args.n c.if-n-eq0.true

pub overflow_sub-field : goal.overflow_sub-field
overflow_sub-field c = omega (arith, zeros_lt (leading c.args.n c.if-n-eq0.false c.ranges.n.fits))

pub overflow_cast-result : goal.overflow_cast-result
overflow_cast-result c =
    record { fits = omega (arith, zeros_lt (leading c.args.n c.if-n-eq0.false c.ranges.n.fits)) }

pub overflow_shl-result : goal.overflow_shl-result
overflow_shl-result c =
    omega (arith, zeros_lt (leading c.args.n c.if-n-eq0.false c.ranges.n.fits))

pub overflow_add-result : goal.overflow_add-result
overflow_add-result c =
    record { fits = omega (arith, exact_lt (leading c.args.n c.if-n-eq0.false c.ranges.n.fits) c.if-zeros-ge11.true) }

pub returns-then-zeros-ge11 : goal.returns-then-zeros-ge11
returns-then-zeros-ge11 c =
    exact (leading c.args.n c.if-n-eq0.false c.ranges.n.fits) c.if-zeros-ge11.true

pub nonzero_rem-rest : goal.nonzero_rem-rest
nonzero_rem-rest c =
    step_pos (leading c.args.n c.if-n-eq0.false c.ranges.n.fits) c.if-zeros-ge11.false

pub overflow_add-rest : goal.overflow_add-rest
overflow_add-rest c =
    record { fits = omega (arith, rest_lt (leading c.args.n c.if-n-eq0.false c.ranges.n.fits) c.if-zeros-ge11.false) }

pub overflow_add-result-then-rest-step : goal.overflow_add-result-then-rest-step
overflow_add-result-then-rest-step c =
    record { fits = omega (arith, whole_lt (leading c.args.n c.if-n-eq0.false c.ranges.n.fits) c.if-zeros-ge11.false) }

pub returns-then-rest-step : goal.returns-then-rest-step
returns-then-rest-step c =
    less (leading c.args.n c.if-n-eq0.false c.ranges.n.fits) c.if-zeros-ge11.false c.if-rest-step.true

pub overflow_add-rest-2 : goal.overflow_add-rest-2
overflow_add-rest-2 c =
    record { fits = omega (arith, rest_lt (leading c.args.n c.if-n-eq0.false c.ranges.n.fits) c.if-zeros-ge11.false) }

pub overflow_add-result-then-rest-step-2 : goal.overflow_add-result-then-rest-step-2
overflow_add-result-then-rest-step-2 c =
    record { fits = omega (arith, whole_lt (leading c.args.n c.if-n-eq0.false c.ranges.n.fits) c.if-zeros-ge11.false) }

pub overflow_add-result-then-rest-step-2-2 : goal.overflow_add-result-then-rest-step-2-2
overflow_add-result-then-rest-step-2-2 c =
    record { fits = omega (arith, whole_lt (leading c.args.n c.if-n-eq0.false c.ranges.n.fits) c.if-zeros-ge11.false) }

pub returns-then-rest-step-2 : goal.returns-then-rest-step-2
returns-then-rest-step-2 c =
    more (leading c.args.n c.if-n-eq0.false c.ranges.n.fits) c.if-zeros-ge11.false c.if-rest-step-2.true

pub overflow_add-result-2 : goal.overflow_add-result-2
overflow_add-result-2 c =
    record { fits = omega (arith, whole_lt (leading c.args.n c.if-n-eq0.false c.ranges.n.fits) c.if-zeros-ge11.false) }

pub overflow_add-result-3 : goal.overflow_add-result-3
overflow_add-result-3 c =
    record { fits = omega (arith, whole_lt (leading c.args.n c.if-n-eq0.false c.ranges.n.fits) c.if-zeros-ge11.false) }

pub returns : goal.returns
returns c =
    even (leading c.args.n c.if-n-eq0.false c.ranges.n.fits) c.if-zeros-ge11.false c.if-rest-step.false c.if-rest-step-2.false
