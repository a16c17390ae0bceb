-- `arity::sort_of` meets its contract: the cells of each range of tags have the same sort. Assumes nothing.
use Rattle.std.specs.Prelude.{Some, None}
use native.Mathlib.Omega.{arith}
use mathlib.Core.Path.{refl}
use Rattle.arity.specs.declared.Sort.TheVariants as Sort
use Rattle.arity.proofs.Laws.{by_below, sorted_by, unsorted}
use Rattle.arity.proofs.sort_of.Goals as goal

pub returns-in-6 : goal.returns-in-6
returns-in-6 c = sorted_by (λ t. Some Sort.Expression) 6 1 (λ text x. refl) (omega arith) (omega arith)

pub returns-in-36 : goal.returns-in-36
returns-in-36 c = sorted_by (λ t. Some Sort.Expression) 36 1 (λ text x. refl) (omega arith) (omega arith)

pub returns-in-40 : goal.returns-in-40
returns-in-40 c = sorted_by (λ t. Some Sort.Label) 40 1 (λ text x. refl) (omega arith) (omega arith)

pub returns-in-41 : goal.returns-in-41
returns-in-41 c = sorted_by (λ t. Some Sort.Item) 41 1 (λ text x. refl) (omega arith) (omega arith)

pub returns-in-42 : goal.returns-in-42
returns-in-42 c = sorted_by (λ t. Some Sort.Key) 42 1 (λ text x. refl) (omega arith) (omega arith)

pub returns-in-43 : goal.returns-in-43
returns-in-43 c = sorted_by (λ t. Some Sort.Target) 43 1 (λ text x. refl) (omega arith) (omega arith)

pub returns-in-44 : goal.returns-in-44
returns-in-44 c = sorted_by (λ t. Some Sort.Agg) 44 1 (λ text x. refl) (omega arith) (omega arith)

pub returns-in-45 : goal.returns-in-45
returns-in-45 c = sorted_by (λ t. Some Sort.Row) 45 1 (λ text x. refl) (omega arith) (omega arith)

pub returns-in-1-to-5 : goal.returns-in-1-to-5
returns-in-1-to-5 c = sorted_by (λ t. Some Sort.Constant) 1 5 (λ text x. refl) (omega arith) (omega arith)

pub returns-in-10-to-18 : goal.returns-in-10-to-18
returns-in-10-to-18 c = sorted_by (λ t. Some Sort.Expression) 10 9 (λ text x. refl) (omega arith) (omega arith)

pub returns-in-30-to-34 : goal.returns-in-30-to-34
returns-in-30-to-34 c = sorted_by (λ t. Some Sort.Expression) 30 5 (λ text x. refl) (omega arith) (omega arith)

pub returns-in-50-to-63 : goal.returns-in-50-to-63
returns-in-50-to-63 c = sorted_by (λ t. Some Sort.Node) 50 14 (λ text x. refl) (omega arith) (omega arith)

pub returns-in_default : goal.returns-in_default
returns-in_default c = sorted_by (λ t. None) 0 1 (λ text x. refl) (omega arith) (omega arith)

pub returns-in_default-2 : goal.returns-in_default-2
returns-in_default-2 c = sorted_by (λ t. None) 7 3 (λ text x. refl) (omega (arith, c.in_default)) (omega arith)

pub returns-in_default-3 : goal.returns-in_default-3
returns-in_default-3 c = sorted_by (λ t. None) 19 11 (λ text x. refl) (omega (arith, c.in_default)) (omega arith)

pub returns-in_default-4 : goal.returns-in_default-4
returns-in_default-4 c =
    by_below c.args.tag 36 (λ h. sorted_by (λ t. None) 35 1 (λ text x. refl) (omega (arith, c.in_default)) (omega arith))
    (λ h. by_below c.args.tag 40 (λ j. sorted_by (λ t. None) 37 3 (λ text x. refl) (omega (arith, c.in_default)) (omega arith))
    (λ j. sorted_by (λ t. None) 46 4 (λ text x. refl) (omega (arith, c.in_default)) (omega arith)))

pub returns-in_default-5 : goal.returns-in_default-5
returns-in_default-5 c = unsorted (omega arith)
