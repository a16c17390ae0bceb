-- `arity::children_of` meets its contract: the cells of each range of tags ask for the same, and no cell has a tag from 64 on. Assumes nothing.
use Prim.Native.Nat.{◌/◌, ◌%◌}
use native.Mathlib.Omega.{arith}
use mathlib.Core.Path.{refl, ap}
use Rattle.arity.specs.declared.Sort.TheVariants as Sort
use Rattle.arity.specs.Arity.{asking, childless, parts_only, parts_over}
use Rattle.arity.proofs.Laws.{by_below, asked_by, asked_as, unasked, bit0_is}
use Rattle.arity.proofs.children_of.Goals as goal

pub returns-in-10-to-18 : goal.returns-in-10-to-18
returns-in-10-to-18 c = asked_by (parts_only Sort.Expression 2) 10 9 (λ text zeros. refl) (omega arith) (omega arith) (omega arith) c.parts_only-in-10-to-18.ensures

pub returns-in-30-to-34 : goal.returns-in-30-to-34
returns-in-30-to-34 c = asked_by (parts_only Sort.Expression 1) 30 5 (λ text zeros. refl) (omega arith) (omega arith) (omega arith) c.parts_only-in-30-to-34.ensures

pub returns-in-36 : goal.returns-in-36
returns-in-36 c = asked_as 36 (parts_only Sort.Expression 1) (λ text zeros. refl) (omega arith) (omega arith) c.parts_only.ensures

pub returns-in-41 : goal.returns-in-41
returns-in-41 c = asked_as 41 (parts_only Sort.Expression 1) (λ text zeros. refl) (omega arith) (omega arith) c.parts_only-in-41.ensures

pub returns-in-42 : goal.returns-in-42
returns-in-42 c = asked_as 42 (parts_only Sort.Expression 1) (λ text zeros. refl) (omega arith) (omega arith) c.parts_only-in-42.ensures

pub returns-in-44 : goal.returns-in-44
returns-in-44 c = asked_as 44 (parts_only Sort.Expression 1) (λ text zeros. refl) (omega arith) (omega arith) c.parts_only-in-44.ensures

pub returns-in-45 : goal.returns-in-45
returns-in-45 c = asked_as 45 (parts_only Sort.Expression c.args.a) (λ text zeros. refl) (omega arith) (omega arith) c.parts_only-in-45.ensures

pub returns-in-50 : goal.returns-in-50
returns-in-50 c = asked_as 50 (asking 1 Sort.Expression c.args.a c.args.b) (λ text zeros. refl) (omega arith) (omega arith) c.asking.ensures

pub returns-in-51 : goal.returns-in-51
returns-in-51 c = asked_as 51 (parts_over Sort.Expression 1) (λ text zeros. refl) (omega arith) (omega arith) c.parts_over.ensures

pub returns-in-52 : goal.returns-in-52
returns-in-52 c = asked_as 52 (asking 2 Sort.Expression 0 0) (λ text zeros. refl) (omega arith) (omega arith) c.asking-in-52.ensures

pub returns-in-53 : goal.returns-in-53
returns-in-53 c = asked_as 53 (parts_only Sort.Constant (c.args.c / 65536)) (λ text zeros. refl) (omega arith) (omega arith) c.parts_only-in-53.ensures

pub returns-in-54 : goal.returns-in-54
returns-in-54 c = asked_as 54 (parts_only Sort.Constant c.args.c) (λ text zeros. refl) (omega arith) (omega arith) c.parts_only-in-54.ensures

pub returns-in-55 : goal.returns-in-55
returns-in-55 c = asked_as 55 (parts_over Sort.Expression 0) (λ text zeros. refl) (omega arith) (omega arith) c.parts_over-in-55.ensures

pub returns-in-56 : goal.returns-in-56
returns-in-56 c = asked_as 56 (asking 2 Sort.Expression (c.args.flag % 2) 0) (λ text zeros. ap (λ n. asking 2 Sort.Expression n 0) (bit0_is _)) (omega arith) (omega arith) c.asking-in-56.ensures

pub returns-in-57 : goal.returns-in-57
returns-in-57 c = asked_as 57 (parts_only Sort.Label c.args.a) (λ text zeros. refl) (omega arith) (omega arith) c.parts_only-in-57.ensures

pub returns-in-58 : goal.returns-in-58
returns-in-58 c = asked_as 58 (parts_over Sort.Expression 0) (λ text zeros. refl) (omega arith) (omega arith) c.parts_over-in-58.ensures

pub returns-in-59 : goal.returns-in-59
returns-in-59 c = asked_as 59 (parts_over Sort.Key c.args.a) (λ text zeros. refl) (omega arith) (omega arith) c.parts_over-in-59.ensures

pub returns-in-60 : goal.returns-in-60
returns-in-60 c = asked_as 60 (parts_over Sort.Item c.args.a) (λ text zeros. refl) (omega arith) (omega arith) c.parts_over-in-60.ensures

pub returns-in-61 : goal.returns-in-61
returns-in-61 c = asked_as 61 (parts_over Sort.Target c.args.a) (λ text zeros. refl) (omega arith) (omega arith) c.parts_over-in-61.ensures

pub returns-in-62 : goal.returns-in-62
returns-in-62 c = asked_as 62 (parts_only Sort.Expression (c.args.flag % 2)) (λ text zeros. ap (λ n. parts_only Sort.Expression n) (bit0_is _)) (omega arith) (omega arith) c.parts_only-in-62.ensures

pub returns-in-63 : goal.returns-in-63
returns-in-63 c = asked_as 63 (parts_only Sort.Row c.args.a) (λ text zeros. refl) (omega arith) (omega arith) c.parts_only-in-63.ensures

pub returns-in_default : goal.returns-in_default
returns-in_default c = asked_by childless 0 10 (λ text zeros. refl) (omega arith) (omega arith) (omega arith) refl

pub returns-in_default-2 : goal.returns-in_default-2
returns-in_default-2 c = asked_by childless 19 11 (λ text zeros. refl) (omega arith) (omega arith) (omega arith) refl

pub returns-in_default-3 : goal.returns-in_default-3
returns-in_default-3 c =
    by_below c.args.tag 36 (λ h. asked_by childless 35 1 (λ text zeros. refl) (omega arith) (omega arith) (omega arith) refl)
    (λ h. by_below c.args.tag 41 (λ j. asked_by childless 37 4 (λ text zeros. refl) (omega (arith, c.in_default)) (omega arith) (omega arith) refl)
    (λ j. by_below c.args.tag 44 (λ l. asked_as 43 childless (λ text zeros. refl) (omega (arith, c.in_default)) (omega arith) refl)
    (λ l. by_below c.args.tag 64 (λ m. asked_by childless 46 4 (λ text zeros. refl) (omega (arith, c.in_default)) (omega (arith, c.in_default)) (omega arith) refl)
    (λ m. unasked (omega arith) refl))))
