-- Folding leaves each node's cell as it was.
use Prim.Native.Nat.{ℕ}
use mathlib.Core.Bool.{Bool}
use mathlib.Core.Path.{◌≡◌, refl, ap}
use mathlib.Core.Option.{Option, none, some}
use lib.ListN.{length}
use Rattle.sql.specs.Expression.{Expression}
use Rattle.sql.specs.Plan.{Leaf, scan, lookup, nothing, values, limit, offset, order, projection, remap, aggregate, Over, filter, other, Join, nested_loop, hash, row_size, item_size, key_size}
use Rattle.sql.specs.Answer.{Answer, done, refused}
use Rattle.sql.specs.Optimizer.{fold_expression, fold_each, fold_optional, fold_row, fold_part, fold_leaf, fold_over, fold_join}
use Rattle.sheet.specs.Content.{scan_cell, values_cell, order_cell, projection_cell, nested_loop_join_cell}
use Rattle.sheet.specs.Cells.{present}
use Rattle.sound.specs.Answers.{Answered, answered_then}
use Rattle.words.specs.Words.{leaf_cell, over_cell, join_cell}
use Rattle.fold_parts.proofs.Each.{each_count}

-- whatever is done
any : {A : Type 0} (a : Answer A) → Answered (λ y. Unit {0}) a
any (done y) = tt
any (refused i p) = tt

presence : (first : ℕ) (q : Option Expression) → Answered (λ x. present x ≡ present q) (fold_optional first q)
presence first none = refl
presence first (some e) = answered_then (λ y. Unit {0}) (λ x. present x ≡ present (some e)) (fold_expression first e) (λ x. done (some x)) (any (fold_expression first e)) (λ x t. refl)

pub leaf_cell_kept : (first : ℕ) (l : Leaf) → Answered (λ m. leaf_cell m ≡ leaf_cell l) (fold_leaf first l)
leaf_cell_kept first (scan t al q) =
    answered_then (λ x. present x ≡ present q) (λ m. leaf_cell m ≡ leaf_cell (scan t al q)) (fold_optional first q) (λ x. done (scan t al x)) (presence first q)
    (λ x e. ap (λ (b : Bool). scan_cell b t al) e)
leaf_cell_kept first (lookup a t al vs) = refl
leaf_cell_kept first (nothing ls) = refl
leaf_cell_kept first (values rs) =
    answered_then (λ ys. length ys ≡ length rs) (λ m. leaf_cell m ≡ leaf_cell (values rs)) (fold_each fold_row row_size first rs) (λ ys. done (values ys)) (each_count fold_row row_size rs first)
    (λ ys e. ap values_cell e)

pub over_cell_kept : (first : ℕ) (o : Over) → Answered (λ m. over_cell m ≡ over_cell o) (fold_over first o)
over_cell_kept first (filter e) = answered_then (λ y. Unit {0}) (λ m. over_cell m ≡ over_cell (filter e)) (fold_expression first e) (λ x. done (filter x)) (any (fold_expression first e)) (λ x t. refl)
over_cell_kept first (other (limit a)) = refl
over_cell_kept first (other (offset a)) = refl
over_cell_kept first (other (order ks)) =
    answered_then (λ ys. length ys ≡ length ks) (λ m. over_cell m ≡ over_cell (other (order ks))) (fold_each fold_part key_size first ks) (λ ys. done (other (order ys))) (each_count fold_part key_size ks first)
    (λ ys e. ap order_cell e)
over_cell_kept first (other (projection is)) =
    answered_then (λ ys. length ys ≡ length is) (λ m. over_cell m ≡ over_cell (other (projection is))) (fold_each fold_part item_size first is) (λ ys. done (other (projection ys)))
    (each_count fold_part item_size is first) (λ ys e. ap projection_cell e)
over_cell_kept first (other (remap ts)) = refl
over_cell_kept first (other (aggregate es gs)) = refl

pub join_cell_kept : (outer : Bool) (first : ℕ) (j : Join) → Answered (λ m. join_cell outer m ≡ join_cell outer j) (fold_join first j)
join_cell_kept outer first (nested_loop q) =
    answered_then (λ x. present x ≡ present q) (λ m. join_cell outer m ≡ join_cell outer (nested_loop q)) (fold_optional first q) (λ x. done (nested_loop x)) (presence first q)
    (λ x e. ap (λ (b : Bool). nested_loop_join_cell b outer) e)
join_cell_kept outer first (hash i j) = refl
