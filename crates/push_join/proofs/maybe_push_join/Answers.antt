use Rattle.push_into.proofs.Taking.{node_at_in}
use Rattle.edit.proofs.Edits.{held_at, held_in}
use Rattle.push_join.proofs.Passing.{split_at, nnf_at, cnf_at, pass_same, nnf_over, cnf_over, pass_split}
use Rattle.push_join.proofs.Below.{passes_below}
use Rattle.split_join.proofs.Splitting.{is_known, predicate_at}
use Rattle.words.proofs.Expressions.{at_in}
use Rattle.words.proofs.Stands.{own_front, stands_own, where_it_stands}
use native.Mathlib.Omega.{arith}
use mathlib.Core.Path.{refl, sym, ◌∙◌}
use Rattle.push_join.proofs.maybe_push_join.Goals as goal

pub overflow_sub-hi : goal.overflow_sub-hi
overflow_sub-hi c = (held_in c.requires.pass_at.held).0

pub has_predicate-requires : goal.has_predicate-requires
has_predicate-requires c = held_at c.requires.pass_at.held

pub own_start-m-requires : goal.own_start-m-requires
own_start-m-requires c = held_at c.requires.pass_at.held

pub overflow_sub-predicate : goal.overflow_sub-predicate
overflow_sub-predicate c = (node_at_in (held_at c.requires.pass_at.held)).0

pub invariant_of-predicate : goal.invariant_of-predicate
invariant_of-predicate c = record { stands = stands_own refl ∣ predicate_at c.own_start-m.ensures (is_known c.has_predicate.ensures c.if-has_predicate.true) (held_at c.requires.pass_at.held) ∣₁ }

pub shape_of-x-then-z-k : goal.shape_of-x-then-z-k
shape_of-x-then-z-k c = refl

pub shape_of-z-then-z-k : goal.shape_of-z-then-z-k
shape_of-z-then-z-k c = c.into_nnf-k.auto.d

pub returns-then-z-k : goal.returns-then-z-k
returns-then-z-k c = let all = passes_below c.requires.pass_at refl (nnf_over (is_known c.has_predicate.ensures c.if-has_predicate.true) c.own_start-m.ensures c.requires.z_len c.into_nnf-k.auto.d (where_it_stands refl _ c.into_nnf-k.ensures) c.if-z-k.true) in record { passes = all.0; passes_below = all.1 }

pub invariant_of-nnf : goal.invariant_of-nnf
invariant_of-nnf c = record { stands = stands_own (sym (own_front c.into_nnf-k.new.d c.into_nnf-k.result)) ∣ nnf_at c.own_start-m.ensures c.into_nnf-k.auto.d (where_it_stands refl _ c.into_nnf-k.ensures) c.if-z-k.false (is_known c.has_predicate.ensures c.if-has_predicate.true) (held_at c.requires.pass_at.held) ∣₁ }

pub shape_of-x-then-w-end : goal.shape_of-x-then-w-end
shape_of-x-then-w-end c = refl

pub shape_of-z-then-w-end : goal.shape_of-z-then-w-end
shape_of-z-then-w-end c = c.into_nnf-k.auto.d

pub shape_of-w-then-w-end : goal.shape_of-w-then-w-end
shape_of-w-then-w-end c = c.distribute-end.auto.d

pub returns-then-w-end : goal.returns-then-w-end
returns-then-w-end c = let all = passes_below c.requires.pass_at refl (cnf_over (is_known c.has_predicate.ensures c.if-has_predicate.true) c.own_start-m.ensures c.requires.z_len c.into_nnf-k.auto.d (where_it_stands refl _ c.into_nnf-k.ensures) c.if-z-k.false c.requires.w_len c.distribute-end.auto.d (where_it_stands (sym (own_front c.into_nnf-k.new.d c.into_nnf-k.result)) _ c.distribute-end.ensures) c.if-w-end.true) in record { passes = all.0; passes_below = all.1 }

pub split-requires : goal.split-requires
split-requires c = record { split_at = split_at (is_known c.has_predicate.ensures c.if-has_predicate.true) c.requires.pass_at; own_start = c.own_start-m.ensures; y_len = c.requires.y_len; expression_at = cnf_at c.own_start-m.ensures c.into_nnf-k.auto.d (where_it_stands refl _ c.into_nnf-k.ensures) c.if-z-k.false c.distribute-end.auto.d (where_it_stands (sym (own_front c.into_nnf-k.new.d c.into_nnf-k.result)) _ c.distribute-end.ensures) c.if-w-end.false (is_known c.has_predicate.ensures c.if-has_predicate.true) (held_at c.requires.pass_at.held); g_len = c.into_nnf-k.auto.d ∙ (c.requires.z_len ∙ sym (c.distribute-end.auto.d ∙ c.requires.w_len)) }

pub shape_of-x-then-has_predicate : goal.shape_of-x-then-has_predicate
shape_of-x-then-has_predicate c = c.split.auto.x

pub shape_of-y-then-has_predicate : goal.shape_of-y-then-has_predicate
shape_of-y-then-has_predicate c = c.split.auto.y

pub shape_of-z-then-has_predicate : goal.shape_of-z-then-has_predicate
shape_of-z-then-has_predicate c = c.split.auto.g ∙ c.into_nnf-k.auto.d

pub shape_of-w-then-has_predicate : goal.shape_of-w-then-has_predicate
shape_of-w-then-has_predicate c = c.distribute-end.auto.d

pub returns-then-has_predicate : goal.returns-then-has_predicate
returns-then-has_predicate c = let all = passes_below c.requires.pass_at c.split.auto.x (pass_split (is_known c.has_predicate.ensures c.if-has_predicate.true) c.own_start-m.ensures c.requires.z_len c.into_nnf-k.auto.d (where_it_stands refl _ c.into_nnf-k.ensures) c.if-z-k.false c.requires.w_len c.distribute-end.auto.d (where_it_stands (sym (own_front c.into_nnf-k.new.d c.into_nnf-k.result)) _ c.distribute-end.ensures) c.if-w-end.false c.split.auto.x c.split.ensures) in record { passes = all.0; passes_below = all.1 }

pub shape_of-x : goal.shape_of-x
shape_of-x c = refl

pub returns : goal.returns
returns c = let all = passes_below c.requires.pass_at refl (pass_same c.has_predicate.ensures c.if-has_predicate.false) in record { passes = all.0; passes_below = all.1 }

pub slice_bounds-predicate-count : goal.slice_bounds-predicate-count
slice_bounds-predicate-count c = let (h, k) = at_in (predicate_at c.own_start-m.ensures (is_known c.has_predicate.ensures c.if-has_predicate.true) (held_at c.requires.pass_at.held)) in omega arith

pub slice_bounds-predicate-start : goal.slice_bounds-predicate-start
slice_bounds-predicate-start c = let (h, k) = at_in (predicate_at c.own_start-m.ensures (is_known c.has_predicate.ensures c.if-has_predicate.true) (held_at c.requires.pass_at.held)) in omega arith

pub offset_bounds-x-m : goal.offset_bounds-x-m
offset_bounds-x-m c = let (h, k) = at_in (predicate_at c.own_start-m.ensures (is_known c.has_predicate.ensures c.if-has_predicate.true) (held_at c.requires.pass_at.held)) in omega (arith, c.requires.pass_at.short)
