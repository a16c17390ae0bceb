-- Laws on predicates that are always true.
use Prim.Native.Nat.{ℕ}
use native.Mathlib.Omega.{arith}
use mathlib.Core.Bool.{Bool, false}
use mathlib.Core.Path.{◌≡◌, refl, ap, ◌∙◌}
use mathlib.Core.List.{List}
use mathlib.Core.Option.{Option, none, some}
use lib.Dec.{eqb}
use Rattle.value.specs.Value.{False, Unknown, True, integer, float, string, truth, datum}
use Rattle.sql.specs.Expression.{origin, Expression, constant, column, unary, binary}
use Rattle.sql.specs.Optimizer.{verdict, is_always}
use Rattle.cells.specs.declared.Cell.{Cell}
use Rattle.cells.specs.Cells.{cell_at, Part}
use Rattle.words.specs.Words.{cell, root}
use Rattle.words.proofs.Expressions.{root_is, here_in, unary_range, binary_range}
use Rattle.labels.specs.Labels.{ExpressionEnds}
use Rattle.remove_useless.specs.RemoveUseless.{AlwaysTrue, OptionalAt, OptionalTrue}

module _ {s : List ℕ} {hi : ℕ} {c : Cell} (q : c ≡ cell_at s hi) where
  pub boolean_always : c.tag ≡ 2 → AlwaysTrue s hi (eqb c.a 1)
  unfolding cell
  boolean_always z lo e p = go e (q ∙ root_is e (record { part = p }))
    where
      go : (e : Expression) → c ≡ cell (origin e) (root e) → eqb c.a 1 ≡ is_always (verdict e)
      go (constant og (truth True)) k = ap (λ (x : Cell). eqb x.a 1) k
      go (constant og (truth False)) k = ap (λ (x : Cell). eqb x.a 1) k
      go (constant og (truth Unknown)) k = absurd (omega (arith, z, ap (λ (x : Cell). x.tag) k))
      go (constant og (datum (integer n))) k = absurd (omega (arith, z, ap (λ (x : Cell). x.tag) k))
      go (constant og (datum (float b))) k = absurd (omega (arith, z, ap (λ (x : Cell). x.tag) k))
      go (constant og (datum (string r t))) k = absurd (omega (arith, z, ap (λ (x : Cell). x.tag) k))
      go (column og i) k = absurd (omega (arith, z, ap (λ (x : Cell). x.tag) k))
      go (unary og o x) k = absurd (omega (arith, z, ap (λ (x : Cell). x.tag) k, unary_range o))
      go (binary og o l r) k = absurd (omega (arith, z, ap (λ (x : Cell). x.tag) k, (binary_range o).0))

  pub other_always : (c.tag ≡ 2 → ⊥) → AlwaysTrue s hi false
  unfolding cell
  other_always z lo e p = go e (q ∙ root_is e (record { part = p }))
    where
      go : (e : Expression) → c ≡ cell (origin e) (root e) → false ≡ is_always (verdict e)
      go (constant og (truth True)) k = absurd (z (ap (λ (x : Cell). x.tag) k))
      go (constant og (truth False)) k = refl
      go (constant og (truth Unknown)) k = refl
      go (constant og (datum d)) k = refl
      go (column og i) k = refl
      go (unary og o x) k = refl
      go (binary og o l r) k = refl

module _ {s : List ℕ} {lo hi : ℕ} where
  pub absent_always : lo ≡ hi → OptionalTrue s lo hi false
  absent_always z none p = refl
  absent_always z (some e) p = absurd (let (h, k) = here_in {lo = lo} {hi = hi} e (record { part = p }) in omega arith)

  pub present_ends : (lo ≡ hi → ⊥) → OptionalAt s lo hi → ExpressionEnds s hi
  present_ends z t = go t.predicate t.part
    where
      go : (o : Option Expression) → Part s lo hi (Rattle.words.specs.Words.optional_words o) → ExpressionEnds s hi
      go none p = absurd (z (omega (arith, p.high)))
      go (some e) p = record { lo = lo; e = e; part = p }

  pub present_always : (lo ≡ hi → ⊥) → (r : Bool) → AlwaysTrue s hi r → OptionalTrue s lo hi r
  present_always z r f none p = absurd (z (omega (arith, p.high)))
  present_always z r f (some e) p = f lo e p
