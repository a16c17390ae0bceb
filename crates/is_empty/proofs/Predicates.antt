-- Laws on predicates that are never true.
use Prim.Native.Nat.{ℕ}
use native.Mathlib.Omega.{arith}
use mathlib.Core.Bool.{Bool, false}
use mathlib.Core.Path.{◌≡◌, refl, ap, ◌∙◌}
use mathlib.Core.List.{List}
use mathlib.Core.Option.{none, some}
use lib.Dec.{eqb}
use borrow.Author.Tests.{ne_eqb}
use Rattle.value.specs.Value.{False, Unknown, True, integer, float, string, truth, datum}
use Rattle.sql.specs.Expression.{origin, Expression, constant, column, unary, binary}
use Rattle.sql.specs.Optimizer.{verdict, is_never}
use Rattle.cells.specs.declared.Cell.{Cell}
use Rattle.cells.specs.Cells.{cell_at}
use Rattle.words.specs.Words.{cell, root}
use Rattle.words.proofs.Expressions.{root_is, here_in, unary_range, binary_range}
use Rattle.is_empty.specs.IsEmpty.{NeverTrue, OptionalNever}

module _ {s : List ℕ} {hi : ℕ} {c : Cell} (q : c ≡ cell_at s hi) where
  pub boolean_never : c.tag ≡ 2 → NeverTrue s hi (eqb c.a 0)
  unfolding cell
  boolean_never z lo e p = go e (q ∙ root_is e (record { part = p }))
    where
      go : (e : Expression) → c ≡ cell (origin e) (root e) → eqb c.a 0 ≡ is_never (verdict e)
      go (constant og (truth True)) k = ap (λ (x : Cell). eqb x.a 0) k
      go (constant og (truth False)) k = ap (λ (x : Cell). eqb x.a 0) k
      go (constant og (truth Unknown)) k = absurd (omega (arith, z, ap (λ (x : Cell). x.tag) k))
      go (constant og (datum (integer n))) k = absurd (omega (arith, z, ap (λ (x : Cell). x.tag) k))
      go (constant og (datum (float b))) k = absurd (omega (arith, z, ap (λ (x : Cell). x.tag) k))
      go (constant og (datum (string r t))) k = absurd (omega (arith, z, ap (λ (x : Cell). x.tag) k))
      go (column og i) k = absurd (omega (arith, z, ap (λ (x : Cell). x.tag) k))
      go (unary og o x) k = absurd (omega (arith, z, ap (λ (x : Cell). x.tag) k, unary_range o))
      go (binary og o l r) k = absurd (omega (arith, z, ap (λ (x : Cell). x.tag) k, (binary_range o).0))

  pub other_never : (c.tag ≡ 2 → ⊥) → NeverTrue s hi (eqb c.tag 1)
  unfolding cell
  other_never z lo e p = go e (q ∙ root_is e (record { part = p }))
    where
      go : (e : Expression) → c ≡ cell (origin e) (root e) → eqb c.tag 1 ≡ is_never (verdict e)
      go (constant og (truth True)) k = absurd (z (ap (λ (x : Cell). x.tag) k))
      go (constant og (truth False)) k = absurd (z (ap (λ (x : Cell). x.tag) k))
      go (constant og (truth Unknown)) k = ap (λ (x : Cell). eqb x.tag 1) k
      go (constant og (datum (integer n))) k = ap (λ (x : Cell). eqb x.tag 1) k
      go (constant og (datum (float b))) k = ap (λ (x : Cell). eqb x.tag 1) k
      go (constant og (datum (string r t))) k = ap (λ (x : Cell). eqb x.tag 1) k
      go (column og i) k = ap (λ (x : Cell). eqb x.tag 1) k
      go (unary og o x) k = let e = ap (λ (x : Cell). x.tag) k in ne_eqb c.tag 1 (λ h. omega (arith, unary_range o))
      go (binary og o l r) k = let e = ap (λ (x : Cell). x.tag) k in ne_eqb c.tag 1 (λ h. omega (arith, (binary_range o).0))

module _ {s : List ℕ} {lo hi : ℕ} where
  pub absent_never : lo ≡ hi → OptionalNever s lo hi false
  absent_never z none p = refl
  absent_never z (some e) p = absurd (let (h, k) = here_in {lo = lo} {hi = hi} e (record { part = p }) in omega arith)

  pub present_never : (lo ≡ hi → ⊥) → (r : Bool) → NeverTrue s hi r → OptionalNever s lo hi r
  present_never z r f none p = absurd (z (omega (arith, p.high)))
  present_never z r f (some e) p = f lo e p
