-- Laws on conjuncts that are appended to a slice.
use Prim.Native.Nat.{ℕ, ◌+◌, ◌≤◌, ◌<◌}
use native.Mathlib.Omega.{arith}
use mathlib.Core.Option.{Option, none, some}
use mathlib.Core.Path.{◌≡◌, refl, sym, ap, ◌∙◌, subst}
use mathlib.Core.List.{List, [], ◌∷◌, ◌++◌, append_assoc}
use lib.ListN.{length, take, drop, length-append, take-append-drop}
use lib.Seq.{length-take-le}
use Rattle.sql.specs.Expression.{origin, Expression, and, shift_column_down, and_vec}
use Rattle.cells.specs.Cells.{cell_words, words, Part}
use Rattle.cells.specs.Room.{Wrote, Seals, Copies}
use Rattle.cells.proofs.Laws.{then, nothing, wrote_up, no_more}
use Rattle.words.specs.Words.{cell, root, expression_words, operand_words, optional_words}
use Rattle.words.specs.Place.{ExpressionAt, Maps}
use Rattle.words.proofs.Expressions.{shape}
use Rattle.words.proofs.Writing.{plain}
use Rattle.conjuncts.specs.Conjuncts.{and_then, and_onto, GatheredAt, Appends, JoinableAt, Joins, AppendsEach, OptionalHere}
use Rattle.conjuncts.proofs.Lists.{onto_append, onto_none, shift_none}

pub words_long : (e : Expression) → cell_words ≤ length (expression_words e)
words_long e = omega (arith, ap length (shape e), length-append (operand_words e) (words (cell (origin e) (root e)) (length (operand_words e) + cell_words)))

and_then_grows : (new : ℕ) (acc : Option Expression) (x : Expression) → length (optional_words acc) ≤ length (optional_words (and_then new acc x))
unfolding expression_words
and_then_grows new none x = omega arith
and_then_grows new (some a) x =
    omega (arith, length-append (expression_words a ++ expression_words x) (words (cell new (root (and new a x))) (length (expression_words a ++ expression_words x) + cell_words)), length-append (expression_words a) (expression_words x))

-- ---- one more conjunct

module _ (new : ℕ) {d : List ℕ} {from at m : ℕ} where
  pub join_full : length d < at → Joins new d from at m at d
  join_full h d₀ d₁ acc x l k v w = no_more (omega arith) (and_then_grows new acc x) v

  module _ (fits : at ≤ length d) where
    pub join_first : at ≡ from → Joins new d from at m m d
    join_first i d₀ d₁ none x l k v w = then l v w
    join_first i d₀ d₁ (some a) x l k v w = absurd (omega (arith, wrote_up v (omega arith), words_long a))

    pub join_next : (at ≡ from → ⊥) → {n : ℕ} {d' : List ℕ} → Seals d from m (plain new 10) n d' → Joins new d from at m n d'
    unfolding expression_words cell
    join_next i sl d₀ d₁ none x l k v w = absurd (i (omega (arith, wrote_up v (omega arith))))
    join_next i sl d₀ d₁ (some a) x l k v w = sl d₀ (expression_words a ++ expression_words x) (k ∙ l) (then l v w)

module _ {d : List ℕ} {from at : ℕ} where
  pub appends_none : (new : ℕ) → Appends new d from at [] at d
  appends_none new d₀ acc l w = w

  module _ {m n : ℕ} {d₁ d₂ : List ℕ} (k : length d₁ ≡ length d) where
    pub appends_then : (new : ℕ) (xs ys : List Expression) → Appends new d from at xs m d₁ → Appends new d₁ from m ys n d₂ → Appends new d from at (xs ++ ys) n d₂
    appends_then new xs ys f g d₀ acc l w = rw (onto_append new acc xs ys) (g d₀ (and_onto new acc xs) (k ∙ l) (f d₀ acc l w))

    pub appends_one : (new : ℕ) (x : Expression) → Wrote d at (expression_words x) m d₁ → Joins new d₁ from at m n d₂ → Appends new d from at (x ∷ []) n d₂
    appends_one new x w j d₀ acc l v = j d₀ d acc x l k v w

    pub appends_mapped : (new : ℕ) (f : Expression → Expression) {s : List ℕ} {lo hi : ℕ} → Maps f s lo hi d at m d₁ → Joins new d₁ from at m n d₂
        → AppendsEach new (λ e. f e ∷ []) s lo hi d from at n d₂
    appends_mapped new f g j e u = appends_one new (f e) (g e u) j

-- Conjuncts appended where none stood are and_vec of them.
pub appends_vec : (new : ℕ) {d : List ℕ} {at : ℕ} (xs : List Expression) {n : ℕ} {d' : List ℕ} → Appends new d at at xs n d' → Wrote d at (optional_words (and_vec new xs)) n d'
appends_vec new {d} {at} xs {n} {d'} f = subst (λ (o : Option Expression). Wrote d at (optional_words o) n d') (onto_none new xs) (f d none refl (nothing d at))

-- ---- what the functions ask for

-- none yet
pub gathered_none : (d : List ℕ) (at : ℕ) → GatheredAt d at at
gathered_none d at = record { d₀ = d; acc = none; same = refl; wrote = nothing d at }

module _ {d : List ℕ} {from at m : ℕ} {d₁ : List ℕ} (g : GatheredAt d from at) (k : length d₁ ≡ length d) where
  pub gathered_more : (new : ℕ) (xs : List Expression) → Appends new d from at xs m d₁ → GatheredAt d₁ from m
  gathered_more new xs f = record { d₀ = g.d₀; acc = and_onto new g.acc xs; same = k ∙ g.same; wrote = f g.d₀ g.acc g.same g.wrote }

  pub joinable : (x : Expression) → Wrote d at (expression_words x) m d₁ → JoinableAt d₁ from at m
  joinable x w = record { d₁ = d; gathered = g; x = x; same = k; wrote = w }

  module _ {s : List ℕ} {lo hi : ℕ} (t : ExpressionAt s lo hi) where
    pub gathered_each : (new : ℕ) (f : Expression → List Expression) → AppendsEach new f s lo hi d from at m d₁ → GatheredAt d₁ from m
    gathered_each new f a = gathered_more new (f t.e) (a t.e t.here)

    pub joinable_mapped : (f : Expression → Expression) → Maps f s lo hi d at m d₁ → JoinableAt d₁ from at m
    joinable_mapped f a = joinable (f t.e) (a t.e t.here)

-- ---- a copy, and a move

pub copied_down : {s : List ℕ} {lo hi : ℕ} {d : List ℕ} {at n : ℕ} {d' : List ℕ} (k : ℕ) → k ≡ 0 → Copies s lo hi d at n d' → Maps (shift_column_down k) s lo hi d at n d'
copied_down {d} {at} {n} {d'} k h f e u = subst (λ (j : ℕ). Wrote d at (expression_words (shift_column_down j e)) n d') (sym h)
    (subst (λ (x : Expression). Wrote d at (expression_words x) n d') (sym (shift_none e)) (f (expression_words e) u.part))

-- ---- what was written and had room stands there

pub written_part : {d : List ℕ} {at : ℕ} {w : List ℕ} {n : ℕ} {d' : List ℕ} → Wrote d at w n d' → n ≤ length d → Part d' at n w
written_part {d} {at} {w} {n} {d'} f h =
    let e = wrote_up f h in
    let (_, t) = f.is h in
    record {
      before = take at d;
      after = drop n d';
      whole = sym (take-append-drop n d') ∙ (ap (λ (l : List ℕ). l ++ drop n d') t ∙ append_assoc (take at d) w (drop n d'));
      low = length-take-le at d (omega arith);
      high = sym e;
    }

pub written_conjuncts : {d : List ℕ} {at : ℕ} (o : Option Expression) {n : ℕ} {d' : List ℕ} → Wrote d at (optional_words o) n d' → n ≤ length d → OptionalHere d' at n o
written_conjuncts o f h = record { part = written_part f h }
