-- What each function that copies and pushes has appended, from what its calls have.
use Prim.Native.Nat.{ℕ}
use native.Mathlib.Omega.{arith}
use mathlib.Core.Option.{Option, none, some}
use mathlib.Core.Path.{◌≡◌, sym, subst}
use mathlib.Core.List.{List, map}
use lib.ListN.{length}
use Rattle.sql.specs.Expression.{Expression, ands, and_vec, replace_column, shift_column_down}
use Rattle.sql.specs.Optimizer.{for_left, for_right, last_lookup, copied, flat_map, push_left, push_right}
use Rattle.cells.specs.Room.{Wrote}
use Rattle.words.specs.Words.{optional_words}
use Rattle.words.specs.Place.{ExpressionAt, Maps}
use Rattle.std.specs.Prelude as code
use Rattle.std.specs.Prelude.{Some, None}
use Rattle.conjuncts.specs.Conjuncts.{GatheredAt, Appends, Joins, AppendsEach, OptionalHere, OptionalAt}
use Rattle.conjuncts.proofs.Appending.{words_long, appends_none, appends_then, appends_one, appends_vec, gathered_more}
use Rattle.copied_lookups.specs.declared.Source.{Source}
use Rattle.copied_lookups.specs.declared.Place.{Place}
use Rattle.copied_lookups.specs.Copies.{Stands, FindsLast, conjuncts_of, copies, CopiesLast, CopiesEach, LeftAt, PushesLeft, RightAt, PushesRight}
use Rattle.copied_lookups.proofs.Lists.{moved_vec, pushed_left, pushed_right}

-- ---- the last lookup, copied

stands_at : {s : List ℕ} (p : Place) (o : Option Expression) → Stands s (Some p) o → ExpressionAt s p.start p.end
stands_at p none h = absurd h
stands_at p (some e) h = record { e = e; here = h }

module _ {s : List ℕ} {lo hi : ℕ} where
  none_there : (new : ℕ) {d : List ℕ} {from at : ℕ} (c to : ℕ) → lo ≡ hi → (o : Option Expression) → OptionalHere s lo hi o → Appends new d from at (copied c to (last_lookup c (conjuncts_of o))) at d
  none_there new c to h none u = appends_none new
  none_there new c to h (some e) u = absurd (omega (arith, u.part.high, words_long e))

  pub copies_nothing : (new : ℕ) {d : List ℕ} {from at : ℕ} (c to : ℕ) → lo ≡ hi → CopiesLast new c to s lo hi d from at at d
  copies_nothing new c to h o u = none_there new c to h o u

  module _ (h : lo ≡ hi → ⊥) where
    some_here : (o : Option Expression) → OptionalHere s lo hi o → ExpressionAt s lo hi
    some_here none u = absurd (h (omega (arith, u.part.high)))
    some_here (some e) u = record { e = e; here = record { part = u.part } }

    pub some_there : OptionalAt s lo hi → ExpressionAt s lo hi
    some_there t = some_here t.o t.here

    module _ (c : ℕ) {r : code.Option Place} (f : FindsLast c s lo hi r) where
      pub place_there : {p : Place} → r ≡ Some p → OptionalAt s lo hi → ExpressionAt s p.start p.end
      place_there {p} q t = let x = some_there t in stands_at p (last_lookup c (ands x.e)) (subst (λ (p : code.Option Place). Stands s p (last_lookup c (ands x.e))) q (f x.e x.here))

      copies_by : (new : ℕ) (q : code.Option Place) → r ≡ q → {d : List ℕ} {from at n : ℕ} {d' : List ℕ} (to : ℕ)
          → ((o : Option Expression) → Stands s q o → Appends new d from at (copied c to o) n d') → CopiesLast new c to s lo hi d from at n d'
      copies_by new q z to g none u = absurd (h (omega (arith, u.part.high)))
      copies_by new q z to g (some e) u = g (last_lookup c (ands e)) (subst (λ (p : code.Option Place). Stands s p (last_lookup c (ands e))) z (f e (record { part = u.part })))

      pub copies_missing : (new : ℕ) → r ≡ None → {d : List ℕ} {from at : ℕ} (to : ℕ) → CopiesLast new c to s lo hi d from at at d
      copies_missing new z {d} {from} {at} to = copies_by new None z to missing
        where
          missing : (o : Option Expression) → Stands s None o → Appends new d from at (copied c to o) at d
          missing none k = appends_none new
          missing (some e) k = absurd k

      pub copies_found : (new : ℕ) {p : Place} → r ≡ Some p → {d : List ℕ} {from at m n : ℕ} {d₁ d₂ : List ℕ} → length d₁ ≡ length d → (to : ℕ)
          → Maps (replace_column c to) s p.start p.end d at m d₁ → Joins new d₁ from at m n d₂ → CopiesLast new c to s lo hi d from at n d₂
      copies_found new {p} z {d} {from} {at} {n = n} {d₂ = d₂} k to v w = copies_by new (Some p) z to there
        where
          there : (o : Option Expression) → Stands s (Some p) o → Appends new d from at (copied c to o) n d₂
          there none y = absurd y
          there (some e) y = appends_one k new (replace_column c to e) (v e y) w

-- what the copies of the conjuncts before left, as the copy of the next one asks for it
pub copies_gathered : (new : ℕ) (into : Source) (n shift : ℕ) {s : List ℕ} {lo hi : ℕ} {g : List ℕ} {a b : ℕ} {d : List ℕ} {from at m : ℕ} {d₁ : List ℕ} → GatheredAt d from at
    → length d₁ ≡ length d → ExpressionAt s lo hi → OptionalAt g a b → CopiesEach new into n shift s lo hi g a b d from at m d₁ → GatheredAt d₁ from m
copies_gathered new into n shift v k t o f =
    gathered_more v k new (flat_map (copies into n shift (conjuncts_of o.o)) (ands t.e)) (f o.o o.here t.e t.here)

-- ---- what is pushed

module _ {new n : ℕ} {s : List ℕ} {lo hi : ℕ} {g : List ℕ} {a b : ℕ} where
  pub left_expression : LeftAt new n s lo hi g a b → ExpressionAt s lo hi
  left_expression t = record { e = t.e; here = t.here }

  pub left_others : LeftAt new n s lo hi g a b → OptionalAt g a b
  left_others t = record { o = and_vec new (for_right n (ands t.e)); here = t.others }

  pub right_expression : RightAt new n s lo hi g a b → ExpressionAt s lo hi
  right_expression t = record { e = t.e; here = t.here }

  pub right_others : RightAt new n s lo hi g a b → OptionalAt g a b
  right_others t = record { o = and_vec new (for_left n (ands t.e)); here = t.others }

module _ (new n : ℕ) {s : List ℕ} {lo hi : ℕ} {g : List ℕ} {a b : ℕ} {d : List ℕ} {at m j : ℕ} {d₁ d₂ : List ℕ} (k : length d₁ ≡ length d) where
  pub pushes_left : AppendsEach new (λ e. for_left n (ands e)) s lo hi d at at m d₁ → CopiesEach new Source.Left n 0 s lo hi g a b d₁ at m j d₂
      → PushesLeft new n s lo hi g a b d at j d₂
  pushes_left v w e u o = appends_vec new (push_left n (ands e)) (subst (λ (xs : List Expression). Appends new d at at xs j d₂) (pushed_left new n e)
      (appends_then k new (for_left n (ands e)) (flat_map (copies Source.Left n 0 (conjuncts_of (and_vec new (for_right n (ands e))))) (ands e)) (v e u) (w (and_vec new (for_right n (ands e))) o e u)))

  pub pushes_right : (shift : ℕ) → AppendsEach new (λ e. map (shift_column_down shift) (for_right n (ands e))) s lo hi d at at m d₁
      → CopiesEach new Source.Right n shift s lo hi g a b d₁ at m j d₂ → PushesRight new n shift s lo hi g a b d at j d₂
  pushes_right shift v w e u o = subst (λ (x : Option Expression). Wrote d at (optional_words x) j d₂) (sym (moved_vec new shift (push_right n (ands e))))
      (appends_vec new (map (shift_column_down shift) (push_right n (ands e))) (subst (λ (xs : List Expression). Appends new d at at xs j d₂) (pushed_right new n shift e)
      (appends_then k new (map (shift_column_down shift) (for_right n (ands e))) (flat_map (copies Source.Right n shift (conjuncts_of (and_vec new (for_left n (ands e))))) (ands e)) (v e u) (w (and_vec new (for_left n (ands e))) o e u))))
