-- Laws on what is appended, and on what stays where something is appended after it.
use Rattle.std.specs.Prelude.{Ok, Err}
use Prim.Native.Nat.{ℕ, ◌+◌, ◌≤◌}
use native.Mathlib.Omega.{arith}
use mathlib.Core.Path.{◌≡◌, refl, sym, ap, ◌∙◌}
use mathlib.Core.List.{List, ◌++◌, append_assoc}
use lib.ListN.{length, take, drop, length-append, take-append-drop}
use lib.Seq.{take_at, length-take-le}
use Rattle.sql.specs.Expression.{Expression}
use Rattle.sql.specs.Answer.{Answer, done, refused, ◌>>=◌}
use Rattle.cells.specs.Cells.{Part}
use Rattle.cells.specs.Room.{Short, Wrote}
use Rattle.cells.proofs.Laws.{fits, part_in}
use Rattle.words.specs.Words.{expression_words}
use Rattle.words.specs.Place.{ExpressionHere}
use Rattle.fold_operator.specs.declared.Failure.{Failure}
use Rattle.fold_operator.specs.Left.{Appended, Left, Leaves, Folded}

-- ---- a part as something that was appended

module _ {d : List ℕ} {at n : ℕ} {w : List ℕ} (p : Part d at n w) where
  part_take : take n d ≡ p.before ++ w
  part_take = rw (p.whole ∙ sym (append_assoc p.before w p.after))
      (take_at (p.before ++ w) p.after n (omega (arith, length-append p.before w, p.low, p.high)))

  part_before : take at d ≡ p.before
  part_before = rw p.whole (take_at p.before (w ++ p.after) at p.low)

  pub part_appended : Appended d at w n d
  part_appended = record { ends = sym p.high; kept = part_take ∙ ap (λ (l : List ℕ). l ++ w) (sym part_before) }

  -- It stays where the first n words stay.
  pub part_kept : {d' : List ℕ} → take n d' ≡ take n d → Part d' at n w
  part_kept {d'} k = record {
    before = p.before;
    after = drop n d';
    whole = sym (take-append-drop n d') ∙ (ap (λ (l : List ℕ). l ++ drop n d') (k ∙ part_take) ∙ append_assoc p.before w (drop n d'));
    low = p.low;
    high = p.high;
  }

module _ {d : List ℕ} {at n : ℕ} {w d' : List ℕ} where
  pub appended : Wrote d at w n d' → Short d → at + length w ≤ length d → Appended d at w n d'
  appended a s h = let (e, k) = fits a s h in record { ends = e; kept = k }

  pub wrote : Appended d at w n d' → at + length w ≤ length d → Wrote d at w n d'
  wrote a h = record { is = λ _. (a.ends, a.kept); room = λ _ z. omega (arith, a.ends) }

  module _ (a : Appended d at w n d') (h : at ≤ length d) where
    pub appended_part : Part d' at n w
    appended_part = record {
      before = take at d;
      after = drop n d';
      whole = sym (take-append-drop n d') ∙ (ap (λ (l : List ℕ). l ++ drop n d') a.kept ∙ append_assoc (take at d) w (drop n d'));
      low = length-take-le at d h;
      high = sym a.ends;
    }

    -- What stood before is still there.
    pub before_stays : take at d' ≡ take at d
    unfolding appended_part
    before_stays = part_before appended_part

-- ---- the same of expressions

pub here_in : {d : List ℕ} {at n : ℕ} (e : Expression) → ExpressionHere d at n e → (at ≤ n) × (n ≤ length d)
here_in e u = part_in u.part

pub here_wrote : {d : List ℕ} {at n : ℕ} (e : Expression) → ExpressionHere d at n e → Wrote d at (expression_words e) n d
here_wrote e u = let (h, k) = here_in e u in let a = part_appended u.part in wrote a (omega (arith, a.ends))

pub here_kept : {d d' : List ℕ} {at n : ℕ} (e : Expression) → take n d' ≡ take n d → ExpressionHere d at n e → ExpressionHere d' at n e
here_kept e k u = record { part = part_kept u.part k }

-- ---- answers

-- only the first `at` words matter
pub leaves_moved : {d d₁ : List ℕ} {at : ℕ} {a : Answer Expression} {r : Folded} {d' : List ℕ} → take at d₁ ≡ take at d → Leaves d₁ at a r d' → Leaves d at a r d'
leaves_moved {d} {d₁} {at} {a} {r} {d'} e h = record { left = go a r h.left }
  where
    go : (a : Answer Expression) (r : Folded) → Left d₁ at a r d' → Left d at a r d'
    go (done y) (Ok n) h = record { ends = h.ends; kept = h.kept ∙ ap (λ (l : List ℕ). l ++ expression_words y) e }
    go (done y) (Err why) h = h
    go (refused k p) (Ok n) h = h
    go (refused k p) (Err why) h = h

-- A refusal is handed on.
pub leaves_refused : {d₁ d : List ℕ} {at₁ at : ℕ} {why : Failure} {d₂ d' : List ℕ} (a : Answer Expression) (f : Expression → Answer Expression)
    → Leaves d₁ at₁ a (Err why) d₂ → Leaves d at (a >>= f) (Err why) d'
leaves_refused (done y) f h = absurd h.left
leaves_refused (refused k p) f h = record { left = h.left }

-- What is done is gone on with.
pub leaves_done : {d₁ d : List ℕ} {at₁ at m : ℕ} {r : Folded} {d₂ d' : List ℕ} (a : Answer Expression) (f : Expression → Answer Expression)
    → Leaves d₁ at₁ a (Ok m) d₂ → ((y : Expression) → a ≡ done y → Appended d₁ at₁ (expression_words y) m d₂ → Leaves d at (f y) r d')
    → Leaves d at (a >>= f) r d'
leaves_done (done y) f h k = k y refl h.left
leaves_done (refused j p) f h k = absurd h.left

-- the answer is known
pub leaves_as : {d : List ℕ} {at : ℕ} {a b : Answer Expression} {r : Folded} {d' : List ℕ} → a ≡ b → Leaves d at b r d' → Leaves d at a r d'
leaves_as e h = rw e h

pub leaves_words : {d : List ℕ} {at n : ℕ} {y : Expression} {d' : List ℕ} → Appended d at (expression_words y) n d' → Leaves d at (done y) (Ok n) d'
leaves_words a = record { left = a }
