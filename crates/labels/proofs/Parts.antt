-- The part with a given number, in a row of parts that other trees may follow.
use Prim.Native.Nat.{ℕ, zero, suc, ◌+◌, ◌-◌, ◌<◌}
use native.Mathlib.Omega.{arith}
use mathlib.Core.Path.{◌≡◌, refl, sym, ap, ◌∙◌, subst}
use mathlib.Core.List.{List, [], ◌∷◌, ◌++◌, append_assoc}
use lib.ListN.{length, length-append}
use Rattle.cells.specs.declared.Cell.{Cell}
use Rattle.cells.specs.Cells.{sized, Part}
use Rattle.cells.proofs.Laws.{part_left, part_right}
use Rattle.words.specs.Words.{all_words}
use Rattle.nodes.specs.Trees.{Trees, TreesAt, trees_start}
use Rattle.nodes.proofs.Trees.{append_all, all_trees, trees_start_is}

pub record Nth {A : Type 0} (xs : List A) (i : ℕ) : Type 0 where
  pub before : List A
  pub x : A
  pub after : List A
  pub is : xs ≡ before ++ (x ∷ after)
  pub at : length before ≡ i

pub nth : {A : Type 0} (xs : List A) (i : ℕ) → i < length xs → Nth xs i
nth [] i h = absurd (omega arith)
nth (x ∷ xs) zero h = record { before = []; x = x; after = xs; is = refl; at = refl }
nth (x ∷ xs) (suc i) h =
    let n = nth xs i (omega arith) in
    record { before = x ∷ n.before; x = n.x; after = n.after; is = ap (λ (l : List _). x ∷ l) n.is; at = ap suc n.at }

pub all_split : {A : Type 0} (f : A → List ℕ) (before : List A) (x : A) (after : List A) (w : List ℕ)
    → all_words f (before ++ (x ∷ after)) ++ w ≡ all_words f before ++ (f x ++ (all_words f after ++ w))
all_split f [] x after w = append_assoc (f x) (all_words f after) w
all_split f (y ∷ ys) x after w =
    append_assoc (f y) (all_words f (ys ++ (x ∷ after))) w
    ∙ ap (λ (l : List ℕ). f y ++ l) (all_split f ys x after w)
    ∙ sym (append_assoc (f y) (all_words f ys) (f x ++ (all_words f after ++ w)))

-- Part number i of xs ends before word `end`.
pub record NthPart {A : Type 0} (f : A → List ℕ) (s : List ℕ) (xs : List A) (i end : ℕ) : Type 0 where
  pub one : Nth xs i
  pub lo : ℕ
  pub part : Part s lo end (f one.x)

module _ {A : Type 0} (f : A → List ℕ) (children : A → List ℕ) (k : A → Cell) (h : (x : A) → f x ≡ sized (children x) (k x)) where
  module _ {s : List ℕ} {lo hi n : ℕ} {w : List ℕ} (t : Trees n w) (xs : List A) (p : Part s lo hi (all_words f xs ++ w)) where
    pub all_at : TreesAt s (length xs + n) hi
    all_at = record { lo = lo; w = all_words f xs ++ w; trees = append_all (all_trees f children k h xs) t; part = p }

    module _ (i : ℕ) (g : i < length xs) where
      one : Nth xs i
      one = nth xs i g

      part_of : Part s lo hi (all_words f one.before ++ (f one.x ++ (all_words f one.after ++ w)))
      part_of =
          subst (λ (v : List ℕ). Part s lo hi v)
          (ap (λ (l : List A). all_words f l ++ w) one.is ∙ all_split f one.before one.x one.after w) p

      start : ℕ
      start = lo + length (all_words f one.before)

      from_it : Part s start hi (f one.x ++ (all_words f one.after ++ w))
      unfolding start
      from_it = part_right (all_words f one.before) (f one.x ++ (all_words f one.after ++ w)) part_of

      behind : Part s (start + length (f one.x)) hi (all_words f one.after ++ w)
      behind = part_right (f one.x) (all_words f one.after ++ w) from_it

      trees_behind : Trees (length one.after + n) (all_words f one.after ++ w)
      trees_behind = append_all (all_trees f children k h one.after) t

      count_behind : length one.after + n ≡ length xs - 1 - i + n
      count_behind = omega (arith, ap length one.is, length-append one.before (one.x ∷ one.after), one.at)

      -- what stands behind it
      pub behind_at : TreesAt s (length xs - 1 - i + n) hi
      behind_at =
          record {
            lo = start + length (f one.x);
            w = all_words f one.after ++ w;
            trees = subst (λ (m : ℕ). Trees m (all_words f one.after ++ w)) count_behind trees_behind;
            part = behind;
          }

      pub nth_part : {end : ℕ} → end ≡ trees_start s (length xs - 1 - i + n) hi → NthPart f s xs i end
      nth_part {end} e =
          let q : start + length (f one.x) ≡ end =
          sym (e ∙ ap (λ (m : ℕ). trees_start s m hi) (sym count_behind) ∙ trees_start_is trees_behind behind) in
          record {
            one = one;
            lo = start;
            part = subst (λ (m : ℕ). Part s start m (f one.x)) q (part_left (f one.x) (all_words f one.after ++ w) from_it);
          }
