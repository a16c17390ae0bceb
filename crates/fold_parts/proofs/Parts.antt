-- What folding parts leaves, from what the calls leave.
use Rattle.std.specs.Prelude.{Ok, Err}
use Prim.Native.Nat.{ℕ, ◌+◌, ◌-◌, ◌*◌, ◌≤◌, ◌<◌}
use native.Mathlib.Omega.{arith}
use mathlib.Core.Path.{◌≡◌, refl, sym, ap, ◌∙◌, subst}
use mathlib.Core.List.{List, [], ◌∷◌, ◌++◌, map}
use lib.ListN.{length, length-append}
use Rattle.sql.specs.Expression.{origin, IsNull, IsNaN, Identity, Negate, SquareRoot, Not, function, Expression, constant, column, unary, binary, size}
use Rattle.sql.specs.Plan.{sum}
use Rattle.sql.specs.Answer.{Answer, done, refused, ◌>>=◌}
use Rattle.sql.specs.Optimizer.{fold_expression, fold_each}
use Rattle.sheet.specs.Content.{Content}
use Rattle.sheet_laws.specs.Fits.{All}
use Rattle.cells.specs.declared.Cell.{Cell}
use Rattle.cells.specs.Cells.{cell_words, sized, cell_at, tag_at, start_at, Part, Sized}
use Rattle.cells.specs.Room.{Short, Seals}
use Rattle.cells.proofs.Laws.{part_left, part_right, part_in, body_part, cell_in, tag_is, start_is, has_size, seam}
use Rattle.cells.proofs.Laws as cells
use Rattle.words.specs.Words.{cell, root, expression_words, operand_words, all_words}
use Rattle.words.proofs.Expressions.{tag, tag_cell, shape, constant_tag, binary_range}
use Rattle.words.proofs.Sizes.{sized_long, expression_long}
use Rattle.fold_operator.specs.declared.Failure.{Failure}
use Rattle.fold_operator.specs.Left.{ConstantsFit, Appended, Folded}
use Rattle.fold_operator.specs.Left as expression
use Rattle.fold_operator.proofs.Parts.{appended, wrote}
use Rattle.folding.specs.Folding.{Foldable, FoldableAt, Folds}
use Rattle.folding.proofs.Recursion.{result_at}
use Rattle.fold_parts.specs.Leaves.{Left, Leaves, Bounded, UpTo}
use Rattle.fold_parts.specs.Parts.{OwnPart, alone, under, part_words, part_size, fold_own_part, fold_own_parts, PartFits, Numbers, PartsHere, PartsAt, FoldsParts, PartHere, PartAt, FoldsPart}
use Rattle.fold_parts.proofs.Leaves.{appended_none, answer_as, said_as, up_to_as, up_to_more, refused_on, done_on, made_into, made_of, one_behind}
use Rattle.fold_parts.proofs.Each.{last_of, all_those, all_last, words_last, words_long, words_of_map, each_last, each_made}

-- ---- a part's words

abbrev part_root : OwnPart → Content
part_root (alone e) = root e
part_root (under og es k) = k

abbrev part_origin : OwnPart → ℕ
part_origin (alone e) = origin e
part_origin (under og es k) = og

abbrev below : OwnPart → List ℕ
below (alone e) = operand_words e
below (under og es k) = all_words expression_words es

part_shape : (p : OwnPart) → part_words p ≡ sized (below p) (cell (part_origin p) (part_root p))
part_shape (alone e) = shape e
part_shape (under og es k) = refl

pub part_long : (p : OwnPart) → length (part_words p) ≡ cell_words * part_size p
part_long (alone e) = expression_long e
part_long (under og es k) = omega (arith, sized_long (all_words expression_words es) (cell og k), words_long expression_words size expression_long es)

pub parts_long : (ps : List OwnPart) → length (all_words part_words ps) ≡ cell_words * sum part_size ps
parts_long ps = words_long part_words part_size part_long ps

module _ {s : List ℕ} {lo hi : ℕ} (p : OwnPart) (u : Part s lo hi (part_words p)) where
  shaped : Part s lo hi (sized (below p) (cell (part_origin p) (part_root p)))
  shaped = subst (λ (w : List ℕ). Part s lo hi w) (part_shape p) u

  pub stands_in : (lo + cell_words ≤ hi) × (hi ≤ length s)
  stands_in = cell_in (below p) (cell (part_origin p) (part_root p)) shaped

  stands_tag : tag_at s hi ≡ tag (part_root p)
  stands_tag = tag_is (below p) (cell (part_origin p) (part_root p)) shaped ∙ tag_cell (part_origin p) (part_root p)

  stands_cell : cell_at s hi ≡ cell (part_origin p) (part_root p)
  stands_cell = cells.cell_is (below p) (cell (part_origin p) (part_root p)) shaped

  stands_from : start_at s hi ≡ lo
  stands_from = start_is (below p) (cell (part_origin p) (part_root p)) shaped

  stands_sized : Sized s hi
  stands_sized = has_size (below p) (cell (part_origin p) (part_root p)) shaped

-- ---- the last part, and those before it

module _ {text s : List ℕ} {lo hi : ℕ} where
  module _ (ps : List OwnPart) (p : OwnPart) (u : PartsHere text s lo hi (ps ++ (p ∷ []))) where
    both : Part s lo hi (all_words part_words ps ++ part_words p)
    both = subst (λ (w : List ℕ). Part s lo hi w) (words_last part_words ps p) u.stand

    last_raw : Part s (lo + length (all_words part_words ps)) hi (part_words p)
    last_raw = part_right (all_words part_words ps) (part_words p) both

    last_sized : Sized s hi
    last_sized = stands_sized p last_raw

    module _ {mid : ℕ} (st : mid ≡ start_at s hi) where
      mid_is : lo + length (all_words part_words ps) ≡ mid
      mid_is = sym (stands_from p last_raw) ∙ sym st

      those_here : PartsHere text s lo mid ps
      those_here = record { stand = subst (λ (n : ℕ). Part s lo n (all_words part_words ps)) mid_is (part_left (all_words part_words ps) (part_words p) both); fit = all_those (PartFits text) ps p u.fit }

      last_here : PartHere text s mid hi p
      last_here = record { stand = subst (λ (n : ℕ). Part s n hi (part_words p)) mid_is last_raw; fit = all_last (PartFits text) ps p u.fit }

      mid_number : (first : ℕ) → lo ≡ cell_words * first → mid ≡ cell_words * (first + sum part_size ps)
      mid_number first e = omega (arith, mid_is, parts_long ps)

  -- Something that follows for every list with a last part, for one that isn't empty.
  by_last : (Q : List OwnPart → Type 0) → ((ps : List OwnPart) (p : OwnPart) → PartsHere text s lo hi (ps ++ (p ∷ [])) → Q (ps ++ (p ∷ [])))
      → lo < hi → (ps : List OwnPart) → PartsHere text s lo hi ps → Q ps
  by_last Q f h [] u = absurd (omega (arith, u.stand.high))
  by_last Q f h (q ∷ qs) u =
      let l = last_of q qs in
      subst Q (sym l.is) (f l.those l.last (subst (λ (ps : List OwnPart). PartsHere text s lo hi ps) l.is u))

  pub parts_in : PartsAt text s lo hi → (lo ≤ hi) × (hi ≤ length s)
  parts_in t = part_in t.here.stand

  module _ (h : lo < hi) where
    pub last_size : PartsAt text s lo hi → Sized s hi
    last_size t = by_last (λ ps. Sized s hi) last_sized h t.ps t.here

    module _ {mid : ℕ} (st : mid ≡ start_at s hi) where
      pub those_at : PartsAt text s lo hi → PartsAt text s lo mid
      those_at t = by_last (λ ps. PartsAt text s lo mid) (λ ps p u. record { ps = ps; here = those_here ps p u st; first = t.first; numbered = t.numbered; short = t.short }) h t.ps t.here

      pub last_at : PartsAt text s lo hi → PartAt text s mid hi
      last_at t = by_last (λ ps. PartAt text s mid hi)
          (λ ps p u. record { p = p; here = last_here ps p u st; first = t.first + sum part_size ps; numbered = mid_number ps p u st t.first t.numbered; short = t.short }) h t.ps t.here

-- ---- fold_parts

pub parts_bound : {text s : List ℕ} {lo hi : ℕ} {d : List ℕ} {at : ℕ} {q : Folded} {d' : List ℕ} {m : ℕ} → q ≡ Ok m → FoldsParts text s lo hi d at q d' → m ≤ at + (hi - lo)
parts_bound e g = (up_to_as e g.within).ends

module _ {text s : List ℕ} {lo hi : ℕ} {d : List ℕ} {at : ℕ} where
  pub parts_none : hi ≤ lo → FoldsParts text s lo hi d at (Ok at) d
  parts_none h = record { leaves = go; within = record { ends = omega arith } }
    where
      go : (first : ℕ) (ps : List OwnPart) → lo ≡ cell_words * first → PartsHere text s lo hi ps → Leaves (all_words part_words) d at (fold_own_parts first ps) (Ok at) d
      go first [] e u = record { left = appended_none d at }
      go first (p ∷ ps) e u =
          absurd (omega (arith, u.stand.high, length-append (part_words p) (all_words part_words ps), ap length (part_shape p), sized_long (below p) (cell (part_origin p) (part_root p))))

  module _ (h : lo < hi) {mid : ℕ} (st : mid ≡ start_at s hi) {d₁ : List ℕ} {q : Folded} (g : FoldsParts text s lo mid d at q d₁) where
    pub parts_refused : {why : Failure} → q ≡ Err why → FoldsParts text s lo hi d at (Err why) d₁
    parts_refused {why} e = record {
      leaves = λ first ps n u. by_last (λ ps. Leaves (all_words part_words) d at (fold_own_parts first ps) (Err why) d₁)
          (λ ps x v. answer_as (sym (each_last fold_own_part part_size ps x first))
          (refused_on (fold_own_parts first ps) (λ ys. fold_own_part (first + sum part_size ps) x >>= λ y. done (ys ++ (y ∷ []))) (said_as e (g.leaves first ps n (those_here ps x v st)))))
          h ps u;
      within = record { ends = tt };
    }

    pub parts_done : {m : ℕ} {r : Folded} {d₂ : List ℕ} → q ≡ Ok m → lo ≤ mid → mid ≤ hi → FoldsPart text s mid hi d₁ m r d₂ → FoldsParts text s lo hi d at r d₂
    parts_done {m} {r} {d₂} e i j f = record {
      leaves = λ first ps n u. by_last (λ ps. Leaves (all_words part_words) d at (fold_own_parts first ps) r d₂)
          (λ ps x v. answer_as (sym (each_last fold_own_part part_size ps x first))
          (done_on (fold_own_parts first ps) (λ ys. fold_own_part (first + sum part_size ps) x >>= λ y. done (ys ++ (y ∷ []))) (said_as e (g.leaves first ps n (those_here ps x v st)))
          (λ ys k a. one_behind (fold_own_part (first + sum part_size ps) x) (λ y. ys ++ (y ∷ [])) (λ y. sym (words_last part_words ys y)) a
          (f.leaves (first + sum part_size ps) x (mid_number ps x v st first n) (last_here ps x v st)))))
          h ps u;
      within = up_to_more (let w = parts_bound e g in omega arith) f.within;
    }

-- ---- fold_part

root_tag : (e : Expression) → tag (root e) < 40
root_tag (constant og v) = omega (arith, constant_tag v)
root_tag (column og i) = omega arith
root_tag (unary og Not x) = omega arith
root_tag (unary og (function IsNull) x) = omega arith
root_tag (unary og (function IsNaN) x) = omega arith
root_tag (unary og (function Identity) x) = omega arith
root_tag (unary og (function Negate) x) = omega arith
root_tag (unary og (function SquareRoot) x) = omega arith
root_tag (binary og o l r) = omega (arith, (binary_range o).1)

module _ {text s : List ℕ} {lo hi : ℕ} where
  -- A part by its tag.
  by_alone : (Q : OwnPart → Type 0) → ((e : Expression) → Foldable text s lo hi e → Q (alone e)) → tag_at s hi < 40 → (p : OwnPart) → PartHere text s lo hi p → Q p
  by_alone Q f h (alone e) u = f e (record { here = record { part = u.stand }; fits = u.fit })
  by_alone Q f h (under og es k) u = absurd (omega (arith, stands_tag (under og es k) u.stand, u.fit.1))

  by_under : (Q : OwnPart → Type 0) → ((og : ℕ) (es : List Expression) (k : Content) → PartHere text s lo hi (under og es k) → Q (under og es k)) → 40 ≤ tag_at s hi
      → (p : OwnPart) → PartHere text s lo hi p → Q p
  by_under Q f h (alone e) u = absurd (omega (arith, stands_tag (alone e) u.stand, root_tag e))
  by_under Q f h (under og es k) u = f og es k u

  pub part_at_in : PartAt text s lo hi → (lo + cell_words ≤ hi) × (hi ≤ length s)
  part_at_in t = stands_in t.p t.here.stand

  pub alone_at : tag_at s hi < 40 → PartAt text s lo hi → FoldableAt text s lo hi
  alone_at h t = by_alone (λ p. FoldableAt text s lo hi) (λ e f. record { e = e; foldable = f; short = t.short }) h t.p t.here

  pub number_low : {n : ℕ} → Numbers lo n → PartAt text s lo hi → n ≤ lo
  number_low k t = omega (arith, k t.first t.numbered, t.numbered)

-- an expression's answer among the others
as_leaves : {d : List ℕ} {at : ℕ} {r : Folded} {d' : List ℕ} (a : Answer Expression) → expression.Leaves d at a r d' → Leaves expression_words d at a r d'
as_leaves {d} {at} {r} {d'} a h = record { left = go a r h.left }
  where
    go : (a : Answer Expression) (r : Folded) → expression.Left d at a r d' → Left expression_words d at a r d'
    go (done y) (Ok n) h = h
    go (done y) (Err why) h = h
    go (refused i q) (Ok n) h = h
    go (refused i q) (Err why) h = h

alone_words : (es : List Expression) → all_words part_words (map alone es) ≡ all_words expression_words es
alone_words es = words_of_map expression_words part_words alone (λ e. refl) es

alone_fit : (text : List ℕ) (es : List Expression) → All (ConstantsFit text) es → All (PartFits text) (map alone es)
alone_fit text [] h = tt
alone_fit text (e ∷ es) h = (h.0, alone_fit text es h.1)

fold_alone : (es : List Expression) (first : ℕ) → fold_own_parts first (map alone es) ≡ (fold_each fold_expression size first es >>= λ xs. done (map alone xs))
fold_alone es first = each_made fold_expression size fold_own_part part_size alone (λ n e. refl) (λ e. refl) es first

module _ {text s : List ℕ} {lo hi : ℕ} where
  under_here : (og : ℕ) (es : List Expression) (k : Content) → PartHere text s lo hi (under og es k) → PartsHere text s lo (hi - cell_words) (map alone es)
  under_here og es k u = record {
    stand = subst (λ (w : List ℕ). Part s lo (hi - cell_words) w) (sym (alone_words es)) (body_part (all_words expression_words es) (cell og k) u.stand);
    fit = alone_fit text es u.fit.0;
  }

  pub under_at : 40 ≤ tag_at s hi → PartAt text s lo hi → PartsAt text s lo (hi - cell_words)
  under_at h t = by_under (λ p. PartsAt text s lo (hi - cell_words))
      (λ og es k u. record { ps = map alone es; here = under_here og es k u; first = t.first; numbered = t.numbered; short = t.short }) h t.p t.here

  -- the tag of the last expression under a cell
  pub under_tag : 40 ≤ tag_at s hi → PartAt text s lo hi → lo < hi - cell_words → tag_at s (hi - cell_words) < 40
  under_tag h t i = by_under (λ p. tag_at s (hi - cell_words) < 40) (λ og es k u. go es (body_part (all_words expression_words es) (cell og k) u.stand)) h t.p t.here
    where
      go : (es : List Expression) → Part s lo (hi - cell_words) (all_words expression_words es) → tag_at s (hi - cell_words) < 40
      go [] w = absurd (omega (arith, w.high))
      go (x ∷ xs) w =
          let l = last_of x xs in
          let v : Part s lo (hi - cell_words) (all_words expression_words l.those ++ expression_words l.last) =
          subst (λ (z : List ℕ). Part s lo (hi - cell_words) z) (ap (all_words expression_words) l.is ∙ words_last expression_words l.those l.last) w in
          omega (arith, stands_tag (alone l.last) (part_right (all_words expression_words l.those) (expression_words l.last) v), root_tag l.last)

  module _ {d : List ℕ} {at : ℕ} {d₁ : List ℕ} where
    within_of : {n : ℕ} {r : Folded} → PartAt text s lo hi → tag_at s hi < 40 → at + (hi - lo) ≤ length d → length d₁ ≡ length d → Folds text n s lo hi d at r d₁ → UpTo (at + (hi - lo)) r
    within_of {n} {r} t h room long g = record { ends = go r g }
      where
        go : (r : Folded) → Folds text n s lo hi d at r d₁ → Bounded (at + (hi - lo)) r
        go (Ok m) g = (result_at n (alone_at h t) g room long).within
        go (Err why) g = tt

    pub part_alone : {n : ℕ} {r : Folded} → PartAt text s lo hi → tag_at s hi < 40 → Numbers lo n → at + (hi - lo) ≤ length d → length d₁ ≡ length d
        → Folds text n s lo hi d at r d₁ → FoldsPart text s lo hi d at r d₁
    part_alone {n} {r} t h k room long g = record {
      leaves = λ first p e u. by_alone (λ p. Leaves part_words d at (fold_own_part first p) r d₁)
          (λ x f. made_into (fold_expression first x) alone (λ y. refl)
          (as_leaves (fold_expression first x) (subst (λ (i : ℕ). expression.Leaves d at (fold_expression i x) r d₁) (k first e) (g x f))))
          h p u;
      within = within_of t h room long g;
    }

    -- a list of one expression
    pub parts_one : {n : ℕ} {r : Folded} → lo < hi → lo ≡ start_at s hi → PartsAt text s lo hi → tag_at s hi < 40 → Numbers lo n → at + (hi - lo) ≤ length d → length d₁ ≡ length d
        → Folds text n s lo hi d at r d₁ → FoldsParts text s lo hi d at r d₁
    parts_one h st t k n room long g =
        parts_done h st (parts_none (omega arith)) refl (omega arith) (omega arith) (part_alone (last_at h st t) k n room long g)

    module _ (h : 40 ≤ tag_at s hi) {q : Folded} (g : FoldsParts text s lo (hi - cell_words) d at q d₁) where
      -- what stands below the cell
      row_left : (first og : ℕ) (es : List Expression) (k : Content) → lo ≡ cell_words * first → PartHere text s lo hi (under og es k) → Leaves (all_words expression_words) d at (fold_each fold_expression size first es) q d₁
      row_left first og es k e u = made_of (fold_each fold_expression size first es) (map alone) alone_words (answer_as (fold_alone es first) (g.leaves first (map alone es) e (under_here og es k u)))

      pub under_refused : {why : Failure} → q ≡ Err why → FoldsPart text s lo hi d at (Err why) d₁
      under_refused {why} z = record {
        leaves = λ first x e u. by_under (λ x. Leaves part_words d at (fold_own_part first x) (Err why) d₁)
            (λ og es k v. refused_on (fold_each fold_expression size first es) (λ xs. done (under og xs k)) (said_as z (row_left first og es k e v)))
            h x u;
        within = record { ends = tt };
      }

      -- The cell is put behind what is done.
      pub under_done : {m n : ℕ} {c : Cell} {d₂ : List ℕ} → PartAt text s lo hi → q ≡ Ok m → (at + (hi - lo) ≤ length d) × Short d → length d₁ ≡ length d → c ≡ cell_at s hi → Seals d₁ at m c n d₂
          → FoldsPart text s lo hi d at (Ok n) d₂
      under_done {m} {n} {c} {d₂} t z (room, few) long ce w = record {
        leaves = λ first x e u. by_under (λ x. Leaves part_words d at (fold_own_part first x) (Ok n) d₂)
            (λ og es k v. done_on (fold_each fold_expression size first es) (λ xs. done (under og xs k)) (said_as z (row_left first og es k e v))
            (λ xs f a. record { left = sealed_on og es k v xs a }))
            h x u;
        within = by_under (λ x. UpTo (at + (hi - lo)) (Ok n)) (λ og es k v. ended t.first og es k t.numbered v) h t.p t.here;
      }
        where
          sealed_on : (og : ℕ) (es : List Expression) (k : Content) → PartHere text s lo hi (under og es k) → (xs : List Expression) → Appended d at (all_words expression_words xs) m d₁
              → Appended d at (sized (all_words expression_words xs) (cell og k)) n d₂
          sealed_on og es k v xs a =
              let (i, j) = stands_in (under og es k) v.stand in
              let b = parts_bound z g in
              let l = sized_long (all_words expression_words xs) (cell og k) in
              let o = a.ends in
              subst (λ (x : Cell). Appended d at (sized (all_words expression_words xs) x) n d₂) (ce ∙ stands_cell (under og es k) v.stand)
              (appended (w d (all_words expression_words xs) long (wrote a (omega arith))) few (sealed_room c xs a i b))
            where
              sealed_room : (c : Cell) (xs : List Expression) → Appended d at (all_words expression_words xs) m d₁ → lo + cell_words ≤ hi → m ≤ at + (hi - cell_words - lo)
                  → at + length (sized (all_words expression_words xs) c) ≤ length d
              sealed_room c xs a i b = omega (arith, sized_long (all_words expression_words xs) c, a.ends)

          ended : (first og : ℕ) (es : List Expression) (k : Content) → lo ≡ cell_words * first → PartHere text s lo hi (under og es k) → UpTo (at + (hi - lo)) (Ok n)
          ended first og es k e v = go (fold_each fold_expression size first es) (said_as z (row_left first og es k e v))
            where
              go : (a : Answer (List Expression)) → Leaves (all_words expression_words) d at a (Ok m) d₁ → UpTo (at + (hi - lo)) (Ok n)
              go (done xs) l =
                  let (i, j) = stands_in (under og es k) v.stand in
                  let y = sealed_on og es k v xs l.left in
                  record { ends = omega (arith, y.ends, sized_long (all_words expression_words xs) (cell og k), l.left.ends, parts_bound z g) }
              go (refused i p) l = absurd l.left
