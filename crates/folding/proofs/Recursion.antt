-- What the recursion leaves, from what its calls have.
use Rattle.std.specs.Prelude.{Ok, Err}
use Prim.Native.Nat.{ℕ, ◌+◌, ◌-◌, ◌*◌, ◌≤◌, ◌<◌}
use native.Mathlib.Omega.{arith}
use mathlib.Core.Path.{◌≡◌, refl, sym, ap, ◌∙◌, subst}
use mathlib.Core.Bool.{Bool, true, false}
use mathlib.Core.List.{List}
use lib.ListN.{length, take}
use lib.Seq.{take-take}
use Rattle.sql.specs.Expression.{Unary, Binary, Expression, constant, column, unary, binary, size}
use Rattle.sql.specs.Answer.{Answer, done, refused, ◌>>=◌}
use Rattle.sql.specs.Optimizer.{fold, fold_expression}
use Rattle.room.specs.Smaller.{expression_smaller}
use Rattle.sound.specs.Answers.{answer_is}
use Rattle.cells.specs.declared.Cell.{Cell}
use Rattle.cells.specs.Cells.{cell_words, cell_at, tag_at, origin_at, start_at}
use Rattle.cells.specs.Room.{Short, Seals}
use Rattle.cells.proofs.Laws.{nothing}
use Rattle.words.specs.Words.{expression_words}
use Rattle.words.specs.Place.{ExpressionHere, ExpressionAt}
use Rattle.words.proofs.Expressions.{by_leaf, by_unary, by_binary, root_is, root_tag, root_origin, here_operand, here_left, here_right}
use Rattle.words.proofs.Expressions as expressions
use Rattle.words.proofs.Writing.{sealed}
use Rattle.words.proofs.Sizes.{expression_long}
use Rattle.fold_operator.specs.declared.Failure.{Failure}
use Rattle.fold_operator.specs.Left.{Folded, Appended, Leaves, Settled, SettledAt}
use Rattle.evaluate.specs.Evaluate.{UnaryTag, BinaryTag}
use Rattle.folding.specs.Folding.{Counts, Foldable, FoldableAt, Folds, RightAt, FoldsRight}
use Rattle.fold_operator.specs.Steps.{OperandOf, Neutral, UnaryAt, FoldsUnary, BinaryAt, FoldsBinary, OperandAt, FoldsNeutral}
use Rattle.fold_operator.proofs.Parts.{appended, appended_part, before_stays, here_in, here_kept, leaves_moved, leaves_refused, leaves_done, leaves_words}
use Rattle.folding.proofs.Settled.{expression_settled}

-- an expression's words, seven to a cell
pub here_long : {s : List ℕ} {lo hi : ℕ} (e : Expression) → ExpressionHere s lo hi e → hi ≡ lo + cell_words * size e
here_long {lo = lo} e u = sym u.part.high ∙ ap (λ (n : ℕ). lo + n) (expression_long e)

-- ---- operands

module _ {text s : List ℕ} {lo hi : ℕ} where
  pub foldable_operand : (og : ℕ) (o : Unary) (x : Expression) → Foldable text s lo hi (unary og o x) → Foldable text s lo (hi - cell_words) x
  foldable_operand og o x f = record { here = here_operand og o x f.here; fits = f.fits }

  module _ {mid : ℕ} (st : mid ≡ start_at s (hi - cell_words)) (og : ℕ) (o : Binary) (l r : Expression) (f : Foldable text s lo hi (binary og o l r)) where
    pub foldable_left : Foldable text s lo mid l
    foldable_left = record { here = here_left st og o l r f.here; fits = f.fits.0 }

    pub foldable_right : Foldable text s mid (hi - cell_words) r
    foldable_right = record { here = here_right st og o l r f.here; fits = f.fits.1 }

  pub at_expression : FoldableAt text s lo hi → ExpressionAt s lo hi
  at_expression t = record { e = t.e; here = t.foldable.here }

  pub foldable_in : FoldableAt text s lo hi → (lo + cell_words ≤ hi) × (hi ≤ length s)
  foldable_in t = expressions.at_in (at_expression t)

  pub operand_at : 30 ≤ tag_at s hi → FoldableAt text s lo hi → FoldableAt text s lo (hi - cell_words)
  operand_at h t = by_unary (λ e. Foldable text s lo hi e → FoldableAt text s lo (hi - cell_words)) (λ og o x f. record { e = x; foldable = foldable_operand og o x f; short = t.short })
      t.e (omega (arith, root_tag t.e t.foldable.here)) t.foldable

  module _ {mid : ℕ} (st : mid ≡ start_at s (hi - cell_words)) (h : 10 ≤ tag_at s hi) (k : tag_at s hi < 30) where
    pub left_at : FoldableAt text s lo hi → FoldableAt text s lo mid
    left_at t = by_binary (λ e. Foldable text s lo hi e → FoldableAt text s lo mid) (λ og o l r f. record { e = l; foldable = foldable_left st og o l r f; short = t.short })
        t.e (omega (arith, root_tag t.e t.foldable.here)) (omega (arith, root_tag t.e t.foldable.here)) t.foldable

    pub right_at : FoldableAt text s lo hi → FoldableAt text s mid (hi - cell_words)
    right_at t = by_binary (λ e. Foldable text s lo hi e → FoldableAt text s mid (hi - cell_words)) (λ og o l r f. record { e = r; foldable = foldable_right st og o l r f; short = t.short })
        t.e (omega (arith, root_tag t.e t.foldable.here)) (omega (arith, root_tag t.e t.foldable.here)) t.foldable

  -- the operator by its tag
  pub unary_of : 30 ≤ tag_at s hi → FoldableAt text s lo hi → UnaryTag (tag_at s hi)
  unary_of h t = by_unary (λ e. ExpressionHere s lo hi e → UnaryTag (tag_at s hi)) (λ og o x u. record { p = o; is = sym (root_tag (unary og o x) u) })
      t.e (omega (arith, root_tag t.e t.foldable.here)) t.foldable.here

  pub binary_of : 10 ≤ tag_at s hi → tag_at s hi < 30 → FoldableAt text s lo hi → BinaryTag (tag_at s hi)
  binary_of h k t = by_binary (λ e. ExpressionHere s lo hi e → BinaryTag (tag_at s hi)) (λ og o l r u. record { p = o; is = sym (root_tag (binary og o l r) u) })
      t.e (omega (arith, root_tag t.e t.foldable.here)) (omega (arith, root_tag t.e t.foldable.here)) t.foldable.here

-- ---- numbers of cells

module _ {text s : List ℕ} {lo hi c : ℕ} where
  pub operand_count : FoldableAt text s lo hi → Counts lo hi c → lo + c ≤ hi
  operand_count t k = let l = here_long t.e t.foldable.here in omega (arith, k (size t.e) l)

  pub operands_count : 10 ≤ tag_at s hi → tag_at s hi < 30 → FoldableAt text s lo hi → Counts lo (hi - cell_words) c → lo + c ≤ hi
  operands_count h k t n = by_binary (λ e. ExpressionHere s lo hi e → lo + c ≤ hi)
      (λ og o l r u. let j = here_long (binary og o l r) u in omega (arith, n (size l + size r) (omega arith)))
      t.e (omega (arith, root_tag t.e t.foldable.here)) (omega (arith, root_tag t.e t.foldable.here)) t.foldable.here

-- ---- what an operand has folded to

pub record ResultAt (text d : List ℕ) (at room n : ℕ) (d₁ : List ℕ) : Type 0 where
  pub stands : SettledAt text d₁ at n
  pub within : n ≤ at + room
  pub before : take at d₁ ≡ take at d

module _ {text s : List ℕ} {lo hi : ℕ} (first : ℕ) {d : List ℕ} {at m : ℕ} {d₁ : List ℕ} where
  -- of the expression that stands there
  pub result_here : (e y : Expression) → Foldable text s lo hi e → fold_expression first e ≡ done y → Appended d at (expression_words y) m d₁
      → at + (hi - lo) ≤ length d → length d₁ ≡ length d → (ExpressionHere d₁ at m y × Settled text y) × (m ≤ at + (hi - lo))
  result_here e y f h a room long =
      let z = expression_smaller first e y h in
      let l = here_long e f.here in
      let i = expression_long y in
      ((record { part = appended_part a (omega arith) }, answer_is (Settled text) (fold_expression first e) y (expression_settled text first e f.fits) h), omega (arith, a.ends))

  pub result_at : FoldableAt text s lo hi → Folds text first s lo hi d at (Ok m) d₁ → at + (hi - lo) ≤ length d → length d₁ ≡ length d
      → ResultAt text d at (hi - lo) m d₁
  result_at t g room long = go (fold_expression first t.e) refl (g t.e t.foldable)
    where
      go : (a : Answer Expression) → fold_expression first t.e ≡ a → Leaves d at a (Ok m) d₁ → ResultAt text d at (hi - lo) m d₁
      go (done y) e h = let ((u, s), w) = result_here t.e y t.foldable e h.left room long in
          record { stands = record { y = y; here = u; settled = s }; within = w; before = before_stays h.left (omega arith) }
      go (refused j p) e h = absurd h.left

-- ---- fold_expression

module _ {text s : List ℕ} {lo hi : ℕ} (first : ℕ) {d : List ℕ} {at : ℕ} where
  pub folds_leaf : {k : Cell} {n : ℕ} {d' : List ℕ} → k ≡ cell_at s hi → tag_at s hi < 10 → at + (hi - lo) ≤ length d → Short d → Seals d at at k n d'
      → Folds text first s lo hi d at (Ok n) d'
  unfolding expression_words
  folds_leaf {k} {n} {d'} q h room few w e f = by_leaf (λ e. ExpressionHere s lo hi e → Leaves d at (fold_expression first e) (Ok n) d')
      (λ og v u. leaves_words (appended (sealed (constant og v) u q refl (nothing d at) w) few (omega (arith, here_long (constant og v) u))))
      (λ og i u. leaves_words (appended (sealed (column og i) u q refl (nothing d at) w) few (omega (arith, here_long (column og i) u))))
      e (omega (arith, root_tag e f.here)) f.here

  pub unary_refused : {why : Failure} {d' : List ℕ} → 30 ≤ tag_at s hi → Folds text first s lo (hi - cell_words) d at (Err why) d'
      → Folds text first s lo hi d at (Err why) d'
  unary_refused {why} {d'} h g e f = by_unary (λ e. Foldable text s lo hi e → Leaves d at (fold_expression first e) (Err why) d')
      (λ og o x f. leaves_refused (fold_expression first x) (λ y. fold (first + size x) (unary og o y)) (g x (foldable_operand og o x f)))
      e (omega (arith, root_tag e f.here)) f

  -- what fold_unary asks
  pub unary_ready : {n tag_of : ℕ} {d₁ : List ℕ} → 30 ≤ tag_at s hi → tag_of ≡ tag_at s hi → FoldableAt text s lo hi → at + (hi - lo) ≤ length d → Short d → length d₁ ≡ length d
      → Folds text first s lo (hi - cell_words) d at (Ok n) d₁ → UnaryAt d₁ at n tag_of
  unary_ready {n} {tag_of} {d₁} h oe t room few long g =
      let (b₁, b₂) = foldable_in t in
      let (b₃, b₄) = foldable_in (operand_at h t) in
      let q = result_at first (operand_at h t) g (omega arith) long in
      record { text = text; short = t.short; operator = subst UnaryTag (sym oe) (unary_of h t); operand = q.stands; few = omega arith; room = omega (arith, q.within) }

  pub unary_done : {c n tag_of og_of : ℕ} {d₁ : List ℕ} {answer : Folded} {d₂ : List ℕ} → 30 ≤ tag_at s hi → tag_of ≡ tag_at s hi → og_of ≡ origin_at s hi → Counts lo (hi - cell_words) c → at + (hi - lo) ≤ length d → Short d → length d₁ ≡ length d
      → Folds text first s lo (hi - cell_words) d at (Ok n) d₁ → FoldsUnary d₁ at n tag_of (first + c) og_of answer d₂
      → Folds text first s lo hi d at answer d₂
  unary_done {c} {n} {tag_of} {og_of} {d₁} {answer} {d₂} h oe ge k room few long g w e f = by_unary (λ e. Foldable text s lo hi e → Leaves d at (fold_expression first e) answer d₂)
      (λ og o x f. let i = foldable_operand og o x f in
      let j = k (size x) (here_long x i.here) in
      let (b, t) = expressions.here_in (unary og o x) f.here in
      leaves_done (fold_expression first x) (λ y. fold (first + size x) (unary og o y)) (g x i)
      (λ y e a. let ((u, s), v) = result_here first x y i e a (omega arith) long in
      leaves_moved (before_stays a (omega arith))
      (subst (λ (z : ℕ). Leaves d₁ at (fold (first + z) (unary og o y)) answer d₂) j
      (subst (λ (z : ℕ). Leaves d₁ at (fold (first + c) (unary z o y)) answer d₂) (ge ∙ root_origin (unary og o x) f.here)
      (w text o y (sym (oe ∙ root_tag (unary og o x) f.here)) u s)))))
      e (omega (arith, root_tag e f.here)) f

  module _ {mid : ℕ} (st : mid ≡ start_at s (hi - cell_words)) (h : 10 ≤ tag_at s hi) (k : tag_at s hi < 30) where
    pub left_refused : {why : Failure} {d' : List ℕ} → Folds text first s lo mid d at (Err why) d' → Folds text first s lo hi d at (Err why) d'
    left_refused {why} {d'} g e f = by_binary (λ e. Foldable text s lo hi e → Leaves d at (fold_expression first e) (Err why) d')
        (λ og o l r f. leaves_refused (fold_expression first l) (λ x. fold_expression (first + size l) r >>= λ y. fold (first + (size l + size r)) (binary og o x y)) (g l (foldable_left st og o l r f)))
        e (omega (arith, root_tag e f.here)) (omega (arith, root_tag e f.here)) f

    pub right_ready : {m : ℕ} {d₁ : List ℕ} → FoldableAt text s lo hi → at + (hi - lo) ≤ length d → (first ≤ lo) × Short d → length d₁ ≡ length d
        → Folds text first s lo mid d at (Ok m) d₁ → RightAt text s lo hi d₁ at first mid m
    right_ready t room (numbered, few) long g =
        let (b₁, b₂) = foldable_in (left_at st h k t) in
        let (b₃, b₄) = foldable_in (right_at st h k t) in
        let q = result_at first (left_at st h k t) g (omega arith) long in
        record { operator = t; low_tag = h; high_tag = k; starts = st; left = q.stands; room = omega (arith, q.within); few = omega arith; numbered = numbered }

    pub left_done : {m : ℕ} {d₁ : List ℕ} {answer : Folded} {d₂ : List ℕ} → at + (hi - lo) ≤ length d → length d₁ ≡ length d
        → Folds text first s lo mid d at (Ok m) d₁ → FoldsRight text s lo hi d₁ at first mid m answer d₂ → Folds text first s lo hi d at answer d₂
    left_done {m} {d₁} {answer} {d₂} room long g w e f = by_binary (λ e. Foldable text s lo hi e → Leaves d at (fold_expression first e) answer d₂)
        (λ og o l r f. let i = foldable_left st og o l r f in
        let (b, t) = expressions.here_in l i.here in
        let (b', t') = expressions.here_in r (here_right st og o l r f.here) in
        leaves_done (fold_expression first l) (λ x. fold_expression (first + size l) r >>= λ y. fold (first + (size l + size r)) (binary og o x y)) (g l i)
        (λ x e a. let ((u, s), v) = result_here first l x i e a (omega arith) long in
        leaves_moved (before_stays a (omega arith)) (w og o l r x f u s)))
        e (omega (arith, root_tag e f.here)) (omega (arith, root_tag e f.here)) f

-- ---- fold_right

module _ {text s : List ℕ} {lo hi : ℕ} {d : List ℕ} {at first mid m : ℕ} (t : RightAt text s lo hi d at first mid m) {c b : ℕ}
    (kc : Counts lo mid c) (kb : Counts lo (hi - cell_words) b) where
  -- the number of the right operand's first cell, and the operator's
  numbers : (og : ℕ) (o : Binary) (l r : Expression) → Foldable text s lo hi (binary og o l r) → (c ≡ size l) × (b ≡ size l + size r)
  numbers og o l r f =
      let i = here_long l (here_left t.starts og o l r f.here) in
      let j = here_long r (here_right t.starts og o l r f.here) in
      (kc (size l) i, kb (size l + size r) (omega arith))

  pub right_refused : {at₁ : ℕ} {why : Failure} {d₁ : List ℕ} → Folds text (first + c) s mid (hi - cell_words) d at₁ (Err why) d₁ → FoldsRight text s lo hi d at first mid m (Err why) d₁
  right_refused {at₁} {why} {d₁} g og o l r x f u s =
      let (e₁, e₂) = numbers og o l r f in
      leaves_refused (fold_expression (first + size l) r) (λ y. fold (first + (size l + size r)) (binary og o x y))
      (subst (λ (n : ℕ). Leaves d at₁ (fold_expression (first + n) r) (Err why) d₁) e₁ (g r (foldable_right t.starts og o l r f)))

  -- the right operand in the place of a neutral left one
  pub right_alone : {tag_of og_of : ℕ} {k : Cell} {q : Bool} {n : ℕ} {d₁ : List ℕ} {answer : Folded} {d₂ : List ℕ} → tag_of ≡ tag_at s hi → og_of ≡ origin_at s hi → k ≡ cell_at d m → Neutral tag_of k q → q ≡ true → length d₁ ≡ length d
      → Folds text (first + c) s mid (hi - cell_words) d at (Ok n) d₁ → FoldsNeutral d₁ at n (first + b) og_of answer d₂ → FoldsRight text s lo hi d at first mid m answer d₂
  right_alone {tag_of} {og_of} {k} {q} {n} {d₁} {answer} {d₂} oe ge ke z qe long g w og o l r x f u sx =
      let (e₁, e₂) = numbers og o l r f in
      let i = foldable_right t.starts og o l r f in
      let (h₁, h₂) = here_in x u in
      let (h₃, h₄) = expressions.here_in r i.here in
      let room = t.room in
      leaves_done (fold_expression (first + size l) r) (λ y. fold (first + (size l + size r)) (binary og o x y))
      (subst (λ (j : ℕ). Leaves d at (fold_expression (first + j) r) (Ok n) d₁) e₁ (g r i))
      (λ y e a. let ((v, sy), h₅) = result_here (first + size l) r y i e a (omega arith) long in
      leaves_moved (before_stays a (omega arith))
      (subst (λ (j : ℕ). Leaves d₁ at (fold (first + j) (binary og o x y)) answer d₂) e₂
      (subst (λ (j : ℕ). Leaves d₁ at (fold (first + b) (binary j o x y)) answer d₂) (ge ∙ root_origin (binary og o l r) f.here)
      (w text o x y (sym (z o x (sym (oe ∙ root_tag (binary og o l r) f.here)) (ke ∙ root_is x u)) ∙ qe) v sy))))

  pub right_done : {tag_of og_of : ℕ} {k : Cell} {q : Bool} {n : ℕ} {d₁ : List ℕ} {answer : Folded} {d₂ : List ℕ} → tag_of ≡ tag_at s hi → og_of ≡ origin_at s hi → k ≡ cell_at d m → Neutral tag_of k q → q ≡ false → length d₁ ≡ length d
      → Folds text (first + c) s mid (hi - cell_words) d m (Ok n) d₁ → FoldsBinary text d₁ at m n tag_of (first + b) og_of answer d₂
      → FoldsRight text s lo hi d at first mid m answer d₂
  right_done {tag_of} {og_of} {k} {q} {n} {d₁} {answer} {d₂} oe ge ke z qe long g w og o l r x f u sx =
      let (e₁, e₂) = numbers og o l r f in
      let i = foldable_right t.starts og o l r f in
      let (h₁, h₂) = here_in x u in
      let (h₃, h₄) = expressions.here_in r i.here in
      let room = t.room in
      let few = t.few in
      let tag_is = sym (oe ∙ root_tag (binary og o l r) f.here) in
      leaves_done (fold_expression (first + size l) r) (λ y. fold (first + (size l + size r)) (binary og o x y))
      (subst (λ (j : ℕ). Leaves d m (fold_expression (first + j) r) (Ok n) d₁) e₁ (g r i))
      (λ y e a. let ((v, sy), h₅) = result_here (first + size l) r y i e a (omega arith) long in
      let kept = before_stays a h₂ in
      leaves_moved (sym (take-take at m d₁ h₁) ∙ (ap (take at) kept ∙ take-take at m d h₁))
      (subst (λ (j : ℕ). Leaves d₁ at (fold (first + j) (binary og o x y)) answer d₂) e₂
      (subst (λ (j : ℕ). Leaves d₁ at (fold (first + b) (binary j o x y)) answer d₂) (ge ∙ root_origin (binary og o l r) f.here)
      (w o x y tag_is (here_kept x kept u) v sx sy (sym (z o x tag_is (ke ∙ root_is x u)) ∙ qe)))))

-- ---- what fold_right's calls ask

module _ {text s : List ℕ} {lo hi : ℕ} {d : List ℕ} {at first mid m : ℕ} (t : RightAt text s lo hi d at first mid m) where
  pub the_left : FoldableAt text s lo mid
  the_left = left_at t.starts t.low_tag t.high_tag t.operator

  pub the_right : FoldableAt text s mid (hi - cell_words)
  the_right = right_at t.starts t.low_tag t.high_tag t.operator

  pub left_in : (at + cell_words ≤ m) × (m ≤ length d)
  left_in = expressions.here_in t.left.y t.left.here

  -- the right operand's result, wherever it was written
  pub right_result : {n at₁ : ℕ} {d₁ : List ℕ} (next : ℕ) → at₁ ≤ m → length d₁ ≡ length d → Folds text next s mid (hi - cell_words) d at₁ (Ok n) d₁
      → ResultAt text d at₁ (hi - cell_words - mid) n d₁
  right_result next h long g = let (h₁, h₂) = foldable_in the_right in let room = t.room in result_at next the_right g (omega arith) long

  -- the operator, and what its left operand folds to
  the_operator : {tag_of : ℕ} → tag_of ≡ tag_at s hi → BinaryTag tag_of
  the_operator oe = subst BinaryTag (sym oe) (binary_of t.low_tag t.high_tag t.operator)

  pub left_operand : {tag_of : ℕ} {k : Cell} → tag_of ≡ tag_at s hi → k ≡ cell_at d m → OperandOf tag_of k
  left_operand oe ke = record { operator = the_operator oe; e = t.left.y; is = ke ∙ root_is t.left.y t.left.here }

  pub neutral_ready : {n at₁ : ℕ} {d₁ : List ℕ} (next : ℕ) → at₁ ≤ m → length d₁ ≡ length d → Folds text next s mid (hi - cell_words) d at₁ (Ok n) d₁ → OperandAt d₁ at₁ n
  neutral_ready next h long g = let few = t.few in record { text = text; operand = (right_result next h long g).stands; few = omega arith }

  pub binary_ready : {n tag_of : ℕ} {k : Cell} {q : Bool} {d₁ : List ℕ} (next : ℕ) → (oe : tag_of ≡ tag_at s hi) → (ke : k ≡ cell_at d m) → Neutral tag_of k q → q ≡ false → length d₁ ≡ length d
      → Folds text next s mid (hi - cell_words) d m (Ok n) d₁ → BinaryAt text d₁ at m n tag_of
  binary_ready next oe ke z qe long g =
      let v = right_result next (omega arith) long g in
      let o = the_operator oe in
      let (h₁, h₂) = foldable_in the_right in
      let room = t.room in
      let few = t.few in
      record {
        short = t.operator.short;
        operands = record { operator = o; x = t.left.y; y = v.stands.y; left = here_kept t.left.y v.before t.left.here; right = v.stands.here };
        left_settled = t.left.settled;
        right_settled = v.stands.settled;
        not_neutral = sym (z o.p t.left.y o.is (ke ∙ root_is t.left.y t.left.here)) ∙ qe;
        few = omega arith;
        room = omega (arith, v.within);
      }
