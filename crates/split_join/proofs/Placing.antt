-- The split in place: the words from the first one that changes take their place, and the source that they start in is resealed.
use Prim.Native.Nat.{ℕ, ◌+◌, ◌-◌, ◌≤◌, ◌<◌}
use native.Mathlib.Omega.{arith}
use mathlib.Core.Bool.{Bool}
use mathlib.Core.Option.{Option, some}
use mathlib.Core.Path.{◌≡◌, refl, sym, ap, ◌∙◌, subst}
use mathlib.Core.List.{List, [], ◌++◌, append_assoc, append-nil}
use lib.ListN.{length, take, length-append}
use lib.Seq.{length-take-le}
use Rattle.std.specs.Prelude as code
use Rattle.std.specs.Prelude.{Some, None}
use Rattle.sql.specs.Expression.{Expression, ands}
use Rattle.sql.specs.Plan.{nested_loop, Node, join, node_origin}
use Rattle.sql.specs.Optimizer.{split}
use Rattle.cells.specs.Cells.{cell_words, words, sized, start_at, origin_at, Part, Sized}
use Rattle.cells.specs.Room.{Short, Wrote}
use Rattle.cells.proofs.Laws.{part_left, part_right, nothing, then, fits_to}
use Rattle.words.specs.Words.{cell, expression_words, optional_words, node_words, source_words, own_words, node_cell, join_cell}
use Rattle.words.specs.Place.{ExpressionHere, ExpressionAt, NodeHere, NodeAt}
use Rattle.words.proofs.Nodes.{node_shape, node_in, source_part, sources_sized, join_left, join_right}
use Rattle.words.proofs.Sizes.{sized_long}
use Rattle.nodes.specs.Own.{OwnStart}
use Rattle.nodes.specs.Columns.{ColumnsAt, ColumnCount}
use Rattle.edit.specs.Edit.{Holds, Placed, Reseals, ReplacesOwn}
use Rattle.edit.proofs.Edits.{holds_here}
use Rattle.copied_lookups.specs.declared.Source.TheVariants.{Left, Right}
use Rattle.push_into.proofs.Taking.{origin_here}
use Rattle.push_part.specs.Part.{part_for, own_end, WritesOwn, PushesPart}
use Rattle.push_part.proofs.Parts.{rest, rest_is, sources_stay, own_end_long}
use Rattle.split_join.specs.Split.{stays, new_left, new_right, joined, JoinHere, JoinAt, PredicateAt, SplitAt, Stays, Rejoins, ReplacesEnd, SplitsRight, SplitsBoth, Splits}
use Rattle.split_join.proofs.Splitting.{split_is}

-- ---- words that took their place, and words that had no room

module _ {x : List ℕ} {r : ℕ} {pre post w : List ℕ} where
  placed_there : Placed x r pre post w → r ≤ length x → take r x ≡ pre ++ (w ++ post)
  placed_there f h = (f.is h).1

  -- what had no room has none with other words, if these are as many
  still_over : {v : List ℕ} → length x < r → length v ≡ length w → Placed x r pre post v → Placed x r pre post w
  still_over {v} h k f = record { is = λ z. absurd (omega arith); room = λ s z. f.room s (omega (arith, length-append v post, length-append w post)) }

  there : r ≤ length x → take r x ≡ pre ++ (w ++ post) → Placed x r pre post w
  there h e =
      let k : r ≡ length pre + length (w ++ post) = omega (arith, length-take-le r x h, ap length e, length-append pre (w ++ post)) in
      record { is = λ z. (k, e); room = λ s z. h }

-- ---- where the join and its sources stand

module _ {x : List ℕ} {t lo mid m tail : ℕ} {pre post : List ℕ} (og : ℕ) (outer : Bool) (p : Expression) (l r : Node) (h : JoinHere x t lo mid m tail pre post og outer p l r) where
  sources : Part x lo m (node_words l ++ node_words r)
  sources =
      source_part (join og outer (nested_loop (some p)) l r) (holds_here h.holds)
      (omega (arith, length-append (node_words l) (node_words r), h.left, h.right))

  left_here : NodeHere x lo mid l
  left_here = subst (λ (i : ℕ). NodeHere x lo i l) h.left (record { part = part_left (node_words l) (node_words r) sources })

  right_here : NodeHere x mid m r
  right_here = subst (λ (i : ℕ). NodeHere x i m r) h.left (record { part = part_right (node_words l) (node_words r) sources })

module _ {x : List ℕ} {t lo mid m tail og : ℕ} (g : JoinAt x t lo mid m tail og) where
  pub left_at : NodeAt x lo mid
  left_at = record { p = g.l; here = left_here og g.outer g.p g.l g.r g.here }

  pub right_at : NodeAt x mid m
  right_at = record { p = g.r; here = right_here og g.outer g.p g.l g.r g.here }

  pub join_there : PredicateAt x lo (t - tail)
  join_there = record { og = og; outer = g.outer; p = g.p; l = g.l; r = g.r; here = holds_here g.here.holds }

-- what stands behind the sources
old_words : ℕ → Bool → Expression → Node → Node → List ℕ
old_words og outer p l r = expression_words p ++ words (cell og (join_cell outer (nested_loop (some p)))) (length (node_words l ++ (node_words r ++ expression_words p)) + cell_words)

module _ {x : List ℕ} {t lo mid m tail : ℕ} {pre post : List ℕ} (og : ℕ) (outer : Bool) (p : Expression) (l r : Node) (h : JoinHere x t lo mid m tail pre post og outer p l r) where
  old_whole : take t x ≡ pre ++ ((node_words l ++ node_words r) ++ (old_words og outer p l r ++ post))
  unfolding node_words old_words
  old_whole = h.holds.whole ∙ simp append_assoc

  -- the words that stay, and those that go
  kept_whole : (kept gone : List ℕ) → node_words l ++ node_words r ≡ kept ++ gone → take t x ≡ pre ++ (kept ++ ((gone ++ old_words og outer p l r) ++ post))
  kept_whole kept gone i = old_whole ∙ ap (λ (s : List ℕ). pre ++ (s ++ (old_words og outer p l r ++ post))) i ∙ simp append_assoc

  sources_long : lo + length (node_words l ++ node_words r) ≡ m
  sources_long = omega (arith, length-append (node_words l) (node_words r), h.left, h.right)

  end_below : (tail ≤ t) × ((m + tail ≤ t) × (t ≤ length x))
  end_below =
      let k = length-take-le t x h.holds.inside in
      let i = ap length old_whole in
      let j = length-append pre ((node_words l ++ node_words r) ++ (old_words og outer p l r ++ post)) in
      let d = length-append (node_words l ++ node_words r) (old_words og outer p l r ++ post) in
      let e = length-append (old_words og outer p l r) post in
      (omega (arith, h.holds.high), (omega (arith, h.holds.low, h.holds.high, sources_long), h.holds.inside))

pub end_in : {x : List ℕ} {t lo mid m tail og : ℕ} → JoinAt x t lo mid m tail og → (tail ≤ t) × ((m + tail ≤ t) × (t ≤ length x))
end_in {og = og} g = end_below og g.outer g.p g.l g.r g.here

-- where the words that change may start
pub from_end : {x : List ℕ} {t lo mid m tail og : ℕ} → JoinAt x t lo mid m tail og → (lo ≤ m) × (m ≤ m)
from_end g = (omega (arith, g.here.left, g.here.right), omega arith)

pub from_right : {x : List ℕ} {t lo mid m tail og own : ℕ} → JoinAt x t lo mid m tail og → OwnStart x mid m own → (lo ≤ own) × (own ≤ m)
from_right {og = og} g o =
    let i = o g.r (right_here og g.outer g.p g.l g.r g.here) in
    (omega (arith, g.here.left), omega (arith, g.here.right, ap length (rest_is g.r), length-append (source_words g.r) (rest g.r)))

pub from_left : {x : List ℕ} {t lo mid m tail og own : ℕ} → JoinAt x t lo mid m tail og → OwnStart x lo mid own → (lo ≤ own) × (own ≤ m)
from_left {og = og} g o =
    let i = o g.l (left_here og g.outer g.p g.l g.r g.here) in
    (omega arith, omega (arith, g.here.left, g.here.right, ap length (rest_is g.l), length-append (source_words g.l) (rest g.l)))

-- ---- what was written, the new predicate and the cell in their place

pub end_replaced : (og n : ℕ) {x : List ℕ} {t lo mid m tail : ℕ} {cnf : List ℕ} {end : ℕ} {y y₁ y₂ : List ℕ} {from at b c q : ℕ} {x' : List ℕ}
    → length y₁ ≡ length y → length y₂ ≡ length y₁
    → Stays og n x lo mid m cnf end y at b y₁ → Rejoins x lo (t - tail) y₁ at b c y₂ → ReplacesOwn x y₂ c t lo from tail q x'
    → ReplacesEnd og n x y t lo mid m tail cnf end from at q x'
end_replaced og n {y = y} {q = q} {x' = x'} k₁ k₂ f g h pre post outer p l r j e v kept gone i d y₀ w k₀ a =
    let o = stays og n (ands e) l r in
    subst (λ (s : List ℕ). Placed x' q pre post (sized s (cell og (join_cell outer (nested_loop o))))) (sym (append_assoc kept w (optional_words o)))
    (h pre kept (gone ++ old_words og outer p l r) post (kept_whole og outer p l r j kept gone i) j.holds.low d j.holds.high y₀ (w ++ optional_words o) (cell og (join_cell outer (nested_loop o)))
    (length (w ++ optional_words o) + cell_words) (k₂ ∙ k₁ ∙ k₀)
    (g.writes og outer p l r (holds_here j.holds) o y₀ y w k₀ k₁ a (f l r (left_here og outer p l r j) (right_here og outer p l r j) e v)))

-- ---- a source whose own words took their place is sealed

node_long : (q : Node) → length (node_words q) ≡ length (source_words q) + length (own_end q)
node_long q =
    omega (arith, ap length (node_shape q), sized_long (source_words q ++ own_words q) (cell (node_origin q) (node_cell q)), length-append (source_words q) (own_words q), sized_long (own_words q) (cell (node_origin q) (node_cell q)))

opened : (pre kept sources own last more new end post : List ℕ)
    → pre ++ (((((kept ++ sources) ++ ((own ++ last) ++ more)) ++ new) ++ end) ++ post) ≡ (pre ++ kept) ++ (((sources ++ own) ++ last) ++ ((more ++ (new ++ end)) ++ post))
opened pre kept sources own last more new end post = simp append_assoc

closed : (pre kept source more new end post : List ℕ)
    → (pre ++ kept) ++ (source ++ ((more ++ (new ++ end)) ++ post)) ≡ pre ++ ((((kept ++ (source ++ more)) ++ new) ++ end) ++ post)
closed pre kept source more new end post = simp append_assoc

module _ {x₁ : List ℕ} {u : ℕ} {pre post : List ℕ} (kept : List ℕ) (q : Node) (more : List ℕ) (og : ℕ) (outer : Bool) (o : Option Expression)
    (f : Placed x₁ u pre post (joined ((kept ++ source_words q) ++ (own_end q ++ more)) og outer o)) where
  -- the join's sources, before and after
  before : List ℕ
  before = (kept ++ source_words q) ++ (own_end q ++ more)

  after : List ℕ
  after = kept ++ (node_words q ++ more)

  same_long : length (before ++ optional_words o) ≡ length (after ++ optional_words o)
  unfolding before after
  same_long =
      omega (arith, length-append before (optional_words o), length-append after (optional_words o), length-append (kept ++ source_words q) (own_end q ++ more), length-append kept (source_words q), length-append (own_end q) more, length-append kept (node_words q ++ more), length-append (node_words q) more, node_long q)

  seal_full : length x₁ < u → Placed x₁ u pre post (joined (kept ++ (node_words q ++ more)) og outer o)
  unfolding before after
  seal_full z =
      let k = cell og (join_cell outer (nested_loop o)) in
      still_over z (omega (arith, sized_long (before ++ optional_words o) k, sized_long (after ++ optional_words o) k, same_long)) f

  module _ (z : u ≤ length x₁) {start own : ℕ} (low : length pre + length kept ≡ start) (mid : start + length (source_words q) ≡ own) {y : List ℕ} {k : ℕ} {y₁ : List ℕ}
      (g : Wrote y 0 (own_end q) k y₁) (l : length y ≡ length x₁) (short : Short x₁) where
    total : u ≡ own + length (own_end q) + length ((more ++ (optional_words o ++ words (cell og (join_cell outer (nested_loop o))) (length (before ++ optional_words o) + cell_words))) ++ post)
    unfolding before
    total =
        let behind = (more ++ (optional_words o ++ words (cell og (join_cell outer (nested_loop o))) (length (before ++ optional_words o) + cell_words))) ++ post in
        let w = placed_there f z ∙ opened pre kept (source_words q) (own_words q) (words (cell (node_origin q) (node_cell q)) (length (own_words q) + cell_words)) more (optional_words o) (words (cell og (join_cell outer (nested_loop o))) (length (before ++ optional_words o) + cell_words)) post in
        let s = (source_words q ++ own_words q) ++ words (cell (node_origin q) (node_cell q)) (length (own_words q) + cell_words) in
        omega (arith, length-take-le u x₁ z, ap length w, length-append (pre ++ kept) (s ++ behind), length-append pre kept, length-append s behind, length-append (source_words q ++ own_words q) (words (cell (node_origin q) (node_cell q)) (length (own_words q) + cell_words)), length-append (source_words q) (own_words q), sized_long (own_words q) (cell (node_origin q) (node_cell q)))

    own_is : k ≡ length (own_end q)
    own_is = let i = (fits_to g (omega (arith, total)) (omega (arith, total))).0 in omega arith

    seal_room : (own ≤ u) × ((k ≤ u - own) × ((start + cell_words + (u - own - k) ≤ u) × (u ≤ length x₁)))
    seal_room = (omega (arith, total), (omega (arith, total, own_is), (omega (arith, total, own_is, own_end_long q), z)))

    sealed : {v : ℕ} {x₂ : List ℕ} → length x₂ ≡ length x₁ → Reseals x₁ u start (u - own - k) v x₂ → Placed x₂ v pre post (joined (kept ++ (node_words q ++ more)) og outer o)
    unfolding before after
    sealed {v} {x₂} e c =
        let j = cell og (join_cell outer (nested_loop o)) in
        let last = words (cell (node_origin q) (node_cell q)) (length (own_words q) + cell_words) in
        let behind = (more ++ (optional_words o ++ words j (length (before ++ optional_words o) + cell_words))) ++ post in
        let same = c.room short in
        there (omega arith)
        (ap (λ (i : ℕ). take i x₂) same
        ∙ c.seal (omega arith) (pre ++ kept) (source_words q ++ own_words q) behind (cell (node_origin q) (node_cell q)) (length (own_words q) + cell_words)
        (placed_there f z ∙ opened pre kept (source_words q) (own_words q) last more (optional_words o) (words j (length (before ++ optional_words o) + cell_words)) post)
        (omega (arith, length-append pre kept)) (omega (arith, total, own_is))
        ∙ ap (λ (s : List ℕ). (pre ++ kept) ++ (s ++ behind)) (sym (node_shape q))
        ∙ ap (λ (i : ℕ). (pre ++ kept) ++ (node_words q ++ ((more ++ (optional_words o ++ words j (i + cell_words))) ++ post))) same_long
        ∙ closed pre kept (node_words q) more (optional_words o) (words j (length (after ++ optional_words o) + cell_words)) post)

-- ---- the right source's part

module _ (og n : ℕ) {x : List ℕ} {t lo mid m tail : ℕ} {cnf : List ℕ} {end : ℕ} {y : List ℕ} {j : code.Option ℕ} {y₁ : List ℕ} (f : WritesOwn og Right n n x mid m cnf end y j y₁) where
  pub right_none : j ≡ None → {v : ℕ} {x' : List ℕ} → ReplacesEnd og n x y₁ t lo mid m tail cnf end m 0 v x' → SplitsRight og n x t lo mid m tail cnf end v x'
  right_none z {v} {x'} g pre post outer p l r h e a =
      let o = stays og n (ands e) l r in
      let b = node_words l ++ node_words r in
      subst (λ (s : Node). Placed x' v pre post (node_words (join og outer (nested_loop o) l s))) (sym (f.same z r (right_here og outer p l r h) e a))
      (subst (λ (w : List ℕ). Placed x' v pre post w) (ap (λ (s : List ℕ). joined s og outer o) (append-nil b) ∙ sym (node_shape (join og outer (nested_loop o) l r)))
      (g pre post outer p l r h e a b [] (sym (append-nil b)) (sources_long og outer p l r h) y₁ [] refl (nothing y₁ 0)))

  module _ {k : ℕ} (some : j ≡ Some k) {own : ℕ} (s : OwnStart x mid m own) {u : ℕ} {x₁ : List ℕ} (l₁ : length y₁ ≡ length y)
      (g : ReplacesEnd og n x y₁ t lo mid m tail cnf end own k u x₁) where
    module _ {pre post : List ℕ} (outer : Bool) (p : Expression) (l r : Node) (h : JoinHere x t lo mid m tail pre post og outer p l r) (e : Expression) (a : ExpressionHere cnf 0 end e) where
      right_own : Wrote y 0 (own_end (new_right og n (ands e) r)) k y₁
      right_own = f.own k some r (right_here og outer p l r h) e a

      right_low : length pre + length (node_words l) ≡ mid
      right_low = omega (arith, h.holds.low, h.left)

      right_start : mid + length (source_words (new_right og n (ands e) r)) ≡ own
      right_start = omega (arith, s r (right_here og outer p l r h), ap length (sources_stay og (part_for og Right n n (ands e)) r))

      right_placed : Placed x₁ u pre post (joined ((node_words l ++ source_words (new_right og n (ands e) r)) ++ (own_end (new_right og n (ands e) r) ++ [])) og outer (stays og n (ands e) l r))
      right_placed =
          let q = new_right og n (ands e) r in
          subst (λ (i : List ℕ). Placed x₁ u pre post (joined ((node_words l ++ i) ++ (own_end q ++ [])) og outer (stays og n (ands e) l r))) (sources_stay og (part_for og Right n n (ands e)) r)
          (g pre post outer p l r h e a (node_words l ++ source_words r) (rest r)
          (ap (λ (i : List ℕ). node_words l ++ i) (rest_is r) ∙ sym (append_assoc (node_words l) (source_words r) (rest r)))
          (omega (arith, length-append (node_words l) (source_words r), h.left, s r (right_here og outer p l r h)))
          y (own_end q ++ []) l₁ (subst (λ (i : List ℕ). Wrote y 0 i k y₁) (sym (append-nil (own_end q))) right_own))

      right_shape : joined (node_words l ++ (node_words (new_right og n (ands e) r) ++ [])) og outer (stays og n (ands e) l r)
          ≡ node_words (join og outer (nested_loop (stays og n (ands e) l r)) l (new_right og n (ands e) r))
      right_shape =
          let q = new_right og n (ands e) r in
          let o = stays og n (ands e) l r in
          ap (λ (i : List ℕ). joined (node_words l ++ i) og outer o) (append-nil (node_words q)) ∙ sym (node_shape (join og outer (nested_loop o) l q))

    pub right_full : length x₁ < u → SplitsRight og n x t lo mid m tail cnf end u x₁
    right_full z pre post outer p l r h e a =
        subst (λ (w : List ℕ). Placed x₁ u pre post w) (right_shape outer p l r h e a)
        (seal_full (node_words l) (new_right og n (ands e) r) [] og outer (stays og n (ands e) l r) (right_placed outer p l r h e a) z)

    module _ (l₀ : length y ≡ length x₁) (z : u ≤ length x₁) (short : Short x₁) where
      pub right_room : JoinAt x t lo mid m tail og → ExpressionAt cnf 0 end → (own ≤ u) × ((k ≤ u - own) × ((mid + cell_words + (u - own - k) ≤ u) × (u ≤ length x₁)))
      right_room h e =
          seal_room (node_words h.l) (new_right og n (ands e.e) h.r) [] og h.outer (stays og n (ands e.e) h.l h.r)
          (right_placed h.outer h.p h.l h.r h.here e.e e.here) z
          (right_low h.outer h.p h.l h.r h.here e.e e.here) (right_start h.outer h.p h.l h.r h.here e.e e.here)
          (right_own h.outer h.p h.l h.r h.here e.e e.here) l₀ short

      pub right_done : {v : ℕ} {x₂ : List ℕ} → length x₂ ≡ length x₁ → Reseals x₁ u mid (u - own - k) v x₂ → SplitsRight og n x t lo mid m tail cnf end v x₂
      right_done {v} {x₂} l₂ c pre post outer p l r h e a =
          subst (λ (w : List ℕ). Placed x₂ v pre post w) (right_shape outer p l r h e a)
          (sealed (node_words l) (new_right og n (ands e) r) [] og outer (stays og n (ands e) l r) (right_placed outer p l r h e a) z (right_low outer p l r h e a)
          (right_start outer p l r h e a) (right_own outer p l r h e a) l₀ short l₂ c)

-- ---- the left source's part

module _ (og n : ℕ) {x : List ℕ} {t lo mid m tail : ℕ} {cnf : List ℕ} {end : ℕ} {y : List ℕ} {j : code.Option ℕ} {y₁ : List ℕ} (f : WritesOwn og Left n 0 x lo mid cnf end y j y₁) where
  pub left_none : j ≡ None → {v : ℕ} {x' : List ℕ} → SplitsRight og n x t lo mid m tail cnf end v x' → SplitsBoth og n x t lo mid m tail cnf end v x'
  left_none z {v} {x'} g pre post outer p l r h e a =
      subst (λ (s : Node). Placed x' v pre post (node_words (join og outer (nested_loop (stays og n (ands e) l r)) s (new_right og n (ands e) r)))) (sym (f.same z l (left_here og outer p l r h) e a))
      (g pre post outer p l r h e a)

  module _ {k : ℕ} (some : j ≡ Some k) {own : ℕ} (s : OwnStart x lo mid own) {b : ℕ} {y₂ : List ℕ} (l₁ : length y₁ ≡ length y) (l₂ : length y₂ ≡ length y₁)
      (w : PushesPart og Right n n x mid m cnf end y₁ k b y₂) {u : ℕ} {x₁ : List ℕ} (g : ReplacesEnd og n x y₂ t lo mid m tail cnf end own b u x₁) where
    module _ {pre post : List ℕ} (outer : Bool) (p : Expression) (l r : Node) (h : JoinHere x t lo mid m tail pre post og outer p l r) (e : Expression) (a : ExpressionHere cnf 0 end e) where
      left_own : Wrote y 0 (own_end (new_left og n (ands e) l)) k y₁
      left_own = f.own k some l (left_here og outer p l r h) e a

      left_start : lo + length (source_words (new_left og n (ands e) l)) ≡ own
      left_start = omega (arith, s l (left_here og outer p l r h), ap length (sources_stay og (part_for og Left n 0 (ands e)) l))

      left_placed : Placed x₁ u pre post (joined (source_words (new_left og n (ands e) l) ++ (own_end (new_left og n (ands e) l) ++ node_words (new_right og n (ands e) r))) og outer (stays og n (ands e) l r))
      left_placed =
          let q = new_left og n (ands e) l in
          let v = node_words (new_right og n (ands e) r) in
          subst (λ (i : List ℕ). Placed x₁ u pre post (joined (i ++ (own_end q ++ v)) og outer (stays og n (ands e) l r))) (sources_stay og (part_for og Left n 0 (ands e)) l)
          (g pre post outer p l r h e a (source_words l) (rest l ++ node_words r)
          (ap (λ (i : List ℕ). i ++ node_words r) (rest_is l) ∙ append_assoc (source_words l) (rest l) (node_words r))
          (sym (s l (left_here og outer p l r h)))
          y (own_end q ++ v) (l₂ ∙ l₁) (then l₁ left_own (w r (right_here og outer p l r h) e a)))

      left_shape : joined (node_words (new_left og n (ands e) l) ++ node_words (new_right og n (ands e) r)) og outer (stays og n (ands e) l r)
          ≡ node_words (join og outer (nested_loop (stays og n (ands e) l r)) (new_left og n (ands e) l) (new_right og n (ands e) r))
      left_shape = sym (node_shape (join og outer (nested_loop (stays og n (ands e) l r)) (new_left og n (ands e) l) (new_right og n (ands e) r)))

    pub left_full : length x₁ < u → SplitsBoth og n x t lo mid m tail cnf end u x₁
    left_full z pre post outer p l r h e a =
        subst (λ (w : List ℕ). Placed x₁ u pre post w) (left_shape outer p l r h e a)
        (seal_full [] (new_left og n (ands e) l) (node_words (new_right og n (ands e) r)) og outer (stays og n (ands e) l r) (left_placed outer p l r h e a) z)

    module _ (l₀ : length y ≡ length x₁) (z : u ≤ length x₁) (short : Short x₁) where
      pub left_room : JoinAt x t lo mid m tail og → ExpressionAt cnf 0 end → (own ≤ u) × ((k ≤ u - own) × ((lo + cell_words + (u - own - k) ≤ u) × (u ≤ length x₁)))
      left_room h e =
          seal_room [] (new_left og n (ands e.e) h.l) (node_words (new_right og n (ands e.e) h.r)) og h.outer (stays og n (ands e.e) h.l h.r)
          (left_placed h.outer h.p h.l h.r h.here e.e e.here) z (omega (arith, h.here.holds.low))
          (left_start h.outer h.p h.l h.r h.here e.e e.here) (left_own h.outer h.p h.l h.r h.here e.e e.here) l₀ short

      pub left_done : {v : ℕ} {x₂ : List ℕ} → length x₂ ≡ length x₁ → Reseals x₁ u lo (u - own - k) v x₂ → SplitsBoth og n x t lo mid m tail cnf end v x₂
      left_done {v} {x₂} l₃ c pre post outer p l r h e a =
          subst (λ (w : List ℕ). Placed x₂ v pre post w) (left_shape outer p l r h e a)
          (sealed [] (new_left og n (ands e) l) (node_words (new_right og n (ands e) r)) og outer (stays og n (ands e) l r) (left_placed outer p l r h e a) z (omega (arith, h.holds.low))
          (left_start outer p l r h e a) (left_own outer p l r h e a) l₀ short l₃ c)

-- ---- the split

split_origin : {x : List ℕ} {t lo tail : ℕ} {pre post : List ℕ} (og : ℕ) (outer : Bool) (p : Expression) (l r : Node) → Holds x t lo tail pre post (join og outer (nested_loop (some p)) l r)
    → origin_at x (t - tail) ≡ og
split_origin og outer p l r h = origin_here (join og outer (nested_loop (some p)) l r) (holds_here h)

pub split_in : {records x : List ℕ} {t lo tail : ℕ} → SplitAt records x t lo tail → (tail ≤ t) × ((cell_words ≤ t - tail) × (t - tail ≤ length x))
split_in g =
    let (a, b) = node_in (join g.og g.outer (nested_loop (some g.p)) g.l g.r) (holds_here g.holds) in
    (omega arith, (omega arith, b))

module _ {x : List ℕ} {t lo tail m : ℕ} (own : OwnStart x lo (t - tail) m) where
  pub right_sized : {records : List ℕ} → SplitAt records x t lo tail → Sized x m
  right_sized g =
      sources_sized g.og g.outer (nested_loop (some g.p)) g.l g.r (holds_here g.holds) (own (join g.og g.outer (nested_loop (some g.p)) g.l g.r) (holds_here g.holds))

  module _ {mid : ℕ} (st : mid ≡ start_at x m) where
    module _ {pre post : List ℕ} (og : ℕ) (outer : Bool) (p : Expression) (l r : Node) (h : Holds x t lo tail pre post (join og outer (nested_loop (some p)) l r)) where
      left_source : NodeHere x lo mid l
      left_source = join_left og outer (nested_loop (some p)) l r (holds_here h) (own (join og outer (nested_loop (some p)) l r) (holds_here h)) st

      join_here : JoinHere x t lo mid m tail pre post og outer p l r
      join_here =
          record {
            holds = h;
            left = left_source.part.high;
            right = (join_right og outer (nested_loop (some p)) l r (holds_here h) (own (join og outer (nested_loop (some p)) l r) (holds_here h)) st).part.high;
          }

    pub join_at : {records : List ℕ} → SplitAt records x t lo tail → {origin : ℕ} → origin ≡ origin_at x (t - tail) → JoinAt x t lo mid m tail origin
    join_at g q =
        subst (λ (og : ℕ). JoinAt x t lo mid m tail og) (sym (q ∙ split_origin g.og g.outer g.p g.l g.r g.holds))
        (record {
          pre = g.pre;
          post = g.post;
          outer = g.outer;
          p = g.p;
          l = g.l;
          r = g.r;
          here = join_here g.og g.outer g.p g.l g.r g.holds;
          short = omega (arith, g.short);
        })

    pub left_columns : {records : List ℕ} → SplitAt records x t lo tail → ColumnsAt records x lo mid
    left_columns g =
        record {
          schema = g.schema;
          tables = g.tables;
          p = g.l;
          here = left_source g.og g.outer g.p g.l g.r g.holds;
          narrow = g.narrow;
          short =
              let h = join_here g.og g.outer g.p g.l g.r g.holds in
              omega (arith, h.right, (end_below g.og g.outer g.p g.l g.r h).1.0, g.holds.inside, g.short);
        }

pub split_whole : {records x : List ℕ} {t lo tail m mid n origin : ℕ} → OwnStart x lo (t - tail) m → mid ≡ start_at x m → ColumnCount records x lo mid n → origin ≡ origin_at x (t - tail)
    → {cnf : List ℕ} {end q : ℕ} {x' : List ℕ} → SplitsBoth origin n x t lo mid m tail cnf end q x' → Splits records x t lo tail cnf end q x'
split_whole {x = x} {t} {lo} {tail} {m} {mid} {n} own st count i {cnf} {end} {q} {x'} f schema tables pre post og outer p l r h e v =
    subst (λ (i : ℕ). Placed x' q pre post (node_words (split og i outer (ands e) l r))) (count schema l tables (left_source own st og outer p l r h))
    (subst (λ (s : Node). Placed x' q pre post (node_words s)) (split_is og n outer (ands e) l r)
    (subst (λ (o : ℕ). SplitsBoth o n x t lo mid m tail cnf end q x') (i ∙ split_origin og outer p l r h) f pre post outer p l r (join_here own st og outer p l r h) e v))
