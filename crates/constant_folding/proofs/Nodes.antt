-- What folding a node leaves, from what its calls leave.
use Rattle.std.specs.Prelude.{Ok, Err}
use Prim.Native.Nat.{ℕ, ◌+◌, ◌-◌, ◌*◌, ◌≤◌, ◌<◌}
use native.Mathlib.Omega.{arith}
use mathlib.Core.Bool.{Bool}
use mathlib.Core.Path.{◌≡◌, refl, sym, ap, ◌∙◌, subst}
use mathlib.Core.List.{List, [], ◌∷◌, ◌++◌, append_assoc}
use mathlib.Core.Option.{Option, none, some}
use lib.ListN.{length, length-append}
use Rattle.sql.specs.Plan.{node_origin, Leaf, scan, lookup, nothing, values, Over, Join, Node, leaf, over, join, node_size}
use Rattle.sql.specs.Answer.{Answer, done, refused, ◌>>=◌}
use Rattle.sql.specs.Optimizer.{fold_leaf, fold_over, fold_join, ConstantFolding}
use Rattle.sheet.specs.Content.{row_cell}
use Rattle.sheet_laws.specs.Fits.{All, Optional}
use Rattle.sheet_laws.proofs.Counts.{size_positive}
use Rattle.sound.specs.Answers.{answer_is}
use Rattle.cells.specs.declared.Cell.{Cell}
use Rattle.cells.specs.Cells.{cell_words, sized, cell_at, start_at, Part, Sized}
use Rattle.cells.specs.Room.{Short, Wrote, Seals, Copies}
use Rattle.cells.proofs.Laws.{part_left, part_right, part_in}
use Rattle.words.specs.Words.{cell, all_words, expression_words, row_words, node_words, leaf_own, over_own, join_own, leaf_cell, over_cell, join_cell, source_words, own_words, node_cell}
use Rattle.words.specs.Place.{NodeHere, NodeAt}
use Rattle.words.proofs.Nodes.{node_shape, node_cell_is, node_in, node_size_at, node_start, node_long, source_part}
use Rattle.words.proofs.Sizes.{sized_long, expression_long, words_long}
use Rattle.nodes.specs.Own.{OwnStart}
use Rattle.fold_operator.specs.declared.Failure.{Failure}
use Rattle.fold_operator.specs.Left.{Appended, Folded, number_of}
use Rattle.fold_operator.proofs.Parts.{appended, wrote}
use Rattle.fold_parts.specs.Leaves.{Leaves, UpTo}
use Rattle.fold_parts.specs.Parts.{PartFits}
use Rattle.fold_parts.specs.Own.{own_parts, OwnHere, OwnAt, OwnLeft, FoldsOwn}
use Rattle.fold_parts.proofs.Leaves.{appended_none, appended_then, appended_as, answer_as, said_as, up_to_as, refused_on, done_on, made_into, made_of}
use Rattle.constant_folding.specs.Nodes.{NodeFits, earlier_source, last_source, words_of, fold_source, SourcesAt, LastStart, SourceHere, SourceAt, FoldsSource, said, first_refusal, fold_own, Refuses}
use Rattle.constant_folding.proofs.Cells.{leaf_cell_kept, over_cell_kept, join_cell_kept}

-- ---- last_source

node_has_cell : (p : Node) → cell_words ≤ length (node_words p)
node_has_cell p = omega (arith, ap length (node_shape p), sized_long (source_words p ++ own_words p) (cell (node_origin p) (node_cell p)))

module _ {x : List ℕ} {lo m : ℕ} where
  pub last_none : m ≤ lo → LastStart x lo m lo
  last_none h (leaf og l) u = omega arith
  last_none h (over og o n) u = absurd (omega (arith, node_has_cell n, u.high))
  last_none h (join og outer j l r) u = absurd (omega (arith, node_has_cell l, u.high, length-append (node_words l) (node_words r)))

  module _ (h : lo < m) where
    pub last_sized : SourcesAt x lo m → Sized x m
    last_sized t = go t.p t.stand
      where
        go : (p : Node) → Part x lo m (source_words p) → Sized x m
        go (leaf og l) u = absurd (omega (arith, u.high))
        go (over og o n) u = node_size_at n (record { part = u })
        go (join og outer j l r) u = node_size_at r (record { part = part_right (node_words l) (node_words r) u })

    pub last_some : {mid : ℕ} → mid ≡ start_at x m → LastStart x lo m mid
    last_some e (leaf og l) u = absurd (omega (arith, u.high))
    last_some e (over og o n) u = let k = node_start n (record { part = u }) in omega arith
    last_some e (join og outer j l r) u = e ∙ node_start r (record { part = part_right (node_words l) (node_words r) u })

-- ---- where the sources stand

sources_are : (p : Node) → source_words p ≡ words_of (earlier_source p) ++ words_of (last_source p)
sources_are (leaf og l) = refl
sources_are (over og o n) = refl
sources_are (join og outer j l r) = refl

earlier_fits : (text : List ℕ) (p : Node) → NodeFits text p → Optional (NodeFits text) (earlier_source p)
earlier_fits text (leaf og l) f = tt
earlier_fits text (over og o n) f = tt
earlier_fits text (join og outer j l r) f = f.1.0

last_fits : (text : List ℕ) (p : Node) → NodeFits text p → Optional (NodeFits text) (last_source p)
last_fits text (leaf og l) f = tt
last_fits text (over og o n) f = f.1
last_fits text (join og outer j l r) f = f.1.1

own_fits : (text : List ℕ) (p : Node) → NodeFits text p → All (PartFits text) (own_parts p)
own_fits text (leaf og l) f = f
own_fits text (over og o n) f = f.0
own_fits text (join og outer j l r) f = f.0

-- from where the own words start, and the last source
module _ {x : List ℕ} {lo hi m : ℕ} (own : OwnStart x lo hi m) where
  sources_part : (p : Node) → NodeHere x lo hi p → Part x lo m (source_words p)
  sources_part p u = source_part p u (own p u)

  -- the number of the first own cell
  leaf_number : (first : ℕ) → lo ≡ cell_words * first → (og : ℕ) (l : Leaf) → NodeHere x lo hi (leaf og l) → m ≡ cell_words * first
  leaf_number first e og l u = omega (arith, own (leaf og l) u)

  over_number : (first : ℕ) → lo ≡ cell_words * first → (og : ℕ) (o : Over) (n : Node) → NodeHere x lo hi (over og o n) → m ≡ cell_words * (first + node_size n)
  over_number first e og o n u = omega (arith, own (over og o n) u, words_long n)

  join_number : (first : ℕ) → lo ≡ cell_words * first → (og : ℕ) (outer : Bool) (j : Join) (l r : Node) → NodeHere x lo hi (join og outer j l r) → m ≡ cell_words * (first + (node_size l + node_size r))
  join_number first e og outer j l r u = omega (arith, own (join og outer j l r) u, length-append (node_words l) (node_words r), words_long l, words_long r)

  module _ {mid : ℕ} (last : LastStart x lo m mid) where
    both : (p : Node) → NodeHere x lo hi p → Part x lo m (words_of (earlier_source p) ++ words_of (last_source p))
    both p u = subst (λ (w : List ℕ). Part x lo m w) (sources_are p) (sources_part p u)

    mid_is : (p : Node) (u : NodeHere x lo hi p) → lo + length (words_of (earlier_source p)) ≡ mid
    mid_is p u = sym (last p (sources_part p u))

    join_mid : (first : ℕ) → lo ≡ cell_words * first → (og : ℕ) (outer : Bool) (j : Join) (l r : Node) → NodeHere x lo hi (join og outer j l r) → mid ≡ cell_words * (first + node_size l)
    join_mid first e og outer j l r u = omega (arith, mid_is (join og outer j l r) u, words_long l)

    over_mid : (first : ℕ) → lo ≡ cell_words * first → (og : ℕ) (o : Over) (n : Node) → NodeHere x lo hi (over og o n) → mid ≡ cell_words * first
    over_mid first e og o n u = omega (arith, mid_is (over og o n) u)

module _ {text x : List ℕ} {lo hi : ℕ} where
  -- There is a node.
  pub by_node : (Q : Option Node → Type 0) → ((p : Node) → NodeHere x lo hi p → NodeFits text p → Q (some p)) → lo < hi → (source : Option Node) → SourceHere text x lo hi source → Q source
  by_node Q f h none u = absurd (omega (arith, u.stand.high))
  by_node Q f h (some p) u = f p (record { part = u.stand }) u.fit

  pub node_at : lo < hi → SourceAt text x lo hi → NodeAt x lo hi
  node_at h t = by_node (λ o. NodeAt x lo hi) (λ p u f. record { p = p; here = u }) h t.source t.here

  own_here : (p : Node) → NodeHere x lo hi p → NodeFits text p → OwnHere text x lo hi p
  own_here p u f = record { here = u; fit = own_fits text p f }

  module _ {m : ℕ} (own : OwnStart x lo hi m) where
    pub sources_at : lo < hi → SourceAt text x lo hi → SourcesAt x lo m
    sources_at h t = by_node (λ o. SourcesAt x lo m) (λ p u f. record { p = p; stand = sources_part own p u }) h t.source t.here

    pub own_in : lo < hi → SourceAt text x lo hi → (lo ≤ m) × ((m + cell_words ≤ hi) × (hi ≤ length x))
    own_in h t = by_node (λ o. (lo ≤ m) × ((m + cell_words ≤ hi) × (hi ≤ length x)))
        (λ p u f. (omega (arith, own p u), (omega (arith, own p u, node_long p u), (node_in p u).1))) h t.source t.here

    pub own_at : lo < hi → SourceAt text x lo hi → OwnAt text x lo hi m
    own_at h t = by_node (λ o. OwnAt text x lo hi m) go h t.source t.here
      where
        made : (p : Node) → NodeHere x lo hi p → NodeFits text p → (first : ℕ) → m ≡ cell_words * first → OwnAt text x lo hi m
        made p u f first e = record { p = p; here = own_here p u f; own = own; first = first; numbered = e; short = t.short }

        go : (p : Node) → NodeHere x lo hi p → NodeFits text p → OwnAt text x lo hi m
        go (leaf og l) u f = made (leaf og l) u f t.first (leaf_number own t.first t.numbered og l u)
        go (over og o n) u f = made (over og o n) u f (t.first + node_size n) (over_number own t.first t.numbered og o n u)
        go (join og outer j l r) u f = made (join og outer j l r) u f (t.first + (node_size l + node_size r)) (join_number own t.first t.numbered og outer j l r u)

    module _ {mid : ℕ} (last : LastStart x lo m mid) where
      earlier_here : (p : Node) → NodeHere x lo hi p → NodeFits text p → SourceHere text x lo mid (earlier_source p)
      earlier_here p u f = record {
        stand = subst (λ (n : ℕ). Part x lo n (words_of (earlier_source p))) (mid_is own last p u) (part_left (words_of (earlier_source p)) (words_of (last_source p)) (both own last p u));
        fit = earlier_fits text p f;
      }

      last_here : (p : Node) → NodeHere x lo hi p → NodeFits text p → SourceHere text x mid m (last_source p)
      last_here p u f = record {
        stand = subst (λ (n : ℕ). Part x n m (words_of (last_source p))) (mid_is own last p u) (part_right (words_of (earlier_source p)) (words_of (last_source p)) (both own last p u));
        fit = last_fits text p f;
      }

      pub mid_in : lo < hi → SourceAt text x lo hi → (lo ≤ mid) × (mid ≤ m)
      mid_in h t = by_node (λ o. (lo ≤ mid) × (mid ≤ m)) (λ p u f. ((part_in (earlier_here p u f).stand).0, (part_in (last_here p u f).stand).0)) h t.source t.here

      pub earlier_at : lo < hi → SourceAt text x lo hi → SourceAt text x lo mid
      earlier_at h t = by_node (λ o. SourceAt text x lo mid)
          (λ p u f. record { source = earlier_source p; here = earlier_here p u f; first = t.first; numbered = t.numbered; short = t.short }) h t.source t.here

      pub last_at : lo < hi → SourceAt text x lo hi → SourceAt text x mid m
      last_at h t = by_node (λ o. SourceAt text x mid m) go h t.source t.here
        where
          made : (p : Node) → NodeHere x lo hi p → NodeFits text p → (first : ℕ) → mid ≡ cell_words * first → SourceAt text x mid m
          made p u f first e = record { source = last_source p; here = last_here p u f; first = first; numbered = e; short = t.short }

          go : (p : Node) → NodeHere x lo hi p → NodeFits text p → SourceAt text x mid m
          go (leaf og l) u f = made (leaf og l) u f t.first (omega (arith, mid_is own last (leaf og l) u, t.numbered))
          go (over og o n) u f = made (over og o n) u f t.first (over_mid own last t.first t.numbered og o n u)
          go (join og outer j l r) u f = made (join og outer j l r) u f (t.first + node_size l) (join_mid own last t.first t.numbered og outer j l r u)

-- ---- what is appended

-- Some words are.
pub record SomeAppended (y : List ℕ) (at n : ℕ) (y' : List ℕ) : Type 0 where
  pub words : List ℕ
  pub is : Appended y at words n y'

some_left : {A : Type 0} {f : A → List ℕ} {y : List ℕ} {at n : ℕ} {y' : List ℕ} (a : Answer A) → Leaves f y at a (Ok n) y' → SomeAppended y at n y'
some_left {f = f} (done y) h = record { words = f y; is = h.left }
some_left (refused i p) h = absurd h.left

-- of the own parts, whatever kind of node it is
own_folded : {y : List ℕ} {at : ℕ} {r : Folded} {y' : List ℕ} (first : ℕ) (p : Node) → OwnLeft y at first p r y' → Leaves (λ w. w) y at (fold_own first p) r y'
own_folded first (leaf og l) h = made_into (fold_leaf first l) leaf_own (λ m. refl) h
own_folded first (over og o n) h = made_into (fold_over first o) over_own (λ p. refl) h
own_folded first (join og outer j l r) h = made_into (fold_join first j) join_own (λ k. refl) h

pub own_bound : {text x : List ℕ} {lo hi : ℕ} {y : List ℕ} {at m : ℕ} {q : Folded} {y' : List ℕ} {n : ℕ} → q ≡ Ok n → FoldsOwn text x lo hi y at m q y' → n ≤ at + (hi - cell_words - m)
own_bound e g = (up_to_as e g.within).ends

pub source_bound : {text x : List ℕ} {lo hi : ℕ} {y : List ℕ} {at : ℕ} {q : Folded} {y' : List ℕ} {n : ℕ} → q ≡ Ok n → FoldsSource text x lo hi y at q y' → n ≤ at + (hi - lo)
source_bound e g = (up_to_as e g.within).ends

own_appended : {text x : List ℕ} {lo hi : ℕ} {y : List ℕ} {at m : ℕ} {q : Folded} {y' : List ℕ} {n : ℕ} → OwnAt text x lo hi m → q ≡ Ok n
    → FoldsOwn text x lo hi y at m q y' → SomeAppended y at n y'
own_appended t e g = some_left (fold_own t.first t.p) (said_as e (own_folded t.first t.p (g.leaves t.first t.p t.numbered t.here)))

source_appended : {text x : List ℕ} {lo hi : ℕ} {y : List ℕ} {at : ℕ} {q : Folded} {y' : List ℕ} {n : ℕ} → SourceAt text x lo hi → q ≡ Ok n
    → FoldsSource text x lo hi y at q y' → SomeAppended y at n y'
source_appended t e g = some_left (fold_source t.first t.source) (said_as e (g.leaves t.first t.source t.numbered t.here))

-- ---- refuse

module _ {text x : List ℕ} {lo hi m : ℕ} {why : Failure} {y : List ℕ} {at : ℕ} {q : Folded} {y₁ : List ℕ} (g : FoldsOwn text x lo hi y at m q y₁) where
  pub refuses_then : {n : ℕ} → q ≡ Ok n → Refuses text x lo hi m why why
  refuses_then {n} e = record { is = λ first p k u. go (fold_own first p) (said_as e (own_folded first p (g.leaves first p k u))) }
    where
      go : (a : Answer (List ℕ)) → Leaves (λ w. w) y at a (Ok n) y₁ → said why ≡ first_refusal a (number_of why) why.place
      go (done w) h = refl
      go (refused i c) h = absurd h.left

  pub refuses_first : {own : Failure} → q ≡ Err own → Refuses text x lo hi m why own
  refuses_first {own} e = record { is = λ first p k u. go (fold_own first p) (said_as e (own_folded first p (g.leaves first p k u))) }
    where
      go : (a : Answer (List ℕ)) → Leaves (λ w. w) y at a (Err own) y₁ → said own ≡ first_refusal a (number_of why) why.place
      go (done w) h = absurd h.left
      go (refused j d) h = ap (λ (n : ℕ). (n, own.place)) h.left.0 ∙ ap (λ (n : ℕ). (j, n)) h.left.1

module _ {A : Type 0} {g : A → List ℕ} {d : List ℕ} {at : ℕ} {d' : List ℕ} {r : Failure} where
  -- A failure is left where what it says is.
  left_as : {why : Failure} (a : Answer A) → said r ≡ said why → Leaves g d at a (Err why) d' → Leaves g d at a (Err r) d'
  left_as (done y) e h = absurd h.left
  left_as (refused i p) e h = record { left = (ap (λ (s : ℕ × ℕ). s.0) e ∙ h.left.0, ap (λ (s : ℕ × ℕ). s.1) e ∙ h.left.1) }

-- The own parts' refusal, or that of what is folded after them.
refused_after : {A B : Type 0} {g : B → List ℕ} {d : List ℕ} {at : ℕ} {d' : List ℕ} {why r : Failure} (a : Answer A) (own : A → List ℕ) (k : A → Answer B)
    → ((y : A) → Leaves g d at (k y) (Err why) d') → said r ≡ first_refusal (a >>= λ y. done (own y)) (number_of why) why.place → Leaves g d at (a >>= k) (Err r) d'
refused_after (done y) own k h e = left_as (k y) e (h y)
refused_after (refused i p) own k h e = record { left = (ap (λ (s : ℕ × ℕ). s.0) e, ap (λ (s : ℕ × ℕ). s.1) e) }

-- ---- fold_node

pub source_none : {text x : List ℕ} {lo hi : ℕ} {y : List ℕ} {at : ℕ} → hi ≤ lo → FoldsSource text x lo hi y at (Ok at) y
source_none {text} {x} {lo} {hi} {y} {at} h = record { leaves = go; within = record { ends = omega arith } }
  where
    go : (first : ℕ) (source : Option Node) → lo ≡ cell_words * first → SourceHere text x lo hi source → Leaves words_of y at (fold_source first source) (Ok at) y
    go first none e u = record { left = appended_none y at }
    go first (some p) e u = absurd (omega (arith, node_has_cell p, u.stand.high))

-- A node of one cell folds to itself.

leaf_alone : (first : ℕ) (l : Leaf) → length (leaf_own l) ≡ 0 → fold_leaf first l ≡ done l
leaf_alone first (scan t al none) h = refl
leaf_alone first (scan t al (some e)) h = absurd (omega (arith, expression_long e, size_positive e))
leaf_alone first (lookup a t al vs) h = refl
leaf_alone first (nothing ls) h = refl
leaf_alone first (values []) h = refl
leaf_alone first (values (r ∷ rs)) h =
    absurd (omega (arith, length-append (row_words r) (all_words row_words rs), sized_long (all_words expression_words r.0) (cell r.1 (row_cell (length r.0)))))

node_alone : {x : List ℕ} {lo hi : ℕ} (first : ℕ) (p : Node) → NodeHere x lo hi p → hi - lo ≡ cell_words → ConstantFolding first p ≡ done p
node_alone first (leaf og l) u h = ap (λ (a : Answer Leaf). a >>= λ m. done (leaf og m)) (leaf_alone first l (omega (arith, node_long (leaf og l) u)))
node_alone first (over og o n) u h = absurd (omega (arith, node_long (over og o n) u, node_has_cell n))
node_alone first (join og outer j l r) u h = absurd (omega (arith, node_long (join og outer j l r) u, node_has_cell l, length-append (node_words l) (node_words r)))

module _ {text x : List ℕ} {lo hi : ℕ} where
  pub source_in : lo < hi → SourceAt text x lo hi → (lo ≤ hi) × (hi ≤ length x)
  source_in h t = by_node (λ o. (lo ≤ hi) × (hi ≤ length x)) (λ p u f. (omega arith, (node_in p u).1)) h t.source t.here

  pub source_single : {y : List ℕ} {at r : ℕ} {y₁ : List ℕ} → hi - lo ≡ cell_words → (at + (hi - lo) ≤ length y) × Short y → SourceAt text x lo hi → Copies x lo hi y at r y₁
      → FoldsSource text x lo hi y at (Ok r) y₁
  source_single {y} {at} {r} {y₁} h (room, few) t c = record {
    leaves = λ first source k u. by_node (λ o. Leaves words_of y at (fold_source first o) (Ok r) y₁)
        (λ p v f. made_into (ConstantFolding first p) some (λ q. refl) (answer_as (sym (node_alone first p v h)) (record { left = copied p v }))) (omega arith) source u;
    within = record { ends = by_node (λ o. r ≤ at + (hi - lo)) (λ p v f. omega (arith, (copied p v).ends, v.part.high)) (omega arith) t.source t.here };
  }
    where
      copied : (p : Node) → NodeHere x lo hi p → Appended y at (node_words p) r y₁
      copied p v = appended (c (node_words p) v.part) few (omega (arith, v.part.high))

-- the answer without its `some`
pub node_left : {y : List ℕ} {at : ℕ} {r : Folded} {y' : List ℕ} (first : ℕ) (p : Node) → Leaves words_of y at (fold_source first (some p)) r y' → Leaves node_words y at (ConstantFolding first p) r y'
node_left first p h = made_of (ConstantFolding first p) some (λ q. refl) h

-- a node that its own cell closes
module _ {x : List ℕ} {lo hi : ℕ} where
  leaf_words : (first og : ℕ) (l m : Leaf) → NodeHere x lo hi (leaf og l) → fold_leaf first l ≡ done m → sized (([] ++ []) ++ leaf_own m) (cell_at x hi) ≡ node_words (leaf og m)
  unfolding node_words
  leaf_words first og l m u e =
      ap (λ (k : Cell). sized (leaf_own m) k) (node_cell_is (leaf og l) u ∙ ap (cell og) (sym (answer_is (λ m. leaf_cell m ≡ leaf_cell l) (fold_leaf first l) m (leaf_cell_kept first l) e)))

  over_words : (first og : ℕ) (o p : Over) (n s : Node) → NodeHere x lo hi (over og o n) → fold_over first o ≡ done p → sized (([] ++ node_words s) ++ over_own p) (cell_at x hi) ≡ node_words (over og p s)
  unfolding node_words
  over_words first og o p n s u e =
      ap (λ (k : Cell). sized (node_words s ++ over_own p) k) (node_cell_is (over og o n) u ∙ ap (cell og) (sym (answer_is (λ m. over_cell m ≡ over_cell o) (fold_over first o) p (over_cell_kept first o) e)))

  join_words : (first og : ℕ) (outer : Bool) (j k : Join) (l r a b : Node) → NodeHere x lo hi (join og outer j l r) → fold_join first j ≡ done k
      → sized ((node_words a ++ node_words b) ++ join_own k) (cell_at x hi) ≡ node_words (join og outer k a b)
  unfolding node_words
  join_words first og outer j k l r a b u e =
      ap (λ (w : List ℕ). sized w (cell_at x hi)) (append_assoc (node_words a) (node_words b) (join_own k))
      ∙ ap (λ (c : Cell). sized (node_words a ++ (node_words b ++ join_own k)) c)
      (node_cell_is (join og outer j l r) u ∙ ap (cell og) (sym (answer_is (λ m. join_cell outer m ≡ join_cell outer j) (fold_join first j) k (join_cell_kept outer first j) e)))

module _ {text x : List ℕ} {lo hi m mid : ℕ} (h : lo < hi) (own : OwnStart x lo hi m) (last : LastStart x lo m mid) {y : List ℕ} {at : ℕ} where
  node_folded : {r : Folded} {y' : List ℕ}
      → ((first : ℕ) → lo ≡ cell_words * first → (p : Node) → NodeHere x lo hi p → NodeFits text p → Leaves node_words y at (ConstantFolding first p) r y')
      → UpTo (at + (hi - lo)) r → FoldsSource text x lo hi y at r y'
  node_folded {r} {y'} go w = record {
    leaves = λ first source k u. by_node (λ o. Leaves words_of y at (fold_source first o) r y')
        (λ p v f. made_into (ConstantFolding first p) some (λ q. refl) (go first k p v f)) h source u;
    within = w;
  }

  module _ {q₂ : Folded} {y₁ : List ℕ} (g₂ : FoldsSource text x lo mid y at q₂ y₁) where
    pub earlier_refused : {why : Failure} → q₂ ≡ Err why → {r : Failure} {y' : List ℕ} → Refuses text x lo hi m why r → FoldsSource text x lo hi y at (Err r) y'
    earlier_refused {why} e {r} {y'} w = node_folded go (record { ends = tt })
      where
        go : (first : ℕ) → lo ≡ cell_words * first → (p : Node) → NodeHere x lo hi p → NodeFits text p → Leaves node_words y at (ConstantFolding first p) (Err r) y'
        go first k (leaf og l) v f = absurd (said_as e (g₂.leaves first none k (earlier_here own last (leaf og l) v f))).left
        go first k (over og o s) v f = absurd (said_as e (g₂.leaves first none k (earlier_here own last (over og o s) v f))).left
        go first k (join og outer c a b) v f =
            refused_after (fold_join (first + (node_size a + node_size b)) c) join_own
            (λ k. ConstantFolding first a >>= λ l. ConstantFolding (first + node_size a) b >>= λ r. done (join og outer k l r))
            (λ d. refused_on (ConstantFolding first a) (λ l. ConstantFolding (first + node_size a) b >>= λ r. done (join og outer d l r))
            (node_left first a (said_as e (g₂.leaves first (some a) k (earlier_here own last (join og outer c a b) v f)))))
            (w.is (first + (node_size a + node_size b)) (join og outer c a b) (join_number own first k og outer c a b v) (own_here (join og outer c a b) v f))

    module _ {e : ℕ} (q₂e : q₂ ≡ Ok e) {q₃ : Folded} {y₂ : List ℕ} (g₃ : FoldsSource text x mid m y₁ e q₃ y₂) where
      join_earlier : (first : ℕ) → lo ≡ cell_words * first → (og : ℕ) (outer : Bool) (c : Join) (a b : Node) → NodeHere x lo hi (join og outer c a b) → NodeFits text (join og outer c a b)
          → Leaves node_words y at (ConstantFolding first a) (Ok e) y₁
      join_earlier first k og outer c a b v f = node_left first a (said_as q₂e (g₂.leaves first (some a) k (earlier_here own last (join og outer c a b) v f)))

      pub last_refused : {why : Failure} → q₃ ≡ Err why → {r : Failure} {y' : List ℕ} → Refuses text x lo hi m why r → FoldsSource text x lo hi y at (Err r) y'
      last_refused {why} z {r} {y'} w = node_folded go (record { ends = tt })
        where
          go : (first : ℕ) → lo ≡ cell_words * first → (p : Node) → NodeHere x lo hi p → NodeFits text p → Leaves node_words y at (ConstantFolding first p) (Err r) y'
          go first k (leaf og l) v f = absurd (said_as z (g₃.leaves first none (omega (arith, mid_is own last (leaf og l) v)) (last_here own last (leaf og l) v f))).left
          go first k (over og o s) v f =
              refused_after (fold_over (first + node_size s) o) over_own (λ p. ConstantFolding first s >>= λ t. done (over og p t))
              (λ d. refused_on (ConstantFolding first s) (λ t. done (over og d t))
              (node_left first s (said_as z (g₃.leaves first (some s) (over_mid own last first k og o s v) (last_here own last (over og o s) v f)))))
              (w.is (first + node_size s) (over og o s) (over_number own first k og o s v) (own_here (over og o s) v f))
          go first k (join og outer c a b) v f =
              refused_after (fold_join (first + (node_size a + node_size b)) c) join_own
              (λ k. ConstantFolding first a >>= λ l. ConstantFolding (first + node_size a) b >>= λ r. done (join og outer k l r))
              (λ d. done_on (ConstantFolding first a) (λ l. ConstantFolding (first + node_size a) b >>= λ r. done (join og outer d l r)) (join_earlier first k og outer c a b v f)
              (λ l _ _. refused_on (ConstantFolding (first + node_size a) b) (λ r. done (join og outer d l r))
              (node_left (first + node_size a) b (said_as z (g₃.leaves (first + node_size a) (some b) (join_mid own last first k og outer c a b v) (last_here own last (join og outer c a b) v f))))))
              (w.is (first + (node_size a + node_size b)) (join og outer c a b) (join_number own first k og outer c a b v) (own_here (join og outer c a b) v f))

      module _ {i : ℕ} (q₃e : q₃ ≡ Ok i) {q : Folded} {y₃ : List ℕ} (g : FoldsOwn text x lo hi y₂ i m q y₃) where
        pub own_refused : {why : Failure} → q ≡ Err why → FoldsSource text x lo hi y at (Err why) y₃
        own_refused {why} z = node_folded go (record { ends = tt })
          where
            go : (first : ℕ) → lo ≡ cell_words * first → (p : Node) → NodeHere x lo hi p → NodeFits text p → Leaves node_words y at (ConstantFolding first p) (Err why) y₃
            go first n (leaf og l) v f = refused_on (fold_leaf first l) (λ m. done (leaf og m)) (said_as z (g.leaves first (leaf og l) (leaf_number own first n og l v) (own_here (leaf og l) v f)))
            go first n (over og o s) v f =
                refused_on (fold_over (first + node_size s) o) (λ p. ConstantFolding first s >>= λ t. done (over og p t))
                (said_as z (g.leaves (first + node_size s) (over og o s) (over_number own first n og o s v) (own_here (over og o s) v f)))
            go first n (join og outer c a b) v f =
                refused_on (fold_join (first + (node_size a + node_size b)) c)
                (λ k. ConstantFolding first a >>= λ l. ConstantFolding (first + node_size a) b >>= λ r. done (join og outer k l r))
                (said_as z (g.leaves (first + (node_size a + node_size b)) (join og outer c a b) (join_number own first n og outer c a b v) (own_here (join og outer c a b) v f)))

        module _ {n : ℕ} (qe : q ≡ Ok n) where
          -- what each call leaves, by the kind of node
          leaf_own_left : (first : ℕ) → lo ≡ cell_words * first → (og : ℕ) (l : Leaf) → NodeHere x lo hi (leaf og l) → NodeFits text (leaf og l) → Leaves leaf_own y₂ i (fold_leaf first l) (Ok n) y₃
          leaf_own_left first e og l u f = said_as qe (g.leaves first (leaf og l) (leaf_number own first e og l u) (own_here (leaf og l) u f))

          over_own_left : (first : ℕ) → lo ≡ cell_words * first → (og : ℕ) (o : Over) (s : Node) → NodeHere x lo hi (over og o s) → NodeFits text (over og o s)
              → Leaves over_own y₂ i (fold_over (first + node_size s) o) (Ok n) y₃
          over_own_left first e og o s u f = said_as qe (g.leaves (first + node_size s) (over og o s) (over_number own first e og o s u) (own_here (over og o s) u f))

          join_own_left : (first : ℕ) → lo ≡ cell_words * first → (og : ℕ) (outer : Bool) (c : Join) (a b : Node) → NodeHere x lo hi (join og outer c a b) → NodeFits text (join og outer c a b)
              → Leaves join_own y₂ i (fold_join (first + (node_size a + node_size b)) c) (Ok n) y₃
          join_own_left first e og outer c a b u f =
              said_as qe (g.leaves (first + (node_size a + node_size b)) (join og outer c a b) (join_number own first e og outer c a b u) (own_here (join og outer c a b) u f))

          module _ (t : SourceAt text x lo hi) (room : (at + (hi - lo) ≤ length y) × Short y) (long : length y₃ ≡ length y) {k : Cell} (ke : k ≡ cell_at x hi) {r : ℕ} {y₄ : List ℕ} (c : Seals y₃ at n k r y₄) where
            closed_room : (v w o : List ℕ) → Appended y at v e y₁ → Appended y₁ e w i y₂ → Appended y₂ i o n y₃ → at + length (sized ((v ++ w) ++ o) (cell_at x hi)) ≤ at + (hi - lo)
            closed_room v w o a b d =
                let (j₁, (j₂, j₃)) = own_in own h t in
                let (j₄, j₅) = mid_in own last h t in
                omega (arith, sized_long ((v ++ w) ++ o) (cell_at x hi), length-append (v ++ w) o, length-append v w, a.ends, b.ends, d.ends, own_bound qe g, source_bound q₂e g₂, source_bound q₃e g₃)

            closed : (v w o : List ℕ) → Appended y at v e y₁ → Appended y₁ e w i y₂ → Appended y₂ i o n y₃ → Appended y at (sized ((v ++ w) ++ o) (cell_at x hi)) r y₄
            closed v w o a b d =
                let j = closed_room v w o a b d in
                let l = appended_then (appended_then a b) d in
                appended (subst (λ (k : Cell). Wrote y at (sized ((v ++ w) ++ o) k) r y₄) ke
                (c y ((v ++ w) ++ o) long (wrote l (omega (arith, room.0, sized_long ((v ++ w) ++ o) (cell_at x hi)))))) room.1 (omega (arith, room.0))

            node_done : (first : ℕ) → lo ≡ cell_words * first → (p : Node) → NodeHere x lo hi p → NodeFits text p → Leaves node_words y at (ConstantFolding first p) (Ok r) y₄
            node_done first k (leaf og l) v f =
                done_on (fold_leaf first l) (λ m. done (leaf og m)) (leaf_own_left first k og l v f)
                (λ d de da. record {
                  left = appended_as (leaf_words first og l d v de) (closed [] [] (leaf_own d)
                      (said_as q₂e (g₂.leaves first none k (earlier_here own last (leaf og l) v f))).left
                      (said_as q₃e (g₃.leaves first none (omega (arith, mid_is own last (leaf og l) v)) (last_here own last (leaf og l) v f))).left da);
                })
            node_done first k (over og o s) v f =
                done_on (fold_over (first + node_size s) o) (λ p. ConstantFolding first s >>= λ t. done (over og p t)) (over_own_left first k og o s v f)
                (λ d de da. done_on (ConstantFolding first s) (λ t. done (over og d t))
                (node_left first s (said_as q₃e (g₃.leaves first (some s) (over_mid own last first k og o s v) (last_here own last (over og o s) v f))))
                (λ t _ ta. record {
                  left = appended_as (over_words (first + node_size s) og o d s t v de) (closed [] (node_words t) (over_own d)
                      (said_as q₂e (g₂.leaves first none k (earlier_here own last (over og o s) v f))).left ta da);
                }))
            node_done first k (join og outer j a b) v f =
                done_on (fold_join (first + (node_size a + node_size b)) j) (λ k. ConstantFolding first a >>= λ l. ConstantFolding (first + node_size a) b >>= λ r. done (join og outer k l r))
                (join_own_left first k og outer j a b v f)
                (λ d de da. done_on (ConstantFolding first a) (λ l. ConstantFolding (first + node_size a) b >>= λ r. done (join og outer d l r)) (join_earlier first k og outer j a b v f)
                (λ l _ la. done_on (ConstantFolding (first + node_size a) b) (λ r. done (join og outer d l r))
                (node_left (first + node_size a) b (said_as q₃e (g₃.leaves (first + node_size a) (some b) (join_mid own last first k og outer j a b v) (last_here own last (join og outer j a b) v f))))
                (λ r _ ra. record { left = appended_as (join_words (first + (node_size a + node_size b)) og outer j d a b l r v de) (closed (node_words l) (node_words r) (join_own d) la ra da) })))

            pub node_closed : FoldsSource text x lo hi y at (Ok r) y₄
            node_closed = node_folded node_done (record { ends = ended })
              where
                of_words : (v w o : List ℕ) → Appended y at v e y₁ → Appended y₁ e w i y₂ → Appended y₂ i o n y₃ → r ≤ at + (hi - lo)
                of_words v w o a b d = omega (arith, (closed v w o a b d).ends, closed_room v w o a b d)

                ended : r ≤ at + (hi - lo)
                ended =
                    let a = source_appended (earlier_at own last h t) q₂e g₂ in
                    let b = source_appended (last_at own last h t) q₃e g₃ in
                    let d = own_appended (own_at own h t) qe g in
                    of_words a.words b.words d.words a.is b.is d.is
