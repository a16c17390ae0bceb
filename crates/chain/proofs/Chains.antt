-- Laws on chains: going down through one, its words, and its words over another node.
use Prim.Native.Nat.{ℕ, ◌+◌, ◌-◌, ◌*◌, ◌≤◌, ◌<◌}
use native.Mathlib.Omega.{arith}
use borrow.Author.Tests.{eq-eqb}
use lib.Dec.{eqb}
use mathlib.Core.Bool.{Bool, true, false, not}
use mathlib.Core.Path.{◌≡◌, refl, sym, ap, ◌∙◌}
use mathlib.Core.List.{List, [], ◌∷◌, ◌++◌, append_assoc, append-nil}
use mathlib.Core.Option.{Option, none, some}
use lib.ListN.{length, length-append}
use Rattle.sql.specs.Expression.{Marked, IsNull, IsNaN, Identity, Negate, SquareRoot, Unary, Not, function, Expression, constant, column, unary, binary}
use Rattle.sql.specs.Plan.{Label, unlabelled, unqualified, qualified, Other, limit, offset, order, projection, remap, aggregate, filter, other, Node, leaf, over, join, over_size, node_size}
use Rattle.sql.specs.Answer.{Answer, done, refused, ◌>>=◌}
use Rattle.sheet.specs.Content.{Content, bit, constant_cell, column_cell, unary_cell, binary_cell, item_cell, key_cell, target_cell, agg_cell, unary_tag}
use Rattle.cells.specs.Cells.{cell_words, words, sized, tag_at}
use Rattle.words.specs.Words.{cell, all_words, expression_words, item_words, key_words, agg_words, target_words, over_own, over_cell, node_words, source_count}
use Rattle.words.specs.Place.{NodeHere, NodeAt}
use Rattle.words.proofs.Expressions.{tag, tag_cell, constant_tag, binary_range}
use Rattle.words.proofs.Nodes.{node_tag, source_part, node_in}
use Rattle.words.proofs.Tags.{tag_of, over_tag, tagged, tag_known}
use Rattle.words.proofs.Sizes.{over_long}
use Rattle.nodes.specs.Own.{OwnStart, SourceCount}
use Rattle.chain.specs.Chain.{chain, sizes, behind_one, behind, is_other, IsOther, Through, GoesDown}
use Rattle.chain.specs.Resized.{resized}
use Rattle.chain.proofs.Resizing.{Plain, plain_none, plain_both, plain_sized, node_resized}

-- ---- whether a node is one of a chain

other_tag : (o : Other) → over_tag (other o) ≡ 51 → ⊥
other_tag (limit n) h = absurd (omega arith)
other_tag (offset n) h = absurd (omega arith)
other_tag (order ks) h = absurd (omega arith)
other_tag (projection is) h = absurd (omega arith)
other_tag (remap ts) h = absurd (omega arith)
other_tag (aggregate es gs) h = absurd (omega arith)

pub tag_in : {s : List ℕ} {lo hi : ℕ} → NodeAt s lo hi → (cell_words ≤ hi) × (hi ≤ length s)
tag_in g = let (h, k) = node_in g.p g.here in (omega arith, k)

pub a_filter : {s : List ℕ} {lo hi tag : ℕ} → tag ≡ tag_at s hi → tag ≡ 51 → IsOther s lo hi (not (eqb tag 51))
a_filter {s} {lo} {hi} {tag} e z p u = ap not (eq-eqb tag 51 z) ∙ go p (sym (tagged p) ∙ sym (node_tag p u) ∙ sym e ∙ z)
  where
    go : (p : Node) → tag_of p ≡ 51 → false ≡ is_other p
    go (leaf og l) h = refl
    go (over og (filter e) n) h = refl
    go (over og (other o) n) h = absurd (other_tag o h)
    go (join og outer j l r) h = refl

pub one_source : {s : List ℕ} {lo hi tag count : ℕ} → tag ≡ tag_at s hi → (tag ≡ 51 → ⊥) → SourceCount s lo hi count → IsOther s lo hi (eqb count 1)
one_source {s} {lo} {hi} e y c p u = ap (λ (n : ℕ). eqb n 1) (c p u) ∙ go p (λ k. y (e ∙ node_tag p u ∙ tagged p ∙ k))
  where
    go : (p : Node) → (tag_of p ≡ 51 → ⊥) → eqb (source_count p) 1 ≡ is_other p
    go (leaf og l) h = refl
    go (over og (filter e) n) h = absurd (h refl)
    go (over og (other o) n) h = refl
    go (join og outer j l r) h = refl

-- ---- going down

-- as far as the loop has come
pub record Passed (s : List ℕ) (n lo left end : ℕ) (p : Node) : Type 0 where
  pub above : List (Marked Other)
  pub q : Node
  pub is : p ≡ chain above q
  pub count : n ≡ left + length above
  pub here : NodeHere s lo end q

abbrev pub Passes : List ℕ → ℕ → ℕ → ℕ → ℕ → ℕ → Type 0
Passes s n lo hi left end = (p : Node) → NodeHere s lo hi p → Passed s n lo left end p

no_true : {A : Type 0} → false ≡ true → A
no_true h = let y : ◌≡◌ {A = ℕ} 0 1 = ap bit h in absurd (omega arith)

by_other : (P : Node → Type 0) → ((og : ℕ) (o : Other) (n : Node) → P (over og (other o) n)) → (p : Node) → is_other p ≡ true → P p
by_other P f (leaf og l) h = no_true h
by_other P f (over og (filter e) n) h = no_true h
by_other P f (over og (other o) n) h = f og o n
by_other P f (join og outer j l r) h = no_true h

pub down_next : {s : List ℕ} {n lo hi left end m : ℕ} {b : Bool} → Passes s n lo hi left end → IsOther s lo end b → b ≡ true → OwnStart s lo end m → 0 < left
    → Passes s n lo hi (left - 1) m
down_next {s} {n} {lo} {hi} {left} {end} {m} d c z own k p u =
    let r = d p u in
    by_other (λ q. p ≡ chain r.above q → NodeHere s lo end q → Passed s n lo (left - 1) m p)
    (λ og o q e h. record {
      above = (o, og) ∷ r.above;
      q = q;
      is = e;
      count = omega (arith, r.count);
      here = record { part = source_part (over og (other o) q) h (own (over og (other o) q) h) };
    })
    r.q (sym (c r.q r.here) ∙ z) r.is r.here

-- ---- a chain's words

over_words : (o : Marked Other) (p : Node) → node_words (over o.1 (other o.0) p) ≡ node_words p ++ behind_one o p
unfolding node_words
over_words o p =
    append_assoc (node_words p) (over_own (other o.0)) (words (cell o.1 (over_cell (other o.0))) (length (node_words p ++ over_own (other o.0)) + cell_words))

pub chain_words : (os : List (Marked Other)) (p : Node) → node_words (chain os p) ≡ node_words p ++ behind os p
chain_words [] p = sym (append-nil (node_words p))
chain_words (o ∷ os) p =
    chain_words os (over o.1 (other o.0) p)
    ∙ ap (λ (w : List ℕ). w ++ behind os (over o.1 (other o.0) p)) (over_words o p)
    ∙ append_assoc (node_words p) (behind_one o p) (behind os (over o.1 (other o.0) p))

one_long : (o : Marked Other) (p : Node) → length (behind_one o p) ≡ cell_words * over_size (other o.0)
one_long o p =
    omega (arith, over_long (other o.0), length-append (over_own (other o.0)) (words (cell o.1 (over_cell (other o.0))) (length (node_words p ++ over_own (other o.0)) + cell_words)))

pub behind_long : (os : List (Marked Other)) (p : Node) → length (behind os p) ≡ cell_words * sizes os
behind_long [] p = refl
behind_long (o ∷ os) p =
    omega (arith, length-append (behind_one o p) (behind os (over o.1 (other o.0) p)), one_long o p, behind_long os (over o.1 (other o.0) p))

pub chain_long : (os : List (Marked Other)) (p : Node) → length (node_words (chain os p)) ≡ length (node_words p) + cell_words * sizes os
chain_long os p = omega (arith, ap length (chain_words os p), length-append (node_words p) (behind os p), behind_long os p)

-- where a chain ends, and where the node below it does
pub chain_end : {s : List ℕ} {lo end hi : ℕ} (os : List (Marked Other)) (p : Node) → NodeHere s lo hi (chain os p) → NodeHere s lo end p → hi ≡ end + cell_words * sizes os
chain_end os p u v = omega (arith, chain_long os p, u.part.high, v.part.high)

pub chain_size : (os : List (Marked Other)) (p : Node) → node_size (chain os p) ≡ node_size p + sizes os
chain_size [] p = omega arith
chain_size (o ∷ os) p = omega (arith, chain_size os (over o.1 (other o.0) p))

-- ---- what a pass does with a chain

-- Nodes that have all a property.
abbrev pub Each : (Other → Type 0) → List (Marked Other) → Type 0
Each P [] = Unit {0}
Each P (o ∷ os) = P o.0 × Each P os

pub each : {P : Other → Type 0} → ((o : Other) → P o) → (os : List (Marked Other)) → Each P os
each f [] = tt
each f (o ∷ os) = (f o.0, each f os)

-- A function that leaves such nodes over what it makes of their source leaves a chain of them so. Its number is that of the cells outside the node.
module _ {P : Other → Type 0} (F : ℕ → Node → Answer Node)
    (left : (rest og : ℕ) (o : Other) → P o → (p : Node) → F rest (over og (other o) p) ≡ F (rest + over_size (other o)) p >>= (λ q. done (over og (other o) q))) where
  pub chain_left : (rest : ℕ) (os : List (Marked Other)) → Each P os → (p : Node) → F rest (chain os p) ≡ F (rest + sizes os) p >>= (λ q. done (chain os q))
  chain_left rest [] h p = let e : rest ≡ rest + 0 = omega arith in ap (λ (n : ℕ). F n p) e ∙ same (F (rest + 0) p)
    where
      same : (a : Answer Node) → a ≡ a >>= (λ q. done q)
      same (done q) = refl
      same (refused number place) = refl
  chain_left rest (o ∷ os) h p =
      let e : rest + sizes os + over_size (other o.0) ≡ rest + (sizes os + over_size (other o.0)) = omega arith in
      chain_left rest os h.1 (over o.1 (other o.0) p)
      ∙ ap (λ (a : Answer Node). a >>= (λ q. done (chain os q))) (left (rest + sizes os) o.1 o.0 h.0 p)
      ∙ both (F (rest + sizes os + over_size (other o.0)) p)
      ∙ ap (λ (n : ℕ). F n p >>= (λ q. done (chain os (over o.1 (other o.0) q)))) e
    where
      both : (a : Answer Node) → a >>= (λ q. done (over o.1 (other o.0) q)) >>= (λ q. done (chain os q)) ≡ a >>= (λ q. done (chain os (over o.1 (other o.0) q)))
      both (done q) = refl
      both (refused number place) = refl

-- ---- over another node

plain_content : (og : ℕ) (k : Content) (b : List ℕ) → Plain b → tag k < 50 → Plain (sized b (cell og k))
plain_content og k b f h = plain_sized b (cell og k) f (omega (arith, tag_cell og k))

unary_small : (o : Unary) → unary_tag o < 50
unary_small Not = omega arith
unary_small (function IsNull) = omega arith
unary_small (function IsNaN) = omega arith
unary_small (function Identity) = omega arith
unary_small (function Negate) = omega arith
unary_small (function SquareRoot) = omega arith

plain_expression : (e : Expression) → Plain (expression_words e)
unfolding expression_words
plain_expression (constant og v) = plain_content og (constant_cell v) [] plain_none (omega (arith, constant_tag v))
plain_expression (column og i) = plain_content og (column_cell i) [] plain_none (omega arith)
plain_expression (unary og o x) = plain_content og (unary_cell o) (expression_words x) (plain_expression x) (unary_small o)
plain_expression (binary og o l r) =
    plain_content og (binary_cell o) (expression_words l ++ expression_words r) (plain_both (expression_words l) (expression_words r) (plain_expression l) (plain_expression r)) (omega (arith, (binary_range o).1))

plain_all : {A : Type 0} (f : A → List ℕ) → ((x : A) → Plain (f x)) → (xs : List A) → Plain (all_words f xs)
plain_all f h [] = plain_none
plain_all f h (x ∷ xs) = plain_both (f x) (all_words f xs) (h x) (plain_all f h xs)

item_small : (l : Label) → tag (item_cell l) < 50
item_small unlabelled = omega arith
item_small (unqualified n) = omega arith
item_small (qualified q n) = omega arith

target_small : (t : Option ℕ) → tag (target_cell t) < 50
target_small none = omega arith
target_small (some t) = omega arith

plain_own : (o : Other) → Plain (over_own (other o))
plain_own (limit n) = plain_none
plain_own (offset n) = plain_none
plain_own (order ks) =
    plain_all key_words (λ k. plain_content k.2 (key_cell k.1) (expression_words k.0) (plain_expression k.0) (omega arith)) ks
plain_own (projection is) =
    plain_all item_words (λ i. plain_content i.2 (item_cell i.1) (expression_words i.0) (plain_expression i.0) (item_small i.1)) is
plain_own (remap ts) = plain_all target_words (λ t. plain_content t.1 (target_cell t.0) [] plain_none (target_small t.0)) ts
plain_own (aggregate es gs) =
    plain_both (all_words expression_words es) (all_words agg_words gs) (plain_all expression_words plain_expression es)
    (plain_all agg_words (λ g. plain_content g.2 (agg_cell g.0) (expression_words g.1) (plain_expression g.1) (omega arith)) gs)

pub behind_resized : (os : List (Marked Other)) (p q : Node) → resized (length (node_words q)) (behind os p) ≡ behind os q
unfolding resized
behind_resized [] p q = refl
behind_resized (o ∷ os) p q =
    let own = over_own (other o.0) in
    let k = cell o.1 (over_cell (other o.0)) in
    let low = length (node_words p ++ own) + cell_words in
    let high = length (node_words q ++ own) + cell_words in
    let rest = behind os (over o.1 (other o.0) p) in
    let t : 50 ≤ k.tag = omega (arith, tag_cell o.1 (over_cell (other o.0)), tagged (over o.1 (other o.0) p), (tag_known (over o.1 (other o.0) p)).0) in
    let e : length (node_words q) + length own + cell_words ≡ high = omega (arith, length-append (node_words q) own) in
    let i : high ≡ length (node_words (over o.1 (other o.0) q)) =
    omega (arith, ap length (over_words o q), length-append (node_words q) (behind_one o q), length-append own (words k high), length-append (node_words q) own) in
    ap (resized (length (node_words q))) (append_assoc own (words k low) rest)
    ∙ plain_own o.0 (length (node_words q)) (words k low ++ rest)
    ∙ ap (λ (w : List ℕ). own ++ w) (node_resized k low (length (node_words q) + length own) rest t)
    ∙ ap (λ (n : ℕ). own ++ (words k n ++ resized n rest)) e
    ∙ ap (λ (w : List ℕ). own ++ (words k high ++ w)) (ap (λ (n : ℕ). resized n rest) i ∙ behind_resized os (over o.1 (other o.0) p) (over o.1 (other o.0) q))
    ∙ sym (append_assoc own (words k high) (behind os (over o.1 (other o.0) q)))

-- over a node that is as long, they stay as they are
pub behind_same : (os : List (Marked Other)) (p q : Node) → length (node_words p) ≡ length (node_words q) → behind os p ≡ behind os q
behind_same os p q e = sym (behind_resized os p p) ∙ ap (λ (n : ℕ). resized n (behind os p)) e ∙ behind_resized os p q
