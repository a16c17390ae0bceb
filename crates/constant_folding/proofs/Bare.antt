-- Folding a chain of bare nodes (crate chain): they stay as they are, over what the node below them folds to.
use Rattle.std.specs.Prelude.{Ok, Err}
use Prim.Native.Nat.{ℕ, ◌+◌, ◌-◌, ◌*◌, ◌≤◌, ◌<◌}
use native.Mathlib.Omega.{arith}
use mathlib.Core.Path.{◌≡◌, refl, sym, ap, subst}
use mathlib.Core.List.{List, [], ◌∷◌}
use mathlib.Core.Option.{Option, some}
use lib.ListN.{length, length-append}
use Rattle.sql.specs.Expression.{Marked}
use Rattle.sql.specs.Plan.{limit, offset, order, projection, remap, aggregate, Over, Other, other, Node, over, node_size}
use Rattle.sql.specs.Answer.{Answer, done, refused, ◌>>=◌}
use Rattle.sql.specs.Optimizer.{fold_over, ConstantFolding}
use Rattle.sheet.specs.Content.{item_cell, key_cell}
use Rattle.cells.specs.Cells.{cell_words}
use Rattle.cells.specs.Room.{Short}
use Rattle.words.specs.Words.{cell, all_words, expression_words, item_words, key_words, over_own, node_words}
use Rattle.words.specs.Place.{NodeHere, NodeAt}
use Rattle.words.proofs.Nodes.{node_in}
use Rattle.words.proofs.Sizes.{sized_long}
use Rattle.chain.specs.Chain.{chain, Bare, ChainAt, Follows}
use Rattle.chain.proofs.Chains.{Each, chain_left, chain_long, chain_end}
use Rattle.chain.proofs.Bare.{bare_chain}
use Rattle.fold_operator.specs.declared.Failure.{Failure}
use Rattle.fold_operator.specs.Left.{Appended, Folded}
use Rattle.fold_operator.proofs.Parts.{appended, appended_part, wrote}
use Rattle.fold_parts.specs.Leaves.{Leaves}
use Rattle.fold_parts.proofs.Leaves.{answer_as, refused_on, done_on, made_into}
use Rattle.constant_folding.specs.Nodes.{NodeFits, words_of, fold_source, SourceHere, SourceAt, FoldsSource}
use Rattle.constant_folding.proofs.Nodes.{by_node, node_left}

-- ---- the definition

bare_folds : (first : ℕ) (o : Other) → over_own (other o) ≡ [] → fold_over first (other o) ≡ done (other o)
bare_folds first (limit a) h = refl
bare_folds first (offset a) h = refl
bare_folds first (order []) h = refl
bare_folds first (order (k ∷ ks)) h =
    absurd (omega (arith, ap length h, length-append (key_words k) (all_words key_words ks), sized_long (expression_words k.0) (cell k.2 (key_cell k.1))))
bare_folds first (projection []) h = refl
bare_folds first (projection (i ∷ is)) h =
    absurd (omega (arith, ap length h, length-append (item_words i) (all_words item_words is), sized_long (expression_words i.0) (cell i.2 (item_cell i.1))))
bare_folds first (remap ts) h = refl
bare_folds first (aggregate es gs) h = refl

folding_chain : (first : ℕ) (os : List (Marked Other)) → Each (λ o. over_own (other o) ≡ []) os → (p : Node)
    → ConstantFolding first (chain os p) ≡ (ConstantFolding first p >>= λ q. done (chain os q))
folding_chain first os h p =
    chain_left (λ rest p. ConstantFolding first p)
    (λ rest og o h p. ap (λ (a : Answer Over). a >>= λ c. ConstantFolding first p >>= λ s. done (over og c s)) (bare_folds (first + node_size p) o h)) 0 os h p

below_fits : (text : List ℕ) (os : List (Marked Other)) (p : Node) → NodeFits text (chain os p) → NodeFits text p
below_fits text [] p f = f
below_fits text (o ∷ os) p f = (below_fits text os (over o.1 (other o.0) p) f).1

-- ---- the node below

-- what the chain leaves
left_chain : {y : List ℕ} {at : ℕ} {r : Folded} {y₁ : List ℕ} (first : ℕ) (os : List (Marked Other)) → Each (λ o. over_own (other o) ≡ []) os → (p : Node)
    → Leaves node_words y at (ConstantFolding first p >>= λ q. done (chain os q)) r y₁ → Leaves words_of y at (fold_source first (some (chain os p))) r y₁
left_chain first os e p l = made_into (ConstantFolding first (chain os p)) some (λ q. refl) (answer_as (sym (folding_chain first os e p)) l)

module _ {text x : List ℕ} {lo hi end : ℕ} (b : Bare x lo hi end) (h : lo < hi) where
  by_below : (Q : Option Node → Type 0)
      → ((os : List (Marked Other)) → Each (λ o. over_own (other o) ≡ []) os → (p : Node) → NodeHere x lo hi (chain os p) → NodeHere x lo end p → NodeFits text p → Q (some (chain os p)))
      → (source : Option Node) → SourceHere text x lo hi source → Q source
  by_below Q k source u =
      by_node Q
      (λ p v f. let r = bare_chain b p v in
      subst (λ (p : Node). NodeHere x lo hi p → NodeFits text p → Q (some p)) (sym r.is)
      (λ v f. k r.above r.bare r.q v r.here (below_fits text r.above r.q f)) v f)
      h source u

  below_here : (p : Node) → NodeHere x lo end p → NodeFits text p → SourceHere text x lo end (some p)
  below_here p w f = record { stand = w.part; fit = f }

  pub below_at : SourceAt text x lo hi → SourceAt text x lo end
  below_at t =
      by_below (λ o. SourceAt text x lo end)
      (λ os e p v w f. record { source = some p; here = below_here p w f; first = t.first; numbered = t.numbered; short = t.short }) t.source t.here

  pub below_in : SourceAt text x lo hi → (lo < end) × ((end ≤ hi) × (hi ≤ length x))
  below_in t =
      by_below (λ o. (lo < end) × ((end ≤ hi) × (hi ≤ length x)))
      (λ os e p v w f. (omega (arith, (node_in p w).0), (omega (arith, chain_end os p v w), (node_in (chain os p) v).1))) t.source t.here

  -- the chain, as `follow` asks for it
  pub chain_at : SourceAt text x lo hi → ChainAt x end hi
  chain_at t = by_below (λ o. ChainAt x end hi) (λ os e p v w f. record { low = lo; os = os; p = p; whole = v; below = w }) t.source t.here

  -- what the node below leaves
  left_below : {y : List ℕ} {at : ℕ} {r : Folded} {y₁ : List ℕ} → FoldsSource text x lo end y at r y₁ → (first : ℕ) → lo ≡ cell_words * first
      → (p : Node) → NodeHere x lo end p → NodeFits text p → Leaves node_words y at (ConstantFolding first p) r y₁
  left_below g first k p w f = node_left first p (g.leaves first (some p) k (below_here p w f))

  -- what it folds to stands where it was written
  pub folded_at : SourceAt text x lo hi → {y : List ℕ} {at u : ℕ} {y₁ : List ℕ} → at ≤ length y → FoldsSource text x lo end y at (Ok u) y₁ → NodeAt y₁ at u
  folded_at t {y} {at} {u} {y₁} i g =
      by_below (λ o. NodeAt y₁ at u) (λ os e p v w f. go (ConstantFolding t.first p) (left_below g t.first t.numbered p w f)) t.source t.here
    where
      go : (a : Answer Node) → Leaves node_words y at a (Ok u) y₁ → NodeAt y₁ at u
      go (done q) l = record { p = q; here = record { part = appended_part l.left i } }
      go (refused number place) l = absurd l.left

  pub bare_refused : {y : List ℕ} {at : ℕ} {why : Failure} {y₁ : List ℕ} → FoldsSource text x lo end y at (Err why) y₁ → FoldsSource text x lo hi y at (Err why) y₁
  bare_refused {y} {at} {why} {y₁ = y₁} g = record {
    leaves = λ first source k u. by_below (λ o. Leaves words_of y at (fold_source first o) (Err why) y₁)
        (λ os e p v w f. left_chain first os e p (refused_on (ConstantFolding first p) (λ q. done (chain os q)) (left_below g first k p w f))) source u;
    within = record { ends = tt };
  }

  module _ {y : List ℕ} {at u : ℕ} {y₁ : List ℕ} (room : (at + (hi - lo) ≤ length y) × Short y) (long : length y₁ ≡ length y)
      (g : FoldsSource text x lo end y at (Ok u) y₁) {v : ℕ} {y₂ : List ℕ} (c : Follows x end hi y₁ at u v y₂) where
    -- the chain over what the node below folds to
    followed : (os : List (Marked Other)) (p q : Node) → NodeHere x lo hi (chain os p) → NodeHere x lo end p → Appended y at (node_words q) u y₁
        → Appended y at (node_words (chain os q)) v y₂ × (v ≤ at + (hi - lo))
    followed os p q v w a =
        let e = chain_end os p v w in
        let l = chain_long os q in
        let i = node_in p w in
        let k = g.within.ends in
        let d = appended (c.over_node lo os p q v w y long (wrote a (omega (arith, room.0, a.ends)))) room.1 (omega (arith, room.0, a.ends)) in
        (d, omega (arith, d.ends, a.ends))

    ended : (os : List (Marked Other)) (p : Node) → NodeHere x lo hi (chain os p) → NodeHere x lo end p → (a : Answer Node) → Leaves node_words y at a (Ok u) y₁ → v ≤ at + (hi - lo)
    ended os p v w (done q) l = (followed os p q v w l.left).1
    ended os p v w (refused number place) l = absurd l.left

    pub bare_done : SourceAt text x lo hi → FoldsSource text x lo hi y at (Ok v) y₂
    bare_done t = record {
      leaves = λ first source k u. by_below (λ o. Leaves words_of y at (fold_source first o) (Ok v) y₂)
          (λ os e p v w f. left_chain first os e p
          (done_on (ConstantFolding first p) (λ q. done (chain os q)) (left_below g first k p w f) (λ q _ a. record { left = (followed os p q v w a).0 }))) source u;
      within = record {
        ends = by_below (λ o. v ≤ at + (hi - lo)) (λ os e p v w f. ended os p v w (ConstantFolding t.first p) (left_below g t.first t.numbered p w f)) t.source t.here;
      };
    }
