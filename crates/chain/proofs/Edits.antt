-- Laws for a pass that edits in place (crate edit) and goes down through chains.
use Prim.Native.Nat.{ℕ, ◌+◌, ◌-◌, ◌≤◌, ◌<◌}
use native.Mathlib.Omega.{arith}
use mathlib.Core.Path.{◌≡◌, refl, sym, ap, ◌∙◌, subst}
use mathlib.Core.List.{List, [], ◌∷◌, ◌++◌, append_assoc}
use lib.ListN.{length, take, drop, length-append, take-append-drop}
use lib.Seq.{take_at, length-take-le}
use Rattle.sql.specs.Expression.{Marked}
use Rattle.sql.specs.Plan.{Other, other, Node, over, node_size}
use Rattle.sql.specs.Answer.{Answer, done, ◌>>=◌}
use Rattle.words.specs.Words.{node_words}
use Rattle.words.specs.Place.{NodeHere}
use Rattle.words.proofs.Sizes.{words_long}
use Rattle.edit.specs.Edit.{Holds, Shares, Held, Left, Edit, Inherited}
use Rattle.edit.proofs.Edits.{total, holds_here, left_stop, left_go, left_with, edit_same}
use Rattle.chain.specs.Chain.{chain, sizes, behind, GoesDown}
use Rattle.chain.specs.Resized.{resized, Reseals}
use Rattle.chain.proofs.Chains.{chain_words, behind_long, chain_long, behind_resized, behind_same}

-- F of a chain is the chain over what G gives of the node below it, where there is room for the plan as it stands.
abbrev pub Descends : (F G : ℕ → ℕ → Node → Answer Node) → ℕ → ℕ → Type 0
Descends F G n left =
    (room rest : ℕ) (os : List (Marked Other)) (p : Node) → n ≡ left + length os → rest + node_size (chain os p) ≤ room
    → F room rest (chain os p) ≡ G room (rest + sizes os) p >>= (λ q. done (chain os q))

-- ---- what is fit
module _ {Kept : Node → Node → Type 0} (fit : Inherited Kept) where
  pub chain_source : (os : List (Marked Other)) (p : Node) → Kept (chain os p) (chain os p) → Kept p p
  chain_source [] p k = k
  chain_source (o ∷ os) p k = fit.source o.1 (other o.0) p (chain_source os (over o.1 (other o.0) p) k)

  pub chain_with : (os : List (Marked Other)) (p q : Node) → Kept (chain os p) (chain os p) → Kept p q → Kept (chain os p) (chain os q)
  chain_with [] p q k h = h
  chain_with (o ∷ os) p q k h =
      chain_with os (over o.1 (other o.0) p) (over o.1 (other o.0) q) k (fit.with_source o.1 (other o.0) p q (chain_source os (over o.1 (other o.0) p) k) h)

  module _ {x : List ℕ} {n t lo tail left end : ℕ} (d : GoesDown x n lo (t - tail) left end) where
    when_chain : {pre post : List ℕ} (P : Node → Type 0)
        → ((os : List (Marked Other)) (p : Node) → n ≡ left + length os → NodeHere x lo end p → Kept (chain os p) (chain os p) → Holds x t lo tail pre post (chain os p) → P (chain os p))
        → (p : Node) → Kept p p → Holds x t lo tail pre post p → P p
    when_chain {pre} {post} P f p k h =
        let r = d p (holds_here h) in
        subst (λ (q : Node). Kept q q → Holds x t lo tail pre post q → P q) (sym r.is) (f r.above r.q r.count r.here) k h

    -- ---- the node below
    module _ (os : List (Marked Other)) (p : Node) (u : NodeHere x lo end p) {pre post : List ℕ} (h : Holds x t lo tail pre post (chain os p)) where
      back_is : t - end ≡ length (behind os p) + tail
      back_is = omega (arith, total h, ap length (chain_words os p), length-append (node_words p) (behind os p), u.part.high)

      below_holds : Holds x t lo (t - end) pre (behind os p ++ post) p
      below_holds =
          record {
            whole = h.whole ∙ ap (λ (w : List ℕ). pre ++ (w ++ post)) (chain_words os p) ∙ simp append_assoc;
            low = h.low;
            high = omega (arith, back_is, length-append (behind os p) post, h.high);
            inside = h.inside;
          }

      below_shares : {room rest : ℕ} → Shares x lo tail room rest → Shares x lo (t - end) room (rest + sizes os)
      below_shares s = record { all = s.all; short = s.short; outside = omega (arith, back_is, behind_long os p, s.outside) }

      has_room : {room rest : ℕ} → Shares x lo tail room rest → rest + node_size (chain os p) ≤ room
      has_room s = omega (arith, total h, h.inside, s.all, s.outside, words_long (chain os p))

    pub end_inside : Held Kept x t lo tail → end ≤ t
    end_inside g =
        when_chain (λ q. end ≤ t)
        (λ os p c u k h. omega (arith, total h, ap length (chain_words os p), length-append (node_words p) (behind os p), u.part.high))
        g.p g.fit g.holds

    pub below_held : Held Kept x t lo tail → Held Kept x t lo (t - end)
    below_held g =
        when_chain (λ q. Held Kept x t lo (t - end))
        (λ os p c u k h. record {
          room = g.room;
          rest = g.rest + sizes os;
          shares = below_shares os p u h g.shares;
          pre = g.pre;
          post = behind os p ++ g.post;
          p = p;
          fit = chain_source os p k;
          holds = below_holds os p u h;
        })
        g.p g.fit g.holds

    module _ (F G : ℕ → ℕ → Node → Answer Node) (e : Descends F G n left) where
      -- where G leaves every node as it is
      pub chain_same : ((room rest : ℕ) (p : Node) → G room rest p ≡ done p) → Edit Kept F x t lo tail t x
      chain_same same =
          edit_same fit F
          (λ room rest pre post p s k h. when_chain (λ q. F room rest q ≡ done q)
          (λ os p c u k h. e room rest os p c (has_room os p u h s) ∙ ap (λ (a : Answer Node). a >>= (λ q. done (chain os q))) (same room (rest + sizes os) p)) p k h)

      module _ {r : ℕ} {x₁ : List ℕ} (a : Edit Kept G x t lo (t - end) r x₁) where
        went : {room rest : ℕ} → Shares x lo tail room rest → (os : List (Marked Other)) (p : Node) → NodeHere x lo end p → {pre post : List ℕ} → Kept (chain os p) (chain os p)
            → Holds x t lo tail pre post (chain os p) → Left (Kept p) x₁ r pre (behind os p ++ post) (G room (rest + sizes os) p)
        went {room} {rest} s os p u {pre} {post} k h =
            a room (rest + sizes os) (below_shares os p u h s) pre (behind os p ++ post) p (chain_source os p k) (below_holds os p u h)

        pub chain_stop : length x₁ < r → Edit Kept F x t lo tail r x₁
        chain_stop z room rest s pre post p k h =
            when_chain (λ q. Left (Kept q) x₁ r pre post (F room rest q))
            (λ os p c u k h. subst (λ (o : Answer Node). Left (Kept (chain os p)) x₁ r pre post o) (sym (e room rest os p c (has_room os p u h s)))
            (left_stop (G room (rest + sizes os) p) (λ q. done (chain os q)) (went s os p u k h) z))
            p k h

        -- the words of the chain behind what the node below became
        module _ (z : r ≤ length x₁) (os : List (Marked Other)) (p : Node) (u : NodeHere x lo end p) {pre post : List ℕ} (h : Holds x t lo tail pre post (chain os p)) (q : Node)
            (w : take r x₁ ≡ pre ++ (node_words q ++ (behind os p ++ post))) where
          all_long : lo + length (node_words q) + length (behind os p) + tail ≡ r
          all_long =
              omega (arith, length-take-le r x₁ z, ap length w, length-append pre (node_words q ++ (behind os p ++ post)), length-append (node_words q) (behind os p ++ post), length-append (behind os p) post, h.low, h.high)

          sealed : {v : ℕ} {x₂ : List ℕ} → Reseals x₁ r lo (r - (t - end)) tail v x₂ → take r x₂ ≡ pre ++ (node_words (chain os q) ++ post)
          sealed {v} {x₂} seal =
              let from = r - (t - end) in
              let before = pre ++ node_words q in
              let after = post ++ drop r x₁ in
              let b = back_is os p u h in
              let l = length-append pre (node_words q) in
              let i : from - lo ≡ length (node_words q) = omega (arith, all_long, h.low) in
              let x₁_is : x₁ ≡ before ++ (behind os p ++ after) =
              sym (take-append-drop r x₁) ∙ ap (λ (y : List ℕ). y ++ drop r x₁) w ∙ simp append_assoc in
              let x₂_is : x₂ ≡ before ++ (resized (from - lo) (behind os p) ++ after) =
              seal.words before (behind os p) after x₁_is (omega (arith, all_long, h.low)) (omega (arith, all_long)) in
              let new : resized (from - lo) (behind os p) ≡ behind os q = ap (λ (m : ℕ). resized m (behind os p)) i ∙ behind_resized os p q in
              let whole = pre ++ ((node_words q ++ behind os q) ++ post) in
              let long : length whole ≡ r =
              omega (arith, all_long, length-append pre ((node_words q ++ behind os q) ++ post), length-append (node_words q ++ behind os q) post, length-append (node_words q) (behind os q), behind_long os p, behind_long os q, h.low, h.high) in
              let flat : before ++ (behind os q ++ after) ≡ whole ++ drop r x₁ = simp append_assoc in
              ap (take r) (x₂_is ∙ ap (λ (y : List ℕ). before ++ (y ++ after)) new ∙ flat)
              ∙ take_at whole (drop r x₁) r long
              ∙ ap (λ (y : List ℕ). pre ++ (y ++ post)) (sym (chain_words os q))

          -- where the plan is as long as before, they are right as they stand
          as_long : r ≡ t → take r x₁ ≡ pre ++ (node_words (chain os q) ++ post)
          as_long e =
              let i : length (node_words p) ≡ length (node_words q) = omega (arith, all_long, total h, chain_long os p, behind_long os p) in
              w
              ∙ ap (λ (y : List ℕ). pre ++ (node_words q ++ (y ++ post))) (behind_same os p q i)
              ∙ ap (λ (y : List ℕ). pre ++ y) (sym (append_assoc (node_words q) (behind os q) post))
              ∙ ap (λ (y : List ℕ). pre ++ (y ++ post)) (sym (chain_words os q))

        -- what reseal asks for
        pub chain_fits : r ≤ length x₁ → Held Kept x t lo tail → (t - end ≤ r) × ((lo ≤ r - (t - end)) × (r - (t - end) + tail ≤ r))
        chain_fits z g =
            when_chain (λ q. (t - end ≤ r) × ((lo ≤ r - (t - end)) × (r - (t - end) + tail ≤ r)))
            (λ os p c u k h. left_with ((t - end ≤ r) × ((lo ≤ r - (t - end)) × (r - (t - end) + tail ≤ r))) (G g.room (g.rest + sizes os) p)
            (went g.shares os p u k h) z
            (λ q i w. (omega (arith, all_long z os p u h q w, back_is os p u h), (omega (arith, all_long z os p u h q w, back_is os p u h), omega (arith, all_long z os p u h q w, back_is os p u h)))))
            g.p g.fit g.holds

        -- the chain stands over what the node below became
        over_new : r ≤ length x₁ → {x₂ : List ℕ} → length x₂ ≡ length x₁
            → ((os : List (Marked Other)) (p : Node) → NodeHere x lo end p → (pre post : List ℕ) → Holds x t lo tail pre post (chain os p) → (q : Node)
            → take r x₁ ≡ pre ++ (node_words q ++ (behind os p ++ post)) → take r x₂ ≡ pre ++ (node_words (chain os q) ++ post))
            → Edit Kept F x t lo tail r x₂
        over_new z {x₂} j f room rest s pre post p k h =
            when_chain (λ q. Left (Kept q) x₂ r pre post (F room rest q))
            (λ os p c u k h. subst (λ (o : Answer Node). Left (Kept (chain os p)) x₂ r pre post o) (sym (e room rest os p c (has_room os p u h s)))
            (left_go (G room (rest + sizes os) p) (λ q. done (chain os q)) (went s os p u k h) z
            (λ q i w. record { is = (omega arith, (f os p u pre post h q w, chain_with os p q k i)) })))
            p k h

        pub chain_go : r ≤ length x₁ → {v : ℕ} {x₂ : List ℕ} → length x₂ ≡ length x₁ → Reseals x₁ r lo (r - (t - end)) tail v x₂ → Edit Kept F x t lo tail v x₂
        chain_go z {v} {x₂} j seal =
            subst (λ (m : ℕ). Edit Kept F x t lo tail m x₂) (sym seal.same) (over_new z j (λ os p u pre post h q w. sealed z os p u h q w seal))

        -- without reseal
        pub go_as_long : r ≤ length x₁ → r ≡ t → Edit Kept F x t lo tail r x₁
        go_as_long z i = over_new z refl (λ os p u pre post h q w. as_long z os p u h q w i)
