-- Laws on a chain that is written to another slice, over what the node below it has become.
use Prim.Native.Nat.{ℕ, ◌+◌, ◌-◌, ◌≤◌, ◌<◌}
use native.Mathlib.Omega.{arith}
use mathlib.Core.Logic.{⊎_elim}
use mathlib.Core.Path.{◌≡◌, sym, ap, ◌∙◌, subst}
use mathlib.Core.List.{List, [], ◌++◌, append_assoc, append-nil}
use lib.ListN.{length, get_or, take, drop, length-append, take-append-drop}
use lib.Seq.{take_at, length-take-le}
use Rattle.sql.specs.Expression.{Marked}
use Rattle.sql.specs.Plan.{Other, Node}
use Rattle.cells.specs.Cells.{Part}
use Rattle.cells.specs.Room.{Wrote, Copies}
use Rattle.cells.proofs.Laws as cells
use Rattle.cells.proofs.Laws.{full, then, no_room, done, lt_or_ge, wrote_up}
use Rattle.words.specs.Words.{node_words}
use Rattle.words.specs.Place.{NodeHere, NodeAt}
use Rattle.words.proofs.Nodes.{node_in, node_size_at, node_start}
use Rattle.chain.specs.Chain.{chain, behind, ChainAt, Follows}
use Rattle.chain.specs.Resized.{resized, Reseals}
use Rattle.chain.proofs.Chains.{chain_words, chain_end, behind_long, behind_resized, behind_same}
use Rattle.chain.proofs.Bare.{no_length}

-- any words from lo up to hi
part_of : (s : List ℕ) (lo hi : ℕ) → lo ≤ hi → hi ≤ length s → Part s lo hi (take (hi - lo) (drop lo s))
part_of s lo hi h k =
    record {
      before = take lo s;
      after = drop (hi - lo) (drop lo s);
      whole =
          sym (take-append-drop lo s)
          ∙ ap (λ (w : List ℕ). take lo s ++ w) (sym (take-append-drop (hi - lo) (drop lo s)));
      low = length-take-le lo s (omega arith);
      high = omega (arith, length-take-le (hi - lo) (drop lo s) (omega (arith, drop_long)));
    }
  where
    drop_long : length (drop lo s) + lo ≡ length s
    drop_long = omega (arith, ap length (take-append-drop lo s), length-append (take lo s) (drop lo s), length-take-le lo s (omega arith))

pub copy_up : {s : List ℕ} {lo hi : ℕ} {d : List ℕ} {at n : ℕ} {d' : List ℕ} → Copies s lo hi d at n d' → lo ≤ hi → hi ≤ length s → n ≤ length d → at ≤ n
copy_up {s} {lo} {hi} c h k z = omega (arith, wrote_up (c (take (hi - lo) (drop lo s)) (part_of s lo hi h k)) z)

copy_full : {s : List ℕ} {lo hi : ℕ} {d : List ℕ} {at n : ℕ} {d' : List ℕ} → Copies s lo hi d at n d' → lo ≤ hi → hi ≤ length s → length d < at → length d < n
copy_full {s} {lo} {hi} c h k z = full (c (take (hi - lo) (drop lo s)) (part_of s lo hi h k)) (omega arith)

-- ---- where the chain and the node written stand

pub chain_in : {x : List ℕ} {end hi : ℕ} → ChainAt x end hi → (end ≤ hi) × (hi ≤ length x)
chain_in t = (omega (arith, chain_end t.os t.p t.whole t.below), (node_in (chain t.os t.p) t.whole).1)

pub written_in : {y : List ℕ} {lo at : ℕ} → (at ≤ length y → NodeAt y lo at) → at ≤ length y → lo ≤ at
written_in f h = let t = f h in omega (arith, (node_in t.p t.here).0)

-- the chain's words in the slice that is read
behind_part : {x : List ℕ} {low end hi : ℕ} (os : List (Marked Other)) (p : Node) → NodeHere x low hi (chain os p) → NodeHere x low end p → Part x end hi (behind os p)
behind_part {x} {low} {end} {hi} os p u v =
    record {
      before = u.part.before ++ node_words p;
      after = u.part.after;
      whole = u.part.whole ∙ ap (λ (w : List ℕ). u.part.before ++ (w ++ u.part.after)) (chain_words os p) ∙ simp append_assoc;
      low = omega (arith, length-append u.part.before (node_words p), u.part.low, v.part.high);
      high = omega (arith, u.part.high, v.part.high, ap length (chain_words os p), length-append (node_words p) (behind os p));
    }

-- what Follows says of every chain
abbrev OverNode : List ℕ → ℕ → ℕ → List ℕ → ℕ → ℕ → ℕ → List ℕ → Type 0
OverNode x end hi y lo at n y' =
    (low : ℕ) (os : List (Marked Other)) (p q : Node) → NodeHere x low hi (chain os p) → NodeHere x low end p → (y₀ : List ℕ) → length y ≡ length y₀
    → Wrote y₀ lo (node_words q) at y → Wrote y₀ lo (node_words (chain os q)) n y'

-- no chain
pub follows_none : {x : List ℕ} {end hi : ℕ} {y : List ℕ} {lo at : ℕ} → hi ≤ end → Follows x end hi y lo at at y
follows_none {x} {end} {hi} {y} {lo} {at} z = record { over_node = written; full = λ h. h }
  where
    written : OverNode x end hi y lo at at y
    written low os p q u v y₀ i w =
        let e : behind os q ≡ [] = no_length (behind os q) (omega (arith, (behind_part os p u v).high, behind_long os p, behind_long os q)) in
        subst (λ (b : List ℕ). Wrote y₀ lo b at y) (sym (chain_words os q ∙ ap (λ (b : List ℕ). node_words q ++ b) e ∙ append-nil (node_words q))) w

module _ {x : List ℕ} {end hi : ℕ} {y : List ℕ} {lo at n : ℕ} {y₁ : List ℕ} (j : length y₁ ≡ length y) (c : Copies x end hi y at n y₁) where
  pub follows_full : length y₁ < n → Follows x end hi y lo at n y₁
  follows_full z = record { over_node = written; full = λ h. omega arith }
    where
      written : OverNode x end hi y lo at n y₁
      written low os p q u v y₀ i w =
          let a = then i w (c (behind os p) (behind_part os p u v)) in
          cells.no_more (omega arith) long a
        where
          long : length (node_words q ++ behind os p) ≤ length (node_words (chain os q))
          long =
              omega (arith, length-append (node_words q) (behind os p), length-append (node_words q) (behind os q), ap length (chain_words os q), behind_long os p, behind_long os q)

  -- a size would not fit a word
  pub follows_long : end ≤ hi → hi ≤ length x → n ≤ length y₁ → 4294967295 < n → {r : ℕ} → length y < r → Follows x end hi y lo at r y₁
  follows_long b h z o {r} k = record { over_node = written; full = λ l. k }
    where
      written : OverNode x end hi y lo at r y₁
      written low os p q u v y₀ i w =
          let a = wrote_up (then i w (c (behind os p) (behind_part os p u v))) (omega arith) in
          record {
            is = λ f. absurd (omega arith);
            room = λ s f. absurd (omega (arith, length-append (node_words q) (behind os p), length-append (node_words q) (behind os q), ap length (chain_words os q), behind_long os p, behind_long os q));
          }

  -- the chain's last size is right as it stands
  pub follows_same : end ≤ hi → hi ≤ length x → n ≤ length y₁ → get_or x (hi - 1) 0 ≡ n - lo → Follows x end hi y lo at n y₁
  follows_same b h z size = record { over_node = written; full = λ l. let f = copy_full c b h l in absurd (omega arith) }
    where
      written : OverNode x end hi y lo at n y₁
      written low os p q u v y₀ i w =
          let part = behind_part os p u v in
          let a = then i w (c (behind os p) part) in
          let l = length-append (node_words q) (behind os p) in
          let e : length (node_words p) ≡ length (node_words q) =
          omega (arith, wrote_up a (omega arith), part.high, v.part.high, node_start (chain os p) u, (node_size_at (chain os p) u).long) in
          subst (λ (b : List ℕ). Wrote y₀ lo b n y₁) (ap (λ (b : List ℕ). node_words q ++ b) (behind_same os p q e) ∙ sym (chain_words os q)) a

  pub follows_done : end ≤ hi → hi ≤ length x → n ≤ length y₁ → {r : ℕ} {y₂ : List ℕ} → length y₂ ≡ length y₁ → Reseals y₁ n lo at 0 r y₂ → Follows x end hi y lo at r y₂
  follows_done b h z {r} {y₂} k seal = record { over_node = written; full = λ l. let f = copy_full c b h l in absurd (omega arith) }
    where
      written : OverNode x end hi y lo at r y₂
      written low os p q u v y₀ i w =
          let a = then i w (c (behind os p) (behind_part os p u v)) in
          let all = node_words q ++ behind os p in
          let e = wrote_up a (omega arith) in
          let here = wrote_up w (omega (arith, wrote_up (c (behind os p) (behind_part os p u v)) (omega arith))) in
          let (e', f) = a.is (omega arith) in
          let l = length-append (node_words q) (behind os p) in
          let l' = length-append (node_words q) (behind os q) in
          let m = ap length (chain_words os q) in
          let long = behind_long os p in
          let long' = behind_long os q in
          let before = take lo y₀ ++ node_words q in
          let first = length-take-le lo y₀ (omega arith) in
          let y₁_is : y₁ ≡ before ++ (behind os p ++ drop n y₁) =
          sym (take-append-drop n y₁) ∙ ap (λ (b : List ℕ). b ++ drop n y₁) f ∙ simp append_assoc in
          let number : at - lo ≡ length (node_words q) = omega arith in
          let y₂_is : y₂ ≡ before ++ (resized (at - lo) (behind os p) ++ drop n y₁) =
          seal.words before (behind os p) (drop n y₁) y₁_is (omega (arith, length-append (take lo y₀) (node_words q))) (omega arith) in
          let new : resized (at - lo) (behind os p) ≡ behind os q = ap (λ (b : ℕ). resized b (behind os p)) number ∙ behind_resized os p q in
          let whole = take lo y₀ ++ (node_words q ++ behind os q) in
          let flat : before ++ (behind os q ++ drop n y₁) ≡ whole ++ drop n y₁ = simp append_assoc in
          let n_is : length whole ≡ n = omega (arith, length-append (take lo y₀) (node_words q ++ behind os q)) in
          done (omega arith) (omega (arith, seal.same))
          (ap (λ (b : ℕ). take b y₂) seal.same
          ∙ ap (take n) (y₂_is ∙ ap (λ (b : List ℕ). before ++ (b ++ drop n y₁)) new ∙ flat)
          ∙ take_at whole (drop n y₁) n n_is
          ∙ ap (λ (b : List ℕ). take lo y₀ ++ b) (sym (chain_words os q)))
