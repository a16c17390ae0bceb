-- Laws on new sizes: the loop that writes them, and the words that it leaves as they are.
use Prim.Native.Nat.{ℕ, ◌+◌, ◌-◌, ◌≤◌, ◌<◌}
use native.Mathlib.Omega.{arith}
use mathlib.Core.Path.{◌≡◌, refl, sym, ap, ◌∙◌}
use mathlib.Core.List.{List, [], ◌∷◌, ◌++◌, append_assoc}
use lib.ListN.{length, get_or, set, length-append}
use lib.Seq.{set_at}
use borrow.Author.Tests.{le-leb, lt-leb}
use Rattle.cells.specs.declared.Cell.{Cell}
use Rattle.cells.specs.Cells.{cell_words, words, sized, Part}
use Rattle.cells.proofs.Laws.{part_word}
use Rattle.chain.specs.Resized.{new_size, resized, Reseals}

-- ---- one size
pub size_new : (tag new old : ℕ) → 50 ≤ tag → new ≡ new_size tag new old
unfolding new_size
size_new tag new old h = rw (le-leb 50 tag h)

pub size_old : (tag new old : ℕ) → tag < 50 → old ≡ new_size tag new old
unfolding new_size
size_old tag new old h = rw (lt-leb 50 tag h)

-- ---- the loop: d is done, e is left

pub record Rest (a c post : List ℕ) (lo from to at : ℕ) (x : List ℕ) : Type 0 where
  pub d : List ℕ
  pub e : List ℕ
  pub is : x ≡ a ++ (d ++ (e ++ post))
  pub long : from + length d ≡ at
  pub left : at + length e ≡ to
  pub same : d ++ resized (at - lo) e ≡ resized (from - lo) c

abbrev pub Doing : List ℕ → ℕ → ℕ → ℕ → ℕ → List ℕ → Type 0
Doing x₀ lo from to at x =
    (a c post : List ℕ) → x₀ ≡ a ++ (c ++ post) → length a ≡ from → from + length c ≡ to → Rest a c post lo from to at x

pub none_done : (x : List ℕ) (lo from to : ℕ) → Doing x lo from to from x
none_done x lo from to a c post e i j = record { d = []; e = c; is = e; long = omega arith; left = j; same = refl }

seven_of : (P : List ℕ → Type 0) → ((o t f g b h n : ℕ) (ws : List ℕ) → P (o ∷ t ∷ f ∷ g ∷ b ∷ h ∷ n ∷ ws)) → (e : List ℕ) → cell_words ≤ length e → P e
seven_of P k [] h = absurd (omega arith)
seven_of P k (o ∷ []) h = absurd (omega arith)
seven_of P k (o ∷ t ∷ []) h = absurd (omega arith)
seven_of P k (o ∷ t ∷ f ∷ []) h = absurd (omega arith)
seven_of P k (o ∷ t ∷ f ∷ a ∷ []) h = absurd (omega arith)
seven_of P k (o ∷ t ∷ f ∷ a ∷ b ∷ []) h = absurd (omega arith)
seven_of P k (o ∷ t ∷ f ∷ a ∷ b ∷ c ∷ []) h = absurd (omega arith)
seven_of P k (o ∷ t ∷ f ∷ a ∷ b ∷ c ∷ n ∷ ws) h = k o t f a b c n ws

module _ (lo from to at : ℕ) (x a c post : List ℕ) (l : lo ≤ at) (i : length a ≡ from) (d : List ℕ) (long : from + length d ≡ at) where
  one_done : (v o t f g b h n : ℕ) (ws : List ℕ) → v ≡ new_size (get_or x (at + 1) 0) (at + cell_words - lo) (get_or x (at + 6) 0)
      → x ≡ a ++ (d ++ ((o ∷ t ∷ f ∷ g ∷ b ∷ h ∷ n ∷ ws) ++ post)) → at + length (o ∷ t ∷ f ∷ g ∷ b ∷ h ∷ n ∷ ws) ≡ to
      → d ++ resized (at - lo) (o ∷ t ∷ f ∷ g ∷ b ∷ h ∷ n ∷ ws) ≡ resized (from - lo) c → Rest a c post lo from to (at + cell_words) (set x (at + 6) v)
  unfolding resized
  one_done v o t f g b h n ws w is left same =
      let cells = o ∷ t ∷ f ∷ g ∷ b ∷ h ∷ n ∷ ws in
      let six = o ∷ t ∷ f ∷ g ∷ b ∷ h ∷ [] in
      let front = a ++ (d ++ six) in
      let all : x ≡ front ++ (n ∷ (ws ++ post)) = is ∙ simp append_assoc in
      let here : Part x at (at + length cells) cells =
      record { before = a ++ d; after = post; whole = is ∙ simp append_assoc; low = omega (arith, length-append a d); high = refl } in
      let tag : get_or x (at + 1) 0 ≡ t = part_word here (at + 1) 1 (omega arith) in
      let old : get_or x (at + 6) 0 ≡ n = part_word here (at + 6) 6 (omega arith) in
      let size : v ≡ new_size t (at + cell_words - lo) n = w ∙ ap (λ (k : ℕ). new_size k (at + cell_words - lo) (get_or x (at + 6) 0)) tag ∙ ap (new_size t (at + cell_words - lo)) old in
      let q : length front ≡ at + 6 = omega (arith, length-append a (d ++ six), length-append d six) in
      let j : at + cell_words - lo ≡ at - lo + cell_words = omega arith in
      record {
        d = d ++ (o ∷ t ∷ f ∷ g ∷ b ∷ h ∷ v ∷ []);
        e = ws;
        is = ap (λ (y : List ℕ). set y (at + 6) v) all ∙ set_at front n (ws ++ post) v (at + 6) q ∙ simp append_assoc;
        long = omega (arith, length-append d (o ∷ t ∷ f ∷ g ∷ b ∷ h ∷ v ∷ []));
        left = omega arith;
        same =
            append_assoc d (o ∷ t ∷ f ∷ g ∷ b ∷ h ∷ v ∷ []) (resized (at + cell_words - lo) ws)
            ∙ ap (λ (k : ℕ). d ++ (o ∷ t ∷ f ∷ g ∷ b ∷ h ∷ k ∷ resized (at + cell_words - lo) ws)) size
            ∙ ap (λ (k : ℕ). d ++ (o ∷ t ∷ f ∷ g ∷ b ∷ h ∷ new_size t k n ∷ resized k ws)) j
            ∙ same;
      }

pub next_done : (x₀ x : List ℕ) (lo from to at v : ℕ) → lo ≤ at → cell_words ≤ to - at → v ≡ new_size (get_or x (at + 1) 0) (at + cell_words - lo) (get_or x (at + 6) 0)
    → Doing x₀ lo from to at x → Doing x₀ lo from to (at + cell_words) (set x (at + 6) v)
next_done x₀ x lo from to at v l h w f a c post e i j =
    let r = f a c post e i j in
    seven_of
    (λ (k : List ℕ). x ≡ a ++ (r.d ++ (k ++ post)) → at + length k ≡ to → r.d ++ resized (at - lo) k ≡ resized (from - lo) c
    → Rest a c post lo from to (at + cell_words) (set x (at + 6) v))
    (λ o t f g b h n ws. one_done lo from to at x a c post l i r.d r.long v o t f g b h n ws w)
    r.e (omega (arith, r.left)) r.is r.left r.same

short : (n : ℕ) (c : List ℕ) → length c < cell_words → resized n c ≡ c
unfolding resized
short n [] h = refl
short n (o ∷ []) h = refl
short n (o ∷ t ∷ []) h = refl
short n (o ∷ t ∷ f ∷ []) h = refl
short n (o ∷ t ∷ f ∷ a ∷ []) h = refl
short n (o ∷ t ∷ f ∷ a ∷ b ∷ []) h = refl
short n (o ∷ t ∷ f ∷ a ∷ b ∷ c ∷ []) h = refl
short n (o ∷ t ∷ f ∷ a ∷ b ∷ c ∷ size ∷ ws) h = absurd (omega arith)

pub all_done : (x₀ x : List ℕ) (t lo from tail at : ℕ) → t - tail - at < cell_words → Doing x₀ lo from (t - tail) at x → Reseals x₀ t lo from tail t x
all_done x₀ x t lo from tail at h f =
    record {
      same = refl;
      words = λ a c post e i j.
          let r = f a c post e i j in
          r.is
          ∙ ap (λ (w : List ℕ). a ++ w) (sym (append_assoc r.d r.e post))
          ∙ ap (λ (w : List ℕ). a ++ (w ++ post)) (ap (λ (w : List ℕ). r.d ++ w) (sym (short (at - lo) r.e (omega (arith, r.left)))) ∙ r.same);
    }

-- ---- words among which there is no node's cell

abbrev pub Plain : List ℕ → Type 0
Plain w = (n : ℕ) (ws : List ℕ) → resized n (w ++ ws) ≡ w ++ resized (n + length w) ws

pub plain_none : Plain []
plain_none n ws = let e : n ≡ n + 0 = omega arith in ap (λ (k : ℕ). resized k ws) e

pub plain_both : (u v : List ℕ) → Plain u → Plain v → Plain (u ++ v)
plain_both u v f g n ws =
    let e : n + length u + length v ≡ n + length (u ++ v) = omega (arith, length-append u v) in
    ap (resized n) (append_assoc u v ws)
    ∙ f n (v ++ ws)
    ∙ ap (λ (w : List ℕ). u ++ w) (g (n + length u) ws)
    ∙ ap (λ (k : ℕ). u ++ (v ++ resized k ws)) e
    ∙ sym (append_assoc u v (resized (n + length (u ++ v)) ws))

plain_words : (k : Cell) (size : ℕ) → k.tag < 50 → Plain (words k size)
unfolding resized
plain_words k size h n ws =
    ap (λ (m : ℕ). k.origin ∷ k.tag ∷ k.flag ∷ k.a ∷ k.b ∷ k.c ∷ m ∷ resized (n + cell_words) ws) (sym (size_old k.tag (n + cell_words) size h))

pub plain_sized : (b : List ℕ) (k : Cell) → Plain b → k.tag < 50 → Plain (sized b k)
plain_sized b k f h = plain_both b (words k (length b + cell_words)) f (plain_words k (length b + cell_words) h)

-- a node's cell
pub node_resized : (k : Cell) (size n : ℕ) (ws : List ℕ) → 50 ≤ k.tag → resized n (words k size ++ ws) ≡ words k (n + cell_words) ++ resized (n + cell_words) ws
unfolding resized
node_resized k size n ws h =
    ap (λ (m : ℕ). k.origin ∷ k.tag ∷ k.flag ∷ k.a ∷ k.b ∷ k.c ∷ m ∷ resized (n + cell_words) ws) (sym (size_new k.tag (n + cell_words) size h))
