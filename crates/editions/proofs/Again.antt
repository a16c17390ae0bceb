-- Carried twice, a sheet is what it is carried once, the last way. Carried to its own edition with its own origins, it stays as it is.
use Rattle.std.specs.Prelude.{ℕ, zero, suc, ◌+◌, ◌-◌, ◌/◌, ◌%◌, ◌≤◌, ◌<◌, ◌≡◌, refl, ◌≢◌, List, [], ◌∷◌, length, set}
use Rattle.std.proofs.Common.{arith, sym, ap, ap₂, ◌∙◌, set-set}
use Rattle.std.proofs.lemmas.List.Edits.{sets}
use Rattle.std.proofs.lemmas.List.{set_comm, set-get_or}
use Rattle.sheet.specs.Bytes.{byte, half, word, bytes}
use Rattle.sheet.specs.Parts.{cells_at, edition, cell_count, record_at}
use Rattle.sheet.specs.Cell.{cell}
use Rattle.sheet_laws.specs.Content.{low_part, high_part}
use Rattle.sheet_laws.specs.Plan.{Bytes}
use Rattle.sheet_laws.specs.Bytes.{bytes_of_digits}
use Rattle.editions.specs.Editions.{origin_bytes, with_origins, in_edition}
use Rattle.editions.proofs.Kept.{cell_inside, same_length, same_cells_at}

-- ---- stores at places apart, and at the same place

set_sets : (vs l : List ℕ) (i p v : ℕ) → ((j : ℕ) → j < length vs → i + j ≢ p) → set (sets l i vs) p v ≡ sets (set l p v) i vs
set_sets [] l i p v n = refl
set_sets (a ∷ vs) l i p v n =
    set_sets vs (set l i a) (suc i) p v (λ j h e. n (suc j) (omega arith) (omega arith))
    ∙ ap (λ (z : List ℕ). sets z (suc i) vs) (set_comm l i p a v (λ e. n 0 (omega arith) (omega arith)))

sets_apart : (ws vs l : List ℕ) (i p : ℕ) → ((j k : ℕ) → j < length vs → k < length ws → i + j ≢ p + k) → sets (sets l i vs) p ws ≡ sets (sets l p ws) i vs
sets_apart [] vs l i p n = refl
sets_apart (w ∷ ws) vs l i p n =
    ap (λ (z : List ℕ). sets z (suc p) ws) (set_sets vs l i p w (λ j h e. n j 0 h (omega arith) (omega arith)))
    ∙ sets_apart ws vs (set l p w) i (suc p) (λ j k a b e. n j (suc k) a (omega arith) (omega arith))

sets_twice : (vs ws l : List ℕ) (i : ℕ) → length vs ≡ length ws → sets (sets l i vs) i ws ≡ sets l i ws
sets_twice [] [] l i e = refl
sets_twice [] (w ∷ ws) l i e = absurd (omega arith)
sets_twice (v ∷ vs) [] l i e = absurd (omega arith)
sets_twice (v ∷ vs) (w ∷ ws) l i e =
    ap (λ (z : List ℕ). sets z (suc i) ws)
    (set_sets vs (set l i v) (suc i) i w (λ j h. omega arith) ∙ ap (λ (z : List ℕ). sets z (suc i) vs) (set-set l i v w))
    ∙ sets_twice vs ws (set l i w) (suc i) (omega arith)

-- ---- origins

module _ (f : ℕ → ℕ) (at : ℕ) where
  origins_apart : (i k : ℕ) (vs l : List ℕ) (p : ℕ) → ((j q : ℕ) → i ≤ j → j < i + k → q < length vs → (p + q ≢ record_at at j + 2) × (p + q ≢ record_at at j + 3))
      → with_origins f at i k (sets l p vs) ≡ sets (with_origins f at i k l) p vs
  origins_apart i zero vs l p n = refl
  origins_apart i (suc k) vs l p n =
      ap (with_origins f at (suc i) k)
      (sets_apart (origin_bytes (f i)) vs l p (record_at at i + 2)
      (λ j q a b e. let m = n i j (omega arith) (omega arith) a in two q b (λ z. m.0 (omega arith)) (λ z. m.1 (omega arith))))
      ∙ origins_apart (suc i) k vs (sets l (record_at at i + 2) (origin_bytes (f i))) p (λ j q a b c. n j q (omega arith) (omega arith) c)
    where
      two : {A : Type 0} (q : ℕ) → q < 2 → (q ≡ 0 → A) → (q ≡ 1 → A) → A
      two zero b x y = x refl
      two (suc zero) b x y = y refl
      two (suc (suc q)) b x y = absurd (omega arith)

origins_twice : (f g : ℕ → ℕ) (at i k : ℕ) (s : List ℕ) → with_origins f at i k (with_origins g at i k s) ≡ with_origins f at i k s
origins_twice f g at i zero s = refl
origins_twice f g at i (suc k) s =
    let p = record_at at i + 2 in
    ap (with_origins f at (suc i) k)
    (sym (origins_apart g at (suc i) k (origin_bytes (f i)) (sets s p (origin_bytes (g i))) p (λ j q a b c. (omega arith, omega arith)))
    ∙ ap (with_origins g at (suc i) k) (sets_twice (origin_bytes (g i)) (origin_bytes (f i)) s p refl))
    ∙ origins_twice f g at (suc i) k (sets s p (origin_bytes (f i)))

-- a sheet's own
origins_own : (s : List ℕ) → Bytes s → (f : ℕ → ℕ) (at i k : ℕ) → ((j : ℕ) → i ≤ j → j < i + k → f j ≡ half s (record_at at j + 2)) → with_origins f at i k s ≡ s
unfolding half
origins_own s b f at i zero h = refl
origins_own s b f at i (suc k) h =
    let p = record_at at i + 2 in
    let e = h i (omega arith) (omega arith) in
    let next : p + 1 ≡ suc p = omega arith in
    let low : f i % 256 ≡ byte s p = ap (λ (n : ℕ). n % 256) e ∙ low_part 256 (byte s p) (byte s (p + 1)) (b p) in
    let high : f i / 256 ≡ byte s (suc p) = ap (λ (n : ℕ). n / 256) e ∙ (high_part 256 (byte s p) (byte s (p + 1)) (b p) ∙ ap (byte s) next) in
    let one : sets s p (origin_bytes (f i)) ≡ s =
    ap₂ (λ (x y : ℕ). set (set s p x) (suc p) y) low high ∙ (ap (λ (l : List ℕ). set l (suc p) (byte s (suc p))) (set-get_or s p 0) ∙ set-get_or s (suc p) 0) in
    ap (with_origins f at (suc i) k) one ∙ origins_own s b f at (suc i) k (λ j x y. h j (omega arith) (omega arith))

-- ---- sheets

equally_long : (d e : ℕ) → length (bytes d) ≡ length (bytes e)
unfolding bytes
equally_long d e = refl

pub carried_twice : (e d : ℕ) (f g : ℕ → ℕ) (s : List ℕ) → 20 ≤ length s → in_edition e f (in_edition d g s) ≡ in_edition e f s
unfolding in_edition
carried_twice e d f g s long =
    let x = in_edition d g s in
    let at = cells_at s in
    let k = cell_count s in
    let p = length s - 8 in
    let same_at : cells_at x ≡ at = same_cells_at d g s long in
    let same_count : cell_count x ≡ k = cc (same_length d g s, same_at) in
    let same_place : length x - 8 ≡ p = ap (λ (n : ℕ). n - 8) (same_length d g s) in
    let inner : with_origins f at 0 k x ≡ sets (with_origins f at 0 k s) p (bytes d) =
    origins_apart f at 0 k (bytes d) (with_origins g at 0 k s) p (λ j q a u c. let n = cell_inside s j (omega arith) in (omega arith, omega arith))
    ∙ ap (λ (l : List ℕ). sets l p (bytes d)) (origins_twice f g at 0 k s) in
    ap₂ (λ (c n : ℕ). sets (with_origins f c 0 n x) (length x - 8) (bytes e)) same_at same_count
    ∙ (ap₂ (λ (l : List ℕ) (q : ℕ). sets l q (bytes e)) inner same_place
    ∙ sets_twice (bytes d) (bytes e) (with_origins f at 0 k s) p (equally_long d e))

pub carried_own : (s : List ℕ) → Bytes s → (f : ℕ → ℕ) → ((j : ℕ) → j < cell_count s → f j ≡ (cell s j).origin) → in_edition (edition s) f s ≡ s
unfolding in_edition word cell
carried_own s b f h =
    let p = length s - 8 in
    let d : bytes (edition s) ≡ byte s p ∷ byte s (p + 1) ∷ byte s (p + 2) ∷ byte s (p + 3) ∷ [] =
    bytes_of_digits (byte s p) (byte s (p + 1)) (byte s (p + 2)) (byte s (p + 3)) (b p) (b (p + 1)) (b (p + 2)) (b (p + 3)) in
    ap₂ (λ (l v : List ℕ). sets l p v) (origins_own s b f (cells_at s) 0 (cell_count s) (λ j x y. h j (omega arith))) d
    ∙ own_sets p (p + 1) (p + 2) (p + 3) (omega arith) (omega arith) (omega arith)
  where
    own_sets : (p q r t : ℕ) → q ≡ suc p → r ≡ suc q → t ≡ suc r → sets s p (byte s p ∷ byte s q ∷ byte s r ∷ byte s t ∷ []) ≡ s
    own_sets p q r t x y z =
        let two : sets s p (byte s p ∷ byte s q ∷ byte s r ∷ byte s t ∷ []) ≡ set (set (set (set s p (byte s p)) q (byte s q)) r (byte s r)) t (byte s t) = cc (x, y, z) in
        two
        ∙ (ap (λ (l : List ℕ). set (set (set l q (byte s q)) r (byte s r)) t (byte s t)) (set-get_or s p 0)
        ∙ (ap (λ (l : List ℕ). set (set l r (byte s r)) t (byte s t)) (set-get_or s q 0)
        ∙ (ap (λ (l : List ℕ). set l t (byte s t)) (set-get_or s r 0) ∙ set-get_or s t 0)))
