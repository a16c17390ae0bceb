-- Digits written one by one.
use Prim.Native.Nat.{ℕ, zero, suc, ◌+◌, ◌-◌, ◌/◌, ◌%◌, ◌≤◌, ◌<◌}
use native.Mathlib.Omega.{arith}
use mathlib.Core.Path.{◌≡◌, refl, sym, ap, ◌∙◌, subst}
use mathlib.Core.Bool.{Bool, true, false}
use mathlib.Core.List.{List, [], ◌∷◌, ◌++◌, append_assoc}
use lib.Dec.{ltb}
use lib.ListN.{length}
use borrow.Author.Tests.{lt-ltb, le-ltb}
use Rattle.std.specs.Fmt as Library
use Rattle.std.proofs.lemmas.Fmt.{decimal_by_steps, length-decimal-le}
use lib.ListN.{length-append}
use Prim.Native.Nat.{◌^◌}
use Rattle.sheet.specs.Listing.{digits, decimal}
use Rattle.cells.specs.Room.{Wrote}

-- what stands behind the digits stays behind them
behind : (k n : ℕ) (later : List ℕ) → digits k n later ≡ digits k n [] ++ later
unfolding digits
behind zero n later = refl
behind (suc k) n later = go (ltb n 10) (behind k (n / 10) ((48 + n % 10) ∷ later)) (behind k (n / 10) ((48 + n % 10) ∷ []))
  where
    go : (b : Bool) → digits k (n / 10) ((48 + n % 10) ∷ later) ≡ digits k (n / 10) [] ++ ((48 + n % 10) ∷ later)
        → digits k (n / 10) ((48 + n % 10) ∷ []) ≡ digits k (n / 10) [] ++ ((48 + n % 10) ∷ [])
        → elim b [ true ↦ (48 + n) ∷ later | false ↦ digits k (n / 10) ((48 + n % 10) ∷ later) ]
        ≡ elim b [ true ↦ (48 + n) ∷ [] | false ↦ digits k (n / 10) ((48 + n % 10) ∷ []) ] ++ later
    go true e f = refl
    go false e f = e ∙ sym (append_assoc (digits k (n / 10) []) ((48 + n % 10) ∷ []) later) ∙ ap (λ (l : List ℕ). l ++ later) (sym f)

pub last_digit : (k n : ℕ) → ltb n 10 ≡ true → digits (suc k) n [] ≡ (48 + n) ∷ []
unfolding digits
last_digit k n h = ap (λ (b : Bool). elim b [ true ↦ (48 + n) ∷ [] | false ↦ digits k (n / 10) ((48 + n % 10) ∷ []) ]) h

pub more_digits : (k n : ℕ) → ltb n 10 ≡ false → digits (suc k) n [] ≡ digits k (n / 10) [] ++ ((48 + n % 10) ∷ [])
unfolding digits
more_digits k n h =
    ap (λ (b : Bool). elim b [ true ↦ (48 + n) ∷ [] | false ↦ digits k (n / 10) ((48 + n % 10) ∷ []) ]) h ∙ behind k (n / 10) ((48 + n % 10) ∷ [])

pub digits_last : (k n : ℕ) → 1 ≤ k → n < 10 → digits k n [] ≡ (48 + n) ∷ []
digits_last zero n s h = absurd (omega arith)
digits_last (suc k) n s h = last_digit k n (lt-ltb n 10 h)

pub digits_more : (k n : ℕ) → 1 ≤ k → 10 ≤ n → digits k n [] ≡ digits (k - 1) (n / 10) [] ++ ((48 + n % 10) ∷ [])
digits_more zero n s h = absurd (omega arith)
digits_more (suc k) n s h =
    let e : k ≡ suc k - 1 = omega arith in more_digits k n (le-ltb n 10 h) ∙ ap (λ (j : ℕ). digits j (n / 10) [] ++ ((48 + n % 10) ∷ [])) e

-- The library's digits, of which a number below 2^64 has at most 20, are these.
pub decimal_is : (n : ℕ) → n < 2 ^ 64 → Library.decimal n ≡ decimal n
decimal_is n h = sym (decimal_by_steps (λ (m : ℕ) (ds : List ℕ). (k : ℕ) → length ds ≤ k → digits k m [] ≡ ds) (λ m l k s. digits_last k m (omega arith) l) more n h 20 (length-decimal-le 20 n (omega arith) (omega arith) h))
  where
    more : (m : ℕ) (ds : List ℕ) → 10 ≤ m → ((k : ℕ) → length ds ≤ k → digits k (m / 10) [] ≡ ds) → (k : ℕ) → length (ds ++ ((48 + m % 10) ∷ [])) ≤ k → digits k m [] ≡ ds ++ ((48 + m % 10) ∷ [])
    more m ds l ih k s =
        let size = length-append ds ((48 + m % 10) ∷ []) in
        digits_more k m (omega arith) l ∙ ap (λ (x : List ℕ). x ++ ((48 + m % 10) ∷ [])) (ih (k - 1) (omega arith))

-- the same where the number is given in other words
pub decimal_at : {m : ℕ} {t : List ℕ} (n : ℕ) → t ≡ Library.decimal m → m ≡ n → n < 2 ^ 64 → t ≡ decimal n
decimal_at n e f h = e ∙ (ap Library.decimal f ∙ decimal_is n h)

-- the same words, written under another name
pub as_written : {d : List ℕ} {at r : ℕ} {v w d' : List ℕ} → v ≡ w → Wrote d at v r d' → Wrote d at w r d'
as_written {d} {at} {r} {v} {w} {d'} e h = subst (λ (l : List ℕ). Wrote d at l r d') e h
