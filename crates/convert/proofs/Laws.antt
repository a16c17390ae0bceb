-- Laws for the functions of the crate: the tests, the loop over cells, the sheet carried over in an output, and the answer at each way out.
-- Assumes nothing.
use Prim.Native.Nat.{ℕ, zero, suc, ◌+◌, ◌-◌, ◌*◌, ◌/◌, ◌%◌, ◌≤◌, ◌<◌}
use native.Mathlib.Omega.{arith}
use borrow.Author.Tests.{eq-eqb, ne_eqb, le-leb, lt-leb}
use mathlib.Core.Path.{◌≡◌, refl, sym, ap, ◌∙◌}
use mathlib.Core.Logic.{◌≢◌}
use mathlib.Core.Bool.{Bool, true, false, cond}
use mathlib.Core.List.{List, [], ◌∷◌, ◌++◌}
use lib.Dec.{eqb, leb}
use lib.ListN.{length, drop, set, length-set}
use lib.Seq.{sets, length-sets, set-append_left, set-get_or, get_or-set_other}
use Rattle.sheet.specs.Bytes.{byte, word, bytes}
use Rattle.sheet.specs.Parts.{cells_at, cell_count, record_at}
use Rattle.sheet.specs.Check.{Numbers, check}
use Rattle.sheet_laws.specs.Accepted.{accepted}
use Rattle.sheet_laws.specs.Bytes.{bytes_of_digits}
use Rattle.sheet_laws.specs.Plan.{Bytes}
use Rattle.sheet_laws.proofs.Plan.{parts_of}
use Rattle.sheet_laws.specs.Layout.{Parts, parts}
use Rattle.std.specs.Prelude.{Ok, Err}
use Rattle.checker.specs.Checker.{answered}
use Rattle.checker.specs.Refusals.{number_of, refusal_of}
use Rattle.checker.specs.declared.Counts.{Counts}
use Rattle.checker.specs.declared.refusals.Refusal.{Refusal}
use Rattle.checker.specs.declared.refusals.Refusal.TheVariants.{Pass, Length, Edition, Parts as BadParts, Record, Cell, NotCarried, NotOnePlan, OutOfScope, RepeatedTarget, Overflow, DivisionByZero, Mismatch, NoRoom, OutputTooShort, OtherEdition}
use Rattle.editions.specs.Editions.{origin_bytes, with_origins, in_edition}
use Rattle.editions.proofs.Kept.{length_origins, origin_kept, cell_inside}
use Rattle.convert.specs.Convert.{origin_in, carried, other_edition, put_out, convert}
use Rattle.convert.specs.Code.{Carryable, returned}
use Rattle.convert.proofs.Accepted.{stands_for, sides, by_tests}

-- ---- origins

pub origin_1 : (target i : ℕ) → target ≡ 1 → 0 ≡ origin_in target i
origin_1 target i h = sym (ap (λ (b : Bool). cond b 0 i) (eq-eqb target 1 h))

pub origin_2 : (target i : ℕ) → target ≢ 1 → i ≡ origin_in target i
origin_2 target i h = sym (ap (λ (b : Bool). cond b 0 i) (ne_eqb target 1 h))

pub origin_small : (target i : ℕ) → i < 65536 → origin_in target i < 65536
origin_small target i h = go (eqb target 1)
  where
    go : (b : Bool) → cond b 0 i < 65536
    go true = omega arith
    go false = h

-- So many cells are done, and what is left to do gives what all give from the start.
pub record Going (f : ℕ → ℕ) (at cells : ℕ) (d₀ d : List ℕ) (i : ℕ) : Type 0 where
  pub within : i ≤ cells
  pub left : with_origins f at i (cells - i) d ≡ with_origins f at 0 cells d₀

pub going_start : (f : ℕ → ℕ) (at cells : ℕ) (d : List ℕ) → Going f at cells d d 0
going_start f at cells d = record { within = omega arith; left = let e : cells - 0 ≡ cells = omega arith in ap (λ (k : ℕ). with_origins f at 0 k d) e }

pub going_on : (f : ℕ → ℕ) (at cells : ℕ) (d₀ d d' : List ℕ) (i og : ℕ) → Going f at cells d₀ d i → i < cells → og ≡ f i → d' ≡ sets d (at + i * 16 + 2) (origin_bytes og)
    → Going f at cells d₀ d' (i + 1)
going_on f at cells d₀ d d' i og g h e is =
    let k : cells - i ≡ suc (cells - (i + 1)) = omega arith in
    let n : i + 1 ≡ suc i = omega arith in
    let d_is : d' ≡ sets d (record_at at i + 2) (origin_bytes (f i)) = is ∙ ap (λ (x : ℕ). sets d (at + i * 16 + 2) (origin_bytes x)) e in
    let step : with_origins f at (suc i) (cells - (i + 1)) d' ≡ with_origins f at i (cells - i) d =
    ap (with_origins f at (suc i) (cells - (i + 1))) d_is ∙ sym (ap (λ (x : ℕ). with_origins f at i x d) k) in
    record { within = omega arith; left = ap (λ (x : ℕ). with_origins f at x (cells - (i + 1)) d') n ∙ (step ∙ g.left) }

pub going_done : (f : ℕ → ℕ) (at cells : ℕ) (d₀ d : List ℕ) (i : ℕ) → Going f at cells d₀ d i → cells ≤ i → d ≡ with_origins f at 0 cells d₀
going_done f at cells d₀ d i g h =
    let z : cells - i ≡ 0 = omega arith in
    sym (ap (λ (x : ℕ). with_origins f at i x d) z) ∙ g.left

-- ---- the sheet in an output

-- Origins are set in front of what stands behind a sheet.
origins_front : (f : ℕ → ℕ) (at i k : ℕ) (s x : List ℕ) → ((j : ℕ) → i ≤ j → j < i + k → record_at at j + 4 ≤ length s)
    → with_origins f at i k (s ++ x) ≡ with_origins f at i k s ++ x
origins_front f at i zero s x h = refl
origins_front f at i (suc k) s x h =
    let p = record_at at i + 2 in
    let one = set s p (f i % 256) in
    let inside = h i (omega arith) (omega arith) in
    let low : set (s ++ x) p (f i % 256) ≡ one ++ x = set-append_left s x p (f i % 256) (omega arith) in
    let high : set (one ++ x) (suc p) (f i / 256) ≡ set one (suc p) (f i / 256) ++ x = set-append_left one x (suc p) (f i / 256) (omega (arith, length-set s p (f i % 256))) in
    ap (λ (l : List ℕ). with_origins f at (suc i) k (set l (suc p) (f i / 256))) low
    ∙ (ap (with_origins f at (suc i) k) high
    ∙ origins_front f at (suc i) k (sets s p (origin_bytes (f i))) x (λ j a b. omega (arith, h j (omega arith) (omega arith), length-sets s p (origin_bytes (f i)))))

-- The word of a small number, where the other three bytes are 0 already.
word_set : (l : List ℕ) (p e : ℕ) → e < 256 → byte l (suc p) ≡ 0 → byte l (suc (suc p)) ≡ 0 → byte l (suc (suc (suc p))) ≡ 0 → set l p e ≡ sets l p (bytes e)
word_set l p e small a b c =
    let v = set l p e in
    let whole : e + 256 * 0 + 65536 * 0 + 16777216 * 0 ≡ e = omega arith in
    let digits : bytes e ≡ e ∷ 0 ∷ 0 ∷ 0 ∷ [] = ap bytes (sym whole) ∙ bytes_of_digits e 0 0 0 small (omega arith) (omega arith) (omega arith) in
    sym (ap (sets l p) digits
    ∙ (ap (λ (x : List ℕ). set (set x (suc (suc p)) 0) (suc (suc (suc p))) 0) (stays (suc p) (omega arith) a)
    ∙ (ap (λ (x : List ℕ). set x (suc (suc (suc p))) 0) (stays (suc (suc p)) (omega arith) b) ∙ stays (suc (suc (suc p))) (omega arith) c)))
  where
    -- a 0 over a 0
    stays : (q : ℕ) → q ≢ p → byte l q ≡ 0 → set (set l p e) q 0 ≡ set l p e
    stays q n z =
        let is : byte (set l p e) q ≡ 0 = get_or-set_other l p q e 0 n ∙ z in
        ap (set (set l p e) q) (sym is) ∙ set-get_or (set l p e) q 0

module _ (s : List ℕ) (target : ℕ) (out : List ℕ) (b : Bytes s) (y : Carryable s target out) where
  p : Parts s
  p = parts s y.whole.length_is y.known y.whole.parts_are

  pub target_small : target ≤ 2
  target_small = sides s target y.known y.other (λ t e. omega arith) (λ t e. omega arith)

  -- the sheet with its origins set
  abbrev w : List ℕ
  w = with_origins (origin_in target) (cells_at s) 0 (cell_count s) s

  length_w : length w ≡ length s
  length_w = length_origins (origin_in target) (cells_at s) 0 (cell_count s) s

  -- A byte of the edition word is no cell's.
  in_word : (q : ℕ) → length s - 8 < q → q < length s → byte w q ≡ byte s q
  in_word q l u =
      origin_kept (origin_in target) (cells_at s) 0 (cell_count s) q s (λ j i k. let n = cell_inside s j (omega arith) in (omega arith, omega arith))

  -- The edition word's bytes but the first are 0.
  high_zero : (byte w (suc (length s - 8)) ≡ 0) × ((byte w (suc (suc (length s - 8))) ≡ 0) × (byte w (suc (suc (suc (length s - 8)))) ≡ 0))
  unfolding word
  high_zero =
      let at = length s - 8 in
      let long = p.long in
      let small = p.edition_small in
      let e1 : at + 1 ≡ suc at = omega arith in
      let e2 : at + 2 ≡ suc (suc at) = omega arith in
      let e3 : at + 3 ≡ suc (suc (suc at)) = omega arith in
      let z1 : byte s (at + 1) ≡ 0 = omega arith in
      let z2 : byte s (at + 2) ≡ 0 = omega arith in
      let z3 : byte s (at + 3) ≡ 0 = omega arith in (
        in_word (suc at) (omega arith) (omega arith) ∙ (ap (byte s) (sym e1) ∙ z1),
        (in_word (suc (suc at)) (omega arith) (omega arith) ∙ (ap (byte s) (sym e2) ∙ z2), in_word (suc (suc (suc at))) (omega arith) (omega arith) ∙ (ap (byte s) (sym e3) ∙ z3)),
      )

  pub carry_done : (at count : ℕ) (d₁ d₂ : List ℕ) → at ≡ cells_at s → count ≡ cell_count s → d₁ ≡ s ++ drop (length s) out
      → d₂ ≡ with_origins (origin_in target) at 0 count d₁ → set d₂ (length s - 8) target ≡ carried target s ++ drop (length s) out
  unfolding in_edition
  carry_done at count d₁ d₂ ea ec e1 e2 =
      let x = drop (length s) out in
      let (za, (zb, zc)) = high_zero in
      let copied : d₁ ≡ s ++ x = e1 in
      let marked : d₂ ≡ w ++ x =
      e2 ∙ (cc (ea, ec, copied) ∙ origins_front (origin_in target) (cells_at s) 0 (cell_count s) s x (λ j i k. omega (arith, cell_inside s j (omega arith)))) in
      ap (λ (l : List ℕ). set l (length s - 8) target) marked
      ∙ (set-append_left w x (length s - 8) target (omega (arith, length_w, p.long))
      ∙ ap (λ (l : List ℕ). l ++ x) (word_set w (length s - 8) target (omega (arith, target_small)) za zb zc))

-- ---- the answer at each way out

-- Every refusal has a number.
pub some_number : (r : Refusal) → 1 ≤ number_of r
some_number Pass = omega arith
some_number Length = omega arith
some_number Edition = omega arith
some_number BadParts = omega arith
some_number (Record i) = omega arith
some_number (Cell i) = omega arith
some_number (NotCarried i) = omega arith
some_number (NotOnePlan i) = omega arith
some_number (OutOfScope i) = omega arith
some_number (RepeatedTarget i) = omega arith
some_number (Overflow i) = omega arith
some_number (DivisionByZero i) = omega arith
some_number (Mismatch i) = omega arith
some_number NoRoom = omega arith
some_number (OutputTooShort needed) = omega arith
some_number OtherEdition = omega arith

module _ (s : List ℕ) (target : ℕ) (out : List ℕ) where
  pub at_check : (r : Refusal) → refusal_of r ≡ check s → record { numbers = refusal_of r; output = out } ≡ convert s target out
  at_check r checked =
      let apart : eqb (check s).number 0 ≡ false = ne_eqb (check s).number 0 (λ e. omega (arith, ap (λ (m : Numbers). m.number) checked, e, some_number r)) in
      ap (λ (m : Numbers). record { numbers = m; output = out }) checked
      ∙ sym (by_tests s target out false (other_edition s target) (leb (length s) (length out)) apart refl refl)

  module _ (c : Counts) (checked : answered (Ok c) ≡ check s) where
    accepted_is : (check s).number ≡ 0
    accepted_is = sym (ap (λ (m : Numbers). m.number) checked)

    pub whole_is : Parts s
    whole_is = let (n, h) = stands_for s accepted_is in parts_of (accepted s n h)

    pub carryable : other_edition s target ≡ true → length s ≤ length out → Carryable s target out
    carryable o room =
        let (n, h) = stands_for s accepted_is in
        let x = accepted s n h in
        record { whole = record { length_is = x.length_is; parts_are = x.parts_are }; known = x.edition_is; other = o; room = room }

    pub at_target : other_edition s target ≡ false → returned (length s) (Err OtherEdition) out ≡ convert s target out
    at_target o = sym (by_tests s target out true false (leb (length s) (length out)) (eq-eqb (check s).number 0 accepted_is) o refl)

    pub at_short : other_edition s target ≡ true → length out < length s → returned (length s) (Err (OutputTooShort (length s))) out ≡ convert s target out
    at_short o h = sym (by_tests s target out true true false (eq-eqb (check s).number 0 accepted_is) o (lt-leb (length s) (length out) h))

    pub at_success : (out' : List ℕ) → other_edition s target ≡ true → length s ≤ length out → out' ≡ carried target s ++ drop (length s) out
        → returned (length s) (Ok c) out' ≡ convert s target out
    at_success out' o h e =
        let same : returned (length s) (Ok c) out' ≡ put_out s target out (check s) true = cc (checked, e) in
        same ∙ sym (by_tests s target out true true true (eq-eqb (check s).number 0 accepted_is) o (le-leb (length s) (length out) h))
