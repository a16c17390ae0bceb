-- The whole root digit by digit: what holds before each turn of `whole_root`'s loop. Assumes nothing.
use mathlib.Core.Path.{◌≡◌, sym, ap, ◌∙◌, subst}
use Prim.Native.Nat.{ℕ, suc, ◌+◌, ◌-◌, ◌*◌, ◌/◌, ◌%◌, ◌^◌, ◌≤◌, ◌<◌}
use native.Mathlib.Nat.{lt_of_lt_of_le, pow-suc, mul_assoc}
use native.Mathlib.Numerals.{add-one}
use native.Mathlib.Omega.{arith}
use lib.Pow.{pow_mono}
use Rattle.ieee754.specs.Ieee754.{square}
use Rattle.ieee754.specs.Roots.{WholeRoot}

-- After i turns the leading i pairs of m * 2 ^ 54's digits are the root's square and a rest; `digits` are those of m that are left, moved to the top.
pub record Turn (m root rest digits i : ℕ) : Type 0 where
  pub count : i ≤ 54
  pub taken : m * 4 ^ i ≡ (square root + rest) * 2 ^ 54 + digits
  pub digits_lt : digits < 2 ^ 54
  pub rest_le : rest ≤ root * 2
  pub root_lt : root < 2 ^ i

pub first : (m : ℕ) → m < 2 ^ 54 → Turn m 0 0 m 0
first m h = record { count = omega arith; taken = omega arith; digits_lt = h; rest_le = omega arith; root_lt = omega arith }

four_more : (m i : ℕ) → m * 4 ^ (i + 1) ≡ m * 4 ^ i * 4
four_more m i = ap (λ (x : ℕ). m * 4 ^ x) (add-one i) ∙ ap (λ (x : ℕ). m * x) (pow-suc 4 i) ∙ sym (mul_assoc m (4 ^ i) 4)

two_more : (i : ℕ) → 2 ^ (i + 1) ≡ 2 ^ i * 2
two_more i = ap (λ (x : ℕ). 2 ^ x) (add-one i) ∙ pow-suc 2 i

module _ {m root rest digits i : ℕ} (t : Turn m root rest digits i) (more : i < 54) where
  pub root_small : root < 2 ^ 53
  root_small = lt_of_lt_of_le t.root_lt (pow_mono (up i more))
    where
      up : (i : ℕ) → i < 54 → i ≤ 53
      up i h = omega arith

  all : (root' rest' : ℕ) → square root' + rest' ≡ square root * 4 + (rest * 4 + digits / 2 ^ 52)
      → m * 4 ^ (i + 1) ≡ (square root' + rest') * 2 ^ 54 + digits % 2 ^ 52 * 4
  all root' rest' e =
      four_more m i
      ∙ ap (λ (x : ℕ). x * 4) t.taken
      ∙ moved (square root) rest digits
      ∙ ap (λ (x : ℕ). x * 2 ^ 54 + digits % 2 ^ 52 * 4) (sym e)
    where
      moved : (s r d : ℕ) → ((s + r) * 2 ^ 54 + d) * 4 ≡ (s * 4 + (r * 4 + d / 2 ^ 52)) * 2 ^ 54 + d % 2 ^ 52 * 4
      moved s r d = omega arith

  digits_next : digits % 2 ^ 52 * 4 < 2 ^ 54
  digits_next = omega arith

  -- the next digit is 0
  pub stays : rest * 4 + digits / 2 ^ 52 ≤ root * 2 * 2 → Turn m (root * 2) (rest * 4 + digits / 2 ^ 52) (digits % 2 ^ 52 * 4) (i + 1)
  stays h = record {
    count = omega arith;
    taken = all (root * 2) (rest * 4 + digits / 2 ^ 52) (twice root (rest * 4 + digits / 2 ^ 52));
    digits_lt = digits_next;
    rest_le = h;
    root_lt = subst (λ (x : ℕ). root * 2 < x) (sym (two_more i)) (less root (2 ^ i) t.root_lt);
  }
    where
      twice : (r s : ℕ) → square (r * 2) + s ≡ square r * 4 + s
      twice r s = omega arith

      less : (r w : ℕ) → r < w → r * 2 < w * 2
      less r w h = omega arith

  -- it is 1
  pub moves : root * 2 * 2 < rest * 4 + digits / 2 ^ 52
      → Turn m (root * 2 + 1) (rest * 4 + digits / 2 ^ 52 - (root * 2 * 2 + 1)) (digits % 2 ^ 52 * 4) (i + 1)
  moves h = record {
    count = omega arith;
    taken = all (root * 2 + 1) (rest * 4 + digits / 2 ^ 52 - (root * 2 * 2 + 1)) (twice root (rest * 4 + digits / 2 ^ 52) h);
    digits_lt = digits_next;
    rest_le = small root rest digits t.rest_le t.digits_lt;
    root_lt = subst (λ (x : ℕ). root * 2 + 1 < x) (sym (two_more i)) (less root (2 ^ i) t.root_lt);
  }
    where
      twice : (r s : ℕ) → r * 2 * 2 < s → square (r * 2 + 1) + (s - (r * 2 * 2 + 1)) ≡ square r * 4 + s
      twice r s h = omega arith

      small : (r s d : ℕ) → s ≤ r * 2 → d < 2 ^ 54 → s * 4 + d / 2 ^ 52 - (r * 2 * 2 + 1) ≤ (r * 2 + 1) * 2
      small r s d h l = omega arith

      less : (r w : ℕ) → r < w → r * 2 + 1 < w * 2
      less r w h = omega arith

pub turn_as : {m root rest root' rest' digits i : ℕ} → root' ≡ root → rest' ≡ rest → Turn m root rest digits i → Turn m root' rest' digits i
turn_as {m} {root} {rest} {root'} {rest'} {digits} {i} p q t = subst (λ (x : ℕ). Turn m x rest' digits i) (sym p) (subst (λ (x : ℕ). Turn m root x digits i) (sym q) t)

-- after 54 turns
pub last : {m root rest digits i : ℕ} → Turn m root rest digits i → 54 ≤ i → WholeRoot (m * 2 ^ 54) root
last {m} {root} {rest} {digits} {i} t h =
    let e : m * 2 ^ 54 ≡ square root + rest = whole (m * 2 ^ 54) (square root + rest) digits (apart m ∙ ap (λ (x : ℕ). m * 4 ^ x) (sym (done i h t.count)) ∙ t.taken) t.digits_lt in
    record { low = under (m * 2 ^ 54) (square root) rest e; high = over (m * 2 ^ 54) root rest e t.rest_le }
  where
    done : (i : ℕ) → 54 ≤ i → i ≤ 54 → i ≡ 54
    done i h l = omega arith

    apart : (m : ℕ) → m * 2 ^ 54 * 2 ^ 54 ≡ m * 4 ^ 54
    apart m = omega arith

    whole : (x s d : ℕ) → x * 2 ^ 54 ≡ s * 2 ^ 54 + d → d < 2 ^ 54 → x ≡ s
    whole x s d e l = omega arith

    under : (x s r : ℕ) → x ≡ s + r → s ≤ x
    under x s r e = omega arith

    over : (x s r : ℕ) → x ≡ square s + r → r ≤ s * 2 → x < square (suc s)
    over x s r e l = omega arith
