-- What the records of a table's columns say of one column.
use Prim.Native.Nat.{ℕ, ◌+◌, ◌*◌, ◌/◌, ◌≤◌, ◌<◌}
use native.Mathlib.Omega.{arith}
use borrow.Author.Tests.{eq-eqb, ne_eqb}
use mathlib.Core.Bool.{Bool, false, ◌||◌}
use mathlib.Core.Path.{◌≡◌, sym, ap, ◌∙◌}
use mathlib.Core.List.{List}
use lib.Dec.{eqb}
use lib.ListN.{length, get_or, get_or-eq_default}
use Rattle.sheet.specs.Bytes.{byte}
use Rattle.records.proofs.Laws.{length_range, getD_range}
use Rattle.first_lookup.specs.First.{marks_in}

module _ (key : ℕ) (records : List ℕ) where
  pub marks_long : length (marks_in key records) ≡ length records / 16
  unfolding marks_in
  marks_long = length_range (λ i. eqb i key || eqb (byte records (i * 16 + 5)) 1) 0 (length records / 16)

  module _ (c : ℕ) where
    -- a column that there isn't
    pub none_said : length records / 16 ≤ c → false ≡ get_or (marks_in key records) c false
    none_said h = sym (get_or-eq_default (marks_in key records) false (omega (arith, marks_long)))

    module _ (h : c < length records / 16) where
      pub said : get_or (marks_in key records) c false ≡ (eqb c key || eqb (byte records (c * 16 + 5)) 1)
      unfolding marks_in
      said =
          let e : 0 + c ≡ c = omega arith in
          getD_range (λ i. eqb i key || eqb (byte records (i * 16 + 5)) 1) false 0 (length records / 16) c h
          ∙ ap (λ (i : ℕ). eqb i key || eqb (byte records (i * 16 + 5)) 1) e

      pub key_said : c ≡ key → eqb c key ≡ get_or (marks_in key records) c false
      key_said e = eq-eqb c key e ∙ sym (said ∙ ap (λ (b : Bool). b || eqb (byte records (c * 16 + 5)) 1) (eq-eqb c key e))

      pub index_said : (c ≡ key → ⊥) → {r : ℕ} → r ≡ byte records (c * 16 + 5) → eqb r 1 ≡ get_or (marks_in key records) c false
      index_said e {r} f =
          ap (λ (n : ℕ). eqb n 1) f ∙ sym (said ∙ ap (λ (b : Bool). b || eqb (byte records (c * 16 + 5)) 1) (ne_eqb c key e))
