-- Which fields of a cell are references, by its tag and its flag: what the code asks, set beside the words of crate `compact`.
use Rattle.std.specs.Prelude.{ℕ, ◌+◌, ◌≤◌, ◌≡◌, Bool, false, cond, List, [], ◌∷◌, ◌++◌, leb, length, take}
use Rattle.sheet.specs.Cell.{Field, unused, any, bit, table, text, small, Tag, unknown, not_carried, carried, tag_of}
use Rattle.layout.specs.declared.Cell.{Cell}
use Rattle.text_references.specs.declared.Slot as Code
use Rattle.text_references.specs.declared.Slot.TheVariants as Variants
use Rattle.compact.specs.Slots.{Slot, number, reference, references}

-- a field holds a reference
abbrev pub asks : Field → ℕ → Bool
asks unused flag = false
asks any flag = false
asks bit flag = false
asks table flag = false
asks (text k) flag = leb k flag
asks (small k) flag = false

-- the fields a, b and c of a tag's cells
abbrev pub asks_a : Tag → ℕ → Bool
asks_a unknown flag = false
asks_a not_carried flag = false
asks_a (carried flags a b c) flag = asks a flag

abbrev pub asks_b : Tag → ℕ → Bool
asks_b unknown flag = false
asks_b not_carried flag = false
asks_b (carried flags a b c) flag = asks b flag

abbrev pub asks_c : Tag → ℕ → Bool
asks_c unknown flag = false
asks_c not_carried flag = false
asks_c (carried flags a b c) flag = asks c flag

-- The references of xs stand in refs' behind the first `from` of refs, and end before r. There are at most `most`.
pub record Listed (xs : List Slot) (refs : List ℕ) (from most : ℕ) (refs' : List ℕ) (r : ℕ) : Type 0 where
  pub is : take r refs' ≡ take from refs ++ references xs
  pub long : r ≡ from + length (references xs)
  pub few : r ≤ from + most

-- the word v of a field, a reference or not
abbrev pub if_refers : Bool → ℕ → List Slot
if_refers refers v = cond refers (reference v) (number v) ∷ []

-- a field's word as the code has it
abbrev pub slot_of : Code.Slot → Slot
slot_of (Variants.Number v) = number v
slot_of (Variants.Reference r) = reference r

-- Fields a and b of a cell, by what its tag and its flag ask.
pub record Fields (k : Cell) (a b : Code.Slot) : Type 0 where
  pub a_is : slot_of a ∷ [] ≡ if_refers (asks_a (tag_of k.tag) k.flag) k.a
  pub b_is : slot_of b ∷ [] ≡ if_refers (asks_b (tag_of k.tag) k.flag) k.b
