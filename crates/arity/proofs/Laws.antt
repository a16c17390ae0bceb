-- What the definitions say of the tags in a range is one equation between two lists, which antt computes.
-- Assumes nothing.
use Prim.Native.Nat.{ℕ, zero, suc, ◌+◌, ◌%◌, ◌≤◌, ◌<◌}
use native.Mathlib.Omega.{arith}
use mathlib.Core.Path.{◌≡◌, refl, sym, ap, ◌∙◌}
use mathlib.Core.Bool.{Bool, true, false, ◌&&◌}
use mathlib.Core.List.{List, map}
use mathlib.Core.Option.{Option, none, some}
use lib.Dec.{eqb}
use Rattle.std.proofs.Math.Decide.{dec_lt}
use lib.ListN.{get_or, get_or-map, get_or-eq_default}
use Rattle.sql.specs.Plan.{up_to}
use Rattle.sql.specs.Ranges.{same_in}
use Rattle.sheet.specs.Cell.{Cell, Tag, unknown, not_carried, carried, tags, tag_of, fields_ok, float_ok, cell_ok}
use Rattle.sheet.specs.Content.{Content, Reader, readers, content_of, bit}
use Rattle.std.specs.Prelude.{Option as Answer, None}
use Rattle.arity.specs.declared.Sort.{Sort}
use Rattle.arity.specs.Arity.{sort_of, childless, children_of, Sorted, Asked}
use Rattle.arity.specs.declared.Children.{Children}

-- for a tag past the list of readers
abbrev no_cell : Reader
no_cell text x = none

-- a flag's bit 0, as a number
pub bit0_is : (flag : ℕ) → bit (eqb (flag % 2) 1) ≡ flag % 2
bit0_is flag = go (flag % 2) (omega arith)
  where
    go : (n : ℕ) → n < 2 → bit (eqb n 1) ≡ n
    go zero h = refl
    go (suc zero) h = refl
    go (suc (suc n)) h = absurd (omega arith)

-- a number is below another, or it is not
pub by_below : {G : Type 0} (i n : ℕ) → (i < n → G) → (n ≤ i → G) → G
by_below {G} i n f g = go (dec_lt i n)
  where
    go : Dec (i < n) → G
    go (yes h) = f h
    go (no h) = g (omega arith)

-- ---- sorts

module _ {tag : ℕ} where
  -- The sort of the tags from one on is what a function says.
  pub sorted_by : (f : ℕ → Answer Sort) (from n : ℕ) → ((text : List ℕ) (x : Cell) → map (λ t. sort_of (get_or readers t no_cell text x)) (up_to from n) ≡ map f (up_to from n))
      → from ≤ tag → tag < from + n → Sorted tag (f tag)
  unfolding content_of
  sorted_by f from n e h j =
      record {
        is = λ text x q. sym (ap (λ (t : ℕ). sort_of (get_or readers t no_cell text x)) q ∙ same_in (λ t. sort_of (get_or readers t no_cell text x)) f from n (e text x) tag h j);
      }

  pub unsorted : 64 ≤ tag → Sorted tag None
  unfolding content_of
  unsorted h =
      record {
        is = λ text x q. sym (ap (λ (r : Reader). sort_of (r text x)) (ap (λ (t : ℕ). get_or readers t no_cell) q ∙ get_or-eq_default readers no_cell {n = tag} h));
      }

-- ---- children

abbrev it : (tag flag a b c origin : ℕ) → Cell
it tag flag a b c origin = record { tag = tag; flag = flag; origin = origin; a = a; b = b; c = c }

-- what the reader for a tag says that a cell asks for
abbrev asked_at : List ℕ → Cell → ℕ → Children
asked_at text x t = children_of (get_or readers t no_cell text x)

module _ {tag flag a b c : ℕ} where
  -- Cells with the tags from one on ask for the same children.
  pub asked_by : (v : Children) (from n : ℕ) → ((text : List ℕ) (origin : ℕ) → map (asked_at text (it tag flag a b c origin)) (up_to from n) ≡ map (λ t. v) (up_to from n))
      → from ≤ tag → tag < from + n → v.nodes < 3 → {r : Children} → r ≡ v → Asked tag flag a b c r
  unfolding content_of
  asked_by v from n e h j k q =
      record {
        is = λ text origin. q ∙ sym (same_in (asked_at text (it tag flag a b c origin)) (λ t. v) from n (e text origin) tag h j);
        few = rw q k;
      }

  -- no cell has a tag past the readers
  pub unasked : 64 ≤ tag → {r : Children} → r ≡ childless → Asked tag flag a b c r
  unfolding content_of
  unasked h q =
      record {
        is = λ text origin. q ∙ sym (ap (λ (r : Reader). children_of (r text (it tag flag a b c origin))) (get_or-eq_default readers no_cell {n = tag} h));
        few = rw q (omega arith);
      }

  -- a cell of one tag
  pub asked_as : (t : ℕ) (v : Children) → ((text : List ℕ) (origin : ℕ) → asked_at text (it tag flag a b c origin) t ≡ v) → tag ≡ t → v.nodes < 3 → {r : Children} → r ≡ v → Asked tag flag a b c r
  unfolding content_of
  asked_as t v e h k q =
      record {
        is = λ text origin. q ∙ sym (ap (asked_at text (it tag flag a b c origin)) h ∙ e text origin);
        few = rw q k;
      }

-- ---- cells whose layout is right

-- What a cell says, if its layout is right.
pub record Known (text : List ℕ) (x : Cell) : Type 0 where
  pub content : Content
  pub is : content_of text x ≡ some content

abbrev is_carried : Tag → Bool
is_carried unknown = false
is_carried not_carried = false
is_carried (carried flags a b c) = true

abbrev has_content : Option Content → Bool
has_content none = false
has_content (some k) = true

-- What two tables say is the same at each index if it is so as lists, and for the entries that stand for those past the end.
same_at : {A B C : Type 0} (f : A → C) (g : B → C) (l : List A) (m : List B) (d : A) (e : B) → f d ≡ g e → map f l ≡ map g m
    → (n : ℕ) → f (get_or l n d) ≡ g (get_or m n e)
same_at f g l m d e p q n =
    sym (get_or-map f l n d) ∙ ap (λ (x : List _). get_or x n (f d)) q ∙ ap (λ (x : _). get_or (map g m) n x) p ∙ get_or-map g m n e

-- The tags that the layout allows are those that have a reader.
carried_rule : (text : List ℕ) (x : Cell) → is_carried (tag_of x.tag) ≡ has_content (content_of text x)
unfolding tag_of content_of
carried_rule text x = same_at is_carried (λ (r : Reader). has_content (r text x)) tags readers unknown (λ t c. none) refl refl x.tag

pub content_known : (text : List ℕ) (origins bytes tables : ℕ) (x : Cell) → cell_ok origins bytes tables x ≡ true → Known text x
unfolding cell_ok
content_known text origins bytes tables x e = some_content (content_of text x) refl (sym (carried_rule text x) ∙ tag_carried (tag_of x.tag) e)
  where
    tag_carried : (t : Tag) → (fields_ok origins bytes tables x t && float_ok x) ≡ true → is_carried t ≡ true
    tag_carried unknown h = h
    tag_carried not_carried h = h
    tag_carried (carried flags a b c) h = refl

    some_content : (o : Option Content) → content_of text x ≡ o → has_content o ≡ true → Known text x
    some_content none p h = let z : ◌≡◌ {A = ℕ} 0 1 = cc in absurd (omega arith)
    some_content (some k) p h = record { content = k; is = p }
