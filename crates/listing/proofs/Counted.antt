-- Cells counted by kind, one by one.
use Prim.Native.Nat.{ℕ, zero, suc, ◌+◌, ◌≤◌, ◌<◌}
use native.Mathlib.Omega.{arith}
use native.Mathlib.Nat.{add-zero}
use mathlib.Core.Logic.{◌⊎◌, inl, inr}
use mathlib.Core.Path.{◌≡◌, refl, sym, ap, ◌∙◌}
use mathlib.Core.Bool.{Bool, cond, ◌&&◌}
use mathlib.Core.List.{List, [], ◌∷◌, map}
use lib.Dec.{ltb}
use lib.ListN.{length}
use borrow.Author.Tests.{lt-ltb, le-ltb, le-leb, lt-leb}
use Rattle.sql.specs.Plan.{up_to}
use Rattle.sheet.specs.Parts.{cell_count}
use Rattle.sheet.specs.Cell.{Cell, cell}
use Rattle.sheet.specs.Check.{cells_of}
use Rattle.sheet.specs.Listing.{is_expression, is_part, is_node, of_kind}
use Rattle.layout.specs.Layout.{IsCell}
use Rattle.layout.specs.declared.Cell as Code
use Rattle.cells.proofs.Laws.{lt_or_ge}
use Rattle.listing.specs.declared.Kinds.{Kinds}
use Rattle.listing.specs.Lines.{FewKinds, OneMore, IsKinds}

-- ---- each tag is of one kind

abbrev pub one_if : Bool → ℕ
one_if b = cond b 1 0

-- what the three tests say of a tag
record KindOf (tag : ℕ) (expression part node : ℕ) : Type 0 where
  as_expression : one_if (is_expression tag) ≡ expression
  as_part : one_if (is_part tag) ≡ part
  as_node : one_if (is_node tag) ≡ node

of_expression : (tag : ℕ) → tag < 40 → KindOf tag 1 0 0
of_expression tag h =
    record {
      as_expression = ap one_if (lt-ltb tag 40 h);
      as_part = ap (λ (b : Bool). one_if (b && ltb tag 50)) (lt-leb 40 tag h);
      as_node = ap one_if (lt-leb 50 tag (omega arith));
    }

of_part : (tag : ℕ) → 40 ≤ tag → tag < 50 → KindOf tag 0 1 0
of_part tag l h =
    record {
      as_expression = ap one_if (le-ltb tag 40 l);
      as_part = ap (λ (b : Bool). one_if (b && ltb tag 50)) (le-leb 40 tag l) ∙ ap one_if (lt-ltb tag 50 h);
      as_node = ap one_if (lt-leb 50 tag h);
    }

of_node : (tag : ℕ) → 50 ≤ tag → KindOf tag 0 0 1
of_node tag l =
    record {
      as_expression = ap one_if (le-ltb tag 40 (omega arith));
      as_part = ap (λ (b : Bool). one_if (b && ltb tag 50)) (le-leb 40 tag (omega arith)) ∙ ap one_if (le-ltb tag 50 l);
      as_node = ap one_if (le-leb 50 tag l);
    }

one_kind : (tag : ℕ) → one_if (is_expression tag) + one_if (is_part tag) + one_if (is_node tag) ≡ 1
one_kind tag = go (lt_or_ge tag 40) (lt_or_ge tag 50)
  where
    go : (tag < 40) ⊎ (40 ≤ tag) → (tag < 50) ⊎ (50 ≤ tag) → one_if (is_expression tag) + one_if (is_part tag) + one_if (is_node tag) ≡ 1
    go (inl h) q = let k = of_expression tag h in omega (arith, k.as_expression, k.as_part, k.as_node)
    go (inr l) (inl h) = let k = of_part tag l h in omega (arith, k.as_expression, k.as_part, k.as_node)
    go (inr l) (inr m) = let k = of_node tag m in omega (arith, k.as_expression, k.as_part, k.as_node)

pub each_counted : (cells : List Cell) → of_kind is_expression cells + of_kind is_part cells + of_kind is_node cells ≡ length cells
each_counted [] = refl
each_counted (k ∷ cells) = omega (arith, one_kind k.tag, each_counted cells)

-- ---- the first cells of a sheet

abbrev pub counted_to : List ℕ → ℕ → (ℕ → Bool) → ℕ
counted_to s i kind = of_kind kind (map (cell s) (up_to 0 i))

one_later : (kind : ℕ → Bool) (f : ℕ → Cell) (n j : ℕ)
    → of_kind kind (map f (up_to j (suc n))) ≡ one_if (kind (f (j + n)).tag) + of_kind kind (map f (up_to j n))
one_later kind f zero j = ap (λ (i : ℕ). one_if (kind (f i).tag) + 0) (sym (add-zero j))
one_later kind f (suc n) j =
    let e : suc j + n ≡ j + suc n = omega arith in
    let later = one_later kind f n (suc j) ∙ ap (λ (i : ℕ). one_if (kind (f i).tag) + of_kind kind (map f (up_to (suc j) n))) e in
    omega (arith, later)

pub next_counted : (kind : ℕ → Bool) (s : List ℕ) (i : ℕ) → counted_to s (i + 1) kind ≡ one_if (kind (cell s i).tag) + counted_to s i kind
next_counted kind s i =
    let e : i + 1 ≡ suc i = omega arith in
    let z : 0 + i ≡ i = omega arith in
    ap (λ (n : ℕ). counted_to s n kind) e ∙ one_later kind (cell s) i 0 ∙ ap (λ (j : ℕ). one_if (kind (cell s j).tag) + counted_to s i kind) z

some_long : (f : ℕ → Cell) (n j : ℕ) → length (map f (up_to j n)) ≡ n
some_long f zero j = refl
some_long f (suc n) j = ap suc (some_long f n (suc j))

pub all_long : (s : List ℕ) → length (cells_of s) ≡ cell_count s
unfolding cells_of
all_long s = some_long (cell s) (cell_count s) 0

-- ---- what the loop keeps

pub record Counted (s : List ℕ) (i : ℕ) (k : Kinds) : Type 0 where
  pub expressions_to : k.expressions ≡ counted_to s i is_expression
  pub parts_to : k.parts ≡ counted_to s i is_part
  pub nodes_to : k.nodes ≡ counted_to s i is_node

counted_all : (s : List ℕ) (i : ℕ) (k : Kinds) → Counted s i k → k.expressions + k.parts + k.nodes ≡ i
counted_all s i k c =
    omega (arith, c.expressions_to, c.parts_to, c.nodes_to, each_counted (map (cell s) (up_to 0 i)), some_long (cell s) i 0)

pub few_kinds : (s : List ℕ) (i : ℕ) (k : Kinds) → i < 2048 → Counted s i k → FewKinds k
few_kinds s i k h c = record { few = omega (arith, counted_all s i k c) }

pub counted_next : (s : List ℕ) (i : ℕ) (k r : Kinds) (x : Code.Cell) → IsCell (cell s i) x → Counted s i k → OneMore k x.tag r → Counted s (i + 1) r
counted_next s i k r x c a b =
    let tag : x.tag ≡ (cell s i).tag = ap (λ (y : Cell). y.tag) c.is in
    record {
      expressions_to = omega (arith, b.more_expressions, a.expressions_to, next_counted is_expression s i, ap (λ (t : ℕ). one_if (is_expression t)) tag);
      parts_to = omega (arith, b.more_parts, a.parts_to, next_counted is_part s i, ap (λ (t : ℕ). one_if (is_part t)) tag);
      nodes_to = omega (arith, b.more_nodes, a.nodes_to, next_counted is_node s i, ap (λ (t : ℕ). one_if (is_node t)) tag);
    }

pub counted_done : (s : List ℕ) (i : ℕ) (k : Kinds) → i ≡ cell_count s → i ≤ 2048 → Counted s i k → IsKinds (cells_of s) k
unfolding cells_of
counted_done s i k e h c =
    record {
      expressions_are = c.expressions_to ∙ ap (λ (n : ℕ). counted_to s n is_expression) e;
      parts_are = c.parts_to ∙ ap (λ (n : ℕ). counted_to s n is_part) e;
      nodes_are = c.nodes_to ∙ ap (λ (n : ℕ). counted_to s n is_node) e;
      sum_few = omega (arith, counted_all s i k c);
    }

-- ---- one cell more

pub more_expression : {k : Kinds} {tag : ℕ} {r : Kinds} → tag < 40
    → r.expressions ≡ k.expressions + 1 → r.parts ≡ k.parts → r.nodes ≡ k.nodes → OneMore k tag r
more_expression {k} {tag} {r} h e p n =
    let t = of_expression tag h in
    record {
      more_expressions = omega (arith, t.as_expression);
      more_parts = omega (arith, t.as_part);
      more_nodes = omega (arith, t.as_node);
    }

pub more_part : {k : Kinds} {tag : ℕ} {r : Kinds} → 40 ≤ tag → tag < 50
    → r.expressions ≡ k.expressions → r.parts ≡ k.parts + 1 → r.nodes ≡ k.nodes → OneMore k tag r
more_part {k} {tag} {r} l h e p n =
    let t = of_part tag l h in
    record {
      more_expressions = omega (arith, t.as_expression);
      more_parts = omega (arith, t.as_part);
      more_nodes = omega (arith, t.as_node);
    }

pub more_node : {k : Kinds} {tag : ℕ} {r : Kinds} → 50 ≤ tag
    → r.expressions ≡ k.expressions → r.parts ≡ k.parts → r.nodes ≡ k.nodes + 1 → OneMore k tag r
more_node {k} {tag} {r} l e p n =
    let t = of_node tag l in
    record {
      more_expressions = omega (arith, t.as_expression);
      more_parts = omega (arith, t.as_part);
      more_nodes = omega (arith, t.as_node);
    }
