-- The lookup that takes a Scan's place: its cell, its constants, and that its column is marked.
use Prim.Native.Nat.{ℕ, ◌+◌, ◌-◌, ◌*◌, ◌/◌, ◌≤◌, ◌<◌}
use native.Mathlib.Omega.{arith}
use mathlib.Core.Bool.{Bool, true, false, cond}
use mathlib.Core.Logic.{⊎_elim}
use mathlib.Core.Option.{Option, none, some}
use mathlib.Core.Path.{◌≡◌, refl, sym, ap, ◌∙◌, subst}
use mathlib.Core.List.{List, [], ◌∷◌}
use lib.Dec.{eqb}
use lib.ListN.{length, get_or, get_or-eq_default}
use Rattle.value.specs.Value.{Value}
use Rattle.sql.specs.Schema.{Schema, table_of}
use Rattle.sql.specs.Expression.{Expression, ands, is_column_lookup, into_column_values}
use Rattle.sql.specs.Plan.{by_key, by_index, scan, lookup, leaf}
use Rattle.sql.specs.Optimizer.{Found, access}
use Rattle.sheet.specs.Content.{scan_cell}
use Rattle.sheet.specs.Cells.{lookup_content}
use Rattle.cells.specs.declared.Cell.{Cell}
use Rattle.cells.specs.Cells.{cell_words, sized, cell_at}
use Rattle.cells.specs.Room.{Wrote, Seals}
use Rattle.cells.proofs.Laws.{no_more, lt_or_ge, wrote_up}
use Rattle.words.specs.Words.{cell, all_words, constant_words, node_words}
use Rattle.words.specs.Place.{ExpressionHere, ExpressionAt, NodeHere}
use Rattle.words.proofs.Nodes.{node_cell_is}
use Rattle.words.proofs.Sizes.{all_single, sized_long}
use Rattle.column_lookup.specs.Values.{Gathers}
use Rattle.first_lookup.specs.declared.FoundLookup.{FoundLookup}
use Rattle.std.specs.Prelude as code
use Rattle.std.specs.Prelude.{Some}
use Rattle.first_lookup.specs.First.{marks_in, with_mark, first_here, first_marked, Stands, FindsFirst}
use Rattle.first_lookup.proofs.Records.{marks_long}
use Rattle.lookup_or_scan.specs.Scan.{lookup_cell, ScanAt, Looks}

-- ---- the cell

cell_of_lookup : (og t : ℕ) (al : Option ℕ) (key c n : ℕ)
    → lookup_cell (cell og (scan_cell true t al)) key c n ≡ cell og (lookup_content (cond (eqb c key) by_key (by_index c)) t al n)
unfolding cell
cell_of_lookup og t al key c n = go al (eqb c key)
  where
    go : (al : Option ℕ) (b : Bool) →
        cond b (record { origin = (cell og (scan_cell true t al)).origin; tag = 54; flag = (cell og (scan_cell true t al)).flag / 2; a = (cell og (scan_cell true t al)).a; b = (cell og (scan_cell true t al)).b; c = n })
        (record { origin = (cell og (scan_cell true t al)).origin; tag = 53; flag = (cell og (scan_cell true t al)).flag / 2; a = (cell og (scan_cell true t al)).a; b = (cell og (scan_cell true t al)).b; c = c + 65536 * n })
        ≡ cell og (lookup_content (cond b by_key (by_index c)) t al n)
    go none true = refl
    go none false = refl
    go (some r) true = refl
    go (some r) false = refl

-- The constants and the cell that the code writes are the lookup's words.
pub lookup_words : (schema : Schema) (og t : ℕ) (al : Option ℕ) (q : Expression) (vs : List (Value × ℕ)) {x : List ℕ} {lo hi : ℕ} {k : Cell} {key c i : ℕ}
    → k ≡ cell_at x hi → key ≡ (table_of schema t).primary_key → i ≡ c → NodeHere x lo hi (leaf og (scan t al (some q)))
    → sized (all_words constant_words vs) (lookup_cell k key c (length vs)) ≡ node_words (leaf og (lookup (access schema t i) t al vs))
unfolding node_words
lookup_words schema og t al q vs {x} {lo} {hi} {k} {key} {c} {i} e f g u =
    ap (sized (all_words constant_words vs))
    (ap (λ (z : Cell). lookup_cell z key c (length vs)) (e ∙ node_cell_is (leaf og (scan t al (some q))) u)
    ∙ (cell_of_lookup og t al key c (length vs)
    ∙ (ap (λ (z : ℕ). cell og (lookup_content (cond (eqb c z) by_key (by_index c)) t al (length vs))) f
    ∙ ap (λ (z : ℕ). cell og (lookup_content (access schema t z) t al (length vs))) (sym g))))

pub scan_origin : (og t : ℕ) (al : Option ℕ) (q : Expression) {x : List ℕ} {lo hi : ℕ} {k : Cell} → k ≡ cell_at x hi → NodeHere x lo hi (leaf og (scan t al (some q))) → k.origin ≡ og
unfolding cell
scan_origin og t al q e u = ap (λ (z : Cell). z.origin) (e ∙ node_cell_is (leaf og (scan t al (some q))) u)

-- ---- the constants, and the cell over them

module _ {w : List ℕ} {a b : ℕ} {y : List ℕ} {at n : ℕ} {y₁ : List ℕ} (g : Gathers w a b y at n y₁) where
  pub looks_full : (k : Cell) (key c : ℕ) → length y < n → Looks k key c w a b y at n y₁
  looks_full k key c h e u =
      no_more h (omega (arith, sized_long (all_words constant_words (into_column_values e)) (lookup_cell k key c (length (into_column_values e))))) (g e u)

  module _ (h : n ≤ length y) where
    values_long : (e : Expression) → ExpressionHere w a b e → n ≡ at + cell_words * length (into_column_values e)
    values_long e u =
        omega (arith, wrote_up (g e u) h, all_single constant_words (λ v. refl) (into_column_values e))

    pub values_count : ExpressionAt w a b → (at ≤ n) × (cell_words * ((n - at) / cell_words) ≤ length y)
    values_count p = let i = values_long p.e p.here in (omega arith, omega arith)

    pub looks : (k : Cell) (key c : ℕ) → length y₁ ≡ length y → {q : Cell} → q ≡ lookup_cell k key c ((n - at) / cell_words) → {r : ℕ} {y₂ : List ℕ} → Seals y₁ at n q r y₂ → Looks k key c w a b y at r y₂
    looks k key c l {q} e {r} {y₂} s x u =
        let i = values_long x u in
        let j : (n - at) / cell_words ≡ length (into_column_values x) = omega arith in
        subst (λ (z : Cell). Wrote y at (sized (all_words constant_words (into_column_values x)) z) r y₂) (e ∙ ap (lookup_cell k key c) j)
        (s y (all_words constant_words (into_column_values x)) l (g x u))

-- ---- the lookup's column is marked

module _ (marks : List Bool) where
  abbrev Marked : Option Found → Type 0
  Marked none = Unit {0}
  Marked (some f) = get_or marks f.column_number false ≡ true

  abbrev With : Option ℕ → Type 0
  With none = Unit {0}
  With (some c) = get_or marks c false ≡ true

  with_marked : (o : Option ℕ) → With (with_mark marks o)
  with_marked none = tt
  with_marked (some c) = go (get_or marks c false) refl
    where
      go : (b : Bool) → get_or marks c false ≡ b → With (cond b (some c) none)
      go true z = z
      go false z = tt

  here_marked : (e : Expression) (es : List Expression) (o : Option ℕ) (later : Option Found) → With o → Marked later → Marked (first_here e es o later)
  here_marked e es (some c) later h k = h
  here_marked e es none none h k = tt
  here_marked e es none (some f) h k = k

  found_marked : (es : List Expression) → Marked (first_marked marks es)
  found_marked [] = tt
  found_marked (e ∷ es) = here_marked e es (with_mark marks (is_column_lookup e)) (first_marked marks es) (with_marked (is_column_lookup e)) (found_marked es)

marked_inside : (marks : List Bool) (c : ℕ) → get_or marks c false ≡ true → c < length marks
marked_inside marks c h = ⊎_elim (λ (z : c < length marks). z)
    (λ (z : length marks ≤ c). absurd (clash (sym (get_or-eq_default marks false z) ∙ h)))
    (lt_or_ge c (length marks))
  where
    clash : false ≡ true → ⊥
    clash q = let z : ◌≡◌ {A = ℕ} 0 1 = cc in omega arith

module _ {x : List ℕ} {lo hi : ℕ} {y w : List ℕ} {m key : ℕ} {columns : List ℕ} (p : ScanAt x lo hi y w m key columns) {r : code.Option FoundLookup}
    (f : FindsFirst (marks_in key columns) w 0 m r) {j : FoundLookup} (e : r ≡ Some j) where
  -- Where a lookup is found, its conjunct stands there, and its column is one that has a record.
  pub found_there : ExpressionAt w j.start j.end × (j.column < 256)
  found_there =
      go (first_marked (marks_in key columns) (ands p.cnf)) (found_marked (marks_in key columns) (ands p.cnf))
      (subst (λ (q : code.Option FoundLookup). Stands w 0 m q (first_marked (marks_in key columns) (ands p.cnf))) e (f p.cnf p.cnf_here))
    where
      go : (o : Option Found) → Marked (marks_in key columns) o → Stands w 0 m (Some j) o → ExpressionAt w j.start j.end × (j.column < 256)
      go none i s = absurd s
      go (some h) i s =
          let z = marked_inside (marks_in key columns) h.column_number i in
          (record { e = h.conjunct; here = s.1.1 }, omega (arith, s.1.0, p.few, marks_long key columns))
