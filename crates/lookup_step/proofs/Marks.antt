-- The records of one table's columns among those of all columns, and what they say; and that nothing is looked up in a table that there isn't.
use Prim.Native.Nat.{ℕ, ◌+◌, ◌-◌, ◌*◌, ◌/◌, ◌≤◌, ◌<◌}
use native.Mathlib.Omega.{arith}
use native.Mathlib.Decide.{dec_lt}
use borrow.Author.Tests.{ne_eqb}
use mathlib.Core.Bool.{Bool, true, false, ◌||◌}
use mathlib.Core.Option.{Option, none, some}
use mathlib.Core.Path.{◌≡◌, refl, sym, ap, ◌∙◌, subst}
use mathlib.Core.List.{List, [], ◌∷◌, map}
use lib.Dec.{eqb}
use lib.Seq.{get_or-take, get_or-drop}
use lib.ListN.{length, take, drop, get_or, length-take, length-drop}
use Rattle.value.specs.Value.{Value}
use Rattle.sql.specs.Schema.{Column, Table, Schema, table_of}
use Rattle.sql.specs.Expression.{Expression, into_cnf, into_cnf_vec, is_column_lookup}
use Rattle.sql.specs.Plan.{scan, leaf}
use Rattle.sheet.specs.Bytes.{byte}
use Rattle.sql.specs.Optimizer.{Found, has_index, with_index, found_here, find_lookup, lookup_or_scan, index_lookup}
use Rattle.sheet.specs.Content.{scan_cell}
use Rattle.sheet.specs.Scope.{table_columns}
use Rattle.sheet_laws.specs.Fits.{All}
use Rattle.sound.specs.Expressions.{MadeOf, cnf_of, only_lookup}
use Rattle.sound.specs.Sound.{Fitting}
use Rattle.cells.specs.declared.Cell.{Cell}
use Rattle.cells.specs.Cells.{cell_at}
use Rattle.cells.specs.Room.{Wrote, Copies}
use Rattle.words.specs.Words.{cell, node_words}
use Rattle.words.specs.Place.{NodeHere}
use Rattle.words.proofs.Nodes.{node_cell_is}
use Rattle.first_lookup.specs.First.{marks_in, Marks}
use Rattle.first_lookup.proofs.Records.{none_said, said}
use Rattle.lookup_or_scan.specs.Scan.{ScanAt, LooksOrScans}
use Rattle.records.specs.Records.{first_column, table_width, primary_key, Records}
use Rattle.records.proofs.Laws.{field_some, key_said, width_said, column_said, column_none}
use Rattle.lookup_step.specs.Lookup.{FilteredAt, LooksUp}

-- ---- the records of a table's columns

module _ {schema : Schema} {records columns : List ℕ} (g : Records records columns schema) (t : ℕ) where
  module _ (h : 0 < table_width records t) where
    module _ {from to key : ℕ} (e : from ≡ 16 * first_column records t) (f : to ≡ 16 * (first_column records t + table_width records t)) (k : key ≡ primary_key records t) where
      own : List ℕ
      own = take (to - from) (drop from columns)

      own_bytes : length own ≡ 16 * table_width records t
      unfolding own
      own_bytes = let i = g.inside t in simp (length-take, length-drop) (omega arith)

      own_long : length own / 16 ≡ table_width records t
      own_long = omega (arith, own_bytes)

      -- a column that the table has
      marked_some : (c : ℕ) → c < table_width records t → has_index schema t c ≡ get_or (marks_in key own) c false
      unfolding own
      marked_some c i =
          let b : byte own (c * 16 + 5) ≡ byte columns ((first_column records t + c) * 16 + 5) =
          get_or-take (to - from) (drop from columns) (c * 16 + 5) 0 (omega arith) ∙ (get_or-drop from columns (c * 16 + 5) 0 ∙ (let j : from + (c * 16 + 5) ≡ (first_column records t + c) * 16 + 5 = omega arith in ap (byte columns) j)) in
          ap (λ (x : Column). eqb c (table_of schema t).primary_key || x.index) (column_said g t c i)
          ∙ (ap (λ (n : ℕ). eqb c n || eqb (byte columns ((first_column records t + c) * 16 + 5)) 1) (sym (k ∙ key_said g t))
          ∙ (ap (λ (n : ℕ). eqb c key || eqb n 1) (sym b) ∙ sym (said key own c (omega (arith, own_long)))))

      -- and one that it hasn't
      marked_none : (c : ℕ) → table_width records t ≤ c → has_index schema t c ≡ get_or (marks_in key own) c false
      marked_none c i =
          ap (λ (x : Column). eqb c (table_of schema t).primary_key || x.index) (column_none g t c i)
          ∙ (ap (λ (b : Bool). b || false) (ne_eqb c (table_of schema t).primary_key (λ z. omega (arith, key_said g t, g.key_inside t (field_some 8 records t h))))
          ∙ none_said key own c (omega (arith, own_long)))

      table_marked : Marks schema t (marks_in key (take (to - from) (drop from columns)))
      unfolding own
      table_marked c = go (dec_lt c (table_width records t))
        where
          go : Dec (c < table_width records t) → has_index schema t c ≡ get_or (marks_in key (take (to - from) (drop from columns))) c false
          go (yes i) = marked_some c i
          go (no i) = marked_none c (omega arith)

      slice_few : length (take (to - from) (drop from columns)) ≤ 4096
      unfolding own
      slice_few = omega (arith, own_bytes, g.inside t, g.few)

-- ---- a table that there isn't has no columns

no_lookup : (P : Value → Type 0) (e : Expression) → MadeOf P (λ c. c < 0) e → is_column_lookup e ≡ none
no_lookup P e m = go (is_column_lookup e) refl
  where
    go : (o : Option ℕ) → is_column_lookup e ≡ o → is_column_lookup e ≡ none
    go none z = z
    go (some c) z = absurd (omega (arith, (only_lookup P (λ c. c < 0) e c z m).0))

nothing_found : (schema : Schema) (t : ℕ) (P : Value → Type 0) (es : List Expression) → All (MadeOf P (λ c. c < 0)) es → find_lookup schema t es ≡ none
nothing_found schema t P [] m = refl
nothing_found schema t P (e ∷ es) m =
    ap (λ (o : Option ℕ). found_here schema t e es (with_index schema t o) (find_lookup schema t es)) (no_lookup P e m.0)
    ∙ ap (found_here schema t e es none) (nothing_found schema t P es m.1)

some_width : {width n : ℕ} → (width ≡ 0 → ⊥) → width ≡ n → 0 < n
some_width h e = omega arith

-- ---- the Scan's table, and what becomes of the Scan

scan_table : (og t : ℕ) (al : Option ℕ) → (cell og (scan_cell true t al)).a ≡ t
unfolding cell
scan_table og t none = refl
scan_table og t (some r) = refl

module _ {x : List ℕ} {lo hi : ℕ} {k : Cell} (e : k ≡ cell_at x hi) where
  pub table_is : (og t : ℕ) (al : Option ℕ) (q : Expression) → NodeHere x lo hi (leaf og (scan t al (some q))) → k.a ≡ t
  table_is og t al q u = ap (λ (c : Cell). c.a) (e ∙ node_cell_is (leaf og (scan t al (some q))) u) ∙ scan_table og t al

  module _ {y : List ℕ} {w : List ℕ} {m : ℕ} (records columns : List ℕ) where
    -- a table that has no columns
    pub copied_scan : {at : ℕ} {width : ℕ} → width ≡ table_width records k.a → width ≡ 0 → {r : ℕ} {y' : List ℕ} → Copies x lo hi y at r y' → LooksUp x lo hi y at w m records columns r y'
    unfolding index_lookup
    copied_scan {at} d h {r} {y'} c schema text tables g og t al q s u v =
        let n : table_columns schema t ≡ 0 = sym (width_said g t) ∙ (ap (table_width records) (sym (table_is og t al q u)) ∙ (sym d ∙ h)) in
        let all : All (MadeOf (Fitting schema text tables) (λ c. c < 0)) (into_cnf_vec q) =
        subst (λ (n : ℕ). All (MadeOf (Fitting schema text tables) (λ c. c < n)) (into_cnf_vec q)) n (cnf_of (Fitting schema text tables) (λ c. c < table_columns schema t) q s.0) in
        subst (λ (o : Option Found). Wrote y at (node_words (lookup_or_scan schema t og al q o)) r y')
        (sym (nothing_found schema t (Fitting schema text tables) (into_cnf_vec q) all))
        (c (node_words (leaf og (scan t al (some q)))) u.part)

    module _ {width first from to key : ℕ} (n : width ≡ table_width records k.a) (h : width ≡ 0 → ⊥) (f : first ≡ first_column records k.a) (d : from ≡ 16 * first)
        (d' : to ≡ 16 * (first + width)) (z : key ≡ primary_key records k.a) where
      pub scan_at : FilteredAt x lo hi y w m records columns → ScanAt x lo hi y w m key (take (to - from) (drop from columns))
      scan_at p =
          let i : k.a ≡ p.table = table_is p.og p.table p.alias p.predicate p.here in
          let f₁ = f ∙ ap (first_column records) i in
          let n₁ : width ≡ table_width records p.table = n ∙ ap (table_width records) i in
          let d₁ : to ≡ 16 * (first_column records p.table + table_width records p.table) = omega arith in
          let z₁ = z ∙ ap (primary_key records) i in
          let s₁ = some_width h n₁ in
          record {
            schema = p.schema;
            og = p.og;
            table = p.table;
            alias = p.alias;
            predicate = p.predicate;
            cnf = into_cnf p.predicate;
            here = p.here;
            cnf_here = p.cnf_here;
            marked = table_marked p.given p.table s₁ (d ∙ ap (λ (n : ℕ). 16 * n) f₁) d₁ z₁;
            keyed = z₁ ∙ key_said p.given p.table;
            few = slice_few p.given p.table s₁ (d ∙ ap (λ (n : ℕ). 16 * n) f₁) d₁ z₁;
            short = p.short;
          }

      pub looked_up : {at r : ℕ} {y' : List ℕ} → LooksOrScans x lo hi y at w m key (take (to - from) (drop from columns)) r y'
          → LooksUp x lo hi y at w m records columns r y'
      unfolding index_lookup into_cnf_vec
      looked_up l schema text tables g og t al q s u v =
          let i : k.a ≡ t = table_is og t al q u in
          let f₁ = f ∙ ap (first_column records) i in
          let n₁ : width ≡ table_width records t = n ∙ ap (table_width records) i in
          let d₁ : to ≡ 16 * (first_column records t + table_width records t) = omega arith in
          let z₁ = z ∙ ap (primary_key records) i in
          let s₁ = some_width h n₁ in
          l schema t (table_marked g t s₁ (d ∙ ap (λ (n : ℕ). 16 * n) f₁) d₁ z₁) (z₁ ∙ key_said g t) og al q (into_cnf q) u v

-- ---- the fact that the code's slice asks for
pub slice_inside : {x : List ℕ} {lo hi : ℕ} {y w : List ℕ} {m : ℕ} {records columns : List ℕ} → FilteredAt x lo hi y w m records columns → (t : ℕ) {width first : ℕ}
    → width ≡ table_width records t → first ≡ first_column records t → (16 * (first + width) ≤ length columns) × (length columns ≤ 4096)
slice_inside p t n f = (omega (arith, p.given.inside t), p.given.few)
