-- What becomes of a Scan with a filter: a lookup, and a Filter over it if conjuncts remain; or the Scan as it was. The contracts speak of every schema whose
-- key of the Scan's table is the one lent, and whose marks of it are those that the records lent say.
use Rattle.std.specs.Prelude.{ℕ, ◌+◌, ◌*◌, ◌/◌, ◌≤◌, Bool, cond, ◌≡◌, List, eqb, length}
use Rattle.std.proofs.Math.Option.{Option, some}
use Rattle.sql.specs.Schema.{Schema, table_of}
use Rattle.sql.specs.Expression.{Expression, ands, and_vec, into_column_values}
use Rattle.sql.specs.Plan.{scan, Node, leaf}
use Rattle.sql.specs.Optimizer.{Found, filtered, find_lookup, lookup_or_scan}
use Rattle.cells.specs.declared.Cell.{Cell}
use Rattle.cells.specs.Cells.{sized}
use Rattle.cells.specs.Room.{most_words, Wrote}
use Rattle.words.specs.Words.{all_words, constant_words, node_words}
use Rattle.words.specs.Place.{ExpressionHere, NodeHere}
use Rattle.first_lookup.specs.First.{marks_in, Marks}
use Rattle.sheet.specs.Tags

-- the cell of a lookup of column c with n constants, in the place of the Scan's cell k; bit 1 of a Scan's flag says whether there is an alias
abbrev pub lookup_cell : (k : Cell) (key c n : ℕ) → Cell
lookup_cell k key c n =
    cond (eqb c key) (record { origin = k.origin; tag = Tags.key_lookup; flag = k.flag / 2; a = k.a; b = k.b; c = n })
    (record { origin = k.origin; tag = Tags.index_lookup; flag = k.flag / 2; a = k.a; b = k.b; c = c + 65536 * n })

-- Some Scan with a filter stands in x from lo up to hi, and an expression in the first m words of w, which callers make the filter's conjunctive normal form.
pub record ScanAt (x : List ℕ) (lo hi : ℕ) (y w : List ℕ) (m key : ℕ) (columns : List ℕ) : Type 0 where
  pub schema : Schema
  pub og : ℕ
  pub table : ℕ
  pub alias : Option ℕ
  pub predicate : Expression
  pub cnf : Expression
  pub here : NodeHere x lo hi (leaf og (scan table alias (some predicate)))
  pub cnf_here : ExpressionHere w 0 m cnf
  pub marked : Marks schema table (marks_in key columns)
  pub keyed : key ≡ (table_of schema table).primary_key
  pub few : length columns ≤ 4096
  pub short : length y ≤ most_words

-- ---- contracts

-- The lookup's constants, those of the conjunct that stands in w from a up to b, and its cell are appended.
abbrev pub Looks : Cell → (key c : ℕ) → (w : List ℕ) (a b : ℕ) → (y : List ℕ) (at r : ℕ) → List ℕ → Type 0
Looks k key c w a b y at r y' =
    (e : Expression) → ExpressionHere w a b e
    → Wrote y at (sized (all_words constant_words (into_column_values e)) (lookup_cell k key c (length (into_column_values e)))) r y'

-- Whatever node was written from `at` up to n is now below a Filter of the conjuncts that remain, if any does. The Filter and its Ands have the origin `new`.
abbrev pub Filters : ℕ → List Bool → (w : List ℕ) (m : ℕ) → (y : List ℕ) (at n r : ℕ) → List ℕ → Type 0
Filters new marks w m y at n r y' =
    (schema : Schema) (table : ℕ) → Marks schema table marks → (e : Expression) → ExpressionHere w 0 m e
    → (f : Found) → find_lookup schema table (ands e) ≡ some f
    → (y₀ : List ℕ) (p : Node) → length y ≡ length y₀ → Wrote y₀ at (node_words p) n y → Wrote y₀ at (node_words (filtered new (and_vec new f.remaining) p)) r y'

-- lookup_or_scan of the Scan from lo up to hi is appended, or has no room.
abbrev pub LooksOrScans : (x : List ℕ) (lo hi : ℕ) → (y : List ℕ) (at : ℕ) → (w : List ℕ) (m key : ℕ) → List ℕ → (r : ℕ) → List ℕ → Type 0
LooksOrScans x lo hi y at w m key columns r y' =
    (schema : Schema) (table : ℕ) → Marks schema table (marks_in key columns) → key ≡ (table_of schema table).primary_key → (og : ℕ) (alias : Option ℕ) (predicate cnf : Expression)
    → NodeHere x lo hi (leaf og (scan table alias (some predicate))) → ExpressionHere w 0 m cnf
    → Wrote y at (node_words (lookup_or_scan schema table og alias predicate (find_lookup schema table (ands cnf)))) r y'
