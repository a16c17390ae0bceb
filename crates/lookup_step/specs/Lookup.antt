-- The contracts of the steps that a Scan with a filter takes. `records` are the table records.
use Rattle.std.specs.Prelude.{ℕ, ◌*◌, ◌≤◌, ◌<◌, Bool, true, false, ◌≡◌, List, length}
use Rattle.std.proofs.Math.Option.{Option, some}
use Rattle.sql.specs.Schema.{Schema}
use Rattle.sql.specs.Expression.{Expression, into_cnf}
use Rattle.sql.specs.Plan.{Leaf, scan, leaf}
use Rattle.sql.specs.Optimizer.{index_lookup}
use Rattle.sql.specs.Room.{scan_filter, normal_forms_fit}
use Rattle.sheet.specs.Cells.{present}
use Rattle.sound.specs.Sound.{SoundLeaf}
use Rattle.cells.specs.Room.{most_words, Wrote}
use Rattle.words.specs.Words.{node_words}
use Rattle.words.specs.Place.{ExpressionHere, NodeHere}
use Rattle.records.specs.Records.{Records}
use Rattle.cells.specs.Cells.{cell_words}

-- Some sound Scan with a filter stands in x from lo up to hi, and its filter's conjunctive normal form in the first m words of w.
pub record FilteredAt (x : List ℕ) (lo hi : ℕ) (y w : List ℕ) (m : ℕ) (records columns : List ℕ) : Type 0 where
  pub schema : Schema
  pub text : List ℕ
  pub tables : ℕ
  pub given : Records records columns schema
  pub og : ℕ
  pub table : ℕ
  pub alias : Option ℕ
  pub predicate : Expression
  pub sound : SoundLeaf schema text tables (scan table alias (some predicate))
  pub here : NodeHere x lo hi (leaf og (scan table alias (some predicate)))
  pub cnf_here : ExpressionHere w 0 m (into_cnf predicate)
  pub short : length y ≤ most_words

-- ---- contracts

-- whether the leaf from lo up to hi is a Scan with a filter
abbrev pub HasFilter : List ℕ → (lo hi : ℕ) → Bool → Type 0
HasFilter x lo hi r = (og : ℕ) (l : Leaf) → NodeHere x lo hi (leaf og l) → r ≡ present (scan_filter l)

-- The conjunctive normal form of e is the first m words of w'; or it, or the negation normal form, has no room, and m is past the end.
pub record Normal (e : Expression) (m : ℕ) (w' : List ℕ) : Type 0 where
  pub fits : m ≤ length w' → ExpressionHere w' 0 m (into_cnf e)
  pub room : (room : ℕ) (schema : Schema) → length w' ≡ cell_words * room → m ≤ length w' → normal_forms_fit room schema (some e) ≡ true
  pub full : (room : ℕ) (schema : Schema) → length w' ≡ cell_words * room → length w' < m → normal_forms_fit room schema (some e) ≡ false

abbrev pub Normalizes : List ℕ → (lo hi m : ℕ) → List ℕ → Type 0
Normalizes x lo hi m w' = (e : Expression) → ExpressionHere x lo hi e → Normal e m w'

-- index_lookup of the Scan from lo up to hi is appended to the first `at` words of y, or has no room.
abbrev pub LooksUp : (x : List ℕ) (lo hi : ℕ) → (y : List ℕ) (at : ℕ) → (w : List ℕ) (m : ℕ) → (records columns : List ℕ) → (r : ℕ) → List ℕ → Type 0
LooksUp x lo hi y at w m records columns r y' =
    (schema : Schema) (text : List ℕ) (tables : ℕ) → Records records columns schema → (og table : ℕ) (alias : Option ℕ) (predicate : Expression)
    → SoundLeaf schema text tables (scan table alias (some predicate)) → NodeHere x lo hi (leaf og (scan table alias (some predicate)))
    → ExpressionHere w 0 m (into_cnf predicate) → Wrote y at (node_words (index_lookup schema og (scan table alias (some predicate)))) r y'
