-- Contracts of what removes the useless from a node (crate sql, Optimizer).
use Rattle.std.specs.Prelude.{ℕ, Bool, ◌&&◌, ◌≡◌, List, length}
use Rattle.std.proofs.Math.Option.{Option}
use Rattle.sql.specs.Schema.{Schema}
use Rattle.sql.specs.Expression.{Expression}
use Rattle.sql.specs.Plan.{Label, Node}
use Rattle.sql.specs.Optimizer.{verdict, optional_verdict, is_always, is_column_number, is_unlabelled, pass_through, remove_useless}
use Rattle.cells.specs.Cells.{Part}
use Rattle.cells.specs.Room.{Wrote}
use Rattle.words.specs.Words.{all_words, expression_words, optional_words, item_words, node_words}
use Rattle.words.specs.Place.{NodeHere}
use Rattle.records.specs.Records.{Tables}

-- r says whether the expression that ends before word hi is always true.
abbrev pub AlwaysTrue : List ℕ → ℕ → Bool → Type 0
AlwaysTrue s hi r = (lo : ℕ) (e : Expression) → Part s lo hi (expression_words e) → r ≡ is_always (verdict e)

-- A predicate stands there, or none.
pub record OptionalAt (s : List ℕ) (lo hi : ℕ) : Type 0 where
  pub predicate : Option Expression
  pub part : Part s lo hi (optional_words predicate)

abbrev pub OptionalTrue : List ℕ → ℕ → ℕ → Bool → Type 0
OptionalTrue s lo hi r = (e : Option Expression) → Part s lo hi (optional_words e) → r ≡ is_always (optional_verdict e)

-- r says whether the Item that ends before word hi is column i without a label.
abbrev pub ItemPasses : List ℕ → ℕ → ℕ → Bool → Type 0
ItemPasses s hi i r = (lo : ℕ) (item : Expression × Label × ℕ) → Part s lo hi (item_words item) → r ≡ (is_column_number i item.0 && is_unlabelled item.1)

-- Some n Items stand there.
pub record ItemsAt (s : List ℕ) (lo hi n : ℕ) : Type 0 where
  pub items : List (Expression × Label × ℕ)
  pub part : Part s lo hi (all_words item_words items)
  pub count : n ≡ length items

abbrev pub PassesThrough : List ℕ → ℕ → ℕ → ℕ → Bool → Type 0
PassesThrough s lo hi n r = (items : List (Expression × Label × ℕ)) → Part s lo hi (all_words item_words items) → n ≡ length items → r ≡ pass_through 0 items

-- The node from lo up to hi, without what is useless, stands in y' from lo up to r, behind the same words.
abbrev pub Rewrites : List ℕ → ℕ → ℕ → ℕ → List ℕ → Type 0
Rewrites y lo hi r y' = (schema : Schema) (p : Node) → NodeHere y lo hi p → Wrote y lo (node_words (remove_useless schema p)) r y'

-- The same where nothing is written.
abbrev pub Stays : List ℕ → ℕ → ℕ → ℕ → Type 0
Stays y lo hi r = (schema : Schema) (p : Node) → NodeHere y lo hi p → NodeHere y lo r (remove_useless schema p)

-- The same where columns are counted.
abbrev pub Projects : (records y : List ℕ) (lo hi r : ℕ) → Type 0
Projects records y lo hi r = (schema : Schema) (p : Node) → Tables records schema → NodeHere y lo hi p → NodeHere y lo r (remove_useless schema p)

abbrev pub Removes : (records y : List ℕ) (lo hi r : ℕ) → List ℕ → Type 0
Removes records y lo hi r y' =
    (schema : Schema) (p : Node) → Tables records schema → NodeHere y lo hi p → Wrote y lo (node_words (remove_useless schema p)) r y'
