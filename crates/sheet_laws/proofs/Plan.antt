-- An accepted sheet's cells are those of exactly one plan that the sheet can hold: its own.
use Rattle.std.specs.Prelude.{ℕ, zero, suc, ◌+◌, ◌≤◌, ◌<◌, ◌≡◌, Bool, true, false, cond, List, [], ◌∷◌, map, eqb, length}
use Rattle.std.proofs.Common.{arith, sym, ap, ◌∙◌, subst, length-take-le}
use Rattle.std.proofs.Math.Option.{none}
use Rattle.std.proofs.lemmas.List.{length-map}
use Rattle.sql.specs.Answer.{done}
use Rattle.sql.specs.Plan.{Node, node_size, up_to}
use Rattle.sheet.specs.Bytes.{word}
use Rattle.sheet.specs.Parts.{edition, tables_at, cells_at, cell_count, table_count, record_at}
use Rattle.sheet.specs.Cell.{cell, cell_ok, origins, bad_cell}
use Rattle.sheet.specs.Cells.{cells}
use Rattle.sheet.specs.Content.{Content}
use Rattle.sheet.specs.Tree.{node_tree}
use Rattle.sheet.specs.Check.{text, cells_of, plan}
use Rattle.sheet_laws.specs.Size.{node_length}
use Rattle.sheet_laws.specs.Fits.{All, Word, Each, ContentFits, ExactCell, Fits, Exact, OriginsBelow}
use Rattle.sheet_laws.specs.Content.{Words, origin_below, ok_marked}
use Rattle.sheet_laws.specs.Reading.{Good}
use Rattle.sheet_laws.proofs.Reading.{sound, read_runs}
use Rattle.sheet_laws.proofs.Complete.{one_reading}
use Rattle.sheet_laws.specs.Accepted.{Accepted, accepted}
use Rattle.sheet_laws.specs.Layout.{Parts, parts, none_failing, length_up_to}
use Rattle.sheet_laws.specs.Plan.{Bytes, StandsFor}

pub word_bound : (s : List ℕ) → Bytes s → (i : ℕ) → Word (word s i)
unfolding word
word_bound s b i = omega (arith, b i, b (i + 1), b (i + 2), b (i + 3))

-- the parts of an accepted sheet
pub parts_of : {s : List ℕ} {n : Node} → Accepted s n → Parts s
parts_of {s} a = parts s a.length_is a.edition_is a.parts_are

pub text_length : (s : List ℕ) → Parts s → length (text s) ≡ tables_at s
text_length s p = length-take-le (tables_at s) s (omega arith)

all_up_to : {A : Type 0} (P : A → Type 0) (f : ℕ → A) (i k : ℕ) → ((j : ℕ) → i ≤ j → j < i + k → P (f j)) → All P (map f (up_to i k))
all_up_to P f i zero h = tt
all_up_to P f i (suc k) h = (h i (omega arith) (omega arith), all_up_to P f (suc i) k (λ j p q. h j (omega arith) (omega arith)))

cell_words : (s : List ℕ) → Bytes s → (i : ℕ) → Words (cell s i)
unfolding cell
cell_words s b i =
    let at = record_at (cells_at s) i in
    record { a_word = word_bound s b (at + 4); b_word = word_bound s b (at + 8); c_word = word_bound s b (at + 12) }

-- The cells of a sheet of bytes, if none is bad.
pub cells_pass : (s : List ℕ) → Bytes s → bad_cell s ≡ none → All (Good (tables_at s) (table_count s)) (cells_of s)
unfolding bad_cell cells_of
cells_pass s b h =
    all_up_to (Good (tables_at s) (table_count s)) (cell s) 0 (cell_count s)
    (λ j p q. record {
      words = cell_words s b j;
      ok = ok_marked (origins s) 1 (tables_at s) (table_count s) 0 (cell s j) (omega arith)
          (none_failing (λ i. cell_ok (origins s) (tables_at s) (table_count s) (cell s i)) 0 (cell_count s) h j p q);
    })

-- Every sheet has the origin 0.
pub origins_some : (s : List ℕ) → 0 < origins s
origins_some s = go (eqb (edition s) 1)
  where
    go : (b : Bool) → 0 < cond b 1 65536
    go true = omega arith
    go false = omega arith

-- Their origins are some that the sheet has.
pub cells_origins : (s : List ℕ) → bad_cell s ≡ none → All (λ c. c.origin < origins s) (cells_of s)
unfolding bad_cell cells_of
cells_origins s h =
    all_up_to (λ c. c.origin < origins s) (cell s) 0 (cell_count s)
    (λ j p q. origin_below (origins s) (tables_at s) (table_count s) (cell s j)
    (none_failing (λ i. cell_ok (origins s) (tables_at s) (table_count s) (cell s i)) 0 (cell_count s) h j p q))

pub length_cells_of : (s : List ℕ) → length (cells_of s) ≡ cell_count s
unfolding cells_of
length_cells_of s = length-map (up_to 0 (cell_count s)) (cell s) ∙ length_up_to 0 (cell_count s)

module _ (s : List ℕ) (b : Bytes s) (n : Node) (h : plan s ≡ done n) where
  -- The sheet's cells are the plan's.
  pub plan_cells : cells_of s ≡ cells n
  plan_cells =
      let a = accepted s n h in
      sym (sound (tables_at s) (table_count s) (λ k. Unit {0}) (λ k x. tt) (cells_pass s b a.cells_are) (read_runs (text s) 0 (cells_of s) [] (node_tree n ∷ []) a.reads)).cells_are

  pub plan_size : node_size n ≡ cell_count s
  plan_size = sym (node_length n) ∙ ap length (sym plan_cells) ∙ length_cells_of s

  holds_each : (P : Content → Type 0) → ((k : Content) → ExactCell (text s) (length (text s)) (table_count s) k → P k) → Each P n
  holds_each P x =
      let a = accepted s n h in
      let g = subst (λ (t : ℕ). All (Good t (table_count s)) (cells_of s)) (sym (text_length s (parts_of a))) (cells_pass s b a.cells_are) in
      ((sound (length (text s)) (table_count s) P x g (read_runs (text s) 0 (cells_of s) [] (node_tree n ∷ []) a.reads)).keeps tt).0

  pub plan_exact : Exact (text s) (table_count s) n
  plan_exact = holds_each (ExactCell (text s) (length (text s)) (table_count s)) (λ k x. x)

  pub plan_fits : Fits (text s) (table_count s) n
  plan_fits = holds_each (ContentFits (text s) (length (text s)) (table_count s)) (λ k x. x.0)

  pub plan_origins : OriginsBelow (origins s) n
  plan_origins = subst (All (λ c. c.origin < origins s)) plan_cells (cells_origins s (accepted s n h).cells_are)

  -- No other plan that the sheet can hold has those cells.
  pub plan_unique : (m : Node) → Exact (text s) (table_count s) m → cells m ≡ cells_of s → m ≡ n
  plan_unique m x e =
      let p = parts_of (accepted s n h) in
      one_reading (text s) (table_count s) (omega (arith, text_length s p)) (omega arith) m n x plan_exact (e ∙ plan_cells)

  -- An accepted sheet stands for the plan that it is read as.
  pub stands_for : StandsFor s n
  stands_for = record { cells_are = plan_cells; holds = plan_exact; only = plan_unique }
