-- Streamed passes. The plan is read in x, and what becomes of it is written to another slice y in the same order: a node's sources, its own words, its
-- cell. `at` words are written before the node from lo up to hi is met, and tail words of the plan are left to read behind it. Together they are the
-- plan's words outside the node, so the plan has room if and only if at, the words of what the node becomes, and tail are no more than y's words. A
-- number of words past the end of y stands for refusal 14.
use Rattle.std.specs.Prelude.{ℕ, ◌+◌, ◌-◌, ◌≤◌, ◌<◌, ◌≡◌, List, ◌++◌, length, take}
use Rattle.sql.specs.Schema.{Schema}
use Rattle.sql.specs.Plan.{Node}
use Rattle.sql.specs.Answer.{Answer, done, refused}
use Rattle.cells.specs.Cells.{cell_words, words, cell_at, Part}
use Rattle.cells.specs.Room.{most_words, Wrote}
use Rattle.words.specs.Words.{node_words}
use Rattle.words.specs.Place.{NodeHere}
use Rattle.edit.specs.Edit.{Shares}
use Rattle.kept.specs.Kept.{Kept}

-- The node p stands in x from lo up to hi, and is fit to be worked on. y has room for `room` cells, and for p among the `rest` cells outside of it.
pub record Reading (schema : Schema) (text : List ℕ) (tables : ℕ) (x : List ℕ) (lo hi tail : ℕ) (y : List ℕ) (at room rest : ℕ) (p : Node) : Type 0 where
  pub fit : Kept schema text tables p p
  pub here : NodeHere x lo hi p
  pub shares : Shares y at tail room rest
  pub fits : at + (hi - lo) + tail ≤ length y

-- What a streamed function asks for. `Lent schema` says what the code is lent of the schema, such as its tables' records: Tables records. The
-- slices are short enough for columns and words to be counted without overflow.
pub record StreamAt (Lent : Schema → Type 0) (x : List ℕ) (lo hi tail : ℕ) (y : List ℕ) (at : ℕ) : Type 0 where
  pub schema : Schema
  pub text : List ℕ
  pub tables : ℕ
  pub lent : Lent schema
  pub room : ℕ
  pub rest : ℕ
  pub p : Node
  pub reading : Reading schema text tables x lo hi tail y at room rest p
  pub short : length x ≤ most_words
  pub short_out : length y ≤ most_words

-- The node of a done answer is appended to the first `at` words of y, which makes n words, and is fit; what is left to read has room behind it. Or the
-- answer is refusal 14, and n is past the end.
abbrev pub StreamsTo : (Node → Type 0) → List ℕ → ℕ → ℕ → ℕ → List ℕ → Answer Node → Type 0
StreamsTo Fit y at tail n y' (done q) = (n + tail ≤ length y') × ((take n y' ≡ take at y ++ node_words q) × Fit q)
StreamsTo Fit y at tail n y' (refused number place) = (length y' < n) × ((number ≡ 14) × (place ≡ 0))

pub record Streamed (Fit : Node → Type 0) (y : List ℕ) (at tail n : ℕ) (y' : List ℕ) (answer : Answer Node) : Type 0 where
  pub is : StreamsTo Fit y at tail n y' answer

-- y' with n words is y with `at` words after f of the node from lo up to hi; f is a function of the room, the schema, the number of cells outside the
-- node, and the node.
abbrev pub Streams : (Schema → Type 0) → (ℕ → Schema → ℕ → Node → Answer Node) → List ℕ → ℕ → ℕ → ℕ → List ℕ → ℕ → ℕ → List ℕ → Type 0
Streams Lent f x lo hi tail y at n y' =
    (schema : Schema) (text : List ℕ) (tables : ℕ) → Lent schema → (room rest : ℕ) (p : Node) → Reading schema text tables x lo hi tail y at room rest p
    → Streamed (Kept schema text tables p) y at tail n y' (f room schema rest p)

-- ---- contracts of the two functions that streamed passes share

-- The words of x from m on, up to the cell that ends before hi, are appended to the first u words of y, and then that cell, over all words from `at` on, or they
-- have no room. Where the words end before `at`, there is nothing that the cell could be over, and n is past the end.
pub record Finishes (x : List ℕ) (m hi : ℕ) (y : List ℕ) (at u n : ℕ) (y' : List ℕ) : Type 0 where
  pub writes : (own : List ℕ) → Part x m (hi - cell_words) own → at ≤ u + length own
      → Wrote y u (own ++ words (cell_at x hi) (u + length own - at + cell_words)) n y'
  pub before : (own : List ℕ) → Part x m (hi - cell_words) own → u + length own < at → length y < n

-- r is n if there is room for tail words behind the first n words of y, and past the end if there isn't.
pub record InRoom (y : List ℕ) (n tail r : ℕ) : Type 0 where
  pub fits : n + tail ≤ length y → r ≡ n
  pub full : length y < n + tail → length y < r
