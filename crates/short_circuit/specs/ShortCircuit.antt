-- Contracts of pass 5. The labels that an emptied node keeps name tables and columns, so what is handed out can be written again only if the schema's
-- names lie inside the text: beside what a streamed pass is lent of the schema (crate stream), this pass is told so.
use Rattle.std.specs.Prelude.{ℕ, ◌+◌, ◌-◌, ◌≤◌, ◌<◌, ◌≡◌, List, ◌++◌, length, take}
use Rattle.sql.specs.Schema.{Schema}
use Rattle.sql.specs.Plan.{node_origin, nothing, Node, leaf, column_labels}
use Rattle.sql.specs.Optimizer.{short_circuit}
use Rattle.sql.specs.Room.{ShortCircuit}
use Rattle.sound.specs.Sound.{Named}
use Rattle.words.specs.Words.{node_words}
use Rattle.words.specs.Place.{NodeHere}
use Rattle.records.specs.Records.{Records}
use Rattle.column_labels.specs.ColumnLabels.{marked}
use Rattle.chain.specs.Chain.{Bare}
use Rattle.kept.specs.Kept.{Kept}
use Rattle.stream.specs.Stream.{Reading, StreamAt, Streamed}

-- w is appended to the first `at` words of y, which makes n words, and tail words have room behind it; or there is no room, and n is past the end.
pub record Fitted (y : List ℕ) (at : ℕ) (w : List ℕ) (tail n : ℕ) (y' : List ℕ) : Type 0 where
  pub fits : at + length w + tail ≤ length y → (n ≡ at + length w) × (take n y' ≡ take at y ++ w)
  pub full : length y < at + length w + tail → length y < n

-- The node from lo up to hi becomes a Nothing with its labels; these and the Nothing have the node's origin.
abbrev pub Empties : (records columns y : List ℕ) (lo hi tail n : ℕ) → List ℕ → Type 0
Empties records columns y lo hi tail n y' =
    (schema : Schema) (p : Node) → Records records columns schema → NodeHere y lo hi p
    → Fitted y lo (node_words (leaf (node_origin p) (nothing (marked (node_origin p) (column_labels schema p))))) tail n y'

-- short_circuit takes the node's place.
abbrev pub CircuitsNode : (records columns y : List ℕ) (lo hi tail n : ℕ) → List ℕ → Type 0
CircuitsNode records columns y lo hi tail n y' =
    (schema : Schema) (p : Node) → Records records columns schema → NodeHere y lo hi p → Fitted y lo (node_words (short_circuit schema p)) tail n y'

-- What the pass asks for.
pub record CircuitAt (records columns x : List ℕ) (lo hi tail : ℕ) (y : List ℕ) (at : ℕ) : Type 0 where
  pub stream : StreamAt (Records records columns) x lo hi tail y at
  pub named : Named stream.schema (length stream.text)

-- y' with n words is y with `at` words after the pass.
abbrev pub Circuits : (records columns x : List ℕ) (lo hi tail : ℕ) (y : List ℕ) (at n : ℕ) → List ℕ → Type 0
Circuits records columns x lo hi tail y at n y' =
    (schema : Schema) (text : List ℕ) (tables : ℕ) → Records records columns schema → Named schema (length text) → (room rest : ℕ) (p : Node)
    → Reading schema text tables x lo hi tail y at room rest p → Streamed (Kept schema text tables p) y at tail n y' (ShortCircuit room schema rest p)

-- What becomes of the node of x from lo up to `end` stands in y, u words with the first `at` of y₀, and bare nodes (crate chain) stand over it up to hi.
pub record Climbing (records columns x : List ℕ) (lo end hi tail : ℕ) (y₀ : List ℕ) (at u : ℕ) (y : List ℕ) : Type 0 where
  pub bare : Bare x lo hi end
  pub given : CircuitAt records columns x lo hi tail y₀ at
  pub long : length y ≡ length y₀
  pub below : Circuits records columns x lo end (tail + (hi - end)) y₀ at u y

pub record ClimbsAt (records columns x : List ℕ) (end hi tail : ℕ) (y : List ℕ) (at u : ℕ) : Type 0 where
  pub lo : ℕ
  pub y₀ : List ℕ
  pub is : Climbing records columns x lo end hi tail y₀ at u y

-- After that y' with n words is y₀ after the pass on all of them.
abbrev pub Climbs : (records columns x : List ℕ) (end hi tail : ℕ) (y : List ℕ) (at u n : ℕ) → List ℕ → Type 0
Climbs records columns x end hi tail y at u n y' =
    (lo : ℕ) (y₀ : List ℕ) → Climbing records columns x lo end hi tail y₀ at u y → Circuits records columns x lo hi tail y₀ at n y'
