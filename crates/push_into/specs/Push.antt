-- A predicate pushed into a node that can take one: contracts.
use Rattle.std.specs.Prelude.{ℕ, ◌+◌, ◌≤◌, Bool, true, false, ◌≡◌, List, ◌++◌, length, take}
use Rattle.std.proofs.Math.Option.{Option, none, some}
use Rattle.sql.specs.Expression.{Expression}
use Rattle.sql.specs.Plan.{Node, node_origin}
use Rattle.sql.specs.Optimizer.{push_into}
use Rattle.cells.specs.Cells.{cell_words, sized}
use Rattle.cells.specs.Room.{Wrote}
use Rattle.words.specs.Words.{cell, expression_words, node_words, own_words, node_cell}
use Rattle.words.specs.Place.{NodeHere}
use Rattle.edit.specs.Edit.{Placed}

abbrev pub is_some : {A : Type 0} → Option A → Bool
is_some none = false
is_some (some a) = true

-- r tells whether the node there can take a predicate; this hangs on no origin.
abbrev pub Takes : List ℕ → ℕ → ℕ → Bool → Type 0
Takes s lo hi r = (new : ℕ) (p : Node) (e : Expression) → NodeHere s lo hi p → r ≡ is_some (push_into new e p)

-- Some node that can take any predicate stands there.
pub record TakerAt (s : List ℕ) (lo hi : ℕ) : Type 0 where
  pub p : Node
  pub here : NodeHere s lo hi p
  pub takes : (new : ℕ) (e : Expression) → is_some (push_into new e p) ≡ true

-- Some words were written to d from `from` up to mid, and a predicate behind them up to `at`, or they had no room.
pub record PredicateWritten (d : List ℕ) (from mid at : ℕ) : Type 0 where
  pub d₀ : List ℕ
  pub d₁ : List ℕ
  pub b : List ℕ
  pub e : Expression
  pub same_before : length d₁ ≡ length d₀
  pub same : length d ≡ length d₁
  pub before : Wrote d₀ from b mid d₁
  pub predicate : Wrote d₁ mid (expression_words e) at d

-- Whatever node stands in s from lo up to hi, if some words were written to d from `from` up to mid, and a predicate behind them up to `at`, then the own
-- words and the cell of the node with the predicate pushed into it stand behind the words now, up to r, and the cell is over them all; or there is no room,
-- and r is past the end. Where the words are those of the node's sources, that is the whole node. An And over the predicate and the node's own has the origin
-- `new`.
pub record Pushes (new : ℕ) (s : List ℕ) (lo hi : ℕ) (d : List ℕ) (from mid at r : ℕ) (d' : List ℕ) : Type 0 where
  pub long : from ≡ 0 → r ≤ length d → cell_words ≤ r
  pub writes : (e : Expression) (source pushed : Node) → NodeHere s lo hi source → push_into new e source ≡ some pushed
      → (d₀ d₁ b : List ℕ) → length d₁ ≡ length d₀ → length d ≡ length d₁ → Wrote d₀ from b mid d₁ → Wrote d₁ mid (expression_words e) at d
      → Wrote d₀ from (sized (b ++ own_words pushed) (cell (node_origin pushed) (node_cell pushed))) r d'

-- Whatever node stands in x from lo up to `end`, and whatever predicate in the first n words of y: the node with the predicate takes the place of the node
-- and of the words behind it, up to t − tail. A new And has the origin `new`.
abbrev pub PushesInPlace : (new : ℕ) (x y : List ℕ) (n t lo end tail r : ℕ) → List ℕ → Type 0
PushesInPlace new x y n t lo end tail r x' =
    (e : Expression) (source pushed : Node) (pre gone post : List ℕ) → take t x ≡ pre ++ (node_words source ++ (gone ++ post))
    → length pre ≡ lo → lo + length (node_words source) ≡ end → length post ≡ tail → push_into new e source ≡ some pushed
    → (y₀ : List ℕ) → length y ≡ length y₀ → Wrote y₀ 0 (expression_words e) n y → Placed x' r pre post (node_words pushed)
