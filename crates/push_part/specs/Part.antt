-- The part of a join's predicate for one of its sources, in slices of words: Optimizer.push_part.
use Rattle.std.specs.Prelude as code
use Rattle.std.specs.Prelude.{ℕ, true, ◌≡◌, List, length, Some, None}
use Rattle.std.proofs.Math.Option.{Option}
use Rattle.sql.specs.Expression.{Expression, ands, and_vec, shift_column_down}
use Rattle.sql.specs.Plan.{Node, node_origin}
use Rattle.sql.specs.Optimizer.{push_left, push_right, map_optional, push_into, push_part}
use Rattle.cells.specs.Cells.{sized}
use Rattle.cells.specs.Room.{Wrote}
use Rattle.words.specs.Words.{cell, optional_words, node_words, source_words, own_words, node_cell}
use Rattle.words.specs.Place.{ExpressionHere, NodeHere}
use Rattle.conjuncts.specs.Conjuncts.{Appends}
use Rattle.push_into.specs.Push.{is_some}
use Rattle.copied_lookups.specs.declared.Source.{Source}
use Rattle.copied_lookups.specs.declared.Source.TheVariants as Source

-- The part of the predicate with these conjuncts that is for a source, if the left source has n columns. The right source's columns are `shift` lower: n, to
-- push it, or 0. Its Ands have the origin `new`.
abbrev pub part_for : ℕ → Source → ℕ → ℕ → List Expression → Option Expression
part_for new Source.Left n shift cnf = and_vec new (push_left n cnf)
part_for new Source.Right n shift cnf = map_optional (shift_column_down shift) (and_vec new (push_right n cnf))

-- The own words and the cell of a node. The size that the cell says is still without the node's sources.
abbrev pub own_end : Node → List ℕ
own_end p = sized (own_words p) (cell (node_origin p) (node_cell p))

-- ---- contracts; the predicate's normal form stands in `cnf` up to `end`, and each new And has the origin `new`

abbrev pub WritesPart : ℕ → Source → ℕ → ℕ → List ℕ → ℕ → List ℕ → ℕ → ℕ → List ℕ → Type 0
WritesPart new into n shift cnf end d at r d' =
    (e : Expression) → ExpressionHere cnf 0 end e → Wrote d at (optional_words (part_for new into n shift (ands e))) r d'

-- Without an r the source stays as it is; otherwise its own words and its cell, with its part in its predicate, are in the first r words of d, or have no room.
pub record WritesOwn (new : ℕ) (into : Source) (n shift : ℕ) (s : List ℕ) (lo hi : ℕ) (cnf : List ℕ) (end : ℕ) (d : List ℕ) (r : code.Option ℕ) (d' : List ℕ) : Type 0 where
  pub same : r ≡ None → (p : Node) → NodeHere s lo hi p → (e : Expression) → ExpressionHere cnf 0 end e → (push_part new (part_for new into n shift (ands e)) p).0 ≡ p
  pub own : (k : ℕ) → r ≡ Some k → (p : Node) → NodeHere s lo hi p → (e : Expression) → ExpressionHere cnf 0 end e
      → Wrote d 0 (own_end (push_part new (part_for new into n shift (ands e)) p).0) k d'

-- Some words were written to d from `from` up to mid, and behind them up to `at` an expression or nothing, or they had no room.
pub record CloseableAt (d : List ℕ) (from mid at : ℕ) : Type 0 where
  pub d₀ : List ℕ
  pub d₁ : List ℕ
  pub b : List ℕ
  pub o : Option Expression
  pub same_before : length d₁ ≡ length d₀
  pub same : length d ≡ length d₁
  pub before : Wrote d₀ from b mid d₁
  pub behind : Wrote d₁ mid (optional_words o) at d

-- What stands behind the sources of the node that is there, from mid up to at, is in its predicate; the node takes any predicate.
abbrev pub Closes : ℕ → List ℕ → ℕ → ℕ → List ℕ → ℕ → ℕ → ℕ → ℕ → List ℕ → Type 0
Closes new s lo hi d from mid at r d' = (p : Node) → NodeHere s lo hi p → ((e : Expression) → is_some (push_into new e p) ≡ true) → (o : Option Expression) (d₀ d₁ : List ℕ)
    → length d₁ ≡ length d₀ → length d ≡ length d₁ → Wrote d₀ from (source_words p) mid d₁ → Wrote d₁ mid (optional_words o) at d → Wrote d₀ from (node_words (push_part new o p).0) r d'

-- The source with its part of the predicate is appended, or has no room.
abbrev pub PushesPart : ℕ → Source → ℕ → ℕ → List ℕ → ℕ → ℕ → List ℕ → ℕ → List ℕ → ℕ → ℕ → List ℕ → Type 0
PushesPart new into n shift s lo hi cnf end d at r d' = (p : Node) → NodeHere s lo hi p → (e : Expression) → ExpressionHere cnf 0 end e
    → Wrote d at (node_words (push_part new (part_for new into n shift (ands e)) p).0) r d'

-- What the source doesn't take is one more conjunct.
abbrev pub ComesBack : ℕ → Source → ℕ → List ℕ → ℕ → ℕ → List ℕ → ℕ → List ℕ → ℕ → ℕ → ℕ → List ℕ → Type 0
ComesBack new into n s lo hi cnf end d from at r d' = (p : Node) → NodeHere s lo hi p → (e : Expression) → ExpressionHere cnf 0 end e
    → Appends new d from at (push_part new (part_for new into n 0 (ands e)) p).1 r d'
