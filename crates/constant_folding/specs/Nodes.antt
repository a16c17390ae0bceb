-- What folding a node of a plan does. The sources of a node are one kind: a node, or nothing.
use Rattle.std.specs.Prelude.{ℕ, ◌+◌, ◌-◌, ◌*◌, ◌<◌, ◌≡◌, List, [], length}
use Rattle.std.proofs.Math.Option.{Option, none, some}
use Rattle.sql.specs.Plan.{Node, leaf, over, join}
use Rattle.sql.specs.Answer.{Answer, done, refused, ◌>>=◌}
use Rattle.sql.specs.Optimizer.{fold_leaf, fold_over, fold_join, ConstantFolding}
use Rattle.sheet_laws.specs.Fits.{All, Optional}
use Rattle.cells.specs.Cells.{cell_words, Part}
use Rattle.words.specs.Words.{node_words, source_words, leaf_own, over_own, join_own}
use Rattle.fold_operator.specs.declared.Failure.{Failure}
use Rattle.fold_operator.specs.Left.{Folded, number_of}
use Rattle.fold_parts.specs.Leaves.{Leaves, UpTo}
use Rattle.fold_parts.specs.Parts.{PartFits}
use Rattle.fold_parts.specs.Own.{leaf_parts, over_parts, join_parts, OwnHere}

-- The own parts of the node, and of all below it, fit.
abbrev pub NodeFits : List ℕ → Node → Type 0
NodeFits text (leaf og l) = All (PartFits text) (leaf_parts l)
NodeFits text (over og o n) = All (PartFits text) (over_parts o) × NodeFits text n
NodeFits text (join og outer j l r) = All (PartFits text) (join_parts j) × (NodeFits text l × NodeFits text r)

-- ---- sources: the last one, and the one before it

abbrev pub earlier_source : Node → Option Node
earlier_source (leaf og l) = none
earlier_source (over og o n) = none
earlier_source (join og outer j l r) = some l

abbrev pub last_source : Node → Option Node
last_source (leaf og l) = none
last_source (over og o n) = some n
last_source (join og outer j l r) = some r

abbrev pub words_of : Option Node → List ℕ
words_of none = []
words_of (some p) = node_words p

abbrev pub fold_source : ℕ → Option Node → Answer (Option Node)
fold_source first none = done none
fold_source first (some p) = do
  q ← ConstantFolding first p
  done (some q)

-- ---- contracts

-- The sources of some node stand in x from word lo up to m.
pub record SourcesAt (x : List ℕ) (lo m : ℕ) : Type 0 where
  pub p : Node
  pub stand : Part x lo m (source_words p)

-- r is where the last one starts.
abbrev pub LastStart : List ℕ → ℕ → ℕ → ℕ → Type 0
LastStart x lo m r = (p : Node) → Part x lo m (source_words p) → r ≡ lo + length (words_of (earlier_source p))

-- The node, if there is one, stands in x from word lo up to hi, and fits.
pub record SourceHere (text x : List ℕ) (lo hi : ℕ) (source : Option Node) : Type 0 where
  pub stand : Part x lo hi (words_of source)
  pub fit : Optional (NodeFits text) source

-- Some node stands there so, or none, from a cell on. A text has at most 8,192 bytes; less than 65,536 is what text references need.
pub record SourceAt (text x : List ℕ) (lo hi : ℕ) : Type 0 where
  pub source : Option Node
  pub here : SourceHere text x lo hi source
  pub first : ℕ
  pub numbered : lo ≡ cell_words * first
  pub short : length text < 65536

-- The answer of folding it; what is done is not longer than it is.
pub record FoldsSource (text x : List ℕ) (lo hi : ℕ) (y : List ℕ) (at : ℕ) (r : Folded) (y' : List ℕ) : Type 0 where
  pub leaves : (first : ℕ) (source : Option Node) → lo ≡ cell_words * first → SourceHere text x lo hi source → Leaves words_of y at (fold_source first source) r y'
  pub within : UpTo (at + (hi - lo)) r

-- A failure's refusal: its number and place.
abbrev pub said : Failure → ℕ × ℕ
said why = (number_of why, why.place)

-- An answer's refusal, and if it is done, the refusal behind it, with this number and place.
abbrev pub first_refusal : {A : Type 0} → Answer A → ℕ → ℕ → ℕ × ℕ
first_refusal (done y) number place = (number, place)
first_refusal (refused i p) number place = (i, p)

-- What a node's own parts fold to, in words. The first of their cells has the number `first`.
abbrev pub fold_own : ℕ → Node → Answer (List ℕ)
fold_own first (leaf og l) = do
  m ← fold_leaf first l
  done (leaf_own m)
fold_own first (over og o n) = do
  p ← fold_over first o
  done (over_own p)
fold_own first (join og outer j l r) = do
  k ← fold_join first j
  done (join_own k)

-- The refusal of a node where a source's is behind that of its own parts.
abbrev pub node_refusal : ℕ → Node → ℕ → ℕ → ℕ × ℕ
node_refusal first p number place = first_refusal (fold_own first p) number place

-- r is the refusal of whatever node stands there, where a source of it is refused by `why`.
pub record Refuses (text x : List ℕ) (lo hi m : ℕ) (why r : Failure) : Type 0 where
  pub is : (first : ℕ) (p : Node) → m ≡ cell_words * first → OwnHere text x lo hi p → said r ≡ node_refusal first p (number_of why) why.place
