-- Edits in place. The whole plan stands in the first t words of x, and the node that is worked on from lo up to t − tail: lo words of the plan stand
-- before it, tail words behind it. What a rewrite makes of the node takes its place, and the words behind it move. x has seven words for each cell that
-- there is room for, so a plan has room if and only if it fits into x; a number of words past the end of x stands for refusal 14.
use Rattle.std.specs.Prelude.{ℕ, ◌+◌, ◌-◌, ◌*◌, ◌≤◌, ◌<◌, Bool, ◌≡◌, List, ◌++◌, length, take, drop}
use Rattle.std.proofs.Math.Seq.{paste}
use Rattle.sql.specs.Plan.{Over, Join, Node, over, join}
use Rattle.sql.specs.Answer.{Answer, done, refused}
use Rattle.cells.specs.declared.Cell.{Cell}
use Rattle.cells.specs.Cells.{cell_words, words, sized}
use Rattle.cells.specs.Room.{Short, Wrote}
use Rattle.words.specs.Words.{node_words}

-- The node p stands there, between the words `pre` and `post`.
pub record Holds (x : List ℕ) (t lo tail : ℕ) (pre post : List ℕ) (p : Node) : Type 0 where
  pub whole : take t x ≡ pre ++ (node_words p ++ post)
  pub low : length pre ≡ lo
  pub high : length post ≡ tail
  pub inside : t ≤ length x

-- Some node stands there.
pub record Standing (x : List ℕ) (t lo tail : ℕ) : Type 0 where
  pub pre : List ℕ
  pub post : List ℕ
  pub p : Node
  pub holds : Holds x t lo tail pre post p

-- x has room for `room` cells, and `rest` cells of the plan lie outside the node.
pub record Shares (x : List ℕ) (lo tail room rest : ℕ) : Type 0 where
  pub all : length x ≡ cell_words * room
  pub short : Short x
  pub outside : lo + tail ≡ cell_words * rest

-- What a function that edits asks for. `Kept p q` says that q is fit to take the place of p, such as that its numbers fit their fields and that it has
-- as many columns; `Kept p p` says that p is fit to be worked on. Each pass says what it needs there.
pub record Held (Kept : Node → Node → Type 0) (x : List ℕ) (t lo tail : ℕ) : Type 0 where
  pub room : ℕ
  pub rest : ℕ
  pub shares : Shares x lo tail room rest
  pub pre : List ℕ
  pub post : List ℕ
  pub p : Node
  pub fit : Kept p p
  pub holds : Holds x t lo tail pre post p

-- The node of a done answer stands between the same words, in the first n words, and is fit; or the answer is refusal 14, and n is past the end.
abbrev pub Leaves : (Node → Type 0) → List ℕ → ℕ → List ℕ → List ℕ → Answer Node → Type 0
Leaves Fit x' n pre post (done q) = (n ≤ length x') × ((take n x' ≡ pre ++ (node_words q ++ post)) × Fit q)
Leaves Fit x' n pre post (refused number place) = (length x' < n) × ((number ≡ 14) × (place ≡ 0))

pub record Left (Fit : Node → Type 0) (x' : List ℕ) (n : ℕ) (pre post : List ℕ) (answer : Answer Node) : Type 0 where
  pub is : Leaves Fit x' n pre post answer

-- x' with n words is x with t words after f, a function of the room, of the number of cells outside the node, and of the node.
abbrev pub Edit : (Node → Node → Type 0) → (ℕ → ℕ → Node → Answer Node) → List ℕ → ℕ → ℕ → ℕ → ℕ → List ℕ → Type 0
Edit Kept f x t lo tail n x' =
    (room rest : ℕ) → Shares x lo tail room rest → (pre post : List ℕ) (p : Node) → Kept p p → Holds x t lo tail pre post p
    → Left (Kept p) x' n pre post (f room rest p)

-- What takes a node's place can be worked on, and be replaced again. A source of a node that is fit is fit, and the node with what takes the source's
-- place can take the node's place.
pub record Inherited (Kept : Node → Node → Type 0) : Type 0 where
  pub end : (p q : Node) → Kept p q → Kept q q
  pub through : (p q r : Node) → Kept p q → Kept q r → Kept p r
  pub source : (og : ℕ) (o : Over) (n : Node) → Kept (over og o n) (over og o n) → Kept n n
  pub with_source : (og : ℕ) (o : Over) (n m : Node) → Kept (over og o n) (over og o n) → Kept n m → Kept (over og o n) (over og o m)
  pub left : (og : ℕ) (outer : Bool) (j : Join) (l r : Node) → Kept (join og outer j l r) (join og outer j l r) → Kept l l
  pub right : (og : ℕ) (outer : Bool) (j : Join) (l r : Node) → Kept (join og outer j l r) (join og outer j l r) → Kept r r
  pub with_sources : (og : ℕ) (outer : Bool) (j : Join) (l r m n : Node) → Kept (join og outer j l r) (join og outer j l r) → Kept l m → Kept r n
      → Kept (join og outer j l r) (join og outer j m n)

-- ---- contracts of the functions that all edits are made of

-- The words w stand between `pre` and `post`, or there is no room for them.
pub record Placed (x' : List ℕ) (r : ℕ) (pre post w : List ℕ) : Type 0 where
  pub is : r ≤ length x' → (r ≡ length pre + length (w ++ post)) × (take r x' ≡ pre ++ (w ++ post))
  pub room : Short x' → length pre + length (w ++ post) ≤ length x' → r ≤ length x'

-- x after its words from `end` up to t were copied to word `to` and those behind it. All other words are as before.
abbrev pub moved : List ℕ → ℕ → ℕ → ℕ → List ℕ
moved x end t to = paste x to (drop end x) (t - end)

-- Whatever was written into the first n words of the scratch y takes the place of the words from `from` up to t − tail, whatever they are.
abbrev pub Replaces : (x y : List ℕ) (n t from tail r : ℕ) → List ℕ → Type 0
Replaces x y n t from tail r x' =
    (pre old post : List ℕ) → take t x ≡ pre ++ (old ++ post) → length pre ≡ from → length post ≡ tail
    → (y₀ w : List ℕ) → length y ≡ length y₀ → length y ≡ length x → Wrote y₀ 0 w n y → Placed x' r pre post w

-- The last cell of the node says how long the node is now.
pub record Reseals (x : List ℕ) (t lo tail r : ℕ) (x' : List ℕ) : Type 0 where
  pub same : r ≤ length x → r ≡ t
  pub room : Short x → r ≡ t
  pub seal : r ≤ length x → (pre b post : List ℕ) (k : Cell) (n : ℕ) → take t x ≡ pre ++ ((b ++ words k n) ++ post) → length pre ≡ lo → length post ≡ tail
      → take t x' ≡ pre ++ (sized b k ++ post)

-- Whatever was written into the scratch y, some words and a cell, takes the place of the node's own words and its cell, whatever size the cell says. The cell is
-- then over the words of the node's sources too.
abbrev pub ReplacesOwn : (x y : List ℕ) (n t lo own tail r : ℕ) → List ℕ → Type 0
ReplacesOwn x y n t lo own tail r x' =
    (pre sources old post : List ℕ) → take t x ≡ pre ++ (sources ++ (old ++ post)) → length pre ≡ lo → lo + length sources ≡ own → length post ≡ tail
    → (y₀ w : List ℕ) (k : Cell) (size : ℕ) → length y ≡ length y₀ → Wrote y₀ 0 (w ++ words k size) n y → Placed x' r pre post (sized (sources ++ w) k)
