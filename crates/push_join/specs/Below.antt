-- The column numbers that the splitter keeps in its work arrays. While a join is split, whose sources have `left` and `right` columns, each number in the predicate's
-- words is below `left + right`, the columns of the join; in what is pushed into a source it is below that source's columns. A source that is written again keeps the
-- numbers of all that stands below it. They are below the most columns of a plan that the array has room for (crate sheet_laws, Counts): 262,144, for 2,048 cells.
--
-- This is said of what a function has written when it returns; and, where one rewrites what it wrote, which map_columns alone does (crate column_numbers), of each step
-- of that too. All other writes append, copy words as they stand, or set a size. Nothing is said of words that the splitter only moves, those of x before and behind the
-- join, nor of what push_filters gathers in y of Filters, which is no split.
use Rattle.std.specs.Prelude.{ℕ, ◌+◌, ◌-◌, ◌*◌, ◌%◌, ◌≤◌, ◌<◌, Bool, true, ◌≡◌, List, map, length, take, drop, Some}
use Rattle.std.proofs.Math.Option.{some}
use Rattle.sql.specs.Schema.{Schema, table_of}
use Rattle.sql.specs.Expression.{Expression, shift_column_down, into_nnf, distribute, into_cnf, ands}
use Rattle.sql.specs.Plan.{nested_loop, Node, join, columns, node_size}
use Rattle.sql.specs.Optimizer.{push_into, for_left, for_right, equijoin, split}
use Rattle.sheet.specs.Tags
use Rattle.sheet.specs.Cell.{Cell}
use Rattle.sheet_laws.specs.Fits.{All}
use Rattle.sheet_laws.specs.Counts.{most_columns}
use Rattle.sound.specs.Sound.{Sound}
use Rattle.cells.specs.Cells.{cell_words}
use Rattle.cells.specs.Room.{Wrote}
use Rattle.words.specs.Words.{expression_words, node_words}
use Rattle.words.specs.Place.{ExpressionHere, Maps, NodeHere}
use Rattle.encode.specs.Encode.{cells_in}
use Rattle.edit.specs.Edit.{Placed}
use Rattle.kept.specs.Pass.{PassAt}
use Rattle.column_numbers.specs.declared.Change.{Change}
use Rattle.column_numbers.specs.declared.Change.TheVariants.{Down, Replace}
use Rattle.column_numbers.specs.Columns.{Rewrites}
use Rattle.conjuncts.specs.Conjuncts.{AppendsEach}
use Rattle.copied_lookups.specs.declared.Source.TheVariants.{Left, Right}
use Rattle.push_into.specs.Push.{is_some}
use Rattle.push_part.specs.Part.{WritesPart, WritesOwn, PushesPart}
use Rattle.split_join.specs.Split.{Stays}

-- The column numbers that a cell holds are below n: a Column's in a, a Target's in a if it has flag 1, a HashJoin's in a and b, an IndexLookup's in the low
-- half of c. No other cell holds one.
pub record CellBelow (n : ℕ) (k : Cell) : Type 0 where
  pub column : k.tag ≡ Tags.column → k.a < n
  pub target : k.tag ≡ Tags.target → k.flag ≡ 1 → k.a < n
  pub hash_join : k.tag ≡ Tags.hash_join → (k.a < n) × (k.b < n)
  pub index_lookup : k.tag ≡ Tags.index_lookup → k.c % 65536 < n

-- So of each cell that stands in s from word lo up to hi, seven words a cell.
pub record Below (n : ℕ) (s : List ℕ) (lo hi : ℕ) : Type 0 where
  pub each : All (CellBelow n) (cells_in (take (hi - lo) (drop lo s)))

-- An expression e is copied (cells::copy), and its columns are rewritten where they stand, one cell after the other (change_columns). When so many cells are passed,
-- which is as if it were asked for these alone, each number in e's words is below n. With none passed this is the copy as it was, with all of them the result.
pub record StepsBelow (how : Change) (n : ℕ) (e : Expression) : Type 0 where
  pub each : {y : List ℕ} {at k : ℕ} {copy y' : List ℕ} → Wrote y at (expression_words e) k copy → k ≤ length y
      → (passed : ℕ) → at + cell_words * passed ≤ k → Rewrites how copy at (at + cell_words * passed) y' → Below n y' at k

-- What stands in the arrays while the join of l and r with the predicate p and the origin og is split. Each field says it of what one function has written, by that function's contract,
-- from word `at` up to k, if there was room. x has the plan; z and w have the predicate's normal forms, and w is then lent as `cnf`, z as g; y is the scratch.

-- The normal form stands in cnf up to `end`, l in x from lo up to mid and r from there up to m.
pub record PartsBelow (og : ℕ) (p : Expression) (l r : Node) (left right : ℕ) (cnf : List ℕ) (end : ℕ) (x : List ℕ) (lo mid m : ℕ) : Type 0 where
  -- g: for_left, for_right
  pub for_left_source : {g : List ℕ} {k : ℕ} {g' : List ℕ} → AppendsEach og (λ e. for_left left (ands e)) cnf 0 end g 0 0 k g' → k ≤ length g → Below left g' 0 k
  pub for_right_source : {g : List ℕ} {k : ℕ} {g' : List ℕ}
      → AppendsEach og (λ e. map (shift_column_down 0) (for_right left (ands e))) cnf 0 end g 0 0 k g' → k ≤ length g → Below (left + right) g' 0 k
  -- y: part, of the left source; of the right source, with its columns `left` lower; and of the right source in the joined row's columns, where it comes back
  pub left_part : {y : List ℕ} {at k : ℕ} {y' : List ℕ} → WritesPart og Left left 0 cnf end y at k y' → k ≤ length y → Below left y' at k
  pub right_part : {y : List ℕ} {at k : ℕ} {y' : List ℕ} → WritesPart og Right left left cnf end y at k y' → k ≤ length y → Below right y' at k
  pub right_back : {y : List ℕ} {at k : ℕ} {y' : List ℕ} → WritesPart og Right left 0 cnf end y at k y' → k ≤ length y → Below (left + right) y' at k
  -- y, while `part` writes it: each conjunct, whose columns are made `left` lower; and each lookup, which is a conjunct too, that an equijoin of columns i and j copies
  -- to i for the left source, or to j, `shift` lower, for the right one
  pub while_shifted : All (StepsBelow (Down left) (left + right)) (ands (into_cnf p))
  pub while_copied : (i j shift : ℕ) → All (λ e. equijoin e ≡ some (i, j)
      → All (λ lookup. StepsBelow (Replace j i) (left + right) lookup × StepsBelow (Replace i (j - shift)) (left + right) lookup) (ands (into_cnf p))) (ands (into_cnf p))
  -- y: own_part, the own words of a source that takes its part
  pub left_own : {y : List ℕ} {k : ℕ} {y' : List ℕ}
      → is_some (push_into og p l) ≡ true → WritesOwn og Left left 0 x lo mid cnf end y (Some k) y' → k ≤ length y → Below left y' 0 k
  pub right_own : {y : List ℕ} {k : ℕ} {y' : List ℕ}
      → is_some (push_into og p r) ≡ true → WritesOwn og Right left left x mid m cnf end y (Some k) y' → k ≤ length y → Below right y' 0 k
  -- y: joined_predicate, what stays and what comes back
  pub stays : {y : List ℕ} {at k : ℕ} {y' : List ℕ} → Stays og left x lo mid m cnf end y at k y' → k ≤ length y → Below (left + right) y' at k
  -- y: push_part, the whole right source with all that is below it, in an array that has room for `cells` cells
  pub right_source : {y : List ℕ} {at k : ℕ} {y' : List ℕ} → PushesPart og Right left left x mid m cnf end y at k y' → k ≤ length y
      → (cells : ℕ) → length y ≤ cell_words * cells → Below (most_columns cells) y' at k

pub record ArraysBelow (og : ℕ) (outer : Bool) (p : Expression) (l r : Node) (left right : ℕ) : Type 0 where
  -- z and w: into_nnf, distribute
  pub nnf : {x : List ℕ} {lo hi : ℕ} {z : List ℕ} {k : ℕ} {z' : List ℕ}
      → ExpressionHere x lo hi p → Maps into_nnf x lo hi z 0 k z' → k ≤ length z → Below (left + right) z' 0 k
  pub cnf : {z : List ℕ} {hi : ℕ} {w : List ℕ} {k : ℕ} {w' : List ℕ}
      → ExpressionHere z 0 hi (into_nnf p) → Maps distribute z 0 hi w 0 k w' → k ≤ length w → Below (left + right) w' 0 k
  -- g and y
  pub parts : {cnf : List ℕ} {end : ℕ} {x : List ℕ} {lo mid m : ℕ} → ExpressionHere cnf 0 end (into_cnf p) → NodeHere x lo mid l → NodeHere x mid m r
      → PartsBelow og p l r left right cnf end x lo mid m
  -- x: split, in an array that has room for `cells` cells
  pub split_join : {x' : List ℕ} {k : ℕ} {pre post : List ℕ} → Placed x' k pre post (node_words (split og left outer (ands (into_cnf p)) l r)) → k ≤ length x'
      → (cells : ℕ) → length x' ≤ cell_words * cells → Below (most_columns cells) x' (length pre) (k - length post)
  -- The join's columns are few; so what is below them, or below those of one source, is below 262,144.
  pub few : (cells : ℕ) → node_size (join og outer (nested_loop (some p)) l r) ≤ cells → left + right ≤ most_columns cells
  pub in_all : node_size (join og outer (nested_loop (some p)) l r) ≤ 2048 → (n : ℕ) → n ≤ left + right
      → {s : List ℕ} {lo hi : ℕ} → Below n s lo hi → Below 262144 s lo hi

-- Of every sound join with a predicate, over tables that have at most 256 columns. This and the next are proved in proofs/Below.antt, under their names in small
-- letters.
abbrev pub SplitsBelow : Type 0
SplitsBelow =
    (schema : Schema) → ((t : ℕ) → length (table_of schema t).columns ≤ 256) → (text : List ℕ) (tables og : ℕ) (outer : Bool) (p : Expression) (l r : Node)
    → Sound schema text tables (join og outer (nested_loop (some p)) l r) → ArraysBelow og outer p l r (columns schema l) (columns schema r)

-- So of the join that maybe_push_join is given: what it asks for is enough.
abbrev pub HeldBelow : Type 0
HeldBelow =
    (records x : List ℕ) (t lo tail : ℕ) (g : PassAt records x t lo tail) (og : ℕ) (outer : Bool) (p : Expression) (l r : Node) → g.held.p ≡ join og outer (nested_loop (some p)) l r
    → ArraysBelow og outer p l r (columns g.schema l) (columns g.schema r)

-- The contract of maybe_push_join beside Passes: in an array that has room for `cells` cells, each number in the words of the node that is there then is below the most
-- columns of so many cells.
abbrev pub PassesBelow : (x : List ℕ) (lo tail k : ℕ) (x' : List ℕ) → Type 0
PassesBelow x lo tail k x' = (cells : ℕ) → length x ≤ cell_words * cells → k ≤ length x → Below (most_columns cells) x' lo (k - tail)
