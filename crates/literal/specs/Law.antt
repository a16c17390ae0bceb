-- The passes that crate sql defines are the Rust's, as transcribed beside this file. Proved in proofs/Law.antt, as `passes_literal`, `pass_literal` and `five_literal`.
--
-- Document 01's departures stand where they act: the argument `document_01` (Value.antt) says what is done at an Integer's overflow in a quotient or a negative, and
-- when hash_join acts, and what a column is that the table hasn't; a NaN that is built has the one pattern (`Float`, Value.antt); a refusal has a place (`without_place`, below). Its limit of 2,048 cells is not
-- here: crate room has that it changes nothing where it doesn't refuse.
use Rattle.std.specs.Prelude.{ℕ, ◌≡◌, Bool, true, not, ◌&&◌, List, [], ◌∷◌, map}
use Rattle.std.proofs.Math.Option.{Option, none, some}
use Rattle.value.specs.Value.{number, Result, ok, err}
use Rattle.sql.specs.Schema.{Schema}
use Rattle.sql.specs.Expression.{Marked}
use Rattle.sql.specs.Plan.{Join, nested_loop, hash, Node, leaf, over, join, remap_columns, remap_source, up_to}
use Rattle.sql.specs.Answer.{Answer, done, refused}
use Rattle.sql.specs.Optimizer.{pass_of, pass, optimize}
use Rattle.sql.specs.Optimizer as Defined
use Rattle.literal.specs.Rust.{Run, Ok, Err, Panic, ◌⇒◌, ◌else◌, matches, position}
use Rattle.literal.specs.Value.{Departures, toydb, document_01}
use Rattle.literal.specs.Plan.{targets_of, columns, is_some, invert_remap}
use Rattle.literal.specs.Plan as Plan
use Rattle.literal.specs.Optimizer.{ConstantFolding, FilterPushdown, IndexLookup, HashJoin, ShortCircuit, OPTIMIZERS}

-- crate value's Result, as the Rust's
abbrev pub told : {A : Type 0} → Result A → Run A
told (ok a) = Ok a
told (err e) = Err e

-- What the Rust's outcome is here: an error is document 01's refusal, without a place, since the Rust names none. No refusal has number 0, so a panic is no answer.
abbrev pub answer : {A : Type 0} → Run A → Answer A
answer (Ok a) = done a
answer (Err e) = refused (number e) 0
answer Panic = refused 0 0

-- an answer but for the place of a refusal
abbrev pub without_place : {A : Type 0} → Answer A → Answer A
without_place (done a) = done a
without_place (refused number place) = refused number 0

-- ---- what they change, beside the Rust (`toydb`: but for the pattern of a NaN that is built)

pub data OrPanics {A : Type 0} (rust here : Run A) : Type 0 where
  same : rust ≡ here → OrPanics rust here
  panics : rust ≡ Panic → OrPanics rust here

-- ConstantFolding: only what the Rust panics at, with overflow checks on
abbrev pub FoldingDeparts : Type 0
FoldingDeparts = (n : Node) → OrPanics (ConstantFolding toydb n) (ConstantFolding document_01 n)

-- whether a join on two columns that are equal has one of each source
abbrev pub sides : ℕ → Join → Bool
sides n (nested_loop none) = true
sides n (nested_loop (some predicate)) = (Defined.equijoin predicate ⇒ λ p. document_01.one_on_each_side n p.0 p.1) else true
sides n (hash left_column right_column) = true

abbrev pub each_side : Schema → Node → Bool
each_side schema (leaf og l) = true
each_side schema (over og o source) = each_side schema source
each_side schema (join og outer j left right) = sides (columns schema left) j && (each_side schema left && each_side schema right)

-- HashJoin: nothing, in a plan of which all such joins are so
abbrev pub HashDeparts : Type 0
HashDeparts = (schema : Schema) (n : Node) → each_side schema n ≡ true → HashJoin toydb schema n ≡ HashJoin document_01 schema n

-- IndexLookup and ShortCircuit: only what the Rust panics at, a column that the table hasn't
abbrev pub LookupDeparts : Type 0
LookupDeparts = (schema : Schema) (n : Node) → OrPanics (IndexLookup toydb schema n) (IndexLookup document_01 schema n)

abbrev pub CircuitDeparts : Type 0
CircuitDeparts = (schema : Schema) (n : Node) → OrPanics (ShortCircuit toydb schema n) (ShortCircuit document_01 schema n)

-- ---- a theorem for each pass: where it can't refuse, the Rust gives its plan, and doesn't panic

pub record PassesLiteral (schema : Schema) (n : Node) : Type 0 where
  pub constant_folding : (first : ℕ) → without_place (Defined.ConstantFolding first n) ≡ answer (ConstantFolding document_01 n)
  pub filter_pushdown : FilterPushdown schema n ≡ Ok (Defined.FilterPushdown schema n)
  pub index_lookup : IndexLookup document_01 schema n ≡ Ok (Defined.IndexLookup schema n)
  pub hash_join : HashJoin document_01 schema n ≡ Ok (Defined.HashJoin schema n)
  pub short_circuit : ShortCircuit document_01 schema n ≡ Ok (Defined.ShortCircuit schema n)

-- ---- and for all five

-- one of the Rust's OPTIMIZERS by its number, as document 01 counts them
abbrev pub rust_pass : Departures → Schema → ℕ → Node → Answer Node
rust_pass departures schema = pass_of (map (λ (f : Node → Run Node) n. answer (f n)) (OPTIMIZERS departures schema))

abbrev pub PassLiteral : Type 0
PassLiteral = (schema : Schema) (k : ℕ) (n : Node) → without_place (pass schema k n) ≡ rust_pass document_01 schema k n

-- Plan::optimize
abbrev pub FiveLiteral : Type 0
FiveLiteral = (schema : Schema) (n : Node) → without_place (optimize schema n) ≡ answer (Plan.optimize (OPTIMIZERS document_01 schema) n)

-- ---- invert_remap, which no pass calls, but the reading of rows does (crate rows, `remap_row`)

-- no two targets are the same, as in every plan in scope (refusal 10)
abbrev pub apart : List (Option ℕ) → Bool
apart [] = true
apart (none ∷ targets) = apart targets
apart (some t ∷ targets) = not (matches (position (is_some t) targets)) && apart targets

abbrev pub InvertLiteral : Type 0
InvertLiteral = (targets : List (Marked (Option ℕ))) → apart (targets_of targets) ≡ true
    → invert_remap (targets_of targets) ≡ map (remap_source 0 targets) (up_to 0 (remap_columns targets))
