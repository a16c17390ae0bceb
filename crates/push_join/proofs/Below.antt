-- The column numbers in the splitter's arrays: what the rewrites keep of a sound join's numbers (crate sound), in words.
use Prim.Native.Nat.{ℕ, zero, suc, ◌+◌, ◌-◌, ◌*◌, ◌%◌, ◌≤◌, ◌<◌}
use native.Mathlib.Omega.{arith}
use mathlib.Core.Bool.{Bool, true, false, ◌||◌, cond}
use mathlib.Core.Path.{◌≡◌, refl, sym, ap, ◌∙◌, subst}
use mathlib.Core.List.{List, [], ◌∷◌, ◌++◌, map, append_assoc}
use mathlib.Core.Option.{Option, none, some}
use lib.Dec.{eqb}
use lib.ListN.{length, take, drop, length-append, take-append-drop}
use lib.Seq.{length-take-le}
use borrow.Author.Tests.{eqb-true, eqb-false}
use Rattle.std.specs.Prelude.{Some}
use Rattle.value.specs.Value.{Value, False, Unknown, True, truth, datum, integer, float, string}
use Rattle.sql.specs.Schema.{Schema, table_of}
use Rattle.sql.specs.Expression.{Expression, Unary, Not, function, IsNull, IsNaN, Identity, Negate, SquareRoot, Binary, logical, And, Or, Equal, GreaterThan, LessThan, Add, Divide, Subtract, Multiply, shift_column_down, into_nnf, distribute, into_cnf, ands, and_vec}
use Rattle.sql.specs.Plan.{unlabelled, unqualified, qualified, scan, lookup, nothing, values, filter, other, nested_loop, hash, Node, leaf, over, join, columns, node_size}
use Rattle.sql.specs.Optimizer.{push_into, pushed_or_back, push_part, for_left, for_right, for_both, equijoin, push_left, push_right, split}
use Rattle.sql.specs.Answer.{Answer, done, refused}
use Rattle.sql.specs.Room
use Rattle.sheet.specs.Cell.{Cell}
use Rattle.sheet.specs.Content.{Content, cell_of, marked, constant_cell, column_cell, unary_cell, binary_cell, label_cell, item_cell, key_cell, target_cell, agg_cell, row_cell, aggregate_cell, filter_cell, hash_join_cell, index_lookup_cell, key_lookup_cell, limit_cell, offset_cell, nested_loop_join_cell, nothing_cell, order_cell, projection_cell, remap_cell, scan_cell, values_cell}
use Rattle.sheet.specs.Cells.{present}
use Rattle.sheet_laws.specs.Fits.{All, Optional}
use Rattle.sheet_laws.specs.Counts.{most_columns}
use Rattle.sheet_laws.proofs.Counts.{all_map}
use Rattle.sound.specs.Lists.{all_append, all_both, map_of, optional_map}
use Rattle.sound.specs.Expressions.{MadeOf, moved, weaker, nnf, distributed, ands_of, and_vec_of, pair_of}
use Rattle.sound.specs.Columns.{Right, shifted_down}
use Rattle.sound.specs.Sound.{Fitting, Sound, Emits}
use Rattle.sound.specs.Widest.{sound_few}
use Rattle.sound.specs.Numbers.{NumbersBelow}
use Rattle.sound.proofs.Numbers.{optional_below, sound_below}
use Rattle.sound.specs.Pushdown.{Across, left_of, right_of, across_of, push_left_of, push_right_of, part_keeps, split_keeps}
use Rattle.cells.specs.declared.Cell as Word
use Rattle.cells.specs.Cells.{cell_words, Part}
use Rattle.cells.specs.Room.{Wrote}
use Rattle.cells.proofs.Laws.{part_is, wrote_up}
use Rattle.words.specs.Words.{expression_words, optional_words, node_words}
use Rattle.words.specs.Place.{ExpressionHere, NodeHere}
use Rattle.words.proofs.Sizes.{words_long}
use Rattle.encode.specs.Encode.{as_cell, cells_in}
use Rattle.encode.proofs.Says.{optional_in, optional_under, node_in}
use Rattle.records.specs.Records.{Tables}
use Rattle.edit.specs.Edit.{Left}
use Rattle.kept.specs.Kept.{Kept}
use Rattle.kept.specs.Pass.{PassAt, Passes}
use Rattle.column_numbers.specs.declared.Change.{Change}
use Rattle.column_numbers.specs.declared.Change.TheVariants.{Down, Replace}
use Rattle.column_numbers.specs.Columns.{changed, changed_cell, changed_sized, Rewrites}
use Rattle.column_numbers.specs.Flat.{flat, cells_before}
use Rattle.column_numbers.proofs.Flat.{flat_words}
use Rattle.conjuncts.proofs.Appending.{appends_vec, written_part}
use Rattle.copied_lookups.specs.declared.Source.{Source}
use Rattle.copied_lookups.specs.declared.Source.TheVariants as Source
use Rattle.push_into.specs.Push.{is_some}
use Rattle.push_into.proofs.Taking.{no_true}
use Rattle.push_part.specs.Part.{part_for, own_end, WritesOwn}
use Rattle.split_join.specs.Split.{stays}
use Rattle.push_join.specs.Below.{CellBelow, Below, StepsBelow, PartsBelow, ArraysBelow, SplitsBelow, HeldBelow, PassesBelow}

-- ---- a cell by what it says

-- the tags of the cells that hold a column number
abbrev numbered : ℕ → Bool
numbered t = (eqb t 6 || eqb t 43) || (eqb t 52 || eqb t 53)

module _ (n : ℕ) where
  unnumbered : (k : Cell) → numbered k.tag ≡ false → CellBelow n k
  unnumbered k h =
      record {
        column = λ e. absurd (no 6 e refl);
        target = λ e f. absurd (no 43 e refl);
        hash_join = λ e. absurd (no 52 e refl);
        index_lookup = λ e. absurd (no 53 e refl);
      }
    where
      no : (t : ℕ) → k.tag ≡ t → numbered t ≡ true → ⊥
      no t e x = no_true (sym h ∙ (ap numbered e ∙ x))

  unary_below : (o : Unary) → CellBelow n (cell_of (unary_cell o))
  unary_below Not = unnumbered _ refl
  unary_below (function IsNull) = unnumbered _ refl
  unary_below (function IsNaN) = unnumbered _ refl
  unary_below (function Identity) = unnumbered _ refl
  unary_below (function Negate) = unnumbered _ refl
  unary_below (function SquareRoot) = unnumbered _ refl

  binary_below : (o : Binary) → CellBelow n (cell_of (binary_cell o))
  binary_below (logical And) = unnumbered _ refl
  binary_below (logical Or) = unnumbered _ refl
  binary_below Equal = unnumbered _ refl
  binary_below (function GreaterThan) = unnumbered _ refl
  binary_below (function LessThan) = unnumbered _ refl
  binary_below (function Add) = unnumbered _ refl
  binary_below (function Divide) = unnumbered _ refl
  binary_below (function Subtract) = unnumbered _ refl
  binary_below (function Multiply) = unnumbered _ refl

  -- the low half of a word c that says i in it
  low_half : (i m : ℕ) → i < n → (i + 65536 * m) % 65536 < n
  low_half i m h = omega arith

  cell_below : (k : Content) → NumbersBelow n k → CellBelow n (cell_of k)
  cell_below (constant_cell (truth Unknown)) x = unnumbered _ refl
  cell_below (constant_cell (truth False)) x = unnumbered _ refl
  cell_below (constant_cell (truth True)) x = unnumbered _ refl
  cell_below (constant_cell (datum (integer i))) x = unnumbered _ refl
  cell_below (constant_cell (datum (float b))) x = unnumbered _ refl
  cell_below (constant_cell (datum (string r s))) x = unnumbered _ refl
  cell_below (column_cell i) x =
      record { column = λ h. x; target = λ h f. absurd (omega arith); hash_join = λ h. absurd (omega arith); index_lookup = λ h. absurd (omega arith) }
  cell_below (unary_cell o) x = unary_below o
  cell_below (binary_cell o) x = binary_below o
  cell_below (label_cell unlabelled) x = unnumbered _ refl
  cell_below (label_cell (unqualified i)) x = unnumbered _ refl
  cell_below (label_cell (qualified q i)) x = unnumbered _ refl
  cell_below (item_cell unlabelled) x = unnumbered _ refl
  cell_below (item_cell (unqualified i)) x = unnumbered _ refl
  cell_below (item_cell (qualified q i)) x = unnumbered _ refl
  cell_below (key_cell d) x = unnumbered _ refl
  cell_below (target_cell none) x =
      record { column = λ h. absurd (omega arith); target = λ h f. absurd (omega arith); hash_join = λ h. absurd (omega arith); index_lookup = λ h. absurd (omega arith) }
  cell_below (target_cell (some i)) x =
      record { column = λ h. absurd (omega arith); target = λ h f. x; hash_join = λ h. absurd (omega arith); index_lookup = λ h. absurd (omega arith) }
  cell_below (agg_cell f) x = unnumbered _ refl
  cell_below (row_cell m) x = unnumbered _ refl
  cell_below (aggregate_cell m k) x = unnumbered _ refl
  cell_below filter_cell x = unnumbered _ refl
  cell_below (hash_join_cell o l r) x =
      record { column = λ h. absurd (omega arith); target = λ h f. absurd (omega arith); hash_join = λ h. x; index_lookup = λ h. absurd (omega arith) }
  cell_below (index_lookup_cell t none i m) x =
      record { column = λ h. absurd (omega arith); target = λ h f. absurd (omega arith); hash_join = λ h. absurd (omega arith); index_lookup = λ h. low_half i m x }
  cell_below (index_lookup_cell t (some r) i m) x =
      record { column = λ h. absurd (omega arith); target = λ h f. absurd (omega arith); hash_join = λ h. absurd (omega arith); index_lookup = λ h. low_half i m x }
  cell_below (key_lookup_cell t none m) x = unnumbered _ refl
  cell_below (key_lookup_cell t (some r) m) x = unnumbered _ refl
  cell_below (limit_cell m) x = unnumbered _ refl
  cell_below (offset_cell m) x = unnumbered _ refl
  cell_below (nested_loop_join_cell p o) x = unnumbered _ refl
  cell_below (nothing_cell m) x = unnumbered _ refl
  cell_below (order_cell m) x = unnumbered _ refl
  cell_below (projection_cell m) x = unnumbered _ refl
  cell_below (remap_cell m) x = unnumbered _ refl
  cell_below (scan_cell f t none) x = unnumbered _ refl
  cell_below (scan_cell f t (some r)) x = unnumbered _ refl
  cell_below (values_cell m) x = unnumbered _ refl

  -- with an origin
  said_below : (og : ℕ) (k : Content) → NumbersBelow n k → CellBelow n (marked og (cell_of k))
  said_below og k x =
      let b = cell_below k x in
      record { column = b.column; target = b.target; hash_join = b.hash_join; index_lookup = b.index_lookup }

more_cell : (n m : ℕ) → n ≤ m → (k : Cell) → CellBelow n k → CellBelow m k
more_cell n m h k b =
    record {
      column = λ e. omega (arith, b.column e);
      target = λ e f. omega (arith, b.target e f);
      hash_join = λ e. let (i, j) = b.hash_join e in (omega arith, omega arith);
      index_lookup = λ e. omega (arith, b.index_lookup e);
    }

-- What is below n is below what is more.
pub more : (n m : ℕ) → n ≤ m → {s : List ℕ} {lo hi : ℕ} → Below n s lo hi → Below m s lo hi
more n m h {s} {lo} {hi} b = record { each = all_map (CellBelow n) (CellBelow m) (more_cell n m h) (cells_in (take (hi - lo) (drop lo s))) b.each }

-- ---- in words

abbrev WordsBelow : ℕ → List ℕ → Type 0
WordsBelow n w = All (CellBelow n) (cells_in w)

-- the words that stand there, and those that were written there
stand_below : {n : ℕ} {s : List ℕ} {lo hi : ℕ} {w : List ℕ} → Part s lo hi w → WordsBelow n w → Below n s lo hi
stand_below {n} u b = record { each = subst (WordsBelow n) (sym (part_is u)) b }

wrote_below : {n : ℕ} {d : List ℕ} {at : ℕ} {w : List ℕ} {k : ℕ} {d' : List ℕ} → Wrote d at w k d' → k ≤ length d → WordsBelow n w → Below n d' at k
wrote_below f h b = stand_below (written_part f h) b

-- no words
nothing_below : {n : ℕ} (s : List ℕ) → Below n s 0 0
unfolding cells_in
nothing_below s = record { each = tt }

-- expressions over a row of n columns
optional_words_below : (P : Value → Type 0) (n : ℕ) (o : Option Expression) → Optional (MadeOf P (λ c. c < n)) o → WordsBelow n (optional_words o)
optional_words_below P n o x = optional_in (CellBelow n) (said_below n) o (optional_below P n n (omega arith) o x)

vec_words_below : (P : Value → Type 0) (new n : ℕ) (es : List Expression) → All (MadeOf P (λ c. c < n)) es → WordsBelow n (optional_words (and_vec new es))
vec_words_below P new n es x = optional_words_below P n (and_vec new es) (and_vec_of P (λ c. c < n) new es x)

-- ---- an expression whose columns are rewritten where they stand, by a rewrite that takes numbers below n to such

module _ (how : Change) (n : ℕ) (keeps : (c : ℕ) → c < n → changed how c < n) where
  changed_below : (k : Word.Cell) → CellBelow n (as_cell k) → CellBelow n (as_cell (changed_cell how k))
  changed_below k b = go (eqb k.tag 6) refl
    where
      go : (t : Bool) → eqb k.tag 6 ≡ t
          → CellBelow n (as_cell (cond t (record { origin = k.origin; tag = k.tag; flag = k.flag; a = changed how k.a; b = k.b; c = k.c }) k))
      go true e =
          let six : k.tag ≡ 6 = eqb-true k.tag 6 e in
          record {
            column = λ h. keeps k.a (b.column h);
            target = λ h f. absurd (omega arith);
            hash_join = λ h. absurd (omega arith);
            index_lookup = b.index_lookup;
          }
      go false e = b

  -- Of these cells the first so many are rewritten, and the rest are not.
  record Partly (cs : List (Word.Cell × ℕ)) (passed : ℕ) : Type 0 where
    first : List (Word.Cell × ℕ)
    rest : List (Word.Cell × ℕ)
    is : flat cs ≡ flat first ++ flat rest
    long : length (flat first) ≡ cell_words * passed
    as_long : length (flat (map (changed_sized how) first)) ≡ cell_words * passed
    below : WordsBelow n (flat (map (changed_sized how) first) ++ flat rest)

  partly : (cs : List (Word.Cell × ℕ)) → WordsBelow n (flat cs) → (passed : ℕ) → cell_words * passed ≤ length (flat cs) → Partly cs passed
  unfolding cells_in
  partly cs b zero h = record { first = []; rest = cs; is = refl; long = refl; as_long = refl; below = b }
  partly [] b (suc passed) h = absurd (omega arith)
  partly (c ∷ cs) b (suc passed) h =
      let g = partly cs b.1 passed (omega arith) in
      record {
        first = c ∷ g.first;
        rest = g.rest;
        is = ap (λ (w : List ℕ). c.0.origin ∷ c.0.tag ∷ c.0.flag ∷ c.0.a ∷ c.0.b ∷ c.0.c ∷ c.1 ∷ w) g.is;
        long = omega (arith, g.long);
        as_long = omega (arith, g.as_long);
        below = (changed_below c.0 b.0, g.below);
      }

  steps_below : (e : Expression) → WordsBelow n (expression_words e) → StepsBelow how n e
  steps_below e b = record { each = λ w h passed i f. at_step (written_part w h) passed i f }
    where
      at_step : {copy : List ℕ} {at k : ℕ} {y : List ℕ} → Part copy at k (expression_words e)
          → (passed : ℕ) → at + cell_words * passed ≤ k → Rewrites how copy at (at + cell_words * passed) y → Below n y at k
      at_step {copy} {at} {k} {y} u passed i f =
          let g = partly (cells_before e []) (subst (WordsBelow n) (sym (flat_words e)) b) passed (omega (arith, u.high, ap length (flat_words e))) in
          let done = flat (map (changed_sized how) g.first) in
          let first_here : Part copy at (at + cell_words * passed) (flat g.first) =
          record {
            before = u.before;
            after = flat g.rest ++ u.after;
            whole = u.whole ∙ (ap (λ (w : List ℕ). u.before ++ (w ++ u.after)) (sym (flat_words e) ∙ g.is) ∙ simp append_assoc);
            low = u.low;
            high = omega (arith, g.long);
          } in
          let now : Part y at k (done ++ flat g.rest) =
          record {
            before = u.before;
            after = u.after;
            whole = f g.first first_here ∙ simp append_assoc;
            low = u.low;
            high = omega (arith, u.high, ap length (flat_words e), ap length g.is, length-append (flat g.first) (flat g.rest), length-append done (flat g.rest), g.long, g.as_long);
          } in
          stand_below now g.below

-- a column's number after the copy of a lookup
replaced_below : (n from to : ℕ) → to < n → (c : ℕ) → c < n → changed (Replace from to) c < n
replaced_below n from to h c i = go (eqb c from)
  where
    go : (t : Bool) → cond t to c < n
    go true = h
    go false = i

-- what comes back of a part
part_back : (new : ℕ) (Q : Expression → Type 0) (o : Option Expression) (n : Node) → Optional Q o → All Q (push_part new o n).1
part_back new Q none n x = tt
part_back new Q (some e) n x = go (push_into new e n)
  where
    go : (q : Option Node) → All Q (pushed_or_back e n q).1
    go none = (x, tt)
    go (some m) = tt

-- A node that takes a predicate is still one that does, with any in it.
still_taker : (new : ℕ) (p : Expression) (o : Option Expression) (n : Node) → is_some (push_into new p n) ≡ true → is_some (push_into new p (push_part new o n).0) ≡ true
still_taker new p none n h = h
still_taker new p (some e) (leaf og (scan t al q)) h = refl
still_taker new p (some e) (leaf og (lookup a t al vs)) h = no_true h
still_taker new p (some e) (leaf og (nothing ls)) h = no_true h
still_taker new p (some e) (leaf og (values rs)) h = no_true h
still_taker new p (some e) (over og (filter q) n) h = refl
still_taker new p (some e) (over og (other o) n) h = no_true h
still_taker new p (some e) (join og outer (nested_loop q) l r) h = refl
still_taker new p (some e) (join og outer (hash i j) l r) h = no_true h

module _ (schema : Schema) (narrow : (t : ℕ) → length (table_of schema t).columns ≤ 256) (text : List ℕ) (tables : ℕ) where
  abbrev F : Value → Type 0
  F = Fitting schema text tables

  -- the own words and the cell of such a node
  own_below : (new : ℕ) (p : Expression) (n : Node) → is_some (push_into new p n) ≡ true → Sound schema text tables n → WordsBelow (columns schema n) (own_end n)
  own_below new p (leaf og (scan t al q)) h x =
      let w = length (table_of schema t).columns in
      optional_under (CellBelow w) (said_below w) og (scan_cell (present q) t al) q (optional_below F w w (omega arith) q x.0) tt
  own_below new p (leaf og (lookup a t al vs)) h x = no_true h
  own_below new p (leaf og (nothing ls)) h x = no_true h
  own_below new p (leaf og (values rs)) h x = no_true h
  own_below new p (over og (filter q) n) h x =
      let w = columns schema n in
      optional_under (CellBelow w) (said_below w) og filter_cell (some q) (optional_below F w w (omega arith) (some q) x.1) tt
  own_below new p (over og (other o) n) h x = no_true h
  own_below new p (join og outer (nested_loop q) l r) h x =
      let w = columns schema l + columns schema r in
      optional_under (CellBelow w) (said_below w) og (nested_loop_join_cell (present q) outer) q (optional_below F w w (omega arith) q x.1.1) tt
  own_below new p (join og outer (hash i j) l r) h x = no_true h

  -- a whole plan of at most so many cells
  plan_below : (cells : ℕ) (n : Node) → Sound schema text tables n → node_size n ≤ cells → WordsBelow (most_columns cells) (node_words n)
  plan_below cells n x h = node_in (CellBelow (most_columns cells)) (said_below (most_columns cells)) n (sound_below schema narrow text tables cells n x h)

  pub placed_below : (x' : List ℕ) (k : ℕ) (pre post : List ℕ) (q : Node) → Sound schema text tables q → take k x' ≡ pre ++ (node_words q ++ post)
      → k ≤ length x' → (cells : ℕ) → length x' ≤ cell_words * cells → Below (most_columns cells) x' (length pre) (k - length post)
  placed_below x' k pre post q x e h cells i =
      stand_below u (plan_below cells q x (omega (arith, words_long q, length-append (node_words q) post, length-append pre (node_words q ++ post), ap length e, length-take-le k x' h)))
    where
      u : Part x' (length pre) (k - length post) (node_words q)
      u = record {
        before = pre;
        after = post ++ drop k x';
        whole = sym (take-append-drop k x') ∙ (ap (λ (l : List ℕ). l ++ drop k x') e ∙ simp append_assoc);
        low = refl;
        high = omega (arith, length-append (node_words q) post, length-append pre (node_words q ++ post), ap length e, length-take-le k x' h);
      }

  -- ---- the join of l and r with the predicate p

  module _ (og : ℕ) (outer : Bool) (p : Expression) (l r : Node) (x : Sound schema text tables (join og outer (nested_loop (some p)) l r)) where
    abbrev left : ℕ
    left = columns schema l

    abbrev right : ℕ
    right = columns schema r

    -- over the row of the left source, of the right source, and of the join
    abbrev OnLeft : Expression → Type 0
    OnLeft = MadeOf F (λ c. c < left)

    abbrev OnRight : Expression → Type 0
    OnRight = MadeOf F (λ c. c < right)

    abbrev OnBoth : Expression → Type 0
    OnBoth = MadeOf F (λ c. c < left + right)

    -- over the row of the join, without the left source's columns
    abbrev NotLeft : Expression → Type 0
    NotLeft = MadeOf F (Right left right)

    nnf_made : OnBoth (into_nnf p)
    nnf_made = nnf F (λ c. c < left + right) p x.1.1

    cnf_made : OnBoth (distribute (into_nnf p))
    cnf_made = distributed F (λ c. c < left + right) (into_nnf p) nnf_made

    abbrev conjuncts : List Expression
    conjuncts = ands (into_cnf p)

    each_made : All OnBoth conjuncts
    unfolding into_cnf
    each_made = ands_of F (λ c. c < left + right) (into_cnf p) cnf_made

    each_step : (how : Change) → ((c : ℕ) → c < left + right → changed how c < left + right) → All (StepsBelow how (left + right)) conjuncts
    each_step how keeps =
        all_map OnBoth (StepsBelow how (left + right)) (λ e m. steps_below how (left + right) keeps e (optional_words_below F (left + right) (some e) m)) conjuncts each_made

    copy_steps : (i j shift : ℕ) (e : Expression) → OnBoth e → equijoin e ≡ some (i, j)
        → All (λ lookup. StepsBelow (Replace j i) (left + right) lookup × StepsBelow (Replace i (j - shift)) (left + right) lookup) conjuncts
    copy_steps i j shift e m h =
        let pair = pair_of F (λ c. c < left + right) left e (i, j) h m in
        all_both (StepsBelow (Replace j i) (left + right)) (StepsBelow (Replace i (j - shift)) (left + right)) conjuncts
        (each_step (Replace j i) (replaced_below (left + right) j i pair.lower))
        (each_step (Replace i (j - shift)) (replaced_below (left + right) i (j - shift) (omega (arith, pair.higher))))

    -- the parts: of the left source, of the right source, and of the right source in the joined row's columns
    abbrev to_left : Option Expression
    to_left = part_for og Source.Left left 0 conjuncts

    abbrev to_right : Option Expression
    to_right = part_for og Source.Right left left conjuncts

    abbrev back_right : Option Expression
    back_right = part_for og Source.Right left 0 conjuncts

    left_made : Optional OnLeft to_left
    left_made = and_vec_of F (λ c. c < left) og (push_left left conjuncts) (push_left_of F left right conjuncts each_made)

    pushed_right : Optional NotLeft (and_vec og (push_right left conjuncts))
    pushed_right = and_vec_of F (Right left right) og (push_right left conjuncts) (push_right_of F left right conjuncts each_made)

    right_made : Optional OnRight to_right
    right_made = optional_map (shift_column_down left) NotLeft OnRight (shifted_down F left right) (and_vec og (push_right left conjuncts)) pushed_right

    unshifted : (e : Expression) → NotLeft e → OnBoth (shift_column_down 0 e)
    unshifted = moved F (λ c. c - 0) (Right left right) (λ c. c < left + right) (λ c h. let (i, j) = h in omega arith)

    back_made : Optional OnBoth back_right
    back_made = optional_map (shift_column_down 0) NotLeft OnBoth unshifted (and_vec og (push_right left conjuncts)) pushed_right

    left_back : All OnBoth (push_part og to_left l).1
    left_back =
        all_map OnLeft OnBoth (weaker F (λ c. c < left) (λ c. c < left + right) (λ c h. omega arith)) (push_part og to_left l).1 (part_back og OnLeft to_left l left_made)

    stays_made : Optional OnBoth (stays og left conjuncts l r)
    stays_made =
        and_vec_of F (λ c. c < left + right) og (for_both left conjuncts ++ ((push_part og to_left l).1 ++ (push_part og back_right r).1))
        (all_append OnBoth (for_both left conjuncts) ((push_part og to_left l).1 ++ (push_part og back_right r).1)
        (all_map (Across F left right) OnBoth (λ e k. k.0) (for_both left conjuncts) (across_of F left right conjuncts each_made))
        (all_append OnBoth (push_part og to_left l).1 (push_part og back_right r).1 left_back (part_back og OnBoth back_right r back_made)))

    -- the sources after the split
    new_left : Emits schema text tables left (push_part og to_left l).0
    new_left = (part_keeps schema text tables og to_left l x.0 left_made).0

    new_right : Emits schema text tables right (push_part og to_right r).0
    new_right = (part_keeps schema text tables og to_right r x.1.0 right_made).0

    own_made : (o : Option Expression) (n : Node) → is_some (push_into og p n) ≡ true → Emits schema text tables (columns schema n) (push_part og o n).0
        → WordsBelow (columns schema n) (own_end (push_part og o n).0)
    own_made o n t k = subst (λ (w : ℕ). WordsBelow w (own_end (push_part og o n).0)) k.1 (own_below og p (push_part og o n).0 (still_taker og p o n t) k.0)

    module _ {cnf : List ℕ} {end : ℕ} {plan : List ℕ} {lo mid m : ℕ} (v : ExpressionHere cnf 0 end (into_cnf p)) (on_left : NodeHere plan lo mid l) (on_right : NodeHere plan mid m r) where
      own_wrote : {into : Source} {n shift from upto : ℕ} {d : List ℕ} {k : ℕ} {d' : List ℕ} (w : ℕ) (q : Node) → NodeHere plan from upto q
          → WritesOwn og into n shift plan from upto cnf end d (Some k) d' → k ≤ length d → WordsBelow w (own_end (push_part og (part_for og into n shift conjuncts) q).0) → Below w d' 0 k
      own_wrote {k = k} w q u f h b = wrote_below (f.own k refl q u (into_cnf p) v) h b

      parts_below : PartsBelow og p l r left right cnf end plan lo mid m
      parts_below = record {
        for_left_source = λ f h.
            wrote_below (appends_vec og (for_left left conjuncts) (f (into_cnf p) v)) h
            (vec_words_below F og left (for_left left conjuncts) (left_of F left right conjuncts each_made));
        for_right_source = λ f h.
            wrote_below (appends_vec og (map (shift_column_down 0) (for_right left conjuncts)) (f (into_cnf p) v)) h
            (vec_words_below F og (left + right) (map (shift_column_down 0) (for_right left conjuncts))
            (map_of (shift_column_down 0) NotLeft OnBoth unshifted (for_right left conjuncts) (right_of F left right conjuncts each_made)));
        left_part = λ f h. wrote_below (f (into_cnf p) v) h (optional_words_below F left to_left left_made);
        right_part = λ f h. wrote_below (f (into_cnf p) v) h (optional_words_below F right to_right right_made);
        right_back = λ f h. wrote_below (f (into_cnf p) v) h (optional_words_below F (left + right) back_right back_made);
        while_shifted = each_step (Down left) (λ c h. omega arith);
        while_copied = λ i j shift.
            all_map OnBoth
            (λ e. equijoin e ≡ some (i, j)
            → All (λ lookup. StepsBelow (Replace j i) (left + right) lookup × StepsBelow (Replace i (j - shift)) (left + right) lookup) conjuncts)
            (copy_steps i j shift) conjuncts each_made;
        left_own = λ t f h. own_wrote left l on_left f h (own_made to_left l t new_left);
        right_own = λ t f h. own_wrote right r on_right f h (own_made to_right r t new_right);
        stays = λ f h. wrote_below (f l r on_left on_right (into_cnf p) v) h (optional_words_below F (left + right) (stays og left conjuncts l r) stays_made);
        right_source = λ f h cells i.
            let g = f r on_right (into_cnf p) v in
            wrote_below g h (plan_below cells (push_part og to_right r).0 new_right.0 (omega (arith, words_long (push_part og to_right r).0, wrote_up g h)));
      }

    few_columns : (cells : ℕ) → node_size (join og outer (nested_loop (some p)) l r) ≤ cells → left + right ≤ most_columns cells
    few_columns cells h = omega (arith, sound_few schema narrow text tables (join og outer (nested_loop (some p)) l r) x)

    arrays_below : ArraysBelow og outer p l r left right
    arrays_below = record {
      nnf = λ u f h. wrote_below (f p u) h (optional_words_below F (left + right) (some (into_nnf p)) nnf_made);
      cnf = λ u f h. wrote_below (f (into_nnf p) u) h (optional_words_below F (left + right) (some (distribute (into_nnf p))) cnf_made);
      parts = parts_below;
      split_join = λ {x'} {k} {pre} {post} f h cells i.
          placed_below x' k pre post (split og left outer conjuncts l r) (split_keeps schema text tables og outer conjuncts l r x.0 x.1.0 each_made).0 (f.is h).1 h cells i;
      few = few_columns;
      in_all = λ h n i. more n 262144 (omega (arith, few_columns 2048 h));
    }

pub splits_below : SplitsBelow
splits_below schema narrow text tables og outer p l r x = arrays_below schema narrow text tables og outer p l r x

-- ---- the node there, before and after the step of the pass

-- what is lent of the tables says that they have few columns
narrow_tables : {schema : Schema} {records : List ℕ} → Tables records schema → (t : ℕ) → length (table_of schema t).columns ≤ 256
narrow_tables w t = omega (arith, w.width t, w.few t)

pub held_below : HeldBelow
held_below records x t lo tail g og outer p l r e =
    splits_below g.schema (narrow_tables g.given) g.text g.tables og outer p l r (subst (Sound g.schema g.text g.tables) e g.held.fit.0)

-- beside Passes
pub passes_below : {records x : List ℕ} {t lo tail k : ℕ} {x' : List ℕ} → PassAt records x t lo tail → length x' ≡ length x
    → Passes Room.maybe_push_join records x t lo tail k x' → Passes Room.maybe_push_join records x t lo tail k x' × PassesBelow x lo tail k x'
passes_below {records} {x} {t} {lo} {tail} {k} {x'} g e f = (f, below)
  where
    go : (cells : ℕ) → length x ≤ cell_words * cells → k ≤ length x → (pre post : List ℕ) (p : Node) → length pre ≡ lo → length post ≡ tail → (answer : Answer Node)
        → Left (Kept g.schema g.text g.tables p) x' k pre post answer → Below (most_columns cells) x' lo (k - tail)
    go cells i h pre post p a b (done q) w =
        subst (λ (j : ℕ). Below (most_columns cells) x' j (k - tail)) a
        (subst (λ (j : ℕ). Below (most_columns cells) x' (length pre) (k - j)) b
        (placed_below g.schema (narrow_tables g.given) g.text g.tables x' k pre post q w.is.1.1.0 w.is.1.0 (omega arith) cells (omega arith)))
    go cells i h pre post p a b (refused number place) w = absurd (omega (arith, w.is.0))

    below : PassesBelow x lo tail k x'
    below cells i h =
        let d = g.held in
        go cells i h d.pre d.post d.p d.holds.low d.holds.high (Room.maybe_push_join d.room g.schema d.rest d.p)
        (f g.schema g.text g.tables g.given d.room d.rest d.shares d.pre d.post d.p d.fit d.holds)
