-- The proofs of ShutOut.antt. A program that meets the second promise hands out the right sheet at every answerable input (`pass_asked`, `five_asked`), which
-- no program with a fault does. What the programs of the second half always do is a fault for P1, for a sheet of one cell, or for one that every pass changes.
use Prim.Native.Nat.{ℕ, zero, suc, ◌+◌, ◌*◌, ◌≤◌, ◌<◌}
use native.Mathlib.Omega.{arith}
use borrow.Author.Tests.{ltb-true, leb-true, leb-false}
use mathlib.Core.Path.{◌≡◌, refl, sym, ap, ◌∙◌, subst}
use mathlib.Core.Bool.{Bool, true, false, ◌&&◌, false≢true}
use mathlib.Core.List.{List, [], ◌∷◌, ◌++◌}
use mathlib.Core.Logic.{◌⊎◌, inl, inr}
use lib.Dec.{leb, ltb}
use lib.ListN.{length, drop, get_or, replicate}
use Rattle.sql.specs.Plan.{Node, node_size}
use Rattle.sql.specs.Answer.{Answer, done, refused, ◌>>=◌}
use Rattle.sql.specs.Optimizer.{pass, optimize}
use Rattle.sql.specs.Optimizer
use Rattle.sql.specs.Expression.{into_cnf, into_cnf_vec}
use Rattle.sheet.specs.Bytes.{half, word}
use Rattle.sheet.specs.Parts.{cells_at, length_ok, edition_ok, parts_ok, table_ok, column_ok, bad_record}
use Rattle.sheet.specs.Cell.{cell, cell_ok, bad_cell}
use Rattle.value.specs.Meaning.{integer_bits, integer_of_bits}
use Rattle.sheet.specs.Tree.{read}
use Rattle.sheet.specs.Check.{Numbers, schema, plan}
use Rattle.sheet.specs.Operations.{Outcome, one_pass, all_five}
use Rattle.sheet.specs.Examples.{P1}
use Rattle.sheet_laws.specs.Content.{and_left, and_right}
use Rattle.room.specs.Done.{done_same}
use Rattle.rows.specs.Equalities.{all}
use Rattle.sheet_laws.specs.Plan.{Bytes}
use Rattle.sound.specs.Operations.{sheet_of}
use Rattle.theorems.specs.Sizes
use Rattle.theorems.specs.Theorems.{with_room, needed, HandsOut, Gives, IsOnePass, IsAllFive}
use Rattle.theorems.specs.ShutOut.{Program, ProgramOfFive, Settled, Answerable, AnswerableFive, P1Answerable, ShutOutUnless, Refusing, OtherSheet, InventedCells, InventedColumns, SpoiledRest, ShutOutIfAlways, RefusingAll, FixedSheet, FixedPlan, HandedBack, Idle, AllInOne}
use Rattle.theorems.proofs.Proofs.{one_pass_gives, all_five_gives}

-- ======== all is settled

same_outcome : (o p : Outcome) → o.numbers ≡ p.numbers → o.output ≡ p.output → o ≡ p
same_outcome o p e f =
    ap (λ (n : Numbers). record { numbers = n; output = o.output }) e ∙ ap (λ (l : List ℕ). record { numbers = p.numbers; output = l }) f

gives_one : (s out : List ℕ) (r : Answer Node) (o p : Outcome) → Gives s out r o → Gives s out r p → o ≡ p
gives_one s out (refused number place) o p g h = g ∙ sym h
gives_one s out (done m) o p g h = go (leb (needed s m) (length out)) refl
  where
    go : (t : Bool) → leb (needed s m) (length out) ≡ t → o ≡ p
    go true e =
        let x = g.0 (leb-true (needed s m) (length out) e) in
        let y = h.0 (leb-true (needed s m) (length out) e) in
        same_outcome o p (x.returned ∙ sym y.returned) (x.rest_stays ∙ sym y.rest_stays)
    go false e = let short = leb-false (needed s m) (length out) e in g.1 short ∙ sym (h.1 short)

abbrev passed : List ℕ → ℕ → Answer Node
passed s k = plan s >>= λ (n : Node). with_room (Sizes.pass (schema s) k n) (pass (schema s) k n)

abbrev optimized : List ℕ → Answer Node
optimized s = plan s >>= λ (n : Node). with_room (Sizes.optimize (schema s) n) (optimize (schema s) n)

-- for each number, a pass or none
pass_settled : (program : Program) → IsOnePass program → (s : List ℕ) → Bytes s → (k : ℕ) (out : List ℕ) → program s k out ≡ one_pass s k out
pass_settled program is s b k out = go (leb 1 k) refl (leb k 5) refl
  where
    other : (k < 1) ⊎ (5 < k) → program s k out ≡ one_pass s k out
    other h = is.no_other s k out h ∙ sym (one_pass_gives.no_other s k out h)

    go : (t : Bool) → leb 1 k ≡ t → (u : Bool) → leb k 5 ≡ u → program s k out ≡ one_pass s k out
    go true e true f =
        let low = leb-true 1 k e in
        let high = leb-true k 5 f in
        gives_one s out (passed s k) (program s k out) (one_pass s k out) (is.gives s b k low high out) (one_pass_gives.gives s b k low high out)
    go true e false f = other (inr (leb-false k 5 f))
    go false e u f = other (inl (leb-false 1 k e))

pub settled : Settled
settled = (
  pass_settled,
  λ program is s b out. gives_one s out (optimized s) (program s out) (all_five s out) (is s b out) (all_five_gives s b out),
)

-- ======== faults at one answerable input

-- what the second promise asks there
asked : (s out : List ℕ) (r : Answer Node) (m : Node) (o : Outcome) → Gives s out r o → r ≡ done m → needed s m ≤ length out → HandsOut s out m o
asked s out r m o g e fits = (subst (λ (a : Answer Node). Gives s out a o) e g).0 fits

pass_asked : (program : Program) → IsOnePass program → (s : List ℕ) (k : ℕ) (out : List ℕ) (m : Node) → Answerable s k out m → HandsOut s out m (program s k out)
pass_asked program is s k out m a = asked s out (passed s k) m (program s k out) (is.gives s a.bytes k a.from_1 a.to_5 out) a.gives a.fits

five_asked : (program : ProgramOfFive) → IsAllFive program → (s out : List ℕ) (m : Node) → AnswerableFive s out m → HandsOut s out m (program s out)
five_asked program is s out m a = asked s out (optimized s) m (program s out) (is s a.bytes out) a.gives a.fits

unless : (right : (s out : List ℕ) → Node → Outcome → Type 0)
    → ((s out : List ℕ) (m : Node) (o : Outcome) → HandsOut s out m o → right s out m o) → ShutOutUnless right
unless right holds = (
  λ program s k out m a wrong is. wrong (holds s out m (program s k out) (pass_asked program is s k out m a)),
  λ program s out m a wrong is. wrong (holds s out m (program s out) (five_asked program is s out m a)),
)

pub refusing : Refusing
refusing = unless _ (λ s out m o h. ap (λ (n : Numbers). n.number) h.returned)

pub other_sheet : OtherSheet
other_sheet = unless _ (λ s out m o h. h.is_written)

pub invented_cells : InventedCells
invented_cells = unless _ (λ s out m o h. ap (λ (n : Numbers). n.cells) h.returned)

pub invented_columns : InventedColumns
invented_columns = unless _ (λ s out m o h. ap (λ (n : Numbers). n.columns) h.returned)

pub spoiled_rest : SpoiledRest
spoiled_rest =
    unless _ (λ s out m o h.
    h.rest_stays
    ∙ (ap (λ (l : List ℕ). l ++ drop (needed s m) out) (sym h.is_written)
    ∙ ap (λ (n : Numbers). sheet_of o ++ drop n.length out) (sym h.returned)))

-- ======== answerable inputs

pub are_bytes : (l : List ℕ) → all (λ (x : ℕ). ltb x 256) l ≡ true → (i : ℕ) → get_or l i 0 < 256
are_bytes [] h i = omega arith
are_bytes (x ∷ l) h zero = ltb-true x 256 (and_left (ltb x 256) (all (λ (x : ℕ). ltb x 256) l) h)
are_bytes (x ∷ l) h (suc i) = are_bytes l (and_right (ltb x 256) (all (λ (x : ℕ). ltb x 256) l) h) i

-- a Nothing without labels, in 36 bytes
abbrev one_cell : List ℕ
one_cell =
    57 ∷ 0 ∷ 0 ∷ 0 ∷ 0 ∷ 0 ∷ 0 ∷ 0 ∷ 0 ∷ 0 ∷ 0 ∷ 0 ∷ 0 ∷ 0 ∷ 0 ∷ 0 ∷ 0 ∷ 0 ∷ 0 ∷ 0 ∷ 0 ∷ 0 ∷ 0 ∷ 0 ∷ 0 ∷ 0 ∷ 0 ∷ 0 ∷ 1 ∷ 0 ∷ 0 ∷ 0 ∷ 36 ∷ 0 ∷ 0 ∷ 0 ∷ []

-- A table of one column, its key, and a plan of fourteen cells that each pass makes smaller: NestedLoopJoin on #0 = #1 of Filter(true) over a Scan, and a Scan
-- with And(#0 = 1, Not(false)). Pass 1 folds Not and And, 2 pushes the Filter into its Scan, 3 looks up the key 1, 4 makes a HashJoin, 5 removes the Filter.
abbrev busy : List ℕ
busy =
    0 ∷ 0 ∷ 0 ∷ 0 ∷ 0 ∷ 0 ∷ 0 ∷ 0 ∷ 1 ∷ 0 ∷ 0 ∷ 0 ∷ 0 ∷ 0 ∷ 0 ∷ 0 ∷ 0 ∷ 0 ∷ 0 ∷ 0 ∷ 1 ∷ 0 ∷ 0 ∷ 0 ∷ 0 ∷ 0 ∷ 0 ∷ 0 ∷ 0 ∷ 0 ∷ 0 ∷ 0 ∷ 62 ∷ 0 ∷ 0 ∷ 0 ∷
    0 ∷ 0 ∷ 0 ∷ 0 ∷ 0 ∷ 0 ∷ 0 ∷ 0 ∷ 0 ∷ 0 ∷ 0 ∷ 0 ∷ 2 ∷ 0 ∷ 0 ∷ 0 ∷ 1 ∷ 0 ∷ 0 ∷ 0 ∷ 0 ∷ 0 ∷ 0 ∷ 0 ∷ 0 ∷ 0 ∷ 0 ∷ 0 ∷ 51 ∷ 0 ∷ 0 ∷ 0 ∷ 0 ∷ 0 ∷ 0 ∷ 0 ∷
    0 ∷ 0 ∷ 0 ∷ 0 ∷ 0 ∷ 0 ∷ 0 ∷ 0 ∷ 6 ∷ 0 ∷ 0 ∷ 0 ∷ 0 ∷ 0 ∷ 0 ∷ 0 ∷ 0 ∷ 0 ∷ 0 ∷ 0 ∷ 0 ∷ 0 ∷ 0 ∷ 0 ∷ 3 ∷ 0 ∷ 0 ∷ 0 ∷ 1 ∷ 0 ∷ 0 ∷ 0 ∷ 0 ∷ 0 ∷ 0 ∷ 0 ∷
    0 ∷ 0 ∷ 0 ∷ 0 ∷ 12 ∷ 0 ∷ 0 ∷ 0 ∷ 0 ∷ 0 ∷ 0 ∷ 0 ∷ 0 ∷ 0 ∷ 0 ∷ 0 ∷ 0 ∷ 0 ∷ 0 ∷ 0 ∷ 2 ∷ 0 ∷ 0 ∷ 0 ∷ 0 ∷ 0 ∷ 0 ∷ 0 ∷ 0 ∷ 0 ∷ 0 ∷ 0 ∷ 0 ∷ 0 ∷ 0 ∷ 0 ∷
    30 ∷ 0 ∷ 0 ∷ 0 ∷ 0 ∷ 0 ∷ 0 ∷ 0 ∷ 0 ∷ 0 ∷ 0 ∷ 0 ∷ 0 ∷ 0 ∷ 0 ∷ 0 ∷ 10 ∷ 0 ∷ 0 ∷ 0 ∷ 0 ∷ 0 ∷ 0 ∷ 0 ∷ 0 ∷ 0 ∷ 0 ∷ 0 ∷ 0 ∷ 0 ∷ 0 ∷ 0 ∷ 62 ∷ 1 ∷ 0 ∷ 0 ∷
    0 ∷ 0 ∷ 0 ∷ 0 ∷ 0 ∷ 0 ∷ 0 ∷ 0 ∷ 0 ∷ 0 ∷ 0 ∷ 0 ∷ 6 ∷ 0 ∷ 0 ∷ 0 ∷ 0 ∷ 0 ∷ 0 ∷ 0 ∷ 0 ∷ 0 ∷ 0 ∷ 0 ∷ 0 ∷ 0 ∷ 0 ∷ 0 ∷ 6 ∷ 0 ∷ 0 ∷ 0 ∷ 1 ∷ 0 ∷ 0 ∷ 0 ∷
    0 ∷ 0 ∷ 0 ∷ 0 ∷ 0 ∷ 0 ∷ 0 ∷ 0 ∷ 12 ∷ 0 ∷ 0 ∷ 0 ∷ 0 ∷ 0 ∷ 0 ∷ 0 ∷ 0 ∷ 0 ∷ 0 ∷ 0 ∷ 0 ∷ 0 ∷ 0 ∷ 0 ∷ 56 ∷ 1 ∷ 0 ∷ 0 ∷ 0 ∷ 0 ∷ 0 ∷ 0 ∷ 0 ∷ 0 ∷ 0 ∷ 0 ∷
    0 ∷ 0 ∷ 0 ∷ 0 ∷ 0 ∷ 0 ∷ 0 ∷ 0 ∷ 16 ∷ 0 ∷ 0 ∷ 0 ∷ 32 ∷ 0 ∷ 0 ∷ 0 ∷ 1 ∷ 0 ∷ 0 ∷ 0 ∷ 20 ∷ 1 ∷ 0 ∷ 0 ∷ []

-- the cells of what is answered, if that is a plan, are from `least` to `most`
abbrev within : (least most : ℕ) → Answer Node → Bool
within least most (done m) = leb least (node_size m) && leb (node_size m) most
within least most (refused number place) = false

-- that plan
record Found (least most : ℕ) (r : Answer Node) : Type 0 where
  node : Node
  is : r ≡ done node
  low : least ≤ node_size node
  high : node_size node ≤ most

found : (least most : ℕ) (r : Answer Node) → within least most r ≡ true → Found least most r
found least most (done m) h =
    record {
      node = m;
      is = refl;
      low = leb-true least (node_size m) (and_left (leb least (node_size m)) (leb (node_size m) most) h);
      high = leb-true (node_size m) most (and_right (leb least (node_size m)) (leb (node_size m) most) h);
    }
found least most (refused number place) h = absurd (false≢true h)

abbrev passes : List ℕ
passes = 1 ∷ 2 ∷ 3 ∷ 4 ∷ 5 ∷ []

each_pass : (f : ℕ → Bool) → all f passes ≡ true → (k : ℕ) → 1 ≤ k → k ≤ 5 → f k ≡ true
each_pass f h zero low high = absurd (omega arith)
each_pass f h (suc zero) low high = and_left (f 1) _ h
each_pass f h (suc (suc zero)) low high = and_left (f 2) _ (and_right (f 1) _ h)
each_pass f h (suc (suc (suc zero))) low high = and_left (f 3) _ (and_right (f 2) _ (and_right (f 1) _ h))
each_pass f h (suc (suc (suc (suc zero)))) low high = and_left (f 4) _ (and_right (f 3) _ (and_right (f 2) _ (and_right (f 1) _ h)))
each_pass f h (suc (suc (suc (suc (suc zero))))) low high =
    and_left (f 5) _ (and_right (f 4) _ (and_right (f 3) _ (and_right (f 2) _ (and_right (f 1) _ h))))
each_pass f h (suc (suc (suc (suc (suc (suc k)))))) low high = absurd (omega arith)

-- A closed sheet whose cells start at `front`, and that gives plans of so many cells in each pass and in all five: what the checker computes.
record Computed (s : List ℕ) (front least most least_five most_five : ℕ) : Type 0 where
  are_small : all (λ (x : ℕ). ltb x 256) s ≡ true
  fronts : cells_at s ≡ front
  each : all (λ (k : ℕ). within least most (passed s k)) passes ≡ true
  five : within least_five most_five (optimized s) ≡ true

P1Computed : Computed P1 0 5 8 3 3
unfolding plan schema half word length_ok edition_ok parts_ok bad_record bad_cell cell_ok cell read integer_of_bits integer_bits Sizes.maybe_push_filter Sizes.push_filters_from Optimizer.maybe_push_join Optimizer.maybe_push_filter Optimizer.push_filters_from Optimizer.FilterPushdown Optimizer.index_lookup Optimizer.IndexLookup
P1Computed = record { are_small = refl; fronts = refl; each = refl; five = refl }

one_cell_computed : Computed one_cell 0 1 1 1 1
unfolding plan schema half word length_ok edition_ok parts_ok bad_record bad_cell cell_ok cell read integer_of_bits integer_bits Sizes.maybe_push_filter Sizes.push_filters_from Optimizer.maybe_push_join Optimizer.maybe_push_filter Optimizer.push_filters_from Optimizer.FilterPushdown Optimizer.index_lookup Optimizer.IndexLookup
one_cell_computed = record { are_small = refl; fronts = refl; each = refl; five = refl }

busy_computed : Computed busy 32 0 13 0 13 × (within 14 14 (plan busy) ≡ true)
unfolding plan schema half word length_ok edition_ok parts_ok table_ok column_ok bad_record bad_cell cell_ok cell read integer_of_bits integer_bits into_cnf into_cnf_vec Sizes.maybe_push_filter Sizes.push_filters_from Optimizer.maybe_push_join Optimizer.maybe_push_filter Optimizer.push_filters_from Optimizer.FilterPushdown Optimizer.index_lookup Optimizer.IndexLookup
busy_computed = (record { are_small = refl; fronts = refl; each = refl; five = refl }, refl)

module _ {s : List ℕ} {front least most least_five most_five : ℕ} (c : Computed s front least most least_five most_five) where
  pass_found : (k : ℕ) → 1 ≤ k → k ≤ 5 → Found least most (passed s k)
  pass_found k low high = found least most (passed s k) (each_pass (λ k. within least most (passed s k)) c.each k low high)

  pass_answerable : (k : ℕ) (low : 1 ≤ k) (high : k ≤ 5) (out : List ℕ) → front + 16 * most + 20 ≤ length out → Answerable s k out (pass_found k low high).node
  pass_answerable k low high out fits =
      let x = pass_found k low high in
      record {
        bytes = are_bytes s c.are_small;
        from_1 = low;
        to_5 = high;
        gives = x.is;
        fits = omega (arith, c.fronts, x.high, fits);
      }

  five_found : Found least_five most_five (optimized s)
  five_found = found least_five most_five (optimized s) c.five

  five_answerable : (out : List ℕ) → front + 16 * most_five + 20 ≤ length out → AnswerableFive s out five_found.node
  five_answerable out fits =
      record { bytes = are_bytes s c.are_small; gives = five_found.is; fits = omega (arith, c.fronts, five_found.high, fits) }

pub p1_answerable : P1Answerable
p1_answerable = (
  λ k low high out fits. ((pass_found P1Computed k low high).node, pass_answerable P1Computed k low high out (omega arith)),
  λ out fits. ((five_found P1Computed).node, five_answerable P1Computed out (omega arith)),
)

-- ======== what is always done

-- an output that is long enough for all three
abbrev lent : List ℕ
lent = replicate 276 0

pub refusing_all : RefusingAll
refusing_all = (
  λ program k low high h.
      let (m, a) = p1_answerable.0 k low high lent (omega arith) in
      refusing.0 program P1 k lent m a (h P1 lent m a),
  λ program h.
      let (m, a) = p1_answerable.1 lent (omega arith) in
      refusing.1 program P1 lent m a (h P1 lent m a),
)

-- equal sheets stand for equal plans
read_sheets : (f : (s out : List ℕ) → List ℕ) → ShutOutIfAlways (λ s out o. plan (sheet_of o) ≡ plan (f s out)) → ShutOutIfAlways (λ s out o. sheet_of o ≡ f s out)
read_sheets f shut = (
  λ program k low high h. shut.0 program k low high (λ s out m a. ap plan (h s out m a)),
  λ program h. shut.1 program (λ s out m a. ap plan (h s out m a)),
)

-- plans of unlike sizes
unlike : (r : Answer Node) (a b : Node) → node_size a < node_size b → r ≡ done a → r ≡ done b → ⊥
unlike r a b less e f = let same = ap node_size (done_same (sym e ∙ f)) in absurd (omega arith)

-- what is read of the sheet handed out, a plan or a refusal, would be the same for P1 and the sheet of one cell
fixed_reading : (fixed : List ℕ → Answer Node) → ShutOutIfAlways (λ s out o. plan (sheet_of o) ≡ fixed out)
fixed_reading fixed = (
  λ program k low high h is.
      let x = pass_found one_cell_computed k low high in
      let a = pass_answerable one_cell_computed k low high lent (omega arith) in
      let y = pass_found P1Computed k low high in
      let b = pass_answerable P1Computed k low high lent (omega arith) in
      unlike (fixed lent) x.node y.node (omega (arith, x.high, y.low))
      (sym (h one_cell lent x.node a) ∙ (pass_asked program is one_cell k lent x.node a).stands_for)
      (sym (h P1 lent y.node b) ∙ (pass_asked program is P1 k lent y.node b).stands_for),
  λ program h is.
      let x = five_found one_cell_computed in
      let a = five_answerable one_cell_computed lent (omega arith) in
      let y = five_found P1Computed in
      let b = five_answerable P1Computed lent (omega arith) in
      unlike (fixed lent) x.node y.node (omega (arith, x.high, y.low))
      (sym (h one_cell lent x.node a) ∙ (five_asked program is one_cell lent x.node a).stands_for)
      (sym (h P1 lent y.node b) ∙ (five_asked program is P1 lent y.node b).stands_for),
)

pub fixed_sheet : FixedSheet
fixed_sheet fixed = read_sheets (λ s out. fixed out) (fixed_reading (λ out. plan (fixed out)))

pub fixed_plan : FixedPlan
fixed_plan fixed = fixed_reading (λ out. done (fixed out))

pub idle : Idle
idle =
    let n = found 14 14 (plan busy) busy_computed.1 in
    let c = busy_computed.0 in (
      λ program k low high h is.
          let x = pass_found c k low high in
          let a = pass_answerable c k low high lent (omega arith) in
          unlike (plan busy) x.node n.node (omega (arith, x.high, n.low))
          (sym (h busy lent x.node a) ∙ (pass_asked program is busy k lent x.node a).stands_for) n.is,
      λ program h is.
          let x = five_found c in
          let a = five_answerable c lent (omega arith) in
          unlike (plan busy) x.node n.node (omega (arith, x.high, n.low))
          (sym (h busy lent x.node a) ∙ (five_asked program is busy lent x.node a).stands_for) n.is,
    )

pub handed_back : HandedBack
handed_back = read_sheets (λ s out. s) idle

-- all five are given by all_five, whose sheet for P1 has three cells
pub all_in_one : AllInOne
all_in_one program k low high h is =
    let x = five_found P1Computed in
    let a = five_answerable P1Computed lent (omega arith) in
    let y = pass_found P1Computed k low high in
    let b = pass_answerable P1Computed k low high lent (omega arith) in
    unlike (plan (sheet_of (all_five P1 lent))) x.node y.node (omega (arith, x.high, y.low)) (five_asked all_five all_five_gives P1 lent x.node a).stands_for
    (sym (ap plan (h P1 lent y.node x.node b a)) ∙ (pass_asked program is P1 k lent y.node b).stands_for)
