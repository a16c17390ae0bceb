-- What holds of a sheet that is accepted, in one record, and back.
use Rattle.std.specs.Prelude.{ℕ, ◌≡◌, refl, Bool, true, false, List, [], ◌∷◌}
use Rattle.std.proofs.Common.{arith, sym, ap, ◌∙◌}
use Rattle.std.proofs.Math.Option.{Option, none, some}
use Rattle.sql.specs.Answer.{Answer, done, refused, ◌>>=◌}
use Rattle.sql.specs.Plan.{Node}
use Rattle.sheet.specs.Parts.{length_ok, edition_ok, parts_ok, cell_count, bad_record}
use Rattle.sheet.specs.Cell.{bad_cell}
use Rattle.sheet.specs.Tree.{expression_tree, label_tree, item_tree, key_tree, target_tree, agg_tree, row_tree, node_tree, Stack, Read, lacking, stack, read}
use Rattle.sheet.specs.Scope.{outside, target_repeated}
use Rattle.sheet.specs.Check.{text, schema, cells_of, test, unfound, cells_checked, sole_node, one_plan, in_scope, plan}

pub record Accepted (s : List ℕ) (n : Node) : Type 0 where
  pub length_is : length_ok s ≡ true
  pub edition_is : edition_ok s ≡ true
  pub parts_are : parts_ok s ≡ true
  pub records_are : bad_record s ≡ none
  pub cells_are : bad_cell s ≡ none
  pub reads : read (text s) 0 (cells_of s) [] ≡ stack (node_tree n ∷ [])
  pub scope_is : outside (schema s) 0 n ≡ none
  pub targets_are : target_repeated 0 n ≡ none

-- ---- tests passed, in turn

-- a refusal is no success
not_done : {A B : Type 0} {number place : ℕ} {a : A} → refused number place ≡ done a → B
not_done h = absurd (let z : ◌≡◌ {A = ℕ} 0 1 = cc in omega arith)

tested : {A : Type 0} {a : A} (b : Bool) (number : ℕ) (next : Answer A) → test b number next ≡ done a → (b ≡ true) × (next ≡ done a)
tested true number next h = (refl, h)
tested false number next h = not_done h

nothing_found : {A : Type 0} {a : A} (o : Option ℕ) (number : ℕ) (next : Answer A) → unfound o number next ≡ done a → (o ≡ none) × (next ≡ done a)
nothing_found none number next h = (refl, h)
nothing_found (some p) number next h = not_done h

no_bad_cell : {A : Type 0} {a : A} (s : List ℕ) (o : Option ℕ) (next : Answer A) → cells_checked s o next ≡ done a → (o ≡ none) × (next ≡ done a)
no_bad_cell s none next h = (refl, h)
no_bad_cell s (some p) next h = not_done h

sole : (count : ℕ) (st : Stack) (n : Node) → sole_node count st ≡ done n → st ≡ node_tree n ∷ []
sole count [] n h = not_done h
sole count (node_tree m ∷ []) n h = cc
sole count (node_tree m ∷ t ∷ st) n h = not_done h
sole count (expression_tree e ∷ st) n h = not_done h
sole count (label_tree l ∷ st) n h = not_done h
sole count (item_tree i ∷ st) n h = not_done h
sole count (key_tree k ∷ st) n h = not_done h
sole count (target_tree t ∷ st) n h = not_done h
sole count (agg_tree a ∷ st) n h = not_done h
sole count (row_tree es ∷ st) n h = not_done h

one : (count : ℕ) (r : Read) (n : Node) → one_plan count r ≡ done n → r ≡ stack (node_tree n ∷ [])
one count (lacking p) n h = not_done h
one count (stack st) n h = ap stack (sole count st n h)

bound : {A B : Type 0} (x : Answer A) (f : A → Answer B) (b : B) → (x >>= f) ≡ done b → (a : A) × ((x ≡ done a) × (f a ≡ done b))
bound (done a) f b h = (a, (refl, h))
bound (refused number place) f b h = not_done h

pub accepted : (s : List ℕ) (n : Node) → plan s ≡ done n → Accepted s n
unfolding plan
accepted s n h0 =
    let (length_is, h1) = tested (length_ok s) 2 _ h0 in
    let (edition_is, h2) = tested (edition_ok s) 3 _ h1 in
    let (parts_are, h3) = tested (parts_ok s) 4 _ h2 in
    let (records_are, h4) = nothing_found (bad_record s) 5 _ h3 in
    let (cells_are, h5) = no_bad_cell s (bad_cell s) _ h4 in
    let (m, (h6, h7)) = bound (one_plan (cell_count s) (read (text s) 0 (cells_of s) [])) (in_scope (schema s)) n h5 in
    let (scope_is, h8) = nothing_found (outside (schema s) 0 m) 9 _ h7 in
    let (targets_are, h9) = nothing_found (target_repeated 0 m) 10 (done m) h8 in
    let e : m ≡ n = cc in
    record {
      length_is = length_is;
      edition_is = edition_is;
      parts_are = parts_are;
      records_are = records_are;
      cells_are = cells_are;
      reads = one (cell_count s) (read (text s) 0 (cells_of s) []) m h6 ∙ ap (λ (k : Node). stack (node_tree k ∷ [])) e;
      scope_is = ap (outside (schema s) 0) (sym e) ∙ scope_is;
      targets_are = ap (target_repeated 0) (sym e) ∙ targets_are;
    }

pub accepting : {s : List ℕ} {n : Node} → Accepted s n → plan s ≡ done n
unfolding plan
accepting {s} {n} a =
    rw (a.length_is, a.edition_is, a.parts_are, a.records_are, a.cells_are, a.reads, a.scope_is, a.targets_are)
