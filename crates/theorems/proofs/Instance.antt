-- The proof of Instance.antt: the premises by computation, the rest by point 3.
use Prim.Native.Nat.{ℕ, zero, suc, ◌≤◌, ◌<◌}
use native.Mathlib.Omega.{arith}
use mathlib.Core.Bool.{true}
use mathlib.Core.List.{List}
use mathlib.Core.Path.{◌≡◌, refl, ap, ◌∙◌}
use Rattle.value.specs.Value.{ok}
use Rattle.value.specs.Meaning.{integer_bits, integer_of_bits}
use Rattle.value.specs.Comparison.{compare_integers}
use Rattle.value.specs.Arithmetic.{checked, add_integers}
use Rattle.sql.specs.Expression.{Row, into_cnf, into_cnf_vec}
use Rattle.sql.specs.Plan.{Node, node_size}
use Rattle.sql.specs.Answer.{done}
use Rattle.sql.specs.Optimizer
use Rattle.sql.specs.Room
use Rattle.sql.specs.Room.{max_cells}
use Rattle.sheet.specs.Bytes.{half, word, bytes}
use Rattle.sheet.specs.Parts.{length_ok, edition_ok, parts_ok, table_ok, column_ok, bad_record}
use Rattle.sheet.specs.Cell.{cell, cell_ok, bad_cell}
use Rattle.sheet.specs.Tree.{read}
use Rattle.sheet.specs.Check.{schema, plan}
use Rattle.sheet.specs.Operations.{all_five}
use Rattle.rows.specs.Reading
use Rattle.rows.specs.Equalities.{equalities, of_one_kind, all}
use Rattle.same_rows.specs.SameRows.{Premises}
use Rattle.theorems.specs.Instance.{sheet, output, tables, database, plans, rows, Instance}
use Rattle.theorems.proofs.Proofs.{same_rows_all_five}
use Rattle.theorems.proofs.ShutOut.{are_bytes}

accepted : plan sheet ≡ done (plans 0)
unfolding plan schema half word length_ok edition_ok parts_ok table_ok column_ok bad_record bad_cell cell_ok cell read integer_of_bits integer_bits
accepted = refl

same_schema : database.schema ≡ schema sheet
unfolding schema half word
same_schema = refl

number_0 : (all_five sheet output).numbers.number ≡ 0
unfolding all_five half word bytes length_ok edition_ok parts_ok table_ok column_ok bad_record bad_cell cell_ok cell read integer_of_bits integer_bits into_cnf into_cnf_vec Optimizer.maybe_push_join Optimizer.index_lookup Room.maybe_push_join Room.maybe_push_filter Room.push_filters_from Room.FilterPushdown Room.index_lookup Room.IndexLookup Room.short_circuit Room.ShortCircuit checked add_integers
number_0 = refl

not_15 : (n : ℕ) → n ≡ 0 → n ≡ 15 → ⊥
not_15 n e f = absurd (omega arith)

-- ---- the premises

not_refused : (k : ℕ) → k < 5 → Room.pass max_cells tables (suc k) (plans k) ≡ done (plans (suc k))
unfolding into_cnf into_cnf_vec Optimizer.maybe_push_join Optimizer.index_lookup Room.maybe_push_join Room.maybe_push_filter Room.push_filters_from Room.FilterPushdown Room.index_lookup Room.IndexLookup Room.short_circuit Room.ShortCircuit checked add_integers
not_refused zero h = refl
not_refused (suc zero) h = refl
not_refused (suc (suc zero)) h = refl
not_refused (suc (suc (suc zero))) h = refl
not_refused (suc (suc (suc (suc zero)))) h = refl
not_refused (suc (suc (suc (suc (suc k))))) h = absurd (omega arith)

reads : (k : ℕ) → k ≤ 5 → Reading.read database (plans k) ≡ ok (rows k)
unfolding compare_integers checked add_integers
reads zero h = refl
reads (suc zero) h = refl
reads (suc (suc zero)) h = refl
reads (suc (suc (suc zero))) h = refl
reads (suc (suc (suc (suc zero)))) h = refl
reads (suc (suc (suc (suc (suc k))))) h = refl

one_kind : (k : ℕ) → k ≤ 5 → all of_one_kind (equalities database (plans k)) ≡ true
unfolding compare_integers checked add_integers
one_kind zero h = refl
one_kind (suc zero) h = refl
one_kind (suc (suc zero)) h = refl
one_kind (suc (suc (suc zero))) h = refl
one_kind (suc (suc (suc (suc zero)))) h = refl
one_kind (suc (suc (suc (suc (suc k))))) h = refl

premises : Premises database plans rows
premises = record { not_refused = not_refused; inner = refl; reads = reads; one_kind = one_kind }

-- ---- what comes out

unlike_sizes : {n m : Node} → node_size n < node_size m → n ≡ m → ⊥
unlike_sizes h e = let same = ap node_size e in absurd (omega arith)

pub instance : Instance
instance =
    let all_bytes = are_bytes sheet refl in
    let long = not_15 _ number_0 in
    let x = same_rows_all_five sheet output plans database rows all_bytes long accepted same_schema premises in
    record {
      bytes = all_bytes;
      long_enough = long;
      accepted = accepted;
      same_schema = same_schema;
      premises = premises;
      handed_out = x.0;
      changed = unlike_sizes (omega arith);
      one_row = reads 5 (omega arith) ∙ ap ok (x.2 5 (omega arith)).1;
    }
