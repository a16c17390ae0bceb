-- The operations that hand out a sheet, one pass and all five, as total functions of the bytes handed in and of the output buffer: refusals 1 to 15.
use Rattle.std.specs.Prelude.{ℕ, ◌+◌, ◌*◌, Bool, true, false, ◌&&◌, cond, List, [], ◌∷◌, ◌++◌, leb, length, drop}
use Rattle.sql.specs.Answer.{Answer, done, refused, ◌>>=◌}
use Rattle.sql.specs.Plan.{Node, columns, node_size}
use Rattle.sql.specs.Room.{max_cells}
use Rattle.sql.specs.Room
use Rattle.sheet.specs.Check.{Numbers, refusal, schema, plan}
use Rattle.sheet.specs.Write.{write}

-- What an operation returns, and what the output buffer holds then.
pub record Outcome : Type 0 where
  pub numbers : Numbers
  pub output : List ℕ

-- A refusal leaves the output as it was.
abbrev pub refuse : List ℕ → ℕ → ℕ → Outcome
refuse out number place = record { numbers = refusal number place; output = out }

-- A plan is written over the output's first bytes, and the bytes after it stay. Refusal 15 gives the bytes needed.
abbrev pub written : (s out : List ℕ) → Node → (sheet : List ℕ) → Bool → Outcome
written s out node sheet true =
    record {
      numbers = record { number = 0; place = 0; length = length sheet; cells = node_size node; columns = columns (schema s) node };
      output = sheet ++ drop (length sheet) out;
    }
written s out node sheet false = refuse out 15 (length sheet)

abbrev pub hand_out : (s out : List ℕ) → Answer Node → Outcome
hand_out s out (done node) = written s out node (write s node) (leb (length (write s node)) (length out))
hand_out s out (refused number place) = refuse out number place

-- One pass by its number, 1 to 5.
unfoldable pub one_pass : (s : List ℕ) → ℕ → (out : List ℕ) → Outcome
unfolding plan schema write
one_pass s k out =
    cond (leb 1 k && leb k 5) (hand_out s out (plan s >>= Room.pass max_cells (schema s) k)) (refuse out 1 0)

-- All five in turn.
unfoldable pub all_five : (s out : List ℕ) → Outcome
unfolding plan schema write
all_five s out = hand_out s out (plan s >>= Room.optimize max_cells (schema s))
