-- Document 01: any sheet handed out passes the same checks. For every list of bytes that is accepted, whatever one pass or all five hand out is accepted
-- too, as the plan that was written, with the cells and columns that were answered.
use Rattle.std.specs.Prelude.{ℕ, ◌≤◌, ◌≡◌, List, length}
use Rattle.std.proofs.Common.{arith, sym, subst}
use Rattle.sql.specs.Plan.{Node, columns, node_size}
use Rattle.sql.specs.Answer.{done}
use Rattle.sql.specs.Room
use Rattle.sheet.specs.Parts.{table_count}
use Rattle.sheet.specs.Check.{text, schema, plan, check, Numbers}
use Rattle.sheet.specs.Write.{write}
use Rattle.sheet_laws.specs.Accepted.{accepted}
use Rattle.sheet_laws.specs.Plan.{Bytes}
use Rattle.sheet_laws.proofs.Plan.{parts_of, text_length, plan_fits, plan_size}
use Rattle.sheet_laws.specs.Layout.{tables_good}
use Rattle.sound.specs.Sound.{Named}
use Rattle.sound.specs.Passes.{PassesChecks}

-- What `check` answers to a sheet with so many cells and columns.
abbrev pub success : (cells columns : ℕ) → Numbers
success cells columns = record { number = 0; place = 0; length = 0; cells = cells; columns = columns }

-- Of a sheet s that stands for n, and the plan m that a pass has made of n.
pub record HandedOut (s : List ℕ) (n m : Node) : Type 0 where
  pub checks : check (write s m) ≡ success (node_size m) (columns (schema s) m)
  pub stands_for : plan (write s m) ≡ done m
  pub same_text : text (write s m) ≡ text s
  pub same_schema : schema (write s m) ≡ schema s
  pub same_columns : columns (schema s) m ≡ columns (schema s) n
  pub has_room : node_size m ≤ Room.max_cells

module _ (s : List ℕ) (b : Bytes s) (n : Node) (h : plan s ≡ done n) where
  pub plan_checked : PassesChecks (schema s) (text s) (table_count s) n
  plan_checked =
      let a = accepted s n h in
      record { fits = plan_fits s b n h; in_scope = a.scope_is; targets = a.targets_are }

  -- the names of its tables and columns lie inside the text
  pub names_inside : Named (schema s) (length (text s))
  names_inside =
      let a = accepted s n h in
      subst (Named (schema s)) (sym (text_length s (parts_of a)))
      (λ t c. let g = tables_good s (parts_of a) a.records_are t in (g.named, g.columns_named c))

  pub plan_room : node_size n ≤ Room.max_cells
  plan_room = let p = parts_of (accepted s n h) in omega (arith, plan_size s b n h)
