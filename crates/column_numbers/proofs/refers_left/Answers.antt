use Rattle.std.proofs.Common.{rules, ◌∙◌, ℕ, ltb}
use Rattle.words.proofs.EachCell.{any_cell}
use Rattle.column_numbers.proofs.Referring.{is_column, some_column}
use Rattle.column_numbers.proofs.refers_left.Goals as goal

pub returns : goal.returns
returns c = λ e u. any_cell (is_column (λ (i : ℕ). ltb i c.args.n)) c.as_chunks.result.0.now c.any.result c.as_chunks.ensures.front (λ h. search rules) (λ h i k. search rules) e u ∙ some_column (λ (i : ℕ). ltb i c.args.n) e
