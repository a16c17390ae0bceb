-- What each step at one operator leaves, from what its calls have.
use Prim.Native.Nat.{ℕ, ◌+◌, ◌≤◌, ◌<◌}
use native.Mathlib.Omega.{arith}
use mathlib.Core.Path.{◌≡◌, refl, sym, ap, ap₂, ◌∙◌, subst}
use mathlib.Core.Bool.{Bool, true, false}
use mathlib.Core.List.{List, []}
use lib.ListN.{length, length-append}
use Rattle.value.specs.Value.{Truth, False, Unknown, True, Datum, integer, float, string, Value, truth, datum, Result, ok}
use Rattle.value.specs.Meaning.{meaning, outcome_of}
use Rattle.value.specs.declared.Value as Declared
use Rattle.value.specs.declared.Error as DeclaredError
use Rattle.std.specs.Prelude as Std
use Rattle.sql.specs.Expression.{Expression, constant, column, unary, binary, bind, evaluate_unary, evaluate_binary}
use Rattle.sql.specs.Answer.{done, at_place}
use Rattle.sql.specs.Optimizer.{fold}
use Rattle.sheet.specs.Content.{unary_tag, binary_tag, constant_cell}
use Rattle.cells.specs.declared.Cell.{Cell}
use Rattle.cells.specs.Cells.{cell_words, sized, cell_at, tag_at}
use Rattle.cells.specs.Room.{Short, Wrote, Seals}
use Rattle.cells.proofs.Laws.{then, nothing}
use Rattle.words.specs.Words.{cell, root, expression_words}
use Rattle.words.specs.Place.{ExpressionHere}
use Rattle.words.proofs.Expressions.{tag, by_constant, unary_range, binary_range, root_is, root_tag}
use Rattle.words.proofs.Expressions as expressions
use Rattle.words.proofs.Writing.{plain}
use Rattle.words.proofs.Sizes.{sized_long}
use Rattle.evaluate.specs.Evaluate.{ConstantCell, Reads, EvaluatesUnary, EvaluatesBinary}
use Rattle.fold_operator.specs.Left.{Folded, Settled, SettledAt, Appended, Leaves}
use Rattle.fold_operator.specs.Steps.{OperandOf, Deciding, Neutral, Writes, FoldsUnary, OperandsAt, Simplifies, BinaryAt, FoldsBinary, FoldsNeutral}
use Rattle.fold_operator.proofs.Parts.{part_appended, appended, here_in, here_wrote, leaves_as, leaves_words}
use Rattle.fold_operator.proofs.Operands.{decision, deciding_root, left_decides, right_decides, right_is_neutral, neither, neutral_simplified, neutral_truth, neutral_datum, fold_unary_kept, fold_left_kept, fold_right_kept}

-- ---- a constant written

pub constant_written : {d : List ℕ} {at n : ℕ} {d' : List ℕ} {k : Cell} (og : ℕ) (v : Value) → k ≡ cell og (constant_cell v) → Seals d at at k n d' → Short d → at + cell_words ≤ length d
    → Appended d at (expression_words (constant og v)) n d'
unfolding expression_words
constant_written {d} {at} {n} {d'} og v q w short h =
    appended (subst (λ (x : Cell). Wrote d at (sized [] x) n d') q (w d [] refl (nothing d at))) short h

-- the cell k with another origin
abbrev pub moved : (og : ℕ) → Cell → Cell
moved og k = record { origin = og; tag = k.tag; flag = k.flag; a = k.a; b = k.b; c = k.c }

-- an operand that is a constant, written with another origin
pub constant_moved : {d : List ℕ} {at lo m n : ℕ} {d' : List ℕ} {j k : Cell} (og : ℕ) (v : Value) (e : Expression) → ExpressionHere d lo m e → root e ≡ constant_cell v
    → k ≡ cell_at d m → j ≡ moved og k → Seals d at at j n d' → Short d → at + cell_words ≤ length d → Appended d at (expression_words (constant og v)) n d'
unfolding cell
constant_moved og v e u r q s w short h = constant_written og v (s ∙ (ap (moved og) (q ∙ root_is e u) ∙ ap (cell og) r)) w short h

-- ---- which constant a tag tells of

module _ (P : Expression → Type 0) where
  pub by_truth : ((og : ℕ) (t : Truth) → P (constant og (truth t))) → (e : Expression) → tag (root e) < 3 → P e
  by_truth f (constant og (truth t)) h = f og t
  by_truth f (constant og (datum (integer n))) h = absurd (omega arith)
  by_truth f (constant og (datum (float n))) h = absurd (omega arith)
  by_truth f (constant og (datum (string r s))) h = absurd (omega arith)
  by_truth f (column og i) h = absurd (omega arith)
  by_truth f (unary og o x) h = absurd (omega (arith, unary_range o))
  by_truth f (binary og o l r) h = absurd (omega (arith, (binary_range o).0))

  pub by_datum : ((og : ℕ) (g : Datum) → P (constant og (datum g))) → (e : Expression) → 3 ≤ tag (root e) → tag (root e) < 6 → P e
  by_datum f (constant og (truth False)) h k = absurd (omega arith)
  by_datum f (constant og (truth Unknown)) h k = absurd (omega arith)
  by_datum f (constant og (truth True)) h k = absurd (omega arith)
  by_datum f (constant og (datum g)) h k = f og g
  by_datum f (column og i) h k = absurd (omega arith)
  by_datum f (unary og o x) h k = absurd (omega (arith, unary_range o))
  by_datum f (binary og o l r) h k = absurd (omega (arith, (binary_range o).0))

-- ---- what the calls ask

-- where an expression ends, a cell can be read
pub cell_in : {d : List ℕ} {at n : ℕ} (e : Expression) → ExpressionHere d at n e → (cell_words ≤ n) × (n ≤ length d)
cell_in e u = let (h, k) = expressions.here_in e u in (omega arith, k)

-- the cell of a constant, told by its tag
pub constant_here : {text d : List ℕ} {at n : ℕ} {k : Cell} → length text < 65536 → (t : SettledAt text d at n) → k ≡ cell_at d n → k.tag < 6 → ConstantCell k
constant_here {text} {d} {at} {n} {k} short t q h =
    by_constant (λ y. ExpressionHere d at n y → Settled text y → ConstantCell k)
    (λ og v u s. record { text = text; short = short; og = og; v = v; fits = s.fits; is = q ∙ root_is (constant og v) u })
    t.y (omega (arith, root_tag t.y t.here, ap (λ (x : Cell). x.tag) q)) t.here t.settled

module _ {d : List ℕ} {at m n o : ℕ} {k : Cell} (t : OperandsAt d at m n o) where
  pub right_operand : k ≡ cell_at d n → OperandOf o k
  right_operand q = record { operator = t.operator; e = t.y; is = q ∙ root_is t.y t.right }

module _ {text d : List ℕ} {at m n o : ℕ} (t : BinaryAt text d at m n o) where
  pub left_part : SettledAt text d at m
  left_part = record { y = t.operands.x; here = t.operands.left; settled = t.left_settled }

  pub right_part : SettledAt text d m n
  right_part = record { y = t.operands.y; here = t.operands.right; settled = t.right_settled }

-- ---- write

module _ (place og : ℕ) {d : List ℕ} {at : ℕ} {d' : List ℕ} where
  pub value_written : {n : ℕ} {k : Cell} (v : Declared.Value) → ((text : List ℕ) → k ≡ cell og (constant_cell (meaning text v)))
      → Seals d at at k n d' → (r : Std.Result Declared.Value DeclaredError.Error) → r ≡ Std.Ok v → Writes d at r place og (Std.Ok n) d'
  value_written v q w r e text short h = leaves_as (ap (λ (x : Std.Result Declared.Value DeclaredError.Error). at_place place (bind (outcome_of text x) (λ v. ok (constant og v)))) e)
      (leaves_words (constant_written og (meaning text v) (q text) w short h))

  pub error_written : (e : DeclaredError.Error) → (r : Std.Result Declared.Value DeclaredError.Error) → r ≡ Std.Err e → Writes d at r place og (Std.Err (record { error = e; place = place })) d'
  error_written e r f text short h =
      leaves_as (ap (λ (x : Std.Result Declared.Value DeclaredError.Error). at_place place (bind (outcome_of text x) (λ v. ok (constant og v)))) f) (record { left = (refl, refl) })

-- ---- fold_unary

-- the cell o over what was written from `at` to n
over : {d : List ℕ} {at n j : ℕ} {d' b : List ℕ} {k : Cell} (og t : ℕ) → k ≡ plain og t → Wrote d at b n d → Short d → at + length b + cell_words ≤ length d → Seals d at n k j d'
    → Appended d at (sized b (plain og t)) j d'
over {d} {at} {n} {j} {d'} {b} og t q a short room w =
    appended (subst (λ (x : Cell). Wrote d at (sized b x) j d') q (w d b refl a)) short (omega (arith, sized_long b (plain og t)))

module _ (o place og : ℕ) {d : List ℕ} {at n : ℕ} {d' : List ℕ} where
  pub unary_kept : {j : ℕ} {k : Cell} → Short d → n + cell_words ≤ length d → k ≡ plain og o → 6 ≤ tag_at d n → Seals d at n k j d' → FoldsUnary d at n o place og (Std.Ok j) d'
  unfolding expression_words cell
  unary_kept {j} short room q h w text p y e u s =
      leaves_as (fold_unary_kept place og p y (s.column_left (omega (arith, root_tag y u))))
      (leaves_words (over og (unary_tag p) (q ∙ ap (plain og) (sym e)) (here_wrote y u) short (omega (arith, (part_appended u.part).ends)) w))

  pub unary_constant : {answer : Folded} {k : Cell} → Short d → n + cell_words ≤ length d → (v : Declared.Value) (r : Std.Result Declared.Value DeclaredError.Error) → k ≡ cell_at d n → tag_at d n < 6 → Reads k v → EvaluatesUnary o v r
      → Writes d at r place og answer d' → FoldsUnary d at n o place og answer d'
  unary_constant {answer} short room v r q h f g w text p y e u s =
      by_constant (λ y. ExpressionHere d at n y → Settled text y → Leaves d at (fold place (unary og p y)) answer d')
      (λ own c u s. let (i, j) = here_in (constant own c) u in
      let z = f text own c s.fits (q ∙ root_is (constant own c) u) in
      leaves_as (ap (λ (x : Result Value). at_place place (bind x (λ v. ok (constant og v)))) (sym (g text p e ∙ ap (evaluate_unary p) z))) (w text short (omega arith)))
      y (omega (arith, root_tag y u)) u s

-- ---- simplify

module _ (o og : ℕ) {d : List ℕ} {at m n : ℕ} where
  pub left_moved : {j k : Cell} {b : Bool} {i : ℕ} {d' : List ℕ} → k ≡ cell_at d m → Deciding o k b → b ≡ true → j ≡ moved og k → Seals d at at j i d' → Simplifies d at m n o og i d'
  left_moved q f h s w p x y e u v z short room =
      let (k₁, k₂) = expressions.here_in x u in
      let dx = sym (f p x e (q ∙ root_is x u)) ∙ h in
      rw (left_decides og p x y dx) (constant_moved og (truth (decision p)) x u (deciding_root p x dx) q s w short (omega arith))

  module _ {j k : Cell} {a b : Bool} (q : j ≡ cell_at d m) (r : k ≡ cell_at d n) (f : Deciding o j a) (fh : a ≡ false) (g : Deciding o k b) where
    pub right_moved : {l : Cell} {i : ℕ} {d' : List ℕ} → b ≡ true → l ≡ moved og k → Seals d at at l i d' → Simplifies d at m n o og i d'
    right_moved h s w p x y e u v z short room =
        let (k₁, k₂) = here_in x u in
        let (k₃, k₄) = expressions.here_in y v in
        let dy = sym (g p y e (r ∙ root_is y v)) ∙ h in
        rw (right_decides og p x y (sym (f p x e (q ∙ root_is x u)) ∙ fh) z dy) (constant_moved og (truth (decision p)) y v (deciding_root p y dy) r s w short (omega arith))

    module _ {c : Bool} (gh : b ≡ false) (t : Neutral o k c) where
      pub right_dropped : c ≡ true → Simplifies d at m n o og m d
      right_dropped h p x y e u v z short room = rw (right_is_neutral og p x y (sym (f p x e (q ∙ root_is x u)) ∙ fh) z (sym (t p y e (r ∙ root_is y v)) ∙ h)) (part_appended u.part)

      pub both_kept : {i : ℕ} {l : Cell} {d' : List ℕ} → c ≡ false → l ≡ plain og o → Seals d at n l i d' → Simplifies d at m n o og i d'
      unfolding expression_words cell
      both_kept {i} h s w p x y e u v z short room =
          rw (neither og p x y (sym (f p x e (q ∙ root_is x u)) ∙ fh) z (sym (g p y e (r ∙ root_is y v)) ∙ gh) (sym (t p y e (r ∙ root_is y v)) ∙ h))
          (over og (binary_tag p) (s ∙ ap (plain og) (sym e)) (then refl (here_wrote x u) (here_wrote y v)) short
          (omega (arith, (part_appended u.part).ends, (part_appended v.part).ends, length-append (expression_words x) (expression_words y))) w)

-- ---- fold_binary

module _ (text : List ℕ) (o place og : ℕ) {d : List ℕ} {at m n : ℕ} {d' : List ℕ} (short : Short d) (room : n + cell_words ≤ length d) where
  pub binary_left_kept : {i : ℕ} → 6 ≤ tag_at d m → Simplifies d at m n o og i d' → FoldsBinary text d at m n o place og (Std.Ok i) d'
  binary_left_kept h w p x y e u v s t z =
      leaves_as (fold_left_kept place og p x y (s.column_left (omega (arith, root_tag x u)))) (leaves_words (w p x y e u v z short room))

  pub binary_right_kept : {i : ℕ} → 6 ≤ tag_at d n → Simplifies d at m n o og i d' → FoldsBinary text d at m n o place og (Std.Ok i) d'
  binary_right_kept h w p x y e u v s t z =
      leaves_as (fold_right_kept place og p x y (t.column_left (omega (arith, root_tag y v)))) (leaves_words (w p x y e u v z short room))

  pub binary_constants : {answer : Folded} {j k : Cell} (a b : Declared.Value) (r : Std.Result Declared.Value DeclaredError.Error) → j ≡ cell_at d m → k ≡ cell_at d n → tag_at d m < 6 → tag_at d n < 6
      → Reads j a → Reads k b → EvaluatesBinary text o a b r → Writes d at r place og answer d' → FoldsBinary text d at m n o place og answer d'
  binary_constants {answer} a b r q l h i f g ev w p x y e u v s t z =
      by_constant (λ x. ExpressionHere d at m x → Settled text x → Leaves d at (fold place (binary og p x y)) answer d')
      (λ ox c u s. by_constant (λ y. ExpressionHere d m n y → Settled text y → Leaves d at (fold place (binary og p (constant ox c) y)) answer d')
      (λ oy c' v t. let (k₁, k₂) = here_in (constant ox c) u in let (k₃, k₄) = here_in (constant oy c') v in
      leaves_as (ap (λ (x : Result Value). at_place place (bind x (λ v. ok (constant og v))))
      (sym (ev p e ∙ ap₂ (evaluate_binary p) (f text ox c s.fits (q ∙ root_is (constant ox c) u)) (g text oy c' t.fits (l ∙ root_is (constant oy c') v))))) (w text short (omega arith)))
      y (omega (arith, root_tag y v)) v t)
      x (omega (arith, root_tag x u)) u s

-- ---- fold_neutral

module _ (place og : ℕ) {d : List ℕ} {at n : ℕ} where
  pub neutral_value : {j k : Cell} {i : ℕ} {d' : List ℕ} → Short d → k ≡ cell_at d n → k.tag < 3 → j ≡ moved og k → Seals d at at j i d' → FoldsNeutral d at n place og (Std.Ok i) d'
  neutral_value {j} {k} {i} {d'} short q h s w text p x y z u _ = by_truth (λ y. ExpressionHere d at n y → Leaves d at (fold place (binary og p x y)) (Std.Ok i) d')
      (λ own t u. let (h₁, h₂) = expressions.here_in (constant own (truth t)) u in
      leaves_as (neutral_truth place og own t p x z) (leaves_words (constant_moved og (truth t) (constant own (truth t)) u refl q s w short (omega arith))))
      y (omega (arith, root_tag y u, ap (λ (x : Cell). x.tag) q)) u

  pub neutral_mismatch : {k : Cell} {d' : List ℕ} → k ≡ cell_at d n → 3 ≤ k.tag → k.tag < 6 → FoldsNeutral d at n place og (Std.Err (record { error = DeclaredError.TheVariants.Mismatch; place = place })) d'
  neutral_mismatch {k} {d'} q h i text p x y z u s = by_datum (λ y. Leaves d at (fold place (binary og p x y)) (Std.Err (record { error = DeclaredError.TheVariants.Mismatch; place = place })) d')
      (λ own g. leaves_as (neutral_datum place og own g p x z) (record { left = (refl, refl) }))
      y (omega (arith, root_tag y u, ap (λ (x : Cell). x.tag) q)) (omega (arith, root_tag y u, ap (λ (x : Cell). x.tag) q))

  pub neutral_column : {k : Cell} → k ≡ cell_at d n → 6 ≤ k.tag → FoldsNeutral d at n place og (Std.Ok n) d
  neutral_column q h text p x y z u s =
      let c = s.column_left (omega (arith, root_tag y u, ap (λ (x : Cell). x.tag) q)) in
      leaves_as (fold_right_kept place og p x y c ∙ ap done (neutral_simplified og p x y z c)) (leaves_words (part_appended u.part))
