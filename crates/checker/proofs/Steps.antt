-- The answer at each way out of the code.
use Prim.Native.Nat.{ℕ}
use native.Mathlib.Omega.{arith}
use mathlib.Core.List.{List, [], ◌∷◌}
use mathlib.Core.Option.{Option, none, some}
use mathlib.Core.Path.{◌≡◌, refl, sym, ap, ◌∙◌}
use Rattle.sql.specs.Plan.{Node, columns}
use Rattle.sql.specs.Answer.{Answer, done, refused, ◌>>=◌}
use Rattle.sheet.specs.Parts.{cell_count}
use Rattle.sheet.specs.Cell.{bad_cell}
use Rattle.sheet.specs.Tree.{expression_tree, label_tree, item_tree, key_tree, target_tree, agg_tree, row_tree, node_tree, Stack, Read, lacking, stack, read}
use Rattle.sheet.specs.Scope.{outside, target_repeated}
use Rattle.sheet.specs.Check.{Numbers, refusal, unfound, cells_checked, sole_node, one_plan, in_scope, schema, text, cells_of, plan, checked, check}
use Rattle.layout.specs.Layout.{found}
use Rattle.structure.specs.Structure.{plan_of, place}
use Rattle.structure.proofs.Plan.{refused_at, planned}
use Rattle.std.specs.Prelude.{Option as Found, Result, Ok, Err}
use Rattle.scope.specs.Scope.{scope_of, OnePlan, Judges}
use Rattle.targets.specs.Targets.{Repeats}
use Rattle.checker.specs.declared.refusals.Refusal.{Refusal}
use Rattle.checker.specs.Refusals.{number_of, place_of, refusal_of}
use Rattle.checker.specs.Checker.{parts_checked, scoped}

module _ (s : List ℕ) where
  by_steps : check s ≡ checked s (parts_checked s (cells_checked s (bad_cell s) (scoped s)))
  unfolding check plan plan_of
  by_steps = refl

  -- refusals 2 to 5, and what follows
  pub at_parts : (r : Refusal) → ((next : Answer Node) → refused (number_of r) (place_of r) ≡ parts_checked s next) → refusal_of r ≡ check s
  at_parts r f = ap (checked s) (f (cells_checked s (bad_cell s) (scoped s))) ∙ sym by_steps

  module _ (f : (next : Answer Node) → next ≡ parts_checked s next) where
    -- refusals 6 and 7
    pub at_cells : (r : Refusal) → ((next : Answer Node) → refused (number_of r) (place_of r) ≡ cells_checked s (bad_cell s) next) → refusal_of r ≡ check s
    at_cells r g = ap (checked s) (g (scoped s) ∙ f (cells_checked s (bad_cell s) (scoped s))) ∙ sym by_steps

    pub past_cells : ((next : Answer Node) → next ≡ cells_checked s (bad_cell s) next) → {a : Numbers} → a ≡ checked s (scoped s) → a ≡ check s
    past_cells g e = e ∙ ap (checked s) (g (scoped s) ∙ f (cells_checked s (bad_cell s) (scoped s))) ∙ sym by_steps

  -- refusal 8
  pub at_lacking : {p : ℕ} → some p ≡ place (plan_of s) → refusal 8 p ≡ checked s (scoped s)
  at_lacking e = ap (λ a. checked s (a >>= in_scope (schema s))) (sym (refused_at s e))

  -- a plan is what the cells are read as
  sole : (count : ℕ) (st : Stack) (n : Node) → sole_node count st ≡ done n → st ≡ node_tree n ∷ []
  sole count [] n e = let z : ◌≡◌ {A = ℕ} 0 1 = cc in absurd (omega arith)
  sole count (node_tree m ∷ []) n e = let z : m ≡ n = cc in ap (λ k. node_tree k ∷ []) z
  sole count (node_tree m ∷ t ∷ st) n e = let z : ◌≡◌ {A = ℕ} 0 1 = cc in absurd (omega arith)
  sole count (expression_tree x ∷ st) n e = let z : ◌≡◌ {A = ℕ} 0 1 = cc in absurd (omega arith)
  sole count (label_tree x ∷ st) n e = let z : ◌≡◌ {A = ℕ} 0 1 = cc in absurd (omega arith)
  sole count (item_tree x ∷ st) n e = let z : ◌≡◌ {A = ℕ} 0 1 = cc in absurd (omega arith)
  sole count (key_tree x ∷ st) n e = let z : ◌≡◌ {A = ℕ} 0 1 = cc in absurd (omega arith)
  sole count (target_tree x ∷ st) n e = let z : ◌≡◌ {A = ℕ} 0 1 = cc in absurd (omega arith)
  sole count (agg_tree x ∷ st) n e = let z : ◌≡◌ {A = ℕ} 0 1 = cc in absurd (omega arith)
  sole count (row_tree x ∷ st) n e = let z : ◌≡◌ {A = ℕ} 0 1 = cc in absurd (omega arith)

  as_read : (r : Read) (n : Node) → one_plan (cell_count s) r ≡ done n → r ≡ stack (node_tree n ∷ [])
  as_read (lacking p) n e = let z : ◌≡◌ {A = ℕ} 0 1 = cc in absurd (omega arith)
  as_read (stack st) n e = ap stack (sole (cell_count s) st n e)

  reads : (n : Node) → plan_of s ≡ done n → read (text s) 0 (cells_of s) [] ≡ stack (node_tree n ∷ [])
  unfolding plan_of
  reads n e = as_read (read (text s) 0 (cells_of s) []) n e

  -- refusals 9 and 10 of the plan
  module _ (cells : bad_cell s ≡ none) where
    scoped_is : (n : Node) → plan_of s ≡ done n → checked s (in_scope (schema s) n) ≡ checked s (scoped s)
    scoped_is n e = ap (λ a. checked s (a >>= in_scope (schema s))) (sym e)

    pub one_plan_at : none ≡ place (plan_of s) → OnePlan s
    one_plan_at e = let p = planned s e in record { n = p.node; cells_ok = cells; reads = reads p.node p.is }

    -- what the scope's answer says of the plan
    found_outside : (m : ℕ) (node : Node) (o : Option ℕ) (i : ℕ) → outside (schema s) 0 node ≡ o → scope_of o m ≡ Err i → refusal 9 i ≡ checked s (in_scope (schema s) node)
    found_outside m node none i q k = let z : ◌≡◌ {A = ℕ} 0 1 = cc in absurd (omega arith)
    found_outside m node (some x) i q k =
        let z : x ≡ i = cc in
        ap (refusal 9) (sym z) ∙ ap (λ o. checked s (unfound o 9 (unfound (target_repeated 0 node) 10 (done node)))) (sym q)

    pub at_outside : {i : ℕ} {r : Result ℕ ℕ} → none ≡ place (plan_of s) → Judges s r → r ≡ Err i → refusal 9 i ≡ checked s (scoped s)
    at_outside {i} e j h =
        let p = planned s e in
        let k = sym (j p.node cells (reads p.node p.is)) ∙ h in
        found_outside (columns (schema s) p.node) p.node (outside (schema s) 0 p.node) i refl k ∙ scoped_is p.node p.is

    found_within : (m : ℕ) (o : Option ℕ) (n : ℕ) → scope_of o m ≡ Ok n → (o ≡ none) × (m ≡ n)
    found_within m none n k = (refl, cc)
    found_within m (some x) n k = let z : ◌≡◌ {A = ℕ} 0 1 = cc in absurd (omega arith)

    pub at_within : {n : ℕ} {r : Result ℕ ℕ} {a : Numbers} → none ≡ place (plan_of s) → Judges s r → r ≡ Ok n
        → ((node : Node) → plan_of s ≡ done node → outside (schema s) 0 node ≡ none → columns (schema s) node ≡ n → a ≡ checked s (in_scope (schema s) node)) → a ≡ checked s (scoped s)
    at_within {n} e j h f =
        let p = planned s e in
        let k = sym (j p.node cells (reads p.node p.is)) ∙ h in
        let w = found_within (columns (schema s) p.node) (outside (schema s) 0 p.node) n k in
        f p.node p.is w.0 w.1 ∙ scoped_is p.node p.is

    -- of a plan in scope: refusal 10, or success
    in_scope_by : (node : Node) (o : Option ℕ) → outside (schema s) 0 node ≡ none → target_repeated 0 node ≡ o
        → checked s (unfound o 10 (done node)) ≡ checked s (in_scope (schema s) node)
    in_scope_by node o a b = rw (a, b)

    pub at_repeated : {i : ℕ} (r : Found ℕ) → Repeats s r → found r ≡ some i → (node : Node) → plan_of s ≡ done node → outside (schema s) 0 node ≡ none
        → refusal 10 i ≡ checked s (in_scope (schema s) node)
    at_repeated {i} r f h node p o = in_scope_by node (some i) o (sym (f node cells (reads node p)) ∙ h)

    pub at_success : (r : Found ℕ) → Repeats s r → found r ≡ none → (node : Node) → plan_of s ≡ done node → outside (schema s) 0 node ≡ none
        → checked s (done node) ≡ checked s (in_scope (schema s) node)
    at_success r f h node p o = in_scope_by node none o (sym (f node cells (reads node p)) ∙ h)
