-- Each pass, and all five in turn, keep what the checks ask of a plan, and its number of columns.
use Rattle.std.specs.Prelude.{ℕ, zero, suc, ◌≡◌, refl, List, [], ◌∷◌, length}
use Rattle.std.proofs.Common.{◌∙◌, subst}
use Rattle.std.proofs.Math.Option.{none}
use Rattle.sql.specs.Schema.{Schema}
use Rattle.sql.specs.Plan.{Node, columns}
use Rattle.sql.specs.Answer.{done, refused}
use Rattle.sql.specs.Optimizer.{Optimizer, pass_of, in_turn}
use Rattle.sql.specs.Optimizer as Optimizer
use Rattle.sheet.specs.Scope.{outside, target_repeated}
use Rattle.sheet_laws.specs.Fits.{All, Fits}
use Rattle.room.specs.Done.{not_done, done_same, after}
use Rattle.sound.specs.Lists.{get_d_of}
use Rattle.sound.specs.Answers.{answer_is}
use Rattle.sound.specs.Sound.{Sound, Emits, Named}
use Rattle.sound.specs.Checks.{passes_sound, sound_fits, sound_scope, sound_targets}
use Rattle.sound.specs.Folding.{folding_keeps}
use Rattle.sound.specs.Pushdown.{pushdown_keeps}
use Rattle.sound.specs.Lookup.{lookup_keeps}
use Rattle.sound.specs.Hash.{hash_keeps}
use Rattle.sound.specs.Circuit.{circuit_keeps}
use Rattle.sound.specs.Keeps.{Keeps, keeps_next}

-- What the checks ask of a plan in a sheet with this text, so many tables and this schema: what its cells say can be written (refusal 6), it is in
-- scope (9), and no Target is repeated (10).
pub record PassesChecks (schema : Schema) (text : List ℕ) (tables : ℕ) (n : Node) : Type 0 where
  pub fits : Fits text tables n
  pub in_scope : outside schema 0 n ≡ none
  pub targets : target_repeated 0 n ≡ none

-- ---- optimizers that keep a property, one of a list by its number, and the list in turn

abbrev Preserves : (Node → Type 0) → Optimizer → Type 0
Preserves Q f = (n m : Node) → f n ≡ done m → Q n → Q m

one_preserves : (Q : Node → Type 0) (fs : List Optimizer) → All (Preserves Q) fs → (k : ℕ) → Preserves Q (pass_of fs k)
one_preserves Q fs ps zero n m h q = not_done h
one_preserves Q fs ps (suc k) n m h q = get_d_of (Preserves Q) fs k (λ n. refused 1 0) ps (λ n m h q. not_done h) n m h q

in_turn_preserves : (Q : Node → Type 0) (fs : List Optimizer) → All (Preserves Q) fs → Preserves Q (in_turn fs)
in_turn_preserves Q [] ps n m h q = subst Q (done_same h) q
in_turn_preserves Q (f ∷ fs) ps n m h q =
    let a = after (f n) (in_turn fs) m h in
    in_turn_preserves Q fs ps.1 a.of m a.second (ps.0 n a.of a.first q)

module _ (schema : Schema) (text : List ℕ) (tables : ℕ) (named : Named schema (length text)) where
  -- Sound plans with w columns stay such.
  module _ (w : ℕ) where
    abbrev E : Node → Type 0
    E = Emits schema text tables w

    folding : Preserves E (Optimizer.ConstantFolding 0)
    folding n m h q =
        let x = answer_is (Emits schema text tables (columns schema n)) (Optimizer.ConstantFolding 0 n) m (folding_keeps schema text tables 0 n q.0) h in
        (x.0, x.1 ∙ q.1)

    kept : (f : Node → Node) → Keeps schema text tables f → Preserves E (λ n. done (f n))
    kept f k n m h q = subst E (done_same h) (keeps_next schema text tables f k n q)

    all_preserve : All (Preserves E) (Optimizer.OPTIMIZERS schema)
    all_preserve = (
      folding,
      (
        kept (Optimizer.FilterPushdown schema) (pushdown_keeps schema text tables),
        (
          kept (Optimizer.IndexLookup schema) (lookup_keeps schema text tables),
          (kept (Optimizer.HashJoin schema) (hash_keeps schema text tables), (kept (Optimizer.ShortCircuit schema) (circuit_keeps schema text tables named), tt)),
        ),
      ),
    )

  -- ---- in the words of the checks

  abbrev pub Passing : Node → Type 0
  Passing = PassesChecks schema text tables

  emits : (n : Node) → Passing n → Emits schema text tables (columns schema n) n
  emits n p = (passes_sound schema text tables n 0 p.fits p.in_scope p.targets, refl)

  passes : (m : Node) → Sound schema text tables m → Passing m
  passes m x =
      record {
        fits = sound_fits schema text tables m x;
        in_scope = sound_scope schema text tables m 0 x;
        targets = sound_targets schema text tables m 0 x;
      }

  pub pass_keeps : (k : ℕ) (n m : Node) → Optimizer.pass schema k n ≡ done m → Passing n → Passing m × (columns schema m ≡ columns schema n)
  pass_keeps k n m h p =
      let w = columns schema n in
      let x = one_preserves (E w) (Optimizer.OPTIMIZERS schema) (all_preserve w) k n m h (emits n p) in
      (passes m x.0, x.1)

  pub optimize_keeps : (n m : Node) → Optimizer.optimize schema n ≡ done m → Passing n → Passing m × (columns schema m ≡ columns schema n)
  optimize_keeps n m h p =
      let w = columns schema n in
      let x = in_turn_preserves (E w) (Optimizer.OPTIMIZERS schema) (all_preserve w) n m h (emits n p) in
      (passes m x.0, x.1)
