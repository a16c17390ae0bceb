-- What the passes that edit in place carry of their plans: a sound plan with as many columns as the one whose place it takes.
use Rattle.std.specs.Prelude.{ℕ, ◌≤◌, ◌<◌, ◌≡◌, refl, List, [], ◌∷◌}
use Rattle.std.proofs.Common.{arith, ◌∙◌}
use Rattle.std.proofs.Math.Option.{Option, none, some}
use Rattle.sql.specs.Schema.{Schema}
use Rattle.sql.specs.Expression.{Marked}
use Rattle.sql.specs.Plan.{Over, filter, other, limit, offset, order, projection, remap, aggregate, Node, leaf, over, join, remap_columns, columns}
use Rattle.sheet_laws.specs.Fits.{All, Optional}
use Rattle.sound.specs.Sound.{SoundOver, Sound, Emits}
use Rattle.sound.specs.Keeps.{over_keeps, join_keeps}
use Rattle.nodes.specs.Columns.{NarrowOver, Narrow}
use Rattle.edit.specs.Edit.{Inherited}

targets_narrow : (ts : List (Marked (Option ℕ))) → All (λ t. Optional (λ c. c < 256) t.0) ts → remap_columns ts ≤ 256
targets_narrow [] h = omega arith
targets_narrow ((none, og) ∷ ts) h = targets_narrow ts h.1
targets_narrow ((some t, og) ∷ ts) h = omega (arith, h.0, targets_narrow ts h.1)

module _ (schema : Schema) (text : List ℕ) (tables : ℕ) where
  abbrev pub Kept : Node → Node → Type 0
  Kept p q = Emits schema text tables (columns schema p) q

  pub kept : Inherited Kept
  kept =
      record {
        end = λ p q k. (k.0, refl);
        through = λ p q r k l. (l.0, l.1 ∙ k.1);
        source = λ og o n k. (k.0.0, refl);
        with_source = λ og o n m k l. over_keeps schema text tables og o n m k.0.1 l;
        left = λ og outer j l r k. (k.0.0, refl);
        right = λ og outer j l r k. (k.0.1.0, refl);
        with_sources = λ og outer j l r m n k a b. join_keeps schema text tables og outer j (columns schema l) (columns schema r) m n k.0.1.1 a b;
      }

  over_narrow : (n : ℕ) (o : Over) → SoundOver schema text tables n o → NarrowOver o
  over_narrow n (filter e) h = tt
  over_narrow n (other (limit a)) h = tt
  over_narrow n (other (offset a)) h = tt
  over_narrow n (other (order ks)) h = tt
  over_narrow n (other (projection is)) h = tt
  over_narrow n (other (remap ts)) h = targets_narrow ts h.0
  over_narrow n (other (aggregate es gs)) h = tt

  -- A sound plan's columns can be counted (crate nodes, Columns).
  pub sound_narrow : (p : Node) → Sound schema text tables p → Narrow p
  sound_narrow (leaf og l) h = tt
  sound_narrow (over og o n) h = (over_narrow (columns schema n) o h.1, sound_narrow n h.0)
  sound_narrow (join og outer j l r) h = (sound_narrow l h.0, sound_narrow r h.1.0)
