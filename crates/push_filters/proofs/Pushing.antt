-- Laws on a pass in place (crate kept), for the functions of FilterPushdown: what is asked for, the slices, and one pass, or step of one, after another.
use Prim.Native.Nat.{ℕ, ◌-◌, ◌≤◌, ◌<◌}
use native.Mathlib.Omega.{arith}
use mathlib.Core.Path.{◌≡◌, refl, sym, ◌∙◌, subst}
use mathlib.Core.List.{List}
use lib.ListN.{length}
use Rattle.sql.specs.Schema.{Schema}
use Rattle.sql.specs.Plan.{Node}
use Rattle.sql.specs.Answer.{Answer, done, refused, ◌>>=◌}
use Rattle.words.specs.Place.{NodeAt}
use Rattle.edit.specs.Edit.{Holds, Shares, Held, Left}
use Rattle.edit.proofs.Edits.{held_at, held_in, held_next, edit_stop, edit_go}
use Rattle.kept.specs.Kept.{Kept, kept}
use Rattle.kept.specs.Pass.{PassAt, Passes}
use Rattle.push_filters.specs.Buffers.{Buffers}

-- ---- what is asked for, in the words of crate edit

module _ {records x : List ℕ} {t lo tail : ℕ} (g : PassAt records x t lo tail) where
  pub pass_at : NodeAt x lo (t - tail)
  pass_at = held_at g.held

  pub pass_in : (tail ≤ t) × (t ≤ length x)
  pass_in = held_in g.held

  -- the same schema, after an edit, or for another node of the plan
  pub pass_also : {x₁ : List ℕ} {u low rest : ℕ} → length x₁ ≡ length x → Held (Kept g.schema g.text g.tables) x₁ u low rest → PassAt records x₁ u low rest
  pass_also e h = record { schema = g.schema; text = g.text; tables = g.tables; given = g.given; held = h; short = omega (arith, g.short) }

  -- after an edit that found room
  pub pass_next : (f : ℕ → Schema → ℕ → Node → Answer Node) {u : ℕ} {x₁ : List ℕ} → Passes f records x t lo tail u x₁ → u ≤ length x₁ → length x₁ ≡ length x
      → PassAt records x₁ u lo tail
  pass_next f a z e =
      pass_also e (held_next (kept g.schema g.text g.tables) (λ room. f room g.schema) (a g.schema g.text g.tables g.given) z e g.held)

-- the slices after a call
module _ {x y z w x₁ y₁ z₁ w₁ : List ℕ} (b : Buffers x y z w) where
  pub buffers_next : length x₁ ≡ length x → length y₁ ≡ length y → length z₁ ≡ length z → length w₁ ≡ length w → Buffers x₁ y₁ z₁ w₁
  buffers_next i j k l = record { first = j ∙ b.first ∙ sym i; second = k ∙ b.second ∙ sym i; third = l ∙ b.third ∙ sym i }

-- ---- one pass, or step, after another
module _ (f g : ℕ → Schema → ℕ → Node → Answer Node) {records x : List ℕ} {t lo tail u : ℕ} {x₁ : List ℕ} (a : Passes f records x t lo tail u x₁) where
  pub passes_stop : length x₁ < u → Passes (λ room schema rest p. f room schema rest p >>= g room schema rest) records x t lo tail u x₁
  passes_stop z schema text tables given =
      edit_stop (kept schema text tables) (λ room. f room schema) (λ room. g room schema) (a schema text tables given) z

  pub passes_go : u ≤ length x₁ → length x₁ ≡ length x → {r : ℕ} {x₂ : List ℕ} → Passes g records x₁ u lo tail r x₂
      → Passes (λ room schema rest p. f room schema rest p >>= g room schema rest) records x t lo tail r x₂
  passes_go z e b schema text tables given =
      edit_go (kept schema text tables) (λ room. f room schema) (λ room. g room schema) (a schema text tables given) z e (b schema text tables given)

-- one that is equal to another for each node that stands there
pub passes_as : (f g : ℕ → Schema → ℕ → Node → Answer Node) {records x : List ℕ} {t lo tail r : ℕ} {x' : List ℕ}
    → ((room : ℕ) (schema : Schema) (rest : ℕ) (pre post : List ℕ) (p : Node) → Shares x lo tail room rest → Holds x t lo tail pre post p
    → f room schema rest p ≡ g room schema rest p) → Passes f records x t lo tail r x' → Passes g records x t lo tail r x'
passes_as f g {r = r} {x' = x'} e a schema text tables given room rest s pre post p k h =
    subst (λ (o : Answer Node). Left (Kept schema text tables p) x' r pre post o) (e room schema rest pre post p s h) (a schema text tables given room rest s pre post p k h)

pub bind_assoc : (a : Answer Node) (f g : Node → Answer Node) → a >>= f >>= g ≡ a >>= (λ q. f q >>= g)
bind_assoc (done q) f g = refl
bind_assoc (refused number place) f g = refl
