-- Passes one after the other: what the first leaves, the next works on.
use Rattle.std.specs.Prelude.{Ok, Err}
use Prim.Native.Nat.{ℕ, ◌*◌, ◌≤◌}
use native.Mathlib.Omega.{arith}
use mathlib.Core.Path.{◌≡◌, refl, sym, ap, ◌∙◌, subst}
use mathlib.Core.List.{List}
use lib.ListN.{length}
use Rattle.sql.specs.Schema.{Schema}
use Rattle.sql.specs.Plan.{Node}
use Rattle.sql.specs.Answer.{Answer, done, refused, ◌>>=◌}
use Rattle.kept.specs.Kept.{Kept, kept}
use Rattle.passes.specs.declared.Refused.{Refused}
use Rattle.passes.specs.Passes.{PlanIn, PlanAt, Left, Leaves, Runs, Passed}
use Rattle.cells.specs.Room.{Short, Copies}
use Rattle.passes.proofs.Running.{after, stop, copied}

abbrev pub Gives : (G H : Schema → List ℕ → Type 0) → Type 0
Gives G H = (schema : Schema) (text : List ℕ) → G schema text → H schema text

-- With less lent.
pub plan_with : {G H : Schema → List ℕ → Type 0} → Gives G H → {x : List ℕ} {t : ℕ} → PlanAt G x t → PlanAt H x t
plan_with give at =
    record {
      schema = at.schema;
      text = at.text;
      tables = at.tables;
      room = at.room;
      p = at.p;
      given = give at.schema at.text at.given;
      plan = at.plan;
      short = at.short;
    }

pub runs_with : {G H : Schema → List ℕ → Type 0} → Gives G H → (f : ℕ → Schema → Node → Answer Node) (x : List ℕ) (t : ℕ) (d : List ℕ) (r : Passed)
    → Runs H f x t d r → Runs G f x t d r
runs_with give f x t d r h schema text tables room p g at = h schema text tables room p (give schema text g) at

-- A plan in y, of the same schema, that can be worked on.
next_at : (G : Schema → List ℕ → Type 0) (y : List ℕ) (n : ℕ) {x : List ℕ} {t : ℕ} (at : PlanAt G x t) → length y ≡ length x → (answer : Answer Node)
    → Left (Kept at.schema at.text at.tables at.p) y answer (Ok n) → PlanAt G y n
next_at G y n at alike (done q) h =
    record {
      schema = at.schema;
      text = at.text;
      tables = at.tables;
      room = at.room;
      p = q;
      given = at.given;
      plan =
          record {
            fit = (kept at.schema at.text at.tables).end at.p q h.1.1;
            words_are = h.1.0;
            inside = h.0;
            all = alike ∙ at.plan.all;
          };
      short = omega (arith, at.short, alike);
    }
next_at G y n at alike (refused number place) h = absurd h

module _ {G H : Schema → List ℕ → Type 0} (give : Gives G H) (f : ℕ → Schema → Node → Answer Node) (x : List ℕ) (t : ℕ) (y : List ℕ) where
  pub runs_stop : (why : Refused) (r : Passed) → r ≡ Err why → Runs H f x t y r → (g : ℕ → Schema → Node → Answer Node) (d : List ℕ)
      → Runs G (λ room schema p. f room schema p >>= g room schema) x t d (Err why)
  runs_stop why r e h g d schema text tables room p k at =
      stop schema text tables p (g room schema) (subst (Leaves (Kept schema text tables p) y (f room schema p)) e (h schema text tables room p (give schema text k) at))

  -- What the pass leaves can be worked on.
  pub plan_next : (n : ℕ) (r : Passed) → r ≡ Ok n → Runs H f x t y r → length y ≡ length x → PlanAt G x t → PlanAt G y n
  plan_next n r e h alike at =
      next_at G y n at alike (f at.room at.schema at.p)
      (subst (Leaves (Kept at.schema at.text at.tables at.p) y (f at.room at.schema at.p)) e
      (h at.schema at.text at.tables at.room at.p (give at.schema at.text at.given) at.plan)).is

  pub runs_then : (n : ℕ) (r : Passed) → r ≡ Ok n → Runs H f x t y r → length y ≡ length x → {I : Schema → List ℕ → Type 0} → Gives G I
      → (g : ℕ → Schema → Node → Answer Node) (d : List ℕ) (r' : Passed) → Runs I g y n d r'
      → Runs G (λ room schema p. f room schema p >>= g room schema) x t d r'
  runs_then n r e h alike give' g d r' k schema text tables room p given at =
      after schema text tables p (g room schema) (alike ∙ at.all)
      (subst (Leaves (Kept schema text tables p) y (f room schema p)) e (h schema text tables room p (give schema text given) at))
      (λ q next. k schema text tables room q (give' schema text given) next)

-- nothing more in turn
end_left : (Fit : Node → Type 0) (d : List ℕ) (answer : Answer Node) (r : Passed) → Left Fit d answer r → Left Fit d (answer >>= λ q. done q) r
end_left Fit d (done q) r h = h
end_left Fit d (refused number place) r h = h

pub runs_end : {G : Schema → List ℕ → Type 0} (f : ℕ → Schema → Node → Answer Node) (x : List ℕ) (t : ℕ) (d : List ℕ) (r : Passed) → Runs G f x t d r
    → Runs G (λ room schema p. f room schema p >>= λ q. done q) x t d r
runs_end f x t d r h schema text tables room p g at =
    record { is = end_left (Kept schema text tables p) d (f room schema p) r (h schema text tables room p g at).is }

-- What a pass leaves in x' is copied to d, or it is refused all the same.
pub runs_copied : {G : Schema → List ℕ → Type 0} (f : ℕ → Schema → Node → Answer Node) (x : List ℕ) (t : ℕ) (x' y : List ℕ) (n m : ℕ) (r : Passed) (d : List ℕ)
    → r ≡ Ok n → Runs G f x t x' r → Short y → length y ≡ length x' → length d ≡ length y → Copies x' 0 n y 0 m d → Runs G f x t d (Ok m)
runs_copied f x t x' y n m r d e h short alike same c schema text tables room p g at =
    copied schema text tables p x' y n m d short alike same c (subst (Leaves (Kept schema text tables p) x' (f room schema p)) e (h schema text tables room p g at))

elsewhere : (Fit : Node → Type 0) (x' d : List ℕ) (why : Refused) (answer : Answer Node) → Left Fit x' answer (Err why) → Left Fit d answer (Err why)
elsewhere Fit x' d why (done q) h = h
elsewhere Fit x' d why (refused k i) h = h

pub runs_refused : {G : Schema → List ℕ → Type 0} (f : ℕ → Schema → Node → Answer Node) (x : List ℕ) (t : ℕ) (x' : List ℕ) (why : Refused) (r : Passed) (d : List ℕ)
    → r ≡ Err why → Runs G f x t x' r → Runs G f x t d (Err why)
runs_refused f x t x' why r d e h schema text tables room p g at =
    record {
      is = elsewhere (Kept schema text tables p) x' d why (f room schema p)
          (subst (Leaves (Kept schema text tables p) x' (f room schema p)) e (h schema text tables room p g at)).is;
    }
