-- A pass that leaves the plan as it is needn't be run.
use Prim.Native.Nat.{ℕ, ◌+◌, ◌*◌, ◌≤◌}
use native.Mathlib.Omega.{arith}
use mathlib.Core.Bool.{Bool, false}
use mathlib.Core.Path.{◌≡◌, sym, ap, ◌∙◌, subst}
use mathlib.Core.List.{List}
use lib.ListN.{length}
use lib.Seq.{length-take-le}
use Rattle.sql.specs.Schema.{Schema}
use Rattle.sql.specs.Plan.{Node, node_size}
use Rattle.sql.specs.Answer.{Answer, done, ◌>>=◌}
use Rattle.sql.specs.Optimizer.{in_turn}
use Rattle.sql.specs.Room
use Rattle.words.specs.Place.{NodeHere, NodeAt}
use Rattle.words.proofs.Sizes.{words_long}
use Rattle.stream.proofs.Streams.{top_here}
use Rattle.kept.specs.Kept.{Kept}
use Rattle.passes.specs.Passes.{PlanIn, PlanAt, Leaves, Runs, Passed}
use Rattle.predicates.specs.Predicates.{HasPredicate}
use Rattle.predicates.proofs.Idle.{push_idle, lookup_idle, hash_idle}
use Rattle.optimizer.specs.Settled.{from_pushdown, from_lookup, from_hash}

pub plan_there : {G : Schema → List ℕ → Type 0} {x : List ℕ} {t : ℕ} → PlanAt G x t → NodeAt x 0 t
plan_there {G} {x} {t} at = record { p = at.p; here = top_here x t at.p at.plan.words_are at.plan.inside }

module _ {schema : Schema} {text : List ℕ} {tables : ℕ} {x : List ℕ} {t room : ℕ} {p : Node} (at : PlanIn schema text tables x t room p) where
  here : NodeHere x 0 t p
  here = top_here x t p at.words_are at.inside

  pub in_room : 0 + node_size p ≤ room
  in_room = omega (arith, at.all, at.inside, ap length at.words_are, length-take-le t x at.inside, words_long p)

-- What one function leaves of a plan, another leaves that is the same on it.
pub runs_same : {G : Schema → List ℕ → Type 0} (f g : ℕ → Schema → Node → Answer Node) {x : List ℕ} {t : ℕ} {d : List ℕ} {r : Passed}
    → ((schema : Schema) (text : List ℕ) (tables room : ℕ) (p : Node) → PlanIn schema text tables x t room p → f room schema p ≡ g room schema p)
    → Runs G f x t d r → Runs G g x t d r
runs_same f g {d = d} {r = r} e h schema text tables room p given at =
    subst (λ (a : Answer Node). Leaves (Kept schema text tables p) d a r) (e schema text tables room p at) (h schema text tables room p given at)

-- FilterPushdown, IndexLookup and HashJoin, of a plan without a predicate
pub without_predicate : {G : Schema → List ℕ → Type 0} {x : List ℕ} {t : ℕ} {d : List ℕ} {r : Passed} {b : Bool} → HasPredicate x t b → b ≡ false
    → Runs G (λ room schema p. Room.ShortCircuit room schema 0 p >>= λ m. done m) x t d r → Runs G (λ room schema p. in_turn (from_pushdown room schema) p) x t d r
without_predicate asked free h =
    runs_same (λ room schema p. Room.ShortCircuit room schema 0 p >>= λ m. done m) (λ room schema p. in_turn (from_pushdown room schema) p)
    (λ schema text tables room p at.
    let e = sym (asked p (here at)) ∙ free in
    sym (ap (λ (a : Answer Node). a >>= in_turn (from_lookup room schema)) (push_idle room schema 0 p e (in_room at))
    ∙ ap (λ (a : Answer Node). a >>= in_turn (from_hash room schema)) (lookup_idle room schema 0 p e (in_room at))
    ∙ ap (λ (q : Node). Room.ShortCircuit room schema 0 q >>= λ m. done m) (hash_idle schema p e)))
    h
