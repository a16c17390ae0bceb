-- Laws on the way up through a chain of bare nodes (crate chain), from the node below it on.
use Prim.Native.Nat.{ℕ, ◌+◌, ◌-◌, ◌≤◌, ◌<◌}
use native.Mathlib.Omega.{arith}
use mathlib.Core.Path.{◌≡◌, refl, sym, ◌∙◌, subst}
use mathlib.Core.List.{List}
use lib.ListN.{length}
use Rattle.cells.specs.Cells.{cell_words}
use Rattle.cells.specs.Room.{most_words}
use Rattle.nodes.specs.Own.{OwnStart, SourceCount}
use Rattle.nodes.specs.Columns.{ColumnsAt}
use Rattle.records.specs.Records.{RecordsAt}
use Rattle.chain.specs.Chain.{Bare, no_more, one_more}
use Rattle.chain.proofs.Bare.{bare_in}
use Rattle.stream.specs.Stream.{Finishes}
use Rattle.stream.proofs.Streams.{stream_in}
use Rattle.short_circuit.specs.ShortCircuit.{CircuitsNode, CircuitAt, Circuits, Climbing}
use Rattle.short_circuit.proofs.Pass.{records_at, source_at, over_ready, over_stop, over_circuits}

-- what is left to read behind a node, and behind its source
behind : (end hi tail : ℕ) → end + cell_words ≤ hi → tail + (hi - (end + cell_words)) + (end + cell_words - end) ≡ tail + (hi - end)
behind end hi tail h = omega arith

module _ {records columns x : List ℕ} {lo : ℕ} {y : List ℕ} {at : ℕ} where
  at_as : {hi hi' tail tail' : ℕ} → hi ≡ hi' → tail ≡ tail' → CircuitAt records columns x lo hi tail y at → CircuitAt records columns x lo hi' tail' y at
  at_as {hi} {hi'} {tail} {tail'} e i d =
      subst (λ (k : ℕ). CircuitAt records columns x lo hi' k y at) i (subst (λ (k : ℕ). CircuitAt records columns x lo k tail y at) e d)

  circuits_as : {hi hi' tail tail' n : ℕ} {y' : List ℕ} → hi ≡ hi' → tail ≡ tail' → Circuits records columns x lo hi tail y at n y'
      → Circuits records columns x lo hi' tail' y at n y'
  circuits_as {hi} {hi'} {tail} {tail'} {n} {y'} e i a =
      subst (λ (k : ℕ). Circuits records columns x lo hi' k y at n y') i (subst (λ (k : ℕ). Circuits records columns x lo k tail y at n y') e a)

  module _ {hi tail : ℕ} where
    -- the node below
    pub below_at : {end : ℕ} → Bare x lo hi end → CircuitAt records columns x lo hi tail y at → CircuitAt records columns x lo end (tail + (hi - end)) y at
    below_at (no_more e) d = at_as (sym e) (omega arith) d
    below_at (one_more {end} c own b) d = at_as refl (behind end hi tail (bare_in b)) (source_at (below_at b d) c own)

    -- refused below
    stopped : {end n : ℕ} {y₁ : List ℕ} → Bare x lo hi end → length y₁ < n → Circuits records columns x lo end (tail + (hi - end)) y at n y₁
        → Circuits records columns x lo hi tail y at n y₁
    stopped (no_more e) z a = circuits_as e (omega arith) a
    stopped (one_more {end} c own b) z a = stopped b z (over_stop c own (circuits_as refl (sym (behind end hi tail (bare_in b))) a) z)

module _ {records columns x : List ℕ} {lo end hi tail : ℕ} {y₀ : List ℕ} {at u : ℕ} {y : List ℕ} (g : Climbing records columns x lo end hi tail y₀ at u y) where
  pub climb_stop : length y < u → Circuits records columns x lo hi tail y₀ at u y
  climb_stop z = stopped g.bare z g.below

  pub climb_end : hi ≤ end → Circuits records columns x lo hi tail y₀ at u y
  climb_end h = let k = bare_in g.bare in circuits_as (omega arith) (omega arith) g.below

  pub climb_records : RecordsAt records columns
  climb_records = records_at g.given

  module _ (h : end < hi) where
    -- the next bare node
    by_next : (P : Type 0) → (SourceCount x lo (end + cell_words) 1 → OwnStart x lo (end + cell_words) end → Bare x lo hi (end + cell_words) → P) → P
    by_next P f = go g.bare
      where
        go : Bare x lo hi end → P
        go (no_more e) = absurd (omega arith)
        go (one_more c own b) = f c own b

    pub climb_in : (end + cell_words ≤ hi) × ((hi ≤ length x) × ((length x ≤ most_words) × (tail + (hi - end) ≤ most_words)))
    climb_in =
        by_next ((end + cell_words ≤ hi) × ((hi ≤ length x) × ((length x ≤ most_words) × (tail + (hi - end) ≤ most_words))))
        (λ c own b. (
          bare_in b,
          (
            (stream_in g.given.stream).1,
            (g.given.stream.short, omega (arith, (below_at g.bare g.given).stream.reading.fits, g.given.stream.short_out)),
          ),
        ))

    module _ (z : u ≤ length y) {v : ℕ} {y₁ : List ℕ} (k : length y₁ ≡ length y) (f : Finishes x end (end + cell_words) y at u v y₁) where
      pub climb_ready : ColumnsAt records y₁ at v × ((v + (tail + (hi - (end + cell_words))) ≤ length y₁) × (length y₁ ≤ most_words))
      climb_ready =
          by_next (ColumnsAt records y₁ at v × ((v + (tail + (hi - (end + cell_words))) ≤ length y₁) × (length y₁ ≤ most_words)))
          (λ c own b. over_ready (below_at b g.given) c own g.long (circuits_as refl (sym (behind end hi tail (bare_in b))) g.below) z k f)

      pub climb_next : {n : ℕ} {y₂ : List ℕ} → length y₂ ≡ length y₁ → CircuitsNode records columns y₁ at v (tail + (hi - (end + cell_words))) n y₂
          → Climbing records columns x lo (end + cell_words) hi tail y₀ at n y₂
      climb_next {n} {y₂} i e =
          by_next (Climbing records columns x lo (end + cell_words) hi tail y₀ at n y₂)
          (λ c own b. record {
            bare = b;
            given = g.given;
            long = i ∙ k ∙ g.long;
            below = over_circuits c own (circuits_as refl (sym (behind end hi tail (bare_in b))) g.below) g.long z k f i e;
          })
