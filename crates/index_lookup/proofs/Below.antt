-- IndexLookup of a chain (crate chain) is the chain over IndexLookup of the node below it.
use Prim.Native.Nat.{ℕ, ◌+◌, ◌-◌, ◌≤◌, ◌<◌}
use native.Mathlib.Omega.{arith}
use mathlib.Core.Path.{◌≡◌, refl, sym, ◌∙◌, subst}
use mathlib.Core.List.{List}
use lib.ListN.{length}
use Rattle.sql.specs.Schema.{Schema}
use Rattle.sql.specs.Expression.{Marked}
use Rattle.sql.specs.Plan.{Other, Node, over}
use Rattle.sql.specs.Answer.{Answer, done, refused, ◌>>=◌}
use Rattle.sql.specs.Room.{IndexLookup}
use Rattle.words.specs.Place.{NodeHere, NodeAt}
use Rattle.chain.specs.Chain.{chain, sizes, GoesDown, ChainAt, Follows}
use Rattle.chain.proofs.Chains.{chain_long, chain_end, each, chain_left}
use Rattle.chain.proofs.Edits.{chain_source, chain_with}
use Rattle.kept.specs.Kept.{Kept, kept}
use Rattle.stream.specs.Stream.{Reading, StreamAt, Streamed, Streams}
use Rattle.stream.proofs.Streams.{written_done, done_long, done_wrote, done_here, streamed_stop}

lookup_chain : (room : ℕ) (schema : Schema) (rest : ℕ) (os : List (Marked Other)) (p : Node)
    → IndexLookup room schema rest (chain os p) ≡ (IndexLookup room schema (rest + sizes os) p >>= λ q. done (chain os q))
unfolding IndexLookup
lookup_chain room schema rest os p = chain_left {P = λ o. Unit {0}} (IndexLookup room schema) (λ rest og o h p. refl) rest os (each (λ o. tt) os) p

-- what a streamed function hands out stands there, if it isn't refused
pub stream_stands : {Lent : Schema → Type 0} {f : ℕ → Schema → ℕ → Node → Answer Node} {x : List ℕ} {lo hi tail : ℕ} {y : List ℕ} {at u : ℕ} {y₁ : List ℕ}
    → StreamAt Lent x lo hi tail y at → Streams Lent f x lo hi tail y at u y₁ → u ≤ length y₁ → NodeAt y₁ at u
stream_stands {f = f} {tail = tail} {y = y} {at = at} {u = u} {y₁ = y₁} g a h =
    go (f g.room g.schema g.rest g.p) (a g.schema g.text g.tables g.lent g.room g.rest g.p g.reading)
  where
    go : (o : Answer Node) → Streamed (Kept g.schema g.text g.tables g.p) y at tail u y₁ o → NodeAt y₁ at u
    go (done q) s = record { p = q; here = done_here q (omega (arith, g.reading.fits)) s }
    go (refused number place) s = absurd (omega (arith, s.is.0))

module _ {x : List ℕ} {n lo hi left end : ℕ} (d : GoesDown x n lo hi left end) where
  by_chain : {schema : Schema} {text : List ℕ} {tables tail : ℕ} {y : List ℕ} {at room rest : ℕ} (P : Node → Type 0)
      → ((os : List (Marked Other)) (p : Node) → NodeHere x lo end p → Reading schema text tables x lo hi tail y at room rest (chain os p) → P (chain os p))
      → (p : Node) → Reading schema text tables x lo hi tail y at room rest p → P p
  by_chain {schema} {text} {tables} {tail} {y} {at} {room} {rest} P f p h =
      let r = d p h.here in
      subst (λ (q : Node). Reading schema text tables x lo hi tail y at room rest q → P q) (sym r.is) (f r.above r.q r.here) h

  module _ {schema : Schema} {text : List ℕ} {tables tail : ℕ} {y : List ℕ} {at room rest : ℕ} (os : List (Marked Other)) (p : Node) (v : NodeHere x lo end p)
      (h : Reading schema text tables x lo hi tail y at room rest (chain os p)) where
    below_reading : Reading schema text tables x lo end (tail + (hi - end)) y at room (rest + sizes os) p
    below_reading =
        record {
          fit = chain_source (kept schema text tables) os p h.fit;
          here = v;
          shares = record { all = h.shares.all; short = h.shares.short; outside = omega (arith, chain_end os p h.here v, h.shares.outside) };
          fits = omega (arith, chain_end os p h.here v, v.part.high, h.fits);
        }

  pub chain_at : {Lent : Schema → Type 0} {tail : ℕ} {y : List ℕ} {at : ℕ} → StreamAt Lent x lo hi tail y at → ChainAt x end hi
  chain_at g = by_chain (λ p. ChainAt x end hi) (λ os p v h. record { low = lo; os = os; p = p; whole = h.here; below = v }) g.p g.reading

  pub below_in : {Lent : Schema → Type 0} {tail : ℕ} {y : List ℕ} {at : ℕ} → StreamAt Lent x lo hi tail y at → end ≤ hi
  below_in g = by_chain (λ p. end ≤ hi) (λ os p v h. omega (arith, chain_end os p h.here v)) g.p g.reading

  pub below_at : {Lent : Schema → Type 0} {tail : ℕ} {y : List ℕ} {at : ℕ} → StreamAt Lent x lo hi tail y at → StreamAt Lent x lo end (tail + (hi - end)) y at
  below_at {Lent} {tail} {y} {at} g =
      by_chain (λ p. StreamAt Lent x lo end (tail + (hi - end)) y at)
      (λ os p v h. record {
        schema = g.schema;
        text = g.text;
        tables = g.tables;
        lent = g.lent;
        room = g.room;
        rest = g.rest + sizes os;
        p = p;
        reading = below_reading os p v h;
        short = g.short;
        short_out = g.short_out;
      })
      g.p g.reading

  module _ {Lent : Schema → Type 0} {tail : ℕ} {y : List ℕ} {at u : ℕ} {y₁ : List ℕ} (a : Streams Lent IndexLookup x lo end (tail + (hi - end)) y at u y₁) where
    -- the node below is refused
    pub chain_stop : length y₁ < u → Streams Lent IndexLookup x lo hi tail y at u y₁
    chain_stop z schema text tables lent room rest p h =
        by_chain (λ p. Streamed (Kept schema text tables p) y at tail u y₁ (IndexLookup room schema rest p))
        (λ os p v h. rw (lookup_chain room schema rest os p)
        (streamed_stop (IndexLookup room schema (rest + sizes os) p) (a schema text tables lent room (rest + sizes os) p (below_reading os p v h)) (λ q. done (chain os q)) z))
        p h

    pub chain_go : length y₁ ≡ length y → {r : ℕ} {y₂ : List ℕ} → length y₂ ≡ length y₁ → Follows x end hi y₁ at u r y₂ → Streams Lent IndexLookup x lo hi tail y at r y₂
    chain_go k₁ {r} {y₂} k₂ f schema text tables lent room rest p h =
        by_chain (λ p. Streamed (Kept schema text tables p) y at tail r y₂ (IndexLookup room schema rest p))
        (λ os p v h. rw (lookup_chain room schema rest os p)
        (go os p v h (IndexLookup room schema (rest + sizes os) p) (a schema text tables lent room (rest + sizes os) p (below_reading os p v h))))
        p h
      where
        go : (os : List (Marked Other)) (p : Node) → NodeHere x lo end p → Reading schema text tables x lo hi tail y at room rest (chain os p)
            → (o : Answer Node) → Streamed (Kept schema text tables p) y at (tail + (hi - end)) u y₁ o
            → Streamed (Kept schema text tables (chain os p)) y at tail r y₂ (o >>= λ q. done (chain os q))
        go os p v h (done q) s =
            let i : at ≤ length y = omega (arith, h.fits) in
            written_done (chain os q) (chain_with (kept schema text tables) os p q h.fit s.is.1.1) (k₂ ∙ k₁)
            (omega (arith, done_long q i s, s.is.0, chain_end os p h.here v, chain_long os q))
            h.shares.short (f.over_node lo os p q h.here v y k₁ (done_wrote q i s k₁))
        go os p v h (refused number place) s = record { is = (omega (arith, f.full s.is.0), s.is.1) }
