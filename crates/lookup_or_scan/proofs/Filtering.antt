-- The Filter over a lookup, and what becomes of a Scan.
use Prim.Native.Nat.{ℕ, ◌≤◌, ◌<◌}
use native.Mathlib.Omega.{arith}
use mathlib.Core.Bool.{Bool, false}
use mathlib.Core.Logic.{⊎_elim}
use mathlib.Core.Option.{Option, none, some}
use mathlib.Core.Path.{◌≡◌, refl, sym, ◌∙◌, subst}
use mathlib.Core.List.{List, ◌∷◌, ◌++◌, append-nil}
use lib.ListN.{length, length-append}
use Rattle.sql.specs.Schema.{Schema}
use Rattle.sql.specs.Expression.{Expression, ands, and_vec, into_column_values}
use Rattle.sql.specs.Plan.{scan, lookup, filter, Node, leaf, over}
use Rattle.sql.specs.Optimizer.{Found, filtered, find_lookup, access, lookup_or_scan}
use Rattle.cells.specs.declared.Cell.{Cell}
use Rattle.cells.specs.Cells.{cell_at}
use Rattle.cells.specs.Room.{Short, Wrote, Seals, Copies}
use Rattle.cells.proofs.Laws.{then, no_room, no_more, fits, full, wrote_up, lt_or_ge}
use Rattle.words.specs.Words.{cell, over_cell, expression_words, optional_words, node_words}
use Rattle.words.specs.Place.{ExpressionHere}
use Rattle.words.proofs.Writing.{plain}
use Rattle.words.proofs.Sizes.{sized_long}
use Rattle.conjuncts.specs.Conjuncts.{Appends}
use Rattle.conjuncts.proofs.Appending.{words_long, appends_vec}
use Rattle.first_lookup.specs.declared.FoundLookup.{FoundLookup}
use Rattle.std.specs.Prelude as code
use Rattle.std.specs.Prelude.{Some, None}
use Rattle.first_lookup.specs.declared.Rest.{Rest}
use Rattle.first_lookup.specs.First.{marks_in, Marks, first_marked, Stands, FindsFirst, Leaves}
use Rattle.first_lookup.proofs.Finding.{first_is}
use Rattle.first_lookup.proofs.Leaving.{remaining_is}
use Rattle.lookup_or_scan.specs.Scan.{Looks, Filters, LooksOrScans}
use Rattle.lookup_or_scan.proofs.Looking.{scan_origin, lookup_words}

-- a Filter's words, by its source's and its predicate's
filter_long : (og : ℕ) (e : Expression) (p : Node) → length (node_words p) ≤ length (node_words (over og (filter e) p))
unfolding node_words
filter_long og e p =
    omega (arith, sized_long (node_words p ++ expression_words e) (cell og (over_cell (filter e))), length-append (node_words p) (expression_words e))

module _ (new : ℕ) {y₀ y y₁ : List ℕ} {at n end : ℕ} (p : Node) (k : length y ≡ length y₀) (k₁ : length y₁ ≡ length y) (a : Wrote y₀ at (node_words p) n y) where
  -- nothing was written behind the node
  unfiltered : (o : Option Expression) → Wrote y n (optional_words o) end y₁ → end ≡ n → Wrote y₀ at (node_words (filtered new o p)) n y₁
  unfiltered none b z = subst (λ (i : ℕ). Wrote y₀ at (node_words p) i y₁) z
      (subst (λ (l : List ℕ). Wrote y₀ at l end y₁) (append-nil (node_words p)) (then k a b))
  unfiltered (some e) b z = ⊎_elim
      (λ (i : length y < n). no_more (omega arith) (filter_long new e p) a)
      (λ (i : n ≤ length y). absurd (omega (arith, wrote_up b (omega arith), words_long e)))
      (lt_or_ge (length y) n)

  -- something was, or there was no room for the node itself
  below_filter : Short y → (o : Option Expression) → Wrote y n (optional_words o) end y₁ → (end ≡ n → ⊥) → {r : ℕ} {y₂ : List ℕ} → Seals y₁ at end (plain new 51) r y₂
      → Wrote y₀ at (node_words (filtered new o p)) r y₂
  unfolding node_words cell
  below_filter short none b z {r} {y₂} s = ⊎_elim
      (λ (i : length y < n).
      let v = full (s y₀ (0 ∷ y₀) (k₁ ∙ k) (no_room (omega arith) (past i))) (omega (arith, sized_long (0 ∷ y₀) (plain new 51))) in
      record { is = λ j. absurd (omega arith); room = λ t j. absurd (let u = a.room t j in omega arith) })
      (λ (i : n ≤ length y). absurd (z (omega (arith, (fits b short (omega arith)).0))))
      (lt_or_ge (length y) n)
    where
      past : length y < n → length y₀ < end
      past i = ⊎_elim (λ (j : length y < end). omega arith) (λ (j : end ≤ length y). absurd (omega (arith, wrote_up b j))) (lt_or_ge (length y) end)
  below_filter short (some e) b z s = s y₀ (node_words p ++ expression_words e) (k₁ ∙ k) (then k a b)

-- ---- the conjuncts that remain

module _ (new : ℕ) (marks : List Bool) {w : List ℕ} {m : ℕ} {y : List ℕ} {n : ℕ} {q : Rest} {y₁ : List ℕ} (k₁ : length y₁ ≡ length y) (l : Leaves new marks false w 0 m y n n q y₁) where
  remained : (schema : Schema) (t : ℕ) → Marks schema t marks → (e : Expression) → ExpressionHere w 0 m e → (f : Found) → find_lookup schema t (ands e) ≡ some f
      → Wrote y n (optional_words (and_vec new f.remaining)) q.at y₁
  remained schema t mk e u f z =
      appends_vec new f.remaining
      (subst (λ (xs : List Expression). Appends new y n n xs q.at y₁) (remaining_is marks (ands e) f (sym (first_is schema t marks mk (ands e)) ∙ z)) (l e u).appends)

  pub none_remains : {at : ℕ} → q.at ≡ n → Filters new marks w m y at n n y₁
  none_remains h schema t mk e u f z y₀ p k a = unfiltered new p k k₁ a (and_vec new f.remaining) (remained schema t mk e u f z) h

  pub some_remain : {at : ℕ} → Short y → (q.at ≡ n → ⊥) → {r : ℕ} {y₂ : List ℕ} → Seals y₁ at q.at (plain new 51) r y₂ → Filters new marks w m y at n r y₂
  some_remain short h s schema t mk e u f z y₀ p k a = below_filter new p k k₁ a short (and_vec new f.remaining) (remained schema t mk e u f z) h s

-- ---- what becomes of the Scan

module _ {w : List ℕ} {m : ℕ} (marks : List Bool) {found : code.Option FoundLookup} (g : FindsFirst marks w 0 m found) where
  stands : {r : code.Option FoundLookup} → found ≡ r → (schema : Schema) (t : ℕ) → Marks schema t marks → (e : Expression) → ExpressionHere w 0 m e
      → Stands w 0 m r (find_lookup schema t (ands e))
  stands {r} q schema t mk e u =
      subst (λ (o : Option Found). Stands w 0 m r o) (sym (first_is schema t marks mk (ands e)))
      (subst (λ (z : code.Option FoundLookup). Stands w 0 m z (first_marked marks (ands e))) q (g e u))

module _ {x : List ℕ} {lo hi : ℕ} {y : List ℕ} {at : ℕ} {w : List ℕ} {m key : ℕ} (columns : List ℕ) {found : code.Option FoundLookup}
    (g : FindsFirst (marks_in key columns) w 0 m found) where
  pub scanned : found ≡ None → {r : ℕ} {y₁ : List ℕ} → Copies x lo hi y at r y₁ → LooksOrScans x lo hi y at w m key columns r y₁
  scanned e {r} {y₁} v schema t mk kk og al q cnf u i =
      go (find_lookup schema t (ands cnf)) (stands (marks_in key columns) g e schema t mk cnf i)
    where
      go : (o : Option Found) → Stands w 0 m None o → Wrote y at (node_words (lookup_or_scan schema t og al q o)) r y₁
      go none s = v (node_words (leaf og (scan t al (some q)))) u.part
      go (some f) s = absurd s

  pub looked_up : {j : FoundLookup} → found ≡ Some j → {k : Cell} → k ≡ cell_at x hi → {n : ℕ} {y₁ : List ℕ} → length y₁ ≡ length y → {new : ℕ} → new ≡ k.origin → Looks k key j.column w j.start j.end y at n y₁
      → {r : ℕ} {y₂ : List ℕ} → Filters new (marks_in key columns) w m y₁ at n r y₂ → LooksOrScans x lo hi y at w m key columns r y₂
  looked_up {j} e ke {n} {y₁} l {new} o h {r} {y₂} v schema t mk kk og al q cnf u i =
      go (find_lookup schema t (ands cnf)) refl (stands (marks_in key columns) g e schema t mk cnf i)
    where
      go : (o : Option Found) → find_lookup schema t (ands cnf) ≡ o → Stands w 0 m (Some j) o → Wrote y at (node_words (lookup_or_scan schema t og al q o)) r y₂
      go none z s = absurd s
      go (some f) z s =
          let p = leaf og (lookup (access schema t f.column_number) t al (into_column_values f.conjunct)) in
          subst (λ (j : ℕ). Wrote y at (node_words (filtered j (and_vec j f.remaining) p)) r y₂) (o ∙ scan_origin og t al q ke u)
          (v schema t mk cnf i f z y p l
          (subst (λ (b : List ℕ). Wrote y at b n y₁) (lookup_words schema og t al q (into_column_values f.conjunct) ke kk s.1.0 u) (h f.conjunct s.1.1)))
