-- One law for each step of the walk over a sheet's cells.
use Prim.Native.Nat.{ℕ, zero, suc, ◌+◌, ◌≤◌, ◌<◌}
use native.Mathlib.Omega.{arith}
use native.Mathlib.Numerals.{add-one}
use mathlib.Core.Path.{◌≡◌, refl, sym, ap, ◌∙◌}
use mathlib.Core.Bool.{Bool, true, false, ◌||◌, cond}
use mathlib.Core.List.{List, [], ◌∷◌}
use mathlib.Core.Option.{Option, none, some}
use lib.Dec.{leb, ltb, eqb}
use lib.ListN.{length, get_or, set, replicate, length-set, get_or-replicate}
use lib.Seq.{get_or-set_same, get_or-set_other}
use borrow.Author.Tests.{le-leb, lt-leb, lt-ltb, le-ltb, ltb-true, ltb-false, eqb-true, eqb-false}
use Rattle.sql.specs.Expression.{Marked}
use Rattle.sql.specs.Plan.{Over, filter, other, limit, offset, order, projection, remap, aggregate, Node, leaf, over, join}
use Rattle.sheet.specs.Parts.{tables_at, table_count, cell_count}
use Rattle.sheet.specs.Cell.{Cell, cell}
use Rattle.sheet.specs.Content.{target_cell}
use Rattle.sheet.specs.Scope.{member}
use Rattle.sheet.specs.Check.{text, cells_of}
use Rattle.sheet_laws.specs.Fits.{All, Each, EachOver, ExactCell}
use Rattle.sheet_laws.specs.Plan.{Bytes}
use Rattle.std.specs.Prelude.{Option as Found, Some, None, is_some}
use Rattle.layout.specs.Layout.{found}
use Rattle.node_scope.specs.Own.{is_node, segment}
use Rattle.node_scope.proofs.Steps.{segment_first, segment_all, segment_end}
use Rattle.scope.proofs.Reading.{indexes, stands}
use Rattle.targets.specs.Targets.{numbered, target_number, Untargeted, Repeats}
use Rattle.targets.proofs.Walk.{walk, Below, BelowOver, BelowNode, walked}

-- ---- one cell

module _ (number : ℕ) where
  -- what the code's answer says of the number
  pub has_number : {n : ℕ} → Some n ≡ numbered number → (n ≡ number) × (number < 256)
  has_number {n} e = go (ltb number 256) refl e
    where
      go : (b : Bool) → ltb number 256 ≡ b → Some n ≡ cond b (Some number) None → (n ≡ number) × (number < 256)
      go true p q = (cc, ltb-true number 256 p)
      go false p q = let z : ◌≡◌ {A = ℕ} 0 1 = cc in absurd (omega arith)

  pub has_none : None ≡ numbered number → 256 ≤ number
  has_none e = go (ltb number 256) refl e
    where
      go : (b : Bool) → ltb number 256 ≡ b → None ≡ cond b (Some number) None → 256 ≤ number
      go true p q = let z : ◌≡◌ {A = ℕ} 0 1 = cc in absurd (omega arith)
      go false p q = ltb-false number 256 p

  pub not_some : {r : Found ℕ} → r ≡ numbered number → false ≡ is_some r → 256 ≤ number
  not_some {r = None} e f = has_none e
  not_some {r = Some n} e f = let z : ◌≡◌ {A = ℕ} 0 1 = cc in absurd (omega arith)

-- ---- the walk

-- After i cells: `last` says which numbers the Targets since the last node have, and the rest of the cells has what there was to find.
pub record Walked (s last : List ℕ) (own i : ℕ) : Type 0 where
  pub before : List ℕ
  pub order : own ≤ i
  pub within : i ≤ cell_count s
  pub room : length last ≡ 256
  pub past : (t : ℕ) → t < 256 → get_or last t 0 ≤ i
  pub marks : (t : ℕ) → t < 256 → ltb own (get_or last t 0) ≡ member t before
  pub same : walk i before (segment s i (cell_count s)) ≡ walk 0 [] (cells_of s)

-- ---- before the first Target

module _ (s : List ℕ) where
  pub none_yet : Untargeted s 0
  none_yet = record { within = omega arith; none_before = λ i h. absurd (omega arith) }

  pub none_here : {n number : ℕ} {k : Cell} → Untargeted s n → n < cell_count s → k ≡ cell s n → number ≡ target_number k → 256 ≤ number → Untargeted s (n + 1)
  none_here {n} {number} u h is e g =
      record {
        within = omega arith;
        none_before = λ i j. go i j (eqb i n) refl;
      }
    where
      go : (i : ℕ) → i < n + 1 → (b : Bool) → eqb i n ≡ b → 256 ≤ target_number (cell s i)
      go i j true f = rw (eqb-true i n f, sym is, sym e) g
      go i j false f = u.none_before i (let d = eqb-false i n f in omega arith)

  either_way : (b : Bool) (x y : Option ℕ) → cond b x (cond true x y) ≡ x
  either_way true x y = refl
  either_way false x y = refl

  past_one : (n : ℕ) (k : Cell) (ks : List Cell) → 256 ≤ target_number k → walk n [] (k ∷ ks) ≡ walk (suc n) [] ks
  past_one n k ks h = rw (le-leb 256 (target_number k) h) (either_way (is_node k.tag) (walk (suc n) [] ks) (walk (suc n) (target_number k ∷ []) ks))

  -- Such cells are passed over, and no number has been met.
  passed : (n : ℕ) → Untargeted s n → walk n [] (segment s n (cell_count s)) ≡ walk 0 [] (cells_of s)
  passed zero u = rw (segment_all s) refl
  passed (suc n) u =
      let before : Untargeted s n = record { within = omega (arith, u.within); none_before = λ i j. u.none_before i (omega arith) } in
      ap (λ (i : ℕ). walk (suc n) [] (segment s i (cell_count s))) (sym (add-one n))
      ∙ sym (past_one n (cell s n) (segment s (n + 1) (cell_count s)) (u.none_before n (omega arith)))
      ∙ ap (walk n []) (sym (segment_first s (omega (arith, u.within))))
      ∙ passed n before

  pub untargeted : {n : ℕ} → Untargeted s n → cell_count s ≤ n → none ≡ walk 0 [] (cells_of s)
  untargeted {n} u h = rw (segment_end s u.within h) at (passed n u)

-- ---- from there on

module _ (s : List ℕ) where
  pub start : (from : ℕ) → Untargeted s from → Walked s (replicate 256 0) from from
  start from u =
      record {
        before = [];
        order = omega arith;
        within = u.within;
        room = refl;
        past = λ t h. rw (get_or-replicate {A = ℕ} 256 t 0 0 h) (omega arith);
        marks = λ t h. rw (get_or-replicate {A = ℕ} 256 t 0 0 h) (le-ltb from 0 (omega arith));
        same = passed s from u;
      }

  module _ {last : List ℕ} {own i : ℕ} (w : Walked s last own i) (h : i < cell_count s) {k : Cell} (is : k ≡ cell s i) where
    here : walk i w.before (k ∷ segment s (i + 1) (cell_count s)) ≡ walk 0 [] (cells_of s)
    here = rw is (rw (segment_first s h) at w.same)

    -- the walk goes on at i + 1
    on : (before : List ℕ) → walk (suc i) before (segment s (i + 1) (cell_count s)) ≡ walk 0 [] (cells_of s) → walk (i + 1) before (segment s (i + 1) (cell_count s)) ≡ walk 0 [] (cells_of s)
    on before e = ap (λ (j : ℕ). walk j before (segment s (i + 1) (cell_count s))) (add-one i) ∙ e

    pub past_node : 50 ≤ k.tag → Walked s last (i + 1) (i + 1)
    past_node e =
        record {
          before = [];
          order = omega arith;
          within = omega arith;
          room = w.room;
          past = λ t b. omega (arith, w.past t b);
          marks = λ t b. le-ltb (i + 1) (get_or last t 0) (omega (arith, w.past t b));
          same = on [] (rw (le-leb 50 k.tag e) at here);
        }

    module _ (plain : k.tag < 50) {number : ℕ} (number_of_lem : number ≡ target_number k) where
      at_plain : walk 0 [] (cells_of s) ≡ cond (leb 256 number) (walk (suc i) w.before (segment s (i + 1) (cell_count s))) (cond (member number w.before) (some i) (walk (suc i) (number ∷ w.before) (segment s (i + 1) (cell_count s))))
      at_plain = sym here ∙ rw (lt-leb 50 k.tag plain, number_of_lem) refl

      pub past_other : 256 ≤ number → Walked s last own (i + 1)
      past_other e =
          record {
            before = w.before;
            order = omega arith;
            within = omega arith;
            room = w.room;
            past = λ t b. omega (arith, w.past t b);
            marks = w.marks;
            same = on w.before (sym (rw (le-leb 256 number e) at at_plain));
          }

      module _ (small : number < 256) where
        fresh : walk 0 [] (cells_of s) ≡ cond (member number w.before) (some i) (walk (suc i) (number ∷ w.before) (segment s (i + 1) (cell_count s)))
        fresh = rw (lt-leb 256 number small) at at_plain

        pub met_again : own < get_or last number 0 → some i ≡ walk 0 [] (cells_of s)
        met_again e = sym (rw (sym (w.marks number small) ∙ lt-ltb own (get_or last number 0) e) at fresh)

        marked : (t : ℕ) (e : Bool) → eqb t number ≡ e → t < 256 → ltb own (get_or (set last number (i + 1)) t 0) ≡ (e || member t w.before)
        marked t true e b =
            let f : t ≡ number = eqb-true t number e in
            rw (f, get_or-set_same last number (i + 1) 0 (let r = w.room in omega arith)) (lt-ltb own (i + 1) (let o = w.order in omega arith))
        marked t false e b = rw (get_or-set_other last number t (i + 1) 0 (eqb-false t number e)) (w.marks t b)

        stamped : (t : ℕ) (e : Bool) → eqb t number ≡ e → t < 256 → get_or (set last number (i + 1)) t 0 ≤ i + 1
        stamped t true e b =
            let f : t ≡ number = eqb-true t number e in
            rw (f, get_or-set_same last number (i + 1) 0 (let r = w.room in omega arith)) (omega arith)
        stamped t false e b = rw (get_or-set_other last number t (i + 1) 0 (eqb-false t number e)) (omega (arith, w.past t b))

        pub past_target : get_or last number 0 ≤ own → Walked s (set last number (i + 1)) own (i + 1)
        past_target e =
            record {
              before = number ∷ w.before;
              order = omega arith;
              within = omega arith;
              room = length-set last number (i + 1) ∙ w.room;
              past = λ t b. stamped t (eqb t number) refl b;
              marks = λ t b. marked t (eqb t number) refl b;
              same = on (number ∷ w.before) (sym (rw (sym (w.marks number small) ∙ le-ltb own (get_or last number 0) e) at fresh));
            }

  pub ended : {last : List ℕ} {own i : ℕ} → Walked s last own i → cell_count s ≤ i → none ≡ walk 0 [] (cells_of s)
  ended w h = rw (segment_end s w.within h) at w.same

-- ---- what reading a sheet's cells gives

module _ (text : List ℕ) (bytes tables : ℕ) where
  below : (ts : List (Marked (Option ℕ))) → All (λ t. ExactCell text bytes tables (target_cell t.0)) ts → Below ts
  below [] e = tt
  below ((none, og) ∷ ts) e = below ts e.1
  below ((some t, og) ∷ ts) e = (e.0.0, below ts e.1)

  below_over : (o : Over) → EachOver (ExactCell text bytes tables) o → BelowOver o
  below_over (filter x) e = tt
  below_over (other (limit m)) e = tt
  below_over (other (offset m)) e = tt
  below_over (other (order ks)) e = tt
  below_over (other (projection is)) e = tt
  below_over (other (remap ts)) e = below ts e.0
  below_over (other (aggregate es gs)) e = tt

  below_node : (n : Node) → Each (ExactCell text bytes tables) n → BelowNode n
  below_node (leaf og l) e = tt
  below_node (over og o n) e = (below_node n e.0, below_over o e.1)
  below_node (join og outer j l r) e = (below_node l e.0, below_node r e.1.0)

-- An answer of the walk over a sheet's cells is the one asked for.
pub repeats : (s : List ℕ) (r : Found ℕ) → Bytes s → found r ≡ walk 0 [] (cells_of s) → Repeats s r
repeats s r b e n ok reads =
    let d = stands s b n ok reads in
    e
    ∙ ap (walk 0 []) (sym d.cells_are)
    ∙ walked n (indexes (text s) (tables_at s) (table_count s) n d.exact) (below_node (text s) (tables_at s) (table_count s) n d.exact)
