-- From what each pass leaves to what the five leave in turn.
use Rattle.std.specs.Prelude.{Ok, Err}
use Prim.Native.Nat.{ℕ, ◌+◌, ◌*◌, ◌≤◌, ◌<◌}
use native.Mathlib.Omega.{arith}
use mathlib.Core.Path.{◌≡◌, refl, sym, ap, ◌∙◌, subst}
use mathlib.Core.List.{List, [], ◌++◌, append-nil}
use lib.ListN.{length, take}
use lib.Seq.{length-take-le}
use Rattle.sql.specs.Schema.{Schema}
use Rattle.sql.specs.Plan.{Node}
use Rattle.sql.specs.Answer.{Answer, done, refused, ◌>>=◌}
use Rattle.words.specs.Words.{node_words}
use Rattle.edit.specs.Edit as Edit
use Rattle.kept.specs.Kept.{Kept, kept}
use Rattle.kept.specs.Pass.{PassAt, Passes}
use Rattle.cells.specs.Cells.{cell_words}
use Rattle.cells.specs.Room.{Short, most_words, Copies}
use Rattle.cells.proofs.Laws.{fits}
use Rattle.records.specs.Records.{Tables}
use Rattle.stream.specs.Stream.{StreamAt, StreamsTo, Streamed, Streams}
use Rattle.stream.proofs.Streams.{top_here, top_reading, top_at}
use Rattle.constant_folding.specs.Plans as Folding
use Rattle.sql.specs.Optimizer.{ConstantFolding}
use Rattle.sql.specs.Room.{ShortCircuit}
use Rattle.short_circuit.specs.ShortCircuit.{CircuitAt, Circuits}
use Rattle.fold_operator.specs.Left.{Folded}
use Rattle.passes.specs.declared.Refused.{Refused}
use Rattle.passes.specs.declared.Refused.TheVariants.{Failed}
use Rattle.passes.specs.Passes.{Lent, PlanIn, PlanAt, Left, Leaves, Ends, Runs, ForFolding, Passed}

module _ (Fit : Node → Type 0) where
  -- of a pass that edits in place, and of one that is streamed
  edit_left : (d : List ℕ) (n : ℕ) (answer : Answer Node) → Edit.Leaves Fit d n [] [] answer → (r : Passed) → Ends d n r → Left Fit d answer r
  edit_left d n (done q) h (Ok m) e =
      (omega (arith, e.0, e.1), (ap (λ (i : ℕ). take i d) e.1 ∙ h.1.0 ∙ append-nil (node_words q), h.1.1))
  edit_left d n (done q) h (Err why) e = omega (arith, h.0, e.0)
  edit_left d n (refused number place) h (Ok m) e = omega (arith, h.0, e.0)
  edit_left d n (refused number place) h (Err why) e = (omega (arith, h.1.0, e.1.0), omega (arith, h.1.1, e.1.1))

  pub edited : {d : List ℕ} {n : ℕ} {answer : Answer Node} {r : Passed} → Edit.Left Fit d n [] [] answer → Ends d n r → Leaves Fit d answer r
  edited {d} {n} {answer} {r} h e = record { is = edit_left d n answer h.is r e }

  stream_left : (y d : List ℕ) (n : ℕ) (answer : Answer Node) → StreamsTo Fit y 0 0 n d answer → (r : Passed) → Ends d n r → Left Fit d answer r
  stream_left y d n (done q) h (Ok m) e =
      (omega (arith, e.0, e.1), (ap (λ (i : ℕ). take i d) e.1 ∙ h.1.0, h.1.1))
  stream_left y d n (done q) h (Err why) e = omega (arith, h.0, e.0)
  stream_left y d n (refused number place) h (Ok m) e = omega (arith, h.0, e.0)
  stream_left y d n (refused number place) h (Err why) e = (omega (arith, h.1.0, e.1.0), omega (arith, h.1.1, e.1.1))

  pub streamed : {y d : List ℕ} {n : ℕ} {answer : Answer Node} {r : Passed} → Streamed Fit y 0 0 n d answer → Ends d n r → Leaves Fit d answer r
  streamed {y} {d} {n} {answer} {r} h e = record { is = stream_left y d n answer h.is r e }

-- ---- in turn

-- A plan that a pass leaves can be worked on, and what the next makes of it can take the first one's place.
module _ (schema : Schema) (text : List ℕ) (tables : ℕ) (p : Node) where
  after_left : (y : List ℕ) (n : ℕ) (d : List ℕ) (r : Passed) (g : Node → Answer Node) (room : ℕ) → length y ≡ cell_words * room → (answer : Answer Node)
      → Left (Kept schema text tables p) y answer (Ok n)
      → ((q : Node) → PlanIn schema text tables y n room q → Leaves (Kept schema text tables q) d (g q) r) → Left (Kept schema text tables p) d (answer >>= g) r
  after_left y n d r g room e (done q) h k =
      onward (g q) r
      (k q (record { fit = (kept schema text tables).end p q h.1.1; words_are = h.1.0; inside = h.0; all = e })).is
    where
      onward : (a : Answer Node) (r : Passed) → Left (Kept schema text tables q) d a r → Left (Kept schema text tables p) d a r
      onward (done m) (Ok i) l = (l.0, (l.1.0, (kept schema text tables).through p q m h.1.1 l.1.1))
      onward (done m) (Err why) l = l
      onward (refused number place) (Ok i) l = l
      onward (refused number place) (Err why) l = l
  after_left y n d r g room e (refused number place) h k = absurd h

  pub after : {y : List ℕ} {n : ℕ} {d : List ℕ} {r : Passed} {answer : Answer Node} (g : Node → Answer Node) {room : ℕ} → length y ≡ cell_words * room
      → Leaves (Kept schema text tables p) y answer (Ok n)
      → ((q : Node) → PlanIn schema text tables y n room q → Leaves (Kept schema text tables q) d (g q) r) → Leaves (Kept schema text tables p) d (answer >>= g) r
  after {y} {n} {d} {r} {answer} g {room} e h k = record { is = after_left y n d r g room e answer h.is k }

  stop_left : (y d : List ℕ) (why : Refused) (g : Node → Answer Node) (answer : Answer Node)
      → Left (Kept schema text tables p) y answer (Err why) → Left (Kept schema text tables p) d (answer >>= g) (Err why)
  stop_left y d why g (done q) h = absurd h
  stop_left y d why g (refused k i) h = h

  pub stop : {y d : List ℕ} {why : Refused} {answer : Answer Node} (g : Node → Answer Node) → Leaves (Kept schema text tables p) y answer (Err why)
      → Leaves (Kept schema text tables p) d (answer >>= g) (Err why)
  stop {y} {d} {why} {answer} g h = record { is = stop_left y d why g answer h.is }

-- ---- what a streamed pass asks for, and what it leaves

module _ {Given : Schema → List ℕ → Type 0} {Lent : Schema → Type 0} (give : (schema : Schema) (text : List ℕ) → Given schema text → Lent schema) {x y : List ℕ} {t : ℕ}
    (alike : length y ≡ length x) where
  pub asked : PlanAt Given x t → StreamAt Lent x 0 t 0 y 0
  asked at =
      let p = at.plan in
      top_at x t at.p p.words_are p.inside at.schema at.text at.tables p.fit y at.room (alike ∙ p.all) (omega (arith, at.short, alike)) (omega (arith, p.inside, alike)) Lent
      (give at.schema at.text at.given) at.short (omega (arith, at.short, alike))

  pub runs : length x ≤ most_words → (f : ℕ → Schema → ℕ → Node → Answer Node) {n : ℕ} {d : List ℕ} {r : Passed} → Streams Lent f x 0 t 0 y 0 n d → Ends d n r
      → Runs Given (λ room schema p. f room schema 0 p) x t d r
  runs short f s e schema text tables room p g h =
      streamed (Kept schema text tables p)
      (s schema text tables (give schema text g) room 0 p
      (top_reading x t p h.words_are h.inside schema text tables h.fit y room (alike ∙ h.all) (omega (arith, short, alike)) (omega (arith, h.inside, alike))))
      e

-- ---- folding

-- What folding gives, of a pass.
abbrev pub passed : Folded → Passed
passed (Ok n) = Ok n
passed (Err why) = Err (Failed why)

fold_left : (schema : Schema) (text : List ℕ) (tables : ℕ) (p : Node) (t : ℕ) (y : List ℕ) (answer : Answer Node) (r : Folded) → Folding.Left schema text tables p t answer r y
    → Left (Kept schema text tables p) y answer (passed r)
fold_left schema text tables p t y (done q) (Ok n) h = (h.inside, (h.words, h.kept))
fold_left schema text tables p t y (done q) (Err why) h = h
fold_left schema text tables p t y (refused number place) (Ok n) h = h
fold_left schema text tables p t y (refused number place) (Err why) h = h

pub fold_asked : {t' x : List ℕ} {t : ℕ} → PlanAt (ForFolding t') x t → Folding.PlanAt t' x t
fold_asked {t'} {x} {t} at =
    record {
      schema = at.schema;
      tables = at.tables;
      p = at.p;
      here = top_here x t at.p at.plan.words_are at.plan.inside;
      kept = subst (λ (l : List ℕ). Kept at.schema l at.tables at.p at.p) at.given.0 at.plan.fit;
      short = at.given.1;
    }

pub folded : (t' x : List ℕ) (t : ℕ) (r : Folded) (y : List ℕ) → Folding.FoldsPlan t' x t r y → Runs (ForFolding t') (λ room schema p. ConstantFolding 0 p) x t y (passed r)
folded t' x t r y f schema text tables room p g h =
    subst (λ (l : List ℕ). Leaves (Kept schema l tables p) y (ConstantFolding 0 p) (passed r)) (sym g.0)
    (record {
      is = fold_left schema t' tables p t y (ConstantFolding 0 p) r
          (f schema tables p (top_here x t p h.words_are h.inside) (subst (λ (l : List ℕ). Kept schema l tables p p) g.0 h.fit)).left;
    })

-- ---- short circuits, whose labels' names lie in the text

module _ {records columns x y : List ℕ} {t : ℕ} (alike : length y ≡ length x) where
  pub circuit_asked : PlanAt (Lent records columns) x t → CircuitAt records columns x 0 t 0 y 0
  circuit_asked at =
      let p = at.plan in
      record {
        stream =
            record {
              schema = at.schema;
              text = at.text;
              tables = at.tables;
              lent = at.given.records;
              room = at.room;
              rest = 0;
              p = at.p;
              reading = top_reading x t at.p p.words_are p.inside at.schema at.text at.tables p.fit y at.room (alike ∙ p.all) (omega (arith, at.short, alike)) (omega (arith, p.inside, alike));
              short = at.short;
              short_out = omega (arith, at.short, alike);
            };
        named = at.given.named;
      }

  pub circuited : length x ≤ most_words → {n : ℕ} {d : List ℕ} {r : Passed} → Circuits records columns x 0 t 0 y 0 n d → Ends d n r
      → Runs (Lent records columns) (λ room schema p. ShortCircuit room schema 0 p) x t d r
  circuited short s e schema text tables room p g h =
      streamed (Kept schema text tables p)
      (s schema text tables g.records g.named room 0 p
      (top_reading x t p h.words_are h.inside schema text tables h.fit y room (alike ∙ h.all) (omega (arith, short, alike)) (omega (arith, h.inside, alike))))
      e

-- ---- filters pushed down, in place, and copied

top_holds : {x : List ℕ} {t : ℕ} (p : Node) → take t x ≡ node_words p → t ≤ length x → Edit.Holds x t 0 0 [] [] p
top_holds p e h = record { whole = e ∙ sym (append-nil (node_words p)); low = refl; high = refl; inside = h }

module _ {records x : List ℕ} {t : ℕ} where
  pub push_asked : PlanAt (λ schema text. Tables records schema) x t → PassAt records x t 0 0
  push_asked at =
      record {
        schema = at.schema;
        text = at.text;
        tables = at.tables;
        given = at.given;
        held =
            record {
              room = at.room;
              rest = 0;
              shares = record { all = at.plan.all; short = omega (arith, at.short); outside = refl };
              pre = [];
              post = [];
              p = at.p;
              fit = at.plan.fit;
              holds = top_holds at.p at.plan.words_are at.plan.inside;
            };
        short = at.short;
      }

  pushed : length x ≤ most_words → (f : ℕ → Schema → ℕ → Node → Answer Node) {n : ℕ} {x' : List ℕ} → Passes f records x t 0 0 n x' → (schema : Schema) (text : List ℕ) (tables room : ℕ) (p : Node)
      → Tables records schema → PlanIn schema text tables x t room p → Edit.Left (Kept schema text tables p) x' n [] [] (f room schema 0 p)
  pushed short f h schema text tables room p given at =
      h schema text tables given room 0 (record { all = at.all; short = omega (arith, short); outside = refl }) [] [] p at.fit (top_holds p at.words_are at.inside)

  pub push_left : length x ≤ most_words → (f : ℕ → Schema → ℕ → Node → Answer Node) {n : ℕ} {x' : List ℕ} {r : Passed} → Passes f records x t 0 0 n x' → Ends x' n r
      → Runs (λ schema text. Tables records schema) (λ room schema p. f room schema 0 p) x t x' r
  push_left short f h e schema text tables room p given at = edited (Kept schema text tables p) (pushed short f h schema text tables room p given at) e

-- What a pass leaves in x' is copied to d.
pub copied : (schema : Schema) (text : List ℕ) (tables : ℕ) (p : Node) {answer : Answer Node} (x' y : List ℕ) (n m : ℕ) (d : List ℕ) → Short y → length y ≡ length x' → length d ≡ length y
    → Copies x' 0 n y 0 m d → Leaves (Kept schema text tables p) x' answer (Ok n) → Leaves (Kept schema text tables p) d answer (Ok m)
copied schema text tables p {answer} x' y n m d short alike same c h = record { is = go answer h.is }
  where
    go : (answer : Answer Node) → Left (Kept schema text tables p) x' answer (Ok n) → Left (Kept schema text tables p) d answer (Ok m)
    go (refused number place) l = absurd l
    go (done q) l =
        let long : length (node_words q) ≡ n = ap length (sym l.1.0) ∙ length-take-le n x' l.0 in
        let w = c (node_words q) (top_here x' n q l.1.0 l.0).part in
        let (i, j) = fits w short (omega (arith, long, l.0, alike)) in
        (omega (arith, i, long, l.0, alike, same), (j, l.1.1))
