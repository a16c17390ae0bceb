-- The proof of Law.antt.
use Rattle.std.specs.Prelude.{ℕ, zero, suc, ◌+◌, ◌*◌, ◌/◌, ◌%◌, ◌≤◌, ◌<◌, ◌≢◌, Bool, ◌||◌, get_or}
use Rattle.std.proofs.Common.{mod-lt, arith, ◌∙◌, subst, length-take-le}
use borrow.Author.Tests.{leb-true, le-leb, lt-leb}
use Rattle.std.proofs.Math.Path.{◌≡◌, refl, sym, ap, ap₂}
use Rattle.std.proofs.Math.Bool.{true, false, cond}
use mathlib.Core.List.{List, [], ◌∷◌, ◌++◌, map}
use Rattle.std.proofs.Math.Dec.{leb}
use Rattle.std.proofs.Math.ListN.{length, take, drop}
use Rattle.std.proofs.Math.Seq.{take-append_seam}
use Rattle.value.specs.Value.{integer, float, string, Value, truth, datum}
use Rattle.value.specs.Meaning.{bytes_at}
use Rattle.sql.specs.Answer.{Answer, done, refused}
use Rattle.sql.specs.Schema.{Column, Table, Schema}
use Rattle.sql.specs.Plan.{Node, columns, node_size}
use Rattle.sheet.specs.Bytes.{bytes}
use Rattle.sheet.specs.Parts.{edition, tables_at, cell_count, table_count, column_count}
use Rattle.sheet.specs.Check.{Numbers, text, schema, plan, check, checked}
use Rattle.sheet.specs.Operations.{Outcome, refuse, written}
use Rattle.sheet_laws.specs.Fits.{All}
use Rattle.sheet_laws.specs.Layout.{Parts}
use Rattle.sheet_laws.specs.Plan.{Bytes}
use Rattle.sheet_laws.proofs.Plan.{parts_of, plan_size}
use Rattle.sheet_laws.specs.Accepted.{accepted}
use Rattle.origins.specs.Origins.{map_answer}
use Rattle.sound.specs.Lists.{all_append, get_d_of}
use Rattle.sound.specs.Refusals.{RefusedBy, FromTo}
use Rattle.sound.proofs.Refusals.{plan_refused}
use Rattle.sound.specs.HandedOut.{success}
use Rattle.sound.specs.Operations.{sheet_of}
use Rattle.compact.specs.Strings.{same, empty, among, kept, joined, offset_in, reference_to, stretch_of, Apart, before, behind}
use Rattle.compact.proofs.StringLaws.{Has, Filled, Distinct, Placed, same_true, kept_filled, kept_distinct, kept_met, keep_has, keep_all, offset_stands, offset_inside, offsets_apart, shortest}
use Rattle.compact.specs.Slots.{Slot, number, reference, slots, references, value, redirect, slot_bytes}
use Rattle.compact.specs.Compact.{strings, kept_strings, kept_text, moved, trailer_with, compacted, handed_out, compact}
use Rattle.compact.specs.References
use Rattle.compact.specs.References.{read_plan, read_schema}
use Rattle.compact.proofs.Unseen.{node_size_unseen, columns_unseen}
use Rattle.compact.proofs.Cells.{Refers}
use Rattle.compact.proofs.Moved as Moved
use Rattle.compact.proofs.Accepts.{plan_d, schema_d, plan_agrees, schema_agrees}
use Rattle.compact.specs.Law.{Succeeds, handed, Answers, PlansEqual, SchemasEqual, Spelling, TwiceTheSame, StandApart, ShortestText, Shortest, PassesCheck, Passes, Compacts}

-- ---- lists of bytes

abbrev SmallBytes : List ℕ → Type 0
SmallBytes = All (λ x. x < 256)

small_bytes : (l : List ℕ) → Bytes l → SmallBytes l
small_bytes [] b = tt
small_bytes (x ∷ xs) b = (b 0, small_bytes xs (λ i. b (suc i)))

bytes_small : (l : List ℕ) → SmallBytes l → Bytes l
bytes_small l a i = get_d_of (λ x. x < 256) l i 0 a (omega arith)

small_append : (xs ys : List ℕ) → SmallBytes xs → SmallBytes ys → SmallBytes (xs ++ ys)
small_append xs ys = all_append (λ x. x < 256) xs ys

small_take : (k : ℕ) (l : List ℕ) → SmallBytes l → SmallBytes (take k l)
small_take zero l a = tt
small_take (suc k) [] a = tt
small_take (suc k) (x ∷ xs) a = (a.0, small_take k xs a.1)

small_drop : (k : ℕ) (l : List ℕ) → SmallBytes l → SmallBytes (drop k l)
small_drop zero l a = a
small_drop (suc k) [] a = tt
small_drop (suc k) (x ∷ xs) a = small_drop k xs a.1

small_word : (w : ℕ) → SmallBytes (bytes w)
unfolding bytes
small_word w = (mod-lt w (omega arith), (mod-lt (w / 256) (omega arith), (mod-lt (w / 65536) (omega arith), (mod-lt (w / 16777216) (omega arith), tt))))

small_joined : (ks : List (List ℕ)) → All SmallBytes ks → SmallBytes (joined ks)
small_joined [] a = tt
small_joined (k ∷ ks) a = small_append k (joined ks) a.0 (small_joined ks a.1)

small_slots : (xs : List Slot) → SmallBytes (slot_bytes xs)
unfolding slot_bytes
small_slots [] = tt
small_slots (x ∷ xs) = small_append (bytes (value x)) (slot_bytes xs) (small_word (value x)) (small_slots xs)

small_trailer : (t tables columns cells e : ℕ) → SmallBytes (trailer_with t tables columns cells e)
unfolding trailer_with
small_trailer t tables columns cells e =
    let c = t + tables * 16 in
    let k = c + columns * 16 in
    let z = k + cells * 16 + 20 in
    small_append (bytes t) (bytes c ++ (bytes k ++ (bytes e ++ bytes z))) (small_word t)
    (small_append (bytes c) (bytes k ++ (bytes e ++ bytes z)) (small_word c)
    (small_append (bytes k) (bytes e ++ bytes z) (small_word k) (small_append (bytes e) (bytes z) (small_word e) (small_word z))))

-- ---- a success

-- What a success tells: the plan, that the text kept is short enough, and that the output has room.
record Success (s out : List ℕ) : Type 0 where
  node : Node
  stands_for : plan s ≡ done node
  short : length (kept_text s) ≤ 8192
  room : length (compacted s) ≤ length out
  is : compact s out
      ≡ record {
        numbers = record { number = 0; place = 0; length = length (compacted s); cells = node_size node; columns = columns (schema s) node };
        output = compacted s ++ drop (length (compacted s)) out;
      }

-- No refusal has number 0.
no_refusal : {A : Type 0} (k : ℕ) → 1 ≤ k → k ≡ 0 → A
no_refusal k p e = absurd (omega arith)

succeeds : (s out : List ℕ) → Succeeds s out → Success s out
unfolding compact
succeeds s out z = go (plan s) refl (plan_refused s) z
  where
    long : (n : Node) → plan s ≡ done n → length (kept_text s) ≤ 8192 → (t : Bool) → leb (length (compacted s)) (length out) ≡ t
        → (written s out n (compacted s) t).numbers.number ≡ 0 → compact s out ≡ written s out n (compacted s) t → Success s out
    long n p q true e z i = record { node = n; stands_for = p; short = q; room = leb-true (length (compacted s)) (length out) e; is = i }
    long n p q false e z i = no_refusal 15 (omega arith) z

    fits : (n : Node) → plan s ≡ done n → (t : Bool) → leb (length (kept_text s)) 8192 ≡ t
        → (cond t (written s out n (compacted s) (leb (length (compacted s)) (length out))) (refuse out 14 0)).numbers.number ≡ 0
        → compact s out ≡ cond t (written s out n (compacted s) (leb (length (compacted s)) (length out))) (refuse out 14 0) → Success s out
    fits n p true e z i = long n p (leb-true (length (kept_text s)) 8192 e) (leb (length (compacted s)) (length out)) refl z i
    fits n p false e z i = no_refusal 14 (omega arith) z

    go : (r : Answer Node) → plan s ≡ r → RefusedBy (FromTo 2 10) r → (handed_out s out r).numbers.number ≡ 0 → Success s out
    go (refused k i) e f z = no_refusal k (omega (arith, f.0)) z
    go (done n) e f z = fits n e (leb (length (kept_text s)) 8192) refl z (ap (handed_out s out) e)

-- the sheet handed out
handed_is : (s out : List ℕ) → Success s out → handed s out ≡ compacted s
handed_is s out u = ap sheet_of u.is ∙ take-append_seam (compacted s) (drop (length (compacted s)) out)

module _ (s out : List ℕ) (b : Bytes s) (u : Success s out) where
  abbrev d : List ℕ
  d = compacted s

  abbrev f : ℕ → ℕ
  f = moved s

  abbrev n : Node
  n = u.node

  p : Parts s
  p = parts_of (accepted s n u.stands_for)

  is_d : handed s out ≡ d
  is_d = handed_is s out u

  text_is : text d ≡ kept_text s
  text_is = Moved.text_d s b p u.short

  plan_is : plan d ≡ done (References.map_node f n)
  plan_is = plan_d s b n u.stands_for u.short

  schema_is : schema d ≡ References.map_schema f (schema s)
  schema_is = schema_d s b n u.stands_for u.short

  -- ---- plans and schemas

  module _ (spell : List ℕ → ℕ) where
    agree : (r : ℕ) → bytes_at (kept_text s) (f r) ≡ bytes_at (text s) r → spell (bytes_at (text d) (f r)) ≡ spell (bytes_at (text s) r)
    agree r e = ap (λ (t : List ℕ). spell (bytes_at t (f r))) text_is ∙ ap spell e

    plans_d : map_answer (read_plan spell (text d)) (plan d) ≡ map_answer (read_plan spell (text s)) (plan s)
    plans_d =
        ap (map_answer (read_plan spell (text d))) plan_is
        ∙ ap done (plan_agrees s b n u.stands_for u.short (λ r. spell (bytes_at (text d) r)) (λ r. spell (bytes_at (text s) r)) agree)
        ∙ ap (map_answer (read_plan spell (text s))) (sym u.stands_for)

    schemas_d : read_schema spell (text d) (schema d) ≡ read_schema spell (text s) (schema s)
    schemas_d =
        ap (read_schema spell (text d)) schema_is
        ∙ schema_agrees s b n u.stands_for u.short (λ r. spell (bytes_at (text d) r)) (λ r. spell (bytes_at (text s) r)) agree

  -- ---- once more

  redirected_refers : (xs : List Slot) → references (map (redirect f) xs) ≡ map f (references xs)
  redirected_refers [] = refl
  redirected_refers (number v ∷ xs) = redirected_refers xs
  redirected_refers (reference r ∷ xs) = ap (λ (l : List ℕ). f r ∷ l) (redirected_refers xs)

  same_strings : (xs : List Slot) → All (Refers (Moved.Moves s b p u.short)) xs → map (bytes_at (kept_text s)) (map f (references xs)) ≡ map (bytes_at (text s)) (references xs)
  same_strings [] m = refl
  same_strings (number v ∷ xs) m = same_strings xs m.1
  same_strings (reference r ∷ xs) m = ap₂ ◌∷◌ m.0.same (same_strings xs m.1)

  -- The new sheet refers to the same strings in the same order, so the same are kept.
  strings_d : strings d ≡ strings s
  unfolding strings
  strings_d =
      ap₂ (λ (t : List ℕ) (xs : List Slot). map (bytes_at t) (references xs)) text_is (Moved.slots_d s b p u.short)
      ∙ ap (map (bytes_at (kept_text s))) (redirected_refers (slots s)) ∙ same_strings (slots s) (Moved.all_move s b p u.short)

  kept_d : kept_strings d ≡ kept_strings s
  unfolding kept_strings
  kept_d = ap kept strings_d

  kept_text_d : kept_text d ≡ kept_text s
  unfolding kept_text
  kept_text_d = ap joined kept_d

  moved_d : (r : ℕ) → bytes_at (kept_text s) (f r) ≡ bytes_at (text s) r → moved d (f r) ≡ f r
  unfolding moved
  moved_d r e =
      ap₂ (λ (ks : List (List ℕ)) (t : List ℕ). reference_to ks (bytes_at t (moved s r))) kept_d text_is ∙ ap (reference_to (kept_strings s)) e

  redirected_again : (xs : List Slot) → All (Refers (Moved.Moves s b p u.short)) xs → map (redirect (moved d)) (map (redirect f) xs) ≡ map (redirect f) xs
  redirected_again [] m = refl
  redirected_again (number v ∷ xs) m = ap (λ (l : List Slot). number v ∷ l) (redirected_again xs m.1)
  redirected_again (reference r ∷ xs) m = ap₂ (λ (v : ℕ) (l : List Slot). reference v ∷ l) (moved_d r m.0.same) (redirected_again xs m.1)

  compacted_d : compacted d ≡ d
  unfolding compacted
  compacted_d =
      let words : map (redirect (moved d)) (slots d) ≡ map (redirect f) (slots s) =
      ap (map (redirect (moved d))) (Moved.slots_d s b p u.short) ∙ redirected_again (slots s) (Moved.all_move s b p u.short) in
      let t = kept_text_d in
      let x = Moved.table_count_d s b p u.short in
      let y = Moved.column_count_d s b p u.short in
      let k = Moved.cell_count_d s b p u.short in
      let e = Moved.edition_d s b p u.short in
      ap₂ (λ (l : List ℕ) (ws : List Slot). l ++ (slot_bytes ws ++ trailer_with (length l) (table_count d) (column_count d) (cell_count d) (edition d))) t words
      ∙ ap₂ (λ (i j : ℕ). kept_text s ++ (slot_bytes (map (redirect f) (slots s)) ++ trailer_with (length (kept_text s)) i j (cell_count d) (edition d))) x y
      ∙ ap₂ (λ (i j : ℕ). kept_text s ++ (slot_bytes (map (redirect f) (slots s)) ++ trailer_with (length (kept_text s)) (table_count s) (column_count s) i j)) k e

  size_d : node_size (References.map_node f n) ≡ node_size n
  size_d = node_size_unseen f n

  wide_d : columns (schema d) (References.map_node f n) ≡ columns (schema s) n
  wide_d = ap (λ (t : Schema). columns t (References.map_node f n)) schema_is ∙ columns_unseen f (schema s) n

  -- ---- no shorter text

  abbrev ks : List (List ℕ)
  ks = kept_strings s

  all_get : (P : List ℕ → Type 0) (xs : List (List ℕ)) → All P xs → (w : List ℕ) → among w xs ≡ true → P w
  all_get P [] a w h = absurd (let z : ◌≡◌ {A = ℕ} 0 1 = cc in omega arith)
  all_get P (x ∷ xs) a w h = go (same x w) refl h (all_get P xs a.1 w)
    where
      go : (t : Bool) → same x w ≡ t → (t || among w xs) ≡ true → (among w xs ≡ true → P w) → P w
      go true e h ih = subst P (same_true x w e) a.0
      go false e h ih = ih h

  -- A string that is not empty is kept if and only if it is referred to.
  kept_if : (w : List ℕ) → empty w ≡ false → among w (strings s) ≡ true → among w ks ≡ true
  unfolding kept_strings
  kept_if w e h = go (empty w) e (all_get (Has (kept (strings s))) (strings s) (keep_has [] (strings s)) w h)
    where
      go : (t : Bool) → t ≡ false → (t || among w (kept (strings s))) ≡ true → among w (kept (strings s)) ≡ true
      go false e h = h
      go true e h = absurd (let z : ◌≡◌ {A = ℕ} 0 1 = cc in omega arith)

  kept_only : (w : List ℕ) → among w ks ≡ true → (empty w ≡ false) × (among w (strings s) ≡ true)
  unfolding kept_strings
  kept_only w h =
      (all_get Filled (kept (strings s)) (kept_filled (strings s)) w h, all_get (λ t. among t (strings s) ≡ true) (kept (strings s)) (kept_met (strings s)) w h)

  itself_d : StandApart s (text d) (offset_in ks)
  unfolding kept_text
  itself_d =
      record {
        stand = λ w e h. ap (λ (t : List ℕ). take (length w) (drop (offset_in ks w) t)) text_is ∙ offset_stands ks w (kept_if w e h);
        apart = λ v w e g h i ne. offsets_apart ks v w (kept_if v e h) (kept_if w g i) ne;
      }

  -- each reference, in order, is to its string's place
  to_strings : (rs : List ℕ) → map f rs ≡ map (reference_to ks) (map (bytes_at (text s)) rs)
  unfolding moved
  to_strings [] = refl
  to_strings (r ∷ rs) = ap (λ (l : List ℕ). f r ∷ l) (to_strings rs)

  referred_d : references (slots d) ≡ map (reference_to ks) (strings s)
  unfolding strings
  referred_d = ap references (Moved.slots_d s b p u.short) ∙ redirected_refers (slots s) ∙ to_strings (references (slots s))

  shortest_d : (t : List ℕ) (place : List ℕ → ℕ) → StandApart s t place → length (text d) ≤ length t
  unfolding kept_text kept_strings
  shortest_d t place a =
      let only = kept_only in
      let short = shortest ks t place (kept_filled (strings s)) (kept_distinct (strings s))
      (record {
        stands = λ w h. a.stand w (only w h).0 (only w h).1;
        apart = λ v w h i ne. a.apart v w (only v h).0 (only w i).0 (only v h).1 (only w i).1 ne;
      }) in
      omega (arith, ap length text_is, short)

  -- ---- the answer

  twice_d : (again : List ℕ) → length d ≤ length again → compact d again ≡ record { numbers = (compact s out).numbers; output = d ++ drop (length d) again }
  unfolding compact
  twice_d again room =
      let m = References.map_node f n in
      let few : leb (length (kept_text d)) 8192 ≡ true = ap (λ (t : List ℕ). leb (length t) 8192) kept_text_d ∙ le-leb (length (kept_text s)) 8192 u.short in
      let fits : leb (length d) (length again) ≡ true = le-leb (length d) (length again) room in
      let numbers : (compact s out).numbers ≡ record { number = 0; place = 0; length = length d; cells = node_size m; columns = columns (schema d) m } =
      ap (λ (o : Outcome). o.numbers) u.is
      ∙ ap₂ (λ (k w : ℕ). record { number = 0; place = 0; length = length d; cells = k; columns = w }) (sym size_d) (sym wide_d) in
      ap (handed_out d again) plan_is
      ∙ ap (λ (t : Bool). cond t (written d again m (compacted d) (leb (length (compacted d)) (length again))) (refuse again 14 0)) few
      ∙ ap (λ (l : List ℕ). written d again m l (leb (length l) (length again))) compacted_d
      ∙ ap (written d again m d) fits
      ∙ ap (λ (k : Numbers). record { numbers = k; output = d ++ drop (length d) again }) (sym numbers)

  check_s : check s ≡ success (cell_count s) (columns (schema s) n)
  unfolding check
  check_s = ap (checked s) u.stands_for

  check_d : check d ≡ check s
  unfolding check
  check_d =
      ap (checked d) plan_is
      ∙ ap₂ (λ (k w : ℕ). success k w) (Moved.cell_count_d s b p u.short) wide_d ∙ sym (ap (checked s) u.stands_for)

  counts_s : check s ≡ success (compact s out).numbers.cells (compact s out).numbers.columns
  counts_s = check_s ∙ ap₂ (λ (k w : ℕ). success k w) (sym (plan_size s b n u.stands_for) ∙ sym (ap (λ (o : Outcome). o.numbers.cells) u.is)) (sym (ap (λ (o : Outcome). o.numbers.columns) u.is))

  -- ---- it is made of bytes

  kept_small : All SmallBytes ks
  unfolding kept_strings strings
  kept_small = keep_all SmallBytes [] (strings s) tt (each_small (references (slots s)))
    where
      each_small : (rs : List ℕ) → All (λ t. Filled t → SmallBytes t) (map (bytes_at (text s)) rs)
      each_small [] = tt
      each_small (r ∷ rs) = (λ e. small_take (r / 65536) (drop (r % 65536) (text s)) (small_drop (r % 65536) (text s) (small_take (tables_at s) s (small_bytes s b))), each_small rs)

  bytes_d : Bytes d
  unfolding compacted kept_text
  bytes_d =
      bytes_small d
      (small_append (joined ks) (slot_bytes (map (redirect f) (slots s)) ++ trailer_with (length (joined ks)) (table_count s) (column_count s) (cell_count s) (edition s)) (small_joined ks kept_small)
      (small_append (slot_bytes (map (redirect f) (slots s))) (trailer_with (length (joined ks)) (table_count s) (column_count s) (cell_count s) (edition s)) (small_slots (map (redirect f) (slots s)))
      (small_trailer (length (joined ks)) (table_count s) (column_count s) (cell_count s) (edition s))))

  passes_d : PassesCheck s out
  passes_d =
      let length_is : (compact s out).numbers.length ≡ length d = ap (λ (o : Outcome). o.numbers.length) u.is in
      record {
        place_0 = ap (λ (o : Outcome). o.numbers.place) u.is;
        checks = ap check is_d ∙ check_d;
        counts = counts_s;
        same_edition = ap edition is_d ∙ Moved.edition_d s b p u.short;
        long = ap length is_d ∙ sym length_is;
        fits = subst (λ (k : ℕ). k ≤ length out) (sym length_is) u.room;
        rest_stays = ap (λ (o : Outcome). o.output) u.is ∙ ap₂ (λ (l : List ℕ) (k : ℕ). l ++ drop k out) (sym is_d) (sym length_is);
        bytes = subst Bytes (sym is_d) bytes_d;
      }

-- ---- strings spelled as numbers

spelled : List ℕ → ℕ
spelled [] = 0
spelled (x ∷ xs) = suc x + 257 * spelled xs

spelled_apart : (t u : List ℕ) → Bytes t → Bytes u → spelled t ≡ spelled u → t ≡ u
unfolding spelled
spelled_apart [] [] p q e = refl
spelled_apart [] (y ∷ ys) p q e = absurd (omega arith)
spelled_apart (x ∷ xs) [] p q e = absurd (omega arith)
spelled_apart (x ∷ xs) (y ∷ ys) p q e =
    let a : x < 256 = p 0 in
    let c : y < 256 = q 0 in
    ap₂ ◌∷◌ (omega arith) (spelled_apart xs ys (λ i. p (suc i)) (λ i. q (suc i)) (omega arith))

-- ---- what is refused

-- The two tests behind check, by what they find.
by_tests : (s out : List ℕ) (n : Node) → plan s ≡ done n → (short room : Bool) → leb (length (kept_text s)) 8192 ≡ short → leb (length (compacted s)) (length out) ≡ room
    → compact s out ≡ cond short (written s out n (compacted s) room) (refuse out 14 0)
unfolding compact kept_text compacted
by_tests s out n p short room e f =
    ap (handed_out s out) p
    ∙ ap₂ (λ (t u : Bool). cond t (written s out n (compacted s) u) (refuse out 14 0)) e f

refused_by : (s out : List ℕ) (k place : ℕ) → plan s ≡ refused k place → compact s out ≡ refuse out k place
unfolding compact
refused_by s out k place p = ap (handed_out s out) p

answered : (s out : List ℕ) → Answers s out
answered s out =
    record {
      as_check = refused_by s out;
      too_long = λ n p h. by_tests s out n p false (leb (length (compacted s)) (length out)) (lt-leb (length (kept_text s)) 8192 h) refl;
      no_room = λ n p h k. by_tests s out n p true false (le-leb (length (kept_text s)) 8192 h) (lt-leb (length (compacted s)) (length out) k);
      else = λ n p h k.
          ap (λ (o : Outcome). o.numbers.number)
          (by_tests s out n p true true (le-leb (length (kept_text s)) 8192 h) (le-leb (length (compacted s)) (length out) k));
    }

-- ---- all of it

pub compacts : Compacts
compacts =
    record {
      answers = answered;
      plans = λ s out b z spell.
          let u = succeeds s out z in
          subst (λ (x : List ℕ). map_answer (read_plan spell (text x)) (plan x) ≡ map_answer (read_plan spell (text s)) (plan s)) (sym (handed_is s out u)) (plans_d s out b u spell);
      schemas = λ s out b z spell.
          let u = succeeds s out z in
          subst (λ (x : List ℕ). read_schema spell (text x) (schema x) ≡ read_schema spell (text s) (schema s)) (sym (handed_is s out u)) (schemas_d s out b u spell);
      spelling = record { spell = spelled; apart = spelled_apart };
      twice = λ s out again b z room.
          let u = succeeds s out z in
          subst (λ (x : List ℕ). length x ≤ length again → compact x again ≡ record { numbers = (compact s out).numbers; output = x ++ drop (length x) again }) (sym (handed_is s out u))
          (twice_d s out b u again) room;
      minimal = λ s out b z.
          let u = succeeds s out z in
          let e = sym (handed_is s out u) in
          record {
            place = offset_in (kept_strings s);
            itself = subst (λ (x : List ℕ). StandApart s (text x) (offset_in (kept_strings s))) e (itself_d s out b u);
            referred = subst (λ (x : List ℕ). references (slots x) ≡ map (reference_to (kept_strings s)) (strings s)) e (referred_d s out b u);
            shortest = λ t place a. subst (λ (x : List ℕ). length (text x) ≤ length t) e (shortest_d s out b u t place a);
          };
      passes = λ s out b z. passes_d s out b (succeeds s out z);
    }
