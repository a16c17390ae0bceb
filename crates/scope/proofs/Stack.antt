-- Laws on the stack of column counts, held in the first numbers of a list, and one law for each step of the walk over a sheet's cells.
use Prim.Native.Nat.{ℕ, zero, suc, ◌+◌, ◌-◌, ◌*◌, ◌≤◌, ◌<◌}
use native.Mathlib.Omega.{arith}
use native.Mathlib.Nat.{add-zero}
use native.Mathlib.Numerals.{add-one, add-two}
use mathlib.Core.Path.{◌≡◌, refl, sym, ap, ◌∙◌}
use mathlib.Core.Bool.{true}
use mathlib.Core.List.{List, [], ◌∷◌}
use lib.ListN.{length, get_or, set, length-set}
use lib.Seq.{get_or-set_same, get_or-set_other}
use borrow.Author.Tests.{le-leb, lt-leb, lt-ltb, le-ltb}
use Rattle.sheet.specs.Cell.{Cell, cell}
use Rattle.sheet.specs.Parts.{cell_count}
use Rattle.sheet.specs.Check.{schema, cells_of}
use Rattle.std.specs.Prelude.{Option as Found, Some, None}
use Rattle.layout.specs.Layout.{found}
use Rattle.std.specs.Prelude.{Result, Ok, Err}
use Rattle.node_scope.specs.Own.{is_node, sources, segment, columns_read, node_outside, node_columns}
use Rattle.scope.specs.Scope.{unless_outside, width_at}
use Rattle.node_scope.proofs.Steps.{segment_none, segment_first, segment_last, segment_length, segment_all, segment_end}
use Rattle.scope.proofs.Walk.{top, with_sources, walk, walk_past, walk_at, walk_broken}

-- the stack, its top first
abbrev pub stacked : List ℕ → ℕ → List ℕ
stacked ws zero = []
stacked ws (suc m) = get_or ws m 0 ∷ stacked ws m

abbrev pub total : List ℕ → ℕ
total [] = 0
total (w ∷ ws) = w + total ws

stacked_set : (ws : List ℕ) (i w m : ℕ) → m ≤ i → stacked (set ws i w) m ≡ stacked ws m
stacked_set ws i w zero h = refl
stacked_set ws i w (suc m) h = rw (get_or-set_other ws i m w 0 (λ e. omega arith), stacked_set ws i w m (omega arith)) refl

pub stacked_push : (ws : List ℕ) (i w : ℕ) → i < length ws → stacked (set ws i w) (i + 1) ≡ w ∷ stacked ws i
stacked_push ws i w h = rw (add-one, get_or-set_same ws i w 0 h, stacked_set ws i w i (omega arith)) refl

pub width_below : (ws : List ℕ) (i depth : ℕ) → i < depth → get_or ws i 0 ≡ width_at ws i depth
width_below ws i depth h = rw (lt-ltb i depth h) refl

pub width_past : (ws : List ℕ) (i depth : ℕ) → depth ≤ i → 0 ≡ width_at ws i depth
width_past ws i depth h = rw (le-ltb i depth h) refl

-- n sources are taken off, and their columns are `left` and `right`.
record Taken (ws : List ℕ) (rest n left right : ℕ) : Type 0 where
  stack : (go : ℕ → ℕ → List ℕ → Result ℕ ℕ) → with_sources n (stacked ws (rest + n)) go ≡ go left right (stacked ws rest)
  sum : total (stacked ws (rest + n)) ≡ left + right + total (stacked ws rest)

taken : (ws : List ℕ) (rest n : ℕ) {left right : ℕ} → n ≤ 2 → left ≡ width_at ws rest (rest + n) → right ≡ width_at ws (rest + 1) (rest + n) → Taken ws rest n left right
taken ws rest zero {left} {right} h e f =
    let l : left ≡ 0 = e ∙ sym (width_past ws rest (rest + 0) (omega arith)) in
    let r : right ≡ 0 = f ∙ sym (width_past ws (rest + 1) (rest + 0) (omega arith)) in
    record { stack = λ go. rw (add-zero, l, r) refl; sum = rw (add-zero, l, r) (omega arith) }
taken ws rest (suc zero) {left} {right} h e f =
    let l : left ≡ get_or ws rest 0 = e ∙ sym (width_below ws rest (rest + 1) (omega arith)) in
    let r : right ≡ 0 = f ∙ sym (width_past ws (rest + 1) (rest + 1) (omega arith)) in
    record { stack = λ go. rw (add-one, l, r) refl; sum = rw (add-one, l, r) (omega arith) }
taken ws rest (suc (suc zero)) {left} {right} h e f =
    let l : left ≡ get_or ws rest 0 = e ∙ sym (width_below ws rest (rest + 2) (omega arith)) in
    let r : right ≡ get_or ws (suc rest) 0 = f ∙ sym (width_below ws (rest + 1) (rest + 2) (omega arith)) ∙ ap (λ (i : ℕ). get_or ws i 0) (add-one rest) in
    record { stack = λ go. rw (add-two, l, r) refl; sum = rw (add-two, l, r) (omega arith) }
taken ws rest (suc (suc (suc n))) h e f = absurd (omega arith)

pub too_few : (ws : List ℕ) (depth n : ℕ) (go : ℕ → ℕ → List ℕ → Result ℕ ℕ) → n ≤ 2 → depth < n → with_sources n (stacked ws depth) go ≡ Ok 0
too_few ws depth zero go h k = absurd (omega arith)
too_few ws zero (suc zero) go h k = refl
too_few ws (suc depth) (suc zero) go h k = absurd (omega arith)
too_few ws zero (suc (suc n)) go h k = refl
too_few ws (suc zero) (suc (suc n)) go h k = refl
too_few ws (suc (suc depth)) (suc (suc n)) go h k = absurd (omega arith)

-- ---- the walk over the cells of a sheet

-- After i cells: the column counts on the stack, and the cells from `own` on since the last node, leave to the rest of the cells what there was to find.
pub record Walked (s ws : List ℕ) (depth own i : ℕ) : Type 0 where
  pub order : own ≤ i
  pub within : i ≤ cell_count s
  pub depth_few : depth ≤ i
  pub room : cell_count s ≤ length ws
  pub small : total (stacked ws depth) ≤ 17179869184 * i
  pub same : walk (schema s) own (segment s own i) (stacked ws depth) (segment s i (cell_count s)) ≡ walk (schema s) 0 [] [] (cells_of s)

module _ (s : List ℕ) where
  pub start : (ws : List ℕ) → cell_count s ≤ length ws → Walked s ws 0 0 0
  start ws e =
      record {
        order = omega arith;
        within = omega arith;
        depth_few = omega arith;
        room = e;
        small = omega arith;
        same = rw (segment_none s 0, segment_all s) refl;
      }

  -- the cell after the first i
  module _ {ws : List ℕ} {depth own i : ℕ} (w : Walked s ws depth own i) (h : i < cell_count s) {k : Cell} (is : k ≡ cell s i) where
    here : walk (schema s) own (segment s own i) (stacked ws depth) (cell s i ∷ segment s (i + 1) (cell_count s)) ≡ walk (schema s) 0 [] [] (cells_of s)
    here = rw (segment_first s h) at w.same

    pub past_plain : k.tag < 50 → Walked s ws depth own (i + 1)
    past_plain e =
        record {
          order = omega arith;
          within = omega arith;
          depth_few = omega arith;
          room = w.room;
          small = omega (arith, w.small);
          same =
              rw (segment_last s w.order)
              (sym (walk_past (schema s) own (segment s own i) (stacked ws depth) (cell s i) (segment s (i + 1) (cell_count s)) (ap (λ (x : Cell). is_node x.tag) (sym is) ∙ lt-leb _ _ e)) ∙ here);
        }

    module _ (node : 50 ≤ k.tag) {n : ℕ} (count : n ≡ sources k.tag) (few : n ≤ 2) where
      is_one : is_node (cell s i).tag ≡ true
      is_one = ap (λ (x : Cell). is_node x.tag) (sym is) ∙ le-leb _ _ node

      counted : sources (cell s i).tag ≡ n
      counted = ap (λ (x : Cell). sources x.tag) (sym is) ∙ sym count

      pub broken : depth < n → Ok 0 ≡ walk (schema s) 0 [] [] (cells_of s)
      broken l =
          sym (walk_broken (schema s) own (segment s own i) (stacked ws depth) (cell s i) (segment s (i + 1) (cell_count s)) is_one counted (λ go. too_few ws depth n go few l)) ∙ here

      module _ (enough : n ≤ depth) {left right : ℕ} (left_is : left ≡ width_at ws (depth - n) depth) (right_is : right ≡ width_at ws (depth - n + 1) depth) where
        back : depth - n + n ≡ depth
        back = omega arith

        off : Taken ws (depth - n) n left right
        off = taken ws (depth - n) n few (rw back left_is) (rw back right_is)

        pub sources_small : left + right ≤ 17179869184 * i
        sources_small = omega (arith, off.sum, w.small, ap (λ (d : ℕ). total (stacked ws d)) back)

        module _ {read : ℕ} (read_is : read ≡ columns_read (schema s) left right (cell s i)) where
          judged : walk (schema s) 0 [] [] (cells_of s)
              ≡ unless_outside (node_outside left right read own (segment s own i) (cell s i))
              (walk (schema s) (i + 1) [] (node_columns read (segment s own i) (cell s i) ∷ stacked ws (depth - n)) (segment s (i + 1) (cell_count s)))
          judged =
              sym here
              ∙ walk_at (schema s) own (segment s own i) (stacked ws depth) (cell s i) (segment s (i + 1) (cell_count s)) is_one counted
              (λ go. ap (λ (d : ℕ). with_sources n (stacked ws d) go) (sym back) ∙ off.stack go) (sym read_is)
              ∙ ap (λ (j : ℕ). unless_outside (node_outside left right read own (segment s own i) (cell s i)) (walk (schema s) j [] (node_columns read (segment s own i) (cell s i) ∷ stacked ws (depth - n)) (segment s (i + 1) (cell_count s))))
              (let l = segment_length s own i in let o = w.order in omega arith)

          pub out_of_scope : {f : Found ℕ} {p : ℕ}
              → found f ≡ node_outside left right read own (segment s own i) (cell s i)
              → f ≡ Some p
              → Err p ≡ walk (schema s) 0 [] [] (cells_of s)
          out_of_scope e g = sym (judged ∙ rw (sym e ∙ ap found g) refl)

          pub past_node : {f : Found ℕ} {width : ℕ}
              → found f ≡ node_outside left right read own (segment s own i) (cell s i)
              → f ≡ None
              → width ≡ node_columns read (segment s own i) (cell s i)
              → read ≤ left + right + 8589934592
              → width ≤ read + 8589934592
              → cell_count s ≤ 2048
              → Walked s (set ws (depth - n) width) (depth - n + 1) (i + 1) (i + 1)
          past_node {width = width} e g f a b c =
              let push : stacked (set ws (depth - n) width) (depth - n + 1) ≡ width ∷ stacked ws (depth - n) = stacked_push ws (depth - n) width (let r = w.room in let d = w.depth_few in omega arith) in
              record {
                order = omega arith;
                within = omega arith;
                depth_few = let d = w.depth_few in omega arith;
                room = omega (arith, length-set ws (depth - n) width, w.room);
                small = rw push (omega (arith, off.sum, w.small, ap (λ (d : ℕ). total (stacked ws d)) back));
                same = rw (push, segment_none s (i + 1), f) (sym (judged ∙ rw (sym e ∙ ap found g) refl));
              }

  -- the end
  module _ {ws : List ℕ} {depth own i : ℕ} (w : Walked s ws depth own i) (h : cell_count s ≤ i) where
    ended : top (stacked ws depth) ≡ walk (schema s) 0 [] [] (cells_of s)
    ended = rw (segment_end s w.within h) at w.same

    pub end_empty : depth ≡ 0 → Ok 0 ≡ walk (schema s) 0 [] [] (cells_of s)
    end_empty e = rw e at ended

    pub end_plan : (depth ≡ 0 → ⊥) → Ok (get_or ws (depth - 1) 0) ≡ walk (schema s) 0 [] [] (cells_of s)
    end_plan e = let f : depth ≡ suc (depth - 1) = omega arith in ap (λ (d : ℕ). top (stacked ws d)) (sym f) ∙ ended
