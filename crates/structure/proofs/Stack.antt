-- An array as a stack of sorts, and children taken off it.
-- Assumes nothing.
use Prim.Native.Nat.{ℕ, zero, suc, ◌+◌, ◌-◌, ◌≤◌, ◌<◌}
use native.Mathlib.Omega.{arith}
use native.Mathlib.Numerals.{add-one}
use mathlib.Core.Path.{◌≡◌, refl, sym, ap, ◌∙◌}
use mathlib.Core.Bool.{Bool, true, false}
use mathlib.Core.List.{List, [], ◌∷◌}
use mathlib.Core.Option.{Option, none, some}
use lib.ListN.{length, get_or, set}
use lib.Seq.{get_or-set_same, get_or-set_other}
use Rattle.sheet.specs.Tree.{bind}
use Rattle.sheet.specs.Content.{content_of}
use Rattle.layout.specs.Layout.{as_cell}
use Rattle.layout.specs.declared.Cell.{Cell}
use Rattle.std.specs.Prelude.{Option as Left, Some, None}
use Rattle.arity.specs.declared.Sort.{Sort}
use Rattle.arity.specs.Arity.{sort_of, childless, parts_only, children_of, Sorted, Asked}
use Rattle.arity.specs.declared.Children.{Children}
use Rattle.arity.proofs.Laws.{sorted_by, asked_by}
use Rattle.structure.specs.Sorts.{serves, if_so, taken, pushed, reduced}
use Rattle.structure.specs.Structure.{stacked, left, Takes, Reduces, Operates}

-- ---- the array

pub stacked_length : (a : List Sort) (h : ℕ) → length (stacked a h) ≡ h
unfolding stacked
stacked_length a zero = refl
stacked_length a (suc h) = ap suc (stacked_length a h)

-- the top
pub stacked_top : (a : List Sort) (h : ℕ) → 0 < h → stacked a h ≡ get_or a (h - 1) Sort.Constant ∷ stacked a (h - 1)
unfolding stacked
stacked_top a zero p = absurd (omega arith)
stacked_top a (suc h) p = let e : suc h - 1 ≡ h = omega arith in rw e

-- A store at or above the top leaves the stack as it is, and one right above is a push.
pub stacked_set : (a : List Sort) (i : ℕ) (v : Sort) (h : ℕ) → h ≤ i → stacked (set a i v) h ≡ stacked a h
unfolding stacked
stacked_set a i v zero p = refl
stacked_set a i v (suc h) p =
    let e : get_or (set a i v) h Sort.Constant ≡ get_or a h Sort.Constant = get_or-set_other a i h v Sort.Constant (omega arith) in
    let f = stacked_set a i v h (omega arith) in
    cc

pub stacked_push : (a : List Sort) (h : ℕ) (v : Sort) → h < length a → stacked (set a h v) (h + 1) ≡ v ∷ stacked a h
unfolding stacked
stacked_push a h v p =
    let e : get_or (set a h v) h Sort.Constant ≡ v = get_or-set_same a h v Sort.Constant p in
    let f = stacked_set a h v h (omega arith) in
    rw add-one (cc)

-- ---- taking off

still_none : {A : Type 0} (b : Bool) (o : Option A) → o ≡ none → if_so b o ≡ none
still_none true o e = e
still_none false o e = refl

pub taken_short : (want : Sort) (n : ℕ) (st : List Sort) → length st < n → taken want n st ≡ none
unfolding taken
taken_short want zero st h = absurd (omega arith)
taken_short want (suc n) [] h = refl
taken_short want (suc n) (have ∷ st) h = still_none (serves have want) (taken want n st) (taken_short want n st (omega arith))

-- What is left is no more than there was.
pub taken_length : (want : Sort) (n : ℕ) (st rest : List Sort) → some rest ≡ taken want n st → length rest ≤ length st
unfolding taken
taken_length want zero st rest e = let f : rest ≡ st = cc in omega (arith, ap length f)
taken_length want (suc n) [] rest e = let z : ◌≡◌ {A = ℕ} 0 1 = cc in absurd (omega arith)
taken_length want (suc n) (have ∷ st) rest e = go (serves have want) e (taken_length want n st rest)
  where
    go : (b : Bool) → some rest ≡ if_so b (taken want n st) → (some rest ≡ taken want n st → length rest ≤ length st) → length rest ≤ suc (length st)
    go true e h = omega (arith, h e)
    go false e h = let z : ◌≡◌ {A = ℕ} 0 1 = cc in absurd (omega arith)

-- Once an entry doesn't serve, those above it don't help.
taken_none : (a : List Sort) (want : Sort) (n i m : ℕ) → taken want n (stacked a i) ≡ none → taken want (n + m) (stacked a (i + m)) ≡ none
unfolding taken stacked
taken_none a want n i zero e = let p : n + 0 ≡ n = omega arith in let q : i + 0 ≡ i = omega arith in rw (p, q) e
taken_none a want n i (suc m) e =
    let p : n + suc m ≡ suc (n + m) = omega arith in
    let q : i + suc m ≡ suc (i + m) = omega arith in
    rw (p, q) (still_none (serves (get_or a (i + m) Sort.Constant) want) (taken want (n + m) (stacked a (i + m))) (taken_none a want n i m e))

pub too_few : {a : List Sort} {height : ℕ} {want : Sort} {n : ℕ} → height < n → Takes a height want n None
too_few {a} {height} {want} {n} h =
    record { is = sym (taken_short want n (stacked a height) (omega (arith, stacked_length a height))) }

-- The entries from `low` up to i serve.
pub record Taking (a : List Sort) (want : Sort) (low i : ℕ) : Type 0 where
  pub lower : low ≤ i
  pub same : taken want (i - low) (stacked a i) ≡ some (stacked a low)

module _ {a : List Sort} {want : Sort} {low : ℕ} where
  pub taking_start : Taking a want low low
  unfolding taken
  taking_start = let e : low - low ≡ 0 = omega arith in record { lower = omega arith; same = rw e refl }

  module _ {i : ℕ} (g : Taking a want low i) where
    -- the entry i, on top of those below
    top_taken : (b : Bool) → serves (get_or a i Sort.Constant) want ≡ b → taken want (i + 1 - low) (stacked a (i + 1)) ≡ if_so b (some (stacked a low))
    unfolding taken stacked
    top_taken b q =
        let e : i + 1 - low ≡ suc (i - low) = omega (arith, g.lower) in
        rw (e, add-one i) (ap (λ (b : Bool). if_so b (taken want (i - low) (stacked a i))) q ∙ ap (if_so b) g.same)

    pub taking_next : serves (get_or a i Sort.Constant) want ≡ true → Taking a want low (i + 1)
    taking_next q = record { lower = omega (arith, g.lower); same = top_taken true q }

    module _ {height n : ℕ} (l : low ≡ height - n) (m : n ≤ height) where
      pub taking_fails : i < height → serves (get_or a i Sort.Constant) want ≡ false → Takes a height want n None
      taking_fails h q =
          let e : i + 1 - low + (height - (i + 1)) ≡ n = omega (arith, g.lower) in
          let f : i + 1 + (height - (i + 1)) ≡ height = omega arith in
          let lost : taken want (i + 1 - low + (height - (i + 1))) (stacked a (i + 1 + (height - (i + 1)))) ≡ none =
          taken_none a want (i + 1 - low) (i + 1) (height - (i + 1)) (top_taken false q)
          in
          record { is = sym (rw (e, f) at lost) }

      pub taking_ends : i ≡ height → Takes a height want n (Some low)
      taking_ends h =
          let e : i - low ≡ n = omega arith in
          let left_low = g.same in
          record { is = sym (rw (e, h) at left_low) }

-- ---- what an answer says

module _ {a : List Sort} {height : ℕ} {want : Sort} {n : ℕ} {r : Left ℕ} (t : Takes a height want n r) where
  takes_none : r ≡ None → none ≡ taken want n (stacked a height)
  takes_none p = sym (ap (left a) p) ∙ t.is

  takes_some : {low : ℕ} → r ≡ Some low → some (stacked a low) ≡ taken want n (stacked a height)
  takes_some p = sym (ap (left a) p) ∙ t.is

  pub no_higher : {low : ℕ} → r ≡ Some low → low ≤ height
  no_higher {low} p =
      omega (arith, taken_length want n (stacked a height) (stacked a low) (takes_some p), stacked_length a height, stacked_length a low)

-- ---- a cell's children, group by group

abbrev nodes_off : Left Sort → Children → List Sort → Option (List Sort)
nodes_off sort asked low = bind (taken Sort.Node asked.nodes low) (pushed sort)

abbrev parts_off : Left Sort → Children → List Sort → Option (List Sort)
parts_off sort asked below = bind (taken asked.part asked.parts below) (λ low. nodes_off sort asked low)

then : (f : List Sort → Option (List Sort)) {o o' : Option (List Sort)} → o ≡ o' → bind o f ≡ bind o' f
then f e = ap (λ (x : Option (List Sort)). bind x f) e

module _ (k : Cell) {asked : Children} (is : Asked k.tag k.flag k.a k.b k.c asked) where
  -- The numbers that the code has of a cell are those of its content.
  of_content : {sort : Left Sort} (text : List ℕ) (st : List Sort) → sort ≡ sort_of (content_of text (as_cell k))
      → reduced sort asked st ≡ reduced (sort_of (content_of text (as_cell k))) (children_of (content_of text (as_cell k))) st
  of_content text st p =
      let q : asked ≡ children_of (content_of text (as_cell k)) = is.is text k.origin in
      rw (p, q)

  module _ {a : List Sort} {height : ℕ} {aggs : Left ℕ} (t : Takes a height Sort.Agg asked.aggs aggs) where
    lacks : ((sort : Left Sort) → none ≡ reduced sort asked (stacked a height)) → Reduces a height k None a
    lacks e = record { is = λ text. e (sort_of (content_of text (as_cell k))) ∙ of_content text (stacked a height) refl }

    pub lacks_aggs : aggs ≡ None → Reduces a height k None a
    lacks_aggs p = lacks (λ sort. then (parts_off sort asked) (takes_none t p))

    module _ {below : ℕ} (p : aggs ≡ Some below) {parts : Left ℕ} (u : Takes a below asked.part asked.parts parts) where
      parts_left : (sort : Left Sort) → parts_off sort asked (stacked a below) ≡ reduced sort asked (stacked a height)
      parts_left sort = then (parts_off sort asked) (takes_some t p)

      pub lacks_parts : parts ≡ None → Reduces a height k None a
      lacks_parts q = lacks (λ sort. then (nodes_off sort asked) (takes_none u q) ∙ parts_left sort)

      module _ {low : ℕ} (q : parts ≡ Some low) {nodes : Left ℕ} (v : Takes a low Sort.Node asked.nodes nodes) where
        nodes_left : (sort : Left Sort) → nodes_off sort asked (stacked a low) ≡ reduced sort asked (stacked a height)
        nodes_left sort = then (nodes_off sort asked) (takes_some u q) ∙ parts_left sort

        pub lacks_nodes : nodes ≡ None → Reduces a height k None a
        lacks_nodes e = lacks (λ sort. then (pushed sort) (takes_none v e) ∙ nodes_left sort)

        -- no cell has its tag
        pub lacks_sort : {rest : ℕ} → nodes ≡ Some rest → Sorted k.tag None → Reduces a height k None a
        lacks_sort e s =
            record {
              is = λ text. then (pushed None) (takes_some v e) ∙ nodes_left None ∙ of_content text (stacked a height) (s.is text (as_cell k) refl);
            }

        pub rest_low : {rest : ℕ} → nodes ≡ Some rest → rest ≤ height
        rest_low e = omega (arith, no_higher t p, no_higher u q, no_higher v e)

        pub lacks_none : {rest : ℕ} {sort : Sort} → nodes ≡ Some rest → height < length a → Sorted k.tag (Some sort) → Reduces a height k (Some (rest + 1)) (set a rest sort)
        lacks_none {rest} {sort} e h s =
            record {
              is = λ text. ap some (stacked_push a rest sort (omega (arith, rest_low e)))
                  ∙ then (pushed (Some sort)) (takes_some v e)
                  ∙ nodes_left (Some sort)
                  ∙ of_content text (stacked a height) (s.is text (as_cell k) refl);
            }

-- ---- the cells that are most

-- a leaf takes nothing off
module _ (k : Cell) (h : k.tag < 10) where
  leaf_asks : Asked k.tag k.flag k.a k.b k.c childless
  leaf_asks = asked_by childless 0 10 (λ text origin. refl) (omega arith) (omega arith) (omega arith) refl

  pub leaf_reduces : {a : List Sort} {height : ℕ} {sort : Sort} → height < length a → Sorted k.tag (Some sort) → Reduces a height k (Some (height + 1)) (set a height sort)
  unfolding taken
  leaf_reduces {a} {height} {sort} l s =
      record {
        is = λ text. ap some (stacked_push a height sort l) ∙ of_content k leaf_asks text (stacked a height) (s.is text (as_cell k) refl);
      }

  -- no cell has its tag
  pub leaf_lacks : {a : List Sort} {height : ℕ} → Sorted k.tag None → Reduces a height k None a
  unfolding taken
  leaf_lacks {a} {height} s = record { is = λ text. of_content k leaf_asks text (stacked a height) (s.is text (as_cell k) refl) }

-- an operator of two operands, by its tag
pub binary_reduces : (k : Cell) {a : List Sort} {height : ℕ} {r : Left ℕ} {after : List Sort} → 10 ≤ k.tag → k.tag < 19 → Operates a height r after
    → Reduces a height k r after
binary_reduces k {a} {height} h i o =
    let asked = asked_by {tag = k.tag} {flag = k.flag} {a = k.a} {b = k.b} {c = k.c} (parts_only Sort.Expression 2) 10 9 (λ text origin. refl) h (omega arith) (omega arith) refl in
    let sort = sorted_by {tag = k.tag} (λ t. Some Sort.Expression) 10 9 (λ text x. refl) h (omega arith) in
    record { is = λ text. o.is ∙ of_content k asked text (stacked a height) (sort.is text (as_cell k) refl) }

module _ {a : List Sort} {height : ℕ} where
  operands_lack : Takes a height Sort.Expression 2 None → Operates a height None a
  unfolding taken
  operands_lack t = record { is = then (pushed (Some Sort.Expression)) t.is }

  pub no_two : height < 2 → Operates a height None a
  no_two h = operands_lack (too_few h)

  -- `rest` entries stand below the two on top
  module _ {rest : ℕ} (h : 2 ≤ height) (e : rest ≡ height - 2) where
    pub left_lacks : serves (get_or a rest Sort.Constant) Sort.Expression ≡ false → Operates a height None a
    left_lacks q = operands_lack (taking_fails taking_start e h (omega arith) q)

    module _ (p : serves (get_or a rest Sort.Constant) Sort.Expression ≡ true) where
      pub right_lacks : serves (get_or a (rest + 1) Sort.Constant) Sort.Expression ≡ false → Operates a height None a
      right_lacks q = operands_lack (taking_fails (taking_next taking_start p) e h (omega arith) q)

      pub both_serve : height < length a → serves (get_or a (rest + 1) Sort.Constant) Sort.Expression ≡ true
          → Operates a height (Some (rest + 1)) (set a rest Sort.Expression)
      unfolding taken
      both_serve l q =
          let t = taking_ends {want = Sort.Expression} (taking_next (taking_next taking_start p) q) e h (omega arith) in
          record { is = ap some (stacked_push a rest Sort.Expression (omega arith)) ∙ then (pushed (Some Sort.Expression)) t.is }

-- A cell leaves at most one tree more than there were.
pub reduced_length : (sort : Left Sort) (asked : Children) (st after : List Sort) → some after ≡ reduced sort asked st → length after ≤ length st + 1
reduced_length sort asked st after e = groups (taken Sort.Agg asked.aggs st) refl e
  where
    on_top : (sort : Left Sort) (rest : List Sort) → some after ≡ pushed sort rest → length after ≡ length rest + 1
    on_top None rest e = let z : ◌≡◌ {A = ℕ} 0 1 = cc in absurd (omega arith)
    on_top (Some top) rest e = let f : after ≡ top ∷ rest = cc in omega (arith, ap length f)

    nodes : (low : List Sort) (o : Option (List Sort)) → o ≡ taken Sort.Node asked.nodes low → some after ≡ bind o (pushed sort) → length after ≤ length low + 1
    nodes low none p e = let z : ◌≡◌ {A = ℕ} 0 1 = cc in absurd (omega arith)
    nodes low (some rest) p e = omega (arith, on_top sort rest e, taken_length Sort.Node asked.nodes low rest p)

    parts : (below : List Sort) (o : Option (List Sort)) → o ≡ taken asked.part asked.parts below → some after ≡ bind o (nodes_off sort asked) → length after ≤ length below + 1
    parts below none p e = let z : ◌≡◌ {A = ℕ} 0 1 = cc in absurd (omega arith)
    parts below (some low) p e =
        omega (arith, nodes low (taken Sort.Node asked.nodes low) refl e, taken_length asked.part asked.parts below low p)

    groups : (o : Option (List Sort)) → o ≡ taken Sort.Agg asked.aggs st → some after ≡ bind o (parts_off sort asked) → length after ≤ length st + 1
    groups none p e = let z : ◌≡◌ {A = ℕ} 0 1 = cc in absurd (omega arith)
    groups (some below) p e =
        omega (arith, parts below (taken asked.part asked.parts below) refl e, taken_length Sort.Agg asked.aggs st below p)
