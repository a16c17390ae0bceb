-- The loop that rewrites cells where they stand.
use Prim.Native.Nat.{ℕ, ◌+◌, ◌≤◌, ◌<◌}
use native.Mathlib.Omega.{arith}
use mathlib.Core.Path.{◌≡◌, refl, sym, ap, ◌∙◌, subst}
use mathlib.Core.List.{List, [], ◌∷◌, ◌++◌, append_assoc, append-nil, map}
use lib.ListN.{length, get_or, set, length-append, length-set}
use lib.Seq.{set_at}
use borrow.Author.Tests.{eq-eqb, ne_eqb}
use Rattle.cells.specs.declared.Cell.{Cell}
use Rattle.cells.specs.Cells.{cell_words, words, Part}
use Rattle.cells.proofs.Laws.{part_word}
use Rattle.column_numbers.specs.declared.Change.{Change}
use Rattle.column_numbers.specs.Columns.{changed, Room, changed_cell, changed_sized, EachCell}
use Rattle.column_numbers.specs.Flat.{with_size, flat}
use Rattle.column_numbers.proofs.Flat.{no_cell, cell_room}

-- The cells from i up to n are left, and the words before them are done.
pub record Rest (k : Change) (before : List ℕ) (cs : List (Cell × ℕ)) (after : List ℕ) (at n i : ℕ) (d : List ℕ) : Type 0 where
  pub done : List ℕ
  pub rest : List (Cell × ℕ)
  pub is : d ≡ before ++ (done ++ (flat rest ++ after))
  pub long : at + length done ≡ i
  pub left : i + length (flat rest) ≡ n
  pub same : done ++ flat (map (changed_sized k) rest) ≡ flat (map (changed_sized k) cs)
  pub room : EachCell k cs → EachCell k rest

abbrev pub Changing : Change → List ℕ → ℕ → ℕ → ℕ → List ℕ → Type 0
Changing k d₀ at n i d = (cs : List (Cell × ℕ)) (p : Part d₀ at n (flat cs)) → Rest k p.before cs p.after at n i d

pub changing_none : (k : Change) (d : List ℕ) (at n : ℕ) → Changing k d at n at d
changing_none k d at n cs p = record { done = []; rest = cs; is = p.whole; long = omega arith; left = p.high; same = refl; room = λ h. h }

-- a cell is done, and is c' now
cell_done : {k : Change} {before : List ℕ} {cs : List (Cell × ℕ)} {after : List ℕ} {at n i : ℕ} (done : List ℕ) (c : Cell × ℕ) (rest : List (Cell × ℕ)) (c' : Cell)
    → c' ≡ changed_cell k c.0 → at + length done ≡ i → i + length (flat (c ∷ rest)) ≡ n
    → done ++ flat (map (changed_sized k) (c ∷ rest)) ≡ flat (map (changed_sized k) cs) → (EachCell k cs → EachCell k (c ∷ rest))
    → {d : List ℕ} → d ≡ before ++ (done ++ (words c' c.1 ++ (flat rest ++ after))) → Rest k before cs after at n (i + cell_words) d
cell_done {k} done c rest c' new long left same room is =
    record {
      done = done ++ words c' c.1;
      rest = rest;
      is = is ∙ simp append_assoc;
      long = omega (arith, length-append done (words c' c.1));
      left = omega (arith, length-append (with_size c) (flat rest));
      same =
          append_assoc done (words c' c.1) (flat (map (changed_sized k) rest))
          ∙ ap (λ (x : Cell). done ++ (words x c.1 ++ flat (map (changed_sized k) rest))) new
          ∙ same;
      room = λ h. (room h).1;
    }

module _ {k : Change} {before : List ℕ} {cs : List (Cell × ℕ)} {after : List ℕ} {at n i : ℕ} {d : List ℕ} (low : length before ≡ at) where
  -- the cells that are left, as they stand
  rest_part : (g : Rest k before cs after at n i d) → Part d i n (flat g.rest)
  rest_part g =
      record {
        before = before ++ g.done;
        after = after;
        whole = g.is ∙ sym (append_assoc before g.done (flat g.rest ++ after));
        low = omega (arith, length-append before g.done, g.long);
        high = g.left;
      }

  pub rest_in : Rest k before cs after at n i d → i < n → (i + cell_words ≤ n) × (n ≤ length d)
  rest_in g h = cell_room h g.rest (rest_part g)

  -- one cell of those that are left
  one_left : (P : Type 0) → i < n → Rest k before cs after at n i d
      → ((done : List ℕ) (c : Cell × ℕ) (rest : List (Cell × ℕ)) → get_or d (i + 1) 0 ≡ c.0.tag → get_or d (i + 3) 0 ≡ c.0.a
      → (is : d ≡ before ++ (done ++ (flat (c ∷ rest) ++ after))) → at + length done ≡ i → i + length (flat (c ∷ rest)) ≡ n
      → done ++ flat (map (changed_sized k) (c ∷ rest)) ≡ flat (map (changed_sized k) cs) → (EachCell k cs → EachCell k (c ∷ rest)) → P)
      → P
  one_left P h g f = go g.rest (rest_part g) g.is g.left g.same g.room
    where
      go : (rest : List (Cell × ℕ)) → Part d i n (flat rest) → d ≡ before ++ (g.done ++ (flat rest ++ after)) → i + length (flat rest) ≡ n
          → g.done ++ flat (map (changed_sized k) rest) ≡ flat (map (changed_sized k) cs) → (EachCell k cs → EachCell k rest) → P
      go [] p is left same room = absurd (omega arith)
      go (c ∷ rest) p is left same room =
          f g.done c rest (part_word p (i + 1) 1 (omega arith)) (part_word p (i + 3) 3 (omega arith)) is g.long left same room

  pub rest_room : Rest k before cs after at n i d → i < n → EachCell k cs → get_or d (i + 1) 0 ≡ 6 → Room k (get_or d (i + 3) 0)
  rest_room g h each six =
      one_left (Room k (get_or d (i + 3) 0)) h g
      (λ done c rest tag a is long left same room. subst (Room k) (sym a) ((room each).0 (sym tag ∙ six)))

  rest_kept : Rest k before cs after at n i d → i < n → (get_or d (i + 1) 0 ≡ 6 → ⊥) → Rest k before cs after at n (i + cell_words) d
  rest_kept g h other =
      one_left (Rest k before cs after at n (i + cell_words) d) h g
      (λ done c rest tag a is long left same room.
      cell_done done c rest c.0 (simp (ne_eqb c.0.tag 6 (λ z. other (tag ∙ z)))) long left same room (is ∙ simp append_assoc))

  rest_changed : Rest k before cs after at n i d → i < n → get_or d (i + 1) 0 ≡ 6 → {v : ℕ} → v ≡ changed k (get_or d (i + 3) 0)
      → Rest k before cs after at n (i + cell_words) (set d (i + 3) v)
  rest_changed g h six {v} w =
      one_left (Rest k before cs after at n (i + cell_words) (set d (i + 3) v)) h g
      (λ done c rest tag a is long left same room.
      let now : Cell = record { origin = c.0.origin; tag = c.0.tag; flag = c.0.flag; a = v; b = c.0.b; c = c.0.c } in
      let front = before ++ (done ++ (c.0.origin ∷ c.0.tag ∷ c.0.flag ∷ [])) in
      let back = c.0.b ∷ c.0.c ∷ c.1 ∷ (flat rest ++ after) in
      let m : length front ≡ i + 3 = omega (arith, length-append before (done ++ (c.0.origin ∷ c.0.tag ∷ c.0.flag ∷ [])), length-append done (c.0.origin ∷ c.0.tag ∷ c.0.flag ∷ [])) in
      let all : d ≡ front ++ (c.0.a ∷ back) = is ∙ simp append_assoc in
      let z : v ≡ changed k c.0.a = w ∙ ap (changed k) a in
      cell_done done c rest now
      (simp (eq-eqb c.0.tag 6 (sym tag ∙ six), z)) long left same room
      (ap (λ (y : List ℕ). set y (i + 3) v) all ∙ set_at front c.0.a back v (i + 3) m ∙ simp append_assoc))

  pub rest_none : Rest k before cs after at n i d → n ≤ i → d ≡ before ++ (flat (map (changed_sized k) cs) ++ after)
  rest_none g h =
      no_cell
      (λ rest. d ≡ before ++ (g.done ++ (flat rest ++ after)) → g.done ++ flat (map (changed_sized k) rest) ≡ flat (map (changed_sized k) cs)
      → d ≡ before ++ (flat (map (changed_sized k) cs) ++ after))
      h (λ is same. is ∙ ap (λ (w : List ℕ). before ++ (w ++ after)) (sym (append-nil g.done) ∙ same))
      g.rest (rest_part g) g.is g.same

-- ---- a turn of the loop

module _ {k : Change} {d₀ : List ℕ} {at n i : ℕ} {d : List ℕ} (h : i < n) (g : (length d ≡ length d₀) × Changing k d₀ at n i d) {d' : List ℕ} where
  pub turn_kept : (get_or d (i + 1) 0 ≡ 6 → ⊥) → d' ≡ d → (length d' ≡ length d₀) × Changing k d₀ at n (i + cell_words) d'
  turn_kept other e = rw e (g.0, λ cs p. rest_kept p.low (g.1 cs p) h other)

  pub turn_changed : get_or d (i + 1) 0 ≡ 6 → {v : ℕ} → v ≡ changed k (get_or d (i + 3) 0) → d' ≡ set d (i + 3) v → (length d' ≡ length d₀) × Changing k d₀ at n (i + cell_words) d'
  turn_changed six {v} w e = rw e (simp length-set g.0, λ cs p. rest_changed p.low (g.1 cs p) h six w)
