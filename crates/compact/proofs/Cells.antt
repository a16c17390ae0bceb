-- A cell with its references put through a function: it says the same but for them, and passes its layout check where the new references lie inside the new text.
use Rattle.std.specs.Prelude.{ℕ, zero, suc, ◌+◌, ◌/◌, ◌%◌, ◌≤◌, ◌<◌, ◌≡◌, Bool, not, ◌&&◌, ◌||◌, cond, List, [], ◌∷◌, map, leb, ltb}
use Rattle.std.proofs.Common.{arith, eqb-true, le-leb, sym, ap₂, ◌∙◌}
use Rattle.std.proofs.lemmas.Bool.{eqb-false}
use Rattle.std.proofs.Math.Path.{refl, ap, subst}
use Rattle.std.proofs.Math.Bool.{true, false}
use Rattle.std.proofs.Math.Option.{Option, none, some}
use Rattle.std.proofs.Math.Dec.{eqb, leb-zero}
use Rattle.std.specs.Float.Ieee as Ieee
use Rattle.std.proofs.Math.ListN.{get_or}
use Rattle.value.specs.Value.{string, datum, the_nan}
use Rattle.value.specs.Meaning.{bytes_at}
use Rattle.sql.specs.Plan.{Label, unlabelled, unqualified, qualified}
use Rattle.sql.specs.Optimizer.{map_optional}
use Rattle.sheet.specs.Parts.{inside}
use Rattle.sheet.specs.Cell.{Cell, Field, unused, any, bit, table, text, small, Tag, unknown, not_carried, carried, tags, tag_of, field_ok, fields_ok, float_ok, cell_ok, wide}
use Rattle.sheet.specs.Content.{Content, Reader, readers, content_of, constant_cell, label_cell, item_cell, index_lookup_cell, key_lookup_cell, scan_cell, bit0}
use Rattle.sheet_laws.specs.Fits.{All}
use Rattle.sheet_laws.specs.Content.{and_left, and_right, and_true}
use Rattle.compact.specs.Slots.{Slot, number, reference, field_slot, field_slots, value, redirect}
use Rattle.compact.specs.References
use Rattle.compact.proofs.Reading.{map_content}

-- a property of a word's reference, if it is one
abbrev pub Refers : (ℕ → Type 0) → Slot → Type 0
Refers Q (number v) = Unit {0}
Refers Q (reference r) = Q r

-- a field's number, put through f if it is a reference
abbrev pub moved_field : (f : ℕ → ℕ) (flag : ℕ) → Field → ℕ → ℕ
moved_field f flag x v = value (redirect f (field_slot flag x v))

abbrev pub moved_by : (f : ℕ → ℕ) → Tag → Cell → Cell
moved_by f unknown k = k
moved_by f not_carried k = k
moved_by f (carried flags x y z) k =
    record { tag = k.tag; flag = k.flag; origin = k.origin; a = moved_field f k.flag x k.a; b = moved_field f k.flag y k.b; c = moved_field f k.flag z k.c }

-- the cell with its references put through f
unfoldable pub moved_cell : (f : ℕ → ℕ) → Cell → Cell
moved_cell f k = moved_by f (tag_of k.tag) k

-- ---- what it says

module _ (f : ℕ → ℕ) (new old : List ℕ) where
  -- what a reference refers to, in the new text and in the old
  abbrev SameBytes : ℕ → Type 0
  SameBytes r = bytes_at new (f r) ≡ bytes_at old r

  -- of a tag and its reader
  abbrev Reads : Tag → Reader → Type 0
  Reads t r = (k : Cell) → All (Refers SameBytes) (field_slots k t) → r new (moved_by f t k) ≡ map_optional (map_content f) (r old k)

  abbrev through : Bool → ℕ → ℕ
  through b v = value (redirect f (cond b (reference v) (number v)))

  optional_through : (b : Bool) (v : ℕ) → cond b (some (through b v)) none ≡ map_optional f (cond b (some v) none)
  optional_through true v = refl
  optional_through false v = refl

  label_through : (z o x y : Bool) (a b : ℕ) → (z ≡ false → x ≡ true) → (z ≡ false → o ≡ false → y ≡ true)
      → cond z unlabelled (cond o (unqualified (through x a)) (qualified (through x a) (through y b)))
      ≡ References.map_label f (cond z unlabelled (cond o (unqualified a) (qualified a b)))
  label_through true o x y a b p q = refl
  label_through false true true y a b p q = refl
  label_through false true false y a b p q = absurd (let w = p refl in let z : ◌≡◌ {A = ℕ} 0 1 = cc in omega arith)
  label_through false false true true a b p q = refl
  label_through false false true false a b p q = absurd (let w = q refl refl in let z : ◌≡◌ {A = ℕ} 0 1 = cc in omega arith)
  label_through false false false y a b p q = absurd (let w = p refl in let z : ◌≡◌ {A = ℕ} 0 1 = cc in omega arith)

  label_of_through : (k : Cell)
      → cond (eqb k.flag 0) unlabelled (cond (eqb k.flag 1) (unqualified (through (leb 1 k.flag) k.a)) (qualified (through (leb 1 k.flag) k.a) (through (leb 2 k.flag) k.b)))
      ≡ References.map_label f (cond (eqb k.flag 0) unlabelled (cond (eqb k.flag 1) (unqualified k.a) (qualified k.a k.b)))
  label_of_through k =
      label_through (eqb k.flag 0) (eqb k.flag 1) (leb 1 k.flag) (leb 2 k.flag) k.a k.b
      (λ z. le-leb 1 k.flag (omega (arith, eqb-false k.flag 0 z)))
      (λ z o. le-leb 2 k.flag (omega (arith, eqb-false k.flag 0 z, eqb-false k.flag 1 o)))

  string_through : (x : Bool) (v : ℕ) → x ≡ true → Refers SameBytes (cond x (reference v) (number v))
      → ◌≡◌ {A = Option Content} (some (constant_cell (datum (string (through x v) (bytes_at new (through x v)))))) (some (constant_cell (datum (string (f v) (bytes_at old v)))))
  string_through true v e q = ap (λ (l : List ℕ). some (constant_cell (datum (string (f v) l)))) q
  string_through false v e q = absurd (let z : ◌≡◌ {A = ℕ} 0 1 = cc in omega arith)

  -- every tag beside its reader
  abbrev Each : List Tag → List Reader → Type 0
  Each [] [] = Unit {0}
  Each [] (r ∷ rs) = ⊥
  Each (t ∷ ts) [] = ⊥
  Each (t ∷ ts) (r ∷ rs) = Reads t r × Each ts rs

  of_each : (ts : List Tag) (rs : List Reader) → Each ts rs → (i : ℕ) → Reads (get_or ts i unknown) (get_or rs i (λ t k. none))
  of_each [] [] e i = λ k q. refl
  of_each [] (r ∷ rs) e i = absurd e
  of_each (t ∷ ts) [] e i = absurd e
  of_each (t ∷ ts) (r ∷ rs) e zero = e.0
  of_each (t ∷ ts) (r ∷ rs) e (suc i) = of_each ts rs e.1 i

  -- 5 String, 40 Label, 41 Item, 53 IndexLookup, 54 KeyLookup and 62 Scan refer to text; no other tag does.
  each_reads : Each tags readers
  each_reads = (
    (λ k q. refl),
    (
      (λ k q. refl),
      (
        (λ k q. refl),
        (
          (λ k q. refl),
          (
            (λ k q. refl),
            (
              (λ k q. string_through (leb 0 k.flag) k.a (leb-zero k.flag) q.0),
              (
                (λ k q. refl),
                (
                  (λ k q. refl),
                  (
                    (λ k q. refl),
                    (
                      (λ k q. refl),
                      (
                        (λ k q. refl),
                        (
                          (λ k q. refl),
                          (
                            (λ k q. refl),
                            (
                              (λ k q. refl),
                              (
                                (λ k q. refl),
                                (
                                  (λ k q. refl),
                                  (
                                    (λ k q. refl),
                                    (
                                      (λ k q. refl),
                                      (
                                        (λ k q. refl),
                                        (
                                          (λ k q. refl),
                                          (
                                            (λ k q. refl),
                                            (
                                              (λ k q. refl),
                                              (
                                                (λ k q. refl),
                                                (
                                                  (λ k q. refl),
                                                  (
                                                    (λ k q. refl),
                                                    (
                                                      (λ k q. refl),
                                                      (
                                                        (λ k q. refl),
                                                        (
                                                          (λ k q. refl),
                                                          (
                                                            (λ k q. refl),
                                                            (
                                                              (λ k q. refl),
                                                              (
                                                                (λ k q. refl),
                                                                (
                                                                  (λ k q. refl),
                                                                  (
                                                                    (λ k q. refl),
                                                                    (
                                                                      (λ k q. refl),
                                                                      (
                                                                        (λ k q. refl),
                                                                        (
                                                                          (λ k q. refl),
                                                                          (
                                                                            (λ k q. refl),
                                                                            (
                                                                              (λ k q. refl),
                                                                              (
                                                                                (λ k q. refl),
                                                                                (
                                                                                  (λ k q. refl),
                                                                                  (
                                                                                    (λ k q. ap (λ (l : Label). some (label_cell l)) (label_of_through k)),
                                                                                    (
                                                                                      (λ k q. ap (λ (l : Label). some (item_cell l)) (label_of_through k)),
                                                                                      (
                                                                                        (λ k q. refl),
                                                                                        (
                                                                                          (λ k q. refl),
                                                                                          (
                                                                                            (λ k q. refl),
                                                                                            (
                                                                                              (λ k q. refl),
                                                                                              (
                                                                                                (λ k q. refl),
                                                                                                (
                                                                                                  (λ k q. refl),
                                                                                                  (
                                                                                                    (λ k q. refl),
                                                                                                    (
                                                                                                      (λ k q. refl),
                                                                                                      (
                                                                                                        (λ k q. refl),
                                                                                                        (
                                                                                                          (λ k q. refl),
                                                                                                          (
                                                                                                            (λ k q. refl),
                                                                                                            (
                                                                                                              (λ k q. ap (λ (al : Option ℕ). some (index_lookup_cell k.a al (k.c % 65536) (k.c / 65536))) (optional_through (leb 1 k.flag) k.b)),
                                                                                                              (
                                                                                                                (λ k q. ap (λ (al : Option ℕ). some (key_lookup_cell k.a al k.c)) (optional_through (leb 1 k.flag) k.b)),
                                                                                                                (
                                                                                                                  (λ k q. refl),
                                                                                                                  (
                                                                                                                    (λ k q. refl),
                                                                                                                    (
                                                                                                                      (λ k q. refl),
                                                                                                                      (
                                                                                                                        (λ k q. refl),
                                                                                                                        (
                                                                                                                          (λ k q. refl),
                                                                                                                          (
                                                                                                                            (λ k q. refl),
                                                                                                                            (
                                                                                                                              (λ k q. refl),
                                                                                                                              (
                                                                                                                                (λ k q. ap (λ (al : Option ℕ). some (scan_cell (bit0 k) k.a al)) (optional_through (leb 2 k.flag) k.b)),
                                                                                                                                ((λ k q. refl), tt),
                                                                                                                              ),
                                                                                                                            ),
                                                                                                                          ),
                                                                                                                        ),
                                                                                                                      ),
                                                                                                                    ),
                                                                                                                  ),
                                                                                                                ),
                                                                                                              ),
                                                                                                            ),
                                                                                                          ),
                                                                                                        ),
                                                                                                      ),
                                                                                                    ),
                                                                                                  ),
                                                                                                ),
                                                                                              ),
                                                                                            ),
                                                                                          ),
                                                                                        ),
                                                                                      ),
                                                                                    ),
                                                                                  ),
                                                                                ),
                                                                              ),
                                                                            ),
                                                                          ),
                                                                        ),
                                                                      ),
                                                                    ),
                                                                  ),
                                                                ),
                                                              ),
                                                            ),
                                                          ),
                                                        ),
                                                      ),
                                                    ),
                                                  ),
                                                ),
                                              ),
                                            ),
                                          ),
                                        ),
                                      ),
                                    ),
                                  ),
                                ),
                              ),
                            ),
                          ),
                        ),
                      ),
                    ),
                  ),
                ),
              ),
            ),
          ),
        ),
      ),
    ),
  )

  -- The cell says of the new text what it said of the old one, but for its references.
  pub moved_says : (k : Cell) → All (Refers SameBytes) (field_slots k (tag_of k.tag)) → content_of new (moved_cell f k) ≡ map_optional (map_content f) (content_of old k)
  unfolding content_of moved_cell tag_of
  moved_says k q =
      ap (λ (t : ℕ). get_or readers t (λ t k. none) new (moved_by f (get_or tags k.tag unknown) k)) (same_tag (get_or tags k.tag unknown))
      ∙ of_each tags readers each_reads k.tag k q
    where
      same_tag : (t : Tag) → (moved_by f t k).tag ≡ k.tag
      same_tag unknown = refl
      same_tag not_carried = refl
      same_tag (carried flags x y z) = refl

-- ---- its words

module _ (f : ℕ → ℕ) where
  field_redirected : (flag : ℕ) (x : Field) (v : ℕ) → field_slot flag x (moved_field f flag x v) ≡ redirect f (field_slot flag x v)
  field_redirected flag unused v = refl
  field_redirected flag any v = refl
  field_redirected flag bit v = refl
  field_redirected flag table v = refl
  field_redirected flag (small k) v = refl
  field_redirected flag (text k) v = go (leb k flag)
    where
      go : (b : Bool) → cond b (reference (value (redirect f (cond b (reference v) (number v))))) (number (value (redirect f (cond b (reference v) (number v)))))
          ≡ redirect f (cond b (reference v) (number v))
      go true = refl
      go false = refl

  pub same_tag : (t : Tag) (k : Cell) → (moved_by f t k).tag ≡ k.tag
  same_tag unknown k = refl
  same_tag not_carried k = refl
  same_tag (carried flags x y z) k = refl

  pub same_origin : (t : Tag) (k : Cell) → (moved_by f t k).origin ≡ k.origin
  same_origin unknown k = refl
  same_origin not_carried k = refl
  same_origin (carried flags x y z) k = refl

  -- Its words are the cell's, redirected.
  pub moved_slots : (t : Tag) (k : Cell) → field_slots (moved_by f t k) t ≡ map (redirect f) (field_slots k t)
  moved_slots unknown k = refl
  moved_slots not_carried k = refl
  moved_slots (carried flags x y z) k =
      let p = field_redirected k.flag x k.a in
      let q = field_redirected k.flag y k.b in
      let r = field_redirected k.flag z k.c in
      cc

  -- ---- its layout

  module _ (bytes bytes' tables : ℕ) where
    abbrev FitsIn : ℕ → Type 0
    FitsIn r = inside bytes' (f r) ≡ true

    moved_field_ok : (flag : ℕ) (x : Field) (v : ℕ) → Refers FitsIn (field_slot flag x v) → field_ok bytes tables flag x v ≡ true
        → field_ok bytes' tables flag x (moved_field f flag x v) ≡ true
    moved_field_ok flag unused v q h = h
    moved_field_ok flag any v q h = h
    moved_field_ok flag bit v q h = h
    moved_field_ok flag table v q h = h
    moved_field_ok flag (small k) v q h = h
    moved_field_ok flag (text k) v q h = go (leb k flag) q h
      where
        go : (b : Bool) → Refers FitsIn (cond b (reference v) (number v)) → cond b (inside bytes v) (eqb v 0) ≡ true
            → cond b (inside bytes' (value (redirect f (cond b (reference v) (number v))))) (eqb (value (redirect f (cond b (reference v) (number v)))) 0) ≡ true
        go true q h = q
        go false q h = h

    moved_fields_ok : (origins : ℕ) (t : Tag) (k : Cell) → All (Refers FitsIn) (field_slots k t) → fields_ok origins bytes tables k t ≡ true
        → fields_ok origins bytes' tables (moved_by f t k) t ≡ true
    moved_fields_ok origins unknown k q h = h
    moved_fields_ok origins not_carried k q h = h
    moved_fields_ok origins (carried flags x y z) k q h =
        let h1 = and_right (ltb k.flag flags) _ h in
        let h2 = and_right (ltb k.origin origins) _ h1 in
        let h3 = and_right (field_ok bytes tables k.flag x k.a) _ h2 in
        and_true (ltb k.flag flags) _ (and_left (ltb k.flag flags) _ h)
        (and_true (ltb k.origin origins) _ (and_left (ltb k.origin origins) _ h1)
        (and_true (field_ok bytes' tables k.flag x (moved_field f k.flag x k.a)) _ (moved_field_ok k.flag x k.a q.0 (and_left (field_ok bytes tables k.flag x k.a) _ h2))
        (and_true (field_ok bytes' tables k.flag y (moved_field f k.flag y k.b)) _ (moved_field_ok k.flag y k.b q.1.0 (and_left (field_ok bytes tables k.flag y k.b) _ h3))
        (moved_field_ok k.flag z k.c q.1.1.0 (and_right (field_ok bytes tables k.flag y k.b) _ h3)))))

    -- A Float has no reference, and no other cell is asked.
    float_alone : (k : Cell) → eqb k.tag 4 ≡ false → float_ok k ≡ true
    float_alone k e = go (eqb k.tag 4) (not (Ieee.nan_bits Ieee.binary64 (wide k.a k.b)) || eqb (wide k.a k.b) the_nan) e
      where
        go : (b rest : Bool) → b ≡ false → (not b || rest) ≡ true
        go false rest e = refl
        go true rest e = absurd (let z : ◌≡◌ {A = ℕ} 0 1 = cc in omega arith)

    not_float : (t : Tag) (k : Cell) → eqb k.tag 4 ≡ false → float_ok k ≡ true → float_ok (moved_by f t k) ≡ true
    not_float unknown k e h = h
    not_float not_carried k e h = h
    not_float (carried flags x y z) k e h = float_alone (moved_by f (carried flags x y z) k) e

    moved_float_ok : (k : Cell) → float_ok k ≡ true → float_ok (moved_by f (tag_of k.tag) k) ≡ true
    unfolding tag_of
    moved_float_ok k h = go (eqb k.tag 4) refl
      where
        go : (b : Bool) → eqb k.tag 4 ≡ b → float_ok (moved_by f (tag_of k.tag) k) ≡ true
        go true e = subst (λ (t : ℕ). float_ok (moved_by f (tag_of t) k) ≡ true) (sym (eqb-true k.tag 4 e)) h
        go false e = not_float (tag_of k.tag) k e h

    pub moved_ok : (origins : ℕ) (k : Cell) → All (Refers FitsIn) (field_slots k (tag_of k.tag)) → cell_ok origins bytes tables k ≡ true
        → cell_ok origins bytes' tables (moved_cell f k) ≡ true
    unfolding cell_ok moved_cell
    moved_ok origins k q h =
        let t = tag_of k.tag in
        let w : fields_ok origins bytes' tables (moved_by f t k) (tag_of (moved_by f t k).tag) ≡ true =
        subst (λ (n : ℕ). fields_ok origins bytes' tables (moved_by f t k) (tag_of n) ≡ true) (sym (same_tag t k))
        (moved_fields_ok origins t k q (and_left (fields_ok origins bytes tables k t) (float_ok k) h)) in
        and_true (fields_ok origins bytes' tables (moved_by f t k) (tag_of (moved_by f t k).tag)) (float_ok (moved_by f t k)) w
        (moved_float_ok k (and_right (fields_ok origins bytes tables k t) (float_ok k) h))
