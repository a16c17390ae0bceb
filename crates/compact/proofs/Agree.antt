-- Two readings of a cell agree: its references put through f and then g, or through g' at once.
use Rattle.std.specs.Prelude.{ℕ, zero, suc, ◌/◌, ◌%◌, ◌≡◌, refl, Bool, true, false, cond, List, [], ◌∷◌, map, leb, eqb, get_or}
use Rattle.std.proofs.Common.{arith, le-leb, sym, ap, ap₂, ◌∙◌}
use Rattle.std.proofs.lemmas.Bool.{eqb-false}
use Rattle.std.proofs.Math.Option.{Option, none, some}
use Rattle.std.proofs.Math.Dec.{leb-zero}
use Rattle.value.specs.Value.{string, datum}
use Rattle.value.specs.Meaning.{bytes_at}
use Rattle.sql.specs.Plan.{Label, unlabelled, unqualified, qualified}
use Rattle.sql.specs.Optimizer.{map_optional}
use Rattle.sheet.specs.Cell.{Cell, unused, text, Tag, unknown, carried, tags, tag_of}
use Rattle.sheet.specs.Content.{Content, Reader, readers, content_of, constant_cell, label_cell, item_cell, index_lookup_cell, key_lookup_cell, scan_cell, bit0}
use Rattle.sheet_laws.specs.Fits.{All}
use Rattle.compact.specs.Slots.{Slot, number, reference, field_slots}
use Rattle.compact.specs.References
use Rattle.compact.proofs.Reading.{map_content}
use Rattle.compact.proofs.Cells.{Refers}

module _ (f g g' : ℕ → ℕ) (old : List ℕ) where
  abbrev Agree : ℕ → Type 0
  Agree r = g (f r) ≡ g' r

  -- of a tag and its reader
  abbrev Reads : Tag → Reader → Type 0
  Reads t r = (k : Cell) → All (Refers Agree) (field_slots k t) → map_optional (map_content g) (map_optional (map_content f) (r old k)) ≡ map_optional (map_content g') (r old k)

  optional_agrees : (b : Bool) (v : ℕ) → Refers Agree (cond b (reference v) (number v)) → map_optional g (map_optional f (cond b (some v) none)) ≡ map_optional g' (cond b (some v) none)
  optional_agrees true v q = ap some q
  optional_agrees false v q = refl

  label_agrees : (z o x y : Bool) (a b : ℕ) → (z ≡ false → x ≡ true) → (z ≡ false → o ≡ false → y ≡ true) → Refers Agree (cond x (reference a) (number a)) → Refers Agree (cond y (reference b) (number b))
      → References.map_label g (References.map_label f (cond z unlabelled (cond o (unqualified a) (qualified a b)))) ≡ References.map_label g' (cond z unlabelled (cond o (unqualified a) (qualified a b)))
  label_agrees true o x y a b p q m n = refl
  label_agrees false true true y a b p q m n = ap unqualified m
  label_agrees false true false y a b p q m n = absurd (let w = p refl in let z : ◌≡◌ {A = ℕ} 0 1 = cc in omega arith)
  label_agrees false false true true a b p q m n = ap₂ qualified m n
  label_agrees false false true false a b p q m n = absurd (let w = q refl refl in let z : ◌≡◌ {A = ℕ} 0 1 = cc in omega arith)
  label_agrees false false false y a b p q m n = absurd (let w = p refl in let z : ◌≡◌ {A = ℕ} 0 1 = cc in omega arith)

  label_of_agrees : (k : Cell) → All (Refers Agree) (field_slots k (carried 3 (text 1) (text 2) unused))
      → References.map_label g (References.map_label f (cond (eqb k.flag 0) unlabelled (cond (eqb k.flag 1) (unqualified k.a) (qualified k.a k.b))))
      ≡ References.map_label g' (cond (eqb k.flag 0) unlabelled (cond (eqb k.flag 1) (unqualified k.a) (qualified k.a k.b)))
  label_of_agrees k q =
      label_agrees (eqb k.flag 0) (eqb k.flag 1) (leb 1 k.flag) (leb 2 k.flag) k.a k.b
      (λ z. le-leb 1 k.flag (omega (arith, eqb-false k.flag 0 z)))
      (λ z o. le-leb 2 k.flag (omega (arith, eqb-false k.flag 0 z, eqb-false k.flag 1 o))) q.0 q.1.0

  string_agrees : (x : Bool) (v : ℕ) → x ≡ true → Refers Agree (cond x (reference v) (number v)) → g (f v) ≡ g' v
  string_agrees true v e q = q
  string_agrees false v e q = absurd (let z : ◌≡◌ {A = ℕ} 0 1 = cc in omega arith)

  -- every tag beside its reader
  abbrev Each : List Tag → List Reader → Type 0
  Each [] [] = Unit {0}
  Each [] (r ∷ rs) = ⊥
  Each (t ∷ ts) [] = ⊥
  Each (t ∷ ts) (r ∷ rs) = Reads t r × Each ts rs

  of_each : (ts : List Tag) (rs : List Reader) → Each ts rs → (i : ℕ) → Reads (get_or ts i unknown) (get_or rs i (λ t k. none))
  of_each [] [] e i = λ k q. refl
  of_each [] (r ∷ rs) e i = absurd e
  of_each (t ∷ ts) [] e i = absurd e
  of_each (t ∷ ts) (r ∷ rs) e zero = e.0
  of_each (t ∷ ts) (r ∷ rs) e (suc i) = of_each ts rs e.1 i

  -- As in Cells.antt.
  each_reads : Each tags readers
  each_reads = (
    (λ k q. refl),
    (
      (λ k q. refl),
      (
        (λ k q. refl),
        (
          (λ k q. refl),
          (
            (λ k q. refl),
            (
              (λ k q. ap (λ (r : ℕ). some (constant_cell (datum (string r (bytes_at old k.a))))) (string_agrees (leb 0 k.flag) k.a (leb-zero k.flag) q.0)),
              (
                (λ k q. refl),
                (
                  (λ k q. refl),
                  (
                    (λ k q. refl),
                    (
                      (λ k q. refl),
                      (
                        (λ k q. refl),
                        (
                          (λ k q. refl),
                          (
                            (λ k q. refl),
                            (
                              (λ k q. refl),
                              (
                                (λ k q. refl),
                                (
                                  (λ k q. refl),
                                  (
                                    (λ k q. refl),
                                    (
                                      (λ k q. refl),
                                      (
                                        (λ k q. refl),
                                        (
                                          (λ k q. refl),
                                          (
                                            (λ k q. refl),
                                            (
                                              (λ k q. refl),
                                              (
                                                (λ k q. refl),
                                                (
                                                  (λ k q. refl),
                                                  (
                                                    (λ k q. refl),
                                                    (
                                                      (λ k q. refl),
                                                      (
                                                        (λ k q. refl),
                                                        (
                                                          (λ k q. refl),
                                                          (
                                                            (λ k q. refl),
                                                            (
                                                              (λ k q. refl),
                                                              (
                                                                (λ k q. refl),
                                                                (
                                                                  (λ k q. refl),
                                                                  (
                                                                    (λ k q. refl),
                                                                    (
                                                                      (λ k q. refl),
                                                                      (
                                                                        (λ k q. refl),
                                                                        (
                                                                          (λ k q. refl),
                                                                          (
                                                                            (λ k q. refl),
                                                                            (
                                                                              (λ k q. refl),
                                                                              (
                                                                                (λ k q. refl),
                                                                                (
                                                                                  (λ k q. refl),
                                                                                  (
                                                                                    (λ k q. ap (λ (l : Label). some (label_cell l)) (label_of_agrees k q)),
                                                                                    (
                                                                                      (λ k q. ap (λ (l : Label). some (item_cell l)) (label_of_agrees k q)),
                                                                                      (
                                                                                        (λ k q. refl),
                                                                                        (
                                                                                          (λ k q. refl),
                                                                                          (
                                                                                            (λ k q. refl),
                                                                                            (
                                                                                              (λ k q. refl),
                                                                                              (
                                                                                                (λ k q. refl),
                                                                                                (
                                                                                                  (λ k q. refl),
                                                                                                  (
                                                                                                    (λ k q. refl),
                                                                                                    (
                                                                                                      (λ k q. refl),
                                                                                                      (
                                                                                                        (λ k q. refl),
                                                                                                        (
                                                                                                          (λ k q. refl),
                                                                                                          (
                                                                                                            (λ k q. refl),
                                                                                                            (
                                                                                                              (λ k q. ap (λ (al : Option ℕ). some (index_lookup_cell k.a al (k.c % 65536) (k.c / 65536))) (optional_agrees (leb 1 k.flag) k.b q.1.0)),
                                                                                                              (
                                                                                                                (λ k q. ap (λ (al : Option ℕ). some (key_lookup_cell k.a al k.c)) (optional_agrees (leb 1 k.flag) k.b q.1.0)),
                                                                                                                (
                                                                                                                  (λ k q. refl),
                                                                                                                  (
                                                                                                                    (λ k q. refl),
                                                                                                                    (
                                                                                                                      (λ k q. refl),
                                                                                                                      (
                                                                                                                        (λ k q. refl),
                                                                                                                        (
                                                                                                                          (λ k q. refl),
                                                                                                                          (
                                                                                                                            (λ k q. refl),
                                                                                                                            (
                                                                                                                              (λ k q. refl),
                                                                                                                              (
                                                                                                                                (λ k q. ap (λ (al : Option ℕ). some (scan_cell (bit0 k) k.a al)) (optional_agrees (leb 2 k.flag) k.b q.1.0)),
                                                                                                                                ((λ k q. refl), tt),
                                                                                                                              ),
                                                                                                                            ),
                                                                                                                          ),
                                                                                                                        ),
                                                                                                                      ),
                                                                                                                    ),
                                                                                                                  ),
                                                                                                                ),
                                                                                                              ),
                                                                                                            ),
                                                                                                          ),
                                                                                                        ),
                                                                                                      ),
                                                                                                    ),
                                                                                                  ),
                                                                                                ),
                                                                                              ),
                                                                                            ),
                                                                                          ),
                                                                                        ),
                                                                                      ),
                                                                                    ),
                                                                                  ),
                                                                                ),
                                                                              ),
                                                                            ),
                                                                          ),
                                                                        ),
                                                                      ),
                                                                    ),
                                                                  ),
                                                                ),
                                                              ),
                                                            ),
                                                          ),
                                                        ),
                                                      ),
                                                    ),
                                                  ),
                                                ),
                                              ),
                                            ),
                                          ),
                                        ),
                                      ),
                                    ),
                                  ),
                                ),
                              ),
                            ),
                          ),
                        ),
                      ),
                    ),
                  ),
                ),
              ),
            ),
          ),
        ),
      ),
    ),
  )

  pub says_agree : (k : Cell) → All (Refers Agree) (field_slots k (tag_of k.tag))
      → map_optional (map_content g) (map_optional (map_content f) (content_of old k)) ≡ map_optional (map_content g') (content_of old k)
  unfolding content_of tag_of
  says_agree k q = of_each tags readers each_reads k.tag k q
