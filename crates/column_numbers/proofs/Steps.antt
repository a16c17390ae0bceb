-- What a rewrite of columns asks of an expression's cells, and what it has written, from what its calls have.
use Prim.Native.Nat.{ℕ, ◌+◌, ◌≤◌, ◌<◌}
use native.Mathlib.Omega.{arith}
use mathlib.Core.Path.{◌≡◌, refl, sym, ap, ap₂, ◌∙◌}
use mathlib.Core.List.{List, [], ◌∷◌, ◌++◌, append_assoc, map}
use lib.ListN.{length, take, drop, length-append, take-append-drop}
use lib.Seq.{take_at, length-take-le}
use borrow.Author.Tests.{ne_eqb}
use Rattle.sql.specs.Expression.{Expression, constant, column, unary, binary, map_columns}
use Rattle.sheet.specs.Content.{Content, constant_cell, column_cell, unary_cell, binary_cell}
use Rattle.cells.specs.declared.Cell.{Cell}
use Rattle.cells.specs.Cells.{cell_words, Part}
use Rattle.cells.specs.Room.{Copies}
use Rattle.cells.proofs.Laws.{no_more, done, wrote_up}
use Rattle.words.specs.Words.{cell, expression_words}
use Rattle.words.specs.Place.{ExpressionHere, ExpressionAt, Maps}
use Rattle.words.proofs.Expressions.{tag, constant_tag, unary_range, binary_range}
use Rattle.column_numbers.specs.declared.Change.{Change}
use Rattle.column_numbers.specs.declared.Change.TheVariants.{Down, Up, Replace}
use Rattle.column_numbers.specs.Columns.{changed, Room, changed_cell, changed_sized, EachCell, CellsAt, Rewrites, EachColumn, Changeable, SmallAt}
use Rattle.column_numbers.specs.Flat.{flat, cells_before}
use Rattle.column_numbers.proofs.Flat.{flat_words}

-- ---- a property of each column

pub each_column : {P : ℕ → Type 0} → ((c : ℕ) → P c) → (e : Expression) → EachColumn P e
each_column f (constant og v) = tt
each_column f (column og c) = f c
each_column f (unary og o x) = each_column f x
each_column f (binary og o l r) = (each_column f l, each_column f r)

pub each_so : {P Q : ℕ → Type 0} → ((c : ℕ) → P c → Q c) → (e : Expression) → EachColumn P e → EachColumn Q e
each_so f (constant og v) h = tt
each_so f (column og c) h = f c h
each_so f (unary og o x) h = each_so f x h
each_so f (binary og o l r) h = (each_so f l h.0, each_so f r h.1)

-- ---- where a rewrite has room

module _ {s : List ℕ} {lo hi : ℕ} where
  pub down : (n : ℕ) → ExpressionAt s lo hi → Changeable (Down n) s lo hi
  down n t = record { e = t.e; here = t.here; room = each_column {P = Room (Down n)} (λ c. tt) t.e }

  pub replaced : (from to : ℕ) → ExpressionAt s lo hi → Changeable (Replace from to) s lo hi
  replaced from to t = record { e = t.e; here = t.here; room = each_column {P = Room (Replace from to)} (λ c. tt) t.e }

  pub up : (n : ℕ) → SmallAt n s lo hi → Changeable (Up n) s lo hi
  up n t = record { e = t.e; here = t.here; room = t.small }

pub some_there : {k : Change} {s : List ℕ} {lo hi : ℕ} → Changeable k s lo hi → ExpressionAt s lo hi
some_there t = record { e = t.e; here = t.here }

each_cell : (k : Change) (e : Expression) → EachColumn (Room k) e → (cs : List (Cell × ℕ)) → EachCell k cs → EachCell k (cells_before e cs)
unfolding cell
each_cell k (constant og v) h cs f = (λ z. absurd (omega (arith, constant_tag v)), f)
each_cell k (column og i) h cs f = (λ z. h, f)
each_cell k (unary og o x) h cs f = each_cell k x h ((cell og (unary_cell o), length (expression_words x) + cell_words) ∷ cs) (λ z. absurd (omega (arith, unary_range o)), f)
each_cell k (binary og o l r) h cs f =
    let c : Cell × ℕ = (cell og (binary_cell o), length (expression_words l ++ expression_words r) + cell_words) in
    each_cell k l h.0 (cells_before r (c ∷ cs)) (each_cell k r h.1 (c ∷ cs) (λ z. absurd (omega (arith, (binary_range o).0)), f))

-- ---- the cells of the rewritten expression are the rewritten cells

long_kept : (f : ℕ → ℕ) (e : Expression) → length (expression_words e) ≡ length (expression_words (map_columns f e))
unfolding expression_words
long_kept f (constant og v) = refl
long_kept f (column og i) = refl
long_kept f (unary og o x) = simp length-append (omega (arith, long_kept f x))
long_kept f (binary og o l r) = simp length-append (omega (arith, long_kept f l, long_kept f r))

other_kept : (k : Change) (og : ℕ) (t : Content) → (tag t ≡ 6 → ⊥) → changed_cell k (cell og t) ≡ cell og t
unfolding cell
other_kept k og t h = simp (ne_eqb (tag t) 6 h)

column_changed : (k : Change) (og i : ℕ) → changed_cell k (cell og (column_cell i)) ≡ cell og (column_cell (changed k i))
unfolding cell
column_changed k og i = refl

changed_before : (k : Change) (e : Expression) (cs : List (Cell × ℕ))
    → map (changed_sized k) (cells_before e cs) ≡ cells_before (map_columns (changed k) e) (map (changed_sized k) cs)
changed_before k (constant og v) cs =
    ap (λ (c : Cell). (c, cell_words) ∷ map (changed_sized k) cs) (other_kept k og (constant_cell v) (λ z. omega (arith, constant_tag v)))
changed_before k (column og i) cs = ap (λ (c : Cell). (c, cell_words) ∷ map (changed_sized k) cs) (column_changed k og i)
changed_before k (unary og o x) cs =
    changed_before k x ((cell og (unary_cell o), length (expression_words x) + cell_words) ∷ cs)
    ∙ ap₂ (λ (c : Cell) (n : ℕ). cells_before (map_columns (changed k) x) ((c, n + cell_words) ∷ map (changed_sized k) cs))
    (other_kept k og (unary_cell o) (λ z. omega (arith, unary_range o)))
    (long_kept (changed k) x)
changed_before k (binary og o l r) cs =
    let f = map_columns (changed k) in
    let c : Cell × ℕ = (cell og (binary_cell o), length (expression_words l ++ expression_words r) + cell_words) in
    let m : length (expression_words l ++ expression_words r) ≡ length (expression_words (f l) ++ expression_words (f r)) =
    simp length-append (omega (arith, long_kept (changed k) l, long_kept (changed k) r)) in
    changed_before k l (cells_before r (c ∷ cs))
    ∙ ap (cells_before (f l)) (changed_before k r (c ∷ cs))
    ∙ ap₂ (λ (c : Cell) (n : ℕ). cells_before (f l) (cells_before (f r) ((c, n + cell_words) ∷ map (changed_sized k) cs)))
    (other_kept k og (binary_cell o) (λ z. omega (arith, (binary_range o).0)))
    m

changed_words : (k : Change) (e : Expression) → flat (map (changed_sized k) (cells_before e [])) ≡ expression_words (map_columns (changed k) e)
changed_words k e = ap flat (changed_before k e []) ∙ flat_words (map_columns (changed k) e)

-- ---- what is written

module _ {s : List ℕ} {lo hi : ℕ} {d : List ℕ} {at n : ℕ} {d₁ : List ℕ} (j : length d₁ ≡ length d) (c : Copies s lo hi d at n d₁) where
  -- where the copy stands
  abbrev copy_here : n ≤ length d₁ → (e : Expression) → ExpressionHere s lo hi e → Part d₁ at n (flat (cells_before e []))
  copy_here z e u =
      let w = expression_words e in
      let up = wrote_up (c w u.part) (omega arith) in
      let f = ((c w u.part).is (omega arith)).1 in
      record {
        before = take at d;
        after = drop n d₁;
        whole = sym (take-append-drop n d₁) ∙ ap (λ (b : List ℕ). b ++ drop n d₁) f ∙ append_assoc (take at d) w (drop n d₁)
            ∙ ap (λ (b : List ℕ). take at d ++ (b ++ drop n d₁)) (sym (flat_words e));
        low = length-take-le at d (omega arith);
        high = omega (arith, ap length (flat_words e));
      }

  pub copy_cells : {k : Change} → n ≤ length d₁ → Changeable k s lo hi → CellsAt k d₁ at n
  copy_cells {k} z t = record { cells = cells_before t.e []; part = copy_here z t.e t.here; room = each_cell k t.e t.room [] tt }

  pub change_full : (k : Change) → length d₁ < n → Maps (map_columns (changed k)) s lo hi d at n d₁
  change_full k z e u =
      let w = expression_words e in
      let l = long_kept (changed k) e in
      no_more (omega arith) (omega arith) (c w u.part)

  pub change_done : (k : Change) → n ≤ length d₁ → {r : ℕ} {d₂ : List ℕ} → r ≡ n → Rewrites k d₁ at n d₂ → Maps (map_columns (changed k)) s lo hi d at r d₂
  change_done k z {r} {d₂} q g e u =
      let w = expression_words (map_columns (changed k) e) in
      let l = long_kept (changed k) e in
      let p = copy_here z e u in
      let up = wrote_up (c (expression_words e) u.part) (omega arith) in
      let is : d₂ ≡ (take at d ++ w) ++ drop n d₁ =
      g (cells_before e []) p ∙ ap (λ (b : List ℕ). take at d ++ (b ++ drop n d₁)) (changed_words k e) ∙ sym (append_assoc (take at d) w (drop n d₁)) in
      done (omega arith) (omega arith)
      (ap (λ (b : ℕ). take b d₂) q
      ∙ ap (take n) is
      ∙ take_at (take at d ++ w) (drop n d₁) n (omega (arith, length-append (take at d) w, length-take-le at d (omega arith))))
