-- Reading cells by a stack: what the stack holds is what the cells say.
use Prim.Native.Nat.{ℕ, zero, suc, ◌+◌}
use Rattle.std.proofs.Common.{zero-add, ◌∙◌, subst}
use native.Mathlib.Omega.{arith}
use Rattle.std.proofs.Math.Path.{◌≡◌, refl, sym, ap}
use Rattle.std.proofs.Math.Bool.{true, false}
use mathlib.Core.List.{List, [], ◌∷◌, ◌++◌, append_assoc, append-nil}
use Rattle.std.proofs.Math.Option.{Option, none, some}
use Rattle.std.proofs.Math.ListN.{length, length-append}
use Rattle.sql.specs.Expression.{unary}
use Rattle.sql.specs.Plan.{by_key, by_index, scan, lookup, nothing, values, limit, offset, order, projection, remap, Over, other, leaf, over}
use Rattle.sheet.specs.Cell.{Cell}
use Rattle.sheet.specs.Content.{Content, marked, constant_cell, column_cell, unary_cell, binary_cell, label_cell, item_cell, key_cell, target_cell, agg_cell, row_cell, aggregate_cell, filter_cell, hash_join_cell, index_lookup_cell, key_lookup_cell, limit_cell, offset_cell, nested_loop_join_cell, nothing_cell, order_cell, projection_cell, remap_cell, scan_cell, values_cell}
use Rattle.sheet.specs.Cells.{all_cells, alone, expression_cells, leaf_cells, other_cells, over_cells, join_cells, cells}
use Rattle.sheet.specs.Tree.{Tree, expression_tree, item_tree, key_tree, agg_tree, row_tree, node_tree, bind, a_node, Stack, pop, children, child, push, reduce, after, lacking, stack, read}
use Rattle.sheet_laws.specs.Fits.{All, EachOver, ExactCell}
use Rattle.sheet_laws.specs.Content.{says, ok_marked}
use Rattle.sheet_laws.specs.Reading.{tree_cells, stack_cells, EachTree, Sort, no_child, the_child, expression_sort, label_sort, item_sort, key_sort, target_sort, agg_sort, row_sort, node_sort, constant_sort, pushed, Reduced, Runs, at_end, on, Good, Sound}

the_stack : {a b : Stack} → stack a ≡ stack b → a ≡ b
the_stack h = cc

-- ---- taking children off

module _ {A : Type 0} {sort : Tree → Option A} (S : Sort A sort) where
  -- A property of a stack that starts with such a child, where a child is taken off.
  pub child_taken : (Q : Stack → Type 0) (st next : Stack) (f : A → Stack → Option Stack)
      → ((a : A) (rest : Stack) → f a rest ≡ some next → Q (S.tree a ∷ rest)) → child sort st f ≡ some next → Q st
  child_taken Q [] next f q h = no_child h
  child_taken Q (t ∷ rest) next f q h = go (sort t) refl h
    where
      go : (o : Option A) → sort t ≡ o → bind o (λ a. f a rest) ≡ some next → Q (t ∷ rest)
      go none e h = no_child h
      go (some a) e h = subst (λ (u : Tree). Q (u ∷ rest)) (sym (S.only t a e)) (q a rest h)

  pushed_last : (xs : List A) (a : A) (st : Stack) → pushed S.tree (xs ++ (a ∷ [])) st ≡ S.tree a ∷ pushed S.tree xs st
  pushed_last [] a st = refl
  pushed_last (x ∷ xs) a st = pushed_last xs a (S.tree x ∷ st)

  -- `pop` takes off what was put on.
  record Popped (n : ℕ) (later : List A) (st : Stack) (all : List A) (rest : Stack) : Type 0 where
    taken : List A
    whole : all ≡ taken ++ later
    on_top : st ≡ pushed S.tree taken rest
    count : length taken ≡ n

  popped : (n : ℕ) (later : List A) (st : Stack) (all : List A) (rest : Stack) → pop sort n later st ≡ some (all, rest) → Popped n later st all rest
  unfolding pop
  popped zero later st all rest h =
      let e = the_child {B = List A × Stack} (λ p. p) h in
      record { taken = []; whole = sym (ap (λ p. p.0) e); on_top = ap (λ p. p.1) e; count = refl }
  popped (suc n) later [] all rest h = no_child h
  popped (suc n) later (t ∷ st) all rest h = go (sort t) refl (λ a. popped n (a ∷ later) st all rest) h
    where
      go : (o : Option A) → sort t ≡ o → ((a : A) → pop sort n (a ∷ later) st ≡ some (all, rest) → Popped n (a ∷ later) st all rest)
          → ◌≡◌ {A = Option (List A × Stack)} (elim o [ none ↦ none | some a ↦ pop sort n (a ∷ later) st ]) (some (all, rest)) → Popped (suc n) later (t ∷ st) all rest
      go none e ih h = no_child h
      go (some a) e ih h =
          let p = ih a h in
          record {
            taken = p.taken ++ (a ∷ []);
            whole = p.whole ∙ sym (append_assoc p.taken (a ∷ []) later);
            on_top = cc (S.only t a e, p.on_top, pushed_last p.taken a rest);
            count = simp length-append (omega (arith, p.count));
          }

  pub children_taken : (Q : ℕ → Stack → Type 0) (n : ℕ) (st next : Stack) (f : List A → Stack → Option Stack)
      → ((xs : List A) (rest : Stack) → f xs rest ≡ some next → Q (length xs) (pushed S.tree xs rest)) → children sort n st f ≡ some next → Q n st
  children_taken Q n st next f q h = go (pop sort n [] st) refl h
    where
      go : (o : Option (List A × Stack)) → pop sort n [] st ≡ o → bind o (λ p. f p.0 p.1) ≡ some next → Q n st
      go none e h = no_child h
      go (some p) e h =
          let d = popped n [] st p.0 p.1 e in
          let w : p.0 ≡ d.taken = d.whole ∙ append-nil d.taken in
          let r = q d.taken p.1 (ap (λ (xs : List A). f xs p.1) (sym w) ∙ h) in
          subst (λ (m : ℕ). Q m st) d.count (subst (λ (u : Stack). Q (length d.taken) u) (sym d.on_top) r)

  -- children put on can be taken off
  pop_pushed : (xs : List A) (n : ℕ) (later : List A) (st : Stack) → pop sort (length xs + n) later (pushed S.tree xs st) ≡ pop sort n (xs ++ later) st
  unfolding pop
  pop_pushed [] n later st = ap (λ (m : ℕ). pop sort m later st) (zero-add n)
  pop_pushed (x ∷ xs) n later st =
      let e : suc (length xs) + n ≡ length xs + suc n = omega arith in
      rw e (pop_pushed xs (suc n) later (S.tree x ∷ st)
      ∙ ap (λ (o : Option A). elim o [ none ↦ none | some a ↦ pop sort n (a ∷ (xs ++ later)) st ]) (S.of x))

  pub children_pushed : (xs : List A) (st : Stack) (f : List A → Stack → Option Stack) → children sort (length xs) (pushed S.tree xs st) f ≡ f xs st
  unfolding pop
  children_pushed xs st f =
      let e : length xs ≡ length xs + 0 = omega arith in
      ap (λ (o : Option (List A × Stack)). bind o (λ p. f p.0 p.1))
      (ap (λ (n : ℕ). pop sort n [] (pushed S.tree xs st)) e ∙ pop_pushed xs 0 [] st ∙ ap (λ (l : List A). some (l, st)) (append-nil xs))

pub pushed_cells : {A : Type 0} (tree : A → Tree) (xs : List A) (st : Stack) → stack_cells (pushed tree xs st) ≡ stack_cells st ++ all_cells (λ x. tree_cells (tree x)) xs
pushed_cells tree [] st = sym (append-nil (stack_cells st))
pushed_cells tree (x ∷ xs) st = pushed_cells tree xs (tree x ∷ st) ∙ append_assoc (stack_cells st) (tree_cells (tree x)) (all_cells (λ y. tree_cells (tree y)) xs)

pub pushed_all : {A : Type 0} (Q : Tree → Type 0) (tree : A → Tree) (xs : List A) (st : Stack) → All Q (pushed tree xs st) → All (λ x. Q (tree x)) xs × All Q st
pushed_all Q tree [] st h = (tt, h)
pushed_all Q tree (x ∷ xs) st h = let p = pushed_all Q tree xs (tree x ∷ st) h in ((p.1.0, p.0), p.1.1)

module _ (P : Content → Type 0) where
  -- from the tree that was put on
  put_on : {og : ℕ} {k : Content} {t : Tree} {st rest next : Stack} → stack_cells rest ++ tree_cells t ≡ stack_cells st ++ alone og k
      → (All (EachTree P) st → P k → All (EachTree P) (t ∷ rest)) → push t rest ≡ some next → Reduced P og k st next
  put_on {og} {k} {t} {st} {rest} {next} e a h =
      subst (λ (u : Stack). Reduced P og k st u) (the_child (λ (u : Stack). u) h) (record { cells_are = e; keeps = a })

  -- a cell with one child
  one : {A : Type 0} {sort : Tree → Option A} (S : Sort A sort) (og : ℕ) (k : Content) (tree : A → Tree)
      → ((x : A) → tree_cells (tree x) ≡ tree_cells (S.tree x) ++ alone og k) → ((x : A) → EachTree P (S.tree x) → P k → EachTree P (tree x))
      → (st next : Stack) → child sort st (λ x rest. push (tree x) rest) ≡ some next → Reduced P og k st next
  one S og k tree c e st next h =
      child_taken S (λ u. Reduced P og k u next) st next (λ x rest. push (tree x) rest)
      (λ x rest. put_on (simp (c, append_assoc)) (λ all p. (e x all.0 p, all.1))) h

  -- a cell with a row of children and their count
  row_of : {A : Type 0} {sort : Tree → Option A} (S : Sort A sort) (og : ℕ) (k : ℕ → Content) (tree : List A → Tree)
      → ((xs : List A) → tree_cells (tree xs) ≡ all_cells (λ x. tree_cells (S.tree x)) xs ++ alone og (k (length xs)))
      → ((xs : List A) → All (λ x. EachTree P (S.tree x)) xs → P (k (length xs)) → EachTree P (tree xs))
      → (n : ℕ) (st next : Stack) → children sort n st (λ xs rest. push (tree xs) rest) ≡ some next → Reduced P og (k n) st next
  row_of S og k tree c e n st next h =
      children_taken S (λ m u. Reduced P og (k m) u next) n st next (λ xs rest. push (tree xs) rest)
      (λ xs rest. put_on (simp (c, pushed_cells S.tree, append_assoc))
      (λ all p. let q = pushed_all (EachTree P) S.tree xs rest all in (e xs q.0 p, q.1))) h

  -- a source, and then such a row
  row_over : {A : Type 0} {sort : Tree → Option A} (S : Sort A sort) (og : ℕ) (k : ℕ → Content) (o : List A → Over)
      → ((xs : List A) → over_cells og (o xs) ≡ all_cells (λ x. tree_cells (S.tree x)) xs ++ alone og (k (length xs)))
      → ((xs : List A) → All (λ x. EachTree P (S.tree x)) xs → P (k (length xs)) → EachOver P (o xs))
      → (n : ℕ) (st next : Stack) → children sort n st (λ xs below. child a_node below (λ s rest. push (node_tree (over og (o xs) s)) rest)) ≡ some next → Reduced P og (k n) st next
  unfolding cells
  row_over S og k o c e n st next h =
      children_taken S (λ m u. Reduced P og (k m) u next) n st next (λ xs below. child a_node below (λ s rest. push (node_tree (over og (o xs) s)) rest))
      (λ xs below. child_taken node_sort (λ u. Reduced P og (k (length xs)) (pushed S.tree xs u) next) below next (λ s rest. push (node_tree (over og (o xs) s)) rest)
      (λ s rest. put_on (simp (c, pushed_cells S.tree, append_assoc))
      (λ all p. let q = pushed_all (EachTree P) S.tree xs (node_tree s ∷ rest) all in ((q.1.0, e xs q.0 p), q.1.1)))) h

  pub reduced : (og : ℕ) (k : Content) (st next : Stack) → reduce og k st ≡ some next → Reduced P og k st next
  unfolding reduce expression_cells cells leaf_cells over_cells other_cells join_cells
  reduced og (constant_cell v) st next h = put_on refl (λ all p. (p, all)) h
  reduced og (column_cell i) st next h = put_on refl (λ all p. (p, all)) h
  reduced og (unary_cell o) st next h = one expression_sort og (unary_cell o) (λ x. expression_tree (unary og o x)) (λ x. refl) (λ x a p. (a, p)) st next h
  reduced og (binary_cell o) st next h =
      child_taken expression_sort (λ u. Reduced P og (binary_cell o) u next) st next _
      (λ r below. child_taken expression_sort (λ u. Reduced P og (binary_cell o) (expression_tree r ∷ u) next) below next _
      (λ l rest. put_on (simp append_assoc) (λ all p. ((all.1.0, (all.0, p)), all.1.1)))) h
  reduced og (label_cell l) st next h = put_on refl (λ all p. (p, all)) h
  reduced og (item_cell l) st next h = one expression_sort og (item_cell l) (λ x. item_tree (x, l, og)) (λ x. refl) (λ x a p. (a, p)) st next h
  reduced og (key_cell d) st next h = one expression_sort og (key_cell d) (λ x. key_tree (x, d, og)) (λ x. refl) (λ x a p. (a, p)) st next h
  reduced og (target_cell t) st next h = put_on refl (λ all p. (p, all)) h
  reduced og (agg_cell f) st next h = one expression_sort og (agg_cell f) (λ x. agg_tree (f, x, og)) (λ x. refl) (λ x a p. (a, p)) st next h
  reduced og (row_cell n) st next h = row_of expression_sort og row_cell (λ es. row_tree (es, og)) (λ xs. refl) (λ xs a p. (a, p)) n st next h
  reduced og (aggregate_cell n m) st next h =
      children_taken agg_sort (λ i u. Reduced P og (aggregate_cell n i) u next) m st next _
      (λ gs below. children_taken expression_sort (λ i u. Reduced P og (aggregate_cell i (length gs)) (pushed agg_tree gs u) next) n below next _
      (λ es low. child_taken node_sort (λ u. Reduced P og (aggregate_cell (length es) (length gs)) (pushed agg_tree gs (pushed expression_tree es u)) next) low next _
      (λ s rest. put_on (simp (pushed_cells agg_tree, pushed_cells expression_tree, append_assoc))
      (λ all p.
      let q = pushed_all (EachTree P) agg_tree gs (pushed expression_tree es (node_tree s ∷ rest)) all in
      let r = pushed_all (EachTree P) expression_tree es (node_tree s ∷ rest) q.1 in
      ((r.1.0, (r.0, (q.0, p))), r.1.1))))) h
  reduced og filter_cell st next h =
      child_taken expression_sort (λ u. Reduced P og filter_cell u next) st next _
      (λ e below. child_taken node_sort (λ u. Reduced P og filter_cell (expression_tree e ∷ u) next) below next _
      (λ s rest. put_on (simp append_assoc) (λ all p. ((all.1.0, (all.0, p)), all.1.1)))) h
  reduced og (hash_join_cell o i j) st next h =
      child_taken node_sort (λ u. Reduced P og (hash_join_cell o i j) u next) st next _
      (λ r below. child_taken node_sort (λ u. Reduced P og (hash_join_cell o i j) (node_tree r ∷ u) next) below next _
      (λ l rest. put_on (simp append_assoc) (λ all p. ((all.1.0, (all.0, p)), all.1.1)))) h
  reduced og (index_lookup_cell t al i n) st next h =
      row_of constant_sort og (index_lookup_cell t al i) (λ vs. node_tree (leaf og (lookup (by_index i) t al vs))) (λ xs. refl) (λ xs a p. (a, p)) n st next h
  reduced og (key_lookup_cell t al n) st next h =
      row_of constant_sort og (key_lookup_cell t al) (λ vs. node_tree (leaf og (lookup by_key t al vs))) (λ xs. refl) (λ xs a p. (a, p)) n st next h
  reduced og (limit_cell n) st next h = one node_sort og (limit_cell n) (λ s. node_tree (over og (other (limit n)) s)) (λ s. refl) (λ s a p. (a, p)) st next h
  reduced og (offset_cell n) st next h = one node_sort og (offset_cell n) (λ s. node_tree (over og (other (offset n)) s)) (λ s. refl) (λ s a p. (a, p)) st next h
  reduced og (nested_loop_join_cell false o) st next h =
      child_taken node_sort (λ u. Reduced P og (nested_loop_join_cell false o) u next) st next _
      (λ r below. child_taken node_sort (λ u. Reduced P og (nested_loop_join_cell false o) (node_tree r ∷ u) next) below next _
      (λ l rest. put_on (simp append_assoc) (λ all p. ((all.1.0, (all.0, (tt, p))), all.1.1)))) h
  reduced og (nested_loop_join_cell true o) st next h =
      child_taken expression_sort (λ u. Reduced P og (nested_loop_join_cell true o) u next) st next _
      (λ e low. child_taken node_sort (λ u. Reduced P og (nested_loop_join_cell true o) (expression_tree e ∷ u) next) low next _
      (λ r below. child_taken node_sort (λ u. Reduced P og (nested_loop_join_cell true o) (expression_tree e ∷ node_tree r ∷ u) next) below next _
      (λ l rest. put_on (simp append_assoc) (λ all p. ((all.1.1.0, (all.1.0, (all.0, p))), all.1.1.1))))) h
  reduced og (nothing_cell n) st next h =
      row_of label_sort og nothing_cell (λ ls. node_tree (leaf og (nothing ls))) (λ xs. refl) (λ xs a p. (a, p)) n st next h
  reduced og (order_cell n) st next h = row_over key_sort og order_cell (λ ks. other (order ks)) (λ xs. refl) (λ xs a p. (a, p)) n st next h
  reduced og (projection_cell n) st next h = row_over item_sort og projection_cell (λ is. other (projection is)) (λ xs. refl) (λ xs a p. (a, p)) n st next h
  reduced og (remap_cell n) st next h = row_over target_sort og remap_cell (λ ts. other (remap ts)) (λ xs. refl) (λ xs a p. (a, p)) n st next h
  reduced og (scan_cell false t al) st next h = put_on refl (λ all p. ((tt, p), all)) h
  reduced og (scan_cell true t al) st next h =
      one expression_sort og (scan_cell true t al) (λ e. node_tree (leaf og (scan t al (some e)))) (λ x. refl) (λ x a p. (a, p)) st next h
  reduced og (values_cell n) st next h =
      row_of row_sort og values_cell (λ rs. node_tree (leaf og (values rs))) (λ xs. refl) (λ xs a p. (a, p)) n st next h

pub read_runs : (text : List ℕ) (i : ℕ) (cs : List Cell) (st last : Stack) → read text i cs st ≡ stack last → Runs text cs st last
unfolding read
read_runs text i [] st last h = subst (λ (u : Stack). Runs text [] st u) (the_stack h) at_end
read_runs text i (c ∷ cs) st last h = go (after text c st) refl (λ next. read_runs text (suc i) cs next last) h
  where
    go : (o : Option Stack) → after text c st ≡ o → ((next : Stack) → read text (suc i) cs next ≡ stack last → Runs text cs next last)
        → elim o [ none ↦ lacking i | some next ↦ read text (suc i) cs next ] ≡ stack last → Runs text (c ∷ cs) st last
    go none e ih h = absurd (let z : ◌≡◌ {A = ℕ} 0 1 = cc in omega arith)
    go (some next) e ih h = on e (ih next h)

pub runs_read : {text : List ℕ} {cs : List Cell} {st last : Stack} → Runs text cs st last → (i : ℕ) → read text i cs st ≡ stack last
unfolding read
runs_read at_end i = refl
runs_read {text} (on {cs = cs} e r) i =
    ap (λ (o : Option Stack). elim o [ none ↦ lacking i | some next ↦ read text (suc i) cs next ]) e ∙ runs_read r (suc i)

pub runs_append : {text : List ℕ} {cs ds : List Cell} {st mid last : Stack} → Runs text cs st mid → Runs text ds mid last → Runs text (cs ++ ds) st last
runs_append at_end q = q
runs_append (on e r) q = on e (runs_append r q)

-- Reading is sound: the trees on the stack have the cells that were read, and say what these say.
pub sound : {text : List ℕ} {cs : List Cell} {st last : Stack} (bytes tables : ℕ) (P : Content → Type 0) → ((k : Content) → ExactCell text bytes tables k → P k)
    → All (Good bytes tables) cs → Runs text cs st last → Sound P cs st last
sound {st = st} bytes tables P x g at_end = record { cells_are = sym (append-nil (stack_cells st)); keeps = λ all. all }
sound {text} {st = st} {last = last} bytes tables P x g (on {c = c} {cs = cs} {next = next} e r) =
    let s = says text (suc c.origin) bytes tables c g.0.words (ok_marked 1 (suc c.origin) bytes tables c.origin (marked 0 c) (omega arith) g.0.ok) in
    let k = reduced P c.origin s.content st next (sym (ap (λ (o : Option Content). bind o (λ k. reduce c.origin k st)) s.is) ∙ e) in
    let d = sound bytes tables P x g.1 r in
    record {
      cells_are = d.cells_are ∙ ap (λ (l : List Cell). l ++ cs) (k.cells_are ∙ ap (λ (u : Cell). stack_cells st ++ (marked c.origin u ∷ [])) s.back)
          ∙ append_assoc (stack_cells st) (c ∷ []) cs;
      keeps = λ all. d.keeps (k.keeps all (x s.content s.exact));
    }

-- The same of the function: if cells that pass their test are read, the trees on the stack have those cells.
pub read_sound : (text : List ℕ) (bytes tables i : ℕ) (cs : List Cell) (st last : Stack) → All (Good bytes tables) cs
    → read text i cs st ≡ stack last → stack_cells last ≡ stack_cells st ++ cs
read_sound text bytes tables i cs st last g h = (sound bytes tables (λ k. Unit {0}) (λ k x. tt) g (read_runs text i cs st last h)).cells_are
