-- Laws for pass 4: one join's rewrite, and the recursion.
use Prim.Native.Nat.{ℕ, ◌+◌, ◌-◌, ◌≤◌, ◌<◌}
use native.Mathlib.Omega.{arith}
use mathlib.Core.Bool.{Bool, true, false, cond, not, ◌&&◌}
use mathlib.Core.Path.{◌≡◌, refl, sym, ap, ◌∙◌, subst}
use mathlib.Core.List.{List, ◌++◌, append-nil}
use mathlib.Core.Option.{Option, none, some}
use lib.Dec.{ltb}
use lib.ListN.{length}
use Rattle.sql.specs.Expression.{Expression, origin}
use Rattle.sql.specs.Plan.{Over, filter, other, limit, offset, order, projection, remap, aggregate, Join, nested_loop, hash, Node, leaf, over, join, columns}
use Rattle.sql.specs.Answer.{done}
use Rattle.sql.specs.Optimizer.{equijoin, hash_pair, hash_join, HashJoin}
use Rattle.room.specs.Smaller.{hash_smaller}
use Rattle.sound.specs.Hash.{hash_keeps}
use Rattle.sheet.specs.Content.{hash_join_cell, nested_loop_join_cell}
use Rattle.cells.specs.declared.Cell.{Cell}
use Rattle.cells.specs.Cells.{cell_words, sized, cell_at, tag_at, start_at}
use Rattle.cells.specs.Room.{Wrote, Seals, Copies}
use Rattle.cells.proofs.Laws.{then}
use Rattle.words.specs.Words.{cell, join_own, operand_words, root, node_words}
use Rattle.words.specs.Place.{NodeHere, ExpressionHere, ExpressionAt}
use Rattle.words.proofs.Expressions.{shape}
use Rattle.words.proofs.Nodes.{node_shape, node_in, node_long, node_cell_is, node_tag, own_part, over_source, join_left, join_right}
use Rattle.words.proofs.Sizes.{words_long, sized_long}
use Rattle.words.proofs.Tags.{over_tag, tagged, by_leaf, by_over, by_join}
use Rattle.nodes.specs.Own.{OwnStart, SourceCount}
use Rattle.nodes.specs.Columns.{ColumnsAt, ColumnCount}
use Rattle.records.specs.Records.{Tables}
use Rattle.nodes.proofs.Widths.{few_columns}
use Rattle.kept.specs.Kept.{sound_narrow}
use Rattle.column_numbers.specs.Columns.{source_of}
use Rattle.column_lookup.specs.Lookup.{pair}
use Rattle.std.specs.Prelude as code
use Rattle.std.specs.Prelude.{Some, None}
use Rattle.column_numbers.specs.declared.LeftColumn.{LeftColumn}
use Rattle.column_numbers.specs.declared.RightColumn.{RightColumn}
use Rattle.column_numbers.specs.declared.JoinedColumn.{JoinedColumn}
use Rattle.column_numbers.specs.declared.SourceColumn.{SourceColumn}
use Rattle.column_numbers.specs.declared.SourceColumn.TheVariants.{Left, Right}
use Rattle.stream.specs.Stream.{StreamAt, Streams, Finishes}
use Rattle.stream.proofs.Streams.{reading_total, written_done, finishes_node}
use Rattle.hash_join.specs.Hash.{sides, hash_sides, hash_cell, JoinAt, Rewrites, Writes}

-- ---- the columns on each side

pub none_told : {r : code.Option (LeftColumn × RightColumn)} → r ≡ None → {o : Option (ℕ × ℕ)} → sides r ≡ o → none ≡ o
none_told e f = ap sides (sym e) ∙ f

pub pair_told : {r : code.Option (LeftColumn × RightColumn)} {a : LeftColumn} {b : RightColumn} → r ≡ Some (a, b) → {o : Option (ℕ × ℕ)} → sides r ≡ o → some (a.0, b.0) ≡ o
pair_told e f = ap sides (sym e) ∙ f

-- ---- one join

-- what hash_join says of a predicate, by the columns on each side
by_sides : Expression → Option (ℕ × ℕ) → Join
by_sides e none = nested_loop (some e)
by_sides e (some s) = hash s.0 s.1

pair_by_sides : (n : ℕ) (e : Expression) (o : Option (ℕ × ℕ)) → hash_pair n e o ≡ by_sides e (hash_sides n o)
unfolding by_sides
pair_by_sides n e none = refl
pair_by_sides n e (some p) = go (ltb p.0 n && not (ltb p.1 n))
  where
    go : (b : Bool) → cond b (hash p.0 (p.1 - n)) (nested_loop (some e)) ≡ by_sides e (cond b (some (p.0, p.1 - n)) none)
    go true = refl
    go false = refl

hash_cell_is : (og : ℕ) (outer : Bool) (a b : ℕ) → hash_cell (cell og (nested_loop_join_cell true outer)) a b ≡ cell og (hash_join_cell outer a b)
unfolding cell
hash_cell_is og true a b = refl
hash_cell_is og false a b = refl

hash_words : (og : ℕ) (outer : Bool) (a b : ℕ) (p q : Node) → node_words (join og outer (hash a b) p q) ≡ sized (node_words p ++ node_words q) (cell og (hash_join_cell outer a b))
hash_words og outer a b p q =
    node_shape (join og outer (hash a b) p q) ∙ ap (λ (w : List ℕ). sized w (cell og (hash_join_cell outer a b))) (append-nil (node_words p ++ node_words q))

module _ {x : List ℕ} {m hi : ℕ} where
  module _ {lo og : ℕ} {outer : Bool} (j : Join) {l r : Node} (u : NodeHere x lo hi (join og outer j l r)) (own : OwnStart x lo hi m) where
    own_length : m + length (join_own j) + cell_words ≡ hi
    own_length = omega (arith, own (join og outer j l r) u, node_long (join og outer j l r) u)

  -- a join without own words stays
  alone : (n : ℕ) {lo og : ℕ} {outer : Bool} (j : Join) {l r : Node} → NodeHere x lo hi (join og outer j l r) → OwnStart x lo hi m → m ≡ hi - cell_words → hash_join n j ≡ j
  alone n (nested_loop none) u own z = refl
  alone n (nested_loop (some e)) u own z =
      absurd (omega (arith, own_length (nested_loop (some e)) u own, ap length (shape e), sized_long (operand_words e) (cell (origin e) (root e))))
  alone n (hash a b) u own z = refl

  -- one with own words has a predicate
  with_predicate : {lo og : ℕ} {outer : Bool} (j : Join) {l r : Node} (P : Join → Type 0) → NodeHere x lo hi (join og outer j l r) → OwnStart x lo hi m → (m ≡ hi - cell_words → ⊥)
      → ((e : Expression) → NodeHere x lo hi (join og outer (nested_loop (some e)) l r) → P (nested_loop (some e))) → P j
  with_predicate (nested_loop none) P u own z f = absurd (z (omega (arith, own_length (nested_loop none) u own)))
  with_predicate (nested_loop (some e)) P u own z f = f e u
  with_predicate (hash a b) P u own z f = absurd (z (omega (arith, own_length (hash a b) u own)))

  predicate_here : {lo og : ℕ} {outer : Bool} (e : Expression) {l r : Node} → NodeHere x lo hi (join og outer (nested_loop (some e)) l r) → OwnStart x lo hi m
      → ExpressionHere x m (hi - cell_words) e
  predicate_here {og = og} {outer = outer} e {l} {r} u own =
      record { part = own_part (join og outer (nested_loop (some e)) l r) u (own (join og outer (nested_loop (some e)) l r) u) }

  pub join_in : JoinAt x m hi → (m + cell_words ≤ hi) × (hi ≤ length x)
  join_in g =
      (omega (arith, own_length g.j g.here g.own), (node_in (join g.og g.outer g.j g.l g.r) g.here).1)

  pub predicate_at : JoinAt x m hi → (m ≡ hi - cell_words → ⊥) → ExpressionAt x m (hi - cell_words)
  predicate_at g z =
      with_predicate g.j (λ j. ExpressionAt x m (hi - cell_words)) g.here g.own z (λ e u. record { e = e; here = predicate_here e u g.own })

  -- the join stays as it is
  stays : (n : ℕ) {lo og : ℕ} {outer : Bool} (j : Join) {l r : Node} → NodeHere x lo hi (join og outer j l r) → OwnStart x lo hi m → hash_join n j ≡ j
      → {y : List ℕ} {at u k : ℕ} {y' : List ℕ} → Finishes x m hi y at u k y' → (y₀ : List ℕ) (p q : Node) → length y ≡ length y₀
      → Wrote y₀ at (node_words p ++ node_words q) u y → Wrote y₀ at (node_words (join og outer (hash_join n j) p q)) k y'
  stays n {lo} {og} {outer} j {l} {r} v own e {at = at} {k = k} {y' = y'} f y₀ p q g w =
      subst (λ (i : Join). Wrote y₀ at (node_words (join og outer i p q)) k y') (sym e)
      (subst (λ (z : List ℕ). Wrote y₀ at z k y') (sym (node_shape (join og outer j p q))) (finishes_node f lo (join og outer j l r) v own y₀ (node_words p ++ node_words q) g w))

  pub rewrites_alone : (n : ℕ) → m ≡ hi - cell_words → {y : List ℕ} {at u k : ℕ} {y' : List ℕ} → Finishes x m hi y at u k y' → Rewrites n x m hi y at u k y'
  rewrites_alone n z f lo og outer j l r v own = stays n j v own (alone n j v own z) f

  module _ (n : ℕ) (z : m ≡ hi - cell_words → ⊥) {equal : Option (ℕ × ℕ)} (s : (e : Expression) → ExpressionHere x m (hi - cell_words) e → equal ≡ equijoin e) where
    rewritten_as : {lo og : ℕ} {outer : Bool} (e : Expression) {l r : Node} → NodeHere x lo hi (join og outer (nested_loop (some e)) l r) → OwnStart x lo hi m
        → {o : Option (ℕ × ℕ)} → o ≡ hash_sides n equal → hash_join n (nested_loop (some e)) ≡ by_sides e o
    rewritten_as e u own i =
        pair_by_sides n e (equijoin e) ∙ ap (λ (o : Option (ℕ × ℕ)). by_sides e (hash_sides n o)) (sym (s e (predicate_here e u own))) ∙ ap (by_sides e) (sym i)

    pub rewrites_nested : none ≡ hash_sides n equal → {y : List ℕ} {at u k : ℕ} {y' : List ℕ} → Finishes x m hi y at u k y' → Rewrites n x m hi y at u k y'
    unfolding by_sides
    rewrites_nested i {y} {at} {u} {k} {y'} f lo og outer j l r v own =
        with_predicate j
        (λ j. (y₀ : List ℕ) (p q : Node) → length y ≡ length y₀ → Wrote y₀ at (node_words p ++ node_words q) u y
        → Wrote y₀ at (node_words (join og outer (hash_join n j) p q)) k y')
        v own z (λ e v. stays n (nested_loop (some e)) v own (rewritten_as e v own i) f)

    pub rewrites_hash : {a b : ℕ} → some (a, b) ≡ hash_sides n equal → {d : Cell} → d ≡ cell_at x hi → {h : Cell} → h ≡ hash_cell d a b
        → {y : List ℕ} {at u k : ℕ} {y' : List ℕ} → Seals y at u h k y' → Rewrites n x m hi y at u k y'
    unfolding by_sides
    rewrites_hash {a} {b} i {d} e' {h} g {y} {at} {u} {k} {y'} f lo og outer j l r v own =
        with_predicate j
        (λ j. (y₀ : List ℕ) (p q : Node) → length y ≡ length y₀ → Wrote y₀ at (node_words p ++ node_words q) u y
        → Wrote y₀ at (node_words (join og outer (hash_join n j) p q)) k y')
        v own z
        (λ e v y₀ p q k₀ w.
        let c = g ∙ ap (λ (k : Cell). hash_cell k a b) (e' ∙ node_cell_is (join og outer (nested_loop (some e)) l r) v) ∙ hash_cell_is og outer a b in
        subst (λ (i : Join). Wrote y₀ at (node_words (join og outer i p q)) k y') (sym (rewritten_as e v own i))
        (subst (λ (z : List ℕ). Wrote y₀ at z k y') (sym (hash_words og outer a b p q ∙ ap (sized (node_words p ++ node_words q)) (sym c)))
        (f y₀ (node_words p ++ node_words q) k₀ w)))

-- ---- the recursion

module _ {records x : List ℕ} {lo hi g : ℕ} (c : SourceCount x lo hi g) where
  pub writes_leaf : g ≡ 0 → {y : List ℕ} {at n : ℕ} {y' : List ℕ} → Copies x lo hi y at n y' → Writes records x lo hi y at n y'
  writes_leaf z {y} {at} {n} {y'} f schema p w u =
      by_leaf (λ p. NodeHere x lo hi p → Wrote y at (node_words (HashJoin schema p)) n y') (λ og l u. f (node_words (leaf og l)) u.part) p (sym (c p u) ∙ z) u

  module _ {m : ℕ} (own : OwnStart x lo hi m) where
    pub writes_over : g ≡ 1 → {y : List ℕ} {at u n : ℕ} {y₁ y₂ : List ℕ} → length y₁ ≡ length y → Writes records x lo m y at u y₁ → Finishes x m hi y₁ at u n y₂
        → Writes records x lo hi y at n y₂
    writes_over z {y} {at} {u} {n} {y₁} {y₂} k a f schema p w h =
        by_over (λ p. NodeHere x lo hi p → Wrote y at (node_words (HashJoin schema p)) n y₂)
        (λ og o s v. subst (λ (w : List ℕ). Wrote y at w n y₂) (sym (node_shape (over og o (HashJoin schema s))))
        (finishes_node f lo (over og o s) v own y (node_words (HashJoin schema s)) k (a schema s w (over_source og o s v (own (over og o s) v)))))
        p (sym (c p h) ∙ z) h

    -- a node whose columns are its source's, by its tag
    pub columns_through : g ≡ 1 → {n : ℕ} → ColumnCount records x lo m n → {t : ℕ} → t ≡ tag_at x hi → (t ≡ 50 → ⊥) → t < 60 → ColumnCount records x lo hi n
    columns_through z {n} a {t} e i j schema p w h =
        by_over (λ p. NodeHere x lo hi p → n ≡ columns schema p)
        (λ og o s v. a schema s w (over_source og o s v (own (over og o s) v)) ∙ go og o s (e ∙ node_tag (over og o s) v ∙ tagged (over og o s))) p (sym (c p h) ∙ z) h
      where
        go : (og : ℕ) (o : Over) (s : Node) → t ≡ over_tag o → columns schema s ≡ columns schema (over og o s)
        go og (filter e) s q = refl
        go og (other (limit n)) s q = refl
        go og (other (offset n)) s q = refl
        go og (other (order ks)) s q = refl
        go og (other (projection is)) s q = absurd (omega arith)
        go og (other (remap ts)) s q = absurd (omega arith)
        go og (other (aggregate es gs)) s q = absurd (i q)

    module _ (two : g ≡ 2) where
      pub join_at : ColumnsAt records x lo hi → JoinAt x m hi
      join_at t =
          by_join (λ p. NodeHere x lo hi p → JoinAt x m hi) (λ og outer j l r v. record { lo = lo; og = og; outer = outer; j = j; l = l; r = r; here = v; own = own }) t.p
          (sym (c t.p t.here) ∙ two) t.here

      module _ {mid : ℕ} (st : mid ≡ start_at x m) {i : ℕ} (d : ColumnCount records x lo mid i) where
        pub writes_join : {y : List ℕ} {at u v n : ℕ} {y₁ y₂ y₃ : List ℕ} → length y₁ ≡ length y → length y₂ ≡ length y₁ → Writes records x lo mid y at u y₁
            → Writes records x mid m y₁ u v y₂ → Rewrites i x m hi y₂ at v n y₃ → Writes records x lo hi y at n y₃
        writes_join {y} {at} {u} {v} {n} {y₁} {y₂} {y₃} k₁ k₂ a b f schema p w h =
            by_join (λ p. NodeHere x lo hi p → Wrote y at (node_words (HashJoin schema p)) n y₃)
            (λ og outer j l r h.
            let e = own (join og outer j l r) h in
            let a₁ = join_left og outer j l r h e st in
            subst (λ (i : ℕ). Wrote y at (node_words (join og outer (hash_join i j) (HashJoin schema l) (HashJoin schema r))) n y₃) (d schema l w a₁)
            (f lo og outer j l r h own y (HashJoin schema l) (HashJoin schema r) (k₂ ∙ k₁) (then k₁ (a schema l w a₁) (b schema r w (join_right og outer j l r h e st)))))
            p (sym (c p h) ∙ two) h

        pub columns_both : {k : ℕ} → ColumnCount records x mid m k → ColumnCount records x lo hi (i + k)
        columns_both {k} a schema p w h =
            by_join (λ p. NodeHere x lo hi p → i + k ≡ columns schema p)
            (λ og outer j l r h.
            let e = own (join og outer j l r) h in
            omega (arith, d schema l w (join_left og outer j l r h e st), a schema r w (join_right og outer j l r h e st)))
            p (sym (c p h) ∙ two) h

pub count_few : {records x : List ℕ} {lo hi n : ℕ} → ColumnsAt records x lo hi → ColumnCount records x lo hi n → n ≤ 4294967296
count_few t a = omega (arith, few_columns t, a t.schema t.p t.tables t.here)

-- ---- the pass

module _ {records x : List ℕ} {lo hi tail : ℕ} {y : List ℕ} {at : ℕ} where
  pub columns_at : StreamAt (Tables records) x lo hi tail y at → ColumnsAt records x lo hi
  columns_at g =
      record {
        schema = g.schema;
        tables = g.lent;
        p = g.p;
        here = g.reading.here;
        narrow = sound_narrow g.schema g.text g.tables g.p g.reading.fit.0;
        short = omega (arith, (node_in g.p g.reading.here).1, g.short);
      }

  -- what is written has room
  pub writes_streams : {n : ℕ} {y' : List ℕ} → length y' ≡ length y → Writes records x lo hi y at n y'
      → Streams (Tables records) (λ room schema rest p. done (HashJoin schema p)) x lo hi tail y at n y'
  writes_streams k a schema text tables lent room rest p h =
      written_done (HashJoin schema p) (hash_keeps schema text tables p h.fit.0) k
      (omega (arith, reading_total h, words_long p, words_long (HashJoin schema p), hash_smaller schema p)) h.shares.short (a schema p lent h.here)
