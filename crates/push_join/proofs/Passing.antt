-- The split as a step of a pass, with the room for it and for the normal forms.
use Prim.Native.Nat.{ℕ, ◌+◌, ◌-◌, ◌*◌, ◌%◌, ◌≤◌, ◌<◌}
use native.Mathlib.Omega.{arith}
use mathlib.Core.Bool.{Bool, true, false, ◌&&◌}
use mathlib.Core.Logic.{⊎_elim}
use mathlib.Core.Option.{Option, none, some}
use mathlib.Core.Path.{◌≡◌, refl, sym, ap, ap₂, ◌∙◌, subst}
use mathlib.Core.List.{List}
use lib.Dec.{eqb, leb}
use lib.ListN.{length}
use borrow.Author.Tests.{le-leb, lt-leb}
use Rattle.sql.specs.Schema.{Schema}
use Rattle.sql.specs.Expression.{Expression, size, into_nnf, distribute, into_cnf, into_cnf_vec}
use Rattle.sql.specs.Plan.{nested_loop, hash, Node, leaf, over, join, node_size}
use Rattle.sql.specs.Answer.{Answer, done, ◌>>=◌}
use Rattle.sql.specs.Optimizer as Optimizer
use Rattle.sql.specs.Room.{if_room, join_predicate, normal_forms_fit, step}
use Rattle.sql.specs.Room
use Rattle.sheet.specs.Content.{bit}
use Rattle.sheet.specs.Cells.{present}
use Rattle.cells.specs.declared.Cell.{Cell}
use Rattle.cells.specs.Cells.{cell_words, cell_at}
use Rattle.cells.specs.Room.{Short, Wrote}
use Rattle.cells.proofs.Laws.{lt_or_ge, wrote_up}
use Rattle.words.specs.Words.{expression_words, node_words}
use Rattle.words.specs.Place.{ExpressionHere, ExpressionAt, Maps, NodeHere, NodeAt}
use Rattle.words.proofs.Sizes.{expression_long}
use Rattle.words.proofs.Tags.{by_nested_loop}
use Rattle.nodes.specs.Own.{OwnStart}
use Rattle.nodes.specs.Columns.{Narrow}
use Rattle.records.specs.Records.{Tables}
use Rattle.nodes.proofs.Widths.{tag_here, flag_here}
use Rattle.sound.specs.Pushdown.{join_rule_keeps}
use Rattle.edit.specs.Edit.{Holds, Left, Placed}
use Rattle.edit.proofs.Edits.{holds_here, total_cells, left_refused, placed_left, edit_same}
use Rattle.kept.specs.Kept.{Kept, kept, sound_narrow}
use Rattle.kept.specs.Pass.{PassAt, Passes}
use Rattle.conjuncts.proofs.Appending.{written_part}
use Rattle.split_join.specs.Split.{HasPredicate, SplitAt, Splits}
use Rattle.split_join.proofs.Splitting.{by_split, predicate_here}

-- ---- which nodes are split

-- bit 0 of the flag tells of the predicate
flag_bit : (outer : Bool) (q : Option Expression) → eqb ((bit (present q) + 2 * bit outer) % 2) 1 ≡ present q
flag_bit false none = refl
flag_bit true none = refl
flag_bit false (some e) = refl
flag_bit true (some e) = refl

module _ {s : List ℕ} {lo hi : ℕ} {c : Cell} (q : c ≡ cell_at s hi) where
  pub another : (c.tag ≡ 56 → ⊥) → HasPredicate s lo hi false
  another h (leaf og l) u = refl
  another h (over og o n) u = refl
  another h (join og outer (nested_loop e) l r) u = absurd (h (tag_here q (join og outer (nested_loop e) l r) u))
  another h (join og outer (hash i j) l r) u = refl

  pub nested : c.tag ≡ 56 → HasPredicate s lo hi (eqb (c.flag % 2) 1)
  nested h p u =
      by_nested_loop (λ p. NodeHere s lo hi p → eqb (c.flag % 2) 1 ≡ present (join_predicate p))
      (λ og outer e l r v. ap (λ (f : ℕ). eqb (f % 2) 1) (flag_here q (join og outer (nested_loop e) l r) v) ∙ flag_bit outer e) p (sym (tag_here q p u) ∙ h) u

-- ---- room for a normal form

module _ (room : ℕ) {d : List ℕ} {n : ℕ} {d' : List ℕ} (l : length d ≡ cell_words * room) (e : Expression) (w : Wrote d 0 (expression_words e) n d') where
  form_over : Short d → length d < n → leb (size e) room ≡ false
  form_over s h =
      lt-leb (size e) room
      (⊎_elim (λ (z : room < size e). z) (λ (z : size e ≤ room). absurd (let f = w.room (omega (arith, expression_long e)) (omega (arith, expression_long e)) in omega arith))
      (lt_or_ge room (size e)))

  form_fits : n ≤ length d → leb (size e) room ≡ true
  form_fits h = le-leb (size e) room (omega (arith, wrote_up w h, expression_long e))

and_false : (b : Bool) → (b && false) ≡ false
and_false true = refl
and_false false = refl

-- ---- the answer

module _ (room : ℕ) (schema : Schema) (rest : ℕ) where
  -- no predicate
  unchanged : (p : Node) → present (join_predicate p) ≡ false → rest + node_size p ≤ room → Room.maybe_push_join room schema rest p ≡ done p
  unfolding Room.maybe_push_join Optimizer.maybe_push_join
  unchanged (leaf og l) h k = ap (λ (b : Bool). if_room b (leaf og l)) (le-leb (rest + node_size (leaf og l)) room k)
  unchanged (over og o n) h k = ap (λ (b : Bool). if_room b (over og o n)) (le-leb (rest + node_size (over og o n)) room k)
  unchanged (join og outer (nested_loop none) l r) h k =
      ap (λ (b : Bool). if_room b (join og outer (nested_loop none) l r)) (le-leb (rest + node_size (join og outer (nested_loop none) l r)) room k)
  unchanged (join og outer (nested_loop (some e)) l r) h k = absurd (let z : ◌≡◌ {A = ℕ} 0 1 = cc in omega arith)
  unchanged (join og outer (hash i j) l r) h k = ap (λ (b : Bool). if_room b (join og outer (hash i j) l r)) (le-leb (rest + node_size (join og outer (hash i j) l r)) room k)

  module _ (og : ℕ) (outer : Bool) (q : Expression) (l r : Node) where
    answered : (b : Bool) → normal_forms_fit room schema (some q) ≡ b
        → Room.maybe_push_join room schema rest (join og outer (nested_loop (some q)) l r)
        ≡ (if_room b (join og outer (nested_loop (some q)) l r) >>= λ n. step room schema rest (Optimizer.maybe_push_join schema n))
    unfolding Room.maybe_push_join
    answered b h = ap (λ (t : Bool). if_room t (join og outer (nested_loop (some q)) l r) >>= λ n. step room schema rest (Optimizer.maybe_push_join schema n)) h

-- ---- where the normal forms stand, the one in z and the other in w

module _ {x : List ℕ} {lo hi m : ℕ} (own : OwnStart x lo hi m) {z z₁ : List ℕ} {k : ℕ} (lz : length z₁ ≡ length z) (nnf : Maps into_nnf x m (hi - cell_words) z 0 k z₁) (i : k ≤ length z₁) where
  nnf_here : (og : ℕ) (outer : Bool) (q : Expression) (l r : Node) → NodeHere x lo hi (join og outer (nested_loop (some q)) l r) → ExpressionHere z₁ 0 k (into_nnf q)
  nnf_here og outer q l r u = record { part = written_part (nnf q (predicate_here own og outer q l r u)) (omega arith) }

  pub nnf_at : HasPredicate x lo hi true → NodeAt x lo hi → ExpressionAt z₁ 0 k
  nnf_at f n =
      by_split (λ p. NodeHere x lo hi p → ExpressionAt z₁ 0 k) (λ og outer q l r u. record { e = into_nnf q; here = nnf_here og outer q l r u }) n.p (sym (f n.p n.here)) n.here

  module _ {w w₁ : List ℕ} {end : ℕ} (lw : length w₁ ≡ length w) (cnf : Maps distribute z₁ 0 k w 0 end w₁) (j : end ≤ length w₁) where
    cnf_here : (og : ℕ) (outer : Bool) (q : Expression) (l r : Node) → NodeHere x lo hi (join og outer (nested_loop (some q)) l r) → ExpressionHere w₁ 0 end (distribute (into_nnf q))
    cnf_here og outer q l r u = record { part = written_part (cnf (into_nnf q) (nnf_here og outer q l r u)) (omega arith) }

    pub cnf_at : HasPredicate x lo hi true → NodeAt x lo hi → ExpressionAt w₁ 0 end
    cnf_at f n =
        by_split (λ p. NodeHere x lo hi p → ExpressionAt w₁ 0 end) (λ og outer q l r u. record { e = distribute (into_nnf q); here = cnf_here og outer q l r u }) n.p
        (sym (f n.p n.here)) n.here

    both_fit : (room : ℕ) (schema : Schema) → length z ≡ cell_words * room → length w ≡ cell_words * room → (og : ℕ) (outer : Bool) (q : Expression) (l r : Node)
        → NodeHere x lo hi (join og outer (nested_loop (some q)) l r) → normal_forms_fit room schema (some q) ≡ true
    unfolding into_cnf
    both_fit room schema a b og outer q l r u =
        ap₂ ◌&&◌ (form_fits room a (into_nnf q) (nnf q (predicate_here own og outer q l r u)) (omega arith))
        (form_fits room b (distribute (into_nnf q)) (cnf (into_nnf q) (nnf_here og outer q l r u)) (omega arith))

-- ---- the ways out

pub pass_same : {records x : List ℕ} {t lo tail : ℕ} {b : Bool} → HasPredicate x lo (t - tail) b → b ≡ false → Passes Room.maybe_push_join records x t lo tail t x
pass_same f z schema text tables given =
    edit_same (kept schema text tables) (λ room. Room.maybe_push_join room schema)
    (λ room rest pre post p s k h. unchanged room schema rest p (sym (f p (holds_here h)) ∙ z) (omega (arith, total_cells s h, h.inside, s.all)))

module _ {x : List ℕ} {t lo tail : ℕ} (f : HasPredicate x lo (t - tail) true) where
  when_split : {pre post : List ℕ} (P : Node → Type 0)
      → ((og : ℕ) (outer : Bool) (q : Expression) (l r : Node) → Holds x t lo tail pre post (join og outer (nested_loop (some q)) l r) → P (join og outer (nested_loop (some q)) l r))
      → (p : Node) → Holds x t lo tail pre post p → P p
  when_split {pre} {post} P g p h = by_split (λ p. Holds x t lo tail pre post p → P p) g p (sym (f p (holds_here h))) h

  -- what the split asks for
  pub split_at : {records : List ℕ} → PassAt records x t lo tail → SplitAt records x t lo tail
  split_at {records} g =
      when_split (λ p. Narrow p → SplitAt records x t lo tail)
      (λ og outer q l r h k. record {
        schema = g.schema;
        tables = g.given;
        pre = g.held.pre;
        post = g.held.post;
        og = og;
        outer = outer;
        p = q;
        l = l;
        r = r;
        holds = h;
        narrow = k.0;
        short = g.short;
      })
      g.held.p g.held.holds (sound_narrow g.schema g.text g.tables g.held.p g.held.fit.0)

  -- a normal form that has no room
  refuse : {records : List ℕ} {n : ℕ} → length x < n
      → ((room : ℕ) (schema : Schema) → length x ≡ cell_words * room → Short x → (og : ℕ) (outer : Bool) (q : Expression) (l r : Node) → NodeHere x lo (t - tail) (join og outer (nested_loop (some q)) l r)
      → normal_forms_fit room schema (some q) ≡ false)
      → Passes Room.maybe_push_join records x t lo tail n x
  refuse {n = n} i g schema text tables given room rest s pre post p fit h =
      when_split (λ p. Left (Kept schema text tables p) x n pre post (Room.maybe_push_join room schema rest p))
      (λ og outer q l r u. subst (λ (a : Answer Node). Left (Kept schema text tables (join og outer (nested_loop (some q)) l r)) x n pre post a)
      (sym (answered room schema rest og outer q l r false (g room schema s.all s.short og outer q l r (holds_here u)))) (left_refused i))
      p h

  module _ {m : ℕ} (own : OwnStart x lo (t - tail) m) {z z₁ : List ℕ} {k : ℕ} (az : length z ≡ length x) (lz : length z₁ ≡ length z)
      (nnf : Maps into_nnf x m (t - tail - cell_words) z 0 k z₁) where
    pub nnf_over : {records : List ℕ} → length z₁ < k → Passes Room.maybe_push_join records x t lo tail k x
    nnf_over i =
        refuse (omega arith)
        (λ room schema a s og outer q l r u. ap (λ (c : Bool). c && leb (size (into_cnf q)) room)
        (form_over room (az ∙ a) (into_nnf q) (nnf q (predicate_here own og outer q l r u)) (omega arith) (omega arith)))

    module _ (i : k ≤ length z₁) {w w₁ : List ℕ} {end : ℕ} (aw : length w ≡ length x) (lw : length w₁ ≡ length w) (cnf : Maps distribute z₁ 0 k w 0 end w₁) where
      pub cnf_over : {records : List ℕ} → length w₁ < end → Passes Room.maybe_push_join records x t lo tail end x
      unfolding into_cnf
      cnf_over j =
          refuse (omega arith)
          (λ room schema a s og outer q l r u. ap (λ (c : Bool). leb (size (into_nnf q)) room && c)
          (form_over room (aw ∙ a) (distribute (into_nnf q)) (cnf (into_nnf q) (nnf_here own lz nnf i og outer q l r u)) (omega arith) (omega arith))
          ∙ and_false (leb (size (into_nnf q)) room))

      module _ (j : end ≤ length w₁) {records x' : List ℕ} {r : ℕ} (lx : length x' ≡ length x) (g : Splits records x t lo tail w₁ end r x') where
        placed : (schema : Schema) → Tables records schema → {pre post : List ℕ} (p : Node) → Holds x t lo tail pre post p
            → Placed x' r pre post (node_words (Optimizer.maybe_push_join schema p))
        unfolding Optimizer.maybe_push_join into_cnf_vec into_cnf
        placed schema given {pre} {post} p h =
            when_split (λ p. Placed x' r pre post (node_words (Optimizer.maybe_push_join schema p)))
            (λ og outer q l r h. g schema given pre post og outer q l r h (distribute (into_nnf q)) (cnf_here own lz nnf i lw cnf j og outer q l r (holds_here h))) p h

        pub pass_split : Passes Room.maybe_push_join records x t lo tail r x'
        pass_split schema text tables given room rest s pre post p fit h =
            subst (λ (a : Answer Node). Left (Kept schema text tables p) x' r pre post a)
            (sym (when_split (λ p. Room.maybe_push_join room schema rest p ≡ step room schema rest (Optimizer.maybe_push_join schema p))
            (λ og outer q l r h. answered room schema rest og outer q l r true (both_fit own lz nnf i lw cnf j room schema (az ∙ s.all) (aw ∙ s.all) og outer q l r (holds_here h))) p h))
            (placed_left (Optimizer.maybe_push_join schema p) s lx h.low h.high (join_rule_keeps schema text tables p fit.0) (placed schema given p h))
