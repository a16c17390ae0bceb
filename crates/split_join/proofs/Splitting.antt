-- What the functions that write the new predicate and cell have written, from what their calls have, and what the split makes of the join.
use Prim.Native.Nat.{ℕ, ◌-◌, ◌≤◌, ◌<◌}
use native.Mathlib.Omega.{arith}
use mathlib.Core.Bool.{Bool, true, false}
use mathlib.Core.Option.{Option, none, some}
use mathlib.Core.Path.{◌≡◌, refl, sym, ap, ◌∙◌, subst}
use mathlib.Core.List.{List, [], ◌∷◌, ◌++◌, map}
use lib.ListN.{length}
use Rattle.sql.specs.Expression.{Expression, ands, and_vec, shift_column_down, shift_column_up}
use Rattle.sql.specs.Plan.{scan, lookup, nothing, values, filter, other, nested_loop, hash, Node, leaf, over, join}
use Rattle.sql.specs.Optimizer.{ref_left, for_both, push_right, map_optional, push_part, split}
use Rattle.sql.specs.Room.{join_predicate}
use Rattle.literal.specs.Shift.{up_down}
use Rattle.sheet.specs.Cells.{present}
use Rattle.cells.specs.declared.Cell.{Cell}
use Rattle.cells.specs.Cells.{cell_words, sized, cell_at}
use Rattle.cells.specs.Room.{Wrote, Seals}
use Rattle.cells.proofs.Laws.{then, wrote_up, no_more}
use Rattle.words.specs.Words.{cell, optional_words, join_cell}
use Rattle.words.specs.Place.{ExpressionHere, ExpressionAt, NodeHere, NodeAt}
use Rattle.words.proofs.Nodes.{node_cell_is, own_part, node_in}
use Rattle.words.proofs.Sizes.{sized_long}
use Rattle.nodes.specs.Own.{OwnStart}
use Rattle.nodes.proofs.Widths.{flag_here}
use Rattle.conjuncts.specs.Conjuncts.{GatheredAt, AppendsEach}
use Rattle.conjuncts.proofs.Lists.{shift_none}
use Rattle.conjuncts.proofs.Appending.{words_long, appends_then, appends_vec, gathered_more}
use Rattle.copied_lookups.specs.declared.Source.TheVariants.{Left, Right}
use Rattle.copied_lookups.proofs.Refers.{right_refers}
use Rattle.push_into.proofs.Taking.{no_true, put_long}
use Rattle.push_part.specs.Part.{part_for, ComesBack}
use Rattle.split_join.specs.Split.{stays, new_left, new_right, joined, PredicateAt, HasPredicate, Stays, Rejoins}

-- ---- a join with a predicate

pub by_split : (P : Node → Type 0) → ((og : ℕ) (outer : Bool) (e : Expression) (l r : Node) → P (join og outer (nested_loop (some e)) l r)) → (p : Node) → present (join_predicate p) ≡ true → P p
by_split P f (leaf og l) h = no_true h
by_split P f (over og o n) h = no_true h
by_split P f (join og outer (nested_loop none) l r) h = no_true h
by_split P f (join og outer (nested_loop (some e)) l r) h = f og outer e l r
by_split P f (join og outer (hash i j) l r) h = no_true h

pub is_known : {s : List ℕ} {lo hi : ℕ} {b : Bool} → HasPredicate s lo hi b → b ≡ true → HasPredicate s lo hi true
is_known f h p u = sym h ∙ f p u

-- ---- where its predicate stands

module _ {s : List ℕ} {lo hi m : ℕ} (own : OwnStart s lo hi m) where
  pub predicate_here : (og : ℕ) (outer : Bool) (e : Expression) (l r : Node) → NodeHere s lo hi (join og outer (nested_loop (some e)) l r) → ExpressionHere s m (hi - cell_words) e
  predicate_here og outer e l r u =
      record { part = own_part (join og outer (nested_loop (some e)) l r) u (own (join og outer (nested_loop (some e)) l r) u) }

  pub predicate_at : HasPredicate s lo hi true → NodeAt s lo hi → ExpressionAt s m (hi - cell_words)
  predicate_at f t =
      by_split (λ p. NodeHere s lo hi p → ExpressionAt s m (hi - cell_words)) (λ og outer e l r u. record { e = e; here = predicate_here og outer e l r u }) t.p (sym (f t.p t.here))
      t.here

-- ---- the new predicate

-- the conjuncts that stay and what comes back from the left source, as the right one's call asks for them
pub back_gathered : (new n : ℕ) {s : List ℕ} {lo mid : ℕ} {cnf : List ℕ} {end : ℕ} {d : List ℕ} {from at j : ℕ} {d₁ : List ℕ} → GatheredAt d from at → length d₁ ≡ length d
    → NodeAt s lo mid → ExpressionAt cnf 0 end → ComesBack new Left n s lo mid cnf end d from at j d₁ → GatheredAt d₁ from j
back_gathered new n g k t x f = gathered_more g k new (push_part new (part_for new Left n 0 (ands x.e)) t.p).1 (f t.p t.here x.e x.here)

pub stays_wrote : (new n : ℕ) {s : List ℕ} {lo mid m : ℕ} {cnf : List ℕ} {end : ℕ} {d : List ℕ} {at i j q : ℕ} {d₁ d₂ d₃ : List ℕ} → length d₁ ≡ length d → length d₂ ≡ length d₁
    → AppendsEach new (λ e. for_both n (ands e)) cnf 0 end d at at i d₁ → ComesBack new Left n s lo mid cnf end d₁ at i j d₂ → ComesBack new Right n s mid m cnf end d₂ at j q d₃
    → Stays new n s lo mid m cnf end d at q d₃
stays_wrote new n k₁ k₂ f g h l r x y e u =
    let back_left = (push_part new (part_for new Left n 0 (ands e)) l).1 in
    let back_right = (push_part new (part_for new Right n 0 (ands e)) r).1 in
    appends_vec new (for_both n (ands e) ++ (back_left ++ back_right))
    (appends_then k₁ new (for_both n (ands e)) (back_left ++ back_right) (f e u) (appends_then k₂ new back_left back_right (g l x e u) (h r y e u)))

-- ---- the join's cell over it

-- the cell of a join that has lost its predicate
abbrev pub cleared : Cell → Cell
cleared c = record { origin = c.origin; tag = c.tag; flag = c.flag - 1; a = c.a; b = c.b; c = c.c }

cleared_is : (og : ℕ) (outer : Bool) (e : Expression) → cleared (cell og (join_cell outer (nested_loop (some e)))) ≡ cell og (join_cell outer (nested_loop none))
unfolding cell
cleared_is og false e = refl
cleared_is og true e = refl

pub cell_there : {s : List ℕ} {lo hi : ℕ} → PredicateAt s lo hi → (cell_words ≤ hi) × (hi ≤ length s)
cell_there g = let (i, j) = node_in (join g.og g.outer (nested_loop (some g.p)) g.l g.r) g.here in (omega arith, j)

pub flag_least : {s : List ℕ} {lo hi : ℕ} {c : Cell} → c ≡ cell_at s hi → PredicateAt s lo hi → 1 ≤ c.flag
flag_least q g = omega (arith, flag_here q (join g.og g.outer (nested_loop (some g.p)) g.l g.r) g.here)

module _ {s : List ℕ} {lo hi : ℕ} {d : List ℕ} {mid at : ℕ} where
  pub rejoin_full : length d < at → Rejoins s lo hi d mid at at d
  rejoin_full z =
      record {
        long = λ h. absurd (omega arith);
        writes = λ og outer e l r u o d₀ d₁ b k₁ k v w.
            let f = then k₁ v w in
            let i = sized_long (b ++ optional_words o) (cell og (join_cell outer (nested_loop o))) in
            no_more (omega arith) (omega arith) f;
      }

  module _ (z : at ≤ length d) {c : Cell} (q : c ≡ cell_at s hi) {n : ℕ} {d' : List ℕ} where
    pub rejoin_none : at ≡ mid → Seals d 0 at (cleared c) n d' → Rejoins s lo hi d mid at n d'
    rejoin_none i f = record { long = put_long (cleared c) f; writes = writes }
      where
        writes : (og : ℕ) (outer : Bool) (p : Expression) (l r : Node) → NodeHere s lo hi (join og outer (nested_loop (some p)) l r)
            → (o : Option Expression) (d₀ d₁ b : List ℕ) → length d₁ ≡ length d₀ → length d ≡ length d₁ → Wrote d₀ 0 b mid d₁ → Wrote d₁ mid (optional_words o) at d
            → Wrote d₀ 0 (joined b og outer o) n d'
        writes og outer e l r u none d₀ d₁ b k₁ k v w =
            subst (λ (a : Cell). Wrote d₀ 0 (sized (b ++ []) a) n d') (ap cleared (q ∙ node_cell_is (join og outer (nested_loop (some e)) l r) u) ∙ cleared_is og outer e)
            (f d₀ (b ++ []) (k ∙ k₁) (then k₁ v w))
        writes og outer e l r u (some x) d₀ d₁ b k₁ k v w = absurd (omega (arith, wrote_up w (omega arith), words_long x))

    pub rejoin_some : (at ≡ mid → ⊥) → Seals d 0 at c n d' → Rejoins s lo hi d mid at n d'
    rejoin_some i f = record { long = put_long c f; writes = writes }
      where
        writes : (og : ℕ) (outer : Bool) (p : Expression) (l r : Node) → NodeHere s lo hi (join og outer (nested_loop (some p)) l r)
            → (o : Option Expression) (d₀ d₁ b : List ℕ) → length d₁ ≡ length d₀ → length d ≡ length d₁ → Wrote d₀ 0 b mid d₁ → Wrote d₁ mid (optional_words o) at d
            → Wrote d₀ 0 (joined b og outer o) n d'
        writes og outer e l r u none d₀ d₁ b k₁ k v w = absurd (i (omega (arith, wrote_up w (omega arith))))
        writes og outer e l r u (some x) d₀ d₁ b k₁ k v w =
            subst (λ (a : Cell). Wrote d₀ 0 (sized (b ++ optional_words (some x)) a) n d') (q ∙ node_cell_is (join og outer (nested_loop (some e)) l r) u)
            (f d₀ (b ++ optional_words (some x)) (k ∙ k₁) (then k₁ v w))

-- ---- the split

-- A node gives back what it doesn't take; which nodes take a predicate doesn't depend on the predicate.
returned : (new : ℕ) (f : Expression → Expression) (x y : Expression) → x ≡ f y → (p : Node) → (push_part new (some x) p).1 ≡ map f (push_part new (some y) p).1
returned new f x y h (leaf og (scan t al q)) = refl
returned new f x y h (leaf og (lookup a t al vs)) = ap (λ (e : Expression). e ∷ []) h
returned new f x y h (leaf og (nothing ls)) = ap (λ (e : Expression). e ∷ []) h
returned new f x y h (leaf og (values rs)) = ap (λ (e : Expression). e ∷ []) h
returned new f x y h (over og (filter q) n) = refl
returned new f x y h (over og (other o) n) = ap (λ (e : Expression). e ∷ []) h
returned new f x y h (join og outer (nested_loop q) l r) = refl
returned new f x y h (join og outer (hash i j) l r) = ap (λ (e : Expression). e ∷ []) h

-- What comes back from the right source, moved down and up again, is what it was: it has no column of the left source.
back_again : (new n : ℕ) (es : List Expression) (p : Node) → (push_part new (part_for new Right n 0 es) p).1 ≡ map (shift_column_up n) (push_part new (part_for new Right n n es) p).1
back_again new n es p = go (and_vec new (push_right n es)) (right_refers n new es)
  where
    go : (o : Option Expression) → ((x : Expression) → o ≡ some x → ref_left n x ≡ false)
        → (push_part new (map_optional (shift_column_down 0) o) p).1 ≡ map (shift_column_up n) (push_part new (map_optional (shift_column_down n) o) p).1
    go none h = refl
    go (some x) h = returned new (shift_column_up n) (shift_column_down 0 x) (shift_column_down n x) (shift_none x ∙ sym (up_down n x (h x refl))) p

pub split_is : (og n : ℕ) (outer : Bool) (es : List Expression) (l r : Node)
    → join og outer (nested_loop (stays og n es l r)) (new_left og n es l) (new_right og n es r) ≡ split og n outer es l r
split_is og n outer es l r =
    ap (λ (xs : List Expression). join og outer (nested_loop (and_vec og (for_both n es ++ ((push_part og (part_for og Left n 0 es) l).1 ++ xs)))) (new_left og n es l) (new_right og n es r))
    (back_again og n es r)
