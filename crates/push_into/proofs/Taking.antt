-- Laws on a node that can take a predicate: which it is, and what is written of it with one more.
use Prim.Native.Nat.{ℕ, ◌+◌, ◌-◌, ◌≤◌}
use native.Mathlib.Omega.{arith}
use mathlib.Core.Bool.{Bool, true, false}
use mathlib.Core.Logic.{◌⊎◌, inl, inr, ⊎_elim}
use mathlib.Core.Path.{◌≡◌, refl, sym, ap, ◌∙◌, subst}
use mathlib.Core.List.{List, [], ◌++◌, append_assoc}
use mathlib.Core.Option.{Option, none, some}
use lib.ListN.{length, take, drop, take-append-drop}
use Rattle.value.specs.Value.{null}
use Rattle.sql.specs.Expression.{Expression, constant, and, origin}
use Rattle.sql.specs.Plan.{scan, lookup, nothing, values, filter, other, nested_loop, hash, Node, leaf, over, join, node_origin}
use Rattle.sql.specs.Optimizer.{and_with, push_into}
use Rattle.sheet.specs.Content.{bit}
use Rattle.sheet.specs.Cells.{present}
use Rattle.cells.specs.declared.Cell.{Cell}
use Rattle.cells.specs.Cells.{cell_words, words, sized, cell_at, tag_at, origin_at}
use Rattle.cells.specs.Room.{Wrote, Seals, Copies}
use Rattle.cells.proofs.Laws.{nothing as no_words, then, wrote_up}
use Rattle.words.specs.Words.{cell, root, expression_words, operand_words, source_words, own_words, node_cell}
use Rattle.words.specs.Place.{NodeHere, NodeAt}
use Rattle.words.proofs.Expressions.{shape}
use Rattle.words.proofs.Sizes.{sized_long}
use Rattle.words.proofs.Writing.{plain}
use Rattle.words.proofs.Nodes.{node_shape, node_cell_is, node_tag, node_in, node_long, own_part}
use Rattle.words.proofs.Tags.{tag_of, tagged, by_scan, by_filter, by_nested_loop}
use Rattle.nodes.specs.Own.{OwnStart}
use Rattle.edit.specs.Edit.{Placed, ReplacesOwn}
use Rattle.edit.proofs.Edits.{some_words}
use Rattle.push_into.specs.Push.{is_some, Takes, TakerAt, Pushes, PushesInPlace}

-- ---- which nodes take a predicate, by their tags
module _ {s : List ℕ} {lo hi : ℕ} where
  tag_here : (p : Node) → NodeHere s lo hi p → tag_at s hi ≡ tag_of p
  tag_here p u = node_tag p u ∙ tagged p

  filter_takes : tag_at s hi ≡ 51 → Takes s lo hi true
  filter_takes h new p e u = by_filter (λ p. true ≡ is_some (push_into new e p)) (λ og q n. refl) p (sym (tag_here p u) ∙ h)

  join_takes : tag_at s hi ≡ 56 → Takes s lo hi true
  join_takes h new p e u = by_nested_loop (λ p. true ≡ is_some (push_into new e p)) (λ og outer q l r. refl) p (sym (tag_here p u) ∙ h)

  scan_takes : tag_at s hi ≡ 62 → Takes s lo hi true
  scan_takes h new p e u = by_scan (λ p. true ≡ is_some (push_into new e p)) (λ og t al q. refl) p (sym (tag_here p u) ∙ h)

  none_takes : (tag_at s hi ≡ 51 → ⊥) → (tag_at s hi ≡ 56 → ⊥) → (tag_at s hi ≡ 62 → ⊥) → Takes s lo hi false
  none_takes f j c new (leaf og (scan t al q)) e u = absurd (c (tag_here (leaf og (scan t al q)) u))
  none_takes f j c new (leaf og (lookup a t al vs)) e u = refl
  none_takes f j c new (leaf og (nothing ls)) e u = refl
  none_takes f j c new (leaf og (values rs)) e u = refl
  none_takes f j c new (over og (filter q) n) e u = absurd (f (tag_here (over og (filter q) n) u))
  none_takes f j c new (over og (other o) n) e u = refl
  none_takes f j c new (join og outer (nested_loop q) l r) e u = absurd (j (tag_here (join og outer (nested_loop q) l r) u))
  none_takes f j c new (join og outer (hash a b) l r) e u = refl

  pub takes_one : {t : ℕ} → t ≡ tag_at s hi → (t ≡ 51) ⊎ ((t ≡ 56) ⊎ (t ≡ 62)) → Takes s lo hi true
  takes_one {t} e = ⊎_elim
      (λ (h : t ≡ 51). filter_takes (sym e ∙ h))
      (⊎_elim (λ (h : t ≡ 56). join_takes (sym e ∙ h)) (λ (h : t ≡ 62). scan_takes (sym e ∙ h)))

  pub takes_none : {t : ℕ} → t ≡ tag_at s hi → ((t ≡ 51) ⊎ ((t ≡ 56) ⊎ (t ≡ 62)) → ⊥) → Takes s lo hi false
  takes_none e f = none_takes (λ z. f (inl (e ∙ z))) (λ z. f (inr (inl (e ∙ z)))) (λ z. f (inr (inr (e ∙ z))))

  pub origin_here : (p : Node) → NodeHere s lo hi p → origin_at s hi ≡ node_origin p
  unfolding cell
  origin_here p u = ap (λ (k : Cell). k.origin) (node_cell_is p u)

  pub node_at_in : NodeAt s lo hi → (cell_words ≤ hi) × (hi ≤ length s)
  node_at_in n = (omega (arith, (node_in n.p n.here).0), (node_in n.p n.here).1)

  pub taker : NodeAt s lo hi → {r : Bool} → Takes s lo hi r → r ≡ true → TakerAt s lo hi
  taker n f h = record { p = n.p; here = n.here; takes = λ new e. sym (f new n.p e n.here) ∙ h }

  pub taker_in : TakerAt s lo hi → (lo + cell_words ≤ hi) × (hi ≤ length s)
  taker_in g = node_in g.p g.here

  pub taker_at : TakerAt s lo hi → NodeAt s lo hi
  taker_at g = record { p = g.p; here = g.here }

pub no_true : {A : Type 0} → false ≡ true → A
no_true h = let y : ◌≡◌ {A = ℕ} 0 1 = ap bit h in absurd (omega arith)

no_false : {A : Type 0} → true ≡ false → A
no_false h = let y : ◌≡◌ {A = ℕ} 1 0 = ap bit h in absurd (omega arith)

no_node : {A : Type 0} (pushed : Node) → ◌≡◌ {A = Option Node} none (some pushed) → A
no_node pushed h = no_true (ap is_some h)

-- what becomes of a node that takes the predicate
pub record Pushed (new : ℕ) (e : Expression) (p : Node) : Type 0 where
  pub pushed : Node
  pub is : push_into new e p ≡ some pushed

pub taken : (new : ℕ) (e : Expression) (p : Node) → is_some (push_into new e p) ≡ true → Pushed new e p
taken new e p h = go (push_into new e p) refl h
  where
    go : (o : Option Node) → push_into new e p ≡ o → is_some o ≡ true → Pushed new e p
    go none i h = no_true h
    go (some q) i h = record { pushed = q; is = i }

pub not_taken : (new : ℕ) (e : Expression) (p : Node) → is_some (push_into new e p) ≡ false → push_into new e p ≡ none
not_taken new e p h = go (push_into new e p) h
  where
    go : (o : Option Node) → is_some o ≡ false → o ≡ none
    go none h = refl
    go (some q) h = no_false h

-- the three nodes that take one, and what they become
module _ (new : ℕ) (e : Expression) (P : Node → Node → Type 0) where
  pub by_taker : ((og t : ℕ) (al : Option ℕ) (q : Option Expression) → P (leaf og (scan t al q)) (leaf og (scan t al (some (and_with new e q)))))
      → ((og : ℕ) (q : Expression) (n : Node) → P (over og (filter q) n) (over og (filter (and new e q)) n))
      → ((og : ℕ) (outer : Bool) (q : Option Expression) (l r : Node) → P (join og outer (nested_loop q) l r) (join og outer (nested_loop (some (and_with new e q))) l r))
      → (source pushed : Node) → push_into new e source ≡ some pushed → P source pushed
  by_taker f g h (leaf og (scan t al q)) pushed i = let k : leaf og (scan t al (some (and_with new e q))) ≡ pushed = cc in subst (P (leaf og (scan t al q))) k (f og t al q)
  by_taker f g h (leaf og (lookup a t al vs)) pushed i = no_node pushed i
  by_taker f g h (leaf og (nothing ls)) pushed i = no_node pushed i
  by_taker f g h (leaf og (values rs)) pushed i = no_node pushed i
  by_taker f g h (over og (filter q) n) pushed i = let k : over og (filter (and new e q)) n ≡ pushed = cc in subst (P (over og (filter q) n)) k (g og q n)
  by_taker f g h (over og (other o) n) pushed i = no_node pushed i
  by_taker f g h (join og outer (nested_loop q) l r) pushed i =
      let k : join og outer (nested_loop (some (and_with new e q))) l r ≡ pushed = cc in subst (P (join og outer (nested_loop q) l r)) k (h og outer q l r)
  by_taker f g h (join og outer (hash a b) l r) pushed i = no_node pushed i

-- ---- the cell of a node that had no predicate: bit 0 of its flag is set

abbrev flagged : Cell → Cell
flagged k = record { origin = k.origin; tag = k.tag; flag = k.flag + 1; a = k.a; b = k.b; c = k.c }

bit_small : (b : Bool) → bit b ≤ 1
bit_small true = omega arith
bit_small false = omega arith

scan_flag : (og t : ℕ) (al : Option ℕ) (q : Option Expression) → (cell og (node_cell (leaf og (scan t al q)))).flag ≤ 3
unfolding cell
scan_flag og t none q = omega (arith, bit_small (present q))
scan_flag og t (some r) q = omega (arith, bit_small (present q))

join_flag : (og : ℕ) (outer : Bool) (q : Option Expression) (l r : Node) → (cell og (node_cell (join og outer (nested_loop q) l r))).flag ≤ 3
unfolding cell
join_flag og outer q l r = omega (arith, bit_small (present q), bit_small outer)

filter_flag : (og : ℕ) (q : Expression) (n : Node) → (cell og (node_cell (over og (filter q) n))).flag ≤ 3
unfolding cell
filter_flag og q n = omega arith

pub flag_small : {s : List ℕ} {lo hi : ℕ} {k : Cell} → TakerAt s lo hi → k ≡ cell_at s hi → k.flag ≤ 3
flag_small {k = k} g i =
    let e = constant 0 null in
    let t = taken 0 e g.p (g.takes 0 e) in
    let b = by_taker 0 e (λ source pushed. (cell (node_origin source) (node_cell source)).flag ≤ 3) scan_flag filter_flag join_flag g.p t.pushed t.is in
    omega (arith, b, ap (λ (c : Cell). c.flag) (i ∙ node_cell_is g.p g.here))

-- ---- the own words and the cell of the node with the predicate

has_words : (q : Expression) → cell_words ≤ length (expression_words q)
has_words q = omega (arith, ap length (shape q), sized_long (operand_words q) (cell (origin q) (root q)))

-- the own words and the cell, over some words b too
abbrev pub own_over : List ℕ → Node → List ℕ
own_over b p = sized (b ++ own_words p) (cell (node_origin p) (node_cell p))

-- a node that had none
abbrev Alone : Expression → Node → Node → Type 0
Alone e source pushed = length (own_words source) ≡ 0 → (b : List ℕ) → sized (b ++ expression_words e) (flagged (cell (node_origin source) (node_cell source))) ≡ own_over b pushed

alone_scan : (new : ℕ) (e : Expression) (og t : ℕ) (al : Option ℕ) (q : Option Expression) → Alone e (leaf og (scan t al q)) (leaf og (scan t al (some (and_with new e q))))
unfolding cell
alone_scan new e og t none none z b = refl
alone_scan new e og t (some r) none z b = refl
alone_scan new e og t al (some q) z b = absurd (omega (arith, has_words q))

alone_join : (new : ℕ) (e : Expression) (og : ℕ) (outer : Bool) (q : Option Expression) (l r : Node)
    → Alone e (join og outer (nested_loop q) l r) (join og outer (nested_loop (some (and_with new e q))) l r)
unfolding cell
alone_join new e og true none l r z b = refl
alone_join new e og false none l r z b = refl
alone_join new e og outer (some q) l r z b = absurd (omega (arith, has_words q))

alone : (new : ℕ) (e : Expression) (source pushed : Node) → push_into new e source ≡ some pushed → Alone e source pushed
alone new e = by_taker new e (Alone e) (alone_scan new e) (λ og q n z b. absurd (omega (arith, has_words q))) (alone_join new e)

-- a node that had one
abbrev Both : ℕ → Expression → Node → Node → Type 0
Both new e source pushed = (length (own_words source) ≡ 0 → ⊥) → (b : List ℕ)
    → sized (b ++ sized (expression_words e ++ own_words source) (plain new 10)) (cell (node_origin source) (node_cell source)) ≡ own_over b pushed

both_scan : (new : ℕ) (e : Expression) (og t : ℕ) (al : Option ℕ) (q : Option Expression) → Both new e (leaf og (scan t al q)) (leaf og (scan t al (some (and_with new e q))))
unfolding cell expression_words
both_scan new e og t al none z b = absurd (z refl)
both_scan new e og t al (some q) z b = refl

both_filter : (new : ℕ) (e : Expression) (og : ℕ) (q : Expression) (n : Node) → Both new e (over og (filter q) n) (over og (filter (and new e q)) n)
unfolding cell expression_words
both_filter new e og q n z b = refl

both_join : (new : ℕ) (e : Expression) (og : ℕ) (outer : Bool) (q : Option Expression) (l r : Node)
    → Both new e (join og outer (nested_loop q) l r) (join og outer (nested_loop (some (and_with new e q))) l r)
unfolding cell expression_words
both_join new e og outer none l r z b = absurd (z refl)
both_join new e og outer (some q) l r z b = refl

both : (new : ℕ) (e : Expression) (source pushed : Node) → push_into new e source ≡ some pushed → Both new e source pushed
both new e = by_taker new e (Both new e) (both_scan new e) (both_filter new e) (both_join new e)

-- the sources stay
pub same_sources : (new : ℕ) (e : Expression) (source pushed : Node) → push_into new e source ≡ some pushed → source_words source ≡ source_words pushed
same_sources new e =
    by_taker new e (λ source pushed. source_words source ≡ source_words pushed) (λ og t al q. refl) (λ og q n. refl) (λ og outer q l r. refl)

-- ---- the two ways out of with_predicate

-- a cell that was put over all that was written ends behind its own words
pub put_long : (k : Cell) {d : List ℕ} {at n : ℕ} {d' : List ℕ} → Seals d 0 at k n d' → n ≤ length d → cell_words ≤ n
put_long k {d} {at} f h =
    let s = some_words d at in omega (arith, wrote_up (f d s.w refl s.wrote) h, sized_long s.w k)

module _ {s : List ℕ} {lo hi own : ℕ} {k : Cell} (i : k ≡ cell_at s hi) (o : OwnStart s lo hi own) where
  pub copies_own : TakerAt s lo hi → (own ≤ hi - cell_words) × (hi - cell_words ≤ length s)
  copies_own g =
      (omega (arith, o g.p g.here, node_long g.p g.here), omega (arith, (node_in g.p g.here).1))

  pub pushes_alone : (new : ℕ) {d : List ℕ} {from mid at r : ℕ} {d' : List ℕ} → own ≡ hi - cell_words → Seals d from at (flagged k) r d' → Pushes new s lo hi d from mid at r d'
  pushes_alone new {d} {from} {mid} {at} {r} {d'} z f =
      record { long = λ h. put_long (flagged k) (subst (λ (a : ℕ). Seals d a at (flagged k) r d') h f); writes = writes }
    where
      writes : (e : Expression) (source pushed : Node) → NodeHere s lo hi source → push_into new e source ≡ some pushed → (d₀ d₁ b : List ℕ) → length d₁ ≡ length d₀
          → length d ≡ length d₁ → Wrote d₀ from b mid d₁ → Wrote d₁ mid (expression_words e) at d → Wrote d₀ from (own_over b pushed) r d'
      writes e source pushed u j d₀ d₁ b l₁ l v w =
          subst (λ (a : List ℕ). Wrote d₀ from a r d') (alone new e source pushed j (omega (arith, o source u, node_long source u)) b)
          (subst (λ (a : Cell). Wrote d₀ from (sized (b ++ expression_words e) (flagged a)) r d') (i ∙ node_cell_is source u)
          (f d₀ (b ++ expression_words e) (l ∙ l₁) (then l₁ v w)))

  pub pushes_both : (new : ℕ) {d : List ℕ} {from mid at m n r : ℕ} {d₂ d₃ d' : List ℕ} → (own ≡ hi - cell_words → ⊥) → length d₂ ≡ length d → length d₃ ≡ length d₂
      → Copies s own (hi - cell_words) d at m d₂ → Seals d₂ mid m (plain new 10) n d₃ → Seals d₃ from n k r d' → Pushes new s lo hi d from mid at r d'
  pushes_both new {d} {from} {mid} {at} {m} {n} {r} {d₂} {d₃} {d'} z l₂ l₃ f g h =
      record { long = λ i q. put_long k (subst (λ (a : ℕ). Seals d₃ a n k r d') i h) (omega arith); writes = writes }
    where
      writes : (e : Expression) (source pushed : Node) → NodeHere s lo hi source → push_into new e source ≡ some pushed → (d₀ d₁ b : List ℕ) → length d₁ ≡ length d₀
          → length d ≡ length d₁ → Wrote d₀ from b mid d₁ → Wrote d₁ mid (expression_words e) at d → Wrote d₀ from (own_over b pushed) r d'
      writes e source pushed u j d₀ d₁ b l₁ l v w =
          let ew = expression_words e in
          let ow = own_words source in
          let a = g d₁ (ew ++ ow) (l₂ ∙ l) (then l w (f ow (own_part source u (o source u)))) in
          subst (λ (a : List ℕ). Wrote d₀ from a r d') (both new e source pushed j (λ q. z (omega (arith, o source u, node_long source u))) b)
          (subst (λ (a : Cell). Wrote d₀ from (sized (b ++ sized (ew ++ ow) (plain new 10)) a) r d') (i ∙ node_cell_is source u)
          (h d₀ (b ++ sized (ew ++ ow) (plain new 10)) (l₃ ∙ l₂ ∙ l ∙ l₁) (then l₁ v a)))

-- ---- the predicate goes into the node in place: its own words start at `own`
module _ {x : List ℕ} {lo end own : ℕ} (o : OwnStart x lo end own) where
  pub own_in : TakerAt x lo end → (lo ≤ own) × (own + cell_words ≤ end)
  own_in g = (omega (arith, o g.p g.here), omega (arith, o g.p g.here, node_long g.p g.here))

  pub pushed_in : (new t : ℕ) {tail : ℕ} {y y₁ : List ℕ} {n m r : ℕ} {x' : List ℕ} → length y₁ ≡ length y → Pushes new x lo end y 0 0 n m y₁
      → ReplacesOwn x y₁ m t lo own tail r x' → PushesInPlace new x y n t lo end tail r x'
  pushed_in new t {tail} {y} {y₁} {r = r} {x' = x'} k p f e source pushed pre gone post w a b c j y₀ l v =
      let here : NodeHere x lo end source = record { part = record { before = pre; after = gone ++ (post ++ drop t x); whole = sym (take-append-drop t x) ∙ ap (λ (l : List ℕ). l ++ drop t x) w ∙ simp append_assoc; low = a; high = b } } in
      let ss = source_words source in
      let last = words (cell (node_origin source) (node_cell source)) (length (ss ++ own_words source) + cell_words) in
      subst (λ (s : List ℕ). Placed x' r pre post s)
      (ap (λ (s : List ℕ). sized (s ++ own_words pushed) (cell (node_origin pushed) (node_cell pushed))) (same_sources new e source pushed j) ∙ sym (node_shape pushed))
      (f pre ss (own_words source ++ (last ++ gone)) post
      (w ∙ ap (λ (l : List ℕ). pre ++ (l ++ (gone ++ post))) (node_shape source) ∙ simp append_assoc)
      a (sym (o source here)) c y₀ (own_words pushed) (cell (node_origin pushed) (node_cell pushed)) (length (own_words pushed) + cell_words) (k ∙ l) (p.writes e source pushed here j y₀ y₀ [] refl l (no_words y₀ 0) v))
