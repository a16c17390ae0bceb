-- Laws for three functions of the crate: where a cell's trees start, the cell put over them, and the loop over the cells of a sheet.
-- Assumes nothing.
use Prim.Native.Nat.{ℕ, suc, ◌+◌, ◌-◌, ◌*◌, ◌≤◌, ◌<◌}
use native.Mathlib.Omega.{arith}
use native.Mathlib.Numerals.{add-one}
use mathlib.Core.Path.{◌≡◌, refl, sym, ap, ◌∙◌, subst}
use mathlib.Core.List.{List, [], ◌∷◌, ◌++◌, map, append_assoc}
use lib.ListN.{length, take, drop, length-append, take-append-drop}
use lib.Seq.{length-take-le, take_at, take-append_seam}
use Rattle.sql.specs.Answer.{done}
use Rattle.sql.specs.Plan.{Node, up_to}
use Rattle.sheet.specs.Parts.{table_count, cell_count}
use Rattle.sheet.specs.Cell as Sheet
use Rattle.sheet.specs.Check.{text, cells_of, plan}
use Rattle.sheet_laws.specs.Accepted.{accepted}
use Rattle.sheet_laws.specs.Fits.{ExactCell}
use Rattle.sheet_laws.specs.Plan.{Bytes}
use Rattle.sheet_laws.proofs.Plan.{plan_cells, plan_exact}
use Rattle.layout.specs.Layout.{Whole, Laid, IsCell, as_cell}
use Rattle.layout.specs.declared.Cell.{Cell}
use Rattle.layout.specs.declared.Parts.{Parts}
use Rattle.layout.proofs.Laws.{cells_are, cell_there}
use Rattle.cells.specs.Cells.{sized, start_at, Part, Sized}
use Rattle.cells.specs.Room.{Wrote, Seals}
use Rattle.cells.proofs.Laws as cells
use Rattle.cells.proofs.Laws.{part_in, wrote_up, lt_or_ge}
use Rattle.words.specs.Words.{node_words}
use Rattle.nodes.specs.Trees.{Trees, TreesAt, trees_start}
use Rattle.nodes.proofs.Trees.{trees_start_is, last_sized, before_last}
use Rattle.decode.specs.Decode.{Acceptable, Decodes, trees, as_words, Last, Put}
use Rattle.decode.proofs.Trees.{leaf_trees, two_trees, one_tree}
use Rattle.decode.proofs.Builds.{in_words, Builds, at_end, on, builds_grow, node_builds}

-- ---- one cell

-- Words that stand there were written there.
stood : {x : List ℕ} {lo at : ℕ} {w : List ℕ} → Part x lo at w → Wrote x lo w at x
stood {x} {lo} {at} {w} p =
    cells.done (omega (arith, p.high, (part_in p).1)) (sym p.high)
    (ap (take at) (p.whole ∙ sym (append_assoc p.before w p.after))
    ∙ take_at (p.before ++ w) p.after at (length-append p.before w ∙ omega (arith, p.low, p.high))
    ∙ ap (λ (l : List ℕ). l ++ w) (sym (ap (take lo) p.whole ∙ take_at p.before (w ++ p.after) lo p.low)))

-- where the trees start that a cell asks for
module _ {k : Cell} {x : List ℕ} {at : ℕ} (l : Last x at k) where
  module _ {r : ℕ} (a : r ≡ trees (as_cell k)) where
    pub last_trees : TreesAt x r at
    last_trees = rw a l.last

    pub start_said : {lo : ℕ} → lo ≡ trees_start x r at → lo ≡ trees_start x (trees (as_cell k)) at
    start_said e = e ∙ ap (λ (m : ℕ). trees_start x m at) a

  pub leaf_start : k.tag < 10 → at ≡ trees_start x (trees (as_cell k)) at
  unfolding trees_start
  leaf_start h = start_said (leaf_trees (as_cell k) h) refl

  -- of an operator's two operands
  module _ (h : 10 ≤ k.tag) (i : k.tag < 30) where
    two_last : TreesAt x 2 at
    two_last = last_trees (two_trees (as_cell k) h i)

    pub right_sized : Sized x at
    right_sized = last_sized (λ z. omega arith) two_last

    module _ {mid : ℕ} (e : mid ≡ start_at x at) where
      pub left_sized : Sized x mid
      left_sized = last_sized (λ z. omega arith) (before_last (λ z. omega arith) e two_last)

      pub two_start : {lo : ℕ} → lo ≡ start_at x mid → lo ≡ trees_start x (trees (as_cell k)) at
      unfolding trees_start
      two_start f = start_said (two_trees (as_cell k) h i) (f ∙ ap (start_at x) e)

  -- of an operator's one operand
  module _ (h : 10 ≤ k.tag) (i : 30 ≤ k.tag) (j : k.tag < 40) where
    pub operand_sized : Sized x at
    operand_sized = last_sized (λ z. omega arith) (last_trees (one_tree (as_cell k) h i j))

    pub one_start : {lo : ℕ} → lo ≡ start_at x at → lo ≡ trees_start x (trees (as_cell k)) at
    unfolding trees_start
    one_start e = start_said (one_tree (as_cell k) h i j) e

pub put_said : (k : Cell) {x x' : List ℕ} {at lo n : ℕ} → lo ≡ trees_start x (trees (as_cell k)) at → Seals x lo at (as_words k) n x' → Put x at k n x'
put_said k {x} {x'} {at} {lo} {n} e s from w t p =
    let f : lo ≡ from = e ∙ trees_start_is t p in
    subst (λ (m : ℕ). Wrote x m (sized w (as_words k)) n x') f (s x w refl (subst (λ (m : ℕ). Wrote x m w at x) (sym f) (stood p)))

-- ---- all cells of a sheet

pub whole : {s : List ℕ} → Acceptable s → Whole s
whole {s} a = let f = accepted s a.node a.is in record { length_is = f.length_is; parts_are = f.parts_are }

-- The cells from i on are still to be put over what stands in the first `at` words.
pub record Going (s x : List ℕ) (at i : ℕ) : Type 0 where
  pub node : Node
  pub is : plan s ≡ done node
  pub within : i ≤ cell_count s
  pub low : at ≤ length x
  pub builds : Builds (map (Sheet.cell s) (up_to i (cell_count s - i))) (take at x) (node_words node)

pub going_start : (s x : List ℕ) → Bytes s → Acceptable s → Going s x 0 0
unfolding cells_of
going_start s x b a =
    let n = a.node in
    let w = node_builds (ExactCell (text s) (length (text s)) (table_count s)) (λ k x. x.1) n (plan_exact s b n a.is) [] in
    let e : cell_count s - 0 ≡ cell_count s = omega arith in
    record {
      node = n;
      is = a.is;
      within = omega arith;
      low = omega arith;
      builds = rw e (subst (λ (cs : List Sheet.Cell). Builds cs [] (node_words n)) (sym (plan_cells s b n a.is)) w);
    }

-- the trees of the next cell, and what follows it
record Next (c : Sheet.Cell) (cs : List Sheet.Cell) (x : List ℕ) (at : ℕ) (v : List ℕ) : Type 0 where
  lo : ℕ
  w : List ℕ
  last : Trees (trees c) w
  part : Part x lo at w
  rest : Builds cs (take lo x ++ sized w (in_words c)) v

next : {c : Sheet.Cell} {cs : List Sheet.Cell} {x : List ℕ} {at : ℕ} {v : List ℕ} → at ≤ length x → Builds (c ∷ cs) (take at x) v → Next c cs x at v
next {c} {cs} {x} {at} {v} h b = go (take at x) refl b
  where
    go : (w : List ℕ) → take at x ≡ w → Builds (c ∷ cs) w v → Next c cs x at v
    go w f (on u b e tr p) =
        let s : x ≡ u ++ (b ++ drop at x) = sym (take-append-drop at x) ∙ ap (λ (l : List ℕ). l ++ drop at x) (f ∙ e) ∙ append_assoc u b (drop at x) in
        let z : take (length u) x ≡ u = ap (take (length u)) s ∙ take-append_seam u (b ++ drop at x) in
        record {
          lo = length u;
          w = b;
          last = tr;
          part = record {
            before = u;
            after = drop at x;
            whole = s;
            low = refl;
            high = sym (length-append u b) ∙ sym (ap length (f ∙ e)) ∙ length-take-le at x h;
          };
          rest = subst (λ (l : List ℕ). Builds cs (l ++ sized b (in_words c)) v) (sym z) p;
        }

-- two plans of one sheet
one_plan : (s : List ℕ) {m n : Node} → plan s ≡ done m → plan s ≡ done n → m ≡ n
one_plan s p q = cc

module _ {s x : List ℕ} {at i : ℕ} (g : Going s x at i) {p : Parts} (l : Laid s p) where
  module _ (h : i < p.cells.count) {k : Cell} (holds : IsCell (Sheet.cell_from s (p.cells.at + i * 16)) k) where
    rest : List Sheet.Cell
    rest = map (Sheet.cell s) (up_to (suc i) (cell_count s - suc i))

    next_cell : Next (as_cell k) rest x at (node_words g.node)
    unfolding rest
    next_cell =
        let e : cell_count s - i ≡ suc (cell_count s - suc i) = omega (arith, cells_are l) in
        rw (cell_there i l holds).is (next g.low (rw e at g.builds))

    pub trees_last : Last x at k
    trees_last =
        record {
          last = record { lo = next_cell.lo; w = next_cell.w; trees = next_cell.last; part = next_cell.part };
          a_small = holds.a_small;
          b_small = holds.b_small;
          c_small = holds.c_small;
          tag_small = holds.tag_small;
          flag_small = holds.flag_small;
          origin_small = holds.origin_small;
        }

    module _ {r : ℕ} {x' : List ℕ} (put : Put x at k r x') where
      wrote : Wrote x next_cell.lo (sized next_cell.w (as_words k)) r x'
      wrote = put next_cell.lo next_cell.w next_cell.last next_cell.part

      pub going_on : length x' ≡ length x → r ≤ length x' → Going s x' r (i + 1)
      unfolding rest
      going_on e f =
          let y = wrote_up wrote (omega arith) in
          let z = (wrote.is (omega arith)).1 in
          record {
            node = g.node;
            is = g.is;
            within = omega (arith, cells_are l);
            low = f;
            builds = rw (add-one i, z) next_cell.rest;
          }

      pub going_full : {x₀ : List ℕ} {n : ℕ} {d : List ℕ} → length x ≡ length x₀ → length x' ≡ length x → length x' < r → length x < n → Decodes s x₀ n d
      going_full {x₀} e f j q node is =
          let b = builds_grow next_cell.rest in
          let c = length-append (take next_cell.lo x) (sized next_cell.w (as_words k)) in
          let d = length-take-le next_cell.lo x (omega (arith, part_in next_cell.part)) in
          let m = ap (λ (n : Node). length (node_words n)) (one_plan s g.is is) in
          record { is = λ z. absurd (omega arith); room = λ z v. absurd (omega (arith, wrote.room (omega arith) (omega arith))) }

  pub going_done : (p.cells.count ≤ i) → {x₀ : List ℕ} → length x ≡ length x₀ → Decodes s x₀ at x
  going_done h {x₀} e node is =
      let z : cell_count s - i ≡ 0 = omega (arith, cells_are l) in
      let w : take at x ≡ node_words g.node = ended (rw z at g.builds) in
      let v : take at x ≡ node_words node = w ∙ ap node_words (one_plan s g.is is) in
      let j : at ≡ length (node_words node) = sym (length-take-le at x g.low) ∙ ap length v in
      cells.done (omega (arith, g.low)) (omega arith) v
    where
      ended : {w v : List ℕ} → Builds [] w v → w ≡ v
      ended (at_end e) = e
