-- What folding a plan leaves.
use Rattle.std.specs.Prelude.{Ok, Err}
use Prim.Native.Nat.{ℕ, ◌+◌, ◌-◌, ◌≤◌, ◌<◌}
use native.Mathlib.Omega.{arith}
use mathlib.Core.Path.{◌≡◌, refl, sym, ap, ◌∙◌}
use mathlib.Core.List.{List, [], ◌∷◌, ◌++◌, map, append-nil}
use mathlib.Core.Option.{Option, none, some}
use lib.ListN.{length, take, drop, take-append-drop}
use lib.Seq.{length-take-le}
use Rattle.sql.specs.Schema.{Schema}
use Rattle.sql.specs.Expression.{Expression}
use Rattle.sql.specs.Plan.{Label, unlabelled, unqualified, qualified, Leaf, scan, lookup, nothing, values, limit, offset, order, projection, remap, aggregate, Over, filter, other, Join, nested_loop, hash, Node, leaf, over, join, columns}
use Rattle.sql.specs.Answer.{Answer, done, refused}
use Rattle.sql.specs.Optimizer.{ConstantFolding}
use Rattle.sheet.specs.Content.{cell_of, item_cell}
use Rattle.sheet_laws.specs.Fits.{All, Optional}
use Rattle.sound.specs.Answers.{answer_is}
use Rattle.sound.specs.Expressions.{weaker}
use Rattle.sound.specs.Sound.{Fitting, Within, RowOf, SoundLeaf, SoundOver, SoundJoin, Sound, Emits}
use Rattle.sound.specs.Folding.{folding_keeps}
use Rattle.edit.specs.Edit.{Holds}
use Rattle.kept.specs.Kept.{Kept}
use Rattle.words.specs.Words.{node_words}
use Rattle.words.specs.Place.{NodeHere}
use Rattle.fold_operator.specs.Left.{ConstantsFit, Folded}
use Rattle.fold_parts.specs.Leaves.{Leaves}
use Rattle.fold_parts.specs.Leaves as leaves
use Rattle.fold_parts.specs.Parts.{OwnPart, PartFits}
use Rattle.fold_parts.specs.Own.{key_part, item_part, row_part, optional_parts, leaf_parts, over_parts, join_parts}
use Rattle.fold_parts.proofs.Leaves.{made_of}
use Rattle.constant_folding.specs.Nodes.{NodeFits, SourceHere, SourceAt, FoldsSource}
use Rattle.constant_folding.specs.Plans.{PlanAt, PlanDone, Left, FoldsPlan}

-- ---- what stands in the first t words

pub plan_here : {x : List ℕ} {t : ℕ} (p : Node) → t ≤ length x → take t x ≡ node_words p → NodeHere x 0 t p
plan_here {x} {t} p h e = record {
  part = record {
    before = [];
    after = drop t x;
    whole = sym (take-append-drop t x) ∙ ap (λ (l : List ℕ). l ++ drop t x) e;
    low = refl;
    high = omega (arith, ap length e, length-take-le t x h);
  };
}

-- The same for the passes that edit in place, before folding and after it.
pub holds_here : {x : List ℕ} {t : ℕ} (p : Node) → Holds x t 0 0 [] [] p → NodeHere x 0 t p
holds_here p h = plan_here p h.inside (h.whole ∙ append-nil (node_words p))

pub done_holds : {schema : Schema} {text : List ℕ} {tables : ℕ} {p q : Node} {t n : ℕ} {y : List ℕ} → PlanDone schema text tables p q t n y → Holds y n 0 0 [] [] q
done_holds {q = q} d = record { whole = d.words ∙ sym (append-nil (node_words q)); low = refl; high = refl; inside = d.inside }

-- ---- A sound plan's own parts fit.

item_tag : (l : Label) → 40 ≤ (cell_of (item_cell l)).tag
item_tag unlabelled = omega arith
item_tag (unqualified r) = omega arith
item_tag (qualified q r) = omega arith

all_parts : {A : Type 0} (P : A → Type 0) (Q : OwnPart → Type 0) (k : A → OwnPart) → ((a : A) → P a → Q (k a)) → (xs : List A) → All P xs → All Q (map k xs)
all_parts P Q k f [] h = tt
all_parts P Q k f (x ∷ xs) h = (f x h.0, all_parts P Q k f xs h.1)

module _ (schema : Schema) (text : List ℕ) (tables : ℕ) where
  constants_fit : (n : ℕ) (e : Expression) → Within schema text tables n e → ConstantsFit text e
  constants_fit n e h = weaker (Fitting schema text tables) (λ c. c < n) (λ c. Unit {0}) (λ c k. tt) e h

  optional_fit : (n : ℕ) (q : Option Expression) → Optional (Within schema text tables n) q → All (PartFits text) (optional_parts q)
  optional_fit n none h = tt
  optional_fit n (some e) h = (constants_fit n e h, tt)

  row_fit : (n : ℕ) (es : List Expression) → All (Within schema text tables n) es → All (ConstantsFit text) es
  row_fit n [] h = tt
  row_fit n (e ∷ es) h = (constants_fit n e h.0, row_fit n es h.1)

  leaf_fit : (l : Leaf) → SoundLeaf schema text tables l → All (PartFits text) (leaf_parts l)
  leaf_fit (scan t al q) h = optional_fit _ q h.0
  leaf_fit (lookup a t al vs) h = tt
  leaf_fit (nothing ls) h = tt
  leaf_fit (values rs) h = all_parts (RowOf schema text tables _) (PartFits text) row_part (λ es k. (row_fit 0 es.0 k.0, omega arith)) rs h

  over_fit : (n : ℕ) (o : Over) → SoundOver schema text tables n o → All (PartFits text) (over_parts o)
  over_fit n (filter e) h = (constants_fit n e h, tt)
  over_fit n (other (limit a)) h = tt
  over_fit n (other (offset a)) h = tt
  over_fit n (other (order ks)) h = all_parts (λ k. Within schema text tables n k.0) (PartFits text) key_part (λ k m. ((constants_fit n k.0 m, tt), omega arith)) ks h
  over_fit n (other (projection is)) h = all_parts _ (PartFits text) item_part (λ i m. ((constants_fit n i.0 m.0, tt), item_tag i.1)) is h
  over_fit n (other (remap ts)) h = tt
  over_fit n (other (aggregate es gs)) h = tt

  join_fit : (l r : ℕ) (j : Join) → SoundJoin schema text tables l r j → All (PartFits text) (join_parts j)
  join_fit l r (nested_loop q) h = optional_fit _ q h
  join_fit l r (hash i j) h = tt

  pub sound_fits : (p : Node) → Sound schema text tables p → NodeFits text p
  sound_fits (leaf og l) h = leaf_fit l h
  sound_fits (over og o n) h = (over_fit (columns schema n) o h.1, sound_fits n h.0)
  sound_fits (join og outer j l r) h = (join_fit (columns schema l) (columns schema r) j h.1.1, (sound_fits l h.0, sound_fits r h.1.0))

-- ---- constant_folding

source_here : (schema : Schema) (tables : ℕ) {text x : List ℕ} {t : ℕ} (p : Node) → NodeHere x 0 t p → Kept schema text tables p p → SourceHere text x 0 t (some p)
source_here schema tables {text} p u k = record { stand = u.part; fit = sound_fits schema text tables p k.0 }

module _ {text x : List ℕ} {t : ℕ} where
  pub source_at : PlanAt text x t → SourceAt text x 0 t
  source_at a = record { source = some a.p; here = source_here a.schema a.tables a.p a.here a.kept; first = 0; numbered = omega arith; short = a.short }

  pub plan_folded : {y : List ℕ} {r : Folded} {y' : List ℕ} → t ≤ length y → length y' ≡ length y → FoldsSource text x 0 t y 0 r y' → FoldsPlan text x t r y'
  plan_folded {y} {r} {y'} room long g schema tables p u k =
      record { left = go (ConstantFolding 0 p) r refl (made_of (ConstantFolding 0 p) some (λ q. refl) (g.leaves 0 (some p) (omega arith) (source_here schema tables p u k))) g.within }
    where
      go : (a : Answer Node) (r : Folded) → ConstantFolding 0 p ≡ a → Leaves node_words y 0 a r y' → leaves.UpTo (0 + (t - 0)) r → Left schema text tables p t a r y'
      go (done q) (Ok n) e h w = record {
        within = omega (arith, w.ends);
        inside = omega (arith, w.ends);
        words = h.left.kept;
        kept = answer_is (Emits schema text tables (columns schema p)) (ConstantFolding 0 p) q (folding_keeps schema text tables 0 p k.0) e;
      }
      go (done q) (Err why) e h w = h.left
      go (refused m i) (Ok n) e h w = h.left
      go (refused m i) (Err why) e h w = h.left
