-- The column numbers that a plan's cells say. In a sound plan with at most so many cells, over tables that have at most 256 columns, each is below the most columns
-- that a plan of so many cells has (crate sheet_laws, Counts).
use Rattle.std.specs.Prelude.{ℕ, ◌+◌, ◌≤◌, ◌<◌, Bool, List, length}
use Rattle.std.proofs.Common.{arith}
use Rattle.std.proofs.Math.Option.{Option, none, some}
use Rattle.value.specs.Value.{Value}
use Rattle.sql.specs.Schema.{Schema, table_of}
use Rattle.sql.specs.Expression.{Expression, constant, column, unary, binary}
use Rattle.sql.specs.Plan.{by_key, by_index, Leaf, scan, lookup, nothing, values, limit, offset, order, projection, remap, aggregate, Over, filter, other, Join, nested_loop, hash, leaf, over, join, values_columns, columns}
use Rattle.sheet.specs.Content.{Content, target_cell}
use Rattle.sheet_laws.specs.Fits.{All, Optional, LabelFits, EachExpression, EachItem, EachKey, EachAgg, EachRow, EachLeaf, EachOver, EachJoin}
use Rattle.sheet_laws.specs.Counts.{most_columns}
use Rattle.sheet_laws.proofs.Counts.{all_map}
use Rattle.sheet_laws.proofs.Handed.{node_size_positive}
use Rattle.sound.specs.Expressions.{MadeOf}
use Rattle.sound.specs.Sound.{Fitting, Within, RowOf, SoundLeaf, SoundOver, SoundJoin}
use Rattle.sound.specs.Widest.{sound_few}
use Rattle.sound.specs.Numbers.{NumbersBelow, SoundBelow}

-- ---- expressions

-- over a row of w columns, where w is at most n
pub expression_below : (P : Value → Type 0) (w n : ℕ) → w ≤ n → (e : Expression) → MadeOf P (λ c. c < w) e → EachExpression (NumbersBelow n) e
expression_below P w n h (constant og v) m = tt
expression_below P w n h (column og c) m = omega arith
expression_below P w n h (unary og o x) m = (expression_below P w n h x m, tt)
expression_below P w n h (binary og o l r) m = (expression_below P w n h l m.0, (expression_below P w n h r m.1, tt))

pub optional_below : (P : Value → Type 0) (w n : ℕ) → w ≤ n → (o : Option Expression) → Optional (MadeOf P (λ c. c < w)) o → Optional (EachExpression (NumbersBelow n)) o
optional_below P w n h none m = tt
optional_below P w n h (some e) m = expression_below P w n h e m

-- ---- nodes

module _ (schema : Schema) (narrow : (t : ℕ) → length (table_of schema t).columns ≤ 256) (text : List ℕ) (tables n : ℕ) where
  abbrev B : Content → Type 0
  B = NumbersBelow n

  within : (w : ℕ) → w ≤ n → (e : Expression) → Within schema text tables w e → EachExpression B e
  within w h = expression_below (Fitting schema text tables) w n h

  each_within : (w : ℕ) → w ≤ n → (es : List Expression) → All (Within schema text tables w) es → All (EachExpression B) es
  each_within w h = all_map (Within schema text tables w) (EachExpression B) (within w h)

  -- a source has at most n columns
  over_below : (w : ℕ) → w ≤ n → 256 ≤ n → (o : Over) → SoundOver schema text tables w o → EachOver B o
  over_below w h k (filter e) x = (within w h e x, tt)
  over_below w h k (other (limit m)) x = tt
  over_below w h k (other (offset m)) x = tt
  over_below w h k (other (order ks)) x =
      (all_map (λ k. Within schema text tables w k.0) (EachKey B) (λ k y. (within w h k.0 y, tt)) ks x, tt)
  over_below w h k (other (projection is)) x =
      (all_map (λ i. Within schema text tables w i.0 × LabelFits (length text) i.1) (EachItem B) (λ i y. (within w h i.0 y.0, tt)) is x, tt)
  over_below w h k (other (remap ts)) x = (all_map (λ t. Optional (λ c. c < 256) t.0) (λ t. B (target_cell t.0)) (λ t. wide t.0) ts x.0, tt)
    where
      wide : (t : Option ℕ) → Optional (λ t. t < 256) t → Optional (λ i. i < n) t
      wide none y = tt
      wide (some t) y = omega arith
  over_below w h k (other (aggregate es gs)) x = (
    each_within w h es x.0,
    (all_map (λ g. Within schema text tables w g.1 × (g.0 < 5)) (EachAgg B) (λ g y. (within w h g.1 y.0, tt)) gs x.1, tt),
  )

  join_below : (outer : Bool) (l r : ℕ) → l + r ≤ n → (j : Join) → SoundJoin schema text tables l r j → EachJoin B outer j
  join_below outer l r h (nested_loop p) x = (optional_below (Fitting schema text tables) (l + r) n h p x, tt)
  join_below outer l r h (hash i j) x = let (a, b) = x in (omega arith, omega arith)

  leaf_below : 256 ≤ n → (l : Leaf) → SoundLeaf schema text tables l → EachLeaf B l
  leaf_below k (scan t al p) x = (optional_below (Fitting schema text tables) (length (table_of schema t).columns) n (omega (arith, narrow t)) p x.0, tt)
  leaf_below k (lookup by_key t al vs) x = (all_map (λ v. Fitting schema text tables v.0) (λ v. Unit {0}) (λ v y. tt) vs x.0, tt)
  leaf_below k (lookup (by_index i) t al vs) x = (all_map (λ v. Fitting schema text tables v.0) (λ v. Unit {0}) (λ v y. tt) vs x.0, omega (arith, narrow t, x.1.1))
  leaf_below k (nothing ls) x = (all_map (λ l. LabelFits (length text) l.0) (λ l. Unit {0}) (λ l y. tt) ls x, tt)
  leaf_below k (values rs) x =
      (all_map (RowOf schema text tables (values_columns rs)) (EachRow B) (λ es y. (each_within 0 (omega arith) es.0 y.0, tt)) rs x, tt)

pub sound_below : SoundBelow
sound_below schema narrow text tables cells (leaf og l) x h = leaf_below schema narrow text tables (most_columns cells) (omega (arith, node_size_positive (leaf og l))) l x
sound_below schema narrow text tables cells (over og o n) x h = (
  sound_below schema narrow text tables cells n x.0 (omega arith),
  over_below schema narrow text tables (most_columns cells) (columns schema n) (omega (arith, sound_few schema narrow text tables n x.0))
      (omega (arith, node_size_positive n)) o x.1,
)
sound_below schema narrow text tables cells (join og outer j l r) x h = (
  sound_below schema narrow text tables cells l x.0 (omega arith),
  (
    sound_below schema narrow text tables cells r x.1.0 (omega arith),
    join_below schema narrow text tables (most_columns cells) outer (columns schema l) (columns schema r)
        (omega (arith, sound_few schema narrow text tables (join og outer j l r) x)) j x.1.1,
  ),
)
