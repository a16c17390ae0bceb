-- A pass keeps plans: what it makes of a sound one is sound, with as many columns.
use Rattle.std.specs.Prelude.{ℕ, ◌+◌, ◌≡◌, refl, Bool, List}
use Rattle.std.proofs.Common.{sym, ap, ap₂, ◌∙◌, subst}
use Rattle.sql.specs.Schema.{Schema}
use Rattle.sql.specs.Plan.{Over, filter, other, Join, Node, leaf, over, join, other_columns, columns}
use Rattle.sql.specs.Optimizer.{map_sources}
use Rattle.sound.specs.Sound.{SoundOver, SoundJoin, Sound, Emits}

-- a node over another source that has as many columns
pub same_over : (schema : Schema) (og : ℕ) (o : Over) (s t : Node) → columns schema s ≡ columns schema t → columns schema (over og o s) ≡ columns schema (over og o t)
same_over schema og (filter e) s t h = h
same_over schema og (other o) s t h = ap (other_columns o) h

module _ (schema : Schema) (text : List ℕ) (tables : ℕ) where
  abbrev pub Keeps : (Node → Node) → Type 0
  Keeps f = (n : Node) → Sound schema text tables n → Emits schema text tables (columns schema n) (f n)

  pub keeps_next : (f : Node → Node) → Keeps f → {w : ℕ} (n : Node) → Emits schema text tables w n → Emits schema text tables w (f n)
  keeps_next f k n x = let y = k n x.0 in (y.0, y.1 ∙ x.1)

  -- a node whose source, or sources, have become others with as many columns
  pub over_keeps : (og : ℕ) (o : Over) (s t : Node) → SoundOver schema text tables (columns schema s) o → Emits schema text tables (columns schema s) t
      → Emits schema text tables (columns schema (over og o s)) (over og o t)
  over_keeps og o s t x y = ((y.0, subst (λ (k : ℕ). SoundOver schema text tables k o) (sym y.1) x), same_over schema og o t s y.1)

  pub join_keeps : (og : ℕ) (outer : Bool) (j : Join) (m n : ℕ) (a b : Node) → SoundJoin schema text tables m n j
      → Emits schema text tables m a → Emits schema text tables n b → Emits schema text tables (m + n) (join og outer j a b)
  join_keeps og outer j m n a b x y z = (
    (
      y.0,
      (
        z.0,
        subst (λ (k : ℕ). SoundJoin schema text tables k (columns schema b) j) (sym y.1)
            (subst (λ (k : ℕ). SoundJoin schema text tables m k j) (sym z.1) x),
      ),
    ),
    ap₂ ◌+◌ y.1 z.1,
  )

  pub sources_keep : (f : Node → Node) → Keeps f → Keeps (map_sources f)
  sources_keep f k (leaf og l) x = (x, refl)
  sources_keep f k (over og o s) x = over_keeps og o s (f s) x.1 (k s x.0)
  sources_keep f k (join og outer j a b) x = join_keeps og outer j (columns schema a) (columns schema b) (f a) (f b) x.1.1 (k a x.0) (k b x.1.0)
