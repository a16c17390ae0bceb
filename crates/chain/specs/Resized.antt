-- Cells of nodes that follow each other, with new sizes: a chain's cells over a node that has changed.
use Rattle.std.specs.Prelude.{ℕ, ◌+◌, ◌-◌, cond, ◌≡◌, List, [], ◌∷◌, ◌++◌, length, leb}
use Rattle.sheet.specs.Tags
use Rattle.cells.specs.Cells.{cell_words}

-- the size of a cell with this tag: the new one if it is a node's
unfoldable pub new_size : ℕ → ℕ → ℕ → ℕ
new_size tag new old = cond (leb Tags.nodes tag) new old

-- The words of cells with new sizes, where n words of their node stand before the first.
unfoldable pub resized : ℕ → List ℕ → List ℕ
resized n [] = []
resized n (o ∷ []) = o ∷ []
resized n (o ∷ t ∷ []) = o ∷ t ∷ []
resized n (o ∷ t ∷ f ∷ []) = o ∷ t ∷ f ∷ []
resized n (o ∷ t ∷ f ∷ a ∷ []) = o ∷ t ∷ f ∷ a ∷ []
resized n (o ∷ t ∷ f ∷ a ∷ b ∷ []) = o ∷ t ∷ f ∷ a ∷ b ∷ []
resized n (o ∷ t ∷ f ∷ a ∷ b ∷ c ∷ []) = o ∷ t ∷ f ∷ a ∷ b ∷ c ∷ []
resized n (o ∷ t ∷ f ∷ a ∷ b ∷ c ∷ size ∷ ws) = o ∷ t ∷ f ∷ a ∷ b ∷ c ∷ new_size t (n + cell_words) size ∷ resized (n + cell_words) ws

-- The words of x from `from` up to `to` have new sizes in x'.
abbrev pub Resizes : List ℕ → ℕ → ℕ → ℕ → List ℕ → Type 0
Resizes x lo from to x' =
    (a c post : List ℕ) → x ≡ a ++ (c ++ post) → length a ≡ from → from + length c ≡ to → x' ≡ a ++ (resized (from - lo) c ++ post)

pub record Reseals (x : List ℕ) (t lo from tail r : ℕ) (x' : List ℕ) : Type 0 where
  pub same : r ≡ t
  pub words : Resizes x lo from (t - tail) x'
