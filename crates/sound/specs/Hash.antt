-- Pass 4, HashJoin, keeps plans: it acts only if one column is on each side.
use Rattle.std.specs.Prelude.{ℕ, ◌+◌, ◌-◌, ◌<◌, ◌≡◌, refl, Bool, true, false, not, ◌&&◌, cond, List, ltb}
use Rattle.std.proofs.Common.{arith, ltb-true, ltb-false}
use Rattle.std.proofs.lemmas.Bool.{not-true}
use Rattle.std.proofs.Math.Option.{Option, none, some}
use Rattle.value.specs.Value.{Value}
use Rattle.sql.specs.Schema.{Schema}
use Rattle.sql.specs.Expression.{Expression}
use Rattle.sql.specs.Plan.{Join, nested_loop, hash, leaf, over, join, columns}
use Rattle.sql.specs.Optimizer.{equijoin, hash_pair, hash_join, HashJoin}
use Rattle.sheet_laws.specs.Content.{and_left, and_right}
use Rattle.sound.specs.Expressions.{pair_of}
use Rattle.sound.specs.Sound.{Fitting, Within, SoundJoin}
use Rattle.sound.specs.Keeps.{Keeps, over_keeps, join_keeps}

module _ (schema : Schema) (text : List ℕ) (tables : ℕ) where
  abbrev W : ℕ → Expression → Type 0
  W = Within schema text tables

  abbrev F : Value → Type 0
  F = Fitting schema text tables

  module _ (n m : ℕ) where
    pair_within : (e : Expression) → W (n + m) e → (o : Option (ℕ × ℕ)) → equijoin e ≡ o → SoundJoin schema text tables n m (hash_pair n e o)
    pair_within e x none h = x
    pair_within e x (some p) h = go (ltb p.0 n && not (ltb p.1 n)) refl
      where
        go : (b : Bool) → (ltb p.0 n && not (ltb p.1 n)) ≡ b → SoundJoin schema text tables n m (cond b (hash p.0 (p.1 - n)) (nested_loop (some e)))
        go true k =
            let low = ltb-true p.0 n (and_left (ltb p.0 n) (not (ltb p.1 n)) k) in
            let high = ltb-false p.1 n (not-true (ltb p.1 n) (and_right (ltb p.0 n) (not (ltb p.1 n)) k)) in
            let inside = (pair_of F (λ c. c < n + m) n e p h x).higher in
            (low, omega arith)
        go false k = x

    hash_within : (j : Join) → SoundJoin schema text tables n m j → SoundJoin schema text tables n m (hash_join n j)
    hash_within (nested_loop none) x = tt
    hash_within (nested_loop (some e)) x = pair_within e x (equijoin e) refl
    hash_within (hash i j) x = x

  pub hash_keeps : Keeps schema text tables (HashJoin schema)
  hash_keeps (leaf og l) x = (x, refl)
  hash_keeps (over og o s) x = over_keeps schema text tables og o s (HashJoin schema s) x.1 (hash_keeps s x.0)
  hash_keeps (join og outer j a b) x =
      let n = columns schema a in
      let m = columns schema b in
      join_keeps schema text tables og outer (hash_join n j) n m (HashJoin schema a) (HashJoin schema b) (hash_within n m j x.1.1) (hash_keeps a x.0) (hash_keeps b x.1.0)
