-- Pass 3, IndexLookup, keeps plans: a lookup's column is one that a conjunct of the Scan's filter reads.
use Rattle.std.specs.Prelude.{ℕ, ◌<◌, ◌≡◌, refl, Bool, true, false, cond, List, [], ◌∷◌, eqb, length}
use Rattle.std.proofs.Math.Option.{Option, none, some}
use Rattle.value.specs.Value.{Value}
use Rattle.sql.specs.Schema.{Schema, table_of}
use Rattle.sql.specs.Expression.{Expression, into_cnf_vec, and_vec, is_column_lookup, into_column_values}
use Rattle.sql.specs.Plan.{by_key, by_index, Leaf, scan, lookup, nothing, values, Node, leaf, over, join, leaf_columns, columns}
use Rattle.sql.specs.Optimizer.{Found, filtered, has_index, with_index, found_here, find_lookup, access, lookup_or_scan, index_lookup, IndexLookup}
use Rattle.sheet.specs.Scope.{table_columns}
use Rattle.sheet_laws.specs.Fits.{All, Optional, TableFits}
use Rattle.sound.specs.Lists.{none_some}
use Rattle.sound.specs.Expressions.{cnf_of, and_vec_of, only_lookup, values_of}
use Rattle.sound.specs.Values.{nan_fits}
use Rattle.sound.specs.Sound.{Fitting, Within, AccessWithin, SoundLeaf, Sound, Emits}
use Rattle.sound.specs.Keeps.{Keeps, over_keeps, join_keeps}

module _ (schema : Schema) (text : List ℕ) (tables : ℕ) where
  abbrev W : ℕ → Expression → Type 0
  W = Within schema text tables

  abbrev E : ℕ → Node → Type 0
  E = Emits schema text tables

  abbrev F : Value → Type 0
  F = Fitting schema text tables

  -- A lookup that is found looks for a column of the table.
  pub record FoundWithin (n : ℕ) (f : Found) : Type 0 where
    pub number : f.column_number < n
    pub conjunct : W n f.conjunct
    pub remaining : All (W n) f.remaining

  module _ (t : ℕ) where
    indexed : (o : Option ℕ) (c : ℕ) → with_index schema t o ≡ some c → o ≡ some c
    indexed none c h = none_some h
    indexed (some d) c h = go (has_index schema t d) h
      where
        go : (b : Bool) → cond b (some d) none ≡ some c → ◌≡◌ {A = Option ℕ} (some d) (some c)
        go true k = k
        go false k = none_some k

    found_within : (n : ℕ) (es : List Expression) → All (W n) es → Optional (FoundWithin n) (find_lookup schema t es)
    found_within n [] q = tt
    found_within n (e ∷ es) q = go (with_index schema t (is_column_lookup e)) refl (find_lookup schema t es) (found_within n es q.1)
      where
        go : (o : Option ℕ) → with_index schema t (is_column_lookup e) ≡ o → (later : Option Found) → Optional (FoundWithin n) later
            → Optional (FoundWithin n) (found_here schema t e es o later)
        go (some c) h later k = record {
          number = (only_lookup F (λ d. d < n) e c (indexed (is_column_lookup e) c h) q.0).0;
          conjunct = q.0;
          remaining = q.1;
        }
        go none h none k = tt
        go none h (some f) k = record { number = k.number; conjunct = k.conjunct; remaining = (q.0, k.remaining) }

    access_within : (n c : ℕ) → c < n → AccessWithin schema text tables n (access schema t c)
    access_within n c h = go (eqb c (table_of schema t).primary_key)
      where
        go : (b : Bool) → AccessWithin schema text tables n (cond b by_key (by_index c))
        go true = tt
        go false = h

    filtered_keeps : (og : ℕ) (p : Option Expression) (n : Node) → Sound schema text tables n → Optional (W (columns schema n)) p → E (columns schema n) (filtered og p n)
    filtered_keeps og none n x y = (x, refl)
    filtered_keeps og (some e) n x y = ((x, y), refl)

    scan_keeps : (og : ℕ) (al : Option ℕ) (p : Expression) → W (table_columns schema t) p → TableFits (length text) tables t al
        → (o : Option Found) → Optional (FoundWithin (table_columns schema t)) o → E (table_columns schema t) (lookup_or_scan schema t og al p o)
    scan_keeps og al p x y none k = ((x, y), refl)
    scan_keeps og al p x y (some f) k =
        filtered_keeps og (and_vec og f.remaining) (leaf og (lookup (access schema t f.column_number) t al (into_column_values f.conjunct)))
        (values_of F (λ c. c < table_columns schema t) tt (nan_fits text (length text)) f.conjunct k.conjunct, (y, access_within (table_columns schema t) f.column_number k.number))
        (and_vec_of F (λ c. c < table_columns schema t) og f.remaining k.remaining)

  pub leaf_keeps : (og : ℕ) (l : Leaf) → SoundLeaf schema text tables l → E (leaf_columns schema l) (index_lookup schema og l)
  unfolding index_lookup
  leaf_keeps og (scan t al none) x = (x, refl)
  leaf_keeps og (scan t al (some p)) x =
      scan_keeps t og al p x.0 x.1 (find_lookup schema t (into_cnf_vec p))
      (found_within t (table_columns schema t) (into_cnf_vec p) (cnf_of F (λ c. c < table_columns schema t) p x.0))
  leaf_keeps og (lookup a t al vs) x = (x, refl)
  leaf_keeps og (nothing ls) x = (x, refl)
  leaf_keeps og (values rs) x = (x, refl)

  pub lookup_keeps : Keeps schema text tables (IndexLookup schema)
  unfolding IndexLookup
  lookup_keeps (leaf og l) x = leaf_keeps og l x
  lookup_keeps (over og o s) x = over_keeps schema text tables og o s (IndexLookup schema s) x.1 (lookup_keeps s x.0)
  lookup_keeps (join og outer j a b) x =
      join_keeps schema text tables og outer j (columns schema a) (columns schema b) (IndexLookup schema a) (IndexLookup schema b) x.1.1 (lookup_keeps a x.0) (lookup_keeps b x.1.0)
