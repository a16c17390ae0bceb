-- Laws on each_source in place: crate edit's, for FilterPushdown.
use Prim.Native.Nat.{ℕ, ◌+◌, ◌-◌, ◌≤◌, ◌<◌}
use mathlib.Core.Path.{◌≡◌, refl}
use mathlib.Core.List.{List}
use lib.ListN.{length}
use Rattle.sql.specs.Schema.{Schema}
use Rattle.sql.specs.Plan.{Node}
use Rattle.sql.specs.Answer.{Answer}
use Rattle.sql.specs.Room.{each_source, push_filters_from}
use Rattle.cells.specs.Cells.{cell_words, start_at, Sized}
use Rattle.nodes.specs.Own.{OwnStart, SourceCount}
use Rattle.edit.specs.Edit.{Reseals}
use Rattle.edit.proofs.Sources
use Rattle.kept.specs.Kept.{kept}
use Rattle.kept.specs.Pass.{PassAt, Passes}
use Rattle.push_filters.proofs.Pushing.{pass_also}

-- what is done with a source
abbrev From : ℕ → Schema → ℕ → ℕ → Node → Answer Node
From n schema room = push_filters_from room schema n

abbrev EachSource : ℕ → (records x : List ℕ) (t lo tail r : ℕ) → List ℕ → Type 0
EachSource n = Passes (λ room schema. each_source room schema (push_filters_from room schema n))

module _ {records x : List ℕ} {t lo tail count : ℕ} (n : ℕ) (c : SourceCount x lo (t - tail) count) where
  pub none_left : count ≡ 0 → EachSource n records x t lo tail t x
  none_left z schema text tables given = Sources.no_sources (kept schema text tables) schema (From n schema) c z

  module _ {m : ℕ} (own : OwnStart x lo (t - tail) m) where
    pub own_inside : PassAt records x t lo tail → m ≤ t
    own_inside g = Sources.own_below g.held own

    -- one source
    module _ (one : count ≡ 1) where
      pub source_next : PassAt records x t lo tail → PassAt records x t lo (t - m)
      source_next g = pass_also g refl (Sources.source_held (kept g.schema g.text g.tables) c one own g.held)

      module _ {u : ℕ} {x₁ : List ℕ} (a : Passes (λ room schema. push_filters_from room schema n) records x t lo (t - m) u x₁) where
        pub source_full : length x₁ < u → EachSource n records x t lo tail u x₁
        source_full z schema text tables given = Sources.source_stop (kept schema text tables) c one own schema (From n schema) (a schema text tables given) z

        pub source_fits : u ≤ length x₁ → PassAt records x t lo tail → lo + cell_words + tail ≤ u
        source_fits z g =
            Sources.source_room (kept g.schema g.text g.tables) c one own g.schema (From n g.schema) (a g.schema g.text g.tables g.given) z g.held

        pub source_done : length x₁ ≡ length x → u ≤ length x₁ → {r : ℕ} {x₂ : List ℕ} → length x₂ ≡ length x₁ → Reseals x₁ u lo tail r x₂ → EachSource n records x t lo tail r x₂
        source_done k z e seal schema text tables given =
            Sources.source_go (kept schema text tables) c one own schema (From n schema) (a schema text tables given) k z e seal

    -- two sources, of which the left one ends at mid
    module _ (y : count ≡ 0 → ⊥) (z : count ≡ 1 → ⊥) where
      two : PassAt records x t lo tail → count ≡ 2
      two g = Sources.two_left g.held c y z

      pub right_end : PassAt records x t lo tail → Sized x m
      right_end g = Sources.right_sized (kept g.schema g.text g.tables) c (two g) own g.held

      module _ (g : PassAt records x t lo tail) {mid : ℕ} (st : mid ≡ start_at x m) where
        pub mid_inside : mid ≤ t
        mid_inside = Sources.mid_below (kept g.schema g.text g.tables) c (two g) own st g.held

        pub left_next : PassAt records x t lo (t - mid)
        left_next = pass_also g refl (Sources.left_held (kept g.schema g.text g.tables) c (two g) own st g.held)

        module _ {u : ℕ} {x₁ : List ℕ} (a : Passes (λ room schema. push_filters_from room schema n) records x t lo (t - mid) u x₁) where
          pub left_full : length x₁ < u → EachSource n records x t lo tail u x₁
          left_full i schema text tables given =
              Sources.left_stopped (kept schema text tables) c (two g) own st schema (From n schema) (a schema text tables given) i

          module _ (i : u ≤ length x₁) (e : length x₁ ≡ length x) where
            pub back_inside : t - mid ≤ u
            back_inside =
                Sources.back_fits (kept g.schema g.text g.tables) c (two g) own st g.schema (From n g.schema) (a g.schema g.text g.tables g.given) e i g.held

            pub right_next : PassAt records x₁ u (u - (t - mid)) (t - m)
            right_next =
                pass_also g e
                (Sources.right_held (kept g.schema g.text g.tables) c (two g) own st g.schema (From n g.schema) (a g.schema g.text g.tables g.given) e i g.held)

            module _ {v : ℕ} {x₂ : List ℕ} (b : Passes (λ room schema. push_filters_from room schema n) records x₁ u (u - (t - mid)) (t - m) v x₂) where
              pub right_full : length x₂ < v → EachSource n records x t lo tail v x₂
              right_full j schema text tables given =
                  Sources.right_stopped (kept schema text tables) c (two g) own st schema (From n schema) (a schema text tables given) e i (b schema text tables given) j

              pub both_fit : v ≤ length x₂ → lo + cell_words + tail ≤ v
              both_fit j =
                  Sources.both_room (kept g.schema g.text g.tables) c (two g) own st g.schema (From n g.schema) (a g.schema g.text g.tables g.given) e i
                  (b g.schema g.text g.tables g.given) j g.held

              pub both_done : length x₂ ≡ length x₁ → v ≤ length x₂ → {r : ℕ} {x₃ : List ℕ} → length x₃ ≡ length x₂ → Reseals x₂ v lo tail r x₃ → EachSource n records x t lo tail r x₃
              both_done l j k seal schema text tables given =
                  Sources.both_go (kept schema text tables) c (two g) own st schema (From n schema) (a schema text tables given) e i (b schema text tables given) j l k seal
