-- The totals that the program prints are right: what it lists passes the check, so that its cells are few and have known tags.
use Prim.Native.Nat.{ℕ, ◌≤◌, ◌<◌}
use native.Mathlib.Omega.{arith}
use mathlib.Core.Path.{◌≡◌, refl, sym, ap, subst}
use mathlib.Core.List.{List}
use Rattle.sql.specs.Plan.{Node}
use Rattle.sql.specs.Answer.{Answer, done, refused}
use Rattle.sheet.specs.Parts.{cell_count}
use Rattle.sheet.specs.Cell.{cell}
use Rattle.sheet.specs.Check.{Numbers, plan, check, checked}
use Rattle.sheet.specs.Operations.{all_five}
use Rattle.sheet.specs.Listing.{listing}
use Rattle.sheet_laws.specs.Accepted.{accepted}
use Rattle.sheet_laws.specs.Plan.{Bytes}
use Rattle.sheet_laws.proofs.Plan.{parts_of}
use Rattle.sheet_laws.specs.Tags.{tags_small}
use Rattle.sound.specs.Refusals.{RefusedBy, FromTo}
use Rattle.sound.proofs.Refusals.{plan_refused}
use Rattle.sound.specs.Operations.{sheet_of}
use Rattle.sound.proofs.Operations.{all_five_sound}
use Rattle.listing.specs.ReadBack.{TotalsRight}
use Rattle.listing.proofs.ReadBack.{totals_right}
use Rattle.list_plan.specs.Listed.{blank, listed}
use Rattle.list_plan.specs.Totals.{Prints}
use Rattle.list_plan.proofs.Handed.{found_lines, refused_lines}

-- a sheet that passes the check
checked_right : (t : List ℕ) (columns : ℕ) → (check t).number ≡ 0 → TotalsRight (listing t columns)
unfolding check
checked_right t columns = go (plan t) refl (plan_refused t)
  where
    go : (r : Answer Node) → plan t ≡ r → RefusedBy (FromTo 2 10) r → (checked t r).number ≡ 0 → TotalsRight (listing t columns)
    go (done n) h x e = totals_right t columns (λ i low. omega (arith, tags_small t n h i low)) (parts_of (accepted t n h)).cells_few
    go (refused number place) h x e = let (p, q) = x in absurd (omega arith)

pub prints : Prints
unfolding listed
prints s b =
    let o = all_five s blank in
    record {
      of_a_plan =
          λ h. subst TotalsRight (sym (found_lines o.numbers.number o h))
          (checked_right (sheet_of o) o.numbers.columns (ap (λ (n : Numbers). n.number) (all_five_sound s b blank h).checks));
      of_a_refusal = λ h. refused_lines o.numbers.number o h;
    }
