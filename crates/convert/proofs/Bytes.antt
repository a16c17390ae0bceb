-- A sheet of bytes that is carried to another edition is one of bytes.
use Rattle.std.specs.Prelude.{ℕ, zero, suc, ◌+◌, ◌-◌, ◌/◌, ◌≤◌, ◌<◌, ◌≡◌, refl, Bool, true, false, List, [], ◌∷◌, eqb, ltb, length, set}
use Rattle.std.proofs.Common.{mod-lt, arith, eqb-true, ltb-true, ltb-false, ap, ◌∙◌, get_or-set_same, get_or-set_other}
use Rattle.std.proofs.Math.Nat.{mod-add-div}
use Rattle.std.proofs.lemmas.Bool.{eqb-false}
use Rattle.std.proofs.lemmas.List.Edits.{sets}
use Rattle.std.proofs.Math.Seq.{set_out}
use Rattle.sheet.specs.Bytes.{byte, bytes}
use Rattle.sheet.specs.Parts.{cells_at, cell_count, record_at}
use Rattle.sheet_laws.specs.Fits.{All}
use Rattle.sheet_laws.specs.Plan.{Bytes}
use Rattle.editions.specs.Editions.{origin_bytes, with_origins, in_edition}

set_bytes : (l : List ℕ) (i v : ℕ) → Bytes l → v < 256 → Bytes (set l i v)
set_bytes l i v b h j = go (eqb j i) refl (ltb i (length l)) refl
  where
    go : (t : Bool) → eqb j i ≡ t → (u : Bool) → ltb i (length l) ≡ u → byte (set l i v) j < 256
    go true e true k = let same : byte (set l i v) j ≡ v = ap (byte (set l i v)) (eqb-true j i e) ∙ get_or-set_same l i v 0 (ltb-true i (length l) k) in omega arith
    go true e false k = let same : byte (set l i v) j ≡ byte l j = ap (λ (x : List ℕ). byte x j) (set_out l i v (ltb-false i (length l) k)) in omega (arith, b j)
    go false e u k = let same : byte (set l i v) j ≡ byte l j = get_or-set_other l i j v 0 (eqb-false j i e) in omega (arith, b j)

sets_bytes : (vs l : List ℕ) (i : ℕ) → Bytes l → All (λ v. v < 256) vs → Bytes (sets l i vs)
sets_bytes [] l i b h = b
sets_bytes (v ∷ vs) l i b h = sets_bytes vs (set l i v) (suc i) (set_bytes l i v b h.0) h.1

origins_bytes : (f : ℕ → ℕ) (at i k : ℕ) (s : List ℕ) → Bytes s → ((j : ℕ) → i ≤ j → j < i + k → f j < 65536) → Bytes (with_origins f at i k s)
origins_bytes f at i zero s b h = b
origins_bytes f at i (suc k) s b h =
    let small = h i (omega arith) (omega arith) in
    let d = mod-add-div (f i) 256 in
    origins_bytes f at (suc i) k (sets s (record_at at i + 2) (origin_bytes (f i)))
    (sets_bytes (origin_bytes (f i)) s (record_at at i + 2) b (mod-lt (f i) {m = 256} (omega arith), (omega arith, tt)))
    (λ j p q. h j (omega arith) (omega arith))

pub carried_bytes : (e : ℕ) (f : ℕ → ℕ) (s : List ℕ) → Bytes s → ((j : ℕ) → j < cell_count s → f j < 65536) → Bytes (in_edition e f s)
unfolding in_edition bytes
carried_bytes e f s b h =
    sets_bytes (bytes e) (with_origins f (cells_at s) 0 (cell_count s) s) (length s - 8) (origins_bytes f (cells_at s) 0 (cell_count s) s b (λ j p q. h j (omega arith)))
    (mod-lt e {m = 256} (omega arith), (mod-lt (e / 256) {m = 256} (omega arith), (mod-lt (e / 65536) {m = 256} (omega arith), (mod-lt (e / 16777216) {m = 256} (omega arith), tt))))
