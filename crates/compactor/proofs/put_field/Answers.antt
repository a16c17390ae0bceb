use Rattle.std.specs.Prelude.{◌≡◌, ◌+◌, ◌∷◌, [], length, drop}
use native.Mathlib.Omega.{arith}
use mathlib.Core.Path.{sym, subst, refl}
use Rattle.compact.specs.Slots.{references, slot_bytes}
use Rattle.encode.specs.Encode.{written}
use Rattle.text_references.specs.Asks.{slot_of}
use Rattle.text_references.specs.declared.Slot as Field
use Rattle.compactor.specs.Compactor.{fill}
use Rattle.compactor.proofs.Laws.{put_reference, put_number}
use Rattle.compactor.proofs.put_field.Goals as goal

pub returns-in-Number : goal.returns-in-Number
returns-in-Number c =
    subst (λ (x : Field.Slot). (c.args.j ≡ c.args.j + length (references (slot_of x ∷ []))) × (c.put_word.new.out ≡ written c.args.out.now c.args.at (slot_bytes (fill (slot_of x ∷ []) (drop c.args.j c.args.fresh.now)))))
    (sym c.in-Number.is) (omega arith, put_number c.args.out.now _ c.args.fresh.now c.in-Number.v c.args.j c.args.at c.put_word.ensures.1)

pub returns-in-Reference : goal.returns-in-Reference
returns-in-Reference c =
    subst (λ (x : Field.Slot). (c.args.j + 1 ≡ c.args.j + length (references (slot_of x ∷ []))) × (c.put_word-in-Reference.new.out ≡ written c.args.out.now c.args.at (slot_bytes (fill (slot_of x ∷ []) (drop c.args.j c.args.fresh.now)))))
    (sym c.in-Reference.is) (refl, put_reference c.args.out.now _ c.args.fresh.now c.in-Reference.field-0 c.args.j c.args.at c.put_word-in-Reference.ensures.1)
