use Rattle.std.proofs.Common.{arith}
use Rattle.tagged_word.proofs.Offsets.{IsPlainSlot, plain_slot_is, plain_has_own, in_object_in}
use Rattle.tagged_word.proofs.layout.LayoutWord.is_plain_tagged.Goals as goal

pub returns : goal.returns
returns c = (
  (λ t. plain_has_own c.args.self c.args.offset (c.is_in_object_tagged.ensures.0 t)),
  λ m. elim (plain_slot_is c.args.self c.args.offset m) [
    | IsPlainSlot.store e ↦ absurd (omega (arith, e))
    | IsPlainSlot.proto e ↦ absurd (omega (arith, e))
    | IsPlainSlot.own own ↦ c.is_in_object_tagged.ensures.1 (in_object_in c.args.self c.args.offset own)
  ],
)
