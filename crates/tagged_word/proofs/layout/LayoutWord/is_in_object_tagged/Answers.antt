use Rattle.std.proofs.Common.{◌≡◌, ◌-◌, true, false, arith, sym, ◌∙◌}
use Rattle.std.proofs.lemmas.Bool.{not-true, not_from_false}
use Rattle.tagged_word.specs.Layouts.{is_raw}
use Rattle.tagged_word.specs.Cells.{plain_head}
use Rattle.tagged_word.proofs.Offsets.{in_object_in, in_object_is}
use Rattle.tagged_word.proofs.layout.LayoutWord.is_in_object_tagged.Goals as goal

pub returns-then-offset-lt-PLAIN_HEAD : goal.returns-then-offset-lt-PLAIN_HEAD
returns-then-offset-lt-PLAIN_HEAD c =
    ((λ (e : false ≡ true). cc), λ m. let slot = in_object_is c.args.self c.args.offset m in absurd (omega arith))

pub returns-then-slot-self : goal.returns-then-slot-self
returns-then-slot-self c =
    ((λ (e : false ≡ true). cc), λ m. let slot = in_object_is c.args.self c.args.offset m in absurd (omega arith))

pub returns : goal.returns
returns c = (
  (λ t. let tagged : is_raw c.args.self (c.args.offset - plain_head) ≡ false = sym c.is_raw.ensures ∙ not-true _ t in
      in_object_in c.args.self c.args.offset (record { behind = omega arith; used = omega arith; tagged = tagged })),
  λ m. let slot = in_object_is c.args.self c.args.offset m in not_from_false _ (c.is_raw.ensures ∙ slot.tagged),
)
