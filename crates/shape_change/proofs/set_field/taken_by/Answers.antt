-- The slot takes the word of a small integer, and a slot of any tagged word the word of any value.
use Rattle.std.proofs.Common.{subst, ap}
use Rattle.handle_roots.specs.Givens.{IsGivenFor}
use Rattle.shape_change.specs.FieldValues.{IsFieldValue, given_of}
use Rattle.shape_change.specs.declared.field_value.FieldValue.{FieldValue}
use Rattle.shape_change.proofs.SmallKept.{small_keeps}
use Rattle.shape_change.proofs.set_field.taken_by.Goals as goal

pub returns-in-Small : goal.returns-in-Small
returns-in-Small c =
    let same = c.in-Small.is in
    let (v, is_small, gives_v) = subst IsFieldValue same c.requires.is in (
      ap given_of same,
      λ held gives. small_keeps c.args.rep held c.in-Small.word v c.requires.not_wide is_small gives_v
          (subst (λ (value : FieldValue). IsGivenFor (given_of value) held) same gives),
    )
