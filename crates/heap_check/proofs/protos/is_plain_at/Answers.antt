use Rattle.std.proofs.Common.{sym, ◌∙◌, ap, refl}
use Rattle.std.proofs.lemmas.Bool.{false≢true}
use Rattle.heap_model.specs.Types.{Cell}
use Rattle.heap_model.specs.Images.{image_heap}
use Rattle.heap_model.specs.Slots.{reference_word}
use Rattle.heap_model.proofs.CellsApart.{one_at}
use Rattle.heap_check.proofs.ProtoFlaws.{plain_at, proto_from}
use Rattle.heap_check.proofs.protos.is_plain_at.Goals as goal

-- the cell at the address is the only one there
pub returns-in-Some : goal.returns-in-Some
returns-in-Some c =
    let heap = image_heap c.args.image.now in
    let cell = c.in-Some.cell in
    let found = c.in-Some.ensures in (
      λ plain. proto_from heap cell c.args.at found.1 found.0 (c.is_plain.ensures.0 plain),
      λ proto.
          let there = plain_at (reference_word c.args.at) c.args.at proto refl in
          let same = one_at found.1 there.has (found.0 ∙ sym there.stands) in
          c.is_plain.ensures.1 (ap (λ (one : Cell). one.layout.kind) same ∙ there.of_kind),
    )

pub returns-in-None : goal.returns-in-None
returns-in-None c = (
  λ wrong. absurd (false≢true wrong),
  λ proto.
      let there = plain_at (reference_word c.args.at) c.args.at proto refl in
      absurd (c.in-None.ensures there.cell there.words there.has there.stands),
)
