use Rattle.std.proofs.Common.{sym, ◌∙◌, subst}
use Rattle.tagged_word.proofs.Readings.{reference_from}
use Rattle.heap_model.specs.Images.{image_heap}
use Rattle.heap_model.specs.Kinds.{IsProtoWord}
use Rattle.image_walk.proofs.SpanWords.{words_count_few}
use Rattle.heap_check.proofs.ProtoFlaws.{proto_undefined}
use Rattle.heap_check.proofs.protos.is_proto.Goals as goal

-- the word is the reference to the address
pub returns-in-Some : goal.returns-in-Some
returns-in-Some c =
    let heap = image_heap c.args.image.now in
    let same = (reference_from c.args.word c.in-Some.at (sym c.address.ensures ∙ c.in-Some.is)).1 in (
      λ yes. subst (IsProtoWord heap) (sym same) (c.is_plain_at.ensures.0 yes),
      λ proto. c.is_plain_at.ensures.1 (subst (IsProtoWord heap) same proto),
    )

pub returns-in-None : goal.returns-in-None
returns-in-None c =
    let heap = image_heap c.args.image.now in (
      λ yes. subst (IsProtoWord heap) (sym (c.is_undefined.ensures.0 yes)) IsProtoWord.none,
      λ proto. c.is_undefined.ensures.1
          (proto_undefined heap c.args.word c.requires.sized
          (words_count_few c.args.image.now.regions c.sizes_fit.ensures) (sym c.address.ensures ∙ c.in-None.is) proto),
    )
