use Rattle.std.proofs.Common.{Some, sym, ◌∙◌, ap, subst, arith}
use Rattle.std.proofs.lemmas.Option.{same_Some}
use Rattle.tagged_word.specs.declared.layout.Kind.TheVariants as kind
use Rattle.heap_model.specs.Images.{image_heap}
use Rattle.heap_model.specs.Heaps.{words_of_cell}
use Rattle.heap_model.specs.Slots.{undefined_word, RefersToPlace}
use Rattle.heap_model.specs.Showing.{ShowsProto}
use Rattle.heap_model.proofs.CellWords.{words_are_size, words_by_kind}
use Rattle.slow_check.proofs.fields.shows_proto.Goals as goal

-- a plain object has three words and more
pub word_of-word-requires-clause-within : goal.word_of-word-requires-clause-within
word_of-word-requires-clause-within c =
    omega (arith, words_are_size c.requires.stands, words_by_kind kind.Plain c.requires.stands c.requires.plain)

-- the word of the slot is the only one there
pub returns-in-Some : goal.returns-in-Some
returns-in-Some c =
    let heap = image_heap c.args.image.now in
    let words = words_of_cell heap c.args.cell in
    let number = c.in-Some.number in
    let word = c.word_of-word.result in
    let there = c.word_of-word.ensures in (
      λ yes. subst (ShowsProto heap words) (sym c.in-Some.is) (word, there, c.refers_to.ensures.0 yes),
      λ shows.
          let shown : ShowsProto heap words (Some number) = subst (ShowsProto heap words) c.in-Some.is shows in
          c.refers_to.ensures.1
          (subst (λ one. RefersToPlace heap one number) (same_Some shown.0 word (sym shown.1 ∙ there)) shown.2),
    )

pub returns-in-None : goal.returns-in-None
returns-in-None c =
    let heap = image_heap c.args.image.now in
    let words = words_of_cell heap c.args.cell in
    let word = c.word_of-word.result in
    let there = c.word_of-word.ensures in (
      λ yes. subst (ShowsProto heap words) (sym c.in-None.is)
          (there ∙ ap (λ n. Some n) (c.is_undefined.ensures.0 yes)),
      λ shows. c.is_undefined.ensures.1
          (same_Some word undefined_word (sym there ∙ subst (ShowsProto heap words) c.in-None.is shows)),
    )
