use Rattle.std.proofs.Common.{◌≡◌, ◌+◌, inl, refl, ap, arith, length, min}
use Rattle.object_graph.specs.Meaning.{list_most}
use Rattle.tagged_word.specs.declared.layout.Kind.TheVariants as kind
use Rattle.heap_model.specs.Images.{image_heap}
use Rattle.heap_model.specs.Heaps.{words_of_cell}
use Rattle.heap_model.proofs.CellWords.{words_are_size, words_by_kind}
use Rattle.image_walk.specs.Spans.{span_words}
use Rattle.image_walk.proofs.SpanWords.{length-span}
use Rattle.heap_check.proofs.BesideSpans.{beside_spans}
use Rattle.heap_check.proofs.ElementFlaws.{TellsOf, first_too_long, list_by_span}
use Rattle.heap_check.proofs.lists.flaw_of_elements.Goals as goal

-- a list has three words
pub word_of-count-requires-clause-within : goal.word_of-count-requires-clause-within
word_of-count-requires-clause-within c =
    omega (arith, words_are_size c.requires.stands, words_by_kind kind.List c.requires.stands c.requires.list)

pub overflow_sub-beside : goal.overflow_sub-beside
overflow_sub-beside c =
    let is = (beside_spans (image_heap c.args.image.now) kind.Store c.requires.beside.word c.args.beside (inl refl)
    c.requires.beside.is).is in
    is.ascends

pub overflow_add-result : goal.overflow_add-result
overflow_add-result c =
    omega (
      arith,
      c.requires.ends,
      words_are_size c.requires.stands,
      words_by_kind kind.List c.requires.stands c.requires.list,
    )

pub returns-then-count-most : goal.returns-then-count-most
returns-then-count-most c =
    let heap = image_heap c.args.image.now in
    let cell = c.args.cell in
    let beside = c.requires.beside in
    let is = (beside_spans heap kind.Store beside.word c.args.beside (inl refl) beside.is).is in
    let most : c.min-most.result ≡ min (length (span_words heap c.args.beside)) list_most =
    omega (arith, length-span heap c.args.beside is, c.min-most.ensures) in
    let tells : TellsOf heap (words_of_cell heap cell) c.args.beside c.word_of-count.result =
    record { word = beside.word; slot = beside.slot; beside = beside.is; counted = c.word_of-count.ensures } in
    first_too_long cell _ tells (omega (arith, most, c.if-count-most.true))
    (ap (λ n. record { at = cell.at + 2; found = c.word_of-count.result; wanted = n }) most)

pub flaw_of_values-requires-clause-is : goal.flaw_of_values-requires-clause-is
flaw_of_values-requires-clause-is c =
    (beside_spans (image_heap c.args.image.now) kind.Store c.requires.beside.word c.args.beside (inl refl)
    c.requires.beside.is).is

pub returns : goal.returns
returns c =
    let heap = image_heap c.args.image.now in
    let cell = c.args.cell in
    let beside = c.requires.beside in
    let is = (beside_spans heap kind.Store beside.word c.args.beside (inl refl) beside.is).is in
    let tells : TellsOf heap (words_of_cell heap cell) c.args.beside c.word_of-count.result =
    record { word = beside.word; slot = beside.slot; beside = beside.is; counted = c.word_of-count.ensures } in
    list_by_span cell c.flaw_of_values.result tells
    (omega (arith, length-span heap c.args.beside is, c.min-most.ensures, c.if-count-most.false))
    c.flaw_of_values.ensures
