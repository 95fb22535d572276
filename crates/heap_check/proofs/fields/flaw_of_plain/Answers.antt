use Rattle.std.proofs.Common.{sym, ◌∙◌, ap, arith}
use Rattle.std.proofs.lemmas.Bool.{false≢true}
use Rattle.tagged_word.specs.Headers.{header_bits}
use Rattle.tagged_word.specs.declared.layout.Kind.TheVariants as kind
use Rattle.heap_model.specs.Images.{image_heap}
use Rattle.heap_model.specs.Heaps.{words_of_cell}
use Rattle.heap_model.proofs.CellWords.{words_are_size, words_by_kind}
use Rattle.heap_check.proofs.NumberFlaws.{shape_few}
use Rattle.heap_check.proofs.PlainFlaws.{first_lacks_shape, first_lacks_store}
use Rattle.heap_check.proofs.fields.flaw_of_plain.Goals as goal

pub word-requires : goal.word-requires
word-requires c = shape_few (image_heap c.args.image.now) c.args.cell c.requires.stands

pub returns-then-not-has_path : goal.returns-then-not-has_path
returns-then-not-has_path c =
    let heap = image_heap c.args.image.now in
    let cell = c.args.cell in
    first_lacks_shape heap cell (words_of_cell heap cell)
    (record { at = cell.at; found = c.word.result.0; wanted = c.filler_word.result })
    (λ is. false≢true (sym c.if-not-has_path.true ∙ c.has_path.ensures.1 is))
    (ap (λ n. record { at = cell.at; found = n; wanted = c.filler_word.result }) c.word.ensures
    ∙ ap (λ n. record { at = cell.at; found = header_bits cell.header; wanted = n }) c.filler_word.ensures)

-- a plain object has three words and more
pub word_of-store-requires-clause-within : goal.word_of-store-requires-clause-within
word_of-store-requires-clause-within c =
    omega (arith, words_are_size c.requires.stands, words_by_kind kind.Plain c.requires.stands c.requires.plain)

pub flaw_of_fields-requires-clause-beside : goal.flaw_of_fields-requires-clause-beside
flaw_of_fields-requires-clause-beside c =
    record { word = c.word_of-store.result; slot = c.word_of-store.ensures; is = c.in-Some.ensures.beside }

pub returns-in-None : goal.returns-in-None
returns-in-None c =
    let heap = image_heap c.args.image.now in
    first_lacks_store heap c.args.cell (words_of_cell heap c.args.cell) c.word_of-store.result c.slot_flaw.result
    (c.has_path.ensures.0 c.if-not-has_path.false) c.word_of-store.ensures c.in-None.ensures.spans c.slot_flaw.ensures
