use Rattle.std.proofs.Common.{◌+◌, sym, ◌∙◌, ap, arith}
use Rattle.std.proofs.lemmas.Bool.{false≢true}
use Rattle.tagged_word.specs.Cells.{proto_slot}
use Rattle.tagged_word.specs.declared.layout.Kind.TheVariants as kind
use Rattle.heap_model.specs.Images.{image_heap}
use Rattle.heap_model.specs.Heaps.{words_of_cell}
use Rattle.heap_model.proofs.CellWords.{words_are_size, words_by_kind}
use Rattle.heap_check.proofs.ProtoFlaws.{first_proto}
use Rattle.heap_check.proofs.protos.flaw_of_proto.Goals as goal

-- a plain object has three words and more
pub word_of-found-requires-clause-within : goal.word_of-found-requires-clause-within
word_of-found-requires-clause-within c =
    omega (arith, words_are_size c.requires.stands, words_by_kind kind.Plain c.requires.stands c.requires.plain)

pub overflow_add-result : goal.overflow_add-result
overflow_add-result c =
    omega (
      arith,
      c.requires.ends,
      words_are_size c.requires.stands,
      words_by_kind kind.Plain c.requires.stands c.requires.plain,
    )

pub returns-then-is_proto : goal.returns-then-is_proto
returns-then-is_proto c = record {
  proto = c.word_of-found.result;
  slot = c.word_of-found.ensures;
  is = c.is_proto.ensures.0 c.if-is_proto.true;
}

pub returns : goal.returns
returns c =
    let heap = image_heap c.args.image.now in
    let cell = c.args.cell in
    first_proto heap cell (words_of_cell heap cell) c.word_of-found.result
    (record { at = cell.at + proto_slot; found = c.word_of-found.result; wanted = c.odd.result.0 })
    c.word_of-found.ensures (λ is. false≢true (sym c.if-is_proto.false ∙ c.is_proto.ensures.1 is))
    (ap (λ n. record { at = cell.at + proto_slot; found = c.word_of-found.result; wanted = n }) c.odd.ensures)
