use Rattle.std.proofs.Common.{◌≡◌, ◌-◌, ◌++◌, length, inl, refl, sym, subst, arith}
use Rattle.tagged_word.specs.declared.layout.Kind.TheVariants as kind
use Rattle.heap_model.specs.Images.{image_heap}
use Rattle.heap_model.specs.Heaps.{words_of_cell}
use Rattle.heap_model.specs.Kinds.{HoldFields, IsPlainCell}
use Rattle.heap_model.proofs.CellWords.{words_are_size, words_by_kind}
use Rattle.image_walk.specs.Spans.{span_words}
use Rattle.image_walk.proofs.SpanWords.{length-span}
use Rattle.heap_check.specs.Cells.{BreaksFields, BreaksPlain}
use Rattle.heap_check.specs.Firsts.{IsVerdict}
use Rattle.heap_check.proofs.BesideSpans.{beside_spans}
use Rattle.heap_check.proofs.PlainFlaws.{HasSpans, path_of, first_too_few, fields_by_spans, plain_by_parts}
use Rattle.heap_check.proofs.fields.flaw_of_fields.Goals as goal

-- a plain object has three words and more
pub behind_head-own-requires-clause-long : goal.behind_head-own-requires-clause-long
behind_head-own-requires-clause-long c =
    omega (arith, words_are_size c.requires.stands, words_by_kind kind.Plain c.requires.stands c.requires.plain)

pub overflow_sub-beside : goal.overflow_sub-beside
overflow_sub-beside c =
    let is = (beside_spans (image_heap c.args.image.now) kind.Store c.requires.beside.word c.args.beside (inl refl)
    c.requires.beside.is).is in
    is.ascends

pub returns-then-fields-first : goal.returns-then-fields-first
returns-then-fields-first c =
    let heap = image_heap c.args.image.now in
    let own = c.behind_head-own.result in
    let beside = c.requires.beside in
    let is = (beside_spans heap kind.Store beside.word c.args.beside (inl refl) beside.is).is in
    let has : HasSpans heap c.args.cell (words_of_cell heap c.args.cell) own c.args.beside = record {
      shape = c.requires.path;
      begins = c.behind_head-own.ensures.from;
      own_are = c.behind_head-own.ensures.slots;
      word = beside.word;
      slot = beside.slot;
      is = beside.is;
    } in
    first_too_few c.word_of.result c.slot_flaw.result has c.word_of.ensures
    (omega (
      arith,
      length-span heap own c.behind_head-own.ensures.is,
      length-span heap c.args.beside is,
      c.fields.ensures.counted,
      c.if-fields-first.true,
    ))
    c.slot_flaw.ensures

pub flaw_of_places-requires-2-clause-is : goal.flaw_of_places-requires-2-clause-is
flaw_of_places-requires-2-clause-is c =
    (beside_spans (image_heap c.args.image.now) kind.Store c.requires.beside.word c.args.beside (inl refl)
    c.requires.beside.is).is

pub returns : goal.returns
returns c =
    let heap = image_heap c.args.image.now in
    let own = c.behind_head-own.result in
    let words = words_of_cell heap c.args.cell in
    let beside = c.requires.beside in
    let is = (beside_spans heap kind.Store beside.word c.args.beside (inl refl) beside.is).is in
    let has : HasSpans heap c.args.cell words own c.args.beside = record {
      shape = c.requires.path;
      begins = c.behind_head-own.ensures.from;
      own_are = c.behind_head-own.ensures.slots;
      word = beside.word;
      slot = beside.slot;
      is = beside.is;
    } in
    let long : own.end - own.from ≡ length (span_words heap own) =
    sym (length-span heap own c.behind_head-own.ensures.is) in
    let path = path_of heap c.args.cell in
    let slots = span_words heap c.args.beside in
    let Holds = HoldFields heap path (span_words heap own ++ slots) in
    let of_fields = subst (IsVerdict Holds (BreaksFields heap c.args.cell words path slots))
    (sym c.earlier-of_fields.ensures)
    (fields_by_spans (own.end - own.from) c.flaw_of_places.result c.flaw_of_places-2.result has long
    (omega (
      arith,
      long,
      length-span heap c.args.beside is,
      c.fields.ensures.counted,
      c.if-fields-first.false,
    ))
    c.flaw_of_places.ensures c.flaw_of_places-2.ensures) in
    subst (IsVerdict (IsPlainCell heap c.args.cell words) (BreaksPlain heap c.args.cell words)) (sym c.earlier.ensures)
    (plain_by_parts c.flaw_of_proto.result c.earlier-of_fields.result has c.flaw_of_proto.ensures of_fields)
