-- The store is found by the word that refers to it.
use Rattle.std.proofs.Common.{sym, ◌∙◌, ap}
use Rattle.std.proofs.lemmas.Option.{same_Some, none-some}
use Rattle.tagged_word.specs.Readings.{reference_in}
use Rattle.tagged_word.proofs.Readings.{reference_to}
use Rattle.object_cells.proofs.CellsRead.{word_is}
use Rattle.object_cells.proofs.WordsTold.{cell_fits}
use Rattle.shape_change.proofs.delete_field.store_of.Goals as goal

pub unreachable-requires : goal.unreachable-requires
unreachable-requires c =
    let there = c.requires.there.1 in
    let read = word_is 1 there.word c.slot.result c.args.object there.has there.stands there.slot
    c.slot.ensures.of_heap in
    let fits = cell_fits c.requires.whole.sized c.addresses_fit.ensures.within there.refers.has in
    none-some there.other.at
    (sym c.in-None.is ∙ c.address.ensures ∙ ap reference_in read
    ∙ reference_to there.word there.other.at fits there.refers.refers)

pub returns : goal.returns
returns c =
    let there = c.requires.there.1 in
    let read = word_is 1 there.word c.slot.result c.args.object there.has there.stands there.slot
    c.slot.ensures.of_heap in
    let fits = cell_fits c.requires.whole.sized c.addresses_fit.ensures.within there.refers.has in
    record {
      cell = there.cell;
      words = there.words;
      has = there.has;
      stands = there.stands;
      plain = there.plain;
      word = there.word;
      slot = there.slot;
      other = there.other;
      others = there.others;
      refers = there.refers;
      is_store = there.is_store;
      at = same_Some there.other.at c.in-Some.store
          (sym (reference_to there.word there.other.at fits there.refers.refers) ∙ ap reference_in (sym read)
          ∙ sym c.address.ensures ∙ c.in-Some.is);
    }
