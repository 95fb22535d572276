-- Clearing and sweeping leave a marked weak table as it was that no object names in the end.
use Rattle.std.proofs.Common.{◌≡◌, ◌∙◌, ℕ, ◌+◌, ◌<◌, inr, List, Contains, IsTrue, slice_get, refl, sym, ap, subst}
use Rattle.std.proofs.Common.{arith}
use Rattle.std.proofs.lemmas.Bool.{false≢true}
use Rattle.std.proofs.lemmas.Option.{slice_get_within}
use Rattle.tagged_word.specs.declared.layout.Kind.TheVariants as kind
use Rattle.tagged_word.specs.Cells.{store_slot, is_object_kind}
use Rattle.page_space.specs.Sizes.{AreWithin}
use Rattle.write_barrier.specs.Seats.{heap_words}
use Rattle.heap_model.specs.Types.{Cell}
use Rattle.heap_model.specs.Heaps.{HasCell, words_of_cell}
use Rattle.heap_model.specs.Kinds.{HasWord}
use Rattle.heap_model.specs.Needs.{word_at}
use Rattle.heap_model.specs.Slots.{reference_word, IsWeakCellAt}
use Rattle.heap_model.specs.Wholeness.{Whole, IsOwnedKind}
use Rattle.heap_model.proofs.CellWords.{words_are_size}
use Rattle.heap_model.proofs.ObjectSlots.{store_slot_at}
use Rattle.heap_model.proofs.RowCovers.{stretch_alike}
use Rattle.heap_model.proofs.WordsRead.{word_of_cell}
use Rattle.live_cells.specs.Exact.{IsNamedByObject}
use Rattle.write_barrier.specs.MutatorState.{Mutator, heap_of}
use Rattle.object_cells.proofs.CellsRead.{word_stands}
use Rattle.object_cells.proofs.SlotsNow.{word_at_offset}
use Rattle.ephemeron_table.proofs.TablesRead.{weak_sound}
use Rattle.ephemeron_clear.specs.Clearing.{AreMaps, TakesUnmarked}
use Rattle.sweeper.specs.Swept.{Sweeps, IsOfMarked}
use Rattle.collector.specs.MarkSwept.{MarkedCellsStay, MarkedTablesStay}
use Rattle.collector.proofs.BesideMaps.{cell_beside, table_beside}
use Rattle.collector.proofs.MarkedWords.{cell_is_kept}

module _ {bare cleared new : Mutator} {maps marked : List ℕ} (whole : Whole (heap_of bare))
    (within : AreWithin bare.seat.space.sizes bare.seat.space.variables) (are : AreMaps (heap_of bare) maps)
    (listed_is_marked : (map : ℕ) → Contains maps map → Contains marked map)
    (takes : TakesUnmarked bare cleared maps marked) (sweeps : Sweeps cleared new marked)
    (stand : MarkedCellsStay (heap_of bare) (heap_of new) marked) where
  -- the slot of a listed weak map for its table has the word that it had
  slot_stays : {map : ℕ} (there : IsWeakCellAt (heap_of bare) map) → Contains marked there.cell.at
      → store_slot < there.cell.size
      → slice_get (heap_words new.seat) (there.cell.at + store_slot)
      ≡ slice_get (heap_words bare.seat) (there.cell.at + store_slot)
  slot_stays there among inside =
      let at : ℕ = there.cell.at + store_slot in
      let word : IsOfMarked (heap_of cleared) marked at = record {
        cell = there.cell;
        words = words_of_cell (heap_of cleared) there.cell;
        has = takes.cells.stays there.cell there.words there.has;
        among = among;
        from = omega arith;
        below = omega (arith, inside);
      } in
      let beside =
      cell_beside whole within maps at are there.has (record { from = word.from; below = word.below }) (λ table.
      false≢true (ap is_object_kind (sym table ∙ there.of_kind))) (λ weak same. omega (arith, same)) in
      sweeps.outside at (inr word) ∙ takes.stay at beside

  -- so it names the table that it named
  still_named : {cell : Cell} {others : List ℕ} (map : ℕ) → HasCell (heap_of new) cell others
      → cell.layout.kind ≡ kind.Table → Contains maps map
      → word_at (heap_of bare) (map + store_slot) ≡ reference_word cell.at → IsNamedByObject (heap_of new) cell.at
  still_named {cell} {others} map has is listed refers =
      let there = are map listed in
      let among : Contains marked there.cell.at =
      subst (Contains marked) (sym there.stands) (listed_is_marked map listed) in
      let object : IsTrue (is_object_kind there.cell.layout.kind) = ap is_object_kind there.of_kind in
      let sound = weak_sound whole there in
      let read : word_at (heap_of bare) (map + store_slot) ≡ sound.store =
      subst (λ at. word_at (heap_of bare) (at + store_slot) ≡ sound.store) there.stands
      (word_of_cell store_slot sound.store there.has sound.slot) in
      let inside : store_slot < there.cell.size =
      omega (arith, slice_get_within there.words store_slot sound.store sound.slot, words_are_size there.has) in
      let now = stand there.cell there.words there.has among in
      let slot : HasWord now.0 store_slot sound.store =
      word_at_offset store_slot now.1 inside ∙ slot_stays there among inside
      ∙ word_stands store_slot sound.store there.has sound.slot in
      record {
        owner = there.cell;
        slot = there.cell.at + store_slot;
        names = record {
          words = now.0;
          has = now.1;
          object = object;
          word = sound.store;
          of_owner = store_slot_at sound.store object slot;
          cell = cell;
          others = others;
          refers = record { refers = sym read ∙ refers; has = has };
          owned = subst IsOwnedKind (sym is) tt;
          at = refl;
        };
      }

  -- So a marked table that no object names in the end has the words that it had.
  pub marked_tables_stay : MarkedTablesStay (heap_of bare) (heap_of new) marked
  marked_tables_stay cell words has among is unnamed =
      let now = stand cell words has among in
      let same : words_of_cell (heap_of cleared) cell ≡ words_of_cell (heap_of bare) cell =
      stretch_alike cell.at cell.size (heap_words bare.seat) (heap_words cleared.seat) (λ at from below.
      takes.stay at (table_beside whole within maps at are has (record { from = from; below = below }) is
      (λ map listed refers. unnamed (still_named map now.1 is listed refers)))) in
      cell_is_kept sweeps cell words
      (subst (HasCell (heap_of cleared) cell) (same ∙ has.words_are) (takes.cells.stays cell words has)) among
