-- A sweep leaves marked cells with the words that they had, and marked weak maps with their pairs.
use Rattle.std.proofs.Common.{◌≡◌, ◌∙◌, ℕ, inr, List, Contains, sym, ap, subst}
use Rattle.tagged_word.specs.Cells.{store_slot, is_object_kind}
use Rattle.write_barrier.specs.Seats.{heap_words}
use Rattle.heap_model.specs.Types.{Cell}
use Rattle.heap_model.specs.Heaps.{HasCell, words_of_cell}
use Rattle.heap_model.specs.Kinds.{HasWord, Pair, HasTable}
use Rattle.heap_model.specs.Slots.{reference_word}
use Rattle.heap_model.proofs.ObjectSlots.{store_slot_in}
use Rattle.heap_model.proofs.RowCovers.{stretch_alike}
use Rattle.write_barrier.specs.MutatorState.{Mutator, heap_of}
use Rattle.weak_pairs.specs.Pairs.{HasPairsAt}
use Rattle.sweeper.specs.Swept.{IsSweepable, Sweeps}
use Rattle.sweeper.proofs.KeptPlaces.{place_of_marked}

module _ {old new : Mutator} {marked : List ℕ} (sweeps : Sweeps old new marked) where
  -- a marked cell stands with the words that it had
  pub cell_is_kept : (cell : Cell) (words : List ℕ) → HasCell (heap_of old) cell words → Contains marked cell.at
      → HasCell (heap_of new) cell words
  cell_is_kept cell words has among =
      let stood = sweeps.moved.stands cell words cell.at has (place_of_marked marked cell.at among) in
      let same : words_of_cell (heap_of new) cell ≡ words_of_cell (heap_of old) cell =
      stretch_alike cell.at cell.size (heap_words old.seat) (heap_words new.seat) (λ at from below.
      sweeps.outside at
      (inr (record { cell = cell; words = words; has = has; among = among; from = from; below = below }))) in
      subst (HasCell (heap_of new) cell) (sym stood.has.words_are ∙ same ∙ has.words_are) stood.has

  -- a table stands with its pairs, if what refers to it leads to what is marked
  table_is_kept : (store : ℕ) (pairs : List Pair) → ((at : ℕ) → store ≡ reference_word at → Contains marked at)
      → HasTable (heap_of old) store pairs → HasTable (heap_of new) store pairs
  table_is_kept store pairs leads HasTable.none = HasTable.none
  table_is_kept store pairs leads (HasTable.table word cell words refers is power) =
      let has = cell_is_kept cell words refers.has (leads cell.at refers.refers) in
      HasTable.table word cell words (record { refers = refers.refers; has = has }) is power

  -- so a marked weak map has the pairs that it had, where what marked cells refer to is marked
  pub pairs_are_kept : (map : ℕ) (pairs : List Pair) → IsSweepable (heap_of old) marked → Contains marked map
      → HasPairsAt (heap_of old) map pairs → HasPairsAt (heap_of new) map pairs
  pairs_are_kept map pairs closed among is =
      let here : Contains marked is.cell.at = subst (Contains marked) (sym is.stands) among in
      let slot = store_slot_in is.cell.layout.kind is.cell.layout is.cell.length (ap is_object_kind is.of_kind) in
      record {
        cell = is.cell;
        words = is.words;
        has = cell_is_kept is.cell is.words is.has here;
        stands = is.stands;
        of_kind = is.of_kind;
        are = record {
          store = is.are.store;
          slot = is.are.slot;
          table = table_is_kept is.are.store pairs (λ at refers.
              closed.slots is.cell is.words store_slot at is.has here slot
              (subst (HasWord is.words store_slot) refers is.are.slot)) is.are.table;
        };
      }
