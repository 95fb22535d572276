-- The word in the slot for the prototype of a plain object was put: its cell stands in its words, and of these only
-- that of the slot is another.
use Rattle.std.proofs.Common.{◌≡◌, ◌≢◌, ℕ, ◌+◌, ◌<◌, List, [], ◌++◌, length, drop}
use Rattle.std.proofs.Common.{slice_get, get_or, inl, refl, sym, ◌∙◌, ap, arith, length-drop, length-set}
use Rattle.std.specs.Prelude.{slice_set}
use Rattle.std.proofs.lemmas.Grind.{same_number_lists}
use Rattle.std.proofs.lemmas.Option.{same_Some, slice_get-get_or}
use Rattle.tagged_word.specs.declared.layout.Kind.TheVariants as kind
use Rattle.tagged_word.specs.Cells.{plain_head, store_slot, proto_slot}
use Rattle.tagged_word.proofs.Members.{one_in}
use Rattle.page_space.specs.Extents.{marks_start}
use Rattle.page_space.proofs.Starts.{marks_start_is}
use Rattle.nursery.specs.Young.{bumped}
use Rattle.object_graph.proofs.Lists.{slice_get-set_same, slice_get-set_other}
use Rattle.heap_model.specs.Types.{Cell}
use Rattle.heap_model.specs.Heaps.{HasCell, words_of_cell}
use Rattle.heap_model.specs.Slots.{HoldsStore}
use Rattle.heap_model.specs.Kinds.{HasWord, HasSlots, IsProtoWord}
use Rattle.heap_model.specs.Wholeness.{Whole}
use Rattle.heap_model.proofs.BoundHeaps.{none_in}
use Rattle.heap_model.proofs.CellsApart.{IsOfCell}
use Rattle.heap_model.proofs.CellWords.{slice_get-drop, words_are_size}
use Rattle.heap_model.proofs.CellOutcomes.{cells_move, stays_standing, owned_is_no_filler}
use Rattle.heap_model.proofs.SlotWords.{store_is_owned}
use Rattle.write_barrier.specs.Seats.{heap_words}
use Rattle.write_barrier.specs.MutatorState.{Mutator, heap_of, IsTied, with_slot}
use Rattle.object_cells.specs.Contents.{next_at}
use Rattle.object_cells.specs.CellWrites.{WritesOwnCells}
use Rattle.object_cells.proofs.MadeBoxes.{row_of_none}
use Rattle.object_cells.proofs.NothingUsed.{room_for_none}
use Rattle.object_cells.proofs.OwnCells.{cell_below_layouts}
use Rattle.object_cells.proofs.OwnPuts.{PutsOwn, own_writes}
use Rattle.object_cells.proofs.OwnSteps.{OwnStep, own_step, stands}
use Rattle.object_cells.proofs.OwnerWrites.{plain_owns}
use Rattle.object_cells.proofs.SlotsNow.{store_is_no_object, word_at_offset, plain_cell_size}
use Rattle.object_cells.proofs.TakenRuns.{bumped_none}
use Rattle.object_cells.proofs.WordsPut.{PutsWord, puts_slot, word_is_put, word_beside}

-- The word, which is one of a prototype slot, was put in that slot of the cell of a plain object of a whole heap.
pub record PutsProto (old new : Mutator) (cell : Cell) (word : ℕ) : Type 0 where
  pub tied : IsTied old
  pub whole : Whole (heap_of old)
  pub has : HasCell (heap_of old) cell (words_of_cell (heap_of old) cell)
  pub plain : cell.layout.kind ≡ kind.Plain
  pub proto : IsProtoWord (heap_of old) word
  pub is : new ≡ with_slot old (cell.at + proto_slot) word

module _ {old new : Mutator} {cell : Cell} {word : ℕ} (puts : PutsProto old new cell word) where
  -- the slot is a word of the cell
  pub slot_in_cell : IsOfCell cell (cell.at + proto_slot)
  slot_in_cell = record { from = omega arith; below = omega (arith, plain_cell_size puts.has puts.plain) }

  -- so it is before the marks
  pub slot_before : cell.at + proto_slot < marks_start old.seat.space
  slot_before =
      omega (arith, cell_below_layouts puts.whole puts.has slot_in_cell, marks_start_is old.seat.space)

  -- one word was put
  pub word_put : PutsWord old new (cell.at + proto_slot) word
  word_put = puts_slot puts.is

  -- it is one of the heap's
  heap_put : heap_words new.seat ≡ slice_set (heap_words old.seat) (cell.at + proto_slot) word
  heap_put = word_is_put word_put slot_before

  -- and all others stay
  pub others_stay : (a : ℕ) → a ≢ cell.at + proto_slot
      → slice_get (heap_words new.seat) a ≡ slice_get (heap_words old.seat) a
  others_stay a apart =
      ap (λ words. slice_get words a) heap_put
      ∙ slice_get-set_other (heap_words old.seat) (cell.at + proto_slot) a word apart

  -- no word more is used
  pub none_used : new.young ≡ bumped old.young 0
  none_used = word_put.young ∙ sym (bumped_none old.young)

  -- only a word of the object's cell was put
  own_put : PutsOwn kind.Plain old new cell [] 0 (slice_set (heap_words old.seat) (cell.at + proto_slot) word)
  own_put = record {
    tied = puts.tied;
    whole = puts.whole;
    has = puts.has;
    of_kind = puts.plain;
    stood = λ other there. absurd (none_in other there);
    room = room_for_none old puts.tied puts.whole;
    puts = record {
      beside = word_beside word_put slot_before;
      paths = word_put.paths;
      young = none_used;
      heap = heap_put;
    };
    long = length-set (heap_words old.seat) (cell.at + proto_slot) word;
    stay = λ a not_cell not_others not_new.
        slice_get-set_other (heap_words old.seat) (cell.at + proto_slot) a word
        (λ same. not_cell (record { from = omega (arith, same); below = omega (arith, same, slot_in_cell.below) }));
  }

  -- so words of the object's own cells were written
  pub proto_writes : WritesOwnCells kind.Plain kind.Store (heap_of old) (heap_of new) cell cell [] []
  proto_writes =
      own_writes [] own_put (others_stay cell.at (λ same. omega (arith, same)))
      (λ other there. absurd (none_in other there)) (row_of_none (heap_of new) (next_at old))

  -- the object's cell changes, and no other
  pub proto_step : OwnStep (heap_of old) (heap_of new) cell cell [] [] []
  proto_step = own_step plain_owns puts.whole proto_writes

  -- it stands then
  pub now_stands : HasCell (heap_of new) cell (words_of_cell (heap_of new) cell)
  now_stands = stands proto_step

  -- its words stay but for that of the slot
  words_stay : (k : ℕ) → k < cell.size → k ≢ proto_slot
      → slice_get (words_of_cell (heap_of new) cell) k ≡ slice_get (words_of_cell (heap_of old) cell) k
  words_stay k below apart =
      word_at_offset k now_stands below ∙ others_stay (cell.at + k) (λ same. apart (omega (arith, same)))
      ∙ sym (word_at_offset k puts.has below)

  -- which holds the word
  pub proto_stands : HasWord (words_of_cell (heap_of new) cell) proto_slot word
  proto_stands =
      word_at_offset proto_slot now_stands (omega (arith, plain_cell_size puts.has puts.plain))
      ∙ ap (λ words. slice_get words (cell.at + proto_slot)) heap_put
      ∙ slice_get-set_same (heap_words old.seat) (cell.at + proto_slot) word
      (omega (arith, slot_before, puts.whole.sized.words))

  -- the word of an in-object slot stays
  own_word_stays : (k : ℕ) → k < length (drop plain_head (words_of_cell (heap_of new) cell))
      → slice_get (drop plain_head (words_of_cell (heap_of new) cell)) k
      ≡ slice_get (drop plain_head (words_of_cell (heap_of old) cell)) k
  own_word_stays k below =
      let are : List ℕ = words_of_cell (heap_of new) cell in
      let were : List ℕ = words_of_cell (heap_of old) cell in
      let within : plain_head + k < cell.size =
      omega (arith, below, length-drop plain_head are, words_are_size now_stands) in
      slice_get-drop plain_head are k (plain_head + k) refl
      ∙ words_stay (plain_head + k) within (λ same. omega (arith, same))
      ∙ sym (slice_get-drop plain_head were k (plain_head + k) refl)

  -- so all of them do
  own_words_stay : drop plain_head (words_of_cell (heap_of new) cell)
      ≡ drop plain_head (words_of_cell (heap_of old) cell)
  own_words_stay =
      let are : List ℕ = words_of_cell (heap_of new) cell in
      let were : List ℕ = words_of_cell (heap_of old) cell in
      let long : length (drop plain_head are) ≡ length (drop plain_head were) =
      omega (
        arith,
        length-drop plain_head are,
        length-drop plain_head were,
        words_are_size now_stands,
        words_are_size puts.has,
      ) in
      same_number_lists (drop plain_head are) (drop plain_head were) long (λ k below.
      same_Some (get_or (drop plain_head are) k 0) (get_or (drop plain_head were) k 0)
      (sym (slice_get-get_or (drop plain_head are) k 0 below) ∙ own_word_stays k below
      ∙ slice_get-get_or (drop plain_head were) k 0 (omega (arith, below, long))))

  -- a store stands as it stood
  other_stays : (other : Cell) (words : List ℕ) → HasCell (heap_of old) other words → other.layout.kind ≡ kind.Store
      → HasCell (heap_of new) other words
  other_stays other words has of_kind =
      stays_standing (cells_move proto_step.cells) has
      (owned_is_no_filler other.layout.kind (store_is_owned (inl of_kind)))
      (λ there. store_is_no_object (one_in cell other there) proto_step.object (inl of_kind))

  -- so the slots beside an object stay
  store_stays : (store : ℕ) (beside : List ℕ) → HoldsStore (heap_of old) kind.Store store beside
      → HoldsStore (heap_of new) kind.Store store beside
  store_stays store beside HoldsStore.none = HoldsStore.none
  store_stays store beside (HoldsStore.store to other words refers of_kind) =
      HoldsStore.store to other words
      (record { refers = refers.refers; has = other_stays other words refers.has of_kind }) of_kind

  -- the slot for the store holds what it held
  pub store_now : (store : ℕ) → HasWord (words_of_cell (heap_of old) cell) store_slot store
      → HasWord (words_of_cell (heap_of new) cell) store_slot store
  store_now store there =
      words_stay store_slot (omega (arith, plain_cell_size puts.has puts.plain)) (λ same. omega (arith, same)) ∙ there

  -- so the object has the slots that it had
  pub slots_stay : (slots : List ℕ) → HasSlots (heap_of old) (words_of_cell (heap_of old) cell) slots
      → HasSlots (heap_of new) (words_of_cell (heap_of new) cell) slots
  slots_stay slots were = record {
    store = were.store;
    slot = store_now were.store were.slot;
    beside = were.beside;
    stands = store_stays were.store were.beside were.stands;
    are = were.are ∙ ap (λ own. own ++ were.beside) (sym own_words_stay);
  }
