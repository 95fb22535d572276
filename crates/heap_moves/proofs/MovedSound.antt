-- Each cell of a moved heap is sound, where what stays was.
use Rattle.std.proofs.Common.{◌≡◌, ℕ, ◌*◌, List, [], drop, get_or, Option}
use Rattle.std.proofs.Common.{IsTrue, refl, sym, ◌∙◌, subst, arith}
use Rattle.std.proofs.lemmas.Bool.{false≢true}
use Rattle.std.proofs.lemmas.Option.{slice_get-get_or}
use Rattle.heap_model.specs.Types.{Kind, Path, Cell}
use Rattle.tagged_word.specs.declared.layout.Kind.TheVariants as kind
use Rattle.tagged_word.specs.Cells.{is_free_kind, store_head, store_slot}
use Rattle.tagged_word.proofs.Members.{first_in, one_in}
use Rattle.shape_tree.specs.Shapes.{IsPathShape, shape_path}
use Rattle.heap_model.specs.Heaps.{Heap, HasCell}
use Rattle.heap_model.specs.Slots.{IsSlotWord}
use Rattle.heap_model.specs.Kinds.{HasWord, count_offset, HoldFields, IsPlainCell, IsListCell, IsWeakCell, IsStoreCell}
use Rattle.heap_model.specs.Kinds.{IsBoxCell, HasNoNumber, IsSoundOf, IsSoundCell}
use Rattle.heap_model.specs.Wholeness.{HasSizes}
use Rattle.heap_model.proofs.CellWords.{slots_by_kind, slots_of_kind}
use Rattle.heap_model.proofs.SlotWords.{All-slice_get}
use Rattle.heap_moves.specs.Moved.{AreMoved, moved_to, IsFrom, IsMoved}
use Rattle.heap_moves.specs.Standing.{Stays, WholeFor}
use Rattle.heap_moves.proofs.MovedCells.{Origin, origin_of}
use Rattle.heap_moves.proofs.MovedTargets.{AreAllMoved, beside_moved, table_moved, slots_moved}
use Rattle.heap_moves.proofs.MovedValues.{hole_stays, proto_moved, slot_word_moved, value_moved}
use Rattle.heap_moves.proofs.MovedValues.{field_word_moved}
use Rattle.heap_moves.proofs.MovedSlots.{other_word, store_slot_moved, proto_slot_moved, slot_hole_stays}
use Rattle.heap_moves.proofs.MovedSlots.{field_moved, plain_slots}
use Rattle.heap_moves.proofs.MovedPairs.{other_pair, found_moved, count_moved}

-- what is a sound cell of a kind without a number has none where it is from
module _ {old new : Heap} {to : ℕ → Option ℕ} (moved : IsMoved old new to) where
  -- a plain object is sound
  plain_sound : {cell : Cell} {words others : List ℕ} (now : ℕ) → HasSizes old → HasCell old cell words
      → cell.layout.kind ≡ kind.Plain → AreMoved to cell words others → IsPlainCell old cell words
      → IsPlainCell new (moved_to cell now) others
  plain_sound {cell} {words} {others} now sized has of_kind are sound =
      let path : Path = shape_path old.paths cell.header.shape in
      let slots = plain_slots moved has of_kind are sound.has in
      let proto = proto_slot_moved sound.proto of_kind are sound.proto_has in
      let hold : HoldFields new path slots.now = record {
        room = omega (arith, sound.hold.room, slots.long);
        each = λ at field word there stands.
            let was = other_word sound.slots slots.now at word slots.long stands in
            field_word_moved moved
            (field_moved field sized has of_kind sound.shape there (slots.each at was.0 word was.1 stands))
            (sound.hold.each at field was.0 there was.1);
        rest = λ at word past stands.
            let was = other_word sound.slots slots.now at word slots.long stands in
            slot_hole_stays (slots.each at was.0 word was.1 stands) (sound.hold.rest at was.0 past was.1);
      } in
      record {
        shape = subst (λ paths. IsPathShape paths cell.header.shape) (sym moved.paths) sound.shape;
        proto = proto.0;
        proto_has = proto.1;
        proto_is = proto_moved moved proto.2 sound.proto_is;
        slots = slots.now;
        has = slots.has;
        hold = subst (λ paths. HoldFields new (shape_path paths cell.header.shape) slots.now) (sym moved.paths) hold;
      }

  -- a list is sound
  list_sound : {cell : Cell} {words others : List ℕ} → cell.layout.kind ≡ kind.List → AreMoved to cell words others
      → IsListCell old words → IsListCell new others
  list_sound {cell} of_kind are sound =
      let visited = slots_by_kind cell kind.List store_slot of_kind (first_in store_slot []) in
      let store = store_slot_moved sound.store visited are sound.slot in
      let next = beside_moved moved store.2 sound.stands in
      record {
        store = store.0;
        slot = store.1;
        beside = next.others;
        stands = next.stands;
        count = sound.count;
        counted = are.raw count_offset (λ slot.
            omega (arith, one_in store_slot count_offset (slots_of_kind cell kind.List count_offset of_kind slot)))
            ∙ sound.counted;
        few = sound.few;
        hold = record {
          room = omega (arith, sound.hold.room, next.are.long);
          each = λ at word below stands.
              let was = other_word sound.beside next.others at word next.are.long stands in
              value_moved moved (next.are.each at was.0 word was.1 stands) (sound.hold.each at was.0 below was.1);
          rest = λ at word past stands.
              let was = other_word sound.beside next.others at word next.are.long stands in
              hole_stays (next.are.each at was.0 word was.1 stands) (sound.hold.rest at was.0 past was.1);
        };
      }

  -- a weak map is sound
  weak_sound : {cell : Cell} {words others : List ℕ} → cell.layout.kind ≡ kind.Weak → AreMoved to cell words others
      → IsWeakCell old words → IsWeakCell new others
  weak_sound {cell} {others = others} of_kind are sound =
      let visited = slots_by_kind cell kind.Weak store_slot of_kind (first_in store_slot []) in
      let store = store_slot_moved sound.store visited are sound.slot in
      let next = table_moved moved store.2 sound.table in
      let counted = are.raw count_offset (λ slot.
      omega (arith, one_in store_slot count_offset (slots_of_kind cell kind.Weak count_offset of_kind slot)))
      ∙ sound.counted in
      record {
        store = store.0;
        slot = store.1;
        pairs = next.others;
        table = next.stands;
        each = λ at pair there.
            let was = other_pair sound.pairs next.others at pair next.are.long there in
            found_moved moved sound.pairs next.others at was.0 pair next.are was.1 there (sound.each at was.0 was.1);
        counted = subst (λ n. HasWord others count_offset n) (sym (count_moved sound.pairs next.others next.are))
            counted;
      }

  -- a store or a table is sound
  store_sound : {cell : Cell} {words others : List ℕ} (now : ℕ)
      → AreAllMoved to (drop store_head words) (drop store_head others) → IsStoreCell old cell words
      → IsStoreCell new (moved_to cell now) others
  store_sound {words = words} {others} now are sound = record {
    no_number = sound.no_number;
    slots = λ k d inside.
        let word : ℕ = get_or (drop store_head others) k d in
        let there : HasWord (drop store_head others) k word = slice_get-get_or (drop store_head others) k d inside in
        let was = other_word (drop store_head words) (drop store_head others) k word are.long there in
        slot_word_moved moved (are.each k was.0 word was.1 there)
        (All-slice_get (IsSlotWord old) (drop store_head words) k was.0 sound.slots was.1);
  }

  -- a box is sound
  box_sound : {cell : Cell} {words others : List ℕ} (now : ℕ) → cell.layout.kind ≡ kind.Boxed
      → AreMoved to cell words others → IsBoxCell cell words → IsBoxCell (moved_to cell now) others
  box_sound {cell} now of_kind are sound = record {
    no_number = sound.no_number;
    integer = sound.integer;
    fits = sound.fits;
    holds = are.raw 1 (λ slot. let none = slots_of_kind cell kind.Boxed 1 of_kind slot in omega (arith, none.1))
        ∙ sound.holds;
  }

  -- a cell that stays is sound, kind by kind
  sound_by : {cell : Cell} {words others : List ℕ} (k : Kind) (now : ℕ) → HasSizes old → HasCell old cell words
      → cell.layout.kind ≡ k → AreMoved to cell words others → IsSoundOf k old cell words
      → IsSoundOf k new (moved_to cell now) others
  sound_by kind.Plain now sized has of_kind are sound = plain_sound now sized has of_kind are sound
  sound_by kind.List now sized has of_kind are sound = list_sound of_kind are sound
  sound_by kind.Weak now sized has of_kind are sound = weak_sound of_kind are sound
  sound_by {cell} kind.Store now sized has of_kind are sound =
      store_sound now (slots_moved kind.Store cell.length has of_kind refl refl are) sound
  sound_by {cell} kind.Table now sized has of_kind are sound =
      store_sound now (slots_moved kind.Table (2 * cell.length) has of_kind refl refl are) sound
  sound_by kind.Boxed now sized has of_kind are sound = box_sound now of_kind are sound
  sound_by kind.Filler now sized has of_kind are sound = sound
  sound_by kind.Gap now sized has of_kind are sound = sound

  -- a free cell without a number is sound
  free_sound : (k : Kind) (cell : Cell) (words : List ℕ) → IsTrue (is_free_kind k) → HasNoNumber cell
      → IsSoundOf k new cell words
  free_sound kind.Filler cell words free none = none
  free_sound kind.Gap cell words free none = none
  free_sound kind.Plain cell words free none = absurd (false≢true free)
  free_sound kind.List cell words free none = absurd (false≢true free)
  free_sound kind.Weak cell words free none = absurd (false≢true free)
  free_sound kind.Store cell words free none = absurd (false≢true free)
  free_sound kind.Table cell words free none = absurd (false≢true free)
  free_sound kind.Boxed cell words free none = absurd (false≢true free)

  -- a cell that is one that stays, moved, is sound
  sound_from : {cell : Cell} {words : List ℕ} → WholeFor old (Stays to) → Origin old to cell words
      → IsSoundCell new cell words
  sound_from {cell} {words} whole from =
      let sound = whole.sound from.was from.words from.had (cell.at, from.stays) in
      subst (λ (one : Cell). IsSoundCell new one words) from.same
      (sound_by from.was.layout.kind cell.at whole.sized from.had refl from.are sound)

  -- each cell is sound, by where it is from
  sound_of : {cell : Cell} {words : List ℕ} → WholeFor old (Stays to) → HasCell new cell words → IsFrom old to cell
      → IsSoundCell new cell words
  sound_of whole has (IsFrom.stood was before had stays) = sound_from whole (origin_of moved was before has had stays)
  sound_of {cell} {words} whole has (IsFrom.free free none) = free_sound cell.layout.kind cell words free none

  -- each cell is sound
  pub all_sound : WholeFor old (Stays to) → (cell : Cell) (words : List ℕ) → HasCell new cell words
      → IsSoundCell new cell words
  all_sound whole cell words has = sound_of whole has (moved.back cell words has)
