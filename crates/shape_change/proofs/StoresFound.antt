-- Property stores of plain objects, what stands first in them, and where the slots of the fields stand.
use Rattle.std.proofs.Common.{◌≡◌, ℕ, ◌+◌, ◌-◌, ◌<◌, ◌≤◌, inl, inr, false, List, length, drop, Some}
use Rattle.std.proofs.Common.{slice_get, get_or, nat_lt, refl, sym, ◌∙◌, ap, subst, arith}
use Rattle.std.specs.Prelude.{ℤ}
use Rattle.std.proofs.lemmas.Bool.{le-ltb}
use Rattle.std.proofs.lemmas.Option.{slice_get-get_or, same_Some}
use Rattle.tagged_word.specs.Cells.{plain_head, store_head, store_slot}
use Rattle.page_space.specs.Extents.{roots_start}
use Rattle.heap_model.specs.Types.{PathField, Rep, Cell}
use Rattle.object_graph.specs.declared.value.Rep.TheVariants as rep
use Rattle.shape_tree.specs.Shapes.{IsPathShape, shape_path}
use Rattle.heap_model.specs.Heaps.{Heap, HasCell, words_of_cell}
use Rattle.heap_model.specs.Slots.{RefersToBox, IsWideWord, IsFieldWord}
use Rattle.heap_model.specs.Kinds.{HasWord, HasSlots}
use Rattle.heap_model.specs.Wholeness.{Whole}
use Rattle.heap_model.proofs.WordClasses.{same_reference}
use Rattle.heap_model.proofs.CellsApart.{one_at, one_words}
use Rattle.heap_model.proofs.CellWords.{slice_get-drop}
use Rattle.object_cells.specs.CellsAt.{HasField}
use Rattle.shape_change.specs.Deletions.{HasStoreAt, HasFirstBeside}
use Rattle.object_cells.proofs.CellsRead.{word_stands}
use Rattle.object_cells.proofs.PlainFields.{plain_sound, cap_there}
use Rattle.object_cells.proofs.SlotPlaces.{behind_cap}
use Rattle.object_cells.proofs.NumberedSlots.{store_of}
use Rattle.object_cells.proofs.StoreCells.{store_at, store_cell_there, is_store_cell, slots_counted}
use Rattle.shape_change.proofs.SlotAddresses.{SlotsStand}
use Rattle.shape_change.proofs.SlotAddresses.{slots_stand}

-- a wide field's word beside the object refers to a box
wide_boxed : {heap : Heap} (word : ℕ) → IsWideWord heap false word → (v : ℤ) × RefersToBox heap word v
wide_boxed word (IsWideWord.boxed to v refers) = (v, refers)

-- so does that of a field that is wide
pub field_boxed : {heap : Heap} (one : Rep) (word : ℕ) → IsFieldWord heap false one word → one ≡ rep.Wide
    → (v : ℤ) × RefersToBox heap word v
field_boxed one word (IsFieldWord.small_integer v is) wide = cc
field_boxed one word (IsFieldWord.wide to is) wide = wide_boxed word is
field_boxed one word (IsFieldWord.tagged to is) wide = cc

-- how many in-object slots the object has, and how many fields of the shape
pub record FieldsCounted (heap : Heap) (at shape slot : ℕ) (there : HasField heap at shape slot) : Type 0 where
  pub slots : List ℕ
  pub are : HasSlots heap there.words slots
  pub cap : there.cell.layout.cap ≡ (shape_path heap.paths shape).cap
  pub room : length (shape_path heap.paths shape).fields ≤ length slots
  pub long : length slots ≡ there.cell.layout.cap + length are.beside

-- there are slots for all fields
pub fields_counted : {heap : Heap} {at shape slot : ℕ} → Whole heap → (there : HasField heap at shape slot)
    → FieldsCounted heap at shape slot there
fields_counted {heap} {shape = shape} whole there =
    let sound = plain_sound whole there.has there.plain in
    record {
      slots = sound.slots;
      are = sound.has;
      cap = cap_there (shape_path heap.paths shape).cap whole there refl there.cell there.words there.has there.stands;
      room = omega (
        arith,
        sound.hold.room,
        ap (λ s. length (shape_path heap.paths s).fields) there.of_shape,
      );
      long = slots_counted there.has there.plain sound.has;
    }

-- where not all fields stand in the object, it has a store
pub store_there : {heap : Heap} {at shape slot : ℕ} → Whole heap → HasField heap at shape slot
    → (shape_path heap.paths shape).cap < length (shape_path heap.paths shape).fields
    → (store : ℕ) × HasStoreAt heap at store
store_there {heap} whole there some =
    let counted = fields_counted whole there in
    let are = counted.are in
    let other = store_cell_there are.stands (omega (arith, counted.cap, counted.room, counted.long, some)) in
    let is = is_store_cell are.stands other.0 other.1 in (
      other.0.at,
      record {
        cell = there.cell;
        words = there.words;
        has = there.has;
        stands = there.stands;
        plain = there.plain;
        word = are.store;
        slot = are.slot;
        other = other.0;
        others = words_of_cell heap other.0;
        refers = is.refers;
        is_store = is.of_kind;
        at = refl;
      },
    )

-- the slots beside an object are those of its store
pub beside_are : {heap : Heap} {at store : ℕ} {cell : Cell} {words slots : List ℕ} (there : HasStoreAt heap at store)
    → HasCell heap cell words → cell.at ≡ at → (are : HasSlots heap words slots)
    → are.beside ≡ drop store_head there.others
beside_are {heap} {cell = cell} {words} there has stands are =
    let same : there.cell ≡ cell = one_at there.has has (there.stands ∙ sym stands) in
    let one = one_words (subst (λ (c : Cell). HasCell heap c there.words) same there.has) has in
    (store_of there.word are (subst (λ all. HasWord all store_slot there.word) one there.slot) there.refers).are

-- so the first slot of the store holds a word of the first field that does not stand in the object
pub first_there : {heap : Heap} {at shape slot store : ℕ} → Whole heap → HasField heap at shape slot
    → (shape_path heap.paths shape).cap < length (shape_path heap.paths shape).fields → HasStoreAt heap at store
    → HasFirstBeside heap store shape
first_there {heap} {shape = shape} {store = store} whole there some stored =
    let counted = fields_counted whole there in
    let sound = plain_sound whole there.has there.plain in
    let path = shape_path heap.paths shape in
    let cap : ℕ = path.cap in
    let none : PathField = record { name = 0; rep = rep.Small } in
    let field : PathField = get_or path.fields cap none in
    let among : slice_get path.fields cap ≡ Some field = slice_get-get_or path.fields cap none some in
    let word : ℕ = get_or sound.slots cap 0 in
    let back = there.of_shape in
    let room : cap < length sound.slots =
    omega (arith, sound.hold.room, ap (λ s. length (shape_path heap.paths s).fields) back, some) in
    let stands : HasWord sound.slots cap word = slice_get-get_or sound.slots cap 0 room in
    let first : HasWord sound.has.beside (cap - cap) word =
    behind_cap cap cap there.has there.plain sound.has counted.cap (omega arith) ∙ stands in
    let are = beside_are stored there.has there.stands sound.has in
    let here : HasWord (drop store_head stored.others) 0 word =
    ap (λ all. slice_get all 0) (sym are) ∙ ap (slice_get sound.has.beside) (omega arith) ∙ first in
    let in_words : HasWord stored.others store_head word =
    sym (slice_get-drop store_head stored.others 0 store_head refl) ∙ here in
    let test : nat_lt cap cap ≡ false = le-ltb cap cap (omega arith) in
    let in_cell : slice_get (shape_path heap.paths there.cell.header.shape).fields cap ≡ Some field =
    ap (λ s. slice_get (shape_path heap.paths s).fields cap) back ∙ among in
    record {
      is_shape = subst (IsPathShape heap.paths) back sound.shape;
      field = field;
      among = among;
      word = word;
      stands = ap (λ n. slice_get heap.words (n + store_head)) (sym stored.at)
          ∙ word_stands store_head word stored.refers.has in_words;
      is = subst (λ own. IsFieldWord heap own field.rep word)
          (ap (λ s. nat_lt cap (shape_path heap.paths s).cap) back ∙ test)
          (sound.hold.each cap field word in_cell stands);
    }

-- the slots in the object stand before the roots
pub own_stands : {heap : Heap} {at shape slot : ℕ} → Whole heap → HasField heap at shape slot
    → at + (plain_head + (shape_path heap.paths shape).cap) ≤ roots_start heap.space
own_stands whole there =
    let counted = fields_counted whole there in
    omega (arith, (slots_stand whole there.has there.plain counted.are).own, there.stands, counted.cap)

-- the store at which an object has slots is the one that is there
pub store_is_there : {heap : Heap} {at store : ℕ} {cell : Cell} {words slots : List ℕ}
    (there : HasStoreAt heap at store) → HasCell heap cell words → cell.at ≡ at → (are : HasSlots heap words slots)
    → 0 < length are.beside
    → store_at are.stands ≡ store
store_is_there {heap} {cell = cell} {words} there has stands are some =
    let same : there.cell ≡ cell = one_at there.has has (there.stands ∙ sym stands) in
    let one = one_words (subst (λ (c : Cell). HasCell heap c there.words) same there.has) has in
    let slot : HasWord words store_slot there.word = subst (λ all. HasWord all store_slot there.word) one there.slot in
    let word : are.store ≡ there.word = same_Some are.store there.word (sym are.slot ∙ slot) in
    let other = store_cell_there are.stands some in
    let is = is_store_cell are.stands other.0 other.1 in
    sym is.at
    ∙ same_reference other.0.at there.other.at (sym is.refers.refers ∙ word ∙ there.refers.refers) ∙ there.at

-- and all slots of fields
pub fields_stand : {heap : Heap} {at shape slot : ℕ} (store : ℕ) → Whole heap → HasField heap at shape slot
    → ((shape_path heap.paths shape).cap < length (shape_path heap.paths shape).fields → HasStoreAt heap at store)
    → SlotsStand heap at (shape_path heap.paths shape).cap store (length (shape_path heap.paths shape).fields)
fields_stand {heap} {at} {shape} store whole there stored =
    let counted = fields_counted whole there in
    let stand = slots_stand whole there.has there.plain counted.are in
    let stands = there.stands in
    let same : (shape_path heap.paths shape).cap < length (shape_path heap.paths shape).fields
    → store_at counted.are.stands ≡ store = λ some.
    store_is_there (stored some) there.has there.stands counted.are
    (omega (arith, counted.cap, counted.room, counted.long, some)) in
    record {
      own = own_stands whole there;
      beside = λ some.
          omega (
            arith,
            stand.beside (omega (arith, counted.cap, counted.room, some)),
            same some,
            counted.cap,
            counted.room,
          );
      apart = λ some. elim (stand.apart (omega (arith, counted.cap, counted.room, some))) [
        | inl before ↦ inl (omega (arith, before, same some, stands, counted.cap))
        | inr behind ↦ inr (omega (arith, behind, same some, stands, counted.cap, counted.room))
      ];
    }
