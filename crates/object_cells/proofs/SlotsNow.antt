-- The slots of a plain object once one word of its own cells was put.
use Rattle.std.proofs.Common.{◌≡◌, ◌≢◌, ℕ, ◌+◌, ◌-◌, ◌<◌, inl, inr, List, [], ◌∷◌, length, drop}
use Rattle.std.proofs.Common.{Some, slice_get, refl, sym, ◌∙◌, ap, subst, arith, length-drop, IsTrue}
use Rattle.std.proofs.lemmas.Bool.{cases_lt}
use Rattle.std.proofs.lemmas.Option.{same_Some}
use Rattle.std.proofs.lemmas.List.Elements.{Contains-append_left}
use Rattle.tagged_word.specs.declared.layout.Kind.TheVariants as kind
use Rattle.tagged_word.specs.Cells.{plain_head, store_head, store_slot, proto_slot, is_object_kind}
use Rattle.tagged_word.proofs.Members.{first_in, rest_in, in_cases}
use Rattle.heap_model.specs.Types.{Cell}
use Rattle.heap_model.specs.Heaps.{Heap, HasCell, words_of_cell}
use Rattle.heap_model.specs.Slots.{RefersTo, HoldsStore}
use Rattle.heap_model.specs.Kinds.{HasWord, HasSlots}
use Rattle.heap_model.specs.Wholeness.{Whole, HasSlotAt}
use Rattle.heap_model.specs.Changes.{CellsChange}
use Rattle.heap_model.proofs.CellsApart.{IsOfCell, one_at}
use Rattle.heap_model.proofs.CellWords.{slice_get-drop, word_there, words_by_kind, words_are_size}
use Rattle.heap_model.proofs.CellOutcomes.{cells_move, Fate, fate, object_is_no_filler, owned_is_no_filler}
use Rattle.heap_model.proofs.OneOwner.{object_is_not_owned}
use Rattle.heap_model.proofs.SlotWords.{IsStoreKind, store_is_owned}
use Rattle.heap_model.proofs.WordClasses.{same_reference, undefined_refers_not}
use Rattle.object_cells.specs.CellWrites.{reshaped}
use Rattle.object_cells.specs.SlotChanges.{WritesFields}
use Rattle.object_cells.proofs.OwnerWrites.{becomes_cap}
use Rattle.object_cells.proofs.CellsRead.{word_stands}
use Rattle.object_cells.proofs.SlotPlaces.{own_slot, behind_cap}
use Rattle.object_cells.proofs.StoreCells.{store_at}
use Rattle.object_cells.proofs.NumberedSlots.{IsNumbered, NotInHead, slot_of_number, is_store_of}
use Rattle.object_cells.proofs.OneWord.{WritesOne, WritesTwo}
use Rattle.object_cells.proofs.OwnCells.{word_stays, beside_not_header}

-- One word of a plain object's own cells was put in a whole heap, and none of the head of its cell.
pub record PutsOwn (old new : Heap) (cell : Cell) (shape at word : ℕ) (others made : List Cell) : Type 0 where
  pub whole : Whole old
  pub has : HasCell old cell (words_of_cell old cell)
  pub plain : cell.layout.kind ≡ kind.Plain
  pub one : WritesOne old new cell shape at word made
  pub writes : WritesFields old new cell shape others made
  pub cells : CellsChange old new (cell ∷ others) (reshaped new.paths cell shape ∷ others) made
  pub not_head : NotInHead cell at

-- the object's cell stands in the new heap
pub reshaped_stands : {old new : Heap} {cell : Cell} {shape at word : ℕ} {others made : List Cell}
    → PutsOwn old new cell shape at word others made
    → HasCell new (reshaped new.paths cell shape) (words_of_cell new (reshaped new.paths cell shape))
reshaped_stands {new = new} {cell} {shape} {others = others} {made} puts =
    let one : Cell = reshaped new.paths cell shape in
    puts.cells.comes one (Contains-append_left (one ∷ others) made one (first_in one others))

-- no store or table is an object
pub store_is_no_object : {cell other : Cell} → cell ≡ other → IsTrue (is_object_kind cell.layout.kind)
    → IsStoreKind other.layout.kind → ⊥
store_is_no_object {other = other} same object store =
    object_is_not_owned other.layout.kind (subst (λ (one : Cell). IsTrue (is_object_kind one.layout.kind)) same object)
    (store_is_owned store)

-- a store or a table of the old heap stands in a heap in which the cells beside the object's own stand again
pub beside_stands : {old new : Heap} {cell came other : Cell} {others made : List Cell} {words : List ℕ}
    → IsTrue (is_object_kind cell.layout.kind) → CellsChange old new (cell ∷ others) (came ∷ others) made
    → HasCell old other words → IsStoreKind other.layout.kind → HasCell new other (words_of_cell new other)
beside_stands {new = new} {cell} {came} {other} {others} {made} object cells has store =
    elim (fate (cells_move cells) has (owned_is_no_filler other.layout.kind (store_is_owned store))) [
      | Fate.has_gone there ↦ elim (in_cases cell others other there) [
        | inl same ↦ absurd (store_is_no_object same object store)
        | inr among ↦
            cells.comes other (Contains-append_left (came ∷ others) made other (rest_in came others other among))
      ]
      | Fate.stands has_new not_gone ↦ subst (HasCell new other) (sym has_new.words_are) has_new
    ]

-- the stores and tables of the old heap stand in the new one
abbrev pub StoresStand : Heap → Heap → Type 0
StoresStand old new =
    (cell : Cell) (words : List ℕ) → HasCell old cell words → IsStoreKind cell.layout.kind
    → HasCell new cell (words_of_cell new cell)

-- so they do where one word was put
pub stores_stand : {old new : Heap} {cell : Cell} {shape at word : ℕ} {others made : List Cell}
    → PutsOwn old new cell shape at word others made → StoresStand old new
stores_stand puts other words has store = beside_stands (ap is_object_kind puts.plain) puts.cells has store

-- the word of a cell at an offset is that of the heap
pub word_at_offset : {heap : Heap} {cell : Cell} {words : List ℕ} (k : ℕ) → HasCell heap cell words → k < cell.size
    → slice_get words k ≡ slice_get heap.words (cell.at + k)
word_at_offset k has below =
    let there = word_there k has below in
    there.1 ∙ sym (word_stands k there.0 has there.1)

-- the size of a plain object's cell
pub plain_cell_size : {heap : Heap} {cell : Cell} {words : List ℕ} → HasCell heap cell words
    → cell.layout.kind ≡ kind.Plain
    → cell.size ≡ plain_head + cell.layout.cap
plain_cell_size has plain = sym (words_are_size has) ∙ words_by_kind kind.Plain has plain

-- a word of the head behind the header stays where a word was put elsewhere
pub head_stays : {old new : Heap} {cell : Cell} {header at word : ℕ} {made : List Cell} {words : List ℕ} (offset : ℕ)
    → Whole old → HasCell old cell words → cell.layout.kind ≡ kind.Plain
    → WritesTwo old new cell.at header at word made → 0 < offset → offset < plain_head → cell.at + offset ≢ at
    → slice_get new.words (cell.at + offset) ≡ slice_get old.words (cell.at + offset)
head_stays {cell = cell} offset whole has plain one behind head not_put =
    let of_cell : IsOfCell cell (cell.at + offset) =
    record { from = omega arith; below = omega (arith, head, plain_cell_size has plain) } in
    word_stays (cell.at + offset) whole one has (object_is_no_filler cell.layout.kind (ap is_object_kind plain)) of_cell
    (λ same. omega (arith, same, behind)) not_put

-- the slot for the store holds what it held
pub store_now : {old new : Heap} {cell : Cell} {shape at word store : ℕ} {others made : List Cell}
    → PutsOwn old new cell shape at word others made → HasWord (words_of_cell old cell) store_slot store
    → HasWord (words_of_cell new (reshaped new.paths cell shape)) store_slot store
store_now {cell = cell} {store = store} puts slot =
    word_at_offset store_slot (reshaped_stands puts) (omega (arith, plain_cell_size puts.has puts.plain))
    ∙ head_stays store_slot puts.whole puts.has puts.plain puts.one (omega arith) (omega arith)
    (puts.not_head store_slot (omega arith))
    ∙ word_stands store_slot store puts.has slot

-- and so does that for the prototype
pub proto_now : {old new : Heap} {cell : Cell} {shape at word : ℕ} {others made : List Cell}
    → PutsOwn old new cell shape at word others made
    → slice_get (words_of_cell new (reshaped new.paths cell shape)) proto_slot
    ≡ slice_get (words_of_cell old cell) proto_slot
proto_now {cell = cell} puts =
    let within : proto_slot < cell.size = omega (arith, plain_cell_size puts.has puts.plain) in
    word_at_offset proto_slot (reshaped_stands puts) within
    ∙ head_stays proto_slot puts.whole puts.has puts.plain puts.one (omega arith) (omega arith)
    (puts.not_head proto_slot (omega arith))
    ∙ sym (word_at_offset proto_slot puts.has within)

-- The slots that stand beside the object in the new heap: as many, at the same address.
pub record BesideNow (new : Heap) (store place many : ℕ) : Type 0 where
  pub slots : List ℕ
  pub stands : HoldsStore new kind.Store store slots
  pub at : store_at stands ≡ place
  pub long : length slots ≡ many

-- so they stand where the stores do
pub beside_now : {old new : Heap} {store : ℕ} {before : List ℕ} → StoresStand old new
    → (stands : HoldsStore old kind.Store store before) → BesideNow new store (store_at stands) (length before)
beside_now stand HoldsStore.none = record { slots = []; stands = HoldsStore.none; at = refl; long = refl }
beside_now {new = new} stand (HoldsStore.store to other words refers of_kind) =
    let now = stand other words refers.has (inl of_kind) in
    let all : List ℕ = words_of_cell new other in
    let long = length-drop store_head all in
    record {
      slots = drop store_head all;
      stands = HoldsStore.store to other all (record { refers = refers.refers; has = now }) of_kind;
      at = refl;
      long = omega (arith, long, length-drop store_head words, words_are_size now, words_are_size refers.has);
    }

-- the store to which a word refers was there
pub target_before : {old new : Heap} {other : Cell} {words : List ℕ} (store : ℕ) (before : List ℕ) → StoresStand old new
    → HoldsStore old kind.Store store before → RefersTo new store other words
    → (were : List ℕ) × RefersTo old store other were
target_before {other = other} store before stand HoldsStore.none refers =
    absurd (undefined_refers_not other.at refers.refers)
target_before {old} {other = other} store before stand (HoldsStore.store to target words was of_kind) refers =
    let at : target.at ≡ other.at = same_reference target.at other.at (sym was.refers ∙ refers.refers) in
    let same : target ≡ other = one_at (stand target words was.has (inl of_kind)) refers.has at in
    (words, subst (λ (one : Cell). RefersTo old store one words) same was)

-- a slot has the address that it had
pub numbered_before : {old new : Heap} {cell : Cell} {shape at word : ℕ} {others made : List Cell} {slots : List ℕ}
    {k a : ℕ}
    → PutsOwn old new cell shape at word others made → HasSlots old (words_of_cell old cell) slots
    → IsNumbered new (reshaped new.paths cell shape) (words_of_cell new (reshaped new.paths cell shape)) k a
    → IsNumbered old cell (words_of_cell old cell) k a
numbered_before puts are (IsNumbered.own below is of_cell) =
    IsNumbered.own (omega (arith, below, becomes_cap puts.writes.becomes)) is
    (record { from = of_cell.from; below = of_cell.below })
numbered_before {old} puts are (IsNumbered.beside store j other others slot refers of_kind counts is of_cell) =
    let same : are.store ≡ store = same_Some are.store store (sym (store_now puts are.slot) ∙ slot) in
    let before = target_before store are.beside (stores_stand puts)
    (subst (λ w. HoldsStore old kind.Store w are.beside) same are.stands) refers in
    IsNumbered.beside store j other before.0 (are.slot ∙ ap Some same) before.1 of_kind
    (omega (arith, counts, becomes_cap puts.writes.becomes)) is of_cell

-- the word of an object's slot stands in the heap
pub slot_at_stands : {heap : Heap} {cell : Cell} {words : List ℕ} {a word : ℕ} → HasCell heap cell words
    → HasSlotAt heap cell words a word → slice_get heap.words a ≡ Some word
slot_at_stands has (HasSlotAt.own offset word there stands) = word_stands offset word has stands
slot_at_stands has (HasSlotAt.beside store other others offset word slot refers there stands) =
    word_stands offset word refers.has stands

-- the slot of this number has an address, at which its word stands
pub record NumberedWord (heap : Heap) (cell : Cell) (words : List ℕ) (k word : ℕ) : Type 0 where
  pub at : ℕ
  pub numbered : IsNumbered heap cell words k at
  pub stands : slice_get heap.words at ≡ Some word

-- each slot has one
pub numbered_word : {heap : Heap} {cell : Cell} {words slots : List ℕ} (k word : ℕ) → HasCell heap cell words
    → cell.layout.kind ≡ kind.Plain → HasSlots heap words slots → HasWord slots k word
    → NumberedWord heap cell words k word
numbered_word {cell = cell} k word has plain are there = elim (cases_lt k cell.layout.cap) [
  | inl below ↦
      let of_cell : IsOfCell cell (cell.at + (plain_head + k)) =
      record { from = omega arith; below = omega (arith, below, plain_cell_size has plain) } in
      record {
        at = cell.at + (plain_head + k);
        numbered = IsNumbered.own below refl of_cell;
        stands = own_slot k has plain are below ∙ there;
      }
  | inr from ↦
      let slot = slot_of_number k word has plain are there (λ below. absurd (omega (arith, below, from))) in
      record { at = slot.at; numbered = slot.numbered; stands = slot_at_stands has slot.slot }
]

-- what stands at the address of a slot of a store beside an object is its word
pub beside_word_stands : {heap : Heap} {other : Cell} {slots others : List ℕ} (store j a : ℕ)
    → HoldsStore heap kind.Store store slots → RefersTo heap store other others → a ≡ other.at + (store_head + j)
    → IsOfCell other a → slice_get heap.words a ≡ slice_get slots j
beside_word_stands {heap} {slots = slots} {others} store j a stands refers is of_cell =
    let of_store = is_store_of store slots stands refers in
    ap (slice_get heap.words) is
    ∙ sym (word_at_offset (store_head + j) refers.has (omega (arith, of_cell.below, is)))
    ∙ sym (slice_get-drop store_head others j (store_head + j) refl)
    ∙ ap (λ all. slice_get all j) (sym of_store.are)

-- what stands at the address of a slot is its word
pub numbered_stands : {heap : Heap} {cell : Cell} {words slots : List ℕ} (k a : ℕ) → HasCell heap cell words
    → cell.layout.kind ≡ kind.Plain → HasSlots heap words slots → IsNumbered heap cell words k a
    → slice_get heap.words a ≡ slice_get slots k
numbered_stands {heap} k a has plain are (IsNumbered.own below is of_cell) =
    ap (slice_get heap.words) is ∙ own_slot k has plain are below
numbered_stands {heap} {cell} k a has plain are
    (IsNumbered.beside store j other others slot refers of_kind counts is of_cell) =
    let cap : ℕ = cell.layout.cap in
    let back : k - cap ≡ j = omega (arith, counts) in
    let same : are.store ≡ store = same_Some are.store store (sym are.slot ∙ slot) in
    let stands = subst (λ w. HoldsStore heap kind.Store w are.beside) same are.stands in
    beside_word_stands store j a stands refers is of_cell ∙ ap (slice_get are.beside) (sym back)
    ∙ behind_cap k cap has plain are refl (omega (arith, counts))

-- the address of a slot is that of a cell that is no filler, and not of the object's header
pub record IsSlotAddress (heap : Heap) (cell : Cell) (a : ℕ) : Type 0 where
  pub one : Cell
  pub words : List ℕ
  pub has : HasCell heap one words
  pub no_filler : one.layout.kind ≢ kind.Filler
  pub of_cell : IsOfCell one a
  pub not_header : a ≢ cell.at

-- so it is
pub numbered_address : {heap : Heap} {cell : Cell} {words : List ℕ} (k a : ℕ) → Whole heap → HasCell heap cell words
    → cell.layout.kind ≡ kind.Plain → IsNumbered heap cell words k a → IsSlotAddress heap cell a
numbered_address {cell = cell} {words} k a whole has plain (IsNumbered.own below is of_cell) =
    record {
      one = cell;
      words = words;
      has = has;
      no_filler = object_is_no_filler cell.layout.kind (ap is_object_kind plain);
      of_cell = of_cell;
      not_header = λ same. omega (arith, same, is);
    }
numbered_address k a whole has plain (IsNumbered.beside store j other others slot refers of_kind counts is of_cell) =
    record {
      one = other;
      words = others;
      has = refers.has;
      no_filler = owned_is_no_filler other.layout.kind (store_is_owned (inl of_kind));
      of_cell = of_cell;
      not_header = beside_not_header a whole has plain refers.has (inl of_kind) of_cell;
    }

-- The slot of this number has its address, and holds what it held, unless it is the word that was put.
pub record SlotNow (old new : Heap) (cell : Cell) (slots : List ℕ) (at k word : ℕ) : Type 0 where
  pub a : ℕ
  pub numbered : IsNumbered old cell (words_of_cell old cell) k a
  pub stands : slice_get new.words a ≡ Some word
  pub kept : a ≢ at → HasWord slots k word

-- so it is with each slot
pub slot_now : {old new : Heap} {cell : Cell} {shape at word : ℕ} {others made : List Cell} {slots now : List ℕ}
    (k holds : ℕ)
    → PutsOwn old new cell shape at word others made → HasSlots old (words_of_cell old cell) slots
    → HasSlots new (words_of_cell new (reshaped new.paths cell shape)) now → HasWord now k holds
    → SlotNow old new cell slots at k holds
slot_now k holds puts were are there =
    let found = numbered_word k holds (reshaped_stands puts) refl are there in
    let numbered = numbered_before puts were found.numbered in
    let address = numbered_address k found.at puts.whole puts.has puts.plain numbered in
    record {
      a = found.at;
      numbered = numbered;
      stands = found.stands;
      kept = λ apart. sym (numbered_stands k found.at puts.has puts.plain were numbered)
          ∙ sym (word_stays found.at puts.whole puts.one address.has address.no_filler address.of_cell
          address.not_header apart)
          ∙ found.stands;
    }
