-- An object that stays keeps its room: a store of as many slots or a table of as many pairs, and its count.
use Rattle.std.proofs.Common.{◌≡◌, ℕ, ◌+◌, ◌*◌, ◌^◌, ◌<◌, ◌≤◌, ◌⊎◌, inl, inr, List, length, get_or, Contains, Option}
use Rattle.std.proofs.Common.{Some, None, IsTrue, refl, sym, ◌∙◌, ap, subst, arith}
use Rattle.std.proofs.lemmas.Bool.{cases_lt, false≢true}
use Rattle.std.proofs.lemmas.Option.{slice_get-get_or}
use Rattle.heap_model.specs.Types.{Kind, Cell}
use Rattle.tagged_word.specs.declared.layout.Kind.TheVariants as kind
use Rattle.tagged_word.specs.Cells.{words_of, scavenge_offsets, store_slot, length_offset, store_head, is_object_kind}
use Rattle.tagged_word.specs.Readings.{reference_in}
use Rattle.tagged_word.proofs.Readings.{reference_from, reference_to}
use Rattle.tagged_word.proofs.Members.{one_in, range_bounds}
use Rattle.heap_model.specs.Heaps.{Heap, HasCell}
use Rattle.heap_model.specs.Slots.{reference_word, RefersTo}
use Rattle.heap_model.specs.Kinds.{HasWord, count_offset}
use Rattle.heap_model.specs.Needs.{word_at, capacity_by}
use Rattle.heap_model.proofs.CellsApart.{one_at}
use Rattle.heap_model.proofs.WordClasses.{same_reference, undefined_refers_not}
use Rattle.heap_model.proofs.WordsRead.{word_of_cell, shape_is}
use Rattle.heap_model.proofs.CellWords.{words_by_kind, slots_of_kind}
use Rattle.heap_model.proofs.ObjectSlots.{store_slot_in}
use Rattle.heap_model.proofs.SlotWords.{IsStoreKind, IsStoreWord, store_word_of}
use Rattle.heap_moves.specs.Moved.{IsMovedWord, AreMoved, moved_to, IsMoved}
use Rattle.heap_moves.specs.Standing.{Stays, WholeFor}
use Rattle.heap_moves.specs.Laws.{IsPlaceMoved, MovesKeepRoom}
use Rattle.heap_moves.proofs.MovedWords.{not_referred}
use Rattle.heap_moves.proofs.MovedCells.{place_moved}
use Rattle.heap_moves.proofs.MovedTargets.{IsTarget, target}
use Rattle.heap_moves.proofs.MovedSlots.{store_slot_moved}

-- no address of more than 32 bits is read
not_read : (word at : ℕ) (found : Option ℕ) → reference_in word ≡ found → word ≡ reference_word at → (at < 2 ^ 32 → ⊥)
    → reference_in word ≡ None
not_read word at None is refers far = is
not_read word at (Some one) is refers far =
    let from = reference_from word one is in
    let same : at ≡ one = same_reference at one (sym refers ∙ from.1) in
    let below : one < 2 ^ 32 = from.0 in
    absurd (far (omega arith))

-- an object has a second word, kind by kind
object_words : (k : Kind) (cap long : ℕ) → IsTrue (is_object_kind k) → 2 ≤ words_of k cap long
object_words kind.Plain cap long is = omega arith
object_words kind.List cap long is = omega arith
object_words kind.Weak cap long is = omega arith
object_words _ cap long is = absurd (false≢true is)

-- the length of a store or a table is visited by no scavenge
length_not_visited : {heap : Heap} {cell : Cell} {words : List ℕ} → HasCell heap cell words
    → IsStoreKind cell.layout.kind → Contains (scavenge_offsets cell.layout cell.length) length_offset → ⊥
length_not_visited {cell = cell} has (inl is) there =
    let slot = slots_of_kind cell kind.Store length_offset is there in
    omega (arith, (range_bounds store_head cell.length length_offset slot).0)
length_not_visited {cell = cell} has (inr is) there =
    let slot = slots_of_kind cell kind.Table length_offset is there in
    omega (arith, (range_bounds store_head (2 * cell.length) length_offset slot).0)

-- a store or a table has a length
length_there : {heap : Heap} {cell : Cell} {words : List ℕ} → HasCell heap cell words → IsStoreKind cell.layout.kind
    → (word : ℕ) × HasWord words length_offset word
length_there {words = words} has (inl is) =
    (get_or words 1 0, slice_get-get_or words 1 0 (omega (arith, words_by_kind kind.Store has is)))
length_there {words = words} has (inr is) =
    (get_or words 1 0, slice_get-get_or words 1 0 (omega (arith, words_by_kind kind.Table has is)))

-- the count of a list or a weak map is visited by no scavenge
count_not_visited : {heap : Heap} {cell : Cell} {words : List ℕ} → HasCell heap cell words
    → (cell.layout.kind ≡ kind.List) ⊎ (cell.layout.kind ≡ kind.Weak)
    → Contains (scavenge_offsets cell.layout cell.length) count_offset → ⊥
count_not_visited {cell = cell} has (inl is) there =
    omega (arith, one_in store_slot count_offset (slots_of_kind cell kind.List count_offset is there))
count_not_visited {cell = cell} has (inr is) there =
    omega (arith, one_in store_slot count_offset (slots_of_kind cell kind.Weak count_offset is there))

-- a list or a weak map has a count
count_there : {heap : Heap} {cell : Cell} {words : List ℕ} → HasCell heap cell words
    → (cell.layout.kind ≡ kind.List) ⊎ (cell.layout.kind ≡ kind.Weak) → (word : ℕ) × HasWord words count_offset word
count_there {words = words} has (inl is) =
    (get_or words 2 0, slice_get-get_or words 2 0 (omega (arith, words_by_kind kind.List has is)))
count_there {words = words} has (inr is) =
    (get_or words 2 0, slice_get-get_or words 2 0 (omega (arith, words_by_kind kind.Weak has is)))

module _ {old new : Heap} {to : ℕ → Option ℕ} (moved : IsMoved old new to) (whole : WholeFor old (Stays to)) where
  -- a word of a cell that no scavenge visits is read where the cell stands
  raw_read : {cell : Cell} {words others : List ℕ} (now offset word : ℕ) → HasCell old cell words
      → HasCell new (moved_to cell now) others → AreMoved to cell words others → HasWord words offset word
      → (Contains (scavenge_offsets cell.layout cell.length) offset → ⊥)
      → word_at new (now + offset) ≡ word_at old (cell.at + offset)
  raw_read now offset word had has are there none =
      word_of_cell offset word has (are.raw offset none ∙ there) ∙ sym (word_of_cell offset word had there)

  -- the capacity of a store or table is read by references to it alike
  read_capacity : {word next : ℕ} {cell : Cell} {words : List ℕ} → RefersTo old word cell words
      → IsStoreKind cell.layout.kind → IsTarget new to cell words next
      → capacity_by new (reference_in next) ≡ capacity_by old (reference_in word)
  read_capacity {word} {next} {cell} {words} refers is there =
      let fits = moved.fits cell words there.now refers.has there.stays in
      let long = length_there refers.has is in
      elim (cases_lt cell.at (2 ^ 32)) [
        | inl below ↦
            ap (capacity_by new) (reference_to next there.now (fits.0 below) there.refers.refers)
            ∙ raw_read there.now length_offset long.0 refers.has there.refers.has there.are long.1
            (length_not_visited refers.has is)
            ∙ sym (ap (capacity_by old) (reference_to word cell.at below refers.refers))
        | inr far ↦
            ap (capacity_by new) (not_read next there.now (reference_in next) refl there.refers.refers
            (λ near. let below = fits.1 near in omega arith))
            ∙ sym (ap (capacity_by old)
            (not_read word cell.at (reference_in word) refl refers.refers (λ near. omega arith)))
      ]

  -- a store has as many slots, and a table as many pairs
  store_capacity : {word next : ℕ} → IsStoreWord old word → IsMovedWord to word next
      → capacity_by new (reference_in next) ≡ capacity_by old (reference_in word)
  store_capacity {word} {next} (IsStoreWord.none is) is_moved =
      let same : next ≡ word = not_referred is_moved (λ at refers. undefined_refers_not at (sym is ∙ refers)) in
      ap (λ w. capacity_by new (reference_in w)) (same ∙ is) ∙ sym (ap (λ w. capacity_by old (reference_in w)) is)
  store_capacity (IsStoreWord.store cell words refers is) is_moved =
      read_capacity refers is (target moved is_moved refers)

  -- the object in a cell that stays is moved with its room
  cell_moved : {cell : Cell} {words : List ℕ} (now : ℕ) → HasCell old cell words
      → IsTrue (is_object_kind cell.layout.kind) → to cell.at ≡ Some now
      → IsPlaceMoved old new cell.header.object cell.at now
  cell_moved {cell} {words} now has object stays =
      let stood = moved.stands cell words now has stays in
      let k : Kind = cell.layout.kind in
      let many : length words ≡ words_of k cell.layout.cap cell.length = words_by_kind k has refl in
      let store : ℕ = get_or words store_slot 0 in
      let slot : HasWord words store_slot store =
      slice_get-get_or words store_slot 0 (omega (arith, many, object_words k cell.layout.cap cell.length object)) in
      let is = store_word_of old cell words k store object (whole.sound cell words has (now, stays)) slot in
      let next = store_slot_moved store (store_slot_in k cell.layout cell.length object) stood.are slot in
      record {
        place = place_moved moved now
            (record { cell = cell; words = words; has = has; stands = refl; object = object; carries = refl }) stays;
        shape = shape_is stood.has ∙ sym (shape_is has);
        capacity = ap (λ w. capacity_by new (reference_in w)) (word_of_cell store_slot next.0 stood.has next.1)
            ∙ store_capacity is next.2
            ∙ sym (ap (λ w. capacity_by old (reference_in w)) (word_of_cell store_slot store has slot));
        count = λ one its_words has_one at counted.
            let same : one ≡ cell = one_at has_one has at in
            let of_kind =
            subst (λ (c : Cell). (c.layout.kind ≡ kind.List) ⊎ (c.layout.kind ≡ kind.Weak)) same counted in
            let count = count_there has of_kind in
            raw_read now count_offset count.0 has stood.has stood.are count.1 (count_not_visited has of_kind);
      }

-- each object that stays is moved with its room
pub moves_keep_room : MovesKeepRoom
moves_keep_room old new to number at now whole moved place stays =
    let one = cell_moved moved whole now place.has place.object (ap to place.stands ∙ stays) in
    let carried = subst (λ n. IsPlaceMoved old new n place.cell.at now) place.carries one in
    subst (λ there. IsPlaceMoved old new number there now) place.stands carried
