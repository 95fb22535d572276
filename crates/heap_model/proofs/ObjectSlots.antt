-- The slots of an object: that of its store or table, those of its fields in the object, and those in the store or
-- table.
use Rattle.std.proofs.Common.{◌≡◌, ℕ, zero, suc, ◌+◌, ◌-◌, ◌*◌, ◌<◌, Bool, true, false, List, []}
use Rattle.std.proofs.Common.{◌∷◌, ◌++◌, length, drop, Some, Contains, slice_get, IsTrue, nat_lt, refl, sym}
use Rattle.std.proofs.Common.{◌∙◌, ap, subst, arith, inl, inr, length-drop, ◌==◌}
use Rattle.std.specs.List.{range_with_len}
use Rattle.std.proofs.lemmas.Bool.{false≢true, cases_lt}
use Rattle.std.proofs.lemmas.Bool.Decides.{nat_tests}
use Rattle.std.proofs.lemmas.Option.{none-some, same_Some}
use Rattle.heap_model.specs.Types.{Kind, LayoutWord, Path, PathField, Rep, Cell}
use Rattle.tagged_word.specs.declared.layout.Kind.TheVariants as kind
use Rattle.tagged_word.specs.Layouts.{is_raw}
use Rattle.tagged_word.specs.Cells.{words_of, scavenge_offsets, scavenge_offsets_of, in_object_offsets, store_head}
use Rattle.tagged_word.specs.Cells.{store_slot, plain_head, is_object_kind}
use Rattle.tagged_word.proofs.Members.{first_in, in_range}
use Rattle.tagged_word.proofs.Offsets.{IsInObject, in_object_in, plain_has_store, plain_has_own}
use Rattle.object_graph.specs.declared.value.Rep.TheVariants as rep
use Rattle.shape_tree.specs.Shapes.{IsPathShape, shape_path}
use Rattle.shape_tree.specs.ShapeLayouts.{layout_of, raw_bit}
use Rattle.heap_model.specs.Heaps.{Heap, HasCell}
use Rattle.heap_model.specs.Slots.{RefersTo, HoldsStore}
use Rattle.heap_model.specs.Kinds.{HasWord, HasSlots, Pair, pairs_in, HasTable}
use Rattle.heap_model.specs.Wholeness.{HasSizes, HasSlotAt}
use Rattle.heap_model.proofs.CellWords.{slice_get-drop, slice_get-append_left, slice_get-append_right, words_by_kind}
use Rattle.heap_model.proofs.CellWords.{slots_by_kind, behind_head, behind_head_few}
use Rattle.heap_model.proofs.PathLayouts.{layout_is, in_object_used, in_object_raw}

-- an object has the slot of its store, kind by kind
pub store_slot_in : (k : Kind) (layout : LayoutWord) (long : ℕ) → IsTrue (is_object_kind k)
    → Contains (scavenge_offsets_of k layout long) store_slot
store_slot_in kind.Plain layout long is = plain_has_store layout
store_slot_in kind.List layout long is = first_in store_slot []
store_slot_in kind.Weak layout long is = first_in store_slot []
store_slot_in _ layout long is = absurd (false≢true is)

-- an object has the slot of its store
pub store_slot_at : {heap : Heap} {cell : Cell} {words : List ℕ} (store : ℕ) → IsTrue (is_object_kind cell.layout.kind)
    → HasWord words store_slot store → HasSlotAt heap cell words (cell.at + store_slot) store
store_slot_at {heap} {cell} store object slot =
    HasSlotAt.own store_slot store (store_slot_in cell.layout.kind cell.layout cell.length object) slot

-- an object has the slots of its store or table
beside_slot : {heap : Heap} {cell other : Cell} {words others : List ℕ} (store k many word : ℕ) (of : Kind)
    → HasWord words store_slot store → RefersTo heap store other others → other.layout.kind ≡ of
    → words_of of other.layout.cap other.length ≡ store_head + many
    → scavenge_offsets_of of other.layout other.length ≡ range_with_len store_head many
    → HasWord (drop store_head others) k word → HasSlotAt heap cell words (other.at + (store_head + k)) word
beside_slot {other = other} {others = others} store k many word of slot refers of_kind sized run there =
    let few : k < many = behind_head_few others k many word (words_by_kind of refers.has of_kind ∙ sized) there in
    let offset : ℕ = store_head + k in
    let within : Contains (range_with_len store_head many) offset =
    in_range store_head many offset (omega arith) (omega arith) in
    let slots = subst (λ offsets. Contains offsets offset) (sym run) within in
    HasSlotAt.beside store other others offset word slot refers (slots_by_kind other of offset of_kind slots)
    (behind_head others k word there)

-- an object has the slot at this address, and the word stands there
abbrev pub HasSlotOf : Heap → Cell → List ℕ → ℕ → Type 0
HasSlotOf heap cell words word = (slot : ℕ) × HasSlotAt heap cell words slot word

-- an object has the slots that stand beside it
pub slot_beside : {heap : Heap} {cell : Cell} {words slots : List ℕ} (store k word : ℕ) → HasWord words store_slot store
    → HoldsStore heap kind.Store store slots → HasWord slots k word → HasSlotOf heap cell words word
slot_beside store k word slot HoldsStore.none there = absurd (none-some word there)
slot_beside store k word slot (HoldsStore.store to other others refers of_kind) there =
    (other.at + (store_head + k), beside_slot store k other.length word kind.Store slot refers of_kind refl refl there)

-- the words of a pair stand one behind the other
pub pair_words : (words : List ℕ) (at place : ℕ) (pair : Pair) → place ≡ 2 * at
    → slice_get (pairs_in words) at ≡ Some pair
    → HasWord words place pair.key × HasWord words (suc place) pair.value
pair_words [] at place pair is there = absurd (none-some pair there)
pair_words (key ∷ []) at place pair is there = absurd (none-some pair there)
pair_words (key ∷ value ∷ words) zero zero pair is there =
    let same = same_Some _ pair there in
    (ap (λ (one : Pair). Some one.key) same, ap (λ (one : Pair). Some one.value) same)
pair_words (key ∷ value ∷ words) zero (suc place) pair is there = absurd (omega arith)
pair_words (key ∷ value ∷ words) (suc at) zero pair is there = absurd (omega arith)
pair_words (key ∷ value ∷ words) (suc at) (suc zero) pair is there = absurd (omega arith)
pair_words (key ∷ value ∷ words) (suc at) (suc (suc place)) pair is there =
    pair_words words at place pair (omega arith) there

-- a weak map has the slot of the value of each pair of its table
pub value_slot : {heap : Heap} {cell : Cell} {words : List ℕ} {pairs : List Pair} (store at : ℕ) (pair : Pair)
    → HasWord words store_slot store → HasTable heap store pairs → slice_get pairs at ≡ Some pair
    → HasSlotOf heap cell words pair.value
value_slot store at pair slot HasTable.none there = absurd (none-some pair there)
value_slot store at pair slot (HasTable.table to other others refers of_kind power) there =
    let k : ℕ = suc (2 * at) in
    let value = (pair_words (drop store_head others) at (2 * at) pair refl there).1 in (
      other.at + (store_head + k),
      beside_slot store k (2 * other.length) pair.value kind.Table slot refers of_kind refl refl value,
    )

-- A field of a plain object: raw in the object, or in a slot.
pub data FieldSlot (heap : Heap) (cell : Cell) (words : List ℕ) (own : Bool) (field : PathField)
    (word : ℕ) : Type 0 where
  raw : own ≡ true → field.rep ≡ rep.Wide → FieldSlot heap cell words own field word
  in_slot : HasSlotOf heap cell words word → FieldSlot heap cell words own field word

-- a field in the object that is not wide has the offset of a slot
pub in_object_offset : (cell : Cell) (path : Path) (at : ℕ) (field : PathField)
    → cell.layout.kind ≡ kind.Plain → cell.layout ≡ layout_of path → slice_get path.fields at ≡ Some field
    → at < path.cap → raw_bit field.rep ≡ 0
    → Contains (scavenge_offsets cell.layout cell.length) (plain_head + at)
in_object_offset cell path at field of_kind laid there below tagged =
    let offset : ℕ = plain_head + at in
    let used = in_object_used path at field there below in
    let raw : is_raw (layout_of path) at ≡ false = in_object_raw path at field there below ∙ ap (λ n. n == 1) tagged in
    let is : at ≡ offset - plain_head = omega arith in
    let own_one : IsInObject (layout_of path) offset = record {
      behind = omega arith;
      used = omega (arith, used);
      tagged = subst (λ n. is_raw (layout_of path) n ≡ false) is raw;
    } in
    let own = in_object_in (layout_of path) offset own_one in
    let own_cell = subst (λ layout. Contains (in_object_offsets layout) offset) (sym laid) own in
    slots_by_kind cell kind.Plain offset of_kind (plain_has_own cell.layout offset own_cell)

-- so it stands in an in-object slot
in_object_slot : {heap : Heap} {cell : Cell} {words : List ℕ} (path : Path) (at word : ℕ) (field : PathField)
    → cell.layout.kind ≡ kind.Plain → cell.layout ≡ layout_of path → slice_get path.fields at ≡ Some field
    → at < path.cap
    → HasWord words (plain_head + at) word → raw_bit field.rep ≡ 0 → HasSlotOf heap cell words word
in_object_slot {cell = cell} path at word field of_kind laid there below slot tagged =
    let offset : ℕ = plain_head + at in
    let there = in_object_offset cell path at field of_kind laid there below tagged in
    (cell.at + offset, HasSlotAt.own offset word there slot)

-- a field in the object is raw where it is wide, and else in a slot
by_rep : {heap : Heap} {cell : Cell} {words : List ℕ} {own : Bool} {field : PathField} {word : ℕ} (one : Rep)
    → field.rep ≡ one → own ≡ true → (raw_bit field.rep ≡ 0 → HasSlotOf heap cell words word)
    → FieldSlot heap cell words own field word
by_rep rep.Small is own slot = FieldSlot.in_slot (slot (ap raw_bit is))
by_rep rep.Wide is own slot = FieldSlot.raw own is
by_rep rep.Tagged is own slot = FieldSlot.in_slot (slot (ap raw_bit is))

-- a field of a plain object is raw in the object, or in a slot of it
pub field_slot : {heap : Heap} {cell : Cell} {words slots : List ℕ} (at word : ℕ) (field : PathField) → HasSizes heap
    → HasCell heap cell words → cell.layout.kind ≡ kind.Plain → IsPathShape heap.paths cell.header.shape
    → HasSlots heap words slots → slice_get (shape_path heap.paths cell.header.shape).fields at ≡ Some field
    → HasWord slots at word
    → FieldSlot heap cell words (nat_lt at (shape_path heap.paths cell.header.shape).cap) field word
field_slot {heap} {cell} {words} at word field sized has of_kind shape slots there stands =
    let path : Path = shape_path heap.paths cell.header.shape in
    let laid : cell.layout ≡ layout_of path = layout_is sized has shape in
    let caps : cell.layout.cap ≡ path.cap = ap (λ (layout : LayoutWord). layout.cap) laid in
    let own : List ℕ = drop plain_head words in
    let long : length own ≡ path.cap =
    omega (arith, length-drop plain_head words, words_by_kind kind.Plain has of_kind, caps) in
    let in_both : HasWord (own ++ slots.beside) at word = subst (λ all. HasWord all at word) slots.are stands in
    elim (cases_lt at path.cap) [
      | inl below ↦
          let here : HasWord own at word =
          sym (slice_get-append_left own slots.beside at (omega (arith, long))) ∙ in_both in
          let test : nat_lt at path.cap ≡ true = grind (arith, nat_tests) in
          let word_there : HasWord words (plain_head + at) word =
          sym (slice_get-drop plain_head words at (plain_head + at) refl) ∙ here in
          by_rep field.rep refl test (in_object_slot path at word field of_kind laid there below word_there)
      | inr behind ↦
          let k : ℕ = at - path.cap in
          let here : HasWord slots.beside k word =
          sym (slice_get-append_right own slots.beside k at (omega (arith, long))) ∙ in_both in
          FieldSlot.in_slot (slot_beside slots.store k word slots.slot slots.stands here)
    ]
