-- Of a whole heap only the slot for an object's store refers to a store or a table.
use Rattle.std.proofs.Common.{◌≡◌, ℕ, ◌+◌, ◌-◌, ◌*◌, ◌<◌, suc, inl, inr, List, ◌++◌, length, drop, Some, Contains}
use Rattle.std.proofs.Common.{slice_get, get_or, IsTrue, false, refl, sym, ◌∙◌, ap, subst, arith, length-take}
use Rattle.std.proofs.lemmas.Bool.{false≢true}
use Rattle.std.proofs.lemmas.Option.{slice_get_within, slice_get-get_or}
use Rattle.tagged_word.specs.declared.layout.Kind.TheVariants as kind
use Rattle.tagged_word.specs.Layouts.{is_raw}
use Rattle.tagged_word.specs.Cells.{tagged_offsets_of, in_object_offsets, store_head, store_slot, plain_head}
use Rattle.tagged_word.specs.Cells.{is_object_kind}
use Rattle.tagged_word.proofs.Members.{one_in, in_range}
use Rattle.tagged_word.proofs.Offsets.{IsPlainSlot, plain_slot_is, in_object_in, in_object_is}
use Rattle.object_graph.specs.declared.value.Rep.TheVariants as rep
use Rattle.shape_tree.specs.Shapes.{IsPathShape, shape_path}
use Rattle.shape_tree.specs.ShapeLayouts.{layout_of, in_object_fields}
use Rattle.heap_model.specs.Types.{Kind, LayoutWord, Path, PathField, Cell}
use Rattle.heap_model.specs.Heaps.{Heap, HasCell}
use Rattle.heap_model.specs.Slots.{reference_word, RefersTo, IsSlotWord}
use Rattle.heap_model.specs.Kinds.{HasWord, HasSlots, IsPlainCell, IsSoundOf}
use Rattle.heap_model.specs.Wholeness.{HasSizes, HasSlotAt, NamesFrom, Whole}
use Rattle.heap_model.proofs.CellWords.{slice_get-drop, slice_get-append_left, slots_by_kind, words_by_kind}
use Rattle.heap_model.proofs.CellWords.{behind_head, behind_head_few}
use Rattle.heap_model.proofs.ObjectSlots.{pair_words}
use Rattle.heap_model.proofs.PathLayouts.{layout_is}
use Rattle.heap_model.proofs.SlotWords.{IsStoreKind, store_is_owned, store_word, store_target, same_target}
use Rattle.heap_model.proofs.SlotWords.{field_is_slot, in_object_not_wide, proto_word, proto_names_nothing}
use Rattle.heap_model.proofs.SlotsHold.{beside_holds}
use Rattle.heap_model.proofs.WordClasses.{same_reference, undefined_refers_not, hole_refers_not, small_refers_not}
use Rattle.live_cells.specs.Live.{HasSlotTo, HasEntry}
use Rattle.live_cells.proofs.ShownTargets.{place_not_owned}
use Rattle.live_cells.proofs.Slots.{object_slots}

-- a field for want of another
abbrev no_field : PathField
no_field = record { name = 0; rep = rep.Small }

-- no slot word refers to a store or a table
pub slot_word_to_none : {heap : Heap} {word : ℕ} {cell : Cell} {words : List ℕ} → IsSlotWord heap word
    → RefersTo heap word cell words → IsStoreKind cell.layout.kind → ⊥
slot_word_to_none {cell = cell} (IsSlotWord.small_integer v is) refers of_kind =
    small_refers_not v cell.at refers.refers
slot_word_to_none {cell = cell} IsSlotWord.undefined refers of_kind = undefined_refers_not cell.at refers.refers
slot_word_to_none {cell = cell} IsSlotWord.hole refers of_kind = hole_refers_not cell.at refers.refers
slot_word_to_none {cell = cell} (IsSlotWord.object word to) refers of_kind =
    let same : cell.at ≡ to.1.at = same_reference cell.at to.1.at (sym refers.refers ∙ to.1.refers) in
    place_not_owned to.1.place refers.has same (store_is_owned of_kind)
slot_word_to_none {cell = cell} (IsSlotWord.boxed word v box) refers of_kind =
    let is : cell.layout.kind ≡ kind.Boxed = ap (λ (one : Cell). one.layout.kind) (same_target refers box.target)
    ∙ box.box in
    elim of_kind [
      | inl store ↦ (let both : kind.Boxed ≡ kind.Store = sym is ∙ store in absurd (cc))
      | inr table ↦ (let both : kind.Boxed ≡ kind.Table = sym is ∙ table in absurd (cc))
    ]

-- Where the word of an in-object slot that is not raw stands among the slots of its object: it is that of a field, and
-- in the object itself no such field is wide.
pub record IsOwnSlot (heap : Heap) (cell : Cell) (slots : List ℕ) (word : ℕ) : Type 0 where
  pub at : ℕ
  pub below : at < (shape_path heap.paths cell.header.shape).cap
  pub among : at < length (shape_path heap.paths cell.header.shape).fields
  pub stands : HasWord slots at word
  pub tagged : (field : PathField) → slice_get (shape_path heap.paths cell.header.shape).fields at ≡ Some field
      → field.rep ≡ rep.Wide → ⊥

-- so it stands there
pub own_slot : {heap : Heap} {cell : Cell} {words slots : List ℕ} (offset word : ℕ) → HasSizes heap
    → HasCell heap cell words → IsPathShape heap.paths cell.header.shape → HasSlots heap words slots
    → Contains (in_object_offsets cell.layout) offset → HasWord words offset word → IsOwnSlot heap cell slots word
own_slot {heap} {cell} {words} {slots} offset word sized has shape in_slots there slot =
    let path : Path = shape_path heap.paths cell.header.shape in
    let laid : cell.layout ≡ layout_of path = layout_is sized has shape in
    let own = in_object_is cell.layout offset there in
    let at : ℕ = offset - plain_head in
    let used : at < length (in_object_fields path) = subst (λ (layout : LayoutWord). at < layout.used) laid own.used in
    let below : at < path.cap = omega (arith, length-take path.cap path.fields, used) in
    let here : HasWord (drop plain_head words) at word =
    slice_get-drop plain_head words at offset (omega (arith, own.behind)) ∙ slot in
    let within : at < length (drop plain_head words) = slice_get_within (drop plain_head words) at word here in
    let in_both : HasWord (drop plain_head words ++ in_slots.beside) at word =
    slice_get-append_left (drop plain_head words) in_slots.beside at within ∙ here in
    let tagged = subst (λ (layout : LayoutWord). is_raw layout at ≡ false) laid own.tagged in
    record {
      at = at;
      below = below;
      among = omega (arith, length-take path.cap path.fields, used);
      stands = subst (λ all. HasWord all at word) (sym in_slots.are) in_both;
      tagged = λ field is wide. in_object_not_wide path at field is below tagged wide;
    }

-- so an in-object slot that is not raw refers to no store and no table
in_object_to_none : {heap : Heap} {cell other : Cell} {words others : List ℕ} (offset word : ℕ) → HasSizes heap
    → HasCell heap cell words → IsPlainCell heap cell words → Contains (in_object_offsets cell.layout) offset
    → HasWord words offset word → RefersTo heap word other others → IsStoreKind other.layout.kind → ⊥
in_object_to_none {heap} {cell} offset word sized has sound there slot refers of_kind =
    let path : Path = shape_path heap.paths cell.header.shape in
    let own = own_slot offset word sized has sound.shape sound.has there slot in
    let field : PathField = get_or path.fields own.at no_field in
    let is : slice_get path.fields own.at ≡ Some field = slice_get-get_or path.fields own.at no_field own.among in
    slot_word_to_none
    (field_is_slot field.rep word (sound.hold.each own.at field word is own.stands)
    (λ in_it wide. own.tagged field is wide))
    refers of_kind

-- where a slot of an object refers to a store or a table, the slot for its store does, kind by kind
store_slot_of : {heap : Heap} {owner other : Cell} {words others : List ℕ} (k : Kind) (offset word : ℕ) → HasSizes heap
    → HasCell heap owner words → IsTrue (is_object_kind k) → IsSoundOf k heap owner words
    → Contains (tagged_offsets_of k owner.layout owner.length) offset → HasWord words offset word
    → RefersTo heap word other others → IsStoreKind other.layout.kind → HasWord words store_slot word
store_slot_of {owner = owner} {words = words} kind.Plain offset word sized has object sound there slot refers of_kind =
    elim (plain_slot_is owner.layout offset there) [
      | IsPlainSlot.store same ↦ subst (λ n. HasWord words n word) (sym same) slot
      | IsPlainSlot.proto same ↦
          let proto = subst (λ n. HasWord words n word) (sym same) slot in
          absurd (proto_names_nothing word (proto_word word sound proto) refers (store_is_owned of_kind))
      | IsPlainSlot.own own ↦
          absurd (in_object_to_none offset word sized has sound (in_object_in owner.layout offset own) slot refers
          of_kind)
    ]
store_slot_of {words = words} kind.List offset word sized has object sound there slot refers of_kind =
    subst (λ n. HasWord words n word) (sym (one_in store_slot offset there)) slot
store_slot_of {words = words} kind.Weak offset word sized has object sound there slot refers of_kind =
    subst (λ n. HasWord words n word) (sym (one_in store_slot offset there)) slot
store_slot_of _ offset word sized has object sound there slot refers of_kind = absurd (false≢true object)

-- so it is where any slot of the object refers to that
slot_to_store : {heap : Heap} {owner other : Cell} {words others : List ℕ} {slot word : ℕ} → Whole heap
    → HasCell heap owner words → IsTrue (is_object_kind owner.layout.kind) → HasSlotAt heap owner words slot word
    → RefersTo heap word other others → IsStoreKind other.layout.kind → HasWord words store_slot word
slot_to_store {owner = owner} {words = words} whole has object (HasSlotAt.own offset word there stands) refers of_kind =
    store_slot_of owner.layout.kind offset word whole.sized has object (whole.sound owner words has)
    (object_slots owner.layout.kind owner.layout owner.length offset object there) stands refers of_kind
slot_to_store whole has object (HasSlotAt.beside store beside others offset word at_store to there stands) refers
    of_kind =
    let is = store_target (store_word store whole has object at_store) to in
    absurd (slot_word_to_none
    (beside_holds beside others offset word (whole.sound beside others to.has) is there stands) refers of_kind)

-- and where the object names it
pub store_named : {heap : Heap} {owner : Cell} {slot named : ℕ} → Whole heap → (names : NamesFrom heap owner slot named)
    → IsStoreKind names.cell.layout.kind → HasWord names.words store_slot names.word
store_named whole names of_kind =
    slot_to_store whole names.has names.object names.of_owner names.refers of_kind

-- What a slot refers to that marking visits is a store or a table: it is the slot for its store of an object, kind by
-- kind.
tagged_to_store : {heap : Heap} {owner other : Cell} {words others : List ℕ} (k : Kind) (offset word : ℕ) → Whole heap
    → HasCell heap owner words → owner.layout.kind ≡ k → Contains (tagged_offsets_of k owner.layout owner.length) offset
    → HasWord words offset word → RefersTo heap word other others → IsStoreKind other.layout.kind
    → IsTrue (is_object_kind k) × HasWord words store_slot word
tagged_to_store {heap} {owner} {words = words} kind.Plain offset word whole has is there slot refers of_kind =
    let sound = subst (λ k. IsSoundOf k heap owner words) is (whole.sound owner words has) in
    (refl, store_slot_of kind.Plain offset word whole.sized has refl sound there slot refers of_kind)
tagged_to_store {heap} {owner} {words = words} kind.List offset word whole has is there slot refers of_kind =
    let sound = subst (λ k. IsSoundOf k heap owner words) is (whole.sound owner words has) in
    (refl, store_slot_of kind.List offset word whole.sized has refl sound there slot refers of_kind)
tagged_to_store {heap} {owner} {words = words} kind.Weak offset word whole has is there slot refers of_kind =
    let sound = subst (λ k. IsSoundOf k heap owner words) is (whole.sound owner words has) in
    (refl, store_slot_of kind.Weak offset word whole.sized has refl sound there slot refers of_kind)
tagged_to_store {owner = owner} {words = words} kind.Store offset word whole has is there slot refers of_kind =
    absurd (slot_word_to_none (beside_holds owner words offset word (whole.sound owner words has) (inl is)
    (slots_by_kind owner kind.Store offset is there) slot) refers of_kind)
tagged_to_store _ offset word whole has is there slot refers of_kind = absurd (omega (arith, there.1))

-- so it is of a slot that leads there
pub slot_of_store : {heap : Heap} {cell : Cell} {words : List ℕ} (from at : ℕ) → Whole heap
    → (slot : HasSlotTo heap from at) → HasCell heap cell words → cell.at ≡ at → IsStoreKind cell.layout.kind
    → IsTrue (is_object_kind slot.cell.layout.kind) × HasWord slot.words store_slot (reference_word at)
slot_of_store {cell = cell} from at whole slot has stands of_kind =
    tagged_to_store slot.cell.layout.kind slot.offset (reference_word at) whole slot.has refl slot.visited slot.holds
    (record { refers = ap reference_word (sym stands); has = has }) of_kind

-- the value of a pair is no store and no table
pub value_is_no_store : {heap : Heap} {cell : Cell} {words : List ℕ} (table key at : ℕ) → Whole heap
    → (entry : HasEntry heap table key at) → HasCell heap cell words → cell.at ≡ at → IsStoreKind cell.layout.kind → ⊥
value_is_no_store table key at whole entry has stands of_kind =
    let other : Cell = entry.cell in
    let k : ℕ = suc (2 * entry.place) in
    let there = pair_words (drop store_head entry.words) entry.place (2 * entry.place) entry.pair refl entry.among in
    let value : HasWord (drop store_head entry.words) k (reference_word at) =
    there.1 ∙ ap (λ (one : ℕ). Some one) entry.value_is in
    let few : k < 2 * other.length =
    behind_head_few entry.words k (2 * other.length) (reference_word at)
    (words_by_kind kind.Table entry.has entry.of_kind) value in
    let within = slots_by_kind other kind.Table (store_head + k) entry.of_kind
    (in_range store_head (2 * other.length) (store_head + k) (omega arith) (omega (arith, few))) in
    slot_word_to_none
    (beside_holds other entry.words (store_head + k) (reference_word at) (whole.sound other entry.words entry.has)
    (inr entry.of_kind) within (behind_head entry.words k (reference_word at) value))
    (record { refers = ap reference_word (sym stands); has = has }) of_kind
