-- No cell that holds what its kind has is broken.
use Rattle.std.proofs.Common.{◌≡◌, ℕ, ◌+◌, ◌≤◌, List, ◌++◌, drop, length, slice_get, refl, sym, ◌∙◌, ap, subst, arith}
use Rattle.std.proofs.lemmas.Option.{same_Some}
use Rattle.tagged_word.specs.Cells.{store_slot, store_head, plain_head}
use Rattle.tagged_word.specs.declared.layout.Kind.TheVariants as kind
use Rattle.object_graph.specs.Meaning.{list_most}
use Rattle.heap_model.specs.Types.{Kind, Cell, Path}
use Rattle.shape_tree.specs.Shapes.{shape_path}
use Rattle.heap_model.specs.Heaps.{Heap}
use Rattle.heap_model.specs.Slots.{RefersTo, HoldsStore, IsSlotWord}
use Rattle.heap_model.specs.Kinds.{HasWord, Pair, pairs_in, HoldFields, HoldValues, IsPlainCell, IsListCell, IsWeakCell}
use Rattle.heap_model.specs.Kinds.{IsStoreCell, IsSoundOf, IsSoundCell, HasTable, IsPowerOfTwo}
use Rattle.heap_model.proofs.NewKeys.{one_table}
use Rattle.heap_model.proofs.OneBeside.{one_beside}
use Rattle.heap_model.proofs.SlotWords.{All-slice_get, same_target, proto_word}
use Rattle.heap_model.proofs.WordClasses.{undefined_refers_not}
use Rattle.heap_check.specs.SoundCells.{HasSoundCells}
use Rattle.heap_check.specs.PathSlots.{FitsSlot}
use Rattle.image_walk.specs.TablePairs.{filled_pairs}
use Rattle.heap_check.specs.HeldPairs.{IsHeldPair}
use Rattle.image_walk.proofs.EachSlot.{each_of_first, each_of_second}
use Rattle.heap_check.proofs.ElementSlots.{hold_values_to}
use Rattle.heap_check.proofs.FieldSlots.{hold_fields_to}
use Rattle.image_walk.proofs.PairWords.{HasTablePairs, table_is}
use Rattle.heap_check.specs.Cells.{BreaksSlots, BreaksStoreCell, BreaksStore, BreaksProto, BreaksFields, BreaksElements}
use Rattle.heap_check.specs.Cells.{BreaksCapacity, BreaksEntries, BreaksPlain, BreaksList, BreaksWeak, BreaksOf}
use Rattle.heap_check.specs.Cells.{BreaksCells}
use Rattle.heap_check.proofs.JoinedFinds.{Excludes}
use Rattle.heap_check.proofs.NumberFlaws.{number_excludes}
use Rattle.heap_check.proofs.BesideSpans.{store_excludes}
use Rattle.heap_check.proofs.PairFlaws.{pair_excludes}
use Rattle.heap_check.proofs.WeakFlaws.{no_table}

-- a store or table whose slots hold what slots may, and that has no number, is not broken
store_cell_excludes : (heap : Heap) (cell : Cell) (words : List ℕ)
    → Excludes (BreaksStoreCell heap cell words) (IsStoreCell heap cell words)
store_cell_excludes heap cell words at found wanted (BreaksStoreCell.number _ _ _ breaks) sound =
    number_excludes cell at found wanted breaks sound.no_number
store_cell_excludes heap cell words _ _ _
    (BreaksStoreCell.slot _ _ _ (BreaksSlots.slot place found is there wrong)) sound =
    wrong (All-slice_get (IsSlotWord heap) (drop store_head words) place found sound.slots there)

-- the slots of the store to which the word in slot 1 refers are those that it tells of
target_slots : {heap : Heap} {of : Kind} (words : List ℕ) (word other : ℕ) (beside others : List ℕ) (store : Cell)
    → HasWord words store_slot word → HoldsStore heap of word beside → HasWord words store_slot other
    → RefersTo heap other store others → store.layout.kind ≡ of → beside ≡ drop store_head others
target_slots words word other beside others store slot holds here refers is =
    one_beside word other beside (drop store_head others) (same_Some _ _ (sym slot ∙ here)) holds
    (HoldsStore.store other store others refers is)

-- slots that hold the fields of a path are not broken
pub fields_exclude : (heap : Heap) (cell : Cell) (words : List ℕ) (path : Path) (word : ℕ) (beside : List ℕ)
    → HasWord words store_slot word → HoldsStore heap kind.Store word beside
    → Excludes (BreaksFields heap cell words path beside) (HoldFields heap path (drop plain_head words ++ beside))
fields_exclude heap cell words path word beside slot holds _ _ _ (BreaksFields.short found here few) hold =
    omega (arith, few, hold.room)
fields_exclude heap cell words path word beside slot holds _ _ _ (BreaksFields.own place found room there wrong) hold =
    let own : List ℕ = drop plain_head words in
    let same : 0 + place ≡ place = omega arith in
    let fits = each_of_first own beside (FitsSlot heap path) (hold_fields_to heap path (own ++ beside) hold) place found
    there in
    wrong (subst (λ n. FitsSlot heap path n found) same fits)
fields_exclude heap cell words path word beside slot holds _ _ _
    (BreaksFields.in_store other place found store others room here refers is there wrong) hold =
    let own : List ℕ = drop plain_head words in
    let same = target_slots words word other beside others store slot holds here refers is in
    let each = hold_fields_to heap path (own ++ beside) hold in
    wrong (each_of_second own beside (length own) (FitsSlot heap path) refl each place found
    (ap (λ all. slice_get all place) same ∙ there))

-- nor is a plain object that is one
plain_excludes : (heap : Heap) (cell : Cell) (words : List ℕ)
    → Excludes (BreaksPlain heap cell words) (IsPlainCell heap cell words)
plain_excludes heap cell words _ _ _ (BreaksPlain.shape none_such) sound = none_such sound.shape
plain_excludes heap cell words _ _ _ (BreaksPlain.store at found wanted shape breaks) sound =
    store_excludes heap cell words kind.Store sound.has.store sound.has.beside at found wanted sound.has.slot
    sound.has.stands breaks
plain_excludes heap cell words _ _ _ (BreaksPlain.proto _ _ _ shape (BreaksProto.proto found slot wrong)) sound =
    wrong (proto_word found sound slot)
plain_excludes heap cell words _ _ _ (BreaksPlain.field word at found wanted beside shape slot holds breaks) sound =
    let path : Path = shape_path heap.paths cell.header.shape in
    let same : sound.has.beside ≡ beside =
    one_beside sound.has.store word sound.has.beside beside (same_Some _ _ (sym sound.has.slot ∙ slot)) sound.has.stands
    holds in
    let slots : sound.slots ≡ drop plain_head words ++ beside =
    sound.has.are ∙ ap (λ all. drop plain_head words ++ all) same in
    fields_exclude heap cell words path word beside slot holds at found wanted breaks
    (subst (HoldFields heap path) slots sound.hold)

-- slots that hold so many values are not broken
elements_exclude : (heap : Heap) (cell : Cell) (words : List ℕ) (word : ℕ) (beside : List ℕ) (count : ℕ)
    → HasWord words store_slot word → HoldsStore heap kind.Store word beside → count ≤ list_most
    → Excludes (BreaksElements heap cell words beside count) (HoldValues heap count beside)
elements_exclude heap cell words word beside count slot holds few _ _ _ (BreaksElements.long over) hold =
    omega (arith, over, hold.room, few)
elements_exclude heap cell words word beside count slot holds few _ _ _
    (BreaksElements.element other place found store others enough here refers is there wrong) hold =
    let same = target_slots words word other beside others store slot holds here refers is in
    wrong (hold_values_to heap count beside hold place found (ap (λ all. slice_get all place) same ∙ there))

-- nor is a list that is one
list_excludes : (heap : Heap) (cell : Cell) (words : List ℕ)
    → Excludes (BreaksList heap cell words) (IsListCell heap words)
list_excludes heap cell words _ _ _ (BreaksList.store at found wanted breaks) sound =
    store_excludes heap cell words kind.Store sound.store sound.beside at found wanted sound.slot sound.stands breaks
list_excludes heap cell words _ _ _ (BreaksList.element word count at found wanted beside slot holds counted breaks)
    sound =
    let same : sound.beside ≡ beside =
    one_beside sound.store word sound.beside beside (same_Some _ _ (sym sound.slot ∙ slot)) sound.stands holds in
    let same_count : sound.count ≡ count = same_Some _ _ (sym sound.counted ∙ counted) in
    elements_exclude heap cell words word beside count slot holds (omega (arith, sound.few, same_count)) at found wanted
    breaks
    (subst (λ n. HoldValues heap n beside) same_count (subst (HoldValues heap sound.count) same sound.hold))

-- a table of which a weak map's word tells has a power of two pairs
table_power : {heap : Heap} {pairs : List Pair} (word : ℕ) (cell : Cell) (words : List ℕ) → HasTable heap word pairs
    → RefersTo heap word cell words → IsPowerOfTwo cell.length
table_power {heap} word cell words has refers = elim (table_is has) [
  | HasTablePairs.no_table undefined are ↦ absurd (undefined_refers_not cell.at (sym undefined ∙ refers.refers))
  | HasTablePairs.to_table other to is power are ↦
      subst (λ (c : Cell). IsPowerOfTwo c.length) (same_target to refers) power
]

-- the pairs of a weak map are those of the table of which its word tells
one_pairs : {heap : Heap} {words : List ℕ} (sound : IsWeakCell heap words) (word : ℕ) (pairs : List Pair)
    → HasWord words store_slot word → HasTable heap word pairs → sound.pairs ≡ pairs
one_pairs {heap} sound word pairs slot has =
    one_table heap word sound.pairs pairs
    (subst (λ w. HasTable heap w sound.pairs) (same_Some _ _ (sym sound.slot ∙ slot)) sound.table) has

-- a weak map that is one is not broken
weak_excludes : (heap : Heap) (cell : Cell) (words : List ℕ)
    → Excludes (BreaksWeak heap cell words) (IsWeakCell heap words)
weak_excludes heap cell words _ _ _ (BreaksWeak.table _ _ _ (BreaksStore.store found slot lacks)) sound =
    no_table lacks
    (subst (λ w. HasTable heap w sound.pairs) (same_Some _ _ (sym sound.slot ∙ slot)) sound.table)
weak_excludes heap cell words _ _ _
    (BreaksWeak.capacity _ _ _ (BreaksCapacity.capacity word wanted table others slot refers is odd next)) sound =
    odd (table_power word table others
    (subst (λ w. HasTable heap w sound.pairs) (same_Some _ _ (sym sound.slot ∙ slot)) sound.table) refers)
weak_excludes heap cell words _ _ _
    (BreaksWeak.entry _ _ _
    (BreaksEntries.pair word place at found wanted table others pair slot refers is power there breaks)) sound =
    let pairs : List Pair = pairs_in (drop store_head others) in
    let same = one_pairs sound word pairs slot (HasTable.table word table others refers is power) in
    pair_excludes heap (table.at + store_head) pairs place pair at found wanted breaks
    (subst (λ all. IsHeldPair heap all place pair) same
    (sound.each place pair (ap (λ all. slice_get all place) same ∙ there)))
weak_excludes heap cell words _ _ _
    (BreaksWeak.entry _ _ _ (BreaksEntries.count word found pairs slot has counted wrong)) sound =
    let same = one_pairs sound word pairs slot has in
    wrong (same_Some _ _ (sym counted ∙ sound.counted) ∙ ap filled_pairs same)

-- what breaks a cell of a kind excludes what its kind has
kind_excludes : (of : Kind) (heap : Heap) (cell : Cell) (words : List ℕ)
    → Excludes (BreaksOf of heap cell words) (IsSoundOf of heap cell words)
kind_excludes kind.Plain heap cell words at found wanted breaks sound =
    plain_excludes heap cell words at found wanted breaks sound
kind_excludes kind.List heap cell words at found wanted breaks sound =
    list_excludes heap cell words at found wanted breaks sound
kind_excludes kind.Weak heap cell words at found wanted breaks sound =
    weak_excludes heap cell words at found wanted breaks sound
kind_excludes kind.Store heap cell words at found wanted breaks sound =
    store_cell_excludes heap cell words at found wanted breaks sound
kind_excludes kind.Table heap cell words at found wanted breaks sound =
    store_cell_excludes heap cell words at found wanted breaks sound
kind_excludes kind.Boxed heap cell words at found wanted breaks sound =
    number_excludes cell at found wanted breaks sound.no_number
kind_excludes kind.Filler heap cell words at found wanted breaks sound =
    number_excludes cell at found wanted breaks sound
kind_excludes kind.Gap heap cell words at found wanted breaks sound =
    number_excludes cell at found wanted breaks sound

-- no cell that holds what its kind has is broken
pub cell_excludes : (heap : Heap) (cell : Cell) (words : List ℕ)
    → Excludes (BreaksOf cell.layout.kind heap cell words) (IsSoundCell heap cell words)
cell_excludes heap cell words = kind_excludes cell.layout.kind heap cell words

-- nor is any cell of a heap whose cells all hold it
pub cells_exclude : (heap : Heap) → Excludes (BreaksCells heap) (HasSoundCells heap)
cells_exclude heap _ _ _ (BreaksCells.cell one words at found wanted has breaks) sound =
    cell_excludes heap one words at found wanted breaks (sound one words has)
