-- No two slots of a moved heap name one store, table or box.
use Rattle.std.proofs.Common.{◌≡◌, ℕ, ◌+◌, ◌<◌, List, Option, Some, Contains, IsTrue, refl, sym, ◌∙◌, ap, subst, arith}
use Rattle.std.proofs.lemmas.Option.{same_Some}
use Rattle.tagged_word.specs.Cells.{scavenge_offsets, store_slot, is_object_kind}
use Rattle.heap_model.specs.Types.{Cell}
use Rattle.cell_layout.proofs.OneCell.{slots_lie_within}
use Rattle.heap_model.specs.Heaps.{Heap, HasCell}
use Rattle.heap_model.specs.Slots.{reference_word, RefersTo, IsSlotWord}
use Rattle.heap_model.specs.Kinds.{HasWord}
use Rattle.heap_model.specs.Wholeness.{IsOwnedKind, HasSlotAt, NamesFrom, IsOwned}
use Rattle.heap_model.proofs.WordClasses.{same_reference, undefined_refers_not, hole_refers_not, small_refers_not}
use Rattle.heap_model.proofs.CellsApart.{IsOfCell, has_is_cell, cells_apart}
use Rattle.heap_model.proofs.ObjectSlots.{store_slot_in}
use Rattle.heap_model.proofs.SlotWords.{IsStoreKind, IsStoreWord, store_word_of}
use Rattle.heap_model.proofs.SlotsHold.{Holding, own_slot_holds, beside_holds}
use Rattle.heap_model.proofs.StaysCollectable.{object_not_free}
use Rattle.heap_moves.specs.Moved.{IsMovedWord, AreMoved, IsMoved}
use Rattle.heap_moves.specs.Standing.{Stays, WholeFor}
use Rattle.heap_moves.proofs.MovedWords.{was_referred}
use Rattle.heap_moves.proofs.MovedCells.{IsCame, Origin, came, origin}
use Rattle.heap_moves.proofs.MovedSlots.{other_word}

-- a cell of the heap stands at the address
record IsCellAt (heap : Heap) (at : ℕ) : Type 0 where
  cell : Cell
  words : List ℕ
  has : HasCell heap cell words
  stands : cell.at ≡ at

-- a slot word refers to nothing but cells
slot_refers : {heap : Heap} (word at : ℕ) → IsSlotWord heap word → word ≡ reference_word at → IsCellAt heap at
slot_refers word at (IsSlotWord.small_integer v is) same = absurd (small_refers_not v at same)
slot_refers word at IsSlotWord.undefined same = absurd (undefined_refers_not at same)
slot_refers word at IsSlotWord.hole same = absurd (hole_refers_not at same)
slot_refers word at (IsSlotWord.object to refers) same =
    let place = refers.1.place in
    record {
      cell = place.cell;
      words = place.words;
      has = place.has;
      stands = place.stands ∙ same_reference refers.1.at at (sym refers.1.refers ∙ same);
    }
slot_refers word at (IsSlotWord.boxed to v box) same = record {
  cell = box.cell;
  words = box.words;
  has = box.target.has;
  stands = same_reference box.cell.at at (sym box.target.refers ∙ same);
}

-- nor does the word of a store or table
store_refers : {heap : Heap} (word at : ℕ) → IsStoreWord heap word → word ≡ reference_word at → IsCellAt heap at
store_refers word at (IsStoreWord.none is) same = absurd (undefined_refers_not at (sym is ∙ same))
store_refers word at (IsStoreWord.store cell words refers is) same = record {
  cell = cell;
  words = words;
  has = refers.has;
  stands = same_reference cell.at at (sym refers.refers ∙ same);
}

-- nor does what a slot of an object holds
holding_refers : {heap : Heap} (word at : ℕ) → Holding heap word → word ≡ reference_word at → IsCellAt heap at
holding_refers word at (Holding.to_store is) same = store_refers word at is same
holding_refers word at (Holding.as_slot is) same = slot_refers word at is same

-- A slot of the old heap and where it stands: at an offset of a cell that stays.
record IsSlotMoved (old : Heap) (to : ℕ → Option ℕ) (slot now : ℕ) : Type 0 where
  cell : Cell
  words : List ℕ
  has : HasCell old cell words
  offset : ℕ
  within : offset < cell.size
  comes : ℕ
  stays : to cell.at ≡ Some comes
  stood : slot ≡ cell.at + offset
  stands : now ≡ comes + offset

-- a slot at an offset of a cell that stays
slot_at : {old : Heap} {to : ℕ → Option ℕ} (cell : Cell) (words : List ℕ) (offset comes : ℕ) → HasCell old cell words
    → Contains (scavenge_offsets cell.layout cell.length) offset → to cell.at ≡ Some comes
    → IsSlotMoved old to (cell.at + offset) (comes + offset)
slot_at {old} cell words offset comes has there stays = record {
  cell = cell;
  words = words;
  has = has;
  offset = offset;
  within = (slots_lie_within old.space old.words cell offset (has_is_cell has) there).within;
  comes = comes;
  stays = stays;
  stood = refl;
  stands = refl;
}

-- what an object of the new heap names its cell named in the old one
record NamedBefore (old : Heap) (to : ℕ → Option ℕ) (slot named : ℕ) : Type 0 where
  owner : Cell
  stays : Stays to owner.at
  before : ℕ
  place : IsSlotMoved old to before slot
  cell : Cell
  words : List ℕ
  has : HasCell old cell words
  comes : to cell.at ≡ Some named
  names : NamesFrom old owner before cell.at

module _ {old new : Heap} {to : ℕ → Option ℕ} (moved : IsMoved old new to) (whole : WholeFor old (Stays to)) where
  -- a slot of the old heap whose word refers to such a cell once it is moved named the cell that this is from
  named_before : {owner cell : Cell} {words others : List ℕ} {slot now word next : ℕ} → HasCell old owner words
      → IsTrue (is_object_kind owner.layout.kind) → Stays to owner.at → HasSlotAt old owner words slot word
      → Holding old word → IsMovedWord to word next → RefersTo new next cell others → IsOwnedKind cell.layout.kind
      → IsSlotMoved old to slot now → NamedBefore old to now cell.at
  named_before {owner} {cell} {words} {slot = slot} {now} {word} has object stays at holds is refers owned place =
      let was = was_referred cell.at is refers.refers in
      let there = holding_refers word was.at holds was.refers in
      let comes : to there.cell.at ≡ Some cell.at = ap to there.stands ∙ was.stays in
      let from = came moved refers.has there.has comes in
      let is_owned : IsOwnedKind there.cell.layout.kind =
      subst (λ (one : Cell). IsOwnedKind one.layout.kind) (sym from.same) owned in
      let names : NamesFrom old owner slot there.cell.at = record {
        words = words;
        has = has;
        object = object;
        word = word;
        of_owner = at;
        cell = there.cell;
        others = there.words;
        refers = record { refers = was.refers ∙ ap reference_word (sym there.stands); has = there.has };
        owned = is_owned;
        at = refl;
      } in
      record {
        owner = owner;
        stays = stays;
        before = slot;
        place = place;
        cell = there.cell;
        words = there.words;
        has = there.has;
        comes = comes;
        names = names;
      }

  -- a slot in an object's own cell
  own_named : {owner cell : Cell} {words others in_cell : List ℕ} {comes offset next : ℕ} → HasCell old owner words
      → IsTrue (is_object_kind owner.layout.kind) → to owner.at ≡ Some comes → AreMoved to owner words others
      → Contains (scavenge_offsets owner.layout owner.length) offset → HasWord others offset next
      → RefersTo new next cell in_cell → IsOwnedKind cell.layout.kind → NamedBefore old to (comes + offset) cell.at
  own_named {owner} {words = words} {others} {comes = comes} {offset} {next} has object stays are there stands refers
      owned =
      let was = other_word words others offset next are.long stands in
      let sound = whole.sound owner words has (comes, stays) in
      let holds = own_slot_holds owner.layout.kind offset was.0 whole.sized has object sound there was.1 in
      named_before has object (comes, stays) (HasSlotAt.own offset was.0 there was.1) holds
      (are.slots offset was.0 next there was.1 stands) refers owned (slot_at owner words offset comes has there stays)

  -- the store of an object in the old heap, where one stands in the new heap
  record StoreBefore (words : List ℕ) (store : Cell) (in_store : List ℕ) : Type 0 where
    word : ℕ
    slot : HasWord words store_slot word
    was : Cell
    before : List ℕ
    refers : RefersTo old word was before
    is : IsStoreKind was.layout.kind
    stays : to was.at ≡ Some store.at
    from : IsCame to was before store in_store

  -- a reference to a store is from one to a store
  store_from : {words : List ℕ} {store : Cell} {in_store : List ℕ} (word next : ℕ) → HasWord words store_slot word
      → IsStoreWord old word → IsMovedWord to word next → RefersTo new next store in_store
      → StoreBefore words store in_store
  store_from {store = store} word next slot (IsStoreWord.none is) is_moved refers =
      let was = was_referred store.at is_moved refers.refers in
      absurd (undefined_refers_not was.at (sym is ∙ was.refers))
  store_from {store = store} word next slot (IsStoreWord.store cell words target is) is_moved refers =
      let was = was_referred store.at is_moved refers.refers in
      let at : cell.at ≡ was.at = same_reference cell.at was.at (sym target.refers ∙ was.refers) in
      let stays : to cell.at ≡ Some store.at = ap to at ∙ was.stays in
      record {
        word = word;
        slot = slot;
        was = cell;
        before = words;
        refers = target;
        is = is;
        stays = stays;
        from = came moved refers.has target.has stays;
      }

  -- so the store of an object was its store
  store_before : {owner store : Cell} {words others in_store : List ℕ} {comes next : ℕ} → HasCell old owner words
      → IsTrue (is_object_kind owner.layout.kind) → to owner.at ≡ Some comes → AreMoved to owner words others
      → HasWord others store_slot next → RefersTo new next store in_store → StoreBefore words store in_store
  store_before {owner} {words = words} {others} {comes = comes} {next} has object stays are slot refers =
      let visited = store_slot_in owner.layout.kind owner.layout owner.length object in
      let was = other_word words others store_slot next are.long slot in
      let sound = whole.sound owner words has (comes, stays) in
      store_from was.0 next was.1 (store_word_of old owner words owner.layout.kind was.0 object sound was.1)
      (are.slots store_slot was.0 next visited was.1 slot) refers

  -- a slot beside an object
  beside_named : {owner store cell : Cell} {words in_store in_cell : List ℕ} {offset next : ℕ} → HasCell old owner words
      → IsTrue (is_object_kind owner.layout.kind) → Stays to owner.at → StoreBefore words store in_store
      → Contains (scavenge_offsets store.layout store.length) offset → HasWord in_store offset next
      → RefersTo new next cell in_cell → IsOwnedKind cell.layout.kind → NamedBefore old to (store.at + offset) cell.at
  beside_named {owner} {store} {words = words} {in_store} {offset = offset} {next} has object stays before there stands
      refers owned =
      let from = before.from in
      let was : Cell = before.was in
      let had : HasCell old was before.before = before.refers.has in
      let visited : Contains (scavenge_offsets was.layout was.length) offset =
      subst (λ (one : Cell). Contains (scavenge_offsets one.layout one.length) offset) (sym from.same) there in
      let word = other_word before.before in_store offset next from.are.long stands in
      let sound = whole.sound was before.before had (store.at, before.stays) in
      let holds = Holding.as_slot (beside_holds was before.before offset word.0 sound before.is visited word.1) in
      named_before has object stays
      (HasSlotAt.beside before.word was before.before offset word.0 before.slot before.refers visited word.1) holds
      (from.are.slots offset word.0 next visited word.1 stands) refers owned
      (slot_at was before.before offset store.at had visited before.stays)

  -- what a slot of an object of the new heap names, kind of slot by kind of slot
  slot_named : {owner cell : Cell} {others in_cell : List ℕ} {slot next : ℕ} (from : Origin old to owner others)
      → IsTrue (is_object_kind from.was.layout.kind) → HasSlotAt new owner others slot next
      → RefersTo new next cell in_cell → IsOwnedKind cell.layout.kind → NamedBefore old to slot cell.at
  slot_named from object (HasSlotAt.own offset next there stands) refers owned =
      own_named from.had object from.stays from.are
      (subst (λ (one : Cell). Contains (scavenge_offsets one.layout one.length) offset) (sym from.same) there) stands
      refers owned
  slot_named {owner} from object (HasSlotAt.beside word store in_store offset next slot target there stands) refers
      owned =
      beside_named from.had object (owner.at, from.stays)
      (store_before from.had object from.stays from.are slot target) there stands refers owned

  -- what an object names
  names_before : {owner : Cell} {slot named : ℕ} → NamesFrom new owner slot named → NamedBefore old to slot named
  names_before {owner} {slot} names =
      let from = origin moved names.has (object_not_free owner.layout.kind names.object) in
      let object = subst (λ (one : Cell). IsTrue (is_object_kind one.layout.kind)) (sym from.same) names.object in
      subst (NamedBefore old to slot) names.at (slot_named from object names.of_owner names.refers names.owned)

  -- slots that were one are one
  one_slot : {slot other now then : ℕ} → IsSlotMoved old to slot now → IsSlotMoved old to other then → slot ≡ other
      → now ≡ then
  one_slot {slot} one other same =
      let of_one : IsOfCell one.cell slot =
      record { from = omega (arith, one.stood); below = omega (arith, one.stood, one.within) } in
      let of_other : IsOfCell other.cell slot =
      record { from = omega (arith, same, other.stood); below = omega (arith, same, other.stood, other.within) } in
      let cells : one.cell ≡ other.cell = cells_apart slot whole.rows one.has other.has of_one of_other in
      let at : one.cell.at ≡ other.cell.at = ap (λ (cell : Cell). cell.at) cells in
      let comes : one.comes ≡ other.comes = same_Some _ _ (sym one.stays ∙ ap to at ∙ other.stays) in
      omega (arith, same, one.stood, other.stood, at, comes, one.stands, other.stands)

  -- no two slots name one cell
  pub owned_moved : IsOwned new
  owned_moved owner another slot other named names names_too =
      let one = names_before names in
      let two = names_before names_too in
      let at : one.cell.at ≡ two.cell.at =
      moved.apart one.cell two.cell one.words two.words named one.has two.has one.comes two.comes in
      let same : one.before ≡ two.before =
      whole.owned one.owner two.owner one.before two.before two.cell.at one.stays two.stays
      (subst (NamesFrom old one.owner one.before) at one.names) two.names in
      one_slot one.place two.place same
