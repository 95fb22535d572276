-- What a slot refers to that marking visits belongs to an object that can be reached, where its cell does.
use Rattle.std.proofs.Common.{◌≡◌, ℕ, ◌-◌, List, drop, Some, Contains, slice_get, IsTrue, refl}
use Rattle.std.proofs.Common.{sym, ◌∙◌, ap, subst, arith}
use Rattle.std.proofs.lemmas.Option.{same_Some}
use Rattle.tagged_word.specs.declared.layout.Kind.TheVariants as kind
use Rattle.tagged_word.specs.Cells.{tagged_offsets, tagged_offsets_of, store_head, store_slot}
use Rattle.tagged_word.specs.Cells.{is_object_kind}
use Rattle.tagged_word.proofs.Members.{one_in, range_bounds}
use Rattle.tagged_word.proofs.Offsets.{IsPlainSlot, plain_slot_is, in_object_in}
use Rattle.heap_model.specs.Types.{Kind, Object, Cell}
use Rattle.object_graph.specs.declared.object.Object.TheVariants as graph_object
use Rattle.object_graph.specs.Graphs.{Graph}
use Rattle.object_graph.specs.Reach.{is_marked, reach}
use Rattle.graph_laws.proofs.Reaches.{reach_closed}
use Rattle.heap_model.specs.Heaps.{Heap, HasCell}
use Rattle.heap_model.specs.Slots.{reference_word, IsPlace, RefersTo, HoldsStore}
use Rattle.heap_model.specs.Kinds.{HasWord}
use Rattle.heap_model.specs.Wholeness.{HasSlotAt, IsOwnedKind, NamesFrom}
use Rattle.heap_model.specs.Showing.{ShowsObject, ShowsReached, Shows}
use Rattle.heap_model.proofs.CellsApart.{one_at, one_words}
use Rattle.heap_model.proofs.CellWords.{slice_get-drop}
use Rattle.heap_model.proofs.ObjectSlots.{slot_beside}
use Rattle.heap_model.proofs.SlotWords.{IsStoreKind, IsStoreWord, store_word, store_is_owned}
use Rattle.heap_model.proofs.WordClasses.{same_reference, undefined_refers_not}
use Rattle.live_cells.specs.Live.{HasSlotTo}
use Rattle.live_cells.proofs.Slots.{marking_slots, table_kind}
use Rattle.live_cells.proofs.ReachedMarked.{shown}
use Rattle.live_cells.proofs.ShownTargets.{IsBoxAt}
use Rattle.live_cells.proofs.ObjectTargets.{LinkTarget, in_object_target, proto_target, stored_target, element_target}

-- an object that can be reached, by its cell
pub record IsReachedCell (heap : Heap) (graph : Graph) (cell : Cell) (words : List ℕ) : Type 0 where
  pub has : HasCell heap cell words
  pub what : Object
  pub stands : slice_get graph.objects cell.header.object ≡ Some what
  pub reached : IsTrue (is_marked (reach graph) cell.header.object)
  pub object : IsTrue (is_object_kind cell.layout.kind)
  pub shows : ShowsObject heap (reach graph) cell words what

-- What stands at a live address: an object that can be reached, its store or table, or a box that it names.
pub data Belongs (heap : Heap) (graph : Graph) (at : ℕ) : Type 0 where
  itself : (cell : Cell) (words : List ℕ) → IsReachedCell heap graph cell words → cell.at ≡ at → Belongs heap graph at
  its_store : (cell : Cell) (words : List ℕ) (word : ℕ) (other : Cell) (others : List ℕ)
      → IsReachedCell heap graph cell words → HasWord words store_slot word → RefersTo heap word other others
      → IsStoreKind other.layout.kind → other.at ≡ at → Belongs heap graph at
  in_box : (cell : Cell) (words : List ℕ) (slot : ℕ) → IsReachedCell heap graph cell words
      → NamesFrom heap cell slot at → IsBoxAt heap at → Belongs heap graph at

-- a cell of a kind is no cell of another kind at the address
pub kinds_differ : {heap : Heap} {cell other : Cell} {words others : List ℕ} (one : Kind) → HasCell heap cell words
    → HasCell heap other others → cell.at ≡ other.at → other.layout.kind ≡ one → cell.layout.kind ≡ one
kinds_differ one has has_other same is =
    ap (λ (cell : Cell). cell.layout.kind) (one_at has has_other same) ∙ is

-- of a store, a table and a box marking visits slots of a store alone
pub store_slots : (k : Kind) (cell : Cell) (offset : ℕ) → IsOwnedKind k
    → Contains (tagged_offsets_of k cell.layout cell.length) offset → k ≡ kind.Store
store_slots kind.Store cell offset owned there = refl
store_slots kind.Table cell offset owned there = absurd (omega (arith, there.1))
store_slots kind.Boxed cell offset owned there = absurd (omega (arith, there.1))
store_slots _ cell offset owned there = absurd owned

module _ {heap : Heap} {graph : Graph} (shows : Shows heap graph) where
  -- an object that can be reached is shown by its cell
  pub reached_cell : (number at : ℕ) → IsPlace heap number at → IsTrue (is_marked (reach graph) number)
      → (cell : Cell) × (words : List ℕ) × IsReachedCell heap graph cell words × (cell.at ≡ at)
  reached_cell number at place reached =
      let is = shown number shows reached in
      let one : ShowsReached heap (reach graph) number is.0 = is.2 in (
        one.cell,
        one.words,
        record {
          has = one.has;
          what = is.0;
          stands = ap (λ n. slice_get graph.objects n) one.carries ∙ is.1;
          reached = ap (λ n. is_marked (reach graph) n) one.carries ∙ reached;
          object = subst (λ (cell : Cell). IsTrue (is_object_kind cell.layout.kind))
              (one_at place.has one.has (place.stands ∙ one.once at place)) place.object;
          shows = one.shows;
        },
        sym (one.once at place),
      )

  -- what an object that can be reached links to, or a box to which a slot of it refers, belongs
  pub link_belongs : {cell : Cell} {words : List ℕ} {slot word : ℕ} (what : Object) (at : ℕ)
      → (is : IsReachedCell heap graph cell words) → slice_get graph.objects cell.header.object ≡ Some what
      → HasSlotAt heap cell words slot word → word ≡ reference_word at
      → LinkTarget heap (is_marked (reach graph)) what at → Belongs heap graph at
  link_belongs {cell} what at is there of_cell refers (LinkTarget.to_object number link place) =
      let reached = reach_closed graph cell.header.object what number there is.reached
      (shows.made number at place) link in
      let one = reached_cell number at place reached in
      Belongs.itself one.0 one.1 one.2 one.3
  link_belongs {cell} {words} {slot} {word} what at is there of_cell refers (LinkTarget.to_box box) =
      Belongs.in_box cell words slot is (record {
        words = words;
        has = is.has;
        object = is.object;
        word = word;
        of_owner = of_cell;
        cell = box.cell;
        others = box.words;
        refers = record { refers = refers ∙ ap reference_word (sym box.stands); has = box.has };
        owned = subst IsOwnedKind (sym box.box) tt;
        at = box.stands;
      }) box

  -- the store or table of an object that can be reached belongs
  store_belongs : {cell : Cell} {words : List ℕ} (word at : ℕ) → IsReachedCell heap graph cell words
      → HasWord words store_slot word → word ≡ reference_word at → IsStoreWord heap word → Belongs heap graph at
  store_belongs word at is slot refers (IsStoreWord.none undefined) =
      absurd (undefined_refers_not at (sym undefined ∙ refers))
  store_belongs {cell} {words} word at is slot refers (IsStoreWord.store other others target of_kind) =
      Belongs.its_store cell words word other others is slot target of_kind
      (same_reference other.at at (sym target.refers ∙ refers))

  -- what a slot of an object that can be reached refers to belongs, kind by kind
  own_belongs : {cell : Cell} {words : List ℕ} (what : Object) (offset word at : ℕ)
      → IsReachedCell heap graph cell words → slice_get graph.objects cell.header.object ≡ Some what
      → ShowsObject heap (reach graph) cell words what
      → Contains (tagged_offsets cell.layout cell.length) offset → HasWord words offset word
      → word ≡ reference_word at → Belongs heap graph at
  own_belongs {cell} {words} (graph_object.Plain cap proto fields) offset word at is there shown_by visited slot
      refers =
      let of_plain = subst (λ k. Contains (tagged_offsets_of k cell.layout cell.length) offset) shown_by.0.of_kind
      visited in
      elim (plain_slot_is cell.layout offset of_plain) [
        | IsPlainSlot.store same ↦
            let store = subst (λ n. HasWord words n word) (sym same) slot in
            store_belongs word at is store refers (store_word word shows.whole is.has is.object store)
        | IsPlainSlot.proto same ↦
            let held = subst (λ n. HasWord words n word) (sym same) slot in
            link_belongs (graph_object.Plain cap proto fields) at is there
            (HasSlotAt.own offset word (marking_slots cell.layout.kind cell.layout cell.length offset visited) slot)
            refers
            (proto_target shows.whole (is_marked (reach graph)) words cap proto fields at shown_by.1 held refers)
        | IsPlainSlot.own own ↦ link_belongs (graph_object.Plain cap proto fields) at is there
            (HasSlotAt.own offset word (marking_slots cell.layout.kind cell.layout cell.length offset visited) slot)
            refers
            (in_object_target shows.whole (is_marked (reach graph)) cap proto fields offset word at is.has
            shown_by.0 (in_object_in cell.layout offset own) slot refers)
      ]
  own_belongs {cell} {words} (graph_object.List elements) offset word at is there shown_by visited slot refers =
      let of_list = subst (λ k. Contains (tagged_offsets_of k cell.layout cell.length) offset) shown_by.of_kind
      visited in
      let store = subst (λ n. HasWord words n word) (sym (one_in store_slot offset of_list)) slot in
      store_belongs word at is store refers (store_word word shows.whole is.has is.object store)
  own_belongs {cell} {words} (graph_object.Weak entries) offset word at is there shown_by visited slot refers =
      let of_weak = subst (λ k. Contains (tagged_offsets_of k cell.layout cell.length) offset) shown_by.of_kind
      visited in
      let store = subst (λ n. HasWord words n word) (sym (one_in store_slot offset of_weak)) slot in
      store_belongs word at is store refers (store_word word shows.whole is.has is.object store)

  -- what a slot of the store of an object that can be reached refers to belongs, kind by kind
  stored_belongs : {cell other : Cell} {words others : List ℕ} (what : Object) (store k word at : ℕ)
      → IsReachedCell heap graph cell words → slice_get graph.objects cell.header.object ≡ Some what
      → ShowsObject heap (reach graph) cell words what → HasWord words store_slot store
      → RefersTo heap store other others → other.layout.kind ≡ kind.Store
      → HasWord (drop store_head others) k word → word ≡ reference_word at → Belongs heap graph at
  stored_belongs {other = other} {others = others} (graph_object.Plain cap proto fields) store k word at is there
      shown_by slot target of_kind stands refers =
      let holds = HoldsStore.store store other others target of_kind in
      link_belongs (graph_object.Plain cap proto fields) at is there (slot_beside store k word slot holds stands).1
      refers (stored_target shows.whole (is_marked (reach graph)) cap proto fields store k word at is.has shown_by.0
      slot holds stands refers)
  stored_belongs {other = other} {others = others} (graph_object.List elements) store k word at is there
      shown_by slot target of_kind stands refers =
      let holds = HoldsStore.store store other others target of_kind in
      link_belongs (graph_object.List elements) at is there (slot_beside store k word slot holds stands).1 refers
      (element_target shows.whole (is_marked (reach graph)) elements store k word at is.has shown_by slot holds stands
      refers)
  stored_belongs {other = other} {others = others} (graph_object.Weak entries) store k word at is there
      shown_by slot target of_kind stands refers =
      let same = same_Some _ _ (sym slot ∙ shown_by.slot) in
      let table = table_kind shown_by.table (subst (λ n. RefersTo heap n other others) same target) in
      let both : kind.Table ≡ kind.Store = sym table ∙ of_kind in
      absurd (cc)

  -- what a slot refers to that marking visits belongs, where its cell does
  pub slot_belongs : (from at : ℕ) → Belongs heap graph from → HasSlotTo heap from at → Belongs heap graph at
  slot_belongs from at (Belongs.itself cell words is stands) slot =
      let same : slot.cell ≡ cell = one_at slot.has is.has (slot.stands ∙ sym stands) in
      let has = subst (λ (one : Cell). HasCell heap one slot.words) same slot.has in
      let words_are = one_words has is.has in
      own_belongs is.what slot.offset (reference_word at) at is is.stands is.shows
      (subst (λ (one : Cell). Contains (tagged_offsets one.layout one.length) slot.offset) same slot.visited)
      (subst (λ all. HasWord all slot.offset (reference_word at)) words_are slot.holds) refl
  slot_belongs from at (Belongs.its_store cell words store other others is at_slot target is_store stands) slot =
      let same : slot.cell ≡ other = one_at slot.has target.has (slot.stands ∙ sym stands) in
      let has = subst (λ (one : Cell). HasCell heap one slot.words) same slot.has in
      let words_are = one_words has target.has in
      let visited = subst (λ (one : Cell). Contains (tagged_offsets one.layout one.length) slot.offset) same
      slot.visited in
      let of_kind = store_slots other.layout.kind other slot.offset (store_is_owned is_store) visited in
      let in_range = subst (λ k. Contains (tagged_offsets_of k other.layout other.length) slot.offset) of_kind
      visited in
      let behind = (range_bounds store_head other.length slot.offset in_range).0 in
      let k : ℕ = slot.offset - store_head in
      let there = subst (λ all. HasWord all slot.offset (reference_word at)) words_are slot.holds in
      let stands : HasWord (drop store_head others) k (reference_word at) =
      slice_get-drop store_head others k slot.offset (omega (arith, behind)) ∙ there in
      stored_belongs is.what store k (reference_word at) at is is.stands is.shows at_slot target of_kind
      stands refl
  slot_belongs from at (Belongs.in_box cell words named is names box) slot =
      let same : slot.cell ≡ box.cell = one_at slot.has box.has (slot.stands ∙ sym box.stands) in
      let is_box : slot.cell.layout.kind ≡ kind.Boxed = ap (λ (one : Cell). one.layout.kind) same ∙ box.box in
      let visited = subst (λ k. Contains (tagged_offsets_of k slot.cell.layout slot.cell.length) slot.offset) is_box
      slot.visited in
      absurd (omega (arith, visited.1))
