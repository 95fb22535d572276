-- Where an object is marked in a closed set, so is each object to which it links.
use Rattle.std.proofs.Common.{◌≡◌, ℕ, ◌<◌, ◌≤◌, Bool, true, List, length, get_or, Option, Some, Contains, slice_get}
use Rattle.std.proofs.Common.{IsTrue, inl, inr, refl, sym, ◌∙◌, ap, subst, arith}
use Rattle.std.proofs.lemmas.Option.{same_Some, none-some, slice_get-get_or, slice_get_within}
use Rattle.tagged_word.specs.declared.layout.Kind.TheVariants as kind
use Rattle.tagged_word.specs.Cells.{tagged_offsets_of, scavenge_offsets, scavenge_offsets_of, store_slot, proto_slot}
use Rattle.tagged_word.specs.Cells.{is_object_kind}
use Rattle.tagged_word.proofs.Offsets.{plain_has_proto}
use Rattle.heap_model.specs.Types.{Value, Rep, Object, Field, Entry, Path, Cell}
use Rattle.object_graph.specs.declared.value.Value.TheVariants.{Ref}
use Rattle.object_graph.specs.declared.value.Rep.TheVariants as rep
use Rattle.object_graph.specs.declared.object.Object.TheVariants as graph_object
use Rattle.object_graph.specs.Graphs.{object_in}
use Rattle.object_graph.specs.Reach.{is_marked}
use Rattle.shape_tree.specs.Shapes.{shape_path}
use Rattle.graph_laws.specs.ReachLaws.{LinksTo}
use Rattle.heap_model.specs.Heaps.{Heap, HasCell}
use Rattle.heap_model.specs.Slots.{reference_word, IsPlace, RefersTo, RefersToPlace}
use Rattle.heap_model.specs.Kinds.{HasWord, Pair, HasTable, IsPlainCell, IsListCell, IsSoundOf}
use Rattle.heap_model.specs.Wholeness.{HasSlotAt, Whole}
use Rattle.heap_model.specs.Showing.{ShowsValue, ShowsField, ShowsPlain, ShowsProto, ShowsList, ShowsWeak, ShowsObject}
use Rattle.heap_model.proofs.CellWords.{slots_by_kind}
use Rattle.heap_model.proofs.ObjectSlots.{FieldSlot, field_slot, slot_beside, store_slot_in}
use Rattle.heap_model.proofs.OneBeside.{one_beside, one_slots}
use Rattle.heap_moves.proofs.MovedShown.{path_field, path_has}
use Rattle.live_cells.specs.Marked.{IsMarkClosed}
use Rattle.live_cells.proofs.Slots.{object_slots, holds_kind}

-- a place of the object is marked
pub record HasMark (heap : Heap) (marked : ℕ → Bool) (number : ℕ) : Type 0 where
  pub at : ℕ
  pub place : IsPlace heap number at
  pub is : IsTrue (marked at)

-- an element of a list stands at its place
pub element_at : {A : Type 0} (xs : List A) (x : A) (there : Contains xs x) → slice_get xs there.0 ≡ Some x
element_at xs x there = slice_get-get_or xs there.0 x there.1 ∙ ap (λ one. Some one) there.2

-- a word that shows an object refers to its place
pub value_refers : {heap : Heap} {word : ℕ} {value : Value} (number : ℕ) → ShowsValue heap word value
    → value ≡ Ref number → RefersToPlace heap word number
value_refers number (ShowsValue.small_integer v is same) refers = absurd (cc)
value_refers number (ShowsValue.boxed v wide box) refers = absurd (cc)
value_refers number (ShowsValue.undefined same) refers = absurd (cc)
value_refers {heap} {word} number (ShowsValue.object shown place) refers =
    subst (RefersToPlace heap word) (same_Some _ _ (ap object_in refers)) place

-- so does the word of a field, which is a tagged one
pub field_refers : {heap : Heap} {own : Bool} {word : ℕ} {one : Rep} {value : Value} (number : ℕ)
    → ShowsField heap own word one value → value ≡ Ref number
    → RefersToPlace heap word number × (one ≡ rep.Tagged)
field_refers number (ShowsField.small_integer v is same) refers = absurd (cc)
field_refers number (ShowsField.wide v is) refers = absurd (cc)
field_refers number (ShowsField.tagged value shows) refers = (value_refers number shows refers, refl)

module _ {heap : Heap} {marked : ℕ → Bool} (whole : Whole heap) (closed : IsMarkClosed heap marked) where
  -- what an own slot of a marked object refers to is marked
  own_marked : {cell : Cell} {words : List ℕ} (offset word at : ℕ) → HasCell heap cell words
      → IsTrue (is_object_kind cell.layout.kind) → IsTrue (marked cell.at)
      → Contains (scavenge_offsets cell.layout cell.length) offset → HasWord words offset word
      → word ≡ reference_word at → IsTrue (marked at)
  own_marked {cell} {words} offset word at has object is visited there refers =
      closed.slots cell.at at is (record {
        cell = cell;
        words = words;
        has = has;
        stands = refl;
        offset = offset;
        visited = object_slots cell.layout.kind cell.layout cell.length offset object visited;
        holds = there ∙ ap (λ n. Some n) refers;
      })

  -- the store or table of a marked object is marked
  store_marked : {cell other : Cell} {words others : List ℕ} (store : ℕ) → HasCell heap cell words
      → IsTrue (is_object_kind cell.layout.kind) → IsTrue (marked cell.at) → HasWord words store_slot store
      → RefersTo heap store other others → IsTrue (marked other.at)
  store_marked {cell} {other} store has object is slot refers =
      own_marked store_slot store other.at has object is
      (store_slot_in cell.layout.kind cell.layout cell.length object) slot refers.refers

  -- what a slot of a store that is marked refers to is marked
  stored_marked : {other : Cell} {others : List ℕ} (offset word at : ℕ) → HasCell heap other others
      → other.layout.kind ≡ kind.Store → IsTrue (marked other.at)
      → Contains (scavenge_offsets other.layout other.length) offset → HasWord others offset word
      → word ≡ reference_word at → IsTrue (marked at)
  stored_marked {other} {others} offset word at has of_kind is visited there refers =
      let in_store = subst (λ k. Contains (scavenge_offsets_of k other.layout other.length) offset) of_kind visited in
      closed.slots other.at at is (record {
        cell = other;
        words = others;
        has = has;
        stands = refl;
        offset = offset;
        visited = subst (λ k. Contains (tagged_offsets_of k other.layout other.length) offset) (sym of_kind) in_store;
        holds = there ∙ ap (λ n. Some n) refers;
      })

  -- what a slot of a marked object refers to is marked, where its store is no table
  slot_marked : {cell : Cell} {words : List ℕ} {slot word : ℕ} (at : ℕ) → HasCell heap cell words
      → IsTrue (is_object_kind cell.layout.kind) → IsTrue (marked cell.at)
      → ((store : ℕ) (other : Cell) (others : List ℕ) → HasWord words store_slot store
      → RefersTo heap store other others → other.layout.kind ≡ kind.Store)
      → HasSlotAt heap cell words slot word → word ≡ reference_word at → IsTrue (marked at)
  slot_marked at has object is store (HasSlotAt.own offset word visited there) refers =
      own_marked offset word at has object is visited there refers
  slot_marked at has object is store (HasSlotAt.beside word other others offset value slot target visited there)
      refers =
      stored_marked offset value at target.has (store word other others slot target)
      (store_marked word has object is slot target) visited there refers

  -- what a field of a plain object refers to is marked
  plain_marked : {cell : Cell} {words : List ℕ} (cap : ℕ) (fields : List Field) (number : ℕ) (field : Field)
      → HasCell heap cell words → IsTrue (marked cell.at) → ShowsPlain heap cell words cap fields
      → Contains fields field → field.value ≡ Ref number → HasMark heap marked number
  plain_marked {cell} {words} cap fields number field has is shows among refers =
      let sound : IsPlainCell heap cell words =
      subst (λ k. IsSoundOf k heap cell words) shows.of_kind (whole.sound cell words has) in
      let path : Path = shape_path heap.paths cell.header.shape in
      let at : ℕ = among.0 in
      let there : slice_get fields at ≡ Some field = element_at fields field among in
      let in_path = path_has path cap fields at field shows.path there in
      let room : length path.fields ≤ length shows.slots =
      omega (arith, sound.hold.room, ap length (one_slots sound.has shows.has)) in
      let within : at < length path.fields = slice_get_within path.fields at (path_field field) in_path in
      let word : ℕ = get_or shows.slots at 0 in
      let stands : HasWord shows.slots at word = slice_get-get_or shows.slots at 0 (omega (arith, room, within)) in
      let target = field_refers number (shows.each at field word there stands) refers in
      let store = λ (store : ℕ) (other : Cell) (others : List ℕ) (slot : HasWord words store_slot store)
      (beside : RefersTo heap store other others).
      holds_kind shows.has.stands
      (subst (λ n. RefersTo heap n other others) (same_Some _ _ (sym slot ∙ shows.has.slot)) beside) in
      record {
        at = target.0.at;
        place = target.0.place;
        is = elim (field_slot at word (path_field field) whole.sized has shows.of_kind sound.shape shows.has in_path
            stands) [
              | FieldSlot.raw own wide ↦ let same : rep.Wide ≡ rep.Tagged = sym wide ∙ target.1 in absurd (cc)
              | FieldSlot.in_slot slot ↦ slot_marked target.0.at has (ap is_object_kind shows.of_kind) is store slot.1
                  target.0.refers
            ];
      }

  -- the prototype of a plain object is marked
  proto_marked : {cell : Cell} {words : List ℕ} (proto : Option ℕ) (number : ℕ) → HasCell heap cell words
      → IsTrue (marked cell.at) → cell.layout.kind ≡ kind.Plain → ShowsProto heap words proto → proto ≡ Some number
      → HasMark heap marked number
  proto_marked {cell} {words} proto number has is of_kind shows same =
      let (word, stands, refers) = subst (ShowsProto heap words) same shows in
      let visited = slots_by_kind cell kind.Plain proto_slot of_kind (plain_has_proto cell.layout) in
      record {
        at = refers.at;
        place = refers.place;
        is = own_marked proto_slot word refers.at has (ap is_object_kind of_kind) is visited stands refers.refers;
      }

  -- what an element of a list refers to is marked
  list_marked : {cell : Cell} {words : List ℕ} (elements : List Value) (number : ℕ) → HasCell heap cell words
      → IsTrue (marked cell.at) → ShowsList heap cell words elements → Contains elements (Ref number)
      → HasMark heap marked number
  list_marked {cell} {words} elements number has is shows among =
      let sound : IsListCell heap words =
      subst (λ k. IsSoundOf k heap cell words) shows.of_kind (whole.sound cell words has) in
      let at : ℕ = among.0 in
      let count : sound.count ≡ length elements = same_Some _ _ (sym sound.counted ∙ shows.counted) in
      let store : sound.store ≡ shows.store = same_Some _ _ (sym sound.slot ∙ shows.slot) in
      let slots : sound.beside ≡ shows.slots =
      one_beside sound.store shows.store sound.beside shows.slots store sound.stands shows.has in
      let within : at < length shows.slots = omega (arith, among.1, count, sound.hold.room, ap length slots) in
      let word : ℕ = get_or shows.slots at 0 in
      let stands : HasWord shows.slots at word = slice_get-get_or shows.slots at 0 within in
      let target = value_refers number (shows.each at (Ref number) word
      (element_at elements (Ref number) among) stands) refl in
      let kinds = λ (store : ℕ) (other : Cell) (others : List ℕ) (slot : HasWord words store_slot store)
      (beside : RefersTo heap store other others).
      holds_kind shows.has
      (subst (λ n. RefersTo heap n other others) (same_Some _ _ (sym slot ∙ shows.slot)) beside) in
      record {
        at = target.at;
        place = target.place;
        is = slot_marked target.at has (ap is_object_kind shows.of_kind) is kinds
            (slot_beside shows.store at word shows.slot shows.has stands).1 target.refers;
      }

  -- where the table and the key of an entry are marked, its value is
  entry_marked : {pairs : List Pair} (store place key at : ℕ) (pair : Pair) → HasTable heap store pairs
      → ((other : Cell) (others : List ℕ) → RefersTo heap store other others → IsTrue (marked other.at))
      → IsTrue (marked key) → slice_get pairs place ≡ Some pair → pair.key ≡ reference_word key
      → pair.value ≡ reference_word at → IsTrue (marked at)
  entry_marked store place key at pair HasTable.none table is there key_is value_is = absurd (none-some pair there)
  entry_marked store place key at pair (HasTable.table word other others refers of_kind power) table is there key_is
      value_is =
      closed.entries other.at key at (table other others refers) is (record {
        cell = other;
        words = others;
        has = refers.has;
        stands = refl;
        of_kind = of_kind;
        place = place;
        pair = pair;
        among = there;
        key_is = key_is;
        value_is = value_is;
      })

  -- what the value of an entry refers to is marked, where its key is
  weak_marked : {marks : List Bool} {cell : Cell} {words : List ℕ} (entries : List Entry) (number : ℕ) (entry : Entry)
      → HasCell heap cell words → IsTrue (marked cell.at) → ShowsWeak heap marks cell words entries
      → Contains entries entry → IsTrue (is_marked marks entry.key)
      → ((at : ℕ) → IsPlace heap entry.key at → IsTrue (marked at)) → entry.value ≡ Ref number
      → HasMark heap marked number
  weak_marked entries number entry has is shows among reached key refers =
      let once = shows.each among.0 entry (element_at entries entry among) reached in
      let target = value_refers number once.shows.value refers in
      let of_key = once.shows.key in
      record {
        at = target.at;
        place = target.place;
        is = entry_marked shows.store once.at of_key.at target.at once.pair shows.table
            (λ other others beside. store_marked shows.store has (ap is_object_kind shows.of_kind) is shows.slot beside)
            (key of_key.at of_key.place) once.stands of_key.refers target.refers;
      }

  -- what a marked object links to is marked, where the keys of its entries are that are inside
  pub links_marked : {cell : Cell} {words : List ℕ} (marks : List Bool) (inside : ℕ → Bool) (what : Object)
      (number : ℕ) → HasCell heap cell words → IsTrue (marked cell.at) → ShowsObject heap marks cell words what
      → ((key : ℕ) → inside key ≡ true → IsTrue (is_marked marks key)
      × ((at : ℕ) → IsPlace heap key at → IsTrue (marked at)))
      → LinksTo inside what number → HasMark heap marked number
  links_marked marks inside (graph_object.Plain cap proto fields) number has is shows keys (inl same) =
      proto_marked proto number has is shows.0.of_kind shows.1 same
  links_marked marks inside (graph_object.Plain cap proto fields) number has is shows keys (inr link) =
      plain_marked cap fields number link.0 has is shows.0 link.1 link.2
  links_marked marks inside (graph_object.List elements) number has is shows keys link =
      list_marked elements number has is shows link
  links_marked marks inside (graph_object.Weak entries) number has is shows keys link =
      let key = keys link.0.key link.2 in
      weak_marked entries number link.0 has is shows link.1 key.0 key.1 link.3
