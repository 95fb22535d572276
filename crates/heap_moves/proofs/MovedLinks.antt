-- To what an object links that stays, that stays: a slot that is moved refers to it.
use Rattle.std.proofs.Common.{◌≡◌, ℕ, ◌<◌, ◌≤◌, Bool, List, [], length, get_or, Option, Some, Contains, slice_get}
use Rattle.std.proofs.Common.{IsTrue, nat_lt, inl, inr}
use Rattle.std.proofs.Common.{refl, sym, ◌∙◌, ap, subst, arith}
use Rattle.std.proofs.lemmas.Option.{same_Some, slice_get-get_or, slice_get_within}
use Rattle.tagged_word.specs.declared.layout.Kind.TheVariants as kind
use Rattle.tagged_word.specs.Cells.{store_slot}
use Rattle.tagged_word.proofs.Members.{first_in}
use Rattle.heap_model.specs.Types.{Value, Rep, Object, Field, Entry, Path, Cell}
use Rattle.object_graph.specs.declared.value.Value.TheVariants.{Ref}
use Rattle.object_graph.specs.declared.object.Object.TheVariants as graph_object
use Rattle.object_graph.specs.Graphs.{object_in}
use Rattle.object_graph.specs.Reach.{is_marked}
use Rattle.shape_tree.specs.Shapes.{shape_path}
use Rattle.graph_laws.specs.ReachLaws.{LinksTo}
use Rattle.heap_model.specs.Heaps.{Heap, HasCell}
use Rattle.heap_model.specs.Slots.{RefersToPlace}
use Rattle.heap_model.specs.Kinds.{HasWord, IsPlainCell, IsListCell, IsSoundOf}
use Rattle.heap_model.specs.Showing.{ShowsValue, ShowsField, ShowsPlain, ShowsProto, ShowsList, ShowsWeak, ShowsObject}
use Rattle.heap_model.proofs.CellWords.{slots_by_kind}
use Rattle.heap_model.proofs.OneBeside.{one_beside, one_slots}
use Rattle.heap_moves.specs.Moved.{IsMovedWord, AreMoved, IsMoved}
use Rattle.heap_moves.specs.Standing.{Stays, WholeFor}
use Rattle.heap_moves.proofs.MovedWords.{referred}
use Rattle.heap_moves.proofs.MovedTargets.{beside_moved, table_moved}
use Rattle.heap_moves.proofs.MovedValues.{IsMovedField, field_is_moved}
use Rattle.heap_moves.proofs.MovedSlots.{other_word, store_slot_moved, proto_slot_moved, field_moved, plain_slots}
use Rattle.heap_moves.proofs.MovedPairs.{other_pair}
use Rattle.heap_moves.proofs.MovedShown.{path_has, path_field}

-- a place of the object stays
pub record HasStay (heap : Heap) (to : ℕ → Option ℕ) (number : ℕ) : Type 0 where
  pub word : ℕ
  pub refers : RefersToPlace heap word number
  pub stays : Stays to refers.at

-- where the word of a reference to the object is moved, it stays
word_stays : {heap : Heap} {to : ℕ → Option ℕ} {number : ℕ} (word now : ℕ) → RefersToPlace heap word number
    → IsMovedWord to word now → HasStay heap to number
word_stays word now refers is =
    let there = referred refers.at is refers.refers in
    record { word = word; refers = refers; stays = (there.now, there.stays) }

-- a word that shows an object and is moved refers to one that stays
value_stays : {heap : Heap} {to : ℕ → Option ℕ} {word now : ℕ} {value : Value} (number : ℕ) → ShowsValue heap word value
    → value ≡ Ref number → IsMovedWord to word now → HasStay heap to number
value_stays number (ShowsValue.small_integer v is same) refers moved_word = absurd (cc)
value_stays number (ShowsValue.boxed v wide box) refers moved_word = absurd (cc)
value_stays number (ShowsValue.undefined same) refers moved_word = absurd (cc)
value_stays {heap} {word = word} {now} number (ShowsValue.object shown place) refers moved_word =
    let same : shown ≡ number = same_Some _ _ (ap object_in refers) in
    word_stays word now (subst (RefersToPlace heap word) same place) moved_word

-- so does a field
field_stays : {heap : Heap} {to : ℕ → Option ℕ} {own : Bool} {word now : ℕ} {one : Rep} {value : Value} (number : ℕ)
    → ShowsField heap own word one value → value ≡ Ref number → IsMovedField to own one word now
    → HasStay heap to number
field_stays number (ShowsField.small_integer v is same) refers moved_field = absurd (cc)
field_stays number (ShowsField.wide v is) refers moved_field = absurd (cc)
field_stays number (ShowsField.tagged value shows) refers moved_field =
    value_stays number shows refers (field_is_moved moved_field (λ own wide. cc))

-- an element of a list stands at its place
element_at : {A : Type 0} (xs : List A) (x : A) (there : Contains xs x) → slice_get xs there.0 ≡ Some x
element_at xs x there =
    slice_get-get_or xs there.0 x there.1 ∙ ap (λ one. Some one) there.2

module _ {old new : Heap} {to : ℕ → Option ℕ} (moved : IsMoved old new to) (whole : WholeFor old (Stays to)) where
  -- what a field of a plain object refers to stays
  plain_links : {cell : Cell} {words others : List ℕ} (cap : ℕ) (fields : List Field) (number : ℕ) (field : Field)
      → HasCell old cell words → Stays to cell.at → AreMoved to cell words others
      → ShowsPlain old cell words cap fields → Contains fields field → field.value ≡ Ref number
      → HasStay old to number
  plain_links {cell} {words} cap fields number field has stays are shows among refers =
      let sound : IsPlainCell old cell words =
      subst (λ k. IsSoundOf k old cell words) shows.of_kind (whole.sound cell words has stays) in
      let path : Path = shape_path old.paths cell.header.shape in
      let at : ℕ = among.0 in
      let there : slice_get fields at ≡ Some field = element_at fields field among in
      let in_path = path_has path cap fields at field shows.path there in
      let room : length path.fields ≤ length shows.slots =
      omega (arith, sound.hold.room, ap length (one_slots sound.has shows.has)) in
      let within : at < length path.fields = slice_get_within path.fields at (path_field field) in_path in
      let word : ℕ = get_or shows.slots at 0 in
      let stands : HasWord shows.slots at word = slice_get-get_or shows.slots at 0 (omega (arith, room, within)) in
      let slots = plain_slots moved has shows.of_kind are shows.has in
      let next = other_word slots.now shows.slots at word (sym slots.long) stands in
      let is = field_moved (path_field field) whole.sized has shows.of_kind sound.shape in_path
      (slots.each at word next.0 stands next.1) in
      let is_own = subst (λ own. IsMovedField to own field.rep word next.0)
      (ap (λ (one : Path). nat_lt at one.cap) shows.path) is in
      field_stays number (shows.each at field word there stands) refers is_own

  -- the prototype of a plain object stays
  proto_links : {cell : Cell} {words others : List ℕ} (proto : Option ℕ) (number : ℕ) → AreMoved to cell words others
      → cell.layout.kind ≡ kind.Plain → ShowsProto old words proto → proto ≡ Some number → HasStay old to number
  proto_links {words = words} proto number are of_kind shows same =
      let (word, stands, refers) = subst (ShowsProto old words) same shows in
      let slot = proto_slot_moved word of_kind are stands in
      word_stays word slot.0 refers slot.2

  -- what an element of a list refers to stays
  list_links : {cell : Cell} {words others : List ℕ} (elements : List Value) (number : ℕ) → HasCell old cell words
      → Stays to cell.at → AreMoved to cell words others → ShowsList old cell words elements
      → Contains elements (Ref number) → HasStay old to number
  list_links {cell} {words} elements number has stays are shows among =
      let sound : IsListCell old words =
      subst (λ k. IsSoundOf k old cell words) shows.of_kind (whole.sound cell words has stays) in
      let at : ℕ = among.0 in
      let count : sound.count ≡ length elements = same_Some _ _ (sym sound.counted ∙ shows.counted) in
      let store : sound.store ≡ shows.store = same_Some _ _ (sym sound.slot ∙ shows.slot) in
      let slots : sound.beside ≡ shows.slots =
      one_beside sound.store shows.store sound.beside shows.slots store sound.stands shows.has in
      let within : at < length shows.slots = omega (arith, among.1, count, sound.hold.room, ap length slots) in
      let word : ℕ = get_or shows.slots at 0 in
      let stands : HasWord shows.slots at word = slice_get-get_or shows.slots at 0 within in
      let visited = slots_by_kind cell kind.List store_slot shows.of_kind (first_in store_slot []) in
      let moved_store = store_slot_moved shows.store visited are shows.slot in
      let next = beside_moved moved moved_store.2 shows.has in
      let now = other_word next.others shows.slots at word (sym next.are.long) stands in
      value_stays number (shows.each at (Ref number) word (element_at elements (Ref number) among) stands) refl
      (next.are.each at word now.0 stands now.1)

  -- what the value of an entry refers to stays, where its key can be reached
  weak_links : {marks : List Bool} {cell : Cell} {words others : List ℕ} (entries : List Entry) (number : ℕ)
      (entry : Entry) → AreMoved to cell words others → ShowsWeak old marks cell words entries
      → Contains entries entry → IsTrue (is_marked marks entry.key) → entry.value ≡ Ref number → HasStay old to number
  weak_links {cell = cell} entries number entry are shows among marked refers =
      let once = shows.each among.0 entry (element_at entries entry among) marked in
      let visited = slots_by_kind cell kind.Weak store_slot shows.of_kind (first_in store_slot []) in
      let store = store_slot_moved shows.store visited are shows.slot in
      let next = table_moved moved store.2 shows.table in
      let now = other_pair next.others shows.pairs once.at once.pair (sym next.are.long) once.stands in
      value_stays number once.shows.value refers (next.are.each once.at once.pair now.0 once.stands now.1).1

  -- what an object that stays links to stays
  pub links_stay : {cell : Cell} {words others : List ℕ} (marks : List Bool) (what : Object) (number : ℕ)
      → HasCell old cell words → Stays to cell.at → AreMoved to cell words others
      → ShowsObject old marks cell words what → LinksTo (is_marked marks) what number → HasStay old to number
  links_stay marks (graph_object.Plain cap proto fields) number has stays are shows (inl same) =
      proto_links proto number are shows.0.of_kind shows.1 same
  links_stay marks (graph_object.Plain cap proto fields) number has stays are shows (inr link) =
      plain_links cap fields number link.0 has stays are shows.0 link.1 link.2
  links_stay marks (graph_object.List elements) number has stays are shows link =
      list_links elements number has stays are shows link
  links_stay marks (graph_object.Weak entries) number has stays are shows link =
      weak_links entries number link.0 are shows link.1 link.2 link.3
