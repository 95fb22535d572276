-- What the cell of an object that stays shows, its moved cell shows.
use Rattle.std.proofs.Common.{◌≡◌, ℕ, Bool, List, [], Option, Some, slice_get, nat_lt, option_map, sym, ◌∙◌, ap, subst}
use Rattle.std.proofs.Common.{None, refl, arith}
use Rattle.std.proofs.lemmas.Option.{slice_get-map}
use Rattle.tagged_word.specs.declared.layout.Kind.TheVariants as kind
use Rattle.tagged_word.specs.Cells.{store_slot}
use Rattle.tagged_word.proofs.Members.{first_in, one_in}
use Rattle.heap_model.specs.Types.{Value, Object, Field, Entry, Path, PathField, Cell}
use Rattle.object_graph.specs.declared.object.Object.TheVariants as graph_object
use Rattle.object_graph.specs.Paths.{path_of}
use Rattle.shape_tree.specs.Shapes.{shape_path}
use Rattle.heap_model.specs.Heaps.{Heap, HasCell}
use Rattle.heap_model.specs.Slots.{reference_word, undefined_word, RefersToPlace}
use Rattle.heap_model.specs.Kinds.{Pair, free_pair, count_offset, IsPlainCell, IsSoundOf}
use Rattle.heap_model.specs.Showing.{ShowsPlain, ShowsProto, ShowsList, ShowsOnce, IsKnownKey, ShowsWeak, ShowsObject}
use Rattle.heap_model.proofs.WordClasses.{same_reference, hole_refers_not}
use Rattle.heap_model.proofs.CellWords.{slots_by_kind, slots_of_kind}
use Rattle.heap_moves.specs.Moved.{IsMovedWord, AreMoved, moved_to, IsMoved}
use Rattle.heap_moves.specs.Standing.{Stays, WholeFor}
use Rattle.heap_moves.proofs.MovedWords.{was_referred}
use Rattle.heap_moves.proofs.MovedCells.{refers_moved, place_before}
use Rattle.heap_moves.proofs.MovedTargets.{ArePairsMoved, beside_moved, table_moved}
use Rattle.heap_moves.proofs.MovedValues.{IsMovedField, undefined_stays, shown_value_moved, shown_field_moved}
use Rattle.heap_moves.proofs.MovedSlots.{other_word, store_slot_moved, proto_slot_moved, field_moved, plain_slots}
use Rattle.heap_moves.proofs.MovedPairs.{other_pair, free_stays}

-- the field of a path that stands for a field
abbrev pub path_field : Field → PathField
path_field field = record { name = field.name; rep = field.rep }

-- the fields of a path that is an object's are those of the object
pub path_has : (path : Path) (cap : ℕ) (fields : List Field) (at : ℕ) (field : Field) → path ≡ path_of cap fields
    → slice_get fields at ≡ Some field → slice_get path.fields at ≡ Some (path_field field)
path_has path cap fields at field is there =
    ap (λ (one : Path). slice_get one.fields at) is ∙ slice_get-map path_field fields at
    ∙ ap (option_map path_field) there

-- a key that is known is an object's
record IsKey (heap : Heap) (word : ℕ) : Type 0 where
  number : ℕ
  refers : RefersToPlace heap word number

-- a key that is known refers to an object
known_refers : {heap : Heap} {marks : List Bool} {entries : List Entry} {pair : Pair}
    → IsKnownKey heap marks entries pair → IsKey heap pair.key
known_refers (IsKnownKey.of_entry entry at there marked refers) = record { number = entry.key; refers = refers }
known_refers (IsKnownKey.unreached number refers unmarked) = record { number = number; refers = refers }

-- a pair whose key is a reference is not free
refers_not_free : (pair : Pair) (at : ℕ) → pair.key ≡ reference_word at → pair ≡ free_pair → ⊥
refers_not_free pair at refers free = hole_refers_not at (sym (ap (λ (one : Pair). one.key) free) ∙ refers)

-- each pair of a table that holds something has a known key
abbrev AreKnown : Heap → List Bool → List Entry → List Pair → Type 0
AreKnown heap marks entries pairs =
    (at : ℕ) (pair : Pair) → slice_get pairs at ≡ Some pair → (pair ≡ free_pair → ⊥)
    → IsKnownKey heap marks entries pair

module _ {old new : Heap} {to : ℕ → Option ℕ} (moved : IsMoved old new to) where
  -- the key of a pair is the object that it was
  key_before : {word now number : ℕ} → IsMovedWord to word now → IsKey old word → RefersToPlace new now number
      → RefersToPlace old word number
  key_before {number = number} is key refers =
      let had = key.refers in
      let before = place_before moved refers.place in
      let was = was_referred refers.at is refers.refers in
      let there : had.at ≡ was.at = same_reference had.at was.at (sym had.refers ∙ was.refers) in
      let one = had.place in
      let other = before.place in
      let stays_one : to one.cell.at ≡ Some refers.at = ap to (one.stands ∙ there) ∙ was.stays in
      let stays_other : to other.cell.at ≡ Some refers.at = ap to other.stands ∙ before.stays in
      let same : one.cell.at ≡ other.cell.at =
      moved.apart one.cell other.cell one.words other.words refers.at one.has other.has stays_one stays_other in
      record {
        at = before.at;
        refers = had.refers ∙ ap reference_word (sym one.stands ∙ same ∙ other.stands);
        place = other;
      }

  -- an entry in one pair
  once_moved : {marks : List Bool} {entries : List Entry} {pairs others : List Pair} (entry : Entry)
      → ArePairsMoved to pairs others → AreKnown old marks entries pairs → ShowsOnce old pairs entry
      → ShowsOnce new others entry
  once_moved {pairs = pairs} {others} entry are known once =
      let next = other_pair others pairs once.at once.pair (sym are.long) once.stands in
      let both = are.each once.at once.pair next.0 once.stands next.1 in
      record {
        at = once.at;
        pair = next.0;
        stands = next.1;
        shows = record {
          key = refers_moved moved both.0 once.shows.key;
          value = shown_value_moved moved both.1 once.shows.value;
        };
        once = λ place another stands refers.
            let was = other_pair pairs others place another are.long stands in
            let two = are.each place was.0 another was.1 stands in
            let had = was_referred refers.at two.0 refers.refers in
            let key = known_refers (known place was.0 was.1 (refers_not_free was.0 had.at had.refers)) in
            once.once place was.0 was.1 (key_before two.0 key refers);
      }

  -- a key is known
  known_moved : {marks : List Bool} {entries : List Entry} (pair now : Pair) → IsMovedWord to pair.key now.key
      → IsKnownKey old marks entries pair → IsKnownKey new marks entries now
  known_moved pair now is (IsKnownKey.of_entry entry at there marked refers) =
      IsKnownKey.of_entry entry at there marked (refers_moved moved is refers)
  known_moved pair now is (IsKnownKey.unreached number refers unmarked) =
      IsKnownKey.unreached number (refers_moved moved is refers) unmarked

  -- a weak map
  weak_shown : {marks : List Bool} {cell : Cell} {words others : List ℕ} (now : ℕ) (entries : List Entry)
      → AreMoved to cell words others → ShowsWeak old marks cell words entries
      → ShowsWeak new marks (moved_to cell now) others entries
  weak_shown {marks} {cell} now entries are shows =
      let visited = slots_by_kind cell kind.Weak store_slot shows.of_kind (first_in store_slot []) in
      let store = store_slot_moved shows.store visited are shows.slot in
      let next = table_moved moved store.2 shows.table in
      record {
        of_kind = shows.of_kind;
        store = store.0;
        slot = store.1;
        pairs = next.others;
        table = next.stands;
        each = λ at entry there marked.
            once_moved entry next.are shows.others (shows.each at entry there marked);
        others = λ at pair there filled.
            let was = other_pair shows.pairs next.others at pair next.are.long there in
            let both = next.are.each at was.0 pair was.1 there in
            known_moved was.0 pair both.0
            (shows.others at was.0 was.1 (λ free. filled (free_stays was.0 pair both free)));
      }

  -- a list
  list_shown : {cell : Cell} {words others : List ℕ} (now : ℕ) (elements : List Value)
      → AreMoved to cell words others → ShowsList old cell words elements
      → ShowsList new (moved_to cell now) others elements
  list_shown {cell} now elements are shows =
      let visited = slots_by_kind cell kind.List store_slot shows.of_kind (first_in store_slot []) in
      let store = store_slot_moved shows.store visited are shows.slot in
      let next = beside_moved moved store.2 shows.has in
      record {
        of_kind = shows.of_kind;
        counted = are.raw count_offset (λ slot.
            let one = slots_of_kind cell kind.List count_offset shows.of_kind slot in
            omega (arith, one_in store_slot count_offset one))
            ∙ shows.counted;
        store = store.0;
        slot = store.1;
        slots = next.others;
        has = next.stands;
        each = λ at value word there stands.
            let was = other_word shows.slots next.others at word next.are.long stands in
            shown_value_moved moved (next.are.each at was.0 word was.1 stands) (shows.each at value was.0 there was.1);
      }

  -- a plain object
  plain_shown : {cell : Cell} {words others : List ℕ} (now cap : ℕ) (fields : List Field) → WholeFor old (Stays to)
      → HasCell old cell words → Stays to cell.at → AreMoved to cell words others
      → ShowsPlain old cell words cap fields → ShowsPlain new (moved_to cell now) others cap fields
  plain_shown {cell} {words} now cap fields whole has stays are shows =
      let sound : IsPlainCell old cell words =
      subst (λ k. IsSoundOf k old cell words) shows.of_kind (whole.sound cell words has stays) in
      let path : Path = shape_path old.paths cell.header.shape in
      let slots = plain_slots moved has shows.of_kind are shows.has in
      record {
        of_kind = shows.of_kind;
        path = ap (λ paths. shape_path paths cell.header.shape) moved.paths ∙ shows.path;
        slots = slots.now;
        has = slots.has;
        each = λ at field word there stands.
            let was = other_word shows.slots slots.now at word slots.long stands in
            let is = field_moved (path_field field) whole.sized has shows.of_kind sound.shape
            (path_has path cap fields at field shows.path there) (slots.each at was.0 word was.1 stands) in
            shown_field_moved moved
            (subst (λ own. IsMovedField to own field.rep was.0 word)
            (ap (λ (one : Path). nat_lt at one.cap) shows.path) is)
            (shows.each at field was.0 there was.1);
      }

  -- a prototype
  proto_shown : {cell : Cell} {words others : List ℕ} (proto : Option ℕ) → AreMoved to cell words others
      → cell.layout.kind ≡ kind.Plain → ShowsProto old words proto → ShowsProto new others proto
  proto_shown None are of_kind shows =
      let slot = proto_slot_moved undefined_word of_kind are shows in
      slot.1 ∙ ap (λ word. Some word) (undefined_stays moved slot.2 refl)
  proto_shown (Some number) are of_kind (word, stands, refers) =
      let slot = proto_slot_moved word of_kind are stands in
      (slot.0, slot.1, refers_moved moved slot.2 refers)

  -- any object
  pub object_shown : {cell : Cell} {words others : List ℕ} (marks : List Bool) (now : ℕ) (what : Object)
      → WholeFor old (Stays to) → HasCell old cell words → Stays to cell.at → AreMoved to cell words others
      → ShowsObject old marks cell words what → ShowsObject new marks (moved_to cell now) others what
  object_shown marks now (graph_object.Plain cap proto fields) whole has stays are shows =
      (plain_shown now cap fields whole has stays are shows.0, proto_shown proto are shows.0.of_kind shows.1)
  object_shown marks now (graph_object.List elements) whole has stays are shows = list_shown now elements are shows
  object_shown marks now (graph_object.Weak entries) whole has stays are shows = weak_shown now entries are shows
