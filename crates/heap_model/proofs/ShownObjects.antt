-- What the cell of an object that did not go shows it still shows.
use Rattle.std.proofs.Common.{◌≡◌, ℕ, ◌<◌, ◌⊎◌, inl, inr, Bool, true, false, List, Option, Some, None, slice_get}
use Rattle.std.proofs.Common.{option_map, nat_lt, IsTrue, refl, sym, ◌∙◌, ap, subst}
use Rattle.std.proofs.lemmas.Bool.{false≢true}
use Rattle.std.proofs.lemmas.Option.{slice_get-map}
use Rattle.heap_model.specs.Types.{Value, Object, Field, Entry, Path, PathField, Cell}
use Rattle.object_graph.specs.declared.object.Object.TheVariants as graph_object
use Rattle.object_graph.specs.Reach.{is_marked}
use Rattle.shape_tree.specs.Shapes.{shape_path}
use Rattle.heap_model.specs.Heaps.{Heap}
use Rattle.tagged_word.specs.Cells.{is_object_kind}
use Rattle.heap_model.specs.Slots.{RefersToPlace}
use Rattle.heap_model.specs.Kinds.{Pair, IsPlainCell, IsSoundOf}
use Rattle.heap_model.specs.Showing.{ShowsPlain, ShowsProto, ShowsList, ShowsOnce, IsKnownKey, ShowsWeak, HasPair}
use Rattle.heap_model.specs.Showing.{ShowsObject}
use Rattle.heap_model.proofs.ObjectSlots.{FieldSlot, field_slot, slot_beside, value_slot}
use Rattle.heap_model.proofs.WordsStay.{refers_to_place_stays, shown_value, shown_field}
use Rattle.heap_model.proofs.Moves.{Moves, place_stays}
use Rattle.heap_model.proofs.KeptObjects.{kept_box, Keeps, kept_beside, kept_table, kept_slots, slot_unless_raw}
use Rattle.heap_model.proofs.KeptObjects.{kept_path}
use Rattle.heap_model.proofs.PlacesBefore.{AreNumberedFrom, refers_to_place_before}

-- the field of a path that stands for a field
abbrev path_field : Field → PathField
path_field field = record { name = field.name; rep = field.rep }

-- a plain object
plain_shown : {old new : Heap} {gone came made : List Cell} {cell : Cell} {words : List ℕ}
    (cap : ℕ) (fields : List Field)
    → Moves old new gone came made → Keeps old new gone cell words → ShowsPlain old cell words cap fields
    → ShowsPlain new cell words cap fields
plain_shown {old} {new} {cell = cell} {words} cap fields moves keeps shows =
    let sound : IsPlainCell old cell words =
    subst (λ k. IsSoundOf k old cell words) shows.of_kind (moves.whole.sound cell words keeps.had) in
    let path : Path = shape_path old.paths cell.header.shape in
    record {
      of_kind = shows.of_kind;
      path = kept_path cell.header.shape moves.cells sound.shape ∙ shows.path;
      slots = shows.slots;
      has = kept_slots moves keeps shows.has;
      each = λ at field word there stands.
          let path_there : slice_get path.fields at ≡ Some (path_field field) =
          ap (λ (one : Path). slice_get one.fields at) shows.path ∙ slice_get-map path_field fields at
          ∙ ap (option_map path_field) there in
          let slot =
          field_slot at word (path_field field) moves.whole.sized keeps.had shows.of_kind sound.shape shows.has
          path_there stands in
          let slot_at = subst (λ own. FieldSlot old cell words own (path_field field) word)
          (ap (λ (one : Path). nat_lt at one.cap) shows.path) slot in
          shown_field (nat_lt at cap) word field.rep field.value (place_stays moves)
          (λ not_raw. kept_box moves keeps (slot_unless_raw slot_at not_raw))
          (shows.each at field word there stands);
    }

-- its prototype
proto_shown : {old new : Heap} {gone came made : List Cell} (words : List ℕ) (proto : Option ℕ)
    → Moves old new gone came made → ShowsProto old words proto → ShowsProto new words proto
proto_shown words None moves shows = shows
proto_shown words (Some number) moves (word, stands, refers) =
    (word, stands, refers_to_place_stays (place_stays moves) refers)

-- a list
list_shown : {old new : Heap} {gone came made : List Cell} {cell : Cell} {words : List ℕ} (elements : List Value)
    → Moves old new gone came made → Keeps old new gone cell words → ShowsList old cell words elements
    → ShowsList new cell words elements
list_shown elements moves keeps shows = record {
  of_kind = shows.of_kind;
  counted = shows.counted;
  store = shows.store;
  slot = shows.slot;
  slots = shows.slots;
  has = kept_beside shows.store moves keeps shows.slot shows.has;
  each = λ at value word there stands.
      shown_value word (place_stays moves)
      (kept_box moves keeps (slot_beside shows.store at word shows.slot shows.has stands))
      (shows.each at value word there stands);
}

-- Of a weak map nothing becomes reachable that is the key of an entry, or of a pair of its table.
pub record KeysStay (old : Heap) (before after : List Bool) (words : List ℕ) (entries : List Entry) : Type 0 where
  pub of_entries : (at : ℕ) (entry : Entry) → slice_get entries at ≡ Some entry → IsTrue (is_marked after entry.key)
      → IsTrue (is_marked before entry.key)
  pub of_pairs : (pair : Pair) (number : ℕ) → HasPair old words pair → RefersToPlace old pair.key number
      → IsTrue (is_marked after number) → IsTrue (is_marked before number)

-- the same of any object: only a weak map has keys
abbrev pub ObjectKeysStay : Heap → List Bool → List Bool → List ℕ → Object → Type 0
ObjectKeysStay old before after words (graph_object.Plain cap proto fields) = Unit {0}
ObjectKeysStay old before after words (graph_object.List elements) = Unit {0}
ObjectKeysStay old before after words (graph_object.Weak entries) = KeysStay old before after words entries

-- what is marked has a number below this one
abbrev pub AreMarkedBelow : List Bool → ℕ → Type 0
AreMarkedBelow marks count = (number : ℕ) → IsTrue (is_marked marks number) → number < count

-- an object is marked or not
mark_cases : (mark : Bool) → (mark ≡ true) ⊎ (mark ≡ false)
mark_cases true = inl refl
mark_cases false = inr refl

-- an entry in one pair
once_shown : {old new : Heap} {gone came made : List Cell} {cell : Cell} {words : List ℕ}
    (count : ℕ) (marks : List Bool)
    (entries : List Entry) (entry : Entry) → Moves old new gone came made → Keeps old new gone cell words
    → AreNumberedFrom count made → entry.key < count → (shows : ShowsWeak old marks cell words entries)
    → ShowsOnce old shows.pairs entry → ShowsOnce new shows.pairs entry
once_shown count marks entries entry moves keeps numbered below shows once = record {
  at = once.at;
  pair = once.pair;
  stands = once.stands;
  shows = record {
    key = refers_to_place_stays (place_stays moves) once.shows.key;
    value = shown_value once.pair.value (place_stays moves)
        (kept_box moves keeps
        (value_slot shows.store once.at once.pair shows.slot shows.table once.stands)) once.shows.value;
  };
  once = λ other another stands refers.
      once.once other another stands (refers_to_place_before count moves numbered below refers);
}

-- a key is known
known_shown : {old new : Heap} {gone came made : List Cell} {words : List ℕ}
    (before after : List Bool) (entries : List Entry)
    (pair : Pair) → Moves old new gone came made → KeysStay old before after words entries → HasPair old words pair
    → IsKnownKey old before entries pair → IsKnownKey new after entries pair
known_shown before after entries pair moves keys has (IsKnownKey.of_entry entry at there marked refers) =
    elim (mark_cases (is_marked after entry.key)) [
      | inl still ↦ IsKnownKey.of_entry entry at there still (refers_to_place_stays (place_stays moves) refers)
      | inr no_more ↦ IsKnownKey.unreached entry.key (refers_to_place_stays (place_stays moves) refers) no_more
    ]
known_shown before after entries pair moves keys has (IsKnownKey.unreached number refers unmarked) =
    elim (mark_cases (is_marked after number)) [
      | inl now ↦ absurd (false≢true (sym unmarked ∙ keys.of_pairs pair number has refers now))
      | inr still ↦ IsKnownKey.unreached number (refers_to_place_stays (place_stays moves) refers) still
    ]

-- a weak map
weak_shown : {old new : Heap} {gone came made : List Cell} {cell : Cell} {words : List ℕ} (count : ℕ)
    (before after : List Bool) (entries : List Entry) → Moves old new gone came made → Keeps old new gone cell words
    → AreNumberedFrom count made → AreMarkedBelow before count → KeysStay old before after words entries
    → ShowsWeak old before cell words entries → ShowsWeak new after cell words entries
weak_shown {old} {words = words} count before after entries moves keeps numbered below keys shows = record {
  of_kind = shows.of_kind;
  store = shows.store;
  slot = shows.slot;
  pairs = shows.pairs;
  table = kept_table shows.store moves keeps shows.slot shows.table;
  each = λ at entry there marked.
      let was_marked = keys.of_entries at entry there marked in
      once_shown count before entries entry moves keeps numbered (below entry.key was_marked) shows
      (shows.each at entry there was_marked);
  others = λ at pair there filled.
      let has : HasPair old words pair = record {
        store = shows.store;
        slot = shows.slot;
        pairs = shows.pairs;
        table = shows.table;
        at = at;
        stands = there;
      } in
      known_shown before after entries pair moves keys has (shows.others at pair there filled);
}

-- any object
pub object_shown : {old new : Heap} {gone came made : List Cell} {cell : Cell} {words : List ℕ} (count : ℕ)
    (before after : List Bool) (what : Object) → Moves old new gone came made → Keeps old new gone cell words
    → AreNumberedFrom count made → AreMarkedBelow before count → ObjectKeysStay old before after words what
    → ShowsObject old before cell words what → ShowsObject new after cell words what
object_shown {words = words} count before after (graph_object.Plain cap proto fields) moves keeps numbered below keys
    shows =
    (plain_shown cap fields moves keeps shows.0, proto_shown words proto moves shows.1)
object_shown count before after (graph_object.List elements) moves keeps numbered below keys shows =
    list_shown elements moves keeps shows
object_shown count before after (graph_object.Weak entries) moves keeps numbered below keys shows =
    weak_shown count before after entries moves keeps numbered below keys shows

-- the cell that shows an object is one of an object
pub object_of_shown : (heap : Heap) (marks : List Bool) (cell : Cell) (words : List ℕ) (what : Object)
    → ShowsObject heap marks cell words what → IsTrue (is_object_kind cell.layout.kind)
object_of_shown heap marks cell words (graph_object.Plain cap proto fields) shows =
    ap is_object_kind shows.0.of_kind
object_of_shown heap marks cell words (graph_object.List elements) shows = ap is_object_kind shows.of_kind
object_of_shown heap marks cell words (graph_object.Weak entries) shows = ap is_object_kind shows.of_kind
