-- Which graph a heap shows.
use Rattle.std.specs.Prelude.{◌≡◌, ◌≢◌, ℕ, ◌<◌, Bool, true, false, List, length, Option, Some, None}
use Rattle.std.specs.Prelude.{◌≤◌, slice_get, nat_lt, ℤ, IsTrue, IsFalse, FitsSigned}
use Rattle.std.specs.Int.{w64}
use Rattle.std.specs.FinMap.{get}
use Rattle.tagged_word.specs.declared.layout.Kind.TheVariants as kind
use Rattle.tagged_word.specs.Words.{small}
use Rattle.tagged_word.specs.Cells.{store_slot, proto_slot}
use Rattle.heap_model.specs.Types.{Value, Rep, Object, Field, Entry, Cell, Held}
use Rattle.object_graph.specs.declared.value.Value.TheVariants.{Int, Undefined, Ref}
use Rattle.object_graph.specs.declared.value.Rep.TheVariants as rep
use Rattle.object_graph.specs.declared.object.Object.TheVariants as graph_object
use Rattle.object_graph.specs.Paths.{path_of}
use Rattle.object_graph.specs.Graphs.{Graph}
use Rattle.object_graph.specs.Reach.{is_marked, reach}
use Rattle.shape_tree.specs.Shapes.{shape_path}
use Rattle.handle_roots.specs.declared.held.Held.TheVariants as held
use Rattle.handle_roots.specs.Roots.{Holds}
use Rattle.heap_model.specs.Heaps.{Heap, HasCell}
use Rattle.heap_model.specs.Slots.{small_word, undefined_word, raw_word, IsPlace, RefersToPlace, RefersToBox}
use Rattle.heap_model.specs.Slots.{HoldsStore}
use Rattle.heap_model.specs.Kinds.{HasWord, HasSlots, Pair, HasTable, count_offset, free_pair}
use Rattle.heap_model.specs.Wholeness.{Whole}

-- The word of a tagged slot shows a value: a small integer as such and any other in a box, undefined, or an object by a
-- reference to its place.
pub data ShowsValue (heap : Heap) (word : ℕ) : Value → Type 0 where
  small_integer : (v : ℤ) → IsTrue (small v) → word ≡ small_word v → ShowsValue heap word (Int v)
  boxed : (v : ℤ) → IsFalse (small v) → RefersToBox heap word v → ShowsValue heap word (Int v)
  undefined : word ≡ undefined_word → ShowsValue heap word Undefined
  object : (number : ℕ) → RefersToPlace heap word number → ShowsValue heap word (Ref number)

-- The word of a wide field shows an integer: it is raw in the object, and refers to a box in the property store.
abbrev pub ShowsWide : Heap → Bool → ℕ → ℤ → Type 0
ShowsWide heap true word v = (word ≡ raw_word v) × FitsSigned w64 v
ShowsWide heap false word v = RefersToBox heap word v

-- The word of a field of this representation shows a value. A wide field is read by where it stands: in the object
-- itself, or beside it.
pub data ShowsField (heap : Heap) (own : Bool) (word : ℕ) : Rep → Value → Type 0 where
  small_integer : (v : ℤ) → IsTrue (small v) → word ≡ small_word v → ShowsField heap own word rep.Small (Int v)
  wide : (v : ℤ) → ShowsWide heap own word v → ShowsField heap own word rep.Wide (Int v)
  tagged : (value : Value) → ShowsValue heap word value → ShowsField heap own word rep.Tagged value

-- the cell of a plain object shows its cap and its fields
pub record ShowsPlain (heap : Heap) (cell : Cell) (words : List ℕ) (cap : ℕ) (fields : List Field) : Type 0 where
  pub of_kind : cell.layout.kind ≡ kind.Plain
  pub path : shape_path heap.paths cell.header.shape ≡ path_of cap fields
  pub slots : List ℕ
  pub has : HasSlots heap words slots
  pub each : (at : ℕ) (field : Field) (word : ℕ) → slice_get fields at ≡ Some field → HasWord slots at word
      → ShowsField heap (nat_lt at cap) word field.rep field.value

-- The prototype slot of a plain object shows its prototype: it holds undefined where there is none, and else refers to
-- the prototype's place.
abbrev pub ShowsProto : Heap → List ℕ → Option ℕ → Type 0
ShowsProto heap words None = HasWord words proto_slot undefined_word
ShowsProto heap words (Some number) = (word : ℕ) × HasWord words proto_slot word × RefersToPlace heap word number

-- the cell of a list shows its elements in order
pub record ShowsList (heap : Heap) (cell : Cell) (words : List ℕ) (elements : List Value) : Type 0 where
  pub of_kind : cell.layout.kind ≡ kind.List
  pub counted : HasWord words count_offset (length elements)
  pub store : ℕ
  pub slot : HasWord words store_slot store
  pub slots : List ℕ
  pub has : HoldsStore heap kind.Store store slots
  pub each : (at : ℕ) (value : Value) (word : ℕ) → slice_get elements at ≡ Some value → HasWord slots at word
      → ShowsValue heap word value

-- the pair shows an entry
pub record ShowsEntry (heap : Heap) (pair : Pair) (entry : Entry) : Type 0 where
  pub key : RefersToPlace heap pair.key entry.key
  pub value : ShowsValue heap pair.value entry.value

-- the pair at this place shows the entry, and no other pair shows its key
pub record ShowsOnce (heap : Heap) (pairs : List Pair) (entry : Entry) : Type 0 where
  pub at : ℕ
  pub pair : Pair
  pub stands : slice_get pairs at ≡ Some pair
  pub shows : ShowsEntry heap pair entry
  pub once : (other : ℕ) (another : Pair) → slice_get pairs other ≡ Some another
      → RefersToPlace heap another.key entry.key → other ≡ at

-- The key of the pair is that of one of these entries, or an object that cannot be reached.
pub data IsKnownKey (heap : Heap) (marks : List Bool) (entries : List Entry) (pair : Pair) : Type 0 where
  of_entry : (entry : Entry) (at : ℕ) → slice_get entries at ≡ Some entry → IsTrue (is_marked marks entry.key)
      → RefersToPlace heap pair.key entry.key → IsKnownKey heap marks entries pair
  unreached : (number : ℕ) → RefersToPlace heap pair.key number → IsFalse (is_marked marks number)
      → IsKnownKey heap marks entries pair

-- The cell of a weak map shows each entry whose key can be reached, in one pair each; the key of any other pair that
-- holds something cannot be reached.
pub record ShowsWeak (heap : Heap) (marks : List Bool) (cell : Cell) (words : List ℕ)
    (entries : List Entry) : Type 0 where
  pub of_kind : cell.layout.kind ≡ kind.Weak
  pub store : ℕ
  pub slot : HasWord words store_slot store
  pub pairs : List Pair
  pub table : HasTable heap store pairs
  pub each : (at : ℕ) (entry : Entry) → slice_get entries at ≡ Some entry → IsTrue (is_marked marks entry.key)
      → ShowsOnce heap pairs entry
  pub others : (at : ℕ) (pair : Pair) → slice_get pairs at ≡ Some pair → pair ≢ free_pair
      → IsKnownKey heap marks entries pair

-- the pair stands in the table of the weak map that has these words
pub record HasPair (heap : Heap) (words : List ℕ) (pair : Pair) : Type 0 where
  pub store : ℕ
  pub slot : HasWord words store_slot store
  pub pairs : List Pair
  pub table : HasTable heap store pairs
  pub at : ℕ
  pub stands : slice_get pairs at ≡ Some pair

-- the cell shows the object, where these objects can be reached
abbrev pub ShowsObject : Heap → List Bool → Cell → List ℕ → Object → Type 0
ShowsObject heap marks cell words (graph_object.Plain cap proto fields) =
    ShowsPlain heap cell words cap fields × ShowsProto heap words proto
ShowsObject heap marks cell words (graph_object.List elements) = ShowsList heap cell words elements
ShowsObject heap marks cell words (graph_object.Weak entries) = ShowsWeak heap marks cell words entries

-- the object has one place and no second, and the cell there shows it
pub record ShowsReached (heap : Heap) (marks : List Bool) (number : ℕ) (what : Object) : Type 0 where
  pub cell : Cell
  pub words : List ℕ
  pub has : HasCell heap cell words
  pub carries : cell.header.object ≡ number
  pub shows : ShowsObject heap marks cell words what
  pub once : (at : ℕ) → IsPlace heap number at → at ≡ cell.at

-- what a variable holds shows what it is bound to; an object by its place
pub data ShowsHeld (heap : Heap) : Held → Option Value → Type 0 where
  unbound : ShowsHeld heap held.Unbound None
  undefined : ShowsHeld heap held.Undefined (Some Undefined)
  integer : (v : ℤ) → ShowsHeld heap (held.Int v) (Some (Int v))
  object : (at number : ℕ) → IsPlace heap number at → ShowsHeld heap (held.Ref at) (Some (Ref number))

-- the root words of the variable show what it is bound to
pub record ShowsBinding (heap : Heap) (graph : Graph) (variable : ℕ) : Type 0 where
  pub held : Held
  pub holds : Holds heap.space heap.words variable held
  pub shows : ShowsHeld heap held (get graph.bindings variable)

-- The heap shows the graph: it is whole; its shapes are the graph's paths; its roots show the bindings, and no variable
-- but those that have roots is bound; each object that can be reached has one place, which shows it; and each object's
-- cell carries the number of an object that was made.
pub record Shows (heap : Heap) (graph : Graph) : Type 0 where
  pub whole : Whole heap
  pub paths : heap.paths ≡ graph.paths
  pub bindings : (variable : ℕ) → variable < heap.space.variables → ShowsBinding heap graph variable
  pub no_others : (variable : ℕ) → heap.space.variables ≤ variable → get graph.bindings variable ≡ None
  pub reached : (number : ℕ) (what : Object) → slice_get graph.objects number ≡ Some what
      → IsTrue (is_marked (reach graph) number) → ShowsReached heap (reach graph) number what
  pub made : (number at : ℕ) → IsPlace heap number at → number < length graph.objects
