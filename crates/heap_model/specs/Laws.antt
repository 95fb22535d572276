-- Laws of whole heaps: what a change leaves whole, and what it leaves shown.
use Rattle.std.specs.Prelude.{◌≡◌, ◌≢◌, ℕ, ◌<◌, ◌≤◌, List, [], ◌∷◌, ◌++◌, length, flat_map}
use Rattle.std.specs.Prelude.{Contains, IsTrue, slice_get, Some, All, map}
use Rattle.std.specs.FinMap.{get}
use Rattle.tagged_word.specs.declared.layout.Kind.TheVariants as kind
use Rattle.tagged_word.specs.Cells.{scavenge_offsets}
use Rattle.heap_model.specs.Types.{Object, Entry, Cell, Held}
use Rattle.object_graph.specs.declared.object.Object.TheVariants.{Weak}
use Rattle.object_graph.specs.Graphs.{Graph, make}
use Rattle.object_graph.specs.Reach.{is_marked, reach}
use Rattle.handle_roots.specs.declared.held.Held.TheVariants as held
use Rattle.handle_roots.specs.Roots.{FitsHeld, with_root}
use Rattle.heap_model.specs.Heaps.{Heap, HasCell, words_of_cell}
use Rattle.heap_model.specs.Slots.{reference_word, RefersToPlace}
use Rattle.heap_model.specs.Kinds.{HasWord, Pair, IsSoundCell}
use Rattle.heap_model.specs.Wholeness.{Whole, HasRows, HasSizes}
use Rattle.heap_model.specs.Showing.{HasPair, ShowsObject, ShowsReached, ShowsHeld, Shows}
use Rattle.heap_model.specs.Changes.{Patch, IsPatch, PatchesDisjoint, Rewrite, IsRewrite, patch_of, IsChange}
use Rattle.heap_model.specs.Changes.{CellsChange}
use Rattle.heap_model.specs.Changes.{IsOwnChange, IsGraphChange, written, WritesSlots}

-- the cells that went with the patches
abbrev pub gone_with : List Patch → List Cell
gone_with patches = flat_map (λ patch. patch.before) patches

-- and those that came
abbrev pub come_with : List Patch → List Cell
come_with patches = flat_map (λ patch. patch.after) patches

-- Where only patches and the run change, cells stand in rows again, and all but those of the patches are as before.
abbrev pub ChangesKeepCells : Type 0
ChangesKeepCells =
    (old new : Heap) (patches : List Patch) (made : List Cell) → Whole old → IsChange old new patches made
    → HasRows new × CellsChange old new (gone_with patches) (come_with patches) made

-- Cells that are rewritten in place are patches, and these are apart.
abbrev pub RewritesArePatches : Type 0
RewritesArePatches =
    (old new : Heap) (rewrites : List Rewrite) → HasRows old → All (IsRewrite old new) rewrites
    → All (IsPatch old new) (map patch_of rewrites) × PatchesDisjoint (map patch_of rewrites)

-- Where only these and the run change, those that were rewritten went, and those that they became came.
abbrev pub RewritesKeepCells : Type 0
RewritesKeepCells =
    (old new : Heap) (rewrites : List Rewrite) (made : List Cell) → Whole old
    → IsChange old new (map patch_of rewrites) made
    → HasRows new
    × CellsChange old new (map (λ rewrite. rewrite.cell) rewrites) (flat_map (λ rewrite. rewrite.into) rewrites) made

-- Where only slots of some cells are written, these are what changes.
abbrev pub SlotWritesKeepCells : Type 0
SlotWritesKeepCells =
    (heap : Heap) (words : List ℕ) (cells : List Cell) → Whole heap → WritesSlots heap words cells
    → HasSizes (written heap words) × HasRows (written heap words)
    × CellsChange heap (written heap words) cells cells []

-- A heap whose objects change inside their own cells is whole again.
abbrev pub OwnChangesKeepWhole : Type 0
OwnChangesKeepWhole =
    (old new : Heap) (gone came made : List Cell) → Whole old → HasSizes new → HasRows new
    → CellsChange old new gone came made → IsOwnChange old new gone came made → Whole new

-- And it shows the graph in which these objects are what their cells show.
abbrev pub OwnChangesShow : Type 0
OwnChangesShow =
    (old new : Heap) (before after : Graph) (gone came made : List Cell) → Shows old before → Whole new
    → CellsChange old new gone came made → IsOwnChange old new gone came made
    → IsGraphChange old new before after gone came made → Shows new after

-- no slot of the cell refers to a cell
abbrev pub RefersToNothing : Cell → List ℕ → Type 0
RefersToNothing cell words =
    (offset word at : ℕ) → Contains (scavenge_offsets cell.layout cell.length) offset → HasWord words offset word
    → word ≢ reference_word at

-- A cell that was made, is sound and refers to nothing is such a change.
abbrev pub MadeCellsAreOwn : Type 0
MadeCellsAreOwn =
    (old new : Heap) (cell : Cell) → IsSoundCell new cell (words_of_cell new cell)
    → RefersToNothing cell (words_of_cell new cell)
    → CellsChange old new [] [] (cell ∷ []) → IsOwnChange old new [] [] (cell ∷ [])

-- nothing can be reached in the second graph that could not be in the first
abbrev pub ReachesNoMore : Graph → Graph → Type 0
ReachesNoMore before after =
    (number : ℕ) → IsTrue (is_marked (reach after) number) → IsTrue (is_marked (reach before) number)

-- nothing but this object can be
abbrev pub ReachesOneMore : Graph → Graph → ℕ → Type 0
ReachesOneMore before after one =
    (number : ℕ) → IsTrue (is_marked (reach after) number) → number ≢ one → IsTrue (is_marked (reach before) number)

-- the graphs differ in what one variable is bound to
pub record BindsAnew (before after : Graph) (variable : ℕ) : Type 0 where
  pub objects : after.objects ≡ before.objects
  pub paths : after.paths ≡ before.paths
  pub others : (other : ℕ) → other ≢ variable → get after.bindings other ≡ get before.bindings other

-- the heap with the root words of a variable made those of a value
abbrev pub bound : Heap → ℕ → Held → Heap
bound heap variable held = record heap { words = with_root heap.space heap.words variable held }

-- A heap in which the root words of a variable become those of a value shows the graph in which it is bound to that,
-- where nothing more can be reached than before.
abbrev pub BindingsShow : Type 0
BindingsShow =
    (heap : Heap) (before after : Graph) (variable : ℕ) (held : Held) → variable < heap.space.variables
    → Shows heap before → BindsAnew before after variable
    → FitsHeld held → ShowsHeld heap held (get after.bindings variable)
    → ReachesNoMore before after → Shows (bound heap variable held) after

-- no pair of the weak map with these words has the object of this number as its key
abbrev pub HasNoKey : Heap → List ℕ → ℕ → Type 0
HasNoKey heap words number = (pair : Pair) → HasPair heap words pair → RefersToPlace heap pair.key number → ⊥

-- no pair of a weak map has it as its key
abbrev pub IsNoKey : Heap → ℕ → Type 0
IsNoKey heap number =
    (cell : Cell) (words : List ℕ) → HasCell heap cell words → cell.layout.kind ≡ kind.Weak → HasNoKey heap words number

-- no entry of a weak map has the object of this number as its key
abbrev pub IsNoEntryKey : List Object → ℕ → Type 0
IsNoEntryKey objects number =
    (holder at : ℕ) (entries : List Entry) (entry : Entry) → slice_get objects holder ≡ Some (Weak entries)
    → slice_get entries at ≡ Some entry → entry.key ≢ number

-- The same where one object more can be reached than before, as one that was just made: its cell shows it, and it is
-- the key of nothing.
abbrev pub NewBindingsShow : Type 0
NewBindingsShow =
    (heap : Heap) (before after : Graph) (variable : ℕ) (held : Held) (number : ℕ) (what : Object)
    → variable < heap.space.variables → Shows heap before → BindsAnew before after variable
    → FitsHeld held → ShowsHeld heap held (get after.bindings variable)
    → slice_get before.objects number ≡ Some what → ShowsReached heap (reach after) number what
    → IsNoEntryKey before.objects number → IsNoKey heap number
    → ReachesOneMore before after number → Shows (bound heap variable held) after

-- A heap in which one cell more was made and a variable bound to it shows the graph in which an object is made: where
-- the cell carries its number and shows it, no entry has it as a key, and nothing else can be reached that could not be
-- before.
abbrev pub NewObjectsShow : Type 0
NewObjectsShow =
    (old new : Heap) (before : Graph) (variable : ℕ) (cell : Cell) (what : Object) → variable < new.space.variables
    → Shows old before → Whole new → new.paths ≡ before.paths
    → CellsChange old new [] [] (cell ∷ []) → IsOwnChange old new [] [] (cell ∷ [])
    → FitsHeld (held.Ref cell.at) → cell.header.object ≡ length before.objects
    → ShowsObject new (reach (make before variable what)) cell (words_of_cell new cell) what
    → IsNoEntryKey before.objects (length before.objects)
    → ReachesOneMore before (make before variable what) (length before.objects)
    → Shows (bound new variable (held.Ref cell.at)) (make before variable what)

-- An object that was just made is no key, where no weak map that came or was made has it as one.
abbrev pub NewObjectsAreNoKeys : Type 0
NewObjectsAreNoKeys =
    (old new : Heap) (before : Graph) (gone came made : List Cell) (number : ℕ) → Shows old before
    → CellsChange old new gone came made → IsOwnChange old new gone came made → length before.objects ≤ number
    → ((cell : Cell) → Contains (came ++ made) cell → cell.layout.kind ≡ kind.Weak
    → HasNoKey new (words_of_cell new cell) number)
    → IsNoKey new number
