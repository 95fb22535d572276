-- Changes of a heap that stay inside some objects' own cells, and what they leave.
use Rattle.std.specs.Prelude.{◌≡◌, ◌≢◌, ℕ, ◌+◌, ◌<◌, ◌≤◌, Bool, List, ◌++◌, Some, length}
use Rattle.std.specs.Prelude.{[], ◌∷◌, All, Contains, slice_get, ◌⊎◌, IsTrue}
use Rattle.tagged_word.specs.declared.layout.Kind.TheVariants as kind
use Rattle.heap_model.specs.Types.{Path, Object, Cell}
use Rattle.object_graph.specs.Graphs.{Graph}
use Rattle.object_graph.specs.Reach.{is_marked, reach}
use Rattle.page_space.specs.Extents.{Extent, eden_start, roots_start, layouts_start}
use Rattle.cell_layout.specs.Cells.{IsRow}
use Rattle.cell_layout.specs.CellLaws.{IsOfSlot}
use Rattle.heap_model.specs.Heaps.{Heap, Row, IsUsedRow, HasCell, cell_extents, words_of_cell}
use Rattle.tagged_word.specs.Cells.{is_object_kind}
use Rattle.heap_model.specs.Kinds.{IsSoundCell}
use Rattle.heap_model.specs.Wholeness.{HasSizes, NamesFrom}
use Rattle.heap_model.specs.Showing.{ShowsObject}

-- words from an address to another in which other cells stand than before
pub record Patch : Type 0 where
  pub from : ℕ
  pub to : ℕ
  pub before : List Cell
  pub after : List Cell

-- the cells before were a part of a row of the old heap, and those after are as long a row of the new one
pub record IsPatch (old new : Heap) (patch : Patch) : Type 0 where
  pub row : Row
  pub in_region : Contains (cell_extents old.space) row.extent
  pub used : IsUsedRow old row
  pub front : List Cell
  pub back : List Cell
  pub part : row.cells ≡ front ++ patch.before ++ back
  pub stood : IsRow old.space old.words patch.from patch.to patch.before
  pub stands : IsRow new.space new.words patch.from patch.to patch.after

-- the address is in the patch
pub record IsPatched (at : ℕ) (patch : Patch) : Type 0 where
  pub from : patch.from ≤ at
  pub below : at < patch.to

-- no address is in two of the patches
abbrev pub PatchesDisjoint : List Patch → Type 0
PatchesDisjoint patches =
    (one other : Patch) (at : ℕ) → Contains patches one → Contains patches other → IsPatched at one → IsPatched at other
    → one ≡ other

-- a filler, which has one word, stands at the address
pub record IsFillerAt (heap : Heap) (at : ℕ) : Type 0 where
  pub cell : Cell
  pub words : List ℕ
  pub has : HasCell heap cell words
  pub stands : cell.at ≡ at
  pub filler : cell.layout.kind ≡ kind.Filler

-- The words from an address up to another are of one page, and each is a filler.
pub record AreFillers (heap : Heap) (from to : ℕ) : Type 0 where
  pub extent : Extent
  pub among : Contains (cell_extents heap.space) extent
  pub begins : extent.start ≤ from
  pub ends : to ≤ extent.start + extent.words
  pub of_page : to ≤ eden_start heap.space
  pub each : (at : ℕ) → from ≤ at → at < to → IsFillerAt heap at

-- The words in which cells are made, from an address up to another: those behind the used words of eden, which are used
-- from then on; or fillers of a page, while as much of eden is used as before.
pub data IsRunOf (old new : Heap) (from to : ℕ) : Type 0 where
  of_eden : from ≡ eden_start old.space + old.used → to ≡ eden_start old.space + new.used → old.used ≤ new.used
      → IsRunOf old new from to
  of_page : from ≤ to → new.used ≡ old.used → AreFillers old from to → IsRunOf old new from to

-- The address is behind the used words of eden in the old heap, and among them in the new one; or a filler of a page
-- stood there.
pub data IsNewlyUsed (old new : Heap) (at : ℕ) : Type 0 where
  of_eden : eden_start old.space + old.used ≤ at → at < eden_start old.space + new.used → IsNewlyUsed old new at
  of_page : IsFillerAt old at → at < eden_start old.space → IsNewlyUsed old new at

-- a cell, and the cells that come to stand in its words
pub record Rewrite : Type 0 where
  pub cell : Cell
  pub into : List Cell

-- the words of the cell as a patch
abbrev pub patch_of : Rewrite → Patch
patch_of rewrite = record {
  from = rewrite.cell.at;
  to = rewrite.cell.at + rewrite.cell.size;
  before = rewrite.cell ∷ [];
  after = rewrite.into;
}

-- the cell stood in the old heap, and a row of the others is as long in the new one
pub record IsRewrite (old new : Heap) (rewrite : Rewrite) : Type 0 where
  pub stood : HasCell old rewrite.cell (words_of_cell old rewrite.cell)
  pub stands : IsRow new.space new.words rewrite.cell.at (rewrite.cell.at + rewrite.cell.size) rewrite.into

-- the heap with other words
abbrev pub written : Heap → List ℕ → Heap
written heap words = record heap { words = words }

-- Of the words only slots of these cells have changed: neither a header nor a length, and no word of another cell.
pub record WritesSlots (heap : Heap) (words : List ℕ) (cells : List Cell) : Type 0 where
  pub stood : (cell : Cell) → Contains cells cell → HasCell heap cell (words_of_cell heap cell)
  pub long : length words ≡ length heap.words
  pub stay : (at : ℕ)
      → ((cell : Cell) (offset : ℕ) → Contains cells cell → IsOfSlot cell offset → cell.at + offset ≢ at)
      → slice_get words at ≡ slice_get heap.words at

-- Only words of the patches and of the run have changed, and layout words of shapes that are new. Cells were made that
-- stand in the run, which has no word of a patch.
pub record IsChange (old new : Heap) (patches : List Patch) (made : List Cell) : Type 0 where
  pub same_space : new.space ≡ old.space
  pub same_survivors : new.survivors ≡ old.survivors
  pub room : new.survivors + new.used ≤ new.space.sizes.young
  pub more : List Path
  pub paths : new.paths ≡ old.paths ++ more
  pub sized : HasSizes new
  pub each : All (IsPatch old new) patches
  pub apart : PatchesDisjoint patches
  pub from : ℕ
  pub to : ℕ
  pub run : IsRunOf old new from to
  pub beside : (patch : Patch) (at : ℕ) → Contains patches patch → IsPatched at patch → from ≤ at → at < to → ⊥
  pub made_stand : IsRow new.space new.words from to made
  pub cells_stay : (at : ℕ) → at < roots_start old.space → (All (λ patch. IsPatched at patch → ⊥) patches)
      → (from ≤ at → at < to → ⊥) → slice_get new.words at ≡ slice_get old.words at
  pub roots_stay : (at : ℕ) → roots_start old.space ≤ at → at < layouts_start old.space
      → slice_get new.words at ≡ slice_get old.words at

-- the cell begins in the words of one of these
pub record BeginsInOneOf (cells : List Cell) (cell : Cell) : Type 0 where
  pub other : Cell
  pub among : Contains cells other
  pub from : other.at ≤ cell.at
  pub below : cell.at < other.at + other.size

-- a filler stood where one of these cells was made
pub record IsFilledIn (made : List Cell) (cell : Cell) : Type 0 where
  pub filler : cell.layout.kind ≡ kind.Filler
  pub begins : BeginsInOneOf made cell

-- The cells of the new heap: those that went are replaced by those that came, each of which begins in words of one that
-- went, and all others stand as before, but for fillers in whose words cells were made. These begin in words that are
-- newly used, where no other cell began before.
pub record CellsChange (old new : Heap) (gone came made : List Cell) : Type 0 where
  pub same_space : new.space ≡ old.space
  pub more : List Path
  pub paths : new.paths ≡ old.paths ++ more
  pub went : (cell : Cell) → Contains gone cell → HasCell old cell (words_of_cell old cell)
  pub comes : (cell : Cell) → Contains (came ++ made) cell → HasCell new cell (words_of_cell new cell)
  pub kept : (cell : Cell) (words : List ℕ) → HasCell old cell words → (Contains gone cell → ⊥)
      → (IsFilledIn made cell → ⊥) → HasCell new cell words
  pub back : (cell : Cell) (words : List ℕ) → HasCell new cell words
      → Contains (came ++ made) cell ⊎ (HasCell old cell words × (Contains gone cell → ⊥))
  pub in_place : (cell : Cell) → Contains came cell → BeginsInOneOf gone cell
  pub newly : (cell : Cell) → Contains made cell → IsNewlyUsed old new cell.at
  pub new_places : (cell other : Cell) (words : List ℕ) → Contains made cell → HasCell old other words
      → other.at ≡ cell.at → other.layout.kind ≡ kind.Filler
  pub roots_stay : (at : ℕ) → roots_start old.space ≤ at → at < layouts_start old.space
      → slice_get new.words at ≡ slice_get old.words at

-- the cell is an object's, or one that this object names
pub record IsOwnOf (heap : Heap) (owners : List Cell) (cell : Cell) : Type 0 where
  pub owner : Cell
  pub among : Contains owners owner
  pub object : IsTrue (is_object_kind owner.layout.kind)
  pub own : (cell ≡ owner) ⊎ ((slot : ℕ) × NamesFrom heap owner slot cell.at)

-- the object's cell stands in place of one of its kind with its number, at the same address
pub record IsStill (others : List Cell) (cell : Cell) : Type 0 where
  pub other : Cell
  pub among : Contains others other
  pub place : other.at ≡ cell.at
  pub of_kind : other.layout.kind ≡ cell.layout.kind
  pub number : other.header.object ≡ cell.header.object

-- a box stands in place of the box
pub record IsStillBox (others : List Cell) (cell : Cell) : Type 0 where
  pub other : Cell
  pub among : Contains others other
  pub place : other.at ≡ cell.at
  pub box : other.layout.kind ≡ kind.Boxed

-- no cell of the heap begins at the address, but for a filler
abbrev pub IsNewPlace : Heap → ℕ → Type 0
IsNewPlace heap at =
    (cell : Cell) (words : List ℕ) → HasCell heap cell words → cell.at ≡ at → cell.layout.kind ≡ kind.Filler

-- What a change of cells owes. All that went is some objects' own, and these went too. Each object that went stands
-- where it stood, and each box. What came is sound. A cell that an object of those that came or were made names was
-- named by an object that went, or stands where none began before but a filler; and none is named twice by these.
pub record IsOwnChange (old new : Heap) (gone came made : List Cell) : Type 0 where
  pub own : (cell : Cell) → Contains gone cell → IsOwnOf old gone cell
  pub objects_stay : (cell : Cell) → Contains gone cell → IsTrue (is_object_kind cell.layout.kind) → IsStill came cell
  pub objects_stood : (cell : Cell) → Contains came cell → IsTrue (is_object_kind cell.layout.kind) → IsStill gone cell
  pub boxes_stay : (cell : Cell) → Contains gone cell → cell.layout.kind ≡ kind.Boxed → IsStillBox came cell
  pub sound : (cell : Cell) → Contains (came ++ made) cell → IsSoundCell new cell (words_of_cell new cell)
  pub named : (owner : Cell) (slot at : ℕ) → Contains (came ++ made) owner → NamesFrom new owner slot at
      → ((before : Cell) × ((place : ℕ) × Contains gone before × NamesFrom old before place at))
      ⊎ IsNewPlace old at
  pub once : (owner another : Cell) (slot other at : ℕ) → Contains (came ++ made) owner
      → Contains (came ++ made) another
      → NamesFrom new owner slot at → NamesFrom new another other at → slot ≡ other

-- the object was the same, and no cell of it went
pub record Stays (before : Graph) (gone : List Cell) (number : ℕ) (what : Object) : Type 0 where
  pub same : slice_get before.objects number ≡ Some what
  pub stood : (cell : Cell) → Contains gone cell → IsTrue (is_object_kind cell.layout.kind)
      → cell.header.object ≢ number

-- a cell that came carries the number and shows the object
pub record IsShown (new : Heap) (marks : List Bool) (came : List Cell) (number : ℕ) (what : Object) : Type 0 where
  pub cell : Cell
  pub among : Contains came cell
  pub carries : cell.header.object ≡ number
  pub shows : ShowsObject new marks cell (words_of_cell new cell) what

-- What a change of cells does to a graph: no variable is bound anew, nothing can be reached that could not before, and
-- each object that can be reached is the same and its cell did not go, or a cell that came shows it. What was made
-- carries numbers that are new.
pub record IsGraphChange (old new : Heap) (before after : Graph) (gone came made : List Cell) : Type 0 where
  pub paths : new.paths ≡ after.paths
  pub bindings : after.bindings ≡ before.bindings
  pub few : length before.objects ≤ length after.objects
  pub reached : (number : ℕ) → IsTrue (is_marked (reach after) number) → IsTrue (is_marked (reach before) number)
  pub each : (number : ℕ) (what : Object) → slice_get after.objects number ≡ Some what
      → IsTrue (is_marked (reach after) number) → Stays before gone number what
      ⊎ IsShown new (reach after) came number what
  pub numbered : (cell : Cell) → Contains made cell → IsTrue (is_object_kind cell.layout.kind)
      → (length before.objects ≤ cell.header.object) × (cell.header.object < length after.objects)
