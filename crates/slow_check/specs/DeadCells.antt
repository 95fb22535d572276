-- Dead cells, and dead words that stand one behind another.
use Rattle.std.specs.Prelude.{ℕ, ◌+◌, ◌*◌, ◌<◌, ◌≤◌, IsTrue}
use Rattle.page_space.specs.Sizes.{page_words}
use Rattle.heap_model.specs.Types.{Cell}
use Rattle.heap_model.specs.Heaps.{Heap}
use Rattle.heap_model.specs.Slots.{is_object_kind}
use Rattle.live_cells.specs.Exact.{IsNamedByObject, IsDeadWord}

-- the cell is no object's, and none that an object's cell names
abbrev pub IsDeadCell : Heap → Cell → Type 0
IsDeadCell heap cell = (IsTrue (is_object_kind cell.layout.kind) → ⊥) × (IsNamedByObject heap cell.at → ⊥)

-- the words from an address up to another are dead
abbrev pub AreDead : Heap → ℕ → ℕ → Type 0
AreDead heap from end = (at : ℕ) → from ≤ at → at < end → IsDeadWord heap at

-- between two addresses so many dead words stand one behind another
pub record HasDead (heap : Heap) (start end n : ℕ) : Type 0 where
  pub first : ℕ
  pub from : start ≤ first
  pub below : first + n ≤ end
  pub dead : AreDead heap first (first + n)

-- Where the dead words begin that end with the word at an address: where those before it began, if it is dead, and
-- else behind it.
pub data BeginsAt (heap : Heap) (first at : ℕ) : ℕ → Type 0 where
  dead : IsDeadWord heap at → BeginsAt heap first at first
  alive : (IsDeadWord heap at → ⊥) → BeginsAt heap first at (at + 1)

-- a page has so many dead words one behind another
abbrev pub HasPageDead : Heap → ℕ → ℕ → Type 0
HasPageDead heap n page = HasDead heap (page_words * page) (page_words * (page + 1)) n

-- some page has
pub record FitsInPage (heap : Heap) (n : ℕ) : Type 0 where
  pub page : ℕ
  pub there : page < heap.space.sizes.pages
  pub has : HasPageDead heap n page
