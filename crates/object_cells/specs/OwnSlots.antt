-- The words of one object's slots, by the numbers of these, and of its slot for a store or a table, as they change.
use Rattle.std.specs.Prelude.{◌≡◌, ◌≢◌, ℕ, ◌⊎◌, List, ◌++◌, Contains}
use Rattle.heap_model.specs.Types.{Kind, Cell}
use Rattle.tagged_word.specs.declared.layout.Kind.TheVariants as kind
use Rattle.tagged_word.specs.Cells.{store_slot}
use Rattle.heap_model.specs.Heaps.{Heap, words_of_cell}
use Rattle.heap_model.specs.Slots.{reference_word, RefersTo}
use Rattle.heap_model.specs.Kinds.{HasWord, HasNoNumber, IsBoxCell}
use Rattle.heap_model.specs.Wholeness.{IsOwnedKind, NamesFrom}

-- the word names no store, table or box
abbrev pub NamesNone : Heap → ℕ → Type 0
NamesNone heap word = (cell : Cell) (words : List ℕ) → RefersTo heap word cell words → IsOwnedKind cell.layout.kind → ⊥

-- none of these cells is a box to which the word refers
abbrev pub IsNoBoxOf : List Cell → ℕ → Type 0
IsNoBoxOf others word =
    (other : Cell) → Contains others other → other.layout.kind ≡ kind.Boxed → word ≢ reference_word other.at

-- Where the word of a slot comes from: the slot of number `origin` held it before; or it names no store, table or box;
-- or it refers to a box that was made, which only the slot of number `one` does.
pub data ComesFrom (new : Heap) (was : ℕ → ℕ → Type 0) (made : List Cell) (origin one slot word : ℕ) : Type 0 where
  moved : was origin word → ComesFrom new was made origin one slot word
  none : NamesNone new word → ComesFrom new was made origin one slot word
  of_made : (box : Cell) → Contains made box → box.layout.kind ≡ kind.Boxed → word ≡ reference_word box.at
      → slot ≡ one → ComesFrom new was made origin one slot word

-- What the slot for the store or table holds: what it held before, or a reference to one that was made.
abbrev pub StoreComes : Kind → Heap → Cell → List Cell → ℕ → Type 0
StoreComes owned old cell made store =
    HasWord (words_of_cell old cell) store_slot store
    ⊎ ((other : Cell) × Contains made other × (other.layout.kind ≡ owned) × (store ≡ reference_word other.at))

-- The words of an object's slots become others. `was` and `is` tell which word the slot of a number held before and
-- holds then. `others` are cells that belong to the object and were written, and `made` those that were made: a store
-- or a table, which the object has, and boxes.
pub record Refills (owned : Kind) (old new : Heap) (cell came : Cell) (others made : List Cell)
    (was is : ℕ → ℕ → Type 0) : Type 0 where
  -- from which slot each comes; no two come from one
  pub origin : ℕ → ℕ
  pub apart : (slot other word another : ℕ) → is slot word → is other another → origin slot ≡ origin other
      → slot ≡ other
  pub one : ℕ
  pub each_slot : (slot word : ℕ) → is slot word → ComesFrom new was made (origin slot) one slot word
  -- the slot for the store or table
  pub store : ℕ
  pub has_store : HasWord (words_of_cell new came) store_slot store
  pub store_comes : StoreComes owned old cell made store
  -- the cells beside the object's
  pub belong : (other : Cell) → Contains others other → (slot : ℕ) × NamesFrom old cell slot other.at
  pub kinds : (other : Cell) → Contains made other → (other.layout.kind ≡ owned) ⊎ (other.layout.kind ≡ kind.Boxed)
  pub stores : (other : Cell) → Contains (others ++ made) other → other.layout.kind ≡ owned
      → HasNoNumber other × (store ≡ reference_word other.at)
  pub boxes : (other : Cell) → Contains (others ++ made) other → other.layout.kind ≡ kind.Boxed
      → IsBoxCell other (words_of_cell new other)
