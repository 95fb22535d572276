-- The changes of a cell's layout, each as the list of the mutator's steps, in the order in which helpers may see them.
use Rattle.std.specs.Prelude.{◌≡◌, ℕ, ◌+◌, List, [], ◌∷◌, ◌++◌, All, length}
use Rattle.tagged_word.specs.declared.word.Class.TheVariants.{Ref}
use Rattle.tagged_word.specs.Words.{bits_of}
use Rattle.tagged_word.specs.Cells.{length_offset, store_head}
use Rattle.mark_laws.specs.Types.{Event, World}
use Rattle.mark_world.specs.declared.event.Event.TheVariants as event
use Rattle.mark_world.specs.AfterEvents.{WerePossible, after_all}
use Rattle.mark_world.specs.Unfinished.{SettledBut, made_after_all}
use Rattle.mark_laws.specs.Runs.{IsSoundAndBorn}
use Rattle.mark_laws.specs.Changes.{HasEnded, LeavesDone, steps_of}

-- a word, and the address where it goes
pub record Put : Type 0 where
  pub at : ℕ
  pub word : ℕ

-- words go where no helper visits, one after another
abbrev pub puts : List Put → List Event
puts [] = []
puts (put ∷ rest) = event.StoreOwned put.at put.word ∷ puts rest

-- words go into slots, from an address on
abbrev pub fills : ℕ → List ℕ → List Event
fills at [] = []
fills at (word ∷ rest) = event.StoreSlot at word ∷ fills (at + 1) rest

-- a store is made black, gets a header and a capacity, and is filled
abbrev pub store_filled : (store header : ℕ) → List ℕ → List Event
store_filled store header words =
    event.NewBlack store ∷ event.StoreOwned store header
    ∷ event.StoreOwned (store + length_offset) (length words) ∷ fills (store + store_head) words

-- A change of a cell's layout. A field more: the property store of a cell is made, with the field in it, and the cell
-- gets a header. Small to wide: an integer goes into a slot of a cell, which gets a header. A field less: words move in
-- a cell and its store, and the cell gets a header. A left trim: a list's store begins later, at a new start with a
-- header, a capacity and the list's length, and words of a free cell go over the old start. A right trim: the store
-- gets a capacity, the list a length, and a free cell stands behind. A list's store grows: one is made, with one
-- element more, and the list gets a length.
pub data Change : Type 0 where
  field_more : (cell store store_header : ℕ) → (words : List ℕ) → (header : ℕ) → Change
  small_to_wide : (cell slot integer header : ℕ) → Change
  field_less : (cell store : ℕ) → (moves : List Put) → (header : ℕ) → Change
  left_trim : (list store start header capacity long : ℕ) → (free : List Put) → Change
  right_trim : (list store capacity long : ℕ) → (free : List Put) → Change
  list_grown : (list store header : ℕ) → (words : List ℕ) → (long : ℕ) → Change

-- the place of a cell's property store or of a list's store
abbrev pub store_place : ℕ → ℕ
store_place cell = cell + 1

-- the place of a list's length
abbrev pub long_place : ℕ → ℕ
long_place list = list + 2

-- the steps of a change, in order
abbrev pub steps : Change → List Event
steps (Change.field_more cell store store_header words header) =
    store_filled store store_header words
    ++ event.StoreSlot (store_place cell) (bits_of (Ref store)) ∷ event.StoreHeader cell header ∷ []
steps (Change.small_to_wide cell slot integer header) =
    event.Blacken cell ∷ event.StoreOwned slot integer ∷ event.StoreOwned cell header ∷ []
steps (Change.field_less cell store moves header) =
    event.Blacken cell ∷ event.Blacken store ∷ puts moves ++ event.StoreOwned cell header ∷ []
steps (Change.left_trim list store start header capacity long free) =
    event.Blacken store ∷ event.NewBlack start ∷ event.StoreOwned start header
    ∷ event.StoreOwned (start + length_offset) capacity
    ∷ event.StoreSlot (store_place list) (bits_of (Ref start)) ∷ event.StoreOwned (long_place list) long ∷ puts free
steps (Change.right_trim list store capacity long free) =
    event.Blacken store ∷ event.StoreOwned (store + length_offset) capacity
    ∷ event.StoreOwned (long_place list) long ∷ puts free
steps (Change.list_grown list store header words long) =
    store_filled store header words
    ++ event.StoreSlot (store_place list) (bits_of (Ref store)) ∷ event.StoreOwned (long_place list) long ∷ []

-- the cells that it changes, beside the new ones
abbrev pub changed : Change → List ℕ
changed (Change.field_more cell store store_header words header) = cell ∷ []
changed (Change.small_to_wide cell slot integer header) = cell ∷ []
changed (Change.field_less cell store moves header) = cell ∷ store ∷ []
changed (Change.left_trim list store start header capacity long free) = list ∷ store ∷ []
changed (Change.right_trim list store capacity long free) = list ∷ store ∷ []
changed (Change.list_grown list store header words long) = list ∷ []

-- the cells that it changes or makes
abbrev pub touched : Change → List ℕ
touched change = made_after_all (changed change) (steps change)

-- Each change, with whatever steps of helpers and shades between its own, leaves the mutator's part done once it has
-- ended, if its steps are possible and leave all other cells alone that the mutator is done with.
abbrev pub LayoutChangesSettle : Type 0
LayoutChangesSettle =
    (world : World) (change : Change) (events : List Event) → steps_of events ≡ steps change → IsSoundAndBorn world
    → SettledBut world [] → WerePossible world events (length events)
    → All (LeavesDone world (changed change)) (steps change)
    → HasEnded (after_all world events) (touched change) → SettledBut (after_all world events) []
