-- The tri-colour invariant beside a mutator that changes the shapes of cells.
use Rattle.std.specs.Prelude.{◌≡◌, ◌≢◌, ℕ, ◌+◌, ◌%◌, ◌^◌, ◌<◌, ◌≤◌, ◌⊎◌, false, IsTrue}
use Rattle.std.specs.Prelude.{List, [], All, Any, Contains, length, slice_get, slice_index, Some, None, IsSome, IfSome}
use Rattle.std.specs.Prelude.{IsSomeAnd}
use Rattle.tagged_word.specs.Cells.{length_offset, marks_by_length}
use Rattle.tagged_word.specs.Readings.{header_in, reference_in}
use Rattle.tagged_word.specs.Shapes.{shapes_most}
use Rattle.page_space.specs.Sizes.{page_words}
use Rattle.core_parts.specs.Boards.{IsBoard}
use Rattle.mark_world.specs.declared.snap.Snap.{Snap}
use Rattle.mark_world.specs.declared.views.HelperView.{HelperView}
use Rattle.mark_world.specs.declared.world.World.{World}
use Rattle.mark_world.specs.Pages.{EachFree, is_inside}
use Rattle.mark_world.specs.Safety.{IsSafe, laid_in, slots_by}
use Rattle.mark_world.specs.Naming.{read_offsets}
use Rattle.mark_world.specs.Steps.{white, grey, black}
use Rattle.mark_world.specs.AfterEvents.{IsMarked}
use Rattle.mark_world.specs.Coverage.{EachSlot, HasCovered, IsCovered, cell_of, colour_of}

-- each address of a list is in the other
abbrev pub AreIn : List ℕ → List ℕ → Type 0
AreIn other list = All (λ at. Contains other at) list

-- Sizes: the words begin with whole pages, of which an address has 32 bits. Each word of them has a colour, one of
-- three. The board is one, and there is a layout word for each shape.
pub record HasSizes (world : World) : Type 0 where
  pub pages : world.old % page_words ≡ 0
  pub addresses : world.old < 2 ^ 32
  pub words : world.old ≤ length world.words
  pub colours : length world.colours ≡ world.old
  pub three : All (λ colour. colour ≤ black) world.colours
  pub board : IsBoard world.board
  pub layouts : length world.layouts ≡ shapes_most

-- Cells: each free start reads a cell that ends in its page, and none of them begins in another's. Cells that are born,
-- or that the mutator made black, are published; the latter are born and black.
pub record HasCells (world : World) : Type 0 where
  pub read : EachFree world.main (λ start. IsSome (cell_of world start))
  pub apart : EachFree world.main (λ start. EachFree world.main (λ other. start ≢ other →
      is_inside start (cell_of world start) other ≡ false))
  pub born : AreIn world.main.starts world.main.born
  pub mine : AreIn world.main.starts world.main.mine
  pub mine_born : AreIn world.main.born world.main.mine
  pub mine_black : All (λ at. colour_of world at ≡ black) world.main.mine

-- a view is empty, its log and its last snap too
pub record IsEmptyView (view : HelperView) : Type 0 where
  pub snap : view.snap ≡ None
  pub last : view.last ≡ None
  pub visit : view.visit ≡ []
  pub grey : view.grey ≡ []
  pub log : view.log ≡ []

-- Lists of one helper: grey cells that wait with it, and that of its snap, are reached. It has a snap or cells to
-- visit, not both. It has nothing while it is not out.
pub record HasViewLists (world : World) (view : HelperView) : Type 0 where
  pub grey : All (IsMarked world) view.grey
  pub snap : IfSome view.snap (λ snap. IsMarked world snap.cell)
  pub one_at_once : IsSome view.snap → view.visit ≡ []
  pub in_hand : view.out ≡ false → IsEmptyView view

-- Lists: each cell that waits, is on the board or is read is published and not white. Only published cells are not
-- white.
pub record HasLists (world : World) : Type 0 where
  pub main : All (IsMarked world) world.main.grey
  pub helpers : All (HasViewLists world) world.helpers
  pub board : All (λ word. IfSome (reference_in word) (IsMarked world)) world.board
  pub coloured : (at : ℕ) → colour_of world at ≢ white → Contains world.main.starts at

-- Sure: what the mutator is sure of is covered; that, and what it owes, is born.
pub record HasSure (world : World) : Type 0 where
  pub covered : All (IsCovered world) world.main.sure
  pub sure_born : AreIn world.main.born world.main.sure
  pub owed_born : AreIn world.main.born world.main.owed

-- Black: the tagged slots of a black free start are covered.
abbrev pub HasBlack : World → Type 0
HasBlack world =
    EachFree world.main (λ start. colour_of world start ≡ black → EachSlot world start (λ offset. HasCovered world))

-- a helper reads the cell
abbrev pub Reads : ℕ → HelperView → Type 0
Reads at view = IsSomeAnd view.snap (λ snap. snap.cell ≡ at)

-- a cell waits: with the mutator or a helper, on the board, or in a snap
abbrev pub Waits : World → ℕ → Type 0
Waits world at =
    Contains world.main.grey at ⊎ Any (λ view. Contains view.grey at ⊎ Reads at view) world.helpers
    ⊎ Any (λ word. reference_in word ≡ Some at) world.board

-- Grey: each grey published cell waits.
abbrev pub HasGrey : World → Type 0
HasGrey world = All (λ at. colour_of world at ≡ grey → Waits world at) world.main.starts

-- the slot was not read, or it was read with the word that stands
abbrev pub IsFreshSlot : Snap → ℕ → ℕ → Type 0
IsFreshSlot snap offset word =
    (Contains (read_offsets snap) offset → ⊥) ⊎ Contains snap.slots (record { offset = offset; word = word })

-- the tagged slots of a snap's cell by the header that was read, with a length
abbrev pub header_slots : World → Snap → ℕ → List ℕ
header_slots world snap long = slots_by (laid_in world.layouts snap.header) long

-- A snap is true to its cell. The header that stands is the one read or a safe change of it; the layout word that was
-- read stands, and so does a length, if the layout asks for one. Each tagged slot that is not covered is one of the
-- header read, and is unread, or was read with the word that stands.
pub record IsTrueSnap (world : World) (snap : Snap) : Type 0 where
  pub header : (slice_index world.words snap.cell ≡ snap.header)
      ⊎ IsSafe world.layouts snap.header (slice_index world.words snap.cell)
  pub layout : IfSome snap.layout (λ word. IfSome (header_in snap.header) (λ header.
      slice_get world.layouts header.shape ≡ Some word))
  pub length : IfSome snap.length (λ long. IfSome (laid_in world.layouts snap.header) (λ laid.
      IsTrue (marks_by_length laid.layout.kind) → slice_get world.words (snap.cell + length_offset) ≡ Some long))
  pub slots : IfSome (cell_of world snap.cell) (λ cell. EachSlot world snap.cell (λ offset word.
      HasCovered world word ⊎ (Contains (header_slots world snap cell.length) offset × IsFreshSlot snap offset word)))

-- Snaps: a snap of a grey cell is true to it.
abbrev pub HasSnaps : World → Type 0
HasSnaps world =
    All (λ view. IfSome view.snap (λ snap. colour_of world snap.cell ≡ grey → IsTrueSnap world snap)) world.helpers

-- The world is sound: from here on no event loses a cell that is reached without cells that the mutator made black. Of
-- the slots of these `Settled` speaks.
pub record Sound (world : World) : Type 0 where
  pub sizes : HasSizes world
  pub cells : HasCells world
  pub lists : HasLists world
  pub sure : HasSure world
  pub black : HasBlack world
  pub grey : HasGrey world
  pub snaps : HasSnaps world
