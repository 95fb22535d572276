-- Where a step is possible, by what its seat knows.
use Rattle.std.specs.Prelude.{◌≡◌, ℕ, ◌+◌, ◌<◌, ◌≤◌, ◌⊎◌, true, false, IsTrue, List, [], All}
use Rattle.std.specs.Prelude.{Contains, length, slice_get, Some, None, IsSome, IsSomeAnd, slice_index}
use Rattle.tagged_word.specs.Readings.{header_in, layout_in}
use Rattle.page_space.specs.Extents.{board_words}
use Rattle.mark_world.specs.declared.event.Event.{Event}
use Rattle.mark_world.specs.declared.event.Event.TheVariants as event
use Rattle.mark_world.specs.declared.snap.Snap.{Snap}
use Rattle.mark_world.specs.declared.views.MainView.{MainView}
use Rattle.mark_world.specs.declared.views.HelperView.{HelperView}
use Rattle.mark_world.specs.Pages.{EachFree, IsOutside, OfTarget, cell_at, is_free, is_head_of, leaves_alone}
use Rattle.mark_world.specs.Safety.{IsSafe, FitsTaggedSlot, laid_in, slots_by}
use Rattle.mark_world.specs.Naming.{Named, IsReadOut, IsToRead, is_shape, named, read_offsets}

-- A word goes into a slot: the place is no header and no length of a free start's cell, a tagged slot may hold the
-- word, and its target, if any, is born.
pub record MayStoreSlot (old : ℕ) (words layouts : List ℕ) (main : MainView) (at word : ℕ) : Type 0 where
  pub place : at < length words
  pub no_head : EachFree main (λ start. is_head_of start (cell_at old words layouts start) at ≡ false)
  pub slot_word : FitsTaggedSlot word
  pub born : OfTarget old word (λ to. Contains main.born to)

-- A word goes where no helper visits: the place is no page's, or lies in no free start's cell, or is a quiet word of
-- one.
pub record MayStoreOwned (old : ℕ) (words layouts : List ℕ) (main : MainView) (at : ℕ) : Type 0 where
  pub place : at < length words
  pub alone : (old ≤ at) ⊎ EachFree main (λ start. leaves_alone start (cell_at old words layouts start) at ≡ true)

-- each slot that is tagged after a change of a header and not before has no target, or one that the mutator is sure of
abbrev pub AreSure : ℕ → List ℕ → MainView → ℕ → (before after : List ℕ) → Type 0
AreSure old words main at before after =
    All (λ offset. Contains before offset
    ⊎ OfTarget old (slice_index words (at + offset)) (λ to. Contains main.sure to)) after

-- the same of two headers of plain cells
abbrev pub AreSureAfter : ℕ → List ℕ → List ℕ → MainView → ℕ → ℕ → Type 0
AreSureAfter old words layouts main at word =
    AreSure old words main at (slots_by (laid_in layouts (slice_index words at)) 0) (slots_by (laid_in layouts word) 0)

-- A header changes: that of a free start, or a word that lies in no free start's cell. The change is a safe one. At a
-- free start each slot that is tagged only after it has no target, or one that the mutator is sure of.
pub record MayStoreHeader (old : ℕ) (words layouts : List ℕ) (main : MainView) (at word : ℕ) : Type 0 where
  pub place : IsTrue (is_free main at) ⊎ IsOutside old words layouts main at
  pub safe : IsSafe layouts (slice_index words at) word
  pub sure : IsTrue (is_free main at) → AreSureAfter old words layouts main at word

-- a layout word goes where 0 stands for a shape, and is one's
pub record MayAddLayout (layouts : List ℕ) (shape word : ℕ) : Type 0 where
  pub unused : slice_get layouts shape ≡ Some 0
  pub parses : IsSome (layout_in word)

-- a cell is new: it is old, and lies in no free start's cell
pub record MayBeNew (old : ℕ) (words layouts : List ℕ) (main : MainView) (at : ℕ) : Type 0 where
  pub page : at < old
  pub outside : IsOutside old words layouts main at

-- a cell goes to a word of the board: the giver has it
pub record MayGive (list : List ℕ) (place at : ℕ) : Type 0 where
  pub on_board : place < board_words
  pub had : Contains list at

-- a step of the mutator may be made
abbrev pub MayMain : ℕ → List ℕ → List ℕ → MainView → Event → Type 0
MayMain old words layouts main event.Look = Unit {0}
MayMain old words layouts main (event.StoreSlot at word) = MayStoreSlot old words layouts main at word
MayMain old words layouts main (event.StoreOwned at word) = MayStoreOwned old words layouts main at
MayMain old words layouts main (event.StoreHeader at word) = MayStoreHeader old words layouts main at word
MayMain old words layouts main (event.AddLayout shape word) = MayAddLayout layouts shape word
MayMain old words layouts main (event.ShadeMain at) = Contains main.born at
MayMain old words layouts main (event.Blacken at) = Contains main.born at
MayMain old words layouts main (event.NewBlack at) = MayBeNew old words layouts main at
MayMain old words layouts main (event.GiveMain place at) = MayGive main.grey place at
MayMain old words layouts main (event.TakeMain place) = place < board_words
MayMain old words layouts main _ = ⊥

-- the snap has no layout word, and its header has a shape that there may be
pub record AwaitsLayout (snap : Snap) : Type 0 where
  pub unread : snap.layout ≡ None
  pub shape : IsSomeAnd (header_in snap.header) (λ header. IsTrue (is_shape header))

-- the snap's length is what it still lacks: its layout is read, and asks for one that lies in the page
pub record AwaitsLength (snap : Snap) : Type 0 where
  pub layout : IsSome snap.layout
  pub unread : snap.length ≡ None
  pub asked : named snap ≡ Named.unread

-- a helper that has no snap and nothing to visit may begin a snap
pub record MayBegin (view : HelperView) : Type 0 where
  pub snap : view.snap ≡ None
  pub visit : view.visit ≡ []

-- a step of a helper may be made, as far as its own view tells
abbrev pub MayHelper : HelperView → Event → Type 0
MayHelper view (event.LoadHeader number cell) = MayBegin view
MayHelper view (event.LoadLayout number) = IsSomeAnd view.snap AwaitsLayout
MayHelper view (event.LoadLength number) = IsSomeAnd view.snap AwaitsLength
MayHelper view (event.LoadSlot number offset) =
    IsSomeAnd view.snap (λ snap. IsToRead (named snap) (read_offsets snap) offset)
MayHelper view (event.Settle number) = IsSomeAnd view.snap (λ snap. IsReadOut (named snap) (read_offsets snap))
MayHelper view (event.ShadeHelper number at) = Contains view.visit at
MayHelper view (event.Give number place at) = MayGive view.grey place at
MayHelper view (event.Take number place) = place < board_words
MayHelper view _ = ⊥
