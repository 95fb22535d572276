-- What a helper may conclude from its own view.
use Rattle.std.specs.Prelude.{◌≡◌, ◌≢◌, ℕ, ◌<◌, ◌⊎◌, ◌↔◌, IsTrue, All, Contains, slice_get}
use Rattle.std.specs.Prelude.{Some, IfSome, IsSomeAnd}
use Rattle.mark_laws.specs.Types.{Header, LayoutWord, Event, Snap, Actor, HelperView, World}
use Rattle.tagged_word.specs.Cells.{marks_by_length, tagged_offsets}
use Rattle.tagged_word.specs.Readings.{header_in, layout_in, reference_in}
use Rattle.core_parts.specs.Lists.{HasNoRepeats}
use Rattle.mark_world.specs.declared.event.Event.TheVariants as event
use Rattle.mark_world.specs.Naming.{IsReadOut, Named, named, read_offsets}
use Rattle.mark_world.specs.Steps.{actor, black, grey, helper_learns, lent, returned}
use Rattle.mark_world.specs.Conditions.{MayHelper}
use Rattle.mark_world.specs.AfterEvents.{IsMarked, Possible}
use Rattle.mark_world.specs.Coverage.{colour_of}
use Rattle.mark_world.specs.Soundness.{Sound}

-- a slot is one of those that are named
abbrev pub IsNamed : Named → ℕ → Type 0
IsNamed Named.unread offset = ⊥
IsNamed Named.no_cell offset = ⊥
IsNamed (Named.slots offsets) offset = Contains offsets offset

-- each slot that was read is named, and was read once
pub record HasReadNamed (snap : Snap) : Type 0 where
  pub names : All (IsNamed (named snap)) (read_offsets snap)
  pub once : HasNoRepeats (read_offsets snap)

-- A helper's view as its own steps make it: its snap has read slots that it names, each once, and no cell is to be
-- visited twice, however many slots refer to it.
pub record IsOwnView (view : HelperView) : Type 0 where
  pub snap : IfSome view.snap HasReadNamed
  pub visit : HasNoRepeats view.visit

-- the view of a seat that was just lent, or taken back, is such a one
abbrev pub EmptyViewsAreOwn : Type 0
EmptyViewsAreOwn = IsOwnView lent × IsOwnView returned

-- and so is one after a step that the view allows, whatever word the step finds
abbrev pub OwnViewsStay : Type 0
OwnViewsStay =
    (old : ℕ) (view : HelperView) (of : Event) (found : ℕ) → MayHelper view of → IsOwnView view
    → IsOwnView (helper_learns old view of found)

-- A snap has read a cell whole: its slots are the tagged ones by the header, the layout word and, if the layout asks
-- for one, the length that were read, each once.
pub record HasReadWhole (snap : Snap) : Type 0 where
  pub header : Header
  pub is_header : header_in snap.header ≡ Some header
  pub word : ℕ
  pub read : snap.layout ≡ Some word
  pub layout : LayoutWord
  pub is_layout : layout_in word ≡ Some layout
  pub long : ℕ
  pub is_long : IsTrue (marks_by_length layout.kind) → snap.length ≡ Some long
  pub slots : (offset : ℕ) → Contains (read_offsets snap) offset ↔ Contains (tagged_offsets layout long) offset
  pub once : HasNoRepeats (read_offsets snap)

-- a helper of a world has a snap
pub record HasSnap (world : World) (view : HelperView) (snap : Snap) : Type 0 where
  pub there : Contains world.helpers view
  pub has : view.snap ≡ Some snap

-- in a sound world the snap of a grey cell names a cell, or is still to be read
abbrev pub GreySnapsNameCells : Type 0
GreySnapsNameCells =
    (world : World) (view : HelperView) (snap : Snap) → Sound world → HasSnap world view snap
    → colour_of world snap.cell ≡ grey → named snap ≢ Named.no_cell

-- so a snap that names no cell is that of a black one
abbrev pub NamelessSnapsAreBlack : Type 0
NamelessSnapsAreBlack =
    (world : World) (view : HelperView) (snap : Snap) → Sound world → HasSnap world view snap
    → named snap ≡ Named.no_cell → colour_of world snap.cell ≡ black

-- once nothing is left to read, the snap of a grey cell has read it whole
abbrev pub GreySnapsReadWhole : Type 0
GreySnapsReadWhole =
    (world : World) (view : HelperView) (snap : Snap) → Sound world → HasSnap world view snap
    → colour_of world snap.cell ≡ grey → IsOwnView view → IsReadOut (named snap) (read_offsets snap)
    → HasReadWhole snap

-- what a step asks of the view beside its condition: a cell whose header is to be loaded waits with the helper
abbrev pub AsksOwnView : HelperView → Event → Type 0
AsksOwnView view (event.LoadHeader number cell) = Contains view.grey cell
AsksOwnView view _ = Unit {0}

-- a step that the view of a seat allows is possible in a sound world
abbrev pub AllowedIsPossible : Type 0
AllowedIsPossible =
    (world : World) (number : ℕ) (view : HelperView) (of : Event) → Sound world
    → slice_get world.helpers number ≡ Some view → IsTrue view.out → actor of ≡ Actor.Helper number
    → MayHelper view of → AsksOwnView view of → Possible world of

-- in a sound world what is reached is old
abbrev pub ReachedIsOld : Type 0
ReachedIsOld = (world : World) (at : ℕ) → Sound world → IsMarked world at → at < world.old

-- in a sound world each word of the board is 0, or refers to an old cell
abbrev pub BoardRefersToOld : Type 0
BoardRefersToOld =
    (world : World) → Sound world
    → All (λ word. (word ≡ 0) ⊎ IsSomeAnd (reference_in word) (λ at. at < world.old)) world.board
