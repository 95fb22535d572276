-- What a helper has loaded of a cell before its slots, and with them.
use Rattle.std.specs.Prelude.{◌≡◌, ℕ, ◌<◌, ◌≤◌, List, [], Contains, Option, Some, None, IfSome, IsTrue}
use Rattle.std.specs.Option.{option_and_then, option_map}
use Rattle.tagged_word.specs.Cells.{cell_words_most, marks_by_length, tagged_offsets}
use Rattle.tagged_word.specs.Layouts.{IsLayout}
use Rattle.tagged_word.specs.Readings.{given, header_in, layout_in}
use Rattle.core_parts.specs.Lists.{left}
use Rattle.core_parts.specs.declared.note.Note.TheVariants.{Loaded}
use Rattle.mark_laws.specs.Types.{HelperView, LayoutWord, Snap, SnapSlot}
use Rattle.mark_world.specs.Naming.{Named, IsReadOut, is_shape, known_size, named, read_offsets}
use Rattle.mark_world.specs.Steps.{noted}
use Rattle.shared_table.specs.declared.overview.Lent.{Lent}
use Rattle.shared_table.specs.Seats.{Helping}
use Rattle.slot_snapshot.specs.declared.naming.Slots.{Slots}

-- the shape of a header, if the word is one's and there may be such a shape
abbrev pub shape_in : ℕ → Option ℕ
shape_in word = option_and_then (λ header. given (is_shape header) header.shape) (header_in word)

-- what is named by the slots that a cell has, if there is a cell
abbrev pub named_as : Option Slots → Named
named_as None = Named.no_cell
named_as (Some slots) = Named.slots (tagged_offsets slots.layout slots.length)

-- the slots lie in a cell of this layout, as long as marking knows it, which is no longer than a page
pub record AreSlots (slots : Slots) : Type 0 where
  pub layout : IsLayout slots.layout
  pub known : known_size slots.layout slots.length ≡ Some slots.size
  pub size : slots.size ≤ cell_words_most

-- what a seat knows while it reads a cell, with the snap as it is so far
abbrev pub reading : Lent → Snap → Lent
reading lent snap = record lent { view = record lent.view { snap = Some snap } }

-- the same, by what it knew before it began: the cell has left those that wait
abbrev pub begun : Lent → ℕ → Snap → Lent
begun lent cell snap = record lent {
  view = record lent.view {
    snap = Some snap;
    grey = left lent.view.grey cell;
    log = noted lent.view.log (Loaded cell);
  };
}

-- the header that was read in a snap; 0 where there is none
abbrev pub header_read : Option Snap → ℕ
header_read None = 0
header_read (Some snap) = snap.header

-- A seat that was reading a cell has loaded what tells its slots, and these are what its snap names. The header stays,
-- and no slot is read so far.
pub record IsLoaded (before after : Helping) (cell : ℕ) (found : Option Slots) : Type 0 where
  pub snap : Snap
  pub after_is : after ≡ record before { lent = reading before.lent snap }
  pub of : snap.cell ≡ cell
  pub header_is : snap.header ≡ header_read before.lent.view.snap
  pub none_read : snap.slots ≡ []
  pub names : named snap ≡ named_as found
  pub slots : IfSome found AreSlots

-- The view has a snap of the cell, whose header and layout word are read, and are those of a cell of this layout. Its
-- slots are counted by its length, which is not read so far.
pub record IsLaid (view : HelperView) (cell : ℕ) (layout : LayoutWord) : Type 0 where
  pub snap : Snap
  pub has : view.snap ≡ Some snap
  pub of : snap.cell ≡ cell
  pub shape : ℕ
  pub is_shape : shape_in snap.header ≡ Some shape
  pub word : ℕ
  pub read : snap.layout ≡ Some word
  pub is_layout : layout_in word ≡ Some layout
  pub long : IsTrue (marks_by_length layout.kind)
  pub unread : snap.length ≡ None
  pub none_read : snap.slots ≡ []

-- the view has a snap of the cell, which names these slots, and none is read
pub record IsAwaiting (view : HelperView) (cell : ℕ) (slots : Slots) : Type 0 where
  pub snap : Snap
  pub has : view.snap ≡ Some snap
  pub of : snap.cell ≡ cell
  pub names : named snap ≡ Named.slots (tagged_offsets slots.layout slots.length)
  pub none_read : snap.slots ≡ []

-- the offset of a slot that was read
abbrev pub offset_of : SnapSlot → ℕ
offset_of slot = slot.offset

-- what a seat knows that is reading a cell, with these slots
abbrev pub with_slots : Lent → List SnapSlot → Lent
with_slots lent slots = record lent {
  view = record lent.view { snap = option_map (λ (snap : Snap). record snap { slots = slots }) lent.view.snap };
}

-- of these offsets, just those below one were read
pub record HasReadBelow (offsets : List ℕ) (below : ℕ) (read : List ℕ) : Type 0 where
  pub each : (offset : ℕ) → Contains read offset → Contains offsets offset × (offset < below)
  pub all : (offset : ℕ) → Contains offsets offset → offset < below → Contains read offset

-- A seat has read a cell: its snap began with the header, and has these slots. Nothing that it names is left to read.
pub record IsRead (before after : Helping) (cell header : ℕ) (slots : List SnapSlot) : Type 0 where
  pub snap : Snap
  pub after_is : after ≡ record before { lent = begun before.lent cell snap }
  pub of : snap.cell ≡ cell
  pub header_is : snap.header ≡ header
  pub slots_are : snap.slots ≡ slots
  pub out : IsReadOut (named snap) (read_offsets snap)
