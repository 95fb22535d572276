-- What the steps of a lent seat tell it.
use Rattle.std.specs.Prelude.{◌≡◌, ◌≢◌, ℕ, ◌+◌, ◌-◌, ◌<◌, ◌≤◌, ◌⊎◌, Contains, Option, Some, None, IfSome, IsSomeAnd}
use Rattle.std.specs.Prelude.{if◌then◌else◌}
use Rattle.atomic_table.specs.Table.{Me, Step}
use Rattle.tagged_word.specs.Readings.{header_in, reference_in}
use Rattle.core_parts.specs.Lists.{is_in, joined}
use Rattle.page_space.specs.Extents.{board_words}
use Rattle.mark_laws.specs.OwnViews.{HasReadWhole}
use Rattle.mark_laws.specs.Types.{Event, HelperView, Snap}
use Rattle.mark_world.specs.declared.event.Event.TheVariants as event
use Rattle.mark_world.specs.Steps.{white, grey, black, helper_learns}
use Rattle.shared_table.specs.declared.overview.Counts.{Counts}
use Rattle.shared_table.specs.declared.overview.Lent.{Lent}
use Rattle.shared_table.specs.declared.overview.View.{View}
use Rattle.shared_table.specs.declared.overview.View.TheVariants.{Helper}
use Rattle.shared_table.specs.Worlds.{lent_of}
use Rattle.shared_table.specs.Told.{cell_referred}

-- the number by which a lent seat names itself in its events; what it learns of one does not depend on it
abbrev pub own_number : ℕ
own_number = 0

-- what a lent seat knows after an event of its own, by the word found
abbrev pub learned : Lent → Event → ℕ → Lent
learned lent of found = record lent { view = helper_learns lent.counts.old lent.view of found }

-- the snap of the view is of this cell
abbrev pub IsReading : HelperView → ℕ → Type 0
IsReading view cell = IsSomeAnd view.snap (λ snap. snap.cell ≡ cell)

-- the header that the view's snap has read is of this shape
abbrev pub HasReadShape : HelperView → ℕ → Type 0
HasReadShape view shape = IsSomeAnd view.snap (λ snap. IsSomeAnd (header_in snap.header) (λ header. header.shape ≡
    shape))

-- the helper's view once it has shaded a cell, which is an event where it was to visit the cell
abbrev pub shaded_view : ℕ → HelperView → ℕ → ℕ → HelperView
shaded_view old view at found =
    if is_in view.visit at then helper_learns old view (event.ShadeHelper own_number at) found else view

-- what a lent seat knows once it has shaded a cell: it has seen that the cell is not white
abbrev pub shaded : Lent → ℕ → ℕ → Lent
shaded lent at found =
    record lent { view = shaded_view lent.counts.old lent.view at found; seen = joined lent.seen at }

-- The colour of the cell of a snap that is settled is grey or black. Where it is grey, the snap has read the cell
-- whole.
pub record FindsSettled (view : HelperView) (found : ℕ) : Type 0 where
  pub three : found ≤ black
  pub reached : found ≢ white
  pub whole : found ≡ grey → IfSome view.snap HasReadWhole

-- the colour of a cell that is shaded is not white where the seat has seen that
pub record FindsShaded (lent : Lent) (at found : ℕ) : Type 0 where
  pub three : found ≤ black
  pub seen : Contains lent.seen at → found ≢ white

-- a word of the board is 0, or refers to an old cell
abbrev pub RefersToOld : Lent → ℕ → Type 0
RefersToOld lent found = (found ≡ 0) ⊎ IsSomeAnd (reference_in found) (λ at. at < lent.counts.old)

-- the cell of a snap; 0 where there is none
abbrev pub cell_of_snap : Option Snap → ℕ
cell_of_snap None = 0
cell_of_snap (Some snap) = snap.cell

-- the table has so many words
abbrev pub HasPlace : Counts → ℕ → Type 0
HasPlace counts place = place < counts.old + (counts.shapes + (counts.old + board_words))

module _ {S : Type 0} where
  -- the cell whose colour a step touches, and the place of the board
  abbrev pub shaded_cell : Lent → Step S → ℕ
  shaded_cell lent st = st.word - (lent.counts.old + lent.counts.shapes)

  abbrev pub place_on_board : Lent → Step S → ℕ
  place_on_board lent st = st.word - (lent.counts.old + (lent.counts.shapes + lent.counts.old))

  -- the event that a step is, by what the seat knows
  abbrev pub header_load : Lent → Step S → Event
  header_load lent st = event.LoadHeader own_number st.word

  abbrev pub layout_load : Lent → Step S → Event
  layout_load lent st = event.LoadLayout own_number

  abbrev pub length_load : Lent → Step S → Event
  length_load lent st = event.LoadLength own_number

  abbrev pub slot_load : Lent → Step S → Event
  slot_load lent st = event.LoadSlot own_number (st.word - cell_of_snap lent.view.snap)

  abbrev pub settling : Lent → Step S → Event
  settling lent st = event.Settle own_number

  abbrev pub giving : Lent → Step S → Event
  giving lent st = event.Give own_number (place_on_board lent st) (cell_referred (reference_in st.second))

  abbrev pub taking : Lent → Step S → Event
  taking lent st = event.Take own_number (place_on_board lent st)

  -- a step is an event
  abbrev pub tells_learned : (Lent → Step S → Event) → Step S → Me S View → ℕ → Me S View → Type 0
  tells_learned of st me found now =
      now ≡ (Helper (learned (lent_of me.0) (of (lent_of me.0) st) found), me.1)

  -- a snap is settled
  abbrev pub tells_settled : Step S → Me S View → ℕ → Me S View → Type 0
  tells_settled st me found now = tells_learned settling st me found now × FindsSettled (lent_of me.0).view found

  -- a cell is shaded
  abbrev pub tells_shaded : Step S → Me S View → ℕ → Me S View → Type 0
  tells_shaded st me found now =
      (now ≡ (Helper (shaded (lent_of me.0) (shaded_cell (lent_of me.0) st) found), me.1))
      × FindsShaded (lent_of me.0) (shaded_cell (lent_of me.0) st) found

  -- a load shades a cell that is not white, and else the seat learns that it has not seen it so
  abbrev pub tells_seen : Step S → Me S View → ℕ → Me S View → Type 0
  tells_seen st me found now =
      (found ≢ white → tells_shaded st me found now)
      × (found ≡ white → (now ≡ me) × (Contains (lent_of me.0).seen (shaded_cell (lent_of me.0) st) → ⊥))

  -- a word is taken from the board: 0, or the reference to an old cell
  abbrev pub tells_taken : Step S → Me S View → ℕ → Me S View → Type 0
  tells_taken st me found now = tells_learned taking st me found now × RefersToOld (lent_of me.0) found

  -- a load takes nothing from the board where nothing is there, and else the seat learns nothing
  abbrev pub tells_none : Step S → Me S View → ℕ → Me S View → Type 0
  tells_none st me found now = (found ≡ 0 → tells_learned taking st me found now) × (found ≢ 0 → now ≡ me)

  -- a word is read, and nothing is learned of it
  abbrev pub tells_nothing : Step S → Me S View → ℕ → Me S View → Type 0
  tells_nothing st me found now = now ≡ me
