-- A heap's main seat on whose page a cycle has begun with three cells.
use Rattle.std.specs.Prelude.{◌≡◌, true, Contains}
use Rattle.page_space.specs.Extents.{eden_start}
use Rattle.cell_layout.specs.Cells.{layouts_in}
use Rattle.shared_table.specs.declared.phase.Phase.TheVariants.{Mark}
use Rattle.heap_table.specs.Overviews.{overview}
use Rattle.heap_table.specs.Seats.{Seat}
use Rattle.mark_barrier.specs.Paid.{IsPaid}
use Rattle.mark_barrier.specs.Waiting.{Waiting}
use Rattle.table_tests.specs.CellPages.{three_starts}

-- A cycle is open that began with the three cells, with no seat out. The layout words that helpers read are the own
-- ones. Nothing is owed.
pub record IsMarking (seat : Seat) (grey : Waiting) : Type 0 where
  pub mark : seat.phase ≡ Mark
  pub page : eden_start seat.space ≡ 2048
  pub home : (overview seat).home ≡ true
  pub starts : (overview seat).view.starts ≡ three_starts
  pub born : (overview seat).view.born ≡ three_starts
  pub layouts : layouts_in seat.space seat.table ≡ (overview seat).layouts
  pub paid : IsPaid seat grey

-- and the mutator has made the first of them black
pub record HasFirstBlack (seat : Seat) (grey : Waiting) : Type 0 where
  pub marking : IsMarking seat grey
  pub mine : Contains (overview seat).view.mine 0
