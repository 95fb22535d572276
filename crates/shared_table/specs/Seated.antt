-- What the main seat keeps in its fields.
use Rattle.std.specs.Prelude.{◌≡◌, ◌+◌, [], length}
use Rattle.std.specs.Arc.{arc_value}
use Rattle.page_space.specs.Extents.{board_words}
use Rattle.shared_table.specs.declared.main_side.MainSide.TheInside.{Inside}
use Rattle.shared_table.specs.declared.overview.View.TheVariants.{Main}
use Rattle.shared_table.specs.Worlds.{overview_of}
use Rattle.shared_table.specs.Seats.{Side}

-- the table, and what the seat knows
abbrev pub side_of : Inside → Side
side_of side = record { table = side.seat.table_id; main = overview_of side.seat.me.0 }

-- The seat is the main one of its table, which has the sizes that are kept. Its view has as many words of each kind.
-- The phase and the number of seats out are those of the view.
pub record IsSeated (side : Inside) : Type 0 where
  pub own : side.seat.table_id ≡ (arc_value side.shared).table.shared.table_id
  pub key : (arc_value side.shared).table.shared.key ≡ side.counts
  pub counted : (arc_value side.shared).table.shared.table_id.words
      ≡ side.counts.old + (side.counts.shapes + (side.counts.old + board_words))
  pub id : side.seat.id ≡ 0
  pub me : side.seat.me ≡ (Main (overview_of side.seat.me.0), [])
  pub old : (overview_of side.seat.me.0).old ≡ side.counts.old
  pub words : length (overview_of side.seat.me.0).words ≡ side.counts.old
  pub layouts : length (overview_of side.seat.me.0).layouts ≡ side.counts.shapes
  pub colours : length (overview_of side.seat.me.0).colours ≡ side.counts.old
  pub phase : (overview_of side.seat.me.0).phase ≡ side.phase
  pub out : (overview_of side.seat.me.0).out ≡ side.out
