-- What a lent seat keeps in its fields.
use Rattle.std.specs.Prelude.{◌≡◌, ◌+◌, ◌%◌, ◌<◌, ◌≤◌, [], All, IsTrue}
use Rattle.tagged_word.specs.Shapes.{shapes_most}
use Rattle.page_space.specs.Extents.{board_words}
use Rattle.page_space.specs.Sizes.{page_words}
use Rattle.mark_laws.specs.OwnAddresses.{HasOldCells}
use Rattle.mark_laws.specs.OwnViews.{IsOwnView}
use Rattle.shared_table.specs.declared.helper.HelperSeat.TheInside.{Inside}
use Rattle.shared_table.specs.declared.overview.View.TheVariants.{Helper}
use Rattle.shared_table.specs.Worlds.{lent_of}
use Rattle.shared_table.specs.Seats.{Helping}

-- the table, and what the seat knows
abbrev pub helping_of : Inside → Helping
helping_of helper = record { table = helper.seat.table_id; lent = lent_of helper.seat.me.0 }

-- The seat is one that was lent. It keeps the sizes of its table, which has whole pages and a layout word for each
-- shape
-- that there may be. Its view is out, and is one that a helper's own steps make. What it has in hand and has seen is
-- old.
pub record IsHelping (helper : Inside) : Type 0 where
  pub me : helper.seat.me ≡ (Helper (lent_of helper.seat.me.0), [])
  pub counts : (lent_of helper.seat.me.0).counts ≡ helper.counts
  pub counted : helper.seat.table_id.words
      ≡ helper.counts.old + (helper.counts.shapes + (helper.counts.old + board_words))
  pub pages : helper.counts.old % page_words ≡ 0
  pub shapes : shapes_most ≤ helper.counts.shapes
  pub out : IsTrue (lent_of helper.seat.me.0).view.out
  pub own : IsOwnView (lent_of helper.seat.me.0).view
  pub seen : All (λ at. at < helper.counts.old) (lent_of helper.seat.me.0).seen
  pub cells : HasOldCells helper.counts.old (lent_of helper.seat.me.0).view
