-- The world of a scavenge: what of it no event changes, and its workers.
use Rattle.std.specs.Prelude.{◌≡◌, ℕ, true, List, [], length, filter, None}
use Rattle.core_parts.specs.Boards.{empty_board}
use Rattle.scav_copy.specs.Places.{Fixed, IsLaidOut}
use Rattle.scav_core.specs.declared.workers.WorkerView.{WorkerView}
use Rattle.scav_core.specs.declared.world.World.{World}

-- what no event changes
abbrev pub fixed_of : World → Fixed
fixed_of world = record {
  before = world.before;
  layouts = world.layouts;
  cells = world.cells;
  slots = world.slots;
  rooms = world.rooms;
}

-- the most workers that may be at work at a time
abbrev pub workers_most : ℕ
workers_most = 7

-- how many workers are at work
abbrev pub out_count : List WorkerView → ℕ
out_count workers = length (filter (λ view. view.out) workers)

-- the view of a worker that begins
abbrev pub lent_view : WorkerView
lent_view = record { out = true; job = None; todo = []; log = [] }

-- A scavenge that begins: each address is named for one thing, the words are as before, no cell has a home, no worker
-- began, and the board is empty.
pub record IsFresh (world : World) : Type 0 where
  pub laid : IsLaidOut (fixed_of world)
  pub words : world.words ≡ world.before
  pub homes : world.homes ≡ []
  pub workers : world.workers ≡ []
  pub board : world.board ≡ empty_board
