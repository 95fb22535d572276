-- The world of marking that a heap's pages are between two commands of an open cycle.
use Rattle.std.specs.Prelude.{◌≡◌, ℕ, List, [], take}
use Rattle.page_space.specs.Extents.{eden_start}
use Rattle.cell_layout.specs.Cells.{layouts_in}
use Rattle.mark_world.specs.declared.views.MainView.{MainView}
use Rattle.mark_world.specs.declared.world.World.{World}
use Rattle.mark_world.specs.Cycles.{Cycle}
use Rattle.heap_model.specs.Heaps.{Heap}

-- what the mutator's seat knows between two commands: it owes nothing. No law here asks for its grey cells and its log
abbrev pub main_of : Cycle → MainView
main_of cycle = record {
  starts = cycle.starts;
  born = cycle.born;
  mine = cycle.mine;
  sure = cycle.sure;
  owed = [];
  grey = [];
  log = [];
}

-- the words of the pages
abbrev pub words_of_pages : Heap → List ℕ
words_of_pages heap = take (eden_start heap.space) heap.words

-- the world of marking that the pages are, with no colours, no board and no helpers
abbrev pub world_in : Heap → Cycle → World
world_in heap cycle = record {
  old = eden_start heap.space;
  words = words_of_pages heap;
  layouts = layouts_in heap.space heap.words;
  colours = [];
  board = [];
  main = main_of cycle;
  helpers = [];
}

-- A world of marking is that of the heap's pages between two commands of the cycle, with any colours, board and
-- helpers.
pub record IsWorldOf (heap : Heap) (cycle : Cycle) (world : World) : Type 0 where
  pub is : world ≡ record (world_in heap cycle) {
    colours = world.colours;
    board = world.board;
    main = record (main_of cycle) { grey = world.main.grey; log = world.main.log };
    helpers = world.helpers;
  }
