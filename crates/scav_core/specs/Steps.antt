-- What an event makes of a world.
use Rattle.std.specs.Prelude.{ℕ, List, [], ◌∷◌, ◌++◌, slice_get, slice_index, slice_set, Option, Some, None}
use Rattle.scav_copy.specs.declared.places.Home.{Home}
use Rattle.scav_copy.specs.Copies.{with_home}
use Rattle.scav_core.specs.declared.event.Event.{Event}
use Rattle.scav_core.specs.declared.event.Event.TheVariants as event
use Rattle.scav_core.specs.declared.step.Touch.{Touch}
use Rattle.scav_core.specs.declared.step.Touch.TheVariants as touch
use Rattle.scav_core.specs.declared.workers.WorkerView.{WorkerView}
use Rattle.scav_core.specs.declared.world.World.{World}
use Rattle.scav_core.specs.Worlds.{lent_view}
use Rattle.scav_core.specs.Views.{touched, word_after, view_after, home_made}

-- the word that is touched
abbrev pub word_found : World → Touch → ℕ
word_found world touch.Nothing = 0
word_found world (touch.Word at) = slice_index world.words at
word_found world (touch.Board place) = slice_index world.board place

-- the words, once the touched word is this
abbrev pub words_after : List ℕ → Touch → ℕ → List ℕ
words_after words touch.Nothing word = words
words_after words (touch.Word at) word = slice_set words at word
words_after words (touch.Board place) word = words

-- the board, once the touched word is this
abbrev pub board_after : List ℕ → Touch → ℕ → List ℕ
board_after board touch.Nothing word = board
board_after board (touch.Word at) word = board
board_after board (touch.Board place) word = slice_set board place word

-- the homes with the one that was made, if one was
abbrev pub homes_after : List Home → Option Home → List Home
homes_after homes None = homes
homes_after homes (Some home) = with_home homes home

-- the world after an event of a worker with this view that found this word
abbrev pub stepped : World → ℕ → Event → WorkerView → ℕ → World
stepped world worker event view found = record world {
  words = words_after world.words (touched view event) (word_after view event found);
  homes = homes_after world.homes (home_made view event found);
  board = board_after world.board (touched view event) (word_after view event found);
  workers = slice_set world.workers worker (view_after world.cells view event found);
}

-- the world after an event of a worker, if there is that worker
abbrev pub stepped_by : World → ℕ → Event → Option WorkerView → World
stepped_by world worker event None = world
stepped_by world worker event (Some view) = stepped world worker event view (word_found world (touched view event))

-- the worker whose event it is, if it is one's
abbrev pub worker_of : Event → Option ℕ
worker_of event.Look = None
worker_of event.Lend = None
worker_of (event.Return worker) = Some worker
worker_of (event.LoadSlot worker slot) = Some worker
worker_of (event.LoadHeader worker) = Some worker
worker_of (event.LoadBody worker) = Some worker
worker_of (event.CopyWord worker at word) = Some worker
worker_of (event.Forward worker to) = Some worker
worker_of (event.Redirect worker) = Some worker
worker_of (event.Give worker place at) = Some worker
worker_of (event.Take worker place) = Some worker

-- the world after an event of the main side
abbrev pub after_main : World → Event → World
after_main world event.Lend = record world { workers = world.workers ++ lent_view ∷ [] }
after_main world other = world

-- the world after an event of this worker, or of the main side
abbrev pub after_by : World → Event → Option ℕ → World
after_by world event None = after_main world event
after_by world event (Some worker) = stepped_by world worker event (slice_get world.workers worker)

-- the world after an event
abbrev pub after : World → Event → World
after world event = after_by world event (worker_of event)
