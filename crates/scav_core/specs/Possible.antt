-- Which events are possible in a world.
use Rattle.std.specs.Prelude.{ℕ, ◌+◌, ◌-◌, ◌==◌, ◌&&◌, ◌||◌, Bool, true, false, List, length, slice_get}
use Rattle.std.specs.Prelude.{slice_index}
use Rattle.std.specs.Prelude.{Option, Some, None, is_none, nat_lt, nat_le}
use Rattle.std.specs.List.{list_any, list_all, range_with_len}
use Rattle.std.specs.Option.{option_and_then}
use Rattle.tagged_word.specs.declared.layout.LayoutWord.{LayoutWord}
use Rattle.tagged_word.specs.Cells.{has_length, cell_size, length_by}
use Rattle.tagged_word.specs.Readings.{header_in, shape_layout, reference_in}
use Rattle.page_space.specs.Extents.{board_words}
use Rattle.core_parts.specs.Lists.{is_in}
use Rattle.scav_copy.specs.declared.places.Home.{Home}
use Rattle.scav_copy.specs.declared.places.Room.{Room}
use Rattle.scav_copy.specs.Places.{Fixed, size_of, offsets_of}
use Rattle.scav_core.specs.declared.event.Event.{Event}
use Rattle.scav_core.specs.declared.event.Event.TheVariants as event
use Rattle.scav_core.specs.declared.workers.Job.{Job}
use Rattle.scav_core.specs.declared.workers.WorkerView.{WorkerView}
use Rattle.scav_core.specs.declared.world.World.{World}
use Rattle.scav_core.specs.Worlds.{fixed_of, workers_most, out_count}
use Rattle.scav_core.specs.Steps.{worker_of}

-- whether the address is a slot of the home copy
abbrev pub is_copied_slot : Fixed → ℕ → Home → Bool
is_copied_slot fixed slot home = nat_le home.to slot && is_in (offsets_of fixed home.from) (slot - home.to)

-- whether the slot is live: one of `slots`, or a slot of a home copy
abbrev pub is_live : Fixed → List Home → ℕ → Bool
is_live fixed homes slot = is_in fixed.slots slot || list_any (λ home. is_copied_slot fixed slot home) homes

-- whether so many words from an address on share none with the home copy
abbrev pub is_disjoint : Fixed → ℕ → ℕ → Home → Bool
is_disjoint fixed first many home =
    size_of fixed home.from == 0 || nat_le (home.to + size_of fixed home.from) first || nat_le (first + many) home.to

-- whether they share none with any home copy
abbrev pub is_free : Fixed → List Home → ℕ → ℕ → Bool
is_free fixed homes first many = list_all (λ home. is_disjoint fixed first many home) homes

-- whether they lie in the room, and that is the worker's
abbrev pub is_in_room : ℕ → ℕ → ℕ → Room → Bool
is_in_room worker first many room =
    room.worker == worker && nat_le room.from first && nat_le (first + many) room.to

-- whether they lie in one room of the worker's
abbrev pub is_in_own_room : List Room → ℕ → ℕ → ℕ → Bool
is_in_own_room rooms worker first many = list_any (λ room. is_in_room worker first many room) rooms

-- how many words are to be read: all of the cell, or its length first
abbrev pub wanted_by : LayoutWord → Option ℕ → Option ℕ
wanted_by layout None = Some 2
wanted_by layout (Some long) = cell_size layout long

-- How many words of the cell are to be read that a header names, and for a store, a table and a gap the word behind it.
-- There is no number where they name no layout, or no size of a cell; a forwarding word names none.
abbrev pub words_wanted : List ℕ → ℕ → List ℕ → Option ℕ
words_wanted layouts header body =
    option_and_then (λ head. option_and_then
    (λ layout. wanted_by layout (length_by (has_length layout.kind) (slice_get body 0)))
    (shape_layout layouts head.shape)) (header_in header)

-- whether more words are wanted than there are
abbrev pub is_part : Option ℕ → ℕ → Bool
is_part None many = false
is_part (Some wanted) many = nat_lt many wanted

-- whether just so many words are wanted as there are
abbrev pub is_whole : Option ℕ → ℕ → Bool
is_whole None many = false
is_whole (Some wanted) many = wanted == many

-- whether the header and the body stand from an address on
abbrev pub stands_at : List ℕ → ℕ → ℕ → List ℕ → Bool
stands_at words first header body =
    slice_index words first == header
    && list_all (λ offset. slice_index words (first + 1 + offset) == slice_index body offset)
    (range_with_len 0 (length body))

-- whether there is a job of which this holds
abbrev pub job_is : Option Job → (Job → Bool) → Bool
job_is None test = false
job_is (Some job) test = test job

-- whether there is a header of which this holds
abbrev pub header_is : Option ℕ → (ℕ → Bool) → Bool
header_is None test = false
header_is (Some header) test = test header

-- whether a slot may be read: the worker is at none, and this one is live
abbrev pub may_load_slot : World → ℕ → WorkerView → Bool
may_load_slot world slot view =
    is_none view.job && is_live (fixed_of world) world.homes slot && nat_lt slot (length world.words)

-- whether the header of the job may be read: it isn't read
abbrev pub may_load_header : World → Job → Bool
may_load_header world job = is_none job.header && nat_lt job.cell (length world.words)

-- whether the next word of the cell may be read: the body isn't whole
abbrev pub may_load_body : World → Job → Bool
may_load_body world job =
    header_is job.header (λ header. is_part (words_wanted world.layouts header job.body) (1 + length job.body))
    && nat_lt (job.cell + 1 + length job.body) (length world.words)

-- whether a word may be stored: it is one of the worker's own room, and of no home copy
abbrev pub may_copy_word : World → ℕ → ℕ → Bool
may_copy_word world worker at =
    is_in_own_room world.rooms worker at 1 && is_free (fixed_of world) world.homes at 1
    && nat_lt at (length world.words)

-- whether a header and a body are a whole cell, and stand from an address on in one room of the worker's and in no home
-- copy
abbrev pub is_copy : World → ℕ → ℕ → ℕ → List ℕ → Bool
is_copy world worker to header body =
    is_whole (words_wanted world.layouts header body) (1 + length body)
    && nat_le (to + (1 + length body)) (length world.words)
    && is_in_own_room world.rooms worker to (1 + length body)
    && is_free (fixed_of world) world.homes to (1 + length body)
    && stands_at world.words to header body

-- whether the header may be exchanged for the reference to that copy
abbrev pub may_forward : World → ℕ → ℕ → Job → Bool
may_forward world worker to job =
    header_is job.header (λ header. is_copy world worker to header job.body) && nat_lt job.cell (length world.words)

-- whether a home copy stands at the address
abbrev pub is_home : List Home → Option ℕ → Bool
is_home homes None = false
is_home homes (Some at) = list_any (λ home. home.to == at) homes

-- whether the header of the job may go into its slot: it is the reference to a home copy
abbrev pub may_redirect : World → Job → Bool
may_redirect world job =
    header_is job.header (λ header. is_home world.homes (reference_in header)) && nat_lt job.slot (length world.words)

-- whether there is such a word of the board
abbrev pub is_place : World → ℕ → Bool
is_place world place = nat_lt place board_words && nat_lt place (length world.board)

-- whether a worker that is out, and has this view, may do this
abbrev pub may : World → Event → WorkerView → Bool
may world event.Look view = true
may world event.Lend view = true
may world (event.Return worker) view = true
may world (event.LoadSlot worker slot) view = may_load_slot world slot view
may world (event.LoadHeader worker) view = job_is view.job (may_load_header world)
may world (event.LoadBody worker) view = job_is view.job (may_load_body world)
may world (event.CopyWord worker at word) view = may_copy_word world worker at
may world (event.Forward worker to) view = job_is view.job (may_forward world worker to)
may world (event.Redirect worker) view = job_is view.job (may_redirect world)
may world (event.Give worker place at) view = is_place world place && is_in view.todo at
may world (event.Take worker place) view = is_place world place

-- whether there is that worker, it is out, and may do this
abbrev pub may_by : World → Event → Option WorkerView → Bool
may_by world event None = false
may_by world event (Some view) = view.out && may world event view

-- whether the main side may do this
abbrev pub may_main : World → Event → Bool
may_main world event.Lend = nat_lt (out_count world.workers) workers_most
may_main world other = true

-- whether an event of this worker, or of the main side, is possible
abbrev pub is_possible_by : World → Event → Option ℕ → Bool
is_possible_by world event None = may_main world event
is_possible_by world event (Some worker) = may_by world event (slice_get world.workers worker)

-- whether an event is possible
abbrev pub is_possible : World → Event → Bool
is_possible world event = is_possible_by world event (worker_of event)
