-- An event of one worker, by what its view, the event and the word that it found say: the word that it touches, that
-- word afterwards, the view afterwards, and the home that it makes.
use Rattle.std.specs.Prelude.{ℕ, ◌+◌, ◌==◌, Bool, false, List, [], ◌∷◌, ◌++◌, length, Option, Some, None}
use Rattle.std.specs.Prelude.{if◌then◌else◌}
use Rattle.std.specs.Option.{option_and_then}
use Rattle.tagged_word.specs.declared.word.Class.TheVariants.{Ref}
use Rattle.tagged_word.specs.Words.{bits_of}
use Rattle.tagged_word.specs.Readings.{given, reference_in}
use Rattle.core_parts.specs.declared.note.Note.TheVariants.{Loaded, Gave, Took}
use Rattle.core_parts.specs.Lists.{is_in, joined}
use Rattle.core_parts.specs.Boards.{given_word, giver_left, taken_word, taker_joined}
use Rattle.scav_copy.specs.declared.places.Home.{Home}
use Rattle.scav_core.specs.declared.event.Event.{Event}
use Rattle.scav_core.specs.declared.event.Event.TheVariants as event
use Rattle.scav_core.specs.declared.step.Touch.{Touch}
use Rattle.scav_core.specs.declared.step.Touch.TheVariants as touch
use Rattle.scav_core.specs.declared.workers.Job.{Job}
use Rattle.scav_core.specs.declared.workers.WorkerView.{WorkerView}

-- the address that a job names, if there is one
abbrev pub touched_by : (Job → ℕ) → Option Job → Touch
touched_by place None = touch.Nothing
touched_by place (Some job) = touch.Word (place job)

-- the word that an event touches: a slot, the header or the next word of the cell, a word of the room, or one of the
-- board
abbrev pub touched : WorkerView → Event → Touch
touched view event.Look = touch.Nothing
touched view event.Lend = touch.Nothing
touched view (event.Return worker) = touch.Nothing
touched view (event.LoadSlot worker slot) = touch.Word slot
touched view (event.LoadHeader worker) = touched_by (λ job. job.cell) view.job
touched view (event.LoadBody worker) = touched_by (λ job. job.cell + 1 + length job.body) view.job
touched view (event.CopyWord worker at word) = touch.Word at
touched view (event.Forward worker to) = touched_by (λ job. job.cell) view.job
touched view (event.Redirect worker) = touched_by (λ job. job.slot) view.job
touched view (event.Give worker place at) = touch.Board place
touched view (event.Take worker place) = touch.Board place

-- whether the header found is the one that was read, if one was
abbrev pub is_header : Option ℕ → ℕ → Bool
is_header None found = false
is_header (Some header) found = header == found

-- whether the header found is the one that the job has read
abbrev pub is_as_read : Option Job → ℕ → Bool
is_as_read None found = false
is_as_read (Some job) found = is_header job.header found

-- the header of a cell after an exchange: the reference to the copy where the header is as read, else it stays
abbrev pub header_after : Option Job → ℕ → ℕ → ℕ
header_after job to found = if is_as_read job found then bits_of (Ref to) else found

-- the header that a job has, or the word that stands where it has none
abbrev pub header_or : Option ℕ → ℕ → ℕ
header_or None found = found
header_or (Some header) found = header

-- the reference that goes into the job's slot: what the job has for a header
abbrev pub slot_after : Option Job → ℕ → ℕ
slot_after None found = found
slot_after (Some job) found = header_or job.header found

-- the touched word after the event
abbrev pub word_after : WorkerView → Event → ℕ → ℕ
word_after view event.Look found = found
word_after view event.Lend found = found
word_after view (event.Return worker) found = found
word_after view (event.LoadSlot worker slot) found = found
word_after view (event.LoadHeader worker) found = found
word_after view (event.LoadBody worker) found = found
word_after view (event.CopyWord worker at word) found = word
word_after view (event.Forward worker to) found = header_after view.job to found
word_after view (event.Redirect worker) found = slot_after view.job found
word_after view (event.Give worker place at) found = given_word found at
word_after view (event.Take worker place) found = taken_word found

-- the home of the job's cell, if there is a job
abbrev pub home_at : Option Job → ℕ → Option Home
home_at None to = None
home_at (Some job) to = Some (record { from = job.cell; to = to })

-- the home that an event makes: that of the job's cell, where the header found is the one that was read
abbrev pub home_made : WorkerView → Event → ℕ → Option Home
home_made view (event.Forward worker to) found = if is_as_read view.job found then home_at view.job to else None
home_made view other found = None

-- the job of a slot that refers to a cell, if that is one of these
abbrev pub job_for : List ℕ → ℕ → ℕ → Option Job
job_for cells slot cell =
    given (is_in cells cell) (record { slot = slot; cell = cell; header = None; body = [] })

-- the job of a slot whose word is this, if it refers to one of the cells
abbrev pub job_at : List ℕ → ℕ → ℕ → Option Job
job_at cells slot word = option_and_then (λ cell. job_for cells slot cell) (reference_in word)

-- the job with this header
abbrev pub with_header : Option Job → ℕ → Option Job
with_header None header = None
with_header (Some job) header = Some (record job { header = Some header })

-- the job with one word more
abbrev pub with_body_word : Option Job → ℕ → Option Job
with_body_word None word = None
with_body_word (Some job) word = Some (record job { body = job.body ++ word ∷ [] })

-- the view after a slot was read
abbrev pub loaded_view : List ℕ → WorkerView → ℕ → ℕ → WorkerView
loaded_view cells view slot found =
    record view { job = job_at cells slot found; log = view.log ++ Loaded slot ∷ [] }

-- the view after an exchange
abbrev pub forwarded_view : WorkerView → ℕ → ℕ → WorkerView
forwarded_view view to found = record view {
  job = with_header view.job (header_after view.job to found);
  todo = if is_as_read view.job found then joined view.todo to else view.todo;
}

-- the view after a copy was given to the board
abbrev pub given_view : WorkerView → ℕ → ℕ → ℕ → WorkerView
given_view view place at found =
    record view { todo = giver_left view.todo found at; log = view.log ++ Gave place found ∷ [] }

-- the view after a word of the board was taken
abbrev pub taken_view : WorkerView → ℕ → ℕ → WorkerView
taken_view view place found =
    record view { todo = taker_joined view.todo found; log = view.log ++ Took place found ∷ [] }

-- the view of a worker after its event
abbrev pub view_after : List ℕ → WorkerView → Event → ℕ → WorkerView
view_after cells view event.Look found = view
view_after cells view event.Lend found = view
view_after cells view (event.Return worker) found = record view { out = false }
view_after cells view (event.LoadSlot worker slot) found = loaded_view cells view slot found
view_after cells view (event.LoadHeader worker) found = record view { job = with_header view.job found }
view_after cells view (event.LoadBody worker) found = record view { job = with_body_word view.job found }
view_after cells view (event.CopyWord worker at word) found = view
view_after cells view (event.Forward worker to) found = forwarded_view view to found
view_after cells view (event.Redirect worker) found = record view { job = None }
view_after cells view (event.Give worker place at) found = given_view view place at found
view_after cells view (event.Take worker place) found = taken_view view place found
