-- Events that copy: a word of a room, the exchange of a header, the reference in a slot.
use Rattle.std.proofs.Common.{ℕ, zero, suc, ◌<◌, ◌+◌, ◌≡◌, ◌≢◌, true, List}
use Rattle.std.proofs.Common.{length, get_or, set, slice_get, Option, Some, nat_lt, nat_le, arith, refl, sym, ap}
use Rattle.std.proofs.Common.{subst, ◌∙◌}
use Rattle.std.specs.List.{Contains}
use Rattle.std.proofs.lemmas.Bool.{true≢false}
use Rattle.tagged_word.specs.declared.word.Class.TheVariants.{Ref}
use Rattle.tagged_word.specs.Words.{bits_of}
use Rattle.tagged_word.specs.Readings.{reference_in}
use Rattle.scav_copy.specs.Places.{Fixed, size_of, IsInRange, IsInRooms, IsInCopies}
use Rattle.scav_copy.specs.Copies.{IsCopyAt}
use Rattle.scav_copy.proofs.Filling.{rooms_may_be_filled, free_is_not_live}
use Rattle.scav_copy.proofs.Spots.{elsewhere}
use Rattle.scav_core.specs.declared.workers.Job.{Job}
use Rattle.scav_core.specs.declared.workers.WorkerView.{WorkerView}
use Rattle.scav_core.specs.declared.world.World.{World}
use Rattle.scav_core.specs.Worlds.{fixed_of}
use Rattle.scav_core.specs.Possible.{is_free, is_in_own_room, is_copy, is_whole, stands_at, words_wanted, may_copy_word}
use Rattle.scav_core.specs.Underway.{IsQuiet}
use Rattle.scav_core.specs.Underway.{Underway}
use Rattle.scav_core.proofs.Enabled.{three_parts, five_parts, IsInOwnRoom, free_apart, in_own_room, each_same}
use Rattle.scav_core.proofs.Enabled.{first_same}
use Rattle.scav_core.proofs.Keeping.{Stays, IsChange, Keeps, still_read, still_job, same_work}
use Rattle.scav_core.proofs.Loading.{none_wanted}
use Rattle.scav_core.proofs.Wanted.{wanted, whole_size}

-- words that lie in a room of a worker are words of a room
in_rooms : (fixed : Fixed) (worker first many at : ℕ) → IsInOwnRoom fixed.rooms worker first many
    → IsInRange first many at
    → IsInRooms fixed at
in_rooms fixed worker first many at own within = (
  own.room,
  own.among,
  record {
    from = omega (arith, own.from, within.from);
    below = omega (arith, own.ends, within.below);
  },
)

-- a slot that is not stored to refers to no cell, if it did not
pub quiet_elsewhere : (fixed : Fixed) (words : List ℕ) (at word slot : ℕ) → slot ≢ at → IsQuiet fixed words slot
    → IsQuiet fixed (set words at word) slot
quiet_elsewhere fixed words at word slot other quiet cell refers =
    quiet cell (subst (λ (w : ℕ). reference_in w ≡ Some cell) (elsewhere words at word slot other) refers)

-- a word is stored in the worker's own room
pub word_copied : {world : World} (worker at word : ℕ) (view : WorkerView) → Underway world
    → slice_get world.workers worker ≡ Some view → Contains world.workers view → may_copy_word world worker at ≡ true
    → Keeps world (set world.words at word) world.homes world.board worker view view
word_copied {world} worker at word view underway stood inside may =
    let fixed = fixed_of world in
    let parts = three_parts (is_in_own_room world.rooms worker at 1) (is_free fixed world.homes at 1)
    (nat_lt at (length world.words)) may in
    let itself : IsInRange at 1 at = record { from = omega arith; below = omega arith } in
    let in_room : IsInRooms fixed at = in_rooms fixed worker at 1 at
    (in_own_room world.rooms worker at 1 parts.0) itself in
    let free : IsInCopies fixed world.homes at → ⊥ = λ copy.
    free_apart fixed world.homes at 1 copy.0 at parts.1 copy.1 copy.2 itself in
    let stays : Stays fixed world.words (set world.words at word) world.homes world.homes = record {
      homes_stay = λ home there. there;
      live = λ slot place live. live;
      quiet = λ slot place live quiet.
          quiet_elsewhere fixed world.words at word slot
          (free_is_not_live at slot place underway.laid in_room free live) quiet;
    } in
    record {
      stood = stood;
      change =
          let own = in_own_room world.rooms worker at 1 parts.0 in
          IsChange.storing at word own.room refl refl own.among own.own
          (record { from = own.from; below = omega (arith, own.ends) }) free;
      copying = rooms_may_be_filled fixed world.words world.homes at word underway.laid underway.copying in_room free;
      board_is = underway.board;
      work = same_work world worker view view stood refl underway.work;
      stays = stays;
      logs = λ slot there. still_read stays (underway.logs view inside slot there);
      jobs = λ is. still_job view.job stays (underway.jobs view inside is);
    }

-- what a worker that may exchange a header has: a whole copy of its own, in the words of before
pub record Copied (world : World) (worker to : ℕ) (job : Job) : Type 0 where
  pub many : 1 + length job.body ≡ size_of (fixed_of world) job.cell
  pub own : IsInOwnRoom world.rooms worker to (1 + length job.body)
  pub free : is_free (fixed_of world) world.homes to (1 + length job.body) ≡ true
  pub header : get_or world.words to 0 ≡ get_or world.before job.cell 0
  pub body : (offset : ℕ) → offset < length job.body
      → get_or world.words (to + 1 + offset) 0 ≡ get_or world.before (job.cell + 1 + offset) 0

-- the words at a copy are those of the cell
copy_whole : {world : World} (worker to : ℕ) (job : Job) → Copied world worker to job → (offset : ℕ)
    → offset < size_of (fixed_of world) job.cell
    → get_or world.words (to + offset) 0 ≡ get_or world.before (job.cell + offset) 0
copy_whole {world} worker to job copied zero less =
    ap (λ (at : ℕ). get_or world.words at 0) (omega arith) ∙ copied.header
    ∙ ap (λ (at : ℕ). get_or world.before at 0) (omega arith)
copy_whole {world} worker to job copied (suc offset) less =
    let within : offset < length job.body = omega (arith, less, copied.many) in
    ap (λ (at : ℕ). get_or world.words at 0) (omega arith) ∙ copied.body offset within
    ∙ ap (λ (at : ℕ). get_or world.before at 0) (omega arith)

-- such a copy is one for its cell
pub copy_at : {world : World} (worker to : ℕ) (job : Job) → Copied world worker to job
    → IsCopyAt (fixed_of world) world.words world.homes job.cell to
copy_at {world} worker to job copied = record {
  room = copied.own.room;
  lies = record {
    among = copied.own.among;
    from = copied.own.from;
    ends = omega (arith, copied.own.ends, copied.many);
  };
  apart = λ home at there has also.
      free_apart (fixed_of world) world.homes to (1 + length job.body) home at copied.free there has
      (record { from = also.from; below = omega (arith, also.below, copied.many) });
  whole = copy_whole worker to job copied;
}

-- a header of before that was read, and the words behind it, that stand in an own room are a copy
pub copied_by : {world : World} (worker to : ℕ) (job : Job) → Underway world → Contains world.cells job.cell
    → ((offset : ℕ) → offset < length job.body
    → get_or job.body offset 0 ≡ get_or world.before (job.cell + 1 + offset) 0)
    → is_copy world worker to (get_or world.before job.cell 0) job.body ≡ true → Copied world worker to job
copied_by {world} worker to job underway among same may =
    let fixed = fixed_of world in
    let header : ℕ = get_or world.before job.cell 0 in
    let wants = words_wanted world.layouts header job.body in
    let parts = five_parts (is_whole wants (1 + length job.body))
    (nat_le (to + (1 + length job.body)) (length world.words))
    (is_in_own_room world.rooms worker to (1 + length job.body)) (is_free fixed world.homes to (1 + length job.body))
    (stands_at world.words to header job.body) may in
    record {
      many = whole_size wants (size_of fixed job.cell) job.body
          (wanted fixed job.cell header job.body (underway.laid.cells_are job.cell among) refl same) parts.0;
      own = in_own_room world.rooms worker to (1 + length job.body) parts.2;
      free = parts.3;
      header = first_same world.words to header job.body parts.4;
      body = λ offset less.
          each_same world.words to header job.body offset parts.4 less ∙ same offset less;
    }

-- a header word that wants words is no reference
pub not_reference : (layouts : List ℕ) (header at many : ℕ) (body : List ℕ)
    → is_whole (words_wanted layouts header body) many ≡ true → header ≢ bits_of (Ref at)
not_reference layouts header at many body t same =
    true≢false (sym t ∙ ap (λ (word : ℕ). is_whole (words_wanted layouts word body) many) same
    ∙ ap (λ (o : Option ℕ). is_whole o many) (none_wanted layouts at body))

-- a copy is whole
pub whole_of : (world : World) (worker to header : ℕ) (body : List ℕ) → is_copy world worker to header body ≡ true
    → is_whole (words_wanted world.layouts header body) (1 + length body) ≡ true
whole_of world worker to header body t =
    (five_parts (is_whole (words_wanted world.layouts header body) (1 + length body))
    (nat_le (to + (1 + length body)) (length world.words)) (is_in_own_room world.rooms worker to (1 + length body))
    (is_free (fixed_of world) world.homes to (1 + length body)) (stands_at world.words to header body) t).0
