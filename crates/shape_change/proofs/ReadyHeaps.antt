-- How a heap becomes ready for one word to be put: words are allocated, paths added, and a box made.
use Rattle.std.proofs.Common.{◌≡◌, ℕ, ◌+◌, ◌<◌, ◌≤◌, inl, inr, List, [], ◌++◌, length}
use Rattle.std.proofs.Common.{refl, sym, ◌∙◌, ap, subst, arith, append-nil}
use Rattle.std.specs.Prelude.{ℤ}
use Rattle.tagged_word.specs.Headers.{header_bits}
use Rattle.heap_model.specs.Types.{Path}
use Rattle.page_space.specs.Extents.{Space, layouts_start, marks_start}
use Rattle.page_space.proofs.Starts.{roots_start_is, layouts_start_is, marks_start_is}
use Rattle.nursery.specs.Young.{Young, HasRoom}
use Rattle.write_barrier.specs.Seats.{heap_words}
use Rattle.heap_model.specs.Slots.{raw_word}
use Rattle.heap_model.specs.Needs.{box_words}
use Rattle.heap_model.specs.Wholeness.{HasSizes}
use Rattle.write_barrier.specs.Opening.{ChangesWithin}
use Rattle.write_barrier.specs.Marking.{with_blackened}
use Rattle.write_barrier.specs.MutatorState.{Mutator, heap_of, IsTied, reserved, with_word}
use Rattle.object_cells.specs.Formats.{box_header}
use Rattle.object_cells.specs.declared.content.SlotWrite.{SlotWrite}
use Rattle.object_cells.specs.declared.content.SlotWrite.TheVariants as filling
use Rattle.object_cells.specs.Contents.{next_at, with_box, AllocatesBox, filling_need}
use Rattle.shape_change.specs.Fillings.{with_paths}
use Rattle.object_cells.proofs.OneWord.{IsReady}
use Rattle.object_cells.proofs.TakenRuns.{bumped_none}
use Rattle.object_cells.proofs.UnusedWords.{next_before_segments}
use Rattle.object_cells.proofs.WordsPut.{PutsTwo, puts_no_slot, puts_two, sizes_put}

-- words are used
ready_reserved : (old : Mutator) (need : ℕ) → HasSizes (heap_of old) → HasRoom old.young need
    → IsReady old (reserved old need) need
ready_reserved old need sized room = record {
  space = refl;
  phase = refl;
  young = refl;
  room = room;
  more = [];
  paths = sym (append-nil old.paths);
  sized = record { words = sized.words; shapes = sized.shapes; layouts = sized.layouts };
  stay = λ a below not_new. refl;
}

-- nothing has changed
ready_same : (old new : Mutator) → HasSizes (heap_of old) → HasRoom old.young 0 → new ≡ old → IsReady old new 0
ready_same old new sized room same =
    let as_before : reserved old 0 ≡ old = ap (λ (y : Young). record old { young = y }) (bumped_none old.young) in
    subst (λ (main : Mutator). IsReady old main 0) (as_before ∙ sym same) (ready_reserved old 0 sized room)

-- the words that a slot needs are used
pub ready_allocated : (old new : Mutator) (filling : SlotWrite) → HasSizes (heap_of old) → HasRoom old.young 0
    → AllocatesBox old new filling → IsReady old new (filling_need filling)
ready_allocated old new (filling.Tagged word) sized room same = ready_same old new sized room same
ready_allocated old new (filling.Raw word) sized room same = ready_same old new sized room same
ready_allocated old new (filling.NewBox at v) sized room more =
    subst (λ (main : Mutator). IsReady old main box_words) (sym more.1) (ready_reserved old box_words sized more.0)
ready_allocated old new (filling.OldBox at v) sized room same = ready_same old new sized room same

-- paths are added, with their layout words
pub ready_laid : {old between laid : Mutator} (need : ℕ) (more : List Path) → IsReady old between need
    → ChangesWithin (with_paths between laid.paths) laid (layouts_start old.seat.space) (marks_start old.seat.space)
    → HasSizes (heap_of laid) → laid.paths ≡ old.paths ++ more → IsReady old laid need
ready_laid {old} {between} {laid} need more ready changes sized added = record {
  space = changes.seat.space ∙ ready.space;
  phase = changes.seat.phase ∙ ready.phase;
  young = changes.young ∙ ready.young;
  room = ready.room;
  more = more;
  paths = added;
  sized = sized;
  stay = λ a below not_new. changes.beside a (inl below) ∙ ready.stay a below not_new;
}

-- so it is once a cell was made black
pub ready_black : {old mid : Mutator} {need : ℕ} (at : ℕ) → IsReady old mid need
    → IsReady old (with_blackened mid at) need
ready_black at ready = record {
  space = ready.space;
  phase = ready.phase;
  young = ready.young;
  room = ready.room;
  more = ready.more;
  paths = ready.paths;
  sized = ready.sized;
  stay = ready.stay;
}

-- two of the words that were taken are put
ready_put : {old mid new : Mutator} {first head second word need : ℕ} → IsReady old mid need
    → PutsTwo mid new first head second word → next_at old ≤ first → first < next_at old + need → next_at old ≤ second
    → second < next_at old + need → next_at old + need ≤ layouts_start old.seat.space → IsReady old new need
ready_put {old} {mid} {new} {first} {head} {second} {word} {need} ready puts first_from first_below second_from
    second_below within =
    let below = λ (a : ℕ) (is : a < layouts_start old.seat.space).
    subst (λ (s : Space). a < layouts_start s) (sym ready.space) is in
    record {
      space = puts.beside.space ∙ ready.space;
      phase = puts.beside.phase ∙ ready.phase;
      young = puts.young ∙ ready.young;
      room = ready.room;
      more = ready.more;
      paths = puts.paths ∙ ready.paths;
      sized = sizes_put mid new first head second word ready.sized (below first (omega arith))
          (below second (omega arith)) puts;
      stay = λ a is not_new.
          puts.stay a (λ same. not_new (omega (arith, same)) (omega (arith, same)))
          (λ same. not_new (omega (arith, same)) (omega (arith, same)))
          ∙ ready.stay a is not_new;
    }

-- the words of a box are put
pub puts_box : (mid : Mutator) (at : ℕ) (v : ℤ) → at + box_words ≤ marks_start mid.seat.space
    → length (heap_words mid.seat) ≡ marks_start mid.seat.space
    → PutsTwo mid (with_box mid at v) (at + 1) (raw_word v) at (header_bits box_header)
puts_box mid at v within counted =
    puts_two mid (with_word mid at (header_bits box_header)) (with_box mid at v) (at + 1) (raw_word v) at
    (header_bits box_header) (puts_no_slot refl) (omega arith) (omega arith) counted (λ same. omega (arith, same))
    (inr refl)

-- so a box is made
pub ready_boxed : {old mid : Mutator} (v : ℤ) → IsTied old → IsReady old mid box_words
    → IsReady old (with_box mid (next_at old) v) box_words
ready_boxed {old} {mid} v tied ready =
    let space = old.seat.space in
    let within : next_at old + box_words ≤ layouts_start space =
    omega (arith, next_before_segments old box_words tied ready.room, roots_start_is space, layouts_start_is space) in
    let marks : next_at old + box_words ≤ marks_start mid.seat.space =
    subst (λ (s : Space). next_at old + box_words ≤ marks_start s) (sym ready.space)
    (omega (arith, within, marks_start_is space)) in
    ready_put ready (puts_box mid (next_at old) v marks ready.sized.words) (omega arith) (omega arith) (omega arith)
    (omega arith) within
