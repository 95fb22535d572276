-- A heap of which two words were put, as one and the header of an object, where words were allocated and paths added
-- before.
use Rattle.std.proofs.Common.{◌≡◌, ◌≢◌, ℕ, ◌+◌, ◌<◌, ◌≤◌, List, ◌++◌, Some, slice_get}
use Rattle.std.proofs.Common.{sym, ◌∙◌, ap, subst}
use Rattle.tagged_word.specs.Headers.{header_bits}
use Rattle.heap_model.specs.Types.{Path, Cell}
use Rattle.page_space.specs.Extents.{Space, layouts_start}
use Rattle.nursery.specs.Young.{Young, HasRoom, bumped}
use Rattle.cell_layout.specs.Cells.{IsRow}
use Rattle.write_barrier.specs.Seats.{heap_words}
use Rattle.heap_model.specs.Heaps.{Heap}
use Rattle.heap_model.specs.Wholeness.{HasSizes, HasRows}
use Rattle.heap_model.specs.Changes.{IsRunOf}
use Rattle.write_barrier.specs.MutatorState.{Mutator, heap_of, IsTied}
use Rattle.object_cells.specs.Contents.{next_at}
use Rattle.object_cells.proofs.TakenRuns.{taken_run, room_stays}
use Rattle.object_cells.proofs.WordsPut.{PutsTwo, sizes_put}

-- So many words were taken from where cells are made, and paths may have been added with their layout words; of cells
-- no word has changed.
pub record IsReady (old new : Mutator) (need : ℕ) : Type 0 where
  pub space : new.seat.space ≡ old.seat.space
  pub phase : new.seat.phase ≡ old.seat.phase
  pub young : new.young ≡ bumped old.young need
  pub room : HasRoom old.young need
  pub more : List Path
  pub paths : new.paths ≡ old.paths ++ more
  pub sized : HasSizes (heap_of new)
  pub stay : (a : ℕ) → a < layouts_start old.seat.space → (next_at old ≤ a → a < next_at old + need → ⊥)
      → slice_get (heap_words new.seat) a ≡ slice_get (heap_words old.seat) a

-- Two words are these. Otherwise only words of the run in which cells were made, and layout words have changed, and
-- paths were added.
pub record WritesTwo (old new : Heap) (first head at word : ℕ) (made : List Cell) : Type 0 where
  pub same_space : new.space ≡ old.space
  pub same_survivors : new.survivors ≡ old.survivors
  pub room : new.survivors + new.used ≤ new.space.sizes.young
  pub more : List Path
  pub paths : new.paths ≡ old.paths ++ more
  pub sized : HasSizes new
  pub header : slice_get new.words first ≡ Some head
  pub put : slice_get new.words at ≡ Some word
  pub from : ℕ
  pub to : ℕ
  pub run : IsRunOf old new from to
  pub made_stand : IsRow new.space new.words from to made
  pub stay : (a : ℕ) → a < layouts_start old.space → a ≢ first → a ≢ at → (from ≤ a → a < to → ⊥)
      → slice_get new.words a ≡ slice_get old.words a

-- one of them is the header of a cell with this shape
abbrev pub WritesOne : Heap → Heap → Cell → ℕ → ℕ → ℕ → List Cell → Type 0
WritesOne old new cell shape at word made =
    WritesTwo old new cell.at (header_bits (record cell.header { shape = shape })) at word made

-- so many words more are used after two words were put as well
used_more : {old mid new : Mutator} {object head at word need : ℕ} → IsReady old mid need
    → PutsTwo mid new object head at word → new.young ≡ bumped old.young need
used_more ready puts = puts.young ∙ ready.young

-- so two words are put
pub writes_two : {old mid new : Mutator} (first head at word need : ℕ) (made : List Cell) → IsTied old
    → HasRows (heap_of old) → IsReady old mid need → first < layouts_start old.seat.space
    → at < layouts_start old.seat.space → PutsTwo mid new first head at word
    → IsRow new.seat.space (heap_words new.seat) (next_at old) (next_at old + need) made
    → WritesTwo (heap_of old) (heap_of new) first head at word made
writes_two {old} {mid} {new} first head at word need made tied rows ready first_below at_below puts row =
    let young = used_more ready puts in
    let space = puts.beside.space ∙ ready.space in
    let below = λ (a : ℕ) (is : a < layouts_start old.seat.space).
    subst (λ (s : Space). a < layouts_start s) (sym ready.space) is in
    record {
      same_space = space;
      same_survivors = ap (λ (y : Young). y.survivors) young;
      room = room_stays new need tied rows ready.room young space;
      more = ready.more;
      paths = puts.paths ∙ ready.paths;
      sized = sizes_put mid new first head at word ready.sized (below first first_below) (below at at_below) puts;
      header = puts.header;
      put = puts.put;
      from = next_at old;
      to = next_at old + need;
      run = taken_run new need tied ready.room young space;
      made_stand = row;
      stay = λ a is not_first not_at not_new.
          puts.stay a not_first not_at ∙ ready.stay a is not_new;
    }
