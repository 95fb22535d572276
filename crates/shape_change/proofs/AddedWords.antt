-- A heap of which one word was put besides the header of an object, once a path was added and words were allocated.
use Rattle.std.proofs.Common.{◌≡◌, ◌≢◌, ℕ, ◌+◌, ◌<◌, ◌≤◌, List, length, Some, slice_get}
use Rattle.std.proofs.Common.{sym, ◌∙◌, ap, arith, length-set}
use Rattle.std.specs.Prelude.{slice_set}
use Rattle.heap_model.specs.Types.{Header, Path, Cell}
use Rattle.tagged_word.specs.Headers.{header_bits}
use Rattle.tagged_word.specs.Shapes.{shapes_most}
use Rattle.object_graph.specs.Paths.{missing}
use Rattle.object_graph.specs.Limits.{paths_most}
use Rattle.object_graph.proofs.AddedPaths.{with_path-is}
use Rattle.object_graph.proofs.Lists.{slice_get-set_same, slice_get-set_other}
use Rattle.page_space.specs.Extents.{Space, layouts_start, marks_start}
use Rattle.page_space.proofs.Starts.{roots_start_is, layouts_start_is, marks_start_is}
use Rattle.nursery.specs.Young.{Young, HasRoom, bumped}
use Rattle.cell_layout.specs.Cells.{IsRow}
use Rattle.write_barrier.specs.Seats.{heap_words, RestStays}
use Rattle.write_barrier.specs.Staying.{rest_stays_again}
use Rattle.heap_model.specs.Wholeness.{Whole, HasSizes}
use Rattle.heap_model.specs.Changes.{IsRunOf}
use Rattle.write_barrier.specs.MutatorState.{Mutator, heap_of, IsTied, reserved}
use Rattle.object_cells.specs.Contents.{next_at}
use Rattle.shape_change.specs.Additions.{AddsPath, with_shape}
use Rattle.object_cells.specs.Made.{PutsWords}
use Rattle.object_cells.proofs.OneWord.{WritesOne}
use Rattle.object_cells.proofs.TakenRuns.{taken_run, room_stays}
use Rattle.object_cells.proofs.UnusedWords.{next_before_segments}
use Rattle.object_cells.proofs.WordsPut.{sizes_stay}

-- A path was added once so many words were reserved, and then words were put: the header of the cell at an address, one
-- other word, and else words that are newly used.
pub record PutsOver (old mid new : Mutator) (path : Path) (cell : Cell) (shape at word need : ℕ) (words : List ℕ)
    : Type 0 where
  pub tied : IsTied old
  pub room : HasRoom old.young need
  pub adds : AddsPath (reserved old need) mid path shape
  pub puts : PutsWords mid new words
  pub long : length words ≡ length (heap_words mid.seat)
  pub header : slice_get words cell.at ≡ Some (header_bits (record cell.header { shape = shape }))
  pub put : slice_get words at ≡ Some word
  pub stay : (a : ℕ) → a ≢ cell.at → a ≢ at → (next_at old ≤ a → a < next_at old + need → ⊥)
      → slice_get words a ≡ slice_get (heap_words mid.seat) a
  pub cell_below : cell.at < layouts_start old.seat.space
  pub at_below : at < layouts_start old.seat.space

-- words were put over others where these are as before, but for newly used ones, with one word put and then the header
pub over_last : {old mid new : Mutator} {path : Path} {cell : Cell} {header : Header} (shape place word need object : ℕ)
    (words : List ℕ) → IsTied old → HasRoom old.young need → AddsPath (reserved old need) mid path shape
    → PutsWords mid new (with_shape (slice_set words place word) object header shape)
    → length words ≡ length (heap_words mid.seat)
    → ((a : ℕ) → (next_at old ≤ a → a < next_at old + need → ⊥)
    → slice_get words a ≡ slice_get (heap_words mid.seat) a)
    → cell.at ≡ object → cell.header ≡ header → cell.at ≢ place → cell.at < layouts_start old.seat.space
    → place < layouts_start old.seat.space
    → PutsOver old mid new path cell shape place word need (with_shape (slice_set words place word) object header shape)
over_last {old} {mid} {cell = cell} {header} shape place word need object words tied room adds puts long stay stands
    headed apart
    cell_below at_below =
    let put = slice_set words place word in
    let bits = header_bits (record header { shape = shape }) in
    let put_long : length put ≡ length words = length-set words place word in
    let count : length (heap_words mid.seat) ≡ layouts_start old.seat.space + shapes_most =
    adds.sized.words ∙ ap (λ (s : Space). marks_start s) adds.beside.space ∙ marks_start_is old.seat.space in
    record {
      tied = tied;
      room = room;
      adds = adds;
      puts = puts;
      long = length-set put object bits ∙ put_long ∙ long;
      header = ap (slice_get (slice_set put object bits)) stands
          ∙ slice_get-set_same put object bits (omega (arith, put_long, long, count, stands, cell_below))
          ∙ ap (λ (h : Header). Some (header_bits (record h { shape = shape }))) (sym headed);
      put = slice_get-set_other put object place bits (λ same. apart (stands ∙ sym same))
          ∙ slice_get-set_same words place word (omega (arith, long, count, at_below));
      stay = λ a not_cell not_at not_new.
          slice_get-set_other put object a bits (λ same. not_cell (same ∙ sym stands))
          ∙ slice_get-set_other words place a word not_at ∙ stay a not_new;
      cell_below = cell_below;
      at_below = at_below;
    }

-- a word beside both stays where one is put and then the header
pub last_stays : (words : List ℕ) (place word object : ℕ) (header : Header) (shape a : ℕ) → a ≢ object → a ≢ place
    → slice_get (with_shape (slice_set words place word) object header shape) a ≡ slice_get words a
last_stays words place word object header shape a not_object not_place =
    slice_get-set_other (slice_set words place word) object a (header_bits (record header { shape = shape })) not_object
    ∙ slice_get-set_other words place a word not_place

module _ {old mid new : Mutator} {path : Path} {cell : Cell} {shape at word need : ℕ} {words : List ℕ} where
  -- a word from the layout words on stays
  layouts_stay : (a : ℕ) → PutsOver old mid new path cell shape at word need words → layouts_start old.seat.space ≤ a
      → slice_get words a ≡ slice_get (heap_words mid.seat) a
  layouts_stay a over behind =
      over.stay a (λ same. omega (arith, same, over.cell_below)) (λ same. omega (arith, same, over.at_below))
      (λ from below. omega (
        arith,
        below,
        behind,
        next_before_segments old need over.tied over.room,
        roots_start_is old.seat.space,
        layouts_start_is old.seat.space,
      ))

  -- the sizes are there
  pub over_sized : PutsOver old mid new path cell shape at word need words → HasSizes (heap_of new)
  over_sized over =
      let space = ap (λ (s : Space). layouts_start s) over.adds.beside.space in
      sizes_stay mid new over.adds.sized over.puts.beside over.puts.paths (ap length over.puts.heap ∙ over.long)
      (λ a behind. ap (λ all. slice_get all a) over.puts.heap ∙ layouts_stay a over (omega (arith, behind, space)))

  -- so many words were taken
  pub over_young : PutsOver old mid new path cell shape at word need words → new.young ≡ bumped old.young need
  over_young over = over.puts.young ∙ over.adds.young

  -- the regions and the phase stay
  pub over_beside : PutsOver old mid new path cell shape at word need words → RestStays old.seat new.seat
  over_beside over = rest_stays_again old.seat mid.seat new.seat over.adds.beside over.puts.beside

  -- the regions are those from before
  pub over_space : PutsOver old mid new path cell shape at word need words → new.seat.space ≡ old.seat.space
  over_space over = (over_beside over).space

  -- the words that were taken are a run
  pub over_run : PutsOver old mid new path cell shape at word need words
      → IsRunOf (heap_of old) (heap_of new) (next_at old) (next_at old + need)
  over_run over = taken_run new need over.tied over.room (over_young over) (over_space over)

  -- one word of the cells was put
  pub over_writes_one : (made : List Cell) → Whole (heap_of old)
      → PutsOver old mid new path cell shape at word need words
      → IsRow new.seat.space (heap_words new.seat) (next_at old) (next_at old + need) made
      → WritesOne (heap_of old) (heap_of new) cell shape at word made
  over_writes_one made whole over row =
      record {
        same_space = over_space over;
        same_survivors = ap (λ (y : Young). y.survivors) (over_young over);
        room = room_stays new need over.tied whole.rows over.room (over_young over) (over_space over);
        more = missing old.paths path;
        paths = over.puts.paths ∙ sym (with_path-is (Some paths_most) old.paths mid.paths path over.adds.leads.added);
        sized = over_sized over;
        header = ap (λ all. slice_get all cell.at) over.puts.heap ∙ over.header;
        put = ap (λ all. slice_get all at) over.puts.heap ∙ over.put;
        from = next_at old;
        to = next_at old + need;
        run = over_run over;
        made_stand = row;
        stay = λ a below not_cell not_at not_new. ap (λ all. slice_get all a) over.puts.heap
            ∙ over.stay a not_cell not_at not_new ∙ over.adds.stay a below;
      }
