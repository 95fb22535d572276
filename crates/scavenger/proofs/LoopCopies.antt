-- A copy that is taken from the list: the cell that stands there is the one that was copied, and its slots are to do.
use Rattle.std.proofs.Common.{◌≡◌, ℕ, ◌+◌, ◌/◌, ◌<◌, ◌≤◌, inl, inr, Bool, List, [], ◌∷◌, ◌++◌, Some, Option}
use Rattle.std.proofs.Common.{length, refl, sym, ◌∙◌, ap, subst, arith, slice_get, IsSome, None, length-append}
use Rattle.std.specs.List.{Contains}
use Rattle.std.proofs.lemmas.Bool.{cases_lt}
use Rattle.std.proofs.lemmas.List.Elements.{Contains-append_cases, Contains-append_left, Contains-append_right}
use Rattle.tagged_word.specs.declared.reading.Reading.{Reading}
use Rattle.tagged_word.proofs.CellReadings.{cell_from}
use Rattle.tagged_word.proofs.Members.{first_in, one_in}
use Rattle.page_space.specs.Sizes.{page_words}
use Rattle.page_space.specs.declared.region.Region.TheVariants.{Segment}
use Rattle.page_space.specs.Extents.{Space, CellsEndAt, eden_start, half_segments}
use Rattle.page_space.proofs.Addresses.{start_of_is}
use Rattle.page_space.proofs.CellAddresses.{cells_end}
use Rattle.page_space.proofs.LawsHold.{stand_by_number}
use Rattle.cell_layout.specs.Cells.{IsCell}
use Rattle.cell_layout.proofs.OneCell.{cell_is_sized}
use Rattle.heap_model.specs.Types.{Cell}
use Rattle.nursery.specs.Young.{other_half}
use Rattle.write_barrier.specs.Seats.{heap_words}
use Rattle.heap_walk.specs.Standing.{StandsAt}
use Rattle.write_barrier.specs.MutatorState.{Mutator}
use Rattle.scav_copy.specs.declared.places.Home.{Home}
use Rattle.scav_copy.specs.Places.{Fixed, size_of, cell_before}
use Rattle.scav_copy.proofs.Reading.{copies_read}
use Rattle.scav_copy.proofs.Spots.{from_is, home_itself}
use Rattle.scavenger.specs.declared.progress.Progress.{Progress}
use Rattle.scavenger.specs.Starts.{Start, SegmentCopies, segment_from}
use Rattle.scavenger.specs.Filling.{Front, IsToDo}
use Rattle.scavenger.specs.Walking.{Scavenging, IsCopyAt, IsCopyOf, IsScanned, at_copy}
use Rattle.scavenger.proofs.FilledSegments.{young_within}
use Rattle.scavenger.proofs.TargetCells.{layouts_same}
use Rattle.scavenger.proofs.PagesWords.{page_of}
use Rattle.scavenger.proofs.PagesCells.{copy_size, copy_offsets}
use Rattle.scavenger.proofs.PagesFree.{row_has}

-- what is read at an address, as a cell
abbrev cell_of : ℕ → Reading → Cell
cell_of at reading = record {
  at = at;
  header = reading.header;
  layout = reading.layout;
  length = reading.length;
  size = reading.size;
}

-- cells in a worker's segment of a half end where that does
segment_ends : (space : Space) (half worker at : ℕ) → half ≤ 1 → worker < half_segments space
    → segment_from space half worker ≤ at → at < segment_from space half worker + space.sizes.young
    → CellsEndAt space at (segment_from space half worker + space.sizes.young)
segment_ends space half worker at two known from below =
    let less : half < 2 = omega arith in
    let starts = start_of_is space (Segment half worker) (segment_from space half worker)
    ((stand_by_number space).segments half worker less (omega (arith, known))) in
    cells_end space (Segment half worker) at (segment_from space half worker + space.sizes.young) refl
    (record {
      is_region = (less, omega (arith, known));
      from = omega (arith, starts, from);
      below = omega (arith, starts, below);
    })
    (omega (arith, starts))

-- what stood before is some cell
is_some : (found : Option Reading) → IsSome found → (reading : Reading) × (found ≡ Some reading)
is_some None some = cc
is_some (Some reading) some = (reading, refl)

module _ {start now : Mutator} {handed : List SegmentCopies} {all : Bool} {progress : Progress} {todo : List ℕ}
    {front : Front}
    (state : Scavenging start handed now all progress todo front) (home : Home)
    (among : Contains state.homes home) where
  -- in a page it is one of the page's row
  stands_in_page : home.to < eden_start start.seat.space
      → (cell : Cell) × IsCell start.seat.space (heap_words now.seat) cell × (cell.at ≡ home.to)
  stands_in_page below =
      let page : ℕ = home.to / page_words in
      let stands = state.filled.pages page (omega (arith, below)) in
      let one = stands.copies home among (page_of home.to) in
      (one.cell, row_has stands one.among, one.stands)

  -- in the segment it is read as the cell that was copied
  stands_in_segment : eden_start start.seat.space ≤ home.to
      → (cell : Cell) × IsCell start.seat.space (heap_words now.seat) cell × (cell.at ≡ home.to)
  stands_in_segment young =
      let fixed : Fixed = state.fixed in
      let words : List ℕ = heap_words now.seat in
      let space : Space = start.seat.space in
      let half : ℕ = other_half start.young.half in
      let copying = state.filled.copying in
      let before = is_some (cell_before fixed home.from)
      (state.begun.laid.cells_are home.from (from_is home copying among)) in
      let reading : Reading = before.0 in
      let within = young_within state.begun state.filled home among young in
      let worker : ℕ = within.stays.segment.worker in
      let end : ℕ = segment_from space half worker + space.sizes.young in
      let itself = home_itself home state.begun.laid copying among in
      let ends : home.to + size_of fixed home.from ≤ end = omega (arith, within.ends, within.fits) in
      let reads = cell_from words fixed.layouts home.to end reading
      (copies_read fixed words state.homes home end state.begun.laid copying among ends ∙ before.1) in
      let is_cell : IsCell space words (cell_of home.to reading) = record {
        end = end;
        stands = segment_ends space half worker home.to state.begun.is_half within.known within.from
            (omega (arith, itself.below, ends));
        reads = record {
          is_header = reads.is_header;
          first = reads.first;
          known = reads.known;
          is_layout = reads.is_layout;
          of_shape = layouts_same reading.header.shape state.begun copying reads.known
              ∙ ap (λ (layouts : List ℕ). slice_get layouts reading.header.shape) (sym state.begun.begins.layouts)
              ∙ reads.of_shape;
          second = reads.second;
          sized = reads.sized;
          ends = reads.ends;
          there = reads.there;
        };
      } in
      (cell_of home.to reading, is_cell, refl)

  -- so one stands there, among the words as they are
  pub copy_stands : (cell : Cell) × StandsAt now.seat.space (heap_words now.seat) home.to cell
  copy_stands =
      let space : Space = start.seat.space in
      let found : (cell : Cell) × IsCell space (heap_words now.seat) cell × (cell.at ≡ home.to) =
      elim (cases_lt home.to (eden_start space)) [
        | inl below ↦ stands_in_page below
        | inr young ↦ stands_in_segment young
      ] in
      let Is : Space → Type 0 = λ one. IsCell one (heap_words now.seat) found.0 in
      (found.0, record { is_cell = subst Is (sym state.changes.seat.space) found.1; stands = found.2 })

  -- each cell that stands there is the copy, with all its slots
  pub is_copy : (cell : Cell) → IsCell now.seat.space (heap_words now.seat) cell → cell.at ≡ home.to
      → IsCopyOf state.fixed home cell
  is_copy cell is_cell_now stands =
      let copying = state.filled.copying in
      let is_cell : IsCell start.seat.space (heap_words now.seat) cell =
      subst (λ (one : Space). IsCell one (heap_words now.seat) cell) state.changes.seat.space is_cell_now in
      record {
        stands = sym stands;
        size = copy_size home cell state.begun copying among is_cell stands;
        offsets = copy_offsets home cell state.begun copying among is_cell stands;
        sized = cell_is_sized start.seat.space (heap_words now.seat) cell is_cell;
      }

-- what was to do is so once a copy is taken from the list, and its slots are at hand
taken_to_do : {start : Start} {fixed : Fixed} {homes : List Home} (end eden : ℕ) (todo rest : List ℕ) (cell : Cell)
    (slot : ℕ) → todo ≡ rest ++ cell.at ∷ []
    → ((home : Home) → Contains homes home → home.to ≡ cell.at → size_of fixed home.from ≡ cell.size)
    → IsToDo start fixed homes todo (at_copy end eden 0 0) slot
    → IsToDo start fixed homes rest (at_copy end eden cell.at (cell.at + cell.size)) slot
taken_to_do end eden todo rest cell slot is sizes (IsToDo.root from) = IsToDo.root from
taken_to_do end eden todo rest cell slot is sizes (IsToDo.recorded from below there) = IsToDo.recorded from below there
taken_to_do end eden todo rest cell slot is sizes (IsToDo.at_hand from below) = absurd (omega (arith, below))
taken_to_do end eden todo rest cell slot is sizes (IsToDo.left there) = IsToDo.left there
taken_to_do end eden todo rest cell slot is sizes (IsToDo.listed home there listed inside) =
    let all = subst (λ (list : List ℕ). Contains list home.to) is listed in
    elim (Contains-append_cases rest (cell.at ∷ []) home.to all) [
      | inl later ↦ IsToDo.listed home there later inside
      | inr last ↦
          let at : cell.at ≡ home.to = one_in cell.at home.to last in
          let size = sizes home there (sym at) in
          IsToDo.at_hand (omega (arith, at, inside.from)) (omega (arith, at, inside.below, size))
    ]

-- this cell is the copy that stands at the address, in each state of a scavenge
abbrev pub CopiesAt : Mutator → ℕ → Cell → Type 0
CopiesAt now at cell =
    (start : Mutator) (handed : List SegmentCopies) (all : Bool) (progress : Progress) (todo : List ℕ) (front : Front)
    (state : Scavenging start handed now all progress todo front) (home : Home) → Contains state.homes home
    → home.to ≡ at
    → IsCopyOf state.fixed home cell

-- the last address of a list is one of it
last_is_there : {todo : List ℕ} (rest : List ℕ) (at : ℕ) → todo ≡ rest ++ at ∷ [] → Contains todo at
last_is_there rest at is =
    subst (λ (list : List ℕ). Contains list at) (sym is) (Contains-append_right rest (at ∷ []) at (first_in at []))

-- a copy stands there
pub taken_is_there : {start now : Mutator} {handed : List SegmentCopies} {all : Bool} {progress : Progress}
    {todo : List ℕ} {front : Front}
    (rest : List ℕ) (at : ℕ) → Scavenging start handed now all progress todo front → todo ≡ rest ++ at ∷ []
    → IsCopyAt now at
taken_is_there {start} {now} {handed} {all} {progress} {todo} {front} rest at state is =
    let listed = state.listed at (last_is_there rest at is) in
    record {
      start = start;
      handed = handed;
      all = all;
      progress = progress;
      todo = todo;
      front = front;
      scavenging = state;
      home = listed.0;
      among = listed.1;
      stands = listed.2;
    }

-- the copy that is taken from the list is scanned
pub takes_copy : {start now : Mutator} {handed : List SegmentCopies} {all : Bool} {progress : Progress}
    {todo : List ℕ} {end eden : ℕ}
    (rest : List ℕ) (at : ℕ) (cell : Cell)
    → (state : Scavenging start handed now all progress todo (at_copy end eden 0 0)) → todo ≡ rest ++ at ∷ []
    → ((home : Home) → Contains state.homes home → home.to ≡ at → IsCopyOf state.fixed home cell)
    → IsScanned start handed now all progress rest cell (at_copy end eden cell.at (cell.at + cell.size))
takes_copy {start} {now} {handed} {all} {progress} {todo} {end} {eden} rest at cell state is copies =
    let listed = state.listed at (last_is_there rest at is) in
    let home : Home = listed.0 in
    let copy = copies home listed.1 listed.2 in
    let same : at ≡ cell.at = sym listed.2 ∙ copy.stands in
    let is_cell : todo ≡ rest ++ cell.at ∷ [] = is ∙ ap (λ (one : ℕ). rest ++ one ∷ []) same in
    record {
      scavenging = record {
        fixed = state.fixed;
        homes = state.homes;
        two = state.two;
        bounded = state.bounded;
        quiet = state.quiet;
        begun = state.begun;
        filled = state.filled;
        copied = state.copied;
        placed = state.placed;
        kept = state.kept;
        listed = λ other there.
            state.listed other
            (subst (λ (list : List ℕ). Contains list other) (sym is)
            (Contains-append_left rest (at ∷ []) other there));
        few = omega (arith, state.few, ap (λ (list : List ℕ). length list) is, length-append rest (at ∷ []));
        others = λ slot place target stood refers of_cells.
            taken_to_do end eden todo rest cell slot is_cell
            (λ other there stands. (copies other there (stands ∙ sym same)).size)
            (state.others slot place target stood refers of_cells);
        changes = state.changes;
      };
      home = home;
      among = listed.1;
      is = copy;
    }
