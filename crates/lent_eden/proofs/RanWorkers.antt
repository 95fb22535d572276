-- What workers have done that ran on a heap which shows a graph: each has a segment, and may be taken in.
use Rattle.std.proofs.Common.{◌≡◌, ◌∙◌, ℕ, ◌+◌, ◌<◌, ◌≤◌, List, length, slice_get, Some, refl, sym, ap, subst, arith}
use Rattle.std.specs.List.{Contains}
use Rattle.tagged_word.proofs.Members.{map_from}
use Rattle.object_graph.specs.Graphs.{Graph}
use Rattle.page_space.specs.declared.region.Region.TheVariants.{Segment}
use Rattle.page_space.specs.Extents.{Space, eden_start, segments_start, roots_start, marks_start, half_segments}
use Rattle.page_space.proofs.CellAddresses.{segment_ends}
use Rattle.page_space.proofs.LawsHold.{kinds_by_number}
use Rattle.page_space.proofs.Standing.{start_of}
use Rattle.nursery.specs.Young.{other_half}
use Rattle.remembered_set.specs.Recorded.{Recorded}
use Rattle.shared_table.specs.Owned.{Own}
use Rattle.write_barrier.specs.MutatorState.{Mutator, heap_of}
use Rattle.scav_copy.specs.declared.places.Home.{Home}
use Rattle.scav_copy.specs.declared.places.Room.{Room}
use Rattle.scav_copy.specs.Places.{Fixed, offsets_of, StoodAt}
use Rattle.scavenger.specs.Starts.{Start, SegmentCopies, IsBegun, nothing_handed, segment_from, segment_room}
use Rattle.scavenger.specs.Starts.{start_with}
use Rattle.scavenger.specs.Filling.{FillsSegment, Tiles, segment_filled, words_of_homes}
use Rattle.scavenger.proofs.FollowTiles.{tiles_add}
use Rattle.scavenger.proofs.SegmentRooms.{IsInSegment, one_segment, segment_is_among}
use Rattle.scavenger.proofs.Started.{shown_heaps_may_begin}
use Rattle.eden_copies.specs.Eden.{MayCopy, IsLed}
use Rattle.eden_copies.specs.Sides.{WorkerSide, end_of}
use Rattle.eden_copies.specs.Together.{AreCopiedOnce, Finished, homes_of, whole_deal}
use Rattle.eden_copies.specs.PutBack.{ArePartOf, IsOfRoom, fixed_of, in_order}
use Rattle.eden_copies.proofs.AllTogether.{flat_from, flat_in, has_copied, workers_copy_once}
use Rattle.handed_rooms.specs.Taken.{CanTakeIn, StaysBeside}
use Rattle.handed_rooms.specs.Laws.{StandInSegments, workers_of}
use Rattle.lent_eden.specs.Lent.{lent}
use Rattle.lent_eden.specs.Handed.{HaveRun, copies_of, left_by, segments_of}
use Rattle.lent_eden.proofs.Lending.{begun_may_be_lent, led_among, outer_among, same_size, same_slots}
use Rattle.lent_eden.proofs.NumberedWorkers.{HasNumber, all_beside, has_number, one_number, ordered_same, tiles_of}

-- a scavenge begins alike, whatever was handed over
begun_with : (main : Mutator) (one other : List SegmentCopies) (fixed : Fixed) → IsBegun (start_with main one) fixed
    → IsBegun (start_with main other) fixed
begun_with main one other fixed begun = record {
  begins = record {
    before = begun.begins.before;
    layouts = begun.begins.layouts;
    cells = begun.begins.cells;
    slots = begun.begins.slots;
    rooms = begun.begins.rooms;
  };
  laid = begun.laid;
  whole = begun.whole;
  is_half = begun.is_half;
  collectable = begun.collectable;
  free = begun.free;
  apart = begun.apart;
  remembered = begun.remembered;
  targets = begun.targets;
  ascend = begun.ascend;
  counted = begun.counted;
}

-- what no step changes has the words that are lent
has_lent : (start : Start) (fixed : Fixed) → IsBegun start fixed
    → fixed ≡ fixed_of (lent start.heap) fixed.cells fixed.slots fixed.rooms
has_lent start fixed begun =
    let with_words : List ℕ → List ℕ → Fixed = λ before layouts. record {
      before = before;
      layouts = layouts;
      cells = fixed.cells;
      slots = fixed.slots;
      rooms = fixed.rooms;
    } in
    ap (λ (before : List ℕ). with_words before fixed.layouts) begun.begins.before
    ∙ ap (λ (layouts : List ℕ). with_words start.heap.words layouts) begun.begins.layouts

-- workers have run, and what the main side's scavenge begins with has the words that were lent to them
pub record Began (main : Mutator) (graph : Graph) (all : List Finished) : Type 0 where
  pub run : HaveRun main graph all
  pub cells : List ℕ
  pub slots : List ℕ
  pub rooms : List Room
  pub begun : IsBegun (start_with main (segments_of all)) (fixed_of (lent (heap_of main)) cells slots rooms)

-- so it is where they have run
pub has_began : (main : Mutator) (graph : Graph) (all : List Finished) → HaveRun main graph all
    → Began main graph all
has_began main graph all run =
    let start : Start = start_with main (segments_of all) in
    let found = shown_heaps_may_begin main graph run.limits run.shows run.young run.free in
    let begun : IsBegun start found.0 =
    begun_with main (nothing_handed main.seat.space) (segments_of all) found.0 found.1 in
    record {
      run = run;
      cells = found.0.cells;
      slots = found.0.slots;
      rooms = found.0.rooms;
      begun = subst (IsBegun start) (has_lent start found.0 begun) begun;
    }

-- what no step of it changes
abbrev pub fixed_in : {main : Mutator} {graph : Graph} {all : List Finished} → Began main graph all → Fixed
fixed_in {main} began = fixed_of (lent (heap_of main)) began.cells began.slots began.rooms

-- a segment of a half lies between eden and the roots
segment_bounds : (space : Space) (half worker : ℕ) → half ≤ 1 → worker < half_segments space
    → (segments_start space ≤ segment_from space half worker)
    × (segment_from space half worker + space.sizes.young ≤ roots_start space)
segment_bounds space half worker two known =
    let is : start_of space (Segment half worker) ≡ segment_from space half worker = omega arith in
    let ends = segment_ends space half worker (omega (arith, two), omega (arith, known)) in
    (omega arith, omega (arith, is, ends))

-- Where a worker's room is: in the segment of its number, which lies between eden and the roots.
pub record HasSegment (main : Mutator) (all : List Finished) (one : Finished) : Type 0 where
  pub has : HasNumber all one
  pub known : has.number < half_segments main.seat.space
  pub starts : one.worker.start ≡ segment_from main.seat.space (other_half main.young.half) has.number
  pub most : one.worker.most ≡ main.seat.space.sizes.young
  pub fits : length one.worker.room ≤ main.seat.space.sizes.young
  pub after_eden : segments_start main.seat.space ≤ one.worker.start
  pub before_roots : one.worker.start + main.seat.space.sizes.young ≤ roots_start main.seat.space

module _ {main : Mutator} {graph : Graph} {all : List Finished} (began : Began main graph all) where
  abbrev own : Own
  own = lent (heap_of main)

  abbrev fixed : Fixed
  fixed = fixed_in began

  abbrev start : Start
  start = start_with main (segments_of all)

  abbrev space : Space
  space = main.seat.space

  abbrev half : ℕ
  half = other_half main.young.half

  abbrev recorded : List ℕ
  recorded = main.recorded.slots

  abbrev homes : List Home
  homes = in_order (homes_of all)

  -- workers may copy, and each cell was copied once
  pub may : MayCopy own (whole_deal recorded)
  may = begun_may_be_lent start fixed 0 1 began.begun

  pub once : AreCopiedOnce own recorded all
  once = workers_copy_once own recorded all may began.run.copied

  -- each worker has such a segment
  pub has_segment : (one : Finished) → Contains all one → HasSegment main all one
  has_segment one there =
      let has = has_number all one there in
      let known : has.number < half_segments space = omega (arith, has.inside, began.run.segments.many) in
      let starts : one.worker.start ≡ segment_from space half has.number =
      began.run.segments.starts has.number one has.stands in
      let most : one.worker.most ≡ space.sizes.young = began.run.segments.most one there in
      let bounds = segment_bounds space half has.number (omega arith) known in
      record {
        has = has;
        known = known;
        starts = starts;
        most = most;
        fits = omega (arith, most, began.run.segments.fits one there);
        after_eden = subst (λ (at : ℕ). segments_start space ≤ at) (sym starts) bounds.0;
        before_roots = subst (λ (at : ℕ). at + space.sizes.young ≤ roots_start space) (sym starts) bounds.1;
      }

  -- a word of its room is one of its segment
  room_in_segment : (one : Finished) (segment : HasSegment main all one) (at : ℕ) → IsOfRoom one.worker at
      → IsInSegment space half segment.has.number at
  room_in_segment one segment at is = record {
    from = omega (arith, segment.starts, is.from);
    below = omega (arith, segment.starts, segment.fits, is.below);
  }

  -- the workers did a part of the scavenge
  pub part : ArePartOf own recorded all fixed
  part = record {
    cells = led_among start fixed 0 1 began.begun;
    slots = outer_among start fixed 0 1 began.begun;
    rooms = λ one there.
        let segment = has_segment one there in (
          segment_room space half segment.has.number,
          segment_is_among began.begun.begins segment.has.number segment.known,
          omega (arith, segment.starts),
          omega (arith, segment.starts, segment.fits),
        );
    apart = λ one other at there also here too.
        let first = has_segment one there in
        let second = has_segment other also in
        one_number all one other first.has second.has
        (one_segment space half first.has.number second.has.number at (room_in_segment one first at here)
        (room_in_segment other second at too));
  }

  -- their segments are rooms, and share no word
  pub stand : StandInSegments (workers_of all) began.rooms
  stand = record {
    among = λ worker there.
        let found = map_from (λ (one : Finished). one.worker) all worker there in
        let segment = has_segment found.0 found.1 in
        let same : found.0.worker.start ≡ worker.start = ap (λ (w : WorkerSide). w.start) found.2 in
        let most : found.0.worker.most ≡ worker.most = ap (λ (w : WorkerSide). w.most) found.2 in (
          segment_room space half segment.has.number,
          segment_is_among began.begun.begins segment.has.number segment.known,
          omega (arith, segment.starts, same),
          omega (arith, segment.starts, segment.most, same, most),
        );
    fits = λ worker there.
        let found = map_from (λ (one : Finished). one.worker) all worker there in
        subst (λ (w : WorkerSide). length w.room ≤ w.most) found.2 (began.run.segments.fits found.0 found.1);
    beside = all_beside space half 0 all
        (λ number one stands.
        let is : number ≡ 0 + number = omega arith in
        began.run.segments.starts number one stands ∙ ap (segment_from space half) is)
        began.run.segments.most;
  }

  -- a copy of a worker is of a cell of eden
  pub copy_led : (one : Finished) (home : Home) → Contains all one → Contains one.worker.copies home
      → IsLed own (whole_deal recorded) home.from
  copy_led one home among there =
      once.led home (flat_in (λ (f : Finished). f.worker.copies) all one home among there)

  -- so each worker may be taken in
  pub can_take_in : (now : Mutator) (one : Finished) → StaysBeside main now → Contains all one
      → CanTakeIn now one.worker
  can_take_in now one beside there =
      let segment = has_segment one there in
      let copied = has_copied own recorded all may began.run.copied one there in
      let bound : now.recorded.bound ≡ eden_start space =
      ap (λ (all : Recorded). all.bound) beside.recorded ∙ began.run.shows.bounded in
      let marks : marks_start now.seat.space ≡ marks_start space = ap marks_start beside.seat.space in
      let kinds = kinds_by_number space in
      record {
        behind = omega (arith, bound, segment.after_eden);
        within = omega (arith, segment.most, segment.before_roots, marks, kinds.layouts, kinds.marks);
        fits = began.run.segments.fits one there;
        cells = λ home has.
            let stands = may.stand home.from (copy_led one home there has) in
            (omega (arith, bound, stands.from), omega (arith, segment.after_eden, stands.below));
        one_each = copied.1.copying.one_each;
      }

  -- a worker's copies fill its room
  pub tiles : (one : Finished) → Contains all one
      → Tiles fixed one.worker.start (end_of one.worker) one.worker.copies
  tiles one there =
      let copied = has_copied own recorded all may began.run.copied one there in
      tiles_of own fixed one.worker.start (end_of one.worker) one.worker.copies (same_size start fixed 0 1 began.begun)
      copied.1.copying.tiled

  -- they have as many words
  pub room_words : (one : Finished) → Contains all one
      → length one.worker.room ≡ words_of_homes fixed one.worker.copies
  room_words one there =
      omega (arith, tiles_add one.worker.start (end_of one.worker) one.worker.copies (tiles one there))

  -- and end where it ends
  pub filled_to : (number : ℕ) (one : Finished) → Contains all one → slice_get all number ≡ Some one
      → segment_filled space half fixed (copies_of number one) ≡ end_of one.worker
  filled_to number one there stands =
      omega (arith, began.run.segments.starts number one stands, room_words one there)

  -- so they fill the segment of its number
  pub fills : (number : ℕ) (one : Finished) → Contains all one → slice_get all number ≡ Some one
      → FillsSegment space half fixed (copies_of number one)
  fills number one there stands =
      subst (λ (from : ℕ). Tiles fixed from (segment_filled space half fixed (copies_of number one)) one.worker.copies)
      (began.run.segments.starts number one stands)
      (subst (λ (end : ℕ). Tiles fixed one.worker.start end one.worker.copies)
      (sym (filled_to number one there stands)) (tiles one there))

  -- a slot that was left is live
  pub left_live : (slot : ℕ) → Contains (left_by all) slot → (place : ℕ) × StoodAt fixed homes slot place
  left_live slot left =
      let found = flat_from (λ (one : Finished). one.worker.left) all slot left in
      let copied = has_copied own recorded all may began.run.copied found.0 found.1 in
      let of_copy = (copied.1.copying.left slot).0 found.2 in
      let home : Home = of_copy.home in
      let among : Contains homes home =
      (ordered_same (homes_of all) home).1
      (flat_in (λ (f : Finished). f.worker.copies) all found.0 home found.1 of_copy.among) in
      let visited : Contains (offsets_of fixed home.from) of_copy.offset =
      subst (λ (offsets : List ℕ). Contains offsets of_copy.offset) (same_slots start fixed 0 1 began.begun home.from)
      of_copy.visited in
      (home.from + of_copy.offset, StoodAt.in_cell home of_copy.offset among visited of_copy.stands refl)
