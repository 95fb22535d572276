-- Workers that ran on a heap which shows a graph, and were taken in, hand over their copies.
use Rattle.std.proofs.Common.{◌≡◌, ◌≢◌, ◌∙◌, ℕ, ◌+◌, ◌<◌, ◌≤◌, ◌⊎◌, inl, inr, true, List, length, slice_get, Some, refl}
use Rattle.std.proofs.Common.{sym, ap, subst, arith, get_or}
use Rattle.std.specs.List.{Contains, range_with_len}
use Rattle.std.specs.Prelude.{nat_le, slice_index}
use Rattle.std.proofs.lemmas.Bool.{cases_lt}
use Rattle.std.proofs.lemmas.Bool.Decides.{nat_tests}
use Rattle.std.proofs.lemmas.Option.{slice_get-get_or, slice_get_past}
use Rattle.tagged_word.specs.declared.word.Class.TheVariants.{Ref}
use Rattle.tagged_word.specs.Words.{bits_of}
use Rattle.tagged_word.specs.Readings.{reference_in}
use Rattle.tagged_word.proofs.Members.{first_in, rest_in, in_map, map_from}
use Rattle.tagged_word.proofs.Readings.{reference_from}
use Rattle.object_graph.specs.Graphs.{Graph}
use Rattle.page_space.specs.Extents.{Space, eden_start, segments_start, roots_start}
use Rattle.nursery.specs.Young.{other_half}
use Rattle.remembered_set.specs.Recorded.{Recorded}
use Rattle.shared_table.specs.Owned.{Own}
use Rattle.write_barrier.specs.Seats.{heap_words}
use Rattle.write_barrier.specs.MutatorState.{Mutator, heap_of}
use Rattle.scav_copy.specs.declared.places.Home.{Home}
use Rattle.scav_copy.specs.Places.{Fixed, size_of, offsets_of}
use Rattle.scav_copy.specs.Renamings.{IsRenamed, RefersToAddress}
use Rattle.scav_copy.specs.Copies.{Copying}
use Rattle.scav_copy.proofs.Spots.{home_is_no_cell, slot_in_cell}
use Rattle.scavenger.specs.Starts.{Start, start_with}
use Rattle.scavenger.specs.Filling.{ChangesWords, EndsSegment, FillsSegment, homes_in}
use Rattle.scavenger.specs.Handing.{HandsOver}
use Rattle.scavenger.proofs.FollowTiles.{tile_within}
use Rattle.eden_copies.specs.Eden.{IsLed, word_at, slots_in}
use Rattle.eden_copies.specs.Sides.{WorkerSide, end_of, is_behind_eden, is_of_survivor, room_word}
use Rattle.eden_copies.specs.Together.{Finished, homes_of, whole_deal}
use Rattle.eden_copies.specs.PutBack.{ArePutBack, IsOfRoom, in_order}
use Rattle.eden_copies.proofs.AllTogether.{flat_from, flat_in, has_copied}
use Rattle.handed_rooms.specs.Taken.{IsBehindRoom, StaysBeside}
use Rattle.handed_rooms.specs.Laws.{AreTakenIn, workers_of}
use Rattle.handed_rooms.proofs.TakenIn.{put_back, taken_in_are_copying, taken_in_end_with_0}
use Rattle.lent_eden.specs.Lent.{lent}
use Rattle.lent_eden.specs.Handed.{WorkersHandOver, WorkersMayBeTakenIn, copies_of, left_by, segments_of, words_by}
use Rattle.lent_eden.proofs.Lending.{same_slots}
use Rattle.lent_eden.proofs.NumberedWorkers.{counted, homes_are, numbers_are, of_worker, ordered_same, ordered_words}
use Rattle.lent_eden.proofs.NumberedWorkers.{of_own_number, words_are}
use Rattle.lent_eden.proofs.RanWorkers.{Began, can_take_in, copy_led, filled_to, fills, fixed_in, has_began}
use Rattle.lent_eden.proofs.RanWorkers.{has_segment, left_live, may, once, part, room_words, stand, tiles}

-- words at one address are the same, where there are as many
same_got : (old new : List ℕ) (at : ℕ) → length new ≡ length old → get_or new at 0 ≡ get_or old at 0
    → slice_get new at ≡ slice_get old at
same_got old new at long same =
    elim (cases_lt at (length old)) [
      | inl less ↦
          slice_get-get_or new at 0 (omega (arith, less, long)) ∙ ap (λ (word : ℕ). Some word) same
          ∙ sym (slice_get-get_or old at 0 less)
      | inr past ↦ slice_get_past new at (omega (arith, past, long)) ∙ sym (slice_get_past old at past)
    ]

-- taking in the worker leaves the word at the address alone
record LeavesAlone (worker : WorkerSide) (at : ℕ) : Type 0 where
  no_room : IsOfRoom worker at → ⊥
  no_end : IsBehindRoom worker at → ⊥
  no_header : (home : Home) → Contains worker.copies home → home.from ≢ at

-- where all leave it alone it stays
stays_alone : (workers : List WorkerSide) (old new : List ℕ) (at : ℕ) → AreTakenIn workers old new
    → ((worker : WorkerSide) → Contains workers worker → LeavesAlone worker at) → get_or new at 0 ≡ get_or old at 0
stays_alone _ _ _ at (AreTakenIn.none words) alone = refl
stays_alone _ _ _ at (AreTakenIn.next worker more old mid new taken rest) alone =
    let here = alone worker (first_in worker more) in
    stays_alone more mid new at rest (λ other there. alone other (rest_in worker more other there))
    ∙ taken.others at here.no_room here.no_end here.no_header

module _ {main : Mutator} {graph : Graph} {all : List Finished} (began : Began main graph all) where
  abbrev own : Own
  own = lent (heap_of main)

  abbrev fixed : Fixed
  fixed = fixed_in began

  abbrev start : Start
  start = start_with main (segments_of all)

  abbrev space : Space
  space = main.seat.space

  abbrev half : ℕ
  half = other_half main.young.half

  abbrev recorded : List ℕ
  recorded = main.recorded.slots

  abbrev homes : List Home
  homes = in_order (homes_of all)

  -- an address out of the young generation is in no segment and in no cell of eden
  not_young : (at : ℕ) → (at < eden_start space) ⊎ (roots_start space ≤ at) → eden_start space ≤ at
      → at < roots_start space → ⊥
  not_young at out from below = elim out [
    | inl before ↦ omega (arith, before, from)
    | inr after ↦ omega (arith, after, below)
  ]

  -- taking in a worker leaves it alone
  leaves_alone : (one : Finished) (at : ℕ) → Contains all one
      → (at < eden_start space) ⊎ (roots_start space ≤ at) → LeavesAlone one.worker at
  leaves_alone one at there out =
      let segment = has_segment began one there in
      record {
        no_room = λ is.
            not_young at out (omega (arith, segment.after_eden, is.from))
            (omega (arith, segment.before_roots, segment.fits, is.below));
        no_end = λ is.
            not_young at out (omega (arith, segment.after_eden, is.is))
            (omega (arith, segment.before_roots, segment.most, is.is, is.more));
        no_header = λ home has same.
            let stands = (may began).stand home.from (copy_led began one home there has) in
            not_young at out (omega (arith, stands.from, same))
            (omega (arith, stands.below, same, segment.after_eden, segment.before_roots));
      }

  module _ (now : Mutator) (taken : AreTakenIn (workers_of all) (heap_words main.seat) (heap_words now.seat))
      (beside : StaysBeside main now) where
    abbrev words : List ℕ
    words = heap_words now.seat

    -- the words are copying
    copying : Copying fixed words homes
    copying =
        taken_in_are_copying own recorded began.cells began.slots began.rooms all words began.begun.laid (may began)
        began.run.copied (part began) (stand began) taken

    -- rooms and headers were put back
    put : ArePutBack own all fixed words
    put =
        put_back own recorded began.cells began.slots began.rooms all words began.begun.laid (may began)
        began.run.copied (part began) (stand began) taken

    -- behind the copies of a segment a 0 stands
    ends : (number : ℕ) (one : Finished) → Contains all one → slice_get all number ≡ Some one
        → EndsSegment space half fixed words (copies_of number one)
    ends number one there stands below =
        let is = filled_to began number one there stands in
        let most = began.run.segments.most one there in
        ap (λ (at : ℕ). slice_index words at) is
        ∙ taken_in_end_with_0 own recorded began.cells began.slots began.rooms all words began.begun.laid (may began)
        began.run.copied (part began) (stand began) taken one.worker (end_of one.worker)
        (in_map (λ (f : Finished). f.worker) all one there)
        (record {
          is = refl;
          more = omega (arith, below, is, began.run.segments.starts number one stands, most);
        })

    -- a word out of the young generation stays
    outside : (at : ℕ) → (at < eden_start space) ⊎ (roots_start space ≤ at)
        → slice_get words at ≡ slice_get (heap_words main.seat) at
    outside at out =
        same_got (heap_words main.seat) words at beside.seat.count
        (stays_alone (workers_of all) (heap_words main.seat) words at taken
        (λ worker there.
        let found = map_from (λ (one : Finished). one.worker) all worker there in
        subst (λ (w : WorkerSide). LeavesAlone w at) found.2 (leaves_alone found.0 at found.1 out)))

    -- where a slot of a copy refers to one of the cells, its word of before refers to a survivor
    of_survivor : (home : Home) (offset cell new : ℕ) → Contains (homes_of all) home
        → Contains (slots_in own home.from) offset → Contains began.cells cell
        → IsRenamed (homes_of all) (word_at own (home.from + offset)) new → reference_in new ≡ Some cell
        → is_of_survivor own (word_at own (home.from + offset)) ≡ true
    of_survivor home offset cell new there visited is (IsRenamed.kept none same) refers =
        let old : ℕ = word_at own (home.from + offset) in
        let was : reference_in old ≡ Some cell = ap reference_in (sym same) ∙ refers in
        let young : eden_start space ≤ cell = ((began.begun.begins.cells cell).0 is).young in
        elim (cases_lt cell (segments_start space)) [
          | inl low ↦
              let led : IsLed own (whole_deal recorded) cell =
              IsLed.by_cell home.from offset cell ((once began).led home there) visited
              (record { refers = was; from = young; below = low }) in
              let copy = (once began).copied cell led in
              absurd (none copy.0 copy.1
              ((reference_from old cell was).1 ∙ ap (λ (n : ℕ). bits_of (Ref n)) (sym copy.2)))
          | inr high ↦
              let behind : nat_le (segments_start space) cell ≡ true = grind (arith, nat_tests) in
              ap (is_behind_eden own) was ∙ behind
        ]
    of_survivor home offset cell new there visited is (IsRenamed.renamed copy among was same) refers =
        absurd (home_is_no_cell copy new cell began.begun.laid copying ((ordered_same (homes_of all) copy).1 among) same
        refers is)

    -- such a slot was left
    others : (home : Home) (offset cell : ℕ) → Contains homes home → Contains (offsets_of fixed home.from) offset
        → RefersToAddress words (home.to + offset) cell → Contains began.cells cell
        → Contains (left_by all) (home.to + offset)
    others home offset cell there visited refers is =
        let copies : Finished → List Home = λ f. f.worker.copies in
        let among = (ordered_same (homes_of all) home).0 there in
        let found = flat_from copies all home among in
        let one : Finished = found.0 in
        let slot : ℕ = home.to + offset in
        let copied = has_copied own recorded all (may began) began.run.copied one found.1 in
        let low : offset < size_of fixed home.from = (slot_in_cell fixed home.from offset visited).1 in
        let inside =
        tile_within one.worker.start (end_of one.worker) one.worker.copies home (tiles began one found.1) found.2 in
        let word : slice_index words slot ≡ room_word one.worker slot =
        put.rooms one slot found.1
        (record { from = omega (arith, inside.0); below = omega (arith, inside.1, low) }) in
        let visits : Contains (slots_in own home.from) offset =
        subst (λ (offsets : List ℕ). Contains offsets offset) (sym (same_slots start fixed 0 1 began.begun home.from))
        visited in
        flat_in (λ (f : Finished). f.worker.left) all one slot found.1
        ((copied.1.copying.left slot).1 (record {
          home = home;
          offset = offset;
          among = found.2;
          visited = visits;
          stands = refl;
          passed = omega (arith, inside.1, low);
          survives = of_survivor home offset cell (room_word one.worker slot) among visits is
              ((once began).slots one home offset found.1 found.2 visits) (ap reference_in (sym word) ∙ refers);
        }))

    -- only words are others
    changes : ChangesWords main now
    changes = record {
      seat = beside.seat;
      paths = beside.paths;
      cycle = beside.cycle;
      young = beside.young;
      count = beside.seat.count;
      bound = ap (λ (all : Recorded). all.bound) beside.recorded;
      rows = ap length beside.free;
    }

    -- all of it
    hands_over : HandsOver main (segments_of all) now (left_by all) (words_by all)
    hands_over = record {
      fixed = fixed;
      homes = homes;
      begun = began.begun;
      copying = copying;
      workers = numbers_are 0 all ∙ ap (λ (many : ℕ). range_with_len 0 many) began.run.segments.many;
      fills = λ segment there.
          let of = of_worker 0 all segment there in
          subst (FillsSegment space half fixed) (of_own_number of)
          (fills began of.number of.one of.among of.stands);
      ends = λ segment there.
          let of = of_worker 0 all segment there in
          subst (EndsSegment space half fixed words) (of_own_number of)
          (ends of.number of.one of.among of.stands);
      same = λ home.
          let both = ordered_same (homes_of all) home in
          let are : homes_in (segments_of all) ≡ homes_of all = homes_are 0 all in (
            λ there. subst (λ (some : List Home). Contains some home) (sym are) (both.0 there),
            λ there. both.1 (subst (λ (some : List Home). Contains some home) are there),
          );
      words = ordered_words fixed (homes_of all) ∙ sym (words_are fixed 0 all);
      counted = counted fixed 0 all (room_words began);
      of_eden = λ home there.
          ((may began).stand home.from ((once began).led home ((ordered_same (homes_of all) home).0 there))).below;
      outside = outside;
      live = left_live began;
      others = others;
      changes = changes;
      free = beside.free;
      recorded = beside.recorded;
    }

-- the laws
pub workers_may_be_taken_in : WorkersMayBeTakenIn
workers_may_be_taken_in main graph all now one run beside there =
    can_take_in (has_began main graph all run) now one beside there

pub workers_hand_over : WorkersHandOver
workers_hand_over main graph all now run taken beside = hands_over (has_began main graph all run) now taken beside
