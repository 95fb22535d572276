-- A worker was taken in, and so were all: what stands in rooms, behind them and in headers.
use Rattle.std.proofs.Common.{◌≡◌, ◌≢◌, ◌∙◌, ◌⊎◌, ℕ, ◌+◌, ◌-◌, ◌<◌, ◌≤◌, inl, inr, List, [], ◌∷◌, length, get_or}
use Rattle.std.proofs.Common.{Some, refl, sym, ap, subst, arith, slice_get}
use Rattle.std.specs.List.{Contains}
use Rattle.std.proofs.lemmas.Option.{get_or_from_slice_get, slice_get-get_or}
use Rattle.tagged_word.specs.declared.word.Class.TheVariants.{Ref}
use Rattle.tagged_word.specs.Words.{bits_of}
use Rattle.tagged_word.proofs.Members.{first_in, rest_in, in_cases, in_map, map_from}
use Rattle.shared_table.specs.Owned.{Own}
use Rattle.scav_copy.specs.declared.places.Home.{Home}
use Rattle.scav_copy.specs.declared.places.Room.{Room}
use Rattle.scav_copy.specs.Places.{IsInRooms, IsLaidOut}
use Rattle.scav_copy.proofs.Spots.{none_in, cell_itself}
use Rattle.eden_copies.specs.Eden.{MayCopy}
use Rattle.eden_copies.specs.Sides.{WorkerSide, end_of, room_word}
use Rattle.eden_copies.specs.Together.{Finished, homes_of, whole_deal, HaveCopied}
use Rattle.eden_copies.specs.PutBack.{ArePartOf, ArePutBack, IsOfRoom, fixed_of}
use Rattle.eden_copies.proofs.AllTogether.{flat_from, flat_in, workers_copy_once}
use Rattle.eden_copies.proofs.PutTogether.{find_home, workers_are_copying}
use Rattle.handed_rooms.specs.Taken.{EndsRoom, HasRefs, HasRoom, IsBehindRoom, IsTakenIn}
use Rattle.handed_rooms.specs.Laws.{AreTakenIn, AreAllBeside, StandInSegments, workers_of}
use Rattle.handed_rooms.specs.Laws.{TakenInAreCopying, TakenInEndWith0}

-- the copy at a place of the list
record IsPlaced (copies : List Home) (home : Home) : Type 0 where
  number : ℕ
  inside : number < length copies
  stands : slice_get copies number ≡ Some home

-- each copy has one
is_placed : (copies : List Home) (home : Home) → Contains copies home → IsPlaced copies home
is_placed copies home (k, less, is) = record {
  number = k;
  inside = less;
  stands = slice_get-get_or copies k home less ∙ ap (λ (h : Home). Some h) is;
}

-- a room is put, then the 0 behind it, and then headers
pub taken_by : (worker : WorkerSide) (old mid late new : List ℕ) → length worker.room ≤ worker.most
    → ((home : Home) → Contains worker.copies home → home.from < worker.start)
    → HasRoom worker.start worker.room (length worker.room) old mid
    → EndsRoom (end_of worker) (worker.start + worker.most) mid late
    → HasRefs worker.copies (length worker.copies) late new
    → IsTakenIn worker old new
taken_by worker old mid late new fits before room ends refs =
    let no_header : (at : ℕ) → worker.start ≤ at → get_or new at 0 ≡ get_or late at 0 =
    λ at from. refs.others at (λ number home less stands same.
    let there : Contains worker.copies home =
    (number, less, get_or_from_slice_get worker.copies number home home stands) in
    omega (arith, before home there, same, from)) in
    record {
      long = refs.long ∙ ends.long ∙ room.long;
      room = λ at is.
          let here : worker.start + (at - worker.start) ≡ at = omega (arith, is.from) in
          no_header at is.from ∙ ends.others at (λ end. omega (arith, end.0, is.below))
          ∙ ap (λ (n : ℕ). get_or mid n 0) (sym here)
          ∙ room.put (at - worker.start) (omega (arith, is.from, is.below));
      ends = λ at behind.
          no_header at (omega (arith, behind.is))
          ∙ ap (λ (n : ℕ). get_or late n 0) behind.is ∙ ends.put (omega (arith, behind.more));
      headers = λ home there.
          let placed = is_placed worker.copies home there in
          refs.put placed.number home placed.inside placed.stands;
      others = λ at no_room no_end no_home.
          refs.others at (λ number home less stands.
          no_home home (number, less, get_or_from_slice_get worker.copies number home home stands))
          ∙ ends.others at (λ end. no_end (record { is = end.0; more = omega (arith, end.1) }))
          ∙ room.others at (λ inside. no_room (record { from = inside.0; below = inside.1 }));
    }

-- the address is one of the worker's segment
record IsOfSegment (worker : WorkerSide) (at : ℕ) : Type 0 where
  from : worker.start ≤ at
  below : at < worker.start + worker.most

-- What is known of workers whose headers stand in no segment, and are of one copy each.
record AreSound (workers : List WorkerSide) : Type 0 where
  fits : (worker : WorkerSide) → Contains workers worker → length worker.room ≤ worker.most
  apart : (worker other : WorkerSide) (home : Home) → Contains workers worker → Contains workers other
      → Contains worker.copies home → IsOfSegment other home.from → ⊥
  one_each : (worker other : WorkerSide) (home another : Home) → Contains workers worker → Contains workers other
      → Contains worker.copies home → Contains other.copies another → home.from ≡ another.from → home ≡ another

-- of fewer workers it is known too
fewer_sound : (worker : WorkerSide) (more : List WorkerSide) → AreSound (worker ∷ more) → AreSound more
fewer_sound worker more sound = record {
  fits = λ one there. sound.fits one (rest_in worker more one there);
  apart = λ one other home there also. sound.apart one other home (rest_in worker more one there)
      (rest_in worker more other also);
  one_each = λ one other home another there also. sound.one_each one other home another
      (rest_in worker more one there) (rest_in worker more other also);
}

-- a word in no segment, and no header, stays
stays_outside : (workers : List WorkerSide) (old new : List ℕ) (at : ℕ) → AreSound workers
    → AreTakenIn workers old new
    → ((worker : WorkerSide) → Contains workers worker → IsOfSegment worker at → ⊥)
    → ((worker : WorkerSide) (home : Home) → Contains workers worker → Contains worker.copies home → home.from ≢ at)
    → get_or new at 0 ≡ get_or old at 0
stays_outside _ _ _ at sound (AreTakenIn.none words) out no_header = refl
stays_outside _ _ _ at sound (AreTakenIn.next worker more old mid new taken rest) out no_header =
    let fits = sound.fits worker (first_in worker more) in
    let none : IsOfSegment worker at → ⊥ = out worker (first_in worker more) in
    stays_outside more mid new at (fewer_sound worker more sound) rest
    (λ other there. out other (rest_in worker more other there))
    (λ other home there. no_header other home (rest_in worker more other there))
    ∙ taken.others at (λ is. none (record { from = is.from; below = omega (arith, is.below, fits) }))
    (λ is. none (record { from = omega (arith, is.is); below = omega (arith, is.is, is.more) }))
    (λ home. no_header worker home (first_in worker more))

-- a word of the segment of the first worker stays where the others are taken in
stays_in_first : (worker : WorkerSide) (more : List WorkerSide) (mid new : List ℕ) (at : ℕ)
    → AreSound (worker ∷ more) → AreAllBeside (worker ∷ more) → AreTakenIn more mid new → IsOfSegment worker at
    → get_or new at 0 ≡ get_or mid at 0
stays_in_first worker more mid new at sound beside rest is =
    stays_outside more mid new at (fewer_sound worker more sound) rest
    (λ other there inside. elim (beside.0 other there) [
      | inl before ↦ omega (arith, before, is.below, inside.from)
      | inr behind ↦ omega (arith, behind, is.from, inside.below)
    ])
    (λ other home there has same.
    sound.apart other worker home (rest_in worker more other there) (first_in worker more) has
    (record { from = omega (arith, same, is.from); below = omega (arith, same, is.below) }))

-- what stands in the segments then: the words of rooms, and a 0 behind them
record StandsThere (worker : WorkerSide) (new : List ℕ) : Type 0 where
  room : (at : ℕ) → IsOfRoom worker at → get_or new at 0 ≡ room_word worker at
  ends : (at : ℕ) → IsBehindRoom worker at → get_or new at 0 ≡ 0

-- so it is in each
segments_stand : (workers : List WorkerSide) (old new : List ℕ) → AreSound workers → AreAllBeside workers
    → AreTakenIn workers old new → (one : WorkerSide) → Contains workers one → StandsThere one new
segments_stand _ _ _ sound beside (AreTakenIn.none words) one there = absurd (none_in one there)
segments_stand _ _ _ sound beside (AreTakenIn.next worker more old mid new taken rest) one there =
    let fits = sound.fits worker (first_in worker more) in
    let first : StandsThere worker new = record {
      room = λ at is.
          stays_in_first worker more mid new at sound beside rest
          (record { from = is.from; below = omega (arith, is.below, fits) }) ∙ taken.room at is;
      ends = λ at is.
          stays_in_first worker more mid new at sound beside rest
          (record { from = omega (arith, is.is); below = omega (arith, is.is, is.more) }) ∙ taken.ends at is;
    } in
    elim (in_cases worker more one there) [
      | inl same ↦ subst (λ (w : WorkerSide). StandsThere w new) same first
      | inr later ↦ segments_stand more mid new (fewer_sound worker more sound) beside.1 rest one later
    ]

-- one of these workers copied a cell, or none did
find_copy : (workers : List WorkerSide) (cell : ℕ)
    → ((worker : WorkerSide) × (home : Home) × Contains workers worker × Contains worker.copies home
    × (home.from ≡ cell))
    ⊎ ((worker : WorkerSide) (home : Home) → Contains workers worker → Contains worker.copies home
    → home.from ≢ cell)
find_copy [] cell = inr (λ worker home there. absurd (none_in worker there))
find_copy (worker ∷ more) cell =
    elim (find_home worker.copies cell) [
      | inl found ↦ inl (worker, found.0, first_in worker more, found.1, found.2)
      | inr none ↦ elim (find_copy more cell) [
        | inl later ↦ inl (later.0, later.1, rest_in worker more later.0 later.2, later.3, later.4)
        | inr no_other ↦
            inr (λ one home there.
            elim (in_cases worker more one there) [
              | inl same ↦ λ has. none home (subst (λ (w : WorkerSide). Contains w.copies home) (sym same) has)
              | inr rest ↦ no_other one home rest
            ])
      ]
    ]

-- the headers refer to the copies
headers_stand : (workers : List WorkerSide) (old new : List ℕ) → AreSound workers → AreTakenIn workers old new
    → (one : WorkerSide) (home : Home) → Contains workers one → Contains one.copies home
    → get_or new home.from 0 ≡ bits_of (Ref home.to)
headers_stand _ _ _ sound (AreTakenIn.none words) one home there has = absurd (none_in one there)
headers_stand _ _ _ sound (AreTakenIn.next worker more old mid new taken rest) one home there has =
    let later_ones = fewer_sound worker more sound in
    elim (find_copy more home.from) [
      | inl found ↦
          let same : found.1 ≡ home =
          sound.one_each found.0 one found.1 home (rest_in worker more found.0 found.2) there found.3 has found.4 in
          ap (λ (n : ℕ). get_or new n 0) (sym found.4)
          ∙ headers_stand more mid new later_ones rest found.0 found.1 found.2 found.3
          ∙ ap (λ (h : Home). bits_of (Ref h.to)) same
      | inr none ↦ elim (in_cases worker more one there) [
        | inr later ↦ absurd (none one home later has refl)
        | inl same ↦
            let own : Contains worker.copies home =
            subst (λ (w : WorkerSide). Contains w.copies home) (sym same) has in
            stays_outside more mid new home.from later_ones rest
            (λ other also inside.
            sound.apart worker other home (first_in worker more) (rest_in worker more other also) own inside)
            none
            ∙ taken.headers home own
      ]
    ]

-- there are as many words
taken_long : (workers : List WorkerSide) (old new : List ℕ) → AreTakenIn workers old new → length new ≡ length old
taken_long _ _ _ (AreTakenIn.none words) = refl
taken_long _ _ _ (AreTakenIn.next worker more old mid new taken rest) = taken_long more mid new rest ∙ taken.long

module _ (own : Own) (recorded cells slots : List ℕ) (rooms : List Room) (all : List Finished) (words : List ℕ)
    (laid : IsLaidOut (fixed_of own cells slots rooms)) (may : MayCopy own (whole_deal recorded))
    (have : HaveCopied own recorded all) (part : ArePartOf own recorded all (fixed_of own cells slots rooms))
    (stand : StandInSegments (workers_of all) rooms) where
  -- a worker is one of a run
  of_run : (worker : WorkerSide) → Contains (workers_of all) worker
      → (one : Finished) × Contains all one × (one.worker ≡ worker)
  of_run worker there = map_from (λ (one : Finished). one.worker) all worker there

  -- its copies are among those of all
  among_all : (worker : WorkerSide) (home : Home) → Contains (workers_of all) worker → Contains worker.copies home
      → Contains (homes_of all) home
  among_all worker home there has =
      let run = of_run worker there in
      flat_in (λ (f : Finished). f.worker.copies) all run.0 home run.1
      (subst (λ (w : WorkerSide). Contains w.copies home) (sym run.2) has)

  -- a word of a segment is one of a room
  segment_in_rooms : (worker : WorkerSide) (at : ℕ) → Contains (workers_of all) worker → IsOfSegment worker at
      → IsInRooms (fixed_of own cells slots rooms) at
  segment_in_rooms worker at there is =
      let room = stand.among worker there in
      (room.0, room.1, record { from = omega (arith, room.2, is.from); below = omega (arith, room.3, is.below) })

  -- so the workers are sound
  they_are_sound : AreSound (workers_of all)
  they_are_sound =
      let once = workers_copy_once own recorded all may have in
      record {
        fits = stand.fits;
        apart = λ worker other home there also has inside.
            let cell = part.cells home.from (once.led home (among_all worker home there has)) in
            laid.cell_in_no_room home.from (home.from, cell, cell_itself home.from laid cell)
            (segment_in_rooms other home.from also inside);
        one_each = λ worker other home another there also has too same.
            once.one_each home another (among_all worker home there has) (among_all other another also too) same;
      }

  module _ (taken : AreTakenIn (workers_of all) own.words words) where
    -- rooms and headers were put back
    pub put_back : ArePutBack own all (fixed_of own cells slots rooms) words
    put_back = record {
      long = taken_long (workers_of all) own.words words taken;
      rooms = λ one at there is.
          (segments_stand (workers_of all) own.words words they_are_sound stand.beside taken one.worker
          (in_map (λ (f : Finished). f.worker) all one there)).room at is;
      headers = λ home there.
          let run = flat_from (λ (f : Finished). f.worker.copies) all home there in
          headers_stand (workers_of all) own.words words they_are_sound taken run.0.worker home
          (in_map (λ (f : Finished). f.worker) all run.0 run.1) run.2;
      others = λ at no_room no_header.
          stays_outside (workers_of all) own.words words at they_are_sound taken
          (λ worker there inside. no_room (segment_in_rooms worker at there inside))
          (λ worker home there has. no_header home (among_all worker home there has));
    }

-- so a scavenge may go on from the words
pub taken_in_are_copying : TakenInAreCopying
taken_in_are_copying own recorded cells slots rooms all words laid may have part stand taken =
    workers_are_copying own recorded cells slots rooms all words laid may have part
    (put_back own recorded cells slots rooms all words laid may have part stand taken)

-- and behind the words of each room a 0 stands
pub taken_in_end_with_0 : TakenInEndWith0
taken_in_end_with_0 own recorded cells slots rooms all words laid may have part stand taken worker at there behind =
    (segments_stand (workers_of all) own.words words
    (they_are_sound own recorded cells slots rooms all words laid may have part stand) stand.beside taken worker
    there).ends at behind
