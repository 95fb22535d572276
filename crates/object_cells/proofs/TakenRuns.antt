-- The words that are taken from where cells are made: a run behind the used words of eden, or one of granted words.
use Rattle.std.proofs.Common.{◌≡◌, ℕ, ◌+◌, ◌-◌, ◌≤◌, ◌<◌, Bool, true, false, List, []}
use Rattle.std.proofs.Common.{refl, sym, ◌∙◌, ap, subst, arith, add-zero, if◌then◌else◌}
use Rattle.std.proofs.lemmas.Bool.Decides.{nat_tests}
use Rattle.page_space.specs.Extents.{Space, eden_start}
use Rattle.nursery.specs.Young.{Young, HasRoom, HasRoomBy, in_eden, next_of, bumped, rest_of}
use Rattle.cell_layout.specs.Cells.{IsRow}
use Rattle.cell_layout.proofs.Rows.{cell_within}
use Rattle.write_barrier.specs.Seats.{RestStays}
use Rattle.heap_model.specs.Types.{Run, Cell}
use Rattle.heap_model.specs.Heaps.{Heap}
use Rattle.heap_model.specs.Wholeness.{HasRows}
use Rattle.heap_model.specs.Changes.{AreFillers, IsRunOf}
use Rattle.heap_model.proofs.BoundHeaps.{none_in}
use Rattle.write_barrier.specs.MutatorState.{Mutator, heap_of, IsTied}
use Rattle.object_cells.specs.Contents.{next_at}
use Rattle.object_cells.specs.Uses.{TakesRun}

-- Cells are made in eden, where there is room for so many words.
pub record TakesEden (young : Young) (need : ℕ) : Type 0 where
  pub eden : in_eden young ≡ true
  pub next : next_of young ≡ eden_start young.space + young.used
  pub room : young.survivors + young.used + need ≤ young.space.sizes.young
  pub bumps : bumped young need ≡ record young { used = young.used + need }

-- Cells are made in what is granted, which has so many words.
pub record TakesGranted (young : Young) (need : ℕ) : Type 0 where
  pub page : in_eden young ≡ false
  pub next : next_of young ≡ young.granted.at
  pub some : 0 < young.granted.words
  pub room : need ≤ young.granted.words
  pub bumps : bumped young need ≡ record young { granted = rest_of young.granted need }

-- so many words are of one or of the other
pub data Taking (young : Young) (need : ℕ) : Type 0 where
  of_eden : TakesEden young need → Taking young need
  of_granted : TakesGranted young need → Taking young need

-- what is bumped, by where cells are made
abbrev bumped_by : Bool → Young → ℕ → Young
bumped_by test young more = record young {
  used = if test then young.used + more else young.used;
  granted = if test then young.granted else rest_of young.granted more;
}

-- the address of the next cell, by where cells are made
abbrev next_by : Bool → Young → ℕ
next_by test young = if test then eden_start young.space + young.used else young.granted.at

-- which it is
taking_by : (young : Young) (need : ℕ) (test : Bool) → in_eden young ≡ test → HasRoom young need → Taking young need
taking_by young need true is room = Taking.of_eden (record {
  eden = is;
  next = ap (λ t. next_by t young) is;
  room = subst (λ t. HasRoomBy t young need) is room;
  bumps = ap (λ t. bumped_by t young need) is;
})
taking_by young need false is room = Taking.of_granted (record {
  page = is;
  next = ap (λ t. next_by t young) is;
  some = grind (arith, nat_tests, is);
  room = subst (λ t. HasRoomBy t young need) is room;
  bumps = ap (λ t. bumped_by t young need) is;
})

-- where there is room
pub taking : (young : Young) (need : ℕ) → HasRoom young need → Taking young need
taking young need room = taking_by young need (in_eden young) refl room

-- what is left of the young generation where no word is taken, in eden or in what is granted
bumped_none_by : (young : Young) (test : Bool) → bumped_by test young 0 ≡ young
bumped_none_by young true = ap (λ n. record young { used = n }) (add-zero young.used)
bumped_none_by young false =
    let run : Run = young.granted in
    let left : run.words - 0 ≡ run.words = omega arith in
    ap (λ n. record young { granted = record { at = n; words = run.words - 0 } }) (add-zero run.at)
    ∙ ap (λ n. record young { granted = record { at = run.at; words = n } }) left

-- where no word is taken the young generation stays as it was
pub bumped_none : (young : Young) → bumped young 0 ≡ young
bumped_none young = bumped_none_by young (in_eden young)

-- survivors and used words stay no more than the words of the young generation
used_by : (young : Young) (need : ℕ) → Taking young need
    → young.survivors + young.used ≤ young.space.sizes.young
    → young.survivors + (bumped young need).used ≤ young.space.sizes.young
used_by young need (Taking.of_eden takes) few =
    omega (arith, takes.room, ap (λ (y : Young). y.used) takes.bumps)
used_by young need (Taking.of_granted takes) few =
    omega (arith, few, ap (λ (y : Young). y.used) takes.bumps)

-- so after a run was taken they are no more than these words too
pub room_stays : {old : Mutator} (new : Mutator) (need : ℕ) → IsTied old → HasRows (heap_of old)
    → HasRoom old.young need → new.young ≡ bumped old.young need → new.seat.space ≡ old.seat.space
    → new.young.survivors + new.young.used ≤ new.seat.space.sizes.young
room_stays {old} new need tied rows room young space =
    let sizes = ap (λ (s : Space). s.sizes.young) tied.space in
    omega (
      arith,
      used_by old.young need (taking old.young need room) (omega (arith, rows.few, sizes)),
      ap (λ (y : Young). y.used) young,
      ap (λ (y : Young). y.survivors) young,
      ap (λ (s : Space). s.sizes.young) space,
      sizes,
    )

-- the first of some fillers are fillers
pub first_fillers : {heap : Heap} {from to : ℕ} (end : ℕ) → AreFillers heap from to → end ≤ to
    → AreFillers heap from end
first_fillers end fillers before = record {
  extent = fillers.extent;
  among = fillers.among;
  begins = fillers.begins;
  ends = omega (arith, before, fillers.ends);
  of_page = omega (arith, before, fillers.of_page);
  each = λ at from below. fillers.each at from (omega (arith, below, before));
}

-- What is taken is a run in which cells are made.
taken_by : {old : Mutator} (new : Mutator) (need : ℕ) → IsTied old → Taking old.young need
    → new.young ≡ bumped old.young need → IsRunOf (heap_of old) (heap_of new) (next_at old) (next_at old + need)
taken_by {old} new need tied (Taking.of_eden takes) young =
    let used : new.young.used ≡ old.young.used + need = ap (λ (y : Young). y.used) (young ∙ takes.bumps) in
    let start = ap (λ (s : Space). eden_start s) tied.space in
    IsRunOf.of_eden (omega (arith, takes.next, start)) (omega (arith, takes.next, start, used)) (omega (arith, used))
taken_by {old} new need tied (Taking.of_granted takes) young =
    let heap : Heap = heap_of old in
    let granted : Run = old.young.granted in
    let used : new.young.used ≡ old.young.used = ap (λ (y : Young). y.used) (young ∙ takes.bumps) in
    let fillers : AreFillers heap granted.at (granted.at + need) =
    first_fillers (granted.at + need) (tied.granted takes.some) (omega (arith, takes.room)) in
    IsRunOf.of_page (omega arith) used
    (subst (λ at. AreFillers heap at (at + need)) (sym takes.next) fillers)

-- what was taken from where cells are made is a run of eden, or one of fillers of a page
pub taken_run : {old : Mutator} (new : Mutator) (need : ℕ) → IsTied old → HasRoom old.young need
    → new.young ≡ bumped old.young need → new.seat.space ≡ old.seat.space
    → IsRunOf (heap_of old) (heap_of new) (next_at old) (next_at old + need)
taken_run {old} new need tied room young space = taken_by new need tied (taking old.young need room) young

-- cells that are a row of what was taken stand in it
pub takes_run : {old new : Mutator} {words : List ℕ} {made : List Cell} (need : ℕ) → RestStays old.seat new.seat
    → HasRoom old.young need → new.young ≡ bumped old.young need
    → IsRow new.seat.space words (next_at old) (next_at old + need) made → TakesRun old new made
takes_run {old} {new} {words} {made} need beside room young row = record {
  space = beside.space;
  phase = beside.phase;
  need = need;
  room = room;
  young = young;
  within = λ cell among.
      cell_within new.seat.space words (next_at old) (next_at old + need) made cell row among;
}

-- no cell needs no word
pub takes_none : {old new : Mutator} → RestStays old.seat new.seat → HasRoom old.young 0
    → new.young ≡ bumped old.young 0 → TakesRun old new []
takes_none beside room young = record {
  space = beside.space;
  phase = beside.phase;
  need = 0;
  room = room;
  young = young;
  within = λ cell among. absurd (none_in cell among);
}
