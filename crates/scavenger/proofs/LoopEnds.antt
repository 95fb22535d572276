-- A scavenge ends where no copy is on the list.
use Rattle.std.proofs.Common.{◌≡◌, ℕ, ◌+◌, ◌-◌, ◌≤◌, inl, inr, Bool, List, []}
use Rattle.std.proofs.Common.{sym, ◌∙◌, ap, subst, arith}
use Rattle.page_space.specs.Extents.{Space, eden_start, layouts_start}
use Rattle.page_space.specs.RegionLaws.{IsSpace}
use Rattle.page_space.proofs.LawsHold.{kinds_by_number}
use Rattle.nursery.specs.Young.{Young, turned, other_half}
use Rattle.remembered_set.specs.Recorded.{Recorded}
use Rattle.write_barrier.specs.Seats.{heap_words}
use Rattle.heap_model.specs.Types.{Run}
use Rattle.write_barrier.specs.MutatorState.{Mutator}
use Rattle.scav_copy.specs.declared.places.Home.{Home}
use Rattle.scav_copy.specs.Places.{Fixed, StoodAt}
use Rattle.scav_copy.proofs.Spots.{none_in}
use Rattle.scavenger.specs.declared.spaces.Spaces.{Spaces}
use Rattle.scavenger.specs.declared.progress.Progress.{Progress}
use Rattle.scavenger.specs.Starts.{SegmentCopies, room_start, start_with}
use Rattle.scavenger.specs.Filling.{Front, IsToDo, CopiesFillRooms, AllAreDone, ChangesWords, IsEmptied}
use Rattle.scavenger.specs.Filling.{words_of_segments}
use Rattle.scavenger.specs.Laws.{IsEnded}
use Rattle.scavenger.specs.Handing.{HasEnded}
use Rattle.scavenger.specs.Walking.{AreSpaces, AreKept, IsWellPlaced, room_end, Scavenging, at_copy}
use Rattle.scavenger.proofs.FollowTiles.{fill_above}
use Rattle.scavenger.proofs.CodeChanges.{changes_again}
use Rattle.scavenger.proofs.LoopGoing.{root_or_before}
use Rattle.scavenger.proofs.Sums.{few_copied}

-- all roots and recorded slots were followed, and no copy is to do
abbrev pub at_end : Space → Front
at_end space = at_copy (layouts_start space) (eden_start space) 0 0

-- nothing is to do then
nothing_to_do : {start now : Mutator} {handed : List SegmentCopies} {all : Bool} {progress : Progress}
    (state : Scavenging start handed now all progress [] (at_end start.seat.space)) (slot place : ℕ)
    → StoodAt state.fixed state.homes slot place
    → IsToDo (start_with start handed) state.fixed state.homes [] (at_end start.seat.space) slot → ⊥
nothing_to_do {start} state slot place stood (IsToDo.root from) =
    let kinds = kinds_by_number start.seat.space in
    elim (root_or_before state slot place stood) [
      | inl root ↦ omega (arith, from, root.known, root.stands, kinds.layouts)
      | inr before ↦ omega (arith, from, before, kinds.layouts)
    ]
nothing_to_do state slot place stood (IsToDo.recorded from below there) = omega (arith, from, below)
nothing_to_do state slot place stood (IsToDo.at_hand from below) = omega (arith, below)
nothing_to_do state slot place stood (IsToDo.left there) = none_in slot there
nothing_to_do state slot place stood (IsToDo.listed home there listed inside) = none_in home.to listed

-- so all is done
pub all_done : {start now : Mutator} {handed : List SegmentCopies} {all : Bool} {progress : Progress}
    (state : Scavenging start handed now all progress [] (at_end start.seat.space))
    → AllAreDone state.fixed (heap_words now.seat) state.homes
all_done state slot place cell stood refers is =
    nothing_to_do state slot place stood (state.others slot place cell stood refers is)

-- what is left is emptied and the nursery is turned, and that is the end
pub ends_scavenging : {start now emptied new : Mutator} {handed : List SegmentCopies} {all : Bool} {progress : Progress}
    → IsSpace start.seat.space
    → (state : Scavenging start handed now all progress [] (at_end start.seat.space))
    → IsEmptied start.seat.space start.young.half progress.fill
    (room_end start.seat.space (other_half start.young.half)) (heap_words now.seat) (heap_words emptied.seat)
    → ChangesWords now emptied → emptied.free ≡ now.free → emptied.recorded ≡ now.recorded
    → new ≡ record emptied {
      young = turned emptied.young (words_of_segments state.fixed handed
          + (progress.fill - room_start start.seat.space (other_half start.young.half)));
    }
    → IsEnded start handed new all state.fixed state.homes (heap_words now.seat) progress.fill progress.refused
ends_scavenging {start} {now} {emptied} {new} {handed} {all} {progress} limits state is_emptied changes free recorded
    is =
    let words : List ℕ = heap_words now.seat in
    let both = changes_again state.changes changes in
    let Filled : List (List Run) → Type 0 = λ rows.
    CopiesFillRooms (start_with start handed) state.fixed words rows state.homes progress.fill in
    let Placed : List (List Run) → Type 0 = λ rows.
    IsWellPlaced (start_with start handed) state.fixed rows state.homes all progress.refused in
    let Kept : Recorded → Type 0 = λ one. AreKept (start_with start handed) state.fixed words state.homes one.slots in
    let Of : Mutator → Type 0 = λ (main : Mutator).
    IsEnded start handed main all state.fixed state.homes words progress.fill progress.refused in
    subst Of (sym is) (record {
      limits = limits;
      quiet = λ mark. state.quiet (state.changes.seat.phase ∙ mark);
      begun = state.begun;
      bounded = state.bounded;
      filled = subst Filled (sym free) state.filled;
      done = all_done state;
      placed = subst Placed (sym free) state.placed;
      kept = subst Kept (sym recorded) state.kept;
      emptied = is_emptied;
      seat = both.seat;
      paths = both.paths;
      cycle = both.cycle;
      bound = both.bound;
      rows = both.rows;
      young = ap (λ (young : Young). turned young (words_of_segments state.fixed handed
          + (progress.fill - room_start start.seat.space (other_half start.young.half)))) both.young;
    })

-- the last two steps end it, as the code computes their numbers
pub has_ended : (start : Mutator) (handed : List SegmentCopies) (now emptied : Mutator) (spaces : Spaces) (all : Bool)
    (progress : Progress) (half many : ℕ) (nursery young : Young)
    → IsSpace start.seat.space → AreSpaces start.seat.space start.young.half all spaces → half ≡ start.young.half
    → (state : Scavenging start handed now all progress [] (at_end start.seat.space))
    → many ≡ words_of_segments state.fixed handed
    → IsEmptied now.seat.space half progress.fill spaces.room_end (heap_words now.seat) (heap_words emptied.seat)
    → ChangesWords now emptied → emptied.free ≡ now.free → emptied.recorded ≡ now.recorded
    → nursery ≡ emptied.young → young ≡ turned nursery (many + (progress.fill - spaces.room))
    → HasEnded start handed (record emptied { young = young }) all
has_ended start handed now emptied spaces all progress half many nursery young limits are is_half state counted
    is_emptied changes free recorded lent turns =
    let fill : ℕ = progress.fill in
    let left : ℕ = start.young.half in
    let of_helpers : ℕ = words_of_segments state.fixed handed in
    let Emptied : Space → ℕ → ℕ → Type 0 = λ space one end.
    IsEmptied space one fill end (heap_words now.seat) (heap_words emptied.seat) in
    let of_space = subst (λ (space : Space). Emptied space half spaces.room_end) state.changes.seat.space is_emptied in
    let of_half = subst (λ (one : ℕ). Emptied start.seat.space one spaces.room_end) is_half of_space in
    let of_room = subst (Emptied start.seat.space left) are.room_end of_half in
    let turned_by : young
    ≡ turned emptied.young (of_helpers + (fill - room_start start.seat.space (other_half left))) =
    turns ∙ ap (λ (one : Young). turned one (many + (fill - spaces.room))) lent
    ∙ ap (λ (one : ℕ). turned emptied.young (one + (fill - spaces.room))) counted
    ∙ ap (λ (room : ℕ). turned emptied.young (of_helpers + (fill - room))) are.room in
    record {
      fixed = state.fixed;
      homes = state.homes;
      words = heap_words now.seat;
      fill = fill;
      refused = progress.refused;
      ended = ends_scavenging limits state of_room changes free recorded
          (ap (λ (one : Young). record emptied { young = one }) turned_by);
    }

-- the copies in all segments have no more words than the young generation
pub fill_fits : {start now : Mutator} {handed : List SegmentCopies} {spaces : Spaces} {all : Bool}
    {progress : Progress} {todo : List ℕ} {front : Front} → AreSpaces start.seat.space start.young.half all spaces
    → (state : Scavenging start handed now all progress todo front)
    → (spaces.room ≤ progress.fill)
    × (words_of_segments state.fixed handed + (progress.fill - spaces.room) ≤ start.seat.space.sizes.young)
fill_fits are state =
    let above = fill_above state.filled in
    let few = few_copied state.begun state.filled in (
      omega (arith, above, are.room),
      omega (arith, few, state.filled.long, state.begun.whole.rows.few, are.room),
    )

-- what is recorded stands before eden, and so before where the segment is filled
pub bound_below : {start now : Mutator} {handed : List SegmentCopies} {all : Bool} {progress : Progress}
    {todo : List ℕ} {front : Front}
    → Scavenging start handed now all progress todo front → now.recorded.bound ≤ progress.fill
bound_below {start} {now} state =
    let above = fill_above state.filled in
    let bound : now.recorded.bound ≡ eden_start start.seat.space = state.changes.bound ∙ state.bounded in
    omega (arith, bound, above)
