-- The stages of a scavenge: its start, and where roots, recorded slots and copies were followed.
use Rattle.std.proofs.Common.{◌≡◌, ℕ, ◌+◌, Bool, List, [], sym, ◌∙◌, ap, subst}
use Rattle.page_space.specs.Sizes.{page_words}
use Rattle.page_space.specs.Extents.{Space, eden_start, roots_start, layouts_start}
use Rattle.page_space.specs.RegionLaws.{IsSpace}
use Rattle.nursery.specs.Young.{Young, IsYoung, other_half}
use Rattle.free_runs.specs.FreeRuns.{AreFree}
use Rattle.object_graph.specs.Graphs.{Graph}
use Rattle.write_barrier.specs.MutatorState.{Mutator, MayStore, MainShows}
use Rattle.scavenger.specs.declared.spaces.Spaces.{Spaces}
use Rattle.scavenger.specs.declared.progress.Progress.{Progress}
use Rattle.scavenger.specs.Starts.{SegmentCopies, nothing_handed, room_start}
use Rattle.scavenger.specs.Filling.{Front, ChangesWords}
use Rattle.scavenger.specs.Walking.{AreSpaces, Scavenging, at_root, at_recorded, at_copy}
use Rattle.scavenger.proofs.FirstStep.{first_step, shown_may_begin}
use Rattle.scavenger.proofs.LoopGoing.{same_spaces, same_eden, changes_since}
use Rattle.scavenger.proofs.LoopEnds.{at_end}

-- how far a scavenge of a mutator has come, with the spaces that the code has computed
pub record HasCome (main : Mutator) (handed : List SegmentCopies) (now : Mutator) (spaces : Spaces) (all : Bool)
    (progress : Progress) (todo : List ℕ)
    (front : Front) : Type 0 where
  pub were : AreSpaces main.seat.space main.young.half all spaces
  pub are : AreSpaces now.seat.space now.young.half all spaces
  pub state : Scavenging main handed now all progress todo front

-- so it has where the spaces are those of what it has come to
pub has_come : {main now : Mutator} {handed : List SegmentCopies} {spaces : Spaces} {all : Bool} {progress : Progress}
    {todo : List ℕ} {front : Front} → AreSpaces now.seat.space now.young.half all spaces
    → Scavenging main handed now all progress todo front → HasCome main handed now spaces all progress todo front
has_come {main} {now} {handed} {spaces} {all} are state = record {
  were = subst (λ (half : ℕ). AreSpaces main.seat.space half all spaces)
      (ap (λ (young : Young). young.half) state.changes.young)
      (subst (λ (space : Space). AreSpaces space now.young.half all spaces) state.changes.seat.space are);
  are = are;
  state = state;
}

-- it begins with an empty list
pub comes_first : (main now : Mutator) (graph : Graph) (spaces : Spaces) (all : Bool) (progress : Progress)
    (items : List ℕ) → MainShows main graph → MayStore main → IsSpace now.seat.space → IsYoung now.young
    → AreFree now.free → now ≡ main → AreSpaces main.seat.space main.young.half all spaces
    → progress ≡ record { fill = spaces.room; copied = 0; refused = page_words + 1 } → items ≡ []
    → HasCome main (nothing_handed main.seat.space) now spaces all progress items (at_root (roots_start now.seat.space))
comes_first main now graph spaces all progress items shows quiet limits young free same are is_progress none =
    let handed : List SegmentCopies = nothing_handed main.seat.space in
    let Come : Mutator → Progress → List ℕ → Type 0 = λ main_now progress todo.
    HasCome main handed main_now spaces all progress todo (at_root (roots_start main_now.seat.space)) in
    let Begun : ℕ → Progress = λ room. record { fill = room; copied = 0; refused = page_words + 1 } in
    let may = shown_may_begin main graph
    (subst (λ (one : Mutator). IsSpace one.seat.space) same limits) shows
    (subst (λ (one : Mutator). IsYoung one.young) same young)
    (subst (λ (one : Mutator). AreFree one.free) same free) in
    let first : Come main (Begun (room_start main.seat.space (other_half main.young.half))) [] =
    has_come are (first_step main all quiet may) in
    subst (λ (one : Mutator). Come one progress items) (sym same)
    (subst (λ (one : Progress). Come main one items) (sym is_progress)
    (subst (λ (room : ℕ). Come main (Begun room) items) (sym are.room)
    (subst (Come main (Begun (room_start main.seat.space (other_half main.young.half)))) (sym none) first)))

-- what changes then are heap words
pub come_changes : {main old new : Mutator} {handed : List SegmentCopies} {spaces : Spaces} {all : Bool}
    {before after : Progress}
    {todo left : List ℕ} {front next : Front} → HasCome main handed old spaces all before todo front
    → Scavenging main handed new all after left next → ChangesWords old new
come_changes come state = changes_since come.state.changes state.changes

-- and it goes on from stage to stage
pub comes_on : {main old new : Mutator} {handed : List SegmentCopies} {spaces : Spaces} {all : Bool}
    {before after : Progress}
    {todo left : List ℕ} {front next : Front} → HasCome main handed old spaces all before todo front
    → (AreSpaces old.seat.space old.young.half all spaces → Scavenging main handed old all before todo front
    → Scavenging main handed new all after left next) → HasCome main handed new spaces all after left next
comes_on {spaces = spaces} come goes =
    let state = goes come.are come.state in
    record { were = come.were; are = same_spaces spaces (come_changes come state) come.are; state = state }

-- eden still begins where it did
pub comes_to_copies : {main old now : Mutator} {handed : List SegmentCopies} {spaces : Spaces} {all : Bool}
    {progress : Progress} {todo : List ℕ}
    {end : ℕ} → ChangesWords main old
    → HasCome main handed now spaces all progress todo (at_recorded end (eden_start old.seat.space))
    → HasCome main handed now spaces all progress todo (at_copy end (eden_start now.seat.space) 0 0)
comes_to_copies {main} {old} {now} {handed} {spaces} {all} {progress} {todo} {end} changes come =
    subst (λ (eden : ℕ). HasCome main handed now spaces all progress todo (at_copy end eden 0 0))
    (sym (same_eden (changes_since changes come.state.changes))) come

-- also where all copies were scanned
pub comes_to_end : {main first old now : Mutator} {handed : List SegmentCopies} {all : Bool} {progress : Progress}
    → ChangesWords main first → ChangesWords main old
    → Scavenging main handed now all progress []
    (at_copy (layouts_start first.seat.space) (eden_start old.seat.space) 0 0)
    → Scavenging main handed now all progress [] (at_end main.seat.space)
comes_to_end {main} {first} {old} {now} {handed} {all} {progress} before changes state =
    subst (λ (space : Space). Scavenging main handed now all progress []
    (at_copy (layouts_start space) (eden_start main.seat.space) 0 0)) before.seat.space
    (subst (λ (eden : ℕ). Scavenging main handed now all progress []
    (at_copy (layouts_start first.seat.space) eden 0 0))
    (same_eden changes) state)
