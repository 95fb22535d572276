-- The slots that helpers left are followed in order.
use Rattle.std.proofs.Common.{◌≡◌, ◌≢◌, ◌∙◌, ℕ, inl, inr, Bool, List, [], ◌∷◌, sym, subst}
use Rattle.std.specs.List.{Contains}
use Rattle.tagged_word.proofs.Members.{in_cases}
use Rattle.page_space.specs.Extents.{Space, roots_start}
use Rattle.write_barrier.specs.MutatorState.{Mutator}
use Rattle.scav_copy.specs.declared.places.Home.{Home}
use Rattle.scav_copy.specs.Places.{Fixed, StoodAt}
use Rattle.scavenger.specs.declared.progress.Progress.{Progress}
use Rattle.scavenger.specs.Starts.{Start, SegmentCopies}
use Rattle.scavenger.specs.Filling.{IsToDo}
use Rattle.scavenger.specs.Walking.{HasFollowed, Scavenging, at_left, at_root}
use Rattle.scavenger.specs.Handing.{HasLeft}
use Rattle.scavenger.proofs.CodeStores.{still_live}
use Rattle.scavenger.proofs.LoopGoing.{passes_slot}

-- another slot than the first of those that were left is to do still
left_move : {start : Start} {fixed : Fixed} {homes : List Home} {todo : List ℕ} (space : Space) (slot other : ℕ)
    (rest : List ℕ) → other ≢ slot → IsToDo start fixed homes todo (at_left space (slot ∷ rest)) other
    → IsToDo start fixed homes todo (at_left space rest) other
left_move space slot other rest apart (IsToDo.root from) = IsToDo.root from
left_move space slot other rest apart (IsToDo.recorded from below there) = IsToDo.recorded from below there
left_move space slot other rest apart (IsToDo.at_hand from below) = IsToDo.at_hand from below
left_move space slot other rest apart (IsToDo.left there) = elim (in_cases slot rest other there) [
  | inl same ↦ absurd (apart (sym same))
  | inr later ↦ IsToDo.left later
]
left_move space slot other rest apart (IsToDo.listed home there listed inside) = IsToDo.listed home there listed inside

-- once it was followed, the others are to do
pub left_goes_on : {start now new : Mutator} {handed : List SegmentCopies} {all : Bool} {before after : Progress}
    {todo more : List ℕ} (left rest : List ℕ) (slot : ℕ)
    → (has : HasLeft start handed now all before todo left (slot ∷ rest))
    → HasFollowed start handed now new all before after todo more
    (at_left start.seat.space (slot ∷ rest)) slot has.state
    → HasLeft start handed new all after more left rest
left_goes_on {start} left rest slot has followed =
    let next = passes_slot (at_left start.seat.space rest) followed (λ other place stood apart.
    left_move start.seat.space slot other rest apart) in
    record {
      state = next.after;
      live = λ one there.
          let was = has.live one there in
          let stood = still_live one was.0 followed.on was.1 in (
            was.0,
            subst (λ (homes : List Home). StoodAt next.after.fixed homes one was.0) (sym next.homes)
                (subst (λ (fixed : Fixed). StoodAt fixed followed.on.next.homes one was.0) (sym next.fixed) stood),
          );
    }

-- where none is left, the roots come next
pub left_done : (first : Mutator) {start now : Mutator} {handed : List SegmentCopies} {all : Bool} {progress : Progress}
    {todo : List ℕ} (left rest : List ℕ) → rest ≡ [] → first.seat.space ≡ start.seat.space
    → HasLeft start handed now all progress todo left rest
    → Scavenging start handed now all progress todo (at_root (roots_start first.seat.space))
left_done first {start} {now} {handed} {all} {progress} {todo} left rest none same has =
    subst (λ (space : Space). Scavenging start handed now all progress todo (at_root (roots_start space))) (sym same)
    (subst (λ (slots : List ℕ). Scavenging start handed now all progress todo (at_left start.seat.space slots)) none
    has.state)
