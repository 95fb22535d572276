-- The first root words of the variables are followed, one after another.
use Rattle.std.proofs.Common.{◌≡◌, ℕ, ◌+◌, ◌<◌, ◌≤◌, inl, inr, Bool, List}
use Rattle.std.proofs.Common.{refl, ◌∙◌, ap, arith}
use Rattle.page_space.specs.Extents.{Space}
use Rattle.handle_roots.specs.Roots.{root_at}
use Rattle.write_barrier.specs.MutatorState.{Mutator}
use Rattle.scav_copy.specs.declared.places.Home.{Home}
use Rattle.scav_copy.specs.Places.{Fixed, StoodAt}
use Rattle.scavenger.specs.declared.progress.Progress.{Progress}
use Rattle.scavenger.specs.Starts.{Start, SegmentCopies}
use Rattle.scavenger.specs.Filling.{Front, IsToDo}
use Rattle.scavenger.specs.Walking.{Scavenging, HasFollowed, at_root}
use Rattle.scavenger.proofs.LoopGoing.{root_or_before, passes_slot}

-- the first root word of a variable is live
pub root_is_live : {start now : Mutator} {handed : List SegmentCopies} {all : Bool} {progress : Progress}
    {todo : List ℕ} {front : Front}
    (state : Scavenging start handed now all progress todo front) (variable : ℕ) → variable < start.seat.space.variables
    → StoodAt state.fixed state.homes (root_at start.seat.space variable) (root_at start.seat.space variable)
root_is_live {start} state variable known =
    let at : ℕ = root_at start.seat.space variable in
    StoodAt.itself
    ((state.begun.begins.slots at).1 (inl (record { variable = variable; known = known; stands = refl }))) refl

-- what was to do from the root on, beside it, is to do behind it
roots_move : {start : Start} {fixed : Fixed} {homes : List Home} {todo : List ℕ} (root next other : ℕ)
    → (root ≤ other → next ≤ other) → IsToDo start fixed homes todo (at_root root) other
    → IsToDo start fixed homes todo (at_root next) other
roots_move root next other on (IsToDo.root from) = IsToDo.root (on from)
roots_move root next other on (IsToDo.recorded from below there) = IsToDo.recorded from below there
roots_move root next other on (IsToDo.at_hand from below) = IsToDo.at_hand from below
roots_move root next other on (IsToDo.left there) = IsToDo.left there
roots_move root next other on (IsToDo.listed home there listed inside) = IsToDo.listed home there listed inside

-- the scavenge goes on where one more root was followed
pub roots_go_on : {start now new : Mutator} {handed : List SegmentCopies} {all : Bool} {before after : Progress}
    {todo left : List ℕ} {slot : ℕ}
    (variable : ℕ) → slot ≡ root_at start.seat.space variable
    → (state : Scavenging start handed now all before todo (at_root (root_at start.seat.space variable)))
    → HasFollowed start handed now new all before after todo left
    (at_root (root_at start.seat.space variable)) slot state
    → Scavenging start handed new all after left (at_root (root_at start.seat.space (variable + 1)))
roots_go_on {start} variable is state has =
    let root : ℕ = root_at start.seat.space variable in
    let next : ℕ = root_at start.seat.space (variable + 1) in
    (passes_slot (at_root next) has (λ other place stood apart.
    roots_move root next other (λ from.
    elim (root_or_before has.on.next other place stood) [
      | inl of_variable ↦ omega (arith, from, apart, is, of_variable.stands)
      | inr below ↦ absurd (omega (arith, from, below))
    ]))).after

-- the address that the code computes is that of the variable's first root word
pub root_here : (told now start : Space) (variable count at : ℕ) → told ≡ now → now ≡ start
    → count ≡ told.variables → variable < count → at ≡ root_at told variable
    → (variable < start.variables) × (at ≡ root_at start variable)
root_here told now start variable count at is_now is_start counted less is =
    let same : told ≡ start = is_now ∙ is_start in
    let many = ap (λ (space : Space). space.variables) same in
    (omega (arith, less, counted, many), is ∙ ap (λ (space : Space). root_at space variable) same)
