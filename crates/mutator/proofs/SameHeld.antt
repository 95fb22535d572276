-- Two held values agree exactly where they show one value.
use Rattle.std.proofs.Common.{◌≡◌, ℕ, ◌==◌, Bool, true, false, Some, refl, sym, ◌∙◌, ap, subst}
use Rattle.std.specs.Ordering.{int_eq}
use Rattle.std.proofs.lemmas.Bool.Decides.{Decides-eqb, Decides-like, same_from_decides}
use Rattle.heap_model.specs.Types.{Value, Cell, Held}
use Rattle.object_graph.specs.declared.value.Value.TheVariants.{Ref}
use Rattle.object_graph.specs.Graphs.{Graph}
use Rattle.object_graph.specs.Meaning.{same_value}
use Rattle.handle_roots.specs.declared.held.Held.TheVariants as held
use Rattle.handle_roots.specs.contracts.held.HeldPartialEq.TheImpl.{ghosts}
use Rattle.heap_model.specs.Heaps.{Heap}
use Rattle.heap_model.specs.Slots.{IsPlace}
use Rattle.heap_model.specs.Showing.{ShowsHeld}
use Rattle.heap_model.proofs.CellsApart.{one_at}
use Rattle.write_barrier.specs.MutatorState.{Mutator, heap_of, MainShows}
use Rattle.object_cells.specs.HeldValues.{IsReachedValue}
use Rattle.mutator.specs.Reading.{StandsFor}
use Rattle.mutator.proofs.ObjectsAt.{object_at}

-- the two are of one kind and agree
abbrev pub same_held : Held → Held → Bool
same_held held.Unbound held.Unbound = true
same_held held.Undefined held.Undefined = true
same_held (held.Int v) (held.Int w) = int_eq v w
same_held (held.Ref at) (held.Ref to) = at == to
same_held _ _ = false

-- so says the derived comparison
pub eq-same_held : (one other : Held) → ghosts.eq one other ≡ same_held one other
eq-same_held held.Unbound held.Unbound = refl
eq-same_held held.Unbound held.Undefined = refl
eq-same_held held.Unbound (held.Int w) = refl
eq-same_held held.Unbound (held.Ref to) = refl
eq-same_held held.Undefined held.Unbound = refl
eq-same_held held.Undefined held.Undefined = refl
eq-same_held held.Undefined (held.Int w) = refl
eq-same_held held.Undefined (held.Ref to) = refl
eq-same_held (held.Int v) held.Unbound = refl
eq-same_held (held.Int v) held.Undefined = refl
eq-same_held (held.Int v) (held.Int w) = refl
eq-same_held (held.Int v) (held.Ref to) = refl
eq-same_held (held.Ref at) held.Unbound = refl
eq-same_held (held.Ref at) held.Undefined = refl
eq-same_held (held.Ref at) (held.Int w) = refl
eq-same_held (held.Ref at) (held.Ref to) = refl

-- two tests of numbers are one where each holds if the other does
tests_alike : (a b c d : ℕ) → (a ≡ b → c ≡ d) → (c ≡ d → a ≡ b) → (a == b) ≡ (c == d)
tests_alike a b c d there back =
    same_from_decides (a == b) (c == d) (Decides-like (a == b) there back (Decides-eqb a b)) (Decides-eqb c d)

-- an address is the place of one object
pub one_number : {heap : Heap} (number other at to : ℕ) → IsPlace heap number at → IsPlace heap other to → at ≡ to
    → number ≡ other
one_number number other at to place place_too same =
    let one : place.cell ≡ place_too.cell =
    one_at place.has place_too.has (place.stands ∙ same ∙ sym place_too.stands) in
    sym place.carries ∙ ap (λ (cell : Cell). cell.header.object) one ∙ place_too.carries

-- an object that can be reached has one place
pub one_address : {main : Mutator} {graph : Graph} (number other at to : ℕ) → MainShows main graph
    → IsReachedValue graph (Ref number) → IsPlace (heap_of main) number at → IsPlace (heap_of main) other to
    → number ≡ other → at ≡ to
one_address {main} {graph} number other at to shows reached place place_too same =
    let object = object_at number at shows place reached in
    let shown = shows.shows.reached number object.what object.there reached in
    shown.once at place ∙ sym (shown.once to (subst (λ n. IsPlace (heap_of main) n to) (sym same) place_too))

-- the comparison of what is held is that of the values
same_told : {main : Mutator} {graph : Graph} (one other : Held) (first second : Value) → MainShows main graph
    → IsReachedValue graph first → ShowsHeld (heap_of main) one (Some first)
    → ShowsHeld (heap_of main) other (Some second)
    → same_held one other ≡ same_value first second
same_told one other first second shows reached ShowsHeld.undefined ShowsHeld.undefined = refl
same_told one other first second shows reached ShowsHeld.undefined (ShowsHeld.integer w) = refl
same_told one other first second shows reached ShowsHeld.undefined (ShowsHeld.object to n there) = refl
same_told one other first second shows reached (ShowsHeld.integer v) ShowsHeld.undefined = refl
same_told one other first second shows reached (ShowsHeld.integer v) (ShowsHeld.integer w) = refl
same_told one other first second shows reached (ShowsHeld.integer v) (ShowsHeld.object to n there) = refl
same_told one other first second shows reached (ShowsHeld.object at number place) ShowsHeld.undefined = refl
same_told one other first second shows reached (ShowsHeld.object at number place) (ShowsHeld.integer w) = refl
same_told {main} one other first second shows reached (ShowsHeld.object at number place) (ShowsHeld.object to n there) =
    tests_alike at to number n (one_number number n at to place there)
    (one_address number n at to shows reached place there)

-- so the derived comparison is that of the values
pub held_same : {main : Mutator} {graph : Graph} (one other : Held) (first second : Value) → MainShows main graph
    → StandsFor main graph first one → StandsFor main graph second other
    → ghosts.eq one other ≡ same_value first second
held_same one other first second shows stands stands_too =
    eq-same_held one other ∙ same_told one other first second shows stands.is.reached stands.is.shows
    stands_too.is.shows
