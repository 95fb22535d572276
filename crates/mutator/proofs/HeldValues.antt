-- What variables hold, and the values that this shows.
use Rattle.std.proofs.Common.{◌≡◌, ◌⊎◌, ℕ, ◌<◌, Some, None, refl, sym, ap, subst, inl, inr, ◌∙◌, true≢false}
use Rattle.std.specs.Prelude.{Option, length, ℤ, FitsSigned}
use Rattle.std.specs.Int.{w64}
use Rattle.std.proofs.lemmas.Option.{none-some}
use Rattle.std.specs.FinMap.{get}
use Rattle.heap_model.specs.Types.{Operand, Value, Held}
use Rattle.heap_command.specs.declared.command.Operand.TheVariants as operand
use Rattle.object_graph.specs.declared.value.Value.TheVariants.{Int, Undefined, Ref}
use Rattle.object_graph.specs.Graphs.{Graph, value_of, plain_at}
use Rattle.graph_laws.specs.GraphLaws.{FitsOperand}
use Rattle.graph_laws.proofs.Reaches.{reach_has_bound}
use Rattle.handle_roots.specs.declared.held.Held.TheVariants as held
use Rattle.handle_roots.specs.declared.given.Given.{Given}
use Rattle.handle_roots.specs.declared.given.Given.TheVariants as given
use Rattle.handle_roots.specs.Givens.{IsGivenFor, has_slot_word}
use Rattle.handle_roots.specs.Roots.{FitsHeld, Holds, IsRoot}
use Rattle.handle_roots.proofs.RootsHeld.{holds_one}
use Rattle.write_barrier.specs.Seats.{heap_words}
use Rattle.heap_model.specs.Heaps.{Heap}
use Rattle.heap_model.specs.Slots.{IsPlace}
use Rattle.heap_model.specs.Showing.{ShowsHeld}
use Rattle.write_barrier.specs.MutatorState.{Mutator, heap_of, MainShows}
use Rattle.object_cells.specs.HeldValues.{IsReachedValue}
use Rattle.mutator.specs.Reading.{StandsFor}

-- what is held shows the value, kind by kind
abbrev pub ShowsByKind : Heap → Held → Option Value → Type 0
ShowsByKind heap held.Unbound None = Unit {0}
ShowsByKind heap held.Undefined (Some Undefined) = Unit {0}
ShowsByKind heap (held.Int v) (Some (Int w)) = v ≡ w
ShowsByKind heap (held.Ref at) (Some (Ref number)) = IsPlace heap number at
ShowsByKind heap _ _ = ⊥

-- so it is of all that is held
pub shows_by_kind : {heap : Heap} (one : Held) (found : Option Value) → ShowsHeld heap one found
    → ShowsByKind heap one found
shows_by_kind one found ShowsHeld.unbound = tt
shows_by_kind one found ShowsHeld.undefined = tt
shows_by_kind one found (ShowsHeld.integer v) = refl
shows_by_kind one found (ShowsHeld.object at number place) = place

-- what is held shows a value that was found
pub record ShowsSome (heap : Heap) (one : Held) (found : Option Value) : Type 0 where
  pub value : Value
  pub is : found ≡ Some value
  pub shows : ShowsHeld heap one (Some value)

-- what shows no value is nothing
none_held : (heap : Heap) (one : Held) → ShowsByKind heap one None → one ≡ held.Unbound
none_held heap held.Unbound is = refl
none_held heap held.Undefined is = absurd is
none_held heap (held.Int v) is = absurd is
none_held heap (held.Ref at) is = absurd is

-- a variable that holds something is bound to a value
pub some_shown : {heap : Heap} (one : Held) (found : Option Value) → (one ≡ held.Unbound → ⊥) → ShowsHeld heap one found
    → ShowsSome heap one found
some_shown {heap} one None bound shows = absurd (bound (none_held heap one (shows_by_kind one None shows)))
some_shown one (Some value) bound shows = record { value = value; is = refl; shows = shows }

-- whether it is something
abbrev IsSomething : Held → Type 0
IsSomething held.Unbound = ⊥
IsSomething _ = Unit {0}

-- a reference is something
pub ref_bound : (at : ℕ) → held.Ref at ≡ held.Unbound → ⊥
ref_bound at is = subst IsSomething is tt

-- what is given is something
pub given_bound : (given : Given) (one : Held) → IsGivenFor given one → (one ≡ held.Unbound → ⊥)
given_bound (given.Word word) one gives is =
    true≢false (sym gives.is.1 ∙ ap has_slot_word is)
given_bound (given.Int v) one gives is = subst IsSomething (sym gives.is ∙ is) tt

-- one that holds nothing is bound to none
pub none_shown : {heap : Heap} (found : Option Value) → ShowsHeld heap held.Unbound found → found ≡ None
none_shown None shows = refl
none_shown (Some value) shows = absurd (shows_by_kind held.Unbound (Some value) shows)

-- the root words of a variable show what it is bound to
pub held_shows : {main : Mutator} {graph : Graph} (x : ℕ) (one : Held) → MainShows main graph
    → x < main.seat.space.variables → Holds main.seat.space (heap_words main.seat) x one
    → ShowsHeld (heap_of main) one (get graph.bindings x)
held_shows {main} {graph} x one shows known holds =
    let binding = shows.shows.bindings x known in
    let same : binding.held ≡ one = holds_one main.seat.space
    (heap_words main.seat) x binding.held one binding.holds holds in
    subst (λ h. ShowsHeld (heap_of main) h (get graph.bindings x)) same binding.shows

-- and are those of something
pub is_root : {main : Mutator} {graph : Graph} (x : ℕ) → MainShows main graph → x < main.seat.space.variables
    → IsRoot main.seat.space (heap_words main.seat) x
is_root x shows known =
    let binding = shows.shows.bindings x known in
    record { held = binding.held; holds = binding.holds }

-- an object to which a variable is bound can be reached
bound_reached : (graph : Graph) (x : ℕ) (value : Value) → get graph.bindings x ≡ Some value
    → ((number : ℕ) → value ≡ Ref number → number < length graph.objects) → IsReachedValue graph value
bound_reached graph x (Int v) is below = tt
bound_reached graph x Undefined is below = tt
bound_reached graph x (Ref number) is below = reach_has_bound graph x number (below number refl) is

-- an object at an address is one of the graph's
place_below : {main : Mutator} {graph : Graph} (one : Held) (number : ℕ) → MainShows main graph
    → ShowsByKind (heap_of main) one (Some (Ref number)) → number < length graph.objects
place_below held.Unbound number shows is = absurd is
place_below held.Undefined number shows is = absurd is
place_below (held.Int v) number shows is = absurd is
place_below (held.Ref at) number shows is = shows.shows.made number at is

-- what holds no reference shows no plain object
pub no_plain_shown : (heap : Heap) (graph : Graph) (one : Held) (value : Value) → ((at : ℕ) → one ≡ held.Ref at → ⊥)
    → ShowsByKind heap one (Some value) → plain_at graph.objects value ≡ None
no_plain_shown heap graph held.Undefined Undefined apart shows = refl
no_plain_shown heap graph held.Undefined (Int w) apart shows = absurd shows
no_plain_shown heap graph held.Undefined (Ref number) apart shows = absurd shows
no_plain_shown heap graph (held.Int v) (Int w) apart shows = refl
no_plain_shown heap graph (held.Int v) Undefined apart shows = absurd shows
no_plain_shown heap graph (held.Int v) (Ref number) apart shows = absurd shows
no_plain_shown heap graph (held.Ref at) value apart shows = absurd (apart at refl)
no_plain_shown heap graph held.Unbound value apart shows = absurd shows

-- so is one that is held
pub held_below : {main : Mutator} {graph : Graph} (one : Held) (value : Value) (number : ℕ) → MainShows main graph
    → ShowsHeld (heap_of main) one (Some value) → value ≡ Ref number → number < length graph.objects
held_below {main} one value number shows is refers =
    place_below one number shows
    (shows_by_kind one (Some (Ref number)) (subst (λ v. ShowsHeld (heap_of main) one (Some v)) refers is))

-- what a variable holds stands for the value that it is bound to
pub bound_stands : {main : Mutator} {graph : Graph} (x : ℕ) (one : Held) (value : Value) → MainShows main graph
    → get graph.bindings x ≡ Some value → FitsHeld one → ShowsHeld (heap_of main) one (Some value)
    → StandsFor main graph value one
bound_stands {main} {graph} x one value shows is fits shown = record {
  is = record {
    shows = shown;
    reached = bound_reached graph x value is (λ number refers. held_below one value number shows shown refers);
  };
  fits = fits;
}

-- the object at the address is the value
pub record HoldsObject (heap : Heap) (at : ℕ) (value : Value) : Type 0 where
  pub number : ℕ
  pub is : value ≡ Ref number
  pub place : IsPlace heap number at

-- what an address shows is an object
pub holds_object : {heap : Heap} (at : ℕ) (value : Value) → ShowsHeld heap (held.Ref at) (Some value)
    → HoldsObject heap at value
holds_object at (Int v) shows = absurd (shows_by_kind (held.Ref at) (Some (Int v)) shows)
holds_object at Undefined shows = absurd (shows_by_kind (held.Ref at) (Some Undefined) shows)
holds_object at (Ref number) shows =
    record { number = number; is = refl; place = shows_by_kind (held.Ref at) (Some (Ref number)) shows }

-- so an integer that is shown fits where what is held does
fits_by_kind : (heap : Heap) (one : Held) (v : ℤ) → ShowsByKind heap one (Some (Int v)) → FitsHeld one
    → FitsSigned w64 v
fits_by_kind heap held.Unbound v is fits = absurd is
fits_by_kind heap held.Undefined v is fits = absurd is
fits_by_kind heap (held.Int w) v is fits = subst (FitsSigned w64) is fits
fits_by_kind heap (held.Ref at) v is fits = absurd is

-- what shows an integer that a variable may hold shows one of 64 bits
pub integer_fits : {heap : Heap} (one : Held) (v : ℤ) → ShowsHeld heap one (Some (Int v)) → FitsHeld one
    → FitsSigned w64 v
integer_fits {heap} one v shows fits = fits_by_kind heap one v (shows_by_kind one (Some (Int v)) shows) fits

-- an operand that stands for a value has 64 bits where it is an integer
pub operand_fits : {main : Mutator} {graph : Graph} (v : Operand) (value : Value) (one : Held)
    → value_of graph v ≡ Some value → StandsFor main graph value one → FitsOperand v
operand_fits {main} (operand.Int v) value one is stands =
    integer_fits one v (subst (λ found. ShowsHeld (heap_of main) one found) (sym is) stands.is.shows) stands.fits
operand_fits operand.Undefined value one is stands = tt
operand_fits (operand.Var x) value one is stands = tt

-- so is the value of `undefined`
undefined_by_kind : (heap : Heap) (value : Value) → ShowsByKind heap held.Undefined (Some value) → value ≡ Undefined
undefined_by_kind heap (Int v) is = absurd is
undefined_by_kind heap Undefined is = refl
undefined_by_kind heap (Ref number) is = absurd is

-- and that of an integer
integer_by_kind : (heap : Heap) (v : ℤ) (value : Value) → ShowsByKind heap (held.Int v) (Some value) → value ≡ Int v
integer_by_kind heap v (Int w) is = ap (λ n. Int n) (sym is)
integer_by_kind heap v Undefined is = absurd is
integer_by_kind heap v (Ref number) is = absurd is

-- what holds nothing or `undefined` shows `undefined` alone
pub holds_undefined : {heap : Heap} (one : Held) (value : Value) → (one ≡ held.Unbound) ⊎ (one ≡ held.Undefined)
    → ShowsHeld heap one (Some value) → value ≡ Undefined
holds_undefined {heap} one value is shows = elim is [
  | inl unbound ↦
      absurd (none-some value (sym (none_shown (Some value) (subst
      (λ h. ShowsHeld heap h (Some value)) unbound shows))))
  | inr undefined ↦
      undefined_by_kind heap value
      (shows_by_kind held.Undefined (Some value) (subst (λ h. ShowsHeld heap h (Some value)) undefined shows))
]

-- an integer shows itself alone
pub holds_integer : {heap : Heap} (one : Held) (v : ℤ) (value : Value) → one ≡ held.Int v
    → ShowsHeld heap one (Some value) → value ≡ Int v
holds_integer {heap} one v value is shows =
    integer_by_kind heap v value
    (shows_by_kind (held.Int v) (Some value) (subst (λ h. ShowsHeld heap h (Some value)) is shows))
