-- What root words refer to is what variables are bound to.
use Rattle.std.proofs.Common.{◌≡◌, ℕ, ◌<◌, Bool, true, false, Option, Some, IsTrue, refl, sym, ◌∙◌, ap}
use Rattle.std.proofs.Common.{subst, arith, ℤ}
use Rattle.std.specs.FinMap.{get}
use Rattle.std.proofs.lemmas.Option.{same_Some}
use Rattle.tagged_word.specs.Words.{small}
use Rattle.handle_roots.specs.declared.held.Held.TheVariants as held
use Rattle.handle_roots.specs.Roots.{first_of, first_word}
use Rattle.object_graph.specs.declared.value.Value.TheVariants.{Ref}
use Rattle.object_graph.specs.Graphs.{Graph, object_in}
use Rattle.object_graph.specs.Reach.{is_marked, reach}
use Rattle.graph_laws.proofs.Reaches.{reach_has_bound}
use Rattle.heap_model.specs.Types.{Held, Value}
use Rattle.heap_model.specs.Heaps.{Heap}
use Rattle.heap_model.specs.Slots.{reference_word, IsPlace}
use Rattle.heap_model.specs.Wholeness.{IsHeld, Whole}
use Rattle.heap_model.specs.Showing.{ShowsHeld, Shows}
use Rattle.heap_model.proofs.WordClasses.{same_reference, undefined_refers_not, small_refers_not}
use Rattle.live_cells.specs.Live.{IsRootTarget}

-- the object stands at the address, and the value is a reference to it
pub record IsObjectAt (heap : Heap) (bound : Option Value) (at : ℕ) : Type 0 where
  pub number : ℕ
  pub place : IsPlace heap number at
  pub is : bound ≡ Some (Ref number)

-- the first word of an integer is no reference
pub integer_refers_not : (is_small : Bool) (v : ℤ) (at : ℕ) → first_of is_small v ≡ reference_word at → ⊥
integer_refers_not true v at same = small_refers_not v at same
integer_refers_not false v at same = omega (arith, same)

-- what a variable holds by reference is an object
held_object : {heap : Heap} (one : Held) (at : ℕ) → IsHeld heap one → first_word one ≡ reference_word at
    → (number : ℕ) × IsPlace heap number at
held_object held.Unbound at is refers = absurd (omega (arith, refers))
held_object held.Undefined at is refers = absurd (undefined_refers_not at refers)
held_object (held.Int v) at is refers = absurd (integer_refers_not (small v) v at refers)
held_object {heap} (held.Ref to) at is refers =
    (is.0, subst (IsPlace heap is.0) (same_reference to at refers) is.1)

-- so a root word refers to objects alone
pub root_object : {heap : Heap} (at : ℕ) → Whole heap → IsRootTarget heap at → (number : ℕ) × IsPlace heap number at
root_object at whole target =
    let root = whole.roots target.variable target.within in
    held_object root.held at root.is (same_Some _ _ (sym root.holds.first ∙ target.refers))

-- where the first word of what a variable holds refers to an address, the variable is bound to the object there
held_refers : {heap : Heap} {one : Held} {bound : Option Value} (at : ℕ) → ShowsHeld heap one bound
    → first_word one ≡ reference_word at → IsObjectAt heap bound at
held_refers at ShowsHeld.unbound refers = absurd (omega (arith, refers))
held_refers at ShowsHeld.undefined refers = absurd (undefined_refers_not at refers)
held_refers at (ShowsHeld.integer v) refers = absurd (integer_refers_not (small v) v at refers)
held_refers {heap} at (ShowsHeld.object there number place) refers =
    record { number = number; place = subst (IsPlace heap number) (same_reference there at refers) place; is = refl }

-- what a root word refers to is an object that can be reached
pub target_reached : {heap : Heap} {graph : Graph} (at : ℕ) → Shows heap graph → IsRootTarget heap at
    → (number : ℕ) × IsPlace heap number at × IsTrue (is_marked (reach graph) number)
target_reached {graph = graph} at shows target =
    let binding = shows.bindings target.variable target.within in
    let first : first_word binding.held ≡ reference_word at =
    same_Some _ _ (sym binding.holds.first ∙ target.refers) in
    let object = held_refers at binding.shows first in (
      object.number,
      object.place,
      reach_has_bound graph target.variable object.number (shows.made object.number at object.place) object.is,
    )

-- what a variable is bound to stands where its first root word refers to
record HoldsPlace (heap : Heap) (one : Held) (number : ℕ) : Type 0 where
  at : ℕ
  is : first_word one ≡ reference_word at
  place : IsPlace heap number at

-- where a variable is bound to an object, its first root word refers to the place of that
bound_refers : {heap : Heap} {one : Held} {bound : Option Value} (number : ℕ) → ShowsHeld heap one bound
    → bound ≡ Some (Ref number) → HoldsPlace heap one number
bound_refers number ShowsHeld.unbound is = absurd (cc)
bound_refers number ShowsHeld.undefined is = absurd (cc)
bound_refers number (ShowsHeld.integer v) is = absurd (cc)
bound_refers {heap} number (ShowsHeld.object at shown place) is =
    let same : shown ≡ number = same_Some _ _ (ap object_in (same_Some (Ref shown) (Ref number) is)) in
    record { at = at; is = refl; place = subst (λ n. IsPlace heap n at) same place }

-- so a root word refers to each object that a variable is bound to
pub bound_is_target : {heap : Heap} {graph : Graph} (variable number : ℕ) → Shows heap graph
    → variable < heap.space.variables → get graph.bindings variable ≡ Some (Ref number)
    → (at : ℕ) × IsPlace heap number at × IsRootTarget heap at
bound_is_target variable number shows within bound =
    let binding = shows.bindings variable within in
    let object = bound_refers number binding.shows bound in (
      object.at,
      object.place,
      record {
        variable = variable;
        within = within;
        refers = binding.holds.first ∙ ap (λ n. Some n) object.is;
      },
    )
