-- What variables hold, where they show what they are bound to.
use Rattle.std.proofs.Common.{◌≡◌, ℕ, ℤ, Some, None, refl}
use Rattle.object_graph.specs.declared.value.Value.TheVariants.{Int, Undefined, Ref}
use Rattle.heap_model.specs.Types.{Held}
use Rattle.handle_roots.specs.declared.held.Held.TheVariants as held
use Rattle.heap_model.specs.Heaps.{Heap}
use Rattle.heap_model.specs.Slots.{IsPlace}
use Rattle.heap_model.specs.Showing.{ShowsHeld}

-- a variable that is not bound holds nothing
pub unbound_held : {heap : Heap} (one : Held) → ShowsHeld heap one None → one ≡ held.Unbound
unbound_held one ShowsHeld.unbound = refl

-- one that is bound to `undefined` holds that
pub undefined_held : {heap : Heap} (one : Held) → ShowsHeld heap one (Some Undefined) → one ≡ held.Undefined
undefined_held one ShowsHeld.undefined = refl

-- one that is bound to an integer holds it
pub integer_held : {heap : Heap} (one : Held) (v : ℤ) → ShowsHeld heap one (Some (Int v)) → one ≡ held.Int v
integer_held one v (ShowsHeld.integer w) = refl

-- and one that is bound to an object refers to its place
pub object_held : {heap : Heap} (at number : ℕ) → ShowsHeld heap (held.Ref at) (Some (Ref number))
    → IsPlace heap number at
object_held at number (ShowsHeld.object to n place) = place
