-- What a slot that is new comes to hold for a value, and how many words of a box that takes.
use Rattle.std.proofs.Common.{◌≡◌, Bool, true, false, ℤ, not, length, Some, refl, sym, subst}
use Rattle.tagged_word.specs.Words.{small}
use Rattle.heap_model.specs.Types.{Value, Rep, Held}
use Rattle.object_graph.specs.declared.value.Rep.TheVariants as rep
use Rattle.object_graph.specs.Values.{rep_of, join}
use Rattle.object_graph.specs.Graphs.{Graph}
use Rattle.object_graph.specs.Invariants.{IsValue}
use Rattle.handle_roots.specs.Roots.{FitsHeld}
use Rattle.handle_roots.specs.declared.held.Held.TheVariants as held
use Rattle.heap_model.specs.Heaps.{Heap}
use Rattle.heap_model.specs.Needs.{box_need}
use Rattle.heap_model.specs.Showing.{ShowsHeld}
use Rattle.write_barrier.specs.MutatorState.{Mutator, heap_of, MainShows}
use Rattle.heap_model.specs.Rooms.{is_wide}
use Rattle.object_cells.specs.Contents.{held_rep, content_of}
use Rattle.object_cells.specs.Made.{is_wide_held, content_need, store_content}
use Rattle.object_cells.proofs.HeldContents.{HoldsValue, held_rep_is, value_held}

-- an integer needs a box where it is not small
integer_need : (v : ℤ) (is_small : Bool) → small v ≡ is_small
    → content_need (store_content (held.Int v)) ≡ box_need (not (small v))
integer_need v true is = rw is (rw is refl)
integer_need v false is = rw is refl

-- the words of a box are those of the value
pub content_need_is : (value : Held) → content_need (store_content value) ≡ box_need (is_wide_held value)
content_need_is held.Unbound = refl
content_need_is held.Undefined = refl
content_need_is (held.Int v) = integer_need v (small v) refl
content_need_is (held.Ref at) = refl

-- a value is wide where what is held is
pub wide_is : {heap : Heap} (known : Held) (what : Value) → ShowsHeld heap known (Some what)
    → is_wide_held known ≡ is_wide what
wide_is known what ShowsHeld.undefined = refl
wide_is known what (ShowsHeld.integer v) = refl
wide_is known what (ShowsHeld.object at number place) = refl

-- a value that joins the narrowest representation brings its own
join-small : (one : Rep) → join rep.Small one ≡ one
join-small rep.Small = refl
join-small rep.Wide = refl
join-small rep.Tagged = refl

-- what the slot of a new field holds for a value
pub new_value_held : {heap : Heap} (own : Bool) (known : Held) (what : Value) → ShowsHeld heap known (Some what)
    → HoldsValue heap own rep.Small (rep_of what) what (content_of own (held_rep known) known)
new_value_held {heap} own known what shows =
    let holds = value_held own rep.Small (rep_of what) known what shows (join-small (rep_of what)) in
    subst (λ one. HoldsValue heap own rep.Small (rep_of what) what (content_of own one known))
    (sym (held_rep_is known what shows))
    holds

-- a value that is held is one of the graph
pub held_is_value : {main : Mutator} {graph : Graph} (known : Held) (what : Value) → MainShows main graph
    → FitsHeld known → ShowsHeld (heap_of main) known (Some what) → IsValue (length graph.objects) what
held_is_value known what shows fits ShowsHeld.undefined = tt
held_is_value known what shows fits (ShowsHeld.integer v) = fits
held_is_value known what shows fits (ShowsHeld.object at number place) = shows.shows.made number at place
