-- The object at an address, and the shape in its header.
use Rattle.std.proofs.Common.{◌≡◌, ◌⊎◌, inl, inr, ℤ, Some, None, refl, sym, ap, subst}
use Rattle.std.specs.Prelude.{Option}
use Rattle.std.proofs.lemmas.Option.{none-some, same_Some}
use Rattle.object_graph.specs.declared.value.Value.TheVariants as values
use Rattle.object_graph.specs.Graphs.{object_in}
use Rattle.handle_roots.specs.declared.held.Held.TheVariants as held
use Rattle.heap_model.specs.Types.{Held, Value}
use Rattle.heap_model.specs.Heaps.{Heap}
use Rattle.heap_model.specs.Showing.{ShowsHeld}
use Rattle.write_barrier.proofs.Headers.{has_header}
use Rattle.mutator.specs.Reading.{StandsFor}
use Rattle.mutator.proofs.ObjectsAt.{held_object, found_object}
use Rattle.mutator.proofs.lookups.object.Goals as goal

pub header-shape-requires : goal.header-shape-requires
header-shape-requires c =
    let shown = c.requires in
    let there = held_object c.in-Ref.at shown.value shown.shows
    (subst (λ h. StandsFor c.args.main.now shown.graph shown.value h) c.in-Ref.is shown.stands) in
    has_header there.object.has there.object.stands

pub returns-in-Ref : goal.returns-in-Ref
returns-in-Ref c graph value shows stands =
    let there = held_object c.in-Ref.at value shows
    (subst (λ h. StandsFor c.args.main.now graph value h) c.in-Ref.is stands) in
    found_object c.header-shape.result shows there
    (c.header-shape.ensures.of_cell there.object.cell there.object.words there.object.has there.object.stands)

-- what holds no reference shows no object
shows_no_object : {heap : Heap} (one : Held) (found : Option Value) (value : Value) → ShowsHeld heap one found
    → found ≡ Some value
    → (one ≡ held.Unbound) ⊎ ((one ≡ held.Undefined) ⊎ ((v : ℤ) × (one ≡ held.Int v))) → object_in value ≡ None
shows_no_object one found value ShowsHeld.unbound same is = absurd (none-some value same)
shows_no_object one found value ShowsHeld.undefined same is =
    ap object_in (sym (same_Some values.Undefined value same))
shows_no_object one found value (ShowsHeld.integer v) same is =
    ap object_in (sym (same_Some (values.Int v) value same))
shows_no_object one found value (ShowsHeld.object at number place) same is = elim is [
  | inl unbound ↦ absurd (cc)
  | inr other ↦ elim other [
    | inl undefined ↦ absurd (cc)
    | inr integer ↦
        let there = integer.1 in
        absurd (cc)
  ]
]

pub returns-in-Unbound : goal.returns-in-Unbound
returns-in-Unbound c graph value shows stands =
    shows_no_object c.args.held (Some value) value stands.is.shows refl c.in-Unbound.is
