-- A closed set of addresses with what the roots refer to has each place of what can be reached: reach is the least.
use Rattle.std.proofs.Common.{◌≡◌, ℕ, ◌⊎◌, ◌&&◌, inl, inr, Bool, true, false, get_or, Some, None, [], IsTrue}
use Rattle.std.proofs.Common.{List, refl, sym, ◌∙◌, ap, slice_get}
use Rattle.std.proofs.lemmas.Bool.{and_parts, and_from, false≢true, cases_lt}
use Rattle.std.proofs.lemmas.Option.{slice_get-get_or}
use Rattle.heap_model.specs.Types.{Object}
use Rattle.object_graph.specs.declared.value.Value.TheVariants.{Ref}
use Rattle.object_graph.specs.declared.object.Object.TheVariants as graph_object
use Rattle.object_graph.specs.Graphs.{Graph}
use Rattle.object_graph.specs.Reach.{is_marked, reach}
use Rattle.graph_laws.specs.ReachLaws.{LinksTo, HasBound, IsClosed}
use Rattle.graph_laws.proofs.Reaches.{reach_has_bound, reach_closed, reach_least}
use Rattle.heap_model.specs.Heaps.{Heap}
use Rattle.heap_model.specs.Slots.{IsPlace}
use Rattle.heap_model.specs.Showing.{ShowsReached, Shows}
use Rattle.heap_model.proofs.ShownObjects.{object_of_shown}
use Rattle.heap_model.proofs.ReachedStays.{reach_below}
use Rattle.live_cells.specs.Marked.{HasRootTargets, IsMarkClosed}
use Rattle.live_cells.specs.Laws.{ReachedIsMarked}
use Rattle.live_cells.proofs.RootTargets.{bound_is_target}
use Rattle.live_cells.proofs.MarkedLinks.{links_marked}

-- an object is marked or not
mark_cases : (mark : Bool) → (mark ≡ true) ⊎ (mark ≡ false)
mark_cases true = inl refl
mark_cases false = inr refl

-- each object that can be reached is shown
pub shown : {heap : Heap} {graph : Graph} (number : ℕ) → Shows heap graph → is_marked (reach graph) number ≡ true
    → (what : Object) × (slice_get graph.objects number ≡ Some what) × ShowsReached heap (reach graph) number what
shown {graph = graph} number shows marked =
    let none : Object = graph_object.List [] in
    let what : Object = get_or graph.objects number none in
    let there = slice_get-get_or graph.objects number none (reach_below graph number marked) in
    (what, there, shows.reached number what there marked)

-- the cell that shows an object is its place
pub shown_place : {heap : Heap} {number : ℕ} (marks : List Bool) (what : Object)
    (one : ShowsReached heap marks number what) → IsPlace heap number one.cell.at
shown_place {heap} marks what one = record {
  cell = one.cell;
  words = one.words;
  has = one.has;
  stands = refl;
  object = object_of_shown heap marks one.cell one.words what one.shows;
  carries = one.carries;
}

module _ {heap : Heap} {graph : Graph} (marked : ℕ → Bool) (shows : Shows heap graph)
    (targets : HasRootTargets heap (λ at. IsTrue (marked at))) (closed : IsMarkClosed heap marked) where
  -- where an object that can be reached stands; 0 for any other
  address_by : (number : ℕ) → (is_marked (reach graph) number ≡ true) ⊎ (is_marked (reach graph) number ≡ false) → ℕ
  address_by number (inl reached) = (shown number shows reached).2.cell.at
  address_by number (inr unreached) = 0

  -- each place of one that can be reached is that address
  place_is : (number at : ℕ) (by : (is_marked (reach graph) number ≡ true) ⊎ (is_marked (reach graph) number ≡ false))
      → is_marked (reach graph) number ≡ true → IsPlace heap number at → at ≡ address_by number by
  unfolding address_by
  place_is number at (inl reached) is place = (shown number shows reached).2.once at place
  place_is number at (inr unreached) is place = absurd (false≢true (sym unreached ∙ is))

  -- whether the object can be reached, and its place is marked
  inside : ℕ → Bool
  inside number =
      is_marked (reach graph) number && marked (address_by number (mark_cases (is_marked (reach graph) number)))

  -- an object that can be reached, one place of which is marked, is inside
  inside_from : (number at : ℕ) → is_marked (reach graph) number ≡ true → IsPlace heap number at → IsTrue (marked at)
      → inside number ≡ true
  unfolding inside
  inside_from number at reached place is =
      let by = mark_cases (is_marked (reach graph) number) in
      and_from (is_marked (reach graph) number) (marked (address_by number by)) reached
      (ap marked (sym (place_is number at by reached place)) ∙ is)

  -- what is inside can be reached
  inside_reached : (number : ℕ) → inside number ≡ true → is_marked (reach graph) number ≡ true
  unfolding inside
  inside_reached number is =
      (and_parts (is_marked (reach graph) number)
      (marked (address_by number (mark_cases (is_marked (reach graph) number)))) is).0

  -- and each place of it is marked
  inside_marked : (number at : ℕ) → inside number ≡ true → IsPlace heap number at → IsTrue (marked at)
  unfolding inside
  inside_marked number at is place =
      let by = mark_cases (is_marked (reach graph) number) in
      let parts = and_parts (is_marked (reach graph) number) (marked (address_by number by)) is in
      ap marked (place_is number at by parts.0 place) ∙ parts.1

  -- what variables are bound to is inside
  inside_has_bound : HasBound graph inside
  inside_has_bound variable number within bound =
      elim (cases_lt variable heap.space.variables) [
        | inl below ↦
            let target = bound_is_target variable number shows below bound in
            inside_from number target.0 (reach_has_bound graph variable number within bound) target.1
            (targets target.0 target.2)
        | inr past ↦
            let none : None ≡ Some (Ref number) = sym (shows.no_others variable past) ∙ bound in
            absurd (cc)
      ]

  -- an object that links, where each key that is inside can be reached, links to what can be reached
  links_reached : (what : Object) (number : ℕ) → LinksTo inside what number
      → LinksTo (is_marked (reach graph)) what number
  links_reached (graph_object.Plain cap proto fields) number link = link
  links_reached (graph_object.List elements) number link = link
  links_reached (graph_object.Weak entries) number link =
      (link.0, link.1, inside_reached link.0.key link.2, link.3)

  -- what an object inside links to is inside
  inside_closed : IsClosed graph inside
  inside_closed holder what number there is within link =
      let reached = inside_reached holder is in
      let one = shows.reached holder what there reached in
      let holder_is = inside_marked holder one.cell.at is (shown_place (reach graph) what one) in
      let target = links_marked shows.whole closed (reach graph) inside what number one.has holder_is one.shows
      (λ key is_inside. (inside_reached key is_inside, λ at place. inside_marked key at is_inside place)) link in
      inside_from number target.at
      (reach_closed graph holder what number there reached within (links_reached what number link)) target.place
      target.is

  -- each place of an object that can be reached is marked
  pub places_marked : (number at : ℕ) → is_marked (reach graph) number ≡ true → IsPlace heap number at
      → IsTrue (marked at)
  places_marked number at reached place =
      inside_marked number at (reach_least graph inside inside_has_bound inside_closed number reached) place

-- reached is marked
pub reached_is_marked : ReachedIsMarked
reached_is_marked heap graph marked number at shows targets closed reached place =
    places_marked marked shows targets closed number at reached place
