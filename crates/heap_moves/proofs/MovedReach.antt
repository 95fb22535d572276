-- Each object that can be reached stays, since reach is the least.
use Rattle.std.proofs.Common.{◌≡◌, ℕ, ◌<◌, ◌⊎◌, ◌&&◌, inl, inr, Bool, true, false, get_or, Option, Some, None}
use Rattle.std.proofs.Common.{[], is_some, refl, sym, ◌∙◌, ap, subst}
use Rattle.std.specs.FinMap.{get}
use Rattle.std.proofs.lemmas.Bool.{and_parts, and_from, false≢true, cases_lt}
use Rattle.std.proofs.lemmas.Option.{same_Some, slice_get-get_or}
use Rattle.heap_model.specs.Types.{Held, Value, Object}
use Rattle.handle_roots.specs.declared.held.Held.TheVariants as held
use Rattle.object_graph.specs.declared.value.Value.TheVariants.{Ref}
use Rattle.object_graph.specs.declared.object.Object.TheVariants as graph_object
use Rattle.object_graph.specs.Graphs.{Graph, object_in}
use Rattle.object_graph.specs.Reach.{is_marked, reach}
use Rattle.graph_laws.specs.ReachLaws.{LinksTo, HasBound, IsClosed}
use Rattle.graph_laws.proofs.Reaches.{reach_has_bound, reach_closed, reach_least}
use Rattle.heap_model.specs.Heaps.{Heap}
use Rattle.heap_model.specs.Slots.{IsPlace}
use Rattle.heap_model.specs.Wholeness.{IsHeld}
use Rattle.heap_model.specs.Showing.{ShowsHeld, ShowsReached}
use Rattle.heap_model.proofs.ShownObjects.{object_of_shown}
use Rattle.heap_model.proofs.ReachedStays.{reach_below}
use Rattle.heap_moves.specs.Moved.{IsMoved}
use Rattle.heap_moves.specs.Standing.{Stays, ShowsFor}
use Rattle.heap_moves.proofs.MovedRoots.{IsMovedHeld, address_in, root_moved}
use Rattle.heap_moves.proofs.MovedLinks.{links_stay}

-- an object is marked or not
mark_cases : (mark : Bool) → (mark ≡ true) ⊎ (mark ≡ false)
mark_cases true = inl refl
mark_cases false = inr refl

-- what is there is something
some_of : (found : Option ℕ) → is_some found ≡ true → (now : ℕ) × (found ≡ Some now)
some_of (Some now) there = (now, refl)
some_of None there = absurd (cc)

-- a variable that shows an object holds a reference to its place
record HoldsPlace (heap : Heap) (one : Held) (number : ℕ) : Type 0 where
  at : ℕ
  is : one ≡ held.Ref at
  place : IsPlace heap number at

-- where a variable is bound to an object, it holds that
holds_place : {heap : Heap} {one : Held} {bound : Option Value} (number : ℕ) → ShowsHeld heap one bound
    → bound ≡ Some (Ref number) → HoldsPlace heap one number
holds_place number ShowsHeld.unbound is = absurd (cc)
holds_place number ShowsHeld.undefined is = absurd (cc)
holds_place number (ShowsHeld.integer v) is = absurd (cc)
holds_place {heap} number (ShowsHeld.object at shown place) is =
    let same : shown ≡ number = same_Some _ _ (ap object_in (same_Some (Ref shown) (Ref number) is)) in
    record { at = at; is = refl; place = subst (λ n. IsPlace heap n at) same place }

-- an object that is held and moved stays
held_stays : {to : ℕ → Option ℕ} {one now : Held} (at : ℕ) → IsMovedHeld to one now → one ≡ held.Ref at → Stays to at
held_stays {to} at (IsMovedHeld.reference there now was stays is) same =
    let at_it : there ≡ at = ap address_in (sym was ∙ same) in
    (now, ap to (sym at_it) ∙ stays)
held_stays at (IsMovedHeld.other none is) same = absurd (none at same)

-- an object links to what it linked to, where each key that is inside is marked
links_marked : (inside these : ℕ → Bool) (what : Object) (number : ℕ)
    → ((n : ℕ) → inside n ≡ true → these n ≡ true) → LinksTo inside what number → LinksTo these what number
links_marked inside these (graph_object.Plain cap proto fields) number also link = link
links_marked inside these (graph_object.List elements) number also link = link
links_marked inside these (graph_object.Weak entries) number also link =
    (link.0, link.1, also link.0.key link.2, link.3)

module _ {old new : Heap} {to : ℕ → Option ℕ} {graph : Graph} (moved : IsMoved old new to)
    (shows : ShowsFor old graph (Stays to)) where
  -- each object that can be reached is shown
  shown : (number : ℕ) → is_marked (reach graph) number ≡ true
      → (what : Object) × ShowsReached old (reach graph) number what
  shown number marked =
      let none : Object = graph_object.List [] in
      let what : Object = get_or graph.objects number none in (
        what,
        shows.reached number what (slice_get-get_or graph.objects number none (reach_below graph number marked)) marked,
      )

  -- where an object that can be reached stands; 0 for any other
  address_by : (number : ℕ) → (is_marked (reach graph) number ≡ true) ⊎ (is_marked (reach graph) number ≡ false) → ℕ
  address_by number (inl marked) = (shown number marked).1.cell.at
  address_by number (inr unmarked) = 0

  -- each place of one that can be reached is that address
  place_is : (number at : ℕ) (by : (is_marked (reach graph) number ≡ true) ⊎ (is_marked (reach graph) number ≡ false))
      → is_marked (reach graph) number ≡ true → IsPlace old number at → at ≡ address_by number by
  unfolding address_by
  place_is number at (inl marked) is_marked place = (shown number marked).1.once at place
  place_is number at (inr unmarked) is_marked place = absurd (false≢true (sym unmarked ∙ is_marked))

  -- whether the object can be reached, and stays
  inside : ℕ → Bool
  inside number =
      is_marked (reach graph) number
      && is_some (to (address_by number (mark_cases (is_marked (reach graph) number))))

  -- an object that can be reached, one place of which stays, is inside
  inside_from : (number at : ℕ) → is_marked (reach graph) number ≡ true → IsPlace old number at → Stays to at
      → inside number ≡ true
  unfolding inside
  inside_from number at marked place stays =
      let by = mark_cases (is_marked (reach graph) number) in
      let is : to (address_by number by) ≡ Some stays.0 =
      ap to (sym (place_is number at by marked place)) ∙ stays.1 in
      and_from (is_marked (reach graph) number) (is_some (to (address_by number by))) marked (ap is_some is)

  -- what is inside can be reached
  inside_marked : (number : ℕ) → inside number ≡ true → is_marked (reach graph) number ≡ true
  unfolding inside
  inside_marked number is_inside =
      (and_parts (is_marked (reach graph) number)
      (is_some (to (address_by number (mark_cases (is_marked (reach graph) number))))) is_inside).0

  -- and each place of it stays
  inside_stays : (number at : ℕ) → inside number ≡ true → IsPlace old number at → Stays to at
  unfolding inside
  inside_stays number at is_inside place =
      let by = mark_cases (is_marked (reach graph) number) in
      let parts = and_parts (is_marked (reach graph) number) (is_some (to (address_by number by))) is_inside in
      let there = some_of (to (address_by number by)) parts.1 in
      (there.0, ap to (place_is number at by parts.0 place) ∙ there.1)

  -- what a variable is bound to stays
  bound_inside : (variable number : ℕ) → variable < old.space.variables → is_marked (reach graph) number ≡ true
      → get graph.bindings variable ≡ Some (Ref number) → inside number ≡ true
  bound_inside variable number below marked bound =
      let binding = shows.bindings variable below in
      let object = holds_place number binding.shows bound in
      let is : IsHeld old binding.held = subst (IsHeld old) (sym object.is) (number, object.place) in
      let root = root_moved moved shows.whole.sized variable binding.held below binding.holds is in
      inside_from number object.at marked object.place (held_stays object.at root.is object.is)

  -- what variables are bound to is inside
  inside_has_bound : HasBound graph inside
  inside_has_bound variable number within bound =
      elim (cases_lt variable old.space.variables) [
        | inl below ↦
            bound_inside variable number below (reach_has_bound graph variable number within bound) bound
        | inr past ↦
            let none : None ≡ Some (Ref number) = sym (shows.no_others variable past) ∙ bound in
            absurd (cc)
      ]

  -- what an object inside links to is inside
  inside_closed : IsClosed graph inside
  inside_closed holder what number there is_inside within link =
      let held_marked = inside_marked holder is_inside in
      let link_marked = links_marked inside (is_marked (reach graph)) what number inside_marked link in
      let marked = reach_closed graph holder what number there held_marked within link_marked in
      let one = shows.reached holder what there held_marked in
      let place : IsPlace old holder one.cell.at = record {
        cell = one.cell;
        words = one.words;
        has = one.has;
        stands = refl;
        object = object_of_shown old (reach graph) one.cell one.words what one.shows;
        carries = one.carries;
      } in
      let stays = inside_stays holder one.cell.at is_inside place in
      let stood = moved.stands one.cell one.words stays.0 one.has stays.1 in
      let target =
      links_stay moved shows.whole {others = stood.others} (reach graph) what number one.has stays stood.are one.shows
      link_marked in
      inside_from number target.refers.at marked target.refers.place target.stays

  -- each place of an object that can be reached stays
  pub reached_stays : (number at : ℕ) → is_marked (reach graph) number ≡ true → IsPlace old number at → Stays to at
  reached_stays number at marked place =
      inside_stays number at (reach_least graph inside inside_has_bound inside_closed number marked) place
