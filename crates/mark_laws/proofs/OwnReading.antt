-- A helper's view stays one that its own steps make.
use Rattle.std.proofs.Common.{ℕ, ◌≡◌, ◌≢◌, ◌==◌, Bool, true, false, List, [], ◌∷◌, Option, Some, None}
use Rattle.std.proofs.Common.{All, Contains, IfSome, if◌then◌else◌, sym, subst, arith}
use Rattle.std.specs.Option.{option_map}
use Rattle.std.proofs.lemmas.List.{map-append}
use Rattle.std.proofs.lemmas.List.Elements.{All-push, Contains-get_or}
use Rattle.std.proofs.lemmas.List.Quantifiers.{all_pairs_push}
use Rattle.core_parts.specs.Lists.{HasNoRepeats}
use Rattle.core_parts.specs.Boards.{joined_by}
use Rattle.core_parts.proofs.Joining.{joined_no_repeats}
use Rattle.core_parts.proofs.Leaving.{left_no_repeats}
use Rattle.mark_laws.specs.Types.{Event, Snap, SnapSlot, HelperView}
use Rattle.mark_world.specs.declared.event.Event.TheVariants as event
use Rattle.mark_world.specs.Pages.{target, targets_joined}
use Rattle.mark_world.specs.Naming.{IsReadOut, IsToRead, Named, named, read_offsets, read_words}
use Rattle.mark_world.specs.Steps.{grey, helper_learns, lent, returned, snap_settled, snap_targets, with_layout}
use Rattle.mark_world.specs.Steps.{with_length, with_slot}
use Rattle.mark_world.specs.Conditions.{AwaitsLayout, AwaitsLength, MayHelper}
use Rattle.mark_laws.specs.OwnViews.{HasReadNamed, IsNamed, IsOwnView}
use Rattle.mark_laws.proofs.BornHelper.{to_read}
use Rattle.mark_laws.proofs.Joins.{some_and}
use Rattle.mark_laws.proofs.Slots.{some_at}
use Rattle.mark_laws.proofs.SnapOrigins.{awaits_unread}

-- an empty list has no repeats
none_repeat : HasNoRepeats []
none_repeat = λ i j d l m. absurd (omega (arith, m))

-- a list that a target may join has no repeats
joined_by_once : (list : List ℕ) (new : Option ℕ) → HasNoRepeats list → HasNoRepeats (joined_by list new)
joined_by_once list None once = once
joined_by_once list (Some at) once = joined_no_repeats list at once

-- nor has one that targets join
targets_once : (old : ℕ) (list words : List ℕ) → HasNoRepeats list → HasNoRepeats (targets_joined old list words)
targets_once old list [] once = once
targets_once old list (word ∷ rest) once =
    targets_once old (joined_by list (target old word)) rest (joined_by_once list (target old word) once)

-- nor has either of two lists
either_once : (test : Bool) (xs ys : List ℕ) → HasNoRepeats xs → HasNoRepeats ys
    → HasNoRepeats (if test then xs else ys)
either_once true xs ys first second = first
either_once false xs ys first second = second

-- a snap that names nothing has read no slot
more_read : (snap : Snap) (layout length : Option ℕ) → HasReadNamed snap → named snap ≡ Named.unread
    → HasReadNamed (record snap { layout = layout; length = length })
more_read snap layout length has unread = record {
  names = λ i d l.
      absurd (subst (λ (name : Named). All (IsNamed name) (read_offsets snap)) unread has.names i d l);
  once = has.once;
}

-- a slot that is read is a named one, and was not read before
slot_read : (snap : Snap) (offset found : ℕ) → HasReadNamed snap → IsToRead (named snap) (read_offsets snap) offset
    → HasReadNamed (with_slot offset found snap)
slot_read snap offset found has may =
    let read : List ℕ = read_offsets snap in
    let slot : SnapSlot = record { offset = offset; word = found } in
    let new = to_read (named snap) read offset may in
    let is_named : IsNamed (named snap) offset = subst (λ (name : Named). IsNamed name offset) (sym new.1) new.2 in
    let more = sym (map-append (λ (s : SnapSlot). s.offset) snap.slots (slot ∷ [])) in
    record {
      names = subst (All (IsNamed (named snap))) more (All-push (IsNamed (named snap)) read offset has.names is_named);
      once = subst HasNoRepeats more (all_pairs_push (λ x y. x ≢ y) read offset has.once
          (λ i d l e. new.3 (subst (Contains read) e (Contains-get_or read i d l))));
    }

-- the snap of a view
own_snap : (view : HelperView) (snap : Snap) → IsOwnView view → view.snap ≡ Some snap → HasReadNamed snap
own_snap view snap own e = some_at HasReadNamed view.snap snap e own.snap

-- a view stays its own steps' through each of them
pub own_stays : (old : ℕ) (view : HelperView) (of : Event) (found : ℕ) → MayHelper view of → IsOwnView view
    → IsOwnView (helper_learns old view of found)
own_stays old view (event.LoadHeader n cell) found may own = record {
  snap = record { names = λ i d l. absurd (omega (arith, l)); once = none_repeat };
  visit = own.visit;
}
own_stays old view (event.LoadLayout n) found may own =
    let s = some_and AwaitsLayout view.snap may in
    record {
      snap = subst (λ (o : Option Snap). IfSome (option_map (with_layout found) o) HasReadNamed) (sym s.1)
          (more_read s.0 (Some found) s.0.length (own_snap view s.0 own s.1) (awaits_unread s.0 s.2));
      visit = own.visit;
    }
own_stays old view (event.LoadLength n) found may own =
    let s = some_and AwaitsLength view.snap may in
    record {
      snap = subst (λ (o : Option Snap). IfSome (option_map (with_length found) o) HasReadNamed) (sym s.1)
          (more_read s.0 s.0.layout (Some found) (own_snap view s.0 own s.1) s.2.asked);
      visit = own.visit;
    }
own_stays old view (event.LoadSlot n offset) found may own =
    let s = some_and (λ (of_snap : Snap). IsToRead (named of_snap) (read_offsets of_snap) offset) view.snap may in
    record {
      snap = subst (λ (o : Option Snap). IfSome (option_map (with_slot offset found) o) HasReadNamed) (sym s.1)
          (slot_read s.0 offset found (own_snap view s.0 own s.1) s.2);
      visit = own.visit;
    }
own_stays old view (event.Settle n) found may own =
    let s = some_and (λ (of_snap : Snap). IsReadOut (named of_snap) (read_offsets of_snap)) view.snap may in
    subst (λ (o : Option Snap). IsOwnView (snap_settled old view found o)) (sym s.1) record {
      snap = tt;
      visit = either_once (found == grey) (snap_targets old s.0) view.visit
          (targets_once old [] (read_words s.0) none_repeat) own.visit;
    }
own_stays old view (event.ShadeHelper n at) found may own =
    record { snap = own.snap; visit = left_no_repeats view.visit at own.visit }
own_stays old view _ found may own = record { snap = own.snap; visit = own.visit }

-- the views of seats that were just lent or taken back are empty
pub empty_own : IsOwnView lent × IsOwnView returned
empty_own = (record { snap = tt; visit = none_repeat }, record { snap = tt; visit = none_repeat })
