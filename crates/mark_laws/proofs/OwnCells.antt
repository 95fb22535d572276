-- The cells that a helper has in hand stay old.
use Rattle.std.proofs.Common.{ℕ, ◌<◌, ◌==◌, Bool, true, false, List, [], ◌∷◌, All, Option, Some, None}
use Rattle.std.proofs.Common.{IfSome, if◌then◌else◌, sym, subst, arith}
use Rattle.std.specs.Option.{option_map}
use Rattle.std.proofs.lemmas.List.Elements.{All-contains}
use Rattle.tagged_word.specs.Readings.{reference_in}
use Rattle.core_parts.specs.Boards.{joined_by}
use Rattle.core_parts.specs.Lists.{joined, left}
use Rattle.core_parts.proofs.Leaving.{left_from}
use Rattle.mark_laws.specs.Types.{Event, Snap, HelperView}
use Rattle.mark_world.specs.declared.event.Event.TheVariants as event
use Rattle.mark_world.specs.Pages.{target, targets_joined}
use Rattle.mark_world.specs.Naming.{IsReadOut, IsToRead, named, read_offsets, read_words}
use Rattle.mark_world.specs.Steps.{grey, helper_learns, lent, returned, snap_settled, snap_targets, white, with_layout}
use Rattle.mark_world.specs.Steps.{with_length, with_slot}
use Rattle.mark_world.specs.Conditions.{AwaitsLayout, AwaitsLength, MayHelper}
use Rattle.mark_laws.specs.OwnAddresses.{FindsOld, HasOldCells}
use Rattle.mark_laws.specs.OwnViews.{AsksOwnView}
use Rattle.mark_laws.proofs.Joins.{all_from, joins, some_and}
use Rattle.mark_laws.proofs.OwnSpots.{spot_of_snap, target_old}
use Rattle.mark_laws.proofs.Slots.{some_from}

-- each address of the list is old
abbrev AreOld : ℕ → List ℕ → Type 0
AreOld old list = All (λ at. at < old) list

-- so are those of a list that one left
left_old : (old : ℕ) (list : List ℕ) (a : ℕ) → AreOld old list → AreOld old (left list a)
left_old old list a each = all_from (λ (at : ℕ). at < old) (left list a)
    (λ at c. All-contains (λ (x : ℕ). x < old) list at each (left_from list a at c))

-- and of one that an old one joined
joined_old : (old : ℕ) (list : List ℕ) (a : ℕ) → AreOld old list → a < old → AreOld old (joined list a)
joined_old old list a each below =
    all_from (λ (at : ℕ). at < old) (joined list a) (joins (λ (at : ℕ). at < old) list a each below)

-- or maybe joined
joined_by_old : (old : ℕ) (list : List ℕ) (new : Option ℕ) → AreOld old list → IfSome new (λ at. at < old)
    → AreOld old (joined_by list new)
joined_by_old old list None each below = each
joined_by_old old list (Some at) each below = joined_old old list at each below

-- and of one that targets joined
targets_old : (old : ℕ) (list words : List ℕ) → AreOld old list → AreOld old (targets_joined old list words)
targets_old old list [] each = each
targets_old old list (word ∷ rest) each =
    targets_old old (joined_by list (target old word)) rest
    (joined_by_old old list (target old word) each
    (some_from (λ (at : ℕ). at < old) (target old word) (λ at e. target_old old word at e)))

-- and of either of two lists
either_old : (test : Bool) (old : ℕ) (xs ys : List ℕ) → AreOld old xs → AreOld old ys
    → AreOld old (if test then xs else ys)
either_old true old xs ys first second = first
either_old false old xs ys first second = second

-- the cells in hand are old after a step that the view allows
pub old_cells_stay : (old : ℕ) (view : HelperView) (of : Event) (found : ℕ) → MayHelper view of → AsksOwnView view of
    → FindsOld old of found → HasOldCells old view → HasOldCells old (helper_learns old view of found)
old_cells_stay old view (event.LoadHeader n cell) found may asks finds has = record {
  grey = left_old old view.grey cell has.grey;
  snap = All-contains (λ (at : ℕ). at < old) view.grey cell has.grey asks;
  visit = has.visit;
}
old_cells_stay old view (event.LoadLayout n) found may asks finds has =
    let s = some_and AwaitsLayout view.snap may in
    record {
      grey = has.grey;
      snap = subst (λ (o : Option Snap). IfSome (option_map (with_layout found) o) (λ snap. snap.cell < old))
          (sym s.1) (spot_of_snap old view s.0 has s.1);
      visit = has.visit;
    }
old_cells_stay old view (event.LoadLength n) found may asks finds has =
    let s = some_and AwaitsLength view.snap may in
    record {
      grey = has.grey;
      snap = subst (λ (o : Option Snap). IfSome (option_map (with_length found) o) (λ snap. snap.cell < old))
          (sym s.1) (spot_of_snap old view s.0 has s.1);
      visit = has.visit;
    }
old_cells_stay old view (event.LoadSlot n offset) found may asks finds has =
    let s = some_and (λ (of_snap : Snap). IsToRead (named of_snap) (read_offsets of_snap) offset) view.snap may in
    record {
      grey = has.grey;
      snap = subst (λ (o : Option Snap). IfSome (option_map (with_slot offset found) o) (λ snap. snap.cell < old))
          (sym s.1) (spot_of_snap old view s.0 has s.1);
      visit = has.visit;
    }
old_cells_stay old view (event.Settle n) found may asks finds has =
    let s = some_and (λ (of_snap : Snap). IsReadOut (named of_snap) (read_offsets of_snap)) view.snap may in
    subst (λ (o : Option Snap). HasOldCells old (snap_settled old view found o)) (sym s.1) record {
      grey = has.grey;
      snap = tt;
      visit = either_old (found == grey) old (snap_targets old s.0) view.visit
          (targets_old old [] (read_words s.0) (λ k d l. absurd (omega (arith, l)))) has.visit;
    }
old_cells_stay old view (event.ShadeHelper n at) found may asks finds has = record {
  grey = either_old (found == white) old (joined view.grey at) view.grey
      (joined_old old view.grey at has.grey (All-contains (λ (a : ℕ). a < old) view.visit at has.visit may)) has.grey;
  snap = has.snap;
  visit = left_old old view.visit at has.visit;
}
old_cells_stay old view (event.Give n place at) found may asks finds has = record {
  grey = either_old (found == 0) old (left view.grey at) view.grey (left_old old view.grey at has.grey) has.grey;
  snap = has.snap;
  visit = has.visit;
}
old_cells_stay old view (event.Take n place) found may asks finds has = record {
  grey = joined_by_old old view.grey (reference_in found) has.grey finds;
  snap = has.snap;
  visit = has.visit;
}
old_cells_stay old view _ found may asks finds has =
    record { grey = has.grey; snap = has.snap; visit = has.visit }

-- an empty list has old addresses alone
none_old : (old : ℕ) → AreOld old []
none_old old = λ k d l. absurd (omega (arith, l))

-- an empty view has none in hand
pub empty_old : (old : ℕ) → HasOldCells old lent × HasOldCells old returned
empty_old old = (
  record { grey = none_old old; snap = tt; visit = none_old old },
  record { grey = none_old old; snap = tt; visit = none_old old },
)
