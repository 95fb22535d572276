-- What is asked of the filling of a slot where a cycle of marking is open, apart from a raw word.
use Rattle.std.specs.Prelude.{ℤ}
use Rattle.std.proofs.Common.{ℕ, Option, Some, None}
use Rattle.tagged_word.specs.declared.layout.Kind.TheVariants as kind
use Rattle.mark_world.specs.declared.event.Event.TheVariants as event
use Rattle.heap_model.specs.Slots.{reference_word}
use Rattle.write_barrier.specs.Marking.{MayPut, with_blackened}
use Rattle.write_barrier.specs.MutatorState.{Mutator}
use Rattle.write_barrier.specs.Storing.{IsMadeYoung, MayChange, MayHold, StoresOn}
use Rattle.write_barrier.proofs.BlackenedOn.{may_change_black, may_hold_black}
use Rattle.write_barrier.proofs.StoresOn.{made_young_stays, may_change_stays, may_hold_stays}
use Rattle.object_cells.specs.Contents.{filling_of}
use Rattle.object_cells.specs.declared.content.SlotContent.TheVariants as content
use Rattle.object_cells.specs.declared.content.SlotWrite.{SlotWrite}
use Rattle.object_cells.specs.declared.content.SlotWrite.TheVariants as filling
use Rattle.object_cells.proofs.ChangedPlaces.{MayChangeAt, change_at_stays}
use Rattle.object_cells.proofs.FillsOn.{CanFill}

-- what is asked of all but a raw word
abbrev pub CanFillButRaw : Mutator → ℕ → SlotWrite → Type 0
CanFillButRaw main at (filling.Tagged word) = MayChangeAt main at × MayHold main word.0
CanFillButRaw main at (filling.Raw word) = Unit {0}
CanFillButRaw main at (filling.NewBox box v) =
    MayChangeAt main at × IsMadeYoung main box × MayHold main (reference_word box)
CanFillButRaw main at (filling.OldBox box v) = MayChange main box 2 kind.Boxed

-- and of a raw word alone
abbrev pub RawMayPut : Mutator → ℕ → SlotWrite → Type 0
RawMayPut main at (filling.Raw word) = MayPut main at (event.StoreOwned at word)
RawMayPut main at _ = Unit {0}

-- both are what is asked
pub can_with_raw : (main : Mutator) (at : ℕ) (fill : SlotWrite) → CanFillButRaw main at fill → RawMayPut main at fill
    → CanFill main at fill
can_with_raw main at (filling.Tagged word) can raw = can
can_with_raw main at (filling.Raw word) can raw = raw
can_with_raw main at (filling.NewBox box v) can raw = can
can_with_raw main at (filling.OldBox box v) can raw = can

-- a box is no raw word
pub no_raw_box : (main : Mutator) (v : ℤ) (found : Option ℕ) (next at : ℕ)
    → RawMayPut main at (filling_of found next (content.Boxed v))
no_raw_box main v None next at = tt
no_raw_box main v (Some box) next at = tt

-- what is asked stays where words are stored
pub but_raw_stays : (old new : Mutator) (at : ℕ) (fill : SlotWrite) → StoresOn old new → CanFillButRaw old at fill
    → CanFillButRaw new at fill
but_raw_stays old new at (filling.Tagged word) stores can = (change_at_stays stores can.0, may_hold_stays stores can.1)
but_raw_stays old new at (filling.Raw word) stores can = tt
but_raw_stays old new at (filling.NewBox box v) stores can =
    (change_at_stays stores can.0, made_young_stays stores can.1, may_hold_stays stores can.2)
but_raw_stays old new at (filling.OldBox box v) stores can = may_change_stays stores can

-- a word may be changed as before where a cell was made black
change_at_black : {main : Mutator} {at : ℕ} (black : ℕ) → MayPut main black (event.Blacken black)
    → MayChangeAt main at → MayChangeAt (with_blackened main black) at
change_at_black black may change = record {
  start = change.start;
  size = change.size;
  kind = change.kind;
  offset = change.offset;
  may = may_change_black black may change.may;
  below = change.below;
  no_head = change.no_head;
  stands = change.stands;
}

-- and what is asked stays there
pub but_raw_black : (main : Mutator) (black at : ℕ) (fill : SlotWrite) → MayPut main black (event.Blacken black)
    → CanFillButRaw main at fill → CanFillButRaw (with_blackened main black) at fill
but_raw_black main black at (filling.Tagged word) may can =
    (change_at_black black may can.0, may_hold_black black can.1)
but_raw_black main black at (filling.Raw word) may can = tt
but_raw_black main black at (filling.NewBox box v) may can =
    (change_at_black black may can.0, can.1, may_hold_black black can.2)
but_raw_black main black at (filling.OldBox box v) may can = may_change_black black may can
