-- What an open cycle of marking keeps of objects that can be reached: their cells, and what belongs to them, are born
-- if they stand in pages. So slots may hold references to them, and they may be made black.
use Rattle.std.proofs.Common.{◌≡◌, ℕ, ◌<◌, ◌^◌, Bool, true, false, List, Contains, Some, IsTrue}
use Rattle.std.proofs.Common.{refl, sym, ◌∙◌, ap, subst, arith}
use Rattle.std.specs.Prelude.{ℤ}
use Rattle.tagged_word.specs.Words.{small}
use Rattle.tagged_word.specs.Cells.{scavenge_offsets_of, tagged_offsets_of, store_slot, is_object_kind}
use Rattle.page_space.specs.Extents.{eden_start, marks_start}
use Rattle.object_graph.specs.declared.value.Rep.TheVariants as rep
use Rattle.object_graph.specs.Graphs.{Graph}
use Rattle.object_graph.specs.Reach.{is_marked, reach}
use Rattle.heap_model.specs.Types.{Cell, Held, Rep, Value}
use Rattle.heap_model.specs.Heaps.{HasCell}
use Rattle.heap_model.specs.Kinds.{HasWord}
use Rattle.heap_model.specs.Slots.{IsPlace, IsSlotWord, reference_word}
use Rattle.heap_model.specs.Showing.{ShowsHeld}
use Rattle.heap_model.specs.Wholeness.{HasSlotAt}
use Rattle.heap_model.proofs.ObjectSlots.{store_slot_at, store_slot_in}
use Rattle.heap_model.proofs.SlotsHold.{Holding, slot_holds}
use Rattle.heap_model.proofs.SlotWords.{IsStoreWord}
use Rattle.heap_table.specs.Phases.{Mark}
use Rattle.live_cells.specs.Live.{HasSlotTo}
use Rattle.live_cells.proofs.Slots.{object_slots}
use Rattle.mark_world.specs.declared.event.Event.TheVariants as event
use Rattle.cycle_state.specs.Keeping.{IsKept}
use Rattle.cycle_laws.proofs.KeptTargets.{kept_may_be_blackened}
use Rattle.cycle_laws.proofs.ReachedKept.{reached_is_kept}
use Rattle.write_barrier.specs.Marking.{MayPut}
use Rattle.write_barrier.specs.MutatorState.{Mutator, heap_of, MainShows}
use Rattle.write_barrier.specs.Storing.{MayHold}
use Rattle.write_barrier.proofs.MayPuts.{may_put_black}
use Rattle.write_barrier.proofs.StoresOn.{cell_may_change}
use Rattle.object_cells.specs.Contents.{content_of, integer_content, small_content}
use Rattle.object_cells.specs.HeldValues.{IsReachedValue, IsValueHeld}
use Rattle.object_cells.specs.declared.content.SlotContent.{SlotContent}
use Rattle.object_cells.specs.declared.content.SlotContent.TheVariants as content
use Rattle.object_cells.proofs.CellsRead.{cell_at_before_marks, place_before_marks}
use Rattle.object_cells.proofs.HoldableWords.{hole_may_hold, reference_may_hold, small_may_hold, undefined_may_hold}
use Rattle.object_cells.proofs.OwnersKeep.{OwnsStore, store_beside, store_owner_is_object}

module _ {main : Mutator} {graph : Graph} (shows : MainShows main graph) where
  -- in an open cycle the place of an object that can be reached is kept
  pub reached_kept : {number at : ℕ} → IsTrue (is_marked (reach graph) number) → IsPlace (heap_of main) number at
      → main.seat.phase ≡ Mark → IsKept (heap_of main) main.cycle.born at
  reached_kept {number} {at} reached place mark =
      reached_is_kept (heap_of main) graph main.cycle number at shows.shows (shows.calm mark).rests.keeps reached place

  -- what is kept is born, if it stands in a page
  pub kept_is_born : (at : ℕ) → IsKept (heap_of main) main.cycle.born at → at < eden_start main.seat.space
      → Contains main.cycle.born at
  kept_is_born at kept below = kept_may_be_blackened (heap_of main) main.cycle at kept below

  -- so the place of an object that can be reached is
  pub reached_is_born : {number at : ℕ} → IsTrue (is_marked (reach graph) number) → IsPlace (heap_of main) number at
      → main.seat.phase ≡ Mark → at < eden_start main.seat.space → Contains main.cycle.born at
  reached_is_born {at = at} reached place mark below = kept_is_born at (reached_kept reached place mark) below

  -- and what a slot of a kept cell refers to that marking visits is kept
  pub slot_kept : {from at : ℕ} → main.seat.phase ≡ Mark → IsKept (heap_of main) main.cycle.born from
      → HasSlotTo (heap_of main) from at → IsKept (heap_of main) main.cycle.born at
  slot_kept {from} {at} mark kept slot = (shows.calm mark).rests.keeps.closed.slots from at kept slot

  -- an object's cell that can be reached is kept
  pub object_kept : {cell : Cell} {words : List ℕ} → HasCell (heap_of main) cell words
      → IsTrue (is_object_kind cell.layout.kind) → IsTrue (is_marked (reach graph) cell.header.object)
      → main.seat.phase ≡ Mark → IsKept (heap_of main) main.cycle.born cell.at
  object_kept {cell} {words} has object reached mark =
      reached_kept reached
      (record { cell = cell; words = words; has = has; stands = refl; object = object; carries = refl }) mark

  -- so what its own slots refer to is
  pub own_slot_kept : {cell : Cell} {words : List ℕ} (offset at : ℕ) → HasCell (heap_of main) cell words
      → IsTrue (is_object_kind cell.layout.kind) → IsTrue (is_marked (reach graph) cell.header.object)
      → main.seat.phase ≡ Mark → Contains (scavenge_offsets_of cell.layout.kind cell.layout cell.length) offset
      → HasWord words offset (reference_word at) → IsKept (heap_of main) main.cycle.born at
  own_slot_kept {cell} {words} offset at has object reached mark visited holds =
      slot_kept mark (object_kept has object reached mark) (record {
        cell = cell;
        words = words;
        has = has;
        stands = refl;
        offset = offset;
        visited = object_slots cell.layout.kind cell.layout cell.length offset object visited;
        holds = holds;
      })

  -- its store or table is
  pub owned_kept : {cell : Cell} {words : List ℕ} (at : ℕ) → HasCell (heap_of main) cell words
      → IsTrue (is_object_kind cell.layout.kind) → IsTrue (is_marked (reach graph) cell.header.object)
      → HasWord words store_slot (reference_word at) → main.seat.phase ≡ Mark
      → IsKept (heap_of main) main.cycle.born at
  owned_kept {cell} at has object reached holds mark =
      own_slot_kept store_slot at has object reached mark
      (store_slot_in cell.layout.kind cell.layout cell.length object) holds

  -- and what slots of a plain object or a list refer to, in its store too
  pub numbered_kept : {cell : Cell} {words : List ℕ} {slot word : ℕ} (at : ℕ) → HasCell (heap_of main) cell words
      → OwnsStore cell.layout.kind → IsTrue (is_marked (reach graph) cell.header.object)
      → HasSlotAt (heap_of main) cell words slot word → word ≡ reference_word at → main.seat.phase ≡ Mark
      → IsKept (heap_of main) main.cycle.born at
  numbered_kept {cell} at has owns reached (HasSlotAt.own offset word visited holds) refers mark =
      own_slot_kept offset at has (store_owner_is_object owns) reached mark visited
      (holds ∙ ap (λ one. Some one) refers)
  numbered_kept {cell} at has owns reached (HasSlotAt.beside store other others offset word slot target visited holds)
      refers mark =
      let is = store_beside store shows.shows.whole has owns slot target in
      let of_store = subst (λ k. Contains (scavenge_offsets_of k other.layout other.length) offset) is visited in
      let store_is_kept = owned_kept other.at has (store_owner_is_object owns) reached
      (slot ∙ ap (λ one. Some one) target.refers) mark in
      slot_kept mark store_is_kept (record {
        cell = other;
        words = others;
        has = target.has;
        stands = refl;
        offset = offset;
        visited = subst (λ k. Contains (tagged_offsets_of k other.layout other.length) offset) (sym is) of_store;
        holds = holds ∙ ap (λ one. Some one) refers;
      })

  -- a slot may hold a word of a store, or a slot word, if what it refers to is kept
  pub holding_may_hold : (word : ℕ) → marks_start main.seat.space < 2 ^ 32
      → (main.seat.phase ≡ Mark → (at : ℕ) → word ≡ reference_word at → IsKept (heap_of main) main.cycle.born at)
      → Holding (heap_of main) word → MayHold main word
  holding_may_hold word fit kept (Holding.to_store (IsStoreWord.none same)) =
      subst (MayHold main) (sym same) undefined_may_hold
  holding_may_hold word fit kept (Holding.to_store (IsStoreWord.store cell words target of_kind)) =
      subst (MayHold main) (sym target.refers)
      (reference_may_hold cell.at (omega (arith, cell_at_before_marks shows.shows.whole.sized target.has, fit))
      (λ mark below. kept_is_born cell.at (kept mark cell.at target.refers) below))
  holding_may_hold word fit kept (Holding.as_slot (IsSlotWord.small_integer v is)) = small_may_hold v is
  holding_may_hold word fit kept (Holding.as_slot IsSlotWord.undefined) = undefined_may_hold
  holding_may_hold word fit kept (Holding.as_slot IsSlotWord.hole) = hole_may_hold
  holding_may_hold word fit kept (Holding.as_slot (IsSlotWord.object one to)) =
      let at = to.1.at in
      subst (MayHold main) (sym to.1.refers)
      (reference_may_hold at (omega (arith, place_before_marks shows.shows.whole.sized to.1.place, fit))
      (λ mark below. kept_is_born at (kept mark at to.1.refers) below))
  holding_may_hold word fit kept (Holding.as_slot (IsSlotWord.boxed one v box)) =
      let at = box.cell.at in
      subst (MayHold main) (sym box.target.refers)
      (reference_may_hold at (omega (arith, cell_at_before_marks shows.shows.whole.sized box.target.has, fit))
      (λ mark below. kept_is_born at (kept mark at box.target.refers) below))

  -- so it may hold the word of a slot of a plain object or a list that can be reached
  pub slot_may_hold : {cell : Cell} {words : List ℕ} {slot word : ℕ} → marks_start main.seat.space < 2 ^ 32
      → HasCell (heap_of main) cell words → OwnsStore cell.layout.kind
      → IsTrue (is_marked (reach graph) cell.header.object) → HasSlotAt (heap_of main) cell words slot word
      → MayHold main word
  slot_may_hold {word = word} fit has owns reached slot =
      holding_may_hold word fit (λ mark at refers. numbered_kept at has owns reached slot refers mark)
      (slot_holds shows.shows.whole has (store_owner_is_object owns) slot)

  -- and that of the slot for the store or table of any object that can be reached
  pub store_slot_may_hold : {cell : Cell} {words : List ℕ} (word : ℕ) → marks_start main.seat.space < 2 ^ 32
      → HasCell (heap_of main) cell words → IsTrue (is_object_kind cell.layout.kind)
      → IsTrue (is_marked (reach graph) cell.header.object) → HasWord words store_slot word → MayHold main word
  store_slot_may_hold word fit has object reached holds =
      holding_may_hold word fit (λ mark at refers.
      owned_kept at has object reached (holds ∙ ap (λ one. Some one) refers) mark)
      (slot_holds shows.shows.whole has object (store_slot_at word object holds))

  -- it may hold a reference to an object that can be reached
  pub place_may_hold : {number at : ℕ} → marks_start main.seat.space < 2 ^ 32 → IsPlace (heap_of main) number at
      → IsTrue (is_marked (reach graph) number) → MayHold main (reference_word at)
  place_may_hold {at = at} fit place reached =
      reference_may_hold at (omega (arith, place_before_marks shows.shows.whole.sized place, fit))
      (reached_is_born reached place)

  -- an object that can be reached may be made black
  pub reached_may_blacken : {number at : ℕ} → IsPlace (heap_of main) number at
      → IsTrue (is_marked (reach graph) number) → MayPut main at (event.Blacken at)
  reached_may_blacken {at = at} place reached =
      subst (λ one. MayPut main one (event.Blacken one)) place.stands
      (may_put_black (cell_may_change shows place.has)
      (λ below mark. reached_is_born reached (record {
        cell = place.cell;
        words = place.words;
        has = place.has;
        stands = refl;
        object = place.object;
        carries = place.carries;
      }) mark below))

  -- and so may its store or table
  pub owned_may_blacken : {cell other : Cell} {words others : List ℕ} → HasCell (heap_of main) cell words
      → IsTrue (is_object_kind cell.layout.kind) → IsTrue (is_marked (reach graph) cell.header.object)
      → HasWord words store_slot (reference_word other.at) → HasCell (heap_of main) other others
      → MayPut main other.at (event.Blacken other.at)
  owned_may_blacken {other = other} has object reached holds has_other =
      may_put_black (cell_may_change shows has_other)
      (λ below mark. kept_is_born other.at (owned_kept other.at has object reached holds mark) below)

-- what a slot holds is a word that it may hold, or no tagged one
abbrev pub MayHoldContent : Mutator → SlotContent → Type 0
MayHoldContent main (content.Tagged word) = MayHold main word.0
MayHoldContent main (content.Raw word) = Unit {0}
MayHoldContent main (content.Boxed v) = Unit {0}

-- so it is for an integer that is not raw
small_held : (main : Mutator) (v : ℤ) (test : Bool) → small v ≡ test → MayHoldContent main (small_content v test)
small_held main v true is = small_may_hold v is
small_held main v false is = tt

-- and for an integer in a slot of any representation
integer_held : (main : Mutator) (own : Bool) (one : Rep) (v : ℤ) → MayHoldContent main (integer_content own one v)
integer_held main true rep.Wide v = tt
integer_held main false rep.Wide v = tt
integer_held main true rep.Small v = small_held main v (small v) refl
integer_held main false rep.Small v = small_held main v (small v) refl
integer_held main true rep.Tagged v = small_held main v (small v) refl
integer_held main false rep.Tagged v = small_held main v (small v) refl

-- and for each value that is held, if it is reached
by_held : {main : Mutator} {graph : Graph} (own : Bool) (one : Rep) (known : Held) (value : Value)
    → marks_start main.seat.space < 2 ^ 32 → MainShows main graph → ShowsHeld (heap_of main) known (Some value)
    → IsReachedValue graph value → MayHoldContent main (content_of own one known)
by_held own one known value fit shows ShowsHeld.undefined reached = undefined_may_hold
by_held {main} own one known value fit shows (ShowsHeld.integer v) reached = integer_held main own one v
by_held own one known value fit shows (ShowsHeld.object at number place) reached =
    place_may_hold shows fit place reached

-- so what a slot comes to hold for a value that is held, and is reached, it may hold
pub held_may_hold : {main : Mutator} {graph : Graph} {value : Value} (own : Bool) (one : Rep) (known : Held)
    → marks_start main.seat.space < 2 ^ 32 → MainShows main graph → IsValueHeld main graph known value
    → MayHoldContent main (content_of own one known)
held_may_hold {value = value} own one known fit shows is =
    by_held own one known value fit shows is.shows is.reached
