-- What stays where a cell is made black, and what is known of it then.
use Rattle.std.proofs.Common.{◌≡◌, ℕ, ◌+◌, ◌<◌, ◌⊎◌, inl, inr, true, IsTrue, Bool, List, [], Contains, Option, Some}
use Rattle.std.proofs.Common.{if◌then◌else◌, slice_index, refl, sym, subst}
use Rattle.std.proofs.lemmas.Bool.{cases_eq, cases_lt}
use Rattle.std.proofs.lemmas.List.Elements.{All-contains, All-contains_itself}
use Rattle.core_parts.proofs.Joining.{joined_from, joined_in, joined_keeps}
use Rattle.cell_layout.specs.Cells.{layouts_in}
use Rattle.cycle_state.specs.Cycles.{main_of, words_of_pages}
use Rattle.heap_table.specs.Phases.{Mark}
use Rattle.mark_laws.proofs.Joins.{all_from, of_slot, targets_keep, targets_there}
use Rattle.mark_laws.proofs.Listing.{some_weaker}
use Rattle.mark_laws.proofs.Slots.{each_slot, some_from}
use Rattle.mark_laws.proofs.Starts.{free_or_mine}
use Rattle.mark_laws.specs.Types.{Kind, Reading}
use Rattle.mark_world.specs.BetweenCommands.{HasSureTarget, Settled}
use Rattle.mark_world.specs.Coverage.{EachSlot, cell_of}
use Rattle.mark_world.specs.Cycles.{Cycle}
use Rattle.mark_world.specs.Pages.{is_free, slots_of, target}
use Rattle.mark_world.specs.Soundness.{AreIn}
use Rattle.mark_world.specs.Steps.{free_slot_words, words_in_slots}
use Rattle.mark_world.specs.declared.event.Event.TheVariants as event
use Rattle.page_space.specs.Extents.{eden_start}
use Rattle.tagged_word.proofs.Members.{in_map}
use Rattle.write_barrier.specs.Marking.{MayPut, blackened, with_blackened}
use Rattle.write_barrier.specs.MutatorState.{Mutator, heap_of, world_of}
use Rattle.write_barrier.specs.Storing.{IsReadable, MayChange, MayHold}
use Rattle.write_barrier.proofs.MarksOn.{MarksOn, knowing, marked_readable, may_change_marked, may_hold_marked}
use Rattle.write_barrier.proofs.MarksOn.{step_marks}
use Rattle.write_barrier.proofs.PutWords.{after_behind, after_cases, after_open}
use Rattle.write_barrier.proofs.SeenWorlds.{black_sees}

-- what is known of the cycle then
abbrev after_black : Mutator → ℕ → Cycle
after_black main at = (with_blackened main at).cycle

-- the words of the slots of which targets the mutator is sure then
abbrev black_words : Mutator → ℕ → List ℕ
black_words main at =
    free_slot_words (eden_start main.seat.space) (words_of_pages (heap_of main))
    (layouts_in main.seat.space main.seat.table) (main_of main.cycle) at

-- the mutator is sure of no fewer cells than before
sure_more : (main : Mutator) (at : ℕ) → AreIn (blackened main at).sure main.cycle.sure
sure_more main at =
    all_from (Contains (blackened main at).sure) main.cycle.sure
    (targets_keep (eden_start main.seat.space) main.cycle.sure (black_words main at))

-- the world goes on
black_marks : (main : Mutator) (at : ℕ) → MayPut main at (event.Blacken at) → MarksOn main (after_black main at)
black_marks main at may =
    step_marks main at (blackened main at) (λ inside mark readable.
    black_sees (eden_start main.seat.space) (words_of_pages (heap_of main))
    (layouts_in main.seat.space main.seat.table) main.cycle readable.view at (may inside mark).may)

-- a born cell is published
born_start : (main : Mutator) (at : ℕ) → IsReadable main → Contains main.cycle.born at
    → Contains main.cycle.starts at
born_start main at readable is_born =
    All-contains (Contains main.cycle.starts) main.cycle.born at readable.view.born is_born

-- the mutator is sure of the slots of each cell that it made black, where its part is done
mine_sure : (main : Mutator) (at : ℕ) → Settled (world_of main) → Contains main.cycle.mine at
    → EachSlot (world_of main) at (λ offset. HasSureTarget (world_of main))
mine_sure main at settled mine =
    All-contains (λ (a : ℕ). EachSlot (world_of main) a (λ offset. HasSureTarget (world_of main))) main.cycle.mine at
    settled.sure mine

module _ (main : Mutator) (at : ℕ) where
  -- only what the mutator made black and what it is sure of are more
  pub black_cycle : (with_blackened main at).cycle
      ≡ record main.cycle { mine = (with_blackened main at).cycle.mine; sure = (with_blackened main at).cycle.sure }
  black_cycle =
      after_cases (λ (c : Cycle). c ≡ record main.cycle { mine = c.mine; sure = c.sure }) main at (blackened main at)
      refl refl

  -- the mutator is sure of no fewer cells
  pub black_sure_grows : AreIn (with_blackened main at).cycle.sure main.cycle.sure
  black_sure_grows =
      after_cases (λ (c : Cycle). AreIn c.sure main.cycle.sure) main at (blackened main at)
      (All-contains_itself main.cycle.sure) (sure_more main at)

  -- and has made no fewer black
  pub black_mine_grows : AreIn (with_blackened main at).cycle.mine main.cycle.mine
  black_mine_grows =
      after_cases (λ (c : Cycle). AreIn c.mine main.cycle.mine) main at (blackened main at)
      (All-contains_itself main.cycle.mine)
      (all_from (Contains (blackened main at).mine) main.cycle.mine (joined_keeps main.cycle.mine at))

  -- the words of a free start's slots are those of whose targets the mutator is sure then
  slot_word_is : (cell : Reading) → IsTrue (is_free (main_of main.cycle) at)
      → cell_of (world_of main) at ≡ Some cell → (offset : ℕ) → Contains (slots_of cell) offset
      → Contains (black_words main at) (slice_index (words_of_pages (heap_of main)) (at + offset))
  slot_word_is cell free e offset c =
      let free_is : is_free (main_of main.cycle) at ≡ true = free in
      let words : List ℕ = words_of_pages (heap_of main) in
      let word : ℕ = slice_index words (at + offset) in
      subst (λ (b : Bool). Contains (if b then words_in_slots words at (cell_of (world_of main) at) else []) word)
      (sym free_is)
      (subst (λ (o : Option Reading). Contains (words_in_slots words at o) word) (sym e)
      (in_map (λ (o : ℕ). slice_index words (at + o)) (slots_of cell) offset c))

  -- the mutator is sure of them where the cell was a free start
  free_is_sure : IsTrue (is_free (main_of main.cycle) at)
      → EachSlot (world_of main) at (λ offset. HasSureTarget (world_of (knowing main (blackened main at))))
  free_is_sure free =
      each_slot (world_of main) at (λ offset. HasSureTarget (world_of (knowing main (blackened main at))))
      (λ cell e offset c.
      let word : ℕ = slice_index (words_of_pages (heap_of main)) (at + offset) in
      some_from (Contains (blackened main at).sure) (target (eden_start main.seat.space) word) (λ to f.
      targets_there (eden_start main.seat.space) main.cycle.sure (black_words main at) word to
      (slot_word_is cell free e offset c) f))

  -- what it was sure of before it is sure of
  still_sure : (one : ℕ) → EachSlot (world_of main) one (λ offset. HasSureTarget (world_of main))
      → EachSlot (world_of main) one (λ offset. HasSureTarget (world_of (knowing main (blackened main at))))
  still_sure one each =
      each_slot (world_of main) one (λ offset. HasSureTarget (world_of (knowing main (blackened main at))))
      (λ cell e offset c.
      some_weaker (Contains main.cycle.sure) (Contains (blackened main at).sure)
      (target (eden_start main.seat.space) (slice_index (words_of_pages (heap_of main)) (one + offset)))
      (λ to was. All-contains (Contains (blackened main at).sure) main.cycle.sure to (sure_more main at) was)
      (of_slot (world_of main) one offset cell (λ o. HasSureTarget (world_of main)) e c each))

module _ {main : Mutator} (at : ℕ) where
  -- cells may be read
  pub black_readable : MayPut main at (event.Blacken at) → main.seat.phase ≡ Mark → IsReadable main
      → IsReadable (with_blackened main at)
  black_readable may mark readable = marked_readable (black_marks main at may) mark readable

  -- cells may be changed that might
  pub may_change_black : {one size : ℕ} {kind : Kind} → MayPut main at (event.Blacken at)
      → MayChange main one size kind → MayChange (with_blackened main at) one size kind
  may_change_black may change = may_change_marked (black_marks main at may) change

  -- and a slot may hold the words that it might
  pub may_hold_black : {word : ℕ} → MayHold main word → MayHold (with_blackened main at) word
  may_hold_black holds =
      may_hold_marked (after_cases (λ (c : Cycle). AreIn c.born main.cycle.born) main at (blackened main at)
      (All-contains_itself main.cycle.born) (All-contains_itself main.cycle.born)) holds

  -- in an open cycle a cell of a page is one of these
  pub black_is_mine : IsReadable main → at < eden_start main.seat.space → main.seat.phase ≡ Mark
      → Contains (with_blackened main at).cycle.mine at
  black_is_mine readable inside mark =
      subst (λ (c : Cycle). Contains c.mine at) (sym (after_open main at (blackened main at) readable inside mark))
      (joined_in main.cycle.mine at)

  -- and no other cell is more
  pub black_mine_from : (one : ℕ) → IsReadable main → Contains (with_blackened main at).cycle.mine one
      → Contains main.cycle.mine one ⊎ ((one ≡ at) × (at < eden_start main.seat.space))
  black_mine_from one readable there = elim (cases_lt at (eden_start main.seat.space)) [
    | inl inside ↦
        after_cases (λ (c : Cycle). Contains c.mine one
        → Contains main.cycle.mine one ⊎ ((one ≡ at) × (at < eden_start main.seat.space))) main at
        (blackened main at) (λ had. inl had) (λ has. elim (cases_eq one at) [
          | inl same ↦ inr (same, inside)
          | inr other ↦ inl (joined_from main.cycle.mine at one other has)
        ]) there
    | inr beyond ↦
        inl (subst (λ (c : Cycle). Contains c.mine one)
        (after_behind main at (blackened main at) readable beyond) there)
  ]

  -- so of what it knows after the step, where the cell is one of a page of an open cycle
  in_cycle_open : IsReadable main → main.seat.phase ≡ Mark → at < eden_start main.seat.space → (one : ℕ)
      → EachSlot (world_of main) one (λ offset. HasSureTarget (world_of (knowing main (blackened main at))))
      → EachSlot (world_of (with_blackened main at)) one
      (λ offset. HasSureTarget (world_of (with_blackened main at)))
  in_cycle_open readable mark inside one each =
      subst (λ (c : Cycle). EachSlot (world_of (knowing main c)) one
      (λ offset. HasSureTarget (world_of (knowing main c))))
      (sym (after_open main at (blackened main at) readable inside mark)) each

  -- A born cell that the mutator had not made black was a free start: it is sure of the targets of its slots.
  pub black_free_slots_are_sure : IsReadable main → main.seat.phase ≡ Mark → at < eden_start main.seat.space
      → Contains main.cycle.born at → (Contains main.cycle.mine at → ⊥)
      → EachSlot (world_of (with_blackened main at)) at
      (λ offset. HasSureTarget (world_of (with_blackened main at)))
  black_free_slots_are_sure readable mark inside is_born not_mine =
      in_cycle_open readable mark inside at
      (elim (free_or_mine (world_of main) at (born_start main at readable is_born)) [
        | inl free ↦ free_is_sure main at free
        | inr mine ↦ absurd (not_mine mine)
      ])

  -- and of those of one that it had, if its part was done
  pub black_slots_are_sure : IsReadable main → main.seat.phase ≡ Mark → at < eden_start main.seat.space
      → Contains main.cycle.born at → Settled (world_of main)
      → EachSlot (world_of (with_blackened main at)) at
      (λ offset. HasSureTarget (world_of (with_blackened main at)))
  black_slots_are_sure readable mark inside is_born settled =
      in_cycle_open readable mark inside at
      (elim (free_or_mine (world_of main) at (born_start main at readable is_born)) [
        | inl free ↦ free_is_sure main at free
        | inr mine ↦ still_sure main at at (mine_sure main at settled mine)
      ])

  -- the mutator's part stays done
  pub settled_stays_black : MayPut main at (event.Blacken at) → main.seat.phase ≡ Mark → IsReadable main
      → Settled (world_of main) → Settled (world_of (with_blackened main at))
  settled_stays_black may mark readable settled = record {
    owed = refl;
    sure = all_from (λ a. EachSlot (world_of (with_blackened main at)) a
        (λ offset. HasSureTarget (world_of (with_blackened main at)))) (with_blackened main at).cycle.mine
        (λ one there. elim (cases_lt at (eden_start main.seat.space)) [
          | inl inside ↦ elim (black_mine_from one readable there) [
            | inl had ↦ in_cycle_open readable mark inside one (still_sure main at one (mine_sure main one settled had))
            | inr new ↦ subst (λ (a : ℕ). EachSlot (world_of (with_blackened main at)) a
                (λ offset. HasSureTarget (world_of (with_blackened main at)))) (sym new.0)
                (black_slots_are_sure readable mark inside (may inside mark).may settled)
          ]
          | inr beyond ↦
              let same = after_behind main at (blackened main at) readable beyond in
              subst (λ (c : Cycle). EachSlot (world_of (knowing main c)) one
              (λ offset. HasSureTarget (world_of (knowing main c)))) (sym same)
              (mine_sure main one settled (subst (λ (c : Cycle). Contains c.mine one) same there))
        ]);
  }
