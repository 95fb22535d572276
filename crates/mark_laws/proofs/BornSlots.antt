-- What is read in snaps, and in the slots of cells, stays born.
use Rattle.std.proofs.Common.{ℕ, ◌+◌, ◌≡◌, ◌≢◌, ◌==◌, inl, inr, false, IsTrue, List, min}
use Rattle.std.proofs.Common.{slice_index, Option, Some, IfSome, All, Contains, get_or, sym, subst, arith}
use Rattle.std.proofs.Common.{eqb-true}
use Rattle.std.proofs.lemmas.Bool.{eqb-false}
use Rattle.std.proofs.lemmas.List.Elements.{All-contains}
use Rattle.mark_laws.specs.Types.{Reading, Snap, SnapSlot, HelperView, MainView, World}
use Rattle.tagged_word.proofs.Cells.{some_same}
use Rattle.core_parts.proofs.Joining.{decided}
use Rattle.mark_world.specs.declared.event.Event.TheVariants as event
use Rattle.mark_world.specs.Pages.{is_free, is_head_of, page_end, slots_of, target}
use Rattle.mark_world.specs.Steps.{grey}
use Rattle.mark_world.specs.Conditions.{MayAddLayout, MayStoreHeader, MayStoreOwned, MayStoreSlot}
use Rattle.mark_world.specs.AfterEvents.{after_main, IsMarked}
use Rattle.mark_world.specs.Coverage.{EachSlot, cell_of, colour_of}
use Rattle.mark_world.specs.Soundness.{HasCells, HasLists, HasSure, HasViewLists}
use Rattle.mark_world.specs.BornCells.{HasBorn}
use Rattle.mark_laws.proofs.Cells.{layout_keeps, owned_no_head}
use Rattle.mark_laws.proofs.Joins.{of_slot}
use Rattle.mark_laws.proofs.Listing.{all_weaker, some_weaker}
use Rattle.mark_laws.proofs.Reading.{store_keeps}
use Rattle.mark_laws.proofs.Slots.{WereGrey, each_slot, free_cell, outside_no_head, put_there}
use Rattle.mark_laws.proofs.Slots.{slot_there, some_at, some_from}
use Rattle.mark_laws.proofs.Stores.{header_outside, header_slot, header_slot_word, outside_no_slot}
use Rattle.mark_laws.proofs.Stores.{owned_no_slot, stored}
use Rattle.mark_laws.proofs.Colours.{put_or_stays}

-- what is born is born later
abbrev pub Grows : World → World → Type 0
Grows world later = (word : ℕ) → HasBorn world word → HasBorn later word

-- the targets of what was read in a snap are born, if its cell is grey
abbrev pub SnapBorn : World → Snap → Type 0
SnapBorn world snap = colour_of world snap.cell ≡ grey → All (λ slot. HasBorn world slot.word) snap.slots

-- so it is with the snap of a view, if it has one
abbrev pub ViewBorn : World → HelperView → Type 0
ViewBorn world view = IfSome view.snap (SnapBorn world)

-- the targets of the tagged slots of a free start are born, if it is
abbrev pub StartBorn : World → ℕ → Type 0
StartBorn world start = Contains world.main.born start → EachSlot world start (λ offset. HasBorn world)

-- what was read in a snap stays born
pub snap_born : (world later : World) (snap : Snap) → Grows world later → WereGrey world later
    → IsMarked world snap.cell
    → SnapBorn world snap → SnapBorn later snap
snap_born world later snap grows were reached born is_grey =
    all_weaker (λ (s : SnapSlot). HasBorn world s.word) (λ (s : SnapSlot). HasBorn later s.word) snap.slots
    (λ s. grows s.word) (born (were snap.cell reached is_grey))

-- in each view
pub view_born : (world later : World) (view : HelperView) → Grows world later → WereGrey world later
    → HasViewLists world view → ViewBorn world view → ViewBorn later view
view_born world later view grows were has born =
    some_from (SnapBorn later) view.snap (λ snap e.
    snap_born world later snap grows were (some_at (λ (s : Snap). IsMarked world s.cell) view.snap snap e has.snap)
    (some_at (SnapBorn world) view.snap snap e born))

-- in all views
pub views_born : (world later : World) → Grows world later → WereGrey world later → HasLists world
    → All (ViewBorn world) world.helpers → All (ViewBorn later) world.helpers
views_born world later grows were lists born =
    λ k d l. view_born world later (get_or world.helpers k d) grows were (lists.helpers k d l) (born k d l)

-- the slots of a cell that stays, in a world with the same words, stay born
pub slots_grow : (world : World) (main : MainView) (colours board : List ℕ) (helpers : List HelperView) (start : ℕ)
    → Grows world (record world { main = main; colours = colours; board = board; helpers = helpers })
    → EachSlot world start (λ offset. HasBorn world)
    → EachSlot (record world { main = main; colours = colours; board = board; helpers = helpers }) start
    (λ offset. HasBorn (record world { main = main; colours = colours; board = board; helpers = helpers }))
slots_grow world main colours board helpers start grows born =
    let later : World = record world { main = main; colours = colours; board = board; helpers = helpers } in
    each_slot later start (λ offset. HasBorn later) (λ cell e offset there.
    grows (slice_index world.words (start + offset))
    (of_slot world start offset cell (λ o. HasBorn world) e there born))

-- a store that leaves a cell leaves the targets of its slots born, if the word's is where it goes into one
stored_born : (world : World) (at word : ℕ) (owed : List ℕ) (start : ℕ) (cell : Reading)
    → cell_of world start ≡ Some cell → is_head_of start (Some cell) at ≡ false
    → ((offset : ℕ) → Contains (slots_of cell) offset → start + offset ≡ at → HasBorn world word)
    → EachSlot world start (λ offset. HasBorn world)
    → EachSlot (stored world at word owed) start (λ offset. HasBorn (stored world at word owed))
stored_born world at word owed start cell e no_head is_born born =
    let later : World = stored world at word owed in
    each_slot later start (λ offset. HasBorn later) (λ next f offset there.
    let same : next ≡ cell = some_same f
    (store_keeps world.words world.layouts start (min world.old (page_end start)) at word cell e no_head) in
    let slot : Contains (slots_of cell) offset = subst (λ (r : Reading). Contains (slots_of r) offset) same there in
    elim (put_or_stays world.words at word (start + offset)) [
      | inl is ↦ subst (HasBorn world) (sym (put_there world.words at word (start + offset) is
          (omega (arith, is, slot_there world start cell offset e slot)))) (is_born offset slot is)
      | inr stays ↦ subst (HasBorn world) (sym stays) (of_slot world start offset cell (λ o. HasBorn world) e slot born)
    ])

-- where a header changes, its newly tagged slots have targets that the mutator is sure of, so born ones
header_born : (world : World) (at word : ℕ) (cell : Reading) → HasSure world
    → MayStoreHeader world.old world.words world.layouts world.main at word → IsTrue (is_free world.main at)
    → cell_of world at ≡ Some cell → EachSlot world at (λ offset. HasBorn world)
    → EachSlot (stored world at word world.main.owed) at (λ offset. HasBorn (stored world at word world.main.owed))
header_born world at word cell sure may free e born =
    let later : World = stored world at word world.main.owed in
    each_slot later at (λ offset. HasBorn later) (λ new f offset there.
    subst (HasBorn world) (sym (header_slot_word world at word world.main.owed new offset f there))
    (elim (header_slot world at word world.main.owed cell new offset may free e f there) [
      | inl tagged ↦ of_slot world at offset cell (λ o. HasBorn world) e tagged born
      | inr is_sure ↦ some_weaker (Contains world.main.sure) (Contains world.main.born)
          (target world.old (slice_index world.words (at + offset)))
          (λ to c. All-contains (Contains world.main.born) world.main.sure to sure.sure_born c) is_sure
    ]))

-- a change of a header leaves the targets of each free start's slots born
pub header_slots_born : (world : World) (at word start : ℕ) → HasCells world → HasSure world
    → MayStoreHeader world.old world.words world.layouts world.main at word → IsTrue (is_free world.main start)
    → EachSlot world start (λ offset. HasBorn world)
    → EachSlot (stored world at word world.main.owed) start (λ offset. HasBorn (stored world at word world.main.owed))
header_slots_born world at word start cells sure may free born =
    let read = free_cell world cells start free in
    elim (decided (start == at)) [
      | inl same ↦
          let is : at ≡ start = sym (eqb-true _ _ same) in
          subst (λ (a : ℕ). MayStoreHeader world.old world.words world.layouts world.main a word
          → EachSlot (stored world a word world.main.owed) start
          (λ offset. HasBorn (stored world a word world.main.owed)))
          (sym is) (λ m. header_born world start word read.0 sure m free read.1 born) may
      | inr differs ↦
          let other : start ≢ at = eqb-false start at differs in
          let outside = header_outside world at word start read.0 cells may free read.1 other in
          stored_born world at word world.main.owed start read.0 read.1 (outside_no_head start read.0 at outside)
          (λ offset slot e. absurd (outside_no_slot world start read.0 offset at read.1 slot e outside)) born
    ]

-- a store into a slot
pub slot_slots_born : (world : World) (at word start : ℕ) (owed : List ℕ) → HasCells world
    → MayStoreSlot world.old world.words world.layouts world.main at word → IsTrue (is_free world.main start)
    → EachSlot world start (λ offset. HasBorn world)
    → EachSlot (stored world at word owed) start (λ offset. HasBorn (stored world at word owed))
slot_slots_born world at word start owed cells may free born =
    let read = free_cell world cells start free in
    stored_born world at word owed start read.0 read.1
    (subst (λ (c : Option Reading). is_head_of start c at ≡ false) read.1 (may.no_head start free))
    (λ offset slot e. may.born) born

-- a store where no helper visits
pub owned_slots_born : (world : World) (at word start : ℕ) → HasCells world
    → MayStoreOwned world.old world.words world.layouts world.main at → IsTrue (is_free world.main start)
    → EachSlot world start (λ offset. HasBorn world)
    → EachSlot (stored world at word world.main.owed) start (λ offset. HasBorn (stored world at word world.main.owed))
owned_slots_born world at word start cells may free born =
    let read = free_cell world cells start free in
    stored_born world at word world.main.owed start read.0 read.1
    (owned_no_head world at start free read.0 read.1 may.alone)
    (λ offset slot e. absurd (owned_no_slot world start read.0 offset at free read.1 may.alone slot e)) born

-- a layout word that is new leaves cells as they are
pub layout_slots_born : (world : World) (shape word start : ℕ) → HasCells world
    → MayAddLayout world.layouts shape word → IsTrue (is_free world.main start)
    → EachSlot world start (λ offset. HasBorn world)
    → EachSlot (after_main world (event.AddLayout shape word)) start
    (λ offset. HasBorn (after_main world (event.AddLayout shape word)))
layout_slots_born world shape word start cells may free born =
    let read = free_cell world cells start free in
    let later : World = after_main world (event.AddLayout shape word) in
    each_slot later start (λ offset. HasBorn later) (λ next f offset there.
    let same : next ≡ read.0 = some_same f
    (layout_keeps world.words world.layouts start (min world.old (page_end start)) shape word read.0 may.unused
    read.1) in
    of_slot world start offset read.0 (λ o. HasBorn world) read.1
    (subst (λ (r : Reading). Contains (slots_of r) offset) same there) born)
