-- The slots of a cell that were covered are so after a step of the mutator: a target that is stored is owed, a slot
-- that turns tagged has one that the mutator is sure of, and the others stay.
use Rattle.std.proofs.Common.{ℕ, ◌+◌, ◌<◌, ◌≡◌, ◌∙◌, inl, inr, IsTrue, List, length, Option, Some, None}
use Rattle.std.proofs.Common.{IfSome, Contains, slice_index, slice_set, refl, sym, ap, subst}
use Rattle.std.proofs.lemmas.List.{get_or-set_other, get_or-set_same}
use Rattle.std.proofs.lemmas.List.Elements.{All-contains}
use Rattle.mark_laws.specs.Types.{Reading, Event, World}
use Rattle.tagged_word.proofs.Cells.{some_same}
use Rattle.core_parts.specs.Boards.{joined_by}
use Rattle.core_parts.proofs.Joining.{joined_in}
use Rattle.mark_world.specs.declared.event.Event.TheVariants as event
use Rattle.mark_world.specs.Pages.{OfTarget, is_free, slots_of, target}
use Rattle.mark_world.specs.Conditions.{MayMain, MayStoreHeader}
use Rattle.mark_world.specs.AfterEvents.{after_main}
use Rattle.mark_world.specs.Coverage.{EachSlot, HasCovered, IsCovered, cell_of}
use Rattle.mark_world.specs.Soundness.{HasCells, HasSure}
use Rattle.mark_laws.proofs.Joins.{of_slot}
use Rattle.mark_laws.proofs.Cells.{main_cells}
use Rattle.mark_laws.proofs.Stores.{header_outside, header_slot, header_slot_word, outside_no_slot, owned_no_slot}
use Rattle.mark_laws.proofs.Listing.{some_weaker}
use Rattle.mark_laws.proofs.Waiting.{one_or_other}

-- a word with a target that joins what is owed is covered
pub owed_target : (list : List ℕ) (new : Option ℕ) → IfSome new (λ to. Contains (joined_by list new) to)
owed_target list None = tt
owed_target list (Some to) = joined_in list to

-- what is covered stays covered from one world to the next, of as many old words
pub covered_on : (world later : World) (word : ℕ) → later.old ≡ world.old
    → ((a : ℕ) → IsCovered world a → IsCovered later a) → HasCovered world word → HasCovered later word
covered_on world later word same keeps covered =
    subst (λ (old : ℕ). OfTarget old word (IsCovered later)) (sym same)
    (some_weaker (IsCovered world) (IsCovered later) (target world.old word) keeps covered)

-- the same of a word that is one of before
pub same_covered : (world later : World) (word before : ℕ) → word ≡ before → later.old ≡ world.old
    → ((a : ℕ) → IsCovered world a → IsCovered later a) → HasCovered world before → HasCovered later word
same_covered world later word before is same keeps covered =
    subst (λ (w : ℕ). HasCovered later w) (sym is) (covered_on world later before same keeps covered)

-- a word that is put into a slot is covered, since its target is owed, and the other words stay
stored_slot : (world : World) (at word : ℕ) → at < length world.words
    → ((a : ℕ) → IsCovered world a → IsCovered (after_main world (event.StoreSlot at word)) a)
    → (slot : ℕ) → HasCovered world (slice_index world.words slot)
    → HasCovered (after_main world (event.StoreSlot at word)) (slice_index (slice_set world.words at word) slot)
stored_slot world at word within keeps slot covered =
    let later : World = after_main world (event.StoreSlot at word) in
    elim (one_or_other slot at) [
      | inl same ↦
          let put : slice_index (slice_set world.words at word) slot ≡ word =
          ap (slice_index (slice_set world.words at word)) same ∙ get_or-set_same world.words at word 0 within in
          subst (λ (w : ℕ). HasCovered later w) (sym put)
          (some_weaker (λ (to : ℕ). Contains later.main.owed to) (IsCovered later) (target world.old word)
          (λ to owed. inr (inl owed)) (owed_target world.main.owed (target world.old word)))
      | inr other ↦ same_covered world later (slice_index (slice_set world.words at word) slot)
          (slice_index world.words slot)
          (get_or-set_other world.words at slot word 0 other) refl keeps covered
    ]

-- each slot of a cell whose header changes was covered, or has a target that the mutator is sure of
changed_slot : (world : World) (start word : ℕ) (cell now : Reading) → HasSure world → IsTrue (is_free world.main start)
    → MayStoreHeader world.old world.words world.layouts world.main start word → cell_of world start ≡ Some cell
    → cell_of (after_main world (event.StoreHeader start word)) start ≡ Some now
    → EachSlot world start (λ o. HasCovered world) → (offset : ℕ) → Contains (slots_of now) offset
    → HasCovered world (slice_index world.words (start + offset))
changed_slot world start word cell now sure free may e f each offset c =
    elim (header_slot world start word world.main.owed cell now offset may free e f c) [
      | inl had ↦ of_slot world start offset cell (λ o. HasCovered world) e had each
      | inr is_sure ↦ some_weaker (λ (to : ℕ). Contains world.main.sure to) (IsCovered world)
          (target world.old (slice_index world.words (start + offset)))
          (λ to has. All-contains (IsCovered world) world.main.sure to sure.covered has) is_sure
    ]

-- a slot of a cell whose own header changes
own_header_slot : (world : World) (start word : ℕ) (cell now : Reading) → HasSure world
    → IsTrue (is_free world.main start)
    → MayStoreHeader world.old world.words world.layouts world.main start word → cell_of world start ≡ Some cell
    → cell_of (after_main world (event.StoreHeader start word)) start ≡ Some now
    → ((a : ℕ) → IsCovered world a → IsCovered (after_main world (event.StoreHeader start word)) a)
    → EachSlot world start (λ o. HasCovered world) → (offset : ℕ) → Contains (slots_of now) offset
    → HasCovered (after_main world (event.StoreHeader start word))
    (slice_index (slice_set world.words start word) (start + offset))
own_header_slot world start word cell now sure free may e f keeps each offset c =
    same_covered world (after_main world (event.StoreHeader start word))
    (slice_index (slice_set world.words start word) (start + offset)) (slice_index world.words (start + offset))
    (header_slot_word world start word world.main.owed now offset f c) refl keeps
    (changed_slot world start word cell now sure free may e f each offset c)

-- a slot of a cell that is read as before, where the word of the slot is
kept_slot : (world later : World) (start : ℕ) (cell now : Reading) → later.old ≡ world.old
    → cell_of world start ≡ Some cell → cell_of later start ≡ Some now → cell_of later start ≡ Some cell
    → ((a : ℕ) → IsCovered world a → IsCovered later a)
    → EachSlot world start (λ o. HasCovered world) → (offset : ℕ)
    → Contains (slots_of now) offset
    → (Contains (slots_of cell) offset
    → slice_index later.words (start + offset) ≡ slice_index world.words (start + offset))
    → HasCovered later (slice_index later.words (start + offset))
kept_slot world later start cell now same e f g keeps each offset c stays =
    let there : Contains (slots_of cell) offset = subst (λ (r : Reading). Contains (slots_of r) offset)
    (some_same f g) c in
    same_covered world later (slice_index later.words (start + offset)) (slice_index world.words (start + offset))
    (stays there) same keeps (of_slot world start offset cell (λ o. HasCovered world) e there each)

-- the slots of a free start that were covered are so after a step of the mutator
pub main_slots : (world : World) (of : Event) → HasCells world → HasSure world
    → MayMain world.old world.words world.layouts world.main of
    → ((a : ℕ) → IsCovered world a → IsCovered (after_main world of) a) → (start : ℕ)
    → IsTrue (is_free world.main start)
    → (cell now : Reading) → cell_of world start ≡ Some cell → cell_of (after_main world of) start ≡ Some now
    → EachSlot world start (λ o. HasCovered world) → (offset : ℕ) → Contains (slots_of now) offset
    → HasCovered (after_main world of) (slice_index (after_main world of).words (start + offset))
main_slots world (event.StoreSlot at word) cells sure may keeps start free cell now e f each offset c =
    let g = main_cells world (event.StoreSlot at word) cells may start (λ stores. absurd stores) free cell e in
    let there : Contains (slots_of cell) offset = subst (λ (r : Reading). Contains (slots_of r) offset)
    (some_same f g) c in
    stored_slot world at word may.place keeps (start + offset)
    (of_slot world start offset cell (λ o. HasCovered world) e there each)
main_slots world (event.StoreOwned at word) cells sure may keeps start free cell now e f each offset c =
    kept_slot world (after_main world (event.StoreOwned at word)) start cell now refl e f
    (main_cells world (event.StoreOwned at word) cells may start (λ stores. absurd stores) free cell e) keeps each
    offset c
    (λ there. get_or-set_other world.words at (start + offset) word 0
    (owned_no_slot world start cell offset at free e may.alone there))
main_slots world (event.StoreHeader at word) cells sure may keeps start free cell now e f each offset c =
    elim (one_or_other at start) [
      | inl same ↦ subst (λ (a : ℕ). MayStoreHeader world.old world.words world.layouts world.main a word
          → cell_of (after_main world (event.StoreHeader a word)) start ≡ Some now
          → ((b : ℕ) → IsCovered world b → IsCovered (after_main world (event.StoreHeader a word)) b)
          → HasCovered (after_main world (event.StoreHeader a word))
          (slice_index (slice_set world.words a word) (start + offset))) (sym same)
          (λ may_here f_here keeps_here.
          own_header_slot world start word cell now sure free may_here e f_here keeps_here each offset c) may f keeps
      | inr other ↦ kept_slot world (after_main world (event.StoreHeader at word)) start cell now refl e f
          (main_cells world (event.StoreHeader at word) cells may start other free cell e) keeps each offset c
          (λ there. get_or-set_other world.words at (start + offset) word 0
          (λ is. outside_no_slot world start cell offset at e there is
          (header_outside world at word start cell cells may free e (λ same. other (sym same)))))
    ]
main_slots world (event.AddLayout shape word) cells sure may keeps start free cell now e f each offset c =
    kept_slot world (after_main world (event.AddLayout shape word)) start cell now refl e f
    (main_cells world (event.AddLayout shape word) cells may start (λ stores. absurd stores) free cell e) keeps each
    offset c
    (λ there. refl)
main_slots world of cells sure may keeps start free cell now e f each offset c =
    kept_slot world (after_main world of) start cell now refl e f e keeps each offset c (λ there. refl)
