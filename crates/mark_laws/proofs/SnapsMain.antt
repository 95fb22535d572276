-- Snaps of grey cells stay true through the steps of the mutator.
use Rattle.std.proofs.Common.{ℕ, ◌≡◌, ◌≢◌, ◌==◌, inl, inr, false, IsTrue, List, Option, Some}
use Rattle.std.proofs.Common.{All, Contains, get_or, sym, subst, eqb-true}
use Rattle.std.proofs.lemmas.Bool.{eqb-false}
use Rattle.mark_laws.specs.Types.{Reading, Event, Snap, Actor, HelperView, World}
use Rattle.core_parts.specs.Boards.{joined_by}
use Rattle.core_parts.proofs.Joining.{decided}
use Rattle.mark_world.specs.declared.event.Event.TheVariants as event
use Rattle.mark_world.specs.Pages.{is_free, is_head_of, target}
use Rattle.mark_world.specs.Steps.{becomes, main_spot}
use Rattle.mark_world.specs.Conditions.{MayMain, MayStoreHeader, MayStoreOwned, MayStoreSlot}
use Rattle.mark_world.specs.AfterEvents.{after_main, IsMarked, word_at}
use Rattle.mark_world.specs.Coverage.{HasCovered, IsCovered, cell_of, colour_of}
use Rattle.mark_world.specs.Soundness.{HasCells, HasLists, HasSizes, HasSnaps, HasSure, HasViewLists, IsTrueSnap}
use Rattle.mark_laws.proofs.Cells.{owned_no_head}
use Rattle.mark_laws.proofs.Colours.{step_rises}
use Rattle.mark_laws.proofs.Coverage.{with_word_views}
use Rattle.mark_laws.proofs.Slots.{WereGrey, free_cell, grey_before, grey_free, outside_no_head, some_at, some_from}
use Rattle.mark_laws.proofs.Stores.{header_outside, outside_no_slot, owned_no_slot, stored}
use Rattle.mark_laws.proofs.TrueSnaps.{Covers, GreyTrue, ViewTrue, kept_true}
use Rattle.mark_laws.proofs.TrueStores.{changed_true, layout_true, stored_true}
use Rattle.mark_laws.proofs.StoredSlots.{owed_target}

-- a word whose target is owed is covered
owed_covered : (world : World) (at word : ℕ)
    → HasCovered (stored world at word (joined_by world.main.owed (target world.old word))) word
owed_covered world at word =
    let owed : List ℕ = joined_by world.main.owed (target world.old word) in
    some_from (IsCovered (stored world at word owed)) (target world.old word) (λ to e.
    inr (inl (some_at (Contains owed) (target world.old word) to e
    (owed_target world.main.owed (target world.old word)))))

-- a snap stays true through a store into a slot, since its target is owed
slot_true : (world : World) (at word : ℕ) (snap : Snap) (cell : Reading)
    → MayStoreSlot world.old world.words world.layouts world.main at word → IsTrue (is_free world.main snap.cell)
    → cell_of world snap.cell ≡ Some cell
    → Covers world (stored world at word (joined_by world.main.owed (target world.old word))) → IsTrueSnap world snap
    → IsTrueSnap (stored world at word (joined_by world.main.owed (target world.old word))) snap
slot_true world at word snap cell may free e covers is_true =
    stored_true world at word (joined_by world.main.owed (target world.old word)) snap cell e
    (subst (λ (c : Option Reading). is_head_of snap.cell c at ≡ false) e (may.no_head snap.cell free)) covers
    (λ offset slot is. owed_covered world at word) is_true

-- and through one where no helper visits
owned_true : (world : World) (at word : ℕ) (snap : Snap) (cell : Reading)
    → MayStoreOwned world.old world.words world.layouts world.main at → IsTrue (is_free world.main snap.cell)
    → cell_of world snap.cell ≡ Some cell → Covers world (stored world at word world.main.owed) → IsTrueSnap world snap
    → IsTrueSnap (stored world at word world.main.owed) snap
owned_true world at word snap cell may free e covers is_true =
    stored_true world at word world.main.owed snap cell e (owned_no_head world at snap.cell free cell e may.alone)
    covers
    (λ offset slot is. absurd (owned_no_slot world snap.cell cell offset at free e may.alone slot is)) is_true

-- and through a change of a header
header_true : (world : World) (at word : ℕ) (snap : Snap) (cell : Reading) → HasCells world → HasSure world
    → MayStoreHeader world.old world.words world.layouts world.main at word → IsTrue (is_free world.main snap.cell)
    → cell_of world snap.cell ≡ Some cell → Covers world (stored world at word world.main.owed) → IsTrueSnap world snap
    → IsTrueSnap (stored world at word world.main.owed) snap
header_true world at word snap cell cells sure may free e covers is_true = elim (decided (snap.cell == at)) [
  | inl same ↦
      subst (λ (a : ℕ). MayStoreHeader world.old world.words world.layouts world.main a word
      → Covers world (stored world a word world.main.owed) → IsTrueSnap (stored world a word world.main.owed) snap)
      (eqb-true _ _ same) (λ m c. changed_true world snap word cell sure m free c e is_true) may covers
  | inr differs ↦
      let other : snap.cell ≢ at = eqb-false snap.cell at differs in
      let outside = header_outside world at word snap.cell cell cells may free e other in
      stored_true world at word world.main.owed snap cell e (outside_no_head snap.cell cell at outside) covers
      (λ offset slot is. absurd (outside_no_slot world snap.cell cell offset at e slot is outside)) is_true
]

-- a snap of a free start stays true through a step of the mutator
main_true : (world : World) (of : Event) (snap : Snap) (cell : Reading) → HasCells world → HasSure world
    → MayMain world.old world.words world.layouts world.main of → IsTrue (is_free world.main snap.cell)
    → cell_of world snap.cell ≡ Some cell → Covers world (after_main world of) → IsTrueSnap world snap
    → IsTrueSnap (after_main world of) snap
main_true world (event.StoreSlot at word) snap cell cells sure may free e covers is_true =
    slot_true world at word snap cell may free e covers is_true
main_true world (event.StoreOwned at word) snap cell cells sure may free e covers is_true =
    owned_true world at word snap cell may free e covers is_true
main_true world (event.StoreHeader at word) snap cell cells sure may free e covers is_true =
    header_true world at word snap cell cells sure may free e covers is_true
main_true world (event.AddLayout shape word) snap cell cells sure may free e covers is_true =
    layout_true world shape word snap cell may free e covers is_true
main_true world (event.ShadeMain at) snap cell cells sure may free e covers is_true =
    let later : World = after_main world (event.ShadeMain at) in
    kept_true world later.colours later.board later.main later.helpers snap covers is_true
main_true world (event.Blacken at) snap cell cells sure may free e covers is_true =
    let later : World = after_main world (event.Blacken at) in
    kept_true world later.colours later.board later.main later.helpers snap covers is_true
main_true world (event.NewBlack at) snap cell cells sure may free e covers is_true =
    let later : World = after_main world (event.NewBlack at) in
    kept_true world later.colours later.board later.main later.helpers snap covers is_true
main_true world (event.GiveMain place at) snap cell cells sure may free e covers is_true =
    let later : World = after_main world (event.GiveMain place at) in
    kept_true world later.colours later.board later.main later.helpers snap covers is_true
main_true world (event.TakeMain place) snap cell cells sure may free e covers is_true =
    let later : World = after_main world (event.TakeMain place) in
    kept_true world later.colours later.board later.main later.helpers snap covers is_true
main_true world _ snap cell cells sure may free e covers is_true = is_true

-- the snap of a view stays true, if its cell is grey still
main_view : (world : World) (of : Event) (view : HelperView) → HasCells world → HasSure world
    → MayMain world.old world.words world.layouts world.main of → Covers world (after_main world of)
    → WereGrey world (after_main world of) → HasViewLists world view → ViewTrue world view
    → ViewTrue (after_main world of) view
main_view world of view cells sure may covers were has is_true =
    let later : World = after_main world of in
    some_from (GreyTrue later) view.snap (λ snap e is_grey.
    let reached = some_at (λ (s : Snap). IsMarked world s.cell) view.snap snap e has.snap in
    let was = were snap.cell reached is_grey in
    let free = grey_free world cells snap.cell reached.start was in
    let read = free_cell world cells snap.cell free in
    main_true world of snap read.0 cells sure may free read.1 covers
    (some_at (GreyTrue world) view.snap snap e is_true was))

-- each snap of a grey cell stays true through a step of the mutator
pub main_snaps : (world : World) (of : Event) → HasSizes world → HasCells world → HasLists world → HasSure world
    → HasSnaps world → MayMain world.old world.words world.layouts world.main of → Covers world (after_main world of)
    → HasSnaps (after_main world of)
main_snaps world of sizes cells lists sure snaps may covers =
    let later : World = after_main world of in
    let were : WereGrey world later = λ at reached.
    grey_before (colour_of world at) (colour_of later at) reached.coloured
    (step_rises world of Actor.Mutator sizes at) in
    subst (All (ViewTrue later)) (sym (with_word_views world (main_spot of)
    (becomes of (word_at world (main_spot of)))))
    (λ k d l. main_view world of (get_or world.helpers k d) cells sure may covers were (lists.helpers k d l)
    (snaps k d l))
