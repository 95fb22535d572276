-- The mutator's lists only grow, and the cells of free starts read on, through each event and along lists of events.
use Rattle.std.proofs.Common.{◌≡◌, ℕ, ◌<◌, ◌≢◌, ◌∙◌, inl, inr, true, false, min, Option, Some, Contains, IsTrue}
use Rattle.std.specs.Prelude.{IsSome, slice_set}
use Rattle.std.proofs.Common.{List, take_all, length, refl, sym, ap, subst, slice_get, slice_index, length-set, arith}
use Rattle.std.proofs.lemmas.Bool.{cases_eq}
use Rattle.std.proofs.lemmas.List.Elements.{All-contains, All-contains_itself}
use Rattle.tagged_word.specs.declared.layout.Kind.TheVariants as kind
use Rattle.tagged_word.proofs.Cells.{some_same}
use Rattle.mark_world.specs.declared.event.Event.TheVariants as event
use Rattle.mark_world.specs.Pages.{EachFree, OfTarget, is_free, is_head_of, is_inside, leaves_alone, page_end}
use Rattle.mark_world.specs.Pages.{slots_of, target}
use Rattle.mark_world.specs.Steps.{actor}
use Rattle.mark_world.specs.Conditions.{MayMain, MayStoreHeader, MayStoreOwned}
use Rattle.mark_world.specs.AfterEvents.{PossibleStep, after, after_all, after_main, after_step}
use Rattle.mark_world.specs.AfterEvents.{moment}
use Rattle.mark_world.specs.Coverage.{cell_of}
use Rattle.mark_world.specs.Soundness.{AreIn}
use Rattle.mark_laws.specs.Types.{Event, Actor, Laid, Reading, World}
use Rattle.mark_laws.specs.Cells.{Widens}
use Rattle.mark_laws.specs.PageWords.{HasMainSound}
use Rattle.mark_laws.proofs.Cells.{layout_keeps, owned_no_head}
use Rattle.mark_laws.proofs.FreeStarts.{step_free}
use Rattle.mark_laws.proofs.Growing.{grown_from_itself, grown_twice, step_grows}
use Rattle.mark_laws.proofs.Joins.{all_from, some_and}
use Rattle.mark_laws.proofs.Laid.{cell_laid, safe_from}
use Rattle.mark_laws.proofs.Listing.{some_weaker}
use Rattle.mark_laws.proofs.Moments.{at_each_from, next_moment}
use Rattle.mark_laws.proofs.PagesTell.{whole_main}
use Rattle.mark_laws.proofs.Reading.{store_keeps}
use Rattle.mark_laws.proofs.SafeChanges.{header_widens}
use Rattle.mark_laws.proofs.SamePages.{SamePages, helper_pages, return_pages, same_cells}
use Rattle.mark_laws.proofs.Slots.{outside_no_head}
use Rattle.mark_laws.proofs.SoundRuns.{whole_along}
use Rattle.mark_laws.proofs.Starts.{value_of}
use Rattle.mark_laws.proofs.Stores.{header_laid, stored}
use Rattle.cycle_state.specs.Claims.{ReadsOn, GoesOn}
use Rattle.cycle_state.specs.ClaimLaws.{GoesOnItself, GoesOnAgain, EventsGoOn, GoesOnAlong, MomentsGoOn, TargetsGoOn}

-- a cell that reads as before reads on
reads_itself : (next : World) (start : ℕ) (cell : Reading) → cell_of next start ≡ Some cell → ReadsOn next start cell
reads_itself next start cell is = record {
  cell = cell;
  is = is;
  one_kind = refl;
  widens = record { size = refl; slots = All-contains_itself (slots_of cell) };
}

-- a world goes on to itself
pub goes_on_itself : GoesOnItself
goes_on_itself world = record {
  old = refl;
  long = refl;
  grows = grown_from_itself world.main;
  free = λ start free. free;
  reads = λ start free cell is. reads_itself world start cell is;
}

-- a cell that reads on twice reads on
reads_again : {next last : World} {start : ℕ} {cell : Reading} (early : ReadsOn next start cell)
    → ReadsOn last start early.cell → ReadsOn last start cell
reads_again {cell = cell} early late = record {
  cell = late.cell;
  is = late.is;
  one_kind = late.one_kind ∙ early.one_kind;
  widens = record {
    size = late.widens.size ∙ early.widens.size;
    slots = all_from (Contains (slots_of late.cell)) (slots_of cell) (λ offset there.
        All-contains (Contains (slots_of late.cell)) (slots_of early.cell) offset late.widens.slots
        (All-contains (Contains (slots_of early.cell)) (slots_of cell) offset early.widens.slots there));
  };
}

-- and a world goes on again
pub goes_on_again : GoesOnAgain
goes_on_again first next last early late = record {
  old = late.old ∙ early.old;
  long = late.long ∙ early.long;
  grows = grown_twice first.main next.main last.main early.grows late.grows;
  free = λ start free. early.free start (late.free start free);
  reads = λ start free cell is.
      let once = early.reads start (late.free start free) cell is in
      reads_again once (late.reads start free once.cell once.is);
}

-- the kind of a cell whose header changed safely is that of plain cells
kind_stays : (world : World) (at word : ℕ) (cell new : Reading)
    → MayStoreHeader world.old world.words world.layouts world.main at word → cell_of world at ≡ Some cell
    → cell_of (stored world at word world.main.owed) at ≡ Some new → new.layout.kind ≡ cell.layout.kind
kind_stays world at word cell new may was is =
    let safe = safe_from world.layouts (slice_index world.words at) word may.safe in
    let after = header_laid world at word world.main.owed cell new was is in
    let before = cell_laid world at cell was in
    let new_plain : new.layout.kind ≡ kind.Plain =
    subst (λ (l : Laid). l.layout.kind ≡ kind.Plain) (some_same safe.is after) safe.change.new_plain in
    let old_plain : cell.layout.kind ≡ kind.Plain =
    subst (λ (l : Laid). l.layout.kind ≡ kind.Plain) (some_same safe.was before) safe.change.old_plain in
    new_plain ∙ sym old_plain

-- a cell reads on after a safe change of its header
header_reads : (world : World) (at word : ℕ) (cell : Reading)
    → MayStoreHeader world.old world.words world.layouts world.main at word → cell_of world at ≡ Some cell
    → ReadsOn (stored world at word world.main.owed) at cell
header_reads world at word cell may is =
    let new = some_and (Widens cell) (cell_of (stored world at word world.main.owed) at)
    (header_widens world at word cell is may.safe) in
    record {
      cell = new.0;
      is = new.1;
      one_kind = kind_stays world at word cell new.0 may is new.1;
      widens = new.2;
    }

-- the header of another cell lies outside a free start's
others_outside : (world : World) (at word start : ℕ) (cell : Reading) → HasMainSound world
    → MayStoreHeader world.old world.words world.layouts world.main at word → IsTrue (is_free world.main start)
    → cell_of world start ≡ Some cell → start ≢ at → is_inside start (Some cell) at ≡ false
others_outside world at word start cell sound may free is other =
    subst (λ (c : Option Reading). is_inside start c at ≡ false) is (elim may.place [
      | inl is_free_at ↦ sound.apart start free at is_free_at other
      | inr outside ↦ outside start free
    ])

-- each free start reads on through a step of the mutator
main_reads : (world : World) (of : Event) → HasMainSound world
    → MayMain world.old world.words world.layouts world.main of → (start : ℕ) → IsTrue (is_free world.main start)
    → (cell : Reading) → cell_of world start ≡ Some cell → ReadsOn (after_main world of) start cell
main_reads world (event.StoreSlot at word) sound may start free cell is =
    reads_itself (after_main world (event.StoreSlot at word)) start cell
    (store_keeps world.words world.layouts start (min world.old (page_end start)) at word cell is
    (subst (λ (c : Option Reading). is_head_of start c at ≡ false) is (may.no_head start free)))
main_reads world (event.StoreOwned at word) sound may start free cell is =
    reads_itself (after_main world (event.StoreOwned at word)) start cell
    (store_keeps world.words world.layouts start (min world.old (page_end start)) at word cell is
    (owned_no_head world at start free cell is may.alone))
main_reads world (event.StoreHeader at word) sound may start free cell is = elim (cases_eq start at) [
  | inl same ↦
      subst (λ (one : ℕ). ReadsOn (after_main world (event.StoreHeader at word)) one cell) (sym same)
      (header_reads world at word cell may (subst (λ (one : ℕ). cell_of world one ≡ Some cell) same is))
  | inr other ↦
      reads_itself (after_main world (event.StoreHeader at word)) start cell
      (store_keeps world.words world.layouts start (min world.old (page_end start)) at word cell is
      (outside_no_head start cell at (others_outside world at word start cell sound may free is other)))
]
main_reads world (event.AddLayout shape word) sound may start free cell is =
    reads_itself (after_main world (event.AddLayout shape word)) start cell
    (layout_keeps world.words world.layouts start (min world.old (page_end start)) shape word cell may.unused is)
main_reads world of sound may start free cell is = reads_itself (after_main world of) start cell is

-- a step of the mutator leaves the pages where they are, and as many words
main_keeps : (world : World) (of : Event)
    → ((after_main world of).old ≡ world.old) × (length (after_main world of).words ≡ length world.words)
main_keeps world (event.StoreSlot at word) = (refl, length-set world.words at word)
main_keeps world (event.StoreOwned at word) = (refl, length-set world.words at word)
main_keeps world (event.StoreHeader at word) = (refl, length-set world.words at word)
main_keeps world (event.LoadHeader number cell) = (refl, refl)
main_keeps world (event.LoadLayout number) = (refl, refl)
main_keeps world (event.LoadLength number) = (refl, refl)
main_keeps world (event.LoadSlot number offset) = (refl, refl)
main_keeps world of = (refl, refl)

-- a cell reads on where the pages are as they were
same_reads : (world next : World) → SamePages world next → (start : ℕ) (cell : Reading)
    → cell_of world start ≡ Some cell → ReadsOn next start cell
same_reads world next same start cell is = reads_itself next start cell (same_cells world next same start ∙ is)

-- each free start reads on through a step of anyone
step_reads : (world : World) (of : Event) (by : Actor) → HasMainSound world → PossibleStep world of by → (start : ℕ)
    → IsTrue (is_free world.main start) → (cell : Reading) → cell_of world start ≡ Some cell
    → ReadsOn (after_step world of by) start cell
step_reads world of Actor.Mutator sound may start free cell is = main_reads world of sound may start free cell is
step_reads world of (Actor.Helper number) sound may start free cell is =
    same_reads world (after_step world of (Actor.Helper number))
    (helper_pages world number of (slice_get world.helpers number)) start cell is
step_reads world of Actor.Lends sound may start free cell is =
    reads_itself (after_step world of Actor.Lends) start cell is
step_reads world of (Actor.Returns number) sound may start free cell is =
    same_reads world (after_step world of (Actor.Returns number))
    (return_pages world number (slice_get world.helpers number)) start cell is

-- it leaves the pages where they are, and as many words
step_keeps : (world : World) (of : Event) (by : Actor)
    → ((after_step world of by).old ≡ world.old) × (length (after_step world of by).words ≡ length world.words)
step_keeps world of Actor.Mutator = main_keeps world of
step_keeps world of (Actor.Helper number) =
    let same = helper_pages world number of (slice_get world.helpers number) in (same.old, ap length same.words)
step_keeps world of Actor.Lends = (refl, refl)
step_keeps world of (Actor.Returns number) =
    let same = return_pages world number (slice_get world.helpers number) in (same.old, ap length same.words)

-- so a world goes on through each event
pub events_go_on : EventsGoOn
events_go_on world of sound possible =
    let keeps = step_keeps world of (actor of) in
    record {
      old = keeps.0;
      long = keeps.1;
      grows = step_grows world of (actor of);
      free = step_free world of (actor of);
      reads = λ start free.
          step_reads world of (actor of) sound possible start (step_free world of (actor of) start free);
    }

-- from each moment of events to each later one
pub moments_go_on : MomentsGoOn
moments_go_on start events from to whole later within were =
    let first : World = moment start events from in
    at_each_from events from to (λ k. GoesOn first (moment start events k)) within (goes_on_itself first)
    (λ k of begun early there before.
    let now : World = moment start events k in
    let sound = whole_along start events to whole within were k (omega (arith, early)) in
    subst (GoesOn first) (sym (next_moment start events k of there))
    (goes_on_again first now (after now of) before
    (events_go_on now of (whole_main now sound.0 sound.1) (were k of early there)))) to later (omega arith)

-- and along a list of them
pub goes_on_along : GoesOnAlong
goes_on_along start events whole were =
    subst (λ (list : List Event). GoesOn start (after_all start list)) (take_all (length events) events (omega arith))
    (moments_go_on start events 0 (length events) whole (omega arith) (omega arith) were)

-- a word's target that is in a list is in one that has grown
grown_target : (old now word : ℕ) (list later : List ℕ) → now ≡ old → AreIn later list
    → OfTarget old word (Contains list) → OfTarget now word (Contains later)
grown_target old now word list later same grown has =
    subst (λ n. OfTarget n word (Contains later)) (sym same)
    (some_weaker (Contains list) (Contains later) (target old word)
    (λ to there. All-contains (Contains later) list to grown there) has)

-- and so for born targets, and for sure ones
pub targets_go_on : TargetsGoOn
targets_go_on world next word goes = (
  grown_target world.old next.old word world.main.born next.main.born goes.old goes.grows.born,
  grown_target world.old next.old word world.main.sure next.main.sure goes.old goes.grows.sure,
)

-- A word that no helper visits by is still one once another such word was stored: each cell of a free start reads as
-- before.
pub owned_still : (world : World) (at word other : ℕ)
    → EachFree world.main (λ start. IsSome (cell_of world start))
    → MayStoreOwned world.old world.words world.layouts world.main at
    → MayStoreOwned world.old world.words world.layouts world.main other
    → MayStoreOwned world.old (slice_set world.words at word) world.layouts world.main other
owned_still world at word other reads may next = record {
  place = subst (λ (n : ℕ). other < n) (sym (length-set world.words at word)) next.place;
  alone = elim next.alone [
    | inl behind ↦ inl behind
    | inr each ↦ inr (λ start free.
        let (cell, is) = value_of (cell_of world start) (reads start free) in
        subst (λ (c : Option Reading). leaves_alone start c other ≡ true)
        (is ∙ sym (store_keeps world.words world.layouts start (min world.old (page_end start)) at word cell is
        (owned_no_head world at start free cell is may.alone)))
        (each start free))
  ];
}
