-- What is born stays so through the steps of helpers.
use Rattle.std.proofs.Common.{ℕ, ◌+◌, ◌≤◌, ◌≡◌, ◌≢◌, ◌==◌, ◌⊎◌, inl, inr, Bool, true}
use Rattle.std.proofs.Common.{false, List, [], ◌∷◌, slice_index, Option, Some, None, IfSome, IsSomeAnd, All, Contains}
use Rattle.std.proofs.Common.{if◌then◌else◌, get_or, refl, sym, subst, arith, eqb-true}
use Rattle.std.proofs.lemmas.List.Elements.{All-append, All-contains, All-set}
use Rattle.std.specs.Option.{option_map}
use Rattle.tagged_word.specs.Cells.{length_offset}
use Rattle.tagged_word.proofs.Members.{map_from}
use Rattle.core_parts.specs.Lists.{left}
use Rattle.core_parts.proofs.Leaving.{left_from}
use Rattle.mark_laws.specs.Types.{Event, Snap, SnapSlot, Spot, HelperView, World}
use Rattle.mark_world.specs.declared.event.Event.TheVariants as event
use Rattle.mark_world.specs.Naming.{IsToRead, Named, named, read_offsets, read_words}
use Rattle.mark_world.specs.Steps.{becomes, grey, helper_learns, helper_spot, snap_settled, snap_targets, white}
use Rattle.mark_world.specs.Steps.{with_layout, with_length, with_slot}
use Rattle.mark_world.specs.Conditions.{MayHelper}
use Rattle.mark_world.specs.AfterEvents.{after_helper, IsMarked, with_word, word_at}
use Rattle.mark_world.specs.Coverage.{colour_of}
use Rattle.mark_world.specs.Soundness.{AreIn, HasCells, HasLists, HasSnaps, HasViewLists, IsTrueSnap}
use Rattle.mark_world.specs.BornCells.{Born, HasBorn}
use Rattle.mark_laws.proofs.BornSlots.{Grows, SnapBorn, ViewBorn, view_born, views_born}
use Rattle.mark_laws.proofs.Helped.{helped, helper_helped, views_after}
use Rattle.mark_laws.proofs.Joins.{all_from, of_slot, of_target, some_and, targets_from}
use Rattle.mark_laws.proofs.Listing.{load_coloured, put_colour, some_weaker, loads_heap, loads_layout}
use Rattle.mark_laws.proofs.Names.{named_in_cell}
use Rattle.mark_laws.proofs.Slots.{WereGrey, free_cell, grey_before, grey_free, some_at}
use Rattle.mark_laws.proofs.TrueSnaps.{GreyTrue, ViewTrue}

-- what was read of a snap is born where a layout word is read
layout_read : (later : World) (found : ℕ) (snap : Option Snap) → IfSome snap (SnapBorn later)
    → IfSome (option_map (with_layout found) snap) (SnapBorn later)
layout_read later found None born = born
layout_read later found (Some snap) born = born

-- and where a length is read
length_read : (later : World) (found : ℕ) (snap : Option Snap) → IfSome snap (SnapBorn later)
    → IfSome (option_map (with_length found) snap) (SnapBorn later)
length_read later found None born = born
length_read later found (Some snap) born = born

-- and where a slot is read of which the target is born
slot_read : (later : World) (offset found : ℕ) (snap : Option Snap) → IfSome snap (SnapBorn later)
    → IfSome snap (λ s. colour_of later s.cell ≡ grey → HasBorn later found)
    → IfSome (option_map (with_slot offset found) snap) (SnapBorn later)
slot_read later offset found None born new = born
slot_read later offset found (Some snap) born new = λ is_grey.
    All-append (λ (slot : SnapSlot). HasBorn later slot.word) snap.slots (record { offset = offset; word = found } ∷ [])
    (born is_grey) (λ k d l. let first : k ≡ 0 = omega (arith, l) in
    subst (λ (i : ℕ). HasBorn later (get_or (record { offset = offset; word = found } ∷ []) i d).word) (sym first)
    (new is_grey))

-- a slot that is to be read is a named one
pub to_read : (names : Named) (read : List ℕ) (offset : ℕ) → IsToRead names read offset
    → (offsets : List ℕ) × (names ≡ Named.slots offsets) × Contains offsets offset × (Contains read offset → ⊥)
to_read Named.unread read offset may = absurd may
to_read Named.no_cell read offset may = absurd may
to_read (Named.slots offsets) read offset may = (offsets, refl, may.0, may.1)

-- the target of a slot that is to be read of a grey cell is born
pub read_born : (world : World) (snap : Snap) (offset : ℕ) → HasCells world → Born world → IsMarked world snap.cell
    → colour_of world snap.cell ≡ grey
    → IsTrueSnap world snap → IsToRead (named snap) (read_offsets snap) offset
    → HasBorn world (slice_index world.words (snap.cell + offset))
read_born world snap offset cells born reached is_grey is_true may =
    let free = grey_free world cells snap.cell reached.start is_grey in
    let read = free_cell world cells snap.cell free in
    let names = to_read (named snap) (read_offsets snap) offset may in
    of_slot world snap.cell offset read.0 (λ o. HasBorn world) read.1
    (named_in_cell world snap read.0 names.0 is_true read.1 names.1 offset names.2)
    (born.slots snap.cell free (born.reached snap.cell reached))

-- the word that a helper reads in a slot has a born target, if the cell is grey
loaded_born : (world later : World) (view : HelperView) (offset : ℕ) → HasCells world → Born world
    → HasViewLists world view → ViewTrue world view
    → Grows world later → WereGrey world later
    → IsSomeAnd view.snap (λ snap. IsToRead (named snap) (read_offsets snap) offset)
    → IfSome view.snap (λ s. colour_of later s.cell ≡ grey
    → HasBorn later (word_at world (option_map (λ (t : Snap). Spot.Heap (t.cell + offset)) view.snap)))
loaded_born world later view offset cells born has is_true grows were may =
    let s = some_and (λ (snap : Snap). IsToRead (named snap) (read_offsets snap) offset) view.snap may in
    let reached = some_at (λ (t : Snap). IsMarked world t.cell) view.snap s.0 s.1 has.snap in
    subst (λ (o : Option Snap). IfSome o (λ (t : Snap). colour_of later t.cell ≡ grey
    → HasBorn later (word_at world (option_map (λ (u : Snap). Spot.Heap (u.cell + offset)) o)))) (sym s.1)
    (λ is_grey. let was = were s.0.cell reached is_grey in
    grows (slice_index world.words (s.0.cell + offset)) (read_born world s.0 offset cells born reached was
    (some_at (GreyTrue world) view.snap s.0 s.1 is_true was) s.2))

-- a snap that has ended leaves none
settled_born : (later : World) (old found : ℕ) (view : HelperView) (snap : Option Snap) → ViewBorn later view
    → ViewBorn later (snap_settled old view found snap)
settled_born later old found view None born = born
settled_born later old found view (Some snap) born = tt

-- what was read in the snap of a helper is born after a step of its own
own_born : (world later : World) (view : HelperView) (of : Event) → HasCells world → Born world
    → HasViewLists world view
    → ViewTrue world view
    → Grows world later → WereGrey world later → MayHelper view of → ViewBorn later view
    → ViewBorn later (helper_learns world.old view of (word_at world (helper_spot view of)))
own_born world later view (event.LoadHeader n cell) cells born has is_true grows were may read =
    λ is_grey k d l. absurd (omega (arith, l))
own_born world later view (event.LoadLayout n) cells born has is_true grows were may read =
    layout_read later (word_at world (helper_spot view (event.LoadLayout n))) view.snap read
own_born world later view (event.LoadLength n) cells born has is_true grows were may read =
    length_read later (word_at world (helper_spot view (event.LoadLength n))) view.snap read
own_born world later view (event.LoadSlot n offset) cells born has is_true grows were may read =
    slot_read later offset (word_at world (helper_spot view (event.LoadSlot n offset))) view.snap read
    (loaded_born world later view offset cells born has is_true grows were may)
own_born world later view (event.Settle n) cells born has is_true grows were may read =
    settled_born later world.old (word_at world (helper_spot view (event.Settle n))) view view.snap read
own_born world later view _ cells born has is_true grows were may read = read

-- the targets of a snap are born, if those of what was read are
targets_born : (world : World) (snap : Snap) → All (λ slot. HasBorn world slot.word) snap.slots
    → AreIn world.main.born (snap_targets world.old snap)
targets_born world snap born =
    all_from (Contains world.main.born) (snap_targets world.old snap)
    (λ to c. elim (targets_from world.old [] (read_words snap) to c) [
      | inl none ↦ absurd (omega (arith, none.1))
      | inr new ↦
          let slot = map_from (λ (s : SnapSlot). s.word) snap.slots new.0 new.1 in
          of_target world.old new.0 to (Contains world.main.born) new.2 (subst (HasBorn world) slot.2
          (All-contains (λ (s : SnapSlot). HasBorn world s.word) snap.slots slot.0 born slot.1))
    ])

-- what is to be visited once a snap has ended is born, by the test that its cell was grey
visits_if : (world : World) (snap : Snap) (visit : List ℕ) (was_grey : Bool) → AreIn world.main.born visit
    → (was_grey ≡ true → All (λ slot. HasBorn world slot.word) snap.slots)
    → AreIn world.main.born (if was_grey then snap_targets world.old snap else visit)
visits_if world snap visit true among born = targets_born world snap (born refl)
visits_if world snap visit false among born = among

-- what a helper is to visit once its snap has ended is born
settled_visits : (world : World) (view : HelperView) (found : ℕ) (snap : Option Snap) → AreIn world.main.born view.visit
    → IfSome snap (λ s. found ≡ grey → All (λ slot. HasBorn world slot.word) s.slots)
    → AreIn world.main.born (snap_settled world.old view found snap).visit
settled_visits world view found None among born = among
settled_visits world view found (Some snap) among born =
    visits_if world snap view.visit (found == grey) among (λ e. born (eqb-true _ _ e))

-- what was read in a snap is born where the word found is the colour of its cell
found_born : (world : World) (snap : Option Snap) → IfSome snap (SnapBorn world)
    → IfSome snap (λ s. word_at world (option_map (λ (t : Snap). Spot.Colour t.cell) snap) ≡ grey
    → All (λ slot. HasBorn world slot.word) s.slots)
found_born world None born = tt
found_born world (Some snap) born = born

-- what a helper is to visit is born after a step of its own
own_visits : (world : World) (view : HelperView) (of : Event) → AreIn world.main.born view.visit → ViewBorn world view
    → AreIn world.main.born (helper_learns world.old view of (word_at world (helper_spot view of))).visit
own_visits world view (event.Settle n) among read =
    settled_visits world view (word_at world (helper_spot view (event.Settle n))) view.snap among
    (found_born world view.snap read)
own_visits world view (event.ShadeHelper n a) among read =
    all_from (Contains world.main.born) (left view.visit a)
    (λ x c. All-contains (Contains world.main.born) view.visit x among (left_from view.visit a x c))
own_visits world view _ among read = among

-- a cell that is coloured after the end of a snap was so before, or is the snap's
settle_colours : (world : World) (word : ℕ) (snap : Option Snap) → IfSome snap (λ s. Contains world.main.born s.cell)
    → (at : ℕ) → colour_of (with_word world (option_map (λ s. Spot.Colour s.cell) snap) word) at ≢ white
    → (colour_of world at ≢ white) ⊎ Contains world.main.born at
settle_colours world word None born at coloured = inl coloured
settle_colours world word (Some snap) born at coloured = elim (put_colour world.colours snap.cell word at coloured) [
  | inl before ↦ inl before
  | inr same ↦ inr (subst (Contains world.main.born) (sym same) born)
]

-- a cell that is coloured after a step of a helper was so before, or is born
own_colours : (world : World) (number : ℕ) (view : HelperView) (of : Event) → AreIn world.main.born view.visit
    → IfSome view.snap (λ s. Contains world.main.born s.cell) → MayHelper view of → (at : ℕ)
    → colour_of (after_helper world number of (Some view)) at ≢ white
    → (colour_of world at ≢ white) ⊎ Contains world.main.born at
own_colours world number view (event.ShadeHelper n a) among snap may at coloured =
    elim (put_colour world.colours a (becomes (event.ShadeHelper n a) (slice_index world.colours a)) at coloured) [
      | inl before ↦ inl before
      | inr same ↦ inr (subst (Contains world.main.born) (sym same)
          (All-contains (Contains world.main.born) view.visit a among may))
    ]
own_colours world number view (event.Settle n) among snap may at coloured =
    settle_colours world (becomes (event.Settle n) (word_at world (helper_spot view (event.Settle n)))) view.snap
    snap at
    coloured
own_colours world number view (event.LoadLayout n) among snap may at coloured =
    inl (load_coloured world (helper_spot view (event.LoadLayout n)) (loads_layout view.snap) at coloured)
own_colours world number view (event.LoadLength n) among snap may at coloured =
    inl (load_coloured world (helper_spot view (event.LoadLength n)) (loads_heap length_offset view.snap) at coloured)
own_colours world number view (event.LoadSlot n offset) among snap may at coloured =
    inl (load_coloured world (helper_spot view (event.LoadSlot n offset)) (loads_heap offset view.snap) at coloured)
own_colours world number view _ among snap may at coloured = inl coloured

-- where words, layouts and what the mutator knows stay, all stays born
helped_born : (world : World) (colours board : List ℕ) (helpers : List HelperView) → Born world
    → ((at : ℕ) → slice_index colours at ≢ white → (colour_of world at ≢ white) ⊎ Contains world.main.born at)
    → All (ViewBorn (helped world colours board helpers)) helpers
    → All (λ view. AreIn world.main.born view.visit) helpers → Born (helped world colours board helpers)
helped_born world colours board helpers born coloured views visits = record {
  reached = λ at reached. elim (coloured at reached.coloured) [
    | inl before ↦ born.reached at record { start = reached.start; coloured = before }
    | inr is ↦ is
  ];
  slots = born.slots;
  snaps = views;
  visits = visits;
}

-- a step of a helper leaves what it should born
pub helper_born : (world : World) (number : ℕ) (view : HelperView) (of : Event) → HasCells world → HasLists world
    → HasSnaps world → Born world → HasViewLists world view → ViewTrue world view → ViewBorn world view
    → AreIn world.main.born view.visit → MayHelper view of
    → ((at : ℕ) → colour_of world at ≤ colour_of (after_helper world number of (Some view)) at)
    → Born (after_helper world number of (Some view))
helper_born world number view of cells lists snaps born has is_true read visits may rise =
    let step = helper_helped world number view of in
    let views : List HelperView = views_after world number view of in
    let later : World = helped world step.colours step.board views in
    let grows : Grows world later = λ word is. is in
    let rises : (at : ℕ) → colour_of world at ≤ colour_of later at =
    subst (λ (w : World). (at : ℕ) → colour_of world at ≤ colour_of w at) step.is rise in
    let were : WereGrey world later = λ at reached.
    grey_before (colour_of world at) (colour_of later at) reached.coloured (rises at) in
    let own : List ℕ = (helper_learns world.old view of (word_at world (helper_spot view of))).visit in
    let born_cell : IfSome view.snap (λ s. Contains world.main.born s.cell) =
    some_weaker (λ (s : Snap). IsMarked world s.cell) (λ (s : Snap). Contains world.main.born s.cell) view.snap
    (λ s reached. born.reached s.cell reached) has.snap in
    let coloured : (at : ℕ) → colour_of later at ≢ white → (colour_of world at ≢ white)
    ⊎ Contains world.main.born at =
    subst (λ (w : World). (at : ℕ) → colour_of w at ≢ white
    → (colour_of world at ≢ white) ⊎ Contains world.main.born at)
    step.is (own_colours world number view of visits born_cell may) in
    subst Born (sym step.is) (helped_born world step.colours step.board views born coloured
    (All-set (ViewBorn later) world.helpers number
    (helper_learns world.old view of (word_at world (helper_spot view of)))
    (own_born world later view of cells born has is_true grows were may
    (view_born world later view grows were has read))
    (views_born world later grows were lists born.snaps))
    (All-set (λ (v : HelperView). AreIn world.main.born v.visit) world.helpers number
    (helper_learns world.old view of (word_at world (helper_spot view of))) (own_visits world view of visits read)
    born.visits))
