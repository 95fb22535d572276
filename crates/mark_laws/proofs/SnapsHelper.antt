-- Snaps of grey cells stay true through the steps of helpers.
use Rattle.std.proofs.Common.{ℕ, ◌+◌, ◌<◌, ◌≤◌, ◌≡◌, IsTrue, List, Option, Some, None, IfSome, IsSomeAnd}
use Rattle.std.proofs.Common.{nat_lt, get_or, refl, sym, ap, subst, arith, length, slice_index, ◌∙◌}
use Rattle.std.proofs.lemmas.Bool.Decides.{nat_tests}
use Rattle.std.proofs.lemmas.List.Elements.{All-set}
use Rattle.std.specs.Option.{option_and_then, option_map}
use Rattle.mark_laws.specs.Types.{Header, Event, Snap, Spot, HelperView, World}
use Rattle.tagged_word.specs.Cells.{length_offset}
use Rattle.tagged_word.specs.Readings.{header_in}
use Rattle.tagged_word.specs.Shapes.{shapes_most}
use Rattle.tagged_word.proofs.Cells.{some_same}
use Rattle.mark_world.specs.declared.event.Event.TheVariants as event
use Rattle.mark_world.specs.Naming.{IsToRead, is_shape, named, read_offsets}
use Rattle.mark_world.specs.Steps.{helper_learns, helper_spot, layout_spot, snap_settled, with_layout, with_length}
use Rattle.mark_world.specs.Steps.{with_slot}
use Rattle.mark_world.specs.Conditions.{AwaitsLayout, AwaitsLength, MayHelper}
use Rattle.mark_world.specs.AfterEvents.{after_helper, IsMarked, word_at}
use Rattle.mark_world.specs.Coverage.{colour_of}
use Rattle.mark_world.specs.Soundness.{HasCells, HasLists, HasSizes, HasSnaps, HasViewLists}
use Rattle.mark_laws.proofs.Helped.{helped, helper_helped, views_after}
use Rattle.mark_laws.proofs.Slots.{WereGrey, free_cell, grey_before, grey_free, some_at, some_from}
use Rattle.mark_laws.proofs.TrueLoads.{begun_true, layout_read_true, length_read_true, slot_read_true}
use Rattle.mark_laws.proofs.TrueSnaps.{Covers, GreyTrue, ViewTrue, kept_true}
use Rattle.mark_laws.proofs.Joins.{some_and}

-- the snap of a view stays true where only colours, the board and views change
view_kept : (world : World) (colours board : List ℕ) (helpers : List HelperView) (view : HelperView)
    → Covers world (helped world colours board helpers) → WereGrey world (helped world colours board helpers)
    → HasViewLists world view → ViewTrue world view → ViewTrue (helped world colours board helpers) view
view_kept world colours board helpers view covers were has is_true =
    let later : World = helped world colours board helpers in
    some_from (GreyTrue later) view.snap (λ snap e is_grey.
    let reached = some_at (λ (s : Snap). IsMarked world s.cell) view.snap snap e has.snap in
    kept_true world colours board world.main helpers snap covers
    (some_at (GreyTrue world) view.snap snap e is_true (were snap.cell reached is_grey)))

-- a header has a shape that there may be, where a layout is to be read
awaits_known : (world : World) (snap : Snap) → AwaitsLayout snap → (header : Header)
    → header_in snap.header ≡ Some header
    → (header.shape < shapes_most)
    × (word_at world (layout_spot snap) ≡ word_at world (Some (Spot.Layout header.shape)))
awaits_known world snap awaits header e =
    let is = some_and (λ (h : Header). IsTrue (is_shape h)) (header_in snap.header) awaits.shape in
    let known : IsTrue (nat_lt header.shape shapes_most) =
    subst (λ (h : Header). IsTrue (is_shape h)) (some_same is.1 e) is.2 in
    (grind (arith, nat_tests), ap (λ o. word_at world (option_map (λ h. Spot.Layout h.shape) o)) e)

-- a snap stays true where its layout word is read
reads_layout : (world later : World) (view : HelperView) → later.words ≡ world.words → later.layouts ≡ world.layouts
    → HasSizes world → ViewTrue later view → IsSomeAnd view.snap AwaitsLayout
    → IfSome (option_map (with_layout (word_at world (option_and_then layout_spot view.snap))) view.snap)
    (GreyTrue later)
reads_layout world later view words layouts sizes kept may =
    let s = some_and AwaitsLayout view.snap may in
    subst (λ (o : Option Snap).
    IfSome (option_map (with_layout (word_at world (option_and_then layout_spot o))) o) (GreyTrue later)) (sym s.1)
    (λ is_grey. layout_read_true later s.0 (word_at world (layout_spot s.0)) (ap length layouts ∙ sizes.layouts)
    (some_at (GreyTrue later) view.snap s.0 s.1 kept is_grey)
    (λ header e. let known = awaits_known world s.0 s.2 header e in
    (known.0, known.1 ∙ ap (λ (ls : List ℕ). slice_index ls header.shape) (sym layouts))))

-- and where its length is read
reads_length : (world : World) (colours board : List ℕ) (helpers : List HelperView) (view : HelperView) → HasCells world
    → WereGrey world (helped world colours board helpers) → HasViewLists world view
    → ViewTrue (helped world colours board helpers) view → IsSomeAnd view.snap AwaitsLength
    → IfSome
    (option_map (with_length (word_at world (option_map (λ (t : Snap). Spot.Heap (t.cell + length_offset)) view.snap)))
    view.snap)
    (GreyTrue (helped world colours board helpers))
reads_length world colours board helpers view cells were has kept may =
    let later : World = helped world colours board helpers in
    let s = some_and AwaitsLength view.snap may in
    subst (λ (o : Option Snap).
    IfSome (option_map (with_length (word_at world (option_map (λ (t : Snap). Spot.Heap (t.cell + length_offset)) o)))
    o)
    (GreyTrue later)) (sym s.1)
    (λ is_grey.
    let reached = some_at (λ (t : Snap). IsMarked world t.cell) view.snap s.0 s.1 has.snap in
    let read = free_cell world cells s.0.cell (grey_free world cells s.0.cell reached.start
    (were s.0.cell reached is_grey)) in
    length_read_true later s.0 read.0 read.1 (some_at (GreyTrue later) view.snap s.0 s.1 kept is_grey))

-- and where a slot is read
reads_slot : (world : World) (colours board : List ℕ) (helpers : List HelperView) (view : HelperView) (offset : ℕ)
    → ViewTrue (helped world colours board helpers) view
    → IsSomeAnd view.snap (λ snap. IsToRead (named snap) (read_offsets snap) offset)
    → IfSome
    (option_map (with_slot offset (word_at world (option_map (λ (t : Snap). Spot.Heap (t.cell + offset)) view.snap)))
    view.snap)
    (GreyTrue (helped world colours board helpers))
reads_slot world colours board helpers view offset kept may =
    let later : World = helped world colours board helpers in
    let s = some_and (λ (snap : Snap). IsToRead (named snap) (read_offsets snap) offset) view.snap may in
    subst (λ (o : Option Snap).
    IfSome (option_map (with_slot offset (word_at world (option_map (λ (t : Snap). Spot.Heap (t.cell + offset)) o))) o)
    (GreyTrue later)) (sym s.1)
    (λ is_grey. slot_read_true later s.0 offset (some_at (GreyTrue later) view.snap s.0 s.1 kept is_grey))

-- a snap that has ended leaves none
settled_true : (later : World) (old found : ℕ) (view : HelperView) (snap : Option Snap) → ViewTrue later view
    → ViewTrue later (snap_settled old view found snap)
settled_true later old found view None kept = kept
settled_true later old found view (Some snap) kept = tt

-- the snap of a helper is true after a step of its own
own_true : (world : World) (colours board : List ℕ) (helpers : List HelperView) (view : HelperView) (of : Event)
    → HasSizes world → HasCells world → WereGrey world (helped world colours board helpers)
    → HasViewLists world view → MayHelper view of → ViewTrue (helped world colours board helpers) view
    → ViewTrue (helped world colours board helpers)
    (helper_learns world.old view of (word_at world (helper_spot view of)))
own_true world colours board helpers view (event.LoadHeader n cell) sizes cells were has may kept = λ is_grey.
    begun_true (helped world colours board helpers) cell
own_true world colours board helpers view (event.LoadLayout n) sizes cells were has may kept =
    reads_layout world (helped world colours board helpers) view refl refl sizes kept may
own_true world colours board helpers view (event.LoadLength n) sizes cells were has may kept =
    reads_length world colours board helpers view cells were has kept may
own_true world colours board helpers view (event.LoadSlot n offset) sizes cells were has may kept =
    reads_slot world colours board helpers view offset kept may
own_true world colours board helpers view (event.Settle n) sizes cells were has may kept =
    settled_true (helped world colours board helpers) world.old (word_at world (helper_spot view (event.Settle n))) view
    view.snap
    kept
own_true world colours board helpers view _ sizes cells were has may kept = kept

-- each snap of a grey cell stays true through a step of a helper
pub helper_snaps : (world : World) (number : ℕ) (view : HelperView) (of : Event) → HasSizes world → HasCells world
    → HasLists world → HasSnaps world → HasViewLists world view → ViewTrue world view → MayHelper view of
    → ((at : ℕ) → colour_of world at ≤ colour_of (after_helper world number of (Some view)) at)
    → Covers world (after_helper world number of (Some view)) → HasSnaps (after_helper world number of (Some view))
helper_snaps world number view of sizes cells lists snaps has is_true may rise covering =
    let step = helper_helped world number view of in
    let views : List HelperView = views_after world number view of in
    let later : World = helped world step.colours step.board views in
    let rises : (at : ℕ) → colour_of world at ≤ colour_of later at =
    subst (λ (w : World). (at : ℕ) → colour_of world at ≤ colour_of w at) step.is rise in
    let covers : Covers world later = subst (Covers world) step.is covering in
    let were : WereGrey world later = λ at reached.
    grey_before (colour_of world at) (colour_of later at) reached.coloured (rises at) in
    let kept : (v : HelperView) → HasViewLists world v → ViewTrue world v → ViewTrue later v = λ v.
    view_kept world step.colours step.board views v covers were in
    subst HasSnaps (sym step.is) (All-set (ViewTrue later) world.helpers number
    (helper_learns world.old view of (word_at world (helper_spot view of)))
    (own_true world step.colours step.board views view of sizes cells were has may (kept view has is_true))
    (λ k d l. kept (get_or world.helpers k d) (lists.helpers k d l) (snaps k d l)))
