-- The steps of a helper touch words that are there, by its own view.
use Rattle.std.proofs.Common.{ℕ, ◌+◌, ◌%◌, ◌<◌, ◌≤◌, ◌≡◌, true, IsTrue}
use Rattle.std.proofs.Common.{Option, Some, IfSome, nat_lt, sym}
use Rattle.std.proofs.Common.{subst, arith}
use Rattle.std.specs.Option.{option_and_then, option_map}
use Rattle.std.proofs.lemmas.Bool.Decides.{nat_tests}
use Rattle.std.proofs.lemmas.List.Elements.{All-contains}
use Rattle.std.proofs.lemmas.Option.{option_and_then_some}
use Rattle.mark_laws.specs.Types.{Header, Event, Snap, Spot, HelperView}
use Rattle.tagged_word.specs.Cells.{length_offset}
use Rattle.tagged_word.specs.Readings.{given, header_in, reference_in}
use Rattle.tagged_word.specs.Shapes.{shapes_most}
use Rattle.tagged_word.proofs.Readings.{given_is}
use Rattle.page_space.specs.Sizes.{page_words}
use Rattle.mark_world.specs.declared.event.Event.TheVariants as event
use Rattle.mark_world.specs.Pages.{page_end, target}
use Rattle.mark_world.specs.Naming.{IsReadOut, IsToRead, is_shape, named, read_offsets}
use Rattle.mark_world.specs.Steps.{helper_spot, layout_spot}
use Rattle.mark_world.specs.Conditions.{AwaitsLayout, AwaitsLength, MayHelper}
use Rattle.mark_laws.specs.OwnAddresses.{HasOldCells, IsThere}
use Rattle.mark_laws.specs.OwnViews.{AsksOwnView, IsNamed}
use Rattle.mark_laws.proofs.BornHelper.{to_read}
use Rattle.mark_laws.proofs.Joins.{some_and}
use Rattle.mark_laws.proofs.NamedPages.{length_page, named_page}
use Rattle.mark_laws.proofs.Slots.{some_at}

-- a target is old
pub target_old : (old word at : ℕ) → target old word ≡ Some at → at < old
target_old old word at e =
    option_and_then_some (λ (a : ℕ). given (nat_lt a old) a) (reference_in word) at e (λ a is f.
    let g = given_is (nat_lt a old) a at f in
    let below : nat_lt a old ≡ true = g.0 in
    let less : a < old = grind (arith, nat_tests) in
    omega (arith, less, g.1))

-- the page of an old word ends among the old words
page_old : (old at : ℕ) → old % page_words ≡ 0 → at < old → page_end at ≤ old
page_old old at whole below = omega arith

-- what a snap is to load is there
pub spot_of_snap : (old : ℕ) (view : HelperView) (snap : Snap) → HasOldCells old view → view.snap ≡ Some snap
    → snap.cell < old
spot_of_snap old view snap has e = some_at (λ (s : Snap). s.cell < old) view.snap snap e has.snap

-- the layout word of a shape that may be is there
shape_there : (old : ℕ) (snap : Snap) → AwaitsLayout snap → IfSome (layout_spot snap) (IsThere old)
shape_there old snap awaits =
    let h = some_and (λ (header : Header). IsTrue (is_shape header)) (header_in snap.header) awaits.shape in
    subst (λ (o : Option Header). IfSome (option_map (λ header. Spot.Layout header.shape) o) (IsThere old)) (sym h.1)
    (let known : nat_lt h.0.shape shapes_most ≡ true = h.2 in
    let below : h.0.shape < shapes_most = grind (arith, nat_tests) in below)

-- each step that a view allows touches a word that is there
pub spots_there : (old : ℕ) (view : HelperView) (of : Event) → old % page_words ≡ 0 → MayHelper view of
    → AsksOwnView view of → HasOldCells old view → IfSome (helper_spot view of) (IsThere old)
spots_there old view (event.LoadHeader n cell) whole may asks has =
    All-contains (λ (at : ℕ). at < old) view.grey cell has.grey asks
spots_there old view (event.LoadLayout n) whole may asks has =
    let s = some_and AwaitsLayout view.snap may in
    subst (λ (o : Option Snap). IfSome (option_and_then layout_spot o) (IsThere old)) (sym s.1)
    (shape_there old s.0 s.2)
spots_there old view (event.LoadLength n) whole may asks has =
    let s = some_and AwaitsLength view.snap may in
    let below = spot_of_snap old view s.0 has s.1 in
    let page = page_old old s.0.cell whole below in
    let inside = length_page s.0 s.2 in
    subst (λ (o : Option Snap). IfSome (option_map (λ snap. Spot.Heap (snap.cell + length_offset)) o) (IsThere old))
    (sym s.1) (let there : s.0.cell + length_offset < old = omega (arith, page, inside) in there)
spots_there old view (event.LoadSlot n offset) whole may asks has =
    let s = some_and (λ (of_snap : Snap). IsToRead (named of_snap) (read_offsets of_snap) offset) view.snap may in
    let below = spot_of_snap old view s.0 has s.1 in
    let page = page_old old s.0.cell whole below in
    let new = to_read (named s.0) (read_offsets s.0) offset s.2 in
    let inside = named_page s.0 offset (subst (λ name. IsNamed name offset) (sym new.1) new.2) in
    subst (λ (o : Option Snap). IfSome (option_map (λ snap. Spot.Heap (snap.cell + offset)) o) (IsThere old))
    (sym s.1) (let there : s.0.cell + offset < old = omega (arith, page, inside) in there)
spots_there old view (event.Settle n) whole may asks has =
    let s = some_and (λ (of_snap : Snap). IsReadOut (named of_snap) (read_offsets of_snap)) view.snap may in
    subst (λ (o : Option Snap). IfSome (option_map (λ snap. Spot.Colour snap.cell) o) (IsThere old)) (sym s.1)
    (spot_of_snap old view s.0 has s.1)
spots_there old view (event.ShadeHelper n at) whole may asks has =
    All-contains (λ (a : ℕ). a < old) view.visit at has.visit may
spots_there old view (event.Give n place at) whole may asks has = may.on_board
spots_there old view (event.Take n place) whole may asks has = may
spots_there old view _ whole may asks has = absurd may
