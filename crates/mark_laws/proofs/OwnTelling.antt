-- What a helper's view tells of a sound world.
use Rattle.std.proofs.Common.{ℕ, ◌<◌, ◌≡◌, ◌≢◌, ◌∙◌, ◌⊎◌, inl, inr, IsTrue, List, All}
use Rattle.std.proofs.Common.{Option, Some, None, IfSome, IsSomeAnd, IsSome, get_or, slice_get}
use Rattle.std.proofs.Common.{sym, subst, arith}
use Rattle.std.proofs.lemmas.List.Elements.{All-contains}
use Rattle.tagged_word.specs.Cells.{tagged_offsets}
use Rattle.tagged_word.specs.Readings.{reference_in}
use Rattle.mark_laws.specs.Types.{Event, Snap, Actor, HelperView, World}
use Rattle.mark_world.specs.declared.event.Event.TheVariants as event
use Rattle.mark_world.specs.Naming.{Named, named}
use Rattle.mark_world.specs.Steps.{actor, black, grey}
use Rattle.mark_world.specs.Conditions.{MayHelper}
use Rattle.mark_world.specs.AfterEvents.{AsksWorld, IsMarked, MayStep, Possible, PossibleStep}
use Rattle.mark_world.specs.Coverage.{colour_of}
use Rattle.mark_world.specs.Soundness.{HasViewLists, IsTrueSnap, Sound}
use Rattle.mark_laws.specs.OwnViews.{AsksOwnView, HasSnap}
use Rattle.mark_laws.proofs.Drained.{last_colour}
use Rattle.mark_laws.proofs.Colours.{each_colour}
use Rattle.mark_laws.proofs.Joins.{of_get}
use Rattle.mark_laws.proofs.Named.{laid_out}
use Rattle.mark_laws.proofs.Names.{was_header}
use Rattle.mark_laws.proofs.Slots.{and_some, free_cell, grey_free, some_at}
use Rattle.mark_laws.proofs.Starts.{start_old}

-- the cell of a helper's snap is reached
pub snap_reached : (world : World) (view : HelperView) (snap : Snap) → Sound world → HasSnap world view snap
    → IsMarked world snap.cell
snap_reached world view snap sound has =
    some_at (λ (s : Snap). IsMarked world s.cell) view.snap snap has.has
    (All-contains (HasViewLists world) world.helpers view sound.lists.helpers has.there).snap

-- the snap of a grey cell is true
pub grey_true : (world : World) (view : HelperView) (snap : Snap) → Sound world → HasSnap world view snap
    → colour_of world snap.cell ≡ grey → IsTrueSnap world snap
grey_true world view snap sound has is_grey =
    some_at (λ (s : Snap). colour_of world s.cell ≡ grey → IsTrueSnap world s) view.snap snap has.has
    (All-contains (λ (v : HelperView). IfSome v.snap (λ s. colour_of world s.cell ≡ grey → IsTrueSnap world s))
    world.helpers view sound.snaps has.there) is_grey

-- no name is that of no cell and one of slots, or unread
no_cell_told : (name : Named) (offsets : List ℕ) → name ≡ Named.no_cell → name ≡ Named.slots offsets → ⊥
no_cell_told name offsets none slots = let both : Named.no_cell ≡ Named.slots offsets = sym none ∙ slots in cc

-- what names no cell is not unread
no_cell_read : (name : Named) → name ≡ Named.no_cell → name ≢ Named.unread
no_cell_read name none unread = let both : Named.no_cell ≡ Named.unread = sym none ∙ unread in cc

-- the snap of a grey cell names one
pub grey_names : (world : World) (view : HelperView) (snap : Snap) → Sound world → HasSnap world view snap
    → colour_of world snap.cell ≡ grey → named snap ≢ Named.no_cell
grey_names world view snap sound has is_grey none =
    let reached = snap_reached world view snap sound has in
    let read = free_cell world sound.cells snap.cell (grey_free world sound.cells snap.cell reached.start is_grey) in
    let is_true = grey_true world view snap sound has is_grey in
    let was = was_header world snap read.0 is_true read.1 in
    no_cell_told (named snap) (tagged_offsets was.laid.layout read.0.length) none
    (laid_out world snap read.0 was read.1 is_true (no_cell_read (named snap) none))

-- so a snap that names none is that of a black one
pub nameless_black : (world : World) (view : HelperView) (snap : Snap) → Sound world → HasSnap world view snap
    → named snap ≡ Named.no_cell → colour_of world snap.cell ≡ black
nameless_black world view snap sound has none =
    last_colour (colour_of world snap.cell) (each_colour world sound.sizes snap.cell)
    (snap_reached world view snap sound has).coloured
    (λ is_grey. grey_names world view snap sound has is_grey none)

-- a step of a helper asks of the world what its view has
asks_on : (world : World) (view : HelperView) (of : Event) → HasViewLists world view → AsksOwnView view of
    → AsksWorld world of
asks_on world view (event.LoadHeader n cell) lists asks =
    All-contains (IsMarked world) view.grey cell lists.grey asks
asks_on world view _ lists asks = tt

-- a step that the view of a seat allows is possible
pub allowed_possible : (world : World) (number : ℕ) (view : HelperView) (of : Event) → Sound world
    → slice_get world.helpers number ≡ Some view → IsTrue view.out → actor of ≡ Actor.Helper number
    → MayHelper view of → AsksOwnView view of → Possible world of
allowed_possible world number view of sound there out by may asks =
    subst (PossibleStep world of) (sym by)
    (and_some (MayStep world of) (slice_get world.helpers number) view there record {
      out = out;
      may = may;
      asks = asks_on world view of (of_get (HasViewLists world) world.helpers number view there sound.lists.helpers)
          asks;
    })

-- what is reached is old
pub reached_old : (world : World) (at : ℕ) → Sound world → IsMarked world at → at < world.old
reached_old world at sound reached =
    let within = start_old world sound.sizes sound.cells at reached.start in
    omega (arith, within, sound.sizes.colours)

-- a reference that is reached refers to an old cell
old_of : (world : World) (o : Option ℕ) → Sound world → IsSome o → IfSome o (IsMarked world)
    → IsSomeAnd o (λ at. at < world.old)
old_of world None sound is reached = cc
old_of world (Some at) sound is reached = reached_old world at sound reached

-- a word of the board refers to an old cell
refers_old : (world : World) (word : ℕ) → Sound world → (word ≡ 0) ⊎ IsSome (reference_in word)
    → IfSome (reference_in word) (IsMarked world)
    → (word ≡ 0) ⊎ IsSomeAnd (reference_in word) (λ at. at < world.old)
refers_old world word sound (inl none) reached = inl none
refers_old world word sound (inr refers) reached = inr (old_of world (reference_in word) sound refers reached)

-- each word of the board does
pub board_old : (world : World) → Sound world
    → All (λ word. (word ≡ 0) ⊎ IsSomeAnd (reference_in word) (λ at. at < world.old)) world.board
board_old world sound =
    λ k d l. refers_old world (get_or world.board k d) sound (sound.sizes.board.each k d l) (sound.lists.board k d l)
