-- What waits is published and not white, and stays so through the steps of a helper.
use Rattle.std.proofs.Common.{ℕ, ◌<◌, ◌≡◌, ◌≢◌, ◌==◌, ◌∙◌, inl, inr, true, false, IsTrue, List, []}
use Rattle.std.proofs.Common.{length, slice_index, slice_get, Option, Some, None, IsSome, IfSome, IsSomeAnd, All}
use Rattle.std.proofs.Common.{Contains, refl, sym, ap, subst, arith}
use Rattle.std.specs.Option.{option_map}
use Rattle.std.proofs.lemmas.List.Elements.{All-contains, All-set}
use Rattle.tagged_word.specs.Cells.{length_offset}
use Rattle.tagged_word.specs.Readings.{reference_in}
use Rattle.page_space.specs.Extents.{board_words}
use Rattle.mark_laws.specs.Types.{Note, Event, Actor, Spot, Snap, HelperView, MainView, World}
use Rattle.core_parts.specs.declared.note.Note.TheVariants.{Coloured, Gave, Took}
use Rattle.mark_world.specs.Naming.{IsReadOut, named, read_offsets}
use Rattle.core_parts.specs.Lists.{left}
use Rattle.core_parts.specs.Boards.{given_word, giver_left, taker_joined}
use Rattle.mark_world.specs.declared.event.Event.TheVariants as event
use Rattle.mark_world.specs.Steps.{becomes, helper_learns, helper_spot, joined_if_white, noted, snap_settled}
use Rattle.mark_world.specs.Steps.{with_layout, with_length, with_slot, white}
use Rattle.mark_world.specs.Conditions.{MayHelper}
use Rattle.mark_world.specs.AfterEvents.{after_helper, IsMarked, MayStep, with_word, word_at}
use Rattle.mark_world.specs.Coverage.{colour_of}
use Rattle.mark_world.specs.Soundness.{AreIn, HasCells, HasLists, HasSizes, HasViewLists}
use Rattle.mark_world.specs.BornCells.{Born}
use Rattle.mark_laws.proofs.Starts.{start_old}
use Rattle.mark_laws.proofs.Joins.{of_get, some_and}
use Rattle.mark_laws.proofs.Coverage.{shaded_coloured, with_word_main}
use Rattle.mark_laws.proofs.Sureness.{target_joins}
use Rattle.mark_laws.proofs.Listing.{given_all, white_joins, all_weaker, some_weaker, reached_stays, given_refers}
use Rattle.mark_laws.proofs.Listing.{put_colour, view_lists_stay, loads_heap, loads_layout, load_board, load_coloured}
use Rattle.mark_laws.proofs.Listing.{settle_board, board_stays, with_word_old}

-- a snap of which more was read is of the same cell
more_read : (R : ℕ → Type 0) (f : Snap → Snap) → ((s : Snap) → (f s).cell ≡ s.cell) → (snap : Option Snap)
    → IfSome snap (λ s. R s.cell)
    → IfSome (option_map f snap) (λ s. R s.cell)
more_read R f same None h = tt
more_read R f same (Some snap) h = subst R (sym (same snap)) h

-- and there is one where there was one
was_some : (f : Snap → Snap) (snap : Option Snap) → IsSome (option_map f snap) → IsSome snap
was_some f None e = cc
was_some f (Some snap) e = refl

-- the lists of a helper that reads more of its snap
reads_more : (later : World) (view : HelperView) (f : Snap → Snap) → ((s : Snap) → (f s).cell ≡ s.cell)
    → IsTrue view.out
    → All (IsMarked later) view.grey → IfSome view.snap (λ s. IsMarked later s.cell)
    → (IsSome view.snap → view.visit ≡ [])
    → HasViewLists later (record view { snap = option_map f view.snap })
reads_more later view f same out grey snap one = record {
  grey = grey;
  snap = more_read (IsMarked later) f same view.snap snap;
  one_at_once = λ some. one (was_some f view.snap some);
  in_hand = λ not_out. absurd (let both : true ≡ false = sym out ∙ not_out in cc);
}

-- the lists of a helper whose snap has ended
settled_lists : (later : World) (view : HelperView) (found : ℕ) (snap : Option Snap) → IsTrue view.out → IsSome snap
    → All (IsMarked later) view.grey → HasViewLists later (snap_settled later.old view found snap)
settled_lists later view found None out some grey = cc
settled_lists later view found (Some snap) out some grey = record {
  grey = grey;
  snap = tt;
  one_at_once = λ e. cc;
  in_hand = λ not_out. absurd (let both : true ≡ false = sym out ∙ not_out in cc);
}

-- the lists of a helper whose grey cells change, and maybe what it is to visit loses one
grey_changes : (later : World) (view : HelperView) (list visit : List ℕ) (log : List Note) → IsTrue view.out
    → All (IsMarked later) list
    → IfSome view.snap (λ s. IsMarked later s.cell) → (IsSome view.snap → visit ≡ [])
    → HasViewLists later (record view { grey = list; visit = visit; log = log })
grey_changes later view list visit log out grey snap one = record {
  grey = grey;
  snap = snap;
  one_at_once = one;
  in_hand = λ not_out. absurd (let both : true ≡ false = sym out ∙ not_out in cc);
}

-- there is a snap where something is known of it
some_of : (P : Snap → Type 0) (snap : Option Snap) → IsSomeAnd snap P → IsSome snap
some_of P None h = absurd h
some_of P (Some snap) h = refl

-- the lists of a helper after a step of its own
helper_view_lists : (world : World) (number : ℕ) (view : HelperView) (of : Event) (later : World) → HasSizes world
    → HasLists world
    → MayStep world of view → HasViewLists later view → later.old ≡ world.old
    → ((n a : ℕ) → of ≡ event.ShadeHelper n a → IsMarked later a)
    → ((a : ℕ) → IsMarked world a → IsMarked later a)
    → HasViewLists later (helper_learns world.old view of (word_at world (helper_spot view of)))
helper_view_lists world number view (event.LoadHeader n cell) later sizes lists may has same shades keeps = record {
  grey = given_all (IsMarked later) view.grey cell true has.grey;
  snap = keeps cell may.asks;
  one_at_once = λ some. may.may.visit;
  in_hand = λ not_out. absurd (let both : true ≡ false = sym may.out ∙ not_out in cc);
}
helper_view_lists world number view (event.LoadLayout n) later sizes lists may has same shades keeps =
    reads_more later view (with_layout (word_at world (helper_spot view (event.LoadLayout n)))) (λ s. refl) may.out
    has.grey
    has.snap has.one_at_once
helper_view_lists world number view (event.LoadLength n) later sizes lists may has same shades keeps =
    reads_more later view (with_length (word_at world (helper_spot view (event.LoadLength n)))) (λ s. refl) may.out
    has.grey
    has.snap has.one_at_once
helper_view_lists world number view (event.LoadSlot n offset) later sizes lists may has same shades keeps =
    reads_more later view (with_slot offset (word_at world (helper_spot view (event.LoadSlot n offset)))) (λ s. refl)
    may.out
    has.grey has.snap has.one_at_once
helper_view_lists world number view (event.Settle n) later sizes lists may has same shades keeps =
    subst (λ (old : ℕ). HasViewLists later
    (snap_settled old view (word_at world (helper_spot view (event.Settle n))) view.snap)) same
    (settled_lists later view (word_at world (helper_spot view (event.Settle n))) view.snap may.out
    (some_of (λ snap. IsReadOut (named snap) (read_offsets snap)) view.snap may.may) has.grey)
helper_view_lists world number view (event.ShadeHelper n a) later sizes lists may has same shades keeps =
    grey_changes later view (joined_if_white view.grey (slice_index world.colours a) a) (left view.visit a)
    (noted view.log (Coloured a (slice_index world.colours a))) may.out
    (white_joins (IsMarked later) view.grey a (slice_index world.colours a == white) has.grey (shades n a refl))
    has.snap
    (λ some. ap (λ (v : List ℕ). left v a) (has.one_at_once some))
helper_view_lists world number view (event.Give n place a) later sizes lists may has same shades keeps =
    grey_changes later view (giver_left view.grey (slice_index world.board place) a) view.visit
    (noted view.log (Gave place (slice_index world.board place))) may.out
    (given_all (IsMarked later) view.grey a (slice_index world.board place == 0) has.grey) has.snap has.one_at_once
helper_view_lists world number view (event.Take n place) later sizes lists may has same shades keeps =
    grey_changes later view (taker_joined view.grey (slice_index world.board place)) view.visit
    (noted view.log (Took place (slice_index world.board place))) may.out
    (target_joins (IsMarked later) view.grey (reference_in (slice_index world.board place)) has.grey
    (some_weaker (IsMarked world) (IsMarked later) (reference_in (slice_index world.board place)) keeps
    (lists.board place 0 (let many : length world.board ≡ board_words = sizes.board.count in omega
    (arith, many, may.may))))) has.snap has.one_at_once
helper_view_lists world number view _ later sizes lists may has same shades keeps = has

-- and colours its cell alone, which is reached
settle_coloured : (world : World) (word : ℕ) (snap : Option Snap) → HasLists world
    → IfSome snap (λ s. IsMarked world s.cell)
    → (at : ℕ) → colour_of (with_word world (option_map (λ s. Spot.Colour s.cell) snap) word) at ≢ white
    → Contains world.main.starts at
settle_coloured world word None lists has at coloured = lists.coloured at coloured
settle_coloured world word (Some snap) lists has at coloured =
    elim (put_colour world.colours snap.cell word at coloured) [
      | inl before ↦ lists.coloured at before
      | inr is ↦ subst (Contains world.main.starts) (sym is) has.start
    ]

-- a cell that a helper shaded is reached
shaded_reached : (world : World) (number : ℕ) (view : HelperView) (n a : ℕ) → Contains world.main.starts a
    → a < length world.colours
    → IsMarked (after_helper world number (event.ShadeHelper n a) (Some view)) a
shaded_reached world number view n a start within =
    record { start = start; coloured = shaded_coloured world.colours a within }

-- the words of the board by a step of a helper
helper_board : (world : World) (number : ℕ) (view : HelperView) (of : Event) (R : ℕ → Type 0) → HasSizes world
    → HasLists world
    → MayHelper view of → All (IsMarked world) view.grey → ((a : ℕ) → IsMarked world a → R a)
    → All (λ word. IfSome (reference_in word) R) (after_helper world number of (Some view)).board
helper_board world number view (event.Give n place at) R sizes lists may grey keeps =
    let each = all_weaker (λ (w : ℕ). IfSome (reference_in w) (IsMarked world)) (λ (w : ℕ). IfSome (reference_in w) R)
    world.board
    (λ w. some_weaker (IsMarked world) R (reference_in w) keeps) lists.board in
    All-set (λ (w : ℕ). IfSome (reference_in w) R) world.board place (given_word (slice_index world.board place) at)
    (given_refers R (slice_index world.board place) at
    (each place 0 (let many : length world.board ≡ board_words = sizes.board.count in
    omega (arith, many, may.on_board)))
    (keeps at (All-contains (IsMarked world) view.grey at grey may.had))) each
helper_board world number view (event.Take n place) R sizes lists may grey keeps =
    All-set (λ (w : ℕ). IfSome (reference_in w) R) world.board place 0 tt
    (all_weaker (λ (w : ℕ). IfSome (reference_in w) (IsMarked world)) (λ (w : ℕ). IfSome (reference_in w) R)
    world.board
    (λ w. some_weaker (IsMarked world) R (reference_in w) keeps) lists.board)
helper_board world number view (event.LoadLayout n) R sizes lists may grey keeps =
    subst (All (λ (w : ℕ). IfSome (reference_in w) R)) (sym (load_board world (helper_spot view (event.LoadLayout n))
    (word_at world (helper_spot view (event.LoadLayout n))) (loads_layout view.snap))) (board_stays world R lists keeps)
helper_board world number view (event.LoadLength n) R sizes lists may grey keeps =
    subst (All (λ (w : ℕ). IfSome (reference_in w) R)) (sym (load_board world (helper_spot view (event.LoadLength n))
    (word_at world (helper_spot view (event.LoadLength n))) (loads_heap length_offset view.snap)))
    (board_stays world R lists keeps)
helper_board world number view (event.LoadSlot n offset) R sizes lists may grey keeps =
    subst (All (λ (w : ℕ). IfSome (reference_in w) R))
    (sym (load_board world (helper_spot view (event.LoadSlot n offset))
    (word_at world (helper_spot view (event.LoadSlot n offset))) (loads_heap offset view.snap)))
    (board_stays world R lists keeps)
helper_board world number view (event.Settle n) R sizes lists may grey keeps =
    subst (All (λ (w : ℕ). IfSome (reference_in w) R)) (sym (settle_board world
    (becomes (event.Settle n) (word_at world (helper_spot view (event.Settle n)))) view.snap))
    (board_stays world R lists keeps)
helper_board world number view _ R sizes lists may grey keeps = board_stays world R lists keeps

-- only published cells are coloured, by a step of a helper
helper_coloured : (world : World) (number : ℕ) (view : HelperView) (of : Event) → HasCells world → HasLists world
    → HasViewLists world view
    → AreIn world.main.born view.visit → MayHelper view of → (at : ℕ)
    → colour_of (after_helper world number of (Some view)) at ≢ white
    → Contains world.main.starts at
helper_coloured world number view (event.ShadeHelper n a) cells lists has born may at coloured =
    elim (put_colour world.colours a (becomes (event.ShadeHelper n a) (slice_index world.colours a)) at coloured) [
      | inl before ↦ lists.coloured at before
      | inr is ↦ subst (Contains world.main.starts) (sym is)
          (All-contains (Contains world.main.starts) world.main.born a cells.born
          (All-contains (Contains world.main.born) view.visit a born may))
    ]
helper_coloured world number view (event.Settle n) cells lists has born may at coloured =
    settle_coloured world (becomes (event.Settle n) (word_at world (helper_spot view (event.Settle n)))) view.snap lists
    has.snap at coloured
helper_coloured world number view (event.LoadLayout n) cells lists has born may at coloured =
    lists.coloured at (load_coloured world (helper_spot view (event.LoadLayout n)) (loads_layout view.snap) at coloured)
helper_coloured world number view (event.LoadLength n) cells lists has born may at coloured =
    lists.coloured at
    (load_coloured world (helper_spot view (event.LoadLength n)) (loads_heap length_offset view.snap) at coloured)
helper_coloured world number view (event.LoadSlot n offset) cells lists has born may at coloured =
    lists.coloured at
    (load_coloured world (helper_spot view (event.LoadSlot n offset)) (loads_heap offset view.snap) at coloured)
helper_coloured world number view _ cells lists has born may at coloured = lists.coloured at coloured

-- what a helper shades is reached then
helper_shades : (world : World) (number : ℕ) (view : HelperView) (of : Event) → HasSizes world → HasCells world
    → AreIn world.main.born view.visit → MayHelper view of → (n a : ℕ) → of ≡ event.ShadeHelper n a
    → IsMarked (after_helper world number of (Some view)) a
helper_shades world number view of sizes cells born may n a is =
    let visits : Contains view.visit a = subst (λ (e : Event). MayHelper view e) is may in
    let start = All-contains (Contains world.main.starts) world.main.born a cells.born
    (All-contains (Contains world.main.born) view.visit a born visits) in
    subst (λ (e : Event). IsMarked (after_helper world number e (Some view)) a) (sym is)
    (shaded_reached world number view n a start (start_old world sizes cells a start))

-- a step of a helper leaves the lists right
helper_lists : (world : World) (number : ℕ) (view : HelperView) (of : Event) → HasSizes world → HasCells world
    → HasLists world
    → HasViewLists world view → AreIn world.main.born view.visit → MayStep world of view
    → ((a : ℕ) → IsMarked world a → IsMarked (after_helper world number of (Some view)) a)
    → HasLists (after_helper world number of (Some view))
helper_lists world number view of sizes cells lists has born may keeps =
    let later : World = after_helper world number of (Some view) in
    let spot : Option Spot = helper_spot view of in
    let same = with_word_main world spot (becomes of (word_at world spot)) in
    record {
      main = subst (λ (main : MainView). All (IsMarked later) main.grey) (sym same)
          (all_weaker (IsMarked world) (IsMarked later) world.main.grey keeps lists.main);
      helpers = All-set (HasViewLists later) world.helpers number (helper_learns world.old view of (word_at world spot))
          (helper_view_lists world number view of later sizes lists may (view_lists_stay world later view keeps has)
          (with_word_old world spot (becomes of (word_at world spot)))
          (helper_shades world number view of sizes cells born may.may) keeps)
          (all_weaker (HasViewLists world) (HasViewLists later) world.helpers (λ v. view_lists_stay world later v keeps)
          lists.helpers);
      board = helper_board world number view of (IsMarked later) sizes lists may.may has.grey keeps;
      coloured = λ at coloured. subst (λ (main : MainView). Contains main.starts at) (sym same)
          (helper_coloured world number view of cells lists has born may.may at coloured);
    }

-- a step of a helper that may make it
pub step_of_helper : (world : World) (number : ℕ) (of : Event) → HasSizes world → HasCells world → HasLists world
    → Born world
    → IsSomeAnd (slice_get world.helpers number) (MayStep world of)
    → HasLists (after_helper world number of (slice_get world.helpers number))
step_of_helper world number of sizes cells lists born may =
    let v = some_and (MayStep world of) (slice_get world.helpers number) may in
    let view : HelperView = v.0 in
    let keeps = reached_stays world of (Actor.Helper number) sizes in
    subst (λ (o : Option HelperView). HasLists (after_helper world number of o)) (sym v.1)
    (helper_lists world number view of sizes cells lists
    (of_get (HasViewLists world) world.helpers number view v.1 lists.helpers)
    (of_get (λ (w : HelperView). AreIn world.main.born w.visit) world.helpers number view v.1 born.visits) v.2
    (subst (λ (o : Option HelperView). (a : ℕ) → IsMarked world a → IsMarked (after_helper world number of o) a) v.1
    keeps))
