-- What waits is published and not white, and stays so through the steps of the mutator.
use Rattle.std.proofs.Common.{ℕ, ◌≡◌, ◌≢◌, ◌==◌, inl, inr, true, length, slice_index, IfSome, All, Contains}
use Rattle.std.proofs.Common.{refl, sym, subst, arith}
use Rattle.std.proofs.lemmas.List.Elements.{All-contains, All-set}
use Rattle.tagged_word.specs.Readings.{reference_in}
use Rattle.page_space.specs.Extents.{board_words}
use Rattle.core_parts.specs.Lists.{joined}
use Rattle.core_parts.specs.Boards.{given_word}
use Rattle.core_parts.proofs.Joining.{joined_in, joined_keeps}
use Rattle.mark_laws.specs.Types.{Event, Actor, World}
use Rattle.mark_world.specs.declared.event.Event.TheVariants as event
use Rattle.mark_world.specs.Steps.{becomes, main_spot, white}
use Rattle.mark_world.specs.Conditions.{MayMain}
use Rattle.mark_world.specs.AfterEvents.{after_main, IsMarked, word_at}
use Rattle.mark_world.specs.Coverage.{colour_of}
use Rattle.mark_world.specs.Soundness.{HasCells, HasLists, HasSizes, HasViewLists}
use Rattle.mark_laws.proofs.Starts.{start_old}
use Rattle.mark_laws.proofs.Coverage.{shaded_coloured, with_word_views}
use Rattle.mark_laws.proofs.Sureness.{target_joins}
use Rattle.mark_laws.proofs.Listing.{given_all, white_joins, all_weaker, some_weaker, reached_stays, given_refers}
use Rattle.mark_laws.proofs.Listing.{put_colour, view_lists_stay}

-- The grey cells that wait with the mutator, by a step of its own: what joins was white and is shaded, or was on the
-- board.
main_grey : (world : World) (of : Event) (R : ℕ → Type 0) → HasSizes world → HasCells world → HasLists world
    → MayMain world.old world.words world.layouts world.main of → ((a : ℕ) → IsMarked world a → R a)
    → ((a : ℕ) → of ≡ event.ShadeMain a → R a) → All R (after_main world of).main.grey
main_grey world (event.ShadeMain at) R sizes cells lists may keeps shades =
    white_joins R world.main.grey at (slice_index world.colours at == white)
    (all_weaker (IsMarked world) R world.main.grey keeps lists.main) (shades at refl)
main_grey world (event.Blacken at) R sizes cells lists may keeps shades =
    given_all R world.main.grey at true (all_weaker (IsMarked world) R world.main.grey keeps lists.main)
main_grey world (event.GiveMain place at) R sizes cells lists may keeps shades =
    given_all R world.main.grey at (slice_index world.board place == 0)
    (all_weaker (IsMarked world) R world.main.grey keeps lists.main)
main_grey world (event.TakeMain place) R sizes cells lists may keeps shades =
    target_joins R world.main.grey (reference_in (slice_index world.board place))
    (all_weaker (IsMarked world) R world.main.grey keeps lists.main)
    (some_weaker (IsMarked world) R (reference_in (slice_index world.board place)) keeps
    (lists.board place 0 (let many : length world.board ≡ board_words = sizes.board.count in omega (arith, many, may))))
main_grey world _ R sizes cells lists may keeps shades = all_weaker (IsMarked world) R world.main.grey keeps lists.main

-- The words of the board, by a step of the mutator: what is given waited with it.
main_board : (world : World) (of : Event) (R : ℕ → Type 0) → HasSizes world → HasLists world
    → MayMain world.old world.words world.layouts world.main of → ((a : ℕ) → IsMarked world a → R a)
    → All (λ word. IfSome (reference_in word) R) (after_main world of).board
main_board world (event.GiveMain place at) R sizes lists may keeps =
    let each = all_weaker (λ (w : ℕ). IfSome (reference_in w) (IsMarked world)) (λ (w : ℕ). IfSome (reference_in w) R)
    world.board
    (λ w. some_weaker (IsMarked world) R (reference_in w) keeps) lists.board in
    All-set (λ (w : ℕ). IfSome (reference_in w) R) world.board place (given_word (slice_index world.board place) at)
    (given_refers R (slice_index world.board place) at
    (each place 0 (let many : length world.board ≡ board_words = sizes.board.count in
    omega (arith, many, may.on_board)))
    (keeps at (All-contains (IsMarked world) world.main.grey at lists.main may.had))) each
main_board world (event.TakeMain place) R sizes lists may keeps =
    All-set (λ (w : ℕ). IfSome (reference_in w) R) world.board place 0 tt
    (all_weaker (λ (w : ℕ). IfSome (reference_in w) (IsMarked world)) (λ (w : ℕ). IfSome (reference_in w) R)
    world.board
    (λ w. some_weaker (IsMarked world) R (reference_in w) keeps) lists.board)
main_board world _ R sizes lists may keeps =
    all_weaker (λ (w : ℕ). IfSome (reference_in w) (IsMarked world)) (λ (w : ℕ). IfSome (reference_in w) R) world.board
    (λ w. some_weaker (IsMarked world) R (reference_in w) keeps) lists.board

-- only published cells are coloured, by a step of the mutator
main_coloured : (world : World) (of : Event) → HasCells world → HasLists world
    → MayMain world.old world.words world.layouts world.main of
    → (at : ℕ) → colour_of (after_main world of) at ≢ white → Contains (after_main world of).main.starts at
main_coloured world (event.ShadeMain a) cells lists may at coloured =
    elim (put_colour world.colours a (becomes (event.ShadeMain a) (slice_index world.colours a)) at coloured) [
      | inl before ↦ lists.coloured at before
      | inr is ↦ subst (Contains world.main.starts) (sym is)
          (All-contains (Contains world.main.starts) world.main.born a cells.born may)
    ]
main_coloured world (event.Blacken a) cells lists may at coloured =
    elim (put_colour world.colours a (becomes (event.Blacken a) (slice_index world.colours a)) at coloured) [
      | inl before ↦ lists.coloured at before
      | inr is ↦ subst (Contains world.main.starts) (sym is)
          (All-contains (Contains world.main.starts) world.main.born a cells.born may)
    ]
main_coloured world (event.NewBlack a) cells lists may at coloured =
    elim (put_colour world.colours a (becomes (event.NewBlack a) (slice_index world.colours a)) at coloured) [
      | inl before ↦ joined_keeps world.main.starts a at (lists.coloured at before)
      | inr is ↦ subst (Contains (joined world.main.starts a)) (sym is) (joined_in world.main.starts a)
    ]
main_coloured world _ cells lists may at coloured = lists.coloured at coloured

-- a white cell that is shaded is reached
shade_reached : (world : World) (a : ℕ) → HasSizes world → HasCells world → Contains world.main.born a
    → IsMarked (after_main world (event.ShadeMain a)) a
shade_reached world a sizes cells born =
    let start = All-contains (Contains world.main.starts) world.main.born a cells.born born in
    record { start = start; coloured = shaded_coloured world.colours a (start_old world sizes cells a start) }

-- what the mutator shades is reached then
main_shades : (world : World) (of : Event) → HasSizes world → HasCells world
    → MayMain world.old world.words world.layouts world.main of
    → (a : ℕ) → of ≡ event.ShadeMain a → IsMarked (after_main world of) a
main_shades world of sizes cells may a is =
    let born : Contains world.main.born a =
    subst (λ (e : Event). MayMain world.old world.words world.layouts world.main e)
    is may in
    subst (λ (e : Event). IsMarked (after_main world e) a) (sym is) (shade_reached world a sizes cells born)

-- a step of the mutator leaves the lists right
pub main_lists : (world : World) (of : Event) → HasSizes world → HasCells world → HasLists world
    → MayMain world.old world.words world.layouts world.main of → HasLists (after_main world of)
main_lists world of sizes cells lists may =
    let keeps : (a : ℕ) → IsMarked world a
    → IsMarked (after_main world of) a = reached_stays world of Actor.Mutator sizes in
    record {
      main = main_grey world of (IsMarked (after_main world of)) sizes cells lists may keeps
          (main_shades world of sizes cells may);
      helpers = subst (All (HasViewLists (after_main world of)))
          (sym (with_word_views world (main_spot of) (becomes of (word_at world (main_spot of)))))
          (all_weaker (HasViewLists world) (HasViewLists (after_main world of)) world.helpers
          (λ view. view_lists_stay world (after_main world of) view keeps) lists.helpers);
      board = main_board world of (IsMarked (after_main world of)) sizes lists may keeps;
      coloured = main_coloured world of cells lists may;
    }
