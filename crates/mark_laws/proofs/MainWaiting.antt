-- Each grey published cell waits, and goes on waiting through the steps of the mutator until it is black.
use Rattle.std.proofs.Common.{ℕ, ◌≤◌, ◌≡◌, ◌==◌, ◌∙◌, inl, inr, length, slice_index, Contains, sym, ap}
use Rattle.std.proofs.Common.{subst, arith}
use Rattle.std.proofs.lemmas.Bool.{cases_lt}
use Rattle.std.proofs.lemmas.List.Elements.{All-contains}
use Rattle.tagged_word.specs.Readings.{reference_in}
use Rattle.page_space.specs.Extents.{board_words}
use Rattle.core_parts.proofs.Leaving.{left_keeps}
use Rattle.mark_laws.specs.Types.{Event, Actor, World}
use Rattle.mark_world.specs.declared.event.Event.TheVariants as event
use Rattle.mark_world.specs.Steps.{becomes, grey, joined_if_white, white}
use Rattle.mark_world.specs.Conditions.{MayMain}
use Rattle.mark_world.specs.AfterEvents.{after_main, IsMarked}
use Rattle.mark_world.specs.Coverage.{colour_of}
use Rattle.mark_world.specs.Soundness.{HasCells, HasGrey, HasLists, HasSizes, Waits}
use Rattle.mark_laws.proofs.Colours.{step_rises}
use Rattle.mark_laws.proofs.Starts.{start_old}
use Rattle.mark_laws.proofs.Joins.{joined_by_keeps}
use Rattle.mark_laws.proofs.Sizing.{reached_fits}
use Rattle.mark_laws.proofs.Waiting.{one_or_other, white_keeps, white_there, give_waits, give_keeps, take_waits}
use Rattle.mark_laws.proofs.Waiting.{black_not_grey, grey_not_white, grey_waits}

-- a cell that waits goes on waiting through a step of the mutator that leaves it grey
main_waits : (world : World) (of : Event) → HasSizes world → HasCells world → HasLists world
    → MayMain world.old world.words world.layouts world.main of → (at : ℕ) → colour_of (after_main world of) at ≡ grey
    → Waits world at → Waits (after_main world of) at
main_waits world (event.ShadeMain a) sizes cells lists may at is_grey (inl main) =
    inl (white_keeps world.main.grey a at (slice_index world.colours a == white) main)
main_waits world (event.ShadeMain a) sizes cells lists may at is_grey (inr rest) = inr rest
main_waits world (event.Blacken a) sizes cells lists may at is_grey (inl main) = elim (one_or_other at a) [
  | inl same ↦ absurd (black_not_grey world.colours a at same
      (start_old world sizes cells a (All-contains (Contains world.main.starts) world.main.born a cells.born may))
      is_grey)
  | inr other ↦ inl (left_keeps world.main.grey a at other main)
]
main_waits world (event.Blacken a) sizes cells lists may at is_grey (inr rest) = inr rest
main_waits world (event.GiveMain place a) sizes cells lists may at is_grey (inl main) =
    elim (give_waits world.main.grey world.board place a at
    (let many : length world.board ≡ board_words = sizes.board.count in
    omega (arith, many, may.on_board))
    (reached_fits world sizes a (All-contains (IsMarked world) world.main.grey a lists.main may.had)) main) [
      | inl still ↦ inl still
      | inr given ↦ inr (inr given)
    ]
main_waits world (event.GiveMain place a) sizes cells lists may at is_grey (inr (inl helper)) = inr (inl helper)
main_waits world (event.GiveMain place a) sizes cells lists may at is_grey (inr (inr on)) =
    inr (inr (give_keeps world.board place a at (let many : length world.board ≡ board_words = sizes.board.count in
    omega (arith, many, may.on_board)) on))
main_waits world (event.TakeMain place) sizes cells lists may at is_grey (inl main) =
    inl (joined_by_keeps world.main.grey (reference_in (slice_index world.board place)) at main)
main_waits world (event.TakeMain place) sizes cells lists may at is_grey (inr (inl helper)) = inr (inl helper)
main_waits world (event.TakeMain place) sizes cells lists may at is_grey (inr (inr on)) =
    elim (take_waits world.main.grey world.board place at on) [ inl still ↦ inr (inr still) | inr taken ↦ inl taken ]
main_waits world _ sizes cells lists may at is_grey waits = waits

-- a cell that turns grey by a step of the mutator waits with it
main_new : (world : World) (of : Event) → HasSizes world → HasCells world
    → MayMain world.old world.words world.layouts world.main of
    → (at : ℕ) → colour_of world at ≡ white → colour_of (after_main world of) at ≡ grey
    → Waits (after_main world of) at
main_new world (event.ShadeMain a) sizes cells may at was is_grey = elim (one_or_other at a) [
  | inl same ↦ inl (subst (λ (x : ℕ). Contains (joined_if_white world.main.grey (slice_index world.colours a) a) x)
      (sym same)
      (white_there world.main.grey a (slice_index world.colours a) (ap (slice_index world.colours) (sym same) ∙ was)))
  | inr other ↦ absurd (grey_not_white world.colours a at (becomes (event.ShadeMain a) (slice_index world.colours a))
      other
      was is_grey)
]
main_new world (event.Blacken a) sizes cells may at was is_grey = elim (one_or_other at a) [
  | inl same ↦ absurd (black_not_grey world.colours a at same
      (start_old world sizes cells a (All-contains (Contains world.main.starts) world.main.born a cells.born may))
      is_grey)
  | inr other ↦ absurd (grey_not_white world.colours a at (becomes (event.Blacken a) (slice_index world.colours a))
      other
      was is_grey)
]
main_new world (event.NewBlack a) sizes cells may at was is_grey = elim (one_or_other at a) [
  | inl same ↦ absurd (black_not_grey world.colours a at same (omega (arith, sizes.colours, may.page)) is_grey)
  | inr other ↦ absurd (grey_not_white world.colours a at (becomes (event.NewBlack a) (slice_index world.colours a))
      other
      was is_grey)
]
main_new world _ sizes cells may at was is_grey = absurd (omega (arith, was, is_grey))

-- a step of the mutator leaves each grey cell waiting
pub main_greys : (world : World) (of : Event) → HasSizes world → HasCells world → HasLists world → HasGrey world
    → MayMain world.old world.words world.layouts world.main of → (at : ℕ) → colour_of (after_main world of) at ≡ grey
    → Waits (after_main world of) at
main_greys world of sizes cells lists greys may at is_grey =
    let rise : colour_of world at ≤ colour_of (after_main world of) at = step_rises world of Actor.Mutator sizes at in
    elim (cases_lt (colour_of world at) 1) [
      | inl below ↦ main_new world of sizes cells may at (omega arith) is_grey
      | inr from ↦
          let was : colour_of world at ≡ grey = omega (arith, rise, is_grey, from) in
          main_waits world of sizes cells lists may at is_grey
          (grey_waits world lists greys at was)
    ]
