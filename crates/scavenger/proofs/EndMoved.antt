-- The heap at the end of a scavenge is the old one, moved, its young cells are home copies, and it may be collected.
use Rattle.std.proofs.Common.{◌≡◌, ℕ, ◌+◌, ◌<◌, ◌≤◌, ◌^◌, inl, inr, false, List, Contains, Some, slice_get, get_or}
use Rattle.std.proofs.Common.{refl, sym, ◌∙◌, ap, subst, arith}
use Rattle.std.proofs.lemmas.Option.{get_or_from_slice_get}
use Rattle.page_space.specs.Extents.{eden_start}
use Rattle.handle_roots.specs.Roots.{root_at}
use Rattle.heap_model.specs.Types.{Cell, Run}
use Rattle.heap_model.specs.Heaps.{HasCell}
use Rattle.heap_model.specs.Collectable.{IsInHalf, IsCollectable}
use Rattle.heap_model.proofs.CellsApart.{first_of_cell}
use Rattle.heap_moves.specs.Moved.{IsMovedWord, IsFrom, IsMoved}
use Rattle.scav_copy.specs.declared.places.Home.{Home}
use Rattle.scav_copy.specs.Places.{Fixed, IsInCopy}
use Rattle.scav_copy.specs.Renamings.{IsRenamed}
use Rattle.scav_copy.proofs.Spots.{home_itself, home_fits}
use Rattle.scavenger.specs.Starts.{Start}
use Rattle.scavenger.specs.Scavenged.{place_after, begins_free}
use Rattle.scavenger.proofs.FilledSegments.{young_within}
use Rattle.scavenger.proofs.EndRanges.{half_holds}
use Rattle.scavenger.proofs.EndRuns.{run_of_no_cell}
use Rattle.scavenger.proofs.EndWords.{Ending, ended, the_halves, stays_in_half, is_promoted, behind_same}
use Rattle.scavenger.proofs.EndCopies.{renaming, young_of}
use Rattle.scavenger.proofs.EndRows.{CameFrom}
use Rattle.scavenger.proofs.EndHeap.{end_heap, has_rows, has_sizes, came_from}
use Rattle.scavenger.proofs.EndPlaces.{StaysAt, stays_at, stays_in_page, goes_home, home_found}
use Rattle.scavenger.proofs.EndSlots.{cell_fits, word_before, root_refers_well}
use Rattle.scavenger.proofs.EndStands.{word_moved, stands_moved}

module _ {start : Start} {left : ℕ} {fixed : Fixed} {homes : List Home} {rows : List (List Run)} {words now : List ℕ}
    {fill : ℕ} (ending : Ending start left fixed homes rows words now fill) where
  -- no two cells have one home
  one_home : (home other : Home) → Contains homes home → Contains homes other → home.to ≡ other.to
      → home.from ≡ other.from
  one_home home other there there_too same =
      let laid = ending.begun.laid in
      let copying = ending.filled.copying in
      ap (λ (one : Home). one.from)
      ((ended ending).3 home other home.to there there_too (home_itself home laid copying there)
      (subst (IsInCopy fixed other) (sym same) (home_itself other laid copying there_too)))

  -- no home is where a cell of a page stands that was no free run
  home_is_free : {cell : Cell} {body : List ℕ} (home : Home) → HasCell start.heap cell body
      → cell.at < eden_start start.heap.space → begins_free start.rows cell.at ≡ false → Contains homes home
      → home.to ≡ cell.at → ⊥
  home_is_free {cell} home has below none there same =
      let promoted = is_promoted ending home there (omega (arith, below, same)) in
      let first = home_itself home ending.begun.laid ending.filled.copying there in
      run_of_no_cell ending.begun cell.at has (first_of_cell has) none record {
        run = promoted.run;
        is = promoted.is;
        of_run = record {
          from = omega (arith, promoted.from, same);
          below = omega (arith, promoted.ends, first.below, same);
        };
      }

  -- no two cells come to one address
  apart_by : {one other : Cell} {body others : List ℕ} (to : ℕ) → HasCell start.heap one body
      → HasCell start.heap other others → StaysAt start homes one.at to → StaysAt start homes other.at to
      → one.at ≡ other.at
  apart_by to has has_other (StaysAt.in_page below none same) (StaysAt.in_page below_too none_too same_too) =
      same ∙ sym same_too
  apart_by to has has_other (StaysAt.in_page below none same) (StaysAt.at_home young found) =
      absurd (home_is_free found.home has below none found.among (found.to ∙ sym same))
  apart_by to has has_other (StaysAt.at_home young found) (StaysAt.in_page below none same) =
      absurd (home_is_free found.home has_other below none found.among (found.to ∙ sym same))
  apart_by to has has_other (StaysAt.at_home young found) (StaysAt.at_home young_too found_too) =
      sym found.from ∙ one_home found.home found_too.home found.among found_too.among (found.to ∙ sym found_too.to)
      ∙ found_too.from

  -- where a cell came is an address that a reference may have
  now_fits : {cell : Cell} {body : List ℕ} (to : ℕ) → HasCell start.heap cell body → StaysAt start homes cell.at to
      → to < 2 ^ 32
  now_fits to has (StaysAt.in_page below none same) = subst (λ n. n < 2 ^ 32) same (cell_fits ending has)
  now_fits to has (StaysAt.at_home young found) =
      subst (λ n. n < 2 ^ 32) found.to (home_fits found.home ending.begun.laid ending.filled.copying found.among)

  -- each cell at the end stood in the old heap, or is free
  back_by : {cell : Cell} → CameFrom start homes rows cell → IsFrom start.heap (place_after start homes) cell
  back_by {cell} (CameFrom.of_page body had below none) =
      IsFrom.stood cell body had (stays_in_page start homes cell.at below none)
  back_by (CameFrom.of_copy home there same) =
      let is = young_of ending home there in
      IsFrom.stood is.cell is.words is.has
      (ap (place_after start homes) is.stands ∙ goes_home start homes home.from is.young
      ∙ home_found homes home (renaming ending).one_each there ∙ ap (λ n. Some n) same)
  back_by (CameFrom.of_free run is same size below free no_number) = IsFrom.free free no_number

  -- the first root word of a variable is moved
  first_moved : (variable word new : ℕ) → variable < start.heap.space.variables
      → slice_get start.heap.words (root_at start.heap.space variable) ≡ Some word
      → slice_get now (root_at start.heap.space variable) ≡ Some new
      → IsMovedWord (place_after start homes) word new
  first_moved variable word new known there there_too =
      let slot : ℕ = root_at start.heap.space variable in
      let among : Contains fixed.slots slot =
      (ending.begun.begins.slots slot).1 (inl record { variable = variable; known = known; stands = refl }) in
      let was : get_or fixed.before slot 0 ≡ word =
      word_before ending slot word (get_or_from_slice_get start.heap.words slot word 0 there) in
      word_moved ending word new (root_refers_well ending variable word known there)
      (subst (λ n. IsRenamed homes n new) was
      (subst (IsRenamed homes (get_or fixed.before slot 0)) (get_or_from_slice_get now slot new 0 there_too)
      ((renaming ending).slots slot among)))

  -- and the second one is as it was
  second_same : (variable : ℕ) → slice_get now (root_at start.heap.space variable + 1)
      ≡ slice_get start.heap.words (root_at start.heap.space variable + 1)
  second_same variable =
      behind_same ending (root_at start.heap.space variable + 1) (omega arith) (λ root. omega (arith, root.stands))

  -- the heap at the end is the old one, moved
  pub is_moved : IsMoved start.heap (end_heap ending) (place_after start homes)
  is_moved = record {
    space = refl;
    paths = refl;
    sized = has_sizes ending;
    rows = has_rows ending;
    apart = λ one other body others to has has_other stays stays_too.
        apart_by to has has_other (stays_at start homes one.at to stays) (stays_at start homes other.at to stays_too);
    fits = λ cell body to has stays. (
      λ below. now_fits to has (stays_at start homes cell.at to stays),
      λ below. cell_fits ending has,
    );
    stands = stands_moved ending;
    back = λ cell body has. back_by (came_from ending has);
    roots = λ variable known. record {
      first = λ word new there there_too. first_moved variable word new known there there_too;
      second = second_same variable;
    };
  }

  -- a young cell of it is a home copy
  young_came : {cell : Cell} → CameFrom start homes rows cell → eden_start start.heap.space ≤ cell.at
      → (home : Home) × Contains homes home × (home.to ≡ cell.at)
  young_came (CameFrom.of_page body had below none) young = absurd (omega (arith, below, young))
  young_came (CameFrom.of_copy home there same) young = (home, there, same)
  young_came (CameFrom.of_free run is same size below free no_number) young = absurd (omega (arith, below, young))

  -- so each is
  pub alone : (cell : Cell) (body : List ℕ) → HasCell (end_heap ending) cell body
      → eden_start start.heap.space ≤ cell.at → (home : Home) × Contains homes home × (home.to ≡ cell.at)
  alone cell body has young = young_came (came_from ending has) young

  -- no cell stands in the half that was left
  none_left : {cell : Cell} → CameFrom start homes rows cell → IsInHalf start.heap.space left cell.at → ⊥
  none_left {cell} came inside =
      let halves = the_halves ending in
      let holds = half_holds start.heap.space left cell.at inside in
      let young : eden_start start.heap.space ≤ cell.at = omega (arith, holds.0, halves.left_from) in
      let found = young_came came young in
      let stays = young_within ending.begun ending.filled found.0 found.1 (omega (arith, young, found.2)) in
      let stands = stays_in_half ending found.0 stays in
      let first = home_itself found.0 ending.begun.laid ending.filled.copying found.1 in
      elim halves.apart [
        | inl before ↦ omega (arith, before, holds.0, found.2, stands.1, first.below)
        | inr behind ↦ omega (arith, behind, holds.1, found.2, stands.0)
      ]

  -- so the heap at the end may be collected
  pub is_collectable : IsCollectable (end_heap ending) left
  is_collectable = record { empty = λ cell body has. none_left (came_from ending has) }
