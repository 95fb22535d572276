-- The words of free runs where a cell is copied to one: each is in a run or in a copy, and none is in both.
use Rattle.std.proofs.Common.{ℕ, ◌<◌, ◌↔◌, ◌⊎◌, inl, inr, List, sym, subst, arith}
use Rattle.free_runs.specs.FreeRuns.{TakesFront}
use Rattle.free_runs.specs.Laws.{IsOfRun, IsFreeWord}
use Rattle.free_runs.proofs.TakenWords.{takes_keep_words, taken_are_apart}
use Rattle.heap_model.specs.Types.{Cell, Run}
use Rattle.page_space.specs.Extents.{eden_start}
use Rattle.scav_copy.specs.declared.places.Home.{Home}
use Rattle.scav_copy.specs.Places.{Fixed, IsInCopy, IsInCopies}
use Rattle.scav_copy.specs.Copies.{with_home}
use Rattle.scav_copy.proofs.Ascending.{new_in, old_in, joined_is}
use Rattle.scavenger.specs.Starts.{Start, IsBegun}
use Rattle.scavenger.specs.Filling.{CopiesFillRooms, IsInPromoted}
use Rattle.scavenger.specs.Paging.{IsUnmoved, WordsAreLeft, FreeIsLeftApart}
use Rattle.scavenger.proofs.PagesRuns.{whole, whole_is, taken_at, taken_words, first_of_run}
use Rattle.scavenger.proofs.PagesCells.{unmoved_is}
use Rattle.scavenger.proofs.PagesCopies.{apart_still}
use Rattle.scavenger.proofs.PagesFree.{free_below}

module _ {start : Start} {fixed : Fixed} {words : List ℕ} {rows left : List (List Run)} {homes : List Home} {fill : ℕ}
    {cell : Cell} {run : Run} (begun : IsBegun start fixed)
    (filled : CopiesFillRooms start fixed words rows homes fill) (unmoved : IsUnmoved start fixed words homes cell)
    (takes : TakesFront rows left cell.size run) where
  -- the home of the cell
  abbrev home_of_cell : Home
  home_of_cell = record { from = cell.at; to = run.at }

  -- its copy has the words that are taken
  copy_is_taken : (at : ℕ) → IsInCopy fixed home_of_cell at ↔ IsOfRun run at
  copy_is_taken at =
      let is = unmoved_is cell begun filled.copying unmoved in
      let size = taken_words takes in (
        λ inside. record { from = inside.from; below = omega (arith, inside.below, is.size, size) },
        λ inside. record { from = inside.from; below = omega (arith, inside.below, is.size, size) },
      )

  -- it stands in a page
  taken_below : run.at < eden_start start.heap.space
  taken_below =
      let below = free_below begun filled (whole takes).at
      (first_of_run rows (whole takes) filled.free (whole_is takes)) in
      omega (arith, below, taken_at takes)

  -- each word that was in a free run is in one, or in a copy
  pub left_or_copied : (at : ℕ) → IsFreeWord start.rows at
      ↔ (IsFreeWord left at ⊎ IsInPromoted start fixed (with_home homes home_of_cell) at)
  left_or_copied at =
      let kept = takes_keep_words rows left cell.size run at takes in (
        λ was. elim ((filled.left at).0 was) [
          | inl free ↦ elim (kept.0 free) [
            | inl stays ↦ inl stays
            | inr taken ↦
                inr (home_of_cell, new_in homes home_of_cell, taken_below, (copy_is_taken at).1 taken)
          ]
          | inr copied ↦ inr (copied.0, old_in homes home_of_cell copied.0 copied.1, copied.2, copied.3)
        ],
        λ now. (filled.left at).1 (elim now [
          | inl stays ↦ inl (kept.1 (inl stays))
          | inr copied ↦ elim (joined_is homes home_of_cell copied.0 copied.1) [
            | inl same ↦
                let inside = subst (λ (home : Home). IsInCopy fixed home at) (sym same) copied.3 in
                inl (kept.1 (inr ((copy_is_taken at).0 inside)))
            | inr among ↦ inr (copied.0, among, copied.2, copied.3)
          ]
        ]),
      )

  -- no word of a run is one that was taken
  left_is_not_copied : (at : ℕ) → IsFreeWord left at → IsInCopy fixed home_of_cell at → ⊥
  left_is_not_copied at free inside =
      taken_are_apart rows left cell.size run at filled.free takes ((copy_is_taken at).0 inside) free

  -- nor one of any other copy
  pub left_apart : (at : ℕ) → IsFreeWord left at → IsInCopies fixed (with_home homes home_of_cell) at → ⊥
  left_apart at free =
      apart_still home_of_cell at filled
      ((takes_keep_words rows left cell.size run at takes).1 (inl free)) (left_is_not_copied at free)

-- each word that was in a free run is in one or in a copy
pub words_are_left : WordsAreLeft
words_are_left start fixed words rows left homes fill cell free run at begun filled unmoved takes is =
    left_or_copied begun filled unmoved takes at

-- and none is in both
pub free_is_left_apart : FreeIsLeftApart
free_is_left_apart start fixed words rows left homes fill cell run at begun filled unmoved takes free =
    left_apart begun filled unmoved takes at free
