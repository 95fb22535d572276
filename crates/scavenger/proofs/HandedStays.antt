-- Behind the copies that helpers handed over a 0 stands, and no step of a scavenge changes that word.
use Rattle.std.proofs.Common.{ℕ, ◌+◌, ◌-◌, ◌<◌, ◌≤◌, ◌≡◌, ◌≢◌, ◌⊎◌, inl, inr, List, ◌∷◌, [], length, get_or, set}
use Rattle.std.proofs.Common.{unwrap_or, arith, refl, sym, ap, subst, ◌∙◌, length-set}
use Rattle.std.specs.List.{Contains}
use Rattle.std.proofs.lemmas.Option.{unwrap_or-slice_get}
use Rattle.std.proofs.lemmas.List.Elements.{Contains-append_left}
use Rattle.tagged_word.specs.declared.word.Class.TheVariants.{Ref}
use Rattle.tagged_word.specs.Words.{bits_of}
use Rattle.tagged_word.proofs.Members.{in_map, range_bounds}
use Rattle.page_space.specs.Extents.{eden_start}
use Rattle.word_store.specs.Copies.{copied}
use Rattle.word_store.proofs.CopiedWords.{length-copied, get_or-copied_before, get_or-copied_behind}
use Rattle.heap_model.specs.Types.{Cell, Run}
use Rattle.write_barrier.specs.FreeCells.{with_free_cell}
use Rattle.write_barrier.proofs.FreeCells.{beside_free_cell}
use Rattle.scav_copy.specs.declared.places.Home.{Home}
use Rattle.scav_copy.specs.Places.{Fixed, IsOfCell, IsInCopies, IsInRooms, StoodAt}
use Rattle.scav_copy.proofs.Filling.{free_is_not_live}
use Rattle.scav_copy.proofs.Spots.{cell_itself, elsewhere}
use Rattle.scavenger.specs.Starts.{Start, SegmentCopies, IsBegun, room_start, segment_from, segment_room}
use Rattle.scavenger.specs.Filling.{CopiesFillRooms, EndsSegment, segment_filled}
use Rattle.scavenger.specs.Following.{moved_words}
use Rattle.scavenger.proofs.SegmentRooms.{segment_is_among, segments_apart}
use Rattle.scavenger.proofs.FilledSegments.{main_segment, behind_is_free}

-- a word beside the copy stays that is not the cell's first one
pub moved_elsewhere : (words : List ℕ) (cell : Cell) (to at : ℕ) → cell.at + cell.size ≤ length words
    → to + cell.size ≤ length words → (at < to) ⊎ (to + cell.size ≤ at) → at ≢ cell.at
    → get_or (moved_words words cell to) at 0 ≡ get_or words at 0
moved_elsewhere words cell to at there room (inl before) apart =
    elsewhere (copied words cell.at to cell.size) cell.at (bits_of (Ref to)) at apart
    ∙ get_or-copied_before words cell.at to cell.size at 0 there room before
moved_elsewhere words cell to at there room (inr behind) apart =
    elsewhere (copied words cell.at to cell.size) cell.at (bits_of (Ref to)) at apart
    ∙ get_or-copied_behind words cell.at to cell.size at 0 there room behind

-- there are as many words
pub moved_long : (words : List ℕ) (cell : Cell) (to : ℕ) → cell.at + cell.size ≤ length words
    → to + cell.size ≤ length words → length (moved_words words cell to) ≡ length words
moved_long words cell to there room =
    length-set (copied words cell.at to cell.size) cell.at (bits_of (Ref to))
    ∙ length-copied words cell.at to cell.size there room

-- a word beside a free cell stays
pub free_elsewhere : (words : List ℕ) (cell free : Cell) (to at : ℕ)
    → (at < to + cell.size) ⊎ (to + cell.size + (free.size - cell.size) ≤ at)
    → get_or (with_free_cell words (to + cell.size) (free.size - cell.size)) at 0 ≡ get_or words at 0
free_elsewhere words cell free to at out =
    sym (unwrap_or-slice_get (with_free_cell words (to + cell.size) (free.size - cell.size)) at 0)
    ∙ ap (λ found. unwrap_or found 0) (beside_free_cell words (to + cell.size) (free.size - cell.size) at out)
    ∙ unwrap_or-slice_get words at 0

-- the word behind copies that were handed over, where their segment goes on
record IsBehindHanded (start : Start) (fixed : Fixed) (at : ℕ) : Type 0 where
  segment : SegmentCopies
  among : Contains start.handed segment
  is : segment_filled start.heap.space start.half fixed segment ≡ at
  below : at < segment_from start.heap.space start.half segment.worker + start.heap.space.sizes.young

-- in these words a 0 stands behind the copies that were handed over
abbrev HandedEnd : Start → Fixed → List ℕ → Type 0
HandedEnd start fixed words =
    (segment : SegmentCopies) → Contains start.handed segment
    → EndsSegment start.heap.space start.half fixed words segment

module _ {start : Start} {fixed : Fixed} {words : List ℕ} {rows : List (List Run)} {homes : List Home} {fill : ℕ}
    (begun : IsBegun start fixed) (filled : CopiesFillRooms start fixed words rows homes fill) where
  -- a segment that was handed over is a helper's
  pub handed_known : (segment : SegmentCopies) → Contains start.handed segment
      → segment.worker < start.heap.space.sizes.helpers
  handed_known segment there =
      let among = subst (λ (all : List ℕ). Contains all segment.worker) filled.handed_by
      (in_map (λ (one : SegmentCopies). one.worker) start.handed segment there) in
      omega (arith, (range_bounds 0 start.heap.space.sizes.helpers segment.worker among).1)

  -- such a word is one of a room
  behind_in_room : (at : ℕ) → IsBehindHanded start fixed at → IsInRooms fixed at
  behind_in_room at behind = (
    segment_room start.heap.space start.half behind.segment.worker,
    segment_is_among begun.begins behind.segment.worker (omega (arith, handed_known behind.segment behind.among)),
    record { from = omega (arith, behind.is); below = behind.below },
  )

  -- it is in no copy
  behind_in_no_copy : (at : ℕ) → IsBehindHanded start fixed at → IsInCopies fixed homes at → ⊥
  behind_in_no_copy at behind =
      behind_is_free begun filled behind.segment at
      (Contains-append_left start.handed (main_segment start filled.stayed ∷ []) behind.segment behind.among)
      (omega (arith, behind.is)) behind.below

  -- it stands before the main side's segment
  behind_before : (at : ℕ) → IsBehindHanded start fixed at → at < room_start start.heap.space start.half
  behind_before at behind =
      let space = start.heap.space in
      omega (
        arith,
        segments_apart space start.half behind.segment.worker space.sizes.helpers
            (handed_known behind.segment behind.among),
        behind.below,
      )

  -- it is in none of the cells
  behind_in_no_cell : (cell at : ℕ) → Contains fixed.cells cell → IsBehindHanded start fixed at → at ≢ cell
  behind_in_no_cell cell at there behind same =
      begun.laid.cell_in_no_room at
      (cell, there, subst (IsOfCell fixed cell) (sym same) (cell_itself cell begun.laid there))
      (behind_in_room at behind)

  -- where these words stay, the copies end with a 0 still
  still_end : (now : List ℕ)
      → ((at : ℕ) → IsBehindHanded start fixed at → get_or now at 0 ≡ get_or words at 0) → HandedEnd start fixed now
  still_end now same segment there below =
      same (segment_filled start.heap.space start.half fixed segment)
      (record { segment = segment; among = there; is = refl; below = below })
      ∙ filled.behind segment there below

  -- so where a live slot becomes another word
  pub slot_still_end : (slot place word : ℕ) → StoodAt fixed homes slot place
      → HandedEnd start fixed (set words slot word)
  slot_still_end slot place word stood =
      still_end (set words slot word) (λ at behind.
      let free = behind_in_no_copy at behind in
      elsewhere words slot word at (λ same.
      free_is_not_live at slot place begun.laid (behind_in_room at behind) free stood (sym same)))

  -- where a cell is copied behind the main side's copies
  pub copy_still_end : (cell : Cell) (to : ℕ) → Contains fixed.cells cell.at → cell.at + cell.size ≤ length words
      → to + cell.size ≤ length words → room_start start.heap.space start.half ≤ to
      → HandedEnd start fixed (moved_words words cell to)
  copy_still_end cell to is there room young =
      still_end (moved_words words cell to) (λ at behind.
      moved_elsewhere words cell to at there room (inl (omega (arith, behind_before at behind, young)))
      (behind_in_no_cell cell.at at is behind))

  -- and where to a free run
  pub promotion_still_ends : (cell free : Cell) (to : ℕ) → Contains fixed.cells cell.at
      → (let rest = with_free_cell words (to + cell.size) (free.size - cell.size) in
      (cell.at + cell.size ≤ length rest) × (to + cell.size ≤ length rest))
      → to + free.size ≤ eden_start start.heap.space → cell.size ≤ free.size
      → HandedEnd start fixed
      (moved_words (with_free_cell words (to + cell.size) (free.size - cell.size)) cell to)
  promotion_still_ends cell free to is there in_page enough =
      let rest : List ℕ = with_free_cell words (to + cell.size) (free.size - cell.size) in
      still_end (moved_words rest cell to) (λ at behind.
      let young : eden_start start.heap.space ≤ at = omega (arith, behind.is) in
      moved_elsewhere rest cell to at there.0 there.1 (inr (omega (arith, young, in_page, enough)))
      (behind_in_no_cell cell.at at is behind)
      ∙ free_elsewhere words cell free to at (inr (omega (arith, young, in_page, enough))))
