-- The home copies at the end of a scavenge: their words, the cells that they are, and the row that these stand in.
use Rattle.std.proofs.Common.{◌≡◌, ℕ, ◌+◌, ◌<◌, ◌≤◌, inl, inr, Bool, true, false, IsTrue, List, [], ◌∷◌}
use Rattle.std.proofs.Common.{map, Contains, Option, Some, slice_get, get_or, refl, sym, ◌∙◌, ap, subst, arith}
use Rattle.std.proofs.lemmas.Bool.{cases_lt}
use Rattle.tagged_word.specs.Shapes.{shapes_most}
use Rattle.tagged_word.specs.Cells.{ReadsAs, has_length, length_by}
use Rattle.tagged_word.proofs.CellReadings.{cell_from}
use Rattle.tagged_word.proofs.Members.{first_in, rest_in}
use Rattle.page_space.specs.Extents.{Space, CellsEndAt, layouts_start}
use Rattle.page_space.proofs.CellEnds.{same_end}
use Rattle.page_space.proofs.Starts.{layouts_start_is}
use Rattle.cell_layout.specs.Cells.{IsCell, IsRow, reading_of, layouts_in}
use Rattle.cell_layout.proofs.CellsThere.{slice_get-layouts_in, slice_get-layouts_past}
use Rattle.cell_layout.proofs.Puts.{two_words}
use Rattle.heap_model.specs.Types.{Cell, Run}
use Rattle.heap_model.proofs.CellsApart.{has_is_cell, first_of_cell, cell_extent_stands}
use Rattle.heap_moves.specs.Moved.{moved_to}
use Rattle.scav_copy.specs.declared.places.Home.{Home}
use Rattle.scav_copy.specs.Places.{Fixed, size_of}
use Rattle.scav_copy.specs.Renamings.{IsRenamed, Renaming}
use Rattle.scav_copy.proofs.Reading.{copies_read, copies_end}
use Rattle.scav_copy.proofs.Spots.{from_is, slot_in_cell}
use Rattle.scavenger.specs.Starts.{Start, IsYoungCell, segment_from}
use Rattle.scavenger.specs.Filling.{Tiles}
use Rattle.scavenger.proofs.TargetCells.{before_is_young, young_size, recorded_below, run_ends}
use Rattle.scavenger.proofs.FilledSegments.{StaysYoung, filled_below}
use Rattle.scavenger.proofs.EndRanges.{segment_extent, segment_starts, segment_among}
use Rattle.scavenger.proofs.EndRuns.{run_cell}
use Rattle.scavenger.proofs.EndWords.{Ending, IsPromoted, ended, end_segments, stays_in_half, the_halves, home_place}
use Rattle.scavenger.proofs.EndWords.{kept}
use Rattle.scavenger.proofs.EndWords.{kept_apart, behind_same, same_read}

-- a length is read of equal second words, where there is one
same_length : (has : Bool) (second other : Option ℕ) (long : ℕ) → (IsTrue has → other ≡ second)
    → length_by has second ≡ Some long → length_by has other ≡ Some long
same_length true second other long same is = same refl ∙ is
same_length false second other long same is = is

-- cells that stand in a row where these homes are
pub record CopyRow (space : Space) (words : List ℕ) (start end : ℕ) (homes : List Home) : Type 0 where
  pub cells : List Cell
  pub row : IsRow space words start end cells
  pub stand : map (λ cell. cell.at) cells ≡ map (λ home. home.to) homes

-- cells may stand where the copy does, up to an address behind it
pub record HasPlace (space : Space) (fixed : Fixed) (home : Home) : Type 0 where
  pub end : ℕ
  pub stands : CellsEndAt space home.to end
  pub ends : home.to + size_of fixed home.from ≤ end

module _ {start : Start} {left : ℕ} {fixed : Fixed} {homes : List Home} {rows : List (List Run)} {words now : List ℕ}
    {fill : ℕ} (ending : Ending start left fixed homes rows words now fill) where
  -- a word of a home copy was not emptied
  copy_kept : (home : Home) (offset at : ℕ) → Contains homes home → offset < size_of fixed home.from
      → home.to + offset ≡ at → slice_get now at ≡ slice_get words at
  copy_kept home offset at there less is =
      let halves = the_halves ending in
      elim (home_place ending home there) [
        | inl stays ↦
            let within = stays_in_half ending home stays in
            let filled = filled_below ending.begun ending.filled stays.stays.segment stays.stays.of_all in
            kept ending at (inl (λ same. omega (arith, same, is, stays.ends, filled, less)))
            (elim halves.apart [
              | inl before ↦ inl (omega (arith, before, within.1, is, less))
              | inr behind ↦ inr (omega (arith, behind, within.0, is))
            ])
        | inr promoted ↦
            let below = run_ends promoted.run ending.begun promoted.is in
            kept_apart ending at (inl (omega (arith, below, promoted.ends, less)))
      ]

  -- so it reads as it did
  copy_read : (home : Home) (offset : ℕ) → Contains homes home → offset < size_of fixed home.from
      → get_or now (home.to + offset) 0 ≡ get_or words (home.to + offset) 0
  copy_read home offset there less =
      let at : ℕ = home.to + offset in
      let end = copies_end fixed words homes home ending.begun.laid ending.filled.copying there in
      same_read words now at at ending.emptied.count (omega (arith, end, less))
      (copy_kept home offset at there less refl)

  -- a slot outside was not emptied
  outside_read : (slot : ℕ) → Contains fixed.slots slot → get_or now slot 0 ≡ get_or words slot 0
  outside_read slot there =
      same_read words now slot slot ending.emptied.count
      (omega (arith, ending.begun.laid.slots_there slot there, ending.filled.copying.long))
      (kept_apart ending slot
      (elim ((ending.begun.begins.slots slot).0 there) [
        | inl root ↦ inr (omega (arith, root.stands))
        | inr recorded ↦ inl (recorded_below slot ending.begun recorded)
      ]))

  -- the words are a renaming after some were emptied
  pub renaming : Renaming fixed now homes
  renaming =
      let before = (ended ending).0 in
      record {
        one_each = before.one_each;
        survivors = before.survivors;
        copied = λ home offset there less no_slot.
            copy_read home offset there less ∙ before.copied home offset there less no_slot;
        copied_slots = λ home offset there slot.
            subst (IsRenamed homes (get_or fixed.before (home.from + offset) 0))
            (sym (copy_read home offset there (slot_in_cell fixed home.from offset slot).1))
            (before.copied_slots home offset there slot);
        slots = λ slot there.
            subst (IsRenamed homes (get_or fixed.before slot 0)) (sym (outside_read slot there))
            (before.slots slot there);
      }

  -- a layout word is as before
  pub layout_same : (shape : ℕ) → shape < shapes_most
      → slice_get now (layouts_start start.heap.space + shape)
      ≡ slice_get start.heap.words (layouts_start start.heap.space + shape)
  layout_same shape below =
      let starts = layouts_start_is start.heap.space in
      behind_same ending (layouts_start start.heap.space + shape) (omega (arith, starts))
      (λ root. omega (arith, starts, root.stands, root.known))

  -- and so are all
  pub layouts_same : (shape : ℕ)
      → slice_get (layouts_in start.heap.space now) shape
      ≡ slice_get (layouts_in start.heap.space start.heap.words) shape
  layouts_same shape =
      elim (cases_lt shape shapes_most) [
        | inl below ↦
            slice_get-layouts_in start.heap.space now shape below ∙ layout_same shape below
            ∙ sym (slice_get-layouts_in start.heap.space start.heap.words shape below)
        | inr past ↦
            slice_get-layouts_past start.heap.space now shape past
            ∙ sym (slice_get-layouts_past start.heap.space start.heap.words shape past)
      ]

  -- and as they were before some words were emptied
  pub layouts_kept : (shape : ℕ)
      → slice_get (layouts_in start.heap.space now) shape ≡ slice_get (layouts_in start.heap.space words) shape
  layouts_kept shape =
      elim (cases_lt shape shapes_most) [
        | inl below ↦
            slice_get-layouts_in start.heap.space now shape below
            ∙ kept_apart ending (layouts_start start.heap.space + shape)
            (inr (omega (arith, layouts_start_is start.heap.space)))
            ∙ sym (slice_get-layouts_in start.heap.space words shape below)
        | inr past ↦
            slice_get-layouts_past start.heap.space now shape past
            ∙ sym (slice_get-layouts_past start.heap.space words shape past)
      ]

  -- the young cell that a home is of
  pub young_of : (home : Home) → Contains homes home → IsYoungCell start.heap home.from
  young_of home there = (ending.begun.begins.cells home.from).0 (from_is home ending.filled.copying there)

  -- it has as many words as its copy
  pub copy_size : (home : Home) (is : IsYoungCell start.heap home.from) → is.cell.size ≡ size_of fixed home.from
  copy_size home is = young_size ending.begun is

  -- where copies may stand in a segment
  place_in_segment : (home : Home) → Contains homes home → StaysYoung start fixed (end_segments ending) home
      → HasPlace start.heap.space fixed home
  place_in_segment home there stays =
      let space = start.heap.space in
      let worker : ℕ = stays.stays.segment.worker in
      let starts = segment_starts space start.half worker in
      let is = young_of home there in
      let some = (first_of_cell is.has).below in
      record {
        end = segment_from space start.half worker + space.sizes.young;
        stands = record {
          extent = segment_extent space start.half worker;
          stands = cell_extent_stands space (segment_extent space start.half worker)
              (segment_among space start.half worker ending.begun.is_half stays.known);
          of_cells = refl;
          holds = record {
            from = omega (arith, starts, stays.from);
            below = omega (arith, starts, stays.ends, stays.fits, copy_size home is, some);
          };
          ends = omega (arith, starts);
        };
        ends = omega (arith, stays.ends, stays.fits);
      }

  -- and where in a free run
  place_in_page : (home : Home) → Contains homes home → IsPromoted start fixed home
      → HasPlace start.heap.space fixed home
  place_in_page home there promoted =
      let free = run_cell ending.begun promoted.is in
      let is_cell = has_is_cell free.has in
      let is = young_of home there in
      let some = (first_of_cell is.has).below in
      let size = copy_size home is in
      let ends : home.to + size_of fixed home.from ≤ is_cell.end =
      omega (arith, promoted.ends, is_cell.reads.ends, free.stands, free.size) in
      record {
        end = is_cell.end;
        stands = same_end start.heap.space free.cell.at home.to is_cell.end is_cell.stands
            (omega (arith, free.stands, promoted.from)) (omega (arith, ends, size, some));
        ends = ends;
      }

  -- so where each copy stands
  has_place : (home : Home) → Contains homes home → HasPlace start.heap.space fixed home
  has_place home there =
      elim (home_place ending home there) [
        | inl stays ↦ place_in_segment home there stays
        | inr promoted ↦ place_in_page home there promoted
      ]

  -- a home copy read as its cell before some words were emptied
  copy_reads : (home : Home) (there : Contains homes home) (is : IsYoungCell start.heap home.from)
      (place : HasPlace start.heap.space fixed home)
      → ReadsAs words fixed.layouts home.to place.end (reading_of is.cell)
  copy_reads home there is place =
      cell_from words fixed.layouts home.to place.end (reading_of is.cell)
      (copies_read fixed words homes home place.end ending.begun.laid ending.filled.copying there place.ends
      ∙ before_is_young ending.begun is)

  -- the layout of its shape is as it was
  layout_of_copy : (shape : ℕ)
      → slice_get (layouts_in start.heap.space now) shape ≡ slice_get fixed.layouts shape
  layout_of_copy shape =
      layouts_same shape ∙ sym (ap (λ (all : List ℕ). slice_get all shape) ending.begun.begins.layouts)

  -- a home copy is its cell
  pub copy_cell : (home : Home) (there : Contains homes home) (is : IsYoungCell start.heap home.from)
      → IsCell start.heap.space now (moved_to is.cell home.to)
  copy_cell home there is =
      let place = has_place home there in
      let reads = copy_reads home there is place in
      let size = copy_size home is in
      let some = (first_of_cell is.has).below in
      record {
        end = place.end;
        stands = place.stands;
        reads = record {
          is_header = reads.is_header;
          first = copy_kept home 0 home.to there (omega (arith, size, some)) (omega arith) ∙ reads.first;
          known = reads.known;
          is_layout = reads.is_layout;
          of_shape = layout_of_copy is.cell.header.shape ∙ reads.of_shape;
          second = same_length (has_length is.cell.layout.kind) (slice_get words (home.to + 1))
              (slice_get now (home.to + 1)) is.cell.length
              (λ has. copy_kept home 1 (home.to + 1) there
              (omega (arith, size, two_words start.heap.space start.heap.words is.cell (has_is_cell is.has) has)) refl)
              reads.second;
          sized = reads.sized;
          ends = reads.ends;
          there = omega (arith, reads.there, ending.emptied.count);
        };
      }

  -- homes one behind another are cells in a row
  pub copy_row : {from to : ℕ} (some : List Home) → Tiles fixed from to some
      → ((home : Home) → Contains some home → Contains homes home) → CopyRow start.heap.space now from to some
  copy_row _ (Tiles.none at) among = record { cells = []; row = IsRow.none at; stand = refl }
  copy_row _ (Tiles.next home end some tiles) among =
      let there = among home (first_in home some) in
      let is = young_of home there in
      let cell : Cell = moved_to is.cell home.to in
      let rest = copy_row some tiles (λ other later. among other (rest_in home some other later)) in
      record {
        cells = cell ∷ rest.cells;
        row = IsRow.next cell end rest.cells (copy_cell home there is)
            (subst (λ size. IsRow start.heap.space now (home.to + size) end rest.cells) (sym (copy_size home is))
            rest.row);
        stand = ap (λ more. home.to ∷ more) rest.stand;
      }
