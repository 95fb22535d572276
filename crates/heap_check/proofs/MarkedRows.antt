-- The rows of a heap whose cells were marked, region by region, and the first flaw of all regions.
use Rattle.std.proofs.Common.{◌≡◌, ℕ, ◌+◌, ◌≤◌, ◌<◌, inl, inr, Bool, List, [], ◌∷◌, ◌++◌, map, All, Contains}
use Rattle.std.proofs.Common.{refl, sym, ◌∙◌, ap, subst, arith}
use Rattle.std.specs.List.{flat_map}
use Rattle.std.proofs.lemmas.Bool.{cases_lt}
use Rattle.std.proofs.lemmas.Grind.{flat_map-append}
use Rattle.std.proofs.lemmas.List.{map-append, append-nil}
use Rattle.std.proofs.lemmas.List.Concat.{flat_map-cons}
use Rattle.std.proofs.lemmas.List.Sums.{sum_by-append, sum_by-cons}
use Rattle.std.proofs.lemmas.List.Elements.{All-nil, All-push}
use Rattle.heap_model.specs.Types.{Cell}
use Rattle.page_space.specs.Extents.{Extent, ContainsAddress, CellsEndAt, extents_from, words_in, roots_start}
use Rattle.page_space.specs.RegionLaws.{IsSpace}
use Rattle.page_space.proofs.Stretches.{extents_from-append}
use Rattle.page_space.proofs.Covering.{disjoint}
use Rattle.heap_model.specs.Heaps.{Heap, Row, AreRows, IsUsedRow, survivors_in, survivors_of, cell_extents}
use Rattle.heap_model.specs.RegionRows.{StandsBetween, IsRowFrom}
use Rattle.heap_model.proofs.CellsApart.{cell_extent_stands}
use Rattle.heap_model.proofs.WordsAlike.{extent_below_roots}
use Rattle.heap_model.proofs.RegionStarts.{one_extent, holds_first}
use Rattle.heap_model.proofs.RegionRows.{row_is, one_row_from}
use Rattle.heap_model.proofs.RegionSeams.{IsSeam, first_seam, next_seam, seam_stands, all_done}
use Rattle.heap_check.specs.RegionRows.{IsFew, CountsRowAt}
use Rattle.heap_check.specs.declared.flaw.Flaw.{Flaw}
use Rattle.heap_check.specs.Firsts.{IsFirst}
use Rattle.heap_check.specs.Frames.{BreaksRows}
use Rattle.heap_check.specs.Marks.{MarksCells, MarksRegion}
use Rattle.heap_check.specs.Rows.{BreaksRegion, MarksRows}
use Rattle.heap_check.proofs.MarkedCells.{marks_none, marks_join}
use Rattle.heap_check.proofs.RegionFlaws.{SoundRegion, region_is_sound, sound_region, region_place}

-- the cells of rows
abbrev pub cells_of : List Row → List Cell
cells_of rows = flat_map (λ row. row.cells) rows

-- The rows of the regions before the address, the survivors in them, and the flags of their cells; and these regions
-- are blank behind their rows.
pub record MarkedTo (heap : Heap) (at count : ℕ) (old new : List Bool) : Type 0 where
  pub seam : IsSeam heap.space at
  pub rows : List Row
  pub are : map (λ row. row.extent) rows ≡ extents_from 0 seam.done
  pub each : All (IsUsedRow heap) rows
  pub counted : survivors_of rows ≡ count
  pub marks : MarksCells old new (cells_of rows)
  pub sound : (extent : Extent) → Contains (cell_extents heap.space) extent → extent.start < at
      → SoundRegion heap extent.start

-- nothing was passed
pub marked_none : (heap : Heap) (flags : List Bool) → MarkedTo heap 0 0 flags flags
marked_none heap flags = record {
  seam = first_seam heap.space;
  rows = [];
  are = refl;
  each = All-nil (IsUsedRow heap);
  counted = refl;
  marks = marks_none flags;
  sound = λ extent among below. absurd (omega (arith, below));
}

-- a region that begins before the end of another and not before its start is that one
same_region : (heap : Heap) (at end : ℕ) (extent : Extent) → IsSpace heap.space
    → (stands : StandsBetween heap.space at end) → Contains (cell_extents heap.space) extent → at ≤ extent.start
    → extent.start < end → extent ≡ stands.extent
same_region heap at end extent limits stands among from below =
    let here : ContainsAddress stands.extent extent.start =
    record { from = omega (arith, from, stands.starts); below = omega (arith, below, stands.ends) } in
    disjoint heap.space extent stands.extent extent.start (cell_extent_stands heap.space extent among)
    (cell_extent_stands heap.space stands.extent stands.among) (holds_first heap.space extent limits among) here

-- the used row of a region is one, with all that is said of it
same_row : (heap : Heap) (start : ℕ) (row other : Row) → IsSpace heap.space → IsRowFrom heap start row
    → IsRowFrom heap start other → row ≡ other
same_row heap start row other limits is is_too =
    let extent = one_extent heap.space row.extent other.extent limits is.among is_too.among
    (is.starts ∙ sym is_too.starts) in
    let one = one_row_from limits is is_too in
    λ i. record { extent = extent i; end = one.end i; cells = one.cells i }

-- the cells of one row more
cells_push : (rows : List Row) (row : Row) → cells_of (rows ++ row ∷ []) ≡ cells_of rows ++ row.cells
cells_push rows row =
    let cells : Row → List Cell = λ (one : Row). one.cells in
    flat_map-append cells rows (row ∷ [])
    ∙ ap (λ more. cells_of rows ++ more) (flat_map-cons cells row [] ∙ append-nil row.cells)

-- one region more was passed
pub marked_more : (heap : Heap) (at end row_end count more : ℕ) (old between new : List Bool) → IsSpace heap.space
    → CellsEndAt heap.space at end → MarkedTo heap at count old between
    → MarksRegion heap at end row_end between new → CountsRowAt heap at more → MarkedTo heap end (count + more) old new
marked_more heap at end row_end count more old between new limits cells to region counts =
    let next = next_seam heap.space at end to.seam limits cells in
    let stands = seam_stands heap.space at end to.seam limits cells in
    let stretch = next.stretch in
    let extent : Extent = record { region = stretch.region; start = at; words = stretch.words } in
    let row = region.row in
    let same : row.extent ≡ extent =
    one_extent heap.space row.extent extent limits region.is.among next.among region.is.starts in
    let done = to.seam.done in
    let behind : extents_from (0 + words_in done) (stretch ∷ []) ≡ extent ∷ [] =
    ap (λ start. extents_from start (stretch ∷ [])) (omega (arith, to.seam.reached)) in
    let survivors : Row → ℕ = λ row. survivors_in row row.extent.region in
    let has : survivors row ≡ more =
    ap survivors (same_row heap at row counts.row limits region.is counts.is) ∙ counts.counts in
    record {
      seam = next.next;
      rows = to.rows ++ row ∷ [];
      are =
          map-append (λ (row : Row). row.extent) to.rows (row ∷ [])
          ∙ ap (λ front. front ++ row.extent ∷ []) to.are
          ∙ ap (λ last. extents_from 0 done ++ last ∷ []) same
          ∙ ap (λ last. extents_from 0 done ++ last) (sym behind)
          ∙ sym (extents_from-append 0 done (stretch ∷ []))
          ∙ ap (λ all. extents_from 0 all) (sym next.grown);
      each = All-push (IsUsedRow heap) to.rows row to.each region.is.used;
      counted = omega (
        arith,
        sum_by-append survivors to.rows (row ∷ []),
        sum_by-cons survivors row [],
        to.counted,
        has,
      );
      marks = subst (MarksCells old new) (sym (cells_push to.rows row))
          (marks_join old between new (cells_of to.rows) row.cells to.marks region.marks);
      sound = λ other among below. elim (cases_lt other.start at) [
        | inl early ↦ to.sound other among early
        | inr from ↦
            let is = same_region heap at end other limits stands among from below in
            subst (SoundRegion heap) (sym (ap (λ (e : Extent). e.start) is ∙ stands.starts))
            (region_is_sound heap at end row_end between new limits stands region)
      ];
    }

-- at the roots all regions were passed
pub marked_all : (heap : Heap) (at count : ℕ) (old new : List Bool) → IsSpace heap.space → roots_start heap.space ≤ at
    → MarkedTo heap at count old new → MarksRows heap count old new
marked_all heap at count old new limits past to =
    let are : AreRows heap to.rows = record {
      everywhere = to.are ∙ ap (extents_from 0) (all_done heap.space at to.seam limits past);
      each = to.each;
    } in
    record {
      rows = to.rows;
      are = are;
      counted = to.counted;
      blank = record {
        rows = to.rows;
        are = are;
        rest = λ row a has from below.
            let is = row_is row are has in
            let inside = holds_first heap.space row.extent limits is.among in
            let sound = to.sound row.extent is.among
            (omega (arith, inside.below, extent_below_roots heap.space row.extent is.among, past)) in
            let same = same_row heap row.extent.start sound.row row limits sound.is is in
            sound.blank a (omega (arith, from, ap (λ (one : Row). one.end) same))
            (omega (arith, below, ap (λ (one : Row). one.extent.start + one.extent.words) same));
      };
      marks = to.marks;
    }

-- a breach of rows is one of some region
pub record RowsBroken (heap : Heap) (at found wanted : ℕ) : Type 0 where
  pub extent : Extent
  pub among : Contains (cell_extents heap.space) extent
  pub breaks : BreaksRegion heap extent.start at found wanted

-- where a row breaks off, or is not blank behind its end, its region is broken
pub rows_broken : {heap : Heap} {at found wanted : ℕ} → BreaksRows heap at found wanted
    → RowsBroken heap at found wanted
rows_broken (BreaksRows.broken extent at found off there) =
    record { extent = extent; among = off.among; breaks = BreaksRegion.broken extent at found refl off there }
rows_broken (BreaksRows.not_blank row at found among used from below there other) = record {
  extent = row.extent;
  among = among;
  breaks = BreaksRegion.not_blank row at found refl among used from below there other;
}

-- and the other way round
region_breaks_rows : {heap : Heap} {start at found wanted : ℕ} → BreaksRegion heap start at found wanted
    → BreaksRows heap at found wanted
region_breaks_rows (BreaksRegion.broken extent at found starts off there) = BreaksRows.broken extent at found off there
region_breaks_rows (BreaksRegion.not_blank row at found starts among used from below there other) =
    BreaksRows.not_blank row at found among used from below there other

-- the flaw of a region before which all have sound rows is the first of all
pub rows_first : (heap : Heap) (at end count : ℕ) (old new : List Bool) (flaw : Flaw) → IsSpace heap.space → IsFew heap
    → CellsEndAt heap.space at end → MarkedTo heap at count old new → IsFirst (BreaksRegion heap at) flaw
    → IsFirst (BreaksRows heap) flaw
rows_first heap at end count old new flaw limits few cells to one =
    let stands = seam_stands heap.space at end to.seam limits cells in
    let place = region_place heap at end flaw.at flaw.found flaw.wanted limits few stands one.breaks in
    record {
      breaks = region_breaks_rows one.breaks;
      first = λ other found wanted breaks.
          let own = rows_broken breaks in
          let extent = own.extent in
          elim (cases_lt extent.start at) [
            | inl early ↦ absurd (sound_region heap extent.start other found wanted limits few
                (to.sound extent own.among early) own.breaks)
            | inr from ↦ elim (cases_lt extent.start end) [
              | inl below ↦
                  let is = same_region heap at end extent limits stands own.among from below in
                  let starts = ap (λ (e : Extent). e.start) is ∙ stands.starts in
                  one.first other found wanted
                  (subst (λ (start : ℕ). BreaksRegion heap start other found wanted) starts own.breaks)
              | inr behind ↦
                  let its : StandsBetween heap.space extent.start (extent.start + extent.words) =
                  record { extent = extent; among = own.among; starts = refl; ends = refl } in
                  let there = region_place heap extent.start (extent.start + extent.words) other found wanted limits few
                  its own.breaks in
                  omega (arith, behind, place.below, there.from)
            ]
          ];
    }
