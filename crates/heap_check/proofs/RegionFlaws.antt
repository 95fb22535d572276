-- Flaws of the row of one region, and the flags of its cells.
use Rattle.std.proofs.Common.{◌≡◌, ◌≢◌, ℕ, ◌+◌, ◌≤◌, ◌<◌, Bool, List, Some, length, slice_get, refl, sym, ◌∙◌}
use Rattle.std.proofs.Common.{ap, subst, arith}
use Rattle.page_space.specs.Extents.{Extent, IsIn}
use Rattle.page_space.specs.RegionLaws.{IsSpace}
use Rattle.page_space.proofs.Starts.{layouts_start_is, marks_start_is}
use Rattle.cell_layout.specs.Cells.{IsRow}
use Rattle.cell_layout.proofs.Rows.{row_ascends}
use Rattle.heap_model.specs.Heaps.{Heap, Row}
use Rattle.heap_model.specs.RegionRows.{StandsBetween, IsRowFrom}
use Rattle.heap_model.proofs.WordsAlike.{extent_below_roots}
use Rattle.heap_model.proofs.RegionStarts.{one_extent, start_is_in}
use Rattle.heap_model.proofs.RegionRows.{one_row_from, region_ends, lies_between}
use Rattle.heap_check.specs.declared.region_rows.Bound.{Bound}
use Rattle.image_walk.specs.Words.{HasWords}
use Rattle.heap_check.specs.RegionRows.{IsFew, BoundsFrom, bound_in, IsZeroBetween, UsedRowEndsAt}
use Rattle.heap_check.proofs.UsedRows.{row_walks, bounds_from}
use Rattle.heap_check.specs.declared.flaw.Flaw.{Flaw}
use Rattle.heap_check.specs.Firsts.{IsFirst}
use Rattle.heap_check.specs.Frames.{BreaksOff, bound_of, filler_word}
use Rattle.heap_check.specs.Marks.{MarksWalk, BreaksWalk, MarksRegion}
use Rattle.heap_check.specs.Rows.{BreaksBlank, BreaksRegion}
use Rattle.heap_check.proofs.FirstBreaches.{breaks_there}
use Rattle.heap_check.proofs.BrokenWalks.{breaks_once, breaks_or_ends}
use Rattle.heap_check.proofs.RowFlaws.{behind_zero}

-- the bound of the region that stands there is that of its extent
bound_is : (heap : Heap) (start end : ℕ) (bound : Bound) (bounds : BoundsFrom heap start end bound)
    → bound ≡ bound_of heap bounds.stands.extent
bound_is heap start end bound bounds =
    let extent = bounds.stands.extent in
    bounds.by_kind
    ∙ ap (λ (from : ℕ). bound_in extent.region from end heap.used) (sym bounds.stands.starts)
    ∙ ap (λ (to : ℕ). bound_in extent.region extent.start to heap.used) (sym bounds.stands.ends)

-- a walk that breaks off is a row of the region that does
breaks_off : (heap : Heap) (start end at : ℕ) (bound : Bound) (bounds : BoundsFrom heap start end bound)
    → BreaksWalk heap bound start at → BreaksOff heap bounds.stands.extent at
breaks_off heap start end at bound bounds breaks =
    let extent = bounds.stands.extent in
    let of_extent : BreaksWalk heap (bound_of heap extent) start at =
    subst (λ (one : Bound). BreaksWalk heap one start at) (bound_is heap start end bound bounds) breaks in
    record {
      among = bounds.stands.among;
      cells = of_extent.cells;
      row = subst (λ (from : ℕ). IsRow heap.space heap.words from at of_extent.cells) (sym bounds.stands.starts)
          of_extent.row;
      before = of_extent.before;
      no_end = of_extent.no_end;
      no_cell = of_extent.no_cell;
    }

-- and the other way round, in the region that begins at the address
off_breaks : (heap : Heap) (start end at : ℕ) (bound : Bound) (bounds : BoundsFrom heap start end bound)
    (extent : Extent) → extent.start ≡ start → BreaksOff heap extent at → BreaksWalk heap bound start at
off_breaks heap start end at bound bounds extent starts breaks =
    let own = bounds.stands.extent in
    let same : extent ≡ own = one_extent heap.space extent own bounds.limits breaks.among bounds.stands.among
    (starts ∙ sym bounds.stands.starts) in
    let is : bound_of heap extent ≡ bound = ap (bound_of heap) same ∙ sym (bound_is heap start end bound bounds) in
    let of_extent : BreaksWalk heap (bound_of heap extent) start at = record {
      cells = breaks.cells;
      row = subst (λ (from : ℕ). IsRow heap.space heap.words from at breaks.cells) starts breaks.row;
      before = breaks.before;
      no_end = breaks.no_end;
      no_cell = breaks.no_cell;
    } in
    subst (λ (one : Bound). BreaksWalk heap one start at) is of_extent

-- a breach of a region: where its row breaks off, or behind its row
data RegionBroken (heap : Heap) (start at found : ℕ) : Type 0 where
  off : (extent : Extent) → extent.start ≡ start → BreaksOff heap extent at → slice_get heap.words at ≡ Some found
      → RegionBroken heap start at found
  behind : (row : Row) → IsRowFrom heap start row → row.end ≤ at → at < row.extent.start + row.extent.words
      → slice_get heap.words at ≡ Some found → found ≢ 0 → RegionBroken heap start at found

-- each breach of a region is one of these two
region_broken : {heap : Heap} {start at found wanted : ℕ} → BreaksRegion heap start at found wanted
    → RegionBroken heap start at found
region_broken (BreaksRegion.broken extent at found starts breaks there) = RegionBroken.off extent starts breaks there
region_broken (BreaksRegion.not_blank row at found starts among used from below there other) =
    RegionBroken.behind row (record { among = among; starts = starts; used = used }) from below there other

-- a walk that ends is the used row of the region
row_of_walk : (heap : Heap) (start end row_end : ℕ) (bound : Bound) (old new : List Bool)
    → BoundsFrom heap start end bound → MarksWalk heap bound start row_end old new → UsedRowEndsAt heap start row_end
row_of_walk heap start end row_end bound old new bounds walked =
    let stands = bounds.stands in
    record {
      row = record { extent = stands.extent; end = row_end; cells = walked.cells };
      is = record {
        among = stands.among;
        starts = stands.starts;
        used = record {
          ends = (bounds.bounds.ends row_end).1 (walked.walk.within, walked.walk.stops);
          stands = subst (λ (from : ℕ). IsRow heap.space heap.words from row_end walked.cells) (sym stands.starts)
              walked.walk.row;
        };
      };
      ends = refl;
    }

-- its cells are those of the walk
pub region_marked : (heap : Heap) (start end row_end : ℕ) (bound : Bound) (old new : List Bool)
    → BoundsFrom heap start end bound → MarksWalk heap bound start row_end old new → IsZeroBetween heap row_end end
    → MarksRegion heap start end row_end old new
unfolding row_of_walk
region_marked heap start end row_end bound old new bounds walked blank =
    let own = row_of_walk heap start end row_end bound old new bounds walked in
    record { row = own.row; is = own.is; ends = own.ends; blank = blank; marks = walked.marks }

-- the words of a region are there
pub region_within : (heap : Heap) (start end : ℕ) → HasWords heap → StandsBetween heap.space start end
    → end ≤ length heap.words
region_within heap start end sized stands =
    omega (
      arith,
      extent_below_roots heap.space stands.extent stands.among,
      stands.ends,
      sized,
      layouts_start_is heap.space,
      marks_start_is heap.space,
    )

-- a region that stands somewhere has a bound
record Bounded (heap : Heap) (start end : ℕ) : Type 0 where
  pub bound : Bound
  pub bounds : BoundsFrom heap start end bound

-- its kind, its ends and the used words give the bound
bounded : (heap : Heap) (start end : ℕ) → IsSpace heap.space → IsFew heap → StandsBetween heap.space start end
    → Bounded heap start end
bounded heap start end limits few stands =
    let region = stands.extent.region in
    let inside = subst (λ (at : ℕ). IsIn heap.space at region) stands.starts
    (start_is_in heap.space stands.extent limits stands.among) in
    record {
      bound = bound_in region start end heap.used;
      bounds = bounds_from heap start end region limits few stands inside;
    }

-- a breach of a region that has a used row is a word behind that
row_breach : (heap : Heap) (start end at found : ℕ) (row : Row) → IsSpace heap.space → IsFew heap
    → StandsBetween heap.space start end → IsRowFrom heap start row → RegionBroken heap start at found
    → BreaksBlank heap row.end end at found 0
row_breach heap start end at found row limits few stands is (RegionBroken.off extent starts breaks there) =
    let own = bounded heap start end limits few stands in
    absurd (breaks_or_ends heap own.bound start at row.end row.cells
    (off_breaks heap start end at own.bound own.bounds extent starts breaks)
    (row_walks heap start end own.bound row own.bounds is))
row_breach heap start end at found row limits few stands is (RegionBroken.behind other is_too from below there more) =
    BreaksBlank.word at found (omega (arith, from, (one_row_from limits is is_too).end))
    (omega (arith, below, region_ends limits stands is_too)) there more

-- a word behind the row of a region that is not 0 is a breach of the region
breach_behind : {heap : Heap} {start end row_end at found wanted : ℕ} (row : Row) → IsRowFrom heap start row
    → row.end ≡ row_end → row.extent.start + row.extent.words ≡ end → BreaksBlank heap row_end end at found wanted
    → BreaksRegion heap start at found wanted
breach_behind row is ends region_end (BreaksBlank.word at found from below there other) =
    BreaksRegion.not_blank row at found is.starts is.among is.used (omega (arith, from, ends))
    (omega (arith, below, region_end)) there other

-- behind the row of a region the first word that is not 0 is its flaw
pub region_blank : (heap : Heap) (start end row_end : ℕ) (bound : Bound) (old new : List Bool) (flaw : Flaw)
    → IsFew heap → BoundsFrom heap start end bound → MarksWalk heap bound start row_end old new
    → IsFirst (BreaksBlank heap row_end end) flaw → IsFirst (BreaksRegion heap start) flaw
region_blank heap start end row_end bound old new flaw few bounds walked one =
    let limits = bounds.limits in
    let stands = bounds.stands in
    let own = row_of_walk heap start end row_end bound old new bounds walked in
    record {
      breaks = breach_behind own.row own.is own.ends (region_ends limits stands own.is) one.breaks;
      first = λ at found wanted breaks.
          let blank = row_breach heap start end at found own.row limits few stands own.is (region_broken breaks) in
          one.first at found 0 (subst (λ (from : ℕ). BreaksBlank heap from end at found 0) own.ends blank);
    }

-- where a row breaks off, no breach of its region stands before
not_before : (heap : Heap) (start end at other found : ℕ) (bound : Bound) → BoundsFrom heap start end bound
    → BreaksWalk heap bound start at → RegionBroken heap start other found → at ≤ other
not_before heap start end at other found bound bounds breaks (RegionBroken.off extent starts breaks_too there) =
    breaks_once heap bound start at other breaks
    (off_breaks heap start end other bound bounds extent starts breaks_too)
not_before heap start end at other found bound bounds breaks (RegionBroken.behind row is from below there more) =
    absurd (breaks_or_ends heap bound start at row.end row.cells breaks
    (row_walks heap start end bound row bounds is))

-- where the row of a region breaks off is its flaw
pub region_breaks : (heap : Heap) (start end : ℕ) (bound : Bound) (flaw : Flaw) → BoundsFrom heap start end bound
    → BreaksWalk heap bound start flaw.at → slice_get heap.words flaw.at ≡ Some flaw.found
    → flaw.wanted ≡ filler_word → IsFirst (BreaksRegion heap start) flaw
region_breaks heap start end bound flaw bounds breaks there wanted = record {
  breaks = breaks_there (BreaksRegion heap start) (BreaksRegion.broken bounds.stands.extent flaw.at flaw.found
      bounds.stands.starts (breaks_off heap start end flaw.at bound bounds breaks) there)
      refl refl wanted;
  first = λ at found asked other.
      not_before heap start end flaw.at at found bound bounds breaks (region_broken other);
}

-- a region whose row ends and is blank behind it
pub record SoundRegion (heap : Heap) (start : ℕ) : Type 0 where
  pub row : Row
  pub is : IsRowFrom heap start row
  pub blank : IsZeroBetween heap row.end (row.extent.start + row.extent.words)

-- it stands somewhere
row_stands : {heap : Heap} {start : ℕ} (row : Row) → IsRowFrom heap start row
    → StandsBetween heap.space start (row.extent.start + row.extent.words)
row_stands row is = record { extent = row.extent; among = is.among; starts = is.starts; ends = refl }

-- so is one whose cells were marked
pub region_is_sound : (heap : Heap) (start end row_end : ℕ) (old new : List Bool) → IsSpace heap.space
    → StandsBetween heap.space start end → MarksRegion heap start end row_end old new → SoundRegion heap start
region_is_sound heap start end row_end old new limits stands region = record {
  row = region.row;
  is = region.is;
  blank = λ at from below. region.blank at (omega (arith, from, region.ends))
      (omega (arith, below, region_ends limits stands region.is));
}

-- a word that breaks what is blank is before its end
before_blank_end : {heap : Heap} {from end at found wanted : ℕ} → BreaksBlank heap from end at found wanted → at < end
before_blank_end (BreaksBlank.word at found from below there other) = below

-- and it has no breach
pub sound_region : (heap : Heap) (start at found wanted : ℕ) → IsSpace heap.space → IsFew heap
    → SoundRegion heap start → BreaksRegion heap start at found wanted → ⊥
sound_region heap start at found wanted limits few sound breaks =
    let end : ℕ = sound.row.extent.start + sound.row.extent.words in
    let blank = row_breach heap start end at found sound.row limits few (row_stands sound.row sound.is) sound.is
    (region_broken breaks) in
    omega (arith, behind_zero end sound.blank blank, before_blank_end blank)

-- the address is one of those between two others
pub record IsBetween (start end at : ℕ) : Type 0 where
  pub from : start ≤ at
  pub below : at < end

-- a breach of a region stands in it, where its row breaks off or behind the row
place_by : (heap : Heap) (start end at found : ℕ) → IsSpace heap.space → IsFew heap
    → StandsBetween heap.space start end → RegionBroken heap start at found → IsBetween start end at
place_by heap start end at found limits few stands (RegionBroken.off extent starts breaks there) =
    let own = bounded heap start end limits few stands in
    let off = off_breaks heap start end at own.bound own.bounds extent starts breaks in
    record {
      from = row_ascends heap.space heap.words start at off.cells off.row;
      below = omega (arith, off.before, own.bounds.bounds.within, own.bounds.stands.ends);
    }
place_by heap start end at found limits few stands (RegionBroken.behind row is from below there other) = record {
  from = omega (arith, (lies_between limits few stands is).from, from);
  below = omega (arith, below, region_ends limits stands is);
}

-- so each breach of a region stands between its start and its end
pub region_place : (heap : Heap) (start end at found wanted : ℕ) → IsSpace heap.space → IsFew heap
    → StandsBetween heap.space start end → BreaksRegion heap start at found wanted → IsBetween start end at
region_place heap start end at found wanted limits few stands breaks =
    place_by heap start end at found limits few stands (region_broken breaks)
