-- The words of a heap, where they become those of an image region by region.
use Rattle.std.proofs.Common.{◌≡◌, ℕ, ◌-◌, ◌≤◌, ◌++◌, inl, inr, List, length, refl, sym, ◌∙◌, ap, subst}
use Rattle.std.proofs.Common.{arith, append_assoc}
use Rattle.std.specs.Prelude.{replicate}
use Rattle.std.proofs.lemmas.Bool.{cases_lt}
use Rattle.std.proofs.lemmas.List.{length-replicate}
use Rattle.page_space.specs.declared.region.Region.TheVariants.{Eden}
use Rattle.page_space.specs.Extents.{Space, Stretch, StartsAt, CellsEndAt, half_of, eden_start, roots_start}
use Rattle.page_space.specs.Extents.{marks_start}
use Rattle.page_space.specs.RegionLaws.{IsSpace}
use Rattle.page_space.proofs.Addresses.{start_of_is}
use Rattle.page_space.proofs.CellEnds.{before_end, end_before_roots}
use Rattle.page_space.proofs.Starts.{layouts_start_is}
use Rattle.page_space.proofs.Standing.{pages, eden, words_in-pages}
use Rattle.write_barrier.specs.Seats.{heap_words}
use Rattle.heap_model.specs.Heaps.{Heap}
use Rattle.heap_model.specs.Changes.{written}
use Rattle.heap_model.specs.RegionRows.{StandsBetween}
use Rattle.heap_model.specs.Wholeness.{HasSizes, HasRows, Whole}
use Rattle.heap_model.proofs.RegionSeams.{IsSeam, next_seam, seam_stands, seam_at_roots}
use Rattle.write_barrier.specs.MutatorState.{Mutator, heap_of, with_table}
use Rattle.write_barrier.specs.Values.{with_range}
use Rattle.write_barrier.proofs.PutRanges.{length-with_range, with_range_before, with_range_filled, with_range_behind}
use Rattle.collector.specs.Images.{AreWordsOf}
use Rattle.collector.specs.Filling.{CopiesWithin, BlanksWithin, BlanksBehind, FillsWithin}
use Rattle.heap_walk.specs.Limits.{EndsRow}
use Rattle.collector.proofs.RowAddresses.{of_page}
use Rattle.collector.proofs.CopiedCells.{Copying, row_stays, has_rows}
use Rattle.collector.proofs.FilledWords.{fills_more, region_filled, row_lies_between, words_filled}

-- a stretch of words becomes 0
pub stretch_blanked : (words : List ℕ) (from to : ℕ) → from ≤ to → to ≤ length words
    → BlanksWithin words (with_range words from (replicate (to - from) 0)) from to
stretch_blanked words from to ordered within =
    let zeros : List ℕ = replicate (to - from) 0 in
    let long = length-replicate {A = ℕ} (to - from) 0 in
    let begins : from ≤ length words = omega (arith, ordered, within) in
    record {
      count = length-with_range words zeros from (omega (arith, long, ordered, within));
      there = λ at above below. with_range_filled words from (to - from) 0 at begins above
          (omega (arith, ordered, below));
      others = λ at outside. elim outside [
        | inl before ↦ with_range_before words zeros from at begins before
        | inr behind ↦ with_range_behind words zeros from at begins (omega (arith, long, ordered, behind))
      ];
    }

-- the heap with another table is the heap with other words
pub with_table_is : (old new : Mutator) → new ≡ with_table old new.seat.table
    → heap_of new ≡ written (heap_of old) (heap_words new.seat)
with_table_is old new same = λ i. record {
  space = (same i).seat.space;
  used = (same i).young.used;
  survivors = (same i).young.survivors;
  paths = (same i).paths;
  words = heap_words new.seat;
}

-- the pages are those of an image as they are
pub pages_filled : (heap : Heap) → HasRows heap → FillsWithin heap heap.words heap.words 0 (eden_start heap.space)
pages_filled heap rows = record {
  count = refl;
  filled = record {
    cells = λ at from below of_some. refl;
    rest = λ at from below none. absurd (none (of_page heap at rows below));
  };
  others = λ at outside. refl;
}

-- behind them eden begins
pub eden_seam : (space : Space) → IsSeam space (eden_start space)
eden_seam space = record {
  done = pages space;
  rest = eden space ++ half_of space 0 ++ half_of space 1;
  joined = ap (λ (all : List Stretch). all ++ half_of space 1)
      (append_assoc (pages space) (eden space) (half_of space 0))
      ∙ append_assoc (pages space) (eden space ++ half_of space 0) (half_of space 1);
  reached = words_in-pages space;
}

-- words that have become those of an image as far as an address keep the cells
pub copying_so_far : (heap : Heap) (words : List ℕ) (to : ℕ) → HasSizes heap → HasRows heap
    → to ≤ roots_start heap.space → FillsWithin heap heap.words words 0 to → Copying heap words
copying_so_far heap words to sized rows within fills = record {
  sized = sized;
  rows = rows;
  are = record {
    count = fills.count ∙ sized.words;
    cells = λ at of_some. elim (cases_lt at to) [
      | inl done ↦ fills.filled.cells at (omega arith) done of_some
      | inr ahead ↦ fills.others at (inr ahead)
    ];
    rest = λ at below none. elim (cases_lt at to) [
      | inl done ↦ inl (fills.filled.rest at (omega arith) done none)
      | inr ahead ↦ inr (fills.others at (inr ahead))
    ];
    roots = λ at from below. fills.others at (inr (omega (arith, within, from)));
    layouts = λ at from below. fills.others at (inr (omega (arith, within, from, layouts_start_is heap.space)));
  };
}

-- the words from there on are the heap's, as if they had been copied
heap_words_ahead : (heap : Heap) (words : List ℕ) (at to : ℕ) → FillsWithin heap heap.words words 0 at
    → CopiesWithin heap.words words words at to
heap_words_ahead heap words at to fills = record {
  count = refl;
  there = λ k from below. fills.others k (inr from);
  others = λ k outside. refl;
}

-- a used row ends there in the heap where it does so in words that keep the cells
row_ended : {heap : Heap} {words : List ℕ} (start end : ℕ) → Copying heap words
    → EndsRow (written heap words) start end → EndsRow heap start end
row_ended start end copying ends row is =
    ends row record { among = is.among; starts = is.starts; used = row_stays row copying is.among is.used }

-- one region more becomes that of an image
pub region_blanked : (heap : Heap) (words new : List ℕ) (at end : ℕ) → Copying heap words
    → StandsBetween heap.space at end → FillsWithin heap heap.words words 0 at
    → BlanksBehind (written heap words) new at end → FillsWithin heap heap.words new 0 end
region_blanked heap words new at end copying stands fills blanks =
    let row_end : ℕ = blanks.row_end in
    let ends : EndsRow heap at row_end = row_ended at row_end copying blanks.ends in
    let lies = row_lies_between heap at row_end end copying.rows stands ends in
    fills_more heap heap.words words new 0 at end (omega arith) (omega (arith, lies.from, lies.within)) fills
    (region_filled heap words words new at row_end end copying.rows stands ends
    (heap_words_ahead heap words at row_end fills) blanks.blanks)

-- where all regions have, the words are those of an image
pub words_blanked : (heap : Heap) (words : List ℕ) → HasSizes heap → HasRows heap
    → FillsWithin heap heap.words words 0 (roots_start heap.space) → AreWordsOf heap words
words_blanked heap words sized rows fills =
    words_filled heap heap.words words words rows sized.words fills
    (heap_words_ahead heap words (roots_start heap.space) (marks_start heap.space) fills)

-- The regions before the address have become those of an image, and the next region begins there. No word from there on
-- has changed, and nothing but words has.
pub record Blanking (old now : Mutator) (at : ℕ) : Type 0 where
  pub seam : IsSeam old.seat.space at
  pub fills : FillsWithin (heap_of old) (heap_words old.seat) (heap_words now.seat) 0 at
  pub same : now ≡ with_table old now.seat.table

-- at eden nothing is to be done before
pub blanking_begins : (main : Mutator) (at : ℕ) → HasRows (heap_of main) → StartsAt main.seat.space Eden at
    → Blanking main main at
blanking_begins main at rows starts =
    let begins : eden_start main.seat.space ≡ at = start_of_is main.seat.space Eden at starts in
    let words = heap_words main.seat in
    record {
      seam = subst (IsSeam main.seat.space) begins (eden_seam main.seat.space);
      fills = subst (FillsWithin (heap_of main) words words 0) begins (pages_filled (heap_of main) rows);
      same = refl;
    }

-- Where cells end behind the address, a region stands from it on, in which the cells are as they were.
pub record IsNextBlank (old now : Mutator) (at end : ℕ) : Type 0 where
  pub stands : StandsBetween old.seat.space at end
  pub copying : Copying (heap_of old) (heap_words now.seat)
  pub now_stands : StandsBetween now.seat.space at end
  pub now_rows : HasRows (heap_of now)

-- that is the next one
pub next_blank : (old now : Mutator) (at end : ℕ) → Whole (heap_of old) → IsSpace old.seat.space
    → Blanking old now at → CellsEndAt old.seat.space at end → IsNextBlank old now at end
next_blank old now at end whole limits blanking cells =
    let stands = seam_stands old.seat.space at end blanking.seam limits cells in
    let within : at ≤ roots_start old.seat.space =
    omega (arith, before_end old.seat.space at end cells, end_before_roots old.seat.space at end cells) in
    let copying =
    copying_so_far (heap_of old) (heap_words now.seat) at whole.sized whole.rows within blanking.fills in
    record {
      stands = stands;
      copying = copying;
      now_stands = subst (λ (main : Mutator). StandsBetween main.seat.space at end) (sym blanking.same) stands;
      now_rows = subst HasRows (sym (with_table_is old now blanking.same)) (has_rows copying);
    }

-- where it is blanked too, the next region begins behind it
pub blanking_goes_on : (old now new : Mutator) (at end : ℕ) → Whole (heap_of old) → IsSpace old.seat.space
    → Blanking old now at → CellsEndAt old.seat.space at end
    → BlanksBehind (heap_of now) (heap_words new.seat) at end → new ≡ with_table now new.seat.table
    → Blanking old new end
blanking_goes_on old now new at end whole limits blanking cells blanks same =
    let next = next_blank old now at end whole limits blanking cells in
    let words = heap_words new.seat in
    record {
      seam = (next_seam old.seat.space at end blanking.seam limits cells).next;
      fills = region_blanked (heap_of old) (heap_words now.seat) words at end next.copying next.stands blanking.fills
          (subst (λ (heap : Heap). BlanksBehind heap words at end) (with_table_is old now blanking.same) blanks);
      same = same ∙ ap (λ (main : Mutator). with_table main new.seat.table) blanking.same;
    }

-- at the roots the words are those of an image
pub blanking_ends : (old now : Mutator) (at : ℕ) → Whole (heap_of old) → IsSpace old.seat.space → Blanking old now at
    → roots_start old.seat.space ≤ at → AreWordsOf (heap_of old) (heap_words now.seat)
blanking_ends old now at whole limits blanking past =
    let words = heap_words now.seat in
    let ends = seam_at_roots old.seat.space at blanking.seam limits past in
    words_blanked (heap_of old) words whole.sized whole.rows
    (subst (FillsWithin (heap_of old) (heap_words old.seat) words 0) ends blanking.fills)
