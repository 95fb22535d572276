-- A whole heap has no flaw: each part's breach excludes the part.
use Rattle.std.proofs.Common.{◌≡◌, ℕ, Contains, Option, Some, None, MatchOption, refl, sym, ◌∙◌, ap, arith}
use Rattle.page_space.specs.Extents.{Extent}
use Rattle.page_space.specs.RegionLaws.{IsSpace}
use Rattle.heap_model.specs.Heaps.{Heap, survivors_of, cell_extents}
use Rattle.shape_tree.specs.Shapes.{AreShapes}
use Rattle.heap_model.specs.Wholeness.{Blank, HasSizes, HasRows, IsOwned}
use Rattle.image_walk.specs.Words.{HasWords}
use Rattle.heap_check.specs.Roots.{HasRoots}
use Rattle.heap_check.proofs.CountedRows.{one_rows}
use Rattle.heap_check.specs.Cells.{BreaksOwners}
use Rattle.heap_check.specs.declared.flaw.Flaw.{Flaw}
use Rattle.heap_check.specs.Firsts.{IsFirst, IsVerdict}
use Rattle.heap_check.specs.Judging.{IsRowsFlaw}
use Rattle.heap_check.specs.RegionRows.{IsFew}
use Rattle.heap_check.specs.Walks.{HasLayoutWords}
use Rattle.heap_check.specs.FirstFlaws.{IsFirstFlaw, WholeHasNoFlaw}
use Rattle.heap_check.specs.Frames.{BreaksUsed, BreaksLength, BreaksLayouts, BreaksRows, BreaksSurvivors, BreaksRoots}
use Rattle.heap_check.specs.Frames.{filler_word}
use Rattle.heap_check.specs.Rows.{BreaksRegion}
use Rattle.heap_model.proofs.CellsApart.{used_few}
use Rattle.heap_model.proofs.RegionRows.{row_of}
use Rattle.heap_check.proofs.RegionFlaws.{SoundRegion, sound_region}
use Rattle.heap_check.proofs.CellLaws.{cells_exclude}
use Rattle.heap_check.proofs.RootFlaws.{sound_root}
use Rattle.heap_check.proofs.SizeFlaws.{layouts_sound}

-- the used words are no more than eden has
used_apart : {heap : Heap} {at found wanted : ℕ} → HasRows heap → BreaksUsed heap at found wanted → ⊥
used_apart rows (BreaksUsed.used more) = omega (arith, rows.few, more)

-- there are as many words as the sizes ask for
length_apart : {heap : Heap} {at found wanted : ℕ} → HasSizes heap → BreaksLength heap at found wanted → ⊥
length_apart sized (BreaksLength.words other) = other sized.words

-- the survivors have as many words as is told, and the young generation has room for them
survivors_apart : {heap : Heap} {at found wanted : ℕ} → HasRows heap → BreaksSurvivors heap at found wanted → ⊥
survivors_apart {heap} whole (BreaksSurvivors.counted rows are other) =
    let same : rows ≡ whole.rows =
    one_rows heap rows whole.rows (are.everywhere ∙ sym whole.are.everywhere) are.each whole.are.each in
    other (ap survivors_of same ∙ whole.counted)
survivors_apart whole (BreaksSurvivors.many rows are counted many) = omega (arith, whole.few, many)

-- a region is whole and blank where its heap is
sound_there : {heap : Heap} (extent : Extent) → Blank heap → Contains (cell_extents heap.space) extent
    → SoundRegion heap extent.start
sound_there extent blank among =
    let own = row_of extent blank.are among in
    record { row = own.row; is = own.is; blank = λ at from below. blank.rest own.row at own.there from below }

-- cells stand in rows everywhere, and what is behind them is 0
rows_apart : {heap : Heap} {at found wanted : ℕ} → IsSpace heap.space → HasRows heap → Blank heap
    → BreaksRows heap at found wanted → ⊥
rows_apart {heap} limits whole blank (BreaksRows.broken extent at found off there) =
    sound_region heap extent.start at found filler_word limits (used_few whole) (sound_there extent blank off.among)
    (BreaksRegion.broken extent at found refl off there)
rows_apart {heap} limits whole blank (BreaksRows.not_blank row at found among used from below there other) =
    sound_region heap row.extent.start at found 0 limits (used_few whole) (sound_there row.extent blank among)
    (BreaksRegion.not_blank row at found refl among used from below there other)

-- used words that are too many are a flaw of the rows
pub used_flaw : (heap : Heap) (flaw : Flaw) → IsFirst (BreaksUsed heap) flaw → IsRowsFlaw heap flaw
used_flaw heap flaw is =
    record { first = IsFirstFlaw.of_used is; breaks = λ limits right. used_apart right.rows is.breaks }

-- and another number of words is one of the sizes
pub length_flaw : (heap : Heap) (flaw : Flaw) → IsFew heap → IsFirst (BreaksLength heap) flaw → IsRowsFlaw heap flaw
length_flaw heap flaw few is =
    record { first = IsFirstFlaw.of_length few is; breaks = λ limits right. length_apart right.sized is.breaks }

-- With right sizes before, the layout words decide: the sizes are right, or this is a flaw of them.
pub sizes_by_layouts : (heap : Heap) (found : Option Flaw) → IsFew heap → HasWords heap → AreShapes heap.paths
    → IsVerdict (HasLayoutWords heap) (BreaksLayouts heap) found
    → MatchOption found (IsFew heap × HasSizes heap) (IsRowsFlaw heap)
sizes_by_layouts heap None few words shapes layouts =
    (few, record { words = words; shapes = shapes; layouts = layouts })
sizes_by_layouts heap (Some flaw) few words shapes first = record {
  first = IsFirstFlaw.of_layouts few words first;
  breaks = λ limits right. layouts_sound heap flaw.at flaw.found flaw.wanted right.sized.layouts first.breaks;
}

-- a row that breaks off, and a word behind one that is not 0
pub rows_flaw : (heap : Heap) (flaw : Flaw) → IsFew heap → HasSizes heap → IsFirst (BreaksRows heap) flaw
    → IsRowsFlaw heap flaw
rows_flaw heap flaw few sized is = record {
  first = IsFirstFlaw.of_rows few sized is;
  breaks = λ limits right. rows_apart limits right.rows right.blank is.breaks;
}

-- and another number of survivors' words
pub survivors_flaw : (heap : Heap) (flaw : Flaw) → HasSizes heap → Blank heap → IsFirst (BreaksSurvivors heap) flaw
    → IsRowsFlaw heap flaw
survivors_flaw heap flaw sized blank is = record {
  first = IsFirstFlaw.of_survivors sized blank is;
  breaks = λ limits right. survivors_apart right.rows is.breaks;
}

-- the root words of each variable stand for something that it may hold
roots_apart : {heap : Heap} {at found wanted : ℕ} → HasRoots heap → BreaksRoots heap at found wanted → ⊥
roots_apart roots (BreaksRoots.root variable at found wanted known breaks) = sound_root (roots variable known) breaks

-- no two slots name one store, table or box
owners_apart : {heap : Heap} {at found wanted : ℕ} → IsOwned heap → BreaksOwners heap at found wanted → ⊥
owners_apart owned (BreaksOwners.again owner another slot other named one two before) =
    let same = owned owner another slot other named one two in
    omega (arith, same, before)

-- so a whole heap, with 0 in each word that no cell uses, has no first flaw
pub whole_has_no_flaw : WholeHasNoFlaw
whole_has_no_flaw heap flaw limits whole blank (IsFirstFlaw.of_used is) = used_apart whole.rows is.breaks
whole_has_no_flaw heap flaw limits whole blank (IsFirstFlaw.of_length few is) = length_apart whole.sized is.breaks
whole_has_no_flaw heap flaw limits whole blank (IsFirstFlaw.of_layouts few words is) =
    layouts_sound heap flaw.at flaw.found flaw.wanted whole.sized.layouts is.breaks
whole_has_no_flaw heap flaw limits whole blank (IsFirstFlaw.of_rows few sized is) =
    rows_apart limits whole.rows blank is.breaks
whole_has_no_flaw heap flaw limits whole blank (IsFirstFlaw.of_survivors sized empty is) =
    survivors_apart whole.rows is.breaks
whole_has_no_flaw heap flaw limits whole blank (IsFirstFlaw.of_roots sized rows empty is) =
    roots_apart whole.roots is.breaks
whole_has_no_flaw heap flaw limits whole blank (IsFirstFlaw.of_cells frame is) =
    cells_exclude heap flaw.at flaw.found flaw.wanted is.breaks whole.sound
whole_has_no_flaw heap flaw limits whole blank (IsFirstFlaw.of_owners frame sound is) =
    owners_apart whole.owned is.breaks
