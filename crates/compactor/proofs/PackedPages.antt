-- What is packed stays so where no word of it changes.
use Rattle.std.proofs.Common.{◌≡◌, ℕ, ◌+◌, ◌≤◌, ◌<◌, ◌⊎◌, ◌↔◌, inl, inr, true, List, [], ◌∷◌, ◌++◌}
use Rattle.std.proofs.Common.{Contains, length, slice_get, sym, ◌∙◌, subst, arith}
use Rattle.std.proofs.lemmas.List.Elements.{Contains-append_cases, Contains-append_left, Contains-append_right}
use Rattle.tagged_word.proofs.Members.{first_in, one_in}
use Rattle.page_space.specs.Extents.{Space}
use Rattle.cell_layout.specs.Cells.{IsRow}
use Rattle.cell_layout.proofs.OneCell.{slots_lie_within}
use Rattle.cell_layout.proofs.Rows.{rows_part_around}
use Rattle.free_runs.specs.FreeRuns.{row_of}
use Rattle.write_barrier.specs.Seats.{heap_words}
use Rattle.heap_model.specs.Types.{Cell}
use Rattle.heap_model.specs.Remembered.{RefersToYoung}
use Rattle.heap_model.proofs.RememberedSlots.{refers_to_young_stays}
use Rattle.write_barrier.specs.MutatorState.{Mutator}
use Rattle.compactor.specs.Tables.{Table, place_in}
use Rattle.compactor.specs.Copying.{IsSlotAt, StandsCopied}
use Rattle.compactor.specs.Sliding.{ArePlaced, AreCopied, AreJudged, IsPacked, IsPlacedSlot, is_kept, page_start}
use Rattle.compactor.specs.Sliding.{slid_end}
use Rattle.compactor.proofs.Placing.{placed_within, slid_ascends}

-- a cell stands copied where its words stay
pub one_stays : {were words others : List ℕ} {table : Table} {cell : Cell} {to offset : ℕ}
    → slice_get others (to + offset) ≡ slice_get words (to + offset) → StandsCopied were table cell words to offset
    → StandsCopied were table cell others to offset
one_stays same was = record {
  word = was.word;
  now = was.now;
  read = was.read;
  put = same ∙ was.put;
  is = was.is;
}

-- cells stand copied where no word of their places changes
pub copied_stay : {were words others : List ℕ} {table : Table} (next : ℕ) (cells : List Cell)
    → ArePlaced table next cells
    → ((at : ℕ) → next ≤ at → at < slid_end next cells → slice_get others at ≡ slice_get words at)
    → AreCopied were table cells words → AreCopied were table cells others
copied_stay {table = table} next cells placed same copied cell offset among kept below =
    let within = placed_within table next cells cell placed among kept in
    one_stays (same (place_in table cell.at + offset) (omega (arith, within.from)) (omega (arith, within.below, below)))
    (copied cell offset among kept below)

-- a word that refers to a young cell does so where it stays, and the pages end where they did
pub young_stays : {bound other at : ℕ} {words others : List ℕ} → other ≡ bound
    → slice_get others at ≡ slice_get words at → RefersToYoung bound words at → RefersToYoung other others at
young_stays {at = at} {others = others} bound same young =
    subst (λ (b : ℕ). RefersToYoung b others at) (sym bound) (refers_to_young_stays same young)

-- slots are recorded as they should be where no word and no record of their addresses changes
pub judged_stay : (main other : Mutator) {table : Table} {cells : List Cell} (from to : ℕ)
    → other.recorded.bound ≡ main.recorded.bound
    → ((at : ℕ) → from ≤ at → at < to → slice_get (heap_words other.seat) at ≡ slice_get (heap_words main.seat) at)
    → ((at : ℕ) → from ≤ at → at < to → Contains other.recorded.slots at ↔ Contains main.recorded.slots at)
    → AreJudged main table cells from to → AreJudged other table cells from to
judged_stay main other from to bound words records judged at above below =
    let was = judged at above below in
    let kept = records at above below in
    let same = words at above below in (
      λ there.
          let both = was.0 (kept.0 there) in
          (both.0, young_stays bound same both.1),
      λ both. kept.1 (was.1 (both.0, young_stays (sym bound) (sym same) both.1)),
    )

-- of a page no word has changed, no record and no free run
pub record PageStays (now new : Mutator) (page : ℕ) : Type 0 where
  pub long : length (heap_words new.seat) ≡ length (heap_words now.seat)
  pub bound : new.recorded.bound ≡ now.recorded.bound
  pub words : (at : ℕ) → page_start page ≤ at → at < page_start (page + 1)
      → slice_get (heap_words new.seat) at ≡ slice_get (heap_words now.seat) at
  pub records : (at : ℕ) → page_start page ≤ at → at < page_start (page + 1)
      → Contains new.recorded.slots at ↔ Contains now.recorded.slots at
  pub runs : row_of new.free page ≡ row_of now.free page

-- so it stays packed
pub packed_stays : {first now new : Mutator} {table : Table} (page : ℕ) (cells : List Cell)
    → ArePlaced table (page_start page) cells → slid_end (page_start page) cells ≤ page_start (page + 1)
    → PageStays now new page → IsPacked first now table page cells → IsPacked first new table page cells
packed_stays {first} {now} {new} page cells placed within stays packed =
    let start : ℕ = page_start page in
    let above : start ≤ slid_end start cells = slid_ascends start cells in
    record {
      copied = copied_stay start cells placed
          (λ at from below. stays.words at from (omega (arith, below, within))) packed.copied;
      judged = judged_stay now new start (slid_end start cells) stays.bound
          (λ at from below. stays.words at from (omega (arith, below, within)))
          (λ at from below. stays.records at from (omega (arith, below, within))) packed.judged;
      end = record {
        put = packed.end.put;
        long = packed.end.long ∙ sym stays.long;
        stands = λ at from below. stays.words at (omega (arith, from, above)) below ∙ packed.end.stands at from below;
        runs = stays.runs ∙ packed.end.runs;
        none = λ at from below there. packed.end.none at from below
            ((stays.records at (omega (arith, from, above)) below).0 there);
      };
    }

-- the address is that of a slot of the cell, at its place
pub record IsSlotOfLast (table : Table) (cell : Cell) (at : ℕ) : Type 0 where
  pub kept : is_kept cell ≡ true
  pub offset : ℕ
  pub visited : IsSlotAt cell offset
  pub stands : place_in table cell.at + offset ≡ at

-- a slot of one of these cells, or of one more
pub slot_cases : (table : Table) (cells : List Cell) (cell : Cell) (at : ℕ)
    → IsPlacedSlot table (cells ++ cell ∷ []) at → IsPlacedSlot table cells at ⊎ IsSlotOfLast table cell at
slot_cases table cells cell at slot = elim (Contains-append_cases cells (cell ∷ []) slot.cell slot.among) [
  | inl before ↦ inl (record {
    cell = slot.cell;
    among = before;
    kept = slot.kept;
    offset = slot.offset;
    visited = slot.visited;
    stands = slot.stands;
  })
  | inr last ↦
      let Last : Cell → Type 0 = λ one. IsSlotOfLast table one at in
      inr (subst Last (sym (one_in cell slot.cell last)) (record {
        kept = slot.kept;
        offset = slot.offset;
        visited = slot.visited;
        stands = slot.stands;
      }))
]

-- a slot of one of these is one of these and others
pub slot_among : (table : Table) (cells others : List Cell) (at : ℕ) → IsPlacedSlot table cells at
    → IsPlacedSlot table (cells ++ others) at
slot_among table cells others at slot = record {
  cell = slot.cell;
  among = Contains-append_left cells others slot.cell slot.among;
  kept = slot.kept;
  offset = slot.offset;
  visited = slot.visited;
  stands = slot.stands;
}

-- and so is one of the last
pub slot_of_last : (table : Table) (cells : List Cell) (cell : Cell) (at : ℕ) → IsSlotOfLast table cell at
    → IsPlacedSlot table (cells ++ cell ∷ []) at
slot_of_last table cells cell at slot = record {
  cell = cell;
  among = Contains-append_right cells (cell ∷ []) cell (first_in cell []);
  kept = slot.kept;
  offset = slot.offset;
  visited = slot.visited;
  stands = slot.stands;
}

-- a slot of cells that stand together is before the end of these
pub slot_below : (space : Space) (words : List ℕ) (table : Table) (from to next at : ℕ) (cells : List Cell)
    → IsRow space words from to cells → ArePlaced table next cells → IsPlacedSlot table cells at
    → at < slid_end next cells
slot_below space words table from to next at cells row placed slot =
    let parts = rows_part_around space words from to cells slot.cell row slot.among in
    let inside = slots_lie_within space words slot.cell slot.offset parts.is_cell slot.visited in
    let within = placed_within table next cells slot.cell placed slot.among slot.kept in
    omega (arith, slot.stands, inside.within, within.below)
