-- Each cell that stays stands where it came at the end of a scavenge, with its words moved.
use Rattle.std.proofs.Common.{◌≡◌, ℕ, ◌+◌, ◌<◌, inl, inr, false, List, Contains, Some, slice_get, get_or}
use Rattle.std.proofs.Common.{sym, ◌∙◌, ap, subst, arith}
use Rattle.std.proofs.lemmas.Bool.{cases_lt}
use Rattle.std.proofs.lemmas.Option.{slice_get_past, get_or_from_slice_get}
use Rattle.tagged_word.specs.Cells.{scavenge_offsets}
use Rattle.page_space.specs.Extents.{eden_start}
use Rattle.cell_layout.proofs.OneCell.{slots_lie_within}
use Rattle.heap_model.specs.Types.{Cell, Run}
use Rattle.heap_model.specs.Heaps.{HasCell, words_of_cell}
use Rattle.heap_model.specs.Kinds.{HasWord}
use Rattle.heap_model.specs.Remembered.{IsSlotOf}
use Rattle.heap_model.proofs.CellsApart.{IsOfCell, has_is_cell, cells_apart}
use Rattle.heap_model.proofs.CellWords.{words_are_size, word_there}
use Rattle.heap_model.proofs.RememberedSlots.{ends_in_page, slot_of_cell}
use Rattle.heap_moves.specs.Moved.{IsMovedWord, AreMoved, moved_to, StandsMoved}
use Rattle.scav_copy.specs.declared.places.Home.{Home}
use Rattle.scav_copy.specs.Places.{Fixed, offsets_in, offsets_of}
use Rattle.scav_copy.specs.Renamings.{IsRenamed}
use Rattle.scavenger.specs.Starts.{Start, IsYoungCell}
use Rattle.scavenger.specs.Scavenged.{place_after, begins_free}
use Rattle.heap_walk.proofs.SlotTargets.{word_reads, word_found}
use Rattle.scavenger.proofs.TargetCells.{before_is_young}
use Rattle.scavenger.proofs.EndRuns.{run_of_no_cell, used_is_no_run}
use Rattle.scavenger.proofs.EndWords.{Ending, the_halves, outside_same}
use Rattle.scavenger.proofs.EndCopies.{renaming, young_of, copy_size}
use Rattle.scavenger.proofs.EndHeap.{end_heap, page_stays, copy_stands}
use Rattle.scavenger.proofs.EndPlaces.{StaysAt, RefersWell, stays_at, young_or_not, renamed_is_moved, kept_is_moved}
use Rattle.scavenger.proofs.EndSlots.{word_before, slot_target, slots_read, young_word, young_refers_well}
use Rattle.scavenger.proofs.EndSlots.{recorded_refers_well, recorded_is_young, young_is_recorded}

module _ {start : Start} {left : ℕ} {fixed : Fixed} {homes : List Home} {rows : List (List Run)} {words now : List ℕ}
    {fill : ℕ} (ending : Ending start left fixed homes rows words now fill) where
  -- a word that is renamed is moved
  pub word_moved : (word new : ℕ) → RefersWell start homes word → IsRenamed homes word new
      → IsMovedWord (place_after start homes) word new
  word_moved word new well becomes =
      renamed_is_moved start homes word new (renaming ending).one_each
      (λ home among. (young_of ending home among).young) well becomes

  -- a slot of a home copy is moved
  slot_moved : (home : Home) (offset word new : ℕ) → Contains homes home → (is : IsYoungCell start.heap home.from)
      → Contains (scavenge_offsets is.cell.layout is.cell.length) offset → HasWord is.words offset word
      → get_or now (home.to + offset) 0 ≡ new → IsMovedWord (place_after start homes) word new
  slot_moved home offset word new there is slot stands reads =
      let was : get_or fixed.before (home.from + offset) 0 ≡ word =
      word_before ending (home.from + offset) word (young_word ending home offset word is stands) in
      word_moved word new (young_refers_well ending home offset word there is slot stands)
      (subst (λ n. IsRenamed homes n new) was
      (subst (IsRenamed homes (get_or fixed.before (home.from + offset) 0)) reads
      ((renaming ending).copied_slots home offset there (slots_read ending home offset is slot))))

  -- any other word of it is as it was
  raw_same : (home : Home) (offset : ℕ) (there : Contains homes home) (is : IsYoungCell start.heap home.from)
      → (Contains (scavenge_offsets is.cell.layout is.cell.length) offset → ⊥) → offset < is.cell.size
      → slice_get (words_of_cell (end_heap ending) (moved_to is.cell home.to)) offset ≡ slice_get is.words offset
  raw_same home offset there is raw within =
      let has = copy_stands ending home there is in
      let new = word_there offset has within in
      let old = word_there offset is.has within in
      let same_slots : offsets_of fixed home.from ≡ scavenge_offsets is.cell.layout is.cell.length =
      ap offsets_in (before_is_young ending.begun is) in
      let copied = (renaming ending).copied home offset there (omega (arith, within, copy_size ending home is))
      (λ slot. raw (subst (λ offsets. Contains offsets offset) same_slots slot)) in
      let same : new.0 ≡ old.0 =
      sym (word_reads offset new.0 has new.1) ∙ copied
      ∙ word_before ending (home.from + offset) old.0 (young_word ending home offset old.0 is old.1) in
      new.1 ∙ ap (λ n. Some n) same ∙ sym old.1

  -- the words of a home copy are moved
  copy_moved : (home : Home) (there : Contains homes home) (is : IsYoungCell start.heap home.from)
      → AreMoved (place_after start homes) is.cell is.words
      (words_of_cell (end_heap ending) (moved_to is.cell home.to))
  copy_moved home there is =
      let has = copy_stands ending home there is in
      let body = words_of_cell (end_heap ending) (moved_to is.cell home.to) in
      record {
        long = words_are_size has ∙ sym (words_are_size is.has);
        slots = λ offset word new slot stands stands_too.
            slot_moved home offset word new there is slot stands (word_reads offset new has stands_too);
        raw = λ offset raw.
            elim (cases_lt offset is.cell.size) [
              | inl within ↦ raw_same home offset there is raw within
              | inr past ↦
                  slice_get_past body offset (omega (arith, past, words_are_size has))
                  ∙ sym (slice_get_past is.words offset (omega (arith, past, words_are_size is.has)))
            ];
      }

  -- a word of a cell of a page that is no free run and that is not recorded is as it was
  pub page_kept : {cell : Cell} {body : List ℕ} (offset word : ℕ) → HasCell start.heap cell body
      → cell.at < eden_start start.heap.space → begins_free start.rows cell.at ≡ false → offset < cell.size
      → HasWord body offset word → (Contains start.recorded (cell.at + offset) → ⊥)
      → slice_get now (cell.at + offset) ≡ Some word
  page_kept {cell} offset word has below none within stands not_recorded =
      let halves = the_halves ending in
      let place : ℕ = cell.at + offset in
      let in_page : place < eden_start start.heap.space = omega (arith, within, ends_in_page has below) in
      let of_cell : IsOfCell cell place = record { from = omega arith; below = omega (arith, within) } in
      outside_same ending place (inl in_page)
      (λ root. omega (arith, in_page, root.stands, halves.from, halves.room_from, halves.room_to, halves.to))
      not_recorded (run_of_no_cell ending.begun place has of_cell none)
      ∙ word_found offset word has within stands

  -- a slot of such a cell that is recorded is moved
  recorded_moved : {cell : Cell} {body : List ℕ} (offset word new : ℕ) → HasCell start.heap cell body
      → Contains (scavenge_offsets cell.layout cell.length) offset → HasWord body offset word
      → Contains start.recorded (cell.at + offset) → get_or now (cell.at + offset) 0 ≡ new
      → IsMovedWord (place_after start homes) word new
  recorded_moved {cell} offset word new has slot stands recorded reads =
      let place : ℕ = cell.at + offset in
      let was = word_before ending place word (word_reads offset word has stands) in
      word_moved word new (recorded_refers_well ending offset word has slot stands recorded)
      (subst (λ n. IsRenamed homes n new) was
      (subst (IsRenamed homes (get_or fixed.before place 0)) reads
      ((renaming ending).slots place ((ending.begun.begins.slots place).1 (inr recorded)))))

  -- each slot of such a cell is moved
  page_slot_moved : {cell : Cell} {body : List ℕ} (offset word new : ℕ) → HasCell start.heap cell body
      → cell.at < eden_start start.heap.space → begins_free start.rows cell.at ≡ false
      → Contains (scavenge_offsets cell.layout cell.length) offset → HasWord body offset word
      → get_or now (cell.at + offset) 0 ≡ new → IsMovedWord (place_after start homes) word new
  page_slot_moved {cell} offset word new has below none slot stands reads =
      let within = (slots_lie_within start.heap.space start.heap.words cell offset (has_is_cell has) slot).within in
      elim (young_or_not word (eden_start start.heap.space)) [
        | inl young ↦
            recorded_moved offset word new has slot stands
            (young_is_recorded ending offset word young.0 has below slot stands young.1 young.2) reads
        | inr old ↦
            let kept = page_kept offset word has below none within stands (λ recorded.
            let young = recorded_is_young ending offset word has within stands recorded in
            omega (arith, old young.0 young.1, young.2)) in
            kept_is_moved start homes word new
            (λ at refers in_page.
            used_is_no_run ending.begun (slot_target ending offset word at has slot stands refers))
            old (sym reads ∙ get_or_from_slice_get now (cell.at + offset) word 0 kept)
      ]

  -- no other word of it is recorded
  raw_not_recorded : {cell : Cell} {body : List ℕ} (offset : ℕ) → HasCell start.heap cell body → offset < cell.size
      → (Contains (scavenge_offsets cell.layout cell.length) offset → ⊥)
      → Contains start.recorded (cell.at + offset) → ⊥
  raw_not_recorded {cell} offset has within raw recorded =
      let page_slot = ((ending.begun.remembered (cell.at + offset)).0 recorded).0 in
      let slot = page_slot.slot in
      let same : page_slot.cell ≡ cell =
      cells_apart (cell.at + offset) ending.begun.whole.rows page_slot.has has (slot_of_cell page_slot.has slot)
      (record { from = omega arith; below = omega (arith, within) }) in
      let own : IsSlotOf cell (cell.at + offset) = subst (λ (one : Cell). IsSlotOf one (cell.at + offset)) same slot in
      let here : own.offset ≡ offset = omega (arith, own.stands) in
      raw (subst (Contains (scavenge_offsets cell.layout cell.length)) here own.visited)

  -- so it is as it was
  page_raw : {cell : Cell} {body : List ℕ} (offset : ℕ) → (has : HasCell start.heap cell body)
      → (below : cell.at < eden_start start.heap.space) → (none : begins_free start.rows cell.at ≡ false)
      → (Contains (scavenge_offsets cell.layout cell.length) offset → ⊥) → offset < cell.size
      → slice_get (words_of_cell (end_heap ending) cell) offset ≡ slice_get body offset
  page_raw {cell} {body} offset has below none raw within =
      let stays = page_stays ending has below none in
      let old = word_there offset has within in
      let new = word_there offset stays within in
      let kept = page_kept offset old.0 has below none within old.1 (raw_not_recorded offset has within raw) in
      let same : new.0 ≡ old.0 =
      sym (word_reads offset new.0 stays new.1) ∙ get_or_from_slice_get now (cell.at + offset) old.0 0 kept in
      new.1 ∙ ap (λ n. Some n) same ∙ sym old.1

  -- the words of a cell of a page that was no free run are moved
  page_moved : {cell : Cell} {body : List ℕ} → (has : HasCell start.heap cell body)
      → (below : cell.at < eden_start start.heap.space) → (none : begins_free start.rows cell.at ≡ false)
      → AreMoved (place_after start homes) cell body (words_of_cell (end_heap ending) cell)
  page_moved {cell} {body} has below none =
      let stays = page_stays ending has below none in
      let others = words_of_cell (end_heap ending) cell in
      record {
        long = words_are_size stays ∙ sym (words_are_size has);
        slots = λ offset word new slot stands stands_too.
            page_slot_moved offset word new has below none slot stands (word_reads offset new stays stands_too);
        raw = λ offset raw.
            elim (cases_lt offset cell.size) [
              | inl within ↦ page_raw offset has below none raw within
              | inr past ↦
                  slice_get_past others offset (omega (arith, past, words_are_size stays))
                  ∙ sym (slice_get_past body offset (omega (arith, past, words_are_size has)))
            ];
      }

  -- each cell that stays stands where it came
  stands_by : {cell : Cell} {body : List ℕ} (to : ℕ) → HasCell start.heap cell body → StaysAt start homes cell.at to
      → StandsMoved (end_heap ending) (place_after start homes) cell body to
  stands_by {cell} {body} to has (StaysAt.in_page below none same) =
      subst (λ n. StandsMoved (end_heap ending) (place_after start homes) cell body n) same record {
        others = words_of_cell (end_heap ending) cell;
        has = page_stays ending has below none;
        are = page_moved has below none;
      }
  stands_by {cell} {body} to has (StaysAt.at_home young found) =
      let is : IsYoungCell start.heap found.home.from =
      record {
        cell = cell;
        words = body;
        has = has;
        stands = sym found.from;
        young = omega (arith, young, found.from);
      } in
      let end = end_heap ending in
      subst (λ n. StandsMoved end (place_after start homes) cell body n) found.to record {
        others = words_of_cell end (moved_to cell found.home.to);
        has = copy_stands ending found.home found.among is;
        are = copy_moved found.home found.among is;
      }

  -- so it does
  pub stands_moved : (cell : Cell) (body : List ℕ) (to : ℕ) → HasCell start.heap cell body
      → place_after start homes cell.at ≡ Some to
      → StandsMoved (end_heap ending) (place_after start homes) cell body to
  stands_moved cell body to has stays = stands_by to has (stays_at start homes cell.at to stays)
