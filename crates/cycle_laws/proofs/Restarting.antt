-- The world after a scavenge is one from which marking restarts.
use Rattle.std.proofs.Common.{◌≡◌, ℕ, ◌+◌, ◌-◌, ◌<◌, ◌⊎◌, inl, inr, true, not, ◌&&◌}
use Rattle.std.proofs.Common.{List, [], All, Contains, Option, Some, IsTrue, slice_index}
use Rattle.std.proofs.Common.{refl, sym, ◌∙◌, ap, subst, arith}
use Rattle.std.proofs.lemmas.Bool.{and_parts, and_from, or_left}
use Rattle.std.proofs.lemmas.Bool.{false≢true, not_from_false}
use Rattle.std.proofs.lemmas.List.Elements.{All-contains}
use Rattle.std.proofs.lemmas.Option.{same_Some}
use Rattle.tagged_word.specs.declared.reading.Reading.{Reading}
use Rattle.tagged_word.specs.Cells.{tagged_offsets}
use Rattle.core_parts.specs.Lists.{is_in}
use Rattle.core_parts.proofs.Joining.{decided, in_found, not_found}
use Rattle.page_space.specs.Extents.{eden_start}
use Rattle.cell_layout.specs.Cells.{layouts_in, reading_of}
use Rattle.cell_layout.specs.CellLaws.{IsOfSlot}
use Rattle.cell_layout.proofs.OneCell.{slots_lie_within}
use Rattle.heap_model.specs.Types.{Cell}
use Rattle.heap_model.specs.Heaps.{Heap, HasCell}
use Rattle.heap_model.specs.Wholeness.{Whole}
use Rattle.heap_model.proofs.CellsApart.{has_is_cell}
use Rattle.heap_moves.proofs.MovedWords.{contains_or_not}
use Rattle.live_cells.proofs.Slots.{marking_slots}
use Rattle.mark_world.specs.declared.views.HelperView.{HelperView}
use Rattle.mark_world.specs.declared.world.World.{World}
use Rattle.mark_world.specs.Pages.{OfTarget, is_free, is_head, is_head_of, is_inside, is_quiet, leaves_alone}
use Rattle.mark_world.specs.Pages.{offset_in, slots_of}
use Rattle.mark_world.specs.Coverage.{cell_of}
use Rattle.mark_laws.specs.Restarts.{IsLeftAlone, IsMovedSlot, IsRestarted, KeepsCell, KeepsDone}
use Rattle.mark_laws.proofs.Joins.{all_from}
use Rattle.mark_laws.proofs.Slots.{each_slot}
use Rattle.mark_laws.proofs.Starts.{free_or_mine}
use Rattle.mark_world.specs.Cycles.{Cycle}
use Rattle.cycle_state.specs.Cycles.{IsWorldOf, main_of, words_of_pages}
use Rattle.cycle_state.specs.Resting.{IsPageCell, Rests}
use Rattle.cycle_state.proofs.PageCells.{page_cells_are_read}
use Rattle.cycle_laws.specs.Scavenges.{PromotesTo, BlackensPromoted, ScavengesRestart}
use Rattle.cycle_laws.specs.Steps.{IsPageWord}
use Rattle.cycle_laws.proofs.LastMarking.{home}
use Rattle.cycle_laws.proofs.Lists.{some_decided}
use Rattle.cycle_laws.proofs.FreeStarts.{left_alone}
use Rattle.cycle_laws.proofs.MovedPages.{LeavesWord, leaves_word, not_promoted, as_many, same_layouts}
use Rattle.cycle_laws.proofs.MovedPages.{slot_is_no_head, inside_bounds}

module _ {old new : Heap} {to : ℕ → Option ℕ} {promoted : List ℕ} {cycle : Cycle} (whole : Whole old)
    (promotes : PromotesTo old new to promoted) (rests : Rests old cycle) (world : World) where
  -- a word that lies in no free start's cell is left alone
  alone_outside : (at : ℕ)
      → ((start : ℕ) → IsTrue (is_free (main_of cycle) start)
      → is_inside start (cell_of (home old cycle world) start) at ≡ true → ⊥)
      → IsLeftAlone (home old cycle world) at
  alone_outside at none start free =
      let there = rests.free start free in
      let of_page : there.cell.at < eden_start old.space =
      subst (λ n. n < eden_start old.space) (sym there.stands) there.of_page in
      let reads : cell_of (home old cycle world) start ≡ Some (reading_of there.cell) =
      subst (λ n. cell_of (home old cycle world) n ≡ Some (reading_of there.cell)) there.stands
      (page_cells_are_read old there.cell there.words there.has of_page) in
      elim (decided (is_inside start (Some (reading_of there.cell)) at)) [
        | inl inside ↦ absurd (none start free (ap (λ found. is_inside start found at) reads ∙ inside))
        | inr outside ↦
            ap (λ found. leaves_alone start found at) reads
            ∙ or_left (not (is_inside start (Some (reading_of there.cell)) at))
            (is_quiet (reading_of there.cell) (offset_in start at))
            (not_from_false (is_inside start (Some (reading_of there.cell)) at) outside)
      ]

  -- what a free start reads
  free_cell : (start : ℕ) → IsTrue (is_free (main_of cycle) start)
      → (cell : Cell) × (words : List ℕ) × HasCell old cell words × (cell.at ≡ start)
      × (cell.at < eden_start old.space) × (cell_of (home old cycle world) start ≡ Some (reading_of cell))
  free_cell start free =
      let there = rests.free start free in
      let of_page : there.cell.at < eden_start old.space =
      subst (λ n. n < eden_start old.space) (sym there.stands) there.of_page in (
        there.cell,
        there.words,
        there.has,
        there.stands,
        of_page,
        subst (λ n. cell_of (home old cycle world) n ≡ Some (reading_of there.cell)) there.stands
            (page_cells_are_read old there.cell there.words there.has of_page),
      )

  -- what becomes of a word of a page
  abbrev WordThen : ℕ → Type 0
  WordThen at =
      (slice_index (words_of_pages new) at ≡ slice_index (words_of_pages old) at)
      ⊎ IsLeftAlone (home old cycle world) at
      ⊎ IsMovedSlot (home old cycle world) promoted at (slice_index (words_of_pages new) at)

  -- a word of a free start's cell
  word_inside : (start at : ℕ) → (free : IsTrue (is_free (main_of cycle) start)) → to start ≡ Some start
      → is_inside start (cell_of (home old cycle world) start) at ≡ true → WordThen at
  word_inside start at free stays inside =
      let there = free_cell start free in
      let cell : Cell = there.0 in
      let bounds = inside_bounds start cell.size at (sym (ap (λ found. is_inside start found at) there.5) ∙ inside) in
      let offset : ℕ = at - start in
      let place : cell.at + offset ≡ at = omega (arith, bounds.0, there.3) in
      let within : offset < cell.size = omega (arith, bounds.0, bounds.1) in
      let stays_cell : to cell.at ≡ Some cell.at = subst (λ n. to n ≡ Some n) (sym there.3) stays in
      elim (leaves_word promotes cell there.1 offset there.2 there.4 stays_cell within) [
        | LeavesWord.as_it_was same ↦
            inl (subst (λ n. slice_index (words_of_pages new) n ≡ slice_index (words_of_pages old) n) place same)
        | LeavesWord.in_slot visited refers ↦
            elim (contains_or_not (tagged_offsets cell.layout cell.length) offset) [
              | inl tagged ↦ inr (inr (record {
                start = start;
                free = free;
                cell = reading_of cell;
                reads = there.5;
                offset = offset;
                slot = tagged;
                place = omega (arith, bounds.0);
                target = subst (λ n. OfTarget (eden_start old.space) (slice_index (words_of_pages new) n)
                    (Contains promoted)) place refers;
              }))
              | inr none ↦
                  let quiet : is_quiet (reading_of cell) offset ≡ true =
                  and_from (not (is_head (reading_of cell) offset)) (not (is_in (slots_of (reading_of cell)) offset))
                  (not_from_false (is_head (reading_of cell) offset) (slot_is_no_head offset there.2 visited))
                  (not_from_false (is_in (slots_of (reading_of cell)) offset)
                  (not_found (slots_of (reading_of cell)) offset none)) in
                  let word : IsPageWord old cell offset =
                  record { words = there.1; has = there.2; of_page = there.4; within = within } in
                  inr (inl (subst (IsLeftAlone (home old cycle world)) place (left_alone whole rests word quiet)))
            ]
      ]

  -- so it is with each word of a page, where free starts stay
  words_then : ((start : ℕ) → IsTrue (is_free (main_of cycle) start) → to start ≡ Some start) → (at : ℕ) → WordThen at
  words_then stays at =
      elim (some_decided (λ start. IsTrue (is_free (main_of cycle) start)
      × (is_inside start (cell_of (home old cycle world) start) at ≡ true)) cycle.starts (λ start there.
      elim (decided (is_free (main_of cycle) start)) [
        | inr other ↦ inr (λ both. false≢true (sym other ∙ both.0))
        | inl free ↦ elim (decided (is_inside start (cell_of (home old cycle world) start) at)) [
          | inl inside ↦ inl (free, inside)
          | inr outside ↦ inr (λ both. false≢true (sym outside ∙ both.1))
        ]
      ])) [
        | inl some ↦ word_inside some.0 at some.2.0 (stays some.0 some.2.0) some.2.1
        | inr none ↦ inr (inl (alone_outside at (λ start free inside.
            let parts = and_parts (is_in cycle.starts start) (not (is_in cycle.mine start)) free in
            none (start, in_found cycle.starts start parts.0, (free, inside)))))
      ]

  -- so no promoted cell was published
  unpublished : ((start : ℕ) → IsTrue (is_free (main_of cycle) start) → to start ≡ Some start)
      → All (λ at. to at ≡ Some at) cycle.mine → (at : ℕ) → Contains promoted at → Contains cycle.starts at → ⊥
  unpublished stays mine_stays at came start = elim (free_or_mine (home old cycle world) at start) [
    | inl free ↦
        let there = rests.free at free in
        not_promoted promotes at there.has there.stands there.of_page (stays at free) came
    | inr mine ↦
        let there = All-contains (IsPageCell old) cycle.mine at rests.mine mine in
        not_promoted promotes at there.has there.stands there.of_page
        (All-contains (λ n. to n ≡ Some n) cycle.mine at mine_stays mine) came
  ]

module _ {old new : Heap} {to : ℕ → Option ℕ} {promoted : List ℕ} (whole : Whole old)
    (promotes : PromotesTo old new to promoted) (cycle later : Cycle) (world next : World) where
  -- a cell that the mutator made black is kept, where it stays
  keeps_cell : (at : ℕ) → IsPageCell old at → to at ≡ Some at
      → KeepsCell (home old cycle world) promoted (home new later next) at
  keeps_cell at there stays =
      let cell : Cell = there.cell in
      let of_page : cell.at < eden_start old.space =
      subst (λ n. n < eden_start old.space) (sym there.stands) there.of_page in
      let stays_cell : to cell.at ≡ Some cell.at = subst (λ n. to n ≡ Some n) (sym there.stands) stays in
      let reads : cell_of (home old cycle world) at ≡ Some (reading_of cell) =
      subst (λ n. cell_of (home old cycle world) n ≡ Some (reading_of cell)) there.stands
      (page_cells_are_read old cell there.words there.has of_page) in
      record {
        heads = λ place head.
            let test : (is_inside at (Some (reading_of cell)) place && is_head (reading_of cell) (offset_in at place))
            ≡ true = sym (ap (λ found. is_head_of at found place) reads) ∙ head in
            let parts = and_parts (is_inside at (Some (reading_of cell)) place)
            (is_head (reading_of cell) (offset_in at place)) test in
            let bounds = inside_bounds at cell.size place parts.0 in
            let offset : ℕ = place - at in
            let here : cell.at + offset ≡ place = omega (arith, bounds.0, there.stands) in
            elim (leaves_word promotes cell there.words offset there.has of_page stays_cell
            (omega (arith, bounds.0, bounds.1))) [
              | LeavesWord.as_it_was same ↦
                  subst (λ n. slice_index (words_of_pages new) n ≡ slice_index (words_of_pages old) n) here same
              | LeavesWord.in_slot visited refers ↦
                  absurd (false≢true (sym (slot_is_no_head offset there.has visited) ∙ parts.1))
            ];
        slots = each_slot (home old cycle world) at (λ offset word.
            (slice_index (words_of_pages new) (at + offset) ≡ word)
            ⊎ OfTarget (eden_start old.space) (slice_index (words_of_pages new) (at + offset)) (Contains promoted))
            (λ reading e offset tagged.
            let same : reading ≡ reading_of cell = same_Some reading (reading_of cell) (sym e ∙ reads) in
            let visited = marking_slots cell.layout.kind cell.layout cell.length offset
            (subst (λ (one : Reading). Contains (slots_of one) offset) same tagged) in
            let of : IsOfSlot cell offset =
            slots_lie_within old.space old.words cell offset (has_is_cell there.has) visited in
            elim (leaves_word promotes cell there.words offset there.has of_page stays_cell of.within) [
              | LeavesWord.as_it_was stands ↦
                  inl (subst (λ n. slice_index (words_of_pages new) (n + offset)
                  ≡ slice_index (words_of_pages old) (n + offset)) there.stands stands)
              | LeavesWord.in_slot slot refers ↦
                  inr (subst (λ n. OfTarget (eden_start old.space) (slice_index (words_of_pages new) (n + offset))
                  (Contains promoted)) there.stands refers)
            ]);
      }

  -- the world afterwards is the one before, but for words, colours and the mutator's view
  rest_is : IsWorldOf old cycle world → BlackensPromoted world next promoted
      → home new later next
      ≡ record (home old cycle world) {
        words = words_of_pages new;
        colours = next.colours;
        main = (home new later next).main;
      }
  rest_is of blackens =
      let space = promotes.moved.space in
      let made : ℕ → List ℕ → List ℕ → List HelperView → World = λ size layouts board helpers. record {
        old = size;
        words = words_of_pages new;
        layouts = layouts;
        colours = next.colours;
        board = board;
        main = (home new later next).main;
        helpers = helpers;
      } in
      ap (λ size. made size (layouts_in new.space new.words) next.board next.helpers) (ap eden_start space)
      ∙ ap (λ layouts. made (eden_start old.space) layouts next.board next.helpers)
      (same_layouts old new whole.sized promotes.moved.sized space promotes.moved.paths)
      ∙ ap (λ board. made (eden_start old.space) (layouts_in old.space old.words) board next.helpers) blackens.board
      ∙ ap (λ helpers. made (eden_start old.space) (layouts_in old.space old.words) world.board helpers)
      blackens.helpers

-- so marking restarts
pub scavenges_restart : ScavengesRestart
scavenges_restart old new to promoted cycle later world next whole promotes joins rests stays mine_stays of of_next
    blackens =
    let restarted : IsRestarted (home old cycle world) promoted (home new later next) = record {
      rest = rest_is whole promotes cycle later world next of blackens;
      unpublished = unpublished whole promotes rests world stays mine_stays;
      starts = joins.starts;
      born = joins.born;
      mine = joins.mine;
      sure = joins.sure;
      owed = refl;
      grey = blackens.grey;
      coloured = blackens.count;
      blackened = blackens.blackened;
      others = blackens.others;
      count = as_many promotes whole;
      words = λ at below. words_then whole promotes rests world stays at;
    } in
    let kept : KeepsDone (home old cycle world) [] promoted (home new later next) =
    all_from (λ at. Contains [] at ⊎ KeepsCell (home old cycle world) promoted (home new later next) at) cycle.mine
    (λ at there. inr (keeps_cell whole promotes cycle later world next at
    (All-contains (IsPageCell old) cycle.mine at rests.mine there)
    (All-contains (λ n. to n ≡ Some n) cycle.mine at mine_stays there))) in
    let P : World → World → Type 0 =
    λ one other. IsRestarted one promoted other × KeepsDone one [] promoted other in
    subst (λ one. P one next) (sym of.is)
    (subst (λ other. P (home old cycle world) other) (sym of_next.is) (restarted, kept))
