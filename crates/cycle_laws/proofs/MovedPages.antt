-- What a scavenge leaves of the words of pages.
use Rattle.std.proofs.Common.{◌≡◌, ℕ, ◌+◌, ◌<◌, ◌≤◌, ◌⊎◌, inl, inr, Bool, true, false, ◌&&◌, ◌==◌}
use Rattle.std.proofs.Common.{List, length, Contains, Option, Some, nat_le, nat_lt, slice_index}
use Rattle.std.proofs.Common.{get_or, sym, ◌∙◌, ap, subst, arith, length-take}
use Rattle.std.proofs.lemmas.Bool.{and_parts, or_from, cases_lt, ne_eqb}
use Rattle.std.proofs.lemmas.Bool.{and_right, and_left}
use Rattle.std.proofs.lemmas.Bool.Decides.{nat_tests}
use Rattle.std.proofs.lemmas.Grind.{same_number_lists}
use Rattle.std.proofs.lemmas.Option.{same_Some, get_or_from_slice_get}
use Rattle.tagged_word.specs.Cells.{scavenge_offsets, has_length, length_offset}
use Rattle.tagged_word.specs.Shapes.{shapes_most}
use Rattle.core_parts.proofs.Joining.{decided}
use Rattle.page_space.specs.Extents.{Space, eden_start}
use Rattle.cell_layout.specs.Cells.{layouts_in, reading_of}
use Rattle.cell_layout.specs.CellLaws.{IsOfSlot}
use Rattle.cell_layout.proofs.CellsThere.{slice_get-layouts_in}
use Rattle.cell_layout.proofs.OneCell.{slots_lie_within}
use Rattle.shape_tree.specs.ShapeLayouts.{layout_word}
use Rattle.heap_model.specs.Types.{Cell}
use Rattle.heap_model.specs.Heaps.{Heap, HasCell}
use Rattle.heap_model.specs.Slots.{reference_word}
use Rattle.heap_model.specs.Wholeness.{HasSizes, Whole}
use Rattle.heap_model.proofs.CellsApart.{has_is_cell}
use Rattle.heap_model.proofs.CellWords.{word_there}
use Rattle.heap_model.proofs.WordClasses.{same_reference}
use Rattle.heap_moves.specs.Moved.{IsMovedWord, moved_to}
use Rattle.heap_moves.proofs.MovedWords.{contains_or_not}
use Rattle.mark_world.specs.Pages.{OfTarget, is_head}
use Rattle.mark_world.specs.Pages.{target}
use Rattle.mark_laws.proofs.OwnSpots.{target_old}
use Rattle.mark_laws.proofs.Slots.{some_from}
use Rattle.cycle_state.specs.Cycles.{words_of_pages}
use Rattle.cycle_state.proofs.PageCells.{page_words_are_read}
use Rattle.cycle_laws.specs.Scavenges.{PromotesTo}
use Rattle.cycle_laws.proofs.FirstWorlds.{layouts_count, pages_before}
use Rattle.cycle_laws.proofs.KeptTargets.{target_refers}

-- heaps with the same shapes have the same layout words
pub same_layouts : (old new : Heap) → HasSizes old → HasSizes new → new.space ≡ old.space → new.paths ≡ old.paths
    → layouts_in new.space new.words ≡ layouts_in old.space old.words
same_layouts old new sized sized_new space paths =
    let each : (heap : Heap) → HasSizes heap → (shape : ℕ) → shape < shapes_most
    → get_or (layouts_in heap.space heap.words) shape 0 ≡ layout_word heap.paths shape =
    λ heap is shape below.
    get_or_from_slice_get (layouts_in heap.space heap.words) shape (layout_word heap.paths shape) 0
    (slice_get-layouts_in heap.space heap.words shape below ∙ is.layouts shape below) in
    same_number_lists (layouts_in new.space new.words) (layouts_in old.space old.words)
    (layouts_count new sized_new ∙ sym (layouts_count old sized)) (λ k within.
    let below : k < shapes_most = omega (arith, within, layouts_count new sized_new) in
    each new sized_new k below ∙ ap (λ all. layout_word all k) paths ∙ sym (each old sized k below))

-- a slot that a scavenge visits is no header and no length
pub slot_is_no_head : {heap : Heap} {cell : Cell} {words : List ℕ} (offset : ℕ) → HasCell heap cell words
    → Contains (scavenge_offsets cell.layout cell.length) offset → is_head (reading_of cell) offset ≡ false
slot_is_no_head {heap} {cell} offset has visited =
    let of : IsOfSlot cell offset = slots_lie_within heap.space heap.words cell offset (has_is_cell has) visited in
    let with_length : Bool = has_length cell.layout.kind in
    or_from (offset == 0) (with_length && offset == length_offset)
    (ne_eqb offset 0 (λ same. omega (arith, of.behind_header, same)))
    (elim (decided with_length) [
      | inl test ↦
          and_right with_length (offset == length_offset)
          (ne_eqb offset length_offset (λ same. omega (arith, of.behind_length test, same)))
      | inr none ↦ and_left with_length (offset == length_offset) none
    ])

-- a word lies in the cell that begins at an address
pub inside_bounds : (start size at : ℕ) → (nat_le start at && nat_lt at (start + size)) ≡ true
    → (start ≤ at) × (at < start + size)
inside_bounds start size at test =
    let parts = and_parts (nat_le start at) (nat_lt at (start + size)) test in
    let from = parts.0 in
    let below = parts.1 in
    (grind (arith, nat_tests), grind (arith, nat_tests))

-- What a scavenge leaves of a word of a page's cell that stays: the word; or, in a slot, one that has no target but a
-- promoted cell.
pub data LeavesWord (old new : Heap) (promoted : List ℕ) (cell : Cell) (offset : ℕ) : Type 0 where
  as_it_was : slice_index (words_of_pages new) (cell.at + offset) ≡ slice_index (words_of_pages old) (cell.at + offset)
      → LeavesWord old new promoted cell offset
  in_slot : Contains (scavenge_offsets cell.layout cell.length) offset
      → OfTarget (eden_start old.space) (slice_index (words_of_pages new) (cell.at + offset)) (Contains promoted)
      → LeavesWord old new promoted cell offset

module _ {old new : Heap} {to : ℕ → Option ℕ} {promoted : List ℕ} (promotes : PromotesTo old new to promoted) where
  -- a word that is moved is as it was, or has no target but a promoted cell
  moved_target : (word now : ℕ) → IsMovedWord to word now
      → (now ≡ word) ⊎ OfTarget (eden_start old.space) now (Contains promoted)
  moved_target word now (IsMovedWord.other none same) = inl same
  moved_target word now (IsMovedWord.reference at there is stays new_is) =
      elim (cases_lt at (eden_start old.space)) [
        | inl below ↦
            let here : there ≡ at = promotes.in_place at there below stays in
            inl (new_is ∙ ap reference_word here ∙ sym is)
        | inr young ↦
            inr (some_from (Contains promoted) (target (eden_start old.space) now) (λ t refers.
            let same : t ≡ there = same_reference t there
            (sym (target_refers (eden_start old.space) now t refers) ∙ new_is) in
            let below = target_old (eden_start old.space) now t refers in
            elim (promotes.young at there young stays) [
              | inl still ↦ absurd (omega (arith, same, below, still))
              | inr came ↦ subst (Contains promoted) (sym same) came
            ]))
      ]

  -- so it is with each word
  pub leaves_word : (cell : Cell) (words : List ℕ) (offset : ℕ) → HasCell old cell words
      → cell.at < eden_start old.space → to cell.at ≡ Some cell.at → offset < cell.size
      → LeavesWord old new promoted cell offset
  leaves_word cell words offset has of_page stays within =
      let stood = promotes.moved.stands cell words cell.at has stays in
      let of_page_new : cell.at < eden_start new.space =
      subst (λ (space : Space). cell.at < eden_start space) (sym promotes.moved.space) of_page in
      let was = word_there offset has within in
      let is = word_there offset stood.has within in
      let old_word = page_words_are_read old cell words offset was.0 has of_page was.1 in
      let new_word = page_words_are_read new (moved_to cell cell.at) stood.others offset is.0 stood.has of_page_new is.1
      in
      elim (contains_or_not (scavenge_offsets cell.layout cell.length) offset) [
        | inr none ↦
            let same : is.0 ≡ was.0 = same_Some is.0 was.0 (sym is.1 ∙ stood.are.raw offset none ∙ was.1) in
            LeavesWord.as_it_was (new_word ∙ same ∙ sym old_word)
        | inl slot ↦ elim (moved_target was.0 is.0 (stood.are.slots offset was.0 is.0 slot was.1 is.1)) [
          | inl same ↦ LeavesWord.as_it_was (new_word ∙ same ∙ sym old_word)
          | inr refers ↦
              LeavesWord.in_slot slot
              (subst (λ word. OfTarget (eden_start old.space) word (Contains promoted)) (sym new_word) refers)
        ]
      ]

  -- no cell of a page that stays stands where one was promoted
  pub not_promoted : {cell : Cell} {words : List ℕ} (at : ℕ) → HasCell old cell words → cell.at ≡ at
      → at < eden_start old.space → to at ≡ Some at → Contains promoted at → ⊥
  not_promoted {cell} {words} at has stands of_page stays came =
      let one = promotes.each at came in
      let same : cell.at ≡ one.cell.at =
      promotes.moved.apart cell one.cell words one.words at has one.has (ap to stands ∙ stays) one.came in
      omega (arith, same, stands, of_page, one.young)

  -- there are as many words of pages
  pub as_many : Whole old → length (words_of_pages new) ≡ length (words_of_pages old)
  as_many whole = omega (
    arith,
    pages_before old whole.sized,
    pages_before new promotes.moved.sized,
    ap eden_start promotes.moved.space,
    length-take (eden_start old.space) old.words,
    length-take (eden_start new.space) new.words,
  )
