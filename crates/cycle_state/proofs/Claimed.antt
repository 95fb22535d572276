-- What a step asks of the mutator holds of the words of a claimed cell, and they stay claimed.
use Rattle.std.proofs.Common.{◌≡◌, ◌≢◌, ℕ, ◌+◌, ◌<◌, ◌≤◌, ◌⊎◌, inl, inr, true, false, not, List, length, Some, IsTrue}
use Rattle.std.proofs.Common.{refl, sym, ◌∙◌, ap, subst, arith, length-take}
use Rattle.std.proofs.lemmas.Bool.{and_left, and_right, or_left, or_right, not_from_false, false≢true, cases_eq}
use Rattle.std.proofs.lemmas.Bool.{cases_lt}
use Rattle.std.proofs.lemmas.Bool.Decides.{nat_tests}
use Rattle.core_parts.proofs.Joining.{decided}
use Rattle.page_space.specs.Extents.{eden_start}
use Rattle.cell_layout.specs.Cells.{layouts_in, reading_of}
use Rattle.mark_world.specs.Pages.{EachFree, IsOutside, is_free, is_head, is_head_of, is_inside, is_quiet, leaves_alone}
use Rattle.mark_world.specs.Pages.{cell_at, offset_in}
use Rattle.mark_world.specs.Coverage.{cell_of}
use Rattle.mark_laws.specs.Types.{Kind, Reading, World}
use Rattle.mark_laws.proofs.Stores.{free_is}
use Rattle.heap_model.specs.Types.{Cell}
use Rattle.heap_model.specs.Heaps.{Heap, HasCell}
use Rattle.heap_model.specs.Wholeness.{HasRows, Whole}
use Rattle.heap_model.proofs.CellsApart.{cells_apart, first_of_cell, has_is_cell}
use Rattle.cycle_state.specs.Claims.{ReadsBeside, Claims, is_head_in}
use Rattle.cycle_state.specs.ClaimLaws.{PageCellsAreClaimed, ClaimsGoOn, ClaimsAllowSlots, ClaimsAllowOwned}
use Rattle.cycle_state.specs.ClaimLaws.{ClaimsAllowHeaders, ClaimsAllowCells}
use Rattle.cycle_state.specs.Cycles.{words_of_pages, world_in}
use Rattle.cycle_state.specs.Resting.{Rests}
use Rattle.mark_world.specs.Cycles.{Cycle}
use Rattle.cycle_state.proofs.PageCells.{page_cells_are_read, page_cell_within}

-- where a cell that a helper may read stands
abbrev ReadsAt : Heap → ℕ → Cell → Type 0
ReadsAt heap start other =
    cell_at (eden_start heap.space) (words_of_pages heap) (layouts_in heap.space heap.words) start
    ≡ Some (reading_of other)

-- a cell that begins at another address lies beside the cell
cells_beside : {heap : Heap} {one cell : Cell} {words others : List ℕ} {start : ℕ} → HasRows heap
    → HasCell heap one others → HasCell heap cell words → one.at ≡ start → start ≢ cell.at
    → (start + one.size ≤ cell.at) ⊎ (cell.at + cell.size ≤ start)
cells_beside {heap} {one} {cell} {start = start} rows has_one has stands other = elim (cases_lt start cell.at) [
  | inl before ↦ elim (cases_lt cell.at (start + one.size)) [
    | inl meets ↦
        let is : one ≡ cell = cells_apart cell.at rows has_one has
        (record { from = omega (arith, before, stands); below = omega (arith, meets, stands) }) (first_of_cell has) in
        absurd (other (sym stands ∙ ap (λ (c : Cell). c.at) is))
    | inr ends ↦ inl ends
  ]
  | inr not_before ↦ elim (cases_lt start (cell.at + cell.size)) [
    | inl meets ↦
        let first = first_of_cell has_one in
        let is : one ≡ cell = cells_apart one.at rows has_one has first
        (record { from = omega (arith, not_before, stands); below = omega (arith, meets, stands) }) in
        absurd (other (sym stands ∙ ap (λ (c : Cell). c.at) is))
    | inr behind ↦ inr behind
  ]
]

-- the cells of pages are claimed in the world with no helpers
claimed_alone : {heap : Heap} {cycle : Cycle} {cell : Cell} {words : List ℕ} → Whole heap → Rests heap cycle
    → HasCell heap cell words → cell.at < eden_start heap.space
    → Claims (world_in heap cycle) cell.at cell.size cell.layout.kind
claimed_alone {heap} {cycle} {cell} {words} whole rests has of_page =
    let within = page_cell_within has of_page in
    record {
      page = within;
      there = omega (arith, within, (has_is_cell has).reads.there, length-take (eden_start heap.space) heap.words);
      own = λ free. record {
        cell = reading_of cell;
        is = page_cells_are_read heap cell words has of_page;
        size_is = refl;
        kind_is = refl;
      };
      others = λ start free other.
          let there = rests.free start free in
          let old_page : there.cell.at < eden_start heap.space =
          subst (λ at. at < eden_start heap.space) (sym there.stands) there.of_page in
          record {
            cell = reading_of there.cell;
            is = subst (λ at. ReadsAt heap at there.cell) there.stands
                (page_cells_are_read heap there.cell there.words there.has old_page);
            beside = cells_beside whole.rows there.has has there.stands other;
          };
    }

-- so they are in each world of the heap's pages
pub page_cells_are_claimed : PageCellsAreClaimed
page_cells_are_claimed heap cycle world cell words whole rests of has of_page =
    let alone = claimed_alone whole rests has of_page in
    subst (λ (one : World). Claims one cell.at cell.size cell.layout.kind) (sym of.is)
    (record {
      page = alone.page;
      there = alone.there;
      own = λ free.
          let it = alone.own free in
          record { cell = it.cell; is = it.is; size_is = it.size_is; kind_is = it.kind_is };
      others = λ start free other.
          let it = alone.others start free other in record { cell = it.cell; is = it.is; beside = it.beside };
    })

-- they stay claimed while the world goes on
pub claims_go_on : ClaimsGoOn
claims_go_on world next at size kind goes claims = record {
  page = omega (arith, goes.old, claims.page);
  there = omega (arith, goes.long, claims.there);
  own = λ free.
      let was = claims.own (goes.free at free) in
      let now = goes.reads at free was.cell was.is in
      record {
        cell = now.cell;
        is = now.is;
        size_is = now.widens.size ∙ was.size_is;
        kind_is = now.one_kind ∙ was.kind_is;
      };
  others = λ start free other.
      let was = claims.others start (goes.free start free) other in
      let now = goes.reads start free was.cell was.is in
      record {
        cell = now.cell;
        is = now.is;
        beside = elim was.beside [
          | inl before ↦ inl (omega (arith, now.widens.size, before))
          | inr behind ↦ inr behind
        ];
      };
}

module _ {world : World} {at size : ℕ} {kind : Kind} (claims : Claims world at size kind) {offset : ℕ}
    (within : offset < size) where
  -- the word is there
  word_there : at + offset < length world.words
  word_there = omega (arith, within, claims.there)

  -- it lies in no cell of another free start
  beside_it : {start : ℕ} (one : ReadsBeside world start at size)
      → is_inside start (Some one.cell) (at + offset) ≡ false
  beside_it {start} one = elim one.beside [
    | inl before ↦ grind (arith, nat_tests)
    | inr behind ↦ grind (arith, nat_tests)
  ]

  -- whichever it is
  pub outside_other : (start : ℕ) → IsTrue (is_free world.main start) → start ≢ at
      → is_inside start (cell_of world start) (at + offset) ≡ false
  outside_other start free other =
      let one = claims.others start free other in
      ap (λ found. is_inside start found (at + offset)) one.is ∙ beside_it one

  -- nor in one of any, where its own is none
  outside_all : (IsTrue (is_free world.main at) → ⊥)
      → IsOutside world.old world.words world.layouts world.main (at + offset)
  outside_all not_free start free = elim (cases_eq start at) [
    | inl same ↦ absurd (not_free (subst (λ one. IsTrue (is_free world.main one)) same free))
    | inr other ↦ outside_other start free other
  ]

  -- it is no head of a free start's cell, where it is none of its own cell
  no_head : is_head_in kind offset ≡ false
      → EachFree world.main (λ start. is_head_of start (cell_of world start) (at + offset) ≡ false)
  no_head none start free = elim (cases_eq start at) [
    | inl same ↦
        let own = claims.own (subst (λ one. IsTrue (is_free world.main one)) same free) in
        let here : offset_in at (at + offset) ≡ offset = omega arith in
        subst (λ one. is_head_of one (cell_of world one) (at + offset) ≡ false) (sym same)
        (ap (λ found. is_head_of at found (at + offset)) own.is
        ∙ and_right (is_inside at (Some own.cell) (at + offset)) (is_head own.cell (offset_in at (at + offset)))
        (ap (is_head own.cell) here ∙ ap (λ k. is_head_in k offset) own.kind_is ∙ none))
    | inr other ↦
        let one = claims.others start free other in
        ap (λ found. is_head_of start found (at + offset)) one.is
        ∙ and_left (is_inside start (Some one.cell) (at + offset)) (is_head one.cell (offset_in start (at + offset)))
        (beside_it one)
  ]

  -- and no helper minds it, where it is a quiet word of its own cell
  pub left_alone : (IsTrue (is_free world.main at) → (cell : Reading) → cell_of world at ≡ Some cell
      → is_quiet cell offset ≡ true)
      → EachFree world.main (λ start. leaves_alone start (cell_of world start) (at + offset) ≡ true)
  left_alone quiet start free = elim (cases_eq start at) [
    | inl same ↦
        let own_free = subst (λ one. IsTrue (is_free world.main one)) same free in
        let own = claims.own own_free in
        let here : offset_in at (at + offset) ≡ offset = omega arith in
        subst (λ one. leaves_alone one (cell_of world one) (at + offset) ≡ true) (sym same)
        (ap (λ found. leaves_alone at found (at + offset)) own.is
        ∙ or_right (not (is_inside at (Some own.cell) (at + offset)))
        (is_quiet own.cell (offset_in at (at + offset)))
        (ap (is_quiet own.cell) here ∙ quiet own_free own.cell own.is))
    | inr other ↦
        let one = claims.others start free other in
        ap (λ found. leaves_alone start found (at + offset)) one.is
        ∙ or_left (not (is_inside start (Some one.cell) (at + offset)))
        (is_quiet one.cell (offset_in start (at + offset)))
        (not_from_false (is_inside start (Some one.cell) (at + offset)) (beside_it one))
  ]

-- so a slot may be stored
pub claims_allow_slots : ClaimsAllowSlots
claims_allow_slots world at size kind offset word claims within none fits born = record {
  place = word_there claims within;
  no_head = no_head claims within none;
  slot_word = fits;
  born = born;
}

-- a word that is owned
pub claims_allow_owned : ClaimsAllowOwned
claims_allow_owned world at size kind offset claims within quiet = record {
  place = word_there claims within;
  alone = inr (left_alone claims within quiet);
}

-- a header
pub claims_allow_headers : ClaimsAllowHeaders
claims_allow_headers world at size kind word claims some safe sure = record {
  place = elim (decided (is_free world.main at)) [
    | inl free ↦ inl free
    | inr not_free ↦
        let here : at + 0 ≡ at = omega arith in
        inr (subst (IsOutside world.old world.words world.layouts world.main) here
        (outside_all claims some (λ free. false≢true (sym not_free ∙ free))))
  ];
  safe = safe;
  sure = sure;
}

-- and a new cell begun
pub claims_allow_cells : ClaimsAllowCells
claims_allow_cells world at size kind offset claims within mine = record {
  page = omega (arith, within, claims.page);
  outside = outside_all claims within (λ free. (free_is world.main at free).1 mine);
}
