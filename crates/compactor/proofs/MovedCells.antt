-- The heap that a compaction leaves is the old one moved.
use Rattle.std.proofs.Common.{◌≡◌, ℕ, ◌+◌, ◌-◌, ◌/◌, ◌%◌, ◌^◌, ◌==◌, ◌&&◌, ◌≤◌, ◌<◌, inl, inr, Bool, true}
use Rattle.std.proofs.Common.{false, List, [], ◌∷◌, Option, Some, None, Contains, IsTrue, not, nat_lt}
use Rattle.std.proofs.Common.{if◌then◌else◌, refl, sym, ◌∙◌, ap, subst, arith}
use Rattle.std.proofs.lemmas.Bool.{cases_eq, cases_lt, false≢true, lt-ltb, le-ltb, ltb-true}
use Rattle.std.proofs.lemmas.Bool.Decides.{nat_tests}
use Rattle.std.proofs.lemmas.List.Elements.{Contains-append_cases, Contains-append_left}
use Rattle.std.proofs.lemmas.Option.{same_Some, slice_get_past}
use Rattle.tagged_word.specs.declared.layout.Kind.TheVariants as kind
use Rattle.tagged_word.specs.Cells.{is_free_kind}
use Rattle.tagged_word.specs.Readings.{given, reference_in}
use Rattle.tagged_word.proofs.Members.{one_in}
use Rattle.page_space.specs.Extents.{eden_start, marks_start}
use Rattle.page_space.proofs.Starts.{layouts_start_is, marks_start_is}
use Rattle.handle_roots.specs.Roots.{first_word, root_at}
use Rattle.cell_layout.proofs.OneCell.{cells_have_words, slots_lie_within}
use Rattle.cell_layout.proofs.Rows.{cell_within}
use Rattle.heap_model.specs.Types.{Kind, Cell}
use Rattle.heap_model.specs.Heaps.{Heap, Row, HasCell, IsUsedRow, cell_extents, words_of_cell}
use Rattle.heap_model.specs.Kinds.{HasNoNumber, IsSoundOf}
use Rattle.heap_model.specs.Slots.{reference_word}
use Rattle.heap_model.proofs.BoundHeaps.{none_in}
use Rattle.heap_model.proofs.CellsApart.{first_of_cell, has_is_cell, used_few}
use Rattle.heap_model.proofs.CellWords.{word_there, words_are_size}
use Rattle.heap_model.proofs.WordsAlike.{cell_below_roots}
use Rattle.heap_moves.specs.Moved.{AreMoved, IsFrom, IsMoved, IsMovedRoot, IsMovedWord, StandsMoved, moved_to}
use Rattle.heap_walk.proofs.SlotTargets.{IsUsedAt, held_target, kind_to_cell, word_found}
use Rattle.write_barrier.proofs.FreeCells.{free_cell, free_cell_is_free, free_cell_no_number}
use Rattle.write_barrier.specs.MutatorState.{Mutator}
use Rattle.compactor.specs.Tables.{Table, moved_by, moved_word, place_in}
use Rattle.compactor.specs.Copying.{IsCopy, IsSlotAt, StandsCopied}
use Rattle.compactor.specs.Sliding.{IsPageRow, is_kept, page_start, slid_end}
use Rattle.compactor.proofs.EndCells.{end_cells}
use Rattle.compactor.proofs.FinalState.{IsFinal}
use Rattle.compactor.proofs.MovedHeap.{after, cell_again, cell_in_row, cells_after, heap, is_page_row}
use Rattle.compactor.proofs.MovedHeap.{next_in_page, page_of_row, rows_again, sized_again, words}
use Rattle.compactor.proofs.MovedPlaces.{comes_is, kept_comes, place_of, place_of_page, place_of_young, to_by}
use Rattle.compactor.proofs.MovedRows.{in_slid, same_raw, slid_cells, slid_from}
use Rattle.compactor.proofs.PageRows.{one_page_row, page_below_eden, page_row_ends, page_row_stands}
use Rattle.compactor.proofs.Placing.{placed_before, placed_order, placed_within}

-- what is not kept is free
pub not_kept : (test : Bool) → not test ≡ false → test ≡ true
not_kept true is = refl
not_kept false is = absurd (false≢true (sym is))

-- what is kept is not free
pub kept_not_free : (test : Bool) → not test ≡ true → test ≡ false
kept_not_free true is = absurd (false≢true is)
kept_not_free false is = refl

-- and what is not free is kept
pub not_free_kept : (test : Bool) → (IsTrue test → ⊥) → not test ≡ true
not_free_kept true never = absurd (never refl)
not_free_kept false never = refl

-- a free cell has no number, kind by kind
free_no_number : (k : Kind) (whole : Heap) (cell : Cell) (were : List ℕ) → IsTrue (is_free_kind k)
    → IsSoundOf k whole cell were → HasNoNumber cell
free_no_number kind.Filler whole cell were free sound = sound
free_no_number kind.Gap whole cell were free sound = sound
free_no_number _ whole cell were free sound = absurd (false≢true free)

-- what stands at the end of a page is free
pub end_is_free : (test : Bool) (from count : ℕ) (cell : Cell)
    → Contains (if test then (free_cell from count ∷ []) else []) cell → free_cell from count ≡ cell
end_is_free true from count cell there = one_in (free_cell from count) cell there
end_is_free false from count cell there = absurd (none_in cell there)

-- the word of a slot is moved
slot_moved : {table : Table} {cell : Cell} {offset word now : ℕ} → IsCopy table cell offset word now
    → IsSlotAt cell offset → now ≡ moved_word table word
slot_moved (IsCopy.slot there moved) slot = moved
slot_moved (IsCopy.raw none same) slot = absurd (none slot)

-- a reference becomes one to the place of its target
moved_reference : (table : Table) (at word : ℕ) → word ≡ reference_word at
    → moved_by table (Some at) word ≡ reference_word (place_of table at)
moved_reference table at word is = elim (cases_lt at table.bound) [
  | inl below ↦
      ap (λ test. if test then reference_word (place_in table at) else word) (lt-ltb at table.bound below)
      ∙ ap (λ n. reference_word n) (sym (place_of_page table at below))
  | inr past ↦
      ap (λ test. if test then reference_word (place_in table at) else word) (le-ltb at table.bound past)
      ∙ is ∙ ap (λ n. reference_word n) (sym (place_of_young table at past))
]

-- the place of a cell of a page
pub record PagePlace (heap : Heap) (table : Table) (cell : Cell) : Type 0 where
  pub page : ℕ
  pub row : Row
  pub is : IsPageRow heap page row
  pub starts : row.extent.start ≡ page_start page
  pub among : Contains row.cells cell
  pub in_region : Contains (cell_extents heap.space) row.extent
  pub used : IsUsedRow heap row
  pub from : page_start page ≤ place_in table cell.at
  pub below : place_in table cell.at + cell.size ≤ slid_end (page_start page) row.cells
  pub ends : place_in table cell.at + cell.size ≤ page_start (page + 1)
  pub no_later : place_in table cell.at ≤ cell.at
  pub stood : page_start page ≤ cell.at
  pub stood_below : cell.at + cell.size ≤ page_start (page + 1)

module _ {first now : Mutator} {table : Table} (final : IsFinal first now table)
    (fit : marks_start first.seat.space < 2 ^ 32) where
  -- where what stood at an address comes
  abbrev pub to : ℕ → Option ℕ
  to at = to_by final.begun.whole.rows table at

  -- places are of pages
  pub bound_is : table.bound ≡ eden_start first.seat.space
  bound_is = final.places.bound

  -- a cell of a row of a page begins before eden
  pub page_cell : (row : Row) (cell : Cell) → is_page_row (heap final) row ≡ true
      → Contains (cell_extents first.seat.space) row.extent → IsUsedRow (heap final) row → Contains row.cells cell
      → cell.at < eden_start first.seat.space
  page_cell row cell is there used among =
      let old : List ℕ = (heap final).words in
      let below : row.extent.start < eden_start first.seat.space =
      ltb-true row.extent.start (eden_start first.seat.space) is in
      let of_page = page_of_row final row there used below in
      let inside = cell_within first.seat.space old row.extent.start row.end row.cells cell used.stands among in
      let has : HasCell (heap final) cell (words_of_cell (heap final) cell) =
      record { row = row; in_region = there; used = used; in_row = among; words_are = refl } in
      omega (
        arith,
        inside.1,
        (first_of_cell has).below,
        page_row_ends final.begun.limits of_page.1,
        page_below_eden first.seat.space of_page.0 of_page.1.0,
      )

  -- and a cell of any other row does not
  pub young_cell : (row : Row) (cell : Cell) → is_page_row (heap final) row ≡ false → IsUsedRow (heap final) row
      → Contains row.cells cell → eden_start first.seat.space ≤ cell.at
  young_cell row cell is used among =
      let old : List ℕ = (heap final).words in
      let inside = cell_within first.seat.space old row.extent.start row.end row.cells cell used.stands among in
      elim (cases_lt row.extent.start (eden_start first.seat.space)) [
        | inl below ↦ absurd (false≢true (sym is ∙ lt-ltb row.extent.start (eden_start first.seat.space) below))
        | inr young ↦ omega (arith, young, inside.0)
      ]

  -- so the row of a young cell is no page's
  pub young_row : (row : Row) (cell : Cell) → Contains (cell_extents first.seat.space) row.extent
      → IsUsedRow (heap final) row → Contains row.cells cell → eden_start first.seat.space ≤ cell.at
      → eden_start first.seat.space ≤ row.extent.start
  young_row row cell there used among young = elim (cases_lt row.extent.start (eden_start first.seat.space)) [
    | inl below ↦
        let is = lt-ltb row.extent.start (eden_start first.seat.space) below in
        absurd (omega (arith, page_cell row cell is there used among, young))
    | inr past ↦ past
  ]

  -- a kept cell of a page comes to a place of its page
  pub page_place : (cell : Cell) (were : List ℕ) → HasCell (heap final) cell were → is_kept cell ≡ true
      → cell.at < eden_start first.seat.space → PagePlace (heap final) table cell
  page_place cell were has kept below =
      let row : Row = has.row in
      let space = first.seat.space in
      let old : List ℕ = (heap final).words in
      let inside = cell_within space old row.extent.start row.end row.cells cell has.used.stands has.in_row in
      let of_page = page_of_row final row has.in_region has.used (omega (arith, inside.0, below)) in
      let page : ℕ = of_page.0 in
      let is = of_page.1 in
      let placed = final.places.placed page row is.0 is in
      let within = placed_within table (page_start page) row.cells cell placed has.in_row kept in
      let next = next_in_page final page row is in
      let ends = page_row_ends final.begun.limits is in
      record {
        page = page;
        row = row;
        is = is;
        starts = of_page.2;
        among = has.in_row;
        in_region = has.in_region;
        used = has.used;
        from = within.from;
        below = within.below;
        ends = omega (arith, within.below, next);
        no_later = placed_before space old table (page_start page) (page_start page) row.end row.cells cell
            (page_row_stands is) (omega arith) placed has.in_row kept;
        stood = omega (arith, inside.0, of_page.2);
        stood_below = omega (arith, inside.1, ends);
      }

  -- a kept cell stands copied at its place
  pub copied_at : (cell : Cell) (were : List ℕ) (offset : ℕ) → HasCell (heap final) cell were → is_kept cell ≡ true
      → offset < cell.size
      → StandsCopied (heap final).words table cell (words final) (place_of table cell.at) offset
  copied_at cell were offset has kept below =
      let Stands : ℕ → Type 0 = λ at. StandsCopied (heap final).words table cell (words final) at offset in
      elim (cases_lt cell.at (eden_start first.seat.space)) [
        | inl of_page ↦
            let place = page_place cell were has kept of_page in
            let copied = (final.packed place.page place.row place.is).copied cell offset place.among kept below in
            subst Stands (sym (place_of_page table cell.at (omega (arith, of_page, bound_is)))) copied
        | inr young ↦
            let before = cell_below_roots (used_few final.begun.whole.rows) has in
            let copied = final.young cell offset (record {
              words = were;
              has = has;
              young = young;
              before = omega (arith, before, (first_of_cell has).below);
              kept = kept;
            }) below in
            subst Stands (sym (place_of_young table cell.at (omega (arith, young, bound_is)))) copied
      ]

  -- and is a cell of the heap there
  pub cell_at : (cell : Cell) (were : List ℕ) → HasCell (heap final) cell were → is_kept cell ≡ true
      → HasCell (after final) (moved_to cell (place_of table cell.at))
      (words_of_cell (after final) (moved_to cell (place_of table cell.at)))
  cell_at cell were has kept =
      let Has : ℕ → Type 0 = λ at. HasCell (after final) (moved_to cell at)
      (words_of_cell (after final) (moved_to cell at)) in
      elim (cases_lt cell.at (eden_start first.seat.space)) [
        | inl of_page ↦
            let place = page_place cell were has kept of_page in
            let row = place.row in
            let is : is_page_row (heap final) row ≡ true =
            lt-ltb row.extent.start (eden_start first.seat.space)
            (omega (arith, place.starts, page_below_eden first.seat.space place.page place.is.0)) in
            let moved : Cell = moved_to cell (place_in table cell.at) in
            let there : Contains (cells_after true table row) moved =
            Contains-append_left (slid_cells table row.cells)
            (end_cells (slid_end row.extent.start row.cells) row.end) moved
            (in_slid table row.cells cell place.among kept) in
            subst Has (sym (place_of_page table cell.at (omega (arith, of_page, bound_is))))
            (cell_again final row moved place.in_region place.used
            (subst (λ (test : Bool). Contains (cells_after test table row) moved) (sym is) there))
        | inr young ↦
            let row = has.row in
            let begins = young_row row cell has.in_region has.used has.in_row young in
            let is : is_page_row (heap final) row ≡ false =
            le-ltb row.extent.start (eden_start first.seat.space) begins in
            subst Has (sym (place_of_young table cell.at (omega (arith, young, bound_is))))
            (cell_again final row cell has.in_region has.used
            (subst (λ (test : Bool). Contains (cells_after test table row) cell) (sym is) has.in_row))
      ]

  -- each kept target of a word that is a reference has a place, and the word is moved
  pub word_is_moved : (word now_word : ℕ) → now_word ≡ moved_word table word
      → ((at : ℕ) → word ≡ reference_word at → IsUsedAt (heap final) at) → IsMovedWord to word now_word
  word_is_moved word now_word moved closed = elim (cases_eq (word % 4) 1) [
    | inl refers ↦
        let at : ℕ = word / 4 in
        let is : word ≡ reference_word at = omega arith in
        let target = closed at is in
        let kept : is_kept target.cell ≡ true = not_free_kept (is_free_kind target.cell.layout.kind) target.used in
        let comes = kept_comes final.begun.whole.rows table target.cell target.words target.has kept in
        let stays : to at ≡ Some (place_of table at) =
        subst (λ (a : ℕ). to a ≡ Some (place_of table a)) target.stands comes in
        let before = cell_below_roots (used_few final.begun.whole.rows) target.has in
        let below : at < 4294967296 =
        omega (
          arith,
          before,
          target.stands,
          (first_of_cell target.has).below,
          layouts_start_is first.seat.space,
          marks_start_is first.seat.space,
          fit,
        ) in
        let found : reference_in word ≡ Some at =
        let test : (word % 4 == 1 && nat_lt (word / 4) 4294967296) ≡ true = grind (arith, nat_tests, refers, below) in
        ap (λ t. given t (word / 4)) test in
        IsMovedWord.reference at (place_of table at) is stays
        (moved ∙ ap (λ (one : Option ℕ). moved_by table one word) found ∙ moved_reference table at word is)
    | inr refers_not ↦
        let none : reference_in word ≡ None =
        let test : (word % 4 == 1 && nat_lt (word / 4) 4294967296) ≡ false = grind (arith, nat_tests, refers_not) in
        ap (λ t. given t (word / 4)) test in
        IsMovedWord.other (λ at refers. refers_not (omega (arith, refers)))
        (moved ∙ ap (λ (one : Option ℕ). moved_by table one word) none)
  ]

  -- the words of a kept cell are moved
  pub words_are_moved : (cell : Cell) (were others : List ℕ) → HasCell (heap final) cell were → is_kept cell ≡ true
      → HasCell (after final) (moved_to cell (place_of table cell.at)) others → AreMoved to cell were others
  words_are_moved cell were others has kept has_now = record {
    long = words_are_size has_now ∙ sym (words_are_size has);
    slots = λ offset word now_word slot there there_too.
        let inside = (slots_lie_within first.seat.space (heap final).words cell offset
        (has_is_cell has) slot).within in
        let one = copied_at cell were offset has kept inside in
        let same : one.word ≡ word = same_Some one.word word (sym one.read ∙ word_found offset word has inside there) in
        let same_now : one.now ≡ now_word =
        same_Some one.now now_word (sym one.put ∙ word_found offset now_word has_now inside there_too) in
        let moved : now_word ≡ moved_word table word =
        sym same_now ∙ slot_moved one.is slot ∙ ap (λ w. moved_word table w) same in
        word_is_moved word now_word moved (λ at refers.
        kind_to_cell cell.layout.kind offset word at final.begun.whole.sized has refl
        (final.begun.whole.sound cell were has) slot there refers);
    raw = λ offset no_slot. elim (cases_lt offset cell.size) [
      | inl inside ↦
          let one = copied_at cell were offset has kept inside in
          let was = word_there offset has inside in
          let is = word_there offset has_now inside in
          let read : one.word ≡ was.0 =
          same_Some one.word was.0 (sym one.read ∙ word_found offset was.0 has inside was.1) in
          let put : one.now ≡ is.0 =
          same_Some one.now is.0 (sym one.put ∙ word_found offset is.0 has_now inside is.1) in
          let same : is.0 ≡ was.0 = sym put ∙ same_raw one.is no_slot ∙ read in
          is.1 ∙ ap (λ w. Some w) same ∙ sym was.1
      | inr past ↦
          slice_get_past others offset (omega (arith, past, words_are_size has_now))
          ∙ sym (slice_get_past were offset (omega (arith, past, words_are_size has)))
    ];
  }

  -- So a cell that stays stands moved where it comes.
  pub stands_moved : (cell : Cell) (were : List ℕ) (at : ℕ) → HasCell (heap final) cell were → to cell.at ≡ Some at
      → StandsMoved (after final) to cell were at
  stands_moved cell were at has comes =
      let is = comes_is final.begun.whole.rows table cell were at has comes in
      let stands = cell_at cell were has is.0 in
      subst (λ (a : ℕ). StandsMoved (after final) to cell were a) (sym is.1) (record {
        others = words_of_cell (after final) (moved_to cell (place_of table cell.at));
        has = stands;
        are = words_are_moved cell were (words_of_cell (after final) (moved_to cell (place_of table cell.at))) has is.0
            stands;
      })

  -- a cell of a row of the young generation stood there, or is free
  young_from : (test : Bool) (cell : Cell) (were : List ℕ) → is_kept cell ≡ test → HasCell (heap final) cell were
      → eden_start first.seat.space ≤ cell.at → IsFrom (heap final) to cell
  young_from true cell were kept has young =
      let comes = kept_comes final.begun.whole.rows table cell were has kept in
      IsFrom.stood cell were has
      (comes ∙ ap (λ n. Some n) (place_of_young table cell.at (omega (arith, young, bound_is))))
  young_from false cell were free has young =
      let is_free = not_kept (is_free_kind cell.layout.kind) free in
      IsFrom.free is_free
      (free_no_number cell.layout.kind (heap final) cell were is_free (final.begun.whole.sound cell were has))

  -- Each cell of the new heap is from one that stays, or is free.
  from_by : (test : Bool) (row : Row) (cell : Cell) → is_page_row (heap final) row ≡ test
      → Contains (cell_extents first.seat.space) row.extent → IsUsedRow (heap final) row
      → Contains (cells_after test table row) cell → IsFrom (heap final) to cell
  from_by true row cell is there used among =
      elim (Contains-append_cases (slid_cells table row.cells)
      (end_cells (slid_end row.extent.start row.cells) row.end) cell among) [
        | inl slid ↦
            let from = slid_from table row.cells cell slid in
            let one : Cell = from.cell in
            let has : HasCell (heap final) one (words_of_cell (heap final) one) =
            record { row = row; in_region = there; used = used; in_row = from.among; words_are = refl } in
            let below = page_cell row one is there used from.among in
            let comes = kept_comes final.begun.whole.rows table one (words_of_cell (heap final) one) has from.kept in
            IsFrom.stood one (words_of_cell (heap final) one) has
            (comes ∙ ap (λ n. Some n) (place_of_page table one.at (omega (arith, below, bound_is))
            ∙ ap (λ (c : Cell). c.at) (sym from.is)))
        | inr end ↦
            let at : ℕ = slid_end row.extent.start row.cells in
            let same = end_is_free (nat_lt at row.end) at (row.end - at) cell end in
            subst (λ (c : Cell). IsFrom (heap final) to c) same
            (IsFrom.free (free_cell_is_free at (row.end - at)) (free_cell_no_number at (row.end - at)))
      ]
  from_by false row cell is there used among =
      let has : HasCell (heap final) cell (words_of_cell (heap final) cell) =
      record { row = row; in_region = there; used = used; in_row = among; words_are = refl } in
      young_from (is_kept cell) cell (words_of_cell (heap final) cell) refl has
      (young_cell row cell is used among)

  -- So each is.
  pub cell_from : (cell : Cell) (others : List ℕ) → HasCell (after final) cell others → IsFrom (heap final) to cell
  cell_from cell others has =
      let in_row = cell_in_row final cell others has in
      from_by (is_page_row (heap final) in_row.row) in_row.row cell refl in_row.there in_row.used in_row.among

  -- the first root words of variables are moved
  root_is_moved : (variable : ℕ) → variable < first.seat.space.variables
      → IsMovedRoot (heap final) (after final) to variable
  root_is_moved variable known =
      let root = final.begun.whole.roots variable known in
      let start = layouts_start_is first.seat.space in
      record {
        first = λ word now_word there there_too.
            let moved : now_word ≡ moved_word table word =
            same_Some now_word (moved_word table word) (sym there_too ∙ final.roots variable word known there) in
            let held : word ≡ first_word root.held =
            same_Some word (first_word root.held) (sym there ∙ root.holds.first) in
            word_is_moved word now_word moved
            (λ at refers. held_target (heap final) root.held at root.is (sym held ∙ refers));
        second = final.behind (root_at first.seat.space variable + 1) (omega arith)
            (λ other below same. omega (arith, same));
      }

  -- two cells of pages come to two addresses, in their order
  page_places_apart : {one other : Cell} → PagePlace (heap final) table one → PagePlace (heap final) table other
      → is_kept one ≡ true → is_kept other ≡ true → one.at < other.at → 1 ≤ one.size
      → place_in table one.at < place_in table other.at
  page_places_apart {one} {other} place place_too kept kept_too below some = elim (cases_lt place.page place_too.page) [
    | inl earlier ↦ omega (arith, earlier, place.ends, place_too.from, some)
    | inr not_earlier ↦ elim (cases_lt place_too.page place.page) [
      | inl later ↦ absurd (omega (arith, later, below, place.stood, place_too.stood_below))
      | inr not_later ↦
          let same : place_too.page ≡ place.page = omega (arith, not_earlier, not_later) in
          let is_too = subst (λ (page : ℕ). IsPageRow (heap final) page place_too.row) same place_too.is in
          let among = subst (λ (cells : List Cell). Contains cells other)
          (one_page_row final.begun.limits is_too place.is) place_too.among in
          let ordered = placed_order first.seat.space (heap final).words table (page_start place.page)
          (page_start place.page) place.row.end place.row.cells one other (page_row_stands place.is)
          (final.places.placed place.page place.row place.is.0 place.is) place.among among kept kept_too below in
          omega (arith, ordered, some)
    ]
  ]

  -- So any two kept cells do.
  pub apart_places : (one other : Cell) (were others : List ℕ) → HasCell (heap final) one were
      → HasCell (heap final) other others → is_kept one ≡ true → is_kept other ≡ true → one.at < other.at
      → place_of table one.at < place_of table other.at
  apart_places one other were others has has_other kept kept_other below =
      let eden : ℕ = eden_start first.seat.space in
      elim (cases_lt one.at eden) [
        | inl of_page ↦
            let place = page_place one were has kept of_page in
            let is = place_of_page table one.at (omega (arith, of_page, bound_is)) in
            elim (cases_lt other.at eden) [
              | inl of_page_too ↦
                  let place_too = page_place other others has_other kept_other of_page_too in
                  let apart = page_places_apart place place_too kept kept_other below
                  (cells_have_words first.seat.space (heap final).words one (has_is_cell has)).0 in
                  omega (
                    arith,
                    apart,
                    is,
                    place_of_page table other.at (omega (arith, of_page_too, bound_is)),
                  )
              | inr young ↦
                  omega (
                    arith,
                    is,
                    place.no_later,
                    of_page,
                    young,
                    place_of_young table other.at (omega (arith, young, bound_is)),
                  )
            ]
        | inr young ↦
            omega (
              arith,
              below,
              place_of_young table one.at (omega (arith, young, bound_is)),
              place_of_young table other.at (omega (arith, young, below, bound_is)),
            )
      ]

  -- So the heap is the old one moved.
  pub heap_is_moved : IsMoved (heap final) (after final) to
  heap_is_moved = record {
    space = refl;
    paths = refl;
    sized = sized_again final;
    rows = rows_again final;
    apart = λ one other were others at has has_other comes comes_too.
        let is = comes_is final.begun.whole.rows table one were at has comes in
        let is_too = comes_is final.begun.whole.rows table other others at has_other comes_too in
        elim (cases_lt one.at other.at) [
          | inl below ↦ absurd (omega (
            arith,
            apart_places one other were others has has_other is.0 is_too.0 below,
            is.1,
            is_too.1,
          ))
          | inr from ↦ elim (cases_lt other.at one.at) [
            | inl above ↦ absurd (omega (
              arith,
              apart_places other one others were has_other has is_too.0 is.0 above,
              is.1,
              is_too.1,
            ))
            | inr same ↦ omega (arith, from, same)
          ]
        ];
    fits = λ cell were at has comes.
        let is = comes_is final.begun.whole.rows table cell were at has comes in
        let stands = cell_at cell were has is.0 in
        let old = cell_below_roots (used_few final.begun.whole.rows) has in
        let new = cell_below_roots (used_few (rows_again final)) stands in
        let some = (first_of_cell has).below in
        let start = layouts_start_is first.seat.space in
        let marks = marks_start_is first.seat.space in (
          λ below. omega (arith, is.1, new, some, start, marks, fit),
          λ below. omega (arith, old, some, start, marks, fit),
        );
    stands = stands_moved;
    back = cell_from;
    roots = root_is_moved;
  }
