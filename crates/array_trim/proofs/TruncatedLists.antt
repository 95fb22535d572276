-- With the words of a trim at the back the list has the elements that stay.
use Rattle.std.proofs.Common.{◌≡◌, ℕ, ◌+◌, ◌-◌, ◌<◌, ◌≤◌}
use Rattle.std.proofs.Common.{List, [], ◌∷◌, length, take, Some}
use Rattle.std.proofs.Common.{slice_get, inl, inr, refl, sym, ◌∙◌, ap, subst, arith, length-take}
use Rattle.std.proofs.lemmas.Option.{slice_get_within}
use Rattle.tagged_word.specs.Headers.{header_bits}
use Rattle.tagged_word.specs.Cells.{store_slot, store_head, length_offset}
use Rattle.tagged_word.specs.Layouts.{layout_bits}
use Rattle.tagged_word.proofs.Members.{first_in, in_cases}
use Rattle.heap_model.specs.Types.{Path, Value, Cell}
use Rattle.object_graph.specs.Graphs.{Graph, ListObject}
use Rattle.page_space.specs.Sizes.{AreWithin}
use Rattle.shape_tree.specs.ShapeLayouts.{layout_word}
use Rattle.cell_layout.specs.Cells.{IsCell, IsRow}
use Rattle.cell_layout.proofs.Rows.{rows_join}
use Rattle.write_barrier.specs.Seats.{heap_words}
use Rattle.heap_model.specs.Heaps.{words_of_cell}
use Rattle.heap_model.specs.Remembered.{Touch}
use Rattle.heap_model.specs.Slots.{reference_word}
use Rattle.heap_model.specs.Kinds.{HasNoNumber, IsSoundOf, count_offset}
use Rattle.heap_model.proofs.CellWords.{slice_get-take}
use Rattle.heap_model.proofs.Rewrites.{row_of_one}
use Rattle.write_barrier.specs.MutatorState.{Mutator, heap_of, MainShows}
use Rattle.write_barrier.specs.Recording.{Touches, touched_one, touched_then}
use Rattle.object_cells.specs.ListObjects.{IsListAt}
use Rattle.write_barrier.specs.FreeCells.{with_free_cell}
use Rattle.object_cells.specs.Made.{PutsWords}
use Rattle.object_cells.proofs.FilledSlots.{set_there}
use Rattle.heap_model.proofs.CellsApart.{has_is_cell}
use Rattle.object_graph.proofs.Lists.{slice_get-set_other}
use Rattle.std.specs.Prelude.{slice_set}
use Rattle.object_cells.proofs.CellsRead.{layout_stands, word_stands}
use Rattle.object_cells.proofs.TouchedCells.{touched_cases}
use Rattle.object_cells.proofs.TouchedWords.{last_touch}
use Rattle.array_trim.specs.TrimWords.{PutsTruncated, truncated_touch, truncated_words}
use Rattle.array_trim.specs.TrimLaws.{TruncatedListShows}
use Rattle.array_trim.specs.Trims.{HasTrimmed}
use Rattle.array_trim.proofs.Covers.{IsCovered}
use Rattle.array_trim.proofs.CutLists.{IsCutInto, small_store, cut_reads, cut_had, cut_free, cut_has_trimmed}
use Rattle.array_trim.proofs.CutWords.{IsCut, cut_words, cut_store, cut_capacity}
use Rattle.array_trim.proofs.ListStores.{ListStored, list_stored, words_apart}
use Rattle.array_trim.proofs.MarkedTrims.{TrimMarks}
use Rattle.array_trim.proofs.StorePieces.{shrunk_read, stands_inside}
use Rattle.array_trim.proofs.TouchedCuts.{CutTouch}
use Rattle.array_trim.proofs.TrimmedGraphs.{taken_are_new, list_are_new}

-- an element of the first ones is that of all
first_element : (n : ℕ) (xs : List Value) (k : ℕ) (value : Value) → slice_get (take n xs) k ≡ Some value
    → slice_get xs k ≡ Some value
first_element n xs k value there =
    let below : k < n = omega (arith, slice_get_within (take n xs) k value there, length-take n xs) in
    sym (slice_get-take n xs k below) ∙ there

module _ {old new : Mutator} {graph : Graph} {at : ℕ} {list : ListObject} {kept : ℕ} (shows : MainShows old graph)
    (is : IsListAt old graph at list) (within : AreWithin old.seat.space.sizes old.seat.space.variables)
    (few : kept ≤ length list.elements) (puts : PutsTruncated old new at kept) where
  -- the list's store
  abbrev stored : ListStored old at list puts.store
  stored = list_stored puts.store shows is within puts.has

  -- the slots of the old store
  abbrev capacity : ℕ
  capacity = stored.cell.length

  -- the address behind the new one
  abbrev end : ℕ
  end = puts.store + (store_head + kept)

  -- it has so many slots
  enough : kept ≤ capacity
  enough = omega (arith, few, stored.room)

  -- the elements that stay
  abbrev after : List Value
  after = take kept list.elements

  left : length after ≡ kept
  left = omega (arith, length-take kept list.elements, few)

  -- the header of the store, which stays
  abbrev header : ℕ
  header = header_bits stored.cell.header

  -- the store is cut at its back
  cut : IsCut puts.store capacity puts.store 0 kept end (capacity - kept)
  cut = record {
    start_is = omega arith;
    room = omega (arith, enough);
    behind = omega arith;
    ends = omega (arith, enough);
    apart = λ a from below behind within. omega (arith, from, within);
  }

  -- its header stands there
  header_stood : slice_get (heap_words old.seat) puts.store ≡ Some header
  header_stood =
      ap (λ n. slice_get (heap_words old.seat) n) (sym stored.stands) ∙ (has_is_cell stored.refers.has).reads.first

  -- the list refers to it
  slot_stood : slice_get (heap_words old.seat) (at + store_slot) ≡ Some (reference_word puts.store)
  slot_stood =
      ap (λ n. slice_get (heap_words old.seat) (n + store_slot)) (sym stored.shown.stands)
      ∙ word_stands store_slot stored.shown.shows.store stored.shown.has stored.shown.shows.slot
      ∙ ap Some stored.refers.refers ∙ ap (λ n. Some (reference_word n)) stored.stands

  -- so neither word need be put
  not_put : cut_words stored header kept cut ≡ truncated_words (heap_words old.seat) at puts.store capacity kept
  not_put =
      let words : List ℕ = heap_words old.seat in
      let headed = set_there words puts.store header header_stood in
      let moved : List ℕ = slice_set (slice_set words puts.store header) (puts.store + length_offset) kept in
      let same : moved ≡ slice_set words (puts.store + length_offset) kept =
      ap (λ all. slice_set all (puts.store + length_offset) kept) headed in
      let slot : slice_get (slice_set words (puts.store + length_offset) kept) (at + store_slot)
      ≡ Some (reference_word puts.store) =
      slice_get-set_other words (puts.store + length_offset) (at + store_slot) kept
      (words_apart stored (at + store_slot) (puts.store + length_offset) (omega arith) (omega arith) (omega arith)
      (omega arith)) ∙ slot_stood in
      let linked = set_there moved (at + store_slot) (reference_word puts.store)
      (ap (λ all. slice_get all (at + store_slot)) same ∙ slot) in
      ap (λ all. with_free_cell (slice_set all (at + count_offset) kept) end (capacity - kept)) (linked ∙ same)

  -- nothing else was put
  words_put : PutsWords old new (cut_words stored header (length after) cut)
  words_put =
      subst (λ n. PutsWords old new (cut_words stored header n cut)) (sym left)
      (subst (PutsWords old new) (sym not_put)
      (subst (λ n. PutsWords old new (truncated_words (heap_words old.seat) at puts.store n kept)) stored.capacity
      puts.puts))

  -- a word of the store, by the address at which it stands
  store_word : (k : ℕ) → slice_get (heap_words new.seat) (stored.cell.at + k)
      ≡ slice_get (cut_words stored header (length after) cut) (puts.store + k)
  store_word k =
      ap (λ n. slice_get (heap_words new.seat) (n + k)) stored.stands
      ∙ cut_reads stored header cut after words_put (puts.store + k)

  -- the store that came, where the old one stood
  abbrev came : Cell
  came = record stored.cell { length = kept; size = store_head + kept }

  -- its layout is that of its shape
  same_layout : layout_word new.paths stored.cell.header.shape ≡ layout_bits stored.cell.layout
  same_layout =
      ap (λ (paths : List Path). layout_word paths stored.cell.header.shape) words_put.paths
      ∙ sym (layout_stands stored.whole.sized stored.refers.has)

  -- it stands there
  came_stands : IsCell new.seat.space (heap_words new.seat) came
  came_stands =
      let had = cut_had stored header cut after words_put in
      let first : slice_get (heap_words new.seat) stored.cell.at ≡ slice_get (heap_words old.seat) stored.cell.at =
      ap (λ n. slice_get (heap_words new.seat) n) stored.stands
      ∙ cut_reads stored header cut after words_put puts.store ∙ cut_store stored header (length after) cut
      ∙ sym header_stood ∙ ap (λ n. slice_get (heap_words old.seat) n) (sym stored.stands) in
      stands_inside came had
      (shrunk_read kept had stored.of_kind same_layout first
      (store_word 1 ∙ cut_capacity stored header (length after) cut) (omega (arith, small_store stored, enough)))
      (omega arith) (omega (arith, stored.size, enough))

  -- the words behind it are free
  back : IsCovered (heap_of new) end (end + (capacity - kept))
  back = cut_free stored header cut after words_put

  -- a store has no number
  no_number : HasNoNumber stored.cell
  no_number =
      let words_of = words_of_cell (heap_of old) stored.cell in
      (subst (λ k. IsSoundOf k (heap_of old) stored.cell words_of) stored.of_kind
      (stored.whole.sound stored.cell words_of stored.refers.has)).no_number

  -- both stand in the words of the old store
  into : IsCutInto (heap_of new) puts.store (puts.store + (store_head + capacity)) puts.store kept came
      (came ∷ back.cells)
  into =
      let ends : end + (capacity - kept) ≡ puts.store + (store_head + capacity) = omega (arith, enough) in
      record {
        place = stored.stands;
        long = refl;
        of_kind = stored.of_kind;
        no_number = no_number;
        row = subst (λ n. IsRow new.seat.space (heap_words new.seat) puts.store n (came ∷ back.cells)) ends
            (rows_join new.seat.space (heap_words new.seat) puts.store end (end + (capacity - kept)) (came ∷ [])
            back.cells (row_of_one puts.store end came_stands stored.stands (omega (arith, stored.stands))) back.row);
        among = first_in came back.cells;
        each = λ one there. elim (in_cases came back.cells one there) [
          | inl same ↦ inl same
          | inr free ↦ inr (back.free one free)
        ];
      }

  -- so each address was touched: the length of the store and the words behind its slots were given up
  each_touched : (a : ℕ)
      → CutTouch stored.shown.cell stored.cell came (truncated_touch at puts.store capacity kept) a
  each_touched a =
      let shrunk : ℕ → Touch = touched_one Touch.Wiped (puts.store + length_offset) in
      let counted : ℕ → Touch = touched_then shrunk (touched_one Touch.Wiped (at + count_offset)) in
      elim (last_touch counted Touch.Wiped end (end + (capacity - kept)) a) [
        | inl free ↦
            CutTouch.given_up (omega (arith, free.0, stored.stands)) (omega (arith, free.1, stored.stands, enough))
            (λ now. omega (arith, now.below, free.0, stored.stands)) free.2
        | inr beside ↦ elim (last_touch shrunk Touch.Wiped (at + count_offset) (at + count_offset + 1) a) [
          | inl own ↦ CutTouch.count (omega (arith, own.0, own.1, stored.shown.stands)) (beside.1 ∙ own.2)
          | inr not_count ↦
              elim (touched_cases Touch.Wiped (puts.store + length_offset) (puts.store + length_offset + 1) a) [
                | inl inside ↦
                    CutTouch.given_up (omega (arith, inside.0, stored.stands)) (omega (arith, inside.1, stored.stands))
                    (λ now. omega (arith, now.from, inside.1, stored.stands))
                    (beside.1 ∙ not_count.1 ∙ inside.2)
                | inr past ↦
                    CutTouch.stays
                    (λ was. record {
                      from = was.from;
                      below = elim beside.0 [
                        | inl before ↦ omega (arith, before, stored.stands)
                        | inr over ↦ absurd (omega (arith, over, was.below, stored.stands, enough))
                      ];
                    })
                    (beside.1 ∙ not_count.1 ∙ past.1)
              ]
        ]
      ]

  -- and this is recorded
  all_touched : Touches old new (truncated_touch at puts.store capacity kept)
  all_touched =
      subst (λ n. Touches old new (truncated_touch at puts.store n kept)) stored.capacity puts.touches

  -- so the heap shows the list with these elements, and its store has as many slots
  pub truncated_has_trimmed : HasTrimmed old new graph at list (take kept list.elements) kept
  truncated_has_trimmed =
      cut_has_trimmed stored header cut after words_put shows is within
      (taken_are_new graph list.elements kept (list_are_new shows is)) into
      (record {
        elements = λ k value there.
            let same : k ≡ 0 + k = omega arith in
            ap (λ place. slice_get list.elements place) (sym same) ∙ first_element kept list.elements k value there;
        enough = omega (arith, left);
        rest = λ k past below. absurd (omega (arith, past, below, left));
      })
      (truncated_touch at puts.store capacity kept) all_touched each_touched (TrimMarks.truncated refl puts.marks)

-- so it is with each such trim
pub truncated_list_shows : TruncatedListShows
truncated_list_shows old new graph at list kept within shows is few puts =
    truncated_has_trimmed shows is within (omega (arith, few)) puts
