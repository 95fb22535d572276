-- With the words of a trim at the front the list has the elements that stay.
use Rattle.std.proofs.Common.{◌≡◌, ℕ, zero, suc, ◌+◌, ◌-◌, ◌≤◌, ◌<◌, ◌⊎◌}
use Rattle.std.proofs.Common.{List, [], ◌∷◌, ◌++◌, length, drop}
use Rattle.std.proofs.Common.{slice_get, inl, inr, refl, sym, ◌∙◌, ap, subst, arith, length-drop}
use Rattle.std.proofs.lemmas.List.Elements.{Contains-append_right, Contains-append_cases}
use Rattle.tagged_word.specs.Headers.{header_bits}
use Rattle.tagged_word.specs.Cells.{store_head, store_slot}
use Rattle.tagged_word.proofs.Members.{first_in, one_in}
use Rattle.heap_model.specs.Types.{Value, Cell}
use Rattle.object_graph.specs.Graphs.{Graph, ListObject}
use Rattle.page_space.specs.Sizes.{AreWithin}
use Rattle.cell_layout.specs.Cells.{IsCell}
use Rattle.cell_layout.proofs.Rows.{rows_join}
use Rattle.write_barrier.specs.Seats.{heap_words}
use Rattle.heap_model.specs.Kinds.{count_offset}
use Rattle.heap_model.specs.Remembered.{Touch}
use Rattle.heap_model.proofs.Rewrites.{row_of_one}
use Rattle.write_barrier.specs.MutatorState.{Mutator, heap_of, MainShows}
use Rattle.write_barrier.specs.Recording.{touched, touched_one, touched_then}
use Rattle.object_cells.specs.Formats.{store_header}
use Rattle.object_cells.specs.ListObjects.{IsListAt}
use Rattle.object_cells.specs.Made.{PutsWords}
use Rattle.object_cells.proofs.NewStores.{store_cell}
use Rattle.object_cells.proofs.TouchedCells.{touched_cases}
use Rattle.object_cells.proofs.TouchedWords.{last_touch}
use Rattle.array_trim.specs.TrimWords.{PutsShifted, shifted_touch, shifted_words}
use Rattle.array_trim.specs.TrimLaws.{ShiftedListShows}
use Rattle.heap_model.specs.Needs.{capacity_at}
use Rattle.array_trim.specs.Trims.{HasTrimmed}
use Rattle.array_trim.proofs.Covers.{IsCovered}
use Rattle.array_trim.proofs.CutLists.{IsCutInto, small_store, cut_reads, cut_had, cut_free, cut_has_trimmed}
use Rattle.array_trim.proofs.CutWords.{IsCut, cut_words, cut_store, cut_capacity}
use Rattle.array_trim.proofs.ListStores.{ListStored, list_stored}
use Rattle.array_trim.proofs.MarkedTrims.{TrimMarks}
use Rattle.array_trim.proofs.StorePieces.{store_read, stands_inside}
use Rattle.array_trim.proofs.TouchedCuts.{CutTouch}
use Rattle.array_trim.proofs.TrimmedGraphs.{dropped_are_new, list_are_new}

-- an element of the later ones is that so many places on
later_element : (n : ℕ) (xs : List Value) (k : ℕ) → slice_get (drop n xs) k ≡ slice_get xs (n + k)
later_element zero xs k =
    let same : k ≡ 0 + k = omega arith in
    ap (λ place. slice_get xs place) same
later_element (suc n) [] k = refl
later_element (suc n) (x ∷ xs) k =
    let same : suc (n + k) ≡ suc n + k = omega arith in
    later_element n xs k ∙ ap (λ place. slice_get (x ∷ xs) place) same

-- an address behind where two ranges begin, one after the other, and in neither of them, is behind both
past_both : (first second third a : ℕ) → first ≤ a → (a < first) ⊎ (second ≤ a) → (a < second) ⊎ (third ≤ a)
    → third ≤ a
past_both first second third a from (inl before) past = absurd (omega (arith, from, before))
past_both first second third a from (inr behind) (inl before) = absurd (omega (arith, behind, before))
past_both first second third a from (inr behind) (inr past) = past

module _ {old new : Mutator} {graph : Graph} {at : ℕ} {list : ListObject} {gone : ℕ} (shows : MainShows old graph)
    (is : IsListAt old graph at list) (within : AreWithin old.seat.space.sizes old.seat.space.variables)
    (few : gone ≤ length list.elements) (puts : PutsShifted old new at (length list.elements) gone) where
  -- the list's store
  abbrev stored : ListStored old at list puts.store
  stored = list_stored puts.store shows is within puts.has

  -- the slots of the old store
  abbrev capacity : ℕ
  capacity = stored.cell.length

  -- the address of the new one
  abbrev start : ℕ
  start = puts.store + gone

  -- it has so many slots
  enough : gone ≤ capacity
  enough = omega (arith, few, stored.room)

  -- the elements that stay
  abbrev after : List Value
  after = drop gone list.elements

  left : length after ≡ length list.elements - gone
  left = length-drop gone list.elements

  -- the store is cut at its front
  cut : IsCut puts.store capacity start gone (capacity - gone) puts.store gone
  cut = record {
    start_is = refl;
    room = omega (arith, enough);
    behind = omega arith;
    ends = omega (arith, enough);
    apart = λ a from below behind within. omega (arith, below, behind);
  }

  -- nothing else was put
  words_put : PutsWords old new (cut_words stored (header_bits store_header) (length after) cut)
  words_put =
      subst (λ n. PutsWords old new (cut_words stored (header_bits store_header) n cut)) (sym left)
      (subst (λ n. PutsWords old new (shifted_words (heap_words old.seat) at puts.store n (length list.elements) gone))
      stored.capacity puts.puts)

  -- the store that came
  abbrev came : Cell
  came = store_cell start (capacity - gone)

  -- it stands there
  came_stands : IsCell new.seat.space (heap_words new.seat) came
  came_stands =
      stands_inside came (cut_had stored (header_bits store_header) cut after words_put)
      (store_read start (capacity - gone)
      (cut_reads stored (header_bits store_header) cut after words_put start
      ∙ cut_store stored (header_bits store_header) (length after) cut)
      (cut_reads stored (header_bits store_header) cut after words_put (start + 1)
      ∙ cut_capacity stored (header_bits store_header) (length after) cut)
      (omega (arith, small_store stored)))
      (omega (arith, stored.stands)) (omega (arith, stored.stands, stored.size, enough))

  -- the words before it are free
  front : IsCovered (heap_of new) puts.store start
  front = cut_free stored (header_bits store_header) cut after words_put

  -- both stand in the words of the old store
  into : IsCutInto (heap_of new) puts.store (puts.store + (store_head + capacity)) start (capacity - gone) came
      (front.cells ++ came ∷ [])
  into = record {
    place = refl;
    long = refl;
    of_kind = refl;
    no_number = refl;
    row = rows_join new.seat.space (heap_words new.seat) puts.store start (puts.store + (store_head + capacity))
        front.cells (came ∷ []) front.row
        (row_of_one start (puts.store + (store_head + capacity)) came_stands refl (omega (arith, enough)));
    among = Contains-append_right front.cells (came ∷ []) came (first_in came []);
    each = λ one there. elim (Contains-append_cases front.cells (came ∷ []) one there) [
      | inl free ↦ inr (front.free one free)
      | inr last ↦ inl (one_in came one last)
    ];
  }

  -- so each address was touched: the words before the new store and those of its head were given up
  each_touched : (a : ℕ) → CutTouch stored.shown.cell stored.cell came (shifted_touch at puts.store gone) a
  each_touched a =
      let head : ℕ → Touch = touched Touch.Wiped start (start + store_head) in
      let linked : ℕ → Touch = touched_then head (touched_one Touch.Stored (at + store_slot)) in
      let counted : ℕ → Touch = touched_then linked (touched_one Touch.Wiped (at + count_offset)) in
      elim (last_touch counted Touch.Wiped puts.store start a) [
        | inl free ↦
            CutTouch.given_up (omega (arith, free.0, stored.stands)) (omega (arith, free.1, stored.stands, enough))
            (λ now. omega (arith, now.from, free.1)) free.2
        | inr beside ↦ elim (last_touch linked Touch.Wiped (at + count_offset) (at + count_offset + 1) a) [
          | inl own ↦ CutTouch.count (omega (arith, own.0, own.1, stored.shown.stands)) (beside.1 ∙ own.2)
          | inr not_count ↦ elim (last_touch head Touch.Stored (at + store_slot) (at + store_slot + 1) a) [
            | inl own ↦
                CutTouch.slot (omega (arith, own.0, own.1, stored.shown.stands)) (beside.1 ∙ not_count.1 ∙ own.2)
            | inr not_slot ↦ elim (touched_cases Touch.Wiped start (start + store_head) a) [
              | inl inside ↦
                  CutTouch.given_up (omega (arith, inside.0, stored.stands))
                  (omega (arith, inside.1, stored.stands, enough)) (λ now. omega (arith, now.from, inside.1))
                  (beside.1 ∙ not_count.1 ∙ not_slot.1 ∙ inside.2)
              | inr past ↦
                  CutTouch.stays
                  (λ was. record {
                    from = past_both puts.store start (start + store_head) a
                        (omega (arith, was.from, stored.stands)) beside.0 past.0;
                    below = omega (arith, was.below, stored.stands, enough);
                  })
                  (beside.1 ∙ not_count.1 ∙ not_slot.1 ∙ past.1)
            ]
          ]
        ]
      ]

  -- so the heap shows the list with these elements, and its store has as many slots fewer
  pub shifted_has_trimmed : 1 ≤ gone → HasTrimmed old new graph at list (drop gone list.elements)
      (capacity_at (heap_of old) at - gone)
  shifted_has_trimmed some =
      subst (λ n. HasTrimmed old new graph at list (drop gone list.elements) (n - gone)) (sym stored.capacity)
      (cut_has_trimmed stored (header_bits store_header) cut after words_put shows is within
      (dropped_are_new graph list.elements gone (list_are_new shows is)) into
      (record {
        elements = λ k value there. sym (later_element gone list.elements k) ∙ there;
        enough = omega (arith, left, stored.room);
        rest = λ k past below. omega (arith, past, left);
      })
      (shifted_touch at puts.store gone) puts.touches each_touched
      (TrimMarks.shifted (omega (arith, some)) puts.marks))

-- so it is with each such trim
pub shifted_list_shows : ShiftedListShows
shifted_list_shows old new graph at list gone within shows is some few puts =
    shifted_has_trimmed shows is within few puts some
