-- What the steps of a trim leave of an open cycle: the store that was made black, and the one that begins in it.
use Rattle.std.proofs.Common.{◌≡◌, ℕ, ◌+◌, ◌<◌, ◌≤◌, inl, inr, List, [], Contains, All, Some, None, Option}
use Rattle.std.proofs.Common.{IfSome, slice_index, sym, ◌∙◌, ap, subst, arith}
use Rattle.std.proofs.lemmas.List.Elements.{All-contains}
use Rattle.std.proofs.lemmas.Option.{same_Some}
use Rattle.tagged_word.specs.Cells.{store_slot, tagged_offsets_of}
use Rattle.tagged_word.proofs.Members.{first_in}
use Rattle.page_space.specs.Extents.{eden_start}
use Rattle.object_graph.specs.Graphs.{Graph}
use Rattle.heap_model.specs.Types.{Kind, Value, Cell}
use Rattle.heap_model.specs.Heaps.{words_of_cell}
use Rattle.heap_model.specs.Kinds.{HasWord}
use Rattle.heap_model.specs.Slots.{reference_word}
use Rattle.mark_laws.specs.Types.{Reading}
use Rattle.mark_laws.proofs.Joins.{all_from}
use Rattle.mark_world.specs.Coverage.{EachSlot, cell_of}
use Rattle.mark_world.specs.Cycles.{Cycle}
use Rattle.mark_world.specs.Pages.{OfTarget, slots_of, target}
use Rattle.mark_world.specs.Soundness.{AreIn}
use Rattle.cycle_state.specs.Cycles.{words_of_pages}
use Rattle.cycle_state.proofs.PageCells.{page_words_are_read, page_cell_within}
use Rattle.heap_table.specs.Phases.{Mark}
use Rattle.write_barrier.specs.Marking.{with_blackened, with_published}
use Rattle.write_barrier.specs.MutatorState.{Mutator, heap_of, world_of, MainShows, RestsInCycle}
use Rattle.write_barrier.specs.Storing.{IsReadable}
use Rattle.write_barrier.proofs.BlackenedOn.{black_cycle, black_sure_grows, black_mine_grows, black_readable}
use Rattle.write_barrier.proofs.BlackenedOn.{black_is_mine}
use Rattle.write_barrier.proofs.BlackenedOn.{black_mine_from, black_slots_are_sure}
use Rattle.write_barrier.proofs.PublishedOn.{published_cycle, published_born_grows, published_mine_grows}
use Rattle.write_barrier.proofs.PublishedOn.{published_readable, published_is_mine, published_is_born}
use Rattle.write_barrier.proofs.PublishedOn.{published_mine_from, published_born_from, published_starts_from}
use Rattle.write_barrier.proofs.StoresOn.{shown_is_readable}
use Rattle.write_barrier.proofs.SureStores.{target_so}
use Rattle.object_cells.proofs.OwnCells.{list_size}
use Rattle.object_cells.proofs.SureCells.{settled_before}
use Rattle.array_trim.specs.TrimSteps.{PublishesStore, BlackensStore}
use Rattle.array_trim.proofs.TrimmedCells.{Trimming, list_now}
use Rattle.array_trim.proofs.KeptLists.{TrimsLists}
use Rattle.array_trim.proofs.TrimmedSlots.{elements_now}

-- a list that another one has, and that has a third, has that
are_in_again : (first next last : List ℕ) → AreIn next first → AreIn last next → AreIn last first
are_in_again first next last early late =
    all_from (Contains last) first (λ at there. All-contains (Contains last) next at late
    (All-contains (Contains next) first at early there))

-- an element of a list is one of each that has it
still_in : (first last : List ℕ) → AreIn last first → (at : ℕ) → Contains first at → Contains last at
still_in first last grows at there = All-contains (Contains last) first at grows there

-- what holds of each tagged slot holds of it if another thing follows
slots_so : {P Q : ℕ → ℕ → Type 0} (words : List ℕ) (at : ℕ) (found : Option Reading)
    → ((offset word : ℕ) → P offset word → Q offset word)
    → IfSome found (λ cell. All (λ offset. P offset (slice_index words (at + offset))) (slots_of cell))
    → IfSome found (λ cell. All (λ offset. Q offset (slice_index words (at + offset))) (slots_of cell))
slots_so words at None follows holds = tt
slots_so {P} {Q} words at (Some cell) follows holds =
    all_from (λ offset. Q offset (slice_index words (at + offset))) (slots_of cell) (λ offset there.
    follows offset (slice_index words (at + offset))
    (All-contains (λ k. P k (slice_index words (at + k))) (slots_of cell) offset holds there))

-- What the steps of a trim leave of an open cycle: the lists are those of the store that was made black and of the one
-- that begins in it, and the mutator is sure of the slots of both.
pub record MarksStore (old new : Mutator) (cell store came : Cell) : Type 0 where
  pub readable : IsReadable new
  pub sure : AreIn new.cycle.sure old.cycle.sure
  pub lists : TrimsLists (heap_of old) old.cycle new.cycle store came
  pub slots : store.at < eden_start old.seat.space → EachSlot (world_of old) store.at
      (λ offset word. OfTarget (eden_start old.seat.space) word (Contains new.cycle.sure))
  pub linked : cell.at < eden_start old.seat.space → Contains old.cycle.mine cell.at → (word : ℕ)
      → HasWord (words_of_cell (heap_of new) cell) store_slot word
      → OfTarget (eden_start old.seat.space) word (Contains new.cycle.sure)

module _ (old new : Mutator) {graph : Graph} {cell store came : Cell} {pieces : List Cell} {before after : List Value}
    {from : ℕ} (shows : MainShows old graph)
    (trim : Trimming (heap_of old) (heap_of new) cell store came pieces before after from)
    (mark : old.seat.phase ≡ Mark) where
  -- helpers may read the old heap
  readable : IsReadable old
  readable = shown_is_readable shows mark

  -- which rests in the cycle
  pub rests : RestsInCycle old graph
  rests = shows.calm mark

  -- the region of pages is the same
  pub eden_same : eden_start new.seat.space ≡ eden_start old.seat.space
  eden_same = ap eden_start trim.same_space

  -- the store begins at its place or later
  pub began : store.at ≤ came.at
  began = omega (arith, trim.place)

  module _ (marks : BlackensStore old new store.at) (same : came.at ≡ store.at) where
    -- the store is black
    abbrev black : Mutator
    black = with_blackened old store.at

    black_read : IsReadable black
    black_read = black_readable store.at marks.may_black mark readable

    -- of the lists only those of black and of sure cells grow
    one_cycle : new.cycle ≡ record old.cycle { mine = black.cycle.mine; sure = new.cycle.sure }
    one_cycle = marks.after.cycle ∙ ap (λ (c : Cycle). record c { sure = new.cycle.sure }) (black_cycle old store.at)

    mine_same : new.cycle.mine ≡ black.cycle.mine
    mine_same = ap (λ (c : Cycle). c.mine) one_cycle

    truncated_lists : TrimsLists (heap_of old) old.cycle new.cycle store came
    truncated_lists = record {
      reached = ap (λ (c : Cycle). c.reached) one_cycle;
      counted = ap (λ (c : Cycle). c.made) one_cycle;
      dead = ap (λ (c : Cycle). c.dead) one_cycle;
      born_stays = λ at there. subst (λ (c : Cycle). Contains c.born at) (sym one_cycle) there;
      born_from = λ at there. inl (subst (λ (c : Cycle). Contains c.born at) one_cycle there);
      born_now = λ later page. absurd (omega (arith, later, same));
      starts_from = λ at there. inl (subst (λ (c : Cycle). Contains c.starts at) one_cycle there);
      mine_stays = λ at there. subst (λ list. Contains list at) (sym mine_same)
          (still_in _ _ (black_mine_grows old store.at) at there);
      mine_from = λ at there. elim (black_mine_from store.at at readable
          (subst (λ list. Contains list at) mine_same there)) [
            | inl was ↦ inl was
            | inr now ↦ inr (inl now.0, subst (λ n. n < eden_start old.seat.space) (sym now.0) now.1)
          ];
      store_mine = λ page. subst (λ list. Contains list store.at) (sym mine_same)
          (black_is_mine store.at readable page mark);
    }

    -- the mutator is sure of the slots of the store
    truncated_sure : AreIn new.cycle.sure black.cycle.sure
    truncated_sure = marks.after.sure

    pub truncated_marks : MarksStore old new cell store came
    truncated_marks = record {
      readable = marks.after.readable mark black_read;
      sure = are_in_again _ _ _ (black_sure_grows old store.at) truncated_sure;
      lists = truncated_lists;
      slots = λ page. slots_so (words_of_pages (heap_of old)) store.at (cell_of (world_of old) store.at)
          (λ offset word is. target_so (target (eden_start old.seat.space) word) (still_in _ _ truncated_sure) is)
          (black_slots_are_sure store.at readable mark page (marks.may_black page mark).may rests.rests.settled);
      linked = λ page mine word there.
          let stayed : word ≡ trim.shown.store =
          same_Some word (reference_word came.at) (sym there ∙ (elements_now trim).slot) ∙ ap reference_word same
          ∙ sym trim.refers.refers in
          settled_before new.cycle.sure shows mark trim.has page mine
          (are_in_again _ _ _ (black_sure_grows old store.at) truncated_sure) store_slot word
          (subst (λ (k : Kind). Contains (tagged_offsets_of k cell.layout cell.length) store_slot)
          (sym trim.shown.of_kind) (first_in store_slot []))
          (trim.shown.slot ∙ ap Some (sym stayed));
    }

  module _ (marks : PublishesStore old new cell.at store.at came.at) (later : store.at < came.at) where
    -- the store is black
    abbrev first : Mutator
    first = with_blackened old store.at

    first_read : IsReadable first
    first_read = black_readable store.at marks.may_black mark readable

    -- and the one that begins in it is published
    abbrev next : Mutator
    next = with_published first came.at

    next_read : IsReadable next
    next_read = published_readable came.at marks.may_begin mark first_read

    -- the lists of published, born and black cells grow by it
    last_cycle : new.cycle ≡ record old.cycle {
      starts = next.cycle.starts;
      born = next.cycle.born;
      mine = next.cycle.mine;
      sure = new.cycle.sure;
    }
    last_cycle =
        marks.after.cycle ∙ ap (λ (c : Cycle). record c { sure = new.cycle.sure }) (published_cycle first came.at)
        ∙ ap (λ (c : Cycle). record c {
          starts = next.cycle.starts;
          born = next.cycle.born;
          mine = next.cycle.mine;
          sure = new.cycle.sure;
        }) (black_cycle old store.at)

    starts_old : first.cycle.starts ≡ old.cycle.starts
    starts_old = ap (λ (c : Cycle). c.starts) (black_cycle old store.at)

    born_old : first.cycle.born ≡ old.cycle.born
    born_old = ap (λ (c : Cycle). c.born) (black_cycle old store.at)

    sure_old : next.cycle.sure ≡ first.cycle.sure
    sure_old = ap (λ (c : Cycle). c.sure) (published_cycle first came.at)

    starts_last : new.cycle.starts ≡ next.cycle.starts
    starts_last = ap (λ (c : Cycle). c.starts) last_cycle

    born_last : new.cycle.born ≡ next.cycle.born
    born_last = ap (λ (c : Cycle). c.born) last_cycle

    mine_last : new.cycle.mine ≡ next.cycle.mine
    mine_last = ap (λ (c : Cycle). c.mine) last_cycle

    -- what was made black first stays so
    first_mine : (at : ℕ) → Contains first.cycle.mine at → Contains new.cycle.mine at
    first_mine at there =
        subst (λ list. Contains list at) (sym mine_last) (still_in _ _ (published_mine_grows first came.at) at there)

    shifted_lists : TrimsLists (heap_of old) old.cycle new.cycle store came
    shifted_lists = record {
      reached = ap (λ (c : Cycle). c.reached) last_cycle;
      counted = ap (λ (c : Cycle). c.made) last_cycle;
      dead = ap (λ (c : Cycle). c.dead) last_cycle;
      born_stays = λ at there. subst (λ list. Contains list at) (sym born_last)
          (still_in _ _ (published_born_grows first came.at) at
          (subst (λ list. Contains list at) (sym born_old) there));
      born_from = λ at there. elim (published_born_from came.at at first_read
          (subst (λ list. Contains list at) born_last there)) [
            | inl was ↦ inl (subst (λ list. Contains list at) born_old was)
            | inr now ↦ inr (now.0, later)
          ];
      born_now = λ _ page. subst (λ list. Contains list came.at) (sym born_last)
          (published_is_born came.at first_read page mark);
      starts_from = λ at there. elim (published_starts_from came.at at first_read
          (subst (λ list. Contains list at) starts_last there)) [
            | inl was ↦ inl (subst (λ list. Contains list at) starts_old was)
            | inr now ↦ inr (subst (Contains new.cycle.mine) (sym now.0) (subst (λ list. Contains list came.at)
                (sym mine_last) (published_is_mine came.at first_read now.1 mark)))
          ];
      mine_stays = λ at there. first_mine at (still_in _ _ (black_mine_grows old store.at) at there);
      mine_from = λ at there. elim (published_mine_from came.at at first_read
          (subst (λ list. Contains list at) mine_last there)) [
            | inr now ↦ inr (inr now.0, subst (λ n. n < eden_start old.seat.space) (sym now.0) now.1)
            | inl was ↦ elim (black_mine_from store.at at readable was) [
              | inl before_too ↦ inl before_too
              | inr black_now ↦
                  inr (inl black_now.0, subst (λ n. n < eden_start old.seat.space) (sym black_now.0) black_now.1)
            ]
          ];
      store_mine = λ page. first_mine store.at (black_is_mine store.at readable page mark);
    }

    shifted_sure : AreIn new.cycle.sure first.cycle.sure
    shifted_sure = subst (AreIn new.cycle.sure) sure_old marks.after.sure

    pub shifted_marks : MarksStore old new cell store came
    shifted_marks = record {
      readable = marks.after.readable mark next_read;
      sure = are_in_again _ _ _ (black_sure_grows old store.at) shifted_sure;
      lists = shifted_lists;
      slots = λ page. slots_so (words_of_pages (heap_of old)) store.at (cell_of (world_of old) store.at)
          (λ offset word is. target_so (target (eden_start old.seat.space) word) (still_in _ _ shifted_sure) is)
          (black_slots_are_sure store.at readable mark page (marks.may_black page mark).may rests.rests.settled);
      linked = λ page mine word there.
          let inside : cell.at + store_slot < eden_start new.seat.space =
          omega (arith, page_cell_within trim.has page, list_size trim.has trim.shown.of_kind, eden_same) in
          let of_page : cell.at < eden_start new.seat.space = omega (arith, page, eden_same) in
          subst (λ n. OfTarget n word (Contains new.cycle.sure)) eden_same
          (subst (λ w. OfTarget (eden_start new.seat.space) w (Contains new.cycle.sure))
          (page_words_are_read (heap_of new) cell (words_of_cell (heap_of new) cell) store_slot word (list_now trim)
          of_page there)
          (marks.linked (marks.after.phase ∙ mark) inside));
    }
