-- Words that are stored: those of slots, headers and other words, in pages and behind them.
use Rattle.std.proofs.Common.{◌≡◌, ℕ, ◌+◌, ◌<◌, ◌≤◌, inl, inr, slice_set, refl, sym, subst, arith}
use Rattle.std.proofs.lemmas.List.Elements.{All-contains_itself}
use Rattle.cell_layout.specs.Cells.{layouts_in}
use Rattle.cycle_state.specs.Cycles.{words_of_pages}
use Rattle.handle_roots.specs.Roots.{first_word, root_at, second_word}
use Rattle.handle_roots.specs.declared.held.Held.{Held}
use Rattle.mark_barrier.specs.CycleSteps.{sure_of_target}
use Rattle.mark_laws.proofs.Joins.{all_from, joined_by_keeps}
use Rattle.mark_world.specs.Cycles.{Cycle}
use Rattle.mark_world.specs.Pages.{target}
use Rattle.mark_world.specs.Soundness.{AreIn}
use Rattle.mark_world.specs.declared.event.Event.TheVariants as event
use Rattle.page_space.specs.Extents.{eden_start, layouts_start}
use Rattle.page_space.proofs.Starts.{layouts_start_is, roots_start_is}
use Rattle.remembered_set.specs.Recorded.{Recorded}
use Rattle.std.proofs.Common.{Contains}
use Rattle.write_barrier.specs.Marking.{MayPut, MayPutHeader}
use Rattle.write_barrier.specs.MutatorState.{Mutator, cycle_after, forgets, heap_of, judged, put_word, reserved}
use Rattle.write_barrier.specs.MutatorState.{wiped, with_slot, with_variable, with_weak, with_word, world_of}
use Rattle.write_barrier.specs.Storing.{StoresOn}
use Rattle.write_barrier.proofs.JudgedSlots.{wiped_bound}
use Rattle.write_barrier.proofs.PutWords.{after_behind, after_cases, after_open, judged_keeps, put_on}
use Rattle.write_barrier.proofs.SeenWorlds.{SeesOn, header_sees, owned_sees, seen, slot_sees}
use Rattle.write_barrier.proofs.StoresOn.{same_pages_store, stores_on_again}

-- the world of a heap goes on where a word of a page and what is known of the cycle are others
abbrev SeesPut : Mutator → ℕ → ℕ → Cycle → Type 0
SeesPut main at word cycle =
    SeesOn (world_of main) (seen (eden_start main.seat.space) (slice_set (words_of_pages (heap_of main)) at word)
    (layouts_in main.seat.space main.seat.table) cycle)

module _ {main : Mutator} where
  -- words were stored where a slot was
  pub slot_stores_on : (at word : ℕ) → at < layouts_start main.seat.space → MayPut main at (event.StoreSlot at word)
      → StoresOn main (with_slot main at word)
  slot_stores_on at word before may =
      let next : Cycle = sure_of_target (eden_start main.seat.space) main.cycle word in
      put_on main at word before (judged main.recorded at word) (cycle_after main at next)
      (judged_keeps main.recorded at word)
      (after_cases (λ (c : Cycle). c ≡ record main.cycle { sure = c.sure }) main at next refl refl)
      (after_cases (λ (c : Cycle). AreIn c.sure main.cycle.sure) main at next (All-contains_itself main.cycle.sure)
      (all_from (Contains next.sure) main.cycle.sure
      (joined_by_keeps main.cycle.sure (target (eden_start main.seat.space) word))))
      (λ readable behind. after_behind main at next readable behind)
      (λ readable of_page mark. subst (SeesPut main at word) (sym (after_open main at next readable of_page mark))
      (slot_sees (eden_start main.seat.space) (words_of_pages (heap_of main))
      (layouts_in main.seat.space main.seat.table) main.cycle readable.view at word (may of_page mark).may))

  -- a word that no helper visits by is put, whatever is recorded then
  owned_on : (at word : ℕ) (recorded : Recorded) → recorded.bound ≡ main.recorded.bound
      → at < layouts_start main.seat.space → MayPut main at (event.StoreOwned at word)
      → StoresOn main (put_word (record main { recorded = recorded }) at word)
  owned_on at word recorded bound before may =
      put_on main at word before recorded main.cycle bound refl (All-contains_itself main.cycle.sure)
      (λ readable behind. refl)
      (λ readable of_page mark.
      owned_sees (eden_start main.seat.space) (words_of_pages (heap_of main))
      (layouts_in main.seat.space main.seat.table) main.cycle readable.view at word (may of_page mark).may)

  -- so where a slot was that marking does not visit
  pub weak_stores_on : (at word : ℕ) → at < layouts_start main.seat.space → MayPut main at (event.StoreOwned at word)
      → StoresOn main (with_weak main at word)
  weak_stores_on at word = owned_on at word (judged main.recorded at word) (judged_keeps main.recorded at word)

  -- where a word of no slot was
  pub word_stores_on : (at word : ℕ) → at < layouts_start main.seat.space → MayPut main at (event.StoreOwned at word)
      → StoresOn main (with_word main at word)
  word_stores_on at word =
      owned_on at word (wiped main.recorded at (at + 1)) (wiped_bound main.recorded at (at + 1))

  -- and where a header was
  pub header_stores_on : (at word : ℕ) → at < layouts_start main.seat.space → MayPutHeader main at word
      → StoresOn main (with_word main at word)
  header_stores_on at word before may =
      put_on main at word before (wiped main.recorded at (at + 1)) main.cycle
      (wiped_bound main.recorded at (at + 1)) refl (All-contains_itself main.cycle.sure) (λ readable behind. refl)
      (λ readable of_page mark. elim (may of_page mark) [
        | inl header ↦ header_sees (eden_start main.seat.space) (words_of_pages (heap_of main))
            (layouts_in main.seat.space main.seat.table) main.cycle readable.view at word header.may
        | inr owned ↦ owned_sees (eden_start main.seat.space) (words_of_pages (heap_of main))
            (layouts_in main.seat.space main.seat.table) main.cycle readable.view at word owned.may
      ])

  -- behind the pages a slot may be stored
  pub young_slot_stores_on : (at word : ℕ) → eden_start main.seat.space ≤ at → at < layouts_start main.seat.space
      → StoresOn main (with_slot main at word)
  young_slot_stores_on at word behind before =
      slot_stores_on at word before (λ of_page mark. absurd (omega (arith, behind, of_page)))

  -- one that marking does not visit
  pub young_weak_stores_on : (at word : ℕ) → eden_start main.seat.space ≤ at → at < layouts_start main.seat.space
      → StoresOn main (with_weak main at word)
  young_weak_stores_on at word behind before =
      weak_stores_on at word before (λ of_page mark. absurd (omega (arith, behind, of_page)))

  -- another word
  pub young_word_stores_on : (at word : ℕ) → eden_start main.seat.space ≤ at → at < layouts_start main.seat.space
      → StoresOn main (with_word main at word)
  young_word_stores_on at word behind before =
      word_stores_on at word before (λ of_page mark. absurd (omega (arith, behind, of_page)))

  -- whatever is recorded
  pub put_stores_on : (at word : ℕ) → eden_start main.seat.space ≤ at → at < layouts_start main.seat.space
      → StoresOn main (put_word main at word)
  put_stores_on at word behind before =
      owned_on at word main.recorded refl before (λ of_page mark. absurd (omega (arith, behind, of_page)))

-- both root words of a variable stand behind the pages
pub variable_stores_on : {main : Mutator} (variable : ℕ) (held : Held) → variable < main.seat.space.variables
    → StoresOn main (with_variable main variable held)
variable_stores_on {main} variable held known =
    let root : ℕ = root_at main.seat.space variable in
    let first : Mutator = put_word main root (first_word held) in
    let roots = roots_start_is main.seat.space in
    let layouts = layouts_start_is main.seat.space in
    stores_on_again
    (put_stores_on root (first_word held) (omega (arith, roots)) (omega (arith, known, layouts)))
    (put_stores_on {main = first} (root + 1) (second_word held) (omega (arith, roots)) (omega (arith, known, layouts)))

-- what is forgotten leaves the pages
pub forgets_store : (main : Mutator) (from to : ℕ) → StoresOn main (forgets main from to)
forgets_store main from to =
    same_pages_store {old = main} {new = forgets main from to} refl refl refl refl
    (wiped_bound main.recorded from to) refl refl

-- so do words that are used
pub reserved_stores_on : (main : Mutator) (more : ℕ) → StoresOn main (reserved main more)
reserved_stores_on main more =
    same_pages_store {old = main} {new = reserved main more} refl refl refl refl refl refl refl
