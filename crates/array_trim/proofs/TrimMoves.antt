-- The steps of a trim, one after another, in an open cycle of marking: what each may do, and what stays.
use Rattle.std.proofs.Common.{◌≡◌, ℕ, ◌+◌, ◌-◌, ◌<◌, ◌≤◌, ◌⊎◌, ◌^◌, inl, inr, Contains, length, sym, ◌∙◌, ap, subst}
use Rattle.std.proofs.Common.{arith}
use Rattle.std.proofs.lemmas.Bool.{cases_lt}
use Rattle.tagged_word.specs.declared.layout.Kind.TheVariants as kind
use Rattle.tagged_word.specs.Cells.{store_head, store_slot}
use Rattle.page_space.specs.Extents.{eden_start, layouts_start, marks_start}
use Rattle.heap_model.specs.Kinds.{count_offset}
use Rattle.heap_model.specs.Remembered.{Touch}
use Rattle.heap_model.specs.Slots.{reference_word}
use Rattle.mark_world.specs.Cycles.{Cycle}
use Rattle.mark_world.specs.declared.event.Event.TheVariants as event
use Rattle.heap_table.specs.Phases.{Mark}
use Rattle.write_barrier.specs.FreeCells.{with_free_cell}
use Rattle.write_barrier.specs.Marking.{MayPut, MayPutHeader, MayPutFree, with_blackened, with_published}
use Rattle.write_barrier.specs.MutatorState.{Mutator, with_slot, with_word}
use Rattle.write_barrier.specs.Recording.{Touches, touched, touched_one, touched_then, touched_again}
use Rattle.write_barrier.specs.Seats.{RestStays, heap_words}
use Rattle.write_barrier.specs.Storing.{IsSureAt, MayChange, MayHold, StoresOn}
use Rattle.write_barrier.specs.SureStores.{StoresSurely}
use Rattle.write_barrier.proofs.BlackenedOn.{black_is_mine, may_change_black}
use Rattle.write_barrier.proofs.FreedOn.{free_stores_on}
use Rattle.write_barrier.proofs.MayPuts.{OpenAt, may_put_free, may_put_mine, may_put_new}
use Rattle.write_barrier.proofs.PublishedOn.{may_change_published, published_is_born, published_mine_grows}
use Rattle.write_barrier.proofs.Recording.{word_touch}
use Rattle.write_barrier.proofs.SlotStores.{slot_stores_on, word_stores_on}
use Rattle.write_barrier.proofs.StoresOn.{may_change_stays, stores_on_again, stores_on_itself}
use Rattle.write_barrier.proofs.SureStores.{range_wiped_surely, slot_surely, surely_then, wiped_surely}
use Rattle.write_barrier.proofs.TouchedRanges.{touched_inside, touched_other, touched_outside}
use Rattle.object_cells.proofs.HoldableWords.{reference_may_hold}
use Rattle.object_cells.proofs.ListsInCycle.{count_may_put, link_may_put}
use Rattle.std.proofs.lemmas.List.Elements.{All-contains}

-- what a trim may do before its first step: change the list's cell and its store of so many slots, and make this black
pub record MayBegin (main : Mutator) (list store capacity : ℕ) : Type 0 where
  pub of_list : MayChange main list 3 kind.List
  pub of_store : MayChange main store (store_head + capacity) kind.Store
  pub black : MayPut main store (event.Blacken store)
  pub list_in : list + 3 ≤ layouts_start main.seat.space
  pub store_in : store + (store_head + capacity) ≤ layouts_start main.seat.space

-- after some step it is black, and words were stored since the first mutator
pub record Trims (first main : Mutator) (list store capacity : ℕ) : Type 0 where
  pub stores : StoresOn first main
  pub of_list : MayChange main list 3 kind.List
  pub of_store : MayChange main store (store_head + capacity) kind.Store
  pub mine : OpenAt main store (Contains main.cycle.mine store)
  pub list_in : list + 3 ≤ layouts_start main.seat.space
  pub store_in : store + (store_head + capacity) ≤ layouts_start main.seat.space

-- so it is once it was made black
pub blackened_trims : {main next : Mutator} (list store capacity : ℕ) → MayBegin main list store capacity
    → next ≡ with_blackened main store → Trims (with_blackened main store) next list store capacity
blackened_trims {main} list store capacity may is =
    let black : Mutator = with_blackened main store in
    subst (λ (now : Mutator). Trims black now list store capacity) (sym is) (record {
      stores = stores_on_itself black;
      of_list = may_change_black store may.black may.of_list;
      of_store = may_change_black store may.black may.of_store;
      mine = λ page mark. black_is_mine store (may.of_store page mark).readable page mark;
      list_in = may.list_in;
      store_in = may.store_in;
    })

-- and after words were stored
trims_on : {first main next : Mutator} {list store capacity : ℕ} → Trims first main list store capacity
    → StoresOn main next → Trims first next list store capacity
trims_on {main = main} {next} {store = store} trims stores = record {
  stores = stores_on_again trims.stores stores;
  of_list = may_change_stays stores trims.of_list;
  of_store = may_change_stays stores trims.of_store;
  mine = λ page mark. subst (λ (c : Cycle). Contains c.mine store) (sym stores.cycle)
      (trims.mine (omega (arith, page, ap eden_start stores.space)) (sym stores.phase ∙ mark));
  list_in = omega (arith, trims.list_in, ap layouts_start stores.space);
  store_in = omega (arith, trims.store_in, ap layouts_start stores.space);
}

module _ {first main : Mutator} {list store capacity : ℕ} (trims : Trims first main list store capacity) where
  -- a cell may begin at any word of the store
  pub cell_may_begin : (at : ℕ) → store ≤ at → at < store + (store_head + capacity)
      → MayPut main at (event.NewBlack at)
  cell_may_begin at from below =
      let there : store + (at - store) ≡ at = omega (arith, from) in
      subst (λ n. MayPut main n (event.NewBlack n)) there
      (may_put_new (at - store) trims.of_store (omega (arith, from, below)) trims.mine)

  -- any word may be put there
  pub own_may_put : (at word : ℕ) → store ≤ at → at < store + (store_head + capacity)
      → MayPut main at (event.StoreOwned at word)
  own_may_put at word from below =
      let there : store + (at - store) ≡ at = omega (arith, from) in
      subst (λ n. MayPut main n (event.StoreOwned n word)) there
      (may_put_mine (at - store) word trims.of_store (omega (arith, from, below)) trims.mine)

  -- also as a header
  pub own_may_put_header : (at word : ℕ) → store ≤ at → at < store + (store_head + capacity) → MayPutHeader main at word
  own_may_put_header at word from below page mark = inr (own_may_put at word from below page mark)

  -- words of the store may become free
  pub own_may_put_free : (at count : ℕ) → store ≤ at → at + count ≤ store + (store_head + capacity)
      → MayPutFree main at count
  own_may_put_free at count from within =
      let there : store + (at - store) ≡ at = omega (arith, from) in
      subst (λ n. MayPutFree main n count) there
      (may_put_free (at - store) count trims.of_store (omega (arith, from, within)) trims.mine)

  -- the trim goes on where a word was put in the store
  pub own_put_trims : {next : Mutator} (at word : ℕ) → store ≤ at → at < store + (store_head + capacity)
      → next ≡ with_word main at word → Trims first next list store capacity
  own_put_trims at word from below is =
      trims_on trims (subst (StoresOn main) (sym is)
      (word_stores_on at word (omega (arith, below, trims.store_in)) (own_may_put at word from below)))

  -- where the list's length was
  pub count_put_trims : {next : Mutator} (word : ℕ) → next ≡ with_word main (list + count_offset) word
      → Trims first next list store capacity
  count_put_trims word is =
      trims_on trims (subst (StoresOn main) (sym is)
      (word_stores_on (list + count_offset) word (omega (arith, trims.list_in))
      (count_may_put list word trims.of_list)))

  -- where its slot for a store was
  pub link_put_trims : {next : Mutator} (word : ℕ) → MayHold main word
      → next ≡ with_slot main (list + store_slot) word → Trims first next list store capacity
  link_put_trims word holds is =
      trims_on trims (subst (StoresOn main) (sym is)
      (slot_stores_on (list + store_slot) word (omega (arith, trims.list_in))
      (link_may_put list word trims.of_list holds)))

  -- where words of the store became free
  pub free_put_on : {next : Mutator} (at count : ℕ) → store ≤ at → at + count ≤ store + (store_head + capacity)
      → RestStays main.seat next.seat → next.paths ≡ main.paths → next.cycle ≡ main.cycle
      → next.recorded.bound ≡ main.recorded.bound
      → heap_words next.seat ≡ with_free_cell (heap_words main.seat) at count → StoresOn main next
  free_put_on at count from within rest paths cycle bound words =
      free_stores_on at count (omega (arith, within, trims.store_in)) (own_may_put_free at count from within) rest paths
      cycle bound words

  -- where a cell was published that begins in it
  pub published_trims : {next : Mutator} (at : ℕ) → store ≤ at → at < store + (store_head + capacity)
      → next ≡ with_published main at → Trims (with_published main at) next list store capacity
  published_trims at from below is =
      let may = cell_may_begin at from below in
      let now : Mutator = with_published main at in
      subst (λ (one : Mutator). Trims now one list store capacity) (sym is) (record {
        stores = stores_on_itself now;
        of_list = may_change_published at may trims.of_list;
        of_store = may_change_published at may trims.of_store;
        mine = λ page mark. All-contains (Contains now.cycle.mine) main.cycle.mine store
            (published_mine_grows main at) (trims.mine page mark);
        list_in = trims.list_in;
        store_in = trims.store_in;
      })

  -- and a slot may hold a reference to it
  pub published_may_hold : (at : ℕ) → store ≤ at → at < 2 ^ 32 → MayHold (with_published main at) (reference_word at)
  published_may_hold at from fits =
      reference_may_hold at fits (λ mark page.
      published_is_born at (trims.of_store (omega (arith, page, from)) mark).readable page mark)

-- what stays recorded of a word stays so where others were wiped
kept_again : (first next : ℕ → Touch) (at : ℕ) → next at ≡ Touch.Kept → touched_then first next at ≡ first at
kept_again first next at kept = ap (λ (how : Touch). touched_again (first at) how) kept

-- an address that is in no range is before it or behind it
beside : (at from many : ℕ) → (from ≤ at → at < from + many → ⊥) → (at < from) ⊎ (from + many ≤ at)
beside at from many outside = elim (cases_lt at from) [
  | inl before ↦ inl before
  | inr begins ↦ elim (cases_lt at (from + many)) [
    | inl inside ↦ absurd (outside begins inside)
    | inr behind ↦ inr behind
  ]
]

-- The mutator is sure of what the list's slot for a store refers to, since it was stored last, and only the length and
-- words of the store were put then.
pub linked_surely : (mid put counted last : Mutator) {first : Mutator} {list store capacity : ℕ} (word count gone : ℕ)
    → length (heap_words mid.seat) ≡ marks_start mid.seat.space → list + store_slot < marks_start mid.seat.space
    → put ≡ with_slot mid (list + store_slot) word → Trims first put list store capacity
    → counted ≡ with_word put (list + count_offset) count
    → list + count_offset < marks_start put.seat.space → StoresOn counted last
    → Touches counted last (touched Touch.Wiped store (store + gone))
    → (store ≤ list + store_slot → list + store_slot < store + gone → ⊥)
    → last.seat.phase ≡ Mark → list + store_slot < eden_start last.seat.space
    → last.recorded.bound ≡ eden_start last.seat.space
    → IsSureAt last (list + store_slot)
linked_surely mid put counted last {list = list} {store} word count gone long within is trims counts
    within_too on touches apart mark page bound =
    let slot : ℕ = list + store_slot in
    let one : StoresSurely put (touched_one Touch.Stored slot) =
    subst (λ (main : Mutator). StoresSurely main (touched_one Touch.Stored slot)) (sym is)
    (slot_surely mid slot word (omega (arith, long, within))) in
    let count_on : StoresOn put counted = subst (StoresOn put) (sym counts)
    (word_stores_on (list + count_offset) count (omega (arith, trims.list_in))
    (count_may_put list count trims.of_list)) in
    let count_touch : Touches put counted (touched_one Touch.Wiped (list + count_offset)) =
    subst (λ (main : Mutator). Touches put main (touched_one Touch.Wiped (list + count_offset))) (sym counts)
    (word_touch put (list + count_offset) count within_too) in
    let two = surely_then one count_touch count_on (wiped_surely counted (list + count_offset)) in
    let all = surely_then two touches on (range_wiped_surely last store (store + gone)) in
    let outside : (slot < store) ⊎ (store + gone ≤ slot) = beside slot store gone apart in
    all.sure mark slot page (omega (arith, page, bound))
    (kept_again (touched_then (touched_one Touch.Stored slot) (touched_one Touch.Wiped (list + count_offset)))
    (touched Touch.Wiped store (store + gone)) slot (touched_outside Touch.Wiped store (store + gone) slot outside)
    ∙ kept_again (touched_one Touch.Stored slot) (touched_one Touch.Wiped (list + count_offset)) slot
    (touched_other Touch.Wiped (list + count_offset) slot (λ same. omega (arith, same)))
    ∙ touched_inside Touch.Stored slot (slot + 1) slot (omega arith) (omega arith))
