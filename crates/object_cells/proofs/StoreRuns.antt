-- A run of words that a new store fills, with the slots of the one before it, one more, and a box if that needs one.
use Rattle.std.proofs.Common.{◌≡◌, ◌≢◌, ℕ, ◌+◌, ◌≤◌, ◌<◌, inl, inr, List, length, Some, slice_get, sym, ◌∙◌, ap}
use Rattle.std.proofs.Common.{arith, length-set, add-zero}
use Rattle.std.specs.Prelude.{slice_set}
use Rattle.tagged_word.specs.Cells.{store_head, store_slot}
use Rattle.object_graph.proofs.Lists.{slice_get-set_same, slice_get-set_other}
use Rattle.heap_model.specs.Slots.{hole_word, reference_word}
use Rattle.object_cells.specs.FilledRuns.{run_words, FillsRun}
use Rattle.object_cells.specs.Formats.{empty_store}
use Rattle.object_cells.specs.Made.{begun_store, with_content, content_need, content_word}
use Rattle.object_cells.specs.declared.content.SlotContent.{SlotContent}
use Rattle.object_cells.specs.declared.stores.Store.{Store}
use Rattle.object_cells.proofs.MadeBoxes.{length-with_content, with_content_stays, with_content_box}
use Rattle.object_cells.proofs.NewStores.{store_cell}
use Rattle.object_cells.proofs.StoreWords.{MakesStore, copied_long, copied_word, begun_stays, begun_word}
use Rattle.object_cells.proofs.StoreWords.{empty_store_hole}

-- the words with the store, the slots of the one before, a word in the slot of this number behind them, maybe a box,
-- the reference to the store, and the other word
abbrev pub filled_run : List ℕ → ℕ → ℕ → ℕ → Store → ℕ → ℕ → ℕ → SlotContent → List ℕ
filled_run words object own value store slot capacity at holds =
    let box = at + (store_head + capacity) in
    let boxed = with_content (begun_store words store capacity at) holds box in
    let put = slice_set boxed (at + (store_head + slot)) (content_word holds box) in
    slice_set (slice_set put (object + store_slot) (reference_word at)) own value

-- Of the slots of a store that was made the first hold what those of the other held, the next one the word, and those
-- behind it nothing.
pub record CopiesSlots (before after : List ℕ) (store : Store) (capacity at word : ℕ) : Type 0 where
  pub copied : (k : ℕ) → k < store.capacity
      → slice_get after (at + (store_head + k)) ≡ slice_get before (store.at + (store_head + k))
  pub put : slice_get after (at + (store_head + store.capacity)) ≡ Some word
  pub holes : (k : ℕ) → store.capacity < k → k < capacity
      → slice_get after (at + (store_head + k)) ≡ Some hole_word

module _ {words : List ℕ} {object own : ℕ} {store : Store} {capacity at : ℕ} {holds : SlotContent}
    (makes : MakesStore words object own store capacity at holds) (value slot : ℕ) (full : slot ≡ store.capacity) where
  -- the address of the box, and that of the slot
  abbrev box : ℕ
  box = at + (store_head + capacity)

  abbrev place : ℕ
  place = at + (store_head + slot)

  -- the words before the slot is put, with it, with the reference, and all
  abbrev boxed : List ℕ
  boxed = with_content (begun_store words store capacity at) holds box

  abbrev put : List ℕ
  put = slice_set boxed place (content_word holds box)

  abbrev linked : List ℕ
  linked = slice_set put (object + store_slot) (reference_word at)

  abbrev all : List ℕ
  all = filled_run words object own value store slot capacity at holds

  boxed_long : length boxed ≡ length words
  boxed_long = length-with_content (begun_store words store capacity at) holds box ∙ copied_long makes

  linked_long : length linked ≡ length words
  linked_long =
      length-set put (object + store_slot) (reference_word at) ∙ length-set boxed place (content_word holds box)
      ∙ boxed_long

  -- a word of the run is that with the slot
  run_word : (b : ℕ) → at ≤ b → b < at + run_words (store_cell at capacity) holds → slice_get all b ≡ slice_get put b
  run_word b from below =
      slice_get-set_other linked own b value (λ same. makes.beside (omega (arith, same)) (omega (arith, same)))
      ∙ slice_get-set_other put (object + store_slot) b (reference_word at)
      (λ same. makes.named (omega (arith, same)) (omega (arith, same)))

  -- one of the store but the slot is that of the store that was begun
  store_word : (k : ℕ) → k < store_head + capacity → k ≢ store_head + slot
      → slice_get all (at + k) ≡ slice_get (begun_store words store capacity at) (at + k)
  store_word k below apart =
      run_word (at + k) (omega arith) (omega (arith, below))
      ∙ slice_get-set_other boxed place (at + k) (content_word holds box) (λ same. apart (omega (arith, same)))
      ∙ with_content_stays (begun_store words store capacity at) holds box (at + k)
      (λ from high. omega (arith, from, below))

  -- one of its head
  head_word : (k : ℕ) → k < store_head → slice_get all (at + k) ≡ slice_get (empty_store capacity) k
  head_word k below =
      store_word k (omega (arith, below)) (λ same. omega (arith, same, below))
      ∙ begun_word makes k (omega (arith, below)) (inl below)

  -- one of the box
  box_word : (b : ℕ) → box ≤ b → b < box + content_need holds → slice_get all b ≡ slice_get boxed b
  box_word b from below =
      run_word b (omega (arith, from)) (omega (arith, below))
      ∙ slice_get-set_other boxed place b (content_word holds box)
      (λ same. omega (arith, same, from, full, makes.more))

  -- so the run is filled
  pub fills_run : FillsRun words all object own (store_cell at capacity) holds
  fills_run = record {
    long = length-set linked own value ∙ linked_long;
    header = ap (slice_get all) (sym (add-zero at)) ∙ head_word 0 (omega arith);
    counted = head_word 1 (omega arith);
    box = λ v is.
        let stands = with_content_box (begun_store words store capacity at) holds box v is
        (omega (arith, makes.within, copied_long makes, ap content_need is)) in
        record {
          header = box_word box (omega arith) (omega (arith, ap content_need is)) ∙ stands.header;
          raw = box_word (box + 1) (omega arith) (omega (arith, ap content_need is)) ∙ stands.raw;
        };
    named = slice_get-set_other linked own (object + store_slot) value (λ same. makes.not_slot (sym same))
        ∙ slice_get-set_same put (object + store_slot) (reference_word at)
        (omega (arith, makes.slot, length-set boxed place (content_word holds box), boxed_long));
    stay = λ a not_slot not_own not_run.
        slice_get-set_other linked own a value not_own
        ∙ slice_get-set_other put (object + store_slot) a (reference_word at) not_slot
        ∙ slice_get-set_other boxed place a (content_word holds box)
        (λ same. not_run (omega (arith, same)) (omega (arith, same, full, makes.more)))
        ∙ with_content_stays (begun_store words store capacity at) holds box a
        (λ from below. not_run (omega (arith, from)) (omega (arith, below)))
        ∙ begun_stays makes a (λ from below. not_run from (omega (arith, below)));
  }

  -- the other word stands
  pub own_put : slice_get all own ≡ Some value
  own_put = slice_get-set_same linked own value (omega (arith, makes.own_in, linked_long))

  -- and so do the slots
  pub copies_slots : CopiesSlots words all store capacity at (content_word holds box)
  copies_slots = record {
    copied = λ k below.
        store_word (store_head + k) (omega (arith, below, makes.more)) (λ same. omega (arith, same, below, full))
        ∙ copied_word makes k below;
    put = ap (λ n. slice_get all (at + (store_head + n))) (sym full)
        ∙ run_word place (omega arith) (omega (arith, full, makes.more))
        ∙ slice_get-set_same boxed place (content_word holds box)
        (omega (arith, boxed_long, makes.within, makes.more, full));
    holes = λ k from below.
        store_word (store_head + k) (omega (arith, below)) (λ same. omega (arith, same, from, full))
        ∙ begun_word makes (store_head + k) (omega (arith, below)) (inr (omega (arith, from)))
        ∙ empty_store_hole capacity k below;
  }
