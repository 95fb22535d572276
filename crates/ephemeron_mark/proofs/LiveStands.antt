-- Each cell that is live from cells of the heap stands there, before the roots; and what is read at an address is
-- what the word there refers to.
use Rattle.std.proofs.Common.{◌≡◌, ℕ, suc, ◌+◌, ◌*◌, ◌<◌, ◌^◌, ◌⊎◌, inl, inr, List, Some, None, Contains, drop}
use Rattle.std.proofs.Common.{slice_get, refl, sym, ◌∙◌, ap, arith}
use Rattle.std.proofs.lemmas.Option.{same_Some, none-some}
use Rattle.tagged_word.specs.declared.layout.Kind.TheVariants as kind
use Rattle.tagged_word.specs.Readings.{reference_in}
use Rattle.tagged_word.specs.Cells.{store_head}
use Rattle.tagged_word.proofs.Members.{in_range}
use Rattle.tagged_word.proofs.Readings.{reference_from, reference_to}
use Rattle.page_space.specs.Extents.{Space, roots_start, marks_start}
use Rattle.page_space.proofs.LawsHold.{kinds_by_number}
use Rattle.heap_model.specs.Heaps.{Heap}
use Rattle.heap_model.specs.Slots.{reference_word}
use Rattle.heap_model.specs.Kinds.{HasWord}
use Rattle.heap_model.specs.Wholeness.{Whole}
use Rattle.heap_model.proofs.CellsApart.{first_of_cell, used_few}
use Rattle.heap_model.proofs.CellWords.{words_by_kind, behind_head, behind_head_few}
use Rattle.heap_model.proofs.ObjectSlots.{pair_words}
use Rattle.heap_model.proofs.WordsAlike.{cell_below_roots}
use Rattle.live_cells.specs.Live.{HasSlotTo, HasEntry, IsLive, IsRootTarget, IsStart}
use Rattle.live_cells.proofs.Slots.{marking_slots}
use Rattle.heap_walk.proofs.SlotTargets.{IsUsedAt, kind_to_cell, held_target}
use Rattle.ephemeron_mark.specs.Marked.{IsLiveFrom, StandsInHeap}
use Rattle.ephemeron_mark.specs.Progress.{HoldsReference}

-- a word that reads as a reference refers to its address
pub refers_as_read : (heap : Heap) (slot word at : ℕ) → slice_get heap.words slot ≡ Some word
    → reference_in word ≡ Some at → HoldsReference heap slot at
refers_as_read heap slot word at read is = read ∙ ap (λ (one : ℕ). Some one) (reference_from word at is).1

-- and one that refers to an address of 32 bits reads as a reference to it
read_as_refers : (heap : Heap) (slot word at : ℕ) → slice_get heap.words slot ≡ Some word → HoldsReference heap slot at
    → at < 2 ^ 32 → reference_in word ≡ Some at
read_as_refers heap slot word at read refers fits = reference_to word at fits (same_Some word _ (sym read ∙ refers))

-- so where it reads as no reference, it refers to no such address
pub refers_to_none : (heap : Heap) (slot word at : ℕ) → slice_get heap.words slot ≡ Some word
    → reference_in word ≡ None → HoldsReference heap slot at → at < 2 ^ 32 → ⊥
refers_to_none heap slot word at read none refers fits =
    none-some at (sym none ∙ read_as_refers heap slot word at read refers fits)

-- a word refers to one address
pub refers_to_one : (heap : Heap) (slot at other : ℕ) → HoldsReference heap slot at → HoldsReference heap slot other
    → at ≡ other
refers_to_one heap slot at other refers too =
    let same : reference_word at ≡ reference_word other = same_Some _ _ (sym refers ∙ too) in omega (arith, same)

-- what stands before the roots stands before the marks
pub before_marks : (space : Space) (at : ℕ) → at < roots_start space → at < marks_start space
before_marks space at below = omega (arith, below, (kinds_by_number space).layouts, (kinds_by_number space).marks)

-- a used cell stands in the heap
of_used : {heap : Heap} {at : ℕ} → IsUsedAt heap at → StandsInHeap heap at
of_used used = record { cell = used.cell; words = used.words; has = used.has; stands = used.stands }

module _ {heap : Heap} (whole : Whole heap) where
  -- what a root word refers to stands there
  root_stands : (at : ℕ) → IsRootTarget heap at → IsUsedAt heap at
  root_stands at target =
      let root = whole.roots target.variable target.within in
      held_target heap root.held at root.is (same_Some _ _ (sym root.holds.first ∙ target.refers))

  -- so does what a slot refers to
  slot_stands : (from at : ℕ) → HasSlotTo heap from at → IsUsedAt heap at
  slot_stands from at slot =
      let cell = slot.cell in
      kind_to_cell cell.layout.kind slot.offset (reference_word at) at whole.sized slot.has refl
      (whole.sound cell slot.words slot.has)
      (marking_slots cell.layout.kind cell.layout cell.length slot.offset slot.visited) slot.holds refl

  -- so does what a word behind the head of a table refers to
  pair_word_stands : {table key value : ℕ} (entry : HasEntry heap table key value) (k at : ℕ)
      → HasWord (drop store_head entry.words) k (reference_word at) → IsUsedAt heap at
  pair_word_stands entry k at there =
      let cell = entry.cell in
      let long = words_by_kind kind.Table entry.has entry.of_kind in
      let few : k < 2 * cell.length =
      behind_head_few entry.words k (2 * cell.length) (reference_word at) long there in
      kind_to_cell kind.Table (store_head + k) (reference_word at) at whole.sized entry.has entry.of_kind
      (whole.sound cell entry.words entry.has)
      (in_range store_head (2 * cell.length) (store_head + k) (omega arith) (omega (arith, few)))
      (behind_head entry.words k (reference_word at) there) refl

  -- so the key of an entry stands there
  key_stands : (table key value : ℕ) → HasEntry heap table key value → IsUsedAt heap key
  key_stands table key value entry =
      let there = pair_words (drop store_head entry.words) entry.place (2 * entry.place) entry.pair refl entry.among in
      pair_word_stands entry (2 * entry.place) key (there.0 ∙ ap (λ (one : ℕ). Some one) entry.key_is)

  -- and its value
  value_stands : (table key value : ℕ) → HasEntry heap table key value → IsUsedAt heap value
  value_stands table key value entry =
      let place : ℕ = 2 * entry.place in
      let there = pair_words (drop store_head entry.words) entry.place place entry.pair refl entry.among in
      pair_word_stands entry (suc place) value (there.1 ∙ ap (λ (one : ℕ). Some one) entry.value_is)

  -- a start was given, or is used
  start_is_used : {given : List ℕ} (at : ℕ) → IsStart heap given at → Contains given at ⊎ IsUsedAt heap at
  start_is_used at (IsStart.root target) = inr (root_stands at target)
  start_is_used at (IsStart.among there) = inl there

  -- what stands in the heap stands before the roots
  pub stands_below : (at : ℕ) → StandsInHeap heap at → at < roots_start heap.space
  stands_below at there =
      omega (
        arith,
        there.stands,
        (first_of_cell there.has).below,
        cell_below_roots (used_few whole.rows) there.has,
      )

  -- so do each key and each value of an entry
  pub key_below : (table key value : ℕ) → HasEntry heap table key value → key < roots_start heap.space
  key_below table key value entry = stands_below key (of_used (key_stands table key value entry))

  pub value_below : (table key value : ℕ) → HasEntry heap table key value → value < roots_start heap.space
  value_below table key value entry = stands_below value (of_used (value_stands table key value entry))

  -- so a live cell was given, or is used
  pub live_is_used : {given : List ℕ} (at : ℕ) → IsLiveFrom heap given at → Contains given at ⊎ IsUsedAt heap at
  live_is_used at (IsLive.start at' start) = start_is_used at start
  live_is_used at (IsLive.slot from at' live slot) = inr (slot_stands from at slot)
  live_is_used at (IsLive.entry table key at' live_table live_key entry) = inr (value_stands table key at entry)

  -- it stands in the heap, where those that are given do
  pub live_stands : {given : List ℕ} → ((at : ℕ) → Contains given at → StandsInHeap heap at) → (at : ℕ)
      → IsLiveFrom heap given at → StandsInHeap heap at
  live_stands stand at live = elim (live_is_used at live) [
    | inl there ↦ stand at there
    | inr used ↦ of_used used
  ]

  -- before the roots
  pub live_below : {given : List ℕ} → ((at : ℕ) → Contains given at → StandsInHeap heap at) → (at : ℕ)
      → IsLiveFrom heap given at → at < roots_start heap.space
  live_below stand at live = stands_below at (live_stands stand at live)
