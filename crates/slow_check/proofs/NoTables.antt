-- Words that refer to no weak table.
use Rattle.std.proofs.Common.{◌≡◌, ℕ, ◌-◌, ◌/◌, [], drop, sym, ◌∙◌, ap, subst}
use Rattle.tagged_word.specs.declared.layout.Kind.TheVariants as kind
use Rattle.tagged_word.specs.Cells.{store_head}
use Rattle.heap_model.specs.Types.{Cell}
use Rattle.heap_model.specs.Heaps.{Heap, words_of_cell}
use Rattle.heap_model.specs.Slots.{undefined_word, HoldsStore}
use Rattle.heap_model.specs.Kinds.{IsPowerOfTwo}
use Rattle.heap_model.proofs.SlotWords.{same_target}
use Rattle.image_walk.specs.declared.spans.Span.{Span}
use Rattle.image_walk.specs.Spans.{SpansStore, HoldsNoStore}
use Rattle.slow_check.specs.NoTables.{HasNoTable}
use Rattle.image_walk.proofs.PairWords.{HasTablePairs, table_is, table_capacity}
use Rattle.image_walk.proofs.StoreSlots.{HasStoreSlots, beside_is}

-- where a word refers to no table of slots, it refers to none of pairs
pub no_slots_no_table : (heap : Heap) (word : ℕ) → HoldsNoStore heap kind.Table word → HasNoTable heap word
no_slots_no_table heap word none pairs has = elim (table_is has) [
  | HasTablePairs.no_table undefined are ↦
      none [] (subst (λ w. HoldsStore heap kind.Table w []) (sym undefined) HoldsStore.none)
  | HasTablePairs.to_table cell refers is power are ↦
      none (drop store_head (words_of_cell heap cell)) (HoldsStore.store word cell (words_of_cell heap cell) refers is)
]

-- nor where its capacity is no power of two
pub no_power_no_table : (heap : Heap) (word : ℕ) (table : Span) → SpansStore heap kind.Table word table
    → (word ≡ undefined_word → ⊥) → (IsPowerOfTwo ((table.end - table.from) / 2) → ⊥) → HasNoTable heap word
no_power_no_table heap word table beside some odd pairs has = elim (table_is has) [
  | HasTablePairs.no_table undefined are ↦ some undefined
  | HasTablePairs.to_table cell refers is power are ↦ elim (beside_is beside.beside) [
    | HasStoreSlots.none undefined none ↦ some undefined
    | HasStoreSlots.store one refers_one is_one are_one ↦
        let same = ap (λ (c : Cell). c.length) (same_target refers refers_one) in
        let capacity = table_capacity heap word one table refers_one is_one beside.is are_one in
        odd (subst IsPowerOfTwo (same ∙ capacity) power)
  ]
]
