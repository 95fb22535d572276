-- The slots of an object by numbers: which address the slot of a number has, and which slots there are besides.
use Rattle.std.proofs.Common.{◌≡◌, ℕ, ◌+◌, List}
use Rattle.tagged_word.specs.Cells.{store_slot}
use Rattle.heap_model.specs.Types.{Cell}
use Rattle.heap_model.specs.Heaps.{Heap, words_of_cell}
use Rattle.heap_model.specs.Slots.{RefersTo}
use Rattle.heap_model.specs.Kinds.{HasWord}
use Rattle.heap_model.specs.Wholeness.{HasSlotAt, IsOwnedKind}

-- the slot of a number has an address, at which it holds the word
pub record HasAddress (heap : Heap) (cell : Cell) (words : List ℕ) (number_at : ℕ → ℕ → Type 0) (k word : ℕ)
    : Type 0 where
  pub at : ℕ
  pub numbered : number_at k at
  pub slot : HasSlotAt heap cell words at word

-- A slot of an object is that of its store or table, or one of some number, which holds the word.
pub data IsSlotOf (cell : Cell) (words : List ℕ) (is number_at : ℕ → ℕ → Type 0) (at word : ℕ) : Type 0 where
  of_store : at ≡ cell.at + store_slot → HasWord words store_slot word → IsSlotOf cell words is number_at at word
  of_number : (k : ℕ) → is k word → number_at k at → IsSlotOf cell words is number_at at word

-- An object's slots have numbers, in the old heap and in the new one: each of the old ones an address, no two of them
-- one, and none that of the slot for the store or table; and each of the new ones that names something is that slot or
-- has a number, and no number two addresses.
pub record HasNumbers (old new : Heap) (cell came : Cell) (was was_at is is_at : ℕ → ℕ → Type 0) : Type 0 where
  pub were : (k word : ℕ) → was k word → HasAddress old cell (words_of_cell old cell) was_at k word
  pub one_number : (k other at : ℕ) → was_at k at → was_at other at → k ≡ other
  pub not_store : (k at : ℕ) → was_at k at → at ≡ cell.at + store_slot → ⊥
  pub are : (at word : ℕ) (named : Cell) (words : List ℕ) → HasSlotAt new came (words_of_cell new came) at word
      → RefersTo new word named words → IsOwnedKind named.layout.kind
      → IsSlotOf came (words_of_cell new came) is is_at at word
  pub one_address : (k at other : ℕ) → is_at k at → is_at k other → at ≡ other
