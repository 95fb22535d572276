-- The slots of the elements of a list, as they are read.
use Rattle.std.proofs.Common.{◌≡◌, ℕ, suc, ◌+◌, ◌≤◌, ◌<◌, List}
use Rattle.std.proofs.Common.{drop, Some, ℤ, slice_get, get_or, nat_le, sym}
use Rattle.std.proofs.Common.{◌∙◌, ap, subst, arith}
use Rattle.std.specs.Prelude.{pos, negsuc}
use Rattle.std.proofs.lemmas.Bool.Decides.{nat_tests}
use Rattle.std.proofs.lemmas.Option.{slice_get-get_or, cond_some, none-some}
use Rattle.tagged_word.specs.declared.layout.Kind.TheVariants as kind
use Rattle.tagged_word.specs.Cells.{store_head, store_slot}
use Rattle.object_graph.specs.Meaning.{below}
use Rattle.heap_model.specs.Types.{Cell}
use Rattle.heap_model.specs.Heaps.{Heap, HasCell}
use Rattle.heap_model.specs.Slots.{IsSlotWord, HoldsStore}
use Rattle.heap_model.specs.Kinds.{HasWord, IsSoundOf}
use Rattle.heap_model.specs.Wholeness.{Whole}
use Rattle.heap_model.proofs.CellWords.{behind_head}
use Rattle.heap_model.proofs.SlotWords.{All-slice_get}
use Rattle.object_cells.specs.declared.stores.Store.{Store}
use Rattle.object_cells.specs.Made.{IsStoreAt}
use Rattle.object_cells.proofs.CellsRead.{word_stands}
use Rattle.object_cells.proofs.StoresRead.{stored_at}

-- a place that an index names is one of so many
pub place_below : (count place : ℕ) (index : ℤ) → below count index ≡ Some place → place < count
place_below count place (pos n) is =
    let parts = cond_some (nat_le (suc n) count) n place is in
    let test = parts.0 in
    let within : suc n ≤ count = grind (arith, nat_tests) in
    omega (arith, within, parts.1)
place_below count place (negsuc n) is = absurd (none-some place is)

-- a word of a slot of the store beside a cell
pub record SlotRead (heap : Heap) (slots : List ℕ) (at place word : ℕ) : Type 0 where
  pub holds : HasWord slots place word
  pub stands : slice_get heap.words (at + (store_head + place)) ≡ Some word
  pub is : IsSlotWord heap word

-- so it is read at its address
pub slot_read : {heap : Heap} {cell : Cell} {words : List ℕ} (at word place : ℕ) (slots : List ℕ) (store : Store)
    → Whole heap → IsStoreAt heap at store → HasCell heap cell words → cell.at ≡ at → HasWord words store_slot word
    → HoldsStore heap kind.Store word slots → place < store.capacity
    → SlotRead heap slots store.at place (get_or slots place 0)
slot_read {heap} {cell} {words} at word place slots store whole is has stands slot are below =
    let there = stored_at at word slots store is has stands slot are (omega (arith, below)) in
    let found = there.found in
    let holds : HasWord slots place (get_or slots place 0) =
    slice_get-get_or slots place 0 (omega (arith, below, is.slots cell words slots word has stands slot are)) in
    let here = ap (λ all. slice_get all place) (sym found.are) ∙ holds in
    let in_store = behind_head found.words place (get_or slots place 0) here in
    let sound = subst (λ k. IsSoundOf k heap found.cell found.words) found.of_kind
    (whole.sound found.cell found.words found.refers.has) in
    record {
      holds = holds;
      stands = ap (λ n. slice_get heap.words (n + (store_head + place))) (sym found.stands)
          ∙ word_stands (store_head + place) (get_or slots place 0) found.refers.has in_store;
      is = All-slice_get (IsSlotWord heap) (drop store_head found.words) place (get_or slots place 0) sound.slots here;
    }
