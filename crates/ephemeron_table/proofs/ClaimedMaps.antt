-- What a weak map's cells allow that may be changed: where a cycle of marking is open, no helper minds the words of a
-- table's pairs, a map's count, or the integer of a box.
use Rattle.std.proofs.Common.{◌≡◌, ℕ, ◌+◌, ◌*◌, ◌<◌, ◌≤◌, true, Some, not, ◌&&◌, ◌||◌, ◌==◌, refl, sym, ◌∙◌}
use Rattle.std.proofs.Common.{ap, subst, arith}
use Rattle.std.proofs.lemmas.Bool.Decides.{nat_tests}
use Rattle.std.proofs.lemmas.Option.{same_Some}
use Rattle.tagged_word.specs.declared.layout.Kind.TheVariants as kind
use Rattle.tagged_word.specs.Cells.{store_head, store_slot, has_length, length_offset, tagged_offsets_of}
use Rattle.page_space.specs.Extents.{Space, eden_start, layouts_start}
use Rattle.core_parts.specs.Lists.{is_in}
use Rattle.heap_table.specs.Phases.{Mark}
use Rattle.mark_laws.specs.Types.{Kind, Reading}
use Rattle.mark_world.specs.declared.event.Event.TheVariants as event
use Rattle.mark_world.specs.Coverage.{cell_of}
use Rattle.mark_world.specs.Pages.{is_quiet}
use Rattle.heap_model.specs.Kinds.{count_offset}
use Rattle.heap_model.specs.Needs.{box_words}
use Rattle.write_barrier.specs.Marking.{MayPut}
use Rattle.write_barrier.specs.MutatorState.{Mutator, MayStore, reserved, with_slot, with_weak, with_word, world_of}
use Rattle.write_barrier.specs.Storing.{IsMadeYoung, MayChange, MayHold, StoresOn}
use Rattle.write_barrier.proofs.MayPuts.{IsFreeAt, may_put_slot, may_put_word}
use Rattle.write_barrier.proofs.SlotStores.{reserved_stores_on, slot_stores_on, weak_stores_on, word_stores_on}
use Rattle.write_barrier.proofs.StoresOn.{may_change_stays, may_hold_stays, stores_on_again}
use Rattle.ephemeron_table.specs.MapClaims.{MayPutMap, MayPutPairs}
use Rattle.weak_pairs.specs.declared.table.Table.{Table}

-- whether no helper minds a word of a cell, by the kind
abbrev quiet_of : Kind → Reading → ℕ → Type 0
quiet_of k cell offset =
    (not (offset == 0 || (has_length k && offset == length_offset))
    && not (is_in (tagged_offsets_of k cell.layout cell.length) offset)) ≡ true

-- no helper minds the words of a table behind its head
table_quiet : (cell : Reading) (offset : ℕ) → cell.layout.kind ≡ kind.Table → store_head ≤ offset
    → is_quiet cell offset ≡ true
table_quiet cell offset is behind =
    let of_table : quiet_of kind.Table cell offset = grind (arith, nat_tests) in
    subst (λ k. quiet_of k cell offset) (sym is) of_table

-- nor the count of a map
count_quiet : (cell : Reading) → cell.layout.kind ≡ kind.Weak → is_quiet cell count_offset ≡ true
count_quiet cell is =
    let of_map : quiet_of kind.Weak cell count_offset = refl in
    subst (λ k. quiet_of k cell count_offset) (sym is) of_map

-- nor the integer of a box
integer_quiet : (cell : Reading) → cell.layout.kind ≡ kind.Boxed → is_quiet cell 1 ≡ true
integer_quiet cell is =
    let of_box : quiet_of kind.Boxed cell 1 = refl in
    subst (λ k. quiet_of k cell 1) (sym is) of_box

-- what a helper may read at a cell that may be changed is of its kind
kind_read : {main : Mutator} {at size : ℕ} {k : Kind} → MayChange main at size k → at < eden_start main.seat.space
    → main.seat.phase ≡ Mark → IsFreeAt main at → (cell : Reading) → cell_of (world_of main) at ≡ Some cell
    → cell.layout.kind ≡ k
kind_read may below mark free cell is =
    let own = (may below mark).claims.own free in
    ap (λ (c : Reading). c.layout.kind) (same_Some cell own.cell (sym is ∙ own.is)) ∙ own.kind_is

-- so any word goes where a pair stands
pub pair_may_put : {main : Mutator} {table : Table} (offset word : ℕ) → MayPutPairs main table → store_head ≤ offset
    → offset < store_head + 2 * table.capacity
    → MayPut main (table.at + offset) (event.StoreOwned (table.at + offset) word)
pair_may_put offset word may behind inside =
    may_put_word offset word may.change inside
    (λ below mark free cell is. table_quiet cell offset (kind_read may.change below mark free cell is) behind)

-- where the count of a map stands
pub count_may_put : {main : Mutator} {map : ℕ} (word : ℕ) → MayPutMap main map
    → MayPut main (map + count_offset) (event.StoreOwned (map + count_offset) word)
count_may_put word may =
    may_put_word count_offset word may.change may.long
    (λ below mark free cell is. count_quiet cell (kind_read may.change below mark free cell is))

-- and where the integer of a box does
pub integer_may_put : {main : Mutator} {box : ℕ} (word : ℕ) → MayChange main box box_words kind.Boxed
    → MayPut main (box + 1) (event.StoreOwned (box + 1) word)
integer_may_put word may =
    may_put_word 1 word may (omega arith)
    (λ below mark free cell is. integer_quiet cell (kind_read may below mark free cell is))

-- a word that slots may hold may name a map's table
pub table_may_put : {main : Mutator} {map word : ℕ} → MayPutMap main map → MayHold main word
    → MayPut main (map + store_slot) (event.StoreSlot (map + store_slot) word)
table_may_put {word = word} may holds =
    may_put_slot store_slot word may.change (omega (arith, may.long)) refl holds

-- what may be put may be put after stores
pub pairs_may_still : {old new : Mutator} {table : Table} → StoresOn old new → MayPutPairs old table
    → MayPutPairs new table
pairs_may_still {table = table} stores may = record {
  in_cells = subst (λ (s : Space). table.at + (store_head + 2 * table.capacity) ≤ layouts_start s) (sym stores.space)
      may.in_cells;
  change = may_change_stays stores may.change;
}

pub map_may_still : {old new : Mutator} {map : ℕ} → StoresOn old new → MayPutMap old map → MayPutMap new map
map_may_still {map = map} stores may = record {
  size = may.size;
  long = may.long;
  in_cells = subst (λ (s : Space). map + count_offset < layouts_start s) (sym stores.space) may.in_cells;
  change = may_change_stays stores may.change;
}

-- words that were stored once others were used were stored
pub used_stores_on : {old between next : Mutator} (need : ℕ) → between ≡ reserved old need → StoresOn between next
    → StoresOn old next
used_stores_on {old} need is stores =
    stores_on_again (subst (StoresOn old) (sym is) (reserved_stores_on old need)) stores

-- the words of pairs are stored
pub pair_stores_on : {main new : Mutator} {table : Table} (offset word : ℕ) → MayPutPairs main table
    → store_head ≤ offset → offset < store_head + 2 * table.capacity → new ≡ with_weak main (table.at + offset) word
    → StoresOn main new
pair_stores_on {main} {table = table} offset word may behind inside same =
    subst (StoresOn main) (sym same)
    (weak_stores_on (table.at + offset) word (omega (arith, inside, may.in_cells))
    (pair_may_put offset word may behind inside))

-- and a count, after other stores
pub count_stores_on : {old mid new : Mutator} {map : ℕ} (word : ℕ) → MayPutMap old map → StoresOn old mid
    → new ≡ with_word mid (map + count_offset) word → StoresOn old new
count_stores_on {mid = mid} {map = map} word may stores same =
    let still = map_may_still stores may in
    stores_on_again stores
    (subst (StoresOn mid) (sym same)
    (word_stores_on (map + count_offset) word still.in_cells (count_may_put word still)))

-- and the word for the table
pub table_stores_on : {old mid new : Mutator} {map : ℕ} (word : ℕ) → MayPutMap old map → MayHold old word
    → StoresOn old mid → new ≡ with_slot mid (map + store_slot) word → StoresOn old new
table_stores_on {mid = mid} {map = map} word may holds stores same =
    let still = map_may_still stores may in
    stores_on_again stores
    (subst (StoresOn mid) (sym same)
    (slot_stores_on (map + store_slot) word (omega (arith, still.in_cells))
    (table_may_put still (may_hold_stays stores holds))))

-- a table that is made may have pairs put
pub young_may_put : {main : Mutator} {table : Table}
    → table.at + (store_head + 2 * table.capacity) ≤ layouts_start main.seat.space → IsMadeYoung main table.at
    → MayPutPairs main table
young_may_put in_cells young = record {
  in_cells = in_cells;
  change = λ below mark. absurd (omega (arith, below, young mark));
}

-- while no cycle is open, any cell may be changed
pub idle_may_change : {main : Mutator} {at size : ℕ} {k : Kind} → MayStore main → MayChange main at size k
idle_may_change idle below mark = absurd (idle mark)
