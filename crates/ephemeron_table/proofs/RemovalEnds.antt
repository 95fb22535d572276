-- What was removed from a weak map's table: its pair, and one of the count.
use Rattle.std.proofs.Common.{◌≡◌, ℕ, ◌+◌, ◌-◌, ◌*◌, ◌≤◌, ◌<◌, ◌⊎◌, inl, inr, List, length, Some, None, slice_get}
use Rattle.std.proofs.Common.{unwrap_or, sym, ◌∙◌, ap, subst, arith, length-set}
use Rattle.std.specs.Prelude.{slice_set}
use Rattle.std.proofs.lemmas.List.{map-set}
use Rattle.tagged_word.specs.Cells.{store_head}
use Rattle.object_graph.proofs.Lists.{slice_get-set_same, slice_get-set_other}
use Rattle.linear_probing.specs.Tables.{FindsAll}
use Rattle.page_space.specs.Extents.{Space, marks_start}
use Rattle.write_barrier.specs.Seats.{heap_words}
use Rattle.heap_model.specs.Kinds.{Pair, free_pair, count_offset}
use Rattle.heap_model.specs.Needs.{count_at}
use Rattle.heap_model.specs.Remembered.{Touch}
use Rattle.write_barrier.specs.MutatorState.{Mutator, heap_of, with_word}
use Rattle.write_barrier.specs.Recording.{Touches, touched_one, touched_then}
use Rattle.write_barrier.specs.Storing.{StoresOn}
use Rattle.object_cells.specs.Made.{PutsWords}
use Rattle.object_cells.proofs.RestOfWords.{put_rest}
use Rattle.object_cells.proofs.TouchedCells.{touched_cases}
use Rattle.object_cells.proofs.TouchedWords.{then_wiped}
use Rattle.ephemeron_table.specs.MapClaims.{MayPutMap}
use Rattle.ephemeron_table.specs.Puttings.{pair_touch}
use Rattle.ephemeron_table.specs.Removals.{ChangesPairs, ShiftsBack, RemovesAt}
use Rattle.weak_pairs.specs.Removals.{IsRemoved, StaysBelow}
use Rattle.weak_pairs.specs.Tables.{IsOutsidePairs, pairs_of, numbers, key_number, with_pair}
use Rattle.weak_pairs.specs.Pairs.{IsFilledAt}
use Rattle.weak_pairs.specs.declared.table.Table.{Table}
use Rattle.ephemeron_table.proofs.ChangedPairs.{pair_changed}
use Rattle.ephemeron_table.proofs.ClaimedMaps.{count_stores_on}
use Rattle.ephemeron_table.proofs.PairTouches.{KeptOrPair, of_both}
use Rattle.weak_pairs.proofs.PairLists.{pairs_read}
use Rattle.weak_pairs.proofs.PairsPut.{pairs_now, pairs_beside}

-- What is left of the pairs, and that where one was free what stands below the place stood below it.
record IsRemovedBelow (before after : List Pair) (place : ℕ) : Type 0 where
  removed : IsRemoved before after place
  below : (free : ℕ) → slice_get before free ≡ Some free_pair → (one : Pair) → IsFilledAt before place one
      → StaysBelow removed

-- an address was kept, or it is one of the pairs that was stored, or that of the count that was wiped
abbrev KeptPairOrCount : Table → ℕ → ℕ → Touch → Type 0
KeptPairOrCount table count at touch =
    (touch ≡ Touch.Kept)
    ⊎ (((touch ≡ Touch.Stored) × (IsOutsidePairs table at → ⊥)) ⊎ ((touch ≡ Touch.Wiped) × (at ≡ count)))

-- so it is where pairs alone were stored
pairs_or_count : (table : Table) (count at : ℕ) (touch : Touch) → KeptOrPair table at touch
    → KeptPairOrCount table count at touch
pairs_or_count table count at touch (inl kept) = inl kept
pairs_or_count table count at touch (inr stored) = inr (inl stored)

-- and where the count alone was put
count_alone : (table : Table) (count at : ℕ) → KeptPairOrCount table count at (touched_one Touch.Wiped count at)
count_alone table count at = elim (touched_cases Touch.Wiped count (count + 1) at) [
  | inl inside ↦ inr (inr (inside.2, omega (arith, inside.0, inside.1)))
  | inr beside ↦ inl beside.1
]

module _ {old shifted put new : Mutator} (map at hole count : ℕ) (table : Table)
    (within : table.at + (store_head + 2 * table.capacity) ≤ length (heap_words old.seat))
    (counted : map + count_offset < length (heap_words old.seat))
    (below : map + count_offset < marks_start old.seat.space)
    (beside : IsOutsidePairs table (map + count_offset))
    (shifts : ShiftsBack old shifted table at hole)
    (puts : PutsWords shifted put (with_pair (heap_words shifted.seat) table.at hole free_pair))
    (still : put.cycle ≡ shifted.cycle) (stored : Touches shifted put (pair_touch table.at hole))
    (goes : StoresOn shifted put)
    (reads : slice_get (heap_words put.seat) (map + count_offset) ≡ Some count)
    (is : new ≡ with_word put (map + count_offset) (count - 1))
    (heap : heap_words new.seat ≡ slice_set (heap_words put.seat) (map + count_offset) (count - 1))
    (counts : MayPutMap old map) where
  -- words of pairs alone changed before the count
  changes : ChangesPairs old put table
  changes = pair_changed table hole free_pair shifts.changes shifts.within puts stored goes

  within_closed : table.at + (store_head + 2 * table.capacity) ≤ length (heap_words shifted.seat)
  within_closed = omega (arith, within, shifts.changes.long)

  within_put : table.at + (store_head + 2 * table.capacity) ≤ length (heap_words put.seat)
  within_put = omega (arith, within, changes.long)

  -- the pairs are those with the hole free
  pairs_are_now : pairs_of (heap_words new.seat) table
      ≡ slice_set (pairs_of (heap_words shifted.seat) table) hole free_pair
  pairs_are_now =
      ap (λ all. pairs_of all table) heap
      ∙ pairs_beside (heap_words put.seat) table (map + count_offset) (count - 1) within_put beside
      ∙ ap (λ all. pairs_of all table) puts.heap
      ∙ pairs_now (heap_words shifted.seat) table hole free_pair within_closed shifts.within

  -- and so are their numbers
  numbers_are : numbers (heap_of old) (pairs_of (heap_words new.seat) table)
      ≡ slice_set (numbers (heap_of old) (pairs_of (heap_words shifted.seat) table)) hole None
  numbers_are =
      ap (numbers (heap_of old)) pairs_are_now
      ∙ map-set (key_number (heap_of old)) (pairs_of (heap_words shifted.seat) table) hole free_pair

  -- the count that was read is that of the map
  count_is : count ≡ count_at (heap_of old) map
  count_is =
      ap (λ found. unwrap_or found 0) (sym reads ∙ changes.beside (map + count_offset) beside)

  left : IsRemovedBelow (pairs_of (heap_words old.seat) table) (pairs_of (heap_words new.seat) table) at
  left =
      subst (λ pairs. IsRemovedBelow (pairs_of (heap_words old.seat) table) pairs at) (sym pairs_are_now)
      (record { removed = shifts.removed; below = shifts.below })

  -- the count stands before the marks
  before_marks : map + count_offset < marks_start put.seat.space
  before_marks = subst (λ (space : Space). map + count_offset < marks_start space) (sym changes.rest.space) below

  pub removes_at : RemovesAt old new map table at
  removes_at = record {
    rest = put_rest (map + count_offset) (count - 1) changes.rest (ap (λ (m : Mutator). m.seat) is) before_marks;
    paths = ap (λ (m : Mutator). m.paths) is ∙ changes.paths;
    cycle = ap (λ (m : Mutator). m.cycle) is ∙ still ∙ shifts.cycle;
    young = ap (λ (m : Mutator). m.young) is ∙ changes.young;
    long = ap length heap ∙ length-set (heap_words put.seat) (map + count_offset) (count - 1) ∙ changes.long;
    beside = λ a aside other. ap (λ all. slice_get all a) heap
        ∙ slice_get-set_other (heap_words put.seat) (map + count_offset) a (count - 1) other ∙ changes.beside a aside;
    counted = ap (λ all. slice_get all (map + count_offset)) heap
        ∙ slice_get-set_same (heap_words put.seat) (map + count_offset) (count - 1)
        (omega (arith, counted, changes.long))
        ∙ ap (λ n. Some (n - 1)) count_is;
    hole = hole;
    free = ap (λ pairs. slice_get pairs hole) pairs_are_now
        ∙ slice_get-set_same (pairs_of (heap_words shifted.seat) table) hole free_pair
        (omega (arith, shifts.within, (pairs_read (heap_words shifted.seat) table within_closed).long));
    removed = left.removed;
    below = left.below;
    found = λ all. subst FindsAll (sym numbers_are) (shifts.found all);
    touch = touched_then changes.touch (touched_one Touch.Wiped (map + count_offset));
    touches = then_wiped (map + count_offset) (count - 1) changes.touches is before_marks;
    touched = λ a. of_both (KeptPairOrCount table (map + count_offset) a) changes.touch
        (touched_one Touch.Wiped (map + count_offset)) a
        (pairs_or_count table (map + count_offset) a (changes.touch a) (changes.touched a))
        (count_alone table (map + count_offset) a);
    stores = count_stores_on (count - 1) counts changes.stores is;
  }
