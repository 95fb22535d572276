-- The pairs of a weak map of a whole heap as their keys are read: each that holds something has the cell of an object
-- as its key.
use Rattle.std.proofs.Common.{◌≡◌, ℕ, ◌<◌, List, Some, get_or, slice_get, unwrap_or, Contains}
use Rattle.std.proofs.Common.{sym, ◌∙◌, ap, subst, arith}
use Rattle.std.proofs.lemmas.Option.{slice_get-get_or}
use Rattle.tagged_word.specs.Readings.{reference_in}
use Rattle.tagged_word.proofs.Readings.{reference_from, reference_to}
use Rattle.page_space.specs.Extents.{roots_start}
use Rattle.page_space.specs.Sizes.{AreWithin}
use Rattle.heap_model.specs.Heaps.{Heap}
use Rattle.heap_model.specs.Kinds.{Pair, free_pair}
use Rattle.heap_model.specs.Wholeness.{Whole}
use Rattle.heap_model.proofs.CellsApart.{first_of_cell, used_few}
use Rattle.heap_model.proofs.WordClasses.{same_reference}
use Rattle.heap_model.proofs.WordsAlike.{cell_below_roots}
use Rattle.object_cells.proofs.WordsTold.{cell_fits}
use Rattle.weak_pairs.specs.Pairs.{HasPairsAt, IsFilledAt}
use Rattle.weak_pairs.specs.Tables.{key_in}
use Rattle.weak_pairs.specs.declared.table.Table.{Table}
use Rattle.weak_pairs.proofs.PairNumbers.{keyed_filled}
use Rattle.ephemeron_table.specs.Probes.{IsTableAt, IsWeakCellAt}
use Rattle.ephemeron_table.proofs.TablesRead.{pair_found, weak_pairs, weak_sound}
use Rattle.ephemeron_clear.specs.Marked.{IsKeyMarked, IsUnmarkedWord}

-- Some pairs are those of the weak map at an address.
pub record HasSomePairs (heap : Heap) (map : ℕ) : Type 0 where
  pub pairs : List Pair
  pub are : HasPairsAt heap map pairs

-- each weak map of a whole heap has some
pub some_pairs : {heap : Heap} {map : ℕ} → Whole heap → IsWeakCellAt heap map → HasSomePairs heap map
some_pairs whole there =
    let sound = weak_sound whole there in
    record { pairs = sound.pairs; are = weak_pairs there sound }

module _ {heap : Heap} {map : ℕ} {pairs : List Pair} {table : Table} (whole : Whole heap)
    (has : HasPairsAt heap map pairs) (is : IsTableAt heap map table) where
  -- the key at a place is that of the pair there
  key_read : (place : ℕ) (pair : Pair) → slice_get pairs place ≡ Some pair
      → key_in heap table.at place ≡ pair.key
  key_read place pair there = ap (λ found. unwrap_or found 0) ((is.pairs pairs has).keys place pair there)

  -- a pair whose key is read as a reference holds something
  read_filled : (place at : ℕ) → place < table.capacity → reference_in (key_in heap table.at place) ≡ Some at
      → (pair : Pair) × IsFilledAt pairs place pair × (reference_in pair.key ≡ Some at)
  read_filled place at below refers =
      let pair : Pair = get_or pairs place free_pair in
      let there : slice_get pairs place ≡ Some pair =
      slice_get-get_or pairs place free_pair (omega (arith, (is.pairs pairs has).long, below)) in
      let key : reference_in pair.key ≡ Some at = ap reference_in (sym (key_read place pair there)) ∙ refers in
      (pair, record { stands = there; filled = keyed_filled pair at key }, key)

  -- and the key is below the roots
  pub key_below : (place at : ℕ) → place < table.capacity → reference_in (key_in heap table.at place) ≡ Some at
      → at < roots_start heap.space
  key_below place at below refers =
      let read = read_filled place at below refers in
      let key = (pair_found place read.0 whole has read.1).filled.key in
      let same : key.at ≡ at =
      same_reference key.at at (sym key.refers ∙ (reference_from read.0.key at read.2).1) in
      omega (
        arith,
        same,
        key.place.stands,
        (first_of_cell key.place.has).below,
        cell_below_roots (used_few whole.rows) key.place.has,
      )

  -- a pair whose key is read as one that is not marked is such
  pub unmarked_read : {marked : List ℕ} (place : ℕ) → place < table.capacity
      → IsUnmarkedWord marked (key_in heap table.at place)
      → (pair : Pair) × IsFilledAt pairs place pair × (IsKeyMarked marked pair → ⊥)
  unmarked_read {marked} place below word =
      let read = read_filled place word.at below word.refers in (
        read.0,
        read.1,
        λ key.
            let same : key.at ≡ word.at =
            same_reference key.at word.at (sym key.refers ∙ (reference_from read.0.key word.at read.2).1) in
            word.unmarked (subst (Contains marked) same key.among),
      )

  -- and one whose key is read as no other has a marked one
  pub marked_read : {marked : List ℕ} (place : ℕ) → AreWithin heap.space.sizes heap.space.variables
      → ((at : ℕ) → reference_in (key_in heap table.at place) ≡ Some at → Contains marked at)
      → (pair : Pair) → IsFilledAt pairs place pair → IsKeyMarked marked pair
  marked_read place within marks pair filled =
      let key = (pair_found place pair whole has filled).filled.key in
      let fits : key.at < 4294967296 =
      subst (λ n. n < 4294967296) key.place.stands (cell_fits whole.sized within key.place.has) in
      let read = reference_to pair.key key.at fits key.refers in
      record {
        at = key.at;
        refers = key.refers;
        among = marks key.at (ap reference_in (key_read place pair filled.stands) ∙ read);
      }
