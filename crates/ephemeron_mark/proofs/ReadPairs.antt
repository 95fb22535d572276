-- A pair of a marked table whose words are read: both refer to cells before the roots.
use Rattle.std.proofs.Common.{◌≡◌, ℕ, ◌+◌, ◌<◌, ◌^◌, Some, None, Contains, slice_get, arith}
use Rattle.tagged_word.specs.Readings.{reference_in}
use Rattle.page_space.specs.Extents.{roots_start, marks_start}
use Rattle.cell_list.specs.Listing.{Listing}
use Rattle.write_barrier.specs.MutatorState.{Mutator, heap_of}
use Rattle.ephemeron_mark.specs.Marked.{IsLiveFrom}
use Rattle.ephemeron_mark.specs.Progress.{HoldsReference, IsMarking, IsMarkedPair}
use Rattle.ephemeron_mark.proofs.LiveStands.{refers_as_read, refers_to_none, key_below, value_below, before_marks}
use Rattle.ephemeron_mark.proofs.WaitingKeys.{value_is_live}

-- what is known of a pair of which both words were read as references
pub record IsReadPair (main : Mutator) (cells : Listing) (of_key key value : ℕ) : Type 0 where
  pub refers : HoldsReference (heap_of main) of_key key
  pub value_refers : HoldsReference (heap_of main) (of_key + 1) value
  pub key_below : key < roots_start main.seat.space
  pub value_below : value < roots_start main.seat.space
  pub live : Contains cells.addresses key → IsLiveFrom (heap_of main) cells.addresses value

module _ {main : Mutator} {cells : Listing} {of_key : ℕ} (marking : IsMarking main cells)
    (pair : IsMarkedPair (heap_of main) cells of_key (of_key + 1)) where
  -- where both words refer to cells, the pair is an entry
  pub known_pair : (key value : ℕ) → HoldsReference (heap_of main) of_key key
      → HoldsReference (heap_of main) (of_key + 1) value → IsReadPair main cells of_key key value
  known_pair key value refers value_refers =
      let entry = pair.entry key value refers value_refers in
      record {
        refers = refers;
        value_refers = value_refers;
        key_below = key_below marking.whole pair.table key value entry;
        value_below = value_below marking.whole pair.table key value entry;
        live = value_is_live of_key (of_key + 1) key value pair refers value_refers;
      }

  -- so it is where both were read as references
  pub read_pair : (word value_word key value : ℕ) → slice_get (heap_of main).words of_key ≡ Some word
      → reference_in word ≡ Some key → slice_get (heap_of main).words (of_key + 1) ≡ Some value_word
      → reference_in value_word ≡ Some value → IsReadPair main cells of_key key value
  read_pair word value_word key value read is value_read value_is =
      known_pair key value (refers_as_read (heap_of main) of_key word key read is)
      (refers_as_read (heap_of main) (of_key + 1) value_word value value_read value_is)

  -- and it is none where its key was read as no reference
  pub no_key : (word key value : ℕ) → marks_start main.seat.space < 2 ^ 32
      → slice_get (heap_of main).words of_key ≡ Some word → reference_in word ≡ None
      → HoldsReference (heap_of main) of_key key → HoldsReference (heap_of main) (of_key + 1) value → ⊥
  no_key word key value fit read none refers value_refers =
      let below = (known_pair key value refers value_refers).key_below in
      refers_to_none (heap_of main) of_key word key read none refers
      (omega (arith, fit, before_marks main.seat.space key below))

  -- nor where its value was
  pub no_value : (word key value : ℕ) → marks_start main.seat.space < 2 ^ 32
      → slice_get (heap_of main).words (of_key + 1) ≡ Some word → reference_in word ≡ None
      → HoldsReference (heap_of main) of_key key → HoldsReference (heap_of main) (of_key + 1) value → ⊥
  no_value word key value fit read none refers value_refers =
      let below = (known_pair key value refers value_refers).value_below in
      refers_to_none (heap_of main) (of_key + 1) word value read none value_refers
      (omega (arith, fit, before_marks main.seat.space value below))
