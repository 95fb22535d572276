-- What the calls on the entries of a weak map do of the pairs of its table.
use Rattle.std.specs.Prelude.{◌≡◌, ℕ, ◌+◌, ◌≤◌, ◌<◌, List, Result, Ok, Err, not, ◌&&◌}
use Rattle.heap_model.specs.Types.{Class, Value, Held}
use Rattle.tagged_word.specs.Words.{IsClass, bits_of}
use Rattle.object_graph.specs.Graphs.{Graph, WeakObject}
use Rattle.object_graph.specs.Meaning.{weak_most}
use Rattle.nursery.specs.Young.{HasRoom}
use Rattle.handle_roots.specs.declared.held.Held.TheVariants.{Undefined}
use Rattle.heap_model.specs.Heaps.{Heap}
use Rattle.heap_model.specs.Slots.{reference_word}
use Rattle.heap_model.specs.Kinds.{Pair}
use Rattle.heap_model.specs.Needs.{box_need, capacity_at, count_at, is_box_word, table_need}
use Rattle.write_barrier.specs.MutatorState.{Mutator, heap_of}
use Rattle.write_barrier.specs.Values.{held_of_class}
use Rattle.object_cells.specs.Made.{is_wide_held}
use Rattle.ephemeron_table.specs.EntryChanges.{PutsEntry}
use Rattle.weak_pairs.specs.Pairs.{HasPairsAt, AreWith, IsPairOf, LacksPair}
use Rattle.ephemeron_table.specs.Pairs.{RemovesPair}
use Rattle.ephemeron_table.specs.PutWords.{PutsAt}
use Rattle.ephemeron_table.specs.declared.stop.TableStop.{TableStop}
use Rattle.ephemeron_table.specs.declared.stop.TableStop.TheVariants as stop

-- the word of a pair's value stands for what is held, by its class
pub record WordStandsFor (heap : Heap) (word : ℕ) (held : Held) : Type 0 where
  pub class : Class
  pub is_class : IsClass class
  pub bits : word ≡ bits_of class
  pub stands : held_of_class heap class ≡ held

-- The pair of the key whose cell stands at an address, and of a value, was put in the weak map whose cell stands at an
-- address, which may be the same one. Which words that puts is said; what they make of the pairs follows. One pair
-- more is filled where no pair had the key, and fewer were than the map may have entries; else as many.
pub record HasPutPair (old new : Mutator) (map key : ℕ) (value : Held) (before : List Pair) : Type 0 where
  pub few : LacksPair before (reference_word key) → count_at (heap_of old) map < weak_most
  pub puts : PutsAt old new map key value
  pub after : List Pair
  pub are : HasPairsAt (heap_of new) map after
  pub word : ℕ
  pub stands : WordStandsFor (heap_of new) word value
  pub with_it : AreWith before after (reference_word key) word
  pub as_many : (place : ℕ) (pair : Pair) → IsPairOf before (reference_word key) place pair
      → count_at (heap_of new) map ≡ count_at (heap_of old) map
  pub one_more : LacksPair before (reference_word key) → count_at (heap_of new) map ≡ count_at (heap_of old) map + 1

-- So many words the pair of a key word and a value needs: where no pair has the key, a table that is absent or too full
-- and a box where the value is wide; and else a box where the value is wide and the one before stands in none.
pub record NeedsPair (heap : Heap) (map key : ℕ) (value : Held) (before : List Pair) (need : ℕ) : Type 0 where
  pub fresh : LacksPair before key
      → need ≡ table_need (capacity_at heap map) (count_at heap map) + box_need (is_wide_held value)
  pub there : (place : ℕ) (pair : Pair) → IsPairOf before key place pair
      → need ≡ box_need (is_wide_held value && not (is_box_word heap pair.value))

-- `put`: the pair was put; or none has the key and as many are filled as the map may have entries; or there is no room,
-- in this order, and nothing has changed.
abbrev pub PutsPair : Mutator → Mutator → (map key : ℕ) → Held → List Pair → Result Unit TableStop → Type 0
PutsPair old new map key value before (Ok _) = HasPutPair old new map key value before
PutsPair old new map key value before (Err (stop.TableFull entries)) =
    LacksPair before (reference_word key) × (entries ≡ count_at (heap_of old) map)
    × (weak_most ≤ count_at (heap_of old) map) × (new ≡ old)
PutsPair old new map key value before (Err (stop.Full room)) =
    (LacksPair before (reference_word key) → count_at (heap_of old) map < weak_most)
    × NeedsPair (heap_of old) map (reference_word key) value before room.need
    × (HasRoom old.young room.need → ⊥) × (new ≡ old)

-- Both the entry of the key and its pair are put, or why they are not.
pub record PutsBoth (old new : Mutator) (graph : Graph) (map key : ℕ) (weak : WeakObject) (number : ℕ) (value : Held)
    (what : Value) (result : Result Unit TableStop) : Type 0 where
  pub entry : PutsEntry old new graph map key weak number what result
  pub pairs : (before : List Pair) → HasPairsAt (heap_of old) map before → PutsPair old new map key value before result

-- `get`: what is held is what the value of the pair with the key stands for; undefined where none has it.
pub record TellsPairValue (main : Mutator) (key : ℕ) (pairs : List Pair) (held : Held) : Type 0 where
  pub there : (place : ℕ) (pair : Pair) → IsPairOf pairs (reference_word key) place pair
      → WordStandsFor (heap_of main) pair.value held
  pub none : LacksPair pairs (reference_word key) → held ≡ Undefined

-- `delete`: the pair with the key was removed; where none has it, nothing has changed.
pub record DeletesPair (old new : Mutator) (map key : ℕ) (before : List Pair) : Type 0 where
  pub there : (place : ℕ) (pair : Pair) → IsPairOf before (reference_word key) place pair
      → RemovesPair old new map place before
  pub none : LacksPair before (reference_word key) → new ≡ old
