-- Laws of words that show values.
use Rattle.std.specs.Prelude.{◌≡◌, ℕ, ◌+◌, ◌<◌, Some}
use Rattle.heap_model.specs.Types.{Class, Value}
use Rattle.tagged_word.specs.Words.{IsClass, bits_of}
use Rattle.tagged_word.specs.Readings.{reference_in}
use Rattle.page_space.specs.Extents.{marks_start}
use Rattle.page_space.specs.RegionLaws.{IsSpace}
use Rattle.handle_roots.specs.Roots.{FitsHeld}
use Rattle.heap_model.specs.Heaps.{Heap}
use Rattle.heap_model.specs.Wholeness.{HasSizes}
use Rattle.heap_model.specs.Showing.{ShowsValue, ShowsHeld}
use Rattle.write_barrier.specs.Values.{held_of_class}

-- The word has a class, and what this stands for shows the value to a variable. Both words at the address of a
-- reference are before the marks.
pub record ShowsByClass (heap : Heap) (word : ℕ) (value : Value) : Type 0 where
  pub class : Class
  pub is_class : IsClass class
  pub bits : word ≡ bits_of class
  pub fits : FitsHeld (held_of_class heap class)
  pub shows : ShowsHeld heap (held_of_class heap class) (Some value)
  pub within : (at : ℕ) → reference_in word ≡ Some at → at + 1 < marks_start heap.space

-- each word that shows a value does so by its class
abbrev pub ShownValuesAreHeld : Type 0
ShownValuesAreHeld =
    (heap : Heap) (word : ℕ) (value : Value) → IsSpace heap.space → HasSizes heap → ShowsValue heap word value
    → ShowsByClass heap word value
