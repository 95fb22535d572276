-- The words of boxes and of stores.
use Rattle.std.specs.Prelude.{ℕ, List, ◌∷◌, replicate}
use Rattle.heap_model.specs.Types.{Header}
use Rattle.tagged_word.specs.Headers.{header_bits}
use Rattle.tagged_word.specs.Shapes.{box_shape, store_shape}
use Rattle.heap_model.specs.Slots.{hole_word}

-- the header of a box
abbrev pub box_header : Header
box_header = record { shape = box_shape; object = 0 }

-- the header of a store
abbrev pub store_header : Header
store_header = record { shape = store_shape; object = 0 }

-- the words of a store of so many slots that hold nothing
abbrev pub empty_store : ℕ → List ℕ
empty_store capacity = header_bits store_header ∷ capacity ∷ replicate capacity hole_word
