-- How many words a heap has.
use Rattle.std.specs.Prelude.{◌≡◌, length}
use Rattle.page_space.specs.Extents.{marks_start}
use Rattle.heap_model.specs.Heaps.{Heap}

-- as many words as the regions before the marks have
abbrev pub HasWords : Heap → Type 0
HasWords heap = length heap.words ≡ marks_start heap.space
