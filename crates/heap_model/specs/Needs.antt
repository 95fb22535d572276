-- What is read of a heap by address, and how large the stores and tables are that commands make.
use Rattle.std.specs.Prelude.{ℕ, suc, ◌+◌, ◌*◌, max, min, Bool, true, false, ◌==◌, Option, Some, None, option_map}
use Rattle.std.specs.Prelude.{slice_get, unwrap_or, nat_lt, if◌then◌else◌}
use Rattle.tagged_word.specs.Shapes.{box_shape}
use Rattle.tagged_word.specs.Cells.{store_head, store_slot, length_offset}
use Rattle.tagged_word.specs.Readings.{reference_in, header_at}
use Rattle.object_graph.specs.Meaning.{list_most}
use Rattle.heap_model.specs.Heaps.{Heap}
use Rattle.heap_model.specs.Kinds.{count_offset}

-- the words of a box: its header, and a raw integer
abbrev pub box_words : ℕ
box_words = 2

-- the capacity of the first property store of an object
abbrev pub first_capacity : ℕ
first_capacity = 4

-- the capacity of the store that takes the place of one that is full: twice as many slots
abbrev pub grown : ℕ → ℕ
grown capacity = max first_capacity (2 * capacity)

-- the word at an address; 0 where there is none
abbrev pub word_at : Heap → ℕ → ℕ
word_at heap at = unwrap_or (slice_get heap.words at) 0

-- the shape at an address; 0 where there is no header
abbrev pub shape_at : Heap → ℕ → ℕ
shape_at heap at = unwrap_or (option_map (λ header. header.shape) (header_at heap.words at)) 0

-- how many slots the store to which the word refers has, or how many pairs the table; none where it refers to nothing
abbrev pub capacity_by : Heap → Option ℕ → ℕ
capacity_by heap None = 0
capacity_by heap (Some store) = word_at heap (store + length_offset)

-- the capacity of what belongs to the object at an address: its store or its table
abbrev pub capacity_at : Heap → ℕ → ℕ
capacity_at heap at = capacity_by heap (reference_in (word_at heap (at + store_slot)))

-- whether a box stands at the address, if there is one
abbrev pub is_box_at : Heap → Option ℕ → Bool
is_box_at heap None = false
is_box_at heap (Some at) = shape_at heap at == box_shape

-- whether the word refers to a box
abbrev pub is_box_word : Heap → ℕ → Bool
is_box_word heap word = is_box_at heap (reference_in word)

-- a box, where the value needs one
abbrev pub box_need : Bool → ℕ
box_need true = box_words
box_need false = 0

-- a new store, where that of so many slots has no room for one field more beside those in it
abbrev pub store_need : ℕ → ℕ → ℕ
store_need capacity used = if nat_lt used capacity then 0 else store_head + grown capacity

-- how many elements the list at an address has, or how many pairs the weak map has filled
abbrev pub count_at : Heap → ℕ → ℕ
count_at heap at = word_at heap (at + count_offset)

-- the capacity of the store that takes the place of a list's that is full of so many elements: twice as many slots, but
-- no more than a list may have elements
abbrev pub grown_list : ℕ → ℕ
grown_list count = min list_most (grown count)

-- a new store, where that of so many slots is full of so many elements
abbrev pub list_store_need : ℕ → ℕ → ℕ
list_store_need capacity count = if count == capacity then store_head + grown_list count else 0

-- the most pairs of a weak table: twice the 256 that may be filled
abbrev pub pairs_most : ℕ
pairs_most = 512

-- the capacity of the table that takes the place of one of so many pairs: twice as many, but no more than there may be
abbrev pub grown_table : ℕ → ℕ
grown_table capacity = min pairs_most (grown capacity)

-- a new table, where twice the entries with one more are over the pairs of the one that is there
abbrev pub table_need : ℕ → ℕ → ℕ
table_need capacity count = if nat_lt capacity (2 * suc count) then store_head + 2 * grown_table capacity else 0

-- the words of a list's own cell: its header, the slot for its store, and its length
abbrev pub list_words : ℕ
list_words = 3

-- the words of a weak map's own cell: its header, the slot for its table, and its count
abbrev pub weak_words : ℕ
weak_words = 3

-- The heap has not so many words more: survivors, used words and these are over the words of the young generation.
abbrev pub lacks_room : Heap → ℕ → Bool
lacks_room heap need = nat_lt heap.space.sizes.young (heap.survivors + heap.used + need)
