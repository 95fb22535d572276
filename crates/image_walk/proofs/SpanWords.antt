-- The words of cells and of spans, by their addresses.
use Rattle.std.proofs.Common.{◌≡◌, ℕ, ◌+◌, ◌-◌, ◌^◌, ◌≤◌, ◌<◌, List, length, take, drop, Some}
use Rattle.std.proofs.Common.{slice_get, slice_range, All, get_or, refl, sym, ◌∙◌, ap, subst, arith, length-take}
use Rattle.std.proofs.Common.{length-drop}
use Rattle.std.proofs.lemmas.List.{drop-take, drop-drop}
use Rattle.std.proofs.lemmas.Option.{slice_get_within, slice_get-get_or}
use Rattle.page_space.specs.Sizes.{AreWithin}
use Rattle.page_space.specs.Extents.{Space, words_count}
use Rattle.page_space.proofs.Limits.{words_count_most}
use Rattle.page_space.proofs.Starts.{board_start_is, words_count_is}
use Rattle.heap_model.specs.Types.{Cell}
use Rattle.heap_model.specs.Heaps.{Heap, HasCell, words_of_cell}
use Rattle.heap_model.proofs.CellsApart.{has_is_cell}
use Rattle.heap_model.proofs.CellWords.{slice_get-drop, slice_get-take}
use Rattle.image_walk.specs.Words.{HasWords}
use Rattle.image_walk.specs.declared.spans.Span.{Span}
use Rattle.image_walk.specs.Spans.{StandsIn, span_words, IsSpan, EachWord}

-- no heap has 2^32 words or more
pub words_count_few : (space : Space) → AreWithin space.sizes space.variables → words_count space < 2 ^ 32
words_count_few space within = omega (arith, words_count_most space within)

-- a word of a stretch stands at its address
pub slice_get-slice_range : (words : List ℕ) (from end at : ℕ) → at < end - from
    → slice_get (slice_range words from end) at ≡ slice_get words (from + at)
slice_get-slice_range words from end at within =
    slice_get-take (end - from) (drop from words) at within ∙ slice_get-drop from words at (from + at) refl

-- a stretch without its first words begins behind them
pub drop-slice_range : (words : List ℕ) (n from end : ℕ) → from + n ≤ end
    → drop n (slice_range words from end) ≡ slice_range words (from + n) end
drop-slice_range words n from end within =
    let long : end - from ≡ n + (end - (from + n)) = omega arith in
    ap (λ count. drop n (take count (drop from words))) long
    ∙ drop-take n (end - (from + n)) (drop from words)
    ∙ ap (λ rest. take (end - (from + n)) rest) (drop-drop n from words)

-- a stretch has no more words than its addresses
pub length-slice_range : (words : List ℕ) (from end : ℕ) → length (slice_range words from end) ≤ end - from
length-slice_range words from end = omega (arith, length-take (end - from) (drop from words))

-- and so many where all are there
pub length-span : (heap : Heap) (span : Span) → IsSpan heap span
    → length (span_words heap span) ≡ span.end - span.from
length-span heap span is =
    omega (
      arith,
      length-take (span.end - span.from) (drop span.from heap.words),
      length-drop span.from heap.words,
      is.within,
    )

-- a cell ends with the words or before
pub cell_ends : (heap : Heap) (cell : Cell) → StandsIn heap cell → cell.at + cell.size ≤ length heap.words
cell_ends heap cell stands = (has_is_cell stands).reads.there

-- and so before the last address of 32 bits
pub cell_ends_few : (heap : Heap) (cell : Cell) (most : ℕ) → HasWords heap → StandsIn heap cell
    → words_count heap.space ≤ most → cell.at + cell.size + 1 ≤ most
cell_ends_few heap cell most sized stands few =
    omega (
      arith,
      cell_ends heap cell stands,
      sized,
      few,
      board_start_is heap.space,
      words_count_is heap.space,
    )

-- a word of a cell is the one at its address
pub slice_get-words_of_cell : (heap : Heap) (cell : Cell) (offset : ℕ) → offset < cell.size
    → slice_get (words_of_cell heap cell) offset ≡ slice_get heap.words (cell.at + offset)
slice_get-words_of_cell heap cell offset within =
    slice_get-slice_range heap.words cell.at (cell.at + cell.size) offset (omega arith)

-- the words behind a cell's first ones
pub behind_first : (heap : Heap) (cell : Cell) (n : ℕ) → n ≤ cell.size
    → slice_range heap.words (cell.at + n) (cell.at + cell.size) ≡ drop n (words_of_cell heap cell)
behind_first heap cell n within =
    sym (drop-slice_range heap.words n cell.at (cell.at + cell.size) (omega arith))

-- the address of a cell has 32 bits where the number of words has
pub address_few : (heap : Heap) (cell : Cell) (words : List ℕ) → HasWords heap → HasCell heap cell words
    → words_count heap.space < 2 ^ 32 → cell.at < 2 ^ 32
address_few heap cell words sized has few =
    omega (
      arith,
      (has_is_cell has).reads.there,
      sized,
      few,
      board_start_is heap.space,
      words_count_is heap.space,
    )

-- what holds at each address of a stretch holds of each word of it
pub each_from : (words : List ℕ) (from end : ℕ) (P : ℕ → ℕ → Type 0)
    → ((at word : ℕ) → from ≤ at → at < end → slice_get words at ≡ Some word → P (at - from) word)
    → EachWord (slice_range words from end) P
each_from words from end P each at word there =
    let few : at < end - from =
    omega (arith, slice_get_within (slice_range words from end) at word there, length-slice_range words from end) in
    let back : from + at - from ≡ at = omega arith in
    subst (λ k. P k word) back
    (each (from + at) word (omega arith) (omega arith) (sym (slice_get-slice_range words from end at few) ∙ there))

-- and the other way round
pub each_to : (words : List ℕ) (from end : ℕ) (P : ℕ → ℕ → Type 0) → EachWord (slice_range words from end) P
    → (at word : ℕ) → from ≤ at → at < end → slice_get words at ≡ Some word → P (at - from) word
each_to words from end P each at word behind before there =
    let place : from + (at - from) ≡ at = omega arith in
    each (at - from) word
    (slice_get-slice_range words from end (at - from) (omega arith) ∙ ap (slice_get words) place ∙ there)

-- what holds of each word holds of all
pub all_from_each : (words : List ℕ) (P : ℕ → Type 0) → EachWord words (λ at word. P word) → All P words
all_from_each words P each at d within = each at (get_or words at d) (slice_get-get_or words at d within)
