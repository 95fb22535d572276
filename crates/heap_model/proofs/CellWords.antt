-- The words of a cell of a heap by their offsets, and how many it has.
use Rattle.std.proofs.Common.{◌≡◌, ℕ, zero, suc, ◌+◌, ◌-◌, ◌≤◌, ◌<◌, List, [], ◌∷◌, ◌++◌}
use Rattle.std.proofs.Common.{length, take, drop, Contains, slice_get, get_or, refl, sym, ◌∙◌, ap, subst, arith}
use Rattle.std.proofs.Common.{length-take, length-drop}
use Rattle.std.proofs.lemmas.Option.{slice_get_within, slice_get-get_or}
use Rattle.heap_model.specs.Types.{Kind, Cell}
use Rattle.tagged_word.specs.Cells.{words_of, words_least, scavenge_offsets, scavenge_offsets_of, store_head}
use Rattle.tagged_word.proofs.Cells.{size_is}
use Rattle.cell_layout.proofs.OneCell.{cell_is_sized}
use Rattle.heap_model.specs.Heaps.{Heap, HasCell, words_of_cell}
use Rattle.heap_model.specs.Kinds.{HasWord}
use Rattle.heap_model.proofs.CellsApart.{has_is_cell}

-- an element of the later ones is that so many places on
pub slice_get-drop : (n : ℕ) (xs : List ℕ) (k place : ℕ) → n + k ≡ place
    → slice_get (drop n xs) k ≡ slice_get xs place
slice_get-drop zero xs k place is = let same : k ≡ place = omega arith in ap (slice_get xs) same
slice_get-drop (suc n) [] k place is = refl
slice_get-drop (suc n) (x ∷ xs) k zero is = absurd (omega arith)
slice_get-drop (suc n) (x ∷ xs) k (suc place) is = slice_get-drop n xs k place (omega arith)

-- an element of the first list stands in both
pub slice_get-append_left : {A : Type 0} (xs ys : List A) (k : ℕ) → k < length xs
    → slice_get (xs ++ ys) k ≡ slice_get xs k
slice_get-append_left [] ys k below = absurd (omega arith)
slice_get-append_left (x ∷ xs) ys zero below = refl
slice_get-append_left (x ∷ xs) ys (suc k) below = slice_get-append_left xs ys k (omega arith)

-- an element of the second list stands behind those of the first
pub slice_get-append_right : {A : Type 0} (xs ys : List A) (k place : ℕ) → length xs + k ≡ place
    → slice_get (xs ++ ys) place ≡ slice_get ys k
slice_get-append_right [] ys k place is = let same : place ≡ k = omega arith in ap (slice_get ys) same
slice_get-append_right (x ∷ xs) ys k zero is = absurd (omega arith)
slice_get-append_right (x ∷ xs) ys k (suc place) is = slice_get-append_right xs ys k place (omega arith)

-- an element of the first ones is that of all
pub slice_get-take : {A : Type 0} (n : ℕ) (xs : List A) (k : ℕ) → k < n → slice_get (take n xs) k ≡ slice_get xs k
slice_get-take zero xs k below = absurd (omega arith)
slice_get-take (suc n) [] k below = refl
slice_get-take (suc n) (x ∷ xs) zero below = refl
slice_get-take (suc n) (x ∷ xs) (suc k) below = slice_get-take n xs k (omega arith)

-- a cell has as many words as its size
pub words_are_size : {heap : Heap} {cell : Cell} {words : List ℕ} → HasCell heap cell words → length words ≡ cell.size
words_are_size {heap} {cell} has =
    let there : cell.at + cell.size ≤ length heap.words = (has_is_cell has).reads.there in
    let size : ℕ = cell.at + cell.size - cell.at in
    let long : length (words_of_cell heap cell) ≡ cell.size =
    omega (arith, length-take size (drop cell.at heap.words), length-drop cell.at heap.words) in
    sym (ap length has.words_are) ∙ long

-- a word stands at each offset of the cell
pub word_there : {heap : Heap} {cell : Cell} {words : List ℕ} (offset : ℕ) → HasCell heap cell words
    → offset < cell.size → (word : ℕ) × HasWord words offset word
word_there {words = words} offset has within =
    (get_or words offset 0, slice_get-get_or words offset 0 (omega (arith, words_are_size has)))

-- a cell has as many words as its kind gives
pub words_by_kind : {heap : Heap} {cell : Cell} {words : List ℕ} (of : Kind) → HasCell heap cell words
    → cell.layout.kind ≡ of → length words ≡ words_of of cell.layout.cap cell.length
words_by_kind {heap} {cell} of has of_kind =
    let sized = (cell_is_sized heap.space heap.words cell (has_is_cell has)).sized in
    let is =
    size_is (words_least cell.layout.kind) (words_of cell.layout.kind cell.layout.cap cell.length) cell.size sized in
    words_are_size has ∙ sym is.0 ∙ ap (λ k. words_of k cell.layout.cap cell.length) of_kind

-- the slots of a cell are those of its kind
pub slots_by_kind : (cell : Cell) (of : Kind) (offset : ℕ) → cell.layout.kind ≡ of
    → Contains (scavenge_offsets_of of cell.layout cell.length) offset
    → Contains (scavenge_offsets cell.layout cell.length) offset
slots_by_kind cell of offset of_kind there =
    subst (λ k. Contains (scavenge_offsets_of k cell.layout cell.length) offset) (sym of_kind) there

-- and those of its kind are slots of the cell
pub slots_of_kind : (cell : Cell) (of : Kind) (offset : ℕ) → cell.layout.kind ≡ of
    → Contains (scavenge_offsets cell.layout cell.length) offset
    → Contains (scavenge_offsets_of of cell.layout cell.length) offset
slots_of_kind cell of offset of_kind there =
    subst (λ k. Contains (scavenge_offsets_of k cell.layout cell.length) offset) of_kind there

-- a word behind the head of a store or a table stands at an offset of it
pub behind_head : (words : List ℕ) (k word : ℕ) → HasWord (drop store_head words) k word
    → HasWord words (store_head + k) word
behind_head words k word there = sym (slice_get-drop store_head words k (store_head + k) refl) ∙ there

-- and there are only so many
pub behind_head_few : (words : List ℕ) (k many word : ℕ) → length words ≡ store_head + many
    → HasWord (drop store_head words) k word → k < many
behind_head_few words k many word long there =
    omega (arith, slice_get_within (drop store_head words) k word there, length-drop store_head words)
