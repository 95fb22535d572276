-- A cell that is read by slices of the own words.
use Rattle.std.proofs.Common.{slice_set}
use Rattle.std.proofs.Common.{◌≡◌, ℕ, ◌+◌, ◌-◌, ◌<◌, List, length, min, take, drop, slice_get, Option, Some, None}
use Rattle.std.proofs.Common.{IsSome}
use Rattle.std.proofs.Common.{sym, ap, ◌∙◌, arith}
use Rattle.std.proofs.Math.Seq.{take-length}
use Rattle.std.proofs.lemmas.List.{drop-set-lt, get_or-take, length-drop}
use Rattle.std.proofs.lemmas.Option.{get_or_from_slice_get}
use Rattle.tagged_word.specs.declared.reading.Reading.{Reading}
use Rattle.tagged_word.specs.Readings.{read_cell}
use Rattle.tagged_word.specs.Shapes.{shapes_most}
use Rattle.page_space.specs.Extents.{Space, eden_start, layouts_start}
use Rattle.page_space.proofs.Starts.{layouts_start_is, roots_start_is}
use Rattle.cell_layout.specs.declared.cell.Cell.{Cell}
use Rattle.cell_layout.specs.Cells.{layouts_in}
use Rattle.mark_world.specs.Pages.{page_end}
use Rattle.mark_barrier.specs.Owing.{own_cell, slot_word}

-- the words of a list from one on
pub rest_is : (xs : List ℕ) (k : ℕ) → take (length xs - k) (drop k xs) ≡ drop k xs
rest_is xs k = ap (λ (n : ℕ). take n (drop k xs)) (sym (length-drop k xs)) ∙ take-length (drop k xs)

-- the cell that is read by two slices
abbrev pub read_by : List ℕ → (old start at bound : ℕ) → Option Reading
read_by words old start at bound =
    read_cell (take old words) (take shapes_most (take (length words - start) (drop start words))) at bound

-- it is the cell of a page by the own words
pub own_read : (space : Space) (table words : List ℕ) (old start at bound : ℕ) → words ≡ table → old ≡ eden_start space
    → start ≡ layouts_start space + 0 → bound ≡ min old (page_end at)
    → read_by words old start at bound ≡ own_cell space table at
unfolding layouts_in
own_read space table words old start at bound same is_old is_start is_bound =
    let first : start ≡ layouts_start space = omega (arith, is_start) in
    ap (λ (ws : List ℕ). read_by ws old start at bound) same
    ∙ ap (λ (k : ℕ). read_by table old k at bound) first
    ∙ ap (λ (b : ℕ). read_by table old (layouts_start space) at b) is_bound
    ∙ ap (λ (n : ℕ). read_by table n (layouts_start space) at (min n (page_end at))) is_old
    ∙ ap (λ (ls : List ℕ). read_cell (take (eden_start space) table) (take shapes_most ls) at
    (min (eden_start space) (page_end at))) (rest_is table (layouts_start space))

-- the word of a slot is one of the pages
pub word_there : (space : Space) (table : List ℕ) (cell : Cell) (offset word : ℕ)
    → cell.at + offset < eden_start space → slice_get table (cell.at + offset) ≡ Some word
    → word ≡ slot_word space table cell offset
word_there space table cell offset word inside there =
    sym (get_or_from_slice_get table (cell.at + offset) word 0 there)
    ∙ sym (get_or-take (eden_start space) table (cell.at + offset) 0 inside)

-- a word that is stored in a page leaves the layout words
pub layouts_stay : (space : Space) (table : List ℕ) (a word : ℕ) → a < eden_start space
    → layouts_in space (slice_set table a word) ≡ layouts_in space table
unfolding layouts_in
layouts_stay space table a word inside =
    let roots = roots_start_is space in
    let layouts = layouts_start_is space in
    ap (take shapes_most) (drop-set-lt (layouts_start space) table a word (omega (arith, inside, roots, layouts)))

-- an option without a value has none
pub none_there : {X : Type 0} (o : Option X) → o ≡ None → IsSome o → ⊥
none_there None is some = cc
none_there (Some x) is some = cc
