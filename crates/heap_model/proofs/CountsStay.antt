-- The places of objects' own cells, and the counts of weak maps whose cells stand as before.
use Rattle.std.proofs.Common.{◌≡◌, ℕ, ◌<◌, List, IsTrue, refl, sym, ◌∙◌, arith}
use Rattle.tagged_word.specs.declared.layout.Kind.TheVariants as kind
use Rattle.heap_model.specs.Types.{Cell}
use Rattle.heap_model.specs.Heaps.{Heap, HasCell}
use Rattle.tagged_word.specs.Cells.{is_object_kind}
use Rattle.heap_model.specs.Slots.{IsPlace}
use Rattle.heap_model.specs.Kinds.{count_offset}
use Rattle.heap_model.specs.Needs.{count_at}
use Rattle.heap_model.proofs.CellWords.{words_are_size, word_there, words_by_kind}
use Rattle.heap_model.proofs.WordsRead.{word_of_cell}

-- an object's own cell stands in its place
pub place_of : {heap : Heap} {cell : Cell} {words : List ℕ} {number : ℕ} → HasCell heap cell words
    → IsTrue (is_object_kind cell.layout.kind) → cell.header.object ≡ number → IsPlace heap number cell.at
place_of {cell = cell} {words} has object carries =
    record { cell = cell; words = words; has = has; stands = refl; object = object; carries = carries }

-- where the cell of a weak map stands as before, it counts as many entries
pub count_stays : {old new : Heap} {cell : Cell} {words : List ℕ} → HasCell old cell words → HasCell new cell words
    → cell.layout.kind ≡ kind.Weak → count_at new cell.at ≡ count_at old cell.at
count_stays {cell = cell} was has is =
    let within : count_offset < cell.size = omega (arith, words_are_size was, words_by_kind kind.Weak was is) in
    let word = word_there count_offset was within in
    word_of_cell count_offset word.0 has word.1 ∙ sym (word_of_cell count_offset word.0 was word.1)
