-- What stays where words become a free cell.
use Rattle.std.proofs.Common.{◌≡◌, ℕ, ◌+◌, ◌≤◌, List, length, length-set, take, sym, ◌∙◌, ap, arith}
use Rattle.cell_layout.specs.Cells.{layouts_in}
use Rattle.page_space.specs.Extents.{Space, eden_start, layouts_start}
use Rattle.tagged_word.specs.Headers.{header_bits}
use Rattle.write_barrier.specs.FreeCells.{filler_header, with_free_cell}
use Rattle.write_barrier.specs.Marking.{MayPutFree}
use Rattle.write_barrier.specs.MutatorState.{Mutator, gap_header, with_word}
use Rattle.write_barrier.specs.Seats.{RestStays, Seat, heap_words}
use Rattle.write_barrier.specs.Storing.{StoresOn}
use Rattle.write_barrier.proofs.FreeCells.{PutAs, put_as}
use Rattle.write_barrier.proofs.FreeStores.{first_header, then_second}
use Rattle.write_barrier.specs.Staying.{rest_stays_again}
use Rattle.write_barrier.proofs.HeapWords.{stays_beside}
use Rattle.write_barrier.proofs.JudgedSlots.{wiped_bound}
use Rattle.write_barrier.proofs.SlotStores.{header_stores_on, word_stores_on}
use Rattle.write_barrier.proofs.StoresOn.{same_pages_store, stores_on_again}

-- a mutator that differs in none of this has stored no words
pub same_words_store : {old new : Mutator} → RestStays old.seat new.seat → new.paths ≡ old.paths
    → new.cycle ≡ old.cycle → new.recorded.bound ≡ old.recorded.bound
    → heap_words new.seat ≡ heap_words old.seat → StoresOn old new
same_words_store {old} {new} rest paths cycle bound words =
    same_pages_store rest.space rest.phase cycle paths bound
    (ap (λ (space : Space). take (eden_start space) new.seat.table) rest.space
    ∙ ap (take (eden_start old.seat.space)) words)
    (ap (λ (space : Space). layouts_in space new.seat.table) rest.space
    ∙ ap (layouts_in old.seat.space) words)

-- what stays beside the words of one seat stays beside those of another one, which has as many
stays_from : (old new : Seat) (table : List ℕ) → length table ≡ length old.table → RestStays old new
    → RestStays (record old { table = table }) new
stays_from old new table counted rest =
    rest_stays_again (record old { table = table }) old new
    (stays_beside (record old { table = table }) old.table (sym counted)) rest

-- words that may become a free cell do
pub free_stores_on : {old new : Mutator} (at count : ℕ) → at + count ≤ layouts_start old.seat.space
    → MayPutFree old at count → RestStays old.seat new.seat → new.paths ≡ old.paths → new.cycle ≡ old.cycle
    → new.recorded.bound ≡ old.recorded.bound
    → heap_words new.seat ≡ with_free_cell (heap_words old.seat) at count → StoresOn old new
free_stores_on {old} {new} at count before may rest paths cycle bound words =
    elim (put_as (heap_words old.seat) at count) [
      | PutAs.none none is ↦ same_words_store rest paths cycle bound (words ∙ is)
      | PutAs.filler one is ↦
          let filler : ℕ = header_bits filler_header in
          let last : Mutator = with_word old at filler in
          stores_on_again
          (header_stores_on at filler (omega (arith, before, one)) (first_header old at count may filler
          (omega (arith, one))))
          (same_words_store {old = last} {new = new} (stays_from old.seat new.seat last.seat.table
          (length-set old.seat.table at filler) rest) paths cycle
          (bound ∙ sym (wiped_bound old.recorded at (at + 1))) (words ∙ is))
      | PutAs.gap two is ↦
          let gap : ℕ = header_bits gap_header in
          let first : Mutator = with_word old at gap in
          let last : Mutator = with_word first (at + 1) count in
          stores_on_again
          (stores_on_again
          (header_stores_on at gap (omega (arith, before, two)) (first_header old at count may gap
          (omega (arith, two))))
          (word_stores_on {main = first} (at + 1) count (omega (arith, before, two))
          (then_second old at count may gap count (omega (arith, two)))))
          (same_words_store {old = last} {new = new} (stays_from old.seat new.seat last.seat.table
          (length-set first.seat.table (at + 1) count ∙ length-set old.seat.table at gap) rest) paths cycle
          (bound ∙ sym (wiped_bound old.recorded at (at + 1)) ∙ sym (wiped_bound first.recorded (at + 1) (at + 1 + 1)))
          (words ∙ is))
    ]
