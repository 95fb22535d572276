-- How records are touched where stretches of words are put or copied that are no slots.
use Rattle.std.proofs.Common.{◌≡◌, ℕ, ◌+◌, ◌≤◌, inl, inr, List, length, slice_get, ◌∙◌, ap, arith}
use Rattle.std.specs.Prelude.{slice_range}
use Rattle.word_store.specs.Copies.{copied}
use Rattle.word_store.proofs.CopiedWords.{length-piece}
use Rattle.write_barrier.specs.Seats.{heap_words}
use Rattle.heap_model.specs.Remembered.{Touch}
use Rattle.write_barrier.specs.MutatorState.{Mutator, forgets, with_table}
use Rattle.write_barrier.specs.Recording.{Touches, touched}
use Rattle.write_barrier.specs.Values.{with_range}
use Rattle.write_barrier.proofs.PutRanges.{with_range_before, with_range_behind, copied_is}
use Rattle.write_barrier.proofs.Recording.{wiped_touch}

-- a stretch of words that is forgotten and then put was wiped
pub stretch_touch : {old new : Mutator} (at count : ℕ) (table others : List ℕ)
    → new ≡ with_table (forgets old at (at + count)) table
    → heap_words new.seat ≡ with_range (heap_words old.seat) at others → length others ≡ count
    → at ≤ length (heap_words old.seat) → Touches old new (touched Touch.Wiped at (at + count))
stretch_touch {old} {new} at count table others is heap long within =
    let words = heap_words old.seat in
    wiped_touch old new at (at + count) (ap (λ (main : Mutator). main.free) is)
    (ap (λ (main : Mutator). main.recorded) is)
    (λ a below out. ap (λ all. slice_get all a) heap ∙ elim out [
      | inl before ↦ with_range_before words others at a within before
      | inr behind ↦ with_range_behind words others at a within (omega (arith, behind, long))
    ])

-- and so is one to which others were copied
pub copy_touch : {old new : Mutator} (from at count : ℕ) (table : List ℕ)
    → new ≡ with_table (forgets old at (at + count)) table
    → heap_words new.seat ≡ copied (heap_words old.seat) from at count
    → from + count ≤ length (heap_words old.seat) → at ≤ length (heap_words old.seat)
    → Touches old new (touched Touch.Wiped at (at + count))
copy_touch {old} from at count table is heap inside within =
    let words = heap_words old.seat in
    stretch_touch at count table (slice_range words from (from + count)) is
    (heap ∙ copied_is words from at count inside) (length-piece words from count inside) within
