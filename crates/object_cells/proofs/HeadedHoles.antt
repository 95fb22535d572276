-- A header, a length and holes behind them are put, as where a store or a table is made.
use Rattle.std.proofs.Common.{◌≡◌, ℕ, ◌+◌, ◌≤◌, List, length, replicate, sym, ◌∙◌, ap, subst, arith, length-set}
use Rattle.std.specs.Prelude.{slice_set}
use Rattle.std.proofs.lemmas.List.{length-replicate}
use Rattle.tagged_word.specs.Cells.{store_head}
use Rattle.page_space.specs.Extents.{Space, marks_start}
use Rattle.write_barrier.specs.Seats.{heap_words, RestStays}
use Rattle.write_barrier.specs.Staying.{rest_stays_itself, rest_stays_again}
use Rattle.heap_model.specs.Remembered.{Touch}
use Rattle.heap_model.specs.Slots.{hole_word}
use Rattle.write_barrier.specs.MutatorState.{Mutator, forgets, with_word, with_table}
use Rattle.write_barrier.specs.Recording.{Touches, touched, touched_then}
use Rattle.write_barrier.specs.Values.{with_range}
use Rattle.write_barrier.proofs.Recording.{then_touch, word_touch}
use Rattle.object_cells.specs.Made.{PutsWords}
use Rattle.object_cells.proofs.RestOfWords.{put_rest, range_beside}
use Rattle.object_cells.proofs.WipedRanges.{wiped_on}

-- A header was put, a length behind it, and then so many holes.
pub record PutsHeaded (old headed sized new : Mutator) (at many header long : ℕ) : Type 0 where
  pub first : headed ≡ with_word old at header
  pub second : sized ≡ with_word headed (at + 1) long
  pub third : new ≡ with_table (forgets sized (at + 2) (at + 2 + many))
      (with_range sized.seat.table (at + 2) (replicate many hole_word))
  pub heap : heap_words new.seat ≡ with_range (heap_words sized.seat) (at + 2) (replicate many hole_word)
  pub counted : length (heap_words old.seat) ≡ marks_start old.seat.space
  pub within : at + (store_head + many) ≤ marks_start old.seat.space

module _ {old headed sized new : Mutator} {at many header long : ℕ}
    (puts : PutsHeaded old headed sized new at many header long) where
  -- the words behind both
  abbrev holes : List ℕ
  holes = replicate many hole_word

  -- the words with the header, and with the length
  abbrev with_header : List ℕ
  with_header = slice_set (heap_words old.seat) at header

  abbrev with_head : List ℕ
  with_head = slice_set with_header (at + 1) long

  -- it was put before the marks
  headed_marks : marks_start headed.seat.space ≡ marks_start old.seat.space
  headed_marks = ap (λ (main : Mutator). marks_start main.seat.space) puts.first

  -- and so was the length
  sized_words : heap_words sized.seat ≡ with_head
  sized_words =
      ap (λ (main : Mutator). heap_words main.seat) puts.second
      ∙ ap (λ all. slice_set all (at + 1) long) (ap (λ (main : Mutator). heap_words main.seat) puts.first)

  -- the regions and the phase stay
  sized_beside : RestStays old.seat sized.seat
  sized_beside =
      put_rest (at + 1) long
      (put_rest at header (rest_stays_itself old.seat) (ap (λ (main : Mutator). main.seat) puts.first)
      (omega (arith, puts.within)))
      (ap (λ (main : Mutator). main.seat) puts.second) (omega (arith, puts.within, headed_marks))

  -- so these stand where they stood
  sized_marks : marks_start sized.seat.space ≡ marks_start old.seat.space
  sized_marks = ap (λ (space : Space). marks_start space) sized_beside.space

  -- and there are as many as before
  sized_counted : length (heap_words sized.seat) ≡ marks_start old.seat.space
  sized_counted =
      ap length sized_words ∙ length-set with_header (at + 1) long ∙ length-set (heap_words old.seat) at header
      ∙ puts.counted

  -- so these words are put
  pub headed_puts : PutsWords old new (with_range with_head (at + 2) holes)
  headed_puts = record {
    beside = rest_stays_again old.seat sized.seat new.seat sized_beside
        (subst (λ (main : Mutator). RestStays sized.seat main.seat) (sym puts.third)
        (range_beside sized (at + 2) holes (sized_counted ∙ sym sized_marks)
        (omega (arith, length-replicate many hole_word, puts.within, sized_marks))));
    paths = ap (λ (main : Mutator). main.paths) puts.third ∙ ap (λ (main : Mutator). main.paths) puts.second
        ∙ ap (λ (main : Mutator). main.paths) puts.first;
    young = ap (λ (main : Mutator). main.young) puts.third ∙ ap (λ (main : Mutator). main.young) puts.second
        ∙ ap (λ (main : Mutator). main.young) puts.first;
    heap = puts.heap ∙ ap (λ all. with_range all (at + 2) holes) sized_words;
  }

  -- its head was wiped
  head_wiped : Touches old sized (touched Touch.Wiped at (at + 2))
  head_wiped =
      subst (λ end. Touches old sized (touched Touch.Wiped at end)) (omega arith)
      (wiped_on at (at + 1) (at + 1 + 1) (omega arith) (omega arith)
      (subst (λ (main : Mutator). Touches old main (touched Touch.Wiped at (at + 1))) (sym puts.first)
      (word_touch old at header (omega (arith, puts.within))))
      (subst (λ (main : Mutator). Touches headed main (touched Touch.Wiped (at + 1) (at + 1 + 1))) (sym puts.second)
      (word_touch headed (at + 1) long (omega (arith, puts.within, headed_marks)))))

  -- the head was, and holes were stored in the slots behind it
  pub headed_touch : Touches sized new (touched Touch.Stored (at + store_head) (at + store_head + many))
      → Touches old new (touched_then (touched Touch.Wiped at (at + store_head))
      (touched Touch.Stored (at + store_head) (at + (store_head + many))))
  headed_touch stored =
      then_touch head_wiped
      (subst (λ end. Touches sized new (touched Touch.Stored (at + store_head) end)) (omega arith) stored)
