-- How many words copies have hangs on the heap alone with which a scavenge begins.
use Rattle.std.proofs.Common.{◌≡◌, ◌∙◌, ℕ, List, sym, ap}
use Rattle.std.specs.List.{sum_by}
use Rattle.tagged_word.specs.Readings.{read_cell}
use Rattle.scav_copy.specs.declared.places.Home.{Home}
use Rattle.scav_copy.specs.Places.{Fixed, cell_before, last_address, size_of, words_in}
use Rattle.scavenger.specs.Starts.{Start, SegmentCopies, IsBegun}
use Rattle.scavenger.specs.Filling.{words_of_segments}

module _ {start : Start} {fixed other : Fixed} (begun : IsBegun start fixed) (also : IsBegun start other) where
  -- the words before are the same, and so are the layout words
  same_cell : (at : ℕ) → cell_before fixed at ≡ cell_before other at
  unfolding cell_before
  same_cell at =
      ap (λ (words : List ℕ). read_cell words fixed.layouts at last_address)
      (begun.begins.before ∙ sym also.begins.before)
      ∙ ap (λ (layouts : List ℕ). read_cell other.before layouts at last_address)
      (begun.begins.layouts ∙ sym also.begins.layouts)

  -- so is the size of a cell
  same_size : (at : ℕ) → size_of fixed at ≡ size_of other at
  same_size at = ap words_in (same_cell at)

  -- and what copies in segments have
  pub same_words : (segments : List SegmentCopies) → words_of_segments fixed segments ≡ words_of_segments other segments
  same_words segments = λ i. sum_by (λ (segment : SegmentCopies).
      sum_by (λ (home : Home). same_size home.from i) segment.homes) segments
