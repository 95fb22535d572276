-- What a scavenge goes on from where helpers copied cells of eden first, and what it comes to.
use Rattle.std.specs.Prelude.{◌≡◌, ℕ, ◌+◌, ◌<◌, ◌≤◌, ◌↔◌, ◌⊎◌, Bool, false, List, map, Contains, slice_get}
use Rattle.page_space.specs.Extents.{eden_start, segments_start, roots_start}
use Rattle.nursery.specs.Young.{other_half}
use Rattle.write_barrier.specs.Seats.{heap_words}
use Rattle.write_barrier.specs.MutatorState.{Mutator}
use Rattle.scav_copy.specs.declared.places.Home.{Home}
use Rattle.scav_copy.specs.Places.{Fixed, StoodAt, offsets_of}
use Rattle.scav_copy.specs.Renamings.{RefersToAddress}
use Rattle.scav_copy.specs.Copies.{Copying}
use Rattle.scavenger.specs.declared.progress.Progress.{Progress}
use Rattle.scavenger.specs.Starts.{SegmentCopies, IsBegun, helping_workers, start_with}
use Rattle.scavenger.specs.Filling.{ChangesWords, EndsSegment, FillsSegment, homes_in, words_of_homes}
use Rattle.scavenger.specs.Filling.{words_of_segments}
use Rattle.scavenger.specs.Walking.{Scavenging, at_left}
use Rattle.scavenger.specs.Laws.{IsEnded}
use Rattle.scavenger.specs.Scavenged.{Scavenges, HasHanded}

-- Helpers copied cells of eden, so many words, and the main side took the copies in: words and homes are copying. The
-- copies fill a segment of each helper from its start on, with a 0 behind them. Words outside the young generation,
-- free runs and what is recorded stay. A slot of a copy that refers to one of the cells was left, and each slot that
-- was left is live.
pub record HandsOver (start : Mutator) (handed : List SegmentCopies) (now : Mutator) (left : List ℕ) (many : ℕ)
    : Type 0 where
  pub fixed : Fixed
  pub homes : List Home
  pub begun : IsBegun (start_with start handed) fixed
  pub copying : Copying fixed (heap_words now.seat) homes
  pub workers : map (λ segment. segment.worker) handed ≡ helping_workers start.seat.space
  pub fills : (segment : SegmentCopies) → Contains handed segment
      → FillsSegment start.seat.space (other_half start.young.half) fixed segment
  pub ends : (segment : SegmentCopies) → Contains handed segment
      → EndsSegment start.seat.space (other_half start.young.half) fixed (heap_words now.seat) segment
  pub same : (home : Home) → Contains homes home ↔ Contains (homes_in handed) home
  pub words : words_of_homes fixed homes ≡ words_of_segments fixed handed
  pub counted : many ≡ words_of_segments fixed handed
  pub of_eden : (home : Home) → Contains homes home → home.from < segments_start start.seat.space
  pub outside : (at : ℕ) → (at < eden_start start.seat.space) ⊎ (roots_start start.seat.space ≤ at)
      → slice_get (heap_words now.seat) at ≡ slice_get (heap_words start.seat) at
  pub live : (slot : ℕ) → Contains left slot → (place : ℕ) × StoodAt fixed homes slot place
  pub others : (home : Home) (offset cell : ℕ) → Contains homes home → Contains (offsets_of fixed home.from) offset
      → RefersToAddress (heap_words now.seat) (home.to + offset) cell → Contains fixed.cells cell
      → Contains left (home.to + offset)
  pub changes : ChangesWords start now
  pub free : now.free ≡ start.free
  pub recorded : now.recorded ≡ start.recorded

-- A scavenge goes on, with these of the slots that were left still to do. Each of those is live.
pub record HasLeft (start : Mutator) (handed : List SegmentCopies) (now : Mutator) (all : Bool) (progress : Progress)
    (todo left rest : List ℕ) : Type 0 where
  pub state : Scavenging start handed now all progress todo (at_left start.seat.space rest)
  pub live : (slot : ℕ) → Contains left slot → (place : ℕ) × StoodAt state.fixed state.homes slot place

-- A scavenge has come to its end, in words of its own.
pub record HasEnded (old : Mutator) (handed : List SegmentCopies) (new : Mutator) (all : Bool) : Type 0 where
  pub fixed : Fixed
  pub homes : List Home
  pub words : List ℕ
  pub fill : ℕ
  pub refused : ℕ
  pub ended : IsEnded old handed new all fixed homes words fill refused

-- A scavenge of survivors that helpers began with these copies.
pub record ScavengesFrom (old : Mutator) (handed : List SegmentCopies) (new : Mutator) : Type 0 where
  pub scavenges : Scavenges old new false
  pub homes : HasHanded scavenges handed
