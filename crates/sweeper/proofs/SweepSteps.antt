-- A sweep goes on from one mutator to another: where words become a free cell, and where marked cells are passed by.
use Rattle.std.proofs.Common.{◌≡◌, ℕ, inl, inr, List, [], ◌∷◌, length, refl, sym, ◌∙◌}
use Rattle.std.proofs.Common.{ap, subst, arith}
use Rattle.std.proofs.lemmas.Bool.{cases_lt}
use Rattle.page_space.specs.Extents.{Space}
use Rattle.remembered_set.specs.Recorded.{Recorded}
use Rattle.write_barrier.specs.Seats.{Seat, RestStays, heap_words}
use Rattle.write_barrier.specs.Staying.{rest_stays_itself, rest_stays_again}
use Rattle.heap_model.specs.Types.{Run}
use Rattle.heap_model.specs.Changes.{Patch}
use Rattle.write_barrier.specs.MutatorState.{Mutator, MayStore, heap_of}
use Rattle.sweeper.specs.Sweeping.{AreForgotten, AreRunsOf, Covers, IsBegun, IsCleared, IsSweptTo, Sweeping, page_of}
use Rattle.sweeper.proofs.FreedParts.{DeadPart, gap_of, part_is_swept}
use Rattle.sweeper.proofs.SweptRows.{nothing_swept}
use Rattle.sweeper.proofs.GapRuns.{no_runs, gap_elsewhere, runs_with_gap}
use Rattle.sweeper.proofs.GapRecords.{none_forgotten, forgotten_with_gap}

-- only the mutator runs, as when the sweep began
pub sweep_is_quiet : {first now : Mutator} {marked : List ℕ} {to : ℕ} → IsBegun first → Sweeping first now marked to
    → MayStore now
sweep_is_quiet begun sweeping mark = begun.quiet (sym sweeping.seat.phase ∙ mark)

-- A sweep begins where there are no free runs any more.
pub sweep_begins : (first now : Mutator) (marked : List ℕ) → length first.free ≡ first.seat.space.sizes.pages
    → IsCleared first now → Sweeping first now marked 0
sweep_begins first now marked rows cleared =
    let same = cleared.same in
    let seat : now.seat ≡ first.seat = ap (λ (main : Mutator). main.seat) same in
    let recorded : now.recorded ≡ first.recorded = ap (λ (main : Mutator). main.recorded) same in
    let Swept : Seat → Type 0 = λ one. IsSweptTo (heap_of first) (heap_words one) marked [] 0 in
    let Rests : Seat → Type 0 = λ one. RestStays first.seat one in
    let Forgotten : Recorded → Type 0 = λ one. AreForgotten [] first.recorded one in
    record {
      seat = subst Rests (sym seat) (rest_stays_itself first.seat);
      paths = ap (λ (main : Mutator). main.paths) same;
      cycle = ap (λ (main : Mutator). main.cycle) same;
      young = ap (λ (main : Mutator). main.young) same;
      gaps = [];
      swept = subst Swept (sym seat) (nothing_swept (heap_of first) marked);
      runs = no_runs first.seat.space.sizes.pages now.free (cleared.count ∙ rows) cleared.none;
      recorded = subst Forgotten (sym recorded) (none_forgotten first.recorded);
    }

module _ {first old new : Mutator} {marked : List ℕ} {from to : ℕ} (sweeping : Sweeping first old marked from)
    (part : DeadPart (heap_of first) marked from to) (covers : Covers old new from to) where
  -- the gap that comes
  abbrev its_gap : Patch
  its_gap = gap_of sweeping.swept part

  -- it is one gap more
  abbrev now_gaps : List Patch
  now_gaps = its_gap ∷ sweeping.gaps

  -- there are as many pages as there were
  pages_stay : old.seat.space.sizes.pages ≡ first.seat.space.sizes.pages
  pages_stay = ap (λ (space : Space). space.sizes.pages) sweeping.seat.space

  -- free runs are the gaps of pages
  runs_go_on : AreRunsOf now_gaps first.seat.space.sizes.pages new.free
  runs_go_on =
      let Runs : List (List Run) → Type 0 = AreRunsOf now_gaps first.seat.space.sizes.pages in
      elim (cases_lt (page_of from) first.seat.space.sizes.pages) [
        | inl below ↦
            subst Runs (sym (covers.in_page (omega (arith, below, pages_stay))))
            (runs_with_gap its_gap sweeping.runs below)
        | inr beyond ↦
            subst Runs (sym (covers.beside (omega (arith, beyond, pages_stay))))
            (gap_elsewhere its_gap sweeping.runs beyond)
      ]

  -- Where a part of a row became a free cell, the sweep has come to its end.
  pub sweep_covers : Sweeping first new marked to
  sweep_covers =
      let Swept : List ℕ → Type 0 = λ words. IsSweptTo (heap_of first) words marked now_gaps to in
      record {
        seat = rest_stays_again first.seat old.seat new.seat sweeping.seat covers.seat;
        paths = covers.paths ∙ sweeping.paths;
        cycle = covers.cycle ∙ sweeping.cycle;
        young = covers.young ∙ sweeping.young;
        gaps = now_gaps;
        swept = subst Swept (sym covers.words) (part_is_swept sweeping.swept part);
        runs = runs_go_on;
        recorded = forgotten_with_gap its_gap sweeping.recorded covers.bound covers.records;
      }

-- where more of the same words is swept, the sweep has come further
abbrev pub sweep_further : {first now : Mutator} {marked : List ℕ} {to : ℕ} (later : ℕ)
    (sweeping : Sweeping first now marked to)
    → IsSweptTo (heap_of first) (heap_words now.seat) marked sweeping.gaps later → Sweeping first now marked later
sweep_further later sweeping swept = record {
  seat = sweeping.seat;
  paths = sweeping.paths;
  cycle = sweeping.cycle;
  young = sweeping.young;
  gaps = sweeping.gaps;
  swept = swept;
  runs = sweeping.runs;
  recorded = sweeping.recorded;
}
