-- A run is granted: what take and grant make of the words, of what is recorded and of the free runs.
use Rattle.std.proofs.Common.{◌≡◌, ℕ, ◌+◌, ◌-◌, ◌<◌, ◌≤◌, inl, inr, List, Contains, slice_get}
use Rattle.std.proofs.Common.{sym, ◌∙◌, ap, subst, arith}
use Rattle.std.proofs.lemmas.Bool.{cases_lt}
use Rattle.std.proofs.lemmas.List.Elements.{All-contains}
use Rattle.object_graph.specs.Graphs.{Graph}
use Rattle.page_space.specs.Extents.{eden_start}
use Rattle.nursery.specs.Young.{Young, with_granted}
use Rattle.cell_layout.proofs.OneCell.{one_cell}
use Rattle.free_runs.specs.FreeRuns.{AreFree, AreShort, FitsNowhere, TakesFront}
use Rattle.write_barrier.specs.Seats.{RestStays, heap_words}
use Rattle.write_barrier.specs.Staying.{rest_stays_again}
use Rattle.heap_model.specs.Types.{Cell, Run}
use Rattle.heap_model.specs.Heaps.{HasCell}
use Rattle.heap_model.specs.Remembered.{Touch}
use Rattle.heap_model.proofs.CellsApart.{has_is_cell}
use Rattle.heap_model.proofs.RememberedSlots.{page_slot_below}
use Rattle.write_barrier.specs.MutatorState.{Mutator, MayStore, MainShows, heap_of}
use Rattle.write_barrier.specs.FreeCells.{with_free_cell, with_fillers}
use Rattle.write_barrier.specs.Recording.{Touches, touched}
use Rattle.scavenger.specs.Following.{IsFreeAt}
use Rattle.scavenger.specs.Walking.{StandFree, CutsFreeCell}
use Rattle.scavenger.specs.Granting.{Grants, granted_words}
use Rattle.scavenger.proofs.CodePlaces.{wiped_range}
use Rattle.scavenger.proofs.PagesRuns.{whole, whole_is, taken_at, taken_words}
use Rattle.scavenger.proofs.GrantedWords.{Granting, in_page, after_free}
use Rattle.scavenger.proofs.GrantedCells.{granted, cell_stays, cell_from, outside_stays}
use Rattle.scavenger.proofs.GrantedRecords.{slot_apart}
use Rattle.scavenger.proofs.Granted.{may_grant}

-- each free run of a heap that shows a graph is a free cell
pub stand_free : (main : Mutator) (graph : Graph) → MainShows main graph → StandFree main
stand_free main graph shows run is =
    let one = shows.free is.row run is.of_rows is.among in
    (one.cell, record { is_cell = has_is_cell one.has; stands = one.stands; is_free = one.free }, one.size)

-- where words were taken, so many fit somewhere
pub fits_somewhere : {rows left : List (List Run)} {n : ℕ} {taken : Run} → TakesFront rows left n taken
    → FitsNowhere rows n → ⊥
fits_somewhere {rows} {left} {n} takes nowhere =
    let is = whole_is takes in
    let short = All-contains (λ (row : List Run). AreShort row n) rows is.row nowhere is.of_rows in
    let less = All-contains (λ (run : Run). run.words < n) is.row (whole takes) short is.among in
    omega (arith, less, takes.takes.enough)

-- what is granted ends where eden begins, or before
pub grants_in_page : {main : Mutator} {graph : Graph} {left : List (List Run)} {n : ℕ} {run : Run}
    → MainShows main graph → 1 ≤ n → TakesFront main.free left n run → run.at + n ≤ eden_start main.seat.space
grants_in_page shows some takes =
    let granting = may_grant shows some takes in
    omega (arith, in_page granting, granting.enough, taken_at takes)

module _ {old mid new : Mutator} {graph : Graph} {n : ℕ} {run : Run} {free : Cell} (shows : MainShows old graph)
    (quiet : MayStore old) (some : 1 ≤ n) (own : AreFree old.free) (takes : TakesFront old.free mid.free n run)
    (is_free : IsFreeAt old.seat.space (heap_words old.seat) free run.at) (taken : CutsFreeCell old mid n run free)
    (young : new.young ≡ with_granted mid.young run)
    (heap : heap_words new.seat ≡ with_fillers (heap_words mid.seat) run.at run.words)
    (beside : RestStays mid.seat new.seat) (paths : new.paths ≡ mid.paths) (cycle : new.cycle ≡ mid.cycle)
    (touches : Touches mid new (touched Touch.Wiped run.at (run.at + run.words))) where
  -- the run of which words are granted
  abbrev one : Run
  one = whole takes

  -- they may be
  abbrev granting : Granting (heap_of old) one n
  granting = may_grant shows some takes

  -- the free cell is that run
  size_is : free.size ≡ one.words
  size_is =
      let stood = granting.free in
      let same : free ≡ stood.cell =
      one_cell old.seat.space (heap_words old.seat) free stood.cell is_free.is_cell (has_is_cell stood.has)
      (is_free.stands ∙ taken_at takes ∙ sym stood.stands) in
      ap (λ (cell : Cell). cell.size) same ∙ stood.size

  -- the words are those with fillers and one free cell
  words_are : heap_words new.seat ≡ granted_words (heap_words old.seat) one n
  words_are =
      let put : ℕ → ℕ → ℕ → List ℕ = λ at many size.
      with_fillers (with_free_cell (heap_words old.seat) (at + n) (size - n)) at many in
      heap ∙ ap (λ words. with_fillers words run.at run.words) taken.words
      ∙ ap (λ many. put run.at many free.size) (taken_words takes)
      ∙ ap (λ at. put at n free.size) (taken_at takes)
      ∙ ap (λ size. put one.at n size) size_is

  -- the first words of the run are taken of what was free
  abbrev takes_all : TakesFront old.free new.free n run
  takes_all = record {
    page = takes.page;
    row = takes.row;
    there = takes.there;
    takes = takes.takes;
    others = touches.free ∙ takes.others;
  }

  -- everything but the words stays
  rest_stays : RestStays old.seat new.seat
  rest_stays = rest_stays_again old.seat mid.seat new.seat taken.changes.seat beside

  -- the young generation is the same, but for what is granted
  young_is : new.young ≡ with_granted old.young run
  young_is = young ∙ ap (λ (one : Young). with_granted one run) taken.changes.young

  -- the heap of afterwards
  heap_is : heap_of new ≡ granted granting
  heap_is = λ i. record {
    space = rest_stays.space i;
    used = ap (λ (one : Young). one.used) young_is i;
    survivors = ap (λ (one : Young). one.survivors) young_is i;
    paths = (paths ∙ taken.changes.paths) i;
    words = words_are i;
  }

  -- what is recorded was
  recorded_was : (at : ℕ) → Contains new.recorded.slots at → Contains old.recorded.slots at
  recorded_was at there = elim (cases_lt at old.recorded.bound) [
    | inl below ↦
        let before = ((wiped_range run.at (run.at + run.words) at touches
        (omega (arith, below, taken.changes.bound))).0 there).0 in
        ((taken.recorded at below).0 before).0
    | inr above ↦
        taken.beyond at above (touches.records.beyond at (omega (arith, above, taken.changes.bound)) there)
  ]

  -- and what was is
  recorded_stays : (at : ℕ) → Contains old.recorded.slots at → Contains new.recorded.slots at
  recorded_stays at there =
      let slot = ((shows.remembered at).0 there).0 in
      let below : at < old.recorded.bound = omega (arith, page_slot_below slot, shows.bounded) in
      let apart : (run.at ≤ at) → (at < run.at + free.size) → ⊥ = λ above before.
      slot_apart granting slot.slot.offset slot.has slot.slot.visited
      (omega (arith, above, taken_at takes, slot.slot.stands))
      (omega (arith, before, taken_at takes, size_is, slot.slot.stands)) in
      let then = (taken.recorded at below).1
      (there, λ inside. apart (omega (arith, inside.0)) inside.1) in
      (wiped_range run.at (run.at + run.words) at touches (omega (arith, below, taken.changes.bound))).1 (
        then,
        λ inside. apart inside.0
            (omega (arith, inside.1, taken_words takes, takes.takes.enough, size_is)),
      )

  -- so it is granted
  pub run_granted : Grants old new n
  run_granted = record {
    run = run;
    some = some;
    quiet = quiet;
    own = own;
    takes = takes_all;
    young = young_is;
    beside = rest_stays;
    paths = paths ∙ taken.changes.paths;
    cycle = cycle ∙ taken.changes.cycle;
    bound = touches.bound ∙ taken.changes.bound;
    recorded = λ at. (recorded_was at, recorded_stays at);
    words = words_are;
    kept = λ cell words has apart.
        subst (λ heap. HasCell heap cell words) (sym heap_is)
        (cell_stays granting has (λ same. apart (same ∙ sym (taken_at takes))));
    back = λ cell words has.
        elim (cell_from granting (subst (λ heap. HasCell heap cell words) heap_is has)) [
          | inl was ↦ inl (was.0, λ same. was.1 (same ∙ taken_at takes))
          | inr came ↦ inr (after_free granting cell came).0
        ];
    outside = λ at above.
        ap (λ words. slice_get words at) words_are ∙ outside_stays granting at above;
  }
