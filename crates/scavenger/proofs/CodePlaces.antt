-- Where a copy goes: the front of a free run, of which the rest becomes one free cell; and the copy of one cell.
use Rattle.std.proofs.Common.{◌≡◌, ℕ, ◌+◌, ◌-◌, ◌<◌, ◌≤◌, ◌↔◌, ◌⊎◌, inl, inr, List, Contains, length, slice_set}
use Rattle.std.proofs.Common.{sym, ◌∙◌, ap, subst, arith, length-set}
use Rattle.std.proofs.lemmas.Bool.{cases_lt}
use Rattle.tagged_word.specs.declared.word.Class.TheVariants.{Ref}
use Rattle.tagged_word.specs.Words.{bits_of}
use Rattle.page_space.specs.Extents.{marks_start}
use Rattle.word_store.specs.Copies.{copied}
use Rattle.free_runs.specs.FreeRuns.{TakesFront}
use Rattle.remembered_set.specs.Recorded.{Recorded, IsBetween}
use Rattle.write_barrier.specs.Seats.{Seat, RestStays, heap_words}
use Rattle.heap_model.specs.Types.{Cell, Run}
use Rattle.heap_model.specs.Remembered.{Touch, IsRecordedBy}
use Rattle.write_barrier.specs.MutatorState.{Mutator, wiped, forgets, with_word, with_table}
use Rattle.write_barrier.specs.FreeCells.{with_free_cell}
use Rattle.write_barrier.specs.Recording.{Touches, touched}
use Rattle.write_barrier.proofs.FreeCells.{length-free_cell}
use Rattle.write_barrier.proofs.JudgedSlots.{wiped_was, wiped_none, wiped_others}
use Rattle.write_barrier.proofs.TouchedRanges.{touched_inside, touched_outside}
use Rattle.scavenger.specs.Filling.{ChangesWords}
use Rattle.scavenger.specs.Following.{IsFreeAt}
use Rattle.scavenger.specs.Walking.{StandFree, CutsFreeCell, CopiesCell}
use Rattle.scavenger.proofs.PagesRuns.{whole, whole_is, taken_at}

-- the free cell whose first words are taken
pub record FreeOf (main : Mutator) (size : ℕ) (run : Run) : Type 0 where
  pub free : Cell
  pub is : IsFreeAt main.seat.space (heap_words main.seat) free run.at
  pub enough : size ≤ free.size
  pub ends : run.at + free.size ≤ marks_start main.seat.space

-- it stands where the run does
pub free_of : {main : Mutator} {left : List (List Run)} {size : ℕ} {run : Run} → StandFree main
    → TakesFront main.free left size run → length (heap_words main.seat) ≡ marks_start main.seat.space
    → FreeOf main size run
free_of {main} {left} {size} {run} stand takes counted =
    let found = stand (whole takes) (whole_is takes) in
    let begins : run.at ≡ (whole takes).at = taken_at takes in
    record {
      free = found.0;
      is = subst (IsFreeAt main.seat.space (heap_words main.seat) found.0) (sym begins) found.1;
      enough = omega (arith, found.2, takes.takes.enough);
      ends = omega (arith, begins, found.1.stands, found.1.is_cell.reads.there, counted);
    }

-- what is recorded of each address of a page once a range was wiped
pub wiped_range : {old new : Mutator} (from to at : ℕ) → Touches old new (touched Touch.Wiped from to)
    → at < old.recorded.bound
    → Contains new.recorded.slots at ↔ (Contains old.recorded.slots at × ((from ≤ at) × (at < to) → ⊥))
wiped_range {old} {new} from to at touches below =
    let By : Touch → Type 0 = λ touch.
    IsRecordedBy old.recorded.bound (heap_words old.seat) (heap_words new.seat) old.recorded.slots new.recorded.slots
    at touch in
    let each = touches.records.each at below in
    let Says : Type 0 =
    Contains new.recorded.slots at ↔ (Contains old.recorded.slots at × ((from ≤ at) × (at < to) → ⊥)) in
    let beside : (at < from) ⊎ (to ≤ at) → Says = λ outside.
    let stays : By Touch.Kept = subst By (touched_outside Touch.Wiped from to at outside) each in (
      λ there. (
        stays.1.0 there,
        λ inside. elim outside [
          | inl before ↦ omega (arith, before, inside.0)
          | inr behind ↦ omega (arith, behind, inside.1)
        ],
      ),
      λ stood. stays.1.1 stood.0,
    ) in
    elim (cases_lt at from) [
      | inl before ↦ beside (inl before)
      | inr begins ↦ elim (cases_lt at to) [
        | inr behind ↦ beside (inr behind)
        | inl ends ↦
            let none : By Touch.Wiped = subst By (touched_inside Touch.Wiped from to at begins ends) each in (
              λ there. absurd (none there),
              λ stood. absurd (stood.1 (begins, ends)),
            )
      ]
    ]

-- The front of a run was taken, and then the rest made a free cell.
pub run_taken : {old mid new : Mutator} {size : ℕ} {run : Run} (free : Cell) → mid ≡ record old { free = mid.free }
    → TakesFront old.free mid.free size run → size ≤ free.size → RestStays mid.seat new.seat
    → new.paths ≡ mid.paths → new.cycle ≡ mid.cycle → new.young ≡ mid.young
    → heap_words new.seat ≡ with_free_cell (heap_words mid.seat) (run.at + size) (free.size - size)
    → Touches mid new (touched Touch.Wiped (run.at + size) (run.at + size + (free.size - size)))
    → CutsFreeCell old new size run free
run_taken {old} {mid} {new} {size} {run} free is takes enough rest paths cycle young heap touches =
    let from : ℕ = run.at + size in
    let to : ℕ = from + (free.size - size) in
    let ends : to ≡ run.at + free.size = omega (arith, enough) in
    let same : mid.seat ≡ old.seat = ap (λ (main : Mutator). main.seat) is in
    let was : mid.recorded ≡ old.recorded = ap (λ (main : Mutator). main.recorded) is in
    let words : heap_words new.seat ≡ with_free_cell (heap_words old.seat) from (free.size - size) =
    heap ∙ ap (λ (seat : Seat). with_free_cell (heap_words seat) from (free.size - size)) same in
    record {
      changes = record {
        seat = subst (λ (seat : Seat). RestStays seat new.seat) same rest;
        paths = paths ∙ ap (λ (main : Mutator). main.paths) is;
        cycle = cycle ∙ ap (λ (main : Mutator). main.cycle) is;
        young = young ∙ ap (λ (main : Mutator). main.young) is;
        count = ap length words ∙ length-free_cell (heap_words old.seat) from (free.size - size);
        bound = touches.bound ∙ ap (λ (one : Recorded). one.bound) was;
        rows = ap length touches.free ∙ ap length takes.others ∙ length-set old.free takes.page takes.row;
      };
      words = words;
      recorded = λ a below.
          subst (λ (one : Recorded). Contains new.recorded.slots a
          ↔ (Contains one.slots a × ((from ≤ a) × (a < run.at + free.size) → ⊥))) was
          (subst (λ (end : ℕ). Contains new.recorded.slots a
          ↔ (Contains mid.recorded.slots a × ((from ≤ a) × (a < end) → ⊥))) ends
          (wiped_range from to a touches (subst (λ (one : Recorded). a < one.bound) (sym was) below)));
      beyond = λ a above there.
          subst (λ (one : Recorded). Contains one.slots a) was
          (touches.records.beyond a (subst (λ (one : Recorded). one.bound ≤ a) (sym was) above) there);
    }

-- The words of a cell were copied, and then its header was put.
pub cell_copied : {old mid new : Mutator} (cell : Cell) (to word : ℕ)
    → mid ≡ with_table (forgets old to (to + cell.size)) (copied old.seat.table cell.at to cell.size)
    → heap_words mid.seat ≡ copied (heap_words old.seat) cell.at to cell.size
    → new ≡ with_word mid cell.at word → heap_words new.seat ≡ slice_set (heap_words mid.seat) cell.at word
    → word ≡ bits_of (Ref to) → ChangesWords old new → CopiesCell old new cell to
cell_copied {old} {mid} {new} cell to word is heap put put_heap says changes =
    let end : ℕ = to + cell.size in
    let at : ℕ = cell.at in
    let once : mid.recorded ≡ wiped old.recorded to end = ap (λ (main : Mutator). main.recorded) is in
    let twice : new.recorded ≡ wiped mid.recorded at (at + 1) = ap (λ (main : Mutator). main.recorded) put in
    let back : (a : ℕ) → Contains new.recorded.slots a → Contains (wiped old.recorded to end).slots a = λ a there.
    subst (λ (one : Recorded). Contains one.slots a) once
    (wiped_was mid.recorded at (at + 1) a (subst (λ (one : Recorded). Contains one.slots a) twice there)) in
    record {
      changes = changes;
      free = ap (λ (main : Mutator). main.free) put ∙ ap (λ (main : Mutator). main.free) is;
      words = put_heap ∙ ap (λ (value : ℕ). slice_set (heap_words mid.seat) at value) says
          ∙ ap (λ (all : List ℕ). slice_set all at (bits_of (Ref to))) heap;
      recorded = λ a there. wiped_was old.recorded to end a (back a there);
      others = λ a there apart not_header.
          let stays : Contains mid.recorded.slots a =
          subst (λ (one : Recorded). Contains one.slots a) (sym once)
          (wiped_others old.recorded to end a (λ between. apart (between.begins, between.ends)) there) in
          let not_here : ¬ IsBetween at (at + 1) a = λ between.
          not_header (omega (arith, between.begins, between.ends)) in
          subst (λ (one : Recorded). Contains one.slots a) (sym twice)
          (wiped_others mid.recorded at (at + 1) a not_here stays);
      wiped = λ a below from ends there.
          wiped_none old.recorded to end a below (record { begins = from; ends = ends }) (back a there);
    }
