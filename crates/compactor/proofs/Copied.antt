-- One word of a cell is put at its place, and then the next.
use Rattle.std.proofs.Common.{◌≡◌, ◌≢◌, ℕ, ◌+◌, ◌≤◌, ◌<◌, ◌⊎◌, ◌↔◌, inl, inr, List, Contains, Some, length, slice_get}
use Rattle.std.proofs.Common.{slice_set, length-set, refl, sym, ◌∙◌, ap, subst, arith}
use Rattle.std.proofs.lemmas.Bool.{cases_lt}
use Rattle.page_space.specs.Extents.{eden_start, marks_start}
use Rattle.object_graph.proofs.Lists.{slice_get-set_same, slice_get-set_other}
use Rattle.mark_barrier.specs.CycleSteps.{sure_of_target}
use Rattle.write_barrier.specs.Seats.{Seat, RestStays, heap_words}
use Rattle.write_barrier.specs.Staying.{rest_stays_itself, rest_stays_again}
use Rattle.heap_model.specs.Types.{Cell}
use Rattle.heap_model.specs.Remembered.{Touch, IsRecordedBy, RefersToYoung}
use Rattle.heap_model.proofs.RememberedSlots.{refers_to_young_stays}
use Rattle.write_barrier.specs.MutatorState.{Mutator, MayStore, with_slot, with_word}
use Rattle.write_barrier.specs.Recording.{Touches, touched_one}
use Rattle.write_barrier.proofs.TouchedRanges.{touched_here, touched_other}
use Rattle.write_barrier.proofs.Recording.{slot_touch, word_touch}
use Rattle.write_barrier.proofs.SlotCycles.{cycle_idle}
use Rattle.compactor.specs.Tables.{Table, moved_word}
use Rattle.compactor.specs.Copying.{IsSlotAt, IsCopy, StandsCopied, KeepsRest, IsRecordedAt, Copies, CopiesOne}

-- nothing has changed
pub keeps_itself : (main : Mutator) → KeepsRest main main
keeps_itself main = record {
  seat = rest_stays_itself main.seat;
  paths = refl;
  young = refl;
  cycle = refl;
  bound = refl;
}

-- nor has it after two steps
pub keeps_again : {old mid new : Mutator} → KeepsRest old mid → KeepsRest mid new → KeepsRest old new
keeps_again {old} {mid} {new} first then = record {
  seat = rest_stays_again old.seat mid.seat new.seat first.seat then.seat;
  paths = then.paths ∙ first.paths;
  young = then.young ∙ first.young;
  cycle = then.cycle ∙ first.cycle;
  bound = then.bound ∙ first.bound;
}

-- what is recorded of an address that alone was touched
record TouchedAlone (old new : Mutator) (at : ℕ) (how : Touch) : Type 0 where
  here : at < old.recorded.bound → IsRecordedBy old.recorded.bound (heap_words old.seat) (heap_words new.seat)
      old.recorded.slots new.recorded.slots at how
  others : (other : ℕ) → other < old.recorded.bound → other ≢ at
      → Contains new.recorded.slots other ↔ Contains old.recorded.slots other
  beyond : (other : ℕ) → old.recorded.bound ≤ other → Contains new.recorded.slots other
      → Contains old.recorded.slots other

-- where one address was touched, it alone was
touched_alone : {old new : Mutator} (at : ℕ) (how : Touch) → Touches old new (touched_one how at)
    → TouchedAlone old new at how
touched_alone {old} {new} at how touches =
    let Is : ℕ → Touch → Type 0 = λ one touch. IsRecordedBy old.recorded.bound (heap_words old.seat)
    (heap_words new.seat) old.recorded.slots new.recorded.slots one touch in
    record {
      here = λ below. subst (Is at) (touched_here how at) (touches.records.each at below);
      others = λ other below apart.
          let kept : Is other Touch.Kept =
          subst (Is other) (touched_other how at other apart) (touches.records.each other below) in
          kept.1;
      beyond = touches.records.beyond;
    }

-- one word of the table is another
seat_stays : (old new : Seat) (at now : ℕ) → new ≡ record old { table = slice_set old.table at now }
    → RestStays old new
seat_stays old new at now is = record {
  space = ap (λ (seat : Seat). seat.space) is;
  phase = ap (λ (seat : Seat). seat.phase) is;
  count = ap (λ (seat : Seat). length seat.table) is ∙ length-set old.table at now;
  shared = ap (λ (seat : Seat). seat.shared) is;
  home = ap (λ (seat : Seat). seat.home) is;
  out = ap (λ (seat : Seat). seat.out) is;
  lent = ap (λ (seat : Seat). seat.lent) is;
  marks = ap (λ (seat : Seat). seat.marks) is;
}

-- there it stands
stands_there : (words others : List ℕ) (at now : ℕ) → at < length words → others ≡ slice_set words at now
    → slice_get others at ≡ Some now
stands_there words others at now within is =
    ap (λ (all : List ℕ). slice_get all at) is ∙ slice_get-set_same words at now within

-- and no other word has changed
stays_beside : (words others : List ℕ) (at now other : ℕ) → others ≡ slice_set words at now → other ≢ at
    → slice_get others other ≡ slice_get words other
stays_beside words others at now other is apart =
    ap (λ (all : List ℕ). slice_get all other) is ∙ slice_get-set_other words at other now apart

module _ {old new : Mutator} {table : Table} {cell : Cell} {to offset word : ℕ}
    (quiet : MayStore old) (counted : length (heap_words old.seat) ≡ marks_start old.seat.space)
    (within : to + offset < marks_start old.seat.space)
    (read : slice_get (heap_words old.seat) (cell.at + offset) ≡ Some word) where
  -- the word of a slot is put, moved
  pub slot_copied : IsSlotAt cell offset → new ≡ with_slot old (to + offset) (moved_word table word)
      → CopiesOne old new table cell to offset
  slot_copied slot is =
      let at : ℕ = to + offset in
      let now : ℕ = moved_word table word in
      let heap : heap_words new.seat ≡ slice_set (heap_words old.seat) at now =
      ap (λ (main : Mutator). heap_words main.seat) is in
      let touches = subst (λ (main : Mutator). Touches old main (touched_one Touch.Stored at)) (sym is)
      (slot_touch old at now counted within) in
      let alone = touched_alone at Touch.Stored touches in
      record {
        rest = record {
          seat = seat_stays old.seat new.seat at now (ap (λ (main : Mutator). main.seat) is);
          paths = ap (λ (main : Mutator). main.paths) is;
          young = ap (λ (main : Mutator). main.young) is;
          cycle = ap (λ (main : Mutator). main.cycle) is
              ∙ cycle_idle old at (sure_of_target (eden_start old.seat.space) old.cycle now) quiet;
          bound = touches.bound;
        };
        free = touches.free;
        copied = record {
          word = word;
          now = now;
          read = read;
          put = stands_there (heap_words old.seat) (heap_words new.seat) at now (omega (arith, counted, within)) heap;
          is = IsCopy.slot slot refl;
        };
        beside = λ other apart. stays_beside (heap_words old.seat) (heap_words new.seat) at now other heap apart;
        recorded = λ below.
            let here : Contains new.recorded.slots at ↔ RefersToYoung old.recorded.bound (heap_words new.seat) at =
            alone.here below in
            let Refers : ℕ → Type 0 = λ bound. RefersToYoung bound (heap_words new.seat) at in (
              λ there. (slot, subst Refers (sym touches.bound) (here.0 there)),
              λ both. here.1 (subst Refers touches.bound both.1),
            );
        others = alone.others;
        beyond = alone.beyond;
      }

  -- any other word is put as it was
  pub raw_copied : (IsSlotAt cell offset → ⊥) → new ≡ with_word old (to + offset) word
      → CopiesOne old new table cell to offset
  raw_copied raw is =
      let at : ℕ = to + offset in
      let heap : heap_words new.seat ≡ slice_set (heap_words old.seat) at word =
      ap (λ (main : Mutator). heap_words main.seat) is in
      let touches = subst (λ (main : Mutator). Touches old main (touched_one Touch.Wiped at)) (sym is)
      (word_touch old at word within) in
      let alone = touched_alone at Touch.Wiped touches in
      record {
        rest = record {
          seat = seat_stays old.seat new.seat at word (ap (λ (main : Mutator). main.seat) is);
          paths = ap (λ (main : Mutator). main.paths) is;
          young = ap (λ (main : Mutator). main.young) is;
          cycle = ap (λ (main : Mutator). main.cycle) is;
          bound = touches.bound;
        };
        free = touches.free;
        copied = record {
          word = word;
          now = word;
          read = read;
          put = stands_there (heap_words old.seat) (heap_words new.seat) at word (omega (arith, counted, within)) heap;
          is = IsCopy.raw raw refl;
        };
        beside = λ other apart. stays_beside (heap_words old.seat) (heap_words new.seat) at word other heap apart;
        recorded = λ below.
            let none : Contains new.recorded.slots at → ⊥ = alone.here below in
            (λ there. absurd (none there), λ both. absurd (raw both.0));
        others = alone.others;
        beyond = alone.beyond;
      }

-- before the first word nothing is copied
pub none_copied : (main : Mutator) (table : Table) (cell : Cell) (to : ℕ) → Copies main main table cell to 0
none_copied main table cell to = record {
  rest = keeps_itself main;
  free = refl;
  copied = λ offset below. absurd (omega (arith, below));
  beside = λ at out. refl;
  recorded = λ offset below of_page. absurd (omega (arith, below));
  others = λ at below out. (λ there. there, λ there. there);
  beyond = λ at past there. there;
}

module _ {old mid new : Mutator} {table : Table} {cell : Cell} {to count : ℕ}
    (front : to ≤ cell.at) (before : Copies old mid table cell to count) (next : CopiesOne mid new table cell to count)
  where
    -- a word beside the words with one more is beside both
    beside_both : (at : ℕ) → (at < to) ⊎ (to + (count + 1) ≤ at) → ((at < to) ⊎ (to + count ≤ at)) × (at ≢ to + count)
    beside_both at (inl low) = (inl low, λ same. omega (arith, low, same))
    beside_both at (inr high) = (inr (omega (arith, high)), λ same. omega (arith, high, same))

    -- a word that was copied stays
    copied_stays : (offset : ℕ) → offset < count
        → slice_get (heap_words new.seat) (to + offset) ≡ slice_get (heap_words mid.seat) (to + offset)
    copied_stays offset below = next.beside (to + offset) (λ same. omega (arith, below, same))

    -- each word is copied
    each_copied : (offset : ℕ) → offset < count + 1
        → StandsCopied (heap_words old.seat) table cell (heap_words new.seat) to offset
    each_copied offset below = elim (cases_lt offset count) [
      | inl earlier ↦
          let was = before.copied offset earlier in
          record {
            word = was.word;
            now = was.now;
            read = was.read;
            put = copied_stays offset earlier ∙ was.put;
            is = was.is;
          }
      | inr last ↦
          let same : count ≡ offset = omega (arith, below, last) in
          let Stands : ℕ → Type 0 = StandsCopied (heap_words old.seat) table cell (heap_words new.seat) to in
          subst Stands same record {
            word = next.copied.word;
            now = next.copied.now;
            read = sym (before.beside (cell.at + count) (inr (omega (arith, front)))) ∙ next.copied.read;
            put = next.copied.put;
            is = next.copied.is;
          }
    ]

    -- and recorded where it is a slot that refers to a young cell
    each_recorded : (offset : ℕ) → offset < count + 1 → to + offset < old.recorded.bound
        → IsRecordedAt new cell (to + offset) offset
    each_recorded offset below of_page = elim (cases_lt offset count) [
      | inl earlier ↦
          let was = before.recorded offset earlier of_page in
          let kept = next.others (to + offset) (omega (arith, of_page, before.rest.bound))
          (λ same. omega (arith, earlier, same)) in
          let stays = copied_stays offset earlier in
          let Then : ℕ → Type 0 = λ bound. RefersToYoung bound (heap_words mid.seat) (to + offset) in (
            λ there.
                let both = was.0 (kept.0 there) in (
                  both.0,
                  refers_to_young_stays stays (subst Then (sym next.rest.bound) both.1),
                ),
            λ both.
                kept.1 (was.1 (
                  both.0,
                  subst Then next.rest.bound (refers_to_young_stays (sym stays) both.1),
                )),
          )
      | inr last ↦
          let same : count ≡ offset = omega (arith, below, last) in
          subst (λ (one : ℕ). IsRecordedAt new cell (to + one) one) same
          (next.recorded (omega (arith, of_page, same, before.rest.bound)))
    ]

    -- with one word more
    pub copies_more : Copies old new table cell to (count + 1)
    copies_more = record {
      rest = keeps_again before.rest next.rest;
      free = next.free ∙ before.free;
      copied = each_copied;
      beside = λ at out.
          let both = beside_both at out in
          next.beside at both.1 ∙ before.beside at both.0;
      recorded = each_recorded;
      others = λ at below out.
          let both = beside_both at out in
          let last = next.others at (omega (arith, below, before.rest.bound)) both.1 in
          let first = before.others at below both.0 in
          (λ there. first.0 (last.0 there), λ there. last.1 (first.1 there));
      beyond = λ at past there. before.beyond at past (next.beyond at (omega (arith, past, before.rest.bound)) there);
    }
