-- How the recorded addresses are touched where the mutator puts words and forgets them.
use Rattle.std.proofs.Common.{◌≡◌, ◌≢◌, ℕ, ◌+◌, ◌<◌, ◌≤◌, ◌⊎◌, ◌↔◌, inl, inr, true, false, List, Contains}
use Rattle.std.proofs.Common.{Some, length, slice_get, refl, sym, ◌∙◌, ap, subst, arith}
use Rattle.std.proofs.lemmas.Bool.{cases_lt, cases_eq, false≢true}
use Rattle.std.proofs.lemmas.Option.{same_Some}
use Rattle.tagged_word.specs.Readings.{reference_in}
use Rattle.page_space.specs.Extents.{eden_start, marks_start}
use Rattle.object_graph.proofs.Lists.{slice_get-set_same, slice_get-set_other}
use Rattle.remembered_set.specs.Recorded.{Recorded, IsBetween}
use Rattle.write_barrier.specs.Seats.{heap_words}
use Rattle.heap_model.specs.Types.{Cell}
use Rattle.heap_model.specs.Wholeness.{HasRows, Whole}
use Rattle.heap_model.specs.Changes.{CellsChange}
use Rattle.heap_model.specs.Remembered.{RefersToYoung, AreRemembered, Touch, IsRecordedBy, Records}
use Rattle.heap_model.proofs.RememberedStays.{changes_stay_remembered}
use Rattle.write_barrier.specs.MutatorState.{Mutator, heap_of, put_word, wiped, forgets, is_young}
use Rattle.write_barrier.specs.MutatorState.{with_word, with_slot, judged}
use Rattle.write_barrier.specs.Recording.{Touches, untouched, touched, touched_one, touched_again, touched_then}
use Rattle.write_barrier.specs.Recording.{Remembers}
use Rattle.write_barrier.proofs.SlotCycles.{young_slot}
use Rattle.write_barrier.proofs.JudgedSlots.{wiped_behind, wiped_bound, wiped_was, wiped_none, wiped_others}
use Rattle.write_barrier.proofs.TouchedRanges.{touched_inside, touched_outside, touched_here, touched_other}
use Rattle.write_barrier.proofs.JudgedSlots.{JudgesOne, told_young, young_there, judges_one}

-- where words of pages, their free runs and the record are the same, nothing was touched
pub same_touch : (old new : Mutator) → new.free ≡ old.free → new.recorded ≡ old.recorded
    → ((at : ℕ) → at < old.recorded.bound
    → slice_get (heap_words new.seat) at ≡ slice_get (heap_words old.seat) at)
    → Touches old new untouched
same_touch old new free recorded words =
    let there : (at : ℕ) → Contains new.recorded.slots at → Contains old.recorded.slots at =
    λ at. subst (λ (one : Recorded). Contains one.slots at) recorded in
    let back : (at : ℕ) → Contains old.recorded.slots at → Contains new.recorded.slots at =
    λ at. subst (λ (one : Recorded). Contains one.slots at) (sym recorded) in
    record {
      free = free;
      bound = ap (λ (one : Recorded). one.bound) recorded;
      records = record {
        each = λ at below. (words at below, (there at, back at));
        beyond = λ at behind. there at;
      };
    }

-- where nothing has changed, nothing was touched
pub no_touch : (main : Mutator) → Touches main main untouched
no_touch main = same_touch main main refl refl (λ at below. refl)

-- addresses of pages may be touched as another function says it
pub touch_alike : {old new : Mutator} {touch other : ℕ → Touch}
    → ((at : ℕ) → at < old.recorded.bound → touch at ≡ other at) → Touches old new touch → Touches old new other
touch_alike {old} {new} {touch} {other} alike touches = record {
  free = touches.free;
  bound = touches.bound;
  records = record {
    each = λ at below. subst (IsRecordedBy old.recorded.bound (heap_words old.seat) (heap_words new.seat)
        old.recorded.slots new.recorded.slots at) (alike at below) (touches.records.each at below);
    beyond = touches.records.beyond;
  };
}

-- nothing of pages is touched behind them
pub behind_touch : {old new : Mutator} (how : Touch) (from to : ℕ) → old.recorded.bound ≤ from
    → Touches old new untouched → Touches old new (touched how from to)
behind_touch {old} how from to behind touches =
    touch_alike (λ at below. sym (touched_outside how from to at (inl (omega (arith, below, behind))))) touches

-- a word refers to a young cell where it is the same word
refers_alike : (eden at : ℕ) (words others : List ℕ) → slice_get others at ≡ slice_get words at
    → RefersToYoung eden words at → RefersToYoung eden others at
refers_alike eden at words others same refers = record {
  word = refers.word;
  stands = same ∙ refers.stands;
  cell = refers.cell;
  refers = refers.refers;
  young = refers.young;
}

-- an address that was touched, and then again
recorded_again : (eden : ℕ) (old mid new were between are : List ℕ) (at : ℕ) (first next : Touch)
    → IsRecordedBy eden old mid were between at first → IsRecordedBy eden mid new between are at next
    → IsRecordedBy eden old new were are at (touched_again first next)
recorded_again eden old mid new were between are at Touch.Kept Touch.Kept one two =
    (two.0 ∙ one.0, (λ there. one.1.0 (two.1.0 there), λ stood. two.1.1 (one.1.1 stood)))
recorded_again eden old mid new were between are at Touch.Stored Touch.Kept one two = (
  λ there. refers_alike eden at mid new two.0 (one.0 (two.1.0 there)),
  λ refers. two.1.1 (one.1 (refers_alike eden at new mid (sym two.0) refers)),
)
recorded_again eden old mid new were between are at Touch.Wiped Touch.Kept one two = λ there. one (two.1.0 there)
recorded_again eden old mid new were between are at first Touch.Stored one two = two
recorded_again eden old mid new were between are at first Touch.Wiped one two = two

-- what was touched and then touched again
pub then_touch : {old mid new : Mutator} {first next : ℕ → Touch} → Touches old mid first → Touches mid new next
    → Touches old new (touched_then first next)
then_touch {old} {mid} {new} {first} {next} one two =
    let later : Records old.recorded.bound (heap_words mid.seat) (heap_words new.seat) mid.recorded.slots
    new.recorded.slots next =
    subst (λ (eden : ℕ). Records eden (heap_words mid.seat) (heap_words new.seat) mid.recorded.slots
    new.recorded.slots next) one.bound two.records in
    record {
      free = two.free ∙ one.free;
      bound = two.bound ∙ one.bound;
      records = record {
        each = λ at below. recorded_again old.recorded.bound (heap_words old.seat) (heap_words mid.seat)
            (heap_words new.seat) old.recorded.slots mid.recorded.slots new.recorded.slots at (first at) (next at)
            (one.records.each at below) (later.each at below);
        beyond = λ at behind there. one.records.beyond at behind (later.beyond at behind there);
      };
    }

-- where words of a range are forgotten and no others of pages change, the range was wiped
pub wiped_touch : (old new : Mutator) (from to : ℕ) → new.free ≡ old.free → new.recorded ≡ wiped old.recorded from to
    → ((at : ℕ) → at < old.recorded.bound → (at < from) ⊎ (to ≤ at)
    → slice_get (heap_words new.seat) at ≡ slice_get (heap_words old.seat) at)
    → Touches old new (touched Touch.Wiped from to)
wiped_touch old new from to free is words =
    let eden = old.recorded.bound in
    let By : ℕ → Touch → Type 0 = λ at touch. IsRecordedBy eden (heap_words old.seat) (heap_words new.seat)
    old.recorded.slots new.recorded.slots at touch in
    let there : (at : ℕ) → Contains new.recorded.slots at → Contains (wiped old.recorded from to).slots at =
    λ at. subst (λ (one : Recorded). Contains one.slots at) is in
    let back : (at : ℕ) → Contains (wiped old.recorded from to).slots at → Contains new.recorded.slots at =
    λ at. subst (λ (one : Recorded). Contains one.slots at) (sym is) in
    let beside : (at : ℕ) → at < eden → (at < from) ⊎ (to ≤ at) → ¬ IsBetween from to at
    → By at (touched Touch.Wiped from to at) =
    λ at below out outside. subst (By at) (sym (touched_outside Touch.Wiped from to at out)) (
      words at below out,
      (
        λ stands. wiped_was old.recorded from to at (there at stands),
        λ stood. back at (wiped_others old.recorded from to at outside stood),
      ),
    ) in
    record {
      free = free;
      bound = ap (λ (one : Recorded). one.bound) is ∙ wiped_bound old.recorded from to;
      records = record {
        each = λ at below. elim (cases_lt at from) [
          | inl before ↦ beside at below (inl before)
              (λ between. let begins : from ≤ at = between.begins in absurd (omega (arith, begins, before)))
          | inr begins ↦ elim (cases_lt at to) [
            | inl ends ↦ subst (By at) (sym (touched_inside Touch.Wiped from to at begins ends))
                (λ stands. wiped_none old.recorded from to at below (record { begins = begins; ends = ends })
                (there at stands))
            | inr past ↦ beside at below (inr past)
                (λ between. let ends : at < to = between.ends in absurd (omega (arith, ends, past)))
          ]
        ];
        beyond = λ at behind stands. wiped_was old.recorded from to at (there at stands);
      };
    }

-- words that are forgotten are wiped
pub forget_touch : (main : Mutator) (from to : ℕ) → Touches main (forgets main from to) (touched Touch.Wiped from to)
forget_touch main from to = wiped_touch main (forgets main from to) from to refl refl (λ at below out. refl)

-- one word that is put changes no other word before the marks
put_other : (main : Mutator) (at word other : ℕ) → at < marks_start main.seat.space → other ≢ at
    → slice_get (heap_words (put_word main at word).seat) other ≡ slice_get (heap_words main.seat) other
put_other main at word other before apart =
    slice_get-set_other (heap_words main.seat) at other word apart

-- a word that is no slot's wipes its address
pub word_touch : (main : Mutator) (at word : ℕ) → at < marks_start main.seat.space
    → Touches main (with_word main at word) (touched_one Touch.Wiped at)
word_touch main at word before =
    wiped_touch main (with_word main at word) at (at + 1) refl refl
    (λ other below out.
    let apart : other ≢ at =
    elim out [
      | inl low ↦ λ same. absurd (omega (arith, low, same))
      | inr high ↦ λ same. absurd (omega (arith, high, same))
    ] in
    put_other main at word other before apart)

-- a word of the young generation touches nothing
pub young_touch : (main : Mutator) (at word : ℕ) → main.recorded.bound ≤ at → at < marks_start main.seat.space
    → Touches main (put_word main at word) untouched
young_touch main at word behind before =
    same_touch main (put_word main at word) refl refl
    (λ other below.
    let apart : other ≢ at = λ same. omega (arith, below, behind, same) in
    put_other main at word other before apart)

-- nothing is forgotten behind all pages
pub young_forgets : (main : Mutator) (from to : ℕ) → main.recorded.bound ≤ from → forgets main from to ≡ main
young_forgets main from to behind =
    ap (λ (one : Recorded). let made : Mutator = record main { recorded = one } in made)
    (wiped_behind main.recorded from to behind)

-- a word of the young generation is put alone
pub young_word : (main : Mutator) (at word : ℕ) → main.recorded.bound ≤ at
    → with_word main at word ≡ put_word main at word
young_word main at word behind =
    ap (λ (one : Mutator). put_word one at word) (young_forgets main at (at + 1) behind)

-- the word that a slot has now refers to a young cell exactly where the test says so
pub refers_as_told : (eden at word : ℕ) (words : List ℕ) → slice_get words at ≡ Some word
    → (is_young eden (reference_in word) ≡ true) ↔ RefersToYoung eden words at
refers_as_told eden at word words stands = (
  λ young.
      let found = young_there eden (reference_in word) young in
      record {
        word = word;
        stands = stands;
        cell = found.0;
        refers = found.1;
        young = (told_young eden (reference_in word) found.0 found.1).0 young;
      },
  λ refers.
      let same : word ≡ refers.word = same_Some word refers.word (sym stands ∙ refers.stands) in
      let found : reference_in word ≡ Some refers.cell = ap reference_in same ∙ refers.refers in
      (told_young eden (reference_in word) refers.cell found).1 refers.young,
)

-- where the word at an address of a page was judged, and no other word has changed, it was stored there
pub judged_touch : (main new : Mutator) (at word : ℕ) → at < main.recorded.bound → new.free ≡ main.free
    → new.recorded ≡ judged main.recorded at word → slice_get (heap_words new.seat) at ≡ Some word
    → ((other : ℕ) → other ≢ at → slice_get (heap_words new.seat) other ≡ slice_get (heap_words main.seat) other)
    → Touches main new (touched_one Touch.Stored at)
judged_touch main new at word of_page free is stands others =
    let eden = main.recorded.bound in
    let judges = subst (λ (one : Recorded). JudgesOne main.recorded one at
    (is_young eden (reference_in word) ≡ true)) (sym is) (judges_one main.recorded at word of_page) in
    let By : ℕ → Touch → Type 0 = λ other touch. IsRecordedBy eden (heap_words main.seat) (heap_words new.seat)
    main.recorded.slots new.recorded.slots other touch in
    let told = refers_as_told eden at word (heap_words new.seat) stands in
    let here : By at Touch.Stored =
    (λ there. told.0 (judges.here.0 there), λ refers. judges.here.1 (told.1 refers)) in
    record {
      free = free;
      bound = judges.bound;
      records = record {
        each = λ other below. elim (cases_eq other at) [
          | inl same ↦ subst (λ (one : ℕ). By one (touched_one Touch.Stored at one)) (sym same)
              (subst (By at) (sym (touched_here Touch.Stored at)) here)
          | inr apart ↦ subst (By other) (sym (touched_other Touch.Stored at other apart))
              (others other apart, judges.others other apart)
        ];
        beyond = λ other behind there.
            let apart : other ≢ at = λ same. omega (arith, same, behind, of_page) in
            (judges.others other apart).0 there;
      };
    }

-- a word of a page that refers to no young cell, and is not recorded, needs no judgement
pub unjudged_touch : (main : Mutator) (at word : ℕ) → slice_get (heap_words main.seat) at ≡ Some word
    → is_young main.recorded.bound (reference_in word) ≡ false → (Contains main.recorded.slots at → ⊥)
    → Touches main main (touched_one Touch.Stored at)
unjudged_touch main at word stands none out =
    let eden = main.recorded.bound in
    let By : ℕ → Touch → Type 0 = λ other touch. IsRecordedBy eden (heap_words main.seat) (heap_words main.seat)
    main.recorded.slots main.recorded.slots other touch in
    let told = refers_as_told eden at word (heap_words main.seat) stands in
    let here : By at Touch.Stored =
    (λ there. absurd (out there), λ refers. absurd (false≢true (sym none ∙ told.1 refers))) in
    record {
      free = refl;
      bound = refl;
      records = record {
        each = λ other below. elim (cases_eq other at) [
          | inl same ↦ subst (λ (one : ℕ). By one (touched_one Touch.Stored at one)) (sym same)
              (subst (By at) (sym (touched_here Touch.Stored at)) here)
          | inr apart ↦ subst (By other) (sym (touched_other Touch.Stored at other apart))
              (refl, (λ there. there, λ there. there))
        ];
        beyond = λ other behind there. there;
      };
    }

-- the word of a slot of a page is stored there
page_slot_touch : (main : Mutator) (at word : ℕ) → length (heap_words main.seat) ≡ marks_start main.seat.space
    → at < marks_start main.seat.space → at < main.recorded.bound
    → Touches main (with_slot main at word) (touched_one Touch.Stored at)
page_slot_touch main at word counted before of_page =
    judged_touch main (with_slot main at word) at word of_page refl refl
    (slice_get-set_same (heap_words main.seat) at word (omega (arith, counted, before)))
    (λ other apart. put_other main at word other before apart)

-- the word of a slot is stored there
pub slot_touch : (main : Mutator) (at word : ℕ) → length (heap_words main.seat) ≡ marks_start main.seat.space
    → at < marks_start main.seat.space → Touches main (with_slot main at word) (touched_one Touch.Stored at)
slot_touch main at word counted before =
    elim (cases_lt at main.recorded.bound) [
      | inl of_page ↦ page_slot_touch main at word counted before of_page
      | inr behind ↦ behind_touch Touch.Stored at (at + 1) behind
          (subst (λ (new : Mutator). Touches main new untouched) (sym (young_slot main at word behind))
          (young_touch main at word behind before))
    ]

-- where a change of cells is remembered, recorded are the slots of pages that refer to young cells
pub remembers_heap : (old new : Mutator) (gone came made : List Cell) → Remembers old new gone came made
    → old.recorded.bound ≡ eden_start old.seat.space → Whole (heap_of old) → HasRows (heap_of new)
    → CellsChange (heap_of old) (heap_of new) gone came made
    → AreRemembered (heap_of old) old.recorded.slots → AreRemembered (heap_of new) new.recorded.slots
remembers_heap old new gone came made remembers bounded whole rows change were =
    changes_stay_remembered (heap_of old) (heap_of new) gone came made old.recorded.slots new.recorded.slots
    remembers.touch whole rows change
    (subst (λ (eden : ℕ). Records eden (heap_words old.seat) (heap_words new.seat) old.recorded.slots
    new.recorded.slots remembers.touch) bounded remembers.touches.records)
    remembers.cells were
