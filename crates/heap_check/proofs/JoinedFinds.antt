-- What is found of a part of a heap, what of two parts together, and what along a span of words.
use Rattle.std.proofs.Common.{◌≡◌, ℕ, ◌+◌, ◌-◌, ◌≤◌, ◌<◌, ◌⊎◌, inl, inr, List, Option, Some, None, slice_get}
use Rattle.std.proofs.Common.{length, get_or, refl, sym, ◌∙◌, ap, subst, arith}
use Rattle.std.proofs.lemmas.Bool.{cases_lt}
use Rattle.std.proofs.lemmas.Bool.Decides.{nat_tests}
use Rattle.std.proofs.lemmas.Option.{slice_get_within, slice_get-get_or, get_or_from_slice_get}
use Rattle.std.specs.Prelude.{nat_lt, true, false, if◌then◌else◌}
use Rattle.heap_model.specs.Heaps.{Heap}
use Rattle.image_walk.specs.declared.spans.Span.{Span}
use Rattle.image_walk.specs.Spans.{EachWord, WordAt, span_words}
use Rattle.image_walk.proofs.EachSlot.{each_more}
use Rattle.image_walk.proofs.SpanWords.{slice_get-slice_range, length-slice_range, each_from}
use Rattle.heap_check.specs.declared.flaw.Flaw.{Flaw}
use Rattle.heap_check.specs.Firsts.{IsFirst, IsVerdict, earlier_of, earlier_flaw_of}
use Rattle.heap_check.specs.SpanFlaws.{BreaksSpan, BreaksWord}
use Rattle.heap_check.proofs.FirstBreaches.{breaks_there}

-- each breach of the one part is a breach of the other
abbrev pub Includes : (ℕ → ℕ → ℕ → Type 0) → (ℕ → ℕ → ℕ → Type 0) → Type 0
Includes One Other = (at found wanted : ℕ) → One at found wanted → Other at found wanted

-- no breach of the part is there where the part is as it should be
abbrev pub Excludes : (ℕ → ℕ → ℕ → Type 0) → Type 0 → Type 0
Excludes Breaks Sound = (at found wanted : ℕ) → Breaks at found wanted → Sound → ⊥

-- no breach of the part has an address below
abbrev pub NoneBelow : (ℕ → ℕ → ℕ → Type 0) → ℕ → Type 0
NoneBelow Breaks least = (at found wanted : ℕ) → Breaks at found wanted → least ≤ at

-- what is first of one part is first of another with the same breaches
pub first_of_same : (One Other : ℕ → ℕ → ℕ → Type 0) (flaw : Flaw) → Includes One Other → Includes Other One
    → IsFirst One flaw → IsFirst Other flaw
first_of_same One Other flaw to from is = record {
  breaks = to flaw.at flaw.found flaw.wanted is.breaks;
  first = λ at found wanted breaks. is.first at found wanted (from at found wanted breaks);
}

-- so is what is found
pub finds_same : (Sound Whole : Type 0) (One Other : ℕ → ℕ → ℕ → Type 0) (found : Option Flaw) → (Sound → Whole)
    → Includes One Other → Includes Other One → IsVerdict Sound One found → IsVerdict Whole Other found
finds_same Sound Whole One Other None whole to from finds = whole finds
finds_same Sound Whole One Other (Some flaw) whole to from finds = first_of_same One Other flaw to from finds

-- two parts make up a third: it is as it should be where both are, and has the breaches of both and no other
pub record MakesUp (One Other Both : Type 0) (BreaksOne BreaksOther BreaksBoth : ℕ → ℕ → ℕ → Type 0) : Type 0 where
  pub both : One → Other → Both
  pub of_one : Includes BreaksOne BreaksBoth
  pub of_other : Includes BreaksOther BreaksBoth
  pub only : (at found wanted : ℕ) → BreaksBoth at found wanted
      → BreaksOne at found wanted ⊎ BreaksOther at found wanted
  pub not_one : Excludes BreaksOne One
  pub not_other : Excludes BreaksOther Other

-- of two first breaches of both parts the earlier is the first of both
pub earlier_first : (One Other Both : Type 0) (BreaksOne BreaksOther BreaksBoth : ℕ → ℕ → ℕ → Type 0)
    (flaw next : Flaw) → MakesUp One Other Both BreaksOne BreaksOther BreaksBoth → IsFirst BreaksOne flaw
    → IsFirst BreaksOther next
    → IsFirst BreaksBoth (earlier_flaw_of flaw (Some next))
earlier_first One Other Both BreaksOne BreaksOther BreaksBoth flaw next up is also = elim (cases_lt next.at flaw.at) [
  | inl less ↦
      let test : nat_lt next.at flaw.at ≡ true = grind (arith, nat_tests) in
      let chosen : earlier_flaw_of flaw (Some next) ≡ next = ap (λ b. if b then next else flaw) test in
      let first : IsFirst BreaksBoth next = record {
        breaks = up.of_other next.at next.found next.wanted also.breaks;
        first = λ at found wanted breaks. elim (up.only at found wanted breaks) [
          | inl one ↦ omega (arith, is.first at found wanted one)
          | inr other ↦ also.first at found wanted other
        ];
      } in
      subst (IsFirst BreaksBoth) (sym chosen) first
  | inr more ↦
      let test : nat_lt next.at flaw.at ≡ false = grind (arith, nat_tests) in
      let chosen : earlier_flaw_of flaw (Some next) ≡ flaw = ap (λ b. if b then next else flaw) test in
      let first : IsFirst BreaksBoth flaw = record {
        breaks = up.of_one flaw.at flaw.found flaw.wanted is.breaks;
        first = λ at found wanted breaks. elim (up.only at found wanted breaks) [
          | inl one ↦ is.first at found wanted one
          | inr other ↦ omega (arith, also.first at found wanted other)
        ];
      } in
      subst (IsFirst BreaksBoth) (sym chosen) first
]

-- of what is found in two parts the earlier is what is found in both
pub joined_finds : (One Other Both : Type 0) (BreaksOne BreaksOther BreaksBoth : ℕ → ℕ → ℕ → Type 0)
    (one other : Option Flaw) → MakesUp One Other Both BreaksOne BreaksOther BreaksBoth → IsVerdict One BreaksOne one
    → IsVerdict Other BreaksOther other
    → IsVerdict Both BreaksBoth (earlier_of one other)
joined_finds One Other Both BreaksOne BreaksOther BreaksBoth None None up is also = up.both is also
joined_finds One Other Both BreaksOne BreaksOther BreaksBoth None (Some next) up is also = record {
  breaks = up.of_other next.at next.found next.wanted also.breaks;
  first = λ at found wanted breaks. elim (up.only at found wanted breaks) [
    | inl one ↦ absurd (up.not_one at found wanted one is)
    | inr other ↦ also.first at found wanted other
  ];
}
joined_finds One Other Both BreaksOne BreaksOther BreaksBoth (Some flaw) None up is also = record {
  breaks = up.of_one flaw.at flaw.found flaw.wanted is.breaks;
  first = λ at found wanted breaks. elim (up.only at found wanted breaks) [
    | inl one ↦ is.first at found wanted one
    | inr other ↦ absurd (up.not_other at found wanted other also)
  ];
}
joined_finds One Other Both BreaksOne BreaksOther BreaksBoth (Some flaw) (Some next) up is also =
    earlier_first One Other Both BreaksOne BreaksOther BreaksBoth flaw next up is also

-- a breach below which there is none is the first
pub first_by : (Breaks : ℕ → ℕ → ℕ → Type 0) (flaw : Flaw) (at found wanted : ℕ) → Breaks at found wanted
    → NoneBelow Breaks at → flaw.at ≡ at → flaw.found ≡ found → flaw.wanted ≡ wanted → IsFirst Breaks flaw
first_by Breaks flaw at found wanted breaks none is_at is_found is_wanted = record {
  breaks = breaks_there Breaks breaks is_at is_found is_wanted;
  first = λ other word asked broken. omega (arith, is_at, none other word asked broken);
}

-- so it is where the flaw is told whole
pub first_is : (Breaks : ℕ → ℕ → ℕ → Type 0) (flaw : Flaw) (at found wanted : ℕ)
    → flaw ≡ record { at = at; found = found; wanted = wanted } → Breaks at found wanted → NoneBelow Breaks at
    → IsFirst Breaks flaw
first_is Breaks flaw at found wanted is breaks none =
    first_by Breaks flaw at found wanted breaks none (ap (λ (f : Flaw). f.at) is) (ap (λ (f : Flaw). f.found) is)
    (ap (λ (f : Flaw). f.wanted) is)

-- a breach of one word is at its address
word_there : (at word : ℕ) (Fits : ℕ → Type 0) (asked : ℕ → ℕ) (other found wanted : ℕ)
    → BreaksWord at word Fits asked other found wanted → other ≡ at
word_there at word Fits asked other found wanted (BreaksWord.word wrong) = refl

-- a word that is not what is asked for is the first and only breach of itself
pub first_of_word : (at word : ℕ) (Fits : ℕ → Type 0) (asked : ℕ → ℕ) (flaw : Flaw) → (Fits word → ⊥) → flaw.at ≡ at
    → flaw.found ≡ word → flaw.wanted ≡ asked word → IsFirst (BreaksWord at word Fits asked) flaw
first_of_word at word Fits asked flaw wrong is_at is_found is_wanted =
    first_by (BreaksWord at word Fits asked) flaw at word (asked word) (BreaksWord.word wrong)
    (λ other found wanted breaks. omega (arith, word_there at word Fits asked other found wanted breaks)) is_at is_found
    is_wanted

-- so it is where the flaw is told whole
pub word_first_is : (at word : ℕ) (Fits : ℕ → Type 0) (asked : ℕ → ℕ) (flaw : Flaw) → (Fits word → ⊥)
    → flaw ≡ record { at = at; found = word; wanted = asked word } → IsFirst (BreaksWord at word Fits asked) flaw
word_first_is at word Fits asked flaw wrong is =
    first_of_word at word Fits asked flaw wrong (ap (λ (f : Flaw). f.at) is) (ap (λ (f : Flaw). f.found) is)
    (ap (λ (f : Flaw). f.wanted) is)

-- a breach of a word of a span is one of the span
pub word_in_span : (heap : Heap) (span : Span) (Fits : ℕ → ℕ → Type 0) (asked : ℕ → ℕ → ℕ) (at word : ℕ)
    → span.from ≤ at → at < span.end → slice_get heap.words at ≡ Some word
    → Includes (BreaksWord at word (Fits (at - span.from)) (asked (at - span.from))) (BreaksSpan heap span Fits asked)
word_in_span heap span Fits asked at word behind before there _ _ _ (BreaksWord.word wrong) =
    let place : ℕ = at - span.from in
    let same : span.from + place ≡ at = omega arith in
    let here = slice_get-slice_range heap.words span.from span.end place (omega arith)
    ∙ ap (slice_get heap.words) same ∙ there in
    subst (λ a. BreaksSpan heap span Fits asked a word (asked place word)) same (BreaksSpan.word place word here wrong)

-- where the words before an address are what is asked for, no breach of the span is before it
none_before : (heap : Heap) (span : Span) (Fits : ℕ → ℕ → Type 0) (asked : ℕ → ℕ → ℕ) (at : ℕ)
    → ((k : ℕ) → span.from ≤ k → k < at → WordAt heap k (Fits (k - span.from)))
    → NoneBelow (BreaksSpan heap span Fits asked) at
none_before heap span Fits asked at fit _ _ _ (BreaksSpan.word place word there wrong) =
    elim (cases_lt (span.from + place) at) [
      | inr late ↦ late
      | inl early ↦
          let few : place < span.end - span.from =
          omega (
            arith,
            slice_get_within (span_words heap span) place word there,
            length-slice_range heap.words span.from span.end,
          ) in
          let back : span.from + place - span.from ≡ place = omega arith in
          let is = fit (span.from + place) (omega arith) early word
          (sym (slice_get-slice_range heap.words span.from span.end place few) ∙ there) in
          absurd (wrong (subst (λ k. Fits k word) back is))
    ]

-- along a span the first word that is not what is asked for is the first breach
pub first_in_span : (heap : Heap) (span : Span) (Fits : ℕ → ℕ → Type 0) (asked : ℕ → ℕ → ℕ) (at word : ℕ)
    (flaw : Flaw) → span.from ≤ at → at < span.end → slice_get heap.words at ≡ Some word
    → ((k : ℕ) → span.from ≤ k → k < at → WordAt heap k (Fits (k - span.from)))
    → IsFirst (BreaksWord at word (Fits (at - span.from)) (asked (at - span.from))) flaw
    → IsFirst (BreaksSpan heap span Fits asked) flaw
first_in_span heap span Fits asked at word flaw behind before there fit is =
    let here = word_there at word (Fits (at - span.from)) (asked (at - span.from)) flaw.at flaw.found flaw.wanted
    is.breaks in
    let none = none_before heap span Fits asked at fit in
    record {
      breaks = word_in_span heap span Fits asked at word behind before there flaw.at flaw.found flaw.wanted is.breaks;
      first = λ other found wanted breaks. omega (arith, here, none other found wanted breaks);
    }

-- a span of which each word is what is asked for has no breach
pub span_excludes : (heap : Heap) (span : Span) (Fits : ℕ → ℕ → Type 0) (asked : ℕ → ℕ → ℕ)
    → Excludes (BreaksSpan heap span Fits asked) (EachWord (span_words heap span) Fits)
span_excludes heap span Fits asked _ _ _ (BreaksSpan.word place word there wrong) each = wrong (each place word there)

-- the word that is read at an address stands there
pub read_there : (words read : List ℕ) (at : ℕ) → read ≡ words → at < length words
    → slice_get words at ≡ Some (get_or read at 0)
read_there words read at same within =
    slice_get-get_or words at 0 within ∙ ap (λ all. Some (get_or all at 0)) (sym same)

-- where the word that is read is what is asked for, so are all up to the next address
pub fit_more : (heap : Heap) (span : Span) (Fits : ℕ → ℕ → Type 0) (read : List ℕ) (at : ℕ) → read ≡ heap.words
    → ((k : ℕ) → span.from ≤ k → k < at → WordAt heap k (Fits (k - span.from)))
    → Fits (at - span.from) (get_or read at 0) → (k : ℕ) → span.from ≤ k → k < at + 1
    → WordAt heap k (Fits (k - span.from))
fit_more heap span Fits read at same fit here =
    each_more (λ k. WordAt heap k (Fits (k - span.from))) span.from at fit
    (λ word there.
    let is : get_or read at 0 ≡ word =
    ap (λ all. get_or all at 0) same ∙ get_or_from_slice_get heap.words at word 0 there in
    subst (Fits (at - span.from)) is here)

-- where all words up to the end are what is asked for, each of the span is
pub fit_all : (heap : Heap) (span : Span) (Fits : ℕ → ℕ → Type 0) (at : ℕ) → span.end ≤ at
    → ((k : ℕ) → span.from ≤ k → k < at → WordAt heap k (Fits (k - span.from)))
    → EachWord (span_words heap span) Fits
fit_all heap span Fits at end fit =
    each_from heap.words span.from span.end Fits (λ k word behind before there. fit k behind (omega arith) word there)
