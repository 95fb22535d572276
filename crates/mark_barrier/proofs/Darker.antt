-- How colours and the board change: colours darken, and cells are taken from the board.
use Rattle.std.proofs.Common.{◌≡◌, ◌≢◌, ◌≤◌, ◌<◌, ◌+◌, ◌==◌, inl, inr, ℕ, Bool, cond, List, length}
use Rattle.std.proofs.Common.{count_by, slice_index, slice_set, refl, sym, ap, ◌∙◌, arith, eq-eqb}
use Rattle.std.proofs.lemmas.Bool.{cases_eq, cases_lt}
use Rattle.std.proofs.lemmas.List.{get_or_past, get_or-set_other, get_or-set_same, length-set}
use Rattle.std.proofs.lemmas.List.Sums.{sum_by-set}
use Rattle.core_parts.proofs.Tested.{not_equal}
use Rattle.mark_world.specs.Steps.{black, shaded, white}
use Rattle.mark_laws.proofs.Colours.{raised}
use Rattle.mark_laws.proofs.Starts.{black_within}
use Rattle.mark_barrier.specs.Paid.{Darkens, IsTakenFrom}

-- nothing is lighter than before where nothing changed
pub darkens_itself : (colours : List ℕ) → Darkens colours colours
darkens_itself colours = record { count = refl; darker = λ at. omega arith; stays = λ at is. is }

-- what was black is black where one colour is darker, if that was not black or still is
black_stays : (colours : List ℕ) (at word : ℕ) → (slice_index colours at ≡ black → word ≡ black) → (other : ℕ)
    → slice_index colours other ≡ black → slice_index (slice_set colours at word) other ≡ black
black_stays colours at word stays other is = elim (cases_eq other at) [
  | inl same ↦
      let was : slice_index colours at ≡ black = ap (λ (a : ℕ). slice_index colours a) (sym same) ∙ is in
      ap (λ (a : ℕ). slice_index (slice_set colours at word) a) same
      ∙ get_or-set_same colours at word 0 (black_within colours at was) ∙ stays was
  | inr else ↦ get_or-set_other colours at other word 0 else ∙ is
]

-- a colour that is darker at one place
pub darkens_at : (colours : List ℕ) (at word : ℕ) → slice_index colours at ≤ word
    → (slice_index colours at ≡ black → word ≡ black) → Darkens colours (slice_set colours at word)
darkens_at colours at word more stays = record {
  count = length-set colours at word;
  darker = raised colours at word more;
  stays = black_stays colours at word stays;
}

-- and what darkens twice darkens
pub darkens_twice : (first second third : List ℕ) → Darkens first second → Darkens second third → Darkens first third
darkens_twice first second third a b = record {
  count = b.count ∙ a.count;
  darker = λ at. let x = a.darker at in let y = b.darker at in omega (arith, x, y);
  stays = λ at is. b.stays at (a.stays at is);
}

-- shading leaves black as it is
pub shaded_black : (found : ℕ) → found ≡ black → shaded found ≡ black
shaded_black found is = ap (λ (c : ℕ). shaded c) is

-- nothing is taken from the board where nothing changed
pub untaken : (board : List ℕ) → IsTakenFrom board board
untaken board = record { count = refl; place = λ k. inl refl }

-- no cell is at a place that was taken from, nor past the board
emptied : (board : List ℕ) (place k : ℕ) → k ≡ place → slice_index (slice_set board place 0) k ≡ 0
emptied board place k same = elim (cases_lt place (length board)) [
  | inl within ↦ ap (λ (a : ℕ). slice_index (slice_set board place 0) a) same ∙ get_or-set_same board place 0 0 within
  | inr past ↦ get_or_past (slice_set board place 0) k 0 (omega (arith, past, same, length-set board place 0))
]

-- a place was taken from
pub taken_at : (board : List ℕ) (place : ℕ) → IsTakenFrom board (slice_set board place 0)
taken_at board place = record {
  count = length-set board place 0;
  place = λ k. elim (cases_eq k place) [
    | inl same ↦ inr (emptied board place k same)
    | inr other ↦ inl (get_or-set_other board place k 0 0 other)
  ];
}

-- what is taken twice is taken
pub taken_twice : (first second third : List ℕ) → IsTakenFrom first second → IsTakenFrom second third
    → IsTakenFrom first third
taken_twice first second third a b = record {
  count = b.count ∙ a.count;
  place = λ k. elim (b.place k) [
    | inl same ↦ elim (a.place k) [ inl before ↦ inl (same ∙ before) | inr none ↦ inr (same ∙ none) ]
    | inr none ↦ inr none
  ];
}

-- how many of these colours are white
abbrev pub whites : List ℕ → ℕ
whites colours = count_by (λ colour. colour == white) colours

-- and one of them: 1 where it is white
abbrev one : ℕ → ℕ
one colour = cond (colour == white) 1 0

-- white is one
white_one : (colour : ℕ) → colour ≡ white → one colour ≡ 1
white_one colour is = ap (λ (b : Bool). cond b 1 0) (eq-eqb colour white is)

-- and another colour none
other_none : (colour : ℕ) → colour ≢ white → one colour ≡ 0
other_none colour other = ap (λ (b : Bool). cond b 1 0) (not_equal colour white other)

-- how many are white where one is put
whites_set : (colours : List ℕ) (at word : ℕ) → at < length colours
    → whites (slice_set colours at word) + one (slice_index colours at) ≡ whites colours + one word
whites_set colours at word within = sum_by-set one colours at word 0 within

-- one fewer where a white cell is put grey
pub whites_fewer : (colours : List ℕ) (at : ℕ) → at < length colours → slice_index colours at ≡ white
    → whites (slice_set colours at (shaded (slice_index colours at))) + 1 ≡ whites colours
whites_fewer colours at within is =
    let put = whites_set colours at (shaded (slice_index colours at)) within in
    let before = white_one (slice_index colours at) is in
    let after : one (shaded (slice_index colours at)) ≡ 0 = ap (λ (c : ℕ). one (shaded c)) is in
    omega (arith, put, before, after)

-- as many where the colour is no other
pub whites_same : (colours : List ℕ) (at word : ℕ) → at < length colours → slice_index colours at ≢ white
    → word ≢ white → whites (slice_set colours at word) ≡ whites colours
whites_same colours at word within other put_other =
    let put = whites_set colours at word within in
    let before = other_none (slice_index colours at) other in
    let after = other_none word put_other in
    omega (arith, put, before, after)

-- and no more where one is put that is not white
pub whites_no_more : (colours : List ℕ) (at word : ℕ) → at < length colours → word ≢ white
    → whites (slice_set colours at word) ≤ whites colours
whites_no_more colours at word within other =
    let put = whites_set colours at word within in
    let after = other_none word other in
    omega (arith, put, after)
