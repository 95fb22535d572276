-- A stretch of own words goes to the shared table, word by word, as far as it is of pages.
use Rattle.std.proofs.Common.{◌≡◌, ◌≢◌, ℕ, ◌+◌, ◌<◌, ◌≤◌, List, length, take, min, get_or, slice_set}
use Rattle.std.proofs.Common.{sym, ap, ◌∙◌, inl, inr, arith, rules, length-set}
use Rattle.std.proofs.lemmas.Bool.{cases_eq, cases_lt}
use Rattle.std.proofs.lemmas.List.{places, ext_get_or, get_or-set_same, get_or-set_other, length-take}
use Rattle.page_space.specs.Extents.{Space, eden_start, marks_start}
use Rattle.mark_laws.specs.Types.{Spot}
use Rattle.shared_table.specs.declared.overview.Overview.{Overview}
use Rattle.shared_table.specs.Seats.{Side}
use Rattle.shared_table.specs.Spots.{with_spot}
use Rattle.shared_table.specs.Owned.{Own}
use Rattle.heap_table.specs.Sharing.{Agrees, AgreesOutside, IsOutside, with_pages}
use Rattle.shared_table.proofs.PageEnds.{pages_before_marks}

-- a word of a page stands among the words
get_or-pages : (space : Space) (words : List ℕ) (a : ℕ) → a < eden_start space
    → get_or (take (eden_start space) words) a 0 ≡ get_or words a 0
get_or-pages space words a below = search (rules, places)

-- where all agreed and own words changed in a stretch, all agree outside of it
pub agrees_outside : (own : Own) (words : List ℕ) (from to : ℕ) (main : Overview) → Agrees own main
    → length own.words ≡ marks_start own.space
    → ((a : ℕ) → IsOutside from to a → get_or words a 0 ≡ get_or own.words a 0)
    → AgreesOutside (record own { words = words }) from to main
agrees_outside own words from to main agrees counted same = record {
  old = agrees.old;
  words = ap (λ (ws : List ℕ). length ws) agrees.words
      ∙ omega (arith, length-take (eden_start own.space) own.words, pages_before_marks own.space, counted);
  layouts = agrees.layouts;
  page = λ a below out. ap (λ (ws : List ℕ). get_or ws a 0) agrees.words ∙ get_or-pages own.space own.words a below
      ∙ sym (same a out);
}

-- no address of a page is left
none_left : (at to old a : ℕ) → min to old ≤ at → a < old → IsOutside at to a
none_left at to old a ends below = elim (cases_lt a at) [
  | inl before ↦ inl before
  | inr behind ↦ inr (omega (arith, behind, ends, below))
]

-- where no address of a page is left, all agree
pub agrees_all : (own : Own) (at to : ℕ) (main : Overview) → min to (eden_start own.space) ≤ at
    → length own.words ≡ marks_start own.space → AgreesOutside own at to main → Agrees own main
agrees_all own at to main ends counted outside = record {
  old = outside.old;
  words = ext_get_or 0 main.words (take (eden_start own.space) own.words)
      (outside.words
      ∙ omega (arith, length-take (eden_start own.space) own.words, pages_before_marks own.space, counted))
      (λ a below. outside.page a (omega (arith, below, outside.words))
      (none_left at to (eden_start own.space) a ends (omega (arith, below, outside.words)))
      ∙ sym (get_or-pages own.space own.words a (omega (arith, below, outside.words))));
  layouts = outside.layouts;
}

-- one address more is outside
still_outside : (at to a : ℕ) → IsOutside (at + 1) to a → a ≢ at → IsOutside at to a
still_outside at to a (inl before) other = inl (omega (arith, before, other))
still_outside at to a (inr behind) other = inr behind

-- a word of a page was put, so one word less is left
pub next_page : (own : Own) (at to : ℕ) (main : Overview) (word : ℕ) → AgreesOutside own at to main
    → word ≡ get_or own.words at 0 → at < main.old
    → AgreesOutside own (at + 1) to (with_spot main (Spot.Heap at) word)
next_page own at to main word outside is below = record {
  old = outside.old;
  words = length-set main.words at word ∙ outside.words;
  layouts = outside.layouts;
  page = λ a inside out. elim (cases_eq a at) [
    | inl same ↦ ap (λ (i : ℕ). get_or (slice_set main.words at word) i 0) same
        ∙ get_or-set_same main.words at word 0 (omega (arith, below, outside.old, outside.words))
        ∙ is
        ∙ ap (λ (i : ℕ). get_or own.words i 0) (sym same)
    | inr other ↦ get_or-set_other main.words at a word 0 other
        ∙ outside.page a inside (still_outside at to a out other)
  ];
}

-- what the seat knows besides stays
pub besides_stay : (old side new : Side) (a word : ℕ) → side ≡ with_pages old side.main
    → new ≡ record side { main = with_spot side.main (Spot.Heap a) word } → new ≡ with_pages old new.main
besides_stay old side new a word same put =
    put
    ∙ ap (λ (one : Side). record one { main = with_spot one.main (Spot.Heap a) word }) same
    ∙ ap (λ (one : Side). with_pages old one.main) (sym put)
