-- A heap in which words of a free cell were granted is the old one moved: each other cell stays where it is.
use Rattle.std.proofs.Common.{◌≡◌, ◌≢◌, ℕ, ◌+◌, ◌/◌, ◌%◌, ◌<◌, ◌≤◌, ◌^◌, ◌↔◌, ◌==◌, inl, inr, true, false, cond}
use Rattle.std.proofs.Common.{List, Option, Some, None, IsTrue, Contains, slice_get, refl, sym, ◌∙◌, ap, subst, arith}
use Rattle.std.specs.Prelude.{if◌then◌else◌}
use Rattle.std.proofs.lemmas.Bool.{cases_eq}
use Rattle.std.proofs.lemmas.Bool.Decides.{nat_tests}
use Rattle.std.proofs.lemmas.Option.{same_Some}
use Rattle.tagged_word.specs.Cells.{scavenge_offsets, is_free_kind}
use Rattle.page_space.specs.Extents.{roots_start}
use Rattle.page_space.proofs.LawsHold.{kinds_by_number}
use Rattle.handle_roots.specs.Roots.{root_at, first_word}
use Rattle.heap_model.specs.Types.{Cell, Run}
use Rattle.heap_model.specs.Heaps.{Heap, HasCell}
use Rattle.heap_model.specs.Slots.{reference_word}
use Rattle.heap_model.specs.Kinds.{HasWord}
use Rattle.heap_model.proofs.CellsApart.{one_at}
use Rattle.heap_moves.specs.Moved.{IsMovedWord, AreMoved, moved_to, StandsMoved, IsFrom, IsMoved}
use Rattle.heap_walk.proofs.SlotTargets.{IsUsedAt, kind_to_cell, held_target}
use Rattle.scavenger.proofs.GrantedWords.{Granting, now, after_free}
use Rattle.scavenger.proofs.GrantedCells.{granted, sized, has_rows, cell_stays, cell_from, outside_stays}

-- where what stands at an address stands afterwards: there, but for what stood at one of them
abbrev pub all_but : ℕ → ℕ → Option ℕ
all_but one at = if at == one then None else Some at

-- what stands elsewhere stays
pub all_but_stays : (one at : ℕ) → at ≢ one → all_but one at ≡ Some at
all_but_stays one at apart =
    let test : (at == one) ≡ false = grind (arith, nat_tests, apart) in
    ap (λ t. cond t None (Some at)) test

-- and stays where it is
pub all_but_same : (one at to : ℕ) → all_but one at ≡ Some to → (at ≡ to) × (at ≢ one)
all_but_same one at to stays = elim (cases_eq at one) [
  | inl same ↦
      let test : (at == one) ≡ true = grind (arith, nat_tests, same) in
      let gone : all_but one at ≡ None = ap (λ t. cond t None (Some at)) test in
      let never : Some to ≡ None = sym stays ∙ gone in
      absurd cc
  | inr apart ↦ (same_Some at to (sym (all_but_stays one at apart) ∙ stays), apart)
]

-- a word that is as it was, and does not refer there, is moved so
word_stays : (one word to : ℕ) → to ≡ word → ((at : ℕ) → word ≡ reference_word at → at ≢ one)
    → IsMovedWord (all_but one) word to
word_stays one word to same leads = elim (cases_eq (word % 4) 1) [
  | inl refers ↦
      let at : ℕ = word / 4 in
      let is : word ≡ reference_word at = omega arith in
      IsMovedWord.reference at at is (all_but_stays one at (leads at is)) (same ∙ is)
  | inr refers_not ↦ IsMovedWord.other (λ at refers. refers_not (omega arith)) same
]

module _ {heap : Heap} {run : Run} {n : ℕ} (granting : Granting heap run n) where
  -- a cell that is not free does not stand where the free one did
  pub used_apart : {cell : Cell} {words : List ℕ} → HasCell heap cell words
      → (IsTrue (is_free_kind cell.layout.kind) → ⊥) → cell.at ≢ run.at
  used_apart has used same =
      let one = one_at granting.free.has has (granting.free.stands ∙ sym same) in
      used (subst (λ (any : Cell). IsTrue (is_free_kind any.layout.kind)) one granting.free.free)

  -- so nothing refers there
  target_apart : {at : ℕ} → IsUsedAt heap at → at ≢ run.at
  target_apart stands same = used_apart stands.has stands.used (stands.stands ∙ same)

  -- a slot of a cell does not
  slot_leads : {cell : Cell} {words : List ℕ} (offset word at : ℕ) → HasCell heap cell words
      → Contains (scavenge_offsets cell.layout cell.length) offset → HasWord words offset word
      → word ≡ reference_word at → at ≢ run.at
  slot_leads {cell} {words} offset word at has slot holds is =
      target_apart (kind_to_cell cell.layout.kind offset word at granting.whole.sized has refl
      (granting.whole.sound cell words has) slot holds is)

  -- the words of a cell that stays are moved so
  words_stay : {cell : Cell} {words : List ℕ} → HasCell heap cell words → AreMoved (all_but run.at) cell words words
  words_stay has = record {
    long = refl;
    slots = λ offset word to slot there there_too. word_stays run.at word to
        (same_Some to word (sym there_too ∙ there))
        (λ at is. slot_leads offset word at has slot there is);
    raw = λ offset none. refl;
  }

  -- it stands where it stood
  stands_stay : {cell : Cell} {words : List ℕ} (to : ℕ) → HasCell heap cell words → all_but run.at cell.at ≡ Some to
      → StandsMoved (granted granting) (all_but run.at) cell words to
  stands_stay {cell} {words} to has stays =
      let same = all_but_same run.at cell.at to stays in
      record {
        others = words;
        has = subst (λ at. HasCell (granted granting) (moved_to cell at) words) same.0
            (cell_stays granting has same.1);
        are = words_stay has;
      }

  -- a cell of afterwards is from there, or free
  from_there : {cell : Cell} {words : List ℕ} → HasCell (granted granting) cell words
      → IsFrom heap (all_but run.at) cell
  from_there {cell} {words} has = elim (cell_from granting has) [
    | inl old ↦ IsFrom.stood cell words old.0 (all_but_stays run.at cell.at old.1)
    | inr came ↦ let is = after_free granting cell came in IsFrom.free is.0 is.1
  ]

  -- an address that stays has as many bits
  fits_stay : (at to : ℕ) → all_but run.at at ≡ Some to → (at < 2 ^ 32) ↔ (to < 2 ^ 32)
  fits_stay at to stays =
      let same = (all_but_same run.at at to stays).0 in
      (λ below. subst (λ one. one < 2 ^ 32) same below, λ below. subst (λ one. one < 2 ^ 32) (sym same) below)

  -- a root word stays
  root_stays : (at : ℕ) → roots_start heap.space ≤ at → slice_get (now granting) at ≡ slice_get heap.words at
  root_stays at above =
      let numbers = kinds_by_number heap.space in
      outside_stays granting at (omega (arith, above, numbers.roots))

  -- the first one of a variable does not refer there
  root_leads : (variable word at : ℕ) → variable < heap.space.variables
      → slice_get heap.words (root_at heap.space variable) ≡ Some word → word ≡ reference_word at → at ≢ run.at
  root_leads variable word at known holds is =
      let root = granting.whole.roots variable known in
      let same : first_word root.held ≡ word =
      same_Some (first_word root.held) word (sym root.holds.first ∙ holds) in
      target_apart (held_target heap root.held at root.is (same ∙ is))

  -- the heap of afterwards is the old one, moved
  pub granted_is_moved : IsMoved heap (granted granting) (all_but run.at)
  granted_is_moved = record {
    space = refl;
    paths = refl;
    sized = sized granting;
    rows = has_rows granting;
    apart = λ one other words others to has has_other stays stays_too.
        (all_but_same run.at one.at to stays).0 ∙ sym (all_but_same run.at other.at to stays_too).0;
    fits = λ cell words to has stays. fits_stay cell.at to stays;
    stands = λ cell words to has stays. stands_stay to has stays;
    back = λ cell words has. from_there has;
    roots = λ variable known.
        let at : ℕ = root_at heap.space variable in
        record {
          first = λ word to there there_too. word_stays run.at word to
              (same_Some to word (sym there_too ∙ root_stays at (omega arith) ∙ there))
              (λ one is. root_leads variable word one known there is);
          second = root_stays (at + 1) (omega arith);
        };
  }
