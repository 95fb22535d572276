-- A command that finds words of a free run granted changes no other words than it would else, but for the head of the
-- free cell that is left of the run.
use Rattle.std.proofs.Common.{◌≡◌, ℕ, ◌+◌, ◌<◌, inl, inr, Bool, false, List, IsTrue, slice_get, ◌==◌, sym, ◌∙◌}
use Rattle.std.proofs.Common.{refl, ap, subst, arith, if◌then◌else◌}
use Rattle.std.proofs.lemmas.Bool.{cases_lt}
use Rattle.std.proofs.lemmas.Bool.Decides.{nat_tests}
use Rattle.tagged_word.specs.Cells.{is_free_kind, is_object_kind, length_offset}
use Rattle.page_space.specs.Extents.{Space, eden_start, roots_start}
use Rattle.heap_model.specs.Types.{Cell, Command, Run}
use Rattle.object_graph.specs.Graphs.{Graph}
use Rattle.nursery.specs.Young.{Young, next_of}
use Rattle.heap_model.specs.Heaps.{Heap, HasCell, words_of_cell}
use Rattle.heap_model.specs.Slots.{IsPlace}
use Rattle.heap_model.specs.Wholeness.{HasSlotAt, NamesFrom}
use Rattle.heap_model.proofs.CellsApart.{one_at}
use Rattle.heap_model.proofs.StaysCollectable.{object_not_free, owned_not_free}
use Rattle.write_barrier.specs.MutatorState.{Mutator, heap_of, MainShows}
use Rattle.object_cells.specs.Contents.{next_at}
use Rattle.object_cells.specs.OwnWords.{IsOwnWord}
use Rattle.object_cells.proofs.TouchedOffsets.{free_has_no_slots}
use Rattle.scavenger.specs.Granting.{Grants}
use Rattle.scavenger.proofs.PagesRuns.{whole, taken_at, taken_words}
use Rattle.scavenger.proofs.GrantedWords.{Granting, now, beside_stays, rest_stays}
use Rattle.scavenger.proofs.GrantedCells.{granted}
use Rattle.scavenger.proofs.Granted.{may_grant, grants_keep_stores}
use Rattle.mutator.specs.Changing.{IsChangedWord, KeepsOtherWords}
use Rattle.heap_script.specs.Stages.{IsCutWord}

module _ {old found : Mutator} {graph : Graph} {n : ℕ} (shows : MainShows old graph) (grants : Grants old found n) where
  -- the run of which words are granted
  abbrev one : Run
  one = whole grants.takes

  -- they may be
  granting : Granting (heap_of old) one n
  granting = may_grant shows grants.some grants.takes

  -- the heap of afterwards
  is_granted : heap_of found ≡ granted granting
  is_granted = λ i. record {
    space = grants.beside.space i;
    used = ap (λ (young : Young). young.used) grants.young i;
    survivors = ap (λ (young : Young). young.survivors) grants.young i;
    paths = grants.paths i;
    words = grants.words i;
  }

  -- a word that is not cut stays
  uncut_stays : (at : ℕ) → (IsCutWord one n at → ⊥)
      → slice_get (now granting) at ≡ slice_get (heap_of old).words at
  uncut_stays at not_cut = elim (cases_lt at one.at) [
    | inl before ↦ beside_stays granting at (inl before)
    | inr from ↦ elim (cases_lt at (one.at + one.words)) [
      | inl below ↦ elim (cases_lt (one.at + n + length_offset) at) [
        | inl behind ↦ rest_stays granting at behind
        | inr head ↦ absurd (not_cut (record { of_run = record { from = from; below = below }; head = head }))
      ]
      | inr past ↦ beside_stays granting at (inr past)
    ]
  ]

  word_stays : (at : ℕ) → (IsCutWord one n at → ⊥)
      → slice_get (heap_of found).words at ≡ slice_get (heap_of old).words at
  word_stays at not_cut =
      ap (λ (heap : Heap). slice_get heap.words at) is_granted ∙ uncut_stays at not_cut

  -- the next cell is made where the run begins
  next_is : next_at found ≡ one.at
  next_is =
      let run : Run = grants.run in
      let words : run.words ≡ n = taken_words grants.takes in
      let some : (run.words == 0) ≡ false = grind (arith, nat_tests, words, grants.some) in
      ap next_of grants.young
      ∙ ap (λ (b : Bool). if b then eden_start old.young.space + old.young.used else run.at) some
      ∙ taken_at grants.takes

  -- a cell that is not free stood
  cell_stood : {cell : Cell} {words : List ℕ} → HasCell (heap_of found) cell words
      → (IsTrue (is_free_kind cell.layout.kind) → ⊥) → HasCell (heap_of old) cell words
  cell_stood {cell} {words} has used = elim (grants.back cell words has) [
    | inl stood ↦ stood.0
    | inr free ↦ absurd (used free)
  ]

  -- with the words that it has there
  words_stood : {cell : Cell} {words : List ℕ} → HasCell (heap_of found) cell words
      → (IsTrue (is_free_kind cell.layout.kind) → ⊥) → HasCell (heap_of old) cell (words_of_cell (heap_of old) cell)
  words_stood {cell} has used =
      let stood = cell_stood has used in
      subst (HasCell (heap_of old) cell) (sym stood.words_are) stood

  -- a slot of an object stood
  slot_stood : {owner : Cell} {words : List ℕ} {slot word : ℕ} → HasSlotAt (heap_of found) owner words slot word
      → HasSlotAt (heap_of old) owner words slot word
  slot_stood (HasSlotAt.own offset word there holds) = HasSlotAt.own offset word there holds
  slot_stood (HasSlotAt.beside store other others offset word names refers there holds) =
      let used : IsTrue (is_free_kind other.layout.kind) → ⊥ =
      λ free. free_has_no_slots {cell = other} {at = other.at + offset} free
      (record { offset = offset; visited = there; stands = refl }) in
      HasSlotAt.beside store other others offset word names
      (record { refers = refers.refers; has = cell_stood refers.has used }) there holds

  -- an object names what it named
  named_before : {owner : Cell} {slot named : ℕ} → NamesFrom (heap_of found) owner slot named
      → NamesFrom (heap_of old) owner slot named
  named_before {owner} names = record {
    words = names.words;
    has = cell_stood names.has (object_not_free owner.layout.kind names.object);
    object = names.object;
    word = names.word;
    of_owner = slot_stood names.of_owner;
    cell = names.cell;
    others = names.others;
    refers = record {
      refers = names.refers.refers;
      has = cell_stood names.refers.has (owned_not_free names.cell.layout.kind names.owned);
    };
    owned = names.owned;
    at = names.at;
  }

  -- a cell that an object names is not free
  named_not_free : {owner cell : Cell} {words : List ℕ} {slot : ℕ} → NamesFrom (heap_of found) owner slot cell.at
      → HasCell (heap_of found) cell words → IsTrue (is_free_kind cell.layout.kind) → ⊥
  named_not_free {cell = cell} names has free =
      let same : names.cell ≡ cell = one_at names.refers.has has names.at in
      owned_not_free names.cell.layout.kind names.owned
      (subst (λ (any : Cell). IsTrue (is_free_kind any.layout.kind)) (sym same) free)

  -- a word of an object was one of it
  own_before : {number at word : ℕ} → IsPlace (heap_of found) number at → IsOwnWord (heap_of found) at word
      → IsOwnWord (heap_of old) at word
  own_before place own =
      let same : place.cell ≡ own.owner = one_at place.has own.has (place.stands ∙ sym own.stands) in
      let object = subst (λ (cell : Cell). IsTrue (is_object_kind cell.layout.kind)) same place.object in
      let used : IsTrue (is_free_kind own.owner.layout.kind) → ⊥ = object_not_free own.owner.layout.kind object in
      elim own.own [
        | inl itself ↦ record {
          owner = own.owner;
          has = words_stood own.has used;
          stands = own.stands;
          cell = own.cell;
          there = words_stood own.there
              (λ free. used (subst (λ (cell : Cell). IsTrue (is_free_kind cell.layout.kind)) itself free));
          own = inl itself;
          within = own.within;
        }
        | inr named ↦ record {
          owner = own.owner;
          has = words_stood own.has used;
          stands = own.stands;
          cell = own.cell;
          there = words_stood own.there (named_not_free named.1 own.there);
          own = inr (named.0, named_before named.1);
          within = own.within;
        }
      ]

  -- a word of the object that the command may change was one of it
  changed_before : {command : Command} {word : ℕ} → IsChangedWord (heap_of found) graph command word
      → IsChangedWord (heap_of old) graph command word
  changed_before changed = record {
    number = changed.number;
    may = changed.may;
    at = changed.at;
    place = (grants_keep_stores old found graph n shows grants changed.number changed.at).0.1 changed.place;
    own = own_before changed.place changed.own;
  }

  -- so the grant and the command together change no other words
  pub granted_keeps : {command : Command} (new : Heap) (many : ℕ) → n ≡ many
      → KeepsOtherWords (heap_of found) new (next_at found) (next_at found + many) graph command
      → (word : ℕ) → word < roots_start (heap_of old).space
      → (IsChangedWord (heap_of old) graph command word → ⊥) → (IsCutWord one many word → ⊥)
      → slice_get new.words word ≡ slice_get (heap_of old).words word
  granted_keeps new many same keeps word before not_changed not_cut =
      let roots = ap (λ (space : Space). roots_start space) grants.beside.space in
      keeps word (omega (arith, before, roots)) (λ changed. not_changed (changed_before changed))
      (λ from below. not_cut (record {
        of_run = record {
          from = omega (arith, from, next_is);
          below = omega (arith, below, next_is, same, grants.takes.takes.enough);
        };
        head = omega (arith, below, next_is);
      }))
      ∙ word_stays word (λ cut. not_cut (subst (λ count. IsCutWord one count word) same cut))
