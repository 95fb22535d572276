-- An integer is put into a box to which a word of an object refers: so a word of the object's own cells was written,
-- its slots hold what they held, and the word refers to a box with the integer.
use Rattle.std.specs.Int.{w64}
use Rattle.std.specs.Prelude.{ℤ, FitsSigned, slice_set}
use Rattle.std.proofs.Common.{◌≡◌, ◌≢◌, ℕ, ◌+◌, ◌<◌, inl, inr, List, [], ◌∷◌, slice_get, sym, ◌∙◌, ap, subst, arith}
use Rattle.std.proofs.Common.{length-set}
use Rattle.std.proofs.lemmas.Bool.{false≢true}
use Rattle.tagged_word.specs.declared.layout.Kind.TheVariants as kind
use Rattle.tagged_word.specs.Cells.{has_length, store_slot, is_object_kind}
use Rattle.tagged_word.proofs.Members.{first_in, rest_in, one_in, in_cases}
use Rattle.page_space.specs.Extents.{marks_start}
use Rattle.nursery.specs.Young.{bumped}
use Rattle.object_graph.proofs.Lists.{slice_get-set_same, slice_get-set_other}
use Rattle.write_barrier.specs.Seats.{heap_words, RestStays}
use Rattle.write_barrier.specs.Staying.{rest_stays_itself}
use Rattle.heap_model.specs.Types.{Kind, Cell}
use Rattle.heap_model.specs.Changes.{CellsChange}
use Rattle.heap_model.specs.Heaps.{HasCell, words_of_cell}
use Rattle.heap_model.specs.Kinds.{HasWord, IsBoxCell, IsSoundOf}
use Rattle.heap_model.specs.Needs.{capacity_at}
use Rattle.heap_model.specs.Slots.{raw_word, RefersToBox, HoldsStore}
use Rattle.heap_model.specs.Wholeness.{Whole, NamesFrom, IsOwnedKind}
use Rattle.heap_model.proofs.BoundHeaps.{none_in}
use Rattle.heap_model.proofs.CellOutcomes.{cells_move, owned_is_no_filler, stays_standing}
use Rattle.heap_model.proofs.CellsApart.{IsOfCell, first_of_cell, cells_apart}
use Rattle.heap_model.proofs.RowCovers.{stretch_alike}
use Rattle.write_barrier.specs.MutatorState.{Mutator, heap_of, IsTied, with_word}
use Rattle.object_cells.specs.Capacities.{ChangesObjectUsing, WritesBeside}
use Rattle.object_cells.specs.CellWrites.{Owns, IsWrittenOfKind, WritesOwnCells}
use Rattle.object_cells.specs.Contents.{next_at}
use Rattle.object_cells.specs.OwnSlots.{ComesFrom, Refills}
use Rattle.object_cells.proofs.CellsRead.{cell_before_marks, word_stands}
use Rattle.object_cells.proofs.MadeBoxes.{row_of_none}
use Rattle.object_cells.proofs.NothingUsed.{room_for_none}
use Rattle.object_cells.proofs.OwnCapacities.{object_keeps}
use Rattle.object_cells.proofs.TakenRuns.{bumped_none}
use Rattle.object_cells.proofs.OwnPlaces.{has_own_words, box_size}
use Rattle.object_cells.proofs.OwnPuts.{PutsOwn, own_writes}
use Rattle.object_cells.proofs.OwnerWrites.{owned_is_no_box, written_own_keeps_cells}
use Rattle.object_cells.proofs.RestOfWords.{put_rest}
use Rattle.object_cells.proofs.SlotBoxes.{IsBoxOf}
use Rattle.object_cells.proofs.SlotsNow.{word_at_offset}

-- The integer is put into the box to which the word refers, which the object whose cell stands there names.
pub record PutsInteger (owner owned : Kind) (old new : Mutator) (cell : Cell) (word box : ℕ) (v : ℤ) : Type 0 where
  pub owns : Owns owner owned
  pub tied : IsTied old
  pub whole : Whole (heap_of old)
  pub has : HasCell (heap_of old) cell (words_of_cell (heap_of old) cell)
  pub of_kind : cell.layout.kind ≡ owner
  pub box_of : IsBoxOf (heap_of old) word box
  pub named : (slot : ℕ) × NamesFrom (heap_of old) cell slot box_of.cell.at
  pub fits : FitsSigned w64 v
  pub puts_it : new ≡ with_word old (box + 1) (raw_word v)

module _ {owner owned : Kind} {old new : Mutator} {cell : Cell} {word box : ℕ} {v : ℤ}
    (writing : PutsInteger owner owned old new cell word box v) where
  -- the cell of the box, which alone is written
  abbrev pub one_box : Cell
  one_box = writing.box_of.cell

  abbrev pub others : List Cell
  others = one_box ∷ []

  -- it stands there with its words
  pub box_has : HasCell (heap_of old) one_box (words_of_cell (heap_of old) one_box)
  box_has = has_own_words writing.box_of.refers.has

  -- the integer is its second word
  pub of_box : IsOfCell one_box (box + 1)
  of_box = record {
    from = omega (arith, writing.box_of.stands);
    below = omega (arith, writing.box_of.stands, box_size box_has writing.box_of.box);
  }

  -- so it is no word of a cell that is no box
  not_of : {one : Cell} {words : List ℕ} (a : ℕ) → HasCell (heap_of old) one words
      → (one.layout.kind ≡ kind.Boxed → ⊥) → IsOfCell one a → a ≢ box + 1
  not_of a has no_box of_one same =
      let one = cells_apart a writing.whole.rows has box_has of_one (subst (IsOfCell one_box) (sym same) of_box) in
      no_box (ap (λ (c : Cell). c.layout.kind) one ∙ writing.box_of.box)

  -- the object is none
  own_no_box : cell.layout.kind ≡ kind.Boxed → ⊥
  own_no_box is =
      false≢true (sym (ap is_object_kind is) ∙ ap is_object_kind writing.of_kind ∙ writing.owns.object)

  -- the words
  abbrev put : List ℕ
  put = slice_set (heap_words old.seat) (box + 1) (raw_word v)

  -- the word is before the marks
  pub within : box + 1 < marks_start old.seat.space
  within =
      omega (
        arith,
        writing.box_of.stands,
        box_size box_has writing.box_of.box,
        cell_before_marks writing.whole.sized box_has,
      )

  -- the regions and the phase stay
  pub rest_stays : RestStays old.seat new.seat
  rest_stays =
      put_rest (box + 1) (raw_word v) (rest_stays_itself old.seat)
      (ap (λ (m : Mutator). m.seat) writing.puts_it) within

  -- these are the words that came to be
  pub put_heap : heap_words new.seat ≡ put
  put_heap = ap (λ (m : Mutator). heap_words m.seat) writing.puts_it

  -- so each other word stays
  kept : (a : ℕ) → a ≢ box + 1 → slice_get (heap_words new.seat) a ≡ slice_get (heap_words old.seat) a
  kept a apart =
      ap (λ all. slice_get all a) put_heap ∙ slice_get-set_other (heap_words old.seat) (box + 1) a (raw_word v) apart

  -- as do those of a cell that is no box
  pub word_stays : {one : Cell} {words : List ℕ} (a : ℕ) → HasCell (heap_of old) one words
      → (one.layout.kind ≡ kind.Boxed → ⊥) → IsOfCell one a
      → slice_get (heap_words new.seat) a ≡ slice_get (heap_words old.seat) a
  word_stays a has no_box of_one = kept a (not_of a has no_box of_one)

  -- what is used stays
  pub same_young : new.young ≡ bumped old.young 0
  same_young = ap (λ (m : Mutator). m.young) writing.puts_it ∙ sym (bumped_none old.young)

  -- so a word of the object's own cells was put, and nothing more is used
  puts : PutsOwn owner old new cell others 0 put
  puts = record {
    tied = writing.tied;
    whole = writing.whole;
    has = writing.has;
    of_kind = writing.of_kind;
    stood = λ one among. subst (λ (c : Cell). HasCell (heap_of old) c (words_of_cell (heap_of old) c))
        (one_in one_box one among) box_has;
    room = room_for_none old writing.tied writing.whole;
    puts = record {
      beside = rest_stays;
      paths = ap (λ (m : Mutator). m.paths) writing.puts_it;
      young = same_young;
      heap = put_heap;
    };
    long = length-set (heap_words old.seat) (box + 1) (raw_word v);
    stay = λ a not_cell not_others not_new. slice_get-set_other (heap_words old.seat) (box + 1) a (raw_word v)
        (λ same. not_others one_box (first_in one_box [])
        (record { from = omega (arith, same, of_box.from); below = omega (arith, same, of_box.below) }));
  }

  -- so cells were written, and none was made
  pub writes : WritesOwnCells owner owned (heap_of old) (heap_of new) cell cell others []
  writes =
      own_writes [] puts (word_stays cell.at writing.has own_no_box (first_of_cell writing.has))
      (λ one among. subst (IsWrittenOfKind owned (heap_of old) (heap_of new)) (one_in one_box one among) (record {
        stood = box_has;
        of_kind = inr writing.box_of.box;
        header = kept one_box.at (λ is. omega (arith, is, writing.box_of.stands));
        length = λ is. absurd (owned_is_no_box writing.owns is writing.box_of.box);
      }))
      (row_of_none (heap_of new) (next_at old))

  -- the box belongs to the object
  pub beside : WritesBeside owner owned (heap_of old) (heap_of new) cell cell others []
  beside = record {
    owns = writing.owns;
    whole = writing.whole;
    writes = writes;
    belong = λ one among. (
      writing.named.0,
      subst (λ (c : Cell). NamesFrom (heap_of old) cell writing.named.0 c.at) (one_in one_box one among)
          writing.named.1,
    );
    kinds = λ one among. absurd (none_in one among);
    stores = λ one among is. absurd (owned_is_no_box writing.owns is
        (ap (λ (c : Cell). c.layout.kind) (sym (one_in one_box one among)) ∙ writing.box_of.box));
  }

  -- the cells stand in the new heap
  cells : CellsChange (heap_of old) (heap_of new) (cell ∷ others) (cell ∷ others) []
  cells = (written_own_keeps_cells writing.owns writing.whole writes).1

  -- the object's has the words that it had
  cell_now : HasCell (heap_of new) cell (words_of_cell (heap_of new) cell)
  cell_now = cells.comes cell (first_in cell others)

  words_now : words_of_cell (heap_of new) cell ≡ words_of_cell (heap_of old) cell
  words_now =
      stretch_alike cell.at cell.size (heap_words old.seat) (heap_words new.seat)
      (λ a from below. word_stays a writing.has own_no_box (record { from = from; below = below }))

  pub word_now : (k held : ℕ) → HasWord (words_of_cell (heap_of old) cell) k held
      → HasWord (words_of_cell (heap_of new) cell) k held
  word_now k held stands = subst (λ all. HasWord all k held) (sym words_now) stands

  -- so does a cell of the kind that it owns
  pub owned_stays : {one : Cell} {words : List ℕ} → HasCell (heap_of old) one words → one.layout.kind ≡ owned
      → HasCell (heap_of new) one words
  owned_stays {one} {words} has is =
      let belongs : IsOwnedKind one.layout.kind = subst IsOwnedKind (sym is) writing.owns.belongs in
      stays_standing (cells_move cells) has (owned_is_no_filler one.layout.kind belongs)
      (λ gone. elim (in_cases cell others one gone) [
        | inl same ↦ false≢true (sym writing.owns.short ∙ sym (ap has_length writing.of_kind)
            ∙ ap (λ (c : Cell). has_length c.layout.kind) same ∙ ap has_length is ∙ writing.owns.long)
        | inr among ↦
            owned_is_no_box writing.owns is
            (ap (λ (c : Cell). c.layout.kind) (sym (one_in one_box one among)) ∙ writing.box_of.box)
      ])

  -- and so its store has the slots that it had
  pub store_stays : {store : ℕ} {slots : List ℕ} → HoldsStore (heap_of old) owned store slots
      → HoldsStore (heap_of new) owned store slots
  store_stays HoldsStore.none = HoldsStore.none
  store_stays (HoldsStore.store store one words refers is) =
      HoldsStore.store store one words (record { refers = refers.refers; has = owned_stays refers.has is }) is

  -- and the word of its slot for it stays
  pub slot_stays : {store : ℕ} → HasWord (words_of_cell (heap_of old) cell) store_slot store
      → slice_get (heap_words new.seat) (cell.at + store_slot) ≡ slice_get (heap_words old.seat) (cell.at + store_slot)
  slot_stays {store} slot =
      word_stands store_slot store cell_now (word_now store_slot store slot)
      ∙ sym (word_stands store_slot store writing.has slot)

  -- so it keeps its capacity
  pub capacity_stays : {store : ℕ} → HasWord (words_of_cell (heap_of old) cell) store_slot store
      → ChangesObjectUsing old new 0 cell.at (capacity_at (heap_of old) cell.at)
  capacity_stays slot = object_keeps beside (row_of_none (heap_of new) (next_at old)) (slot_stays slot)

  -- the box holds the integer
  box_now : HasCell (heap_of new) one_box (words_of_cell (heap_of new) one_box)
  box_now = cells.comes one_box (rest_in cell others one_box (first_in one_box []))

  pub box_holds : HasWord (words_of_cell (heap_of new) one_box) 1 (raw_word v)
  box_holds =
      word_at_offset 1 box_now (omega (arith, box_size box_has writing.box_of.box))
      ∙ ap (λ n. slice_get (heap_words new.seat) (n + 1)) writing.box_of.stands
      ∙ ap (λ all. slice_get all (box + 1)) put_heap
      ∙ slice_get-set_same (heap_words old.seat) (box + 1) (raw_word v)
      (omega (arith, within, writing.whole.sized.words))

  -- so the word refers to a box with the integer
  pub refers_to_box : RefersToBox (heap_of new) word v
  refers_to_box = record {
    cell = one_box;
    words = words_of_cell (heap_of new) one_box;
    target = record { refers = writing.box_of.refers.refers; has = box_now };
    box = writing.box_of.box;
    holds = box_holds;
    fits = writing.fits;
  }

  -- and where the object's slots hold what they held, they are refilled
  abbrev pub refills : (was : ℕ → ℕ → Type 0) (one store : ℕ)
      → HasWord (words_of_cell (heap_of old) cell) store_slot store
      → Refills owned (heap_of old) (heap_of new) cell cell others [] was was
  refills was one store slot = record {
    origin = λ k. k;
    apart = λ k other word another there there_too same. same;
    one = one;
    each_slot = λ k word there. ComesFrom.moved there;
    store = store;
    has_store = word_now store_slot store slot;
    store_comes = inl slot;
    belong = beside.belong;
    kinds = beside.kinds;
    stores = λ other among is. absurd (owned_is_no_box writing.owns is
        (ap (λ (c : Cell). c.layout.kind) (sym (one_in one_box other among)) ∙ writing.box_of.box));
    boxes = λ other among is. subst (λ (c : Cell). IsBoxCell c (words_of_cell (heap_of new) c))
        (one_in one_box other among) (record {
          no_number = (subst (λ k. IsSoundOf k (heap_of old) one_box writing.box_of.words) writing.box_of.box
              (writing.whole.sound one_box writing.box_of.words writing.box_of.refers.has)).no_number;
          integer = v;
          fits = writing.fits;
          holds = box_holds;
        });
  }
