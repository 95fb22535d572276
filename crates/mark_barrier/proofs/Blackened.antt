-- What a seat, its list and its debts are once a cell was made black.
use Rattle.std.proofs.Common.{◌≡◌, ◌≢◌, inl, inr, ◌+◌, ℕ, Bool, true, IsTrue, IsSome, List, []}
use Rattle.std.proofs.Common.{Some, All, Contains, if◌then◌else◌, slice_index}
use Rattle.std.proofs.Common.{eq-eqb, refl, sym, ap, subst, ◌∙◌, arith}
use Rattle.std.proofs.lemmas.Bool.{cases_eq}
use Rattle.std.proofs.lemmas.List.Elements.{All-contains}
use Rattle.tagged_word.specs.declared.reading.Reading.{Reading}
use Rattle.tagged_word.proofs.Members.{in_map, map_from}
use Rattle.page_space.specs.Extents.{eden_start}
use Rattle.cell_layout.specs.declared.cell.Cell.{Cell}
use Rattle.cell_layout.specs.Cells.{layouts_in, reading_of}
use Rattle.core_parts.specs.Lists.{joined}
use Rattle.core_parts.proofs.Joining.{joined_in, joined_keeps}
use Rattle.core_parts.proofs.Leaving.{left_keeps}
use Rattle.core_parts.proofs.Tested.{not_equal}
use Rattle.mark_laws.specs.PageWords.{HasMainSound}
use Rattle.mark_laws.specs.Types.{MainView}
use Rattle.mark_laws.proofs.Drained.{in_none}
use Rattle.mark_laws.proofs.Joins.{all_from, targets_from, targets_there}
use Rattle.mark_laws.proofs.Slots.{some_at, some_from}
use Rattle.mark_laws.proofs.Starts.{free_or_mine}
use Rattle.mark_world.specs.Cycles.{Cycle}
use Rattle.mark_world.specs.declared.event.Event.TheVariants as event
use Rattle.mark_world.specs.Pages.{OfTarget, cell_at, is_free, slot_words, slots_of, target, targets_joined}
use Rattle.mark_world.specs.Steps.{black, free_slot_words, words_in_slots}
use Rattle.shared_table.specs.declared.colour.Colour.{Colour}
use Rattle.shared_table.specs.Colours.{number_of}
use Rattle.shared_table.specs.Worlds.{world_at_home}
use Rattle.heap_table.specs.Overviews.{cycle_in, overview, stepped}
use Rattle.heap_table.specs.Seats.{Seat}
use Rattle.mark_barrier.specs.CycleSteps.{made_black}
use Rattle.mark_barrier.specs.Owing.{EachTarget, IsToCome, Owes, own_cell, page_words_of, slot_word}
use Rattle.mark_barrier.specs.Paid.{IsBlackened, ListsGrey, ListsAllBut, StepsTo}
use Rattle.mark_barrier.specs.Waiting.{Waiting}
use Rattle.mark_barrier.proofs.Listed.{black_still}
use Rattle.mark_barrier.proofs.Steps.{IsFound, black_steps}

module _ (seat : Seat) (at : ℕ) (colour : Colour) where
  abbrev main : MainView
  main = (overview seat).view

  abbrev blackened_seat : Seat
  blackened_seat = stepped seat (event.Blacken at) (number_of colour)

  -- it waits no more, and may be on the lists still
  pub black_lists : (grey : Waiting) → IsFound seat at (number_of colour) → ListsAllBut seat grey at
      → ListsGrey blackened_seat grey
  black_lists grey found lists = record {
    room = lists.room;
    waits = lists.waits;
    was = λ one on. elim (cases_eq one at) [
      | inl is ↦ inr (subst (Contains (joined main.mine at)) (sym is) (joined_in main.mine at))
      | inr other ↦ elim (lists.was one on) [
        | inl waits ↦ inl (left_keeps main.grey at one other waits)
        | inr mine ↦ inr (joined_keeps main.mine at one mine)
      ]
    ];
    born = lists.born;
    passed = black_still seat blackened_seat grey grey seat.table
        (made_black (overview seat).old (overview seat).words (overview seat).layouts (cycle_in seat) at)
        (black_steps seat at colour found).moves (λ one on. on) lists.passed;
  }

  -- where it was black nothing more is owed
  pub black_owed : number_of colour ≡ black → (overview blackened_seat).view.owed ≡ main.owed
  black_owed is =
      ap (λ (b : Bool). if b then main.owed else targets_joined (overview seat).old main.owed
      (free_slot_words (overview seat).old (overview seat).words (overview seat).layouts main at))
      (eq-eqb (number_of colour) black is)

  -- else targets of its tagged slots are owed
  pub targets_owed : number_of colour ≢ black → (overview blackened_seat).view.owed ≡ targets_joined (overview seat).old
      main.owed (free_slot_words (overview seat).old (overview seat).words (overview seat).layouts main at)
  targets_owed other =
      ap (λ (b : Bool). if b then main.owed else targets_joined (overview seat).old main.owed
      (free_slot_words (overview seat).old (overview seat).words (overview seat).layouts main at))
      (not_equal (number_of colour) black other)

-- a cell that is black stays so through steps
pub blackened_later : (seat later : Seat) (at : ℕ) (words : List ℕ) (cycle : Cycle) → IsBlackened seat at
    → StepsTo seat later words cycle → IsBlackened later at
blackened_later seat later at words cycle is steps home =
    let before : (overview seat).home ≡ true = sym steps.moves.home ∙ home in
    (steps.moves.darkens before).stays at (is before)

module _ (seat : Seat) (at : ℕ) (sound : HasMainSound (world_at_home (overview seat)))
    (is_born : Contains (overview seat).view.born at) (mine : Contains (overview seat).view.mine at → ⊥) where
  -- a born cell that the mutator has not made black is a free start
  is_free_start : IsTrue (is_free (overview seat).view at)
  is_free_start = elim (free_or_mine (world_at_home (overview seat)) at
      (All-contains (Contains (overview seat).view.starts) (overview seat).view.born at sound.born is_born)) [
        | inl free ↦ free
        | inr is_mine ↦ absurd (mine is_mine)
      ]

  module _ (layouts : layouts_in seat.space seat.table ≡ (overview seat).layouts) where
    -- a cell is read there
    pub cell_is_read : IsSome (own_cell seat.space seat.table at)
    cell_is_read =
        subst (λ (ls : List ℕ). IsSome (cell_at (eden_start seat.space) (page_words_of seat.space seat.table) ls at))
        (sym layouts) (sound.read at is_free_start)

    module _ (cell : Cell) (is_at : cell.at ≡ at)
        (reads : own_cell seat.space seat.table at ≡ Some (reading_of cell)) where
      abbrev words : List ℕ
      words = page_words_of seat.space seat.table

      abbrev old : ℕ
      old = eden_start seat.space

      -- it is the cell that the event reads
      read_shared : cell_at old words (overview seat).layouts at ≡ Some (reading_of cell)
      read_shared = subst (λ (ls : List ℕ). cell_at old words ls at ≡ Some (reading_of cell)) layouts reads

      -- the words of its tagged slots
      words_are : free_slot_words old words (overview seat).layouts (overview seat).view at
          ≡ slot_words words at (reading_of cell)
      words_are =
          ap (λ (b : Bool). if b then words_in_slots words at (cell_at old words (overview seat).layouts at) else [])
          is_free_start
          ∙ ap (words_in_slots words at) read_shared

      -- a word of a slot, by the address of the cell
      word_is : (offset : ℕ) → slot_word seat.space seat.table cell offset ≡ slice_index words (at + offset)
      word_is offset = ap (λ (a : ℕ). slice_index words (a + offset)) is_at

      -- what is owed is the target of a tagged slot
      debt : (to : ℕ) → Contains (targets_joined old [] (slot_words words at (reading_of cell))) to
          → IsToCome seat.space seat.table cell 0 to
      debt to has = elim (targets_from old [] (slot_words words at (reading_of cell)) to has) [
        | inl before ↦ absurd (in_none [] to refl before)
        | inr (word, there, is) ↦
            let (offset, slot, same) = map_from (λ (o : ℕ). slice_index words (at + o)) (slots_of (reading_of cell))
            word there in
            record {
              offset = offset;
              reached = omega arith;
              slot = slot;
              refers = ap (target old) (word_is offset ∙ same) ∙ is;
            }
      ]

      -- each target of a tagged slot is born
      targets_born : EachTarget seat.space seat.table cell (Contains (overview seat).view.born)
      targets_born = all_from
          (λ (o : ℕ). OfTarget old (slot_word seat.space seat.table cell o) (Contains (overview seat).view.born))
          (slots_of (reading_of cell)) (λ offset slot.
          subst (λ (word : ℕ). OfTarget old word (Contains (overview seat).view.born)) (sym (word_is offset))
          (All-contains (λ (o : ℕ). OfTarget old (slice_index words (at + o)) (Contains (overview seat).view.born))
          (slots_of (reading_of cell)) offset
          (some_at (λ (read : Reading). All (λ (o : ℕ). OfTarget old (slice_index words (at + o))
          (Contains (overview seat).view.born)) (slots_of read))
          (cell_at old words (overview seat).layouts at) (reading_of cell) read_shared
          (sound.slots at is_free_start is_born)) slot))

      -- the mutator is sure of each of them once they joined
      targets_sure : (sure : List ℕ)
          → EachTarget seat.space seat.table cell
          (Contains (targets_joined old sure (slot_words words at (reading_of cell))))
      targets_sure sure = all_from
          (λ (o : ℕ). OfTarget old (slot_word seat.space seat.table cell o)
          (Contains (targets_joined old sure (slot_words words at (reading_of cell)))))
          (slots_of (reading_of cell)) (λ offset slot.
          some_from (Contains (targets_joined old sure (slot_words words at (reading_of cell))))
          (target old (slot_word seat.space seat.table cell offset)) (λ to is.
          targets_there old sure (slot_words words at (reading_of cell)) (slice_index words (at + offset)) to
          (in_map (λ (o : ℕ). slice_index words (at + o)) (slots_of (reading_of cell)) offset slot)
          (ap (target old) (sym (word_is offset)) ∙ is)))

      -- so the debts are those of its slots
      pub black_owes : (colour : Colour) → number_of colour ≢ black → (overview seat).view.owed ≡ []
          → Owes (stepped seat (event.Blacken at) (number_of colour)) cell 0
      black_owes colour other none = record {
        reads = subst (λ (a : ℕ). own_cell seat.space seat.table a ≡ Some (reading_of cell)) (sym is_at) reads;
        owed = subst (λ (xs : List ℕ). All (IsToCome seat.space seat.table cell 0) xs)
            (sym (targets_owed seat at colour other
            ∙ ap (λ (xs : List ℕ). targets_joined old xs (free_slot_words old words (overview seat).layouts
            (overview seat).view at)) none
            ∙ ap (targets_joined old []) words_are))
            (all_from (IsToCome seat.space seat.table cell 0)
            (targets_joined old [] (slot_words words at (reading_of cell))) debt);
        born = targets_born;
        sure = subst (λ (ws : List ℕ). EachTarget seat.space seat.table cell
            (Contains (targets_joined old (overview seat).view.sure ws))) (sym words_are)
            (targets_sure (overview seat).view.sure);
      }
