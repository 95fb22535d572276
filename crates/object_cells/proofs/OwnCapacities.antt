-- How many slots the stores of objects have once words of one object's own cells were written.
use Rattle.std.proofs.Common.{◌≡◌, ℕ, ◌+◌, ◌<◌, ◌≤◌, ◌⊎◌, inl, inr, List, [], ◌∷◌, ◌++◌, Contains, Some}
use Rattle.std.proofs.Common.{IsTrue, slice_get, refl, sym, ◌∙◌, ap, subst, arith}
use Rattle.std.proofs.lemmas.Bool.{false≢true}
use Rattle.std.proofs.lemmas.List.Elements.{Contains-append_cases, Contains-append_right}
use Rattle.heap_model.specs.Types.{Kind, Cell}
use Rattle.tagged_word.specs.declared.layout.Kind.TheVariants as kind
use Rattle.tagged_word.specs.declared.word.Class.TheVariants.{Ref}
use Rattle.tagged_word.specs.Words.{IsClass}
use Rattle.tagged_word.specs.Cells.{store_slot, has_length}
use Rattle.tagged_word.proofs.Members.{first_in, rest_in, in_cases}
use Rattle.page_space.specs.Extents.{Space, layouts_start}
use Rattle.cell_layout.specs.Cells.{IsRow}
use Rattle.cell_layout.proofs.Rows.{row_begins, row_of_none, rows_are_full}
use Rattle.heap_model.specs.Heaps.{Heap, HasCell, words_of_cell}
use Rattle.heap_model.specs.Slots.{reference_word, IsPlace}
use Rattle.heap_model.specs.Wholeness.{NamesFrom, IsOwnedKind}
use Rattle.heap_model.specs.Needs.{capacity_at}
use Rattle.heap_model.proofs.CellOutcomes.{cells_move, object_is_no_filler, owned_is_no_filler, stays_standing}
use Rattle.heap_model.specs.Kinds.{HasWord}
use Rattle.heap_model.proofs.OneOwner.{names_store, one_owner}
use Rattle.heap_model.proofs.SlotWords.{IsStoreKind, store_is_owned}
use Rattle.object_cells.specs.CellWrites.{IsInCell, reshaped}
use Rattle.object_cells.specs.OwnWords.{IsOwnWord}
use Rattle.object_cells.specs.Capacities.{ChangesObject, IsOldOrOwn, WritesBeside, CapacitiesStay, CapacitiesGrow}
use Rattle.object_cells.proofs.KeptCapacities.{capacity_of_store, slot_keeps, place_keeps, stands_there}
use Rattle.object_cells.proofs.OwnerWrites.{plain_owns}
use Rattle.object_cells.proofs.OwnSteps.{OwnWriting, own_writing, stood, still_object, went_object, came_object}
use Rattle.object_cells.proofs.OwnSteps.{own_places_stay}
use Rattle.object_cells.proofs.WrittenPlaces.{IsStoreOrBox}
use Rattle.object_cells.proofs.SlotsNow.{PutsOwn, store_is_no_object, store_now, head_stays, beside_stands}

-- a cell that is owned and has a length is a store or a table
pub owned_is_store : (k : Kind) → IsOwnedKind k → IsTrue (has_length k) → IsStoreKind k
owned_is_store kind.Store owned long = inl refl
owned_is_store kind.Table owned long = inr refl
owned_is_store kind.Boxed owned long = absurd (false≢true long)
owned_is_store _ owned long = absurd owned

-- a word of a row of cells is one of each row of these cells
of_same_row : {space : Space} {words : List ℕ} {from to start end : ℕ} (cells : List Cell) (at : ℕ)
    → IsRow space words from to cells → IsRow space words start end cells → from ≤ at → at < to
    → (start ≤ at) × (at < end)
of_same_row [] at row other above below = absurd (omega (arith, row_of_none row, above, below))
of_same_row {space} {words} {from} {to} {start} {end} (cell ∷ cells) at row other above below =
    let same : from ≡ start = sym (row_begins row).starts ∙ (row_begins other).starts in
    let full = rows_are_full space words from to (cell ∷ cells) row in
    let full_too = rows_are_full space words start end (cell ∷ cells) other in
    (omega (arith, same, above), omega (arith, same, below, full, full_too))

module _ {old new : Heap} {cell came : Cell} {others beside made : List Cell}
    (writing : OwnWriting old new cell came others beside made) where
  -- no object is made
  pub none_made : (number at : ℕ) → IsPlace new number at → IsPlace old number at
  none_made number at place = elim (writing.step.cells.back place.cell place.words place.has) [
    | inl comes ↦
        let same = came_object writing place.cell comes place.object in
        record {
          cell = cell;
          words = words_of_cell old cell;
          has = stood writing.step;
          stands = sym writing.step.place ∙ ap (λ (one : Cell). one.at) same ∙ place.stands;
          object = writing.step.object;
          carries = sym writing.step.number ∙ ap (λ (one : Cell). one.header.object) same ∙ place.carries;
        }
    | inr stays ↦ record {
      cell = place.cell;
      words = place.words;
      has = stays.0;
      stands = place.stands;
      object = place.object;
      carries = place.carries;
    }
  ]

  -- the store of another object did not go
  store_not_gone : (owner store : Cell) → (cell ≡ owner → ⊥) → NamesFrom old owner (owner.at + store_slot) store.at
      → IsStoreKind store.layout.kind → Contains (cell ∷ others) store → ⊥
  store_not_gone owner store apart names is there = elim (in_cases cell others store there) [
    | inl same ↦ store_is_no_object same writing.step.object is
    | inr among ↦ apart (one_owner writing.step.whole (writing.belong store among).1 names)
  ]

  -- a word that is in no cell that went is no word of this object's
  gone_own : (other : Cell) (word : ℕ) → Contains (cell ∷ others) other → IsInCell word other
      → IsOwnWord old cell.at word
  gone_own other word there inside = record {
    owner = cell;
    has = stood writing.step;
    stands = refl;
    cell = other;
    there = writing.step.cells.went other there;
    own = elim (in_cases cell others other there) [
      | inl same ↦ inl (sym same)
      | inr among ↦ inr (writing.belong other among)
    ];
    within = inside;
  }

  -- a cell stands there that stood, or came or was made
  came_or_old : ((other : Cell) (words : List ℕ) → Contains (beside ++ made) other
      → IsOldOrOwn old new cell.at other words) → (other : Cell) (words : List ℕ) → HasCell new other words
      → IsOldOrOwn old new cell.at other words
  came_or_old rest other words has = elim (writing.step.cells.back other words has) [
    | inl comes ↦ elim (in_cases came (beside ++ made) other comes) [
      | inl same ↦ IsOldOrOwn.itself (ap (λ (one : Cell). one.at) (sym same) ∙ writing.step.place)
      | inr among ↦ rest other words among
    ]
    | inr stays ↦ IsOldOrOwn.stood stays.0
  ]

  -- Then the object comes to have a store of so many slots, and each other object keeps the capacity of its own; and
  -- where only words of these cells and of a run have changed, those of the cells are words of the object.
  pub own_capacities : (from to capacity : ℕ) → capacity_at new cell.at ≡ capacity
      → ((other : Cell) (words : List ℕ) → Contains (beside ++ made) other → IsOldOrOwn old new cell.at other words)
      → ((at : ℕ) → at < layouts_start old.space
      → ((other : Cell) → Contains (cell ∷ others) other → IsInCell at other → ⊥) → (from ≤ at → at < to → ⊥)
      → slice_get new.words at ≡ slice_get old.words at)
      → ChangesObject old new from to cell.at capacity
  own_capacities from to capacity holds rest stay = record {
    words = λ word below not_own not_new.
        stay word below (λ other there inside. not_own (gone_own other word there inside)) not_new;
    own = holds;
    others = λ number at place apart.
        let not_own : cell ≡ place.cell → ⊥ =
        λ same. apart (sym place.stands ∙ sym (ap (λ (one : Cell). one.at) same)) in
        let cells = cells_move writing.step.cells in
        place_keeps at writing.step.whole place
        (λ store words names has is.
        stands_there (stays_standing cells has (owned_is_no_filler store.layout.kind (store_is_owned is))
        (store_not_gone place.cell store not_own names is)))
        (stays_standing cells place.has (object_is_no_filler place.cell.layout.kind place.object)
        (λ there. not_own (went_object writing.step place.cell there place.object)));
    stays = own_places_stay writing.step;
    stand = λ other words has object apart.
        stays_standing (cells_move writing.step.cells) has (object_is_no_filler other.layout.kind object)
        (λ there. apart (sym (ap (λ (one : Cell). one.at) (went_object writing.step other there object))));
    none_made = none_made;
    cells = came_or_old rest;
  }

module _ {owner owned : Kind} {old new : Heap} {cell came : Cell} {others made : List Cell}
    (writing : WritesBeside owner owned old new cell came others made) where
  -- the cells that went are the object's own
  own : OwnWriting old new cell came others others made
  own = own_writing writing.owns writing.whole writing.writes writing.belong writing.kinds

  -- what came or was made beside the object's cell is a store or table, or a box
  owned_or_box : (other : Cell) → Contains (others ++ made) other
      → (other.layout.kind ≡ owned) ⊎ (other.layout.kind ≡ kind.Boxed)
  owned_or_box other among = elim (Contains-append_cases others made other among) [
    | inl there ↦ (writing.writes.beside other there).of_kind
    | inr there ↦ writing.kinds other there
  ]

  -- the former is the object's
  beside_own : (other : Cell) (words : List ℕ) → Contains (others ++ made) other
      → IsOldOrOwn old new cell.at other words
  beside_own other words among = elim (owned_or_box other among) [
    | inl is ↦
        let has = own.step.cells.comes other (rest_in came (others ++ made) other among) in
        let store : IsStoreKind other.layout.kind =
        subst IsStoreKind (sym is) (owned_is_store owned writing.owns.belongs writing.owns.long) in
        IsOldOrOwn.named came (came.at + store_slot) own.step.place
        (names_store (reference_word other.at) (own.step.cells.comes came (first_in came (others ++ made)))
        (still_object own.step) (writing.stores other among is) (record { refers = refl; has = has }) store)
    | inr boxed ↦ IsOldOrOwn.boxed boxed
  ]

  -- so each other object keeps the capacity of its store
  others_keep : {from to : ℕ} → IsRow new.space new.words from to made → (capacity : ℕ)
      → capacity_at new cell.at ≡ capacity → ChangesObject old new from to cell.at capacity
  others_keep {from} {to} row capacity holds =
      own_capacities own from to capacity holds beside_own (λ at below apart not_made.
      writing.writes.stay at below (λ inside. apart cell (first_in cell others) inside)
      (λ other among inside. apart other (rest_in cell others other among) inside)
      (λ low high.
      let made_there = of_same_row made at writing.writes.made_stand row low high in
      not_made made_there.0 made_there.1))

  -- where the word of its slot for the store stays, the object keeps its capacity too
  pub object_keeps : {from to : ℕ} → IsRow new.space new.words from to made
      → slice_get new.words (cell.at + store_slot) ≡ slice_get old.words (cell.at + store_slot)
      → ChangesObject old new from to cell.at (capacity_at old cell.at)
  object_keeps row stays =
      others_keep row (capacity_at old cell.at)
      (slot_keeps writing.whole
      (λ store words names has is. beside_stands own.step.object own.step.cells has is) (stood own.step)
      own.step.object stays)

  -- where that word refers to a store or a table that was made, the object has as many slots or pairs as that
  pub object_grows : {from to : ℕ} → IsRow new.space new.words from to made → (store : Cell) → Contains made store
      → store.layout.kind ≡ owned → IsClass (Ref store.at)
      → slice_get new.words (cell.at + store_slot) ≡ Some (reference_word store.at)
      → ChangesObject old new from to cell.at store.length
  object_grows row store among of_kind fits there =
      let has = own.step.cells.comes store (Contains-append_right (came ∷ others) made store among) in
      let is : IsStoreKind store.layout.kind =
      subst IsStoreKind (sym of_kind) (owned_is_store owned writing.owns.belongs writing.owns.long) in
      others_keep row store.length (capacity_of_store cell.at has is fits there)

-- so an object keeps its capacity where that word stays
pub capacities_stay : CapacitiesStay
capacities_stay owner owned old new cell came others made beside stays =
    object_keeps beside beside.writes.made_stand stays

-- and has as many slots as a store or table that was made, where it refers to this
pub capacities_grow : CapacitiesGrow
capacities_grow owner owned old new cell came others made store beside among of_kind fits there =
    object_grows beside beside.writes.made_stand store among of_kind fits there

-- a plain object keeps its capacity where one word was put, and not that one
pub one_keeps : {old new : Heap} {cell : Cell} {shape at word from to store : ℕ} {others made : List Cell}
    → PutsOwn old new cell shape at word others made → IsRow new.space new.words from to made
    → ((other : Cell) → Contains others other → (slot : ℕ) × NamesFrom old cell slot other.at)
    → ((other : Cell) → Contains made other → IsStoreOrBox other.layout.kind)
    → HasWord (words_of_cell old cell) store_slot store
    → ((other : Cell) → Contains (others ++ made) other → other.layout.kind ≡ kind.Store
    → store ≡ reference_word other.at) → ChangesObject old new from to cell.at (capacity_at old cell.at)
one_keeps {new = new} {cell} {shape} puts row belong kinds slot refers =
    object_keeps
    (record {
      owns = plain_owns;
      whole = puts.whole;
      writes = puts.writes;
      belong = belong;
      kinds = kinds;
      stores = λ other among is. subst (HasWord (words_of_cell new (reshaped new.paths cell shape)) store_slot)
          (refers other among is) (store_now puts slot);
    }) row
    (head_stays store_slot puts.whole puts.has puts.plain puts.one (omega arith) (omega arith)
    (puts.not_head store_slot (omega arith)))
