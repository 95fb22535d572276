-- A slot of an object comes to hold a value: what its word shows, and which cells the object has then, where a box was
-- made for it, and maybe a store or a table.
use Rattle.std.proofs.Common.{◌≡◌, ℕ, ◌+◌, ◌<◌, ◌⊎◌, inl, inr, false, List, [], ◌∷◌, ◌++◌, Contains, Some, slice_get}
use Rattle.std.proofs.Common.{refl, sym, ◌∙◌, ap, subst, arith}
use Rattle.std.specs.Prelude.{ℤ}
use Rattle.std.proofs.lemmas.Bool.{false≢true}
use Rattle.std.proofs.lemmas.List.Elements.{Contains-append_cases, Contains-append_left, Contains-append_right}
use Rattle.tagged_word.specs.declared.layout.Kind.TheVariants as kind
use Rattle.tagged_word.specs.Cells.{has_length, store_slot}
use Rattle.tagged_word.proofs.Members.{first_in, one_in, rest_in}
use Rattle.object_graph.specs.Invariants.{IsValue}
use Rattle.object_graph.specs.Values.{rep_of}
use Rattle.object_graph.specs.declared.value.Rep.TheVariants as rep
use Rattle.heap_model.specs.Changes.{CellsChange}
use Rattle.heap_model.specs.Heaps.{Heap, HasCell, words_of_cell}
use Rattle.heap_model.specs.Kinds.{HasWord, HasNoNumber, IsBoxCell}
use Rattle.heap_model.specs.Showing.{ShowsValue}
use Rattle.heap_model.specs.Slots.{reference_word, RefersToBox}
use Rattle.heap_model.specs.Types.{Kind, Value, Cell}
use Rattle.heap_model.specs.Wholeness.{Whole, NamesFrom}
use Rattle.heap_model.proofs.BoundHeaps.{none_in}
use Rattle.heap_model.proofs.WordsStay.{PlacesStay}
use Rattle.write_barrier.specs.MutatorState.{Mutator, heap_of}
use Rattle.object_cells.specs.Capacities.{WritesBeside}
use Rattle.object_cells.specs.CellWrites.{Owns, WritesOwnCells}
use Rattle.object_cells.specs.Made.{content_word}
use Rattle.object_cells.specs.OwnSlots.{ComesFrom}
use Rattle.object_cells.specs.declared.content.SlotContent.{SlotContent}
use Rattle.object_cells.specs.declared.content.SlotContent.TheVariants as content
use Rattle.object_cells.proofs.ContentValues.{content_shows, content_comes, is_made_box}
use Rattle.object_cells.proofs.FilledRuns.{FillsOwn, own_row, filled_writes}
use Rattle.object_cells.proofs.HeldContents.{HoldsValue}
use Rattle.object_cells.proofs.MadeBoxes.{made_boxes, BoxStands, made_box, boxed_integer, refers_to_made, made_boxed}
use Rattle.object_cells.proofs.MadeBoxes.{made_sound}
use Rattle.object_cells.proofs.NewBoxes.{box_cell}
use Rattle.object_cells.proofs.OwnSteps.{written_places_stay}
use Rattle.object_cells.proofs.OwnerWrites.{writes_own, written_own_keeps_cells}
use Rattle.object_cells.proofs.SlotsNow.{word_at_offset}

-- the cell is of the kind, has no object's number, and is what the word refers to
pub record IsItsStore (owned : Kind) (store : ℕ) (one : Cell) : Type 0 where
  pub of_kind : one.layout.kind ≡ owned
  pub no_number : HasNoNumber one
  pub refers : store ≡ reference_word one.at

-- so it is of each of one cell
pub only_store : {owned : Kind} {store : ℕ} {first : Cell} → IsItsStore owned store first → (one : Cell)
    → Contains (first ∷ []) one → IsItsStore owned store one
only_store {owned} {store} {first} is one among = subst (IsItsStore owned store) (one_in first one among) is

-- Words of an object's own cells were written, and a slot of it comes to hold a value. `others` are what stood of its
-- stores, and `firsts` what was made; a box was made for the value if that needs one. The word `store` refers to them.
pub record TakesValue (owner owned : Kind) (old new : Heap) (cell came : Cell) (others firsts : List Cell)
    (holds : SlotContent) (box : ℕ) (what : Value) (store : ℕ) : Type 0 where
  pub owns : Owns owner owned
  pub whole : Whole old
  pub writes : WritesOwnCells owner owned old new cell came others (firsts ++ made_boxes holds box)
  pub belong : (other : Cell) → Contains others other → (slot : ℕ) × NamesFrom old cell slot other.at
  pub each : (one : Cell) → Contains (others ++ firsts) one → IsItsStore owned store one
  pub stands : BoxStands new holds box
  pub objects : ℕ
  pub fits : IsValue objects what
  pub value : HoldsValue old false rep.Small (rep_of what) what holds

module _ {owner owned : Kind} {old new : Heap} {cell came : Cell} {others firsts : List Cell} {holds : SlotContent}
    {box store : ℕ} {what : Value}
    (takes : TakesValue owner owned old new cell came others firsts holds box what store) where
  -- the cells that are made
  abbrev boxes : List Cell
  boxes = made_boxes holds box

  abbrev made : List Cell
  made = firsts ++ boxes

  -- cells stand in the new heap
  cells : CellsChange old new (cell ∷ others) (came ∷ others) made
  cells = (written_own_keeps_cells takes.owns takes.whole takes.writes).1

  -- what the object's became
  pub came_has : HasCell new came (words_of_cell new came)
  came_has = cells.comes came (first_in came (others ++ made))

  -- its stores
  pub others_have : (one : Cell) → Contains others one → HasCell new one (words_of_cell new one)
  others_have one among =
      cells.comes one (rest_in came (others ++ made) one (Contains-append_left others made one among))

  -- and those that were made
  pub made_has : (one : Cell) → Contains made one → HasCell new one (words_of_cell new one)
  made_has one among = cells.comes one (Contains-append_right (came ∷ others) made one among)

  -- the box stands there
  box_has : (one : Cell) → Contains boxes one → HasCell new one (words_of_cell new one)
  box_has one among = made_has one (Contains-append_right firsts boxes one among)

  -- the word of its slot for a store is that of the heap
  pub slot_is : store_slot < cell.size → slice_get new.words (cell.at + store_slot) ≡ Some store
      → HasWord (words_of_cell new came) store_slot store
  slot_is short there =
      let own = writes_own takes.owns takes.whole takes.writes in
      word_at_offset store_slot came_has (omega (arith, short, own.size))
      ∙ ap (λ n. slice_get new.words (n + store_slot)) own.place ∙ there

  -- objects keep their places
  pub places : PlacesStay old new
  places = written_places_stay takes.owns takes.whole takes.writes

  -- the box that was made holds the integer
  pub refers_box : (v : ℤ) → holds ≡ content.Boxed v → RefersToBox new (reference_word box) v
  refers_box v is =
      refers_to_made holds box v is (boxed_integer takes.objects v takes.value takes.fits is) takes.stands
      (box_has (box_cell box) (made_box holds box v is))

  -- so the word of the slot shows the value
  pub value_shows : ShowsValue new (content_word holds box) what
  value_shows = content_shows box takes.value places refers_box

  -- and comes from a box that was made, or names nothing
  pub value_comes : (was : ℕ → ℕ → Type 0) (origin slot : ℕ)
      → ComesFrom new was made origin slot slot (content_word holds box)
  value_comes was origin slot =
      content_comes was made origin slot box takes.value places (λ own wide. false≢true own)
      (λ v is. is_made_box box (Contains-append_right firsts boxes (box_cell box) (made_box holds box v is)))

  -- the cells that were made are stores or tables, and boxes
  pub made_kinds : (one : Cell) → Contains made one → (one.layout.kind ≡ owned) ⊎ (one.layout.kind ≡ kind.Boxed)
  made_kinds one among = elim (Contains-append_cases firsts boxes one among) [
    | inl first ↦ inl (takes.each one (Contains-append_right others firsts one first)).of_kind
    | inr is_box ↦ inr (made_boxed holds box one is_box)
  ]

  -- a cell of the object's is its store, or the box
  store_or_box : (one : Cell) → Contains (others ++ made) one → IsItsStore owned store one ⊎ Contains boxes one
  store_or_box one among = elim (Contains-append_cases others made one among) [
    | inl other ↦ inl (takes.each one (Contains-append_left others firsts one other))
    | inr is_made ↦ elim (Contains-append_cases firsts boxes one is_made) [
      | inl first ↦ inl (takes.each one (Contains-append_right others firsts one first))
      | inr is_box ↦ inr is_box
    ]
  ]

  -- what it owns is no box
  no_box : owned ≡ kind.Boxed → ⊥
  no_box same = false≢true (ap has_length (sym same) ∙ takes.owns.long)

  -- its word refers to the stores or tables
  pub stores_told : (one : Cell) → Contains (others ++ made) one → one.layout.kind ≡ owned
      → HasNoNumber one × (store ≡ reference_word one.at)
  stores_told one among of_kind = elim (store_or_box one among) [
    | inl is ↦ (is.no_number, is.refers)
    | inr is_box ↦ absurd (no_box (sym of_kind ∙ made_boxed holds box one is_box))
  ]

  -- and the boxes are sound
  pub boxes_told : (one : Cell) → Contains (others ++ made) one → one.layout.kind ≡ kind.Boxed
      → IsBoxCell one (words_of_cell new one)
  boxes_told one among of_kind = elim (store_or_box one among) [
    | inl is ↦ absurd (no_box (sym is.of_kind ∙ of_kind))
    | inr is_box ↦ made_sound takes.objects box one takes.value takes.fits takes.stands (box_has one is_box) is_box
  ]

  -- so stores, tables and boxes were made beside it, where the slot for its store holds the word
  pub taken_beside : HasWord (words_of_cell new came) store_slot store
      → WritesBeside owner owned old new cell came others made
  taken_beside slot = record {
    owns = takes.owns;
    whole = takes.whole;
    writes = takes.writes;
    belong = takes.belong;
    kinds = made_kinds;
    stores = λ one among is.
        subst (HasWord (words_of_cell new came) store_slot) (stores_told one among is).1 slot;
  }

-- so it is where a run was filled for the object, whose cell is its own
pub filled_takes : {owner owned : Kind} {old new : Mutator} {cell first : Cell} {object own : ℕ} {holds : SlotContent}
    {what : Value} (objects : ℕ) → Owns owner owned → first.layout.kind ≡ owned
    → FillsOwn owner owned old new cell first object own holds → IsValue objects what
    → HoldsValue (heap_of old) false rep.Small (rep_of what) what holds
    → TakesValue owner owned (heap_of old) (heap_of new) cell cell [] (first ∷ []) holds (first.at + first.size) what
    (reference_word first.at)
filled_takes objects owns of_kind is fits value = record {
  owns = owns;
  whole = is.whole;
  writes = filled_writes is;
  belong = λ one among. absurd (none_in one among);
  each = only_store (record { of_kind = of_kind; no_number = is.long.no_number; refers = refl });
  stands = (own_row is).box;
  objects = objects;
  fits = fits;
  value = value;
}
