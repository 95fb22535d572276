-- The elements of a list of which one was put, or one pushed, slot by slot.
use Rattle.std.proofs.Common.{◌≡◌, ◌≢◌, ℕ, ◌<◌, ◌≤◌, ◌⊎◌, inl, inr, List, [], ◌∷◌, ◌++◌, length, Contains, Some}
use Rattle.std.proofs.Common.{slice_get, set, length-set, length-append, sym, ◌∙◌, ap, subst, arith}
use Rattle.std.proofs.lemmas.Bool.{cases_eq, cases_lt}
use Rattle.std.proofs.lemmas.Option.{same_Some, slice_get_within, slice_get_past}
use Rattle.tagged_word.specs.declared.layout.Kind.TheVariants as kind
use Rattle.heap_model.specs.Types.{Value, Cell}
use Rattle.object_graph.specs.Meaning.{list_most}
use Rattle.object_graph.proofs.Lists.{slice_get-set_same, slice_get-set_other}
use Rattle.heap_model.specs.Heaps.{Heap, words_of_cell}
use Rattle.heap_model.specs.Slots.{hole_word, reference_word}
use Rattle.heap_model.specs.Kinds.{HasWord, HasNoNumber, IsBoxCell, count_offset}
use Rattle.heap_model.specs.Wholeness.{Whole, NamesFrom}
use Rattle.heap_model.specs.Showing.{ShowsValue, ShowsList}
use Rattle.heap_model.proofs.CellWords.{slice_get-append_left, slice_get-append_right}
use Rattle.object_cells.specs.OwnSlots.{IsNoBoxOf, ComesFrom, StoreComes}
use Rattle.object_cells.specs.ElementChanges.{WritesList, HasElements, ShowsElement, RefillsElements}
use Rattle.object_cells.proofs.ListSlots.{list_sound}
use Rattle.heap_model.proofs.OneBeside.{one_beside}
use Rattle.object_cells.proofs.WrittenPlaces.{hole_names_none}

-- At a place stands this element now, and each other place has what it had.
pub record DiffersAt (before after : List Value) (place : ℕ) (value : Value) : Type 0 where
  pub here : slice_get after place ≡ Some value
  pub others : (k : ℕ) → k ≢ place → slice_get after k ≡ slice_get before k
  pub more : length before ≤ length after

-- so it is where one was put in the place of another
pub set_differs : (before : List Value) (place : ℕ) (value : Value) → place < length before
    → DiffersAt before (set before place value) place value
set_differs before place value there = record {
  here = slice_get-set_same before place value there;
  others = λ k apart. slice_get-set_other before place k value apart;
  more = omega (arith, length-set before place value);
}

-- a place behind the one element behind others has none
past_pushed : (before : List Value) (value : Value) (k : ℕ) → length before < k
    → slice_get (before ++ value ∷ []) k ≡ slice_get before k
past_pushed before value k behind =
    slice_get_past (before ++ value ∷ []) k (omega (arith, behind, length-append before (value ∷ [])))
    ∙ sym (slice_get_past before k (omega (arith, behind)))

-- and where one was pushed behind them
pub pushed_differs : (before : List Value) (value : Value)
    → DiffersAt before (before ++ value ∷ []) (length before) value
pushed_differs before value = record {
  here = slice_get-append_right before (value ∷ []) 0 (length before) (omega arith);
  others = λ k apart. elim (cases_lt k (length before)) [
    | inl below ↦ slice_get-append_left before (value ∷ []) k below
    | inr from ↦ past_pushed before value k (omega (arith, from, apart))
  ];
  more = omega (arith, length-append before (value ∷ []));
}

-- One element of a list of a whole heap became this, or came behind the others: each slot but its own holds what it
-- held, or is a hole behind the elements; where the word of its own comes from, and that it shows the element; and the
-- cells beside the list's.
pub record PutsElement (old new : Heap) (cell : Cell) (others made : List Cell) (before after : List Value) (place : ℕ)
    (value : Value) : Type 0 where
  pub whole : Whole old
  pub shown : ShowsList old cell (words_of_cell old cell) before
  pub writes : WritesList old new cell others made
  pub differs : DiffersAt before after place value
  pub now : List ℕ
  pub are : HasElements new (words_of_cell new cell) now
  pub counted : HasWord (words_of_cell new cell) count_offset (length after)
  pub few : length after ≤ list_most
  pub enough : length after ≤ length now
  pub keeps : (k word : ℕ) → k ≢ place → HasWord now k word
      → HasWord shown.slots k word ⊎ ((length before ≤ k) × (word ≡ hole_word))
  pub no_box : (k word : ℕ) → k ≢ place → HasWord shown.slots k word → IsNoBoxOf others word
  pub comes : (word : ℕ) → HasWord now place word → ComesFrom new (HasWord shown.slots) made place place place word
  pub shows : (word : ℕ) → HasWord now place word → ShowsValue new word value
  pub store_comes : StoreComes kind.Store old cell made are.store
  pub belong : (other : Cell) → Contains others other → (slot : ℕ) × NamesFrom old cell slot other.at
  pub kinds : (other : Cell) → Contains made other → (other.layout.kind ≡ kind.Store) ⊎ (other.layout.kind ≡ kind.Boxed)
  pub stores : (other : Cell) → Contains (others ++ made) other → other.layout.kind ≡ kind.Store
      → HasNoNumber other × (are.store ≡ reference_word other.at)
  pub boxes : (other : Cell) → Contains (others ++ made) other → other.layout.kind ≡ kind.Boxed
      → IsBoxCell other (words_of_cell new other)

module _ {old new : Heap} {cell : Cell} {others made : List Cell} {before after : List Value} {place : ℕ}
    {value : Value}
    (puts : PutsElement old new cell others made before after place value) where
  -- a slot behind the elements was a hole
  hole_behind : (k word : ℕ) → length before ≤ k → HasWord puts.shown.slots k word → word ≡ hole_word
  hole_behind k word behind stood =
      let shown = puts.shown in
      let sound = list_sound puts.whole puts.writes.stood puts.writes.of_kind in
      let store : sound.store ≡ shown.store = same_Some sound.store shown.store (sym sound.slot ∙ shown.slot) in
      let slots = one_beside sound.store shown.store sound.beside shown.slots store sound.stands shown.has in
      let count : sound.count ≡ length before =
      same_Some sound.count (length before) (sym sound.counted ∙ shown.counted) in
      sound.hold.rest k word (omega (arith, count, behind)) (ap (λ all. slice_get all k) slots ∙ stood)

  -- where the word of each slot comes from
  slot_comes : (k word : ℕ) → HasWord puts.now k word → ComesFrom new (HasWord puts.shown.slots) made k place k word
  slot_comes k word there = elim (cases_eq k place) [
    | inl same ↦
        subst (λ n. HasWord puts.now n word → ComesFrom new (HasWord puts.shown.slots) made n place n word) (sym same)
        (puts.comes word) there
    | inr apart ↦ elim (puts.keeps k word apart there) [
      | inl stood ↦ ComesFrom.moved stood
      | inr hole ↦ subst (ComesFrom new (HasWord puts.shown.slots) made k place k) (sym hole.1)
          (ComesFrom.none hole_names_none)
    ]
  ]

  -- what each slot shows
  slot_shows : (k word : ℕ) (one : Value) → slice_get after k ≡ Some one → HasWord puts.now k word
      → ShowsElement new puts.shown.slots others before k word one
  slot_shows k word one is there = elim (cases_eq k place) [
    | inl same ↦
        ShowsElement.fresh (subst (ShowsValue new word)
        (same_Some value one (sym puts.differs.here ∙ ap (slice_get after) (sym same) ∙ is))
        (puts.shows word (subst (λ n. HasWord puts.now n word) same there)))
    | inr apart ↦
        let was : slice_get before k ≡ Some one = sym (puts.differs.others k apart) ∙ is in
        elim (puts.keeps k word apart there) [
          | inl stood ↦ ShowsElement.kept was stood (puts.no_box k word apart stood)
          | inr hole ↦ absurd (omega (arith, hole.0, slice_get_within before k one was))
        ]
  ]

  -- the slots behind the elements are holes
  slot_rest : (k word : ℕ) → length after ≤ k → HasWord puts.now k word → word ≡ hole_word
  slot_rest k word behind there =
      let within = slice_get_within after place value puts.differs.here in
      elim (puts.keeps k word (λ same. omega (arith, same, behind, within)) there) [
        | inl stood ↦ hole_behind k word (omega (arith, behind, puts.differs.more)) stood
        | inr hole ↦ hole.1
      ]

  -- so its slots refill the list
  pub element_refills : RefillsElements old new cell others made before after
  element_refills = record {
    slots = puts.shown.slots;
    were = record { store = puts.shown.store; slot = puts.shown.slot; stands = puts.shown.has };
    now = puts.now;
    are = puts.are;
    counted = puts.counted;
    few = puts.few;
    enough = puts.enough;
    refills = record {
      origin = λ k. k;
      apart = λ k other word another there there_too same. same;
      one = place;
      each_slot = slot_comes;
      store = puts.are.store;
      has_store = puts.are.slot;
      store_comes = puts.store_comes;
      belong = puts.belong;
      kinds = puts.kinds;
      stores = puts.stores;
      boxes = puts.boxes;
    };
    each_element = slot_shows;
    rest = slot_rest;
  }
