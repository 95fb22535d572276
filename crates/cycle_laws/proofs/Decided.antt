-- Which addresses belong to objects that can be reached is decided, cell by cell.
use Rattle.std.proofs.Common.{◌≡◌, ℕ, ◌+◌, ◌⊎◌, inl, inr, List, Contains}
use Rattle.std.proofs.Common.{Some, slice_get, IsTrue, refl, sym, ◌∙◌, ap, subst}
use Rattle.std.proofs.lemmas.Bool.{cases_eq, false≢true}
use Rattle.tagged_word.specs.declared.layout.Kind.TheVariants as kind
use Rattle.tagged_word.specs.Cells.{scavenge_offsets, store_slot, is_object_kind}
use Rattle.core_parts.proofs.Joining.{decided}
use Rattle.object_graph.specs.Graphs.{Graph}
use Rattle.object_graph.specs.Reach.{is_marked, reach}
use Rattle.heap_model.specs.Types.{Kind, Cell}
use Rattle.heap_model.specs.Heaps.{Heap, HasCell, words_of_cell}
use Rattle.heap_model.specs.Slots.{reference_word, IsPlace}
use Rattle.heap_model.specs.Kinds.{HasWord}
use Rattle.heap_model.specs.Wholeness.{HasSlotAt, IsOwnedKind, NamesFrom}
use Rattle.heap_model.specs.Showing.{Shows}
use Rattle.heap_model.proofs.CellsApart.{one_at}
use Rattle.live_cells.specs.Laws.{BelongsToReached}
use Rattle.live_cells.proofs.CellLists.{cells_in, cell_among, among_has}
use Rattle.live_cells.proofs.ShownTargets.{one_number, place_not_owned}
use Rattle.cycle_laws.proofs.Lists.{IsDecided, some_decided, is_decided}

-- whether a cell belongs to an object by its kind
owned_or_not : (k : Kind) → IsDecided (IsOwnedKind k)
owned_or_not kind.Store = inl tt
owned_or_not kind.Table = inl tt
owned_or_not kind.Boxed = inl tt
owned_or_not _ = inr (λ owned. owned)

-- a slot of a cell that a scavenge visits refers to an address
abbrev HasSlotIn : Cell → List ℕ → ℕ → Type 0
HasSlotIn cell words at =
    (offset : ℕ) × Contains (scavenge_offsets cell.layout cell.length) offset × HasWord words offset (reference_word at)

-- whether one does
slot_decided : (cell : Cell) (words : List ℕ) (at : ℕ) → IsDecided (HasSlotIn cell words at)
slot_decided cell words at =
    some_decided (λ offset. HasWord words offset (reference_word at)) (scavenge_offsets cell.layout cell.length)
    (λ offset there. is_decided (slice_get words offset) (reference_word at))

-- the slot for the store of an object refers to a cell, a slot of which refers to the address
abbrev HasSlotBeside : Heap → List ℕ → ℕ → Cell → Type 0
HasSlotBeside heap words at other =
    HasWord words store_slot (reference_word other.at) × HasSlotIn other (words_of_cell heap other) at

module _ {heap : Heap} {graph : Graph} (shows : Shows heap graph) where
  -- the cells of the heap
  abbrev cells : List Cell
  cells = cells_in shows.whole.rows.rows

  -- whether a cell stands at an address
  cell_decided : (at : ℕ) → IsDecided ((cell : Cell) × Contains cells cell × (cell.at ≡ at))
  cell_decided at = some_decided (λ cell. cell.at ≡ at) cells (λ cell there. cases_eq cell.at at)

  -- an object refers to an address by a slot of its own, or by one of its store
  abbrev Names : Cell → ℕ → Type 0
  Names owner at =
      HasSlotIn owner (words_of_cell heap owner) at
      ⊎ ((other : Cell) × Contains cells other × HasSlotBeside heap (words_of_cell heap owner) at other)

  -- whether it does
  beside_decided : (owner : Cell) (at : ℕ) (other : Cell)
      → IsDecided (HasSlotBeside heap (words_of_cell heap owner) at other)
  beside_decided owner at other =
      elim (is_decided (slice_get (words_of_cell heap owner) store_slot) (reference_word other.at)) [
        | inr none ↦ inr (λ both. none both.0)
        | inl slot ↦ elim (slot_decided other (words_of_cell heap other) at) [
          | inl leads ↦ inl (slot, leads)
          | inr none ↦ inr (λ both. none both.1)
        ]
      ]

  names_decided : (owner : Cell) (at : ℕ) → IsDecided (Names owner at)
  names_decided owner at = elim (slot_decided owner (words_of_cell heap owner) at) [
    | inl own ↦ inl (inl own)
    | inr no_own ↦ elim (some_decided (HasSlotBeside heap (words_of_cell heap owner) at) cells
        (λ other there. beside_decided owner at other)) [
          | inl beside ↦ inl (inr beside)
          | inr none ↦ inr (λ some. elim some [ inl own ↦ no_own own | inr beside ↦ none beside ])
        ]
  ]

  -- an object that can be reached refers to the address
  abbrev IsNamer : ℕ → Cell → Type 0
  IsNamer at owner =
      IsTrue (is_object_kind owner.layout.kind) × IsTrue (is_marked (reach graph) owner.header.object) × Names owner at

  -- whether one does
  namer_decided : (at : ℕ) (owner : Cell) → IsDecided (IsNamer at owner)
  namer_decided at owner = elim (decided (is_object_kind owner.layout.kind)) [
    | inr other ↦ inr (λ is. false≢true (sym other ∙ is.0))
    | inl object ↦ elim (decided (is_marked (reach graph) owner.header.object)) [
      | inr unreached ↦ inr (λ is. false≢true (sym unreached ∙ is.1))
      | inl reached ↦ elim (names_decided owner at) [
        | inl names ↦ inl (object, reached, names)
        | inr none ↦ inr (λ is. none is.2)
      ]
    ]
  ]

  -- what is named so by an owned cell's address, an object names
  named_by : (at : ℕ) (owner cell : Cell) → HasCell heap cell (words_of_cell heap cell) → cell.at ≡ at
      → IsOwnedKind cell.layout.kind → Contains cells owner → IsTrue (is_object_kind owner.layout.kind)
      → Names owner at → (slot : ℕ) × NamesFrom heap owner slot at
  named_by at owner cell has stands owned among object (inl own) = (
    owner.at + own.0,
    record {
      words = words_of_cell heap owner;
      has = among_has shows.whole.rows.are owner among;
      object = object;
      word = reference_word at;
      of_owner = HasSlotAt.own own.0 (reference_word at) own.1 own.2;
      cell = cell;
      others = words_of_cell heap cell;
      refers = record { refers = ap reference_word (sym stands); has = has };
      owned = owned;
      at = stands;
    },
  )
  named_by at owner cell has stands owned among object (inr beside) =
      let other : Cell = beside.0 in
      let has_other = among_has shows.whole.rows.are other beside.1 in
      let leads = beside.2.1 in (
        other.at + leads.0,
        record {
          words = words_of_cell heap owner;
          has = among_has shows.whole.rows.are owner among;
          object = object;
          word = reference_word at;
          of_owner = HasSlotAt.beside (reference_word other.at) other (words_of_cell heap other) leads.0
              (reference_word at) beside.2.0 (record { refers = refl; has = has_other }) leads.1 leads.2;
          cell = cell;
          others = words_of_cell heap cell;
          refers = record { refers = ap reference_word (sym stands); has = has };
          owned = owned;
          at = stands;
        },
      )

  -- and what an object names is referred to so
  slots_name : {owner : Cell} {words : List ℕ} {slot word : ℕ} (at : ℕ) → HasCell heap owner words
      → HasSlotAt heap owner words slot word → word ≡ reference_word at → Names owner at
  slots_name {owner} at has (HasSlotAt.own offset word there stands) is =
      inl (
        offset,
        there,
        subst (λ all. HasWord all offset (reference_word at)) (sym has.words_are)
            (stands ∙ ap (λ one. Some one) is),
      )
  slots_name {owner} at has (HasSlotAt.beside store other others offset word slot refers there stands) is =
      inr (
        other,
        cell_among shows.whole.rows.are refers.has,
        (
          subst (λ all. HasWord all store_slot (reference_word other.at)) (sym has.words_are)
              (slot ∙ ap (λ one. Some one) refers.refers),
          (
            offset,
            there,
            subst (λ all. HasWord all offset (reference_word at)) (sym refers.has.words_are)
                (stands ∙ ap (λ one. Some one) is),
          ),
        ),
      )

  -- whether a cell that an object may own belongs
  owned_belongs : (at : ℕ) (cell : Cell) → HasCell heap cell (words_of_cell heap cell) → cell.at ≡ at
      → IsOwnedKind cell.layout.kind → IsDecided (BelongsToReached heap graph at)
  owned_belongs at cell has stands owned =
      elim (some_decided (IsNamer at) cells (λ owner there. namer_decided at owner)) [
        | inl some ↦
            let owner : Cell = some.0 in
            let names = named_by at owner cell has stands owned some.1 some.2.0 some.2.2 in
            inl (BelongsToReached.named owner names.0 names.1 some.2.1)
        | inr none ↦ inr (λ belongs. elim belongs [
          | BelongsToReached.place number place reached ↦ place_not_owned place has stands owned
          | BelongsToReached.named owner slot names reached ↦
              none (
                owner,
                cell_among shows.whole.rows.are names.has,
                (
                  names.object,
                  reached,
                  slots_name at names.has names.of_owner (names.refers.refers ∙ ap reference_word names.at),
                ),
              )
        ])
      ]

  -- whether an object's cell belongs
  object_belongs : (at : ℕ) (cell : Cell) → HasCell heap cell (words_of_cell heap cell) → cell.at ≡ at
      → IsTrue (is_object_kind cell.layout.kind) → IsDecided (BelongsToReached heap graph at)
  object_belongs at cell has stands object =
      let here : IsPlace heap cell.header.object at = record {
        cell = cell;
        words = words_of_cell heap cell;
        has = has;
        stands = stands;
        object = object;
        carries = refl;
      } in
      elim (decided (is_marked (reach graph) cell.header.object)) [
        | inl reached ↦ inl (BelongsToReached.place cell.header.object here reached)
        | inr unreached ↦ inr (λ belongs. elim belongs [
          | BelongsToReached.place number place reached ↦
              let same = one_number here place in
              false≢true (sym unreached ∙ ap (λ n. is_marked (reach graph) n) same ∙ reached)
          | BelongsToReached.named owner slot names reached ↦
              place_not_owned here names.refers.has names.at names.owned
        ])
      ]

  -- so whether an address belongs is decided
  pub belongs_decided : (at : ℕ) → IsDecided (BelongsToReached heap graph at)
  belongs_decided at = elim (cell_decided at) [
    | inr none ↦ inr (λ belongs. elim belongs [
      | BelongsToReached.place number place reached ↦
          none (place.cell, cell_among shows.whole.rows.are place.has, place.stands)
      | BelongsToReached.named owner slot names reached ↦
          none (names.cell, cell_among shows.whole.rows.are names.refers.has, names.at)
    ])
    | inl there ↦
        let cell : Cell = there.0 in
        let has = among_has shows.whole.rows.are cell there.1 in
        elim (decided (is_object_kind cell.layout.kind)) [
          | inl object ↦ object_belongs at cell has there.2 object
          | inr other ↦ elim (owned_or_not cell.layout.kind) [
            | inl owned ↦ owned_belongs at cell has there.2 owned
            | inr not_owned ↦ inr (λ belongs. elim belongs [
              | BelongsToReached.place number place reached ↦
                  let same : place.cell ≡ cell = one_at place.has has (place.stands ∙ sym there.2) in
                  false≢true (sym other ∙ ap (λ (one : Cell). is_object_kind one.layout.kind) (sym same) ∙ place.object)
              | BelongsToReached.named owner slot names reached ↦
                  let same : names.cell ≡ cell = one_at names.refers.has has (names.at ∙ sym there.2) in
                  not_owned (subst (λ (one : Cell). IsOwnedKind one.layout.kind) same names.owned)
            ])
          ]
        ]
  ]

  -- whether an object can be reached
  pub number_decided : (number : ℕ) → IsDecided (IsTrue (is_marked (reach graph) number))
  number_decided number = elim (decided (is_marked (reach graph) number)) [
    | inl reached ↦ inl reached
    | inr unreached ↦ inr (λ reached. false≢true (sym unreached ∙ reached))
  ]
