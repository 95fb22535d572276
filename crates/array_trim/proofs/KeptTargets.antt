-- What the cells that came of a trim refer to: what is kept.
use Rattle.std.proofs.Common.{◌≡◌, ℕ, ◌+◌, ◌⊎◌, inl, inr, Some, List, [], ◌∷◌, ◌++◌, Contains}
use Rattle.std.proofs.Common.{IsTrue, refl, sym, ◌∙◌, ap, subst, arith, slice_get}
use Rattle.std.proofs.lemmas.Bool.{cases_lt}
use Rattle.std.proofs.lemmas.List.{append-nil}
use Rattle.std.proofs.lemmas.Option.{same_Some}
use Rattle.tagged_word.specs.declared.layout.Kind.TheVariants as kind
use Rattle.tagged_word.specs.Cells.{store_slot, is_object_kind, tagged_offsets, tagged_offsets_of}
use Rattle.tagged_word.proofs.Members.{first_in, one_in}
use Rattle.object_graph.specs.Graphs.{Graph}
use Rattle.object_graph.specs.Reach.{is_marked, reach}
use Rattle.heap_model.specs.Types.{Kind, LayoutWord, Value, Cell}
use Rattle.heap_model.specs.Heaps.{Heap, HasCell, words_of_cell}
use Rattle.heap_model.specs.Slots.{reference_word}
use Rattle.heap_model.specs.Changes.{IsNewPlace}
use Rattle.heap_model.proofs.BoundHeaps.{none_in}
use Rattle.heap_model.proofs.CellsApart.{one_words}
use Rattle.heap_model.proofs.OneOwner.{names_store}
use Rattle.heap_model.proofs.WordClasses.{same_reference}
use Rattle.live_cells.specs.Live.{HasSlotTo}
use Rattle.live_cells.specs.Laws.{BelongsToReached}
use Rattle.mark_world.specs.Cycles.{Cycle}
use Rattle.cycle_laws.specs.Changes.{ReferToKept, WasTargetOf}
use Rattle.object_cells.proofs.OwnSteps.{came_object}
use Rattle.array_trim.proofs.TrimmedCells.{Trimming, list_now, store_now}
use Rattle.array_trim.proofs.TrimmedSlots.{is_object, trim_writing, store_named, elements_now}
use Rattle.array_trim.proofs.TrimmedSlots.{refers_now}
use Rattle.array_trim.proofs.TrimmedPieces.{which, store_before, place_new}
use Rattle.array_trim.proofs.TrimmedPieces.{free_is_no_table, free_no_slot}
use Rattle.array_trim.proofs.TrimmedPieces.{free_scavenged, slot_word_was}

module _ {old new : Heap} {cell store came : Cell} {pieces : List Cell} {before after : List Value} {from : ℕ}
    (trim : Trimming old new cell store came pieces before after from) where
  module _ (graph : Graph) (reached : IsTrue (is_marked (reach graph) cell.header.object)) where
    -- the list's cell belongs to the list
    list_belongs : BelongsToReached new graph cell.at
    list_belongs = BelongsToReached.place cell.header.object (record {
      cell = cell;
      words = words_of_cell new cell;
      has = list_now trim;
      stands = refl;
      object = is_object trim;
      carries = refl;
    }) reached

    -- so does its store
    store_belongs : BelongsToReached new graph came.at
    store_belongs =
        BelongsToReached.named cell (cell.at + store_slot)
        (names_store (reference_word came.at) (list_now trim) (is_object trim) (elements_now trim).slot
        (refers_now trim) (inl trim.still_store)) reached

    -- the list's slot for the store referred to it before, or no cell stood there
    list_slot : {origin at : ℕ} (slot : HasSlotTo new origin at) → slot.cell ≡ cell
        → WasTargetOf old (cell ∷ store ∷ []) at ⊎ IsNewPlace old at
    list_slot {origin} {at} slot same =
        let offsets : Contains (tagged_offsets_of kind.List cell.layout cell.length) slot.offset =
        subst (λ (k : Kind). Contains (tagged_offsets_of k cell.layout cell.length) slot.offset) trim.shown.of_kind
        (subst (λ (c : Cell). Contains (tagged_offsets_of c.layout.kind c.layout c.length) slot.offset) same
        slot.visited)
        in
        let first : store_slot ≡ slot.offset = one_in store_slot slot.offset offsets in
        let words : slot.words ≡ words_of_cell new cell =
        one_words (subst (λ (c : Cell). HasCell new c slot.words) same slot.has) (list_now trim) in
        let place : came.at ≡ at =
        same_reference came.at at (same_Some (reference_word came.at) (reference_word at) (sym (elements_now trim).slot
        ∙ ap (λ n. slice_get (words_of_cell new cell) n) first ∙ ap (λ all. slice_get all slot.offset) (sym words)
        ∙ slot.holds)) in
        elim (cases_lt store.at came.at) [
          | inl begins ↦ inr (subst (IsNewPlace old) place (place_new trim begins))
          | inr none ↦
              let stayed : store.at ≡ at = omega (arith, none, store_before trim, place) in
              inl (record {
                from = cell.at;
                slot = record {
                  cell = cell;
                  words = words_of_cell old cell;
                  has = trim.has;
                  stands = refl;
                  offset = store_slot;
                  visited = subst (λ (k : Kind). Contains (tagged_offsets_of k cell.layout cell.length) store_slot)
                      (sym trim.shown.of_kind) (first_in store_slot []);
                  holds = trim.shown.slot ∙ ap Some (trim.refers.refers ∙ ap reference_word stayed);
                };
                own = record {
                  owner = cell;
                  among = first_in cell (store ∷ []);
                  object = is_object trim;
                  own = inl refl;
                };
              })
        ]

    -- what a slot of the store refers to one of the old store did
    store_slot_was : {origin at : ℕ} (slot : HasSlotTo new origin at) → slot.cell ≡ came
        → WasTargetOf old (cell ∷ store ∷ []) at
    store_slot_was {origin} {at} slot same =
        let offsets =
        subst (λ (c : Cell). Contains (tagged_offsets c.layout c.length) slot.offset) same slot.visited in
        let words : slot.words ≡ words_of_cell new came =
        one_words (subst (λ (c : Cell). HasCell new c slot.words) same slot.has) (store_now trim) in
        let was = slot_word_was trim slot.offset (reference_word at) offsets
        (ap (λ all. slice_get all slot.offset) (sym words) ∙ slot.holds) in
        record {
          from = store.at;
          slot = record {
            cell = store;
            words = words_of_cell old store;
            has = trim.refers.has;
            stands = refl;
            offset = was.offset;
            visited = was.tagged;
            holds = was.holds;
          };
          own = record {
            owner = cell;
            among = first_in cell (store ∷ []);
            object = is_object trim;
            own = inr (cell.at + store_slot, store_named trim);
          };
        }

    -- of what came none but the list's cell is an object's
    came_list : (one : Cell) → Contains (cell ∷ pieces) one → IsTrue (is_object_kind one.layout.kind) → cell ≡ one
    came_list one there object =
        came_object (trim_writing trim) one
        (subst (λ all. Contains all one) (sym (append-nil (cell ∷ pieces))) there) object

    without_none : (one : Cell) → Contains (cell ∷ (pieces ++ [])) one → Contains (cell ∷ pieces) one
    without_none one there = subst (λ all. Contains all one) (append-nil (cell ∷ pieces)) there

    -- and none is a table
    list_no_table : cell.layout.kind ≡ kind.Table → ⊥
    list_no_table table = let apart : kind.List ≡ kind.Table = sym trim.shown.of_kind ∙ table in cc

    store_no_table : came.layout.kind ≡ kind.Table → ⊥
    store_no_table table = let apart : kind.Store ≡ kind.Table = sym trim.still_store ∙ table in cc

    -- so what came refers to what is kept
    pub trim_refers : {cycle : Cycle} → ReferToKept old new graph cycle (cell ∷ store ∷ []) (cell ∷ pieces) []
    trim_refers = record {
      objects = λ one there object. subst (λ (c : Cell). IsTrue (is_marked (reach graph) c.header.object))
          (came_list one there object) reached;
      belong = λ one there. elim (which trim one (without_none one there)) [
        | inl same ↦ inr (subst (λ (c : Cell). BelongsToReached new graph c.at) same list_belongs)
        | inr (inl same) ↦ inr (subst (λ (c : Cell). BelongsToReached new graph c.at) same store_belongs)
        | inr (inr free) ↦ inl (λ offset word at visited holds is. none_in offset
            (subst (λ (all : LayoutWord → ℕ → List ℕ). Contains (all one.layout one.length) offset)
            (free_scavenged free.of_kind) visited))
      ];
      slots = λ from_at at slot there owned. elim (which trim slot.cell (without_none slot.cell there)) [
        | inl same ↦ list_slot slot (sym same)
        | inr (inl same) ↦ inl (store_slot_was slot (sym same))
        | inr (inr free) ↦ absurd (free_no_slot free slot.visited)
      ];
      pairs = λ table key at entry there. elim (which trim entry.cell (without_none entry.cell there)) [
        | inl same ↦ absurd (list_no_table (ap (λ (c : Cell). c.layout.kind) same ∙ entry.of_kind))
        | inr (inl same) ↦ absurd (store_no_table (ap (λ (c : Cell). c.layout.kind) same ∙ entry.of_kind))
        | inr (inr free) ↦ absurd (free_is_no_table free.of_kind entry.of_kind)
      ];
    }
