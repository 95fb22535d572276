-- A plain object to which one field more came in a slot that it had: in the object, or in its store.
use Rattle.std.proofs.Common.{◌≡◌, ℕ, ◌+◌, ◌<◌, inl, inr, List, [], ◌∷◌, ◌++◌, length, Contains, nat_lt}
use Rattle.std.proofs.Common.{slice_get, sym, ◌∙◌, ap, subst, arith}
use Rattle.std.proofs.lemmas.Bool.{cases_eq}
use Rattle.std.proofs.lemmas.Option.{same_Some}
use Rattle.std.proofs.lemmas.List.Elements.{Contains-append_cases}
use Rattle.tagged_word.specs.declared.layout.Kind.TheVariants as kind
use Rattle.tagged_word.specs.Cells.{store_slot}
use Rattle.heap_model.specs.Types.{Field, Cell}
use Rattle.object_graph.specs.Paths.{path_of}
use Rattle.shape_tree.specs.Shapes.{shape_path}
use Rattle.cell_layout.specs.Cells.{IsRow}
use Rattle.heap_model.specs.Heaps.{Heap, words_of_cell}
use Rattle.heap_model.specs.Kinds.{HasSlots, IsPlainCell, IsBoxCell}
use Rattle.heap_model.specs.Needs.{capacity_at}
use Rattle.heap_model.specs.Showing.{ShowsField}
use Rattle.object_cells.specs.Capacities.{ChangesObject}
use Rattle.object_cells.specs.CellWrites.{reshaped}
use Rattle.object_cells.specs.OwnSlots.{ComesFrom, StoreComes}
use Rattle.object_cells.specs.SlotChanges.{IsTaggedSlot, HasTagged}
use Rattle.object_cells.proofs.NumberedSlots.{IsNumbered, one_address, one_number}
use Rattle.object_cells.proofs.SlotsNow.{PutsOwn, store_now, proto_now, slot_now}
use Rattle.object_cells.proofs.OwnPlaces.{IsSlotPlace, plain_is_object}
use Rattle.object_cells.proofs.OneField.{slots_after}
use Rattle.object_cells.proofs.OwnCapacities.{one_keeps}
use Rattle.shape_change.proofs.AddedSlots.{SlotIs, PutsOne, AddsSlot}

-- The word of a field that is new was put in the slot behind those of the other fields, for which there is one.
pub record AddsOne (old new : Heap) (cell : Cell) (next at word : ℕ) (others made : List Cell) (fields : List Field)
    (field : Field) : Type 0 where
  pub puts : PutsOwn old new cell next at word others made
  pub sound : IsPlainCell old cell (words_of_cell old cell)
  pub was : shape_path old.paths cell.header.shape ≡ path_of cell.layout.cap fields
  pub path : shape_path new.paths next ≡ path_of cell.layout.cap (fields ++ field ∷ [])
  pub there : length fields < length sound.slots
  pub numbered : IsNumbered old cell (words_of_cell old cell) (length fields) at
  pub place : IsSlotPlace old cell sound.has.store at others

-- the slots are those from before with the word in one
one_puts : {old new : Heap} {cell : Cell} {next at word : ℕ} {others made : List Cell} {fields : List Field}
    {field : Field} (now : List ℕ) (adds : AddsOne old new cell next at word others made fields field)
    → HasSlots new (words_of_cell new (reshaped new.paths cell next)) now
    → PutsOne adds.sound.slots now (length fields) word
one_puts {old} {new} {cell} {at = at} {word} {fields = fields} now adds are k x there =
    let puts = adds.puts in
    let one = slot_now k x puts adds.sound.has are there in
    elim (cases_eq k (length fields)) [
      | inl same ↦
          let numbered = subst (λ n. IsNumbered old cell (words_of_cell old cell) n one.a) same one.numbered in
          let address : one.a ≡ at = one_address (length fields) one.a at numbered adds.numbered in
          SlotIs.put same (same_Some x word (sym one.stands ∙ ap (slice_get new.words) address ∙ puts.one.put))
      | inr apart ↦
          SlotIs.kept apart (one.kept
          (λ same. apart (one_number k (length fields) at puts.whole.rows puts.has (plain_is_object puts.plain)
          (subst (IsNumbered old cell (words_of_cell old cell) k) same one.numbered) adds.numbered)))
    ]

-- so a field is added, where the word shows it, and only boxes were made
pub one_adds : {old new : Heap} {cell : Cell} {next at word : ℕ} {others made : List Cell} {fields : List Field}
    {field : Field} (adds : AddsOne old new cell next at word others made fields field)
    → ShowsField new (nat_lt (length fields) cell.layout.cap) word field.rep field.value
    → (IsTaggedSlot (reshaped new.paths cell next) (length fields)
    → ComesFrom new (HasTagged cell adds.sound.slots) made (length fields) (length fields) (length fields) word)
    → ((other : Cell) → Contains made other → other.layout.kind ≡ kind.Boxed)
    → ((other : Cell) → Contains made other → IsBoxCell other (words_of_cell new other))
    → AddsSlot old new cell next others made fields field
one_adds {old} {new} {cell} {word = word} {others} {made} {fields} adds shows comes only_boxes boxes =
    let after = slots_after adds.puts adds.sound.has in
    let store : after.are.store ≡ adds.sound.has.store =
    same_Some after.are.store adds.sound.has.store (sym after.are.slot ∙ store_now adds.puts adds.sound.has.slot) in
    record {
      whole = adds.puts.whole;
      has = adds.puts.has;
      plain = adds.puts.plain;
      sound = adds.sound;
      was = adds.was;
      path = adds.path;
      now = after.now;
      are = after.are;
      proto = proto_now adds.puts;
      word = word;
      puts = one_puts after.now adds after.are;
      room = omega (arith, adds.there, after.long);
      shows = shows;
      comes = comes;
      store_comes = subst (StoreComes kind.Store old cell made) (sym store) (inl adds.sound.has.slot);
      belong = λ other among. (cell.at + store_slot, (adds.place.stores other among).named);
      stores_only = λ other among. (adds.place.stores other among).of_kind;
      kinds = λ other among. inr (only_boxes other among);
      stores = λ other among is_store. elim (Contains-append_cases others made other among) [
        | inl beside ↦
            let own = adds.place.stores other beside in
            (own.no_number, store ∙ own.refers)
        | inr new_box ↦
            let apart : kind.Store ≡ kind.Boxed = sym is_store ∙ only_boxes other new_box in
            cc
      ];
      boxes = λ other among is_box. elim (Contains-append_cases others made other among) [
        | inl beside ↦
            let apart : kind.Store ≡ kind.Boxed = sym (adds.place.stores other beside).of_kind ∙ is_box in
            cc
        | inr new_box ↦ boxes other new_box
      ];
    }

-- and each property store has as many slots as before
pub added_keeps : {old new : Heap} {cell : Cell} {next at word from to : ℕ} {others made : List Cell}
    {fields : List Field} {field : Field} (adds : AddsOne old new cell next at word others made fields field)
    → IsRow new.space new.words from to made
    → ((other : Cell) → Contains made other → other.layout.kind ≡ kind.Boxed)
    → ChangesObject old new from to cell.at (capacity_at old cell.at)
added_keeps {cell = cell} {others = others} {made} adds row only_boxes =
    one_keeps adds.puts row (λ other among. (cell.at + store_slot, (adds.place.stores other among).named))
    (λ other among. inr (only_boxes other among)) adds.sound.has.slot (λ other among is_store.
    elim (Contains-append_cases others made other among) [
      | inl beside ↦ (adds.place.stores other beside).refers
      | inr new_box ↦
          let apart : kind.Store ≡ kind.Boxed = sym is_store ∙ only_boxes other new_box in
          cc
    ])
