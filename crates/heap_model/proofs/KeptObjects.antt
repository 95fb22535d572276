-- An object that did not go: its store or table, its boxes and its shape stay.
use Rattle.std.proofs.Common.{◌≡◌, ℕ, ◌-◌, Bool, true, List, length, get_or, Contains, IsTrue, refl, sym}
use Rattle.std.proofs.Common.{◌∙◌, ap, subst, arith, inl, inr, length-append, []}
use Rattle.std.proofs.lemmas.List.{get_or_append_left}
use Rattle.tagged_word.specs.declared.layout.Kind.TheVariants as kind
use Rattle.tagged_word.specs.Shapes.{first_path_shape}
use Rattle.tagged_word.specs.Cells.{store_slot, is_object_kind}
use Rattle.heap_model.specs.Types.{Path, PathField, Cell}
use Rattle.object_graph.specs.declared.value.Rep.TheVariants as rep
use Rattle.shape_tree.specs.Shapes.{IsPathShape, shape_path}
use Rattle.heap_model.specs.Heaps.{Heap, HasCell}
use Rattle.heap_model.specs.Slots.{RefersTo, HoldsStore}
use Rattle.heap_model.specs.Kinds.{HasWord, HasSlots, Pair, HasTable}
use Rattle.heap_model.specs.Wholeness.{IsOwnedKind, HasSlotAt, NamesFrom}
use Rattle.heap_model.proofs.ObjectSlots.{HasSlotOf, FieldSlot, store_slot_at}
use Rattle.heap_model.proofs.SlotWords.{store_is_owned}
use Rattle.heap_model.proofs.WordsStay.{BoxStays}
use Rattle.heap_model.proofs.CellOutcomes.{CellsMove, owned_is_no_filler, stays_standing}
use Rattle.heap_model.proofs.Moves.{Moves, named_stays}

-- an object of the old heap that did not go
pub record Keeps (old new : Heap) (gone : List Cell) (cell : Cell) (words : List ℕ) : Type 0 where
  pub had : HasCell old cell words
  pub has : HasCell new cell words
  pub not_gone : Contains gone cell → ⊥
  pub object : IsTrue (is_object_kind cell.layout.kind)

-- what a slot of it refers to as its own stays
pub owned_stays : {old new : Heap} {gone came made : List Cell} {owner cell : Cell}
    {words others : List ℕ} {slot word : ℕ}
    → Moves old new gone came made → Keeps old new gone owner words → HasSlotAt old owner words slot word
    → RefersTo old word cell others → IsOwnedKind cell.layout.kind → RefersTo new word cell others
owned_stays {old} {owner = owner} {cell} {words} {others} {slot} {word} moves keeps at refers owned =
    let names : NamesFrom old owner slot cell.at = record {
      words = words;
      has = keeps.had;
      object = keeps.object;
      word = word;
      of_owner = at;
      cell = cell;
      others = others;
      refers = refers;
      owned = owned;
      at = refl;
    } in
    let stays = named_stays moves names keeps.not_gone refers.has refl in
    record {
      refers = refers.refers;
      has = stays_standing moves.cells refers.has (owned_is_no_filler cell.layout.kind owned) stays;
    }

-- its boxes stay
pub kept_box : {old new : Heap} {gone came made : List Cell} {owner : Cell} {words : List ℕ} {word : ℕ}
    → Moves old new gone came made → Keeps old new gone owner words → HasSlotOf old owner words word
    → BoxStays old new word
kept_box moves keeps slot v box =
    let owned : IsOwnedKind box.cell.layout.kind = subst IsOwnedKind (sym box.box) tt in
    record {
      cell = box.cell;
      words = box.words;
      target = owned_stays moves keeps slot.1 box.target owned;
      box = box.box;
      holds = box.holds;
      fits = box.fits;
    }

-- what stands beside it stays
pub kept_beside : {old new : Heap} {gone came made : List Cell} {owner : Cell} {words slots : List ℕ} (store : ℕ)
    → Moves old new gone came made → Keeps old new gone owner words → HasWord words store_slot store
    → HoldsStore old kind.Store store slots → HoldsStore new kind.Store store slots
kept_beside store moves keeps slot HoldsStore.none = HoldsStore.none
kept_beside store moves keeps slot (HoldsStore.store to cell others refers is) =
    HoldsStore.store store cell others
    (owned_stays moves keeps (store_slot_at store keeps.object slot) refers (store_is_owned (inl is))) is

-- its table stays
pub kept_table : {old new : Heap} {gone came made : List Cell} {owner : Cell} {words : List ℕ}
    {pairs : List Pair} (store : ℕ)
    → Moves old new gone came made → Keeps old new gone owner words → HasWord words store_slot store
    → HasTable old store pairs → HasTable new store pairs
kept_table store moves keeps slot HasTable.none = HasTable.none
kept_table store moves keeps slot (HasTable.table to cell others refers is power) =
    HasTable.table store cell others
    (owned_stays moves keeps (store_slot_at store keeps.object slot) refers (store_is_owned (inr is))) is power

-- its slots stay
pub kept_slots : {old new : Heap} {gone came made : List Cell} {owner : Cell} {words slots : List ℕ}
    → Moves old new gone came made → Keeps old new gone owner words → HasSlots old words slots
    → HasSlots new words slots
kept_slots moves keeps slots = record {
  store = slots.store;
  slot = slots.slot;
  beside = slots.beside;
  stands = kept_beside slots.store moves keeps slots.slot slots.stands;
  are = slots.are;
}

-- a field that is not raw stands in a slot
pub slot_unless_raw : {heap : Heap} {cell : Cell} {words : List ℕ} {own : Bool} {field : PathField} {word : ℕ}
    → FieldSlot heap cell words own field word → (own ≡ true → field.rep ≡ rep.Wide → ⊥)
    → HasSlotOf heap cell words word
slot_unless_raw (FieldSlot.raw own wide) not_raw = absurd (not_raw own wide)
slot_unless_raw (FieldSlot.in_slot slot) not_raw = slot

-- a shape of a path stays that of the path
pub kept_path : {old new : Heap} {gone came made : List Cell} (shape : ℕ) → CellsMove old new gone came made
    → IsPathShape old.paths shape → shape_path new.paths shape ≡ shape_path old.paths shape
kept_path {old} {new} shape cells is =
    let at : ℕ = shape - first_path_shape in
    let none : Path = record { cap = 0; fields = [] } in
    ap (λ paths. get_or paths at none) cells.paths
    ∙ get_or_append_left old.paths cells.more none at (omega (arith, is.from, is.below))

-- and a shape of a path
pub kept_shape : {old new : Heap} {gone came made : List Cell} (shape : ℕ) → CellsMove old new gone came made
    → IsPathShape old.paths shape → IsPathShape new.paths shape
kept_shape {old} {new} shape cells is =
    record {
      from = is.from;
      below = omega (arith, is.below, ap length cells.paths, length-append old.paths cells.more);
    }
