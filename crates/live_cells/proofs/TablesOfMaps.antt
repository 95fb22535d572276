-- A table that is live from starts that are no tables is that of a live weak map.
use Rattle.std.proofs.Common.{◌≡◌, ℕ, List, drop, Some, Contains, slice_get, IsTrue, inr, refl, sym, ◌∙◌, ap, subst}
use Rattle.std.proofs.lemmas.Bool.{false≢true}
use Rattle.std.proofs.lemmas.Option.{same_Some}
use Rattle.tagged_word.specs.declared.layout.Kind.TheVariants as kind
use Rattle.tagged_word.specs.Cells.{store_head, store_slot, is_object_kind}
use Rattle.heap_model.specs.Types.{Kind, Cell}
use Rattle.heap_model.specs.Heaps.{Heap, HasCell}
use Rattle.heap_model.specs.Slots.{reference_word, RefersTo}
use Rattle.heap_model.specs.Kinds.{HasWord, Pair, pairs_in, IsWeakCell, IsSoundOf}
use Rattle.heap_model.specs.Wholeness.{IsOwnedKind, Whole}
use Rattle.live_cells.specs.Live.{HasSlotTo, IsLive, IsRootTarget, IsStart, AreNoTables, AreLiveFrom}
use Rattle.live_cells.specs.Cleared.{HasLiveKeysFrom, IsPairOfMap, LiveMapsTell}
use Rattle.live_cells.specs.Starts.{MapsTellFromStarts}
use Rattle.live_cells.proofs.RootTargets.{root_object}
use Rattle.live_cells.proofs.ShownTargets.{place_not_owned}
use Rattle.live_cells.proofs.Slots.{holds_kind, table_pairs}
use Rattle.live_cells.proofs.StoreSlots.{slot_of_store, value_is_no_store}

-- A table is that of a weak map that is live.
pub record IsTableOfMap (heap : Heap) (starts : ℕ → Type 0) (cell : Cell) (words : List ℕ) : Type 0 where
  pub map : Cell
  pub in_map : List ℕ
  pub has : HasCell heap map in_map
  pub of_kind : map.layout.kind ≡ kind.Weak
  pub live : IsLive heap starts map.at
  pub sound : IsWeakCell heap in_map
  pub refers : RefersTo heap sound.store cell words
  pub pairs_are : sound.pairs ≡ pairs_in (drop store_head words)

-- an object whose store is a table is a weak map, kind by kind
map_of_kind : {heap : Heap} {starts : ℕ → Type 0} {other : Cell} {others : List ℕ} (owner : Cell) (words : List ℕ)
    (k : Kind) (store : ℕ) → HasCell heap owner words → owner.layout.kind ≡ k → IsLive heap starts owner.at
    → IsTrue (is_object_kind k) → IsSoundOf k heap owner words
    → HasWord words store_slot store → RefersTo heap store other others → other.layout.kind ≡ kind.Table
    → IsTableOfMap heap starts other others
map_of_kind {heap} {other = other} {others} owner words kind.Plain store has of_kind live object sound slot target
    of_table =
    let same = same_Some _ _ (sym slot ∙ sound.has.slot) in
    let of_store = holds_kind sound.has.stands (subst (λ n. RefersTo heap n other others) same target) in
    let both : kind.Store ≡ kind.Table = sym of_store ∙ of_table in
    absurd (cc)
map_of_kind {heap} {other = other} {others} owner words kind.List store has of_kind live object sound slot target
    of_table =
    let same = same_Some _ _ (sym slot ∙ sound.slot) in
    let of_store = holds_kind sound.stands (subst (λ n. RefersTo heap n other others) same target) in
    let both : kind.Store ≡ kind.Table = sym of_store ∙ of_table in
    absurd (cc)
map_of_kind {heap} {other = other} {others} owner words kind.Weak store has of_kind live object sound slot target
    of_table =
    let same = same_Some _ _ (sym slot ∙ sound.slot) in
    let refers = subst (λ n. RefersTo heap n other others) same target in
    record {
      map = owner;
      in_map = words;
      has = has;
      of_kind = of_kind;
      live = live;
      sound = sound;
      refers = refers;
      pairs_are = table_pairs sound.table refers;
    }
map_of_kind owner words _ store has of_kind live object sound slot target of_table = absurd (false≢true object)

module _ {heap : Heap} {starts : ℕ → Type 0} (whole : Whole heap) (no_tables : AreNoTables heap starts) where
  -- a slot of a live cell that refers to a table is a weak map's
  map_of_slot : {cell : Cell} {words : List ℕ} (from at : ℕ) → IsLive heap starts from → (slot : HasSlotTo heap from at)
      → HasCell heap cell words → cell.at ≡ at → cell.layout.kind ≡ kind.Table → IsTableOfMap heap starts cell words
  map_of_slot from at live slot has stands of_table =
      let owner : Cell = slot.cell in
      let at_store = slot_of_store from at whole slot has stands (inr of_table) in
      map_of_kind owner slot.words owner.layout.kind (reference_word at) slot.has refl
      (subst (IsLive heap starts) (sym slot.stands) live) at_store.0 (whole.sound owner slot.words slot.has) at_store.1
      (record { refers = ap reference_word (sym stands); has = has }) of_table

  -- so a live table is that of a live weak map
  map_of_table_at : {cell : Cell} {words : List ℕ} (at : ℕ) → IsLive heap starts at → HasCell heap cell words
      → cell.at ≡ at → cell.layout.kind ≡ kind.Table → IsTableOfMap heap starts cell words
  map_of_table_at {cell} {words} at (IsLive.start there start) has stands of_table =
      absurd (no_tables cell words has (subst starts (sym stands) start) of_table)
  map_of_table_at at (IsLive.slot from there live slot) has stands of_table =
      map_of_slot from at live slot has stands of_table
  map_of_table_at at (IsLive.entry table key there live_table live_key entry) has stands of_table =
      absurd (value_is_no_store table key at whole entry has stands (inr of_table))

  pub map_of_table : {cell : Cell} {words : List ℕ} → IsLive heap starts cell.at → HasCell heap cell words
      → cell.layout.kind ≡ kind.Table → IsTableOfMap heap starts cell words
  map_of_table {cell} live has of_table = map_of_table_at cell.at live has refl of_table

-- a pair of a table is one of its map
pub pair_of_map : {heap : Heap} {starts : ℕ → Type 0} {cell : Cell} {words : List ℕ} (place : ℕ) (pair : Pair)
    → (of_map : IsTableOfMap heap starts cell words) → slice_get (pairs_in (drop store_head words)) place ≡ Some pair
    → IsPairOfMap heap of_map.map.at pair
pair_of_map place pair of_map among = record {
  cell = of_map.map;
  words = of_map.in_map;
  has = of_map.has;
  stands = refl;
  of_kind = of_map.of_kind;
  holds = record {
    store = of_map.sound.store;
    slot = of_map.sound.slot;
    pairs = of_map.sound.pairs;
    table = of_map.sound.table;
    at = place;
    stands = subst (λ (all : List Pair). slice_get all place ≡ Some pair) (sym of_map.pairs_are) among;
  };
}

-- the keys of a live table are those of a live map
keys_of_maps : {heap : Heap} {starts : ℕ → Type 0} (marked : List ℕ) → Whole heap → AreNoTables heap starts
    → AreLiveFrom heap starts marked
    → ((map key : ℕ) (pair : Pair) → Contains marked map → IsPairOfMap heap map pair → pair.key ≡ reference_word key
    → Contains marked key)
    → HasLiveKeysFrom heap starts
keys_of_maps {heap} {starts} marked whole no_tables are keys table key live is =
    let live_cell = subst (IsLive heap starts) (sym is.stands) live in
    let of_map = map_of_table whole no_tables live_cell is.has is.of_kind in
    (are key).0 (keys of_map.map.at key is.pair ((are of_map.map.at).1 of_map.live)
    (pair_of_map is.place is.pair of_map is.among) is.key_is)

-- what root words refer to is no table
pub roots_are_no_tables : {heap : Heap} → Whole heap → AreNoTables heap (IsRootTarget heap)
roots_are_no_tables whole cell words has target of_table =
    place_not_owned (root_object cell.at whole target).1 has refl (subst IsOwnedKind (sym of_table) tt)

-- so the starts are none, where those that are given are none
pub starts_are_no_tables : {heap : Heap} (given : List ℕ) → Whole heap → AreNoTables heap (Contains given)
    → AreNoTables heap (IsStart heap given)
starts_are_no_tables given whole no_tables cell words has (IsStart.root target) of_table =
    roots_are_no_tables whole cell words has target of_table
starts_are_no_tables given whole no_tables cell words has (IsStart.among there) of_table =
    no_tables cell words has there of_table

-- from given starts, and from roots alone
pub maps_tell_from_starts : MapsTellFromStarts
maps_tell_from_starts heap given marked whole no_tables are keys =
    keys_of_maps marked whole (starts_are_no_tables given whole no_tables) are keys

pub live_maps_tell : LiveMapsTell
live_maps_tell heap graph marked shows are keys =
    keys_of_maps marked shows.whole (roots_are_no_tables shows.whole) are keys
