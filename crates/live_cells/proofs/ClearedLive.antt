-- The same cells are live where only pairs of live weak maps were taken away, and none whose key is live.
use Rattle.std.proofs.Common.{◌≡◌, ℕ, ◌<◌, ◌↔◌, List, [], drop, Some, Contains, slice_get, refl, sym, ◌∙◌, subst}
use Rattle.std.proofs.lemmas.Option.{same_Some, none-some}
use Rattle.tagged_word.specs.declared.layout.Kind.TheVariants as kind
use Rattle.tagged_word.specs.Cells.{store_slot, store_head, tagged_offsets_of}
use Rattle.tagged_word.proofs.Members.{first_in}
use Rattle.page_space.specs.Extents.{Space}
use Rattle.handle_roots.specs.Roots.{root_at}
use Rattle.heap_model.specs.Types.{Cell}
use Rattle.heap_model.specs.Heaps.{Heap, HasCell}
use Rattle.heap_model.specs.Slots.{reference_word, RefersTo}
use Rattle.heap_model.specs.Kinds.{HasWord, Pair, pairs_in, HasTable, IsPowerOfTwo}
use Rattle.heap_model.specs.Wholeness.{Whole}
use Rattle.heap_model.proofs.CellsApart.{one_at, one_words}
use Rattle.heap_model.proofs.SlotWords.{same_target}
use Rattle.heap_model.proofs.WordClasses.{same_reference, undefined_refers_not}
use Rattle.live_cells.specs.Live.{HasSlotTo, HasEntry, IsLive, IsRootTarget, IsStart, AreNoTables, AreLiveFrom}
use Rattle.live_cells.specs.Cleared.{IsPairOfMap, TakesPairs, TakenPairsLeaveLive}
use Rattle.live_cells.specs.Starts.{TakenPairsLeaveStarts}
use Rattle.live_cells.proofs.TablesOfMaps.{IsTableOfMap, map_of_table, pair_of_map, roots_are_no_tables}
use Rattle.live_cells.proofs.TablesOfMaps.{starts_are_no_tables}

-- In one heap the starts are those of the other, slots that marking visits lead to what they led to, and the same
-- entries have live tables and keys.
record KeepsLinks (old new : Heap) (olds news : ℕ → Type 0) : Type 0 where
  starts : (at : ℕ) → olds at ↔ news at
  slots : (from at : ℕ) → IsLive old olds from → HasSlotTo old from at ↔ HasSlotTo new from at
  entries : (table key at : ℕ) → IsLive old olds table → IsLive old olds key
      → HasEntry old table key at ↔ HasEntry new table key at

module _ {old new : Heap} {olds news : ℕ → Type 0} (keeps : KeepsLinks old new olds news) where
  -- what was live is live
  lives_on : (at : ℕ) → IsLive old olds at → IsLive new news at
  lives_on at (IsLive.start there start) = IsLive.start there ((keeps.starts there).0 start)
  lives_on at (IsLive.slot from there live slot) =
      IsLive.slot from there (lives_on from live) ((keeps.slots from there live).0 slot)
  lives_on at (IsLive.entry table key there of_table of_key entry) =
      IsLive.entry table key there (lives_on table of_table) (lives_on key of_key)
      ((keeps.entries table key there of_table of_key).0 entry)

  -- and what is live was
  lived_before : (at : ℕ) → IsLive new news at → IsLive old olds at
  lived_before at (IsLive.start there start) = IsLive.start there ((keeps.starts there).1 start)
  lived_before at (IsLive.slot from there live slot) =
      let before = lived_before from live in
      IsLive.slot from there before ((keeps.slots from there before).1 slot)
  lived_before at (IsLive.entry table key there of_table of_key entry) =
      let table_before = lived_before table of_table in
      let key_before = lived_before key of_key in
      IsLive.entry table key there table_before key_before
      ((keeps.entries table key there table_before key_before).1 entry)

-- a pair of the table to which a word refers is an entry of it
entry_in_table : {heap : Heap} {word : ℕ} {pairs : List Pair} (table key at place : ℕ) (pair : Pair)
    → HasTable heap word pairs → word ≡ reference_word table → slice_get pairs place ≡ Some pair
    → pair.key ≡ reference_word key → pair.value ≡ reference_word at → HasEntry heap table key at
entry_in_table table key at place pair HasTable.none refers there key_is value_is = absurd (none-some pair there)
entry_in_table table key at place pair (HasTable.table word cell words target of_kind power) refers there key_is
    value_is =
    record {
      cell = cell;
      words = words;
      has = target.has;
      stands = same_reference cell.at table (sym target.refers ∙ refers);
      of_kind = of_kind;
      place = place;
      pair = pair;
      among = there;
      key_is = key_is;
      value_is = value_is;
    }

-- so is a pair of a weak map whose word for its table refers to that
entry_of_pair : {heap : Heap} {map : Cell} {words : List ℕ} (store table key at : ℕ) (pair : Pair)
    → HasCell heap map words → HasWord words store_slot store → store ≡ reference_word table
    → IsPairOfMap heap map.at pair → pair.key ≡ reference_word key → pair.value ≡ reference_word at
    → HasEntry heap table key at
entry_of_pair {heap} {map} {words} store table key at pair has slot refers is key_is value_is =
    let same : is.cell ≡ map = one_at is.has has is.stands in
    let has_it : HasCell heap map is.words = subst (λ (one : Cell). HasCell heap one is.words) same is.has in
    let words_are : is.words ≡ words = one_words has_it has in
    let its_slot : HasWord words store_slot is.holds.store =
    subst (λ all. HasWord all store_slot is.holds.store) words_are is.holds.slot in
    let word : is.holds.store ≡ store = same_Some _ _ (sym its_slot ∙ slot) in
    entry_in_table table key at is.holds.at pair is.holds.table (word ∙ refers) is.holds.stands key_is value_is

-- the length of a table to which a word refers is a power of two
table_power : {heap : Heap} {word : ℕ} {pairs : List Pair} {other : Cell} {others : List ℕ}
    → HasTable heap word pairs → RefersTo heap word other others → IsPowerOfTwo other.length
table_power {other = other} HasTable.none refers = absurd (undefined_refers_not other.at refers.refers)
table_power (HasTable.table word cell words target is power) refers =
    subst (λ (one : Cell). IsPowerOfTwo one.length) (same_target target refers) power

module _ {old new : Heap} {marked : List ℕ} (takes : TakesPairs old new marked) where
  -- the first root word of a variable refers to the address, where the regions are these
  abbrev RootRefers : ℕ → ℕ → Space → Type 0
  RootRefers variable at space = slice_get new.words (root_at space variable) ≡ Some (reference_word at)

  -- root words refer to what they referred to
  root_stays : (at : ℕ) → IsRootTarget old at → IsRootTarget new at
  root_stays at target =
      let refers : RootRefers target.variable at old.space =
      takes.roots target.variable target.within ∙ target.refers in
      record {
        variable = target.variable;
        within = subst (λ (space : Space). target.variable < space.variables) (sym takes.space) target.within;
        refers = subst (RootRefers target.variable at) (sym takes.space) refers;
      }

  -- and referred to what they refer to
  root_stood : (at : ℕ) → IsRootTarget new at → IsRootTarget old at
  root_stood at target =
      let within = subst (λ (space : Space). target.variable < space.variables) takes.space target.within in
      let refers : RootRefers target.variable at old.space =
      subst (RootRefers target.variable at) takes.space target.refers in
      record {
        variable = target.variable;
        within = within;
        refers = sym (takes.roots target.variable within) ∙ refers;
      }

  -- so the starts are the same, where the same are given
  start_stays : (given : List ℕ) (at : ℕ) → IsStart old given at → IsStart new given at
  start_stays given at (IsStart.root target) = IsStart.root (root_stays at target)
  start_stays given at (IsStart.among there) = IsStart.among there

  start_stood : (given : List ℕ) (at : ℕ) → IsStart new given at → IsStart old given at
  start_stood given at (IsStart.root target) = IsStart.root (root_stood at target)
  start_stood given at (IsStart.among there) = IsStart.among there

module _ {old new : Heap} {olds news : ℕ → Type 0} (marked : List ℕ) (whole : Whole old)
    (no_tables : AreNoTables old olds) (are : AreLiveFrom old olds marked) (takes : TakesPairs old new marked)
    (same : (at : ℕ) → olds at ↔ news at) where
  -- a slot of a live cell refers to what it referred to
  slot_stays : (from at : ℕ) → Contains marked from → HasSlotTo old from at → HasSlotTo new from at
  slot_stays from at live slot =
      let there = takes.stays slot.cell slot.words slot.has in
      let among = subst (Contains marked) (sym slot.stands) live in
      record {
        cell = slot.cell;
        words = there.0;
        has = there.1;
        stands = slot.stands;
        offset = slot.offset;
        visited = slot.visited;
        holds = takes.slots slot.cell slot.words there.0 slot.offset slot.has there.1 among slot.visited ∙ slot.holds;
      }

  -- and referred to what it refers to
  slot_stood : (from at : ℕ) → Contains marked from → HasSlotTo new from at → HasSlotTo old from at
  slot_stood from at live slot =
      let before = takes.stood slot.cell slot.words slot.has in
      let among = subst (Contains marked) (sym slot.stands) live in
      record {
        cell = slot.cell;
        words = before.0;
        has = before.1;
        stands = slot.stands;
        offset = slot.offset;
        visited = slot.visited;
        holds = sym (takes.slots slot.cell before.0 slot.words slot.offset before.1 slot.has among slot.visited)
            ∙ slot.holds;
      }

  -- a live weak map stands in the new heap, with the word for its table that it had
  map_stays : {map : Cell} {words : List ℕ} (store : ℕ) → HasCell old map words → map.layout.kind ≡ kind.Weak
      → Contains marked map.at → HasWord words store_slot store
      → (others : List ℕ) × HasCell new map others × HasWord others store_slot store
  map_stays {map} {words} store has of_kind live slot =
      let now = takes.stays map words has in
      let visited = subst (λ k. Contains (tagged_offsets_of k map.layout map.length) store_slot) (sym of_kind)
      (first_in store_slot []) in
      (now.0, now.1, takes.slots map words now.0 store_slot has now.1 live visited ∙ slot)

  -- so an entry of its table whose key is live stays
  kept_of_map : {cell : Cell} {words : List ℕ} (key at place : ℕ) (pair : Pair)
      (of_map : IsTableOfMap old olds cell words) → Contains marked key
      → slice_get (pairs_in (drop store_head words)) place ≡ Some pair
      → pair.key ≡ reference_word key → pair.value ≡ reference_word at → HasEntry new cell.at key at
  kept_of_map {cell} key at place pair of_map key_live among key_is value_is =
      let map : Cell = of_map.map in
      let live : Contains marked map.at = (are map.at).1 of_map.live in
      let now = map_stays of_map.sound.store of_map.has of_map.of_kind live of_map.sound.slot in
      entry_of_pair of_map.sound.store cell.at key at pair now.1 now.2 of_map.refers.refers
      (takes.kept map.at key pair live key_live key_is (pair_of_map place pair of_map among)) key_is value_is

  -- and was one
  made_of_map : {cell : Cell} {before words : List ℕ} (key at place : ℕ) (pair : Pair)
      (of_map : IsTableOfMap old olds cell before) → HasCell new cell words → cell.layout.kind ≡ kind.Table
      → slice_get (pairs_in (drop store_head words)) place ≡ Some pair → pair.key ≡ reference_word key
      → pair.value ≡ reference_word at → HasEntry old cell.at key at
  made_of_map {cell} {words = words} key at place pair of_map has of_table among key_is value_is =
      let map : Cell = of_map.map in
      let store : ℕ = of_map.sound.store in
      let live : Contains marked map.at = (are map.at).1 of_map.live in
      let now = map_stays store of_map.has of_map.of_kind live of_map.sound.slot in
      let target : RefersTo new store cell words = record { refers = of_map.refers.refers; has = has } in
      let is : IsPairOfMap new map.at pair = record {
        cell = map;
        words = now.0;
        has = now.1;
        stands = refl;
        of_kind = of_map.of_kind;
        holds = record {
          store = store;
          slot = now.2;
          pairs = pairs_in (drop store_head words);
          table = HasTable.table store cell words target of_table (table_power of_map.sound.table of_map.refers);
          at = place;
          stands = among;
        };
      } in
      entry_of_pair store cell.at key at pair of_map.has of_map.sound.slot of_map.refers.refers
      (takes.none_made map.at key pair live key_is is) key_is value_is

  -- so it is with an entry of any live table
  entry_stays : (table key at : ℕ) → Contains marked table → Contains marked key → HasEntry old table key at
      → HasEntry new table key at
  entry_stays table key at live key_live entry =
      let table_live = (are entry.cell.at).0 (subst (Contains marked) (sym entry.stands) live) in
      let of_map = map_of_table whole no_tables table_live entry.has entry.of_kind in
      subst (λ n. HasEntry new n key at) entry.stands
      (kept_of_map key at entry.place entry.pair of_map key_live entry.among entry.key_is entry.value_is)

  -- there and back
  entry_stood : (table key at : ℕ) → Contains marked table → HasEntry new table key at → HasEntry old table key at
  entry_stood table key at live entry =
      let had = takes.stood entry.cell entry.words entry.has in
      let table_live = (are entry.cell.at).0 (subst (Contains marked) (sym entry.stands) live) in
      let of_map = map_of_table whole no_tables table_live had.1 entry.of_kind in
      subst (λ n. HasEntry old n key at) entry.stands
      (made_of_map key at entry.place entry.pair of_map entry.has entry.of_kind entry.among entry.key_is entry.value_is)

  -- so links are kept
  links_kept : KeepsLinks old new olds news
  links_kept = record {
    starts = same;
    slots = λ from at live. let among = (are from).1 live in (slot_stays from at among, slot_stood from at among);
    entries = λ table key at of_table of_key.
        let among = (are table).1 of_table in
        (entry_stays table key at among ((are key).1 of_key), entry_stood table key at among);
  }

  -- and the same is live
  still_live : AreLiveFrom new news marked
  still_live at =
      (λ among. lives_on links_kept at ((are at).0 among), λ live. (are at).1 (lived_before links_kept at live))

-- from given starts, and from roots alone
pub taken_pairs_leave_starts : TakenPairsLeaveStarts
taken_pairs_leave_starts old new given marked whole no_tables are takes =
    still_live marked whole (starts_are_no_tables given whole no_tables) are takes
    (λ at. (start_stays takes given at, start_stood takes given at))

pub taken_pairs_leave_live : TakenPairsLeaveLive
taken_pairs_leave_live old new graph marked shows are takes =
    still_live marked shows.whole (roots_are_no_tables shows.whole) are takes
    (λ at. (root_stays takes at, root_stood takes at))
