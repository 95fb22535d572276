-- What is live belongs to an object that can be reached: along each slot and each entry that marking follows.
use Rattle.std.proofs.Common.{◌≡◌, ℕ, ◌+◌, List, drop, Some, slice_get, IsTrue, refl}
use Rattle.std.proofs.Common.{sym, ◌∙◌, ap, subst}
use Rattle.std.proofs.lemmas.Bool.{false≢true}
use Rattle.std.proofs.lemmas.Option.{same_Some}
use Rattle.tagged_word.specs.declared.layout.Kind.TheVariants as kind
use Rattle.tagged_word.specs.Cells.{store_head, store_slot, is_object_kind}
use Rattle.heap_model.specs.Types.{Object, Entry, Cell}
use Rattle.object_graph.specs.declared.object.Object.TheVariants as graph_object
use Rattle.object_graph.specs.Graphs.{Graph}
use Rattle.object_graph.specs.Reach.{is_marked, reach}
use Rattle.heap_model.specs.Heaps.{Heap, HasCell}
use Rattle.heap_model.specs.Slots.{reference_word, IsPlace, RefersTo}
use Rattle.heap_model.specs.Kinds.{HasWord, Pair, pairs_in}
use Rattle.heap_model.specs.Wholeness.{IsOwnedKind, NamesFrom}
use Rattle.heap_model.specs.Showing.{ShowsValue, IsKnownKey, ShowsWeak, ShowsObject, Shows}
use Rattle.heap_model.proofs.CellsApart.{one_at, one_words}
use Rattle.heap_model.proofs.ObjectSlots.{value_slot}
use Rattle.heap_model.proofs.OneOwner.{names_store}
use Rattle.heap_model.proofs.SlotWords.{store_is_owned}
use Rattle.heap_model.proofs.WordClasses.{same_reference, hole_refers_not}
use Rattle.live_cells.specs.Live.{HasEntry, IsLive, IsRootTarget}
use Rattle.live_cells.specs.Laws.{BelongsToReached, LiveIsReached}
use Rattle.live_cells.proofs.RootTargets.{target_reached}
use Rattle.live_cells.proofs.Slots.{holds_kind, table_pairs}
use Rattle.live_cells.proofs.ShownTargets.{ShownTarget, one_number, place_not_owned, value_target}
use Rattle.live_cells.proofs.SlotsReached.{IsReachedCell, Belongs, kinds_differ, reached_cell}
use Rattle.live_cells.proofs.SlotsReached.{link_belongs, slot_belongs}
use Rattle.live_cells.proofs.ObjectTargets.{LinkTarget, at_is_in}

module _ {heap : Heap} {graph : Graph} (shows : Shows heap graph) where
  -- an object of a live address can be reached
  pub place_reached : {number at : ℕ} → Belongs heap graph at → IsPlace heap number at
      → IsTrue (is_marked (reach graph) number)
  place_reached (Belongs.itself cell words is stands) place =
      let here : IsPlace heap cell.header.object cell.at =
      record { cell = cell; words = words; has = is.has; stands = refl; object = is.object; carries = refl } in
      subst (λ n. IsTrue (is_marked (reach graph) n))
      (one_number (subst (IsPlace heap cell.header.object) stands here) place) is.reached
  place_reached (Belongs.its_store cell words word other others is slot target of_kind stands) place =
      absurd (place_not_owned place target.has stands (store_is_owned of_kind))
  place_reached (Belongs.in_box cell words slot is names box) place =
      absurd (place_not_owned place box.has box.stands (subst IsOwnedKind (sym box.box) tt))

  -- the value of an entry of a weak map whose key is live belongs
  value_belongs : {cell : Cell} {words : List ℕ} (entries : List Entry) (key at place : ℕ) (pair : Pair)
      → IsReachedCell heap graph cell words
      → slice_get graph.objects cell.header.object ≡ Some (graph_object.Weak entries)
      → (shown_by : ShowsWeak heap (reach graph) cell words entries) → slice_get shown_by.pairs place ≡ Some pair
      → pair.key ≡ reference_word key → pair.value ≡ reference_word at → Belongs heap graph key
      → IsKnownKey heap (reach graph) entries pair → Belongs heap graph at
  value_belongs entries key at place pair is there shown_by stands key_is value_is key_belongs
      (IsKnownKey.unreached number refers unreached) =
      let same = same_reference refers.at key (sym refers.refers ∙ key_is) in
      let reached = place_reached key_belongs (subst (IsPlace heap number) same refers.place) in
      absurd (false≢true (sym unreached ∙ reached))
  value_belongs {cell} {words} entries key at place pair is there shown_by stands key_is value_is key_belongs
      (IsKnownKey.of_entry entry k in_entries reached refers) =
      let once = shown_by.each k entry in_entries reached in
      let found : place ≡ once.at = once.once place pair stands refers in
      let pair_is : pair ≡ once.pair =
      same_Some _ _ (sym stands ∙ ap (λ n. slice_get shown_by.pairs n) found ∙ once.stands) in
      let value : ShowsValue heap pair.value entry.value =
      subst (λ (one : Pair). ShowsValue heap one.value entry.value) (sym pair_is) once.shows.value in
      let slot = value_slot shown_by.store place pair shown_by.slot shown_by.table stands in
      link_belongs shows (graph_object.Weak entries) at is there slot.1 value_is
      (elim (value_target at value value_is) [
        | ShownTarget.to_object number refers_to target ↦
            LinkTarget.to_object number (entry, at_is_in entries k entry in_entries, reached, refers_to) target
        | ShownTarget.to_box box ↦ LinkTarget.to_box box
      ])

  -- a store that belongs to a weak map is its table
  table_belongs : (table key at : ℕ) (cell other : Cell) (words others : List ℕ) (store : ℕ) (what : Object)
      → IsReachedCell heap graph cell words → slice_get graph.objects cell.header.object ≡ Some what
      → ShowsObject heap (reach graph) cell words what → HasWord words store_slot store
      → RefersTo heap store other others → other.at ≡ table → HasEntry heap table key at → Belongs heap graph key
      → Belongs heap graph at
  table_belongs table key at cell other words others store (graph_object.Plain cap proto fields) is there shown_by slot
      target stands entry key_belongs =
      let same = same_Some _ _ (sym slot ∙ shown_by.0.has.slot) in
      let of_store = holds_kind shown_by.0.has.stands (subst (λ n. RefersTo heap n other others) same target) in
      let of_table = kinds_differ kind.Table target.has entry.has (stands ∙ sym entry.stands) entry.of_kind in
      let both : kind.Store ≡ kind.Table = sym of_store ∙ of_table in
      absurd (cc)
  table_belongs table key at cell other words others store (graph_object.List elements) is there shown_by slot target
      stands entry key_belongs =
      let same = same_Some _ _ (sym slot ∙ shown_by.slot) in
      let of_store = holds_kind shown_by.has (subst (λ n. RefersTo heap n other others) same target) in
      let of_table = kinds_differ kind.Table target.has entry.has (stands ∙ sym entry.stands) entry.of_kind in
      let both : kind.Store ≡ kind.Table = sym of_store ∙ of_table in
      absurd (cc)
  table_belongs table key at cell other words others store (graph_object.Weak entries) is there shown_by slot target
      stands entry key_belongs =
      let same = same_Some _ _ (sym slot ∙ shown_by.slot) in
      let refers = subst (λ n. RefersTo heap n other others) same target in
      let one : entry.cell ≡ other = one_at entry.has target.has (entry.stands ∙ sym stands) in
      let has = subst (λ (cell : Cell). HasCell heap cell entry.words) one entry.has in
      let pairs_are : pairs_in (drop store_head entry.words) ≡ shown_by.pairs =
      ap (λ all. pairs_in (drop store_head all)) (one_words has target.has) ∙ sym (table_pairs shown_by.table refers) in
      let stands : slice_get shown_by.pairs entry.place ≡ Some entry.pair =
      subst (λ (all : List Pair). slice_get all entry.place ≡ Some entry.pair) pairs_are entry.among in
      value_belongs entries key at entry.place entry.pair is there shown_by stands entry.key_is entry.value_is
      key_belongs
      (shown_by.others entry.place entry.pair stands
      (λ free. hole_refers_not key (sym (ap (λ (one : Pair). one.key) free) ∙ entry.key_is)))

  -- the value of a pair belongs, where its table and its key do
  pub entry_belongs : (table key at : ℕ) → Belongs heap graph table → Belongs heap graph key
      → HasEntry heap table key at → Belongs heap graph at
  entry_belongs table key at (Belongs.itself cell words is stands) key_belongs entry =
      let of_table = kinds_differ kind.Table is.has entry.has (stands ∙ sym entry.stands) entry.of_kind in
      absurd (false≢true (sym (ap is_object_kind of_table) ∙ is.object))
  entry_belongs table key at (Belongs.its_store cell words store other others is slot target of_kind stands) key_belongs
      entry =
      table_belongs table key at cell other words others store is.what is is.stands is.shows slot target stands entry
      key_belongs
  entry_belongs table key at (Belongs.in_box cell words slot is names box) key_belongs entry =
      let of_table = kinds_differ kind.Table box.has entry.has (box.stands ∙ sym entry.stands) entry.of_kind in
      let both : kind.Boxed ≡ kind.Table = sym box.box ∙ of_table in
      absurd (cc)

  -- what is live belongs
  pub live_belongs : (at : ℕ) → IsLive heap (IsRootTarget heap) at → Belongs heap graph at
  live_belongs at (IsLive.start there target) =
      let object = target_reached at shows target in
      let one = reached_cell shows object.0 at object.1 object.2 in
      Belongs.itself one.0 one.1 one.2 one.3
  live_belongs at (IsLive.slot from there live slot) = slot_belongs shows from at (live_belongs from live) slot
  live_belongs at (IsLive.entry table key there live_table live_key entry) =
      entry_belongs table key at (live_belongs table live_table) (live_belongs key live_key) entry

  -- so it is of an object that can be reached
  pub of_reached : (at : ℕ) → Belongs heap graph at → BelongsToReached heap graph at
  of_reached at (Belongs.itself cell words is stands) =
      BelongsToReached.place cell.header.object (record {
        cell = cell;
        words = words;
        has = is.has;
        stands = stands;
        object = is.object;
        carries = refl;
      }) is.reached
  of_reached at (Belongs.its_store cell words store other others is slot target of_kind stands) =
      BelongsToReached.named cell (cell.at + store_slot)
      (subst (NamesFrom heap cell (cell.at + store_slot)) stands
      (names_store store is.has is.object slot target of_kind)) is.reached
  of_reached at (Belongs.in_box cell words slot is names box) = BelongsToReached.named cell slot names is.reached

-- live is reached
pub live_is_reached : LiveIsReached
live_is_reached heap graph at shows live = of_reached shows at (live_belongs shows at live)
