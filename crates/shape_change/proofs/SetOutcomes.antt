-- What came of setting a field that is there.
use Rattle.std.proofs.Common.{◌≡◌, ℕ, ◌+◌, List, ◌++◌, length, Some, slice_get, set, refl, sym, ◌∙◌, ap, subst}
use Rattle.std.proofs.Common.{inl, inr, nat_lt}
use Rattle.std.proofs.lemmas.Option.{cond_some}
use Rattle.tagged_word.specs.Headers.{header_bits}
use Rattle.page_space.specs.Sizes.{AreWithin}
use Rattle.nursery.specs.Young.{HasRoom}
use Rattle.shape_tree.specs.Shapes.{IsShapeOf}
use Rattle.object_graph.specs.Paths.{path_of, with_path, missing, may_have}
use Rattle.object_graph.specs.Objects.{revalued}
use Rattle.object_graph.specs.Graphs.{Graph, PlainObject}
use Rattle.object_graph.specs.Limits.{paths_most}
use Rattle.write_barrier.specs.Seats.{heap_words, RestStays}
use Rattle.heap_model.specs.Types.{Header, Value, Path, Field}
use Rattle.heap_model.specs.Heaps.{Heap, words_of_cell}
use Rattle.heap_model.specs.Needs.{capacity_at}
use Rattle.heap_model.specs.Rooms.{on_found, field_need, set_need, set_need_by, set_capacity, set_capacity_by}
use Rattle.heap_model.proofs.CellsApart.{first_of_cell, has_is_cell}
use Rattle.heap_model.proofs.CellOutcomes.{object_is_no_filler}
use Rattle.write_barrier.specs.Marking.{with_blackened}
use Rattle.write_barrier.specs.MutatorState.{Mutator, heap_of, with_word}
use Rattle.object_cells.specs.declared.content.SlotContent.{SlotContent}
use Rattle.object_cells.specs.declared.content.SlotWrite.{SlotWrite}
use Rattle.object_cells.specs.declared.content.SlotWrite.TheVariants as filling
use Rattle.object_cells.specs.Uses.{UsesMore}
use Rattle.object_cells.specs.Capacities.{ChangesObjectUsing}
use Rattle.object_cells.specs.Contents.{box_in, next_at, filling_of, filling_at, filling_need, filled, FillsSlot}
use Rattle.object_cells.specs.Contents.{filled_touch}
use Rattle.object_cells.proofs.NothingUsed.{room_for_none}
use Rattle.object_cells.proofs.OneWord.{IsReady}
use Rattle.object_cells.proofs.OwnCells.{cell_below_layouts}
use Rattle.object_cells.proofs.PlainFields.{plain_sound, names_distinct}
use Rattle.object_cells.proofs.UnusedWords.{next_run, run_beside}
use Rattle.object_cells.proofs.OwnPlaces.{plain_is_object}
use Rattle.object_cells.proofs.WordsPut.{HasHead}
use Rattle.object_cells.proofs.TouchedFields.{object_free}
use Rattle.shape_change.proofs.RunTouches.{TouchesSurely}
use Rattle.shape_change.specs.declared.slots.Place.{Place}
use Rattle.shape_change.specs.FieldChanges.{HasSetField}
use Rattle.shape_change.specs.Fillings.{FillsWider}
use Rattle.shape_change.specs.Places.{place_at}
use Rattle.shape_change.proofs.FieldsSet.{place_found, path_stays}
use Rattle.shape_change.proofs.Filled.{allocates_paths}
use Rattle.shape_change.proofs.FilledFields.{next_head}
use Rattle.shape_change.proofs.ReadyHeaps.{ready_allocated, ready_black, ready_laid}
use Rattle.shape_change.proofs.Settings.{Setting, name_is_there, path_is_there}
use Rattle.shape_change.proofs.SettingNeeds.{need_there}
use Rattle.shape_change.proofs.SetFields.{IsNextShape}
use Rattle.shape_change.proofs.SetShown.{FillsAt, fill_shown}
use Rattle.shape_change.proofs.KeepsOpen.{KeepsIfSure, black_keeps, stored_keeps}
use Rattle.shape_change.proofs.SettingFills.{as_it_is_on, as_it_is_surely}
use Rattle.shape_change.proofs.SetTouches.{as_it_is_touches, wider_touched}

-- where a slot is filled, what is used stays
filled_young : (main : Mutator) (at : ℕ) (filling : SlotWrite) → (filled main at filling).young ≡ main.young
filled_young main at (filling.Tagged word) = refl
filled_young main at (filling.Raw word) = refl
filled_young main at (filling.NewBox box v) = refl
filled_young main at (filling.OldBox box v) = refl

-- and the paths stay
filled_paths : (main : Mutator) (at : ℕ) (filling : SlotWrite) → (filled main at filling).paths ≡ main.paths
filled_paths main at (filling.Tagged word) = refl
filled_paths main at (filling.Raw word) = refl
filled_paths main at (filling.NewBox box v) = refl
filled_paths main at (filling.OldBox box v) = refl

-- where the header is put too, only words have changed
head_rest : (before old new : Mutator) (object head : ℕ) → HasHead before old new object head
    → (new.young ≡ old.young) × (new.paths ≡ old.paths)
head_rest before old new object head (inl is) = (
  ap (λ (main : Mutator). main.young) is.0,
  ap (λ (main : Mutator). main.paths) is.0,
)
head_rest before old new object head (inr is) = (
  ap (λ (main : Mutator). main.young) is,
  ap (λ (main : Mutator). main.paths) is,
)

-- so many words were taken
uses_more : {old mid new : Mutator} {need : ℕ} (object head at : ℕ) (filling : SlotWrite) → IsReady old mid need
    → RestStays old.seat new.seat → HasHead mid (filled mid at filling) new object head → new.free ≡ old.free
    → UsesMore old new need
uses_more {mid = mid} {new} object head at filling ready beside put free = record {
  beside = beside;
  young = (head_rest mid (filled mid at filling) new object head put).0 ∙ filled_young mid at filling ∙ ready.young;
  free = free;
}

-- the paths are those from before it was filled
filled_with_paths : (mid new : Mutator) (object head at : ℕ) (filling : SlotWrite)
    → HasHead mid (filled mid at filling) new object head → new.paths ≡ mid.paths
filled_with_paths mid new object head at filling put =
    (head_rest mid (filled mid at filling) new object head put).1 ∙ filled_paths mid at filling

-- paths were added behind the others
pub added_behind : (old new : List Path) (path : Path) → with_path (Some paths_most) old path ≡ Some new
    → new ≡ old ++ missing old path
added_behind old new path added =
    let more = missing old path in
    sym (cond_some (may_have (Some paths_most) (length old + length more)) (old ++ more) new added).1

module _ {old : Mutator} {graph : Graph} {object slot : ℕ} {plain : PlainObject} {what : Value} {name : ℕ}
    (s : Setting old graph object slot plain what name) where
  -- the object keeps the capacity of its property store
  setting_capacity : (capacity : ℕ) → set_capacity capacity plain name ≡ capacity
  setting_capacity capacity =
      ap (set_capacity_by capacity plain)
      (place_found plain.fields slot s.field name (names_distinct s.shows s.is) s.there s.named)

  -- there is room for no word more
  room_for_no_more : HasRoom old.young 0
  room_for_no_more = room_for_none old s.shows.tied s.shows.shows.whole

  -- the header of the object before
  head_was : {mid : Mutator} {need : ℕ} → IsReady old mid need
      → slice_get (heap_words mid.seat) s.cell.at ≡ Some (next_head s s.cell.header.shape)
  head_was {mid} {need} ready =
      let whole = s.shows.shows.whole in
      let first = first_of_cell s.has in
      let run = next_run old need s.shows.tied whole.rows ready.room in
      ready.stay s.cell.at (cell_below_layouts whole s.has first)
      (run_beside s.cell.at run (object_is_no_filler s.cell.layout.kind (plain_is_object s.shown.of_kind)) s.has first)
      ∙ (has_is_cell s.has).reads.first

  -- where the representation stays, the shape does
  same_shape : {new : Mutator} → (revalued s.field what).rep ≡ s.field.rep → new.paths ≡ old.paths
      → KeepsIfSure old new s.cell s.cell.header.shape → IsNextShape s new s.cell.header.shape
  same_shape same paths keeps =
      let path : Path = path_of plain.cap (set plain.fields slot (revalued s.field what)) in
      let stays : path ≡ path_of plain.cap plain.fields =
      path_stays plain.cap plain.fields slot s.field (revalued s.field what) s.there refl same in
      let sound = plain_sound s.shows.shows.whole s.has s.shown.of_kind in
      let shape : IsShapeOf old.paths path s.cell.header.shape = record {
        is_shape = sound.shape;
        of_path = s.shown.path ∙ ap (λ n. path_of n plain.fields) s.cap ∙ sym stays;
      } in
      record {
        is_shape = subst (λ all. IsShapeOf all path s.cell.header.shape) (sym paths) shape;
        added = ap (with_path (Some paths_most) old.paths) stays ∙ path_is_there s ∙ ap Some (sym paths);
        keeps = keeps;
      }

  module _ (place : Place) {word : ℕ} {content : SlotContent} (within : AreWithin old.seat.space.sizes
      old.seat.space.variables) (fills : FillsAt s (place_at s.cell.at place) word content) where
    -- the address of the slot, and how it is filled
    abbrev at : ℕ
    at = place_at s.cell.at place

    abbrev fill : SlotWrite
    fill = filling_at old at content

    -- how many words it takes to set the field
    pub setting_need : (capacity : ℕ) → set_need capacity plain name what ≡ filling_need fill
    setting_need capacity =
        let heap : Heap = heap_of old in
        let shows = s.shown.each slot s.field word s.there fills.holds in
        ap (set_need_by capacity plain what)
        (place_found plain.fields slot s.field name (names_distinct s.shows s.is) s.there s.named)
        ∙ ap (λ found. on_found found (λ (one : Field). field_need (nat_lt slot plain.cap) one what)) s.there
        ∙ ap (λ cap. field_need (nat_lt slot cap) s.field what) (sym s.cap)
        ∙ need_there word (next_at old) within s.shows.shows.whole.sized fills.comes shows
        ∙ ap (λ w. filling_need (filling_of (box_in heap w) (next_at old) content)) (sym fills.reads)

    -- the field has the value where its slot was filled, and the object's header is that of the shape
    has_set_field : {mid new : Mutator} {next : ℕ} → IsReady old mid (filling_need fill) → IsNextShape s new next
        → RestStays old.seat new.seat → HasHead mid (filled mid at fill) new s.cell.at (next_head s next)
        → TouchesSurely old new s.cell.at (filled_touch fill at)
        → HasSetField old new graph object plain name what
    has_set_field {new = new} {next} ready shape beside head touches =
        let capacity : ℕ = capacity_at (heap_of old) object in
        let P : ℕ → Type 0 =
        λ n. HasRoom old.young n × UsesMore old new n × ChangesObjectUsing old new n object capacity in
        let uses = uses_more s.cell.at (next_head s next) at fill ready beside head (object_free touches.touches) in
        let shown = fill_shown s at word shape content fills ready head touches in
        let changes =
        subst (λ a. ChangesObjectUsing old new (filling_need fill) a (capacity_at (heap_of old) a)) s.stands
        shown.changes in
        let used = subst P (sym (setting_need capacity)) (ready.room, uses, changes) in
        record {
          few = λ lacks. name_is_there s lacks;
          room = used.0;
          uses = used.1;
          changes = subst (ChangesObjectUsing old new (set_need capacity plain name what) object)
              (sym (setting_capacity capacity)) used.2;
          shows = shown.shows;
        }

    -- so it does where its representation stays
    pub set_as_it_is : {new : Mutator} → (revalued s.field what).rep ≡ s.field.rep → FillsSlot old new at content
        → HasSetField old new graph object plain name what
    set_as_it_is {new} same filled_so =
        let between = filled_so.between in
        let ready = ready_allocated old between fill s.shows.shows.whole.sized room_for_no_more filled_so.allocates in
        let head : HasHead between (filled between at fill) new s.cell.at (next_head s s.cell.header.shape) =
        inl (filled_so.fills, head_was ready) in
        let paths = filled_with_paths between new s.cell.at (next_head s s.cell.header.shape) at fill head
        ∙ allocates_paths old between fill filled_so.allocates in
        let stores = as_it_is_on s within filled_so.between fills same filled_so.allocates filled_so.fills in
        let touches : TouchesSurely old new s.cell.at (filled_touch fill at) = record {
          touches = as_it_is_touches s at fills filled_so;
          surely = as_it_is_surely s within filled_so.between fills same filled_so.allocates filled_so.fills;
        } in
        has_set_field ready (same_shape same paths (stored_keeps s.shows stores)) filled_so.beside head touches

    -- and where it became wider as well
    pub set_wider_has : {new : Mutator} (path : Path)
        → path_of plain.cap (set plain.fields slot (revalued s.field what)) ≡ path
        → FillsWider old new s.cell.at at path content → HasSetField old new graph object plain name what
    set_wider_has {new} path is_path wider =
        let laid = with_blackened wider.laid s.cell.at in
        let allocated =
        ready_allocated old wider.between fill s.shows.shows.whole.sized room_for_no_more wider.allocates in
        let ready = ready_black s.cell.at (ready_laid (filling_need fill) (missing old.paths path) allocated
        wider.changes wider.sized (added_behind old.paths wider.laid.paths path wider.leads.added)) in
        let header : header_bits (record wider.header { shape = wider.next }) ≡ next_head s wider.next =
        ap (λ (h : Header). header_bits (record h { shape = wider.next }))
        (sym (wider.is_header s.cell (words_of_cell (heap_of old) s.cell) s.has refl)) in
        let head : HasHead laid (filled laid at fill) new s.cell.at (next_head s wider.next) =
        inr (wider.fills ∙ ap (with_word (filled laid at fill) s.cell.at) header) in
        let paths = filled_with_paths laid new s.cell.at (next_head s wider.next) at fill head in
        let shape : IsNextShape s new wider.next = record {
          is_shape = subst (λ p. IsShapeOf new.paths p wider.next) (sym is_path)
              (subst (λ all. IsShapeOf all path wider.next) (sym paths) wider.leads.shape_is);
          added = ap (with_path (Some paths_most) old.paths) is_path ∙ wider.leads.added ∙ ap Some (sym paths);
          keeps = black_keeps s.shows wider.stores;
        } in
        has_set_field ready shape wider.beside head (wider_touched s at fills wider)
