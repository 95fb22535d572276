-- A heap from which a field was taken out shows the graph in which its object lacks the field.
use Rattle.std.proofs.Common.{◌≡◌, ℕ, false, List, [], ◌++◌, length, Some, slice_get}
use Rattle.std.proofs.Common.{slice_set, refl, sym, ◌∙◌, ap, subst, arith}
use Rattle.std.specs.Prelude.{Result, Ok, Err}
use Rattle.std.proofs.lemmas.List.{append-nil, set-get_or}
use Rattle.std.proofs.lemmas.Option.{none-some, get_or_from_slice_get, slice_get_within}
use Rattle.heap_model.specs.Types.{Header, Object, Path, ShapesFull}
use Rattle.object_graph.specs.declared.object.Object.TheVariants.{Plain}
use Rattle.object_graph.specs.Objects.{without_field}
use Rattle.object_graph.specs.Paths.{path_of, with_path, missing}
use Rattle.object_graph.specs.Graphs.{Graph, PlainObject}
use Rattle.object_graph.specs.Invariants.{HasItsPath}
use Rattle.object_graph.specs.Limits.{paths_most}
use Rattle.shape_tree.specs.Shapes.{shape_path, has_name, without}
use Rattle.shape_tree.proofs.GrownPaths.{missing-there}
use Rattle.shape_tree.proofs.LedPaths.{with_path-added}
use Rattle.tagged_word.specs.Cells.{store_slot}
use Rattle.write_barrier.specs.Staying.{rest_stays_itself}
use Rattle.heap_model.specs.Heaps.{words_of_cell}
use Rattle.heap_model.specs.Kinds.{HasWord}
use Rattle.heap_model.specs.Needs.{capacity_at}
use Rattle.heap_model.specs.Showing.{ShowsPlain}
use Rattle.heap_model.proofs.BoundHeaps.{none_in}
use Rattle.heap_model.proofs.SlotWords.{All-slice_get}
use Rattle.write_barrier.specs.MutatorState.{Mutator, heap_of, MainShows}
use Rattle.write_barrier.specs.Reading.{IsHeaderAt}
use Rattle.object_cells.specs.PlainObjects.{IsPlainAt, ShowsRefilled}
use Rattle.object_cells.specs.Capacities.{ChangesObjectUsing}
use Rattle.object_cells.specs.CellWrites.{reshaped}
use Rattle.object_cells.specs.SlotChanges.{RefillsSlots}
use Rattle.object_cells.specs.Contents.{next_at}
use Rattle.shape_change.specs.FieldChanges.{HasDeletedField, DeletesField}
use Rattle.shape_change.specs.Deletions.{TakesFieldOut, TakingOut}
use Rattle.object_cells.proofs.FieldsFound.{value_found}
use Rattle.shape_change.proofs.FieldsLess.{AreLess, are_less, none_less}
use Rattle.object_cells.proofs.MadeBoxes.{row_of_none}
use Rattle.object_cells.proofs.NothingUsed.{nothing_changes, room_for_none, uses_none}
use Rattle.object_cells.proofs.PlainFields.{names_distinct}
use Rattle.object_cells.proofs.NewFields.{rest_of_fields_are_new}
use Rattle.object_cells.proofs.RefilledHeaps.{written_fields_show}
use Rattle.object_cells.proofs.OwnCapacities.{object_keeps}
use Rattle.object_cells.proofs.OwnerWrites.{plain_owns}
use Rattle.object_cells.proofs.TakenRuns.{bumped_none, takes_none}
use Rattle.write_barrier.specs.SureStores.{StoresBlack}
use Rattle.shape_change.proofs.KeepsOpen.{black_keeps}
use Rattle.shape_change.proofs.FullPaths.{full_of_paths}
use Rattle.shape_change.proofs.DeletedSlots.{Deleting}
use Rattle.shape_change.proofs.DeletedCells.{behind_header_stays, others_of, deleted_writes}
use Rattle.shape_change.proofs.DeletedFields.{deleted_refills, store_belongs}
use Rattle.shape_change.proofs.DeletedTouches.{deleted_remembers}
use Rattle.shape_change.proofs.ShownFields.{ShownCell, FieldFound, shown_cell, shown_path, name_is_new}

module _ {old : Mutator} {graph : Graph} {object : ℕ} {plain : PlainObject} {header : Header} {slot name : ℕ}
    (shows : MainShows old graph) (is : IsPlainAt old graph object plain)
    (header_at : IsHeaderAt (heap_of old) object header) (found : FieldFound old object plain header slot name) where
  -- the fields without the one
  fields_less : AreLess plain.cap plain.fields slot name
  fields_less =
      are_less plain.cap plain.fields slot found.field name (names_distinct shows is) found.there found.named

  -- the path of the object without the field is the one that was looked for
  path_less : without (shape_path old.paths header.shape) slot ≡ path_of plain.cap (without_field plain.fields name)
  path_less = ap (λ (p : Path). without p slot) (shown_path shows is header_at) ∙ fields_less.path

  module _ {new : Mutator} (taken : TakesFieldOut old new object header slot) where
    -- the object's cell
    abbrev shown : ShownCell old object plain header
    shown = shown_cell shows is header_at

    -- what is known of it
    deleting_of : Deleting old new shown.cell slot plain.fields
    deleting_of = record {
      whole = shows.shows.whole;
      has = shown.has;
      shows = subst (λ n. ShowsPlain (heap_of old) shown.cell (words_of_cell (heap_of old) shown.cell) n plain.fields)
          (sym shown.cap) shown.shows;
      taken = subst (λ n. TakesFieldOut old new n shown.cell.header slot) (sym shown.at)
          (subst (λ (h : Header). TakesFieldOut old new object h slot) (sym shown.header_is) taken);
      there = slice_get_within plain.fields slot found.field found.there;
    }

    -- the slots of the object in the two heaps
    fields_refill : RefillsSlots (heap_of old) (heap_of new) shown.cell deleting_of.taken.next (others_of deleting_of)
        [] plain.fields (without_field plain.fields name)
    fields_refill =
        deleted_refills deleting_of name (subst (λ n. AreLess n plain.fields slot name) (sym shown.cap) fields_less)

    -- each property store has as many slots as before
    stores_stay : ChangesObjectUsing old new 0 object (capacity_at (heap_of old) object)
    stores_stay =
        subst (λ n. ChangesObjectUsing old new 0 n (capacity_at (heap_of old) n)) shown.at
        (object_keeps (record {
          owns = plain_owns;
          whole = shows.shows.whole;
          writes = deleted_writes deleting_of;
          belong = store_belongs deleting_of;
          kinds = λ other there. absurd (none_in other there);
          stores = λ other among is.
              let next = reshaped new.paths shown.cell deleting_of.taken.next in
              subst (HasWord (words_of_cell (heap_of new) next) store_slot)
              (fields_refill.refills.stores other among is).1 fields_refill.refills.has_store;
        }) (row_of_none (heap_of new) (next_at old))
        (behind_header_stays deleting_of store_slot (omega arith) (omega arith)))

    -- the heap shows the graph in which the object lacks the field
    field_less : ShowsRefilled new graph plain (without_field plain.fields name)
    field_less =
        let added = ap (λ (paths : List Path). with_path (Some paths_most) paths
        (path_of plain.cap (without_field plain.fields name))) (sym shows.shows.paths)
        ∙ ap (with_path (Some paths_most) old.paths) (sym path_less) ∙ taken.leads.added in
        written_fields_show old new graph plain shown.cell deleting_of.taken.next (others_of deleting_of) []
        (without_field plain.fields name) shows is.object is.reached shown.carries shown.cap shown.shows
        (rest_of_fields_are_new graph plain name shows.is_graph is.object is.reached) added
        (takes_none taken.beside (room_for_none old shows.tied shows.shows.whole)
        (taken.young ∙ sym (bumped_none old.young)))
        (deleted_writes deleting_of) fields_refill
        (deleted_remembers deleting_of shows.bounded).remembers
        (black_keeps shows (subst (StoresBlack old new) (sym shown.at) taken.black) (others_of deleting_of) []
        (deleted_writes deleting_of) (deleted_remembers deleting_of shows.bounded))

  -- a field that was found is taken out, or there are too many paths
  pub field_deleted : (new : Mutator) (result : Result Unit ShapesFull) → TakingOut old new object header slot result
      → DeletesField old new graph object plain name result
  field_deleted new (Ok done) taken =
      let value = value_found plain.fields slot found.field name (names_distinct shows is) found.there found.named in
      record {
        none = λ none. absurd (none-some found.field.value (sym none ∙ value));
        uses = uses_none taken.beside taken.young
            (deleted_remembers (deleting_of taken) shows.bounded).remembers.touches.free;
        changes = stores_stay taken;
        shows = field_less taken;
      }
  field_deleted new (Err full) refused = (
    full_of_paths plain (without_field plain.fields name) (without (shape_path old.paths header.shape) slot) new.paths
        shows path_less refused.0,
    refused.1,
  )

-- an object that gets its own fields, whose path is there, is as it was
refilled_alike : (main : Mutator) (graph : Graph) (plain : PlainObject) → MainShows main graph
    → slice_get graph.objects plain.number ≡ Some (Plain plain.cap plain.proto plain.fields)
    → ShowsRefilled main graph plain plain.fields
refilled_alike main graph plain shows there =
    let what : Object = Plain plain.cap plain.proto plain.fields in
    let path : Path = path_of plain.cap plain.fields in
    let shaped : HasItsPath graph.paths what =
    All-slice_get (HasItsPath graph.paths) graph.objects plain.number what shows.is_graph.shaped there in
    let none : missing graph.paths path ≡ [] = missing-there graph.paths path shows.is_graph.paths shaped in
    let few = shows.shows.whole.sized.shapes.few in
    let same : slice_set graph.objects plain.number what ≡ graph.objects =
    ap (slice_set graph.objects plain.number) (sym (get_or_from_slice_get graph.objects plain.number what what there))
    ∙ set-get_or graph.objects plain.number what in
    record {
      paths = graph.paths;
      added = with_path-added graph.paths graph.paths path
          (sym (append-nil graph.paths) ∙ ap (λ more. graph.paths ++ more) (sym none))
          (omega (arith, few, ap length shows.shows.paths, ap length none));
      shows = subst (λ objects. MainShows main (record graph { objects = objects })) (sym same) shows;
    }

-- where no field has the name, nothing happens
pub none_deleted : {main : Mutator} {graph : Graph} {object : ℕ} {plain : PlainObject} {header : Header} (name : ℕ)
    → MainShows main graph → IsPlainAt main graph object plain → IsHeaderAt (heap_of main) object header
    → has_name (shape_path main.paths header.shape) name ≡ false → HasDeletedField main main graph object plain name
none_deleted {main} {graph} {object} {plain = plain} name shows is header_at none =
    record {
      none = λ _. refl;
      uses = uses_none (rest_stays_itself main.seat) refl refl;
      changes = nothing_changes (heap_of main) object (capacity_at (heap_of main) object) refl;
      shows = subst (ShowsRefilled main graph plain)
          (sym (none_less plain.fields name (name_is_new shows is header_at name none)))
          (refilled_alike main graph plain shows is.object);
    }
