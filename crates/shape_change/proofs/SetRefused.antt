-- What comes of setting a field that is there, where it is refused too.
use Rattle.std.specs.Prelude.{Result, Ok, Err}
use Rattle.std.proofs.Common.{◌≡◌, ℕ, Some, None, set, refl, sym, ◌∙◌, ap}
use Rattle.std.proofs.lemmas.Option.{none-some}
use Rattle.page_space.specs.Sizes.{AreWithin}
use Rattle.shape_tree.specs.Shapes.{LacksPathsFor}
use Rattle.object_graph.specs.Paths.{path_of, with_path}
use Rattle.object_graph.specs.Objects.{with_field, revalued}
use Rattle.object_graph.specs.Graphs.{Graph, PlainObject}
use Rattle.object_graph.specs.Limits.{paths_most}
use Rattle.heap_model.specs.Types.{Value, Path, ShapesFull}
use Rattle.heap_model.specs.Needs.{capacity_at}
use Rattle.write_barrier.specs.MutatorState.{Mutator, heap_of}
use Rattle.write_barrier.specs.declared.room.NoRoom.{NoRoom}
use Rattle.object_cells.specs.declared.content.SlotContent.{SlotContent}
use Rattle.object_cells.specs.Contents.{filling_at, LacksRoom}
use Rattle.object_cells.proofs.SlotBoxes.{lacks_need}
use Rattle.shape_change.specs.declared.slots.Place.{Place}
use Rattle.shape_change.specs.declared.stop.FieldStop.{FieldStop}
use Rattle.shape_change.specs.declared.stop.FieldStop.TheVariants as stop
use Rattle.shape_change.specs.FieldChanges.{SetsField, IsFullOfPaths}
use Rattle.shape_change.specs.Fillings.{SetsWider}
use Rattle.shape_change.specs.Places.{place_at}
use Rattle.shape_change.proofs.FieldsSet.{path_stays}
use Rattle.shape_change.proofs.FullPaths.{full_of_paths}
use Rattle.shape_change.proofs.Settings.{Setting, fields_are, name_is_there, path_is_there}
use Rattle.shape_change.proofs.SetOutcomes.{setting_need, set_wider_has}
use Rattle.shape_change.proofs.SetShown.{FillsAt}

module _ {old : Mutator} {graph : Graph} {object slot : ℕ} {plain : PlainObject} {what : Value} {name : ℕ}
    (s : Setting old graph object slot plain what name) where
  -- where the representation stays there are paths enough
  pub paths_enough : (revalued s.field what).rep ≡ s.field.rep
      → with_path (Some paths_most) old.paths (path_of plain.cap (set plain.fields slot (revalued s.field what))) ≡ None
      → ⊥
  paths_enough same none =
      let stays = path_stays plain.cap plain.fields slot s.field (revalued s.field what) s.there refl same in
      none-some old.paths (sym none ∙ ap (with_path (Some paths_most) old.paths) stays ∙ path_is_there s)

  module _ (path : Path) (is_path : path_of plain.cap (set plain.fields slot (revalued s.field what)) ≡ path) where
    -- whether paths are lacking is a question of the paths before and of the path of the fields with the one set
    paths_lack : with_path (Some paths_most) graph.paths (path_of plain.cap (with_field plain.fields name what))
        ≡ with_path (Some paths_most) old.paths path
    paths_lack =
        ap (λ fields. with_path (Some paths_most) graph.paths (path_of plain.cap fields)) (fields_are s)
        ∙ ap (with_path (Some paths_most) graph.paths) is_path
        ∙ ap (λ paths. with_path (Some paths_most) paths path) (sym s.shows.shows.paths)

    -- so are the numbers of those that are lacking
    wider_lacks : (full : ShapesFull) → LacksPathsFor old.paths old.paths path full
        → IsFullOfPaths graph plain (with_field plain.fields name what) full
    wider_lacks full is =
        full_of_paths plain (with_field plain.fields name what) path old.paths s.shows
        (sym is_path ∙ ap (path_of plain.cap) (sym (fields_are s))) is

    module _ (place : Place) {word : ℕ} {content : SlotContent} (within : AreWithin old.seat.space.sizes
        old.seat.space.variables) (fills : FillsAt s (place_at s.cell.at place) word content) where
      -- there is no room for the words that the field needs, and nothing else is lacking
      pub refused_room : {new : Mutator} (full : NoRoom) → (with_path (Some paths_most) old.paths path ≡ None → ⊥)
          → LacksRoom old (filling_at old (place_at s.cell.at place) content) full → new ≡ old
          → SetsField old new graph object plain name what (Err (stop.Full full))
      refused_room full enough lacks same =
          let need = setting_need s place within fills (capacity_at (heap_of old) object) in
          let lack = lacks_need old (filling_at old (place_at s.cell.at place) content) full lacks in (
            (λ lacks. name_is_there s lacks),
            (λ none. enough (sym paths_lack ∙ none)),
            lack.0 ∙ sym need,
            lack.1,
            same,
          )

      -- what comes of setting a field to a wider representation
      pub wider_sets : (new : Mutator) (result : Result Unit FieldStop)
          → SetsWider old new s.cell.at (place_at s.cell.at place) path content result
          → SetsField old new graph object plain name what result
      wider_sets new (Ok done) sets = set_wider_has s place within fills path is_path sets
      wider_sets new (Err stop.NotPlain) sets = absurd sets
      wider_sets new (Err stop.FieldsFull) sets = absurd sets
      wider_sets new (Err (stop.ShapesFull full)) sets =
          ((λ lacks. name_is_there s lacks), wider_lacks full sets.0, sets.1)
      wider_sets new (Err (stop.Full full)) sets = refused_room full sets.0 sets.1 sets.2
