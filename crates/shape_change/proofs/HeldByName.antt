-- A variable comes to hold a field of the plain object that a heap shows, by its name.
use Rattle.std.proofs.Common.{◌≡◌, ℕ, true, ap, sym, ◌∙◌, subst, slice_get, get_or, nat_lt, arith}
use Rattle.std.proofs.lemmas.Option.{slice_get_within, slice_get-get_or}
use Rattle.object_graph.specs.Objects.{field_value}
use Rattle.object_graph.specs.Graphs.{Graph, PlainObject}
use Rattle.shape_tree.specs.Shapes.{IsLocated}
use Rattle.shape_tree.specs.declared.located.Located.{Located}
use Rattle.heap_model.specs.Types.{Header, Path}
use Rattle.heap_model.specs.Showing.{ShowsField}
use Rattle.write_barrier.specs.MutatorState.{Mutator, heap_of, MainShows}
use Rattle.write_barrier.specs.Reading.{IsHeaderAt}
use Rattle.object_cells.specs.CellsAt.{HasField}
use Rattle.object_cells.specs.PlainObjects.{IsPlainAt}
use Rattle.object_cells.proofs.FieldsFound.{value_found}
use Rattle.object_cells.proofs.FieldWords.{path_field}
use Rattle.object_cells.proofs.PlainFields.{slots_held, names_distinct}
use Rattle.shape_change.specs.FieldChanges.{HoldsSlot}
use Rattle.shape_change.specs.FieldsSought.{HoldsSought}
use Rattle.shape_change.proofs.ShownFields.{FieldFound, shown_cell, field_found, located_named}

module _ {main : Mutator} {graph : Graph} {object : ℕ} {plain : PlainObject} {header : Header}
    (shows : MainShows main graph) (is : IsPlainAt main graph object plain)
    (header_at : IsHeaderAt (heap_of main) object header) where
  -- the field of the name that was located in the path of the object's shape is the object's
  located_found : (found : Located) (name : ℕ)
      → IsLocated main.paths found × (found.shape ≡ header.shape) × (found.name ≡ name)
      → FieldFound main object plain header found.at name
  located_found found name (located, of_shape, named) =
      field_found shows is header_at found.at name
      (located_named main.paths found header.shape name located of_shape named)

  -- so it has a slot
  pub located_has : (found : Located) (name : ℕ)
      → IsLocated main.paths found × (found.shape ≡ header.shape) × (found.name ≡ name)
      → HasField (heap_of main) object found.shape found.at
  located_has found name by =
      subst (λ shape. HasField (heap_of main) object shape found.at) (sym by.1) (located_found found name by).has

  -- a variable that holds what stands there holds the field of the name, which the object has
  pub held_found : (new : Mutator) (variable name : ℕ) (found : Located)
      → IsLocated main.paths found × (found.shape ≡ header.shape) × (found.name ≡ name)
      → HoldsSlot main new variable object found.at
      → HoldsSought main new variable (field_value plain.fields name) true
  held_found new variable name found by holds_slot =
      let slot : ℕ = found.at in
      let at = located_found found name by in
      let shown = shown_cell shows is header_at in
      let slots = shown.shows.slots in
      let held = slots_held shows.shows.whole shown.has shown.shows in
      let of_path = ap (λ (p : Path). slice_get p.fields slot) shown.shows.path
      ∙ path_field plain.cap plain.fields slot at.field at.there in
      let few = slice_get_within plain.fields slot at.field at.there in
      let there = slice_get-get_or slots slot 0 (omega (arith, held.room, few)) in
      let P : ℕ → Type 0 =
      λ cap. ShowsField (heap_of main) (nat_lt slot cap) (get_or slots slot 0) at.field.rep at.field.value in
      let holds = holds_slot shown.cell _ slots _ _ at.field.value shown.has shown.at shown.shows.has of_path there
      (subst P (sym (ap (λ (p : Path). p.cap) shown.shows.path)) (shown.shows.each slot at.field _ at.there there)) in
      (at.field.value, value_found plain.fields slot at.field name (names_distinct shows is) at.there at.named, holds)
