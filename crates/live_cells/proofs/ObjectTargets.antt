-- To what a slot of an object refers that is shown: an object to which it links, or a box.
use Rattle.std.proofs.Common.{◌≡◌, ℕ, ◌+◌, ◌≤◌, inl, inr, Bool, true, false, List, ◌++◌, length, drop, get_or}
use Rattle.std.proofs.Common.{Option, Some, None, Contains, slice_get, nat_lt, refl, sym, ◌∙◌, ap, subst, arith}
use Rattle.std.proofs.Common.{length-drop}
use Rattle.std.proofs.lemmas.Bool.{false≢true, cases_lt}
use Rattle.std.proofs.lemmas.Bool.Decides.{nat_tests}
use Rattle.std.proofs.lemmas.Option.{same_Some, slice_get-get_or, slice_get_within, get_or_from_slice_get}
use Rattle.std.proofs.lemmas.List.{length-map}
use Rattle.tagged_word.specs.declared.layout.Kind.TheVariants as kind
use Rattle.tagged_word.specs.Cells.{in_object_offsets, store_slot, proto_slot, plain_head}
use Rattle.heap_model.specs.Types.{LayoutWord, Value, Object, Field, Path, Cell}
use Rattle.object_graph.specs.declared.value.Value.TheVariants.{Undefined}
use Rattle.object_graph.specs.declared.value.Rep.TheVariants as rep
use Rattle.object_graph.specs.declared.object.Object.TheVariants as graph_object
use Rattle.shape_tree.specs.Shapes.{shape_path}
use Rattle.shape_tree.specs.ShapeLayouts.{layout_of}
use Rattle.graph_laws.specs.ReachLaws.{LinksTo}
use Rattle.heap_model.specs.Heaps.{Heap, HasCell}
use Rattle.heap_model.specs.Slots.{reference_word, IsPlace, HoldsStore}
use Rattle.heap_model.specs.Kinds.{HasWord, IsPlainCell, IsListCell, IsSoundOf}
use Rattle.heap_model.specs.Wholeness.{Whole}
use Rattle.heap_model.specs.Showing.{ShowsPlain, ShowsProto, ShowsList}
use Rattle.heap_model.proofs.CellWords.{slice_get-append_right, words_by_kind}
use Rattle.heap_model.proofs.OneBeside.{one_beside, one_slots}
use Rattle.heap_model.proofs.PathLayouts.{layout_is}
use Rattle.heap_model.proofs.WordClasses.{same_reference, undefined_refers_not, hole_refers_not}
use Rattle.heap_moves.proofs.MovedShown.{path_field, path_has}
use Rattle.live_cells.proofs.ShownTargets.{IsBoxAt, ShownTarget, value_target, field_target}
use Rattle.live_cells.proofs.StoreSlots.{own_slot}

-- what stands at an address to which a slot of the object refers: an object to which it links, or a box
pub data LinkTarget (heap : Heap) (marks : ℕ → Bool) (what : Object) (at : ℕ) : Type 0 where
  to_object : (number : ℕ) → LinksTo marks what number → IsPlace heap number at → LinkTarget heap marks what at
  to_box : IsBoxAt heap at → LinkTarget heap marks what at

-- a field for want of another
abbrev no_field : Field
no_field = record { name = 0; rep = rep.Small; value = Undefined }

-- an element at a place is in the list
pub at_is_in : {A : Type 0} (xs : List A) (k : ℕ) (x : A) → slice_get xs k ≡ Some x → Contains xs x
at_is_in xs k x there = (k, slice_get_within xs k x there, get_or_from_slice_get xs k x x there)

module _ {heap : Heap} (whole : Whole heap) (marks : ℕ → Bool) where
  -- a slot of a plain object, by its place among these; it is not raw
  plain_target : {cell : Cell} {words : List ℕ} (cap : ℕ) (proto : Option ℕ) (fields : List Field) (k word at : ℕ)
      → HasCell heap cell words → (shows : ShowsPlain heap cell words cap fields) → HasWord shows.slots k word
      → ((field : Field) → slice_get fields k ≡ Some field → nat_lt k cap ≡ true → field.rep ≡ rep.Wide → ⊥)
      → word ≡ reference_word at → LinkTarget heap marks (graph_object.Plain cap proto fields) at
  plain_target {cell} {words} cap proto fields k word at has shows stands tagged refers =
      let sound : IsPlainCell heap cell words =
      subst (λ kind. IsSoundOf kind heap cell words) shows.of_kind (whole.sound cell words has) in
      let path : Path = shape_path heap.paths cell.header.shape in
      let long : length path.fields ≡ length fields =
      ap (λ (one : Path). length one.fields) shows.path ∙ length-map fields path_field in
      elim (cases_lt k (length fields)) [
        | inl within ↦
            let field : Field = get_or fields k no_field in
            let there : slice_get fields k ≡ Some field = slice_get-get_or fields k no_field within in
            elim (field_target at (shows.each k field word there stands) (tagged field there) refers) [
              | ShownTarget.to_object number is place ↦
                  LinkTarget.to_object number (inr (field, at_is_in fields k field there, is)) place
              | ShownTarget.to_box in_box ↦ LinkTarget.to_box in_box
            ]
        | inr past ↦
            let in_sound : HasWord sound.slots k word =
            subst (λ all. HasWord all k word) (one_slots shows.has sound.has) stands in
            let hole = sound.hold.rest k word (omega (arith, past, long)) in_sound in
            absurd (hole_refers_not at (sym hole ∙ refers))
      ]

  -- an in-object slot of a plain object
  pub in_object_target : {cell : Cell} {words : List ℕ} (cap : ℕ) (proto : Option ℕ) (fields : List Field)
      (offset word at : ℕ)
      → HasCell heap cell words → ShowsPlain heap cell words cap fields
      → Contains (in_object_offsets cell.layout) offset → HasWord words offset word → word ≡ reference_word at
      → LinkTarget heap marks (graph_object.Plain cap proto fields) at
  in_object_target {cell} {words} cap proto fields offset word at has shows visited slot refers =
      let sound : IsPlainCell heap cell words =
      subst (λ kind. IsSoundOf kind heap cell words) shows.of_kind (whole.sound cell words has) in
      let path : Path = shape_path heap.paths cell.header.shape in
      let own = own_slot offset word whole.sized has sound.shape shows.has visited slot in
      plain_target cap proto fields own.at word at has shows own.stands
      (λ field there is_own wide. own.tagged (path_field field) (path_has path cap fields own.at field shows.path there)
      wide) refers

  -- the prototype slot of a plain object
  pub proto_target : {word : ℕ} (words : List ℕ) (cap : ℕ) (proto : Option ℕ) (fields : List Field) (at : ℕ)
      → ShowsProto heap words proto → HasWord words proto_slot word → word ≡ reference_word at
      → LinkTarget heap marks (graph_object.Plain cap proto fields) at
  proto_target words cap None fields at shows slot refers =
      absurd (undefined_refers_not at (same_Some _ _ (sym shows ∙ slot) ∙ refers))
  proto_target words cap (Some number) fields at (held, stands, to) slot refers =
      let same : to.at ≡ at =
      same_reference to.at at (sym to.refers ∙ same_Some _ _ (sym stands ∙ slot) ∙ refers) in
      LinkTarget.to_object number (inl refl) (subst (IsPlace heap number) same to.place)

  -- a slot in the store of a plain object
  pub stored_target : {cell : Cell} {words beside : List ℕ} (cap : ℕ) (proto : Option ℕ) (fields : List Field)
      (store k word at : ℕ)
      → HasCell heap cell words → ShowsPlain heap cell words cap fields → HasWord words store_slot store
      → HoldsStore heap kind.Store store beside → HasWord beside k word → word ≡ reference_word at
      → LinkTarget heap marks (graph_object.Plain cap proto fields) at
  stored_target {cell} {words} {beside} cap proto fields store k word at has shows slot holds there refers =
      let sound : IsPlainCell heap cell words =
      subst (λ kind. IsSoundOf kind heap cell words) shows.of_kind (whole.sound cell words has) in
      let path : Path = shape_path heap.paths cell.header.shape in
      let laid : cell.layout ≡ layout_of path = layout_is whole.sized has sound.shape in
      let caps : cell.layout.cap ≡ path.cap = ap (λ (layout : LayoutWord). layout.cap) laid in
      let cap_is : path.cap ≡ cap = ap (λ (one : Path). one.cap) shows.path in
      let own : List ℕ = drop plain_head words in
      let long : length own ≡ cap =
      omega (arith, length-drop plain_head words, words_by_kind kind.Plain has shows.of_kind, caps, cap_is) in
      let same : beside ≡ shows.has.beside =
      one_beside store shows.has.store beside shows.has.beside (same_Some _ _ (sym slot ∙ shows.has.slot)) holds
      shows.has.stands in
      let here : HasWord shows.has.beside k word = subst (λ all. HasWord all k word) same there in
      let place : ℕ = length own + k in
      let in_both : HasWord (own ++ shows.has.beside) place word =
      slice_get-append_right own shows.has.beside k place refl ∙ here in
      let stands : HasWord shows.slots place word = subst (λ all. HasWord all place word) (sym shows.has.are) in_both in
      let behind : cap ≤ place = omega (arith, long) in
      let test : nat_lt place cap ≡ false = grind (arith, nat_tests, behind) in
      plain_target cap proto fields place word at has shows stands
      (λ field there is_own wide. false≢true (sym test ∙ is_own)) refers

  -- a slot in the store of a list
  pub element_target : {cell : Cell} {words beside : List ℕ} (elements : List Value) (store k word at : ℕ)
      → HasCell heap cell words → ShowsList heap cell words elements → HasWord words store_slot store
      → HoldsStore heap kind.Store store beside → HasWord beside k word → word ≡ reference_word at
      → LinkTarget heap marks (graph_object.List elements) at
  element_target {cell} {words} {beside} elements store k word at has shows slot holds there refers =
      let sound : IsListCell heap words =
      subst (λ kind. IsSoundOf kind heap cell words) shows.of_kind (whole.sound cell words has) in
      let count : sound.count ≡ length elements = same_Some _ _ (sym sound.counted ∙ shows.counted) in
      elim (cases_lt k (length elements)) [
        | inl within ↦
            let value : Value = get_or elements k Undefined in
            let element : slice_get elements k ≡ Some value = slice_get-get_or elements k Undefined within in
            let same : beside ≡ shows.slots =
            one_beside store shows.store beside shows.slots (same_Some _ _ (sym slot ∙ shows.slot)) holds shows.has in
            let here : HasWord shows.slots k word = subst (λ all. HasWord all k word) same there in
            elim (value_target at (shows.each k value word element here) refers) [
              | ShownTarget.to_object number is place ↦
                  LinkTarget.to_object number
                  (subst (Contains elements) is (at_is_in elements k value element)) place
              | ShownTarget.to_box in_box ↦ LinkTarget.to_box in_box
            ]
        | inr past ↦
            let same : beside ≡ sound.beside =
            one_beside store sound.store beside sound.beside (same_Some _ _ (sym slot ∙ sound.slot)) holds
            sound.stands in
            let here : HasWord sound.beside k word = subst (λ all. HasWord all k word) same there in
            let hole = sound.hold.rest k word (omega (arith, past, count)) here in
            absurd (hole_refers_not at (sym hole ∙ refers))
      ]
