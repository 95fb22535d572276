-- A field of a new name that was added is set.
use Rattle.std.proofs.Common.{◌≡◌, ℕ, ◌<◌, length, sym, ◌∙◌, ap, subst, arith}
use Rattle.heap_model.specs.Types.{Header, Value, Held}
use Rattle.object_graph.specs.Objects.{with_field}
use Rattle.object_graph.specs.Graphs.{Graph, PlainObject}
use Rattle.page_space.specs.Sizes.{AreWithin}
use Rattle.nursery.specs.Young.{HasRoom}
use Rattle.shape_tree.specs.Shapes.{shape_path}
use Rattle.heap_model.specs.Needs.{capacity_at}
use Rattle.heap_model.specs.Rooms.{set_need, set_need_by, set_capacity, set_capacity_by, new_field_need}
use Rattle.heap_model.specs.Rooms.{new_field_capacity}
use Rattle.write_barrier.specs.MutatorState.{Mutator, heap_of}
use Rattle.object_cells.specs.PlainObjects.{ShowsRefilled}
use Rattle.object_cells.specs.Uses.{UsesMore}
use Rattle.object_cells.specs.Capacities.{ChangesObjectUsing}
use Rattle.shape_change.specs.FieldChanges.{HasSetField}
use Rattle.shape_change.specs.Additions.{AddsField, count_of, behind_cap}
use Rattle.object_cells.specs.Made.{is_wide_held}
use Rattle.object_cells.proofs.HeldNeeds.{wide_is}
use Rattle.shape_change.proofs.AddedWords.{over_young, over_beside}
use Rattle.shape_change.proofs.AddedShown.{Adding, lacks_none}
use Rattle.shape_change.proofs.FieldsSet.{no_place}
use Rattle.shape_change.proofs.NewNeeds.{need_own, need_to_store, need_to_new_store}
use Rattle.shape_change.proofs.NewNeeds.{capacity_own, capacity_to_store, capacity_to_new_store}
use Rattle.shape_change.proofs.OwnAdded.{own_over, own_shown, own_keeps}
use Rattle.shape_change.proofs.StoreAdded.{StoreAdding, over as store_over, store_shown, store_keeps}
use Rattle.shape_change.proofs.GrownWords.{StoreGrowing, over as grown_over}
use Rattle.shape_change.proofs.GrownAdded.{grown_shown, grown_becomes}

-- the words that a new field needs, by what is held
pub new_need_is : {old : Mutator} {graph : Graph} {plain : PlainObject} {object : ℕ} {header : Header} {name : ℕ}
    {value : Held} {what : Value} (capacity : ℕ) (known : Adding old graph plain object header name value what)
    → new_field_need capacity (shape_path old.paths header.shape).cap (count_of old.paths header.shape)
    (is_wide_held value)
    ≡ set_need capacity plain name what
new_need_is {old} {plain = plain} {header = header} {name} {value} {what} capacity known =
    let path = shape_path old.paths header.shape in
    ap (λ cap. new_field_need capacity cap (length path.fields) (is_wide_held value)) (known.cap ∙ known.caps)
    ∙ ap (λ many. new_field_need capacity plain.cap many (is_wide_held value)) known.count
    ∙ ap (new_field_need capacity plain.cap (length plain.fields)) (wide_is value what known.held.shows)
    ∙ ap (set_need_by capacity plain what) (sym (no_place plain.fields name known.fresh))

-- and the slots of the store then
new_capacity_is : {old : Mutator} {graph : Graph} {plain : PlainObject} {object : ℕ} {header : Header} {name : ℕ}
    {value : Held} {what : Value} (capacity : ℕ) (known : Adding old graph plain object header name value what)
    → new_field_capacity capacity (shape_path old.paths header.shape).cap (count_of old.paths header.shape)
    ≡ set_capacity capacity plain name
new_capacity_is {old} {plain = plain} {header = header} {name} capacity known =
    let path = shape_path old.paths header.shape in
    ap (λ cap. new_field_capacity capacity cap (length path.fields)) (known.cap ∙ known.caps)
    ∙ ap (new_field_capacity capacity plain.cap) known.count
    ∙ ap (set_capacity_by capacity plain) (sym (no_place plain.fields name known.fresh))

module _ {old new : Mutator} {graph : Graph} {plain : PlainObject} {object : ℕ} {header : Header} {name : ℕ}
    {value : Held} {what : Value} (known : Adding old graph plain object header name value what) where
  -- so it is set where so many words were reserved as it needs, beside a store of so many slots
  set_by : (held need capacity : ℕ) → capacity_at (heap_of old) object ≡ held
      → new_field_need held (shape_path old.paths header.shape).cap (count_of old.paths header.shape)
      (is_wide_held value)
      ≡ need → HasRoom old.young need → UsesMore old new need
      → new_field_capacity held (shape_path old.paths header.shape).cap (count_of old.paths header.shape) ≡ capacity
      → ChangesObjectUsing old new need known.cell.at capacity
      → ShowsRefilled new graph plain (with_field plain.fields name what)
      → HasSetField old new graph object plain name what
  set_by held need capacity holds is room uses is_capacity stores shows =
      let same : need ≡ set_need (capacity_at (heap_of old) object) plain name what =
      sym is ∙ new_need_is held known ∙ ap (λ n. set_need n plain name what) (sym holds) in
      let becomes : capacity ≡ set_capacity (capacity_at (heap_of old) object) plain name =
      sym is_capacity ∙ new_capacity_is held known ∙ ap (λ n. set_capacity n plain name) (sym holds) in
      record {
        few = lacks_none known;
        room = subst (HasRoom old.young) same room;
        uses = subst (UsesMore old new) same uses;
        changes = subst (λ n. ChangesObjectUsing old new n object
            (set_capacity (capacity_at (heap_of old) object) plain name)) same
            (subst (ChangesObjectUsing old new need object) becomes
            (subst (λ a. ChangesObjectUsing old new need a capacity) known.stands stores));
        shows = shows;
      }

  -- in an in-object slot, or in the property store
  pub field_is_set : AreWithin old.seat.space.sizes old.seat.space.variables
      → AddsField old new object header name value → HasSetField old new graph object plain name what
  field_is_set within (AddsField.own own adds) =
      let over = own_over known own adds in
      let held : ℕ = capacity_at (heap_of old) known.cell.at in
      set_by held 0 held (ap (capacity_at (heap_of old)) (sym known.stands)) (need_own held _ _ value own) over.room
      (record { beside = over_beside over; young = over_young over; free = adds.touches.free ∙ adds.path.free })
      (capacity_own held _ _ own) (own_keeps known own adds) (own_shown known own adds)
  field_is_set within (AddsField.to_store store behind is room adds) =
      let adding : StoreAdding old new graph plain object header name value what store =
      record { known = known; behind = behind; is = is; room = room; adds = adds } in
      let over = store_over adding in
      let held : ℕ = capacity_at (heap_of old) known.cell.at in
      let at_cell : capacity_at (heap_of old) object ≡ held = ap (capacity_at (heap_of old)) (sym known.stands) in
      let has_room : behind_cap old.paths header.shape < held = omega (arith, room, is.capacity, at_cell) in
      set_by held _ held at_cell (need_to_store held _ _ value behind has_room) over.room
      (record { beside = over_beside over; young = over_young over; free = adds.touches.free ∙ adds.path.free })
      (capacity_to_store held _ _ behind has_room) (store_keeps adding) (store_shown adding)
  field_is_set within (AddsField.to_new_store store behind is full adds) =
      let growing : StoreGrowing old new graph plain object header name value what store =
      record { known = known; behind = behind; is = is; full = full; adds = adds } in
      let over = grown_over growing in
      set_by store.capacity _ _ is.capacity (need_to_new_store store.capacity _ _ value behind full) over.room
      (record { beside = over_beside over; young = over_young over; free = adds.touches.free ∙ adds.path.free })
      (capacity_to_new_store store.capacity _ _ behind full) (grown_becomes growing within) (grown_shown growing)
