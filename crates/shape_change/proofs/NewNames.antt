-- A name that is new to a plain object of a graph that is shown: what its shape tells, and when a field of it may come.
use Rattle.std.proofs.Common.{◌≡◌, ℕ, ◌≤◌, ◌<◌, false, length, Some, None, Err, refl, sym, ◌∙◌, ap, subst}
use Rattle.std.proofs.Common.{arith, ◌++◌}
use Rattle.std.proofs.lemmas.List.{length-map}
use Rattle.std.proofs.lemmas.Option.{none-some}
use Rattle.heap_model.specs.Types.{Header, Value, Field, Path, ShapesFull, Held}
use Rattle.object_graph.specs.Objects.{field_value, with_field}
use Rattle.object_graph.specs.Paths.{path_of, with_path, missing}
use Rattle.object_graph.specs.Graphs.{Graph, PlainObject}
use Rattle.object_graph.specs.Invariants.{fields_most}
use Rattle.object_graph.specs.Limits.{paths_most}
use Rattle.shape_tree.specs.Shapes.{IsPathShape, LacksPathsFor, shape_path, has_name, stepped}
use Rattle.shape_tree.proofs.LedPaths.{with_path-added}
use Rattle.heap_model.specs.Showing.{ShowsHeld}
use Rattle.handle_roots.specs.Roots.{FitsHeld}
use Rattle.page_space.specs.Sizes.{AreWithin}
use Rattle.write_barrier.specs.MutatorState.{Mutator, heap_of, MainShows}
use Rattle.object_cells.specs.PlainObjects.{IsPlainAt, LacksFields, LacksPaths}
use Rattle.shape_change.specs.FieldChanges.{IsShownSetting, IsFullOfPaths, SetsField}
use Rattle.shape_change.specs.declared.stop.FieldStop.{FieldStop}
use Rattle.shape_change.specs.declared.stop.FieldStop.TheVariants as stop
use Rattle.write_barrier.specs.Reading.{IsHeaderAt}
use Rattle.object_cells.specs.Contents.{held_rep}
use Rattle.shape_change.specs.Additions.{CanAdd, MayAdd, RefusesField, added_path, count_of}
use Rattle.object_cells.proofs.CellsRead.{cell_before_marks}
use Rattle.object_cells.proofs.PlainFields.{plain_sound, plain_shown}
use Rattle.shape_change.proofs.FullStores.{cap_is}
use Rattle.object_cells.proofs.SlotsNow.{plain_cell_size}
use Rattle.object_cells.proofs.HeldContents.{held_rep_is}
use Rattle.shape_change.proofs.FullPaths.{full_of_paths}
use Rattle.shape_change.proofs.AddedFields.{new_field, with_field-new, path_of-push}

-- The shape of a plain object of a graph that is shown is that of its path.
pub record IsShownShape (old : Mutator) (plain : PlainObject) (shape : ℕ) : Type 0 where
  pub is_shape : IsPathShape old.paths shape
  pub path : shape_path old.paths shape ≡ path_of plain.cap plain.fields

-- so it is with the shape of the header at its address
pub shown_shape : {old : Mutator} {graph : Graph} {plain : PlainObject} (object : ℕ) (header : Header)
    → MainShows old graph → IsPlainAt old graph object plain → IsHeaderAt (heap_of old) object header
    → IsShownShape old plain header.shape
shown_shape {old} object header shows is at =
    let shown = plain_shown shows is in
    let sound = plain_sound shows.shows.whole shown.has shown.shows.of_kind in
    let same = ap (λ (h : Header). h.shape) (at shown.cell shown.words shown.has shown.stands) in
    record {
      is_shape = subst (IsPathShape old.paths) same sound.shape;
      path = ap (shape_path old.paths) (sym same) ∙ shown.shows.path;
    }

-- its path has as many fields as the object
pub shown_count : {old : Mutator} {plain : PlainObject} {shape : ℕ} → IsShownShape old plain shape
    → count_of old.paths shape ≡ length plain.fields
shown_count {plain = plain} known =
    ap (λ (p : Path). length p.fields) known.path
    ∙ length-map plain.fields (λ (f : Field). record { name = f.name; rep = f.rep })

-- where it has as many as it may have, a field of a new name is refused
pub lacks_fields : {old : Mutator} {plain : PlainObject} {shape : ℕ} (name : ℕ) → IsShownShape old plain shape
    → field_value plain.fields name ≡ None → fields_most ≤ count_of old.paths shape → LacksFields plain name
lacks_fields name known fresh full = record { fresh = fresh; full = omega (arith, full, shown_count known) }

-- and where it has not, that is no reason
pub lacks_no_field : {old : Mutator} {plain : PlainObject} {shape : ℕ} (name : ℕ) → IsShownShape old plain shape
    → count_of old.paths shape < fields_most → LacksFields plain name → ⊥
lacks_no_field name known few lacks = omega (arith, few, lacks.full, shown_count known)

-- the path with the field is that of the object with it
pub path_with : {old : Mutator} {plain : PlainObject} {shape : ℕ} {what : Value} (name : ℕ) (value : Held)
    → IsShownShape old plain shape → ShowsHeld (heap_of old) value (Some what) → field_value plain.fields name ≡ None
    → added_path old.paths shape name value ≡ path_of plain.cap (with_field plain.fields name what)
path_with {plain = plain} {what = what} name value known shows fresh =
    ap (λ (p : Path). stepped p name (held_rep value)) known.path
    ∙ ap (stepped (path_of plain.cap plain.fields) name) (held_rep_is value what shows)
    ∙ sym (path_of-push plain.cap plain.fields (new_field name what))
    ∙ ap (path_of plain.cap) (sym (with_field-new plain.fields name what fresh))

-- so where there may not be as many paths, there may not be as many as the object needs
pub lacks_paths : {old : Mutator} {graph : Graph} {plain : PlainObject} {shape : ℕ} {what : Value} {full : ShapesFull}
    (name : ℕ) (value : Held) → MainShows old graph → IsShownShape old plain shape
    → ShowsHeld (heap_of old) value (Some what) → field_value plain.fields name ≡ None
    → LacksPathsFor old.paths old.paths (added_path old.paths shape name value) full
    → IsFullOfPaths graph plain (with_field plain.fields name what) full
lacks_paths {old} {plain = plain} {shape} {what} name value shows known held fresh full =
    full_of_paths plain (with_field plain.fields name what) (added_path old.paths shape name value) old.paths shows
    (path_with name value known held fresh) full

-- and where there may be as many, these are no reason
pub lacks_no_path : {old : Mutator} {graph : Graph} {plain : PlainObject} {shape : ℕ} {what : Value} (name : ℕ)
    (value : Held) → MainShows old graph → IsShownShape old plain shape → ShowsHeld (heap_of old) value (Some what)
    → field_value plain.fields name ≡ None → MayAdd old.paths (added_path old.paths shape name value)
    → LacksPaths graph plain (with_field plain.fields name what) → ⊥
lacks_no_path {old} {graph} {plain} {shape} {what} name value shows known held fresh may lacks =
    let path = added_path old.paths shape name value in
    let refused : with_path (Some paths_most) old.paths path ≡ None =
    ap (with_path (Some paths_most) old.paths) (path_with name value known held fresh)
    ∙ ap (λ paths. with_path (Some paths_most) paths (path_of plain.cap (with_field plain.fields name what)))
    shows.shows.paths
    ∙ lacks in
    let added = with_path-added old.paths (old.paths ++ missing old.paths path) path refl may in
    none-some (old.paths ++ missing old.paths path) (sym refused ∙ added)

-- a field of a new name that does not come to the object is not set
pub field_refused : {old : Mutator} {graph : Graph} {plain : PlainObject} {shape : ℕ} {what : Value}
    (object name : ℕ) (value : Held) (refusal : FieldStop) → MainShows old graph → IsShownShape old plain shape
    → ShowsHeld (heap_of old) value (Some what) → field_value plain.fields name ≡ None
    → RefusesField old.paths shape name value refusal → SetsField old old graph object plain name what (Err refusal)
field_refused object name value stop.NotPlain shows known held fresh refuses = absurd refuses
field_refused object name value stop.FieldsFull shows known held fresh refuses =
    (lacks_fields name known fresh refuses, refl)
field_refused object name value (stop.ShapesFull full) shows known held fresh refuses =
    (lacks_no_field name known refuses.0, lacks_paths name value shows known held fresh refuses.1, refl)
field_refused object name value (stop.Full room) shows known held fresh refuses = absurd refuses

-- a field of a new name may come to the object
pub can_add : {old : Mutator} {object name : ℕ} {header : Header} {value : Held} → FitsHeld value
    → AreWithin old.seat.space.sizes old.seat.space.variables → IsShownSetting old object value
    → IsHeaderAt (heap_of old) object header → has_name (shape_path old.paths header.shape) name ≡ false
    → count_of old.paths header.shape < fields_most
    → MayAdd old.paths (added_path old.paths header.shape name value) → CanAdd old object header name value
can_add {old} {object} {header = header} fits sizes setting headed is_new few may =
    let shown = plain_shown setting.shows setting.is in
    let whole = setting.shows.shows.whole in
    let sound = plain_sound whole shown.has shown.shows.of_kind in
    let of_header = headed shown.cell shown.words shown.has shown.stands in
    record {
      tied = setting.shows.tied;
      shown = setting;
      fits = fits;
      sizes = sizes;
      whole = whole;
      there = record {
        cell = shown.cell;
        words = shown.words;
        has = shown.has;
        stands = shown.stands;
        plain = shown.shows.of_kind;
      };
      headed = of_header;
      shape = (shown_shape object header setting.shows setting.is headed).is_shape;
      within = omega (
        arith,
        cell_before_marks whole.sized shown.has,
        plain_cell_size shown.has shown.shows.of_kind,
        cap_is whole.sized shown.has sound.shape,
        ap (λ (h : Header). (shape_path old.paths h.shape).cap) of_header,
        shown.stands,
      );
      is_new = is_new;
      few = few;
      may = may;
    }
