-- A field comes to a slot of a property store while a cycle of marking is open: what may be put, and that it is put
-- surely.
use Rattle.std.specs.Prelude.{ℤ}
use Rattle.std.proofs.Common.{◌≡◌, ◌≢◌, ℕ, ◌+◌, ◌^◌, ◌<◌, ◌≤◌, Bool, true, false, List, [], ◌∷◌, ◌++◌, Some, length}
use Rattle.std.proofs.Common.{slice_get, refl, sym}
use Rattle.std.proofs.Common.{◌∙◌, ap, subst, arith}
use Rattle.tagged_word.specs.declared.layout.Kind.TheVariants as kind
use Rattle.tagged_word.specs.Cells.{is_object_kind, store_head}
use Rattle.tagged_word.specs.Words.{small}
use Rattle.tagged_word.specs.Headers.{IsHeader, header_bits}
use Rattle.object_graph.specs.Limits.{paths_most}
use Rattle.object_graph.specs.Paths.{missing}
use Rattle.object_graph.proofs.AddedPaths.{with_path-is}
use Rattle.shape_tree.specs.Shapes.{AreShapes, IsPathShape, Leads, shape_path}
use Rattle.shape_tree.proofs.ShapePaths.{IsPathShape-append, shape_path-append}
use Rattle.write_barrier.specs.Marking.{MayPutHeader}
use Rattle.page_space.specs.Extents.{eden_start, layouts_start, marks_start}
use Rattle.page_space.proofs.Starts.{layouts_start_is, roots_start_is}
use Rattle.nursery.specs.Young.{HasRoom}
use Rattle.remembered_set.specs.Recorded.{Recorded}
use Rattle.tagged_word.specs.Shapes.{shapes_most}
use Rattle.object_graph.specs.Graphs.{Graph}
use Rattle.object_graph.specs.declared.value.Rep.TheVariants as rep
use Rattle.handle_roots.specs.declared.held.Held.TheVariants as held
use Rattle.heap_model.specs.Types.{Cell, Header, Held, Path, Rep}
use Rattle.heap_model.specs.Remembered.{IsRecordedBy, Touch}
use Rattle.heap_model.specs.Wholeness.{HasSizes, Whole}
use Rattle.heap_model.proofs.CellsApart.{IsOfCell, cells_apart, first_of_cell, has_is_cell}
use Rattle.heap_model.proofs.CellOutcomes.{object_is_no_filler}
use Rattle.heap_model.proofs.CellWords.{words_are_size, words_by_kind}
use Rattle.heap_model.proofs.WordClasses.{same_reference}
use Rattle.write_barrier.specs.MutatorState.{IsTied, Mutator, heap_of, MainShows, reserved}
use Rattle.write_barrier.specs.Recording.{Touches}
use Rattle.write_barrier.specs.Seats.{heap_words}
use Rattle.write_barrier.specs.Storing.{IsMadeYoung, MayChange, MayHold, StoresOn}
use Rattle.write_barrier.proofs.StoresOn.{cell_may_change, made_young_stays, may_change_stays, may_hold_stays}
use Rattle.write_barrier.proofs.StoresOn.{next_is_young}
use Rattle.write_barrier.proofs.StoresOn.{readable_stays, shown_is_readable, stores_on_again}
use Rattle.write_barrier.proofs.SlotStores.{reserved_stores_on}
use Rattle.object_cells.specs.declared.content.SlotContent.{SlotContent}
use Rattle.object_cells.specs.declared.content.SlotContent.TheVariants as content
use Rattle.object_cells.specs.declared.stores.Store.{Store}
use Rattle.object_cells.specs.Contents.{content_of, held_rep, integer_content, next_at, small_content}
use Rattle.object_cells.specs.Made.{IsStoreAt, content_word}
use Rattle.object_cells.proofs.CalmCells.{MayHoldContent, held_may_hold}
use Rattle.object_cells.proofs.CellsRead.{cell_before_layouts}
use Rattle.object_cells.proofs.HoldableWords.{young_may_hold}
use Rattle.object_cells.proofs.PlainFields.{plain_sound}
use Rattle.object_cells.proofs.StoreCells.{is_store_cell, store_cell_there}
use Rattle.object_cells.proofs.UnusedWords.{marks_fit, next_run, run_beside}
use Rattle.shape_change.specs.Additions.{AddsPath, CanAdd, ComesBehind, IsPlainCellAt, added_path}
use Rattle.shape_change.specs.Deletions.{shaped_bits}
use Rattle.shape_change.proofs.PathHeads.{path_may_head}
use Rattle.shape_change.specs.Shifts.{MayChangeStore}

-- a store is no plain object
store_is_not_plain : kind.Store ≡ kind.Plain → ⊥
store_is_not_plain is = cc

-- the words of an object's store may be changed
pub store_may : {old : Mutator} {graph : Graph} {object : ℕ} {store : Store} → MainShows old graph
    → IsPlainCellAt (heap_of old) object → IsStoreAt (heap_of old) object store → 0 < store.capacity
    → MayChangeStore old store.at store.capacity
store_may {old} {store = store} shows there is some =
    let are = (plain_sound shows.shows.whole there.has there.plain).has in
    let long = is.slots there.cell there.words are.beside are.store there.has there.stands are.slot are.stands in
    let word = is.refers there.cell there.words are.beside are.store there.has there.stands are.slot are.stands some in
    let other = store_cell_there are.stands (omega (arith, long, some)) in
    let of = is_store_cell are.stands other.0 other.1 in
    let at : other.0.at ≡ store.at = same_reference other.0.at store.at (sym of.refers.refers ∙ word) in
    let words = words_by_kind kind.Store of.refers.has of.of_kind in
    record {
      size = other.0.size;
      long = omega (arith, long, of.size, words, words_are_size of.refers.has);
      may = subst (λ n. MayChange old n other.0.size kind.Store) at
          (subst (MayChange old other.0.at other.0.size) of.of_kind (cell_may_change shows of.refers.has));
    }

-- what a slot of a store holds for an integer is no raw word
small_never : (v : ℤ) (test : Bool) (word : ℕ) → small_content v test ≡ content.Raw word → ⊥
small_never v true word is = cc
small_never v false word is = cc

integer_never : (one : Rep) (v : ℤ) (word : ℕ) → integer_content false one v ≡ content.Raw word → ⊥
integer_never rep.Wide v word is = cc
integer_never rep.Small v word is = small_never v (small v) word is
integer_never rep.Tagged v word is = small_never v (small v) word is

-- nor for any value
store_never : (one : Rep) (value : Held) (word : ℕ) → content_of false one value ≡ content.Raw word → ⊥
store_never one held.Unbound word is = cc
store_never one held.Undefined word is = cc
store_never one (held.Int v) word is = integer_never one v word is
store_never one (held.Ref at) word is = cc

-- the word of what is held may be held, which is no raw word and has a young box
content_holds : (main : Mutator) (holds : SlotContent) (at : ℕ) → MayHoldContent main holds
    → ((word : ℕ) → holds ≡ content.Raw word → ⊥)
    → ((v : ℤ) → holds ≡ content.Boxed v → (at < 2 ^ 32) × IsMadeYoung main at) → MayHold main (content_word holds at)
content_holds main (content.Tagged word) at may no_raw young = may
content_holds main (content.Raw word) at may no_raw young = absurd (no_raw word refl)
content_holds main (content.Boxed v) at may no_raw young = young_may_hold at (young v refl).0 (young v refl).1

-- so may that of what a slot of a store comes to hold for a value
pub store_word_holds : (main : Mutator) (one : Rep) (value : Held) (at : ℕ)
    → MayHoldContent main (content_of false one value)
    → ((v : ℤ) → content_of false one value ≡ content.Boxed v → (at < 2 ^ 32) × IsMadeYoung main at)
    → MayHold main (content_word (content_of false one value) at)
store_word_holds main one value at may young =
    content_holds main (content_of false one value) at may (store_never one value) young

-- what may be held may be after words were stored
pub content_stays : {old new : Mutator} (holds : SlotContent) → StoresOn old new → MayHoldContent old holds
    → MayHoldContent new holds
content_stays (content.Tagged word) stores may = may_hold_stays stores may
content_stays (content.Raw word) stores may = tt
content_stays (content.Boxed v) stores may = tt

-- words were stored once words were reserved and a path was added
pub reserved_path_on : {old between mid : Mutator} {shape : ℕ} {path : Path} (need : ℕ) → between ≡ reserved old need
    → AddsPath between mid path shape → StoresOn old mid
reserved_path_on {old} need is adds =
    stores_on_again (subst (StoresOn old) (sym is) (reserved_stores_on old need)) adds.stores

-- what is made where the next cell was to be is young still
pub next_stays_young : {old main : Mutator} {graph : Graph} {at : ℕ} → MainShows old graph → StoresOn old main
    → at ≡ next_at old → IsMadeYoung main at
next_stays_young {old} shows stores is =
    made_young_stays stores (subst (IsMadeYoung old) (sym is) (next_is_young shows))

-- what is made behind a young address is young
pub young_behind : (main : Mutator) (at more : ℕ) → IsMadeYoung main at → IsMadeYoung main (at + more)
young_behind main at more young mark = omega (arith, young mark)

-- the word that a field in the store needs may be held
pub put_word_holds : {old boxed : Mutator} {object : ℕ} {header : Header} {name : ℕ} {value : Held} (one : Rep)
    (at : ℕ) {holds : SlotContent} {word : ℕ} → CanAdd old object header name value → StoresOn old boxed
    → holds ≡ content_of false one value → word ≡ content_word holds at
    → ((v : ℤ) → holds ≡ content.Boxed v → (at < 2 ^ 32) × IsMadeYoung boxed at) → MayHold boxed word
put_word_holds {old} {boxed} {value = value} one at {holds} {word} can stores is word_is young =
    let fit : marks_start old.seat.space < 2 ^ 32 = omega (arith, marks_fit old.seat.space can.sizes) in
    let may = held_may_hold false one value fit can.shown.shows can.shown.is_held in
    subst (MayHold boxed) (sym (word_is ∙ ap (λ c. content_word c at) is))
    (store_word_holds boxed one value at (content_stays (content_of false one value) stores may)
    (λ v boxed_is. young v (is ∙ boxed_is)))

-- no slot of the store has the address of the object
pub store_apart : {old : Mutator} {graph : Graph} {object : ℕ} {store : Store} (slot : ℕ) → MainShows old graph
    → IsPlainCellAt (heap_of old) object → IsStoreAt (heap_of old) object store → slot < store.capacity
    → object ≢ store.at + (store_head + slot)
store_apart {old} {object = object} {store} slot shows there is below same =
    let are = (plain_sound shows.shows.whole there.has there.plain).has in
    let long = is.slots there.cell there.words are.beside are.store there.has there.stands are.slot are.stands in
    let word = is.refers there.cell there.words are.beside are.store there.has there.stands are.slot are.stands
    (omega (arith, below)) in
    let other = store_cell_there are.stands (omega (arith, long, below)) in
    let of = is_store_cell are.stands other.0 other.1 in
    let at : other.0.at ≡ store.at = same_reference other.0.at store.at (sym of.refers.refers ∙ word) in
    let one : other.0 ≡ there.cell =
    cells_apart object shows.shows.whole.rows of.refers.has there.has
    (record { from = omega (arith, same, at); below = omega (arith, same, at, of.size, long, below) })
    (subst (IsOfCell there.cell) there.stands (first_of_cell there.has)) in
    store_is_not_plain (sym of.of_kind ∙ ap (λ (c : Cell). c.layout.kind) one ∙ there.plain)

-- each slot of the store stands before the layout words
pub store_below : {old : Mutator} {graph : Graph} {object : ℕ} {store : Store} (slot : ℕ) → MainShows old graph
    → IsPlainCellAt (heap_of old) object → IsStoreAt (heap_of old) object store → slot < store.capacity
    → store.at + (store_head + slot) < layouts_start old.seat.space
store_below {old} {store = store} slot shows there is below =
    let are = (plain_sound shows.shows.whole there.has there.plain).has in
    let long = is.slots there.cell there.words are.beside are.store there.has there.stands are.slot are.stands in
    let word = is.refers there.cell there.words are.beside are.store there.has there.stands are.slot are.stands
    (omega (arith, below)) in
    let other = store_cell_there are.stands (omega (arith, long, below)) in
    let of = is_store_cell are.stands other.0 other.1 in
    let at : other.0.at ≡ store.at = same_reference other.0.at store.at (sym of.refers.refers ∙ word) in
    omega (arith, cell_before_layouts shows.shows.whole of.refers.has, at, of.size, long, below)

-- and so does the object
pub object_below : (old : Mutator) {object : ℕ} → Whole (heap_of old) → IsPlainCellAt (heap_of old) object
    → object < layouts_start old.seat.space
object_below old whole there =
    omega (arith, cell_before_layouts whole there.has, (first_of_cell there.has).below, there.stands)

-- the object's first word is none of the words of which cells are made next
pub object_beside : {old : Mutator} {object : ℕ} (need : ℕ) → IsTied old → Whole (heap_of old) → HasRoom old.young need
    → IsPlainCellAt (heap_of old) object → next_at old ≤ object → object < next_at old + need → ⊥
object_beside {old} {object} need tied whole room there =
    run_beside object (next_run old need tied whole.rows room)
    (object_is_no_filler there.cell.layout.kind (ap is_object_kind there.plain)) there.has
    (subst (IsOfCell there.cell) there.stands (first_of_cell there.has))

-- the header of an object whose new field does not stand in it may be put
pub field_may_head : {old between mid main : Mutator} {object next : ℕ} {header : Header} {name : ℕ} {value : Held}
    {touch : ℕ → Touch} (need : ℕ) → CanAdd old object header name value → between ≡ reserved old need
    → AddsPath between mid (added_path old.paths header.shape name value) next → StoresOn old main
    → main.paths ≡ mid.paths → length (heap_words main.seat) ≡ marks_start main.seat.space → Touches mid main touch
    → touch object ≡ Touch.Kept → ComesBehind old.paths header.shape
    → MayPutHeader main object (shaped_bits header next)
field_may_head {old} {between} {mid} {main} {object} {next} {header} {name} {value} {touch} need can is adds stores
    paths
    counted touches kept behind below mark =
    let there = can.there in
    let path : Path = added_path old.paths header.shape name value in
    let more : List Path = missing old.paths path in
    let leads = subst (λ (ps : List Path). Leads ps mid.paths path next) (ap (λ (m : Mutator). m.paths) is) adds.leads
    in
    let all : old.paths ++ more ≡ main.paths =
    with_path-is (Some paths_most) old.paths mid.paths path leads.added ∙ sym paths in
    let shape = subst (λ (ps : List Path). IsPathShape ps header.shape) all
    (IsPathShape-append old.paths more header.shape can.shape) in
    let same : shape_path main.paths header.shape ≡ shape_path old.paths header.shape =
    ap (λ (ps : List Path). shape_path ps header.shape) (sym all)
    ∙ shape_path-append old.paths more header.shape can.shape in
    let now : shape_path main.paths next ≡ path =
    ap (λ (ps : List Path). shape_path ps next) paths ∙ leads.shape_is.of_path in
    let change : MayChange old object there.cell.size kind.Plain =
    subst (λ at. MayChange old at there.cell.size kind.Plain) there.stands
    (subst (MayChange old there.cell.at there.cell.size) there.plain (cell_may_change can.shown.shows there.has)) in
    let shapes : AreShapes main.paths = subst AreShapes (sym paths) adds.sized.shapes in
    let next_shape : IsPathShape main.paths next =
    subst (λ (ps : List Path). IsPathShape ps next) (sym paths) leads.shape_is.is_shape in
    let sized : HasSizes (heap_of main) = record {
      words = counted;
      shapes = shapes;
      layouts = (readable_stays stores (λ was. shown_is_readable can.shown.shows was) mark).layouts;
    } in
    let is_header = subst IsHeader can.headed (has_is_cell there.has).reads.is_header in
    let few : next < shapes_most = omega (arith, next_shape.below, shapes.few) in
    let is_next : IsHeader (record header { shape = next }) =
    record { shape = omega (arith, few); object = is_header.object } in
    let below_old : object < eden_start old.seat.space = omega (arith, below, ap eden_start stores.space) in
    let bound : object < mid.recorded.bound =
    omega (
      arith,
      below_old,
      can.shown.shows.bounded,
      ap (λ (r : Recorded). r.bound) adds.recorded,
      ap (λ (m : Mutator). m.recorded.bound) is,
    ) in
    let space = ap (λ (m : Mutator). eden_start m.seat.space) is in
    let laid : object < layouts_start between.seat.space =
    omega (
      arith,
      below_old,
      ap (λ (m : Mutator). layouts_start m.seat.space) is,
      layouts_start_is old.seat.space,
      roots_start_is old.seat.space,
    ) in
    let by = subst (IsRecordedBy mid.recorded.bound (heap_words mid.seat) (heap_words main.seat)
    mid.recorded.slots main.recorded.slots object) kept (touches.records.each object bound) in
    let stands : slice_get (heap_words main.seat) object ≡ Some (header_bits header) =
    by.0 ∙ adds.stay object laid ∙ ap (λ (m : Mutator). slice_get (heap_words m.seat) object) is
    ∙ ap (slice_get (heap_words old.seat)) (sym there.stands) ∙ (has_is_cell there.has).reads.first
    ∙ ap (λ (h : Header). Some (header_bits h)) can.headed in
    path_may_head header sized is_header stands shape
    (may_change_stays stores change) next (record { name = name; rep = held_rep value }) is_next next_shape
    (ap (λ (p : Path). p.cap) same ∙ sym (ap (λ (p : Path). p.cap) now))
    (ap (λ (p : Path). p.fields) now
    ∙ ap (λ (p : Path). p.fields ++ record { name = name; rep = held_rep value } ∷ []) (sym same))
    (omega (arith, (first_of_cell there.has).below))
    (λ page marks fewer tagged. absurd (omega (
      arith,
      fewer,
      behind,
      ap (λ (p : Path). length p.fields) same,
      ap (λ (p : Path). p.cap) same,
    ))) below mark
