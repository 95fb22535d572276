-- The word of a field that comes to an in-object slot may be put where a cycle of marking is open, and the header then.
use Rattle.std.specs.Prelude.{ℤ, if◌then◌else◌, slice_set}
use Rattle.object_graph.proofs.Lists.{slice_get-set_other}
use Rattle.remembered_set.specs.Recorded.{Recorded}
use Rattle.std.proofs.Common.{◌≡◌, ℕ, ◌+◌, ◌^◌, ◌<◌, ◌≤◌, Bool, true, false, List, [], ◌∷◌, ◌++◌, length, Some}
use Rattle.std.proofs.Common.{slice_get}
use Rattle.std.proofs.Common.{length-set, refl, sym, ◌∙◌, ap, subst, arith}
use Rattle.tagged_word.specs.Cells.{has_length, plain_head}
use Rattle.tagged_word.specs.Headers.{header_bits}
use Rattle.tagged_word.specs.Words.{small}
use Rattle.page_space.specs.Extents.{Space, eden_start, layouts_start, marks_start}
use Rattle.mark_world.specs.declared.event.Event.TheVariants as event
use Rattle.handle_roots.specs.declared.held.Held.TheVariants as held
use Rattle.object_graph.specs.declared.value.Rep.TheVariants as rep
use Rattle.heap_table.specs.Phases.{Mark}
use Rattle.shape_tree.specs.Shapes.{AreShapes, IsPathShape, shape_path}
use Rattle.shape_tree.specs.ShapeLayouts.{layout_word, raw_bit}
use Rattle.heap_model.specs.Remembered.{Touch}
use Rattle.heap_model.specs.Types.{Header, Path, Held}
use Rattle.heap_model.specs.Wholeness.{HasSizes}
use Rattle.write_barrier.specs.Marking.{MayPut, MayPutHeader}
use Rattle.write_barrier.specs.MutatorState.{Mutator, heap_of, reserved}
use Rattle.write_barrier.specs.Recording.{touched_one}
use Rattle.write_barrier.specs.Seats.{heap_words}
use Rattle.write_barrier.specs.Storing.{IsSureAt, StoresOn}
use Rattle.write_barrier.specs.SureStores.{StoresSurely}
use Rattle.write_barrier.proofs.StoresOn.{may_change_stays, may_hold_stays}
use Rattle.write_barrier.proofs.TouchedRanges.{touched_here}
use Rattle.object_cells.specs.Contents.{held_rep, integer_content, small_content}
use Rattle.object_cells.specs.Made.{PutsWords, slot_touch}
use Rattle.object_cells.specs.declared.content.SlotContent.{SlotContent}
use Rattle.object_cells.specs.declared.content.SlotContent.TheVariants as content
use Rattle.object_cells.proofs.CalmCells.{MayHoldContent, held_may_hold}
use Rattle.object_cells.proofs.ChangedPlaces.{MayChangeAt, change_at_stays, own_may_change, slot_may_put}
use Rattle.object_cells.proofs.UnusedWords.{marks_fit}
use Rattle.shape_change.specs.Additions.{AddsPath, CanAdd, MayPutContent, added_path, count_of, own_content}
use Rattle.shape_change.proofs.AddableCells.{cell, header_fits, header_there, object_before, object_changes, path_on}
use Rattle.shape_change.proofs.AddableCells.{path_there, shape_there, size_is}
use Rattle.shape_change.proofs.PathHeads.{path_may_head, raw_behind}

-- an integer in an in-object slot that is not raw is put as a slot's word
integer_stored : (v : ℤ) (test : Bool) → small v ≡ test → raw_bit (if test then rep.Small else rep.Wide) ≡ 0
    → slot_touch (integer_content true (if test then rep.Small else rep.Wide) v) ≡ Touch.Stored
integer_stored v true is tagged =
    ap (λ t. slot_touch (small_content v t)) is
integer_stored v false is tagged = absurd (omega (arith, tagged))

-- and so is each value whose field is not wide
own_stored : (value : Held) → raw_bit (held_rep value) ≡ 0 → slot_touch (own_content value) ≡ Touch.Stored
own_stored held.Undefined tagged = refl
own_stored held.Unbound tagged = refl
own_stored (held.Int v) tagged = integer_stored v (small v) refl tagged
own_stored (held.Ref at) tagged = refl

-- as many words, shapes and layout words stay where no layout word is put
pub sizes_stay : (mid put : Mutator) → put.seat.space ≡ mid.seat.space → put.paths ≡ mid.paths
    → length (heap_words put.seat) ≡ length (heap_words mid.seat)
    → ((a : ℕ) → layouts_start mid.seat.space ≤ a
    → slice_get (heap_words put.seat) a ≡ slice_get (heap_words mid.seat) a)
    → HasSizes (heap_of mid) → HasSizes (heap_of put)
sizes_stay mid put space paths counted same sized = record {
  words = counted ∙ sized.words ∙ ap (λ (s : Space). marks_start s) (sym space);
  shapes = subst AreShapes (sym paths) sized.shapes;
  layouts = λ shape below.
      ap (λ (s : Space). slice_get (heap_words put.seat) (layouts_start s + shape)) space
      ∙ same (layouts_start mid.seat.space + shape) (omega arith) ∙ sized.layouts shape below
      ∙ ap (λ (all : List Path). Some (layout_word all shape)) (sym paths);
}

module _ {old mid : Mutator} {object : ℕ} {header : Header} {name next : ℕ} {value : Held}
    (can : CanAdd old object header name value)
    (adds : AddsPath (reserved old 0) mid (added_path old.paths header.shape name value) next)
    (own : count_of old.paths header.shape < (shape_path old.paths header.shape).cap) where
  -- the offset of the slot
  abbrev pub offset : ℕ
  offset = plain_head + count_of old.paths header.shape

  -- which is one of the cell
  within : offset < (cell can).size
  within = omega (arith, own, size_is can)

  -- its word may be changed
  changes_at : MayChangeAt mid (object + offset)
  changes_at =
      change_at_stays (path_on can 0 adds) (subst (λ (a : ℕ). MayChangeAt old (a + offset)) can.there.stands
      (own_may_change offset can.shown.shows can.there.has (ap has_length can.there.plain) (omega arith) within))

  -- the word that it comes to hold may be put
  pub own_may_put : (holds : SlotContent) → holds ≡ own_content value → MayPutContent mid (object + offset) holds
  own_may_put (content.Tagged word) is =
      let fit : marks_start old.seat.space < 2 ^ 32 = omega (arith, marks_fit old.seat.space can.sizes) in
      let may = subst (MayHoldContent old) (sym is)
      (held_may_hold true (held_rep value) value fit can.shown.shows can.shown.is_held) in
      slot_may_put word.0 changes_at (may_hold_stays (path_on can 0 adds) may)
  own_may_put (content.Raw word) is =
      let count = ap (λ (p : Path). length p.fields) (path_there can 0 adds) in
      subst (λ (n : ℕ). MayPut mid (object + (plain_head + n)) (event.StoreOwned (object + (plain_head + n)) word))
      count
      (raw_behind header adds.sized (header_fits can) (header_there can 0 adds) (shape_there can 0 adds)
      (object_changes can 0 adds) word (omega (arith, within, count)))
  own_may_put (content.Boxed v) is = tt

  module _ {put : Mutator} (holds : SlotContent) (is : holds ≡ own_content value) (word : ℕ) (stores : StoresOn mid put)
      (surely : StoresSurely put (touched_one (slot_touch holds) (object + offset)))
      (puts : PutsWords mid put (slice_set (heap_words mid.seat) (object + offset) word))
      (bound : put.recorded.bound ≡ mid.recorded.bound) where
    -- the shape has its path still
    same_path : shape_path put.paths header.shape ≡ shape_path old.paths header.shape
    same_path = ap (λ (all : List Path). shape_path all header.shape) puts.paths ∙ path_there can 0 adds

    -- and the next shape the path with the field
    next_path : shape_path put.paths next ≡ added_path old.paths header.shape name value
    next_path = ap (λ (all : List Path). shape_path all next) puts.paths ∙ adds.leads.shape_is.of_path

    next_shape : IsPathShape put.paths next
    next_shape = subst (λ (all : List Path). IsPathShape all next) (sym puts.paths) adds.leads.shape_is.is_shape

    -- there are as many words, shapes and layout words
    sized : HasSizes (heap_of put)
    sized =
        sizes_stay mid put puts.beside.space puts.paths
        (ap length puts.heap ∙ length-set (heap_words mid.seat) (object + offset) word)
        (λ a from. ap (λ (all : List ℕ). slice_get all a) puts.heap
        ∙ slice_get-set_other (heap_words mid.seat) (object + offset) a word
        (λ same. omega (
          arith,
          same,
          from,
          object_before can,
          within,
          ap (λ (s : Space). layouts_start s)
              adds.beside.space,
        ))) adds.sized

    -- the slot is in a page if the object is
    in_page : object < eden_start put.seat.space → put.seat.phase ≡ Mark → object + offset < eden_start put.seat.space
    in_page page mark =
        let claims = (may_change_stays stores (object_changes can 0 adds) page mark).claims in
        omega (arith, claims.page, within)

    -- the header may be put
    pub own_may_head : MayPutHeader put object (header_bits (record header { shape = next }))
    own_may_head =
        let count : length (shape_path put.paths header.shape).fields ≡ count_of old.paths header.shape =
        ap (λ (p : Path). length p.fields) same_path in
        let fits = header_fits can in
        path_may_head header sized fits
        (ap (λ (all : List ℕ). slice_get all object) puts.heap
        ∙ slice_get-set_other (heap_words mid.seat) (object + offset) object word (λ same. omega (arith, same))
        ∙ header_there can 0 adds)
        (subst (λ (all : List Path). IsPathShape all header.shape) (sym puts.paths) (shape_there can 0 adds))
        (may_change_stays stores (object_changes can 0 adds)) next (record { name = name; rep = held_rep value })
        (record { shape = omega (arith, next_shape.below, sized.shapes.few); object = fits.object }) next_shape
        (ap (λ (p : Path). p.cap) same_path ∙ sym (ap (λ (p : Path). p.cap) next_path))
        (ap (λ (p : Path). p.fields) next_path
        ∙ ap (λ (p : Path). p.fields ++ record { name = name; rep = held_rep value } ∷ []) (sym same_path))
        (omega (arith, within)) (λ page mark below tagged.
        let how : slot_touch holds ≡ Touch.Stored = ap slot_touch is ∙ own_stored value tagged in
        let same : object + offset ≡ object + (plain_head + length (shape_path put.paths header.shape).fields) =
        omega (arith, count) in
        let space = puts.beside.space ∙ adds.beside.space in
        let of_page : object + offset < eden_start put.seat.space = in_page page mark in
        let recorded : object + offset < put.recorded.bound =
        omega (
          arith,
          of_page,
          bound,
          ap (λ (r : Recorded). r.bound) adds.recorded,
          can.shown.shows.bounded,
          ap eden_start space,
        ) in
        subst (IsSureAt put) same (surely.sure mark (object + offset) of_page recorded
        (ap (λ (t : Touch). touched_one t (object + offset) (object + offset)) how
        ∙ touched_here Touch.Stored (object + offset))))
