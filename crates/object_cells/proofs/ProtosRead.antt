-- What the word in the slot for the prototype of a plain object tells that a graph has and the heap shows.
use Rattle.std.proofs.Common.{◌≡◌, ℕ, ◌+◌, ◌<◌, List, Option, Some, None, slice_get, refl, sym, ◌∙◌, ap, subst, arith}
use Rattle.std.specs.Prelude.{option_and_then}
use Rattle.std.proofs.lemmas.Option.{same_Some}
use Rattle.tagged_word.specs.Cells.{proto_slot}
use Rattle.tagged_word.specs.Readings.{reference_in}
use Rattle.tagged_word.proofs.Readings.{reference_to}
use Rattle.page_space.specs.Sizes.{AreWithin}
use Rattle.page_space.specs.Extents.{marks_start}
use Rattle.object_graph.specs.declared.value.Value.TheVariants.{Ref}
use Rattle.object_graph.specs.declared.object.Object.TheVariants.{Plain}
use Rattle.object_graph.specs.Graphs.{Graph, PlainObject, as_plain, plain_at}
use Rattle.object_graph.specs.Prototypes.{proto_in, proto_of, proto_at, IsPlainNumber}
use Rattle.graph_laws.proofs.FoundObjects.{plain_at-is}
use Rattle.graph_laws.proofs.FoundProtos.{same_number}
use Rattle.graph_laws.proofs.ReachedProtos.{proto_is_reached}
use Rattle.heap_model.specs.Slots.{undefined_word, reference_word, IsPlace}
use Rattle.heap_model.specs.Kinds.{HasWord}
use Rattle.heap_model.specs.Showing.{ShowsProto}
use Rattle.write_barrier.specs.MutatorState.{Mutator, heap_of, MainShows}
use Rattle.object_cells.specs.PlainObjects.{IsPlainAt}
use Rattle.object_cells.proofs.CellsRead.{cell_before_marks, place_before_marks, fits_address}
use Rattle.object_cells.proofs.PlainFields.{plain_shown}
use Rattle.object_cells.proofs.SlotsNow.{word_at_offset, plain_cell_size}

-- a plain object is found by its number
pub plain_found : (graph : Graph) (plain : PlainObject)
    → slice_get graph.objects plain.number ≡ Some (Plain plain.cap plain.proto plain.fields)
    → plain_at graph.objects (Ref plain.number) ≡ Some plain
plain_found graph plain there = ap (λ found. option_and_then (as_plain plain.number) found) there

-- its prototype is the one of its number
pub proto_of_plain : (graph : Graph) (plain : PlainObject)
    → slice_get graph.objects plain.number ≡ Some (Plain plain.cap plain.proto plain.fields)
    → proto_of graph.objects plain.number ≡ plain.proto
proto_of_plain graph plain there = ap (λ found. option_and_then proto_in found) there

-- The object has no prototype where the word is `undefined`, and else its prototype stands where the word refers to.
pub data ProtoRead (main : Mutator) (graph : Graph) (plain : PlainObject) (word : ℕ) : Type 0 where
  none : word ≡ undefined_word → proto_at graph.objects plain ≡ None → ProtoRead main graph plain word
  one : (next : ℕ) (proto : PlainObject) → word ≡ reference_word next → proto_at graph.objects plain ≡ Some proto
      → IsPlainAt main graph next proto → ProtoRead main graph plain word

module _ {main : Mutator} {graph : Graph} {object : ℕ} {plain : PlainObject} (shows : MainShows main graph)
    (is : IsPlainAt main graph object plain) where
  -- so it is by the prototype of the object
  read_by : (words : List ℕ) (word : ℕ) (proto : Option ℕ) → plain.proto ≡ proto
      → ShowsProto (heap_of main) words proto → HasWord words proto_slot word → ProtoRead main graph plain word
  read_by words word None same shown stands =
      ProtoRead.none (same_Some word undefined_word (sym stands ∙ shown))
      (ap (λ found. option_and_then (λ number. plain_at graph.objects (Ref number)) found) same)
  read_by words word (Some number) same (held, holds, refers) stands =
      let found : IsPlainNumber graph.objects number =
      shows.is_graph.protos.plain plain.number number (proto_of_plain graph plain is.object ∙ same) in
      let proto : PlainObject = found.0 in
      let known = plain_at-is graph.objects (Ref number) proto found.1 in
      let carried : number ≡ proto.number = same_number number proto.number known.0 in
      let leads : proto_at graph.objects plain ≡ Some proto =
      ap (λ one. option_and_then (λ n. plain_at graph.objects (Ref n)) one) same ∙ found.1 in
      ProtoRead.one refers.at proto (same_Some word held (sym stands ∙ holds) ∙ refers.refers) leads (record {
        place = subst (λ n. IsPlace (heap_of main) n refers.at) carried refers.place;
        object = known.1;
        reached =
            proto_is_reached graph plain proto (plain_found graph plain is.object) is.reached leads;
      })

  -- and by the word that stands in the heap
  pub proto_read : (word : ℕ) → slice_get (heap_of main).words (object + proto_slot) ≡ Some word
      → ProtoRead main graph plain word
  proto_read word stands =
      let shown =
      shows.shows.reached plain.number (Plain plain.cap plain.proto plain.fields) is.object is.reached in
      let here : shown.cell.at ≡ object = sym (shown.once object is.place) in
      let within : proto_slot < shown.cell.size = omega (arith, plain_cell_size shown.has shown.shows.0.of_kind) in
      read_by shown.words word plain.proto refl shown.shows.1
      (word_at_offset proto_slot shown.has within
      ∙ ap (λ a. slice_get (heap_of main).words (a + proto_slot)) here ∙ stands)

  -- the slot is before the marks
  pub proto_within : object + proto_slot < marks_start main.seat.space
  proto_within =
      let shown = plain_shown shows is in
      omega (
        arith,
        cell_before_marks shows.shows.whole.sized shown.has,
        plain_cell_size shown.has shown.shows.of_kind,
        shown.stands,
      )

  -- a reference to the object is read as its address
  pub reference_read : (word : ℕ) → AreWithin main.seat.space.sizes main.seat.space.variables
      → word ≡ reference_word object → reference_in word ≡ Some object
  reference_read word sizes refers =
      let fits = fits_address (place_before_marks shows.shows.whole.sized is.place) sizes in
      reference_to word object (omega (arith, fits)) refers
