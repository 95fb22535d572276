-- What is found of the prototype of a plain object by the word in the slot for it.
use Rattle.std.proofs.Common.{◌≡◌, ◌≢◌, ℕ, Some, None, sym, ◌∙◌, subst}
use Rattle.std.proofs.lemmas.Option.{same_Some}
use Rattle.tagged_word.specs.Readings.{reference_in}
use Rattle.tagged_word.proofs.Readings.{reference_from}
use Rattle.page_space.specs.Sizes.{AreWithin}
use Rattle.object_graph.specs.Graphs.{Graph, PlainObject}
use Rattle.heap_model.specs.Slots.{undefined_word}
use Rattle.heap_model.proofs.WordClasses.{undefined_refers_not}
use Rattle.write_barrier.specs.MutatorState.{Mutator, MainShows}
use Rattle.object_cells.specs.PlainObjects.{IsPlainAt}
use Rattle.object_cells.proofs.ProtosRead.{ProtoRead, reference_read}
use Rattle.shape_change.specs.Prototypes.{FindsProto}

module _ {main : Mutator} {graph : Graph} {plain : PlainObject} {word : ℕ} where
  -- where the word is `undefined` there is no prototype
  pub finds_none : ProtoRead main graph plain word → word ≡ undefined_word → FindsProto main graph plain None
  finds_none (ProtoRead.none is none) same = none
  finds_none (ProtoRead.one next proto refers leads is) same =
      absurd (undefined_refers_not next (sym same ∙ refers))

  -- any other word is a reference
  pub refers_to_proto : ProtoRead main graph plain word → MainShows main graph
      → AreWithin main.seat.space.sizes main.seat.space.variables → word ≢ undefined_word
      → (address : ℕ) × (reference_in word ≡ Some address)
  refers_to_proto (ProtoRead.none is none) shows within apart = absurd (apart is)
  refers_to_proto (ProtoRead.one next proto refers leads is) shows within apart =
      (next, reference_read shows is word within refers)

  -- and the prototype stands at its address
  pub finds_one : ProtoRead main graph plain word → MainShows main graph
      → AreWithin main.seat.space.sizes main.seat.space.variables → (address : ℕ) → reference_in word ≡ Some address
      → FindsProto main graph plain (Some address)
  finds_one (ProtoRead.none is none) shows within address read =
      absurd (undefined_refers_not address (sym is ∙ (reference_from word address read).1))
  finds_one (ProtoRead.one next proto refers leads is) shows within address read =
      let same : next ≡ address =
      same_Some next address (sym (reference_read shows is word within refers) ∙ read) in
      (proto, leads, subst (λ a. IsPlainAt main graph a proto) same is)
