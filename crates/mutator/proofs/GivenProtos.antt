-- Which prototype a value gives, by what is held of it.
use Rattle.std.proofs.Common.{◌≡◌, ℕ, Option, None, Some, Ok, Err, refl, sym, ◌∙◌, ap}
use Rattle.std.specs.Prelude.{option_map, Result}
use Rattle.std.specs.Result.{IsErrAnd}
use Rattle.heap_model.specs.Types.{Value, Held, FaultWord}
use Rattle.heap_command.specs.declared.command.FaultWord.TheVariants.{NotObject}
use Rattle.object_graph.specs.declared.value.Value.TheVariants.{Int, Undefined, Ref}
use Rattle.object_graph.specs.Graphs.{Graph, PlainObject, plain_at}
use Rattle.object_graph.specs.Prototypes.{proto_for}
use Rattle.handle_roots.specs.declared.held.Held.TheVariants as held
use Rattle.heap_model.specs.Heaps.{Heap}
use Rattle.heap_model.specs.Showing.{ShowsHeld}
use Rattle.write_barrier.specs.MutatorState.{Mutator}
use Rattle.object_cells.specs.PlainObjects.{IsPlainAt}
use Rattle.shape_change.specs.Prototypes.{GivesProto}
use Rattle.mutator.specs.declared.lookups.Found.{Found}
use Rattle.mutator.specs.Reading.{IsFound}
use Rattle.mutator.specs.Linking.{FindsProtoFor}
use Rattle.mutator.proofs.HeldValues.{ShowsByKind, shows_by_kind}

-- a plain object that was found is a prototype
pub found_gives : {main : Mutator} {graph : Graph} {value : Value} {found : Found} → IsFound main graph value found
    → FindsProtoFor main graph value (Ok (Some found.at))
found_gives {graph = graph} found = (
  Some found.plain.number,
  ap (proto_for graph.objects) found.is
      ∙ ap (option_map (λ (plain : PlainObject). Some plain.number))
      (ap (plain_at graph.objects) (sym found.is) ∙ found.refers),
  (found.plain, refl, found.stands),
)

-- what an address gives is the plain object that stands there
pub given_some : {main : Mutator} {graph : Graph} {at : ℕ} (proto : Option ℕ) → GivesProto main graph (Some at) proto
    → (plain : PlainObject) × (proto ≡ Some plain.number) × IsPlainAt main graph at plain
given_some None gives = absurd gives
given_some (Some number) (plain, is, stands) = (plain, ap (λ n. Some n) (sym is), stands)

-- and no address gives none
pub given_none : (main : Mutator) (graph : Graph) (proto : Option ℕ) → GivesProto main graph None proto → proto ≡ None
given_none main graph None gives = refl
given_none main graph (Some number) gives = absurd gives

-- only `undefined` shows `undefined`
undefined_held : (heap : Heap) (one : Held) → ShowsByKind heap one (Some Undefined) → one ≡ held.Undefined
undefined_held heap held.Unbound is = absurd is
undefined_held heap held.Undefined is = refl
undefined_held heap (held.Int v) is = absurd is
undefined_held heap (held.Ref at) is = absurd is

-- what is neither a plain object nor `undefined` gives no prototype
pub none_gives : {heap : Heap} (graph : Graph) (one : Held) (value : Value) → (one ≡ held.Undefined → ⊥)
    → ShowsHeld heap one (Some value) → plain_at graph.objects value ≡ None → proto_for graph.objects value ≡ None
none_gives graph one (Int v) apart shows none = refl
none_gives {heap} graph one Undefined apart shows none =
    absurd (apart (undefined_held heap one (shows_by_kind one (Some Undefined) shows)))
none_gives graph one (Ref number) apart shows none =
    ap (option_map (λ (plain : PlainObject). Some plain.number)) none

-- so an answer that is the word of this finds none
pub none_found : (main : Mutator) (graph : Graph) (value : Value) (word : FaultWord)
    (answer : Result (Option ℕ) FaultWord) → proto_for graph.objects value ≡ None → word ≡ NotObject
    → IsErrAnd answer (λ one. one ≡ word) → FindsProtoFor main graph value answer
none_found main graph value word (Ok at) none of is = absurd is
none_found main graph value word (Err one) none of is = (none, is ∙ of)
