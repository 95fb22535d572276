-- A set that was told of a header: of a plain object, and of another.
use Rattle.std.specs.Prelude.{Result, Err}
use Rattle.std.proofs.Common.{◌≡◌, ◌<◌, ◌≤◌, ℕ, refl, sym, arith, subst}
use Rattle.tagged_word.specs.Shapes.{first_path_shape}
use Rattle.object_graph.specs.Graphs.{Graph, PlainObject}
use Rattle.heap_model.specs.Types.{Header, Held, Value}
use Rattle.handle_roots.specs.declared.given.Given.{Given}
use Rattle.handle_roots.specs.Givens.{IsGivenFor}
use Rattle.write_barrier.specs.MutatorState.{Mutator, MainShows}
use Rattle.object_cells.specs.PlainObjects.{IsPlainAt}
use Rattle.object_cells.specs.HeldValues.{IsValueHeld}
use Rattle.shape_change.specs.declared.stop.FieldStop.{FieldStop}
use Rattle.shape_change.specs.declared.stop.FieldStop.TheVariants as stop
use Rattle.shape_change.specs.FieldChanges.{MaySet, Sets, SetsField}

-- where the shape is no path's, the object is no plain one, and nothing is done
pub not_plain : (main : Mutator) (at : ℕ) (header : Header) (name : ℕ) (value : Given)
    → header.shape < first_path_shape → Sets main main at header name value (Err stop.NotPlain)
not_plain main at header name value below = record {
  plain = λ from. absurd (omega (arith, below, from));
  other = λ still. (refl, refl);
}

-- where it is a path's, what counts is how the field of the plain object is set
pub plain_sets : {old new : Mutator} {at : ℕ} {header : Header} {name : ℕ} {value : Given}
    (came : Result Unit FieldStop) → first_path_shape ≤ header.shape
    → ((held : Held) → IsGivenFor value held → (graph : Graph) (plain : PlainObject) (what : Value)
    → MainShows old graph → IsPlainAt old graph at plain → IsValueHeld old graph held what
    → SetsField old new graph at plain name what came)
    → Sets old new at header name value came
plain_sets came from sets = record {
  plain = λ again. sets;
  other = λ below. absurd (omega (arith, below, from));
}

-- a set may be made where nothing has changed
pub may_still : {old now : Mutator} {at : ℕ} {header : Header} {value : Given} → now ≡ old
    → MaySet old at header value → MaySet now at header value
may_still {at = at} {header} {value} same may = subst (λ (main : Mutator). MaySet main at header value) (sym same) may

-- and it was made of what stood before
pub sets_before : {old now new : Mutator} {at : ℕ} {header : Header} {name : ℕ} {value : Given}
    {came : Result Unit FieldStop} → now ≡ old → Sets now new at header name value came
    → Sets old new at header name value came
sets_before {new = new} {at} {header} {name} {value} {came} same sets =
    subst (λ (main : Mutator). Sets main new at header name value came) same sets
