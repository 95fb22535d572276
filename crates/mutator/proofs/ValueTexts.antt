-- The texts of values, and lines of them.
use Rattle.std.proofs.Common.{◌≡◌, ℕ, List, [], ◌∷◌, ◌++◌, sym, ◌∙◌, ap, append_assoc}
use Rattle.std.specs.Prelude.{decimal}
use Rattle.heap_model.specs.Types.{Header, Value}
use Rattle.object_graph.specs.Graphs.{Graph}
use Rattle.object_graph.specs.Texts.{line, object_text, value_text}
use Rattle.write_barrier.specs.MutatorState.{Mutator, MainShows}
use Rattle.mutator.specs.Kinds.{noun_by_shape}
use Rattle.mutator.proofs.ObjectsAt.{HeldObject, noun_told}

-- a text and then a line feed are a line
pub line_put : (old mid new text : List ℕ) → mid ≡ old ++ text → new ≡ mid ++ 10 ∷ [] → new ≡ old ++ line text
line_put old mid new text first then =
    then ∙ ap (λ all. all ++ 10 ∷ []) first ∙ append_assoc old text (10 ∷ [])

-- the text of an object is told by its header
pub object_told : {main : Mutator} {graph : Graph} {at : ℕ} {value : Value} (header : Header) → MainShows main graph
    → (held : HeldObject main graph at value) → held.object.cell.header ≡ header
    → noun_by_shape header.shape ++ decimal header.object ≡ value_text graph.objects value
object_told {graph = graph} header shows held is =
    ap (λ (h : Header). noun_by_shape h.shape ++ decimal h.object) (sym is)
    ∙ ap (λ n. noun_by_shape held.object.cell.header.shape ++ decimal n) held.object.carries
    ∙ ap (λ text. text ++ decimal held.number) (noun_told shows held.object)
    ∙ ap (object_text held.number) (sym held.object.there)
    ∙ ap (value_text graph.objects) (sym held.is)
