-- The word of a wide field in the store refers to a box; what is read is what is drawn in.
use Rattle.std.proofs.Common.{ℕ, ◌≡◌, sym, ◌∙◌, ap, subst, Some, slice_get, ℤ}
use Rattle.std.specs.Prelude.{List}
use Rattle.std.proofs.lemmas.Option.{same_Some}
use Rattle.heap_model.specs.Types.{Path, PathField}
use Rattle.shape_tree.specs.Shapes.{shape_path}
use Rattle.heap_model.specs.Slots.{RefersToBox}
use Rattle.write_barrier.specs.MutatorState.{heap_of}
use Rattle.shape_change.proofs.StoresFound.{field_boxed}
use Rattle.shape_change.proofs.delete_field.first_drawn_in.Goals as goal

-- the field that was read is the first that does not stand in the object
first_field : {paths all : List Path} {cap : ℕ} {field : PathField} (shape : ℕ) → all ≡ paths
    → cap ≡ (shape_path all shape).cap → slice_get (shape_path all shape).fields cap ≡ Some field
    → slice_get (shape_path paths shape).fields (shape_path paths shape).cap ≡ Some field
first_field {all = all} {field = field} shape same caps is =
    subst (λ ps. slice_get (shape_path ps shape).fields (shape_path ps shape).cap ≡ Some field) same
    (ap (slice_get (shape_path all shape).fields) (sym caps) ∙ is)

pub raw_in_box-requires-clause-boxed : goal.raw_in_box-requires-clause-boxed
raw_in_box-requires-clause-boxed c =
    let there = c.requires.there in
    let found = first_field c.args.shape c.shapes-shapes.ensures c.cap.ensures.cap c.field.ensures in
    let same : there.field ≡ c.field.result = same_Some there.field c.field.result (sym there.among ∙ found) in
    let read : there.word ≡ c.slot-word.result =
    same_Some there.word c.slot-word.result (sym there.stands ∙ c.slot-word.ensures.of_heap) in
    subst (λ w. (v : ℤ) × RefersToBox (heap_of c.args.main.now) w v) read
    (field_boxed there.field.rep there.word there.is (ap (λ (f : PathField). f.rep) same ∙ c.in-Wide.is))
