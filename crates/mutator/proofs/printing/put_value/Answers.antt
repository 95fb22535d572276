-- The text of a value, by what is held and the header of the object that it refers to.
use Rattle.std.proofs.Common.{◌++◌, w64, SFits, rules, sym, ◌∙◌, ap, subst, append_assoc}
use Rattle.std.proofs.lemmas.Int.{to_z-of_z}
use Rattle.std.specs.Fmt.{signed_decimal}
use Rattle.heap_model.specs.Types.{Held}
use Rattle.object_graph.specs.Texts.{value_text}
use Rattle.write_barrier.proofs.Headers.{has_header}
use Rattle.mutator.specs.Kinds.{noun_by_shape}
use Rattle.mutator.specs.Reading.{StandsFor}
use Rattle.mutator.proofs.HeldValues.{holds_undefined, holds_integer}
use Rattle.mutator.proofs.ObjectsAt.{held_object}
use Rattle.mutator.proofs.ValueTexts.{line_put, object_told}
use Rattle.mutator.proofs.printing.put_value.Goals as goal
use Rattle.mutator.proofs.printing.put_value.Goals.{in-Unbound, in-Int, in-Ref}

pub header-header-requires : goal.header-header-requires
header-header-requires c =
    let P : Held → Type 0 = λ h. StandsFor c.args.main.now c.requires.shown.graph c.requires.shown.value h in
    let held = held_object c.in-Ref.at c.requires.shown.value c.requires.shown.shows
    (subst P c.in-Ref.is c.requires.shown.stands) in
    has_header held.object.has held.object.stands

pub returns : goal.returns
returns c graph what shows stands =
    let old = c.args.out.now in
    let text = value_text graph.objects what in
    elim c.match-value.branch [
      | in-Unbound w ↦
          let is = holds_undefined c.args.value what w.in-Unbound.is stands.is.shows in
          line_put old c.match-value.out c.put-2.new.self text
          (w.out-is ∙ w.put.ensures ∙ ap (λ v. old ++ value_text graph.objects v) (sym is)) c.put-2.ensures
      | in-Int w ↦
          let v = w.in-Int.v in
          let fits : SFits w64 v = search rules in
          let is = holds_integer c.args.value v what w.in-Int.is stands.is.shows in
          line_put old c.match-value.out c.put-2.new.self text
          (w.out-is ∙ w.put-in-Int.ensures ∙ ap (λ bytes. old ++ bytes)
          (w.as_bytes.ensures.value ∙ w.format.ensures.text
          ∙ ap signed_decimal (to_z-of_z w64 v fits) ∙ ap (value_text graph.objects) (sym is))) c.put-2.ensures
      | in-Ref w ↦
          let at = w.in-Ref.at in
          let P : Held → Type 0 = λ h. StandsFor c.args.main.now graph what h in
          let held = held_object at what shows (subst P w.in-Ref.is stands) in
          let object = held.object in
          let header = w.header-header.ensures.of_cell object.cell object.words object.has object.stands in
          line_put old c.match-value.out c.put-2.new.self text
          (w.out-is ∙ w.put-in-Ref-2.ensures ∙ ap (λ all. all ++ w.as_bytes-in-Ref.result.now) w.put-in-Ref.ensures
          ∙ append_assoc old w.noun.result.now w.as_bytes-in-Ref.result.now
          ∙ ap (λ first. old ++ (first ++ w.as_bytes-in-Ref.result.now)) w.noun.ensures.noun
          ∙ ap (λ last. old ++ (noun_by_shape w.header-header.result.shape ++ last))
          (w.as_bytes-in-Ref.ensures.value ∙ w.format-in-Ref.ensures.text)
          ∙ ap (λ all. old ++ all) (object_told w.header-header.result shows held header)) c.put-2.ensures
    ]
