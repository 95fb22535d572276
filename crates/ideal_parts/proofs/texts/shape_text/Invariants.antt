use Rattle.std.proofs.Common.{◌≡◌, map, take}
use Rattle.object_graph.specs.Texts.{shape_text}
use Rattle.ideal_parts.proofs.texts.shape_text.Given as goal

abbrev pub invariant-loop-field : goal.invariant-loop-field
invariant-loop-field l =
    l.text.items ≡ shape_text (map (λ name. name.items) l.names) l.cap (take l.field-index l.fields)
