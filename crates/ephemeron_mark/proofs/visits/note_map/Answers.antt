-- A weak map's cell is the last of the list, and no other is listed.
use Rattle.std.proofs.Common.{rules, ◌≡◌, ◌∙◌, ◌++◌, ◌∷◌, [], sym, ap}
use Rattle.tagged_word.specs.declared.layout.Kind.TheVariants as kind
use Rattle.heap_model.specs.Types.{Kind}
use Rattle.ephemeron_mark.specs.Progress.{noted}
use Rattle.ephemeron_mark.proofs.KindTests.{is_kind, is_no_kind, not_noted}
use Rattle.ephemeron_mark.proofs.visits.note_map.Goals as goal

pub returns-then-ne-clause-noted : goal.returns-then-ne-clause-noted
returns-then-ne-clause-noted c =
    sym (not_noted c.args.cell.now.layout.kind c.args.maps.now.items c.args.cell.now.at
    (is_no_kind c.args.cell.now.layout.kind kind.Weak (sym c.if-ne.true ∙ c.ne.ensures)))

pub returns-clause-noted : goal.returns-clause-noted
returns-clause-noted c =
    let items : c.push.new.self.items ≡ c.args.maps.now.items ++ c.args.cell.now.at ∷ [] = search rules in
    let of_kind = is_kind c.args.cell.now.layout.kind kind.Weak (sym c.if-ne.false ∙ c.ne.ensures) in
    items ∙ sym (ap (λ (k : Kind). noted k c.args.maps.now.items c.args.cell.now.at) of_kind)
