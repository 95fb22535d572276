use Rattle.std.proofs.Common.{◌∙◌, sym, ap}
use Rattle.std.specs.List.{remove}
use Rattle.ideal_parts.proofs.KeyedLists.{without_at, without_key-position}
use Rattle.ideal_parts.proofs.keyed.without_key.Goals as goal
use Rattle.ideal_parts.proofs.keyed.without_key.Goals.{in-Some, in_default}

pub returns : goal.returns
returns g c =
    let items = c.args.items.now in
    let same = c.in_ok-copied.ensures.items in
    let cut = without_key-position g.T.Keyed.keying g.met.T.Keyed.by_keys items c.args.key in
    elim c.match-position_of_key.branch [
      | in-Some w ↦
          ap (λ v. v.items) w.copied-is
          ∙ w.remove.ensures.items
          ∙ ap (λ xs. remove xs w.in-Some.place) same
          ∙ sym (cut ∙ ap (without_at items) (sym c.position_of_key.ensures ∙ w.in-Some.is))
      | in_default w ↦
          ap (λ v. v.items) w.copied-is
          ∙ same
          ∙ sym (cut ∙ ap (without_at items) (sym c.position_of_key.ensures ∙ w.in_default.is))
    ]
