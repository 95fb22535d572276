use Rattle.std.proofs.Common.{[], ◌∷◌, ◌++◌, ◌∙◌, sym, ap, set}
use Rattle.ideal_parts.proofs.KeyedLists.{with_value_at, with_value-position}
use Rattle.ideal_parts.proofs.keyed.with_value.Goals as goal
use Rattle.ideal_parts.proofs.keyed.with_value.Goals.{in-Some, in-None+in_ok-push-in-None}

pub returns : goal.returns
returns g c =
    let k = g.T.Keyed.keying in
    let by = g.met.T.Keyed.by_keys in
    let items = c.args.items.now in
    let key = c.args.key in
    let value = c.args.value in
    let same = c.in_ok-copied.ensures.items in
    elim c.match-position_of_key.branch [
      | in-Some w ↦
          let place = w.in-Some.place in
          let item = w.index-items-place.result in
          let found = sym c.position_of_key.ensures ∙ w.in-Some.is in
          let new = w.revalued.ensures ∙ ap (λ it. k.revalued it value) w.index-items-place.is in
          ap (λ v. v.items) w.copied-is
          ∙ ap (λ xs. set xs place w.revalued.result) same
          ∙ ap (set items place) new
          ∙ sym (with_value-position k by items key value item ∙ ap (with_value_at k items key value item) found)
      | in-None+in_ok-push-in-None w ↦
          let item = w.new.result in
          let none = sym c.position_of_key.ensures ∙ w.in-None.is in
          ap (λ v. v.items) w.copied-is
          ∙ w.in_ok-push-in-None.ensures.items
          ∙ ap (λ xs. xs ++ item ∷ []) same
          ∙ ap (λ it. items ++ it ∷ []) w.new.ensures
          ∙ sym (with_value-position k by items key value item ∙ ap (with_value_at k items key value item) none)
    ]
