use Rattle.std.proofs.Common.{Some, ◌∙◌, sym, ap}
use Rattle.object_graph.specs.declared.value.Value.TheVariants.{Undefined}
use Rattle.ideal_parts.proofs.KeyedLists.{value_at, value_under-position}
use Rattle.ideal_parts.proofs.keyed.value_under.Goals as goal

pub returns-in-Some : goal.returns-in-Some
returns-in-Some g c =
    let k = g.T.Keyed.keying in
    let items = c.args.items.now in
    let item = c.index-items-place.result in
    let place = sym c.position_of_key.ensures ∙ c.in-Some.is in
    ap (λ value. Some value) (c.value.ensures ∙ ap k.value c.index-items-place.is)
    ∙ sym (value_under-position k g.met.T.Keyed.by_keys items c.args.key item ∙ ap (value_at k items item) place)

pub returns-in-None : goal.returns-in-None
returns-in-None g c =
    let k = g.T.Keyed.keying in
    let items = c.args.items.now in
    let unread = k.made c.args.key Undefined in
    let none = sym c.position_of_key.ensures ∙ c.in-None.is in
    sym (value_under-position k g.met.T.Keyed.by_keys items c.args.key unread ∙ ap (value_at k items unread) none)
