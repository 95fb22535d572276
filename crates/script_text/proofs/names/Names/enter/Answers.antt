use Rattle.std.proofs.Common.{◌≡◌, ◌++◌, ◌∷◌, [], None, sym, ◌∙◌, map, length, arith}
use Rattle.std.proofs.lemmas.Grind.{common_steps}
use Rattle.std.proofs.lemmas.Map.Text.{hash_map_updates_str}
use Rattle.script_text.specs.Names.{position_of_name}
use Rattle.script_text.proofs.Pushing.{position_of_name-pushed, number_of_name-pushed}
use Rattle.script_text.proofs.names.Names.enter.Goals as goal

pub invariant_of-self-2 : goal.invariant_of-self-2
invariant_of-self-2 c =
    let items = c.self.inside.names.items in
    let pushed : c.push.new.self.items ≡ items ++ c.args.name ∷ [] = grind (arith, common_steps) in
    let absent : position_of_name (map (λ item. item.now) items) c.args.name.now ≡ None =
    sym (c.self.invariant c.args.name.now) ∙ sym c.in_default.ensures.value in
    let last : c.len-number.result ≡ length items = grind (arith, common_steps) in
    λ bytes.
    hash_map_updates_str c.args.name.now c.self.inside.numbers c.insert.new.self _ c.in_ok-insert.ensures.updates bytes
    ∙ position_of_name-pushed items c.push.new.self.items c.args.name c.len-number.result _ bytes absent pushed last
    (c.self.invariant bytes)

pub returns-clause-number : goal.returns-clause-number
returns-clause-number c =
    let items = c.self.inside.names.items in
    let pushed : c.push.new.self.items ≡ items ++ c.args.name ∷ [] = grind (arith, common_steps) in
    let absent : position_of_name (map (λ item. item.now) items) c.args.name.now ≡ None =
    sym (c.self.invariant c.args.name.now) ∙ sym c.in_default.ensures.value in
    let last : c.len-number.result ≡ length items = grind (arith, common_steps) in
    number_of_name-pushed items c.push.new.self.items c.args.name c.len-number.result absent pushed last
