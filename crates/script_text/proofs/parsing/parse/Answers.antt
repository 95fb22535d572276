-- The statements that were read are few, and their lines are a sound script.
use Rattle.std.proofs.Common.{◌≡◌, ℕ, List, Bor, arith, length, map, None, Ok, ap, sym, ◌∙◌, [], subst, ◌≤◌}
use Rattle.script_text.specs.Limits.{variable_names_most, field_names_most}
use Rattle.script_text.specs.Lines.{lines_of}
use Rattle.script_text.specs.Fitting.{AreStated}
use Rattle.script_text.specs.Grammar.{past_limit, within_limit}
use Rattle.script_text.specs.Shown.{stated_shown}
use Rattle.script_text.specs.Versions.{opening_from}
use Rattle.script_text.proofs.Reading.{stated-few, stated-AreStated, script_of-IsWellFormed, script-same}
use Rattle.script_text.proofs.parsing.parse.Goals as goal

pub with_numbers-requires-clause-few : goal.with_numbers-requires-clause-few
with_numbers-requires-clause-few c =
    let all = c.in_ok-all.all in
    let few = stated-few c.args.source.now all.version all.stated.items c.in_ok-all.ensures.stated in
    omega (arith, few, ap length c.deref.ensures.value)

pub with_numbers-requires-clause-stated : goal.with_numbers-requires-clause-stated
with_numbers-requires-clause-stated c =
    subst (λ stated. AreStated 0 (map stated_shown stated)) (sym c.deref.ensures.value)
    (stated-AreStated (opening_from 1 (lines_of c.args.source.now)) c.in_ok-all.all.version _
    c.in_ok-all.ensures.stated)

pub new-requires : goal.new-requires
new-requires c =
    let all = c.in_ok-all.all in
    let same =
    script-same all.version all.stated.items c.deref.result.now c.in_ok-numbered.numbered.lines.items _ _
    (map (λ (name : Bor (List ℕ)). name.now) c.into_names.result.items)
    (map (λ (name : Bor (List ℕ)). name.now) c.into_names-2.result.items) c.deref.ensures.value
    c.in_ok-numbered.ensures.script c.into_names.ensures c.into_names-2.ensures in
    script_of-IsWellFormed (lines_of c.args.source.now) all.version
    (map stated_shown all.stated.items) _ c.in_ok-all.ensures.stated same
    (subst (λ names. length names ≤ variable_names_most) (sym c.into_names.ensures)
    c.in_ok-numbered.ensures.few_variables)
    (subst (λ names. length names ≤ field_names_most) (sym c.into_names-2.ensures) c.in_ok-numbered.ensures.few_fields)

pub returns-clause-script : goal.returns-clause-script
returns-clause-script c =
    let all = c.in_ok-all.all in
    let stated = map stated_shown all.stated.items in
    let same =
    script-same all.version all.stated.items c.deref.result.now c.in_ok-numbered.numbered.lines.items _ _
    (map (λ (name : Bor (List ℕ)). name.now) c.into_names.result.items)
    (map (λ (name : Bor (List ℕ)). name.now) c.into_names-2.result.items) c.deref.ensures.value
    c.in_ok-numbered.ensures.script c.into_names.ensures c.into_names-2.ensures in
    let within : past_limit [] [] stated ≡ None =
    ap (λ some. past_limit [] [] (map stated_shown some)) (sym c.deref.ensures.value)
    ∙ c.in_ok-numbered.ensures.within in
    c.in_ok-all.ensures.read ∙ ap (within_limit all.version stated) within ∙ ap Ok (same ∙ sym c.new.ensures)
