-- How many forms words ask for.
use Rattle.std.proofs.Common.{◌≡◌, ℕ, ◌-◌, ◌^◌, ◌≤◌, List, [], ◌∷◌, Option, Some, None, drop, ap, ap₂}
use Rattle.std.specs.Option.{option_map}
use Rattle.std.proofs.lemmas.Option.{option_and_then_some, same_Some}
use Rattle.page_space.specs.declared.sizes.Sizes.{Sizes}
use Rattle.command_line.specs.declared.invocation.Invocation.TheVariants.{Run, Check, Soak, Gen}
use Rattle.command_line.specs.Given.{Text, Setting, Given, given_of, unless_any}
use Rattle.command_line.specs.Numbers.{decimal_value, within, number_in}
use Rattle.command_line.specs.Sizes.{sizes_of, sizes_alone}
use Rattle.command_line.specs.Invocations.{Command, run, check, soak, gen, Plan, plan_from, plan_of}
use Rattle.command_line.specs.Invocations.{invocation_by, forms_most}
use Rattle.command_line.specs.SizeLaws.{AskedFormsAreFew}
use Rattle.command_line.proofs.AskedCommands.{asked_of}
use Rattle.command_line.proofs.AskedSizes.{within_limits}

-- what a run asks for is no generated script
no_run : (sizes : Option Sizes) (seed forms : ℕ) → option_map Run sizes ≡ Some (Gen seed forms) → ⊥
no_run None seed forms e = cc
no_run (Some sizes) seed forms e = cc

-- nor is what a run that is checked asks for
no_check : (sizes : Option Sizes) (seed forms : ℕ) → option_map Check sizes ≡ Some (Gen seed forms) → ⊥
no_check None seed forms e = cc
no_check (Some sizes) seed forms e = cc

-- nor is what the run of one asks for
no_soaked : (plan : Option Plan) (sizes : Sizes) (seed forms : ℕ)
    → option_map (λ plan. Soak sizes plan.seed plan.forms) plan ≡ Some (Gen seed forms) → ⊥
no_soaked None sizes seed forms e = cc
no_soaked (Some plan) sizes seed forms e = cc

-- a number within limits is no more than the most
number_few : (least most : ℕ) (text : List ℕ) (number : ℕ) → number_in least most text ≡ Some number → number ≤ most
number_few least most text number e =
    option_and_then_some (within least most) (decimal_value text) number e
    (λ found is f. (within_limits least most found number f).1)

-- a plan, by its parts
abbrev pub plan_with : ℕ → ℕ → Plan
plan_with seed forms = record { seed = seed; forms = forms }

-- the forms of a plan are its second number
plan_forms : (seed forms : Option ℕ) (plan : Plan) → plan_from seed forms ≡ Some plan → forms ≡ Some plan.forms
plan_forms None forms plan e = cc
plan_forms (Some seed) None plan e = cc
plan_forms (Some seed) (Some forms) plan e =
    ap (λ p. Some p.forms) (same_Some (plan_with seed forms) plan e)

-- so they are few
pub plan_few : (words : List Text) (plan : Plan) → plan_of words ≡ Some plan → plan.forms ≤ forms_most
plan_few [] plan e = cc
plan_few (a ∷ []) plan e = cc
plan_few (a ∷ b ∷ []) plan e =
    number_few 0 forms_most b plan.forms
    (plan_forms (number_in 0 (2 ^ 64 - 1) a) (number_in 0 forms_most b) plan e)
plan_few (a ∷ b ∷ c ∷ words) plan e = cc

-- a plan that asks for a generated script has its seed and forms
generated_plan : (asked : Option Plan) (seed forms : ℕ)
    → option_map (λ plan. Gen plan.seed plan.forms) asked ≡ Some (Gen seed forms)
    → asked ≡ Some (plan_with seed forms)
generated_plan None seed forms e = cc
generated_plan (Some plan) seed forms e =
    let same_seed : plan.seed ≡ seed = cc in
    let same_forms : plan.forms ≡ forms = cc in
    ap₂ (λ s n. Some (plan_with s n)) same_seed same_forms

-- with no option
generation_few : (settings : List Setting) (words : List Text) (seed forms : ℕ)
    → unless_any settings (plan_of words) ≡ Some (plan_with seed forms) → forms ≤ forms_most
generation_few [] words seed forms e = plan_few words (plan_with seed forms) e
generation_few (setting ∷ settings) words seed forms e = cc

-- a command that asks for a generated script asks for few forms
few_by : (command : Command) (given : Given) (seed forms : ℕ) → invocation_by command given ≡ Some (Gen seed forms)
    → forms ≤ forms_most
few_by run given seed forms e = absurd (no_run (sizes_alone given) seed forms e)
few_by check given seed forms e = absurd (no_check (sizes_alone given) seed forms e)
few_by soak given seed forms e =
    option_and_then_some (λ sizes. option_map (λ plan. Soak sizes plan.seed plan.forms) (plan_of given.positional))
    (sizes_of given.settings) (Gen seed forms) e
    (λ sizes is f. absurd (no_soaked (plan_of given.positional) sizes seed forms f))
few_by gen given seed forms e =
    generation_few given.settings given.positional seed forms
    (generated_plan (unless_any given.settings (plan_of given.positional)) seed forms e)

-- where words ask for a generated script, it has no more forms than it may have
pub asked_forms_are_few : AskedFormsAreFew
asked_forms_are_few words seed forms asks =
    let asked = asked_of words (Gen seed forms) asks in
    option_and_then_some (invocation_by asked.0) (given_of (drop 1 words)) (Gen seed forms) asked.1
    (λ given is f. few_by asked.0 given seed forms f)
