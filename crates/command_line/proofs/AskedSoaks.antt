-- The sizes and the forms of a generated script that words ask to run.
use Rattle.std.proofs.Common.{◌≡◌, ◌∙◌, ℕ, Option, Some, None, drop, refl, ap₂}
use Rattle.std.specs.Option.{option_map}
use Rattle.std.proofs.lemmas.Option.{option_and_then_some}
use Rattle.page_space.specs.declared.sizes.Sizes.{Sizes}
use Rattle.command_line.specs.declared.invocation.Invocation.TheVariants.{Run, Check, Soak, Gen}
use Rattle.command_line.specs.Given.{Given, given_of, unless_any}
use Rattle.command_line.specs.Sizes.{sizes_of, sizes_alone}
use Rattle.command_line.specs.Invocations.{Command, run, check, soak, gen, Plan, plan_of, invocation_by}
use Rattle.command_line.specs.SizeLaws.{SoakedSizesAreWithin, SoakedFormsAreFew}
use Rattle.command_line.proofs.AskedCommands.{asked_of}
use Rattle.command_line.proofs.AskedSizes.{settings_within}
use Rattle.command_line.proofs.AskedForms.{plan_few, plan_with}

-- what a run asks for is no run of a generated script
no_run : (asked : Option Sizes) (sizes : Sizes) (seed forms : ℕ)
    → option_map Run asked ≡ Some (Soak sizes seed forms) → ⊥
no_run None sizes seed forms e = cc
no_run (Some asked) sizes seed forms e = cc

-- nor is what a run that is checked asks for
no_check : (asked : Option Sizes) (sizes : Sizes) (seed forms : ℕ)
    → option_map Check asked ≡ Some (Soak sizes seed forms) → ⊥
no_check None sizes seed forms e = cc
no_check (Some asked) sizes seed forms e = cc

-- nor is a generated script
no_generated : (asked : Option Plan) (sizes : Sizes) (seed forms : ℕ)
    → option_map (λ plan. Gen plan.seed plan.forms) asked ≡ Some (Soak sizes seed forms) → ⊥
no_generated None sizes seed forms e = cc
no_generated (Some plan) sizes seed forms e = cc

-- what is given asks for the run of a script with these sizes, this seed and so many forms
record GivesSoak (given : Given) (sizes : Sizes) (seed forms : ℕ) : Type 0 where
  of_settings : sizes_of given.settings ≡ Some sizes
  of_words : plan_of given.positional ≡ Some (plan_with seed forms)

-- sizes that are found and a plan that is found
soak_found : (given : Given) (found sizes : Sizes) (asked : Option Plan) (seed forms : ℕ)
    → sizes_of given.settings ≡ Some found → plan_of given.positional ≡ asked
    → option_map (λ plan. Soak found plan.seed plan.forms) asked ≡ Some (Soak sizes seed forms)
    → GivesSoak given sizes seed forms
soak_found given found sizes None seed forms is plans e = cc
soak_found given found sizes (Some plan) seed forms is plans e =
    let same_seed : plan.seed ≡ seed = cc in
    let same_forms : plan.forms ≡ forms = cc in
    record {
      of_settings = cc;
      of_words = plans ∙ ap₂ (λ s n. Some (plan_with s n)) same_seed same_forms;
    }

-- only `soak` asks for such a run
soak_of : (command : Command) (given : Given) (sizes : Sizes) (seed forms : ℕ)
    → invocation_by command given ≡ Some (Soak sizes seed forms) → GivesSoak given sizes seed forms
soak_of run given sizes seed forms e = absurd (no_run (sizes_alone given) sizes seed forms e)
soak_of check given sizes seed forms e = absurd (no_check (sizes_alone given) sizes seed forms e)
soak_of soak given sizes seed forms e =
    option_and_then_some (λ found. option_map (λ plan. Soak found plan.seed plan.forms) (plan_of given.positional))
    (sizes_of given.settings) (Soak sizes seed forms) e
    (λ found is f. soak_found given found sizes (plan_of given.positional) seed forms is refl f)
soak_of gen given sizes seed forms e =
    absurd (no_generated (unless_any given.settings (plan_of given.positional)) sizes seed forms e)

-- the sizes are within their limits
pub soaked_sizes_are_within : SoakedSizesAreWithin
soaked_sizes_are_within words sizes seed forms variables asks few =
    let asked = asked_of words (Soak sizes seed forms) asks in
    option_and_then_some (invocation_by asked.0) (given_of (drop 1 words)) (Soak sizes seed forms) asked.1
    (λ given is f. settings_within given sizes variables (soak_of asked.0 given sizes seed forms f).of_settings few)

-- the forms are few
pub soaked_forms_are_few : SoakedFormsAreFew
soaked_forms_are_few words sizes seed forms asks =
    let asked = asked_of words (Soak sizes seed forms) asks in
    option_and_then_some (invocation_by asked.0) (given_of (drop 1 words)) (Soak sizes seed forms) asked.1
    (λ given is f. plan_few given.positional (plan_with seed forms)
    (soak_of asked.0 given sizes seed forms f).of_words)
