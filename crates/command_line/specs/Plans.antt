-- What the positional words of `gen` ask for, and where a `--` may stand beside them.
use Rattle.std.specs.Prelude.{◌-◌, ◌^◌, Option, None, option_map, codes, bytes_eq, if◌then◌else◌}
use Rattle.command_line.specs.declared.invocation.Invocation.{Invocation}
use Rattle.command_line.specs.declared.invocation.Invocation.TheVariants.{Gen}
use Rattle.command_line.specs.Given.{Text}
use Rattle.command_line.specs.Numbers.{number_in}
use Rattle.command_line.specs.Invocations.{plan_from, forms_most}

-- two words ask for the script of a seed
abbrev pub asked_of_two : Text → Text → Option Invocation
asked_of_two seed forms =
    option_map (λ plan. Gen plan.seed plan.forms)
    (plan_from (number_in 0 (2 ^ 64 - 1) seed) (number_in 0 forms_most forms))

-- so do three, of which one is `--`
abbrev pub asked_of_three : Text → Text → Text → Option Invocation
asked_of_three first second third =
    if bytes_eq first (codes "--") then asked_of_two second third
    else (if bytes_eq second (codes "--") then asked_of_two first third
    else (if bytes_eq third (codes "--") then asked_of_two first second else None))
