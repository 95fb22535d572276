-- What a command line asks for.
use Rattle.std.specs.Prelude.{ℕ, ◌-◌, ◌^◌, Bool, true, false, List, [], ◌∷◌, Option}
use Rattle.std.specs.Prelude.{Some, None, option_map}
use Rattle.std.specs.Prelude.{option_and_then, find, codes, bytes_eq}
use Rattle.std.specs.List.{list_any}
use Rattle.page_space.specs.declared.sizes.Sizes.{Sizes}
use Rattle.command_line.specs.declared.invocation.Invocation.{Invocation}
use Rattle.command_line.specs.declared.invocation.Invocation.TheVariants.{Run, Check, Soak, Gen}
use Rattle.command_line.specs.Given.{Text, Given, given_of, unless_any}
use Rattle.command_line.specs.Numbers.{number_in}
use Rattle.command_line.specs.Sizes.{sizes_of, sizes_alone}

-- the first word of a command line
pub data Command : Type 0 where
  run : Command
  check : Command
  soak : Command
  gen : Command

-- the word of a command
abbrev pub command_text : Command → Text
command_text run = codes "run"
command_text check = codes "check"
command_text soak = codes "soak"
command_text gen = codes "gen"

-- all commands
abbrev pub commands : List Command
commands = run ∷ check ∷ soak ∷ gen ∷ []

-- the command that is written as this word
abbrev pub command_of : Text → Option Command
command_of word = find (λ command. bytes_eq (command_text command) word) commands

-- which script is to be generated: its seed, and how many forms it has
pub record Plan : Type 0 where
  pub seed : ℕ
  pub forms : ℕ

-- the plan, where both numbers are there
abbrev pub plan_from : Option ℕ → Option ℕ → Option Plan
plan_from (Some seed) (Some forms) = Some (record { seed = seed; forms = forms })
plan_from _ _ = None

-- the most forms of a generated script
abbrev pub forms_most : ℕ
forms_most = 30000

-- a seed of 64 bits and up to 30,000 forms, as the two positional words
abbrev pub plan_of : List Text → Option Plan
plan_of (seed ∷ forms ∷ []) = plan_from (number_in 0 (2 ^ 64 - 1) seed) (number_in 0 forms_most forms)
plan_of _ = None

-- What a command asks for with this given. `run` and `check` take no positional word, and `gen` takes no option.
abbrev pub invocation_by : Command → Given → Option Invocation
invocation_by run given = option_map Run (sizes_alone given)
invocation_by check given = option_map Check (sizes_alone given)
invocation_by soak given =
    option_and_then (λ sizes. option_map (λ plan. Soak sizes plan.seed plan.forms) (plan_of given.positional))
    (sizes_of given.settings)
invocation_by gen given =
    option_map (λ plan. Gen plan.seed plan.forms) (unless_any given.settings (plan_of given.positional))

-- what the words after the program's name ask for; nothing where they are refused
abbrev pub invocation_of : List Text → Option Invocation
invocation_of [] = None
invocation_of (first ∷ words) =
    option_and_then (λ command. option_and_then (invocation_by command) (given_of words)) (command_of first)

-- the first word is one of these commands
abbrev pub begins_with_any : List Command → List Text → Bool
begins_with_any some [] = false
begins_with_any some (first ∷ words) = list_any (λ command. bytes_eq (command_text command) first) some

-- what a run asks for, or a run that is checked
abbrev pub asked_run : Bool → Sizes → Invocation
asked_run false sizes = Run sizes
asked_run true sizes = Check sizes
