-- The sizes that words ask for are within their limits.
use Rattle.std.proofs.Common.{◌≡◌, ℕ, ◌≤◌, List, [], ◌∷◌, Option, Some, None, Bool, true, false, IsTrue}
use Rattle.std.proofs.Common.{◌&&◌, nat_le, cond, arith, refl, subst, drop}
use Rattle.std.proofs.lemmas.Bool.Decides.{nat_tests}
use Rattle.std.proofs.lemmas.Option.{option_and_then_some, same_Some}
use Rattle.std.specs.Option.{option_map}
use Rattle.std.specs.Prelude.{codes}
use Rattle.page_space.specs.declared.sizes.Sizes.{Sizes}
use Rattle.page_space.specs.Sizes.{AreWithin, variables_most}
use Rattle.command_line.specs.declared.number.Limits.{Limits}
use Rattle.command_line.specs.declared.invocation.Invocation.{Invocation}
use Rattle.command_line.specs.declared.invocation.Invocation.TheVariants.{Run, Check, Soak, Gen}
use Rattle.command_line.specs.Given.{Text, Given, given_of, unless_any}
use Rattle.command_line.specs.Numbers.{decimal_value, within, number_or_default}
use Rattle.command_line.specs.Sizes.{pages_limits, young_limits, helpers_limits, sizes_from, text_in, sizes_of}
use Rattle.command_line.specs.Sizes.{sizes_alone}
use Rattle.command_line.specs.Invocations.{Command, run, check, soak, gen, Plan, plan_of}
use Rattle.command_line.specs.Invocations.{invocation_by, asked_run}
use Rattle.command_line.specs.SizeLaws.{AskedSizesAreWithin}
use Rattle.command_line.proofs.AskedCommands.{asked_of}

-- a number that passes the test of its limits is within them
pass_limits : (test : Bool) (number found : ℕ) → cond test (Some number) None ≡ Some found
    → IsTrue test × (number ≡ found)
pass_limits true number found e = (refl, same_Some number found e)
pass_limits false number found e = cc

-- so it is with a number that is found within limits
pub within_limits : (least most number found : ℕ) → within least most number ≡ Some found
    → (least ≤ found) × (found ≤ most)
within_limits least most number found e =
    let passed = pass_limits (nat_le least number && nat_le number most) number found e in
    let test : IsTrue (nat_le least number && nat_le number most) = passed.0 in
    subst (λ (n : ℕ). (least ≤ n) × (n ≤ most)) passed.1 (grind (arith, nat_tests), grind (arith, nat_tests))

-- the number of an option is within the limits, if the default is
number_within : (limits : Limits) (text : Option Text) (number : ℕ) → limits.least ≤ limits.default
    → limits.default ≤ limits.most → number_or_default limits text ≡ Some number
    → (limits.least ≤ number) × (number ≤ limits.most)
number_within limits None number least most e =
    subst (λ (n : ℕ). (limits.least ≤ n) × (n ≤ limits.most)) (same_Some limits.default number e) (least, most)
number_within limits (Some text) number least most e =
    option_and_then_some (within limits.least limits.most) (decimal_value text) number e
    (λ found is f. within_limits limits.least limits.most found number f)

-- three numbers that are sizes
pub record FromThree (pages young helpers : Option ℕ) (sizes : Sizes) : Type 0 where
  pub of_pages : pages ≡ Some sizes.pages
  pub of_young : young ≡ Some sizes.young
  pub of_helpers : helpers ≡ Some sizes.helpers

-- sizes that are found are of three numbers
from_three : (pages young helpers : Option ℕ) (sizes : Sizes) → sizes_from pages young helpers ≡ Some sizes
    → FromThree pages young helpers sizes
from_three None young helpers sizes e = cc
from_three (Some pages) None helpers sizes e = cc
from_three (Some pages) (Some young) None sizes e = cc
from_three (Some pages) (Some young) (Some helpers) sizes e =
    let made : Sizes = record { pages = pages; young = young; helpers = helpers } in
    subst (FromThree (Some pages) (Some young) (Some helpers)) (same_Some made sizes e)
    (record { of_pages = refl; of_young = refl; of_helpers = refl })

-- the sizes of settings are within their limits
pub settings_within : (given : Given) (sizes : Sizes) (variables : ℕ) → sizes_of given.settings ≡ Some sizes
    → variables ≤ variables_most → AreWithin sizes variables
settings_within given sizes variables e few =
    let text : Text → Option Text = text_in given.settings in
    let three = from_three _ _ _ sizes e in
    let pages =
    number_within pages_limits (text (codes "pages")) sizes.pages (omega arith) (omega arith) three.of_pages in
    let young =
    number_within young_limits (text (codes "young")) sizes.young (omega arith) (omega arith) three.of_young in
    let helpers = number_within helpers_limits (text (codes "helpers")) sizes.helpers (omega arith) (omega arith)
    three.of_helpers in
    record {
      some_page = pages.0;
      pages = pages.1;
      young_is_least = young.0;
      young = young.1;
      helpers = helpers.1;
      of_variables = few;
    }

-- sizes that stand alone are those of the settings
alone : (positional : List Text) (found : Option Sizes) (sizes : Sizes) → unless_any positional found ≡ Some sizes
    → found ≡ Some sizes
alone [] found sizes e = e
alone (word ∷ words) found sizes e = cc

-- sizes that a run is asked for with are those that it is made of
run_of : (checks : Bool) (found : Option Sizes) (sizes : Sizes) → option_map Run found ≡ Some (asked_run checks sizes)
    → found ≡ Some sizes
run_of checks None sizes e = cc
run_of false (Some found) sizes e = cc
run_of true (Some found) sizes e = cc

-- so it is with a run that is checked
check_of : (checks : Bool) (found : Option Sizes) (sizes : Sizes)
    → option_map Check found ≡ Some (asked_run checks sizes) → found ≡ Some sizes
check_of checks None sizes e = cc
check_of false (Some found) sizes e = cc
check_of true (Some found) sizes e = cc

-- what a plan makes is no run
no_run : (plan : Option Plan) (make : Plan → Invocation) (checks : Bool) (sizes : Sizes)
    → ((made : Plan) → make made ≡ asked_run checks sizes → ⊥)
    → option_map make plan ≡ Some (asked_run checks sizes) → ⊥
no_run None make checks sizes differs e = cc
no_run (Some plan) make checks sizes differs e =
    differs plan (same_Some (make plan) (asked_run checks sizes) e)

-- a generated script is no run
no_generated : (checks : Bool) (sizes : Sizes) (plan : Plan) → Gen plan.seed plan.forms ≡ asked_run checks sizes → ⊥
no_generated false sizes plan e = cc
no_generated true sizes plan e = cc

-- nor is the run of one
no_soaked : (checks : Bool) (sizes found : Sizes) (plan : Plan)
    → Soak found plan.seed plan.forms ≡ asked_run checks sizes → ⊥
no_soaked false sizes found plan e = cc
no_soaked true sizes found plan e = cc

-- a command that asks for a run, checked or not, asks for it with the sizes of the settings
settings_of : (command : Command) (given : Given) (checks : Bool) (sizes : Sizes)
    → invocation_by command given ≡ Some (asked_run checks sizes) → sizes_of given.settings ≡ Some sizes
settings_of run given checks sizes e =
    alone given.positional (sizes_of given.settings) sizes (run_of checks (sizes_alone given) sizes e)
settings_of check given checks sizes e =
    alone given.positional (sizes_of given.settings) sizes (check_of checks (sizes_alone given) sizes e)
settings_of soak given checks sizes e =
    option_and_then_some (λ found. option_map (λ plan. Soak found plan.seed plan.forms) (plan_of given.positional))
    (sizes_of given.settings) (asked_run checks sizes) e
    (λ found is f. absurd (no_run (plan_of given.positional) (λ plan. Soak found plan.seed plan.forms) checks sizes
    (no_soaked checks sizes found) f))
settings_of gen given checks sizes e =
    absurd (no_run (unless_any given.settings (plan_of given.positional)) (λ plan. Gen plan.seed plan.forms)
    checks sizes (no_generated checks sizes) e)

-- where words ask for the run of a script, checked or not, its sizes are within their limits
pub asked_sizes_are_within : AskedSizesAreWithin
asked_sizes_are_within words checks sizes variables asks few =
    let asked = asked_of words (asked_run checks sizes) asks in
    option_and_then_some (invocation_by asked.0) (given_of (drop 1 words)) (asked_run checks sizes) asked.1
    (λ given is f. settings_within given sizes variables (settings_of asked.0 given checks sizes f) few)
