-- The sizes and the forms that a command line asks for.
use Rattle.std.specs.Prelude.{◌≡◌, ℕ, ◌≤◌, Bool, List, Some}
use Rattle.page_space.specs.declared.sizes.Sizes.{Sizes}
use Rattle.page_space.specs.Sizes.{AreWithin, variables_most}
use Rattle.command_line.specs.declared.invocation.Invocation.TheVariants.{Soak, Gen}
use Rattle.command_line.specs.Given.{Text}
use Rattle.command_line.specs.Invocations.{invocation_of, asked_run, forms_most}

-- where words ask for the run of a script, checked or not, the sizes are within their limits
abbrev pub AskedSizesAreWithin : Type 0
AskedSizesAreWithin =
    (words : List Text) (checks : Bool) (sizes : Sizes) (variables : ℕ)
    → invocation_of words ≡ Some (asked_run checks sizes)
    → variables ≤ variables_most → AreWithin sizes variables

-- where words ask for the run of a generated script, the sizes are within their limits
abbrev pub SoakedSizesAreWithin : Type 0
SoakedSizesAreWithin =
    (words : List Text) (sizes : Sizes) (seed forms variables : ℕ) → invocation_of words ≡ Some (Soak sizes seed forms)
    → variables ≤ variables_most → AreWithin sizes variables

-- where words ask for a generated script, it has no more forms than it may have
abbrev pub AskedFormsAreFew : Type 0
AskedFormsAreFew =
    (words : List Text) (seed forms : ℕ) → invocation_of words ≡ Some (Gen seed forms) → forms ≤ forms_most

-- where words ask for the run of a generated script, it has no more forms than it may have
abbrev pub SoakedFormsAreFew : Type 0
SoakedFormsAreFew =
    (words : List Text) (sizes : Sizes) (seed forms : ℕ) → invocation_of words ≡ Some (Soak sizes seed forms)
    → forms ≤ forms_most
