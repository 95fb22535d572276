-- The sizes that a command line gives.
use Rattle.std.specs.Prelude.{ℕ, List, Option, Some, None, option_map, find, codes, bytes_eq}
use Rattle.page_space.specs.declared.sizes.Sizes.{Sizes}
use Rattle.command_line.specs.declared.number.Limits.{Limits}
use Rattle.page_space.specs.Sizes.{pages_most, young_least, young_most, helpers_most}
use Rattle.command_line.specs.Given.{Text, Setting, Given, unless_any}
use Rattle.command_line.specs.Numbers.{number_or_default}

-- pages of the old generation
abbrev pub pages_limits : Limits
pages_limits = record { default = 64; least = 1; most = pages_most }

-- words of the young generation
abbrev pub young_limits : Limits
young_limits = record { default = 8192; least = young_least; most = young_most }

-- threads that help to collect
abbrev pub helpers_limits : Limits
helpers_limits = record { default = 2; least = 0; most = helpers_most }

-- the sizes, where each of the three numbers is there
abbrev pub sizes_from : Option ℕ → Option ℕ → Option ℕ → Option Sizes
sizes_from (Some pages) (Some young) (Some helpers) = Some (record { pages = pages; young = young; helpers = helpers })
sizes_from _ _ _ = None

-- the sizes by the texts of the options
abbrev pub sizes_by : (Text → Option Text) → Option Sizes
sizes_by text_of_name = sizes_from
    (number_or_default pages_limits (text_of_name (codes "pages")))
    (number_or_default young_limits (text_of_name (codes "young")))
    (number_or_default helpers_limits (text_of_name (codes "helpers")))

-- the text that an option is set to
abbrev pub text_in : List Setting → Text → Option Text
text_in settings name = option_map (λ setting. setting.text) (find (λ setting. bytes_eq setting.name name) settings)

-- the sizes that the settings give
abbrev pub sizes_of : List Setting → Option Sizes
sizes_of settings = sizes_by (text_in settings)

-- the sizes, where no positional word is given
abbrev pub sizes_alone : Given → Option Sizes
sizes_alone given = unless_any given.positional (sizes_of given.settings)
