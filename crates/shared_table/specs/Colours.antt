-- The number that stands for a colour among the words of the table.
use Rattle.std.specs.Prelude.{ℕ}
use Rattle.mark_world.specs.Steps.{white, grey, black}
use Rattle.shared_table.specs.declared.colour.Colour.{Colour}
use Rattle.shared_table.specs.declared.colour.Colour.TheVariants.{White, Grey, Black}

abbrev pub number_of : Colour → ℕ
number_of White = white
number_of Grey = grey
number_of Black = black
