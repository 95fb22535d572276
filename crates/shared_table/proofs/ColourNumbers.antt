-- The numbers of colours.
use Rattle.std.proofs.Common.{◌≡◌, ◌≢◌, ◌≤◌, refl, arith}
use Rattle.mark_world.specs.Steps.{black, white}
use Rattle.shared_table.specs.declared.colour.Colour.{Colour}
use Rattle.shared_table.specs.declared.colour.Colour.TheVariants.{White, Grey, Black}
use Rattle.shared_table.specs.Colours.{number_of}

-- the colour whose number is that of black
pub black_is : (colour : Colour) → number_of colour ≡ black → colour ≡ Black
black_is White same = absurd (omega (arith, same))
black_is Grey same = absurd (omega (arith, same))
black_is Black same = refl

-- a colour that is not white has another number
pub not_white_number : (colour : Colour) → (colour ≡ White → ⊥) → number_of colour ≢ white
not_white_number White other is = other refl
not_white_number Grey other is = absurd (omega (arith, is))
not_white_number Black other is = absurd (omega (arith, is))

-- none has a number above that of black
pub black_most : (colour : Colour) → number_of colour ≤ black
black_most White = omega arith
black_most Grey = omega arith
black_most Black = omega arith
