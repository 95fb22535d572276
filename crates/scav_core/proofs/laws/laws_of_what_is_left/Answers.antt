use Rattle.scav_core.proofs.Concluding.{left_is_on_board, nothing_left, main_goes_on}
use Rattle.scav_core.proofs.laws.laws_of_what_is_left.Goals as goal

pub returns : goal.returns
returns c = record { on_board = left_is_on_board; nothing = nothing_left; goes_on = main_goes_on }
