use Rattle.core_parts.proofs.Handing.{lost_give, given_is_taken, empty_is_board, board_given, board_taken}
use Rattle.core_parts.proofs.board.laws_of_boards.Goals as goal

pub returns-clause-lost_give : goal.returns-clause-lost_give
returns-clause-lost_give c = lost_give

pub returns-clause-given_is_taken : goal.returns-clause-given_is_taken
returns-clause-given_is_taken c = given_is_taken

pub returns-clause-empty_is_board : goal.returns-clause-empty_is_board
returns-clause-empty_is_board c = empty_is_board

pub returns-clause-boards_stay_boards : goal.returns-clause-boards_stay_boards
returns-clause-boards_stay_boards c =
    λ board place address within fits is. (board_given board place address within fits is, board_taken board place is)
