-- A word that refers to a cell of eden becomes the reference to its copy.
use Rattle.eden_copies.specs.Steps.{HasFollowed}
use Rattle.eden_copies.proofs.following.follow.Goals as goal

pub home_of-requires-clause-can : goal.home_of-requires-clause-can
home_of-requires-clause-can g c = c.requires.may c.in-Some.at c.in-Some.ensures.some

pub returns-in-Some : goal.returns-in-Some
returns-in-Some g c =
    HasFollowed.led c.in-Some.at c.home_of.result c.in-Some.ensures.some c.home_of.ensures c.reference.ensures
