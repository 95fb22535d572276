use Rattle.std.proofs.Common.{◌*◌}
use Rattle.page_space.specs.Sizes.{page_words}
use Rattle.remembered_set.specs.Recorded.{HasNoneBetween}
use Rattle.remembered_set.proofs.Remembered.next.Given as goal

abbrev pub invariant-loop-page : goal.invariant-loop-page
invariant-loop-page l = HasNoneBetween l.self l.from (page_words * l.page)
