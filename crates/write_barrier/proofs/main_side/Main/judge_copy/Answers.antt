-- A word of a page that refers to a young cell is recorded, one that does not is not, and behind pages there are none.
use Rattle.std.proofs.Common.{◌<◌, ◌∙◌, sym, ap, arith}
use Rattle.write_barrier.specs.MutatorState.{Mutator}
use Rattle.write_barrier.proofs.Recording.{unjudged_touch}
use Rattle.write_barrier.proofs.StoredRanges.{judged_here}
use Rattle.write_barrier.proofs.main_side.Main.judge_copy.Goals as goal

pub returns-then-is_young-clause-touches : goal.returns-then-is_young-clause-touches
returns-then-is_young-clause-touches c =
    let bound = ap (λ (main : Mutator). main.recorded.bound) c.self.view_is in
    let of_page : c.args.slot < c.args.self.now.recorded.bound =
    omega (arith, bound, c.covers.ensures.0 c.if-covers.true) in
    judged_here c.args.self.now c.judge.new.self c.args.slot c.word.result of_page c.word.ensures.of_heap
    c.judge.ensures

pub returns-else-is_young-clause-touches : goal.returns-else-is_young-clause-touches
returns-else-is_young-clause-touches c =
    let bound = ap (λ (main : Mutator). main.recorded.bound) c.self.view_is in
    let of_page : c.args.slot < c.args.self.now.recorded.bound =
    omega (arith, bound, c.covers.ensures.0 c.if-covers.true) in
    unjudged_touch c.args.self.now c.args.slot c.word.result c.word.ensures.of_heap
    (sym c.is_young.ensures ∙ c.if-is_young.false) (c.requires.none of_page)
