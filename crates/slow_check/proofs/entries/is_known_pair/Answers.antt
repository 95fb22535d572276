use Rattle.std.proofs.Common.{sym, ◌∙◌}
use Rattle.image_walk.specs.TablePairs.{pair_of}
use Rattle.heap_model.proofs.PairLists.{not_free}
use Rattle.slow_check.proofs.entries.is_known_pair.Goals as goal

pub returns-else-is_free : goal.returns-else-is_free
returns-else-is_free c = (
  λ yes filled. c.is_known.ensures.0 yes,
  λ known. c.is_known.ensures.1
      (known (not_free (pair_of c.args.pair) (sym c.is_free.ensures ∙ c.if-is_free.false))),
)
