use Rattle.std.proofs.Common.{arith}
use Rattle.page_space.proofs.Starts.{board_start_is, words_count_is}
use Rattle.image_walk.proofs.SpanWords.{words_count_few}
use Rattle.slow_check.proofs.bindings.root_of.Goals as goal

-- the words are no more than those of a heap, whose number is a `u32`
pub new-words-requires : goal.new-words-requires
new-words-requires c =
    let space = c.args.image.now.regions in
    rw c.as_slice.ensures (omega (
      arith,
      c.requires.sized,
      board_start_is space,
      words_count_is space,
      words_count_few c.args.image.now.regions c.sizes_fit.ensures,
    ))
