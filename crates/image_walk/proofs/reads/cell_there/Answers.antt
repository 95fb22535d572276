use Rattle.std.proofs.Common.{ℕ, List, arith, subst, ◌∙◌}
use Rattle.page_space.proofs.Starts.{board_start_is, words_count_is}
use Rattle.cell_layout.specs.Cells.{HasNoCell}
use Rattle.image_walk.proofs.SpanWords.{words_count_few}
use Rattle.image_walk.proofs.reads.cell_there.Goals as goal

-- the words are no more than those of a heap, whose number is a `u32`
pub new-words-requires : goal.new-words-requires
new-words-requires c =
    let space = c.args.image.now.regions in
    rw c.as_slice.ensures (omega (
      arith,
      c.requires,
      board_start_is space,
      words_count_is space,
      words_count_few c.args.image.now.regions c.sizes_fit.ensures,
    ))

-- where the words read as no cell, there is none
pub returns-in-Err-clause-cell : goal.returns-in-Err-clause-cell
returns-in-Err-clause-cell c =
    let None : List ℕ → Type 0 = λ words. HasNoCell c.args.image.now.regions words c.args.a in
    subst None (c.new-words.ensures ∙ c.as_slice.ensures) c.in-Err.ensures.none.none
