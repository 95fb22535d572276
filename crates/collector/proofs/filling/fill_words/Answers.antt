use Rattle.std.proofs.Common.{◌≡◌, ℕ, ◌∙◌, subst, arith}
use Rattle.page_space.specs.Extents.{roots_start, marks_start}
use Rattle.page_space.proofs.Starts.{layouts_start_is, marks_start_is}
use Rattle.write_barrier.specs.Seats.{heap_words}
use Rattle.write_barrier.specs.MutatorState.{heap_of}
use Rattle.collector.specs.Filling.{CopiesWithin}
use Rattle.collector.proofs.FilledWords.{words_filled}
use Rattle.collector.proofs.filling.fill_words.Goals as goal

-- there are as many words as addresses before the marks
pub copy_words-requires-clause-ordered : goal.copy_words-requires-clause-ordered
copy_words-requires-clause-ordered c =
    let space = c.args.main.now.seat.space in
    let count : c.count.result ≡ marks_start space = c.count.ensures ∙ c.requires.whole.sized.words in
    omega (arith, count, c.fill_cells-roots.ensures.roots, layouts_start_is space, marks_start_is space)

pub returns : goal.returns
returns c =
    let space = c.args.main.now.seat.space in
    let words = heap_words c.args.main.now.seat in
    let old = c.fill_cells-roots.new.words in
    let new = c.copy_words.new.words in
    let count : c.count.result ≡ marks_start space = c.count.ensures ∙ c.requires.whole.sized.words in
    let From : ℕ → Type 0 = λ from. CopiesWithin words old new from c.count.result in
    let To : ℕ → Type 0 = λ to. CopiesWithin words old new (roots_start space) to in
    let copies = subst To count (subst From c.fill_cells-roots.ensures.roots c.copy_words.ensures) in
    words_filled (heap_of c.args.main.now) c.args.words.now old new c.requires.whole.rows c.requires.room
    c.fill_cells-roots.ensures.filled copies
