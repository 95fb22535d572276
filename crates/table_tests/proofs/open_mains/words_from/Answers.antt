-- One word more is read in each turn.
use Rattle.std.proofs.Common.{ℕ, List, ◌∷◌, [], ◌++◌, sym, ap, ◌∙◌}
use Rattle.write_barrier.specs.Seats.{heap_words}
use Rattle.table_tests.proofs.OpenMains.{one_more}
use Rattle.table_tests.proofs.open_mains.words_from.Goals as goal

pub loop-k-preserved : goal.loop-k-preserved
loop-k-preserved c =
    c.in_ok-push.ensures.items
    ∙ (ap (λ (words : List ℕ). words ++ c.word.result ∷ []) c.loop-k.invariant
    ∙ sym (one_more (heap_words c.args.main.now.seat) c.args.from c.loop-k.k c.word.result c.word.ensures.of_heap))
