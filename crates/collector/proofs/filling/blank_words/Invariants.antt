use Rattle.collector.specs.Filling.{BlanksWithin}
use Rattle.collector.proofs.filling.blank_words.Given as goal

abbrev pub invariant-loop-at : goal.invariant-loop-at
invariant-loop-at l = BlanksWithin l.fn.words l.words l.from l.at
