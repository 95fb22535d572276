use Rattle.std.proofs.Common.{◌≡◌, ◌+◌, Some, set, slice_get, sym, ◌∙◌, ap}
use Rattle.word_store.specs.Copies.{copied}
use Rattle.word_store.proofs.CopiedWords.{slice_get-copied_next, copied_more}
use Rattle.word_store.proofs.copying.copy.Goals as goal

-- what was read is the word that stood there, so with it one more is copied
pub loop-i-preserved : goal.loop-i-preserved
loop-i-preserved g c =
    let stood : slice_get (copied (g.W.Reads.words c.args.words.now) c.args.from c.args.to c.loop-i.i)
    (c.args.from + c.loop-i.i)
    ≡ Some c.load-word.result =
    ap (λ words. slice_get words (c.args.from + c.loop-i.i)) (sym c.loop-i.invariant.copied)
    ∙ c.load-word.ensures.loaded in
    record {
      copied =
          c.put.ensures.put
          ∙ ap (λ words. set words (c.args.to + c.loop-i.i) c.load-word.result)
          (c.load-word.ensures.kept ∙ c.loop-i.invariant.copied)
          ∙ copied_more (g.W.Reads.words c.args.words.now) c.args.from c.args.to c.args.count
          c.loop-i.i c.load-word.result
          c.requires.within c.requires.room c.loop-i-test.true
          (slice_get-copied_next (g.W.Reads.words c.args.words.now) c.args.from c.args.to c.args.count c.loop-i.i
          c.load-word.result c.requires.within c.requires.room c.requires.apart c.loop-i-test.true stood);
      steady = g.met.W.Reads.stays_steady c.load-word.new.self c.put.new.self c.put.ensures.rest
          (g.met.W.Reads.stays_steady c.loop-i.words c.load-word.new.self c.load-word.ensures.rest
          c.loop-i.invariant.steady);
      rest = g.met.W.Reads.rest_again c.args.words.now c.load-word.new.self c.put.new.self
          (g.met.W.Reads.rest_again c.args.words.now c.loop-i.words c.load-word.new.self
          c.loop-i.invariant.rest c.load-word.ensures.rest)
          c.put.ensures.rest;
    }
