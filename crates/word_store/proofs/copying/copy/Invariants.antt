use Rattle.std.proofs.Common.{◌≡◌}
use Rattle.word_store.specs.Copies.{copied}
use Rattle.word_store.proofs.copying.copy.Given as goal

abbrev pub invariant-loop-i : goal.invariant-loop-i
invariant-loop-i g l = record {
  copied : g.W.Reads.words l.words ≡ copied (g.W.Reads.words l.initial.words) l.from l.to l.i;
  steady : g.W.Reads.IsSteady l.words;
  rest : g.W.Reads.Rest l.initial.words l.words;
}
