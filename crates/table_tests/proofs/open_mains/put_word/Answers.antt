-- The word is one of the page.
use Rattle.std.proofs.Common.{sym, subst, arith}
use Rattle.table_tests.specs.OpenMains.{IsBareMain}
use Rattle.table_tests.proofs.OpenMains.{bare_put, before_marks}
use Rattle.table_tests.proofs.open_mains.put_word.Goals as goal

pub write-requires-clause-within : goal.write-requires-clause-within
write-requires-clause-within c =
    before_marks c.args.main.now.seat.space c.args.at c.requires.bare.space (omega (arith, c.if-at-lt2048.true))

pub returns-then-at-lt2048 : goal.returns-then-at-lt2048
returns-then-at-lt2048 c = record {
  bare = subst IsBareMain (sym c.write.ensures.written)
      (bare_put c.args.main.now c.args.at c.args.word c.requires.bare c.if-at-lt2048.true);
}
