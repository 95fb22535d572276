use Rattle.std.proofs.Common.{◌≡◌, ◌+◌, ◌++◌, ◌∙◌, ◌≤◌, length, take, length-take, arith}
use Rattle.std.proofs.lemmas.Grind.{common_steps}
use Rattle.byte_ends.proofs.Consuming.{Consumes-gives}
use Rattle.heap_run.specs.Answers.{source_most}
use Rattle.heap_run.proofs.Excess.{too_many}
use Rattle.heap_run.proofs.source_bytes.read_source.Goals as goal

pub loop-turn-preserved : goal.loop-turn-preserved
loop-turn-preserved g c =
    let given = c.in-Ok-read.ensures.given in
    let items : c.extend_from_slice.new.self.items ≡ c.loop-turn.bytes.items
    ++ take c.in-Ok-read.count c.read.new.buffer =
    grind (arith, common_steps) in
    record {
      turns = grind (arith, common_steps);
      short = omega arith;
      room = grind (arith, common_steps);
      so_far = rw items (Consumes-gives _ _ _ _ _ _ _ c.loop-turn.invariant.so_far given);
      steady = c.in-Ok-read.ensures.steady ∙ c.loop-turn.invariant.steady;
    }

pub returns-then-len-gt-SOURCE_BYTES-clause-too_long : goal.returns-then-len-gt-SOURCE_BYTES-clause-too_long
returns-then-len-gt-SOURCE_BYTES-clause-too_long g c = λ is.
    let given = c.in-Ok-read.ensures.given in
    let bytes = c.extend_from_slice.new.self.items in
    let items : bytes ≡ c.loop-turn.bytes.items ++ take c.in-Ok-read.count c.read.new.buffer =
    grind (arith, common_steps) in
    let consumed = rw (← items) at (Consumes-gives _ _ _ _ _ _ _ c.loop-turn.invariant.so_far given) in
    let few : c.in-Ok-read.count ≤ c.min-room.result =
    omega (arith, given.within, length-take c.min-room.result c.loop-turn.piece) in
    let size : length bytes ≡ length c.loop-turn.bytes.items + c.in-Ok-read.count = grind (arith, common_steps) in
    let one_more : length bytes ≡ source_most + 1 = omega (arith, size, few, c.loop-turn.invariant.short) in
    (too_many _ _ bytes consumed one_more, c.in-Ok-read.ensures.steady ∙ c.loop-turn.invariant.steady)
