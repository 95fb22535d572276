-- One word more is judged.
use Rattle.std.proofs.Common.{inl, inr, refl, arith}
use Rattle.std.proofs.lemmas.Bool.{cases_lt}
use Rattle.write_barrier.proofs.StoredRanges.{judged_rest, stored_nowhere, stored_more, stored_later}
use Rattle.write_barrier.proofs.main_side.Main.judge_copies.Goals as goal

pub loop-slot-init : goal.loop-slot-init
loop-slot-init c = record { rest = refl; touches = stored_nowhere c.args.self.now c.args.at }

pub judge_copy-requires-clause-none : goal.judge_copy-requires-clause-none
judge_copy-requires-clause-none c =
    let slot = c.loop-slot.slot in
    stored_later c.args.at slot c.loop-slot.invariant.touches (elim (cases_lt slot c.args.self.now.recorded.bound) [
      | inl below ↦ inr (c.requires.none slot (omega arith) (omega arith) below)
      | inr behind ↦ inl behind
    ])

pub loop-slot-preserved : goal.loop-slot-preserved
loop-slot-preserved c = record {
  rest = judged_rest c.args.self.now c.loop-slot.self c.judge_copy.new.self c.loop-slot.invariant.rest
      c.judge_copy.ensures.rest;
  touches = stored_more c.args.at c.loop-slot.slot (omega arith) c.loop-slot.invariant.touches
      c.judge_copy.ensures.touches;
}
