use Rattle.std.proofs.Common.{arith, length-drop, ◌∙◌}
use Rattle.std.proofs.lemmas.List.{take_rest}
use Rattle.byte_ends.proofs.Appending.{Appends-takes}
use Rattle.byte_ends.proofs.writing.write_all.Goals as goal

pub loop-at-preserved : goal.loop-at-preserved
loop-at-preserved g c =
    let at = c.loop-at.at in
    let piece = c.args.piece.now in
    let took = c.in_ok-at.ensures.took in
    record {
      within = omega (arith, length-drop at piece, rw take_rest at took.within);
      so_far = Appends-takes piece _ at c.loop-at.invariant.so_far (take_rest piece at) took;
      steady = c.in_ok-at.ensures.steady ∙ c.loop-at.invariant.steady;
    }
