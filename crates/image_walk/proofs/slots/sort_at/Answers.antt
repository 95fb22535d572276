use Rattle.std.proofs.Common.{sym}
use Rattle.heap_model.proofs.WordClasses.{small_refers_not, undefined_refers_not, hole_refers_not, same_reference}
use Rattle.image_walk.proofs.slots.sort_at.Goals as goal

-- no cell stands at the address
pub returns-in-None : goal.returns-in-None
returns-in-None c = record {
  not_small = λ is. small_refers_not is.0 c.args.at (sym is.2);
  not_undefined = λ same. undefined_refers_not c.args.at (sym same);
  not_hole = λ same. hole_refers_not c.args.at (sym same);
  refers_not = λ cell words refers.
      c.in-None.ensures cell words refers.has (sym (same_reference c.args.at cell.at refers.refers));
}
