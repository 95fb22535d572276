use Rattle.std.proofs.Common.{◌≡◌, ◌↔◌, IsTrue, Option, Some, sym, subst, slice_index}
use Rattle.mark_laws.specs.Types.{Laid}
use Rattle.mark_world.specs.Safety.{laid_in, slots_by}
use Rattle.mark_world.specs.Conditions.{AreSure}
use Rattle.mark_core.proofs.conditions.are_sure_after.Goals as goal

pub returns : goal.returns
returns c =
    let w = c.args.world.now in
    let old_in : laid_in w.layouts (slice_index w.words c.args.at) ≡ Some c.in-Some.old =
    cc (c.in-Some.ensures.laid, c.word_at-found.ensures, c.as_slice.ensures, c.as_slice-2.ensures) in
    let new_in : laid_in w.layouts c.args.word ≡ Some c.in-Some-laid_in.new =
    cc (c.in-Some-laid_in.ensures.laid, c.as_slice-3.ensures) in
    subst (λ (before : Option Laid). IsTrue c.are_sure.result
    ↔ AreSure w.old w.words w.main c.args.at (slots_by before 0) (slots_by (laid_in w.layouts c.args.word) 0))
    (sym old_in)
    (subst (λ (after : Option Laid). IsTrue c.are_sure.result
    ↔ AreSure w.old w.words w.main c.args.at (slots_by (Some c.in-Some.old) 0) (slots_by after 0))
    (sym new_in) c.are_sure.ensures)
