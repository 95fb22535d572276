-- The root words of a variable stand behind the pages and before the marks.
use Rattle.std.proofs.Common.{◌≡◌, ◌∙◌, ap, arith}
use Rattle.page_space.specs.Extents.{Space}
use Rattle.page_space.proofs.Starts.{roots_start_is, layouts_start_is, marks_start_is}
use Rattle.handle_roots.specs.Roots.{root_at}
use Rattle.write_barrier.proofs.main_side.Main.root_of.Goals as goal

pub returns : goal.returns
returns c =
    let space = c.args.self.now.seat.space in
    let at : c.root_at.result ≡ root_at space c.args.variable =
    c.root_at.ensures.at ∙ ap (λ (s : Space). root_at s c.args.variable) c.regions.ensures.regions in
    record {
      at = at;
      behind = omega (arith, at, roots_start_is space);
      before = omega (arith, at, c.requires, layouts_start_is space, marks_start_is space);
    }
