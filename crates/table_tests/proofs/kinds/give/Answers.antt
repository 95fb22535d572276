-- The cell was white, so it waits once it is shaded.
use Rattle.std.proofs.Common.{◌≡◌, ◌∙◌, ℕ, List, Contains, slice_index, ap, sym, subst, arith}
use Rattle.core_parts.proofs.Joining.{in_found, joined_in}
use Rattle.mark_world.specs.Steps.{joined_if_white}
use Rattle.shared_table.specs.Colours.{number_of}
use Rattle.shared_table.specs.Seats.{Side}
use Rattle.table_tests.proofs.Bare.{zero_at}
use Rattle.table_tests.proofs.kinds.give.Goals as goal

pub shade-requires-clause-may : goal.shade-requires-clause-may
shade-requires-clause-may c =
    subst (λ (all : List ℕ). Contains all c.args.at) (sym c.requires.these.born)
    (in_found c.args.starts.now c.args.at c.requires.among)

pub give_board-requires-clause-may : goal.give_board-requires-clause-may
give_board-requires-clause-may c =
    let before : Side = c.args.side.now in
    let at : ℕ = c.args.at in
    let white : number_of c.shade.result ≡ 0 =
    c.shade.ensures.home c.requires.these.home
    ∙ ap (λ (all : List ℕ). slice_index all at) c.requires.these.white
    ∙ zero_at before.main.old at in
    record {
      on_board = omega arith;
      had = subst (λ (side : Side). Contains side.main.view.grey at) (sym c.shade.ensures.shaded)
          (subst (λ (colour : ℕ). Contains (joined_if_white before.main.view.grey colour at) at) (sym white)
          (joined_in before.main.view.grey at));
    }
