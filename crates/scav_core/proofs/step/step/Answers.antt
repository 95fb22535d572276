use Rattle.std.proofs.Common.{◌∙◌, ap}
use Rattle.std.proofs.lemmas.Result.{on_ok_weaker}
use Rattle.tagged_word.proofs.Cells.{some_same}
use Rattle.scav_core.specs.declared.workers.WorkerView.{WorkerView}
use Rattle.scav_core.specs.Views.{word_after, home_made, view_after}
use Rattle.std.proofs.Common.{List, ℕ, slice_set}
use Rattle.scav_core.proofs.Stepping.{stepped_made}
use Rattle.scav_core.proofs.step.step.Goals as goal

pub returns : goal.returns
returns c =
    let world = c.args.world.now in
    let event = c.args.event in
    let found = c.word_found-found.result in
    let view = c.view.result.now in
    on_ok_weaker c.change.result
    (λ is. stepped_made world c.args.worker event view c.touched-touch.result found c.word_after-word.result
    c.home_made-made.result c.store_word.new.words c.store_board.new.board c.join_home.new.homes c.change.new.self
    c.view.ensures c.touched-touch.ensures c.word_found-found.ensures
    (c.word_after-word.ensures
    ∙ ap (λ (v : WorkerView). word_after v event found) (some_same c.view-2.ensures c.view.ensures))
    (c.home_made-made.ensures
    ∙ ap (λ (v : WorkerView). home_made v event found) (some_same c.view-3.ensures c.view.ensures))
    c.store_word.ensures c.store_board.ensures c.in_ok-join_home.ensures
    (is ∙ ap (λ (cells : List ℕ). slice_set world.workers c.args.worker (view_after cells view event found))
    c.as_slice.ensures))
    (c.change.ensures view c.view.ensures)
