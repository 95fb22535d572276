use Rattle.std.proofs.Common.{sym, ◌∙◌}
use Rattle.heap_model.specs.Images.{image_heap}
use Rattle.slow_check.specs.Moves.{to_of}
use Rattle.slow_check.proofs.WordsMoved.{same_options, root_moved}
use Rattle.slow_check.proofs.moved_roots.is_moved_root.Goals as goal

pub returns : goal.returns
returns c =
    let same = same_options c.word_at.result c.word_at-2.result (sym c.if-ne.ensures) in
    let parts = root_moved (image_heap c.args.old.now) (image_heap c.args.new.now) (to_of c.args.moves.now)
    c.args.variable c.root_at-first.result c.root_at-first.ensures.at in (
      λ yes. parts.0 (c.is_moved_there.ensures.0 yes, sym c.word_at.ensures ∙ same ∙ c.word_at-2.ensures),
      λ moved. c.is_moved_there.ensures.1 (parts.1 moved).0,
    )
