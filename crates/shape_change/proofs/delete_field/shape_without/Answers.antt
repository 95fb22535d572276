-- The path is added, and its layout words.
use Rattle.shape_tree.specs.Shapes.{shape_path, without}
use Rattle.shape_change.proofs.LaidPaths.{finds_without, without_on}
use Rattle.shape_change.proofs.delete_field.shape_without.Goals as goal

pub returns-clause-finds : goal.returns-clause-finds
returns-clause-finds c =
    finds_without c.args.main.now c.shorten_path.new.self c.args.shape c.args.slot c.shorten_path.result
    c.shorten_path.ensures

pub returns-clause-stores : goal.returns-clause-stores
returns-clause-stores c =
    without_on c.args.main.now c.shorten_path.new.self (without (shape_path c.args.main.now.paths c.args.shape)
    c.args.slot)
    c.shorten_path.result c.requires.whole.sized c.shorten_path.ensures
