-- The address has joined the list.
use Rattle.cell_list.proofs.Pushes.{pushed_members}
use Rattle.cell_list.proofs.CellList.add.Goals as goal

pub returns-clause-members : goal.returns-clause-members
returns-clause-members c =
    pushed_members c.args.self.now c.push.new.self c.args.at c.push.result c.push.ensures.was_new c.push.ensures.value
