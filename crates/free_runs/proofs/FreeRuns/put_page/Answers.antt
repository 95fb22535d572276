use Rattle.free_runs.proofs.Ascents.{row_is_few}
use Rattle.free_runs.proofs.FreeRuns.put_page.Goals as goal

pub put-requires : goal.put-requires
put-requires c = row_is_few c.args.page c.args.runs.now c.requires.row
