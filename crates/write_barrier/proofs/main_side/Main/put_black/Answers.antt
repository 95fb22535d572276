-- One cell is black among the marks.
use Rattle.write_barrier.proofs.PausedCycles.{in_pause, put_told, puts_black}
use Rattle.write_barrier.proofs.main_side.Main.put_black.Goals as goal

pub returns : goal.returns
returns c =
    let waits = in_pause c.self.inside c.args.self.now c.self.view_is c.requires.paused in
    record {
      put = puts_black c.self.inside c.self.invariant waits c.args.self.now c.put_black.new.self c.args.at
          c.self.view_is c.put_black.ensures.put;
    }

pub invariant_of-self : goal.invariant_of-self
invariant_of-self c =
    let waits = in_pause c.self.inside c.args.self.now c.self.view_is c.requires.paused in
    put_told c.self.inside c.self.invariant waits c.put_black.new.self c.args.at c.put_black.ensures.put
