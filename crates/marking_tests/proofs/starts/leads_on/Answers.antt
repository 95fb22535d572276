-- The cell that was found is the one at the address.
use Rattle.marking_tests.proofs.starts.leads_on.Goals as goal

pub returns-in-Weak : goal.returns-in-Weak
returns-in-Weak c _ to none slot =
    let found = c.in-Some.ensures in
    absurd (none (record {
      cell = c.in-Some.cell;
      words = found.0.0;
      has = found.0.1;
      stands = found.1;
      of_kind = c.in-Weak.is;
    }))
