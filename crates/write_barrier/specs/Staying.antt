-- What stays beside the words that are read and written goes on staying.
use Rattle.std.specs.Prelude.{refl}
use Rattle.std.proofs.Common.{◌∙◌}
use Rattle.write_barrier.specs.Seats.{Seat, RestStays}

-- where nothing has happened, everything has stayed
pub rest_stays_itself : (seat : Seat) → RestStays seat seat
rest_stays_itself seat =
    record {
      space = refl;
      phase = refl;
      count = refl;
      shared = refl;
      home = refl;
      out = refl;
      lent = refl;
      marks = refl;
    }

-- what has stayed twice has stayed
pub rest_stays_again : (a b c : Seat) → RestStays a b → RestStays b c → RestStays a c
rest_stays_again a b c first then =
    record {
      space = then.space ∙ first.space;
      phase = then.phase ∙ first.phase;
      count = then.count ∙ first.count;
      shared = then.shared ∙ first.shared;
      home = then.home ∙ first.home;
      out = then.out ∙ first.out;
      lent = then.lent ∙ first.lent;
      marks = then.marks ∙ first.marks;
    }
