use Rattle.std.proofs.Common.{rules}
use Rattle.std.proofs.lemmas.Result.{on_ok_weaker}
use Rattle.scav_core.proofs.Stepping.{place_within, home_joined}
use Rattle.scav_core.proofs.step.join_home.Goals as goal

pub insert-requires : goal.insert-requires
insert-requires c = place_within c.args.homes.now c.in-Some.home c.insertion_index-at.result (search rules)

pub returns-in-Some : goal.returns-in-Some
returns-in-Some c =
    on_ok_weaker c.insert.result
    (λ is. home_joined c.args.homes.now c.args.made c.in-Some.home c.insertion_index-at.result c.insert.new.self
    c.in-Some.is
    (search rules) is) c.insert.ensures.ok
