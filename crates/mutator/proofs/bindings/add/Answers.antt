-- The variable is bound to the sum, or the command is a fault.
use Rattle.std.proofs.Common.{◌∙◌, to_z, of_z, w64, rules, subst, [], Ok}
use Rattle.heap_command.specs.declared.command.Command.TheVariants.{Add}
use Rattle.handle_roots.specs.declared.held.Held.TheVariants.{Int}
use Rattle.write_barrier.specs.MutatorState.{Mutator}
use Rattle.mutator.specs.CarriesOut.{Carries}
use Rattle.mutator.proofs.StillShown.{some_still, shows_still}
use Rattle.mutator.proofs.Rebinding.{binds_after, binds_still}
use Rattle.mutator.proofs.SumsHeld.{sum_carried}
use Rattle.mutator.proofs.bindings.add.Goals as goal

pub returns-in-Some : goal.returns-in-Some
returns-in-Some g c = record {
  carried = (
    Ok tt,
    c.of.ensures,
    (λ graph names shows.
        sum_carried names c.args.x c.args.v.now c.in-Some.sum (search rules) shows c.requires.within.0
        (c.in-Some.ensures.found graph names shows) c.small_sum.ensures.same
        (record { held = c.replace_small.ensures.held; heap = c.replace_small.ensures.heap })),
    binds_after c.args.x (Int (to_z w64 (of_z w64 c.in-Some.sum))) c.small_sum.ensures.same
        c.replace_small.ensures.held,
  );
}

pub wide_sum-requires-clause-shown : goal.wide_sum-requires-clause-shown
wide_sum-requires-clause-shown g c = some_still c.in_default.ensures.same c.requires.shown

pub returns-in-Some-wide_sum : goal.returns-in-Some-wide_sum
returns-in-Some-wide_sum g c =
    let sum = c.in-Some-wide_sum.sum in
    let same = c.wide_sum.ensures.same ∙ c.in_default.ensures.same in
    record {
      carried = (
        Ok tt,
        c.of-in-Some-wide_sum.ensures,
        (λ graph names shows.
            let still = shows_still c.in_default.ensures.same shows in
            sum_carried names c.args.x c.args.v.now sum (search rules) shows c.requires.within.0
            (c.in-Some-wide_sum.ensures.found graph names still) same
            (record { held = c.replace_wide.ensures.held; heap = c.replace_wide.ensures.heap })),
        binds_after c.args.x (Int (to_z w64 (of_z w64 sum))) same c.replace_wide.ensures.held,
      );
    }

pub add_checked-requires-clause-shown : goal.add_checked-requires-clause-shown
add_checked-requires-clause-shown g c =
    some_still (c.in_default-wide_sum.ensures.same ∙ c.in_default.ensures.same) c.requires.shown

pub returns : goal.returns
returns g c =
    let before = c.in_default-wide_sum.ensures.same ∙ c.in_default.ensures.same in
    let after = c.add_checked.new.main in
    let (came, says, carries, binds) = c.add_checked.ensures.carried in
    record {
      carried = (
        came,
        says,
        (λ graph names shows.
            subst (λ (main : Mutator). Carries names main after graph (Add c.args.x c.args.v.now) [] came) before
            (carries graph names (shows_still before shows))),
        binds_still after c.args.x came before binds,
      );
    }
