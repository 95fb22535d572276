-- A run is granted where one has so many words.
use Rattle.std.proofs.Common.{◌≡◌, ℕ, sym, ◌∙◌, ap, subst, arith}
use Rattle.page_space.specs.Extents.{eden_start}
use Rattle.free_runs.specs.FreeRuns.{TakesFront}
use Rattle.heap_model.specs.Types.{Cell, Run}
use Rattle.scavenger.specs.Walking.{CutsFreeCell}
use Rattle.scavenger.specs.Granting.{Grants}
use Rattle.scavenger.proofs.Granted.{grants_keep_graphs}
use Rattle.scavenger.proofs.CodeGrants.{stand_free, fits_somewhere, grants_in_page, run_granted}
use Rattle.scavenger.proofs.granting.grant_run.Goals as goal

pub take_run-requires-clause-free : goal.take_run-requires-clause-free
take_run-requires-clause-free c = stand_free c.args.main.now c.requires.shown.0 c.requires.shown.1

pub grant-requires-clause-of_page : goal.grant-requires-clause-of_page
grant-requires-clause-of_page c =
    let taken = c.in-Some.ensures.taken in
    omega (
      arith,
      grants_in_page c.requires.shown.1 c.requires.some taken.3,
      taken.2,
      ap eden_start taken.5.changes.seat.space,
    )

-- the run of which words were taken is the one that is granted
given : (c : goal.After-grant) → c.in-Some.ensures.taken.0 ≡ record { at = c.in-Some.at; words = c.args.n }
given c =
    let taken = c.in-Some.ensures.taken in
    let front = taken.3.takes.front in
    front
    ∙ ap (λ (at : ℕ). record { at = at; words = c.args.n }) (sym (ap (λ (run : Run). run.at) front) ∙ taken.2)

-- so it is granted
is_granted : (c : goal.After-grant) → Grants c.args.main.now c.grant.new.self c.args.n
is_granted c =
    let old = c.args.main.now in
    let mid = c.take_run.new.main in
    let n = c.args.n in
    let taken = c.in-Some.ensures.taken in
    let free : Cell = taken.1 in
    let takes = subst (λ (one : Run). TakesFront old.free mid.free n one) (given c) taken.3 in
    let took = subst (λ (one : Run). CutsFreeCell old mid n one free) (given c) taken.5 in
    run_granted c.requires.shown.1 c.requires.quiet c.requires.some c.free_runs_fit.ensures takes taken.4 took
    c.grant.ensures.young c.grant.ensures.heap c.grant.ensures.beside c.grant.ensures.paths c.grant.ensures.cycle
    c.grant.ensures.touches

pub returns-in-Some-clause-granted : goal.returns-in-Some-clause-granted
returns-in-Some-clause-granted c granted = is_granted c

pub returns-in-Some-clause-none : goal.returns-in-Some-clause-none
returns-in-Some-clause-none c =
    (λ never. absurd cc, λ nowhere. absurd (fits_somewhere c.in-Some.ensures.taken.3 nowhere))

pub returns-in-Some-clause-keeps : goal.returns-in-Some-clause-keeps
returns-in-Some-clause-keeps c =
    grants_keep_graphs c.args.main.now c.grant.new.self c.requires.shown.0 c.args.n c.requires.shown.1 (is_granted c)
