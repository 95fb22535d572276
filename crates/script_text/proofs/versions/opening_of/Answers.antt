-- The first line with tokens tells where the commands begin.
use Rattle.std.proofs.Common.{◌≡◌, ℕ, List, Bor, [], Ok, map}
use Rattle.script_text.specs.declared.versions.Saying.TheVariants as saying
use Rattle.script_text.specs.Versions.{opening_from}
use Rattle.script_text.proofs.Skipping.{at-command, at-version}
use Rattle.script_text.proofs.versions.opening_of.Goals as goal

pub returns-in-Ok-Command-clause-opened : goal.returns-in-Ok-Command-clause-opened
returns-in-Ok-Command-clause-opened c =
    let outer = c.in-Ok-Command.is in
    let inner = c.in-Ok-Command.field-0-is in
    let is : c.said_of.result ≡ Ok saying.Command = cc in
    at-command c.args.lines.now c.loop-i.i (record { ref_ptr = (0, 0); now = [] }) c.said_of.result
    (opening_from 1 (map (λ (line : Bor (List ℕ)). line.now) c.args.lines.now)) c.loop-i-test.true c.said_of.ensures
    c.loop-i.invariant is

pub returns-in-Ok-Version-clause-opened : goal.returns-in-Ok-Version-clause-opened
returns-in-Ok-Version-clause-opened c =
    let outer = c.in-Ok-Version.is in
    let inner = c.in-Ok-Version.field-0-is in
    let is : c.said_of.result ≡ Ok (saying.Version c.in-Ok-Version.version) = cc in
    at-version c.args.lines.now c.loop-i.i (record { ref_ptr = (0, 0); now = [] }) c.said_of.result
    (opening_from 1 (map (λ (line : Bor (List ℕ)). line.now) c.args.lines.now)) c.in-Ok-Version.version
    c.loop-i-test.true c.said_of.ensures c.loop-i.invariant is
