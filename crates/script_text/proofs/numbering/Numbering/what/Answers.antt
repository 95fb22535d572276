-- The arguments of the statement are of the kinds that its command wants.
use Rattle.std.proofs.Common.{length, take, sym, subst, ap, ◌∙◌}
use Rattle.script_text.specs.Table.{places_of}
use Rattle.script_text.specs.Fitting.{AreOfKinds}
use Rattle.script_text.specs.Scripts.{argument_at, what_of}
use Rattle.script_text.proofs.Staying.{arguments_of_kinds}
use Rattle.script_text.proofs.numbering.Numbering.what.Goals as goal

pub what_of-requires : goal.what_of-requires
what_of-requires c =
    let k = c.args.statement.now.keyword in
    subst (AreOfKinds (places_of k))
    (sym (ap (λ places. take (length places) c.in_ok-given.given) c.places-count.ensures.all
    ∙ c.in_ok-given.ensures.arguments)) (arguments_of_kinds _ _ (places_of k) _ c.requires.fits.fitting)

pub returns-clause-what : goal.returns-clause-what
returns-clause-what c =
    c.what_of.ensures
    ∙ ap (λ given. what_of 0 c.args.repeat_at c.args.statement.now.keyword (argument_at given 0) (argument_at given 1)
    (argument_at given 2))
    (ap (λ places. take (length places) c.in_ok-given.given) c.places-count.ensures.all
    ∙ c.in_ok-given.ensures.arguments)
