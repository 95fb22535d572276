-- A variable that holds a reference has its word first.
use Rattle.std.proofs.Common.{sym, ap, ◌∙◌, slice_get}
use Rattle.std.proofs.lemmas.Option.{same_Some}
use Rattle.handle_roots.proofs.roots.referred.Goals as goal

pub returns-clause-none : goal.returns-clause-none
returns-clause-none g c none at holds =
    c.referred_by_first.ensures.none none at
    (same_Some _ _ (sym c.load.ensures.loaded
    ∙ ap (slice_get (g.W.Reads.words c.args.words.now)) c.root_at.ensures.at ∙ holds.first))
