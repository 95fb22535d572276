use Rattle.slow_check.proofs.bindings.shows_binding.Goals as goal

-- what the roots of a whole heap hold is what they stand for
pub root_of-requires-clause-root : goal.root_of-requires-clause-root
root_of-requires-clause-root c =
    let root = c.requires.roots c.args.variable c.requires.known in
    record { held = root.held; holds = root.holds }
