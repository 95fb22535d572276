-- With nothing given, just what is live from variables is marked.
use Rattle.std.proofs.Common.{ℕ, List, ap, sym, subst}
use Rattle.write_barrier.specs.MutatorState.{heap_of}
use Rattle.ephemeron_mark.specs.Marked.{Marked, IsLiveFrom}
use Rattle.ephemeron_mark.proofs.LiveAgain.{live_from_roots, live_with_none}
use Rattle.ephemeron_mark.proofs.visits.mark_live.Goals as goal

pub returns-clause-marked : goal.returns-clause-marked
returns-clause-marked c at =
    let none = ap (λ (one : Marked). one.cells) c.begin.ensures in
    let found = c.mark_given.ensures.marked at in (
      λ among. live_from_roots at (subst (λ (all : List ℕ). IsLiveFrom (heap_of c.args.main.now) all at) none
          (found.0 among)),
      λ live. found.1 (subst (λ (all : List ℕ). IsLiveFrom (heap_of c.args.main.now) all at) (sym none)
          (live_with_none at live)),
    )

pub returns-clause-maps : goal.returns-clause-maps
returns-clause-maps c at =
    let none = ap (λ (one : Marked). one.cells) c.begin.ensures in
    let found = c.mark_given.ensures.maps at in (
      λ among. let both = found.0 among in (
        live_from_roots at (subst (λ (all : List ℕ). IsLiveFrom (heap_of c.args.main.now) all at) none both.0),
        both.1,
      ),
      λ both. found.1 (
        subst (λ (all : List ℕ). IsLiveFrom (heap_of c.args.main.now) all at) (sym none)
            (live_with_none at both.0),
        both.1,
      ),
    )
