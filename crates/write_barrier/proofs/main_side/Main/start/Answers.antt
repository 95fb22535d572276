-- What stands in the heap at last.
use Rattle.std.proofs.Common.{◌∙◌, subst}
use Rattle.page_space.specs.Sizes.{AreWithin}
use Rattle.page_space.specs.Extents.{Space}
use Rattle.write_barrier.proofs.Starting.{put_all, all_started}
use Rattle.write_barrier.proofs.main_side.Main.start.Goals as goal

pub returns-clause-space : goal.returns-clause-space
returns-clause-space c =
    c.put_unbound.ensures.changes.seat.space ∙ c.put_gaps.ensures.changes.seat.space ∙ c.requires.changes.seat.space

pub returns-clause-table : goal.returns-clause-table
returns-clause-table c = c.put_unbound.ensures.changes.seat.shared ∙ c.put_gaps.ensures.changes.seat.shared

pub returns-clause-started : goal.returns-clause-started
returns-clause-started c =
    let space = c.args.regions.now in
    let laid = c.args.self.now in
    let gaps = c.put_gaps.new.self in
    let last = c.put_unbound.new.self in
    all_started space laid gaps last
    (put_all space laid gaps last c.requires c.put_gaps.ensures.changes c.put_gaps.ensures.gaps
    c.put_unbound.ensures.changes c.put_unbound.ensures.firsts c.put_unbound.ensures.seconds)
    (subst (λ (s : Space). AreWithin s.sizes s.variables) (returns-clause-space c) c.addresses_fit.ensures.within)
    c.addresses_fit.ensures.heap_counted
