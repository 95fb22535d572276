use Rattle.std.proofs.Common.{◌≡◌, ◌≤◌, ◌∙◌, ℕ, refl, sym, ap, subst}
use Rattle.std.specs.Vec.{vec_capacity}
use Rattle.write_barrier.proofs.SlotCycles.{quiet_idle}
use Rattle.collector.specs.States.{Rest}
use Rattle.collector.proofs.Keeping.{still_shows}
use Rattle.collector.proofs.script_heap.Heap.collect.Goals as goal

pub scavenge-requires : goal.scavenge-requires
scavenge-requires c =
    let (graph, shown) = c.requires.shown in
    let Room : ℕ → Type 0 = λ places. c.self.inside.main.seat.space.sizes.young ≤ places in
    record {
      quiet = quiet_idle (rw (← c.self.view_is) at shown.quiet);
      shown = (graph, rw (← c.self.view_is) at shown.main);
      room = subst Room (sym (ap (λ list. vec_capacity list) c.replace-list.ensures.value))
          (rw (← c.self.view_is) at shown.listed);
    }

pub returns : goal.returns
returns c =
    let done = c.scavenge.ensures in
    let old : Rest = record {
      places = vec_capacity c.self.inside.list;
      marks = c.self.inside.marking.bound;
      in_cycle = c.self.inside.in_cycle;
    } in
    let places : vec_capacity c.scavenge.result ≡ vec_capacity c.self.inside.list =
    done.capacity ∙ ap (λ list. vec_capacity list) c.replace-list.ensures.value in
    let rest = ap (λ (places : ℕ). record old { places = places }) places in
    rw (← c.self.view_is)
    (record {
      scavenged = done.scavenged;
      shows = λ graph shown.
          still_shows _ _ graph shown rest done.scavenged.seat.space done.scavenged.seat.phase done.scavenged.rows
          (done.keeps.shows graph shown.main);
      rooms = done.keeps;
      rest = rest;
      noted = refl;
    })
