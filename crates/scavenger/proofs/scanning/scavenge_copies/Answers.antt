-- The copies on the list are scanned.
use Rattle.std.proofs.Common.{◌≡◌, ℕ, ◌+◌, ◌∙◌, Bool, List, [], ◌∷◌, ◌++◌, length}
use Rattle.std.proofs.Common.{refl, sym, ap, subst, arith, length-append}
use Rattle.page_space.specs.Extents.{eden_start}
use Rattle.heap_model.specs.Types.{Cell}
use Rattle.write_barrier.specs.MutatorState.{Mutator}
use Rattle.scavenger.specs.declared.progress.Progress.{Progress}
use Rattle.scavenger.specs.Starts.{SegmentCopies}
use Rattle.scavenger.specs.Walking.{Scavenging, IsScanned, at_copy}
use Rattle.scavenger.proofs.LoopGoing.{same_spaces, same_young, same_eden, changes_since, copied_few}
use Rattle.scavenger.proofs.LoopCopies.{CopiesAt, takes_copy, taken_is_there}
use Rattle.scavenger.proofs.scanning.scavenge_copies.Goals as goal

pub copies-init : goal.copies-init
copies-init c = record { scavenging = λ start handed all end are state. state; capacity = refl }

pub copy_at-cell-requires : goal.copy_at-cell-requires
copy_at-cell-requires c =
    let given = c.requires.scavenging in
    let state = c.copies.invariant.scavenging given.0 given.1 given.2 given.3 given.4 given.5 in
    taken_is_there c.pop.new.self.items c.in-Some.at state c.in-Some.ensures.items

-- the copy that is taken from the list is scanned, whatever the scavenge began with
scanned : (start : Mutator) (handed : List SegmentCopies) (first old : Mutator) (all : Bool) (progress : Progress)
    (todo rest : List ℕ) (end at : ℕ) (cell : Cell)
    → eden_start old.seat.space ≡ eden_start first.seat.space → todo ≡ rest ++ at ∷ []
    → CopiesAt old at cell
    → Scavenging start handed old all progress todo (at_copy end (eden_start first.seat.space) 0 0)
    → IsScanned start handed old all progress rest cell
    (at_copy end (eden_start old.seat.space) cell.at (cell.at + cell.size))
scanned start handed first old all progress todo rest end at cell same is copies state =
    subst (λ (eden : ℕ). IsScanned start handed old all progress rest cell
    (at_copy end eden cell.at (cell.at + cell.size))) (sym same)
    (takes_copy rest at cell state is (copies start handed all progress todo
    (at_copy end (eden_start first.seat.space) 0 0) state))

pub follow_slots-requires-clause-scanned : goal.follow_slots-requires-clause-scanned
follow_slots-requires-clause-scanned c =
    let given = c.requires.scavenging in
    let state = c.copies.invariant.scavenging given.0 given.1 given.2 given.3 given.4 given.5 in
    let changes = changes_since given.5.changes state.changes in
    record {
      start = given.0;
      handed = given.1;
      all = given.2;
      end = given.3;
      are = same_spaces c.args.spaces.now changes given.4;
      scanned = scanned given.0 given.1 c.args.main.now c.copies.main given.2 c.copies.worker.progress
          c.copies.worker.list.items
          c.pop.new.self.items given.3 c.in-Some.at c.copy_at-cell.result (same_eden changes) c.in-Some.ensures.items
          c.copy_at-cell.ensures state;
    }

pub follow_slots-requires-clause-room : goal.follow_slots-requires-clause-room
follow_slots-requires-clause-room c =
    let given = c.requires.scavenging in
    let state = c.copies.invariant.scavenging given.0 given.1 given.2 given.3 given.4 given.5 in
    let same = same_young (changes_since given.5.changes state.changes) in
    omega (arith, same, c.requires.room, c.copies.invariant.capacity, c.pop.ensures.capacity)

pub copies-smaller : goal.copies-smaller
copies-smaller c =
    let given = c.requires.scavenging in
    let state = c.copies.invariant.scavenging given.0 given.1 given.2 given.3 given.4 given.5 in
    let changes = changes_since given.5.changes state.changes in
    let next = c.follow_slots.ensures.scavenging given.0 given.1 given.2 given.3
    (same_spaces c.args.spaces.now changes given.4)
    (scanned given.0 given.1 c.args.main.now c.copies.main given.2 c.copies.worker.progress c.copies.worker.list.items
    c.pop.new.self.items given.3 c.in-Some.at c.copy_at-cell.result (same_eden changes) c.in-Some.ensures.items
    c.copy_at-cell.ensures state) in
    let few = copied_few next in
    let young = same_young given.5.changes in
    let grows = c.follow_slots.ensures.grows in
    let long = ap (λ (list : List ℕ). length list) c.in-Some.ensures.items in
    let more = length-append c.pop.new.self.items (c.in-Some.at ∷ []) in
    omega (arith, few, young, grows.more, grows.grows, long, more)

pub copies-preserved : goal.copies-preserved
copies-preserved c = record {
  scavenging = λ start handed all end are begun.
      let state = c.copies.invariant.scavenging start handed all end are begun in
      let changes = changes_since begun.changes state.changes in
      let next = c.follow_slots.ensures.scavenging start handed all end (same_spaces c.args.spaces.now changes are)
      (scanned start handed c.args.main.now c.copies.main all c.copies.worker.progress c.copies.worker.list.items
      c.pop.new.self.items end c.in-Some.at c.copy_at-cell.result (same_eden changes) c.in-Some.ensures.items
      c.copy_at-cell.ensures state) in
      subst (λ (eden : ℕ). Scavenging start handed c.follow_slots.new.main all c.follow_slots.new.worker.progress
      c.follow_slots.new.worker.list.items (at_copy end eden 0 0)) (same_eden changes) next;
  capacity = c.follow_slots.ensures.capacity ∙ c.pop.ensures.capacity ∙ c.copies.invariant.capacity;
}
