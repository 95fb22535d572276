-- The slots of a copy are followed in order.
use Rattle.std.proofs.Common.{Bool, List, ◌+◌, ◌<◌, ◌∙◌, ℕ, Contains, refl, sym, ap, subst, arith, add-zero}
use Rattle.std.proofs.lemmas.Bool.{false≢true}
use Rattle.std.proofs.lemmas.List.Elements.{All-contains}
use Rattle.page_space.specs.Extents.{Space, eden_start, marks_start}
use Rattle.write_barrier.specs.MutatorState.{Mutator}
use Rattle.tagged_word.specs.Cells.{scavenge_offsets}
use Rattle.scavenger.specs.Starts.{SegmentCopies}
use Rattle.scavenger.specs.Walking.{AreSpaces, IsScanned, at_copy}
use Rattle.scavenger.proofs.LoopGoing.{same_spaces, same_young, changes_since, may_follow, grows_nothing, grows_again}
use Rattle.scavenger.proofs.LoopSlots.{ScansOn, copy_ends, offset_in_cell, slot_behind, slot_is_live, slots_go_on}
use Rattle.scavenger.proofs.LoopSlots.{slots_pass, slots_done}
use Rattle.cell_layout.proofs.NextSlots.{all_below}
use Rattle.heap_walk.proofs.SlotEnds.{least_itself, reaches_next}
use Rattle.scavenger.proofs.scanning.follow_before.Goals as goal
use Rattle.scavenger.proofs.scanning.follow_before.Goals.{then-is_scavenge_slot, else-is_scavenge_slot}

pub loop-offset-init : goal.loop-offset-init
loop-offset-init c =
    let cell = c.args.cell.now in
    let eden = eden_start c.args.main.now.seat.space in
    record {
      scanned = λ start handed all end are scanned.
          slots_pass 0 (subst (λ (from : ℕ). IsScanned start handed c.args.main.now all c.args.worker.now.progress
          c.args.worker.now.list.items cell (at_copy end eden from (cell.at + cell.size))) (sym (add-zero cell.at))
          scanned)
          1 (λ other there reached. slot_behind scanned other there);
      grows = grows_nothing c.args.worker.now.progress c.args.worker.now.list.items;
      capacity = refl;
    }

pub overflow_add-cell : goal.overflow_add-cell
overflow_add-cell c =
    let given = c.requires.scanned in
    let scanned = c.loop-offset.invariant.scanned given.start given.handed given.all given.end given.are given.scanned
    in
    let there = c.is_scavenge_slot.ensures.0 c.if-is_scavenge_slot.true in
    let inside = offset_in_cell scanned c.loop-offset.offset there in
    let same = ap (λ (space : Space). marks_start space) given.scanned.scavenging.changes.seat.space in
    omega (arith, inside, copy_ends scanned, same, c.addresses_fit.ensures.fit)

pub follow-requires-clause-quiet : goal.follow-requires-clause-quiet
follow-requires-clause-quiet c =
    let given = c.requires.scanned in
    (c.loop-offset.invariant.scanned given.start given.handed given.all given.end given.are
    given.scanned).scavenging.quiet

pub follow-requires-clause-spaces : goal.follow-requires-clause-spaces
follow-requires-clause-spaces c =
    let given = c.requires.scanned in
    let scanned = c.loop-offset.invariant.scanned given.start given.handed given.all given.end given.are given.scanned
    in
    let there = c.is_scavenge_slot.ensures.0 c.if-is_scavenge_slot.true in
    let slot : ℕ = c.args.cell.now.at + c.loop-offset.offset in (
      given.all,
      same_spaces c.args.spaces.now
          (changes_since given.scanned.scavenging.changes scanned.scavenging.changes) given.are,
      may_follow scanned.scavenging slot (scanned.home.from + c.loop-offset.offset)
          (slot_is_live scanned c.loop-offset.offset slot there refl),
    )

pub follow-requires-clause-room : goal.follow-requires-clause-room
follow-requires-clause-room c =
    let given = c.requires.scanned in
    let scanned = c.loop-offset.invariant.scanned given.start given.handed given.all given.end given.are given.scanned
    in
    let same = same_young (changes_since given.scanned.scavenging.changes scanned.scavenging.changes) in
    omega (arith, same, c.requires.room, c.loop-offset.invariant.capacity)

pub loop-offset-preserved : goal.loop-offset-preserved
loop-offset-preserved c =
    let given = c.requires.scanned in
    let invariant = c.loop-offset.invariant in
    let cell = c.args.cell.now in
    let offset : ℕ = c.loop-offset.offset in
    let slot : ℕ = cell.at + offset in
    let eden : ℕ = eden_start c.args.main.now.seat.space in
    let to : ℕ = cell.at + cell.size in
    elim c.if-is_scavenge_slot.branch [
      | then-is_scavenge_slot w ↦
          let there = c.is_scavenge_slot.ensures.0 w.if-is_scavenge_slot.true in
          let step : (start : Mutator) (handed : List SegmentCopies) (all : Bool) (end : ℕ)
          → AreSpaces c.args.main.now.seat.space c.args.main.now.young.half all c.args.spaces.now
          → IsScanned start handed c.args.main.now all c.args.worker.now.progress c.args.worker.now.list.items cell
          (at_copy end eden cell.at to)
          → ScansOn start handed w.follow.new.main all c.loop-offset.worker.progress w.follow.new.worker.progress
          c.loop-offset.worker.list.items
          w.follow.new.worker.list.items cell (at_copy end eden (cell.at + (offset + 1)) to) =
          λ start handed all end are begun.
          let scanned = invariant.scanned start handed all end are begun in
          slots_go_on offset scanned w.follow.new.main w.follow.new.worker.progress w.follow.new.worker.list.items
          offset slot
          (least_itself (scavenge_offsets cell.layout cell.length) offset there) refl (λ front state place stood.
          w.follow.ensures.followed start handed all front state place
          (same_spaces c.args.spaces.now (changes_since begun.scavenging.changes scanned.scavenging.changes) are)
          stood) in
          rw w.main-is (rw w.worker-is (record {
            scanned = λ start handed all end are begun. (step start handed all end are begun).scanned;
            grows = grows_again invariant.grows
                (step given.start given.handed given.all given.end given.are given.scanned).grown;
            capacity = w.follow.ensures.capacity ∙ invariant.capacity;
          }))
      | else-is_scavenge_slot w ↦
          let none = λ (there : Contains (scavenge_offsets cell.layout cell.length) offset).
          false≢true (sym w.if-is_scavenge_slot.false ∙ c.is_scavenge_slot.ensures.1 there) in
          rw w.main-is (rw w.worker-is (record {
            scanned = λ start handed all end are begun.
                slots_pass offset (invariant.scanned start handed all end are begun) (offset + 1)
                (reaches_next (scavenge_offsets cell.layout cell.length) offset none);
            grows = invariant.grows;
            capacity = invariant.capacity;
          }))
    ]

pub returns-clause-scavenging : goal.returns-clause-scavenging
returns-clause-scavenging c start handed all end are begun =
    slots_done c.loop-offset.offset (c.loop-offset.invariant.scanned start handed all end are begun)
    (all_below (scavenge_offsets c.args.cell.now.layout c.args.cell.now.length) c.loop-offset.offset
    (λ offset there. let below : offset < c.args.slots_end =
    All-contains (λ one. one < c.args.slots_end) (scavenge_offsets c.args.cell.now.layout c.args.cell.now.length) offset
    c.requires.ends there in omega (arith, below, c.loop-offset-test.false)))

pub returns-clause-keeps : goal.returns-clause-keeps
returns-clause-keeps c =
    let given = c.requires.scanned in
    let scanned = c.loop-offset.invariant.scanned given.start given.handed given.all given.end given.are given.scanned
    in
    changes_since given.scanned.scavenging.changes scanned.scavenging.changes
