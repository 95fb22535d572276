-- The offsets up to the end of the slots are gone through.
use Rattle.std.proofs.Common.{sym, ◌∙◌, arith}
use Rattle.std.proofs.lemmas.Bool.{false≢true}
use Rattle.tagged_word.specs.Cells.{tagged_offsets}
use Rattle.live_cells.specs.Live.{IsLive}
use Rattle.ephemeron_mark.proofs.GrownLists.{grows_nothing, grows_again, stays_marked}
use Rattle.ephemeron_mark.proofs.LiveAgain.{live_at_once}
use Rattle.ephemeron_mark.proofs.CellSlots.{slot_behind, slot_within, word_below, slot_to, next_slot}
use Rattle.ephemeron_mark.proofs.CellSlots.{passes_offset, all_slots}
use Rattle.ephemeron_mark.proofs.targets.mark_before.Goals as goal
use Rattle.ephemeron_mark.proofs.targets.mark_before.Goals.{then-is_tagged, else-is_tagged}

pub loop-offset-init : goal.loop-offset-init
loop-offset-init c = record {
  grown = grows_nothing c.requires.marking;
  slots = λ offset at visited below refers.
      absurd (omega (arith, slot_behind c.requires.stands.1 offset visited, below));
}

pub overflow_add-cell : goal.overflow_add-cell
overflow_add-cell c =
    let has = c.requires.stands.1 in
    let within = slot_within has c.loop-offset.offset (c.is_tagged.ensures.0 c.if-is_tagged.true) in
    omega (
      arith,
      word_below has c.loop-offset.offset c.requires.marking.whole within,
      c.addresses_fit.ensures.fit,
    )

pub mark_target-requires-clause-within : goal.mark_target-requires-clause-within
mark_target-requires-clause-within c =
    let has = c.requires.stands.1 in
    let within = slot_within has c.loop-offset.offset (c.is_tagged.ensures.0 c.if-is_tagged.true) in
    word_below has c.loop-offset.offset c.requires.marking.whole within

pub mark_target-requires-clause-live : goal.mark_target-requires-clause-live
mark_target-requires-clause-live c at refers =
    let marked = stays_marked c.args.cell.now.at c.loop-offset.invariant.grown c.requires.marked in
    IsLive.slot c.args.cell.now.at at (live_at_once c.args.cell.now.at marked)
    (slot_to c.requires.stands.1 c.loop-offset.offset at (c.is_tagged.ensures.0 c.if-is_tagged.true) refers)

pub loop-offset-preserved : goal.loop-offset-preserved
loop-offset-preserved c =
    let offsets = tagged_offsets c.args.cell.now.layout c.args.cell.now.length in
    let before = c.loop-offset.invariant in
    elim c.if-is_tagged.branch [
      | then-is_tagged w ↦ rw w.cells-is (record {
        grown = grows_again before.grown w.mark_target.ensures.grown;
        slots = next_slot offsets c.args.cell.now.at c.loop-offset.offset w.mark_target.ensures.grown before.slots
            w.mark_target.ensures.marked;
      })
      | else-is_tagged w ↦ rw w.cells-is (record {
        grown = before.grown;
        slots = λ offset at visited below refers.
            before.slots offset at visited (passes_offset offsets c.loop-offset.offset
            (λ there. false≢true (sym w.if-is_tagged.false ∙ c.is_tagged.ensures.1 there)) offset visited below) refers;
      })
    ]

pub returns-clause-slots : goal.returns-clause-slots
returns-clause-slots c =
    all_slots c.loop-offset.cells c.args.slots_end c.requires.stands.1 c.requires.ends
    (λ offset at visited below. c.loop-offset.invariant.slots offset at visited
    (omega (arith, below, c.loop-offset-test.false)))
