-- A slot lies in the cell, and refers to a cell of the heap.
use Rattle.std.proofs.Common.{◌∙◌, [], ◌∷◌, sym, arith}
use Rattle.std.proofs.lemmas.Bool.{false≢true}
use Rattle.tagged_word.proofs.Members.{first_in}
use Rattle.live_cells.specs.Live.{IsLive, IsStart}
use Rattle.ephemeron_mark.proofs.LiveStands.{live_below}
use Rattle.ephemeron_mark.proofs.CellSlots.{slot_within, word_below, slot_to}
use Rattle.marking_tests.proofs.GivenCells.{stands_there, only_stands}
use Rattle.marking_tests.proofs.starts.is_listed_slot.Goals as goal

pub returns-then-not-is_tagged : goal.returns-then-not-is_tagged
returns-then-not-is_tagged c _ to visited refers =
    absurd (false≢true (sym c.if-not-is_tagged.true ∙ c.is_tagged.ensures.1 visited))

pub overflow_add-cell : goal.overflow_add-cell
overflow_add-cell c =
    let has = c.requires.stands.1 in
    let within = slot_within has c.args.offset (c.is_tagged.ensures.0 c.if-not-is_tagged.false) in
    omega (arith, word_below has c.args.offset c.requires.whole within, c.addresses_fit.ensures.fit)

pub has_listed_target-requires-clause-within : goal.has_listed_target-requires-clause-within
has_listed_target-requires-clause-within c =
    let has = c.requires.stands.1 in
    word_below has c.args.offset c.requires.whole
    (slot_within has c.args.offset (c.is_tagged.ensures.0 c.if-not-is_tagged.false))

pub has_listed_target-requires-clause-below : goal.has_listed_target-requires-clause-below
has_listed_target-requires-clause-below c to refers =
    let cell = c.args.cell.now in
    let visited = c.is_tagged.ensures.0 c.if-not-is_tagged.false in
    live_below c.requires.whole {given = cell.at ∷ []} (only_stands (stands_there c.requires.stands)) to
    (IsLive.slot cell.at to (IsLive.start cell.at (IsStart.among (first_in cell.at [])))
    (slot_to c.requires.stands.1 c.args.offset to visited refers))

pub returns : goal.returns
returns c listed to visited refers = c.has_listed_target.ensures listed to refers
