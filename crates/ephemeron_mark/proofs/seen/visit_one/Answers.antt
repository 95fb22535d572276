-- A cell that is no weak map and no table is visited as it is. Any other is looked at.
use Rattle.std.proofs.Common.{◌≡◌, ℕ, ◌∙◌, refl, sym, ap, subst, Contains}
use Rattle.tagged_word.specs.declared.layout.Kind.TheVariants as kind
use Rattle.heap_model.specs.Types.{Cell}
use Rattle.heap_model.proofs.CellsApart.{one_at}
use Rattle.live_cells.specs.Live.{HasSlotTo}
use Rattle.write_barrier.specs.MutatorState.{heap_of}
use Rattle.ephemeron_mark.specs.Pairs.{WaitsFor}
use Rattle.ephemeron_mark.specs.Progress.{noted}
use Rattle.ephemeron_mark.proofs.GrownLists.{grows_nothing}
use Rattle.ephemeron_mark.proofs.SeenKinds.{none_to_note, seen_is_visited}
use Rattle.ephemeron_mark.proofs.VisitedCells.{stands_to_read, read_is_cell}
use Rattle.ephemeron_mark.proofs.seen.visit_one.Goals as goal

pub known_kind-requires : goal.known_kind-requires
known_kind-requires c = stands_to_read c.requires.marking c.args.at c.requires.marked

pub returns-then-not-has_entries-clause-grown : goal.returns-then-not-has_entries-clause-grown
returns-then-not-has_entries-clause-grown c = grows_nothing c.requires.marking

pub returns-then-not-has_entries-clause-visited : goal.returns-then-not-has_entries-clause-visited
returns-then-not-has_entries-clause-visited c =
    seen_is_visited c.args.main.now c.args.at c.known_kind.result (c.if-not-has_entries.ensures.no_map refl)
    (c.if-not-has_entries.ensures.no_table refl) c.known_kind.ensures c.requires.leads c.requires.awaited

pub returns-then-not-has_entries-clause-noted : goal.returns-then-not-has_entries-clause-noted
returns-then-not-has_entries-clause-noted c =
    none_to_note c.args.main.now c.args.at c.known_kind.result (c.if-not-has_entries.ensures.no_map refl)
    (c.if-not-has_entries.ensures.no_table refl) c.known_kind.ensures c.args.maps.now.items

pub known_cell-cell-requires : goal.known_cell-cell-requires
known_cell-cell-requires c = stands_to_read c.requires.marking c.args.at c.requires.marked

pub visit_entries-requires-clause-marked : goal.visit_entries-requires-clause-marked
visit_entries-requires-clause-marked c =
    subst (Contains c.args.cells.now.addresses) (sym c.known_cell-cell.ensures.stands.stands) c.requires.marked

pub visit_entries-requires-clause-stands : goal.visit_entries-requires-clause-stands
visit_entries-requires-clause-stands c =
    read_is_cell c.requires.marking c.args.at c.known_cell-cell.result c.requires.marked c.known_cell-cell.ensures.one

pub visit_entries-requires-clause-leads : goal.visit_entries-requires-clause-leads
visit_entries-requires-clause-leads c other to slot =
    let cell : Cell = c.known_cell-cell.result in
    let is_cell = read_is_cell c.requires.marking c.args.at cell c.requires.marked c.known_cell-cell.ensures.one in
    let here = c.known_cell-cell.ensures.stands.stands in
    c.requires.leads
    (λ map. other (subst (λ (one : Cell). one.layout.kind ≡ kind.Weak)
    (one_at map.has is_cell.1 (map.stands ∙ sym here)) map.of_kind))
    to (subst (λ (from : ℕ). HasSlotTo (heap_of c.args.main.now) from to) here slot)

pub visit_entries-requires-clause-awaited : goal.visit_entries-requires-clause-awaited
visit_entries-requires-clause-awaited c slot waits_for =
    c.requires.awaited slot
    (subst (λ (key : ℕ). WaitsFor c.args.waiting.now key slot) c.known_cell-cell.ensures.stands.stands waits_for)

pub returns-clause-noted : goal.returns-clause-noted
returns-clause-noted c cell is stands =
    let read : Cell = c.known_cell-cell.result in
    let is_cell = read_is_cell c.requires.marking c.args.at read c.requires.marked c.known_cell-cell.ensures.one in
    let here = c.known_cell-cell.ensures.stands.stands in
    let same : read ≡ cell = one_at is_cell.1 is.1 (here ∙ sym stands) in
    c.note_map.ensures.noted
    ∙ ap (λ (at : ℕ). noted read.layout.kind c.args.maps.now.items at) here
    ∙ ap (λ (one : Cell). noted one.layout.kind c.args.maps.now.items c.args.at) same
