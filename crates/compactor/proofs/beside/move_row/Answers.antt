-- One cell of the row after another stays in place, and its slots are moved.
use Rattle.std.proofs.Common.{◌≡◌, ℕ, ◌+◌, List, ◌∷◌, refl, sym, ◌∙◌, ap, subst, arith}
use Rattle.nursery.specs.Young.{Young}
use Rattle.page_space.specs.Extents.{Space, marks_start}
use Rattle.page_space.proofs.Starts.{layouts_start_is, marks_start_is}
use Rattle.heap_model.specs.Types.{Cell}
use Rattle.heap_model.specs.RegionRows.{StandsBetween}
use Rattle.write_barrier.specs.MutatorState.{Mutator, heap_of}
use Rattle.write_barrier.specs.Seats.{heap_words}
use Rattle.heap_walk.specs.Walks.{IsNext}
use Rattle.compactor.specs.Copying.{KeepsRest}
use Rattle.compactor.specs.Tables.{Table}
use Rattle.compactor.specs.Young.{InYoung, MayMove}
use Rattle.compactor.proofs.Copied.{keeps_again}
use Rattle.compactor.proofs.YoungSteps.{young_begins, young_ahead, young_passed, young_ends, cell_before_roots}
use Rattle.compactor.proofs.YoungSteps.{end_below_roots}
use Rattle.compactor.proofs.beside.move_row.Goals as goal

-- the mutator of now has all but words and records of the first
rest_of : {first was now : Mutator} {table : Table} {start end : ℕ} → MayMove first was now table start end
    → KeepsRest first now
rest_of may = keeps_again may.slid.rest may.moved.rest

-- the state at the address of the cell at hand
at_cell : {first was now : Mutator} {table : Table} {start end limit at : ℕ} {cell : Cell}
    (state : InYoung first was now table start end limit at)
    → IsNext now.seat.space (heap_words now.seat) at limit state.row.end state.back cell
    → (in_row : InYoung first was now table start end limit cell.at) × (more : List Cell) × (in_row.back ≡ cell ∷ more)
at_cell {first} {was} {now} {table} {start} {end} {limit} {cell = cell} state is_next =
    let At : ℕ → Type 0 = λ a. (in_row : InYoung first was now table start end limit a) × (more : List Cell)
    × (in_row.back ≡ cell ∷ more) in
    subst At (sym is_next.stands.stands) (state, is_next.more, is_next.are)

pub between-cells-requires-clause-stands : goal.between-cells-requires-clause-stands
between-cells-requires-clause-stands c =
    let may = c.requires.may.2 in
    let Stands : Space → Type 0 = λ space. StandsBetween space c.args.start c.args.end in
    subst Stands (sym (rest_of may).seat.space) may.stands

pub between-cells-requires-clause-few : goal.between-cells-requires-clause-few
between-cells-requires-clause-few c =
    let may = c.requires.may.2 in
    omega (
      arith,
      may.begun.whole.rows.few,
      ap (λ (young : Young). young.used) (rest_of may).young,
      ap (λ (space : Space). space.sizes.young) (rest_of may).seat.space,
    )

pub cells-init : goal.cells-init
cells-init c = record {
  in_row = λ first was may.
      let is_limit = c.between-cells.ensures.limit (heap_of first) (sym (rest_of may).seat.space)
      (ap (λ (young : Young). young.used) (sym (rest_of may).young)) may.begun.whole.rows in
      let In : ℕ → Type 0 = λ at. InYoung first was c.args.main.now c.args.moves.now c.args.start c.args.end
      c.between-cells.result.limit at in
      subst In (sym c.between-cells.ensures.starts) (young_begins may is_limit);
}

pub next-requires-clause-ahead : goal.next-requires-clause-ahead
next-requires-clause-ahead c =
    let (first, was, may) = c.requires.may in
    let state = c.cells.invariant.in_row first was may in
    (state.row.end, state.back, young_ahead state)

pub next-requires-clause-within : goal.next-requires-clause-within
next-requires-clause-within c =
    let (first, was, may) = c.requires.may in
    let state = c.cells.invariant.in_row first was may in
    let same = ap (λ (space : Space). marks_start space) (keeps_again state.slid.rest state.moved.rest).seat.space in
    omega (
      arith,
      state.limit_within,
      end_below_roots state,
      same,
      layouts_start_is first.seat.space,
      marks_start_is first.seat.space,
    )

pub move_slots-requires-clause-quiet : goal.move_slots-requires-clause-quiet
move_slots-requires-clause-quiet c mark =
    let (first, was, may) = c.requires.may in
    let state = c.cells.invariant.in_row first was may in
    state.begun.quiet (sym (keeps_again state.slid.rest state.moved.rest).seat.phase ∙ mark)

pub move_slots-requires-clause-within : goal.move_slots-requires-clause-within
move_slots-requires-clause-within c =
    let (first, was, may) = c.requires.may in
    let state = c.cells.invariant.in_row first was may in
    let is_next = c.in-Some.ensures.next state.row.end state.back (young_ahead state) in
    let at = at_cell state is_next in
    let same = ap (λ (space : Space). marks_start space) (keeps_again state.slid.rest state.moved.rest).seat.space in
    omega (
      arith,
      cell_before_roots at.0 at.2,
      same,
      layouts_start_is first.seat.space,
      marks_start_is first.seat.space,
    )

pub cells-preserved : goal.cells-preserved
cells-preserved c = record {
  in_row = λ first was may.
      let state = c.cells.invariant.in_row first was may in
      let is_next = c.in-Some.ensures.next state.row.end state.back (young_ahead state) in
      let steps = c.in-Some.ensures.steps in
      let at = at_cell state is_next in
      let passed = young_passed at.0 at.2 c.move_slots.ensures in
      let after : c.in-Some.cell.at + c.in-Some.cell.size ≡ c.next.new.self.at =
      omega (arith, is_next.stands.stands, steps.at) in
      let At : ℕ → Type 0 = λ a. InYoung first was c.move_slots.new.main c.args.moves.now c.args.start c.args.end
      c.cells.cells.limit a in
      let Limited : ℕ → Type 0 = λ limit. InYoung first was c.move_slots.new.main c.args.moves.now c.args.start
      c.args.end limit c.next.new.self.at in
      subst Limited (sym steps.limit) (subst At after passed);
}

pub returns : goal.returns
returns c first was may =
    let state = c.cells.invariant.in_row first was may in
    young_ends state (c.in_default.ensures.over refl state.row.end state.back (young_ahead state))
