-- The front of a free run is taken, and the rest of it becomes a free cell.
use Rattle.std.proofs.Common.{◌≡◌, ◌+◌, ◌-◌, ◌≤◌, ℕ, List, refl, sym, ap, subst, arith}
use Rattle.page_space.specs.Extents.{marks_start}
use Rattle.free_runs.specs.FreeRuns.{TakesFront}
use Rattle.cell_layout.specs.Cells.{IsCell}
use Rattle.write_barrier.specs.Seats.{Seat, heap_words}
use Rattle.heap_model.specs.Types.{Cell, Run}
use Rattle.write_barrier.specs.MutatorState.{Mutator}
use Rattle.scavenger.specs.Walking.{CutsFreeCell}
use Rattle.scavenger.proofs.CodePlaces.{free_of, run_taken}
use Rattle.scavenger.proofs.copying.take_run.Goals as goal

pub known_cell-free-requires : goal.known_cell-free-requires
known_cell-free-requires c =
    let counted = c.addresses_fit.ensures.heap_counted in
    let found = free_of {main = c.args.main.now} c.requires.free c.in_ok-run.ensures.taken counted in
    let same : c.take_free.new.self.seat ≡ c.args.main.now.seat =
    ap (λ (one : Mutator). one.seat) c.take_free.ensures.rest in (
      found.free,
      record {
        is_cell = subst (λ (seat : Seat). IsCell seat.space (heap_words seat) found.free) (sym same) found.is.is_cell;
        stands = found.is.stands;
      },
    )

pub overflow_add-run : goal.overflow_add-run
overflow_add-run c =
    let counted = c.addresses_fit.ensures.heap_counted in
    let found = free_of {main = c.args.main.now} c.requires.free c.in_ok-run.ensures.taken counted in
    omega (arith, found.enough, found.ends, c.addresses_fit.ensures.fit)

pub overflow_sub-free : goal.overflow_sub-free
overflow_sub-free c =
    let counted = c.addresses_fit.ensures.heap_counted in
    let found = free_of {main = c.args.main.now} c.requires.free c.in_ok-run.ensures.taken counted in
    let same : c.take_free.new.self.seat ≡ c.args.main.now.seat =
    ap (λ (one : Mutator). one.seat) c.take_free.ensures.rest in
    let known : c.known_cell-free.result ≡ found.free =
    c.known_cell-free.ensures.one found.free
    (record {
      is_cell = subst (λ (seat : Seat). IsCell seat.space (heap_words seat) found.free) (sym same) found.is.is_cell;
      stands = found.is.stands;
    }) in
    omega (arith, found.enough, ap (λ (one : Cell). one.size) known)

pub put_free_cell-requires-clause-within : goal.put_free_cell-requires-clause-within
put_free_cell-requires-clause-within c =
    let counted = c.addresses_fit.ensures.heap_counted in
    let found = free_of {main = c.args.main.now} c.requires.free c.in_ok-run.ensures.taken counted in
    let same : c.take_free.new.self.seat ≡ c.args.main.now.seat =
    ap (λ (one : Mutator). one.seat) c.take_free.ensures.rest in
    let known : c.known_cell-free.result ≡ found.free =
    c.known_cell-free.ensures.one found.free
    (record {
      is_cell = subst (λ (seat : Seat). IsCell seat.space (heap_words seat) found.free) (sym same) found.is.is_cell;
      stands = found.is.stands;
    }) in
    let size = ap (λ (one : Cell). one.size) known in
    let at : ℕ = c.in_ok-run.run'.at + c.args.size + (c.known_cell-free.result.size - c.args.size) in
    subst (λ (seat : Seat). at ≤ marks_start seat.space) (sym same) (omega (arith, found.enough, found.ends, size))

pub returns-clause-taken : goal.returns-clause-taken
returns-clause-taken c =
    let main = c.args.main.now in
    let new = c.put_free_cell.new.self in
    let run = c.in_ok-run.run' in
    let counted = c.addresses_fit.ensures.heap_counted in
    let found = free_of {main = c.args.main.now} c.requires.free c.in_ok-run.ensures.taken counted in
    let same : c.take_free.new.self.seat ≡ main.seat = ap (λ (one : Mutator). one.seat) c.take_free.ensures.rest in
    let known : c.known_cell-free.result ≡ found.free =
    c.known_cell-free.ensures.one found.free
    (record {
      is_cell = subst (λ (seat : Seat). IsCell seat.space (heap_words seat) found.free) (sym same) found.is.is_cell;
      stands = found.is.stands;
    }) in
    let size = ap (λ (one : Cell). one.size) known in
    let takes : CutsFreeCell main new c.args.size run c.known_cell-free.result =
    run_taken c.known_cell-free.result c.take_free.ensures.rest c.in_ok-run.ensures.taken
    (omega (arith, found.enough, size)) c.put_free_cell.ensures.beside c.put_free_cell.ensures.paths
    c.put_free_cell.ensures.cycle c.put_free_cell.ensures.young c.put_free_cell.ensures.heap
    c.put_free_cell.ensures.touches in (
      run,
      found.free,
      refl,
      subst (λ (rows : List (List Run)). TakesFront main.free rows c.args.size run)
          (sym c.put_free_cell.ensures.touches.free) c.in_ok-run.ensures.taken,
      found.is,
      subst (CutsFreeCell main new c.args.size run) known takes,
    )
