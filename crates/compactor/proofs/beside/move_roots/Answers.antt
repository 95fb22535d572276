-- One root word after another is moved.
use Rattle.std.proofs.Common.{◌≡◌, ℕ, ◌+◌, ◌*◌, ◌<◌, Some, slice_get, ◌∙◌, ap, subst, arith}
use Rattle.page_space.specs.Extents.{Space, marks_start, root_words, roots_start}
use Rattle.page_space.proofs.Starts.{layouts_start_is, marks_start_is}
use Rattle.handle_roots.specs.Roots.{root_at}
use Rattle.remembered_set.specs.Recorded.{Recorded}
use Rattle.write_barrier.specs.MutatorState.{with_slot}
use Rattle.write_barrier.specs.Seats.{heap_words}
use Rattle.compactor.specs.Young.{RootsMoved}
use Rattle.compactor.proofs.PageRows.{eden_below_roots}
use Rattle.compactor.proofs.RootSteps.{no_root_moved, root_passed}
use Rattle.compactor.proofs.beside.move_roots.Goals as goal

-- a root word stands before the marks
before_marks : (space told : Space) (variable root : ℕ) → told ≡ space → variable < told.variables
    → root ≡ roots_start told + root_words * variable
    → (root ≡ root_at space variable) × (root_at space variable < marks_start space) × (variable < space.variables)
before_marks space told variable root same known at =
    let is : root ≡ root_at space variable =
    at ∙ ap (λ (one : Space). roots_start one + root_words * variable) same in
    let below : variable < space.variables = omega (arith, known, ap (λ (one : Space). one.variables) same) in
    (is, omega (arith, below, layouts_start_is space, marks_start_is space), below)

pub loop-variable-init : goal.loop-variable-init
loop-variable-init c = record { moved = no_root_moved c.args.main.now c.args.moves.now }

pub word-word-requires : goal.word-word-requires
word-word-requires c =
    let space = c.args.main.now.seat.space in
    let (is, below, known) = before_marks space c.regions-regions.result c.loop-variable.variable c.root_at-root.result
    c.regions-regions.ensures.regions (omega (arith, c.variables-variable-end.ensures)) c.root_at-root.ensures.at in
    let marks = ap (λ (one : Space). marks_start one) c.loop-variable.invariant.moved.rest.seat.space in
    omega (arith, is, below, marks)

pub store-requires-clause-within : goal.store-requires-clause-within
store-requires-clause-within c =
    let space = c.args.main.now.seat.space in
    let (is, below, known) = before_marks space c.regions-regions.result c.loop-variable.variable c.root_at-root.result
    c.regions-regions.ensures.regions (omega (arith, c.variables-variable-end.ensures)) c.root_at-root.ensures.at in
    let marks = ap (λ (one : Space). marks_start one) c.loop-variable.invariant.moved.rest.seat.space in
    omega (arith, is, below, marks)

pub loop-variable-preserved : goal.loop-variable-preserved
loop-variable-preserved c =
    let was = c.args.main.now in
    let space = was.seat.space in
    let now = c.loop-variable.main in
    let moved = c.loop-variable.invariant.moved in
    let (is, below, known) = before_marks space c.regions-regions.result c.loop-variable.variable c.root_at-root.result
    c.regions-regions.ensures.regions (omega (arith, c.variables-variable-end.ensures)) c.root_at-root.ensures.at in
    let bound = ap (λ (one : Recorded). one.bound) moved.recorded in
    let root : ℕ = root_at space c.loop-variable.variable in
    let at : c.root_at-root.result + 0 ≡ root = omega (arith, is) in
    record {
      moved = root_passed moved c.addresses_fit.ensures.heap_counted known
          (omega (arith, bound, c.addresses_fit.ensures.bounded, eden_below_roots space)) below
          (subst (λ (a : ℕ). slice_get (heap_words now.seat) a ≡ Some c.word-word.result) is
          c.word-word.ensures.of_heap)
          (c.store.ensures.stored
          ∙ ap (λ (a : ℕ). with_slot now a c.moved.result.0) at
          ∙ ap (λ (word : ℕ). with_slot now root word) c.moved.ensures);
    }

pub returns : goal.returns
returns c =
    let told = c.variables-variable-end.ensures
    ∙ ap (λ (one : Space). one.variables) c.regions-regions.ensures.regions in
    let all : c.loop-variable.variable ≡ c.args.main.now.seat.space.variables = omega (arith, told) in
    subst (λ (n : ℕ). RootsMoved c.args.main.now c.loop-variable.main c.args.moves.now n) all
    c.loop-variable.invariant.moved
