-- The variable holds the value whose root words were put.
use Rattle.std.proofs.Common.{◌≡◌, ◌∙◌, ℕ, ◌+◌, List, slice_set, ap}
use Rattle.handle_roots.specs.Roots.{root_at, with_root, first_word}
use Rattle.write_barrier.specs.Seats.{heap_words}
use Rattle.write_barrier.specs.MutatorState.{Mutator}
use Rattle.write_barrier.proofs.RootsPut.{holds_put}
use Rattle.write_barrier.proofs.main_side.Main.put_roots.Goals as goal

pub returns-clause-holds : goal.returns-clause-holds
returns-clause-holds c = λ held are.
    let old : Mutator = c.args.self.now in
    let words = heap_words old.seat in
    let root = root_at old.seat.space c.args.variable in
    let heap : heap_words c.put_own_slot.new.self.seat ≡ with_root old.seat.space words c.args.variable held =
    c.put_own_slot.ensures.heap
    ∙ ap (λ (all : List ℕ). slice_set all (c.root_of-root.result + 1) c.args.pair.second) c.put_own.ensures.heap
    ∙ ap (λ (at : ℕ). slice_set (slice_set words at c.args.pair.first) (at + 1) c.args.pair.second)
    c.root_of-root.ensures.at
    ∙ ap (λ (word : ℕ). slice_set (slice_set words root word) (root + 1) c.args.pair.second) are.first
    ∙ ap (λ (word : ℕ). slice_set (slice_set words root (first_word held)) (root + 1) word) are.second in
    holds_put old c.put_own_slot.new.self c.args.variable held are.fits c.requires.known
    c.addresses_fit.ensures.heap_counted heap
