-- The two words stand apart, so their order does not count.
use Rattle.std.proofs.Common.{◌≡◌, ◌∙◌, ℕ, ◌+◌, List, slice_set, ap, arith}
use Rattle.std.proofs.lemmas.List.{set_comm}
use Rattle.handle_roots.specs.declared.held.Held.{Held}
use Rattle.handle_roots.specs.RootValues.{AreWordsOf}
use Rattle.handle_roots.specs.Roots.{root_at, with_root, first_word}
use Rattle.write_barrier.specs.Seats.{heap_words}
use Rattle.write_barrier.specs.MutatorState.{Mutator, put_word, with_table}
use Rattle.write_barrier.proofs.RootsPut.{holds_put}
use Rattle.write_barrier.proofs.main_side.Main.put_roots_from_second.Goals as goal

-- the words with both put are those with the root words of the value
words_put : (old : Mutator) (variable root first second : ℕ) (held : Held)
    → root ≡ root_at old.seat.space variable → AreWordsOf held (record { first = first; second = second })
    → slice_set (slice_set (heap_words old.seat) (root + 1) second) root first
    ≡ with_root old.seat.space (heap_words old.seat) variable held
words_put old variable root first second held at are =
    let words = heap_words old.seat in
    set_comm words (root + 1) root second first (λ same. omega (arith, same))
    ∙ ap (λ (a : ℕ). slice_set (slice_set words a first) (a + 1) second) at
    ∙ ap (λ (word : ℕ). slice_set (slice_set words (root_at old.seat.space variable) word)
    (root_at old.seat.space variable + 1) second) are.first
    ∙ ap (λ (word : ℕ). slice_set (slice_set words (root_at old.seat.space variable) (first_word held))
    (root_at old.seat.space variable + 1) word) are.second

pub returns-clause-held : goal.returns-clause-held
returns-clause-held c = λ held are.
    let old : Mutator = c.args.self.now in
    c.put_own.ensures.put
    ∙ ap (λ (main : Mutator). put_word main c.root_of-root.result c.args.pair.first) c.put_own_slot.ensures.put
    ∙ ap (with_table old)
    (words_put old c.args.variable c.root_of-root.result c.args.pair.first c.args.pair.second held
    c.root_of-root.ensures.at are)

pub returns-clause-heap : goal.returns-clause-heap
returns-clause-heap c = λ held are.
    c.put_own.ensures.heap
    ∙ ap (λ (all : List ℕ). slice_set all c.root_of-root.result c.args.pair.first) c.put_own_slot.ensures.heap
    ∙ words_put c.args.self.now c.args.variable c.root_of-root.result c.args.pair.first c.args.pair.second held
    c.root_of-root.ensures.at are

pub returns-clause-holds : goal.returns-clause-holds
returns-clause-holds c = λ held are.
    holds_put c.args.self.now c.put_own.new.self c.args.variable held are.fits c.requires.known
    c.addresses_fit.ensures.heap_counted (returns-clause-heap c held are)
