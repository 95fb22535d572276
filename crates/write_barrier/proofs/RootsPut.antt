-- Root words that are put, and what the variable holds then.
use Rattle.std.proofs.Common.{◌≡◌, ℕ, ℤ, ◌<◌, ◌+◌, List, length, IsTrue, false, sym, ◌∙◌, ap, subst, arith}
use Rattle.page_space.specs.Extents.{marks_start}
use Rattle.page_space.proofs.Starts.{layouts_start_is, marks_start_is}
use Rattle.tagged_word.specs.Words.{small}
use Rattle.handle_roots.specs.declared.held.Held.{Held}
use Rattle.handle_roots.specs.declared.held.Held.TheVariants.{Int}
use Rattle.handle_roots.specs.Roots.{root_at, FitsHeld, Holds, first_word, second_word, with_root}
use Rattle.handle_roots.proofs.RootsHeld.{small_replaced, wide_replaced, with_root_holds}
use Rattle.write_barrier.specs.Seats.{heap_words}
use Rattle.write_barrier.specs.MutatorState.{Mutator, put_word, with_table, with_variable}

-- a variable whose root words are those of a value holds it
pub holds_put : (old new : Mutator) (variable : ℕ) (held : Held) → FitsHeld held
    → variable < old.seat.space.variables → length (heap_words old.seat) ≡ marks_start old.seat.space
    → heap_words new.seat ≡ with_root old.seat.space (heap_words old.seat) variable held
    → Holds old.seat.space (heap_words new.seat) variable held
holds_put old new variable held fits known counted is =
    let space = old.seat.space in
    subst (λ (words : List ℕ). Holds space words variable held) (sym is)
    (with_root_holds space (heap_words old.seat) variable held fits
    (omega (arith, counted, layouts_start_is space, marks_start_is space)))

-- where one small integer takes the place of another, its first root word is put alone
pub small_put : (old new : Mutator) (variable : ℕ) (was v : ℤ) → IsTrue (small was) → IsTrue (small v)
    → Holds old.seat.space (heap_words old.seat) variable (Int was)
    → new ≡ put_word old (root_at old.seat.space variable) (first_word (Int v))
    → new ≡ with_variable old variable (Int v)
small_put old new variable was v was_is v_is holds is =
    is ∙ ap (λ (words : List ℕ). with_table old words)
    (sym (small_replaced old.seat.space (heap_words old.seat) variable was v was_is v_is holds))

-- where one integer that is not small takes the place of another, its second root word is put alone
pub wide_put : (old new : Mutator) (variable : ℕ) (was v : ℤ) → small was ≡ false → small v ≡ false
    → Holds old.seat.space (heap_words old.seat) variable (Int was)
    → new ≡ put_word old (root_at old.seat.space variable + 1) (second_word (Int v))
    → new ≡ with_variable old variable (Int v)
wide_put old new variable was v was_is v_is holds is =
    is ∙ ap (λ (words : List ℕ). with_table old words)
    (sym (wide_replaced old.seat.space (heap_words old.seat) variable was v was_is v_is holds))
