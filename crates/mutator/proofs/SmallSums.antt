-- The sum of a small integer that a variable holds and another integer, where 64 bits of it stand for a small one.
use Rattle.std.proofs.Common.{◌≡◌, ℕ, ◌<◌, ℤ, ◌+ℤ◌, neg_ℤ, w64, SFits, arith, IsTrue, List, Some, None}
use Rattle.std.proofs.Common.{refl, sym, ap, subst, ◌∙◌}
use Rattle.std.specs.Prelude.{Option, option_and_then}
use Rattle.std.specs.Int.{int_wrap, int_wrapping_add}
use Rattle.std.specs.FinMap.{get}
use Rattle.std.proofs.lemmas.Int.{ints, int_wrap_fits, int_wrap-add_left, wrapping_add_is}
use Rattle.tagged_word.specs.Words.{small}
use Rattle.object_graph.specs.declared.value.Value.TheVariants.{Int}
use Rattle.object_graph.specs.Graphs.{Graph, value_of, integer_in}
use Rattle.handle_roots.specs.declared.held.Held.TheVariants as held
use Rattle.handle_roots.specs.Roots.{Holds}
use Rattle.write_barrier.specs.Seats.{heap_words}
use Rattle.heap_model.specs.Types.{Value, Operand}
use Rattle.heap_model.specs.Heaps.{Heap}
use Rattle.heap_model.specs.Showing.{ShowsHeld}
use Rattle.write_barrier.specs.MutatorState.{Mutator, MainShows}
use Rattle.mutator.specs.Reading.{FindsSum}
use Rattle.mutator.proofs.HeldValues.{shows_by_kind, held_shows, holds_integer}
use Rattle.mutator.proofs.IntegerSums.{finds_sum}

-- two small integers and their difference have 64 bits
smalls_fit : (a b : ℤ) → IsTrue (small a) → IsTrue (small b) → SFits w64 a × SFits w64 b × SFits w64 (b +ℤ neg_ℤ a)
smalls_fit a b first second = (grind (arith, ints), grind (arith, ints), grind (arith, ints))

-- the small integer taken from what was wrapped leaves the other one, so that is the sum
small_sum_is : (a b sum : ℤ) → IsTrue (small a) → SFits w64 b → IsTrue (small sum) → sum ≡ int_wrapping_add w64 a b
    → SFits w64 (a +ℤ b) × (sum ≡ a +ℤ b)
small_sum_is a b sum first fits second wrapped =
    let (first_fits, sum_fits, rest_fits) = smalls_fit a sum first second in
    let whole : a +ℤ b +ℤ neg_ℤ a ≡ b = omega (arith, ints) in
    let rest : sum +ℤ neg_ℤ a ≡ b =
    sym (int_wrap_fits w64 (sum +ℤ neg_ℤ a) rest_fits)
    ∙ ap (λ z. int_wrap w64 (z +ℤ neg_ℤ a)) (wrapped ∙ wrapping_add_is w64 a b first_fits fits)
    ∙ int_wrap-add_left w64 (a +ℤ b) (neg_ℤ a) ∙ ap (int_wrap w64) whole ∙ int_wrap_fits w64 b fits in
    let same : sum ≡ a +ℤ b = omega (arith, ints) in
    (subst (SFits w64) same sum_fits, same)

-- an integer that is held shows itself
pub integer_shown : {heap : Heap} (v : ℤ) (found : Option Value) → ShowsHeld heap (held.Int v) found
    → found ≡ Some (Int v)
integer_shown v None shows = absurd (shows_by_kind (held.Int v) None shows)
integer_shown v (Some value) shows = ap (λ one. Some one) (holds_integer (held.Int v) v value refl shows)

-- the integer of a variable is the one that it holds
pub integer_held : {main : Mutator} {graph : Graph} (x : ℕ) (v : ℤ) → MainShows main graph
    → x < main.seat.space.variables → Holds main.seat.space (heap_words main.seat) x (held.Int v)
    → option_and_then integer_in (get graph.bindings x) ≡ Some v
integer_held {graph = graph} x v shows known holds =
    ap (option_and_then integer_in)
    (integer_shown v (get graph.bindings x) (held_shows x (held.Int v) shows known holds))

-- such a sum is what the command `add` binds
pub finds_small_sum : {main : Mutator} {graph : Graph} (names : List (List ℕ)) (x : ℕ) (v : Operand) (a b sum : ℤ)
    → MainShows main graph → x < main.seat.space.variables → IsTrue (small a)
    → Holds main.seat.space (heap_words main.seat) x (held.Int a)
    → option_and_then integer_in (value_of graph v) ≡ Some b → SFits w64 b → sum ≡ int_wrapping_add w64 a b
    → IsTrue (small sum) → FindsSum names graph x v sum
finds_small_sum {graph = graph} names x v a b sum shows known first holds is_second fits wrapped second =
    let (whole, same) = small_sum_is a b sum first fits second wrapped in
    finds_sum names graph x v a b sum (integer_held x a shows known holds) is_second whole same
