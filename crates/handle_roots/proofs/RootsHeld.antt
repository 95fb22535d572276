-- What a variable holds, before and after it is made to hold a value.
use Rattle.std.proofs.Common.{◌≡◌, ◌≢◌, ℕ, ℤ, ◌+◌, ◌<◌, ◌∙◌, sym, ap, List, length, IsTrue}
use Rattle.std.proofs.Common.{slice_get, slice_set, Some, false, arith, rules}
use Rattle.std.proofs.Math.ListN.{length-set}
use Rattle.std.proofs.lemmas.List.{set-get_or}
use Rattle.std.proofs.lemmas.Option.{gets, get_or_from_slice_get}
use Rattle.std.proofs.lemmas.Grind.{common_steps}
use Rattle.tagged_word.specs.Words.{small}
use Rattle.page_space.specs.Extents.{Space}
use Rattle.handle_roots.specs.declared.held.Held.{Held}
use Rattle.handle_roots.specs.declared.held.Held.TheVariants.{Int}
use Rattle.handle_roots.specs.Roots.{root_at, first_of, second_of, first_word, second_word, Holds, with_root}
use Rattle.handle_roots.specs.RootLaws.{RootsHoldOne, RootsHoldAgain, OtherRootsStay, OtherWordsStay, RootsKeepLength}

-- a word that is put among the words stands there
pub slice_get-set_at : (words : List ℕ) (at word : ℕ) → at < length words →
    slice_get (slice_set words at word) at ≡ Some word
slice_get-set_at words at word within = grind (arith, common_steps, gets)

-- and every other word stays
pub slice_get-set_beside : (words : List ℕ) (at a word : ℕ) → a ≢ at →
    slice_get (slice_set words at word) a ≡ slice_get words a
slice_get-set_beside words at a word apart = grind (arith, common_steps, gets)

-- the number of words stays
pub length-with_root : RootsKeepLength
length-with_root space words variable held = simp length-set

-- no word but the two root words changes
pub slice_get-with_root : OtherWordsStay
slice_get-with_root space words variable a held first second =
    slice_get-set_beside (slice_set words (root_at space variable) (first_word held)) (root_at space variable + 1) a
    (second_word held) second
    ∙ slice_get-set_beside words (root_at space variable) a (first_word held) first

-- a variable holds one value at most
pub holds_one : RootsHoldOne
holds_one = search rules

-- a variable that is made to hold a value holds it
pub with_root_holds : RootsHoldAgain
with_root_holds space words variable held fits within =
    let at = root_at space variable in
    let put = slice_set words at (first_word held) in
    record {
      fits = fits;
      first = slice_get-set_beside put (at + 1) at (second_word held) (λ same. omega (arith, same))
          ∙ slice_get-set_at words at (first_word held) (omega arith);
      second = slice_get-set_at put (at + 1) (second_word held) (omega (arith, length-set {A = ℕ}));
    }

-- where the second root word of a value stands already, only the first one changes
pub first_alone : (space : Space) (words : List ℕ) (variable : ℕ) (held : Held) →
    slice_get words (root_at space variable + 1) ≡ Some (second_word held) →
    with_root space words variable held ≡ slice_set words (root_at space variable) (first_word held)
first_alone space words variable held there =
    let at = root_at space variable in
    let put = slice_set words at (first_word held) in
    let still = slice_get-set_beside words at (at + 1) (first_word held) (λ same. omega (arith, same)) ∙ there in
    ap (λ word. slice_set put (at + 1) word)
    (sym (get_or_from_slice_get put (at + 1) (second_word held) (second_word held) still))
    ∙ set-get_or put (at + 1) (second_word held)

-- so it is where one small integer replaces another
pub small_replaced : (space : Space) (words : List ℕ) (variable : ℕ) (was v : ℤ) → IsTrue (small was) →
    IsTrue (small v) → Holds space words variable (Int was) →
    with_root space words variable (Int v) ≡ slice_set words (root_at space variable) (first_word (Int v))
small_replaced space words variable was v was_is is holds =
    let second = ap (λ b. second_of b was) was_is ∙ sym (ap (λ b. second_of b v) is) in
    first_alone space words variable (Int v) (holds.second ∙ ap (λ word. Some word) second)

-- where the first root word of a value stands already, only the second one changes
pub second_alone : (space : Space) (words : List ℕ) (variable : ℕ) (held : Held) →
    slice_get words (root_at space variable) ≡ Some (first_word held) →
    with_root space words variable held ≡ slice_set words (root_at space variable + 1) (second_word held)
second_alone space words variable held there =
    let at = root_at space variable in
    let first = first_word held in
    ap (λ put. slice_set put (at + 1) (second_word held))
    (ap (λ word. slice_set words at word) (sym (get_or_from_slice_get words at first first there))
    ∙ set-get_or words at first)

-- so it is where an integer that is not small replaces another
pub wide_replaced : (space : Space) (words : List ℕ) (variable : ℕ) (was v : ℤ) → small was ≡ false →
    small v ≡ false → Holds space words variable (Int was) →
    with_root space words variable (Int v) ≡ slice_set words (root_at space variable + 1) (second_word (Int v))
wide_replaced space words variable was v was_wide wide holds =
    let first = ap (λ b. first_of b was) was_wide ∙ sym (ap (λ b. first_of b v) wide) in
    second_alone space words variable (Int v) (holds.first ∙ ap (λ word. Some word) first)

-- the first root word of another variable stays
first_stays : (space : Space) (words : List ℕ) (variable other : ℕ) (held : Held) → other ≢ variable →
    slice_get (with_root space words variable held) (root_at space other) ≡ slice_get words (root_at space other)
first_stays space words variable other held apart =
    slice_get-with_root space words variable (root_at space other) held
    (λ same. apart (omega (arith, same))) (λ same. omega (arith, same))

-- and so does its second one
second_stays : (space : Space) (words : List ℕ) (variable other : ℕ) (held : Held) → other ≢ variable →
    slice_get (with_root space words variable held) (root_at space other + 1)
    ≡ slice_get words (root_at space other + 1)
second_stays space words variable other held apart =
    slice_get-with_root space words variable (root_at space other + 1) held
    (λ same. omega (arith, same)) (λ same. apart (omega (arith, same)))

-- every other variable holds what it held
pub with_root_others : OtherRootsStay
with_root_others space words variable other held apart =
    let first = first_stays space words variable other held apart in
    let second = second_stays space words variable other held apart in
    record {
      still = λ what holds. record { fits = holds.fits; first = first ∙ holds.first; second = second ∙ holds.second };
      before = λ what holds.
          record { fits = holds.fits; first = sym first ∙ holds.first; second = sym second ∙ holds.second };
    }
