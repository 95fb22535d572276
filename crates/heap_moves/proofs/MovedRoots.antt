-- Root words that are moved: what a variable held it holds, an object where it stands.
use Rattle.std.proofs.Common.{◌≡◌, ℕ, ◌^◌, ◌<◌, Bool, true, false, length, get_or, Option, Some, slice_get}
use Rattle.std.proofs.Common.{refl, sym, ◌∙◌, ap, subst, arith, ℤ}
use Rattle.std.proofs.lemmas.Option.{slice_get_within, slice_get-get_or}
use Rattle.tagged_word.specs.Words.{small, bits_of}
use Rattle.tagged_word.specs.declared.word.Class.TheVariants.{Odd}
use Rattle.tagged_word.specs.Odds.{unbound_code, wide_code}
use Rattle.page_space.specs.Extents.{Space, marks_start}
use Rattle.heap_model.specs.Types.{Held, Value}
use Rattle.handle_roots.specs.declared.held.Held.TheVariants as held
use Rattle.handle_roots.specs.Roots.{Holds, first_of, first_word, root_at}
use Rattle.heap_model.specs.Heaps.{Heap}
use Rattle.heap_model.specs.Slots.{reference_word, IsPlace}
use Rattle.heap_model.specs.Wholeness.{HasSizes, IsHeld}
use Rattle.heap_model.specs.Showing.{ShowsHeld}
use Rattle.heap_model.proofs.WordClasses.{undefined_refers_not, small_refers_not}
use Rattle.heap_moves.specs.Moved.{IsMovedRoot, IsMoved}
use Rattle.heap_moves.proofs.MovedWords.{referred, not_referred}
use Rattle.heap_moves.proofs.MovedCells.{place_moved}

-- What a variable holds is moved: an object is where it stands, and anything else is as it was.
pub data IsMovedHeld (to : ℕ → Option ℕ) (old new : Held) : Type 0 where
  reference : (at now : ℕ) → old ≡ held.Ref at → to at ≡ Some now → new ≡ held.Ref now → IsMovedHeld to old new
  other : ((at : ℕ) → old ≡ held.Ref at → ⊥) → new ≡ old → IsMovedHeld to old new

-- what the words of a variable stand for once they are moved
pub record MovedRoot (new : Heap) (to : ℕ → Option ℕ) (variable : ℕ) (one : Held) : Type 0 where
  pub now : Held
  pub holds : Holds new.space new.words variable now
  pub is : IsMovedHeld to one now

-- the address at which a variable holds an object; 0 where it holds none
abbrev pub address_in : Held → ℕ
address_in (held.Ref at) = at
address_in _ = 0

-- an odd word is no reference
odd_refers_not : (code at : ℕ) → bits_of (Odd code) ≡ reference_word at → ⊥
odd_refers_not code at same = omega arith

-- the first word of an integer is no reference
integer_refers_not : (is_small : Bool) (v : ℤ) (at : ℕ) → first_of is_small v ≡ reference_word at → ⊥
integer_refers_not true v at same = small_refers_not v at same
integer_refers_not false v at same = odd_refers_not wide_code at same

module _ {old new : Heap} {to : ℕ → Option ℕ} (moved : IsMoved old new to) where
  -- the words of a variable that stood for no object stand for the same
  same_held : (variable : ℕ) (one : Held) (word : ℕ) → Holds old.space old.words variable one
      → slice_get new.words (root_at old.space variable) ≡ Some word → IsMovedRoot old new to variable
      → ((at : ℕ) → first_word one ≡ reference_word at → ⊥) → ((at : ℕ) → one ≡ held.Ref at → ⊥)
      → MovedRoot new to variable one
  same_held variable one word holds there root none no_object =
      let is : word ≡ first_word one = not_referred (root.first (first_word one) word holds.first there) none in
      record {
        now = one;
        holds = subst (λ (space : Space). Holds space new.words variable one) (sym moved.space) (record {
          fits = holds.fits;
          first = there ∙ ap (λ n. Some n) is;
          second = root.second ∙ holds.second;
        });
        is = IsMovedHeld.other no_object refl;
      }

  -- those that stood for an object stand for it where it is
  object_held : (variable at number word : ℕ) → Holds old.space old.words variable (held.Ref at)
      → IsPlace old number at → slice_get new.words (root_at old.space variable) ≡ Some word
      → IsMovedRoot old new to variable → MovedRoot new to variable (held.Ref at)
  object_held variable at number word holds place there root =
      let is = referred at (root.first (reference_word at) word holds.first there) refl in
      let stays : to place.cell.at ≡ Some is.now = ap to place.stands ∙ is.stays in
      let fits = moved.fits place.cell place.words is.now place.has stays in
      let below : at < 2 ^ 32 = holds.fits in
      record {
        now = held.Ref is.now;
        holds = subst (λ (space : Space). Holds space new.words variable (held.Ref is.now)) (sym moved.space) (record {
          fits = fits.0 (omega (arith, below, place.stands));
          first = there ∙ ap (λ n. Some n) is.refers;
          second = root.second ∙ holds.second;
        });
        is = IsMovedHeld.reference at is.now refl is.stays refl;
      }

  -- what a variable holds, kind by kind
  by_held : (variable : ℕ) (one : Held) (word : ℕ) → Holds old.space old.words variable one → IsHeld old one
      → slice_get new.words (root_at old.space variable) ≡ Some word → IsMovedRoot old new to variable
      → MovedRoot new to variable one
  by_held variable held.Unbound word holds is there root =
      same_held variable held.Unbound word holds there root (odd_refers_not unbound_code) (λ at same. cc)
  by_held variable held.Undefined word holds is there root =
      same_held variable held.Undefined word holds there root undefined_refers_not (λ at same. cc)
  by_held variable (held.Int v) word holds is there root =
      same_held variable (held.Int v) word holds there root (integer_refers_not (small v) v) (λ at same. cc)
  by_held variable (held.Ref at) word holds is there root = object_held variable at is.0 word holds is.1 there root

  -- what a variable held it holds, moved
  pub root_moved : HasSizes old → (variable : ℕ) (one : Held) → variable < old.space.variables
      → Holds old.space old.words variable one → IsHeld old one → MovedRoot new to variable one
  root_moved sized variable one below holds is =
      let at : ℕ = root_at old.space variable in
      let within : at < length old.words = slice_get_within old.words at (first_word one) holds.first in
      let long : length new.words ≡ length old.words =
      moved.sized.words ∙ ap marks_start moved.space ∙ sym sized.words in
      by_held variable one (get_or new.words at 0) holds is
      (slice_get-get_or new.words at 0 (omega (arith, within, long))) (moved.roots variable below)

  -- what is as it was may be held
  same_is_held : (one : Held) → ((at : ℕ) → one ≡ held.Ref at → ⊥) → IsHeld old one → IsHeld new one
  same_is_held held.Unbound none is = tt
  same_is_held held.Undefined none is = tt
  same_is_held (held.Int v) none is = tt
  same_is_held (held.Ref at) none is = absurd (none at refl)

  -- what may be held may be held once it is moved
  pub is_held_moved : {one now : Held} → IsMovedHeld to one now → IsHeld old one → IsHeld new now
  is_held_moved (IsMovedHeld.reference at there was stays same) is =
      let object : IsHeld old (held.Ref at) = subst (IsHeld old) was is in
      let place : IsHeld new (held.Ref there) = (object.0, place_moved moved there object.1 stays) in
      subst (IsHeld new) (sym same) place
  is_held_moved {one} (IsMovedHeld.other none same) is = subst (IsHeld new) (sym same) (same_is_held one none is)

  -- what is as it was shows the same
  same_is_shown : {one : Held} {value : Option Value} → ((at : ℕ) → one ≡ held.Ref at → ⊥) → ShowsHeld old one value
      → ShowsHeld new one value
  same_is_shown none ShowsHeld.unbound = ShowsHeld.unbound
  same_is_shown none ShowsHeld.undefined = ShowsHeld.undefined
  same_is_shown none (ShowsHeld.integer v) = ShowsHeld.integer v
  same_is_shown none (ShowsHeld.object at number place) = absurd (none at refl)

  -- an object that is held is shown where it stands
  object_is_shown : {one : Held} {value : Option Value} (at now : ℕ) → one ≡ held.Ref at → to at ≡ Some now
      → ShowsHeld old one value → ShowsHeld new (held.Ref now) value
  object_is_shown at now was stays ShowsHeld.unbound = absurd (cc)
  object_is_shown at now was stays ShowsHeld.undefined = absurd (cc)
  object_is_shown at now was stays (ShowsHeld.integer v) = absurd (cc)
  object_is_shown at now was stays (ShowsHeld.object there number place) =
      let same : there ≡ at = ap address_in was in
      ShowsHeld.object now number (place_moved moved now place (ap to same ∙ stays))

  -- what is held shows the same once it is moved
  pub held_is_shown : {one now : Held} {value : Option Value} → IsMovedHeld to one now → ShowsHeld old one value
      → ShowsHeld new now value
  held_is_shown {value = value} (IsMovedHeld.reference at there was stays same) shows =
      subst (λ (one : Held). ShowsHeld new one value) (sym same) (object_is_shown at there was stays shows)
  held_is_shown {value = value} (IsMovedHeld.other none same) shows =
      subst (λ (one : Held). ShowsHeld new one value) (sym same) (same_is_shown none shows)
