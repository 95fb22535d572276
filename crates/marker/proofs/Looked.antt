-- The places that were looked at since the last visit.
use Rattle.std.proofs.Common.{◌≡◌, ◌≢◌, ◌==◌, inr, ℕ, Bool, true, false, List, [], ◌∷◌, ◌++◌, Contains, if◌then◌else◌}
use Rattle.std.proofs.Common.{None, refl, ap, ◌∙◌, arith}
use Rattle.cell_list.specs.Listing.{Listing}
use Rattle.core_parts.specs.declared.note.Note.{Note}
use Rattle.core_parts.specs.declared.note.Note.TheVariants.{Loaded, Coloured, Gave, Took}
use Rattle.marker.specs.Turns.{LooksOnce, look_after, looks_from, turns}
use Rattle.marker.specs.Resting.{IsNext, Looks, Turned, next_place}

-- after a list of notes, if these were before it
abbrev pub looked_from : List ℕ → List Note → List ℕ
looked_from places [] = places
looked_from places (Loaded at ∷ rest) = looked_from [] rest
looked_from places (Coloured at found ∷ rest) = looked_from places rest
looked_from places (Gave place found ∷ rest) = looked_from places rest
looked_from places (Took place found ∷ rest) = looked_from (places ++ place ∷ []) rest

-- the looks of two lists of notes
pub looks_join : (places : List ℕ) (xs ys : List Note) → looks_from places (xs ++ ys) ≡ looks_from (looks_from places
    xs) ys
looks_join places [] ys = refl
looks_join places (x ∷ xs) ys = looks_join (look_after places x) xs ys

-- the places that were looked at, of two lists of notes
pub looked_join : (places : List ℕ) (xs ys : List Note)
    → looked_from places (xs ++ ys) ≡ looked_from (looked_from places xs) ys
looked_join places [] ys = refl
looked_join places (Loaded at ∷ xs) ys = looked_join [] xs ys
looked_join places (Coloured at found ∷ xs) ys = looked_join places xs ys
looked_join places (Gave place found ∷ xs) ys = looked_join places xs ys
looked_join places (Took place found ∷ xs) ys = looked_join (places ++ place ∷ []) xs ys

-- in two lists no place is looked at twice without a visit between, where it is so in each, one after the other
pub once_join : (places : List ℕ) (xs ys : List Note) → LooksOnce places xs → LooksOnce (looked_from places xs) ys
    → LooksOnce places (xs ++ ys)
once_join places [] ys first next = next
once_join places (Loaded at ∷ xs) ys first next = once_join [] xs ys first next
once_join places (Coloured at found ∷ xs) ys first next = once_join places xs ys first next
once_join places (Gave place found ∷ xs) ys first next = once_join places xs ys first next
once_join places (Took place found ∷ xs) ys first next =
    (first.0, first.1, once_join (places ++ place ∷ []) xs ys first.2 next)

-- the same places, whether a cell was given or not
either_way : (given : Bool) (places : List ℕ) → (if given then places else places) ≡ places
either_way true places = refl
either_way false places = refl

-- notes with no turn look at nothing
pub no_looks : (notes : List Note) → turns notes ≡ 0
    → (looks_from [] notes ≡ []) × (looked_from [] notes ≡ []) × LooksOnce [] notes
no_looks [] none = (refl, refl, tt)
no_looks (Loaded at ∷ rest) none = absurd (omega (arith, none))
no_looks (Coloured at found ∷ rest) none = no_looks rest (omega (arith, none))
no_looks (Gave place found ∷ rest) none =
    let later = no_looks rest (omega (arith, none)) in
    (ap (λ (places : List ℕ). looks_from places rest) (either_way (found == 0) []) ∙ later.0, later.1, later.2)
no_looks (Took place found ∷ rest) none = absurd (omega (arith, none))

-- an empty list has no member
pub none_there : (at : ℕ) → Contains [] at → ⊥
none_there at has = let low = has.1 in omega (arith, low)

-- a look is a turn of a seat with which no cell waits
pub look_turns : (before after : List Note) (was now : ℕ) (had between listed : Listing) (none : Bool)
    → IsNext had between None → Looks before after was none → now ≡ next_place was
    → (none ≡ true → listed ≡ between) → (none ≡ false → listed.addresses ≢ [])
    → Turned before after was now had.addresses listed.addresses none
look_turns before after was now had between listed true empty looks next same found =
    (looks, next, empty.1, ap (λ (l : Listing). l.addresses) (same refl ∙ empty.0) ∙ empty.1)
look_turns before after was now had between listed false empty looks next same found =
    (inr (looks, empty.1, found refl), omega (arith, next))
