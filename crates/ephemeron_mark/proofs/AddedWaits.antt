-- Which pairs wait for a key when one comes: that one, and those that did.
use Rattle.std.proofs.Common.{◌≡◌, ℕ, ◌⊎◌, ◌↔◌, inl, inr, Bool, true, false, List, [], ◌∷◌, ◌++◌, length}
use Rattle.std.proofs.Common.{Some, get_or, slice_get, Contains, IsTrue, if◌then◌else◌, sym, ◌∙◌, subst, arith}
use Rattle.std.proofs.lemmas.Bool.{false≢true}
use Rattle.std.proofs.lemmas.Option.{slice_get_within, slice_get-get_or}
use Rattle.heap_model.proofs.CellWords.{slice_get-append_left}
use Rattle.heap_moves.proofs.MovedWords.{contains_or_not}
use Rattle.live_cells.proofs.MarkedLinks.{element_at}
use Rattle.cell_list.specs.Listing.{Listing, pushed}
use Rattle.ephemeron_mark.specs.Pairs.{Waits, WaitsFor}
use Rattle.ephemeron_mark.proofs.LastPairs.{last_there, which_of}

-- what a push leaves where the address was new
pub push_of_new : (old new : Listing) (at : ℕ) (was_new : Bool) → was_new ≡ true
    → new ≡ (if was_new then pushed old at else old) → new ≡ pushed old at
push_of_new old new at true told is = is
push_of_new old new at false told is = absurd (false≢true told)

-- what it leaves where it was not, and that it is listed
pub push_of_listed : (old new : Listing) (at : ℕ) (was_new : Bool) → was_new ≡ false
    → new ≡ (if was_new then pushed old at else old) → (IsTrue was_new ↔ (¬ Contains old.addresses at))
    → (new ≡ old) × Contains old.addresses at
push_of_listed old new at true told is new_where = absurd (false≢true (sym told))
push_of_listed old new at false told is new_where = (
  is,
  elim (contains_or_not old.addresses at) [
    | inl there ↦ there
    | inr none ↦ absurd (false≢true (new_where.1 none))
  ],
)

-- a pair whose slot is listed waits for its key, where each of that slot does
pub listed_waits : (waits : Waits) (key slot : ℕ) → length waits.keys ≡ length waits.slots
    → Contains waits.slots slot → ((other : ℕ) → WaitsFor waits other slot → other ≡ key) → WaitsFor waits key slot
listed_waits waits key slot as_many there one =
    let place : ℕ = there.0 in
    let other : ℕ = get_or waits.keys place 0 in
    let found : WaitsFor waits other slot = record {
      place = place;
      of_key = slice_get-get_or waits.keys place 0 (omega (arith, there.1, as_many));
      of_slot = element_at waits.slots slot there;
    } in
    subst (λ (k : ℕ). WaitsFor waits k slot) (one other found) found

module _ (waits : Waits) (bound key slot : ℕ) (as_many : length waits.keys ≡ length waits.slots) where
  -- one pair more waits
  abbrev pub with_pair : Waits
  with_pair = record { bound = bound; slots = waits.slots ++ slot ∷ []; keys = waits.keys ++ key ∷ [] }

  -- what holds of that holds where slots and keys are the same
  pub as_with_pair : (P : Waits → Type 0) (slots keys : List ℕ) → slots ≡ waits.slots ++ slot ∷ []
      → keys ≡ waits.keys ++ key ∷ [] → P with_pair → P (record { bound = bound; slots = slots; keys = keys })
  as_with_pair P slots keys slots_are keys_are is =
      subst (λ (one : List ℕ). P (record { bound = bound; slots = one; keys = keys })) (sym slots_are)
      (subst (λ (one : List ℕ). P (record { bound = bound; slots = waits.slots ++ slot ∷ []; keys = one }))
      (sym keys_are) is)

  -- that one does
  pub added_waits : WaitsFor with_pair key slot
  added_waits = record {
    place = length waits.keys;
    of_key = last_there waits.keys key;
    of_slot = subst (λ (n : ℕ). slice_get (waits.slots ++ slot ∷ []) n ≡ Some slot) (sym as_many)
        (last_there waits.slots slot);
  }

  -- and those that did
  pub added_kept : (other at : ℕ) → WaitsFor waits other at → WaitsFor with_pair other at
  added_kept other at one = record {
    place = one.place;
    of_key = slice_get-append_left waits.keys (key ∷ []) one.place
        (slice_get_within waits.keys one.place other one.of_key) ∙ one.of_key;
    of_slot = slice_get-append_left waits.slots (slot ∷ []) one.place
        (slice_get_within waits.slots one.place at one.of_slot) ∙ one.of_slot;
  }

  -- and no others
  pub added_only : (other at : ℕ) → WaitsFor with_pair other at
      → WaitsFor waits other at ⊎ ((other ≡ key) × (at ≡ slot))
  added_only other at one =
      elim (which_of waits.keys key other one.place one.of_key) [
        | inl before ↦ elim (which_of waits.slots slot at one.place one.of_slot) [
          | inl slot_before ↦ inl (record { place = one.place; of_key = before; of_slot = slot_before })
          | inr last ↦
              let within = slice_get_within waits.keys one.place other before in
              absurd (omega (arith, within, last.0, as_many))
        ]
        | inr last ↦ elim (which_of waits.slots slot at one.place one.of_slot) [
          | inl slot_before ↦
              let within = slice_get_within waits.slots one.place at slot_before in
              absurd (omega (arith, within, last.0, as_many))
          | inr last_slot ↦ inr (sym last.1, sym last_slot.1)
        ]
      ]
