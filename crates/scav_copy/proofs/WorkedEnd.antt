-- The worked scavenge.
use Rattle.std.proofs.Common.{ℕ, zero, suc, ◌<◌, ◌≤◌, ◌+◌, ◌≡◌, ◌≢◌, ◌⊎◌, inl, inr, List}
use Rattle.std.proofs.Common.{[], ◌∷◌, get_or, set}
use Rattle.std.proofs.Common.{arith, refl, sym, ap, subst, ◌∙◌}
use Rattle.std.specs.List.{Contains}
use Rattle.tagged_word.proofs.Members.{one_in, first_in, rest_in, in_cases}
use Rattle.scav_copy.specs.declared.places.Home.{Home}
use Rattle.scav_copy.specs.declared.places.Room.{Room}
use Rattle.scav_copy.specs.Places.{cell_before, size_of, offsets_of, IsInCells, IsInRooms, IsInRoom}
use Rattle.scav_copy.specs.Renamings.{IsReachable, IsRenamed, Renaming, Outside}
use Rattle.scav_copy.specs.Worked.{words_before, words_after, list_home, worked, EndIsWorked, OthersAreNot}
use Rattle.scav_copy.proofs.Spots.{none_in, reached_is, elsewhere}

-- the list has three words, and its slot stands behind the header
pub list_size : size_of worked 0 ≡ 3
unfolding cell_before
list_size = refl

-- the slot of the list that a scavenge visits is the one behind its header
list_offsets : offsets_of worked 0 ≡ 1 ∷ []
unfolding cell_before
list_offsets = refl

-- the one home
the_home : (home : Home) → Contains (list_home 8 ∷ []) home → list_home 8 ≡ home
the_home home there = one_in (list_home 8) home there

-- a reference to the list became one to its home
renamed_list : (word : ℕ) → word ≡ 33 → IsRenamed (list_home 8 ∷ []) 1 word
renamed_list word e = IsRenamed.renamed (list_home 8) (first_in (list_home 8) []) refl e

-- a word that refers to no cell stays
kept_word : IsRenamed (list_home 8 ∷ []) 3 3
kept_word = IsRenamed.kept (λ home there same.
    let from : home.from ≡ 0 = ap (λ (h : Home). h.from) (sym (the_home home there)) in
    omega (arith, from, same)) refl

-- the list was reached
list_reached : IsReachable worked 0
list_reached = IsReachable.by_slot 4 0 (first_in 4 (5 ∷ [])) refl (first_in 0 [])

-- nothing else was
only_list : (cell : ℕ) → IsReachable worked cell → 0 ≡ cell
only_list cell reached = one_in 0 cell (reached_is worked cell reached)

-- each word of the copy that is no slot is that of the list
copied_words : (offset : ℕ) → offset < 3 → get_or words_after (8 + offset) 0 ≡ get_or words_before (0 + offset) 0
copied_words zero less = refl
copied_words (suc zero) less = refl
copied_words (suc (suc zero)) less = refl
copied_words (suc (suc (suc k))) less = absurd (omega arith)

-- the slots are renamed
slots_renamed : (slot : ℕ) → (4 ≡ slot) ⊎ Contains (5 ∷ []) slot
    → IsRenamed (list_home 8 ∷ []) (get_or words_before slot 0) (get_or words_after slot 0)
slots_renamed slot (inl e) =
    subst (λ (s : ℕ). IsRenamed (list_home 8 ∷ []) (get_or words_before s 0) (get_or words_after s 0)) e
    (renamed_list 33 refl)
slots_renamed slot (inr there) =
    subst (λ (s : ℕ). IsRenamed (list_home 8 ∷ []) (get_or words_before s 0) (get_or words_after s 0))
    (one_in 5 slot there)
    (renamed_list 33 refl)

-- the end is a renaming
worked_renaming : Renaming worked words_after (list_home 8 ∷ [])
worked_renaming = record {
  one_each = λ i j d less within. absurd (omega arith);
  survivors = λ cell. (
    λ found.
        let from : 0 ≡ cell = ap (λ (h : Home). h.from) (the_home found.0 found.1) ∙ found.2 in
        subst (IsReachable worked) from list_reached,
    λ reached. (list_home 8, first_in (list_home 8) [], only_list cell reached),
  );
  copied = λ home offset there less no_slot.
      let is : list_home 8 ≡ home = the_home home there in
      let short : offset < 3 = subst (λ (n : ℕ). offset < n) list_size
      (subst (λ (h : Home). offset < size_of worked h.from) (sym is) less) in
      subst (λ (h : Home). get_or words_after (h.to + offset) 0 ≡ get_or words_before (h.from + offset) 0) is
      (copied_words offset short);
  copied_slots = λ home offset there is.
      let same : list_home 8 ≡ home = the_home home there in
      let at : 1 ≡ offset = one_in 1 offset (subst (λ (xs : List ℕ). Contains xs offset) list_offsets
      (subst (λ (h : Home). Contains (offsets_of worked h.from) offset) (sym same) is)) in
      subst (λ (h : Home). IsRenamed (list_home 8 ∷ []) (get_or words_before (h.from + offset) 0)
      (get_or words_after (h.to + offset) 0)) same
      (subst (λ (k : ℕ). IsRenamed (list_home 8 ∷ []) (get_or words_before (0 + k) 0) (get_or words_after (8 + k) 0)) at
      kept_word);
  slots = λ slot there. slots_renamed slot (in_cases 4 (5 ∷ []) slot there);
}

-- each word of the list is one of a cell
in_list : (at : ℕ) → at < 3 → IsInCells worked at
in_list at less =
    let size : size_of worked 0 ≡ 3 = list_size in
    (0, first_in 0 [], record { from = omega arith; below = omega (arith, less, size) })

-- the room of each worker
in_first : (at : ℕ) → 8 ≤ at → at < 12 → IsInRooms worked at
in_first at from below =
    let one : Room = record { worker = 0; from = 8; to = 12 } in
    let other : Room = record { worker = 1; from = 16; to = 20 } in
    (one, first_in one (other ∷ []), record { from = from; below = below })

-- the second worker's room is from 16 to 20
in_second : (at : ℕ) → 16 ≤ at → at < 20 → IsInRooms worked at
in_second at from below =
    let one : Room = record { worker = 0; from = 8; to = 12 } in
    let other : Room = record { worker = 1; from = 16; to = 20 } in
    (other, rest_in one (other ∷ []) other (first_in other []), record { from = from; below = below })

-- the words after, store by store
abbrev after_17 : List ℕ
after_17 = set words_before 17 3

-- the header of the second copy
abbrev after_16 : List ℕ
after_16 = set after_17 16 21474836486

-- the slot of the first copy
abbrev after_9 : List ℕ
after_9 = set after_16 9 3

-- its header
abbrev after_8 : List ℕ
after_8 = set after_9 8 21474836486

-- the second slot outside, renamed
abbrev after_5 : List ℕ
after_5 = set after_8 5 33

-- the first slot outside, renamed
abbrev after_4 : List ℕ
after_4 = set after_5 4 33

-- a word that is stored to by none of them
unstored : (at : ℕ) → at ≢ 0 → at ≢ 4 → at ≢ 5 → at ≢ 8 → at ≢ 9 → at ≢ 16 → at ≢ 17
    → get_or (set after_4 0 33) at 0 ≡ get_or words_before at 0
unstored at a b c d e f g =
    elsewhere after_4 0 33 at a ∙ elsewhere after_5 4 33 at b ∙ elsewhere after_8 5 33 at c
    ∙ elsewhere after_9 8 21474836486 at d ∙ elsewhere after_16 9 3 at e ∙ elsewhere after_17 16 21474836486 at f
    ∙ elsewhere words_before 17 3 at g

-- all outside is as before
worked_outside : Outside worked words_after
worked_outside at no_cell no_slot no_room =
    unstored at (λ same. no_cell (in_list at (omega arith)))
    (λ same. no_slot (subst (Contains (4 ∷ 5 ∷ [])) (sym same) (first_in 4 (5 ∷ []))))
    (λ same. no_slot (subst (Contains (4 ∷ 5 ∷ [])) (sym same) (rest_in 4 (5 ∷ []) 5 (first_in 5 []))))
    (λ same. no_room (in_first at (omega arith) (omega arith)))
    (λ same. no_room (in_first at (omega arith) (omega arith)))
    (λ same. no_room (in_second at (omega arith) (omega arith)))
    (λ same. no_room (in_second at (omega arith) (omega arith)))

-- the end is as it was worked
pub end_is_worked : EndIsWorked
end_is_worked = (worked_renaming, worked_outside)

-- a word stays, or was the reference to the list and is that to 8
kept_or_list : (old new : ℕ) → IsRenamed (list_home 8 ∷ []) old new → (new ≡ old) ⊎ ((old ≡ 1) × (new ≡ 33))
kept_or_list old new (IsRenamed.kept none same) = inl same
kept_or_list old new (IsRenamed.renamed home there was is) =
    let from : home.from ≡ 0 = ap (λ (h : Home). h.from) (sym (the_home home there)) in
    let to : home.to ≡ 8 = ap (λ (h : Home). h.to) (sym (the_home home there)) in
    inr (omega (arith, was, from), omega (arith, is, to))

-- a word that neither stays nor becomes that is not renamed
not_so : (old new : ℕ) → (new ≢ old) → (new ≢ 33) ⊎ (old ≢ 1) → IsRenamed (list_home 8 ∷ []) old new → ⊥
not_so old new other (inl word) is =
    elim (kept_or_list old new is) [ inl same ↦ other same | inr both ↦ word both.1 ]
not_so old new other (inr word) is =
    elim (kept_or_list old new is) [ inl same ↦ other same | inr both ↦ word both.0 ]

-- no room has word 3
three_in_no_room : (room : Room) → (record { worker = 0; from = 8; to = 12 } ≡ room)
    ⊎ Contains (record { worker = 1; from = 16; to = 20 } ∷ []) room → IsInRoom room 3 → ⊥
three_in_no_room room (inl e) inside =
    let from : 8 ≡ room.from = ap (λ (r : Room). r.from) e in omega (arith, from, inside.from)
three_in_no_room room (inr there) inside =
    let from : 16 ≡ room.from = ap (λ (r : Room). r.from) (one_in _ room there) in omega (arith, from, inside.from)

-- word 3 is no slot
three_is_no_slot : (at : ℕ) → at ≡ 3 → (4 ≡ at) ⊎ Contains (5 ∷ []) at → ⊥
three_is_no_slot at is (inl e) = omega (arith, is, e)
three_is_no_slot at is (inr there) = let e : 5 ≡ at = one_in 5 at there in omega (arith, is, e)

-- word 3 is outside
three_outside : Outside worked (set words_after 3 1) → ⊥
three_outside outside =
    let no_cell : IsInCells worked 3 → ⊥ = λ inside.
    let cell : 0 ≡ inside.0 = one_in 0 inside.0 inside.1 in
    let size : size_of worked inside.0 ≡ 3 = ap (size_of worked) (sym cell) ∙ list_size in
    omega (arith, cell, size, inside.2.below) in
    let no_slot : Contains (4 ∷ 5 ∷ []) 3 → ⊥ = λ there. three_is_no_slot 3 refl (in_cases 4 (5 ∷ []) 3 there) in
    let no_room : IsInRooms worked 3 → ⊥ = λ inside.
    let one : Room = record { worker = 0; from = 8; to = 12 } in
    let other : Room = record { worker = 1; from = 16; to = 20 } in
    three_in_no_room inside.0 (in_cases one (other ∷ []) inside.0 inside.1) inside.2 in
    let bad : 1 ≡ 0 = outside 3 no_cell no_slot no_room in
    omega (arith, bad)

-- no other end is a renaming
pub others_are_not : OthersAreNot
others_are_not = record {
  losing_slot = λ renaming.
      not_so 1 65 (λ e. omega (arith, e)) (inl (λ e. omega (arith, e)))
      (renaming.slots 5 (rest_in 4 (5 ∷ []) 5 (first_in 5 [])));
  second_home = λ renaming. (renaming.one_each 0 1 (list_home 8) (omega arith) (omega arith)).0 refl;
  no_home = λ renaming.
      let found = (renaming.survivors 0).1 list_reached in none_in found.0 found.1;
  torn_copy = λ renaming.
      not_so 3 33 (λ e. omega (arith, e)) (inr (λ e. omega (arith, e)))
      (renaming.copied_slots (list_home 8) 1 (first_in (list_home 8) [])
      (subst (λ (xs : List ℕ). Contains xs 1) (sym list_offsets) (first_in 1 [])));
  outside = three_outside;
}
