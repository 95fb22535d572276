-- Where the main side has put back what workers copied, a scavenge may go on.
use Rattle.std.proofs.Common.{◌≡◌, ◌≢◌, ◌∙◌, ◌⊎◌, ℕ, ◌+◌, ◌-◌, ◌<◌, ◌≤◌, inl, inr, List, [], ◌∷◌, ◌++◌, map, refl}
use Rattle.std.proofs.Common.{sym, ap, subst, arith}
use Rattle.std.specs.List.{Contains}
use Rattle.std.specs.Prelude.{slice_index}
use Rattle.std.proofs.lemmas.List.{map-append}
use Rattle.std.proofs.lemmas.Option.{get_or_from_slice_get, slice_get_within}
use Rattle.tagged_word.specs.declared.word.Class.TheVariants.{Ref}
use Rattle.tagged_word.specs.Words.{bits_of}
use Rattle.tagged_word.proofs.Members.{first_in, rest_in, in_cases, in_map}
use Rattle.shared_table.specs.Owned.{Own}
use Rattle.scav_copy.specs.declared.places.Home.{Home}
use Rattle.scav_copy.specs.declared.places.Room.{Room}
use Rattle.scav_copy.specs.Places.{Fixed, cell_before, size_of, offsets_of, IsOfCell, IsLaidOut, IsInRooms, StoodAt}
use Rattle.scav_copy.specs.Renamings.{IsReachable, IsRenamed}
use Rattle.scav_copy.specs.Copies.{Copying, HasHeader, HasNoHome, IsKeptOrRenamed, with_home}
use Rattle.scav_copy.proofs.Ascending.{Ascends, new_in, old_in, joined_ascends}
use Rattle.scav_copy.proofs.Redirecting.{equal_or_not}
use Rattle.scav_copy.proofs.Spots.{none_in, cell_itself}
use Rattle.claims.specs.declared.view.Claim.{Claim}
use Rattle.claims.specs.Claimed.{together, AreApart}
use Rattle.claims.proofs.Counts.{times-cons, one_here}
use Rattle.eden_copies.specs.Eden.{word_at, size_in, slots_in, IsLed, MayCopy}
use Rattle.eden_copies.specs.Sides.{end_of, room_word}
use Rattle.eden_copies.specs.Steps.{cell_claim}
use Rattle.eden_copies.specs.Copied.{claim_for, AreOfOneEach}
use Rattle.eden_copies.specs.Together.{Finished, homes_of, claims_of, whole_deal, HaveCopied, AreCopiedOnce}
use Rattle.eden_copies.specs.PutBack.{fixed_of, in_order, ArePartOf, ArePutBack, WorkersAreCopying}
use Rattle.eden_copies.proofs.Tiles.{tile_within, one_tile}
use Rattle.eden_copies.proofs.FewWords.{ordered_in}
use Rattle.eden_copies.proofs.Growing.{slot_below}
use Rattle.eden_copies.proofs.AllTogether.{flat_from, times_has, has_copied, workers_copy_once}

-- each of the copies stands among them in order
in_ordered : (homes : List Home) (one : Home) → Contains homes one → Contains (in_order homes) one
in_ordered [] one has = has
in_ordered (home ∷ homes) one has =
    elim (in_cases home homes one has) [
      | inl is ↦ subst (Contains (with_home (in_order homes) home)) is (new_in (in_order homes) home)
      | inr rest ↦ old_in (in_order homes) home one (in_ordered homes one rest)
    ]

-- copies of one cell each ascend in order
ordered_ascend : (homes : List Home) → AreOfOneEach homes → Ascends (in_order homes)
ordered_ascend [] one = λ i j d less inside. absurd (omega (arith, inside))
ordered_ascend (home ∷ homes) one =
    joined_ascends (in_order homes) home (ordered_ascend homes one.1)
    (λ other has. one.0 other (ordered_in homes other has))

-- what all claimed are the claims of all copies
claims_are : (own : Own) (all : List Finished)
    → ((one : Finished) → Contains all one → one.seat.made ≡ map (claim_for own) one.worker.copies)
    → together (claims_of all) ≡ map (claim_for own) (homes_of all)
claims_are own [] each = refl
claims_are own (one ∷ all) each =
    ap (λ (claims : List Claim). claims ++ together (claims_of all)) (each one (first_in one all))
    ∙ (ap (λ (claims : List Claim). map (claim_for own) one.worker.copies ++ claims)
    (claims_are own all (λ other has. each other (rest_in one all other has)))
    ∙ sym (map-append (claim_for own) one.worker.copies (homes_of all)))

-- where no place is claimed twice, the copies are of one cell each
apart_each : (own : Own) (homes : List Home) → AreApart (map (claim_for own) homes) → AreOfOneEach homes
apart_each own [] apart = tt
apart_each own (home ∷ homes) apart = (
  (λ other has same.
      let claim : Claim = claim_for own home in
      let place : ℕ = claim.place in
      let rest : List Claim = map (claim_for own) homes in
      omega (
        arith,
        apart place,
        times-cons place claim rest,
        one_here place claim refl,
        times_has place rest (claim_for own other) (in_map (claim_for own) homes other has)
            (ap (λ (n : ℕ). (cell_claim own n 0).place) same),
      )),
  apart_each own homes
      (λ place. omega (arith, apart place, times-cons place (claim_for own home) (map (claim_for own) homes))),
)

-- a cell has one of these copies or none
pub find_home : (homes : List Home) (cell : ℕ)
    → ((home : Home) × Contains homes home × (home.from ≡ cell)) ⊎ HasNoHome homes cell
find_home [] cell = inr (λ home has. absurd (none_in home has))
find_home (home ∷ homes) cell =
    elim (equal_or_not home.from cell) [
      | inl is ↦ inl (home, first_in home homes, is)
      | inr other ↦
          elim (find_home homes cell) [
            | inl found ↦ inl (found.0, rest_in home homes found.0 found.1, found.2)
            | inr none ↦
                inr (λ one has.
                elim (in_cases home homes one has) [
                  | inl same ↦ λ e. other (ap (λ (h : Home). h.from) same ∙ e)
                  | inr rest ↦ none one rest
                ])
          ]
    ]

-- a word that is renamed is kept or renamed
kept_or_renamed : (homes all : List Home) (old new : ℕ) → ((home : Home) → Contains homes home → Contains all home)
    → IsRenamed homes old new → IsKeptOrRenamed all old new
kept_or_renamed homes all old new more (IsRenamed.kept none same) = IsKeptOrRenamed.kept same
kept_or_renamed homes all old new more (IsRenamed.renamed home has was is) =
    IsKeptOrRenamed.renamed home (more home has) was is

module _ (own : Own) (cells slots : List ℕ) (rooms : List Room) where
  abbrev fixed : Fixed
  fixed = fixed_of own cells slots rooms

  -- sizes and slots are those of the words
  same_size : (cell : ℕ) → size_of fixed cell ≡ size_in own cell
  unfolding cell_before
  same_size cell = refl

  same_slots : (cell : ℕ) → offsets_of fixed cell ≡ slots_in own cell
  unfolding cell_before
  same_slots cell = refl

  module _ (recorded : List ℕ) (all : List Finished) (words : List ℕ) (laid : IsLaidOut fixed)
      (may : MayCopy own (whole_deal recorded)) (have : HaveCopied own recorded all)
      (part : ArePartOf own recorded all fixed) (put : ArePutBack own all fixed words) where
    once : AreCopiedOnce own recorded all
    once = workers_copy_once own recorded all may have

    -- a cell to which a way leads is reached
    reached : (cell : ℕ) → IsLed own (whole_deal recorded) cell → IsReachable fixed cell
    reached cell (IsLed.by_slot slot _ dealt refers) =
        let has : Contains slots slot =
        part.slots slot (
          dealt.number,
          slice_get_within _ dealt.number slot dealt.stands,
          get_or_from_slice_get _ dealt.number slot slot dealt.stands,
        ) in
        IsReachable.by_slot slot cell has refers.refers (part.cells cell (IsLed.by_slot slot cell dealt refers))
    reached cell (IsLed.by_cell host offset _ led visited refers) =
        IsReachable.by_cell host offset cell (reached host led)
        (subst (λ (offsets : List ℕ). Contains offsets offset) (sym (same_slots host)) visited) refers.refers
        (part.cells cell (IsLed.by_cell host offset cell led visited refers))

    -- a copy is a worker's
    record Place (home : Home) : Type 0 where
      one : Finished
      among : Contains all one
      copied : Contains one.worker.copies home
      from : one.worker.start ≤ home.to
      ends : home.to + size_in own home.from ≤ end_of one.worker

    place : (home : Home) → Contains (in_order (homes_of all)) home → Place home
    place home has =
        let (one, among, there) = flat_from (λ (f : Finished). f.worker.copies) all home
        (ordered_in (homes_of all) home has) in
        let (number, copied) = has_copied own recorded all may have one among in
        let inside = tile_within own one.worker.start (end_of one.worker) one.worker.copies home copied.copying.tiled
        there in
        record { one = one; among = among; copied = there; from = inside.0; ends = inside.1 }

    -- its words stand where they were put
    stands : (home : Home) (offset : ℕ) (at : Place home) → offset < size_in own home.from
        → slice_index words (home.to + offset) ≡ room_word at.one.worker (home.to + offset)
    stands home offset at low =
        put.rooms at.one (home.to + offset) at.among
        (record { from = omega (arith, at.from); below = omega (arith, at.ends, low) })

    -- a cell that was copied is one of the cells
    home_cell : (home : Home) → Contains (homes_of all) home → Contains cells home.from
    home_cell home has = part.cells home.from (once.led home has)

    -- a word that is in no room and no header of a cell that was copied is as before
    unchanged : (at : ℕ) → (IsInRooms fixed at → ⊥) → ((home : Home) → Contains (homes_of all) home → home.from ≢ at)
        → slice_index words at ≡ word_at own at
    unchanged at apart other = put.others at apart other

    -- the header of a cell
    header : (cell : ℕ) → Contains cells cell → HasHeader fixed words (in_order (homes_of all)) cell
    header cell has =
        elim (find_home (homes_of all) cell) [
          | inl found ↦
              HasHeader.forwarded found.0 (in_ordered (homes_of all) found.0 found.1) found.2
              (subst (λ (n : ℕ). slice_index words n ≡ bits_of (Ref found.0.to)) found.2 (put.headers found.0 found.1))
          | inr none ↦
              HasHeader.unmoved (λ home there. none home (ordered_in (homes_of all) home there))
              (unchanged cell (λ is. laid.cell_in_no_room cell (cell, has, cell_itself cell laid has) is) none)
        ]

    -- the words behind it
    body : (cell offset : ℕ) → Contains cells cell → 1 ≤ offset → offset < size_of fixed cell
        → slice_index words (cell + offset) ≡ word_at own (cell + offset)
    body cell offset has some low =
        let here : IsOfCell fixed cell (cell + offset) = record { from = omega arith; below = omega (arith, low) } in
        unchanged (cell + offset) (λ is. laid.cell_in_no_room (cell + offset) (cell, has, here) is)
        (λ home there same.
        let is : Contains cells home.from = home_cell home there in
        let one : home.from ≡ cell =
        laid.one_cell home.from cell (cell + offset) is has
        (subst (λ (n : ℕ). IsOfCell fixed home.from n) same (cell_itself home.from laid is)) here in
        omega (arith, one, same, some))

    -- a slot outside stays
    slot_stays : (slot : ℕ) → Contains slots slot → slice_index words slot ≡ word_at own slot
    slot_stays slot has =
        unchanged slot (λ is. laid.slot_in_no_room slot has is)
        (λ home there same.
        let is : Contains cells home.from = home_cell home there in
        laid.slot_in_no_cell slot has
        (home.from, is, subst (λ (n : ℕ). IsOfCell fixed home.from n) same (cell_itself home.from laid is)))

    -- a live slot is as it was or renamed
    live_slot : (slot at : ℕ) → StoodAt fixed (in_order (homes_of all)) slot at
        → IsKeptOrRenamed (in_order (homes_of all)) (slice_index fixed.before at) (slice_index words slot)
    live_slot slot at (StoodAt.itself there same) =
        IsKeptOrRenamed.kept (slot_stays slot there ∙ ap (word_at own) same)
    live_slot slot at (StoodAt.in_cell home offset has visited to from) =
        let there = place home has in
        let visits : Contains (slots_in own home.from) offset =
        subst (λ (offsets : List ℕ). Contains offsets offset) (same_slots home.from) visited in
        let renamed : IsKeptOrRenamed (in_order (homes_of all)) (word_at own (home.from + offset))
        (room_word there.one.worker (home.to + offset)) =
        kept_or_renamed (homes_of all) (in_order (homes_of all)) (word_at own (home.from + offset))
        (room_word there.one.worker (home.to + offset)) (in_ordered (homes_of all))
        (once.slots there.one home offset there.among there.copied visits) in
        subst (λ (n : ℕ). IsKeptOrRenamed (in_order (homes_of all)) (word_at own n) (slice_index words slot)) from
        (subst (λ (n : ℕ). IsKeptOrRenamed (in_order (homes_of all)) (word_at own (home.from + offset))
        (slice_index words n)) to
        (subst (IsKeptOrRenamed (in_order (homes_of all)) (word_at own (home.from + offset)))
        (sym (stands home offset there (slot_below own home.from offset visits))) renamed))

    -- all of it
    copying : Copying fixed words (in_order (homes_of all))
    copying = record {
      long = put.long;
      ascend = ordered_ascend (homes_of all) (apart_each own (homes_of all)
          (subst AreApart (claims_are own all (λ one among. (has_copied own recorded all may have one
          among).1.copying.claimed))
          have.once));
      reached = λ home has. reached home.from (once.led home (ordered_in (homes_of all) home has));
      housed = λ home has.
          let there = place home has in
          let (room, among, from, to) = part.rooms there.one there.among in (
            room,
            record {
              among = among;
              from = omega (arith, from, there.from);
              ends = omega (arith, there.ends, to, same_size home.from);
            },
          );
      apart = λ one other at has also is too.
          let here = place one has in
          let there = place other also in
          let low : at < one.to + size_in own one.from = omega (arith, is.below, same_size one.from) in
          let high : at < other.to + size_in own other.from = omega (arith, too.below, same_size other.from) in
          let same : here.one ≡ there.one =
          part.apart here.one there.one at here.among there.among
          (record { from = omega (arith, here.from, is.from); below = omega (arith, here.ends, low) })
          (record { from = omega (arith, there.from, too.from); below = omega (arith, there.ends, high) }) in
          let (number, copied) = has_copied own recorded all may have there.one there.among in
          one_tile own there.one.worker.start (end_of there.one.worker) there.one.worker.copies one other (at - one.to)
          (at - other.to) copied.copying.tiled
          (subst (λ (f : Finished). Contains f.worker.copies one) same here.copied) there.copied
          (omega (arith, low, is.from)) (omega (arith, high, too.from)) (omega (arith, is.from, too.from));
      headers = header;
      bodies = body;
      copied = λ home offset has low none.
          let there = place home has in
          let small : offset < size_in own home.from = omega (arith, low, same_size home.from) in
          let (number, copied) = has_copied own recorded all may have there.one there.among in
          stands home offset there small
          ∙ copied.copying.copied home offset there.copied small
          (λ visited. none (subst (λ (offsets : List ℕ). Contains offsets offset) (sym (same_slots home.from))
          visited));
      live = live_slot;
      outside = λ at no_cell no_slot no_room.
          unchanged at no_room (λ home there same.
          let is : Contains cells home.from = home_cell home there in
          no_cell (home.from, is, subst (λ (n : ℕ). IsOfCell fixed home.from n) same (cell_itself home.from laid is)));
    }

-- the law
pub workers_are_copying : WorkersAreCopying
workers_are_copying own recorded cells slots rooms all words laid may have part put =
    copying own cells slots rooms recorded all words laid may have part put
