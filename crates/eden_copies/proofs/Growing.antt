-- What a claim that is seen, and a copy that is made, leave of what a worker has done.
use Rattle.std.proofs.Common.{◌≡◌, ◌≢◌, ◌∙◌, ℕ, ◌+◌, ◌-◌, ◌<◌, inl, inr, List, [], ◌∷◌, ◌++◌, length, drop}
use Rattle.std.proofs.Common.{get_or, refl, sym, ap, subst, arith}
use Rattle.std.specs.List.{Contains}
use Rattle.std.proofs.lemmas.List.{length-append, length-drop, length-take-le, map-append, get_or_append_left}
use Rattle.std.proofs.lemmas.List.{get_or-append-add, get_or-take, get_or-drop}
use Rattle.std.proofs.lemmas.List.Elements.{Contains-append_left, Contains-push, Contains-push_cases}
use Rattle.tagged_word.proofs.Members.{in_map}
use Rattle.page_space.specs.Extents.{marks_start}
use Rattle.shared_table.specs.Owned.{Own}
use Rattle.scav_copy.specs.declared.places.Home.{Home}
use Rattle.scav_copy.proofs.Spots.{slot_in_cell}
use Rattle.claims.specs.declared.view.Claim.{Claim}
use Rattle.claims.specs.Claimed.{AreAmong}
use Rattle.claims.specs.Sides.{SeatSide, saw, won}
use Rattle.eden_copies.specs.Eden.{Deal, ground, word_at, size_in, slots_in, IsLed, StandsInEden}
use Rattle.eden_copies.specs.Sides.{WorkerSide, end_of, room_word, cell_words, home_behind, with_copy}
use Rattle.eden_copies.specs.Steps.{cell_claim, IsUnseen}
use Rattle.eden_copies.specs.Copied.{claim_for, AreTiled, IsFollowed, IsSurvivorSlot, IsCopying}
use Rattle.eden_copies.proofs.KnownCells.{eden_before_marks}
use Rattle.eden_copies.proofs.Tiles.{tile_within, tiles_more, one_each_more}

-- a word that was followed stays so where more is seen
pub followed_more : (own : Own) (seen more : List Claim) (old new : ℕ) → AreAmong seen more
    → IsFollowed own seen old new → IsFollowed own more old new
followed_more own seen more old new among (IsFollowed.kept none same) = IsFollowed.kept none same
followed_more own seen more old new among (IsFollowed.renamed cell home refers has is) =
    IsFollowed.renamed cell home refers (among (cell_claim own cell home) has) is

-- a slot of a copy lies in it
pub slot_below : (own : Own) (cell offset : ℕ) → Contains (slots_in own cell) offset → offset < size_in own cell
slot_below own cell offset visited = (slot_in_cell (ground own) cell offset visited).1

module _ (own : Own) (deal : Deal) (front : ℕ) (worker : WorkerSide) (seat : SeatSide)
    (copying : IsCopying own deal front worker seat) where
  -- a word of a copy is one of the room
  pub word_inside : (home : Home) (offset : ℕ) → Contains worker.copies home → offset < size_in own home.from
      → home.to + offset - worker.start < length worker.room
  word_inside home offset has low =
      let inside = tile_within own worker.start (end_of worker) worker.copies home copying.tiled has in
      omega (arith, inside.0, inside.1, low)

  -- a claim was seen
  pub sees : (claim : Claim) → IsCopying own deal front worker (saw seat claim)
  sees claim =
      let more : AreAmong seat.seen (seat.seen ++ claim ∷ []) =
      λ one has. Contains-append_left seat.seen (claim ∷ []) one has in
      record {
        claimed = copying.claimed;
        known = λ one has. more one (copying.known one has);
        tiled = copying.tiled;
        one_each = copying.one_each;
        led = copying.led;
        copied = copying.copied;
        followed = λ home offset has visited before.
            followed_more own seat.seen (seat.seen ++ claim ∷ []) (word_at own (home.from + offset))
            (room_word worker (home.to + offset)) more (copying.followed home offset has visited before);
        left = copying.left;
        left_few = copying.left_few;
        reached = copying.reached;
      }

  -- a cell of which no claim was seen has no copy
  pub unseen_apart : (cell : ℕ) → IsUnseen own seat cell → (other : Home) → Contains worker.copies other
      → other.from ≢ cell
  unseen_apart cell unseen other has same =
      let made : Contains seat.made (claim_for own other) =
      subst (λ (claims : List Claim). Contains claims (claim_for own other)) (sym copying.claimed)
      (in_map (claim_for own) worker.copies other has) in
      unseen other.to (subst (λ (n : ℕ). Contains seat.seen (cell_claim own n other.to)) same
      (copying.known (claim_for own other) made))

  module _ (cell : ℕ) (counted : length own.words ≡ marks_start own.space) (stands : StandsInEden own cell) where
    -- the copy has the words of the cell
    pub copy_long : length (cell_words own cell) ≡ size_in own cell
    copy_long =
        length-take-le (size_in own cell) (drop cell own.words)
        (omega (arith, length-drop cell own.words, stands.ends, eden_before_marks own.space, counted))

    -- and stands behind the words of the room
    pub copy_ends : end_of (with_copy own worker cell) ≡ end_of worker + size_in own cell
    copy_ends = omega (arith, length-append worker.room (cell_words own cell), copy_long)

    -- the words of the room stay
    old_word : (one : Home) (offset : ℕ) → Contains worker.copies one → offset < size_in own one.from
        → room_word (with_copy own worker cell) (one.to + offset) ≡ room_word worker (one.to + offset)
    old_word one offset has low =
        get_or_append_left worker.room (cell_words own cell) 0 (one.to + offset - worker.start)
        (word_inside one offset has low)

    -- those of the copy are the cell's
    new_word : (offset : ℕ) → offset < size_in own cell
        → room_word (with_copy own worker cell) (end_of worker + offset) ≡ word_at own (cell + offset)
    new_word offset low =
        let place : end_of worker + offset - worker.start ≡ length worker.room + offset = omega arith in
        ap (λ (n : ℕ). get_or (worker.room ++ cell_words own cell) n 0) place
        ∙ (get_or-append-add worker.room (cell_words own cell) offset 0
        ∙ (get_or-take (size_in own cell) (drop cell own.words) offset 0 low
        ∙ get_or-drop cell own.words offset 0))

    -- a slot that was followed is one still
    old_slot : (seen : List Claim) (one : Home) (offset : ℕ) → AreAmong seat.seen seen → Contains worker.copies one
        → Contains (slots_in own one.from) offset → one.to + offset < front
        → IsFollowed own seen (word_at own (one.from + offset))
        (room_word (with_copy own worker cell) (one.to + offset))
    old_slot seen one offset more has visited before =
        let word : ℕ = word_at own (one.from + offset) in
        subst (IsFollowed own seen word) (sym (old_word one offset has (slot_below own one.from offset visited)))
        (followed_more own seat.seen seen word (room_word worker (one.to + offset)) more
        (copying.followed one offset has visited before))

    -- slots that are left stay so
    old_left : (slot : ℕ) → IsSurvivorSlot own worker.copies front slot
        → IsSurvivorSlot own (worker.copies ++ home_behind worker cell ∷ []) front slot
    old_left slot is = record {
      home = is.home;
      offset = is.offset;
      among = Contains-append_left worker.copies (home_behind worker cell ∷ []) is.home is.among;
      visited = is.visited;
      stands = is.stands;
      passed = is.passed;
      survives = is.survives;
    }

    -- no slot of the copy was followed
    none_new : (one : Home) (offset : ℕ) → home_behind worker cell ≡ one → one.to + offset < front → ⊥
    none_new one offset is before =
        let to : end_of worker ≡ one.to = ap (λ (h : Home). h.to) is in
        omega (arith, to, before, copying.reached)

    -- so no more are left
    no_new_left : (slot : ℕ) → IsSurvivorSlot own (worker.copies ++ home_behind worker cell ∷ []) front slot
        → IsSurvivorSlot own worker.copies front slot
    no_new_left slot is =
        elim (Contains-push_cases worker.copies (home_behind worker cell) is.home is.among) [
          | inl there ↦ record {
            home = is.home;
            offset = is.offset;
            among = there;
            visited = is.visited;
            stands = is.stands;
            passed = is.passed;
            survives = is.survives;
          }
          | inr same ↦ absurd (none_new is.home is.offset same (omega (arith, is.stands, is.passed)))
        ]

    -- a cell was copied and claimed
    pub copies_cell : IsLed own deal cell → IsUnseen own seat cell
        → IsCopying own deal front (with_copy own worker cell) (won seat (cell_claim own cell (end_of worker)))
    copies_cell led unseen =
        let new : Home = home_behind worker cell in
        let claim : Claim = cell_claim own cell (end_of worker) in
        let more : AreAmong seat.seen (seat.seen ++ claim ∷ []) =
        λ one has. Contains-append_left seat.seen (claim ∷ []) one has in
        record {
          claimed = ap (λ (claims : List Claim). claims ++ claim ∷ []) copying.claimed
              ∙ sym (map-append (claim_for own) worker.copies (new ∷ []));
          known = λ one has.
              elim (Contains-push_cases seat.made claim one has) [
                | inl there ↦ more one (copying.known one there)
                | inr is ↦ subst (Contains (seat.seen ++ claim ∷ [])) is (Contains-push seat.seen claim)
              ];
          tiled = subst (AreTiled own worker.start (worker.copies ++ new ∷ [])) (sym copy_ends)
              (tiles_more own worker.start (end_of worker) worker.copies new copying.tiled refl);
          one_each = one_each_more worker.copies new copying.one_each (unseen_apart cell unseen);
          led = λ one has.
              elim (Contains-push_cases worker.copies new one has) [
                | inl there ↦ copying.led one there
                | inr is ↦ subst (λ (h : Home). IsLed own deal h.from) is led
              ];
          copied = λ one offset has low none.
              elim (Contains-push_cases worker.copies new one has) [
                | inl there ↦ old_word one offset there low ∙ copying.copied one offset there low none
                | inr is ↦
                    let from : cell ≡ one.from = ap (λ (h : Home). h.from) is in
                    subst (λ (h : Home). room_word (with_copy own worker cell) (h.to + offset)
                    ≡ word_at own (h.from + offset)) is
                    (new_word offset (subst (λ (n : ℕ). offset < size_in own n) (sym from) low))
              ];
          followed = λ one offset has visited before.
              elim (Contains-push_cases worker.copies new one has) [
                | inl there ↦ old_slot (seat.seen ++ claim ∷ []) one offset more there visited before
                | inr is ↦ absurd (none_new one offset is before)
              ];
          left = λ slot. (
            (λ has. old_left slot ((copying.left slot).0 has)),
            (λ is. (copying.left slot).1 (no_new_left slot is)),
          );
          left_few = copying.left_few;
          reached = omega (arith, copying.reached, copy_ends);
        }
