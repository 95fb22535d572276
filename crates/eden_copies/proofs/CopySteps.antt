-- A worker follows a slot of one of its copies.
use Rattle.std.proofs.Common.{◌≡◌, ◌∙◌, ℕ, ◌+◌, ◌-◌, ◌<◌, ◌≤◌, Bool, if◌then◌else◌, set, List, [], ◌∷◌}
use Rattle.std.proofs.Common.{◌++◌, length, take, get_or, refl, sym, ap, subst, arith}
use Rattle.std.specs.List.{Contains}
use Rattle.std.proofs.lemmas.List.{take_more, take-append-le, take_all}
use Rattle.std.proofs.lemmas.List.Elements.{Contains-append_left}
use Rattle.std.proofs.lemmas.List.Sums.{sum_by_push}
use Rattle.page_space.specs.Extents.{marks_start}
use Rattle.shared_table.specs.Owned.{Own}
use Rattle.scav_copy.specs.declared.places.Home.{Home}
use Rattle.claims.specs.Sides.{SeatSide}
use Rattle.eden_copies.specs.Eden.{Deal, word_at, size_in, slots_in, IsLed, MayCopy, RefersToEden}
use Rattle.eden_copies.specs.Sides.{WorkerSide, end_of, is_of_survivor, with_slot}
use Rattle.eden_copies.specs.Steps.{HasFollowed, HasScanned, MayFollow}
use Rattle.eden_copies.specs.Copied.{GoesOn, IsCopying}
use Rattle.eden_copies.proofs.KnownCells.{eden_before_marks}
use Rattle.eden_copies.proofs.Tiles.{words_of, tiles_fill, tile_at}
use Rattle.eden_copies.proofs.Stepping.{may_follow, room_fits, steps}
use Rattle.eden_copies.proofs.ScannedSlots.{slot_within, puts_slot}

-- a copy is one still
pub in_more : (old new : WorkerSide) (before behind : SeatSide) (home : Home) → GoesOn old new before behind
    → Contains old.copies home → Contains new.copies home
in_more old new before behind home goes has =
    subst (λ (homes : List Home). Contains homes home) (sym goes.copies)
    (Contains-append_left old.copies goes.more home has)

-- a worker that went on, and then put a slot, went on
goes_by_slot : (own : Own) (old new : WorkerSide) (before behind : SeatSide) (from to now : ℕ)
    → GoesOn old new before behind → GoesOn old (with_slot own new from to now) before behind
goes_by_slot own old new before behind from to now goes = record {
  most = goes.most;
  start = goes.start;
  more = goes.more;
  copies = goes.copies;
  table = goes.table;
  round = goes.round;
  seen = goes.seen;
}

-- what following a slot leaves
pub record Scanned (own : Own) (deal : Deal) (front : ℕ) (old new : WorkerSide) (before behind : SeatSide) : Type 0
  where
    pub copying : IsCopying own deal front new behind
    pub goes : GoesOn old new before behind

module _ (own : Own) (deal : Deal) (home : Home) (offset : ℕ) (worker : WorkerSide) (seat : SeatSide)
    (may : MayCopy own deal) (counted : length own.words ≡ marks_start own.space)
    (most : worker.most ≡ own.space.sizes.young) (copying : IsCopying own deal (home.to + offset) worker seat)
    (among : Contains worker.copies home) (low : offset < size_in own home.from) where
  -- the word stands before the marks
  pub word_there : home.from + offset < marks_start own.space
  word_there =
      omega (arith, (may.stand home.from (copying.led home among)).ends, low, eden_before_marks own.space)

  -- there is a place for a slot that is left
  pub left_fits : length worker.left < worker.most
  left_fits =
      omega (
        arith,
        copying.left_few,
        (slot_within own deal home offset worker seat copying among low
            (home.to + offset + 1) refl).1,
        room_fits own deal (home.to + offset) worker seat may counted most copying,
      )

  -- a way leads to what the slot refers to
  slot_leads : Contains (slots_in own home.from) offset → (cell : ℕ)
      → RefersToEden own (word_at own (home.from + offset)) cell → IsLed own deal cell
  slot_leads visited cell refers = IsLed.by_cell home.from offset cell (copying.led home among) visited refers

  -- so the slot may be followed
  pub may_scan : Contains (slots_in own home.from) offset
      → MayFollow own worker seat (word_at own (home.from + offset))
  may_scan visited =
      may_follow own deal (home.to + offset) worker seat may counted most copying (word_at own (home.from + offset))
      (slot_leads visited)

  -- and the worker goes on
  pub scans : (new : WorkerSide) (behind : SeatSide) (next : ℕ) → next ≡ home.to + offset + 1
      → Contains (slots_in own home.from) offset
      → HasScanned own worker new seat behind (home.from + offset) (home.to + offset)
      → Scanned own deal next worker new seat behind
  scans new behind next is_next visited has =
      let step = steps own deal (home.to + offset) worker seat may counted most copying has.middle behind
      (word_at own (home.from + offset)) has.now (slot_leads visited) has.followed in
      let there : Contains has.middle.copies home = in_more worker has.middle seat behind home step.goes among in
      let put : WorkerSide = with_slot own has.middle (home.from + offset) (home.to + offset) has.now in
      subst (λ (w : WorkerSide). Scanned own deal next worker w seat behind) (sym has.slot) (record {
        copying = puts_slot own deal home offset has.middle behind step.copying there low next is_next visited has.now
            step.followed;
        goes = goes_by_slot own worker has.middle seat behind (home.from + offset) (home.to + offset) has.now step.goes;
      })

-- What is known of a slot of a copy to which a worker has come: it may be followed and left.
pub record AtSlot (own : Own) (home : Home) (offset : ℕ) (worker : WorkerSide) (seat : SeatSide) : Type 0 where
  pub there : home.from + offset < marks_start own.space
  pub inside : home.to + offset < end_of worker
  pub few : length worker.left < worker.most
  pub fits : length worker.room ≤ worker.most
  pub may : Contains (slots_in own home.from) offset → MayFollow own worker seat (word_at own (home.from + offset))

-- so it is where the worker began with the copy
pub at_slot : (own : Own) (deal : Deal) (home : Home) (offset : ℕ) (first worker : WorkerSide)
    (before seat : SeatSide) → MayCopy own deal → length own.words ≡ marks_start own.space
    → first.most ≡ own.space.sizes.young → GoesOn first worker before seat
    → IsCopying own deal (home.to + offset) worker seat → Contains first.copies home
    → offset < size_in own home.from → AtSlot own home offset worker seat
at_slot own deal home offset first worker before seat may counted young goes copying had low =
    let most : worker.most ≡ own.space.sizes.young = goes.most ∙ young in
    let among : Contains worker.copies home = in_more first worker before seat home goes had in
    record {
      there = word_there own deal home offset worker seat may counted most copying among low;
      inside = (slot_within own deal home offset worker seat copying among low (home.to + offset + 1) refl).1;
      few = left_fits own deal home offset worker seat may counted most copying among low;
      fits = room_fits own deal (home.to + offset) worker seat may counted most copying;
      may = may_scan own deal home offset worker seat may counted most copying among low;
    }

-- a slot was followed whose word is known, and it was told whether that refers to a survivor
pub slot_scanned : (own : Own) (old middle new : WorkerSide) (before behind : SeatSide) (from to word now : ℕ)
    (survives : Bool) → word_at own from ≡ word → HasFollowed own old middle before behind word now
    → is_of_survivor own word ≡ survives
    → new ≡ record middle {
      room = set middle.room (to - middle.start) now;
      left = if survives then middle.left ++ to ∷ [] else middle.left;
    }
    → HasScanned own old new before behind from to
slot_scanned own old middle new before behind from to word now survives is followed told made = record {
  now = now;
  middle = middle;
  followed = subst (λ (one : ℕ). HasFollowed own old middle before behind one now) (sym is) followed;
  slot = made
      ∙ ap (λ (test : Bool). record middle {
        room = set middle.room (to - middle.start) now;
        left = if test then middle.left ++ to ∷ [] else middle.left;
      }) (sym (ap (is_of_survivor own) is ∙ told));
}

-- the address behind the first copies, so many
abbrev pub front_at : Own → WorkerSide → ℕ → ℕ
front_at own worker count = worker.start + words_of own (take count worker.copies)

module _ (own : Own) (deal : Deal) (front : ℕ) (worker : WorkerSide) (seat : SeatSide)
    (copying : IsCopying own deal front worker seat) where
  -- a copy begins behind those before it
  pub begins_at : (next : ℕ) (home : Home) → next < length worker.copies → get_or worker.copies next home ≡ home
      → home.to ≡ front_at own worker next
  begins_at next home inside is =
      sym (ap (λ (h : Home). h.to) is)
      ∙ tile_at own worker.start (end_of worker) worker.copies next home copying.tiled inside

  -- behind all of them the room ends
  pub ends_at : (next : ℕ) → length worker.copies ≤ next → front_at own worker next ≡ end_of worker
  ends_at next all =
      ap (λ (homes : List Home). worker.start + words_of own homes) (take_all next worker.copies all)
      ∙ tiles_fill own worker.start (end_of worker) worker.copies copying.tiled

-- where a worker went on, the next copy begins behind this one
pub next_front : (own : Own) (old new : WorkerSide) (before behind : SeatSide) (next : ℕ) (home : Home)
    → GoesOn old new before behind → next < length old.copies → get_or old.copies next home ≡ home
    → home.to ≡ front_at own old next → home.to + size_in own home.from ≡ front_at own new (next + 1)
next_front own old new before behind next home goes inside is at =
    let first : take (next + 1) old.copies ≡ take next old.copies ++ home ∷ [] =
    take_more old.copies next home inside ∙ ap (λ (h : Home). take next old.copies ++ h ∷ []) is in
    let all : take (next + 1) new.copies ≡ take (next + 1) old.copies =
    ap (take (next + 1)) goes.copies
    ∙ take-append-le (next + 1) old.copies goes.more (omega (arith, inside)) in
    let words : words_of own (take (next + 1) new.copies) ≡ words_of own (take next old.copies) + size_in own
    home.from =
    ap (words_of own) (all ∙ first)
    ∙ sum_by_push (λ (one : Home). size_in own one.from) (take next old.copies) home in
    omega (arith, words, at, goes.start)
