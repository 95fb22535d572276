-- A worker may follow each word that a way leads to, and goes on so.
use Rattle.std.proofs.Common.{◌≡◌, ◌∙◌, ℕ, ◌+◌, ◌≤◌, inl, inr, List, [], ◌∷◌, ◌++◌, length, refl, sym, ap, subst, arith}
use Rattle.std.specs.List.{Contains}
use Rattle.std.proofs.lemmas.List.{append-nil, append_assoc}
use Rattle.std.proofs.lemmas.List.Elements.{Contains-append_left, Contains-push}
use Rattle.std.proofs.lemmas.List.Sums.{sum_by-cons}
use Rattle.tagged_word.proofs.Members.{first_in, rest_in, in_cases}
use Rattle.tagged_word.specs.declared.word.Class.TheVariants.{Ref}
use Rattle.tagged_word.specs.Words.{bits_of}
use Rattle.page_space.specs.Extents.{eden_start, segments_start, marks_start}
use Rattle.shared_table.specs.Owned.{Own}
use Rattle.scav_copy.specs.declared.places.Home.{Home}
use Rattle.claims.specs.declared.view.Claim.{Claim}
use Rattle.claims.specs.Sides.{SeatSide, saw, won}
use Rattle.eden_copies.specs.Eden.{Deal, size_in, IsLed, MayCopy, RefersToEden}
use Rattle.eden_copies.specs.Sides.{WorkerSide, end_of, home_behind, with_copy}
use Rattle.eden_copies.specs.Steps.{cell_claim, IsUnseen, HasFollowed, HasHome, MayFollow}
use Rattle.eden_copies.specs.Copied.{AreOfOneEach, GoesOn, IsCopying, IsFollowed}
use Rattle.eden_copies.proofs.Tiles.{words_of, tiles_fill, tiles_few}
use Rattle.eden_copies.proofs.FewWords.{AreAllApart, few_words}
use Rattle.eden_copies.proofs.Growing.{sees, copies_cell, copy_ends, unseen_apart}

-- copies of cells to which ways lead, of each one, share no word
all_apart : (own : Own) (deal : Deal) (homes : List Home) → MayCopy own deal → AreOfOneEach homes
    → ((home : Home) → Contains homes home → IsLed own deal home.from) → AreAllApart own homes
all_apart own deal [] may one led = tt
all_apart own deal (home ∷ homes) may one led = (
  (λ other has at here there.
      one.0 other has (sym (may.apart home.from other.from at (led home (first_in home homes))
      (led other (rest_in home homes other has)) here there))),
  all_apart own deal homes may one.1 (λ other has. led other (rest_in home homes other has)),
)

-- they have no more words than eden
fit_eden : (own : Own) (deal : Deal) (homes : List Home) → MayCopy own deal → AreOfOneEach homes
    → ((home : Home) → Contains homes home → IsLed own deal home.from)
    → words_of own homes ≤ own.space.sizes.young
fit_eden own deal homes may one led =
    let few : eden_start own.space + words_of own homes ≤ segments_start own.space =
    few_words own (eden_start own.space) (segments_start own.space) homes (omega arith)
    (all_apart own deal homes may one led)
    (λ home has. let stands = may.stand home.from (led home has) in
    record { some = stands.some; from = stands.from; ends = stands.ends }) in
    omega (arith, few)

-- nothing happened
pub goes_itself : (worker : WorkerSide) (seat : SeatSide) → GoesOn worker worker seat seat
goes_itself worker seat = record {
  most = refl;
  start = refl;
  more = [];
  copies = sym (append-nil worker.copies);
  table = refl;
  round = refl;
  seen = λ claim has. has;
}

-- one thing happened after another
pub goes_again : (one two three : WorkerSide) (a b c : SeatSide) → GoesOn one two a b → GoesOn two three b c
    → GoesOn one three a c
goes_again one two three a b c first then = record {
  most = then.most ∙ first.most;
  start = then.start ∙ first.start;
  more = first.more ++ then.more;
  copies = then.copies
      ∙ (ap (λ (xs : List Home). xs ++ then.more) first.copies ∙ append_assoc one.copies first.more then.more);
  table = then.table ∙ first.table;
  round = then.round ∙ first.round;
  seen = λ claim has. then.seen claim (first.seen claim has);
}

-- what a word that was followed leaves
pub record Stepped (own : Own) (deal : Deal) (front : ℕ) (old new : WorkerSide) (before behind : SeatSide)
    (word now : ℕ) : Type 0 where
  pub copying : IsCopying own deal front new behind
  pub goes : GoesOn old new before behind
  pub followed : IsFollowed own behind.seen word now
  pub left : new.left ≡ old.left
  pub longer : end_of old ≤ end_of new

module _ (own : Own) (deal : Deal) (front : ℕ) (worker : WorkerSide) (seat : SeatSide) (may : MayCopy own deal)
    (counted : length own.words ≡ marks_start own.space) (most : worker.most ≡ own.space.sizes.young)
    (copying : IsCopying own deal front worker seat) where
  -- its copies have as many words as its room
  room_is : words_of own worker.copies ≡ length worker.room
  room_is = omega (arith, tiles_fill own worker.start (end_of worker) worker.copies copying.tiled)

  -- there are no more of them than words
  copies_are_few : length worker.copies ≤ length worker.room
  copies_are_few =
      omega (
        arith,
        tiles_few own worker.start (end_of worker) worker.copies copying.tiled
            (λ home has. (may.stand home.from (copying.led home has)).some),
      )

  -- so the room is never too short
  pub room_fits : length worker.room ≤ worker.most
  room_fits = omega (arith, fit_eden own deal worker.copies may copying.one_each copying.led, room_is, most)

  -- and there is a place for each copy
  pub copies_fit : length worker.copies ≤ worker.most
  copies_fit = omega (arith, copies_are_few, room_fits)

  -- a cell of which no claim was seen has room behind the words
  one_fits : (cell : ℕ) → IsLed own deal cell → IsUnseen own seat cell
      → length worker.room + size_in own cell ≤ worker.most
  one_fits cell led unseen =
      let new : Home = home_behind worker cell in
      let all : words_of own (new ∷ worker.copies) ≡ size_in own cell + words_of own worker.copies =
      sum_by-cons (λ (one : Home). size_in own one.from) new worker.copies in
      let few : words_of own (new ∷ worker.copies) ≤ own.space.sizes.young =
      fit_eden own deal (new ∷ worker.copies) may
      (unseen_apart own deal front worker seat copying cell unseen, copying.one_each)
      (λ one has.
      elim (in_cases new worker.copies one has) [
        | inl is ↦ subst (λ (h : Home). IsLed own deal h.from) is led
        | inr there ↦ copying.led one there
      ]) in
      omega (arith, all, few, room_is, most)

  -- a word may be followed, if a way leads to the cell of eden that it refers to
  pub may_follow : (word : ℕ) → ((cell : ℕ) → RefersToEden own word cell → IsLed own deal cell)
      → MayFollow own worker seat word
  may_follow word led cell refers =
      let stands = may.stand cell (led cell refers) in
      record {
        stands = stands;
        words_fit = λ unseen. one_fits cell (led cell refers) unseen;
        copies_fit = λ unseen. omega (arith, copies_are_few, one_fits cell (led cell refers) unseen, stands.some);
      }

  -- where the copy of the cell was found or made
  home_step : (new : WorkerSide) (behind : SeatSide) (word cell home now : ℕ) → RefersToEden own word cell
      → IsLed own deal cell → HasHome own worker new seat behind cell home → now ≡ bits_of (Ref home)
      → Stepped own deal front worker new seat behind word now
  home_step new behind word cell home now refers led (HasHome.found same saw_it) is =
      let claim : Claim = cell_claim own cell home in
      let step : Stepped own deal front worker worker seat (saw seat claim) word now = record {
        copying = sees own deal front worker seat copying claim;
        goes = record {
          most = refl;
          start = refl;
          more = [];
          copies = sym (append-nil worker.copies);
          table = refl;
          round = refl;
          seen = λ one has. Contains-append_left seat.seen (claim ∷ []) one has;
        };
        followed = IsFollowed.renamed cell home refers (Contains-push seat.seen claim) is;
        left = refl;
        longer = omega arith;
      } in
      subst (λ (w : WorkerSide). Stepped own deal front worker w seat behind word now) (sym same)
      (subst (λ (s : SeatSide). Stepped own deal front worker worker seat s word now) (sym saw_it) step)
  home_step new behind word cell home now refers led (HasHome.made unseen at_end same won_it) is =
      let end : ℕ = end_of worker in
      let claim : Claim = cell_claim own cell end in
      let stands = may.stand cell led in
      let step : Stepped own deal front worker (with_copy own worker cell) seat (won seat claim) word now = record {
        copying = copies_cell own deal front worker seat copying cell counted stands led unseen;
        goes = record {
          most = refl;
          start = refl;
          more = home_behind worker cell ∷ [];
          copies = refl;
          table = refl;
          round = refl;
          seen = λ one has. Contains-append_left seat.seen (claim ∷ []) one has;
        };
        followed = IsFollowed.renamed cell end refers (Contains-push seat.seen claim)
            (is ∙ ap (λ (n : ℕ). bits_of (Ref n)) at_end);
        left = refl;
        longer = omega (arith, copy_ends own deal front worker seat copying cell counted stands);
      } in
      let seen : behind ≡ won seat claim =
      won_it ∙ ap (λ (n : ℕ). won seat (cell_claim own cell n)) at_end in
      subst (λ (w : WorkerSide). Stepped own deal front worker w seat behind word now) (sym same)
      (subst (λ (s : SeatSide). Stepped own deal front worker (with_copy own worker cell) seat s word now) (sym seen)
      step)

  -- a worker goes on by a word that is followed
  pub steps : (new : WorkerSide) (behind : SeatSide) (word now : ℕ)
      → ((cell : ℕ) → RefersToEden own word cell → IsLed own deal cell)
      → HasFollowed own worker new seat behind word now → Stepped own deal front worker new seat behind word now
  steps new behind word now led (HasFollowed.passed none same still is) =
      let step : Stepped own deal front worker worker seat seat word now = record {
        copying = copying;
        goes = goes_itself worker seat;
        followed = IsFollowed.kept none is;
        left = refl;
        longer = omega arith;
      } in
      subst (λ (w : WorkerSide). Stepped own deal front worker w seat behind word now) (sym same)
      (subst (λ (s : SeatSide). Stepped own deal front worker worker seat s word now) (sym still) step)
  steps new behind word now led (HasFollowed.led cell home refers has is) =
      home_step new behind word cell home now refers (led cell refers) has is
