-- The lists of grey cells go with the seat.
use Rattle.std.proofs.Common.{[], ◌≡◌, ◌≢◌, ◌⊎◌, ◌↔◌, inl, inr, ℕ, List, Contains, true, refl, sym, subst, ◌∙◌}
use Rattle.std.proofs.Common.{Option, Some, None}
use Rattle.std.proofs.lemmas.Bool.{cases_eq}
use Rattle.tagged_word.specs.Readings.{reference_in}
use Rattle.cell_list.specs.Listing.{Listing}
use Rattle.core_parts.specs.Boards.{giver_left, joined_by}
use Rattle.core_parts.specs.Lists.{joined, left}
use Rattle.core_parts.proofs.Handing.{lost_give}
use Rattle.core_parts.proofs.Joining.{joined_from, joined_in, joined_keeps}
use Rattle.core_parts.proofs.Leaving.{left_from, left_keeps, left_out}
use Rattle.mark_laws.proofs.Joins.{joined_other, joined_white}
use Rattle.mark_world.specs.declared.event.Event.TheVariants as event
use Rattle.mark_world.specs.Steps.{black, white}
use Rattle.mark_world.specs.Cycles.{Cycle}
use Rattle.shared_table.specs.declared.colour.Colour.{Colour}
use Rattle.shared_table.specs.Colours.{number_of}
use Rattle.heap_table.specs.Overviews.{cycle_in, overview, stepped, stored}
use Rattle.heap_table.specs.Seats.{Seat}
use Rattle.mark_barrier.specs.CycleSteps.{published, sure_of}
use Rattle.mark_barrier.specs.Paid.{IsPaid, ListsAllBut, ListsGrey, MovesTo, PassedAreBlack}
use Rattle.mark_barrier.specs.Waiting.{HasRoom, IsOn, Waiting}
use Rattle.mark_barrier.proofs.Steps.{IsFound, publish_steps, shade_steps}

-- One cell was added to the lists, and no other. None is passed over that was not.
pub record Adds (old new : Waiting) (at : ℕ) : Type 0 where
  pub list : new.list.bound ≡ old.list.bound
  pub passed : new.passed.bound ≡ old.passed.bound
  pub there : IsOn new at
  pub kept : (one : ℕ) → IsOn old one → IsOn new one
  pub either : (one : ℕ) → IsOn new one → IsOn old one ⊎ (one ≡ at)
  pub over : (one : ℕ) → Contains new.passed.addresses one → Contains old.passed.addresses one

-- it is so where one is listed
pub adds_listed : (list now passed : Listing) (at : ℕ) → now.bound ≡ list.bound
    → ((one : ℕ) → Contains now.addresses one ↔ (Contains list.addresses one ⊎ (one ≡ at)))
    → Adds (record { list = list; passed = passed }) (record { list = now; passed = passed }) at
adds_listed list now passed at bound members = record {
  list = bound;
  passed = refl;
  there = inl ((members at).1 (inr refl));
  kept = λ one on. elim on [ inl was ↦ inl ((members one).1 (inl was)) | inr over ↦ inr over ];
  either = λ one on. elim on [
    | inl listed ↦ elim ((members one).0 listed) [ inl was ↦ inl (inl was) | inr new ↦ inr new ]
    | inr over ↦ inl (inr over)
  ];
  over = λ one on. on;
}

-- what was passed over is black still where colours only darken
pub black_still : (old new : Seat) (before now : Waiting) (words : List ℕ) (cycle : Cycle) → MovesTo old new words cycle
    → ((one : ℕ) → Contains now.passed.addresses one → Contains before.passed.addresses one)
    → PassedAreBlack old before → PassedAreBlack new now
black_still old new before now words cycle moves over black one on home =
    let was : (overview old).home ≡ true = sym moves.home ∙ home in
    (moves.darkens was).stays one (black one (over one on) was)

-- there is as much room as before
same_room : (old new : Waiting) (at bound : ℕ) → Adds old new at → HasRoom old bound → HasRoom new bound
same_room old new at bound adds room =
    record { list = adds.list ∙ room.list; passed = adds.passed ∙ room.passed }

module _ (seat : Seat) (before now : Waiting) (at : ℕ) (lists : ListsGrey seat before) (adds : Adds before now at) where
  -- what waits then is on the lists
  joined_waits : (one : ℕ) → Contains (joined (overview seat).view.grey at) one → IsOn now one
  joined_waits one on = elim (cases_eq one at) [
    | inl is ↦ subst (IsOn now) (sym is) adds.there
    | inr other ↦ adds.kept one (lists.waits one (joined_from (overview seat).view.grey at one other on))
  ]

  -- what is on the lists waits, or is black
  joined_was : (one : ℕ) → IsOn now one
      → Contains (joined (overview seat).view.grey at) one ⊎ Contains (overview seat).view.mine one
  joined_was one on = elim (adds.either one on) [
    | inl was ↦ elim (lists.was one was) [
      | inl waits ↦ inl (joined_keeps (overview seat).view.grey at one waits)
      | inr mine ↦ inr mine
    ]
    | inr is ↦ inl (subst (Contains (joined (overview seat).view.grey at)) (sym is)
        (joined_in (overview seat).view.grey at))
  ]

  -- it is born
  added_born : Contains (overview seat).view.born at → (one : ℕ) → IsOn now one
      → Contains (overview seat).view.born one
  added_born born one on = elim (adds.either one on) [
    | inl was ↦ lists.born one was
    | inr is ↦ subst (Contains (overview seat).view.born) (sym is) born
  ]

  -- a cell that was found white is listed
  pub white_listed : (found : ℕ) → IsFound seat at found → found ≡ white → Contains (overview seat).view.born at
      → ListsGrey (stepped seat (event.ShadeMain at) found) now
  white_listed found home is born =
      let same = sym (joined_white (overview seat).view.grey at found is) in
      record {
        room = same_room before now at _ adds lists.room;
        waits = subst (λ (grey : List ℕ). (one : ℕ) → Contains grey one → IsOn now one) same joined_waits;
        was = subst (λ (grey : List ℕ). (one : ℕ) → IsOn now one
            → Contains grey one ⊎ Contains (overview seat).view.mine one) same joined_was;
        born = added_born born;
        passed = black_still seat (stepped seat (event.ShadeMain at) found) before now seat.table
            (sure_of (cycle_in seat) at) (shade_steps seat at found home).moves adds.over lists.passed;
      }

  -- and one that was taken from the board
  pub taken_paid : (place found : ℕ) → reference_in found ≡ Some at → (overview seat).view.owed ≡ []
      → Contains (overview seat).view.born at → IsPaid (stepped seat (event.TakeMain place) found) now
  taken_paid place found is owed born = record {
    lists = record {
      room = same_room before now at _ adds lists.room;
      waits = subst (λ (to : Option ℕ). (one : ℕ) → Contains (joined_by (overview seat).view.grey to) one
          → IsOn now one) (sym is) joined_waits;
      was = subst (λ (to : Option ℕ). (one : ℕ) → IsOn now one
          → Contains (joined_by (overview seat).view.grey to) one ⊎ Contains (overview seat).view.mine one) (sym is)
          joined_was;
      born = added_born born;
      passed = λ one on. lists.passed one (adds.over one on);
    };
    owed = owed;
  }

-- where no cell was on the board the lists stay
pub none_taken : (seat : Seat) (grey : Waiting) (place found : ℕ) → reference_in found ≡ None → IsPaid seat grey
    → IsPaid (stepped seat (event.TakeMain place) found) grey
none_taken seat grey place found none paid = record {
  lists = record {
    room = paid.lists.room;
    waits = subst (λ (to : Option ℕ). (one : ℕ) → Contains (joined_by (overview seat).view.grey to) one
        → IsOn grey one) (sym none) paid.lists.waits;
    was = subst (λ (to : Option ℕ). (one : ℕ) → IsOn grey one
        → Contains (joined_by (overview seat).view.grey to) one ⊎ Contains (overview seat).view.mine one) (sym none)
        paid.lists.was;
    born = paid.lists.born;
    passed = paid.lists.passed;
  };
  owed = paid.owed;
}

-- one that was found grey or black is not listed
pub other_listed : (seat : Seat) (grey : Waiting) (at found : ℕ) → ListsGrey seat grey → IsFound seat at found
    → found ≢ white → ListsGrey (stepped seat (event.ShadeMain at) found) grey
other_listed seat grey at found lists home other =
    let same = sym (joined_other (overview seat).view.grey at found other) in
    record {
      room = lists.room;
      waits = subst (λ (list : List ℕ). (one : ℕ) → Contains list one → IsOn grey one) same lists.waits;
      was = subst (λ (list : List ℕ). (one : ℕ) → IsOn grey one
          → Contains list one ⊎ Contains (overview seat).view.mine one) same lists.was;
      born = lists.born;
      passed = black_still seat (stepped seat (event.ShadeMain at) found) grey grey seat.table
          (sure_of (cycle_in seat) at) (shade_steps seat at found home).moves (λ one on. on) lists.passed;
    }

-- the lists stay where a cell is published
pub publish_paid : (seat : Seat) (grey : Waiting) (at : ℕ) (colour : Colour) → IsFound seat at (number_of colour)
    → IsPaid seat grey → IsPaid (stepped seat (event.NewBlack at) black) grey
publish_paid seat grey at colour found paid = record {
  lists = record {
    room = paid.lists.room;
    waits = paid.lists.waits;
    was = λ one on. elim (paid.lists.was one on) [
      | inl waits ↦ inl waits
      | inr mine ↦ inr (joined_keeps (overview seat).view.mine at one mine)
    ];
    born = λ one on. joined_keeps (overview seat).view.born at one (paid.lists.born one on);
    passed = black_still seat (stepped seat (event.NewBlack at) black) grey grey seat.table
        (published (cycle_in seat) at) (publish_steps seat at colour found).moves (λ one on. on) paid.lists.passed;
  };
  owed = paid.owed;
}

-- and where a word is stored
pub store_lists : (seat : Seat) (grey : Waiting) (at word : ℕ) → ListsGrey seat grey
    → ListsGrey (stored seat (event.StoreSlot at word) at word) grey
store_lists seat grey at word lists =
    record {
      room = lists.room;
      waits = lists.waits;
      was = lists.was;
      born = lists.born;
      passed = lists.passed;
    }

-- a cell that was given to the board, and is on neither list, waits no more
pub given_paid : (seat : Seat) (grey : Waiting) (place at found : ℕ) → found ≡ 0 → ListsAllBut seat grey at
    → (IsOn grey at → ⊥) → (overview seat).view.owed ≡ []
    → IsPaid (stepped seat (event.GiveMain place at) found) grey
given_paid seat grey place at found none lists off owed =
    let was : (one : ℕ) → IsOn grey one
    → Contains (left (overview seat).view.grey at) one ⊎ Contains (overview seat).view.mine one =
    λ one on. elim (lists.was one on) [
      | inl waits ↦ inl (left_keeps (overview seat).view.grey at one (λ is. off (subst (IsOn grey) is on)) waits)
      | inr mine ↦ inr mine
    ] in
    record {
      lists = record {
        room = lists.room;
        waits = subst (λ (word : ℕ). (one : ℕ) → Contains (giver_left (overview seat).view.grey word at) one
            → IsOn grey one) (sym none) lists.waits;
        was = subst (λ (word : ℕ). (one : ℕ) → IsOn grey one
            → Contains (giver_left (overview seat).view.grey word at) one ⊎ Contains (overview seat).view.mine one)
            (sym none) was;
        born = lists.born;
        passed = lists.passed;
      };
      owed = owed;
    }

-- one that was not given is listed again
pub kept_paid : (seat : Seat) (grey now : Waiting) (place at found : ℕ) → found ≢ 0 → ListsAllBut seat grey at
    → (overview seat).view.owed ≡ [] → Contains (overview seat).view.grey at → Contains (overview seat).view.born at
    → Adds grey now at → IsPaid (stepped seat (event.GiveMain place at) found) now
kept_paid seat grey now place at found other lists owed waits born adds =
    let same = sym (lost_give (overview seat).view.grey found at other).1 in
    let still : (one : ℕ) → Contains (overview seat).view.grey one → IsOn now one =
    λ one on. elim (cases_eq one at) [
      | inl is ↦ subst (IsOn now) (sym is) adds.there
      | inr apart ↦ adds.kept one (lists.waits one (left_keeps (overview seat).view.grey at one apart on))
    ] in
    let was : (one : ℕ) → IsOn now one
    → Contains (overview seat).view.grey one ⊎ Contains (overview seat).view.mine one =
    λ one on. elim (adds.either one on) [
      | inl before ↦ lists.was one before
      | inr is ↦ inl (subst (Contains (overview seat).view.grey) (sym is) waits)
    ] in
    record {
      lists = record {
        room = same_room grey now at _ adds lists.room;
        waits = subst (λ (list : List ℕ). (one : ℕ) → Contains list one → IsOn now one) same still;
        was = subst (λ (list : List ℕ). (one : ℕ) → IsOn now one
            → Contains list one ⊎ Contains (overview seat).view.mine one) same was;
        born = λ one on. elim (adds.either one on) [
          | inl before ↦ lists.born one before
          | inr is ↦ subst (Contains (overview seat).view.born) (sym is) born
        ];
        passed = λ one on. lists.passed one (adds.over one on);
      };
      owed = owed;
    }

-- where all are on the lists, all but one are
pub all_but : (seat : Seat) (grey : Waiting) (at : ℕ) → ListsGrey seat grey → ListsAllBut seat grey at
all_but seat grey at lists = record {
  room = lists.room;
  waits = λ one waits. lists.waits one (left_from (overview seat).view.grey at one waits);
  was = lists.was;
  born = lists.born;
  passed = lists.passed;
}

-- where one was taken off the lists, all others that wait are on them
pub others_on : (seat : Seat) (grey rest : Waiting) (at : ℕ) → ListsGrey seat grey → HasRoom rest grey.list.bound
    → ((one : ℕ) → IsOn grey one → one ≢ at → IsOn rest one) → ((one : ℕ) → IsOn rest one → IsOn grey one)
    → PassedAreBlack seat rest → ListsAllBut seat rest at
others_on seat grey rest at lists room others more black = record {
  room = record { list = room.list ∙ lists.room.list; passed = room.passed ∙ lists.room.list };
  waits = λ one waits. elim (cases_eq one at) [
    | inl is ↦ absurd (left_out (overview seat).view.grey at
        (subst (Contains (left (overview seat).view.grey at)) is waits))
    | inr apart ↦ others one (lists.waits one (left_from (overview seat).view.grey at one waits)) apart
  ];
  was = λ one on. lists.was one (more one on);
  born = λ one on. lists.born one (more one on);
  passed = black;
}
