-- Listed cells that are black are passed over, until one is found that is not.
use Rattle.std.proofs.Common.{◌≡◌, ◌≢◌, ◌↔◌, ◌<◌, inl, inr, ℕ, Bool, List, [], ◌∷◌, ◌++◌, Contains}
use Rattle.std.proofs.Common.{IsTrue, refl, sym, ap, subst, ◌∙◌, append_assoc, append-nil}
use Rattle.std.proofs.lemmas.Bool.{cases_eq}
use Rattle.std.proofs.lemmas.List.Elements.{All-contains}
use Rattle.tagged_word.proofs.Members.{in_cases}
use Rattle.page_space.specs.Extents.{eden_start}
use Rattle.cell_list.specs.Listing.{Listing, pushed}
use Rattle.mark_laws.proofs.Drained.{in_none}
use Rattle.mark_laws.proofs.Joins.{all_from}
use Rattle.mark_world.specs.Soundness.{AreIn}
use Rattle.heap_table.specs.Overviews.{overview}
use Rattle.heap_table.specs.Seats.{Seat}
use Rattle.mark_barrier.specs.Paid.{FindsLast, FindsNone, IsNotBlack, IsPaid, PassedAreBlack}
use Rattle.mark_barrier.specs.Waiting.{IsOn, Waiting}
use Rattle.mark_barrier.proofs.Listed.{others_on}
use Rattle.mark_barrier.proofs.Popped.{listed_before, still_listed, was_listed}

-- Cells that were listed last are passed over. What waits is on the lists.
pub record Passes (seat : Seat) (before now : Waiting) : Type 0 where
  pub behind : List ℕ
  pub listed : before.list.addresses ≡ now.list.addresses ++ behind
  pub passed : AreIn now.passed.addresses behind
  pub paid : IsPaid seat now

-- at first none is
pub passes_none : (seat : Seat) (grey : Waiting) → IsPaid seat grey → Passes seat grey grey
passes_none seat grey paid = record {
  behind = [];
  listed = sym (append-nil grey.list.addresses);
  passed = all_from (Contains grey.passed.addresses) [] (λ at on. absurd (in_none [] at refl on));
  paid = paid;
}

-- with none listed any more each is passed over
pub finds_none : (seat : Seat) (before mid : Waiting) → Passes seat before mid → mid.list.addresses ≡ []
    → FindsNone seat before mid
finds_none seat before mid passes none =
    let all : before.list.addresses ≡ passes.behind =
    passes.listed ∙ ap (λ (list : List ℕ). list ++ passes.behind) none in
    record {
      none = none;
      passed = subst (AreIn mid.passed.addresses) (sym all) passes.passed;
      paid = passes.paid;
    }

-- One cell was taken off the list, the last one, and was looked at.
pub record LooksAt (seat : Seat) (mid now : Waiting) (at : ℕ) (result : Bool) : Type 0 where
  pub last : mid.list ≡ pushed now.list at
  pub gone : Contains now.list.addresses at → ⊥
  pub list : now.list.bound ≡ mid.list.bound
  pub bound : now.passed.bound ≡ mid.passed.bound
  pub told : IsTrue result ↔ Contains now.passed.addresses at
  pub mine : Contains (overview seat).view.mine at → IsTrue result
  pub black : PassedAreBlack seat now
  pub not_black : ¬ IsTrue result → IsNotBlack seat at
  pub others : (one : ℕ) → one ≢ at
      → Contains now.passed.addresses one ↔ Contains mid.passed.addresses one
  pub kept : Contains mid.passed.addresses at → IsTrue result

-- it is so where it was popped, and then looked at
pub looks_at : (seat turn : Seat) (mid popped now : Waiting) (at : ℕ) (result : Bool) → turn ≡ seat
    → mid.list ≡ pushed popped.list at → (Contains popped.list.addresses at → ⊥)
    → popped.list.bound ≡ mid.list.bound → popped.passed ≡ mid.passed → now.list ≡ popped.list
    → now.passed.bound ≡ popped.passed.bound → (IsTrue result ↔ Contains now.passed.addresses at)
    → (Contains (overview turn).view.mine at → IsTrue result) → PassedAreBlack turn now
    → (¬ IsTrue result → IsNotBlack turn at)
    → ((one : ℕ) → one ≢ at → Contains now.passed.addresses one ↔ Contains popped.passed.addresses one)
    → (Contains popped.passed.addresses at → IsTrue result) → LooksAt seat mid now at result
looks_at seat turn mid popped now at result same last gone bound passed list room told mine black bright others kept =
    record {
      last = subst (λ (l : Listing). mid.list ≡ pushed l at) (sym list) last;
      gone = λ on. gone (subst (λ (l : Listing). Contains l.addresses at) list on);
      list = ap (λ (l : Listing). l.bound) list ∙ bound;
      bound = room ∙ ap (λ (l : Listing). l.bound) passed;
      told = told;
      mine = subst (λ (s : Seat). Contains (overview s).view.mine at → IsTrue result) same mine;
      black = subst (λ (s : Seat). PassedAreBlack s now) same black;
      not_black = subst (λ (s : Seat). ¬ IsTrue result → IsNotBlack s at) same bright;
      others = subst (λ (l : Listing). (one : ℕ) → one ≢ at
          → Contains now.passed.addresses one ↔ Contains l.addresses one) passed others;
      kept = subst (λ (l : Listing). Contains l.addresses at → IsTrue result) passed kept;
    }

module _ (seat : Seat) (before mid now : Waiting) (at : ℕ) (result : Bool) (passes : Passes seat before mid)
    (looks : LooksAt seat mid now at result) where
  -- what was passed over is so still
  passed_on : (one : ℕ) → Contains mid.passed.addresses one → Contains now.passed.addresses one
  passed_on one on = elim (cases_eq one at) [
    | inl is ↦ subst (Contains now.passed.addresses) (sym is)
        (looks.told.0 (looks.kept (subst (Contains mid.passed.addresses) is on)))
    | inr other ↦ (looks.others one other).1 on
  ]

  -- the list before is the list then, the cell, and those behind it
  listed_then : before.list.addresses ≡ now.list.addresses ++ at ∷ passes.behind
  listed_then =
      passes.listed ∙ ap (λ (l : Listing). l.addresses ++ passes.behind) looks.last
      ∙ append_assoc now.list.addresses (at ∷ []) passes.behind

  -- those behind it are passed over
  behind_on : AreIn now.passed.addresses passes.behind
  behind_on = all_from (Contains now.passed.addresses) passes.behind (λ one on.
      passed_on one (All-contains (Contains mid.passed.addresses) passes.behind one passes.passed on))

  -- what is on the lists was on them
  on_before : (one : ℕ) → IsOn now one → IsOn mid one
  on_before one on = elim on [
    | inl listed ↦ inl (listed_before mid.list now.list at looks.last one listed)
    | inr over ↦ elim (cases_eq one at) [
      | inl is ↦ inl (subst (Contains mid.list.addresses) (sym is) (was_listed mid.list now.list at looks.last))
      | inr other ↦ inr ((looks.others one other).0 over)
    ]
  ]

  -- and all others are on them still
  others_still : (one : ℕ) → IsOn mid one → one ≢ at → IsOn now one
  others_still one on other = elim on [
    | inl listed ↦ inl (still_listed mid.list now.list at looks.last one listed other)
    | inr over ↦ inr (passed_on one over)
  ]

  -- one that is passed over joins those behind
  pub passes_on : IsTrue result → Passes seat before now
  passes_on is = record {
    behind = at ∷ passes.behind;
    listed = listed_then;
    passed = all_from (Contains now.passed.addresses) (at ∷ passes.behind) (λ one on.
        elim (in_cases at passes.behind one on) [
          | inl same ↦ subst (Contains now.passed.addresses) same (looks.told.0 is)
          | inr later ↦ All-contains (Contains now.passed.addresses) passes.behind one behind_on later
        ]);
    paid = record {
      lists = record {
        room = record {
          list = looks.list ∙ passes.paid.lists.room.list;
          passed = looks.bound ∙ passes.paid.lists.room.passed;
        };
        waits = λ one waits. elim (cases_eq one at) [
          | inl same ↦ inr (subst (Contains now.passed.addresses) (sym same) (looks.told.0 is))
          | inr other ↦ others_still one (passes.paid.lists.waits one waits) other
        ];
        was = λ one on. passes.paid.lists.was one (on_before one on);
        born = λ one on. passes.paid.lists.born one (on_before one on);
        passed = looks.black;
      };
      owed = passes.paid.owed;
    };
  }

  -- another one waits
  pub finds_last : (IsTrue result → ⊥) → at < eden_start seat.space → FindsLast seat before now at
  finds_last other below = record {
    behind = passes.behind;
    listed = listed_then;
    passed = behind_on;
    not_black = looks.not_black other;
    waits = elim (passes.paid.lists.was at (inl (was_listed mid.list now.list at looks.last))) [
      | inl waits ↦ waits
      | inr mine ↦ absurd (other (looks.mine mine))
    ];
    born = passes.paid.lists.born at (inl (was_listed mid.list now.list at looks.last));
    below = below;
    off = λ on. elim on [ inl listed ↦ looks.gone listed | inr over ↦ other (looks.told.1 over) ];
    lists = others_on seat mid now at passes.paid.lists (record {
      list = looks.list;
      passed = looks.bound ∙ passes.paid.lists.room.passed ∙ sym passes.paid.lists.room.list;
    }) others_still on_before looks.black;
    owed = passes.paid.owed;
  }
