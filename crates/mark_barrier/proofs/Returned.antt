-- What a seat and its list come to once a seat was taken back.
use Rattle.std.proofs.Common.{◌≡◌, ◌↔◌, ◌⊎◌, ◌<◌, inl, inr, ℕ, List, [], Contains, Option, None, sym, ap, subst}
use Rattle.std.proofs.Common.{◌∙◌, arith}
use Rattle.std.specs.Prelude.{option_map}
use Rattle.std.proofs.lemmas.Bool.{cases_lt}
use Rattle.std.proofs.lemmas.List.Elements.{All-contains}
use Rattle.page_space.specs.Extents.{Space, eden_start}
use Rattle.cell_list.specs.Listing.{HasJoined, Listing}
use Rattle.core_parts.specs.Boards.{joined_by}
use Rattle.mark_laws.specs.Types.{HelperView, MainView}
use Rattle.mark_laws.proofs.Drained.{in_none}
use Rattle.mark_laws.proofs.Joins.{all_from, all_keep, all_there}
use Rattle.mark_laws.proofs.Listing.{all_join}
use Rattle.mark_world.specs.declared.snap.Snap.{Snap}
use Rattle.mark_world.specs.Soundness.{AreIn}
use Rattle.mark_world.specs.Steps.{all_joined, taken_back}
use Rattle.shared_table.specs.Changes.{home_with, taking}
use Rattle.heap_table.specs.Overviews.{knowing, overview}
use Rattle.heap_table.specs.Seats.{Seat}
use Rattle.mark_barrier.specs.Paid.{IsPaid}
use Rattle.mark_barrier.specs.Waiting.{IsOn, Waiting}

-- the seat and its view once a seat was taken back, whether it was the last one
pub record IsBack (old new : Seat) (view : HelperView) : Type 0 where
  pub space : new.space ≡ old.space
  pub view_is : (overview new).view ≡ taken_back (overview old).view view

-- it is so in both cases
pub comes_back : (old new : Seat) (view : HelperView) → 0 < (overview old).out
    → (1 < (overview old).out → new ≡ knowing old old.table (taking (overview old) view))
    → ((overview old).out ≡ 1 → (colours : List ℕ) × (board : List ℕ)
    × (new ≡ knowing old old.table (home_with (taking (overview old) view) colours board)))
    → IsBack old new view
comes_back old new view some taken last = elim (cases_lt 1 (overview old).out) [
  | inl more ↦ let is = taken more in
      record { space = ap (λ (s : Seat). s.space) is; view_is = ap (λ (s : Seat). (overview s).view) is }
  | inr few ↦ let is = (last (omega (arith, some, few))).2 in
      record { space = ap (λ (s : Seat). s.space) is; view_is = ap (λ (s : Seat). (overview s).view) is }
]

-- what has joined a list was there, or joined it
from_either : (list others : List ℕ) (at : ℕ) → Contains (all_joined list others) at
    → Contains list at ⊎ Contains others at
from_either list others at on =
    All-contains (λ one. Contains list one ⊎ Contains others one) (all_joined list others) at
    (all_join (λ one. Contains list one ⊎ Contains others one) list others
    (all_from (λ one. Contains list one ⊎ Contains others one) list (λ one has. inl has))
    (all_from (λ one. Contains list one ⊎ Contains others one) others (λ one has. inr has))) on

-- the cells that wait then, where the helper read none
waiting_is : (main : MainView) (view : HelperView) → view.snap ≡ None
    → (taken_back main view).grey ≡ all_joined main.grey view.grey
waiting_is main view none =
    ap (λ (snap : Option Snap). joined_by (all_joined main.grey view.grey) (option_map (λ (s : Snap). s.cell) snap))
    none

-- The cells that waited with the helper are listed, and so are those that were passed over. None is then.
pub record ListsAll (grey now : Waiting) (waiting : Listing) : Type 0 where
  pub list : now.list.bound ≡ grey.list.bound
  pub passed : now.passed.bound ≡ grey.passed.bound
  pub none : now.passed.addresses ≡ []
  pub either : (at : ℕ) → IsOn now at → IsOn grey at ⊎ Contains waiting.addresses at
  pub kept : (at : ℕ) → IsOn grey at → IsOn now at
  pub came : (at : ℕ) → Contains waiting.addresses at → IsOn now at

-- it is so where both have joined the list
pub lists_all : (list mid last passed cleared waiting : Listing) → HasJoined list mid waiting
    → HasJoined mid last passed → mid.bound ≡ list.bound → last.bound ≡ mid.bound → cleared ≡ record passed { addresses = [] }
    → ListsAll (record { list = list; passed = passed }) (record { list = last; passed = cleared }) waiting
lists_all list mid last passed cleared waiting first then bound more is = record {
  list = more ∙ bound;
  passed = ap (λ (l : Listing). l.bound) is;
  none = ap (λ (l : Listing). l.addresses) is;
  either = λ at on. elim on [
    | inl listed ↦ elim ((then at).0 listed) [
      | inl before ↦ elim ((first at).0 before) [ inl was ↦ inl (inl was) | inr came ↦ inr came ]
      | inr over ↦ inl (inr over)
    ]
    | inr over ↦ absurd (in_none cleared.addresses at (ap (λ (l : Listing). l.addresses) is) over)
  ];
  kept = λ at on. elim on [
    | inl listed ↦ inl ((then at).1 (inl ((first at).1 (inl listed))))
    | inr over ↦ inl ((then at).1 (inr over))
  ];
  came = λ at on. inl ((then at).1 (inl ((first at).1 (inr on))));
}

-- the lists have the cells that wait with the mutator then
pub back_paid : (old new : Seat) (grey now : Waiting) (waiting : Listing) (view : HelperView) → IsBack old new view
    → IsPaid old grey → view.snap ≡ None → view.visit ≡ []
    → ((at : ℕ) → Contains waiting.addresses at ↔ Contains view.grey at) → ListsAll grey now waiting
    → AreIn (overview new).view.born (overview new).view.grey → IsPaid new now
back_paid old new grey now waiting view back paid snap visit same all born =
    let before : List ℕ = (overview old).view.grey in
    let is : (overview new).view.grey ≡ all_joined before view.grey =
    ap (λ (v : MainView). v.grey) back.view_is ∙ waiting_is (overview old).view view snap in
    let here : (overview new).view.mine ≡ (overview old).view.mine = ap (λ (v : MainView). v.mine) back.view_is in
    let there : (overview new).view.born ≡ (overview old).view.born = ap (λ (v : MainView). v.born) back.view_is in
    let space : eden_start new.space ≡ eden_start old.space = ap (λ (s : Space). eden_start s) back.space in
    let came : (at : ℕ) → Contains view.grey at → Contains (all_joined before view.grey) at =
    λ at on. all_there before view.grey at on in
    let waits : (at : ℕ) → Contains (all_joined before view.grey) at → IsOn now at =
    λ at on. elim (from_either before view.grey at on) [
      | inl was ↦ all.kept at (paid.lists.waits at was)
      | inr with_it ↦ all.came at ((same at).1 with_it)
    ] in
    let was : (at : ℕ) → IsOn now at
    → Contains (all_joined before view.grey) at ⊎ Contains (overview old).view.mine at =
    λ at on. elim (all.either at on) [
      | inl before_on ↦ elim (paid.lists.was at before_on) [
        | inl waited ↦ inl (all_keep before view.grey at waited)
        | inr mine ↦ inr mine
      ]
      | inr with_it ↦ inl (came at ((same at).0 with_it))
    ] in
    record {
      lists = record {
        room = record {
          list = all.list ∙ paid.lists.room.list ∙ sym space;
          passed = all.passed ∙ paid.lists.room.passed ∙ sym space;
        };
        waits = subst (λ (list : List ℕ). (at : ℕ) → Contains list at → IsOn now at) (sym is) waits;
        was = subst (λ (list : List ℕ). (at : ℕ) → IsOn now at
            → Contains list at ⊎ Contains (overview new).view.mine at) (sym is)
            (subst (λ (list : List ℕ). (at : ℕ) → IsOn now at
            → Contains (all_joined before view.grey) at ⊎ Contains list at) (sym here) was);
        born = λ at on. elim (all.either at on) [
          | inl before_on ↦ subst (λ (list : List ℕ). Contains list at) (sym there) (paid.lists.born at before_on)
          | inr with_it ↦ All-contains (Contains (overview new).view.born) (overview new).view.grey at born
              (subst (λ (list : List ℕ). Contains list at) (sym is) (came at ((same at).0 with_it)))
        ];
        passed = λ at on. absurd (in_none now.passed.addresses at all.none on);
      };
      owed = ap (λ (v : MainView). v.owed) back.view_is
          ∙ ap (all_joined (overview old).view.owed) visit ∙ paid.owed;
    }
