-- What a gift to the board leaves to a seat and its list.
use Rattle.std.proofs.Common.{◌≡◌, ◌≢◌, ◌↔◌, ◌⊎◌, inl, inr, ℕ, List, Contains}
use Rattle.std.proofs.Common.{sym, ap, subst, ◌∙◌, arith}
use Rattle.std.proofs.lemmas.Bool.{cases_eq}
use Rattle.cell_list.specs.Listing.{Listing}
use Rattle.core_parts.proofs.Handing.{lost_give}
use Rattle.core_parts.proofs.Leaving.{left_from, left_keeps}
use Rattle.mark_world.specs.declared.event.Event.TheVariants as event
use Rattle.shared_table.specs.HelperTold.{learned}
use Rattle.shared_table.specs.Seats.{Helping}
use Rattle.marker.specs.Resting.{Rests}
use Rattle.marker.specs.Shading.{HasListedOthers, IsAtRest}

-- a cell that was given waits with the giver no more
pub given_rests : (before after : Helping) (place at : ℕ) (listing : Listing)
    → after ≡ record before { lent = learned before.lent (event.Give 0 place at) 0 } → IsAtRest before.lent
    → HasListedOthers listing before.lent at → Rests listing after.lent
given_rests before after place at listing gave rest others =
    subst (λ (h : Helping). Rests listing h.lent) (sym gave)
    (record {
      listed = record { room = others.room; members = others.members };
      rest = record { snap = rest.snap; visit = rest.visit };
    })

-- one that was not comes back to the list
pub kept_back : (before after : Helping) (place at found : ℕ) (listing now : Listing)
    → after ≡ record before { lent = learned before.lent (event.Give 0 place at) found } → found ≢ 0
    → IsAtRest before.lent → Contains before.lent.view.grey at → HasListedOthers listing before.lent at
    → now.bound ≡ listing.bound
    → ((one : ℕ) → Contains now.addresses one ↔ (Contains listing.addresses one ⊎ (one ≡ at))) → Rests now after.lent
kept_back before after place at found listing now gave other rest waits others bound members =
    let grey : List ℕ = before.lent.view.grey in
    let stays : after.lent.view.grey ≡ grey =
    ap (λ (h : Helping). h.lent.view.grey) gave ∙ (lost_give grey found at other).1 in
    record {
      listed = record {
        room = omega (arith, others.room, bound, ap (λ (h : Helping). h.lent.counts.old) gave);
        members = λ one. subst (λ (all : List ℕ). Contains now.addresses one ↔ Contains all one) (sym stays) (
          (λ on. elim ((members one).0 on) [
            | inl was ↦ left_from grey at one ((others.members one).0 was)
            | inr new ↦ subst (Contains grey) (sym new) waits
          ]),
          (λ has. (members one).1 (elim (cases_eq one at) [
            | inl new ↦ inr new
            | inr apart ↦ inl ((others.members one).1 (left_keeps grey at one apart has))
          ])),
        );
      };
      rest = record {
        snap = ap (λ (h : Helping). h.lent.view.snap) gave ∙ rest.snap;
        visit = ap (λ (h : Helping). h.lent.view.visit) gave ∙ rest.visit;
      };
    }
