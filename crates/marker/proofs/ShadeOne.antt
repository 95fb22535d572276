-- What a seat and its list come to when one cell is shaded.
use Rattle.std.proofs.Common.{◌≡◌, ◌≢◌, ◌⊎◌, ◌↔◌, inl, inr, ℕ, Bool, true, false, List, [], ◌∷◌, ◌++◌, Contains}
use Rattle.std.proofs.Common.{IsTrue, append-nil, eq-eqb, refl, sym, ap, subst, arith, if◌then◌else◌}
use Rattle.std.proofs.lemmas.Bool.{cases_eq}
use Rattle.std.proofs.lemmas.List.Elements.{Contains-append_cases, Contains-append_left, Contains-append_right}
use Rattle.tagged_word.proofs.Members.{first_in, one_in}
use Rattle.cell_list.specs.Listing.{Listing, pushed}
use Rattle.core_parts.specs.declared.note.Note.{Note}
use Rattle.core_parts.specs.declared.note.Note.TheVariants.{Coloured}
use Rattle.core_parts.specs.Lists.{is_in, joined}
use Rattle.core_parts.proofs.Joining.{decided, in_found, joined_from, joined_in, joined_keeps, out_not_found}
use Rattle.core_parts.proofs.Leaving.{left_from, left_keeps, left_out}
use Rattle.core_parts.proofs.Tested.{not_equal}
use Rattle.mark_laws.specs.Types.{HelperView}
use Rattle.mark_laws.proofs.Joins.{joined_other, joined_white}
use Rattle.mark_world.specs.declared.event.Event.TheVariants as event
use Rattle.mark_world.specs.Steps.{helper_learns, joined_if_white, white}
use Rattle.shared_table.specs.declared.colour.Colour.{Colour}
use Rattle.shared_table.specs.declared.colour.Colour.TheVariants.{White, Grey, Black}
use Rattle.shared_table.specs.Colours.{number_of}
use Rattle.shared_table.specs.HelperTold.{shaded, shaded_view}
use Rattle.shared_table.specs.Seats.{Helping}
use Rattle.marker.specs.Turns.{AddsNoTurn}
use Rattle.marker.specs.Shading.{HasListed, Shades}

-- the view after a shade, by whether the cell was to be visited
view_by : (old : ℕ) (view : HelperView) (at found : ℕ) (P : HelperView → Type 0) (b : Bool) → is_in view.visit at ≡ b
    → (is_in view.visit at ≡ true → P (helper_learns old view (event.ShadeHelper 0 at) found))
    → (is_in view.visit at ≡ false → P view)
    → P (if b then helper_learns old view (event.ShadeHelper 0 at) found else view)
view_by old view at found P true e visits passes = visits e
view_by old view at found P false e visits passes = passes e

-- what holds in both cases holds of the view after a shade
view_cases : (old : ℕ) (view : HelperView) (at found : ℕ) (P : HelperView → Type 0)
    → (is_in view.visit at ≡ true → P (helper_learns old view (event.ShadeHelper 0 at) found))
    → (is_in view.visit at ≡ false → P view) → P (shaded_view old view at found)
view_cases old view at found P visits passes =
    view_by old view at found P (is_in view.visit at) refl visits passes

-- a log with no new note
pub no_turn : (log : List Note) → AddsNoTurn log log
no_turn log = record { notes = []; is = sym (append-nil log); none_made = refl }

-- and with one of a colour
coloured : (log : List Note) (at found : ℕ) → AddsNoTurn log (log ++ Coloured at found ∷ [])
coloured log at found = record {
  notes = Coloured at found ∷ [];
  is = refl;
  none_made = refl;
}

module _ (before : Helping) (at found : ℕ) where
  abbrev old : ℕ
  old = before.lent.counts.old

  abbrev view : HelperView
  view = before.lent.view

  -- a cell that may be shaded still may be, or has been
  may_visit : (one : ℕ) → Contains view.visit one
      → Contains (shaded_view old view at found).visit one ⊎ Contains (joined before.lent.seen at) one
  may_visit one has = elim (cases_eq one at) [
    | inl is ↦ inr (subst (λ (a : ℕ). Contains (joined before.lent.seen at) a) (sym is) (joined_in before.lent.seen at))
    | inr other ↦ inl (view_cases old view at found (λ (v : HelperView). Contains v.visit one)
        (λ e. left_keeps view.visit at one other has) (λ e. has))
  ]

  -- one cell is shaded
  pub shades_one : Shades before (record before { lent = shaded before.lent at found })
  shades_one = record {
    table = refl;
    counts = refl;
    snap = view_cases old view at found (λ (v : HelperView). v.snap ≡ view.snap) (λ e. refl) (λ e. refl);
    log = view_cases old view at found (λ (v : HelperView). AddsNoTurn view.log v.log) (λ e. coloured view.log at found)
        (λ e. no_turn view.log);
    fewer = λ one. view_cases old view at found (λ (v : HelperView). Contains v.visit one → Contains view.visit one)
        (λ e has. left_from view.visit at one has) (λ e has. has);
    may = λ one may. elim may [
      | inl visit ↦ may_visit one visit
      | inr seen ↦ inr (joined_keeps before.lent.seen at one seen)
    ];
  }

  -- it is to be visited no more
  pub shaded_out : Contains (shaded before.lent at found).view.visit at → ⊥
  shaded_out =
      view_cases old view at found (λ (v : HelperView). Contains v.visit at → ⊥) (λ e has. left_out view.visit at has)
      (λ e has. out_not_found view.visit at e has)

  -- where it was white it waits, and is on the list
  pub white_listed : (listing now : Listing) → HasListed listing before.lent → now.bound ≡ listing.bound
      → ((one : ℕ) → Contains now.addresses one ↔ (Contains listing.addresses one ⊎ (one ≡ at)))
      → found ≡ white → Contains view.visit at → HasListed now (shaded before.lent at found)
  white_listed listing now has bound members is visit = record {
    room = omega (arith, has.room, bound);
    members = λ one. view_cases old view at found (λ (v : HelperView). Contains now.addresses one ↔ Contains v.grey one)
        (λ e. subst (λ (grey : List ℕ). Contains now.addresses one ↔ Contains grey one)
        (sym (joined_white view.grey at found is)) (
          (λ on. elim ((members one).0 on) [
            | inl was ↦ joined_keeps view.grey at one ((has.members one).0 was)
            | inr new ↦ subst (λ (a : ℕ). Contains (joined view.grey at) a) (sym new) (joined_in view.grey at)
          ]),
          (λ grey. (members one).1 (elim (cases_eq one at) [
            | inl new ↦ inr new
            | inr other ↦ inl ((has.members one).1 (joined_from view.grey at one other grey))
          ])),
        ))
        (λ e. absurd (out_not_found view.visit at e visit));
  }

  -- and else both stay
  pub other_listed : (listing : Listing) → HasListed listing before.lent → found ≢ white
      → HasListed listing (shaded before.lent at found)
  other_listed listing has other = record {
    room = has.room;
    members = λ one. view_cases old view at found (λ (v : HelperView). Contains listing.addresses one ↔ Contains v.grey
        one)
        (λ e. subst (λ (grey : List ℕ). Contains listing.addresses one ↔ Contains grey one)
        (sym (joined_other view.grey at found other)) (has.members one))
        (λ e. has.members one);
  }
