-- The list keeps pace with the seat.
use Rattle.std.proofs.Common.{◌≡◌, ◌≢◌, ℕ, Contains, inl, inr, refl, sym, ap, subst}
use Rattle.mark_world.specs.Steps.{white}
use Rattle.shared_table.specs.declared.colour.Colour.TheVariants.{White}
use Rattle.shared_table.specs.Colours.{number_of}
use Rattle.shared_table.specs.Seats.{Helping}
use Rattle.shared_table.proofs.ColourNumbers.{not_white_number}
use Rattle.marker.specs.Shading.{HasListed, Shades}
use Rattle.marker.proofs.ShadeOne.{other_listed, shaded_out, shades_one, white_listed}
use Rattle.marker.proofs.shading.shade_cell.Goals as goal

pub returns-in-White-clause-listed : goal.returns-in-White-clause-listed
returns-in-White-clause-listed c =
    let before : Helping = c.args.seat.now in
    let found : ℕ = number_of c.shade.result in
    let is_white : c.shade.result ≡ White = c.in-White.is in
    let visit : Contains before.lent.view.visit c.args.at = elim c.requires.may [
      | inl visits ↦ visits
      | inr seen ↦ absurd (c.shade.ensures.seen seen is_white)
    ] in
    subst (λ (h : Helping). HasListed c.add.new.self h.lent) (sym c.shade.ensures.shaded)
    (white_listed before c.args.at found c.args.list.now c.add.new.self c.requires.listed
    c.add.ensures.bound
    c.add.ensures.members (ap number_of is_white) visit)

pub returns-in-White-clause-shades : goal.returns-in-White-clause-shades
returns-in-White-clause-shades c =
    subst (λ (h : Helping). Shades c.args.seat.now h) (sym c.shade.ensures.shaded)
    (shades_one c.args.seat.now c.args.at (number_of c.shade.result))

pub returns-in-White-clause-shaded : goal.returns-in-White-clause-shaded
returns-in-White-clause-shaded c =
    subst (λ (h : Helping). Contains h.lent.view.visit c.args.at → ⊥) (sym c.shade.ensures.shaded)
    (shaded_out c.args.seat.now c.args.at (number_of c.shade.result))

pub returns-in_default : goal.returns-in_default
returns-in_default c =
    let before : Helping = c.args.seat.now in
    let found : ℕ = number_of c.shade.result in
    let other : found ≢ white = not_white_number c.shade.result c.in_default.not-White in
    record {
      listed = subst (λ (h : Helping). HasListed c.args.list.now h.lent) (sym c.shade.ensures.shaded)
          (other_listed before c.args.at found c.args.list.now c.requires.listed other);
      bound = refl;
      shades = subst (λ (h : Helping). Shades before h) (sym c.shade.ensures.shaded) (shades_one before c.args.at
          found);
      shaded = subst (λ (h : Helping). Contains h.lent.view.visit c.args.at → ⊥) (sym c.shade.ensures.shaded)
          (shaded_out before c.args.at found);
    }
