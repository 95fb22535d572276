-- The snap names what the slots are.
use Rattle.std.proofs.Common.{◌≡◌, ◌∙◌, Option, None, refl, sym, ap, subst, rules}
use Rattle.std.specs.Option.{option_map}
use Rattle.mark_laws.specs.Types.{Snap}
use Rattle.mark_world.specs.Steps.{snap_begun, with_layout}
use Rattle.shared_table.specs.Seats.{Helping}
use Rattle.slot_snapshot.specs.declared.naming.Slots.{Slots}
use Rattle.slot_snapshot.specs.Loads.{header_read, IsLoaded}
use Rattle.slot_snapshot.proofs.SnapNames.{reads_on, unshaped}
use Rattle.slot_snapshot.proofs.naming.load_slots.Goals as goal

pub returns-in_err-shape : goal.returns-in_err-shape
returns-in_err-shape c =
    let snap : Snap = snap_begun c.args.cell c.args.header in
    let result : c.from_residual.result ≡ None = search rules in
    subst (λ (o : Option Slots). IsLoaded c.args.seat.now c.args.seat.now c.args.cell o) (sym result)
    (record {
      snap = snap;
      after_is = reads_on c.args.seat.now snap c.requires.begun;
      of = refl;
      header_is = sym (ap header_read c.requires.begun);
      none_read = refl;
      names = unshaped c.args.cell c.args.header (sym c.shape_of.ensures ∙ c.in_err-shape.was);
      slots = tt;
    })

pub load_long-requires-clause-laid : goal.load_long-requires-clause-laid
load_long-requires-clause-laid c =
    let word = c.load_layout-word.result in
    let snap : Snap = with_layout word (snap_begun c.args.cell c.args.header) in
    record {
      snap = snap;
      has = ap (λ (h : Helping). h.lent.view.snap) c.load_layout-word.ensures
          ∙ ap (option_map (with_layout word)) c.requires.begun;
      of = refl;
      shape = c.in_ok-shape.shape;
      is_shape = sym c.shape_of.ensures ∙ c.in_ok-shape.was;
      word = word;
      read = refl;
      is_layout = sym c.parse.ensures.value ∙ c.in_ok-layout.was;
      long = search rules;
      unread = refl;
      none_read = refl;
    }
