-- A slot comes to hold a word that needs no box.
use Rattle.std.proofs.Common.{refl, sym, subst}
use Rattle.object_cells.specs.declared.content.SlotContent.{SlotContent}
use Rattle.object_cells.specs.Contents.{FillsSlot}
use Rattle.shape_change.specs.Fillings.{MayComeToHold}
use Rattle.shape_change.specs.Places.{place_at}
use Rattle.shape_change.proofs.WordsPut.{tagged_fills, raw_fills}
use Rattle.shape_change.proofs.set_slot.set_as_is.Goals as goal

pub fill-requires-clause-may : goal.fill-requires-clause-may
fill-requires-clause-may c =
    let at = place_at c.args.object c.args.place in
    subst (λ (holds : SlotContent). MayComeToHold c.args.main.now at holds) c.in-Tagged.is c.requires.may
    c.args.main.now refl

pub fill-requires-in-Raw-clause-may : goal.fill-requires-in-Raw-clause-may
fill-requires-in-Raw-clause-may c =
    let at = place_at c.args.object c.args.place in
    subst (λ (holds : SlotContent). MayComeToHold c.args.main.now at holds) c.in-Raw.is c.requires.may
    c.args.main.now refl

pub returns-in-Tagged-clause-fills : goal.returns-in-Tagged-clause-fills
returns-in-Tagged-clause-fills c =
    let at = place_at c.args.object c.args.place in
    subst (λ (holds : SlotContent). FillsSlot c.args.main.now c.fill.new.main at holds) (sym c.in-Tagged.is)
    (tagged_fills c.args.main.now c.fill.new.main at c.in-Tagged.word c.requires.within c.fill.ensures)

pub returns-in-Raw-clause-fills : goal.returns-in-Raw-clause-fills
returns-in-Raw-clause-fills c =
    let at = place_at c.args.object c.args.place in
    subst (λ (holds : SlotContent). FillsSlot c.args.main.now c.fill-in-Raw.new.main at holds) (sym c.in-Raw.is)
    (raw_fills c.args.main.now c.fill-in-Raw.new.main at c.in-Raw.word c.requires.within c.fill-in-Raw.ensures)
