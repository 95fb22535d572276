-- Where an in-object slot stands.
use Rattle.std.proofs.Common.{arith, refl}
use Rattle.object_cells.proofs.CellsRead.{fits_address}
use Rattle.shape_change.proofs.PlacesBelow.{one_cap, own_within, own_stands}
use Rattle.shape_change.proofs.slots.own_place.Goals as goal

pub overflow_add-result : goal.overflow_add-result
overflow_add-result c =
    let (cap, caps, there, below) = c.requires.there in
    let within = own_within c.args.slot cap c.requires.whole.sized caps there below in
    let fits = fits_address within c.addresses_fit.ensures.within in
    omega (arith, fits)

pub returns-clause-stands : goal.returns-clause-stands
returns-clause-stands c =
    let (cap, caps, there, below) = c.requires.there in
    own_stands c.args.slot cap caps there below

pub returns-clause-place : goal.returns-clause-place
returns-clause-place c cap caps =
    let (first, first_caps, there, below) = c.requires.there in
    let same = one_cap cap first there caps first_caps in
    (omega (arith, same, below), refl)

pub returns-clause-within : goal.returns-clause-within
returns-clause-within c =
    let (cap, caps, there, below) = c.requires.there in
    own_within c.args.slot cap c.requires.whole.sized caps there below
