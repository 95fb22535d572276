-- The slot for the prototype of a plain object is read.
use Rattle.std.proofs.Common.{◌≡◌, ◌≢◌, rules}
use Rattle.heap_model.specs.Slots.{undefined_word}
use Rattle.object_cells.proofs.ProtosRead.{proto_read, proto_within}
use Rattle.shape_change.proofs.ProtosFound.{finds_none, refers_to_proto, finds_one}
use Rattle.shape_change.proofs.prototypes.prototype.Goals as goal

pub slot-requires : goal.slot-requires
slot-requires c = proto_within c.requires.shown.shows c.requires.shown.is

pub known_address-requires : goal.known_address-requires
known_address-requires c =
    let apart : c.slot.result ≢ undefined_word = search rules in
    let shown = c.requires.shown in
    refers_to_proto (proto_read shown.shows shown.is c.slot.result c.slot.ensures.of_heap) shown.shows
    c.addresses_fit.ensures.within apart

pub returns-then-word-odd : goal.returns-then-word-odd
returns-then-word-odd c graph plain shows is =
    let same : c.slot.result ≡ undefined_word = search rules in
    finds_none (proto_read shows is c.slot.result c.slot.ensures.of_heap) same

pub returns-else-word-odd : goal.returns-else-word-odd
returns-else-word-odd c graph plain shows is =
    finds_one (proto_read shows is c.slot.result c.slot.ensures.of_heap) shows c.addresses_fit.ensures.within
    c.known_address.result c.known_address.ensures
