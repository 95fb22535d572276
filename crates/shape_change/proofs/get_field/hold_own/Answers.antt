-- A variable holds a field of the object itself by the slot that is cached.
use Rattle.std.proofs.Common.{refl, arith}
use Rattle.write_barrier.proofs.Headers.{has_header}
use Rattle.object_cells.proofs.PlainFields.{plain_shown}
use Rattle.shape_change.proofs.HeldByName.{held_found}
use Rattle.shape_change.proofs.ShownFields.{name_is_new, shown_shape}
use Rattle.shape_change.proofs.WordFields.{own_there, own_word, stored_there, stored_word}
use Rattle.shape_change.proofs.get_field.hold_own.Goals as goal

pub header-header-requires : goal.header-header-requires
header-header-requires c =
    let shown = plain_shown c.requires.plain.shows c.requires.plain.is in
    has_header shown.has shown.stands

pub own_place-place-requires-clause-whole : goal.own_place-place-requires-clause-whole
own_place-place-requires-clause-whole c = c.requires.plain.shows.shows.whole

pub own_place-place-requires-clause-there : goal.own_place-place-requires-clause-there
own_place-place-requires-clause-there c =
    let (found, field, same, at, below) = c.in-InObject.ensures in
    own_there c.requires.plain.shows c.requires.plain.is c.header-header.ensures.of_cell field c.in-InObject.slot at
    below

pub hold_word_at-requires-clause-whole : goal.hold_word_at-requires-clause-whole
hold_word_at-requires-clause-whole c = c.requires.plain.shows.shows.whole

pub hold_word_at-requires-clause-stands : goal.hold_word_at-requires-clause-stands
hold_word_at-requires-clause-stands c =
    let (found, field, same, at, below) = c.in-InObject.ensures in
    let place = c.own_place-place.ensures in (
      found,
      own_word c.requires.plain.shows c.requires.plain.is c.header-header.ensures.of_cell field c.in-InObject.slot at
          place.stands place.place place.within,
    )

pub returns-in-InObject : goal.returns-in-InObject
returns-in-InObject c graph plain shows is =
    let (found, field, same, at, below) = c.in-InObject.ensures in
    let place = c.own_place-place.ensures in
    let headed = c.header-header.ensures.of_cell in
    let stands =
    own_word shows is headed field c.in-InObject.slot at place.stands place.place place.within in
    held_found shows is headed c.hold_word_at.new.main c.args.variable c.args.name found
    (field.located, field.of_shape, field.of_name) (c.hold_word_at.ensures found stands)

pub stored_place-place-requires-clause-whole : goal.stored_place-place-requires-clause-whole
stored_place-place-requires-clause-whole c = c.requires.plain.shows.shows.whole

pub stored_place-place-requires-clause-there : goal.stored_place-place-requires-clause-there
stored_place-place-requires-clause-there c =
    let (found, field, same, at) = c.in-InStore.ensures in
    stored_there c.requires.plain.shows c.requires.plain.is c.header-header.ensures.of_cell field c.in-InStore.slot at

pub hold_word_at-requires-in-InStore-clause-whole : goal.hold_word_at-requires-in-InStore-clause-whole
hold_word_at-requires-in-InStore-clause-whole c = c.requires.plain.shows.shows.whole

pub hold_word_at-requires-in-InStore-clause-stands : goal.hold_word_at-requires-in-InStore-clause-stands
hold_word_at-requires-in-InStore-clause-stands c =
    let (found, field, same, at) = c.in-InStore.ensures in
    let place = c.stored_place-place.ensures in (
      found,
      stored_word c.requires.plain.shows c.requires.plain.is c.header-header.ensures.of_cell field c.in-InStore.slot at
          place.stands place.place place.within,
    )

pub returns-in-InStore : goal.returns-in-InStore
returns-in-InStore c graph plain shows is =
    let (found, field, same, at) = c.in-InStore.ensures in
    let place = c.stored_place-place.ensures in
    let headed = c.header-header.ensures.of_cell in
    let stands =
    stored_word shows is headed field c.in-InStore.slot at place.stands place.place place.within in
    held_found shows is headed c.hold_word_at-in-InStore.new.main c.args.variable c.args.name found
    (field.located, field.of_shape, field.of_name) (c.hold_word_at-in-InStore.ensures found stands)

pub returns-in-Absent : goal.returns-in-Absent
returns-in-Absent c graph plain shows is =
    let headed = c.header-header.ensures.of_cell in
    let from = (shown_shape shows is headed).from in
    (name_is_new shows is headed c.args.name (c.in-Absent.ensures (omega (arith, from))).1, refl)
