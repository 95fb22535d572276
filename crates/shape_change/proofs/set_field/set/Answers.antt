-- A set goes by the slot that is cached.
use Rattle.std.proofs.Common.{arith}
use Rattle.shape_change.proofs.WordFields.{word_field_shape, own_there, own_word, stored_there, stored_word}
use Rattle.shape_change.proofs.set_field.set.Goals as goal

pub own_place-place-requires-clause-whole : goal.own_place-place-requires-clause-whole
own_place-place-requires-clause-whole o c =
    let (found, field, same, at, below) = c.in-InObject.ensures in
    (c.requires.may.plain (word_field_shape field)).shows.shows.whole

pub own_place-place-requires-clause-there : goal.own_place-place-requires-clause-there
own_place-place-requires-clause-there o c =
    let (found, field, same, at, below) = c.in-InObject.ensures in
    let shown = c.requires.may.plain (word_field_shape field) in
    own_there shown.shows shown.is c.requires.may.headed field c.in-InObject.slot at below

pub set_at-requires-clause-there : goal.set_at-requires-clause-there
set_at-requires-clause-there o c =
    let (found, field, same, at, below) = c.in-InObject.ensures in
    let shown = c.requires.may.plain (word_field_shape field) in
    let place = c.own_place-place.ensures in (
      found,
      record {
        stands = own_word shown.shows shown.is c.requires.may.headed field c.in-InObject.slot at place.stands
            place.place place.within;
        of_shape = field.of_shape;
        of_name = field.of_name;
      },
      same,
    )

pub stored_place-place-requires-clause-whole : goal.stored_place-place-requires-clause-whole
stored_place-place-requires-clause-whole o c =
    let (found, field, same, at) = c.in-InStore.ensures in
    (c.requires.may.plain (word_field_shape field)).shows.shows.whole

pub stored_place-place-requires-clause-there : goal.stored_place-place-requires-clause-there
stored_place-place-requires-clause-there o c =
    let (found, field, same, at) = c.in-InStore.ensures in
    let shown = c.requires.may.plain (word_field_shape field) in
    stored_there shown.shows shown.is c.requires.may.headed field c.in-InStore.slot at

pub set_at-requires-in-InStore-clause-there : goal.set_at-requires-in-InStore-clause-there
set_at-requires-in-InStore-clause-there o c =
    let (found, field, same, at) = c.in-InStore.ensures in
    let shown = c.requires.may.plain (word_field_shape field) in
    let place = c.stored_place-place.ensures in (
      found,
      record {
        stands = stored_word shown.shows shown.is c.requires.may.headed field c.in-InStore.slot at place.stands
            place.place place.within;
        of_shape = field.of_shape;
        of_name = field.of_name;
      },
      same,
    )

pub add-requires-clause-is_new : goal.add-requires-clause-is_new
add-requires-clause-is_new o c from = (c.in-Absent.ensures (omega (arith, from))).1
