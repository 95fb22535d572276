-- A variable holds a field by the slot that is cached.
use Rattle.std.proofs.Common.{arith, refl}
use Rattle.shape_change.proofs.HeldByName.{held_found}
use Rattle.shape_change.proofs.FieldsAlong.{own_held}
use Rattle.shape_change.proofs.ShownFields.{name_is_new}
use Rattle.shape_change.proofs.WordFields.{word_field_shape, own_there, own_word, stored_there, stored_word}
use Rattle.shape_change.proofs.get_field.get.Goals as goal

pub own_place-place-requires-clause-whole : goal.own_place-place-requires-clause-whole
own_place-place-requires-clause-whole o c =
    let (found, field, same, at, below) = c.in-InObject.ensures in
    (c.requires.plain (word_field_shape field)).shows.shows.whole

pub own_place-place-requires-clause-there : goal.own_place-place-requires-clause-there
own_place-place-requires-clause-there o c =
    let (found, field, same, at, below) = c.in-InObject.ensures in
    let shown = c.requires.plain (word_field_shape field) in
    own_there shown.shows shown.is c.requires.headed field c.in-InObject.slot at below

pub hold_word_at-requires-clause-whole : goal.hold_word_at-requires-clause-whole
hold_word_at-requires-clause-whole o c =
    let (found, field, same, at, below) = c.in-InObject.ensures in
    (c.requires.plain (word_field_shape field)).shows.shows.whole

pub hold_word_at-requires-clause-stands : goal.hold_word_at-requires-clause-stands
hold_word_at-requires-clause-stands o c =
    let (found, field, same, at, below) = c.in-InObject.ensures in
    let shown = c.requires.plain (word_field_shape field) in
    let place = c.own_place-place.ensures in (
      found,
      own_word shown.shows shown.is c.requires.headed field c.in-InObject.slot at place.stands place.place place.within,
    )

pub returns-in-InObject-clause-held : goal.returns-in-InObject-clause-held
returns-in-InObject-clause-held o c well graph plain shows is =
    let (found, field, same, at, below) = c.in-InObject.ensures in
    let place = c.own_place-place.ensures in
    let stands =
    own_word shows is c.requires.headed field c.in-InObject.slot at place.stands place.place place.within in
    own_held graph plain c.args.name
    (held_found shows is c.requires.headed c.hold_word_at.new.main c.args.variable c.args.name found
    (field.located, field.of_shape, field.of_name) (c.hold_word_at.ensures found stands))

pub returns-in-InObject-clause-plain : goal.returns-in-InObject-clause-plain
returns-in-InObject-clause-plain o c =
    let (found, field, same, at, below) = c.in-InObject.ensures in
    (λ _. word_field_shape field, λ _. refl)

pub stored_place-place-requires-clause-whole : goal.stored_place-place-requires-clause-whole
stored_place-place-requires-clause-whole o c =
    let (found, field, same, at) = c.in-InStore.ensures in
    (c.requires.plain (word_field_shape field)).shows.shows.whole

pub stored_place-place-requires-clause-there : goal.stored_place-place-requires-clause-there
stored_place-place-requires-clause-there o c =
    let (found, field, same, at) = c.in-InStore.ensures in
    let shown = c.requires.plain (word_field_shape field) in
    stored_there shown.shows shown.is c.requires.headed field c.in-InStore.slot at

pub hold_word_at-requires-in-InStore-clause-whole : goal.hold_word_at-requires-in-InStore-clause-whole
hold_word_at-requires-in-InStore-clause-whole o c =
    let (found, field, same, at) = c.in-InStore.ensures in
    (c.requires.plain (word_field_shape field)).shows.shows.whole

pub hold_word_at-requires-in-InStore-clause-stands : goal.hold_word_at-requires-in-InStore-clause-stands
hold_word_at-requires-in-InStore-clause-stands o c =
    let (found, field, same, at) = c.in-InStore.ensures in
    let shown = c.requires.plain (word_field_shape field) in
    let place = c.stored_place-place.ensures in (
      found,
      stored_word shown.shows shown.is c.requires.headed field c.in-InStore.slot at place.stands
          place.place place.within,
    )

pub returns-in-InStore-clause-held : goal.returns-in-InStore-clause-held
returns-in-InStore-clause-held o c well graph plain shows is =
    let (found, field, same, at) = c.in-InStore.ensures in
    let place = c.stored_place-place.ensures in
    let stands =
    stored_word shows is c.requires.headed field c.in-InStore.slot at place.stands place.place place.within in
    own_held graph plain c.args.name
    (held_found shows is c.requires.headed c.hold_word_at-in-InStore.new.main c.args.variable c.args.name found
    (field.located, field.of_shape, field.of_name) (c.hold_word_at-in-InStore.ensures found stands))

pub returns-in-InStore-clause-plain : goal.returns-in-InStore-clause-plain
returns-in-InStore-clause-plain o c =
    let (found, field, same, at) = c.in-InStore.ensures in
    (λ _. word_field_shape field, λ _. refl)

pub get_absent-requires-clause-lacks : goal.get_absent-requires-clause-lacks
get_absent-requires-clause-lacks o c path graph plain shows is =
    name_is_new shows is c.requires.headed c.args.name (c.in-Absent.ensures (omega (arith, path))).1
