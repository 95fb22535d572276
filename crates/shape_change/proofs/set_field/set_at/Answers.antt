-- The slot takes the word of the value, or the field is sought.
use Rattle.std.proofs.Common.{◌≢◌, refl, sym, subst, Ok}
use Rattle.heap_model.specs.Types.{Rep}
use Rattle.object_graph.specs.declared.value.Rep.TheVariants.{Wide}
use Rattle.shape_change.specs.Fillings.{KeepsTagged}
use Rattle.shape_change.specs.Places.{place_at}
use Rattle.shape_change.proofs.SetByPlace.{kept_may, kept_setting, kept_sets}
use Rattle.shape_change.proofs.Settings.{setting}
use Rattle.shape_change.proofs.SetsTold.{plain_sets}
use Rattle.shape_change.proofs.ShownFields.{located_rep, located_cap}
use Rattle.shape_change.proofs.WordFields.{word_field_shape, word_field, named_there}
use Rattle.shape_change.proofs.WordsPut.{tagged_fills}
use Rattle.shape_change.proofs.set_field.set_at.Goals as goal

pub taken_by-requires-clause-not_wide : goal.taken_by-requires-clause-not_wide
taken_by-requires-clause-not_wide o c =
    let (found, has, same) = c.requires.there in
    subst (λ (r : Rep). r ≢ Wide) same has.stands.not_wide

pub fill-requires-clause-may : goal.fill-requires-clause-may
fill-requires-clause-may o c =
    let (found, has, same) = c.requires.there in
    let paths = c.args.main.now.paths in
    let field = word_field has in
    let shown = c.requires.may.plain (word_field_shape field) in
    let held = c.requires.may.held in
    let keeps = subst (λ (r : Rep). KeepsTagged r held c.in-Some.word) (sym same)
    (c.in-Some.ensures.1 held c.requires.may.gives) in
    let sets = kept_setting has.stands.at_place has.stands.within
    (located_cap paths found found.shape has.stands.located refl)
    (located_rep paths found found.shape has.stands.located refl) keeps in
    kept_may (setting shown.shows shown.is shown.is_held c.requires.may.gives.fits
    (named_there shown.shows shown.is c.requires.may.headed field)) c.addresses_fit.ensures.within has.stands.there sets
    shown.is_held.shows c.in-Some.word keeps

pub fill-requires-clause-within : goal.fill-requires-clause-within
fill-requires-clause-within o c =
    let (found, has, same) = c.requires.there in
    has.stands.within

pub returns-in-Some : goal.returns-in-Some
returns-in-Some o c =
    let (found, has, same) = c.requires.there in
    let paths = c.args.main.now.paths in
    let field = word_field has in
    let from = word_field_shape field in
    let word = c.in-Some.word in
    let put = tagged_fills c.args.main.now c.fill.new.main (place_at c.args.object c.args.place) word
    has.stands.within c.fill.ensures in (
      Ok tt,
      c.done.ensures,
      plain_sets (Ok tt) from (λ held gives graph plain what shows is holds.
          let keeps = subst (λ (r : Rep). KeepsTagged r held word) (sym same) (c.in-Some.ensures.1 held gives) in
          let sets = kept_setting has.stands.at_place has.stands.within
          (located_cap paths found found.shape has.stands.located refl)
          (located_rep paths found found.shape has.stands.located refl) keeps in
          kept_sets (setting shows is holds gives.fits (named_there shows is c.requires.may.headed field))
          c.addresses_fit.ensures.within has.stands.there sets holds.shows word keeps put),
    )
