-- The word of an element's slot is found.
use Rattle.std.proofs.Common.{ℕ, ◌<◌, get_or, length, sym, ◌∙◌, rules, arith}
use Rattle.std.specs.Prelude.{FitsSigned}
use Rattle.std.specs.Int.{w64}
use Rattle.std.proofs.lemmas.Option.{slice_get-get_or}
use Rattle.object_graph.specs.declared.value.Value.TheVariants.{Undefined}
use Rattle.write_barrier.specs.MutatorState.{heap_of}
use Rattle.object_cells.proofs.ListCells.{list_shown, shown_there, shown_beside, count_shown, shown_ready}
use Rattle.object_cells.proofs.ElementsRead.{place_below}
use Rattle.object_cells.proofs.NamedPlaces.{index_named, place_stands, element_shown}
use Rattle.list_store.proofs.telling.word_of.Goals as goal

pub count_of-requires-clause-there : goal.count_of-requires-clause-there
count_of-requires-clause-there c = shown_there (list_shown c.requires.shows c.requires.is)

pub returns-in_default : goal.returns-in_default
returns-in_default c graph one shows is =
    let fits : FitsSigned w64 c.args.index = search rules in
    index_named c.count_of.result c.args.index c.checked_index.result (list_shown shows is) c.count_of.ensures.counted
    fits c.checked_index.ensures ∙ c.in_default.is

pub store_of-store-requires-clause-there : goal.store_of-store-requires-clause-there
store_of-store-requires-clause-there c = shown_beside (list_shown c.requires.shows c.requires.is)

pub slot-requires : goal.slot-requires
slot-requires c =
    let ready = shown_ready c.requires.shows (list_shown c.requires.shows c.requires.is) c.count_of.ensures.counted in
    let below = place_below c.count_of.result c.in-Some.place _ (sym c.checked_index.ensures ∙ c.in-Some.is) in
    (place_stands c.store_of-store.result c.in-Some.place ready c.store_of-store.ensures below).within

pub returns : goal.returns
returns c graph one shows is =
    let fits : FitsSigned w64 c.args.index = search rules in
    let heap = heap_of c.args.main.now in
    let shown = list_shown shows is in
    let ready = shown_ready shows shown c.count_of.ensures.counted in
    let place : ℕ = c.in-Some.place in
    let below = place_below c.count_of.result place _ (sym c.checked_index.ensures ∙ c.in-Some.is) in
    let room = (place_stands c.store_of-store.result place ready c.store_of-store.ensures below).below in
    let few : place < length one.elements = omega (arith, below, c.count_of.ensures.counted, count_shown shown) in
    let value = get_or one.elements place Undefined in
    let by = c.laws_of_values.ensures heap c.slot.result value c.addresses_fit.ensures.within
    shows.shows.whole.sized
    (element_shown c.store_of-store.result place c.slot.result shows.shows.whole shown c.store_of-store.ensures
    few room c.slot.ensures.of_heap) in (
      value,
      record {
        place = place;
        names = index_named c.count_of.result c.args.index c.checked_index.result shown c.count_of.ensures.counted
            fits c.checked_index.ensures ∙ c.in-Some.is;
        stands = slice_get-get_or one.elements place Undefined few;
      },
      by,
    )
