-- The value of an entry is told by the word of its pair.
use Rattle.std.proofs.Common.{◌≡◌, Some, unwrap_or, sym, ◌∙◌, ap, subst}
use Rattle.std.proofs.lemmas.Option.{same_Some}
use Rattle.object_graph.specs.declared.value.Value.TheVariants.{Undefined}
use Rattle.object_graph.specs.Objects.{entry_value}
use Rattle.heap_model.specs.Types.{Held}
use Rattle.heap_model.specs.Showing.{ShowsHeld, ShowsValue}
use Rattle.write_barrier.specs.MutatorState.{heap_of}
use Rattle.object_cells.proofs.CellsRead.{place_before_marks}
use Rattle.ephemeron_table.proofs.KeysFound.{weak_shown, shown_there, key_told}
use Rattle.ephemeron_table.proofs.KeysProbed.{comes_within, none_at_free, none_passed}
use Rattle.ephemeron_table.proofs.ToldPairs.{tells_none, tells_pair_value}
use Rattle.ephemeron_table.proofs.getting.get.Goals as goal

pub table_of-table-requires-clause-there : goal.table_of-table-requires-clause-there
table_of-table-requires-clause-there c = shown_there (weak_shown c.requires.shown.shows c.requires.shown.is)

pub number_at-requires : goal.number_at-requires
number_at-requires c =
    place_before_marks c.requires.shown.shows.shows.whole.sized c.requires.shown.is_key.place

pub value_of_word-requires : goal.value_of_word-requires
value_of_word-requires c =
    let shows = c.requires.shown.shows in
    let comes = c.in-Key.ensures.0 in
    let told = key_told c.table_of-table.result c.in-Key.place (weak_shown shows c.requires.shown.is)
    c.requires.shown.is_key c.table_of-table.ensures (comes_within comes) (c.in-Key.ensures.1 ∙ c.reference.ensures) in
    let read : told.pair.value ≡ c.slot-word.result = same_Some _ _ (sym told.stands ∙ c.slot-word.ensures.of_heap) in
    let heap = heap_of c.args.main.now in
    (c.laws_of_values.ensures heap c.slot-word.result told.value c.addresses_fit.ensures.within
    shows.shows.whole.sized
    (subst (λ word. ShowsValue heap word told.value) read told.shows)).within

pub returns-in-Key : goal.returns-in-Key
returns-in-Key c =
    let table = c.table_of-table.result in
    let place = c.in-Key.place in
    let within = comes_within c.in-Key.ensures.0 in
    let key_read = c.in-Key.ensures.1 ∙ c.reference.ensures in
    let sizes = c.addresses_fit.ensures.within in
    let is_table = c.table_of-table.ensures in
    let heap = heap_of c.args.main.now in
    record {
      entry = λ graph weak number shows is is_key.
          let told = key_told table place (weak_shown shows is) is_key is_table within key_read in
          let read : told.pair.value ≡ c.slot-word.result =
          same_Some _ _ (sym told.stands ∙ c.slot-word.ensures.of_heap) in
          let by = c.laws_of_values.ensures heap c.slot-word.result told.value sizes shows.shows.whole.sized
          (subst (λ word. ShowsValue heap word told.value) read told.shows) in
          let value : told.value ≡ unwrap_or (entry_value weak.entries number) Undefined =
          sym (ap (λ found. unwrap_or found Undefined) told.is_entry) in
          subst (λ what. ShowsHeld heap c.value_of_word.result (Some what)) value
          (subst (λ (held : Held). ShowsHeld heap held (Some told.value))
          (sym (c.value_of_word.ensures by.class by.is_class by.bits)) by.shows);
      pairs = λ pairs has.
          let asked = c.requires.shown in
          let told = key_told table place (weak_shown asked.shows asked.is) asked.is_key is_table within key_read in
          let read : told.pair.value ≡ c.slot-word.result =
          same_Some _ _ (sym told.stands ∙ c.slot-word.ensures.of_heap) in
          let by = c.laws_of_values.ensures heap c.slot-word.result told.value sizes asked.shows.shows.whole.sized
          (subst (λ word. ShowsValue heap word told.value) read told.shows) in
          tells_pair_value asked.shows asked.is asked.is_key sizes is_table told has (record {
            class = by.class;
            is_class = by.is_class;
            bits = read ∙ by.bits;
            stands = sym (c.value_of_word.ensures by.class by.is_class by.bits);
          });
    }

-- undefined is told where there is no entry
pub returns-in-Free : goal.returns-in-Free
returns-in-Free c =
    let is_table = c.table_of-table.ensures in
    let told = tells_none c.requires.shown c.addresses_fit.ensures.within is_table (λ graph weak number shows is is_key.
    none_at_free _ _ shows (weak_shown shows is) is_key is_table c.number_at.ensures c.reference.ensures
    c.in-Free.ensures) in
    record { entry = told.0; pairs = told.1 }

pub returns-in-Nowhere : goal.returns-in-Nowhere
returns-in-Nowhere c =
    let is_table = c.table_of-table.ensures in
    let told = tells_none c.requires.shown c.addresses_fit.ensures.within is_table (λ graph weak number shows is is_key.
    none_passed _ _ shows (weak_shown shows is) is_key is_table c.number_at.ensures c.reference.ensures
    c.in-Nowhere.ensures) in
    record { entry = told.0; pairs = told.1 }
